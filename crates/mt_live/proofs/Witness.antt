-- The run in which each event takes place.
use Rattle.std.proofs.Common.{◌≡◌, ◌≢◌, ◌⊎◌, inl, inr, ℕ, pos, negsuc, Bool, true, false, not, ◌==◌, ◌&&◌, List, [], ◌∷◌, ◌++◌, refl, ap, sym, ◌∙◌, arith}
use Rattle.std.proofs.lemmas.Int.{ints}
use Rattle.std.proofs.lemmas.Bool.{and_parts}
use Rattle.std.proofs.lemmas.Bool.Decides.{Decides-eqb}
use Rattle.mt_base.specs.declared.modes.LockMode.{LockMode}
use Rattle.mt_base.specs.declared.modes.LockMode.TheVariants as mode
use Rattle.mt_model.specs.declared.objects.Object.{Object}
use Rattle.mt_model.specs.declared.objects.Object.TheVariants.{Key, Counter, Relation}
use Rattle.mt_model.specs.declared.operations.Op.TheVariants.{Add}
use Rattle.mt_model.specs.declared.operations.Reply.TheVariants.{Done}
use Rattle.mt_model.specs.declared.pending_add.Pending.{Pending}
use Rattle.mt_model.specs.Escrow.{HasRoom}
use Rattle.mt_model.specs.Locks.{Held, no_locks, with_lock, with_locks, without_holder, AreAllFree}
use Rattle.mt_model.specs.Model.{locks_of}
use Rattle.mt_model.proofs.Sums.{admissible_from_room}
use Rattle.mt_live.specs.Machine.{AllGo, Begins, Calls, Ends, Drops, Commits, Undoes, Returns, Settles, Aborts, start}
use Rattle.mt_live.specs.declared.transactions.Role.TheVariants.{Stands}
use Rattle.mt_live.specs.Witness.{five, opening, insert, first_add, last_add, states, RunTakesPlace}
use Rattle.mt_live.proofs.Locking.{IsThis, old_or_this, whose_locks, free_each}

-- ---- room

one_step : HasRoom five (pos 2 ∷ [])
one_step = record { low = omega (arith, ints); high = omega (arith, ints) }

two_steps : HasRoom five (pos 2 ∷ pos 1 ∷ [])
two_steps = record { low = omega (arith, ints); high = omega (arith, ints) }

-- ---- locks

abbrev row : Object
row = Key 0 (1 ∷ [])

abbrev intended : Held
intended = with_lock no_locks 1 (Relation 0) mode.Intend

-- the insert's locks
abbrev row_locked : Held
row_locked = with_locks no_locks 1 (locks_of insert)

row_bars_nobody : (u : ℕ) (n : LockMode) → row_locked u (Counter 0) n ≡ true → ⊥
row_bars_nobody u n h = go (old_or_this intended 1 row mode.Write u (Counter 0) n h)
  where
    intent : (no_locks u (Counter 0) n ≡ true) ⊎ IsThis 1 (Relation 0) mode.Intend u (Counter 0) n → ⊥
    intent (inl wrong) = let never : false ≡ true = wrong in cc
    intent (inr this) = let same : Relation 0 ≡ Counter 0 = this.object in cc

    go : (intended u (Counter 0) n ≡ true) ⊎ IsThis 1 row mode.Write u (Counter 0) n → ⊥
    go (inl i) = intent (old_or_this no_locks 1 (Relation 0) mode.Intend u (Counter 0) n i)
    go (inr this) = let same : row ≡ Counter 0 = this.object in cc

free_at_first : AreAllFree no_locks 1 (locks_of insert)
free_at_first = free_each no_locks 1 (locks_of insert) (λ x m u bars. let wrong : false ≡ true = bars.holds in cc)

free_beside_the_row : AreAllFree row_locked 2 (locks_of (Add 0 (pos 2)))
free_beside_the_row u (inl bars) = row_bars_nobody u bars.mode bars.holds
free_beside_the_row u (inr none) = none

free_beside_its_own : AreAllFree (with_locks row_locked 2 (locks_of (Add 0 (pos 2)))) 2 (locks_of (Add 0 (pos 1)))
free_beside_its_own u (inr none) = none
free_beside_its_own u (inl bars) = go (whose_locks row_locked 2 (locks_of (Add 0 (pos 2))) u (Counter 0) bars.mode bars.holds)
  where
    go : (row_locked u (Counter 0) bars.mode ≡ true) ⊎ (u ≡ 2) → ⊥
    go (inl h) = row_bars_nobody u bars.mode h
    go (inr e) = bars.another e

-- ---- pending adds

nothing_before : {A : Type 0} (p : A) (xs : List A) → [] ≡ xs ++ p ∷ [] → ⊥
nothing_before p [] h = cc
nothing_before p (x ∷ xs) h = cc

same_front : {A : Type 0} (p : A) (xs ys : List A) → xs ++ p ∷ [] ≡ ys ++ p ∷ [] → xs ≡ ys
same_front p [] [] h = refl
same_front p [] (y ∷ ys) h = let rest : [] ≡ ys ++ p ∷ [] = cc in absurd (nothing_before p ys rest)
same_front p (x ∷ xs) [] h = let rest : [] ≡ xs ++ p ∷ [] = cc in absurd (nothing_before p xs rest)
same_front p (x ∷ xs) (y ∷ ys) h =
    let head : x ≡ y = cc in
    let rest : xs ++ p ∷ [] ≡ ys ++ p ∷ [] = cc in
    let tail = same_front p xs ys rest in
    cc

abbrev second_add : Pending
second_add = record { txn = 2; counter = 0; step = pos 1 }

another : (u : ℕ) → u ≢ 2 → (b : Bool) → (2 == u) ≡ b → b ≡ false
another u apart true e = absurd (apart (sym ((Decides-eqb 2 u).0 e)))
another u apart false e = refl

-- ---- the run

three_steps : HasRoom five (pos 3 ∷ [])
three_steps = record { low = omega (arith, ints); high = omega (arith, ints) }

abbrev third_add : Pending
third_add = record { txn = 3; counter = 0; step = pos 3 }

not_third : (u : ℕ) → u ≢ 3 → (b : Bool) → (3 == u) ≡ b → b ≡ false
not_third u apart true e = absurd (apart (sym ((Decides-eqb 3 u).0 e)))
not_third u apart false e = refl

-- nobody holds a lock once both are gone
abbrev both_locked : Held
both_locked = with_locks (with_locks row_locked 2 (locks_of (Add 0 (pos 2)))) 2 (locks_of (Add 0 (pos 1)))

nobody_holds : (u : ℕ) (x : Object) (n : LockMode) → without_holder (without_holder both_locked 1) 2 u x n ≡ true → ⊥
nobody_holds u x n h = second (whose_locks (with_locks row_locked 2 (locks_of (Add 0 (pos 2)))) 2 (locks_of (Add 0 (pos 1))) u x n outer.1)
  where
    inner : (not (u == 2) ≡ true) × ((not (u == 1) && both_locked u x n) ≡ true)
    inner = and_parts (not (u == 2)) (not (u == 1) && both_locked u x n) h

    outer : (not (u == 1) ≡ true) × (both_locked u x n ≡ true)
    outer = and_parts (not (u == 1)) (both_locked u x n) inner.1

    not_two : u ≡ 2 → ⊥
    not_two e = let is : (u == 2) ≡ true = (Decides-eqb u 2).1 e in let wrong : not (u == 2) ≡ true = inner.0 in let x' : false ≡ true = sym (ap not is) ∙ wrong in cc

    not_one : u ≡ 1 → ⊥
    not_one e = let is : (u == 1) ≡ true = (Decides-eqb u 1).1 e in let wrong : not (u == 1) ≡ true = outer.0 in let x' : false ≡ true = sym (ap not is) ∙ wrong in cc

    none : (no_locks u x n ≡ true) ⊎ (u ≡ 1) → ⊥
    none (inl wrong) = let never : false ≡ true = wrong in cc
    none (inr e) = not_one e

    first : (row_locked u x n ≡ true) ⊎ (u ≡ 2) → ⊥
    first (inl k) = none (whose_locks no_locks 1 (locks_of insert) u x n k)
    first (inr e) = not_two e

    second : (with_locks row_locked 2 (locks_of (Add 0 (pos 2))) u x n ≡ true) ⊎ (u ≡ 2) → ⊥
    second (inl k) = first (whose_locks row_locked 2 (locks_of (Add 0 (pos 2))) u x n k)
    second (inr e) = not_two e

free_in_the_end : AreAllFree (without_holder (without_holder both_locked 1) 2) 3 (locks_of (Add 0 (pos 3)))
free_in_the_end = free_each (without_holder (without_holder both_locked 1) 2) 3 (locks_of (Add 0 (pos 3))) (λ x m u bars. nobody_holds u x bars.mode bars.holds)

goes : AllGo opening (start opening) states
goes = (
  Begins 7 refl,
  (
    Begins 8 refl,
    (
      Calls 1 insert (record { live = refl; idle = refl; free = free_at_first; admitted = tt }) refl,
      (
        Calls 2 (Add 0 (pos 2)) (record { live = refl; idle = refl; free = free_beside_the_row; admitted = admissible_from_room five (pos 2 ∷ []) one_step }) refl,
        (
          Ends 2 (Add 0 (pos 2)) refl refl,
          (
            Ends 1 insert refl refl,
            (
              Calls 2 (Add 0 (pos 1)) (record { live = refl; idle = refl; free = free_beside_its_own; admitted = admissible_from_room five (pos 2 ∷ pos 1 ∷ []) two_steps }) refl,
              (
                Drops 2 (Add 0 (pos 1)) (first_add ∷ []) refl (record {
                  its = λ front h. same_front second_add (first_add ∷ []) front h;
                  apart = λ u apart. let no_other = another u apart (2 == u) refl in rw no_other refl;
                }) refl,
                (
                  Commits 1 7 refl refl refl,
                  (
                    Undoes 2 (record { txn = 2; op = Add 0 (pos 2); reply = Done; role = Stands }) (Add 0 (negsuc 1)) [] refl refl refl
                        (record {
                          its = λ front h. same_front first_add [] front h;
                          apart = λ u apart. let no_other = another u apart (2 == u) refl in rw no_other refl;
                        }) refl,
                    (
                      Aborts 2 refl refl refl,
                      (
                        Begins 9 refl,
                        (
                          Calls 3 (Add 0 (pos 3)) (record { live = refl; idle = refl; free = free_in_the_end; admitted = admissible_from_room five (pos 3 ∷ []) three_steps }) refl,
                          (
                            Ends 3 (Add 0 (pos 3)) refl refl,
                            (
                              Returns 3 last_add (Add 0 (negsuc 2)) [] refl refl refl (record {
                                its = λ front h. same_front third_add [] front h;
                                apart = λ u apart. let no_other = not_third u apart (3 == u) refl in rw no_other refl;
                              }) refl,
                              (Settles 3 0 refl refl refl, (Commits 3 9 refl refl refl, tt)),
                            ),
                          ),
                        ),
                      ),
                    ),
                  ),
                ),
              ),
            ),
          ),
        ),
      ),
    ),
  ),
)

pub takes_place : RunTakesPlace
takes_place = (λ c. record { not_under = omega (arith, ints); not_over = omega (arith, ints) }, goes, refl, refl, refl, refl, refl, refl, refl)
