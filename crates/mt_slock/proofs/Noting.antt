-- What is noted, after the notes of one transaction are changed; and the locks that go with a list of them.
use Rattle.std.proofs.Common.{◌≡◌, None, ℕ, ◌==◌, ◌&&◌, ◌||◌, ◌++◌, ◌∷◌, [], Bool, true, false, not, cond, suc, ◌-◌, ◌<◌, slice_get, get_or, take-suc, length-append, arith, List, Option, Some, length, take, refl, ap, sym, ◌∙◌}
use Rattle.std.specs.Map.{lookup}
use Rattle.std.proofs.Math.Seq.{take-append_seam}
use Rattle.std.proofs.lemmas.Bool.{and_parts}
use Rattle.std.proofs.lemmas.List.{take_all}
use Rattle.std.proofs.lemmas.Option.{slice_get_within, get_or_from_slice_get, slice_get-get_or}
use Rattle.std.proofs.lemmas.Bool.Decides.{Decides-eqb}
use Rattle.mt_base.specs.contracts.numbers.TxnNoPartialEq.TheImpl.{ghosts}
use Rattle.mt_base.specs.declared.modes.LockMode.{LockMode}
use Rattle.mt_model.specs.declared.objects.Object.{Object}
use Rattle.mt_model.specs.Model.{same_object}
use Rattle.mt_model.specs.Locks.{Held, same_mode, without_lock, without_locks}
use Rattle.mt_model.proofs.Cells.{same-true, same-self}
use Rattle.mt_model.specs.declared.objects.Lock.{Lock}
use Rattle.mt_slock.specs.Noted.{front, EndsWith, or_none, notes_of, is_among_locks}
use Rattle.mt_slock.proofs.Among.{same_mode-true, same_mode-self}

-- the map compares transactions by their numbers
same_number : (t u : ℕ) → ghosts.eq t u ≡ (t == u)
same_number t u = refl

notes_step : (s : Bool) (new old : List Lock) (f : List Lock → List Lock) → (s ≡ true → new ≡ f old) → (s ≡ false → new ≡ old) → new ≡ cond s (f old) old
notes_step true new old f here elsewhere = here refl
notes_step false new old f here elsewhere = elsewhere refl

pub notes_changed : (t : ℕ) (w : Option (List Lock)) (old new : List (ℕ × List Lock)) (f : List Lock → List Lock)
    → ((q : ℕ) → lookup (λ u. q == u) new ≡ cond (t == q) w (lookup (λ u. q == u) old)) → or_none w ≡ f (notes_of old t)
    → (u : ℕ) → notes_of new u ≡ cond (t == u) (f (notes_of old u)) (notes_of old u)
notes_changed t w old new f changes is u = notes_step (t == u) (notes_of new u) (notes_of old u) f
    (λ s. ap or_none (changes u ∙ ap (λ b. cond b w (lookup (λ v. u == v) old)) s) ∙ (is ∙ ap (λ n. f (notes_of old n)) ((Decides-eqb t u).0 s)))
    (λ s. ap or_none (changes u ∙ ap (λ b. cond b w (lookup (λ v. u == v) old)) s))

-- each transaction's notes are its own
pub own_notes : (t : ℕ) (es : List (ℕ × List Lock)) (q : ℕ) → lookup (λ u. q == u) es ≡ cond (t == q) (lookup (λ u. t == u) es) (lookup (λ u. q == u) es)
own_notes t es q = by (t == q) refl
  where
    by : (s : Bool) → (t == q) ≡ s → lookup (λ u. q == u) es ≡ cond s (lookup (λ u. t == u) es) (lookup (λ u. q == u) es)
    by true e = ap (λ n. lookup (λ u. n == u) es) (sym ((Decides-eqb t q).0 e))
    by false e = refl

-- ---- the last note

pub split_front : (ls : List Lock) (l : Lock) → slice_get ls (length ls - 1) ≡ Some l → ls ≡ front ls ++ l ∷ []
split_front ls l at =
    let n = length ls - 1 in
    let lt : n < length ls = slice_get_within ls n l at in
    sym (take_all (suc n) ls (omega arith)) ∙ (take-suc ls n l lt ∙ ap (λ (k : Lock). take n ls ++ k ∷ []) (get_or_from_slice_get ls n l l at))

-- what a lock is, where it is this one
pub lock_parts : (l : Lock) (x : Object) (m : LockMode) → (same_object l.object x && same_mode l.mode m) ≡ true → l ≡ record { object = x; mode = m }
lock_parts l x m e =
    let p = and_parts (same_object l.object x) (same_mode l.mode m) e in
    λ i. record { object = same-true l.object x p.0 i; mode = same_mode-true l.mode m p.1 i }

same_last : (fs : List Lock) (k l : Lock) → fs ++ k ∷ [] ≡ fs ++ l ∷ [] → k ≡ l
same_last [] k l e = cc
same_last (f ∷ fs) k l e = let rest : fs ++ k ∷ [] ≡ fs ++ l ∷ [] = cc in same_last fs k l rest

-- the last lock is the one that the list ends with
pub ended_is : (ls : List Lock) (l : Lock) (x : Object) (m : LockMode) → slice_get ls (length ls - 1) ≡ Some l → EndsWith ls x m → (same_object l.object x && same_mode l.mode m) ≡ true
ended_is ls l x m at ends =
    let same : l ≡ record { object = x; mode = m } = same_last (front ls) l (record { object = x; mode = m }) (sym (split_front ls l at) ∙ ends) in
    (λ i. same_object (same i).object x && same_mode (same i).mode m) ∙ (ap (λ b. b && same_mode m m) (same-self x) ∙ same_mode-self m)

nothing_pushed : (fs : List Lock) (l : Lock) → [] ≡ fs ++ l ∷ [] → ⊥
nothing_pushed [] l e = absurd cc
nothing_pushed (f ∷ fs) l e = absurd cc

-- no locks end with none
pub none_ends : (x : Object) (m : LockMode) → EndsWith [] x m → ⊥
none_ends x m ends = nothing_pushed [] (record { object = x; mode = m }) ends

pub no_last : (ls : List Lock) (x : Object) (m : LockMode) → slice_get ls (length ls - 1) ≡ None → EndsWith ls x m → ⊥
no_last [] x m at ends = none_ends x m ends
no_last (l ∷ ls) x m at ends = some_is_not (get_or (l ∷ ls) (length (l ∷ ls) - 1) l) (sym at ∙ slice_get-get_or (l ∷ ls) (length (l ∷ ls) - 1) l (omega arith))
  where
    some_is_not : (k : Lock) → None ≡ Some k → ⊥
    some_is_not k e = absurd cc

pub front_push : (ls : List Lock) (l : Lock) → front (ls ++ l ∷ []) ≡ ls
front_push ls l =
    let long : length (ls ++ l ∷ []) - 1 ≡ length ls = omega (arith, length-append ls (l ∷ [])) in
    ap (λ n. take n (ls ++ l ∷ [])) long ∙ take-append_seam ls (l ∷ [])

-- ---- locks that go

-- one lock more that goes
pub without_more : (held : Held) (t : ℕ) (ls : List Lock) (l : Lock)
    → without_lock (without_locks held t ls) t l.object l.mode ≡ without_locks held t (ls ++ l ∷ [])
without_more held t [] l = refl
without_more held t (k ∷ ls) l = without_more (without_lock held t k.object k.mode) t ls l

gone_step : (h e s n : Bool) → ((h && not (e && s)) && not (e && n)) ≡ (h && not (e && (s || n)))
gone_step false e s n = refl
gone_step true false s n = refl
gone_step true true true n = refl
gone_step true true false n = refl

stays_step : (h e : Bool) → h ≡ (h && not (e && false))
stays_step false e = refl
stays_step true true = refl
stays_step true false = refl

-- those are held that are not among the locks that go
pub gone_are_among : (held : Held) (t : ℕ) (ls : List Lock) (u : ℕ) (x : Object) (m : LockMode)
    → without_locks held t ls u x m ≡ (held u x m && not ((u == t) && is_among_locks ls x m))
gone_are_among held t [] u x m = stays_step (held u x m) (u == t)
gone_are_among held t (l ∷ ls) u x m =
    gone_are_among (without_lock held t l.object l.mode) t ls u x m
    ∙ gone_step (held u x m) (u == t) (same_object l.object x && same_mode l.mode m) (is_among_locks ls x m)
