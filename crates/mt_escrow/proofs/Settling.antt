-- The adds of one transaction, made one after another.
use Rattle.std.proofs.Common.{◌≡◌, ℕ, suc, ℤ, pos, ◌+◌, ◌+ℤ◌, ◌<◌, ◌==◌, Bool, true, false, cond, not, List, [], ◌∷◌, ◌++◌, All, map, length, take, drop, set, get_or, refl, ap, sym, subst, ◌∙◌, arith, add-one, take-suc, drop-cons, append_assoc}
use Rattle.std.proofs.lemmas.Int.{ints}
use Rattle.std.proofs.Math.Seq.{map-set_same}
use Rattle.std.proofs.lemmas.List.{take_all, drop_all, length-set, length-append, get_or_append_left}
use Rattle.std.proofs.lemmas.Bool.Decides.{Decides-eqb}
use Rattle.std.proofs.lemmas.List.Elements.{filter-append, All-filter, All-append, All-take, All-drop}
use Rattle.mt_base.specs.Limits.{IsStep}
use Rattle.mt_model.specs.declared.counters.Count.{Count}
use Rattle.mt_model.specs.declared.pending_add.Pending.{Pending}
use Rattle.mt_model.specs.Model.{moved}
use Rattle.mt_model.specs.Escrow.{total}
use Rattle.mt_model.specs.Pending.{steps_at, pending_of, pending_without, moved_by}
use Rattle.mt_model.specs.Tables.{no_count}
use Rattle.mt_escrow.specs.declared.rooms.Room.{Room}
use Rattle.mt_escrow.specs.Rooms.{IsModest, fresh, settled, let_go, room_at, count_of, IsKept, AreKept, AreKeptFor, KeepsBeside}
use Rattle.mt_escrow.proofs.Adding.{total-append, steps_at-append}
use Rattle.mt_escrow.proofs.Changing.{modest, settles, lets_go, lose, room_at-set}

-- what is still granted once those of the first i adds that are the transaction's are gone
abbrev pub left : ℕ → ℕ → List Pending → List Pending → List Pending
left t i ps others = pending_without t (take i ps) ++ (drop i ps ++ others)

-- the rooms keep it, whichever others there are
abbrev pub StillKeep : ℕ → ℕ → List Pending → List Room → List Room → Type 0
StillKeep t i ps old new = (others : List Pending) → AreKept old (ps ++ others) → (c : ℕ) → IsKept (room_at new c) (steps_at c (left t i ps others))

-- the rooms once they are made
pub record AreSettled (t i : ℕ) (ps : List Pending) (old new : List Room) : Type 0 where
  pub each : StillKeep t i ps old new
  pub counts : (c : ℕ) → count_of (room_at new c) ≡ moved_by t c (take i ps) (count_of (room_at old c))
  pub long : length new ≡ length old

-- the rooms once they are taken out
pub record AreForgotten (t i : ℕ) (ps : List Pending) (old new : List Room) : Type 0 where
  pub each : StillKeep t i ps old new
  pub counts : map count_of new ≡ map count_of old
  pub long : length new ≡ length old

moved_by_nothing : (n : Count) → n ≡ moved n (pos 0)
moved_by_nothing n = λ i. record { low = n.low; high = n.high; number = same n.number i }
  where
    same : (z : ℤ) → z ≡ z +ℤ pos 0
    same z = omega (arith, ints)

pub settled_none : (t : ℕ) (ps : List Pending) (rooms : List Room) → AreSettled t 0 ps rooms rooms
settled_none t ps rooms = record {
  each = λ others kept. kept.each;
  counts = λ c. moved_by_nothing (count_of (room_at rooms c));
  long = refl;
}

pub forgotten_none : (t : ℕ) (ps : List Pending) (rooms : List Room) → AreForgotten t 0 ps rooms rooms
forgotten_none t ps rooms = record { each = λ others kept. kept.each; counts = refl; long = refl }

-- ---- an add of another

past_step : (t i : ℕ) (ps : List Pending) (p : Pending) → take (i + 1) ps ≡ take i ps ++ p ∷ [] → (b : Bool) → (p.txn == t) ≡ b
    → (pending_of t (take (i + 1) ps) ≡ pending_of t (take i ps) ++ cond b (p ∷ []) [])
    × (pending_without t (take (i + 1) ps) ≡ pending_without t (take i ps) ++ cond (not b) (p ∷ []) [])
past_step t i ps p is b same = (
  ap (pending_of t) is ∙ (filter-append (λ (q : Pending). q.txn == t) (take i ps) (p ∷ [])
      ∙ ap (λ w. pending_of t (take i ps) ++ cond w (p ∷ []) []) same),
  ap (pending_without t) is ∙ (filter-append (λ (q : Pending). not (q.txn == t)) (take i ps) (p ∷ [])
      ∙ ap (λ w. pending_without t (take i ps) ++ cond (not w) (p ∷ []) []) same),
)

append_nil : {A : Type 0} (xs : List A) → xs ++ [] ≡ xs
append_nil [] = refl
append_nil (x ∷ xs) = ap (λ ys. x ∷ ys) (append_nil xs)

taken_one : (i : ℕ) (ps : List Pending) (p : Pending) → i < length ps → p ≡ get_or ps i p → take (i + 1) ps ≡ take i ps ++ p ∷ []
taken_one i ps p lt is = rw add-one (take-suc ps i p lt ∙ ap (λ q. take i ps ++ q ∷ []) (sym is))

dropped_one : (i : ℕ) (ps : List Pending) (p : Pending) → i < length ps → p ≡ get_or ps i p → drop i ps ≡ p ∷ drop (i + 1) ps
dropped_one i ps p lt is = rw add-one (drop-cons ps i p lt ∙ ap (λ q. q ∷ drop (suc i) ps) (sym is))

keep_past : (t i : ℕ) (ps : List Pending) (p : Pending) (old new : List Room) → i < length ps → p ≡ get_or ps i p
    → (p.txn == t) ≡ false → StillKeep t i ps old new → StillKeep t (i + 1) ps old new
keep_past t i ps p old new lt is same keep others kept c =
    let parts = past_step t i ps p (taken_one i ps p lt is) false same in
    let lists : left t i ps others ≡ left t (i + 1) ps others =
    ap (λ xs. pending_without t (take i ps) ++ (xs ++ others)) (dropped_one i ps p lt is)
    ∙ (sym (append_assoc (pending_without t (take i ps)) (p ∷ []) (drop (i + 1) ps ++ others))
    ∙ ap (λ xs. xs ++ (drop (i + 1) ps ++ others)) (sym parts.1)) in
    subst (λ xs. IsKept (room_at new c) (steps_at c xs)) lists (keep others kept c)

pub settled_past : (t i : ℕ) (ps : List Pending) (p : Pending) (old new : List Room) → i < length ps → p ≡ get_or ps i p
    → (p.txn == t) ≡ false → AreSettled t i ps old new → AreSettled t (i + 1) ps old new
settled_past t i ps p old new lt is same settled =
    let parts = past_step t i ps p (taken_one i ps p lt is) false same in
    record {
      each = keep_past t i ps p old new lt is same settled.each;
      counts = λ c. settled.counts c ∙ ap (λ xs. moved (count_of (room_at old c)) (total (steps_at c xs))) (sym (parts.0 ∙ append_nil (pending_of t (take i ps))));
      long = settled.long;
    }

pub forgotten_past : (t i : ℕ) (ps : List Pending) (p : Pending) (old new : List Room) → i < length ps → p ≡ get_or ps i p
    → (p.txn == t) ≡ false → AreForgotten t i ps old new → AreForgotten t (i + 1) ps old new
forgotten_past t i ps p old new lt is same forgotten = record {
  each = keep_past t i ps p old new lt is same forgotten.each;
  counts = forgotten.counts;
  long = forgotten.long;
}

-- ---- an add of the transaction

counted : (t c : ℕ) (ps : List Pending) (p : Pending) (rooms : List Room) (n : Count) (b : Bool)
    → count_of (room_at rooms c) ≡ moved n (total (steps_at c ps))
    → (p.counter == c) ≡ b → (b ≡ true → room_at rooms p.counter ≡ room_at rooms c)
    → count_of (cond b (settled p.step (room_at rooms p.counter)) (room_at rooms c)) ≡ moved n (total (steps_at c ps ++ cond b (p.step ∷ []) []))
counted t c ps p rooms n true is same there =
    ap (λ (r : Room). moved r.count p.step) (there refl)
    ∙ (ap (λ m. moved m p.step) is ∙ moved_twice n (total (steps_at c ps)) p.step (total (steps_at c ps ++ p.step ∷ []))
    (total-append (steps_at c ps) (p.step ∷ [])))
  where
    moved_twice : (m : Count) (d e f : ℤ) → f ≡ d +ℤ (e +ℤ pos 0) → moved (moved m d) e ≡ moved m f
    moved_twice m d e f sum = λ i. record { low = m.low; high = m.high; number = number m.number i }
      where
        number : (z : ℤ) → (z +ℤ d) +ℤ e ≡ z +ℤ f
        number z = omega (arith, ints)
counted t c ps p rooms n false is same there =
    is ∙ ap (λ xs. moved n (total xs)) (sym (append_nil (steps_at c ps)))

same_counter : (p : Pending) (c : ℕ) (rooms : List Room) → ((p.counter == c) ≡ true → p.counter ≡ c)
    → (b : Bool) → (p.counter == c) ≡ b → b ≡ true → room_at rooms p.counter ≡ room_at rooms c
same_counter p c rooms decides b same holds = ap (room_at rooms) (decides (same ∙ holds))

steps_one : (c : ℕ) (p : Pending) (b : Bool) → (p.counter == c) ≡ b → steps_at c (p ∷ []) ≡ cond b (p.step ∷ []) []
steps_one c p b same = ap (λ w. cond w (p.step ∷ []) []) same

keep_more : (f : Room → Room) (t i : ℕ) (ps : List Pending) (p : Pending) (old new : List Room) → ((r : Room) (ds es : List ℤ) → IsKept r (ds ++ p.step ∷ es) → IsKept (f r) (ds ++ es))
    → i < length ps → p ≡ get_or ps i p → (p.txn == t) ≡ true → p.counter < length new → StillKeep t i ps old new
    → StillKeep t (i + 1) ps old (set new p.counter (f (room_at new p.counter)))
keep_more f t i ps p old new loses lt is same there so_far others were c =
    let parts = past_step t i ps p (taken_one i ps p lt is) true same in
    let before : left t i ps others ≡ pending_without t (take i ps) ++ p ∷ (drop (i + 1) ps ++ others) =
    ap (λ xs. pending_without t (take i ps) ++ (xs ++ others)) (dropped_one i ps p lt is) in
    let after : pending_without t (take i ps) ++ (drop (i + 1) ps ++ others) ≡ left t (i + 1) ps others =
    ap (λ xs. xs ++ (drop (i + 1) ps ++ others)) (sym (parts.1 ∙ append_nil (pending_without t (take i ps)))) in
    let kept : (e : ℕ) → IsKept (room_at new e) (steps_at e (pending_without t (take i ps) ++ p ∷ (drop (i + 1) ps ++ others))) =
    λ e. subst (λ xs. IsKept (room_at new e) (steps_at e xs)) before (so_far others were e) in
    subst (λ xs. IsKept (room_at (set new p.counter (f (room_at new p.counter))) c) (steps_at c xs)) after
    (lose f new (pending_without t (take i ps)) (drop (i + 1) ps ++ others) p loses there kept c)

pub settled_more : (t i : ℕ) (ps : List Pending) (p : Pending) (old new : List Room) → i < length ps → p ≡ get_or ps i p
    → (p.txn == t) ≡ true → p.counter < length new → AreSettled t i ps old new
    → AreSettled t (i + 1) ps old (set new p.counter (settled p.step (room_at new p.counter)))
settled_more t i ps p old new lt is same there so_far =
    let parts = past_step t i ps p (taken_one i ps p lt is) true same in
    record {
      each = keep_more (settled p.step) t i ps p old new (settles p.step) lt is same there so_far.each;
      counts = λ c.
          ap count_of (room_at-set new p.counter c (settled p.step (room_at new p.counter)) there (p.counter == c) refl)
          ∙ (counted t c (pending_of t (take i ps)) p new (count_of (room_at old c)) (p.counter == c) (so_far.counts c) refl
          (same_counter p c new (Decides-eqb p.counter c).0 (p.counter == c) refl)
          ∙ ap (λ xs. moved (count_of (room_at old c)) (total xs))
          (ap (λ xs. steps_at c (pending_of t (take i ps)) ++ xs) (sym (steps_one c p (p.counter == c) refl))
          ∙ (sym (steps_at-append c (pending_of t (take i ps)) (p ∷ []))
          ∙ ap (steps_at c) (sym parts.0))));
      long = length-set new p.counter (settled p.step (room_at new p.counter)) ∙ so_far.long;
    }

pub forgotten_more : (t i : ℕ) (ps : List Pending) (p : Pending) (old new : List Room) → i < length ps → p ≡ get_or ps i p
    → (p.txn == t) ≡ true → p.counter < length new → AreForgotten t i ps old new
    → AreForgotten t (i + 1) ps old (set new p.counter (let_go p.step (room_at new p.counter)))
forgotten_more t i ps p old new lt is same there so_far = record {
  each = keep_more (let_go p.step) t i ps p old new (lets_go p.step) lt is same there so_far.each;
  counts = map-set_same count_of new p.counter (let_go p.step (room_at new p.counter)) (fresh no_count) refl ∙ so_far.counts;
  long = length-set new p.counter (let_go p.step (room_at new p.counter)) ∙ so_far.long;
}

-- ---- all of them

left_adds : (t : ℕ) (ps others : List Pending) (old new : List Room) → length new ≡ length old → AreKept old (ps ++ others)
    → All (λ (q : Pending). (q.counter < length new) × IsStep q.step) (pending_without t ps ++ others)
left_adds t ps others old new long kept =
    subst (λ (n : ℕ). All (λ (q : Pending). (q.counter < n) × IsStep q.step) (pending_without t ps ++ others)) (sym long)
    (All-append (λ (q : Pending). (q.counter < length old) × IsStep q.step) (pending_without t ps) others
    (All-filter (λ (q : Pending). not (q.txn == t)) (λ (q : Pending). (q.counter < length old) × IsStep q.step) ps (All-front ps others kept.adds))
    (All-back ps others kept.adds))
  where
    take-append : (xs ys : List Pending) → take (length xs) (xs ++ ys) ≡ xs
    take-append [] ys = refl
    take-append (x ∷ xs) ys = ap (λ zs. x ∷ zs) (take-append xs ys)

    drop-append : (xs ys : List Pending) → drop (length xs) (xs ++ ys) ≡ ys
    drop-append [] ys = refl
    drop-append (x ∷ xs) ys = drop-append xs ys

    All-front : (xs ys : List Pending) → All (λ (q : Pending). (q.counter < length old) × IsStep q.step) (xs ++ ys) → All (λ (q : Pending). (q.counter < length old) × IsStep q.step) xs
    All-front xs ys h = subst (λ zs. All (λ (q : Pending). (q.counter < length old) × IsStep q.step) zs) (take-append xs ys) (All-take (λ (q : Pending). (q.counter < length old) × IsStep q.step) (length xs) (xs ++ ys) h)

    All-back : (xs ys : List Pending) → All (λ (q : Pending). (q.counter < length old) × IsStep q.step) (xs ++ ys) → All (λ (q : Pending). (q.counter < length old) × IsStep q.step) ys
    All-back xs ys h = subst (λ zs. All (λ (q : Pending). (q.counter < length old) × IsStep q.step) zs) (drop-append xs ys) (All-drop (λ (q : Pending). (q.counter < length old) × IsStep q.step) (length xs) (xs ++ ys) h)

keeps_all : (t i : ℕ) (ps : List Pending) (old new : List Room) → length ps ≡ i → length new ≡ length old → StillKeep t i ps old new → KeepsBeside old ps new (pending_without t ps)
keeps_all t i ps old new size long so_far others kept =
    let whole : take i ps ≡ ps = take_all i ps (omega arith) in
    let rest : left t i ps others ≡ pending_without t ps ++ others =
    ap (λ xs. pending_without t (take i ps) ++ (xs ++ others)) (drop_all i ps (omega arith))
    ∙ ap (λ xs. pending_without t xs ++ others) whole in
    record {
      each = λ c. subst (λ xs. IsKept (room_at new c) (steps_at c xs)) rest (so_far others kept c);
      adds = left_adds t ps others old new long kept;
    }

pub settled_all : (t i : ℕ) (ps : List Pending) (old new : List Room) → length ps ≡ i → AreSettled t i ps old new
    → KeepsBeside old ps new (pending_without t ps) × ((c : ℕ) → count_of (room_at new c) ≡ moved_by t c ps (count_of (room_at old c)))
settled_all t i ps old new size so_far =
    let whole : take i ps ≡ ps = take_all i ps (omega arith) in (
      keeps_all t i ps old new size so_far.long so_far.each,
      λ c. so_far.counts c ∙ ap (λ xs. moved_by t c xs (count_of (room_at old c))) whole,
    )

pub forgotten_all : (t i : ℕ) (ps : List Pending) (old new : List Room) → length ps ≡ i → AreForgotten t i ps old new → KeepsBeside old ps new (pending_without t ps)
forgotten_all t i ps old new size so_far = keeps_all t i ps old new size so_far.long so_far.each

-- a room that is wanted is modest
pub still_modest : (t i : ℕ) (ps : List Pending) (old new : List Room) → AreKeptFor old ps → StillKeep t i ps old new → (c : ℕ) → IsModest (room_at new c)
still_modest t i ps old new kept so_far c = modest (room_at new c) (steps_at c (left t i ps kept.0)) (so_far kept.0 kept.1 c)

-- an add is to a counter that is there
pub its_place : (ps : List Pending) (i : ℕ) (p : Pending) (old : List Room) → AreKeptFor old ps → i < length ps → p ≡ get_or ps i p → (p.counter < length old) × IsStep p.step
its_place ps i p old kept lt is =
    let longer : i < length (ps ++ kept.0) = let sum = length-append ps kept.0 in omega arith in
    let same : get_or (ps ++ kept.0) i p ≡ p = get_or_append_left ps kept.0 p i lt ∙ sym is in
    subst (λ (q : Pending). (q.counter < length old) × IsStep q.step) same (kept.1.adds i p longer)
