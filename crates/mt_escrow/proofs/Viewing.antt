-- The counters that contracts see, beside the rooms that keep them.
use Rattle.std.proofs.Common.{◌≡◌, ℕ, zero, suc, ℤ, ◌+ℤ◌, ◌<◌, append_assoc, cond, List, [], ◌∷◌, ◌++◌, All, map, length, take, drop, set, remove, get_or, refl, ap, sym, subst, ◌∙◌, arith}
use Rattle.std.proofs.Math.ListN as list
use Rattle.std.proofs.Math.Seq.{map-set_same, take-append_seam}
use Rattle.std.proofs.lemmas.Int.{ints}
use Rattle.std.proofs.lemmas.Bool.Decides.{Decides-eqb}
use Rattle.std.proofs.lemmas.List.{length-set}
use Rattle.std.proofs.lemmas.List.Elements.{All-nil, All-head, All-tail, All-map, All-from_get_or, All-push, All-append, All-take, All-drop}
use Rattle.mt_base.specs.Limits.{IsStep}
use Rattle.mt_model.specs.declared.counters.Count.{Count}
use Rattle.mt_model.specs.declared.pending_add.Pending.{Pending}
use Rattle.mt_model.specs.Escrow.{IsAdmissible, lowest, highest}
use Rattle.mt_model.specs.Pending.{steps_at}
use Rattle.mt_model.specs.Tables.{IsLimited, AreLimited, count_at, no_count}
use Rattle.mt_model.proofs.Sums.{admissible_from_room}
use Rattle.mt_escrow.specs.declared.rooms.Room.{Room}
use Rattle.mt_escrow.specs.Rooms.{Fits, fresh, held, let_go, room_at, count_of, IsKept, AreKept}
use Rattle.mt_escrow.specs.Seen.{add_of, IsLastAdd}
use Rattle.mt_escrow.proofs.Adding.{lowest-append, highest-append, steps_at-append}
use Rattle.mt_escrow.proofs.Changing.{lets_go, lose, more, fits_from_admissible, admissible_from_fits}
use Rattle.mt_base.proofs.Removing.{parted}

pub count_at-rooms : (rooms : List Room) (c : ℕ) → count_at (map count_of rooms) c ≡ count_of (room_at rooms c)
count_at-rooms rooms c = list.get_or-map count_of rooms c (fresh no_count)

pub limited : (rooms : List Room) (ps : List Pending) → AreKept rooms ps → AreLimited (map count_of rooms)
limited rooms ps kept =
    All-map IsLimited count_of rooms
    (All-from_get_or (λ r. IsLimited (count_of r)) rooms (fresh no_count) (λ i lt. (kept.each i).limited))

pub admissible : (rooms : List Room) (ps : List Pending) → AreKept rooms ps
    → (c : ℕ) → IsAdmissible (count_at (map count_of rooms) c) (steps_at c ps)
admissible rooms ps kept c =
    subst (λ n. IsAdmissible n (steps_at c ps)) (sym (count_at-rooms rooms c))
    (admissible_from_room (count_of (room_at rooms c)) (steps_at c ps) (kept.each c).fits)

pub read : (rooms : List Room) (i : ℕ) (x : Room) → i < length rooms → x ≡ get_or rooms i x → x ≡ room_at rooms i
read [] i x lt is = absurd (omega arith)
read (r ∷ rooms) zero x lt is = is
read (r ∷ rooms) (suc i) x lt is = read rooms i x (omega arith) is

-- a room whose counter stays as it was is put in its place
pub same_counters : (rooms : List Room) (c : ℕ) (r : Room) → count_of r ≡ count_of (room_at rooms c) → map count_of (set rooms c r) ≡ map count_of rooms
same_counters rooms c r same = map-set_same count_of rooms c r (fresh no_count) same

pub steps_at-add : (ps : List Pending) (t c : ℕ) (d : ℤ) → steps_at c (ps ++ add_of t c d ∷ []) ≡ steps_at c ps ++ d ∷ []
steps_at-add ps t c d =
    steps_at-append c ps (add_of t c d ∷ [])
    ∙ ap (λ b. steps_at c ps ++ cond b (d ∷ []) []) ((Decides-eqb c c).1 refl)

pub refused : (rooms : List Room) (ps : List Pending) (t c : ℕ) (d : ℤ) → AreKept rooms ps → (Fits (held d (room_at rooms c)) → ⊥)
    → IsAdmissible (count_at (map count_of rooms) c) (steps_at c (ps ++ add_of t c d ∷ [])) → ⊥
refused rooms ps t c d kept over admissible =
    over (fits_from_admissible d (room_at rooms c) (steps_at c ps) (kept.each c)
    (subst (λ ds. IsAdmissible (count_of (room_at rooms c)) ds) (steps_at-add ps t c d)
    (subst (λ n. IsAdmissible n (steps_at c (ps ++ add_of t c d ∷ []))) (count_at-rooms rooms c) admissible)))

pub admitted : (rooms : List Room) (ps : List Pending) (t c : ℕ) (d : ℤ) → AreKept rooms ps → Fits (held d (room_at rooms c))
    → IsAdmissible (count_at (map count_of rooms) c) (steps_at c (ps ++ add_of t c d ∷ []))
admitted rooms ps t c d kept fits =
    subst (λ n. IsAdmissible n (steps_at c (ps ++ add_of t c d ∷ []))) (sym (count_at-rooms rooms c))
    (subst (λ ds. IsAdmissible (count_of (room_at rooms c)) ds) (sym (steps_at-add ps t c d))
    (admissible_from_fits d (room_at rooms c) (steps_at c ps) (kept.each c) fits))

pub kept_more : (rooms : List Room) (ps : List Pending) (t c : ℕ) (d : ℤ) → c < length rooms → IsStep d → AreKept rooms ps → Fits (held d (room_at rooms c))
    → AreKept (set rooms c (held d (room_at rooms c))) (ps ++ add_of t c d ∷ [])
kept_more rooms ps t c d lt step kept fits = record {
  each = more rooms ps (add_of t c d) lt fits kept.each;
  adds = subst (λ (n : ℕ). All (λ (p : Pending). (p.counter < n) × IsStep p.step) (ps ++ add_of t c d ∷ [])) (sym (length-set rooms c (held d (room_at rooms c))))
      (All-push (λ (p : Pending). (p.counter < length rooms) × IsStep p.step) ps (add_of t c d) kept.adds (lt, step));
}

-- all of a vector, written through a slice
pub written : (n : ℕ) (xs ys : List Room) → length xs ≡ n → length ys ≡ n → take n (ys ++ drop (length ys) xs) ≡ ys
written n xs ys long same =
    subst (λ m. take m (ys ++ drop (length ys) xs) ≡ ys) same (take-append_seam ys (drop (length ys) xs))

-- with nothing pending
pub kept_fresh : (ns : List Count) → AreLimited ns → AreKept (map fresh ns) []
kept_fresh ns limits = record {
  each = λ c. fresh_kept c;
  adds = All-nil (λ (p : Pending). (p.counter < length (map fresh ns)) × IsStep p.step);
}
  where
    unmoved : (n : Count) → IsLimited n → IsKept (fresh n) []
    unmoved n limit = record {
      limited = limit;
      lowest = refl;
      highest = refl;
      fits = record { low = omega (arith, ints); high = omega (arith, ints) };
    }

    at_count : (ms : List Count) → AreLimited ms → (c : ℕ) → IsLimited (count_at ms c)
    at_count [] ok c = (omega (arith, ints), omega (arith, ints), omega (arith, ints), omega (arith, ints))
    at_count (m ∷ ms) ok zero = All-head IsLimited m ms ok
    at_count (m ∷ ms) ok (suc c) = at_count ms (All-tail IsLimited m ms ok) c

    fresh_kept : (c : ℕ) → IsKept (room_at (map fresh ns) c) []
    fresh_kept c = subst (λ r. IsKept r []) (sym (list.get_or-map fresh ns c no_count)) (unmoved (count_at ns c) (at_count ns limits c))

pub counts_of_fresh : (ns : List Count) → map count_of (map fresh ns) ≡ ns
counts_of_fresh [] = refl
counts_of_fresh (n ∷ ns) = ap (λ ms. n ∷ ms) (counts_of_fresh ns)

-- ---- adds in another order

-- the same sums, so the same room
pub same_sums : (r : Room) (ds es : List ℤ) → lowest ds ≡ lowest es → highest ds ≡ highest es → IsKept r ds → IsKept r es
same_sums r ds es low high kept =
    let down = kept.lowest in let up = kept.highest in let fits_low = kept.fits.low in let fits_high = kept.fits.high in
    record {
      limited = kept.limited;
      lowest = omega (arith, ints);
      highest = omega (arith, ints);
      fits = record { low = omega (arith, ints); high = omega (arith, ints) };
    }

swap_low : (c : ℕ) (xs ys : List Pending) → lowest (steps_at c (xs ++ ys)) ≡ lowest (steps_at c (ys ++ xs))
swap_low c xs ys =
    let a = lowest-append (steps_at c xs) (steps_at c ys) in let b = lowest-append (steps_at c ys) (steps_at c xs) in
    let same : lowest (steps_at c xs ++ steps_at c ys) ≡ lowest (steps_at c ys ++ steps_at c xs) = omega (arith, ints) in
    ap lowest (steps_at-append c xs ys) ∙ (same ∙ sym (ap lowest (steps_at-append c ys xs)))

swap_high : (c : ℕ) (xs ys : List Pending) → highest (steps_at c (xs ++ ys)) ≡ highest (steps_at c (ys ++ xs))
swap_high c xs ys =
    let a = highest-append (steps_at c xs) (steps_at c ys) in let b = highest-append (steps_at c ys) (steps_at c xs) in
    let same : highest (steps_at c xs ++ steps_at c ys) ≡ highest (steps_at c ys ++ steps_at c xs) = omega (arith, ints) in
    ap highest (steps_at-append c xs ys) ∙ (same ∙ sym (ap highest (steps_at-append c ys xs)))

take_front : (xs ys : List Pending) → take (length xs) (xs ++ ys) ≡ xs
take_front [] ys = refl
take_front (x ∷ xs) ys = ap (λ zs. x ∷ zs) (take_front xs ys)

drop_front : (xs ys : List Pending) → drop (length xs) (xs ++ ys) ≡ ys
drop_front [] ys = refl
drop_front (x ∷ xs) ys = drop_front xs ys

pub all_first : (P : Pending → Type 0) (xs ys : List Pending) → All P (xs ++ ys) → All P xs
all_first P xs ys h = subst (All P) (take_front xs ys) (All-take P (length xs) (xs ++ ys) h)

pub all_rest : (P : Pending → Type 0) (xs ys : List Pending) → All P (xs ++ ys) → All P ys
all_rest P xs ys h = subst (All P) (drop_front xs ys) (All-drop P (length xs) (xs ++ ys) h)

pub swapped : (rooms : List Room) (xs ys : List Pending) → AreKept rooms (xs ++ ys) → AreKept rooms (ys ++ xs)
swapped rooms xs ys kept = record {
  each = λ c. same_sums (room_at rooms c) (steps_at c (xs ++ ys)) (steps_at c (ys ++ xs)) (swap_low c xs ys) (swap_high c xs ys) (kept.each c);
  adds = All-append (λ (p : Pending). (p.counter < length rooms) × IsStep p.step) ys xs
      (all_rest (λ (p : Pending). (p.counter < length rooms) × IsStep p.step) xs ys kept.adds)
      (all_first (λ (p : Pending). (p.counter < length rooms) × IsStep p.step) xs ys kept.adds);
}

-- an add among those pending is moved to those set aside
pub kept_aside : (rooms : List Room) (aside pending : List Pending) (p : Pending) (i : ℕ) → AreKept rooms (aside ++ pending) → IsLastAdd pending p i
    → AreKept rooms ((aside ++ p ∷ []) ++ remove pending i)
kept_aside rooms aside pending p i kept at =
    let F : List Pending = take i pending in
    let B : List Pending = drop (suc i) pending in
    let whole : pending ≡ F ++ p ∷ B = parted pending i p at.there at.is in
    let was : AreKept rooms (aside ++ (F ++ p ∷ B)) = subst (λ qs. AreKept rooms (aside ++ qs)) whole kept in
    let P : Pending → Type 0 = λ (q : Pending). (q.counter < length rooms) × IsStep q.step in
    let rest : All P (F ++ p ∷ B) = all_rest P aside (F ++ p ∷ B) was.adds in
    let tail : All P (p ∷ B) = all_rest P F (p ∷ B) rest in
    record {
      each = λ c. same_sums (room_at rooms c) (steps_at c (aside ++ (F ++ p ∷ B))) (steps_at c ((aside ++ p ∷ []) ++ (F ++ B)))
          (lows c F B) (highs c F B) (was.each c);
      adds = All-append P (aside ++ p ∷ []) (F ++ B)
          (All-push P aside p (all_first P aside (F ++ p ∷ B) was.adds) (All-head P p B tail))
          (All-append P F B (all_first P F (p ∷ B) rest) (All-tail P p B tail));
    }
  where
    one : (f : List ℤ → ℤ) → ((ds es : List ℤ) → f (ds ++ es) ≡ f ds +ℤ f es) → (c : ℕ) (xs ys : List Pending) → f (steps_at c (xs ++ ys)) ≡ f (steps_at c xs) +ℤ f (steps_at c ys)
    one f appends c xs ys = ap f (steps_at-append c xs ys) ∙ appends (steps_at c xs) (steps_at c ys)

    sums : (f : List ℤ → ℤ) → ((ds es : List ℤ) → f (ds ++ es) ≡ f ds +ℤ f es) → (c : ℕ) (xs ys : List Pending)
        → f (steps_at c (aside ++ (xs ++ p ∷ ys))) ≡ f (steps_at c ((aside ++ p ∷ []) ++ (xs ++ ys)))
    sums f appends c xs ys =
        let a = one f appends c aside (xs ++ p ∷ ys) in
        let b = one f appends c xs (p ∷ ys) in
        let d = one f appends c (p ∷ []) ys in
        let e = one f appends c (aside ++ p ∷ []) (xs ++ ys) in
        let g = one f appends c aside (p ∷ []) in
        let h = one f appends c xs ys in
        omega (arith, ints, a, b, d, e, g, h)

    lows : (c : ℕ) (xs ys : List Pending) → lowest (steps_at c (aside ++ (xs ++ p ∷ ys))) ≡ lowest (steps_at c ((aside ++ p ∷ []) ++ (xs ++ ys)))
    lows c xs ys = sums lowest lowest-append c xs ys

    highs : (c : ℕ) (xs ys : List Pending) → highest (steps_at c (aside ++ (xs ++ p ∷ ys))) ≡ highest (steps_at c ((aside ++ p ∷ []) ++ (xs ++ ys)))
    highs c xs ys = sums highest highest-append c xs ys

-- an add among those pending is gone
pub kept_gone : (rooms : List Room) (aside pending : List Pending) (p : Pending) (i : ℕ) → AreKept rooms (aside ++ pending) → IsLastAdd pending p i
    → AreKept (set rooms p.counter (let_go p.step (room_at rooms p.counter))) (aside ++ remove pending i)
kept_gone rooms aside pending p i kept at =
    let F : List Pending = take i pending in
    let B : List Pending = drop (suc i) pending in
    let whole : aside ++ pending ≡ (aside ++ F) ++ p ∷ B = ap (λ qs. aside ++ qs) (parted pending i p at.there at.is) ∙ sym (append_assoc aside F (p ∷ B)) in
    let P : Pending → Type 0 = λ (q : Pending). (q.counter < length rooms) × IsStep q.step in
    let was : All P ((aside ++ F) ++ p ∷ B) = subst (All P) whole kept.adds in
    let tail : All P (p ∷ B) = all_rest P (aside ++ F) (p ∷ B) was in
    let joined : (aside ++ F) ++ B ≡ aside ++ (F ++ B) = append_assoc aside F B in
    record {
      each = λ c. subst (λ qs. IsKept (room_at (set rooms p.counter (let_go p.step (room_at rooms p.counter))) c) (steps_at c qs)) joined
          (lose (let_go p.step) rooms (aside ++ F) B p (lets_go p.step) (All-head P p B tail).0
          (λ e. subst (λ qs. IsKept (room_at rooms e) (steps_at e qs)) whole (kept.each e)) c);
      adds = subst (λ (n : ℕ). All (λ (q : Pending). (q.counter < n) × IsStep q.step) (aside ++ (F ++ B))) (sym (length-set rooms p.counter (let_go p.step (room_at rooms p.counter))))
          (subst (All P) joined (All-append P (aside ++ F) B (all_first P (aside ++ F) (p ∷ B) was) (All-tail P p B tail)));
    }

-- an add that is pending is to a counter that is there, whatever is set aside
pub is_placed : (rooms : List Room) (aside pending : List Pending) (p : Pending) (i : ℕ) → AreKept rooms (aside ++ pending) → IsLastAdd pending p i → (p.counter < length rooms) × IsStep p.step
is_placed rooms aside pending p i kept at =
    let P : Pending → Type 0 = λ (q : Pending). (q.counter < length rooms) × IsStep q.step in
    subst P at.is (all_rest P aside pending kept.adds i p at.there)
