-- At one object: an entry is undone, and those of its transaction behind it, which net to nothing, go with it.
use Rattle.std.proofs.Common.{◌≡◌, ℕ, ℤ, pos, ◌+ℤ◌, neg_ℤ, Bool, true, false, cond, not, ◌==◌, List, [], ◌∷◌, ◌++◌, Some, refl, ap, sym, ◌∙◌, subst, arith}
use Rattle.std.proofs.lemmas.Int.{ints}
use Rattle.std.proofs.lemmas.Bool.Decides.{Decides-eqb}
use Rattle.mt_base.specs.declared.modes.LockMode.TheVariants as mode
use Rattle.mt_model.specs.declared.counters.Count.{Count}
use Rattle.mt_model.specs.declared.objects.Asks.{Asks}
use Rattle.mt_model.specs.declared.objects.Object.{Object}
use Rattle.mt_model.specs.declared.operations.Op.{Op}
use Rattle.mt_model.specs.declared.operations.Op.TheVariants.{Get, Insert, Update, Delete, Add, Read, Scan}
use Rattle.mt_model.specs.declared.operations.Reply.{Reply}
use Rattle.mt_model.specs.declared.operations.Reply.TheVariants.{Done}
use Rattle.mt_model.specs.Model.{IsInBounds, moved, added, inverse_of, mode_of}
use Rattle.mt_model.specs.Escrow.{total}
use Rattle.mt_model.proofs.Cells.{Cell, next}
use Rattle.mt_model.proofs.Steps.{moved-moved, added_back}
use Rattle.mt_model.proofs.Undo.{inverse_asks}
use Rattle.mt_live.specs.Entries.{Entry, kept}
use Rattle.mt_live.specs.Sound.{Each, IsDone}
use Rattle.mt_live.specs.Undoing.{only, others}
use Rattle.mt_live.proofs.Ballots.{Stays}
use Rattle.mt_live.proofs.Entries.{cell_runs, AreCellActed}
use Rattle.mt_live.proofs.Nesting.{row_next, next_row, row_back}
use Rattle.mt_live.proofs.Shapes.{each_filter, AllAgree, Shape, Owned, Reads, Adds, shape}
use Rattle.mt_live.proofs.AtCell.{with_step, steps, count_run, adds_acted, adds_row, add_keeps_row, reads_run, reads_acted, owned_kept}
use Rattle.mt_live.proofs.Moving.{sum_parts}

-- ---- lists in general

pub each_append : {A : Type 0} (P : A → Type 0) (xs ys : List A) → Each P xs → Each P ys → Each P (xs ++ ys)
each_append P [] ys h k = k
each_append P (x ∷ xs) ys h k = (h.0, each_append P xs ys h.1 k)

pub each_front : {A : Type 0} (P : A → Type 0) (xs ys : List A) → Each P (xs ++ ys) → Each P xs
each_front P [] ys h = tt
each_front P (x ∷ xs) ys h = (h.0, each_front P xs ys h.1)

pub each_back : {A : Type 0} (P : A → Type 0) (xs ys : List A) → Each P (xs ++ ys) → Each P ys
each_back P [] ys h = h
each_back P (x ∷ xs) ys h = each_back P xs ys h.1

run_append : (c : Cell) (xs ys : List Entry) → cell_runs c (xs ++ ys) ≡ cell_runs (cell_runs c xs) ys
run_append c [] ys = refl
run_append c (x ∷ xs) ys = run_append (next x.op c) xs ys

acted_append : (o : Object) (c : Cell) (xs ys : List Entry) → AreCellActed o c xs → AreCellActed o (cell_runs c xs) ys → AreCellActed o c (xs ++ ys)
acted_append o c [] ys h k = k
acted_append o c (x ∷ xs) ys h k = (h.0, acted_append o (next x.op c) xs ys h.1 k)

acted_front : (o : Object) (c : Cell) (xs ys : List Entry) → AreCellActed o c (xs ++ ys) → AreCellActed o c xs
acted_front o c [] ys h = tt
acted_front o c (x ∷ xs) ys h = (h.0, acted_front o (next x.op c) xs ys h.1)

acted_back : (o : Object) (c : Cell) (xs ys : List Entry) → AreCellActed o c (xs ++ ys) → AreCellActed o (cell_runs c xs) ys
acted_back o c [] ys h = h
acted_back o c (x ∷ xs) ys h = acted_back o (next x.op c) xs ys h.1

append_nil : (xs : List Entry) → xs ++ [] ≡ xs
append_nil [] = refl
append_nil (x ∷ xs) = ap (λ z. x ∷ z) (append_nil xs)

sum_step : (op : Op) (ds es fs : List ℤ) → total ds ≡ total es +ℤ total fs → total (with_step op ds) ≡ total (with_step op es) +ℤ total fs
sum_step (Add n d) ds es fs h = omega (arith, ints, h)
sum_step (Get k l) ds es fs h = h
sum_step (Insert k l v) ds es fs h = h
sum_step (Update k l v) ds es fs h = h
sum_step (Delete k l) ds es fs h = h
sum_step (Read n) ds es fs h = h
sum_step (Scan q) ds es fs h = h

pub sum_append : (xs ys : List Entry) → total (steps (xs ++ ys)) ≡ total (steps xs) +ℤ total (steps ys)
sum_append [] ys = omega (arith, ints)
sum_append (x ∷ xs) ys = sum_step x.op (steps (xs ++ ys)) (steps xs) (steps ys) (sum_append xs ys)

pub stays_end : (n : Count) (ds : List ℤ) → Stays n ds → IsInBounds (moved n (total ds))
stays_end n [] h = let x = h.not_under in let y = h.not_over in record { not_under = omega (arith, ints, x); not_over = omega (arith, ints, y) }
stays_end n (d ∷ ds) h =
    let rest = stays_end (moved n d) ds h.1 in let x = rest.not_under in let y = rest.not_over in
    record { not_under = omega (arith, ints, x); not_over = omega (arith, ints, y) }

-- ---- the count

-- what an operation adds
abbrev net : Op → ℤ
net (Add n d) = d
net (Get k l) = pos 0
net (Insert k l v) = pos 0
net (Update k l v) = pos 0
net (Delete k l) = pos 0
net (Read n) = pos 0
net (Scan q) = pos 0

with_net : (op : Op) (ds : List ℤ) → total (with_step op ds) ≡ net op +ℤ total ds
with_net (Add n d) ds = refl
with_net (Get k l) ds = omega (arith, ints)
with_net (Insert k l v) ds = omega (arith, ints)
with_net (Update k l v) ds = omega (arith, ints)
with_net (Delete k l) ds = omega (arith, ints)
with_net (Read n) ds = omega (arith, ints)
with_net (Scan q) ds = omega (arith, ints)

keeps_count : (op : Op) (c : Cell) → (mode_of op ≡ mode.Add → ⊥) → (next op c).count ≡ c.count
keeps_count (Add n d) c none = absurd (none refl)
keeps_count (Get k l) c none = refl
keeps_count (Insert k l v) c none = refl
keeps_count (Update k l v) c none = refl
keeps_count (Delete k l) c none = refl
keeps_count (Read n) c none = refl
keeps_count (Scan q) c none = refl

same_mode : (op i : Op) (r : Reply) → inverse_of op r ≡ Some i → mode_of i ≡ mode_of op
same_mode op i r h = ap (λ (a : Asks). a.mode) (inverse_asks op i r h)

kept_count : (op i : Op) (r : Reply) (c : Cell) (n : Count) (z : ℤ) → inverse_of op r ≡ Some i → (mode_of op ≡ mode.Add → ⊥) → c.count ≡ moved n (z +ℤ pos 0) → (next i c).count ≡ moved n z
kept_count op i r c n z h none is =
    keeps_count i c (λ m. none (sym (same_mode op i r h) ∙ m)) ∙ (is ∙ ap (moved n) (zero_right z))
  where
    zero_right : (y : ℤ) → (y +ℤ pos 0) ≡ y
    zero_right y = omega (arith, ints)

count_back : (op i : Op) (r : Reply) (c : Cell) (n : Count) (z : ℤ) → inverse_of op r ≡ Some i → (mode_of op ≡ mode.Add → r ≡ Done) → IsInBounds (moved n z) → c.count ≡ moved n (z +ℤ net op) → (next i c).count ≡ moved n z
count_back (Add m d) i r c n z h done within is =
    let s : Some (Add m (neg_ℤ d)) ≡ Some i = subst (λ w. inverse_of (Add m d) w ≡ Some i) (done refl) h in
    let same : Add m (neg_ℤ d) ≡ i = cc in
    subst (λ j. (next j c).count ≡ moved n z) same
    (ap (added (neg_ℤ d)) (is ∙ sym (moved-moved n z d)) ∙ added_back (moved n z) d within)
count_back (Get k l) i r c n z h done within is = kept_count (Get k l) i r c n z h (λ m. cc) is
count_back (Insert k l v) i r c n z h done within is = kept_count (Insert k l v) i r c n z h (λ m. cc) is
count_back (Update k l v) i r c n z h done within is = kept_count (Update k l v) i r c n z h (λ m. cc) is
count_back (Delete k l) i r c n z h done within is = kept_count (Delete k l) i r c n z h (λ m. cc) is
count_back (Read m) i r c n z h done within is = kept_count (Read m) i r c n z h (λ m. cc) is
count_back (Scan q) i r c n z h done within is = kept_count (Scan q) i r c n z h (λ m. cc) is

-- ---- the cut

abbrev pub whole : Bool → Entry → List Entry → List Entry → List Entry
whole w e front rest = front ++ cond w (e ∷ rest) rest

abbrev pub back_if : Bool → Op → Cell → Cell
back_if w i c = cond w (next i c) c

-- what is known of the entry that is undone, if it is on this object, and of those behind it
pub record CutAt (w : Bool) (x : Object) (t : ℕ) (e : Entry) (i : Op) (rest : List Entry) : Type 0 where
  pub its : w ≡ true → e.txn ≡ t
  pub inverse : w ≡ true → inverse_of e.op e.reply ≡ Some i
  pub row : (c : Cell) → AreCellActed x c (kept (only t) rest) → (cell_runs c (kept (only t) rest)).row ≡ c.row
  pub sum : total (steps (kept (only t) rest)) ≡ pos 0

tail_of : {A : Type 0} (P : A → Type 0) (w : Bool) (e : A) (es : List A) → Each P (cond w (e ∷ es) es) → Each P es
tail_of P true e es h = h.1
tail_of P false e es h = h

first_of_tail : {A : Type 0} (P : A → Type 0) (w : Bool) (e : A) (es : List A) → w ≡ true → Each P (cond w (e ∷ es) es) → P e
first_of_tail P true e es is h = h.0
first_of_tail P false e es is h = absurd cc

no_inverse_of_read : (op : Op) (r : Reply) (i : Op) → mode_of op ≡ mode.Read → inverse_of op r ≡ Some i → ⊥
no_inverse_of_read (Get k l) r i m h = absurd cc
no_inverse_of_read (Read n) r i m h = absurd cc
no_inverse_of_read (Scan q) r i m h = absurd cc
no_inverse_of_read (Insert k l v) r i m h = absurd cc
no_inverse_of_read (Update k l v) r i m h = absurd cc
no_inverse_of_read (Delete k l) r i m h = absurd cc
no_inverse_of_read (Add n d) r i m h = absurd cc

others_true : (t u : ℕ) → (u == t) ≡ false → others t u ≡ true
others_true t u h = ap not h

others_false : (t u : ℕ) → (u == t) ≡ true → others t u ≡ false
others_false t u h = ap not h

left_done : (w : Bool) (t : ℕ) (e : Entry) (front rest : List Entry) → Each IsDone (whole w e front rest) → Each IsDone (front ++ kept (others t) rest)
left_done w t e front rest d =
    each_append IsDone front (kept (others t) rest) (each_front IsDone front (cond w (e ∷ rest) rest) d)
    (each_filter IsDone (λ f. others t f.txn) rest (tail_of IsDone w e rest (each_back IsDone front (cond w (e ∷ rest) rest) d)))

-- the row, and that each entry has its reply
abbrev Left : Bool → Object → Cell → ℕ → Entry → Op → List Entry → List Entry → Type 0
Left w x c t e i front rest =
    AreCellActed x c (front ++ kept (others t) rest)
    × ((cell_runs c (front ++ kept (others t) rest)).row ≡ (back_if w i (cell_runs c (whole w e front rest))).row)

by_shape : (w : Bool) (x : Object) (c : Cell) (t : ℕ) (e : Entry) (i : Op) (front rest : List Entry) → AllAgree (whole w e front rest) → Each IsDone (whole w e front rest)
    → AreCellActed x c (whole w e front rest) → CutAt w x t e i rest → Stays c.count (steps (front ++ kept (others t) rest)) → Left w x c t e i front rest
by_shape w x c t e i front rest ag d a k stay = go (shape (whole w e front rest) ag)
  where
    F : Cell
    F = cell_runs c front

    in_front : AreCellActed x c front
    in_front = acted_front x c front (cond w (e ∷ rest) rest) a

    behind : AreCellActed x F (cond w (e ∷ rest) rest)
    behind = acted_back x c front (cond w (e ∷ rest) rest) a

    mine : (v : Bool) → w ≡ v → kept (only t) rest ≡ rest → AreCellActed x F (cond v (e ∷ rest) rest) → F.row ≡ (back_if v i (cell_runs F (cond v (e ∷ rest) rest))).row
    mine true is all h =
        let r : (cell_runs (next e.op F) rest).row ≡ (next e.op F).row =
        subst (λ es. AreCellActed x (next e.op F) es → (cell_runs (next e.op F) es).row ≡ (next e.op F).row) all (k.row (next e.op F)) h.1 in
        sym (next_row i (cell_runs (next e.op F) rest) ∙ (ap (row_next i) r ∙ row_back e.op i e.reply x F h.0 (k.inverse is)))
    mine false is all h = sym (subst (λ es. AreCellActed x F es → (cell_runs F es).row ≡ F.row) all (k.row F) h)

    whole_run : cell_runs c (whole w e front rest) ≡ cell_runs F (cond w (e ∷ rest) rest)
    whole_run = run_append c front (cond w (e ∷ rest) rest)

    owned : (u : ℕ) → Each (λ f. f.txn ≡ u) (whole w e front rest) → (b : Bool) → (u == t) ≡ b → Left w x c t e i front rest
    owned u h true is =
        let hr : Each (λ f. f.txn ≡ u) rest = tail_of (λ f. f.txn ≡ u) w e rest (each_back (λ f. f.txn ≡ u) front (cond w (e ∷ rest) rest) h) in
        let none : kept (others t) rest ≡ [] = owned_kept (others t) rest u hr false (others_false t u is) in
        let all : kept (only t) rest ≡ rest = owned_kept (only t) rest u hr true is in
        let left : front ++ kept (others t) rest ≡ front = ap (λ z. front ++ z) none ∙ append_nil front in (
          subst (AreCellActed x c) (sym left) in_front,
          ap (λ es. (cell_runs c es).row) left ∙ (mine w refl all behind ∙ ap (λ (z : Cell). (back_if w i z).row) (sym whole_run)),
        )
    owned u h false is = apart w refl
      where
        parts : Each (λ f. f.txn ≡ u) (cond w (e ∷ rest) rest)
        parts = each_back (λ f. f.txn ≡ u) front (cond w (e ∷ rest) rest) h

        all : kept (others t) rest ≡ rest
        all = owned_kept (others t) rest u (tail_of (λ f. f.txn ≡ u) w e rest parts) true (others_true t u is)

        apart : (v : Bool) → w ≡ v → Left w x c t e i front rest
        apart true now =
            let own : u ≡ t = sym (first_of_tail (λ f. f.txn ≡ u) w e rest now parts) ∙ k.its now in
            let wrong : (u == t) ≡ true = (Decides-eqb u t).1 own in absurd cc
        apart false now =
            let same : whole w e front rest ≡ front ++ kept (others t) rest = ap (λ v. front ++ cond v (e ∷ rest) rest) now ∙ ap (λ z. front ++ z) (sym all) in (
              subst (AreCellActed x c) same a,
              ap (λ es. (cell_runs c es).row) (sym same) ∙ ap (λ v. (back_if v i (cell_runs c (whole w e front rest))).row) (sym now),
            )

    go : Shape (whole w e front rest) → Left w x c t e i front rest
    go (Owned u h) = owned u h (u == t) refl
    go (Reads h) = reads w refl
      where
        parts : Each (λ f. mode_of f.op ≡ mode.Read) (cond w (e ∷ rest) rest)
        parts = each_back (λ f. mode_of f.op ≡ mode.Read) front (cond w (e ∷ rest) rest) h

        hf : Each (λ f. mode_of f.op ≡ mode.Read) front
        hf = each_front (λ f. mode_of f.op ≡ mode.Read) front (cond w (e ∷ rest) rest) h

        hr : Each (λ f. mode_of f.op ≡ mode.Read) rest
        hr = tail_of (λ f. mode_of f.op ≡ mode.Read) w e rest parts

        reads : (v : Bool) → w ≡ v → Left w x c t e i front rest
        reads true now = absurd (no_inverse_of_read e.op e.reply i (first_of_tail (λ f. mode_of f.op ≡ mode.Read) w e rest now parts) (k.inverse now))
        reads false now =
            let b : AreCellActed x F rest = subst (λ v. AreCellActed x F (cond v (e ∷ rest) rest)) now behind in
            let left : AreCellActed x c (front ++ kept (others t) rest) = acted_append x c front (kept (others t) rest) in_front (reads_acted (λ f. others t f.txn) x F rest hr b) in
            let all : Each (λ f. mode_of f.op ≡ mode.Read) (front ++ kept (others t) rest) = each_append (λ f. mode_of f.op ≡ mode.Read) front (kept (others t) rest) hf (each_filter (λ f. mode_of f.op ≡ mode.Read) (λ f. others t f.txn) rest hr) in (
              left,
              ap (λ (z : Cell). z.row) (reads_run c (front ++ kept (others t) rest) all)
                  ∙ (sym (ap (λ (z : Cell). z.row) (reads_run c (whole w e front rest) h)) ∙ ap (λ v. (back_if v i (cell_runs c (whole w e front rest))).row) (sym now)),
            )
    go (Adds h) = (
      adds_acted x c (front ++ kept (others t) rest) all done stay,
      adds_row c (front ++ kept (others t) rest) all ∙ (sym (adds_row c (whole w e front rest) h) ∙ add_back w refl),
    )
      where
        parts : Each (λ f. mode_of f.op ≡ mode.Add) (cond w (e ∷ rest) rest)
        parts = each_back (λ f. mode_of f.op ≡ mode.Add) front (cond w (e ∷ rest) rest) h

        all : Each (λ f. mode_of f.op ≡ mode.Add) (front ++ kept (others t) rest)
        all = each_append (λ f. mode_of f.op ≡ mode.Add) front (kept (others t) rest) (each_front (λ f. mode_of f.op ≡ mode.Add) front (cond w (e ∷ rest) rest) h)
            (each_filter (λ f. mode_of f.op ≡ mode.Add) (λ f. others t f.txn) rest (tail_of (λ f. mode_of f.op ≡ mode.Add) w e rest parts))

        done : Each IsDone (front ++ kept (others t) rest)
        done = left_done w t e front rest d

        add_back : (v : Bool) → w ≡ v → (cell_runs c (whole w e front rest)).row ≡ (back_if w i (cell_runs c (whole w e front rest))).row
        add_back true now =
            sym (add_keeps_row i (cell_runs c (whole w e front rest)) (same_mode e.op i e.reply (k.inverse now) ∙ first_of_tail (λ f. mode_of f.op ≡ mode.Add) w e rest now parts))
            ∙ ap (λ v. (back_if v i (cell_runs c (whole w e front rest))).row) (sym now)
        add_back false now = ap (λ v. (back_if v i (cell_runs c (whole w e front rest))).row) (sym now)

-- ---- the count and the row

whole_sum : (w : Bool) (t : ℕ) (e : Entry) (front rest : List Entry) → total (steps (kept (only t) rest)) ≡ pos 0
    → total (steps (whole w e front rest)) ≡ total (steps (front ++ kept (others t) rest)) +ℤ cond w (net e.op) (pos 0)
whole_sum w t e front rest level =
    let a = sum_append front (cond w (e ∷ rest) rest) in
    let b = sum_append front (kept (others t) rest) in
    let p = sum_parts (only t) rest in
    go w a b p
  where
    go : (v : Bool) → total (steps (front ++ cond v (e ∷ rest) rest)) ≡ total (steps front) +ℤ total (steps (cond v (e ∷ rest) rest))
        → total (steps (front ++ kept (others t) rest)) ≡ total (steps front) +ℤ total (steps (kept (others t) rest))
        → total (steps rest) ≡ total (steps (kept (only t) rest)) +ℤ total (steps (kept (others t) rest))
        → total (steps (front ++ cond v (e ∷ rest) rest)) ≡ total (steps (front ++ kept (others t) rest)) +ℤ cond v (net e.op) (pos 0)
    go true a b p = let n = with_net e.op (steps rest) in omega (arith, ints, a, b, p, n, level)
    go false a b p = omega (arith, ints, a, b, p, level)

pub cut_cell : (w : Bool) (x : Object) (c : Cell) (t : ℕ) (e : Entry) (i : Op) (front rest : List Entry) → AllAgree (whole w e front rest) → Each IsDone (whole w e front rest)
    → AreCellActed x c (whole w e front rest) → CutAt w x t e i rest → Stays c.count (steps (front ++ kept (others t) rest))
    → AreCellActed x c (front ++ kept (others t) rest) × (cell_runs c (front ++ kept (others t) rest) ≡ back_if w i (cell_runs c (whole w e front rest)))
cut_cell w x c t e i front rest ag d a k stay = (left.0, λ j. record { row = left.1 j; count = counts j })
  where
    left : Left w x c t e i front rest
    left = by_shape w x c t e i front rest ag d a k stay

    z : ℤ
    z = total (steps (front ++ kept (others t) rest))

    now : (cell_runs c (front ++ kept (others t) rest)).count ≡ moved c.count z
    now = count_run x c (front ++ kept (others t) rest) left.0 (left_done w t e front rest d)

    was : (cell_runs c (whole w e front rest)).count ≡ moved c.count (z +ℤ cond w (net e.op) (pos 0))
    was = count_run x c (whole w e front rest) a d ∙ ap (moved c.count) (whole_sum w t e front rest k.sum)

    back : (v : Bool) → w ≡ v → (cell_runs c (whole w e front rest)).count ≡ moved c.count (z +ℤ cond v (net e.op) (pos 0)) → moved c.count z ≡ (back_if v i (cell_runs c (whole w e front rest))).count
    back true is h =
        sym (count_back e.op i e.reply (cell_runs c (whole w e front rest)) c.count z (k.inverse is)
        (first_of_tail IsDone w e rest is (each_back IsDone front (cond w (e ∷ rest) rest) d)) (stays_end c.count (steps (front ++ kept (others t) rest)) stay) h)
    back false is h = let same : (z +ℤ pos 0) ≡ z = omega (arith, ints) in sym (h ∙ ap (moved c.count) same)

    counts : (cell_runs c (front ++ kept (others t) rest)).count ≡ (back_if w i (cell_runs c (whole w e front rest))).count
    counts = now ∙ back w refl was
