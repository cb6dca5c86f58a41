-- Calls and then their inverses, the last one's first, leave the base.
use Rattle.std.proofs.Common.{◌≡◌, neg_ℤ, ◌+ℤ◌, int_le, ◌==◌, arith, ℤ, ℕ, Bool, true, false, cond, List, [], ◌∷◌, ◌++◌, Option, Some, None, refl, ap, sym, ◌∙◌, subst, append_assoc}
use Rattle.std.proofs.lemmas.Bool.{and_parts}
use Rattle.std.proofs.lemmas.Int.{ints}
use Rattle.std.specs.Option.{option_map, option_to_list}
use Rattle.mt_model.specs.declared.counters.Count.{Count}
use Rattle.mt_model.specs.declared.objects.Asks.{Asks}
use Rattle.mt_model.specs.declared.operations.Op.{Op}
use Rattle.mt_model.specs.declared.operations.Op.TheVariants.{Get, Insert, Update, Delete, Add, Read, Scan}
use Rattle.mt_model.specs.declared.operations.Reply.{Reply}
use Rattle.mt_model.specs.declared.operations.Reply.TheVariants.{Done, Was, OutOfBounds}
use Rattle.mt_model.specs.Model.{Base, IsBase, IsInBounds, object_of, moved, stays, inserted, updated, deleted, done_unless, was, reply_of, base_after, inverse_of, added}
use Rattle.mt_model.specs.History.{Call, run, IsActed}
use Rattle.mt_model.specs.Backwards.{inverse_reply, call_back, calls_back}
use Rattle.mt_model.proofs.Cells.{Cell, cell, next, says, reply-cell, cell-own, same-self}
use Rattle.mt_model.proofs.Steps.{stays_back}
use Rattle.mt_model.proofs.Undo.{base_back, base_effectless, inverse_asks, undone_no_scan, inverse_no_scan, cell_within}
use Rattle.mt_model.proofs.Appends.{run-append, acted_append}

said : (i j : Op) (c : Cell) (y : Reply) → Some i ≡ Some j → says i c ≡ y → says j c ≡ y
said i j c y e h = let same : i ≡ j = cc in subst (λ x. says x c ≡ y) same h

says_insert : (r : ℕ) (k v : List ℕ) (row : Option (List ℕ)) (i : Op) (n : Count) → inverse_of (Insert r k v) (done_unless row) ≡ Some i → says i (record { row = inserted v row; count = n }) ≡ Was v
says_insert r k v None i n h = said (Delete r k) i (record { row = Some v; count = n }) (Was v) h refl
says_insert r k v (Some old) i n h = absurd cc

says_update : (r : ℕ) (k v : List ℕ) (row : Option (List ℕ)) (i : Op) (n : Count) → inverse_of (Update r k v) (was row) ≡ Some i → says i (record { row = updated v row; count = n }) ≡ Was v
says_update r k v None i n h = absurd cc
says_update r k v (Some old) i n h = said (Update r k old) i (record { row = Some v; count = n }) (Was v) h refl

says_delete : (r : ℕ) (k : List ℕ) (row : Option (List ℕ)) (i : Op) (n : Count) → inverse_of (Delete r k) (was row) ≡ Some i → says i (record { row = deleted row; count = n }) ≡ Done
says_delete r k None i n h = absurd cc
says_delete r k (Some old) i n h = said (Insert r k old) i (record { row = None; count = n }) Done h refl

says_add : (c : ℕ) (d : ℤ) (row : Option (List ℕ)) (i : Op) (n : Count) (t : Bool) → IsInBounds n → inverse_of (Add c d) (cond t Done OutOfBounds) ≡ Some i
    → says i (record { row = row; count = cond t (moved n d) n }) ≡ Done
says_add c d row i n true within h =
    let fits : stays (moved n d) (neg_ℤ d) ≡ true = stays_back n d within in
    said (Add c (neg_ℤ d)) i (record { row = row; count = moved n d }) Done h (ap (λ t. cond t Done OutOfBounds) fits)
says_add c d row i n false within h = absurd cc

-- what an inverse replies at the cell that its operation left
pub says_back : (op i : Op) (c : Cell) → IsInBounds c.count → inverse_of op (says op c) ≡ Some i → says i (next op c) ≡ inverse_reply op
says_back (Get r k) i c within h = absurd cc
says_back (Read n) i c within h = absurd cc
says_back (Scan r) i c within h = absurd cc
says_back (Insert r k v) i c within h = says_insert r k v c.row i c.count h
says_back (Update r k v) i c within h = says_update r k v c.row i c.count h
says_back (Delete r k) i c within h = says_delete r k c.row i c.count h
says_back (Add n d) i c within h = says_add n d c.row i c.count (stays c.count d) within h

pub reply_back_is : (b : Base) (op i : Op) → IsBase b → inverse_of op (reply_of b op) ≡ Some i → reply_of (base_after b op) i ≡ inverse_reply op
reply_back_is b op i within h =
    let single = undone_no_scan op i (reply_of b op) h in
    let at : object_of i ≡ object_of op = ap (λ (a : Asks). a.object) (inverse_asks op i (reply_of b op) h) in
    let here : cell (base_after b op) (object_of op) ≡ next op (cell b (object_of op)) =
    cell-own b op (object_of op) single ∙ ap (λ t. cond t (next op (cell b (object_of op))) (cell b (object_of op))) (same-self (object_of op)) in
    reply-cell (base_after b op) i (inverse_no_scan op i (reply_of b op) h)
    ∙ (ap (λ x. says i (cell (base_after b op) x)) at
    ∙ (ap (says i) here
    ∙ says_back op i (cell b (object_of op)) (cell_within b (object_of op) within)
    (subst (λ r. inverse_of op r ≡ Some i) (reply-cell b op single) h)))

-- ---- one call

abbrev Back : Base → Call → List Call → Type 0
Back b c ds = IsActed (base_after b c.0) ds × (run (base_after b c.0) ds ≡ b)

one_back : (b : Base) (c : Call) → IsBase b → reply_of b c.0 ≡ c.1 → (x : Option Op) → inverse_of c.0 c.1 ≡ x → Back b c (option_to_list (option_map (λ (i : Op). (i, inverse_reply c.0)) x))
one_back b c within is (Some i) h =
    let does : inverse_of c.0 (reply_of b c.0) ≡ Some i = subst (λ r. inverse_of c.0 r ≡ Some i) (sym is) h in
    ((reply_back_is b c.0 i within does, tt), base_back b c.0 i within does)
one_back b c within is None h =
    (tt, base_effectless b c.0 (subst (λ r. inverse_of c.0 r ≡ None) (sym is) h))

pub goes_back : ((b : Base) (op : Op) → IsBase b → IsBase (base_after b op)) → (b : Base) (cs : List Call) → IsBase b → IsActed b cs → IsActed b (cs ++ calls_back cs) × (run b (cs ++ calls_back cs) ≡ b)
goes_back bounds b [] within acted = (tt, refl)
goes_back bounds b (c ∷ cs) within acted =
    let rest = goes_back bounds (base_after b c.0) cs (bounds b c.0 within) acted.1 in
    let last : List Call = option_to_list (call_back c) in
    let one = one_back b c within acted.0 (inverse_of c.0 c.1) refl in
    let whole : (cs ++ calls_back cs) ++ last ≡ cs ++ (calls_back cs ++ last) = append_assoc cs (calls_back cs) last in
    let back : IsActed (run (base_after b c.0) (cs ++ calls_back cs)) last = subst (λ w. IsActed w last) (sym rest.1) one.0 in (
      (acted.0, subst (IsActed (base_after b c.0)) whole (acted_append (base_after b c.0) (cs ++ calls_back cs) last rest.0 back)),
      sym (ap (run (base_after b c.0)) whole) ∙ (run-append (base_after b c.0) (cs ++ calls_back cs) last ∙ (ap (λ w. run w last) rest.1 ∙ one.1)),
    )

-- ---- operations keep bounds

added_within : (d : ℤ) (n : Count) (t : Bool) → stays n d ≡ t → IsInBounds n → IsInBounds (cond t (moved n d) n)
added_within d n true is h =
    let both = and_parts (int_le n.low (n.number +ℤ d)) (int_le (n.number +ℤ d) n.high) is in
    record { not_under = grind (arith, ints, both.0); not_over = grind (arith, ints, both.1) }
added_within d n false is h = h

chosen_within : (d : ℤ) (n : Count) (t : Bool) → IsInBounds n → IsInBounds (cond t (added d n) n)
chosen_within d n true h = added_within d n (stays n d) refl h
chosen_within d n false h = h

pub bounds_after : (b : Base) (op : Op) → IsBase b → IsBase (base_after b op)
bounds_after b (Get r k) h c = h c
bounds_after b (Insert r k v) h c = h c
bounds_after b (Update r k v) h c = h c
bounds_after b (Delete r k) h c = h c
bounds_after b (Read n) h c = h c
bounds_after b (Scan r) h c = h c
bounds_after b (Add n d) h c = chosen_within d (b.counts c) (n == c) (h c)
