-- One transaction's entries moved before the others'.
use Rattle.std.proofs.Common.{◌≡◌, ℕ, ℤ, ◌+ℤ◌, Bool, true, false, cond, not, List, [], ◌∷◌, refl, ap, sym, ◌∙◌, subst, arith}
use Rattle.std.proofs.lemmas.Int.{ints}
use Rattle.mt_model.specs.declared.operations.Op.{Op}
use Rattle.mt_model.specs.declared.operations.Op.TheVariants.{Get, Insert, Update, Delete, Add, Read, Scan}
use Rattle.mt_model.specs.Model.{moved}
use Rattle.mt_model.specs.Escrow.{total}
use Rattle.mt_model.proofs.Cells.{Cell}
use Rattle.mt_model.specs.declared.objects.Object.{Object}
use Rattle.mt_live.specs.Entries.{Entry, kept, struck}
use Rattle.mt_live.specs.Sound.{Each, IsDone}
use Rattle.mt_live.proofs.Ballots.{Stays}
use Rattle.mt_live.proofs.Entries.{cell_runs, AreCellActed}
use Rattle.mt_live.proofs.Shapes.{each_filter, AllAgree, Shape, Owned, Reads, Adds, shape}
use Rattle.mt_live.proofs.AtCell.{with_step, steps, moved_cell, moved_cell-moved, count_run, adds_run, adds_acted, reads_run, reads_acted, owned_kept, strikes}

-- the sum of a list's steps, from those that stay and those that are struck out
left_step : (op : Op) (a s r : List ℤ) → total a ≡ total s +ℤ total r → total (with_step op a) ≡ total (with_step op s) +ℤ total r
left_step (Add n d) a s r h = omega (arith, ints, h)
left_step (Get k l) a s r h = h
left_step (Insert k l v) a s r h = h
left_step (Update k l v) a s r h = h
left_step (Delete k l) a s r h = h
left_step (Read n) a s r h = h
left_step (Scan q) a s r h = h

right_step : (op : Op) (a s r : List ℤ) → total a ≡ total s +ℤ total r → total (with_step op a) ≡ total s +ℤ total (with_step op r)
right_step (Add n d) a s r h = omega (arith, ints, h)
right_step (Get k l) a s r h = h
right_step (Insert k l v) a s r h = h
right_step (Update k l v) a s r h = h
right_step (Delete k l) a s r h = h
right_step (Read n) a s r h = h
right_step (Scan q) a s r h = h

cond_sum : (t : Bool) (e : Entry) (a s r : List Entry) → total (steps a) ≡ total (steps s) +ℤ total (steps r) → total (steps (e ∷ a)) ≡ total (steps (cond t (e ∷ s) s)) +ℤ total (steps (cond (not t) (e ∷ r) r))
cond_sum true e a s r h = left_step e.op (steps a) (steps s) (steps r) h
cond_sum false e a s r h = right_step e.op (steps a) (steps s) (steps r) h

pub sum_parts : (p : ℕ → Bool) (es : List Entry) → total (steps es) ≡ total (steps (kept p es)) +ℤ total (steps (struck p es))
sum_parts p [] = refl
sum_parts p (e ∷ es) = cond_sum (p e.txn) e es (kept p es) (struck p es) (sum_parts p es)

abbrev Moved : Object → Cell → (ℕ → Bool) → List Entry → Type 0
Moved o c p es = AreCellActed o (cell_runs c (kept p es)) (struck p es) × (cell_runs (cell_runs c (kept p es)) (struck p es) ≡ cell_runs c es)

pub record Moves (o : Object) (c : Cell) (p : ℕ → Bool) (es : List Entry) : Type 0 where
  pub acted : AreCellActed o (cell_runs c (kept p es)) (struck p es)
  pub same : cell_runs (cell_runs c (kept p es)) (struck p es) ≡ cell_runs c es

pub moves : (o : Object) (c : Cell) (es : List Entry) → AllAgree es → Each IsDone es → ((p : ℕ → Bool) → Stays c.count (steps (kept p es))) → AreCellActed o c es → (p : ℕ → Bool)
    → Stays (moved c.count (total (steps (kept p es)))) (steps (struck p es)) → Moves o c p es
moves o c es ag d room a p after =
    let k : AreCellActed o c (kept p es) = strikes o c es ag d room a p in
    let r : Stays (cell_runs c (kept p es)).count (steps (struck p es)) =
    subst (λ n. Stays n (steps (struck p es))) (sym (count_run o c (kept p es) k (each_filter _ (λ e. p e.txn) es d))) after in
    let m = go (shape es ag) k r in
    record { acted = m.0; same = m.1 }
  where
    whole : (u : ℕ) → Each (λ e. e.txn ≡ u) es → (b : Bool) → p u ≡ b → Moved o c p es
    whole u h true t =
        let x : kept p es ≡ es = owned_kept p es u h true t in
        let y : struck p es ≡ [] = owned_kept (λ v. not (p v)) es u h false (ap not t) in (
          subst (λ w. AreCellActed o (cell_runs c (kept p es)) w) (sym y) tt,
          ap (λ w. cell_runs (cell_runs c (kept p es)) w) y ∙ ap (cell_runs c) x,
        )
    whole u h false t =
        let x : kept p es ≡ [] = owned_kept p es u h false t in
        let y : struck p es ≡ es = owned_kept (λ v. not (p v)) es u h true (ap not t) in (
          subst (λ w. AreCellActed o (cell_runs c w) (struck p es)) (sym x) (subst (λ w. AreCellActed o c w) (sym y) a),
          ap (λ w. cell_runs (cell_runs c w) (struck p es)) x ∙ ap (cell_runs c) y,
        )

    go : Shape es → AreCellActed o c (kept p es) → Stays (cell_runs c (kept p es)).count (steps (struck p es)) → Moved o c p es
    go (Owned u h) k r = whole u h (p u) refl
    go (Reads h) k r =
        let x : cell_runs c (kept p es) ≡ c = reads_run c (kept p es) (each_filter _ (λ e. p e.txn) es h) in (
          subst (λ w. AreCellActed o w (struck p es)) (sym x) (reads_acted (λ e. not (p e.txn)) o c es h a),
          reads_run (cell_runs c (kept p es)) (struck p es) (each_filter _ (λ e. not (p e.txn)) es h) ∙ (x ∙ sym (reads_run c es h)),
        )
    go (Adds h) k r =
        let hk = each_filter _ (λ e. p e.txn) es h in
        let hs = each_filter _ (λ e. not (p e.txn)) es h in
        let dk = each_filter _ (λ e. p e.txn) es d in
        let ds = each_filter _ (λ e. not (p e.txn)) es d in
        let as' : AreCellActed o (cell_runs c (kept p es)) (struck p es) = adds_acted o (cell_runs c (kept p es)) (struck p es) hs ds r in (
          as',
          adds_run o (cell_runs c (kept p es)) (struck p es) hs as' ds
              ∙ (ap (λ w. moved_cell w (total (steps (struck p es)))) (adds_run o c (kept p es) hk k dk)
              ∙ (moved_cell-moved c (total (steps (kept p es))) (total (steps (struck p es)))
              ∙ (ap (moved_cell c) (sym (sum_parts p es))
              ∙ sym (adds_run o c es h a d)))),
        )
