use Rattle.std.proofs.Common.{◌≡◌, ◌==◌, ℕ, true, false, cond, List, [], ◌∷◌, ◌++◌, ◌+◌, take, get_or, length, ap, sym, ◌∙◌, subst, arith}
use Rattle.std.proofs.lemmas.List.{take_all, append-nil}
use Rattle.mt_rows.specs.declared.rows.Row.{Row}
use Rattle.mt_rows.specs.Rows.{IsOrdered}
use Rattle.mt_rows.specs.Listing.{of_relation}
use Rattle.mt_rows.proofs.Relations.{filter_ordered, of_relation_more}
use Rattle.mt_rows.proofs.rows.Rows.of_relation.Goals as goal
use Rattle.mt_rows.proofs.rows.Rows.of_relation.Goals.{then-eq+in_ok-try_clone+in_ok-push, else-eq}

pub loop-row-preserved : goal.loop-row-preserved
loop-row-preserved c =
    let xs : List Row = c.args.self.now in
    let r : ℕ = c.args.relation in
    let i : ℕ = c.loop-row.row-index in
    let items : c.deref-row-items.result.now ≡ xs = c.deref-row-items.ensures.value ∙ c.self.view_is in
    let x : Row = c.row-item.result in
    let at : x ≡ get_or xs i x = c.row-item.is ∙ ap (λ ys. get_or ys i x) items in
    let more : of_relation r (take (i + 1) xs) ≡ of_relation r (take i xs) ++ cond (x.relation == r) (x ∷ []) [] =
    of_relation_more r xs i x at (omega (arith, ap (length {A = Row}) items)) in
    elim c.if-eq.branch [
      | then-eq+in_ok-try_clone+in_ok-push w ↦ (
          let test : (x.relation == r) ≡ true = sym c.eq.ensures ∙ w.if-eq.true in
          let pushed = w.in_ok-push.ensures.items in
          let copy = w.in_ok-try_clone.ensures in
          let list = w.list-is in
          let sofar = c.loop-row.invariant in
          let whole : of_relation r (take (i + 1) xs) ≡ of_relation r (take i xs) ++ x ∷ [] = more ∙ ap (λ t. of_relation r (take i xs) ++ cond t (x ∷ []) []) test in
          cc)
      | else-eq w ↦ (
          let test : (x.relation == r) ≡ false = sym c.eq.ensures ∙ w.if-eq.false in
          let list = w.list-is in
          let sofar = c.loop-row.invariant in
          let whole : of_relation r (take (i + 1) xs) ≡ of_relation r (take i xs) = more ∙ (ap (λ t. of_relation r (take i xs) ++ cond t (x ∷ []) []) test ∙ append-nil (of_relation r (take i xs))) in
          cc)
    ]

pub invariant_of-result : goal.invariant_of-result
invariant_of-result c =
    let xs : List Row = c.args.self.now in
    let items : c.deref-row-items.result.now ≡ xs = c.deref-row-items.ensures.value ∙ c.self.view_is in
    let ordered : IsOrdered xs = subst IsOrdered c.self.view_is c.self.invariant in
    let all : take c.loop-row.row-index xs ≡ xs = take_all c.loop-row.row-index xs (omega (arith, ap (length {A = Row}) items)) in
    subst IsOrdered (sym (c.loop-row.invariant ∙ ap (of_relation c.args.relation) all)) (filter_ordered (λ (x : Row). x.relation == c.args.relation) xs ordered)
