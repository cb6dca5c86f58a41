use Rattle.std.proofs.Common.{◌≡◌, ◌<◌, ◌+◌, ◌++◌, ◌∷◌, [], List, length, take, take-suc, add-one, sym, ◌∙◌, ap, subst}
use Rattle.mt_plock.specs.declared.guards.PageLock.{PageLock}
use Rattle.mt_plock.proofs.Finding.{Finds, finds_past, finds_more}
use Rattle.mt_plock.proofs.table.PageLocks.least_holder.Goals as goal
use Rattle.mt_plock.proofs.table.PageLocks.least_holder.Goals.{then-is_held_against, else-is_held_against}

pub loop-held-preserved : goal.loop-held-preserved
loop-held-preserved c =
    let locks : List PageLock = c.deref-held-items.result.now in
    let i = c.loop-held.held-index in
    let held : PageLock = c.held-item.result in
    let lt : i < length locks = c.loop-held-test.true in
    let longer : take (i + 1) locks ≡ take i locks ++ held ∷ [] =
    rw add-one (take-suc locks i held lt ∙ ap (λ (l : PageLock). take i locks ++ l ∷ []) (sym c.held-item.is)) in
    let found : Finds c.args.asked.now (take i locks ++ held ∷ []) c.if-is_held_against.least =
    elim c.if-is_held_against.branch [
      | then-is_held_against w ↦
          subst (λ found. Finds c.args.asked.now (take i locks ++ held ∷ []) found) (sym (w.least-is ∙ w.lesser-least.ensures))
          (finds_more c.args.asked.now (take i locks) held c.loop-held.least (sym c.is_held_against.ensures ∙ w.if-is_held_against.true) c.loop-held.invariant)
      | else-is_held_against w ↦
          subst (λ found. Finds c.args.asked.now (take i locks ++ held ∷ []) found) (sym w.least-is)
          (finds_past c.args.asked.now (take i locks) held c.loop-held.least (sym c.is_held_against.ensures ∙ w.if-is_held_against.false) c.loop-held.invariant)
    ] in
    subst (λ ls. Finds c.args.asked.now ls c.if-is_held_against.least) (sym longer) found
