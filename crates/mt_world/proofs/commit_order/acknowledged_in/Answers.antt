use Rattle.std.proofs.Common.{◌∙◌, ◌++◌, add-one, ap, arith, sym, List, ℕ}
use Rattle.mt_world.proofs.OrderLemmas.{acknowledged_next}
use Rattle.mt_world.specs.Reported.{named}
use Rattle.mt_world.proofs.commit_order.acknowledged_in.Goals as goal

pub loop-answer-preserved : goal.loop-answer-preserved
loop-answer-preserved c =
    let answers = c.args.answers.now in let at = c.loop-answer.answer-index in
    rw add-one (c.in_ok-add_named.ensures ∙ ap (λ (ts : List ℕ). ts ++ named c.answer-item.result) c.loop-answer.invariant ∙ sym (acknowledged_next answers at c.answer-item.result (omega arith) c.answer-item.is))
