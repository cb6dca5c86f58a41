use Rattle.std.proofs.Common.{◌∙◌, add-one, ap, arith, sym}
use Rattle.mt_world.proofs.OrderLemmas.{reported_next}
use Rattle.mt_world.specs.Reported.{Reported, with_answer}
use Rattle.mt_world.proofs.commit_order.commit_reported.Goals as goal

pub loop-i-preserved : goal.loop-i-preserved
loop-i-preserved c =
    let event = c.index-events-i.result in let answer = c.index-answers-i.result in
    rw add-one (c.in_ok-hear.ensures ∙ ap (λ (x : Reported). with_answer c.args.txn x event answer) c.loop-i.invariant
    ∙ sym (reported_next c.args.events.now c.args.answers.now c.requires.same c.loop-i.i (omega arith) event answer c.index-events-i.is c.index-answers-i.is c.args.txn))
