use Rattle.std.proofs.Common.{◌∙◌, ◌++◌, add-one, ap, arith, map, sym, take, List, ℕ}
use Rattle.std.proofs.lemmas.List.{map-append}
use Rattle.mt_model.specs.declared.history.Committed.{Committed}
use Rattle.mt_world.proofs.OrderLemmas.{committing_next}
use Rattle.mt_world.specs.Reported.{commit_of, committing, started_by, reported_of}
use Rattle.mt_world.proofs.commit_order.commits_reported.Goals as goal

pub loop-i-preserved : goal.loop-i-preserved
loop-i-preserved c =
    let events = c.args.events.now in let answers = c.args.answers.now in let at = c.loop-i.i in
    let event = c.index-events-i.result in let answer = c.index-answers-i.result in
    let outcome : ℕ → Committed = λ t. commit_of (reported_of events answers t) in
    rw add-one (c.in_ok-add_started.ensures.added ∙ ap (λ (cs : List Committed). cs ++ map outcome (started_by event answer)) c.loop-i.invariant
    ∙ sym (ap (λ (ts : List ℕ). map outcome ts) (committing_next events answers c.requires.same at (omega arith) event answer c.index-events-i.is c.index-answers-i.is)
    ∙ map-append outcome (committing (take at events) (take at answers)) (started_by event answer)))
