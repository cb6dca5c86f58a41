use Rattle.std.proofs.Common.{◌≡◌, map, take}
use Rattle.mt_world.specs.Reported.{commit_of, committing, reported_of}
use Rattle.mt_world.proofs.commit_order.commits_reported.Given as goal

abbrev pub invariant-loop-i : goal.invariant-loop-i
invariant-loop-i l = l.all.items ≡ map (λ t. commit_of (reported_of l.events l.answers t)) (committing (take l.i l.events) (take l.i l.answers))
