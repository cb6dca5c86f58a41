use Rattle.std.proofs.Common.{◌≡◌, take}
use Rattle.mt_world.specs.Heard.{reported_by}
use Rattle.mt_world.specs.Reported.{reported_of}
use Rattle.mt_world.proofs.commit_order.commit_reported.Given as goal

abbrev pub invariant-loop-i : goal.invariant-loop-i
invariant-loop-i l = reported_by l.heard ≡ reported_of (take l.i l.events) (take l.i l.answers) l.txn
