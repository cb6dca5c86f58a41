use Rattle.std.proofs.Common.{◌≡◌, take}
use Rattle.mt_live.specs.Members.{noted_calls, last_place}
use Rattle.mt_live.proofs.transactions.last_place.Given as goal

abbrev pub invariant-loop-at : goal.invariant-loop-at
invariant-loop-at l = l.last ≡ last_place (take l.at (noted_calls l.calls l.roles))
