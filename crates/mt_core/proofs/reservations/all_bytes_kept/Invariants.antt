use Rattle.std.proofs.Common.{◌≡◌, take}
use Rattle.std.specs.List.{sum_by}
use Rattle.mt_live.specs.Members.{noted_calls}
use Rattle.mt_core.specs.Runs.{noted_bytes}
use Rattle.mt_core.proofs.reservations.all_bytes_kept.Given as goal

abbrev pub invariant-loop-at : goal.invariant-loop-at
invariant-loop-at l = l.bytes ≡ sum_by noted_bytes (take l.at (noted_calls l.calls l.roles))
