use Rattle.mt_locked.proofs.Counts.{HasNoneOf}
use Rattle.mt_locked.proofs.returned_passes.has_number.Given as goal

abbrev pub invariant-passes : goal.invariant-passes
invariant-passes g l = HasNoneOf l.number l.pass-index l.passes
