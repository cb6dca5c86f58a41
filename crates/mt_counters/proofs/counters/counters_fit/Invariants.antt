use Rattle.std.proofs.Common.{All, take}
use Rattle.mt_base.specs.Limits.{IsCounter}
use Rattle.mt_counters.proofs.counters.counters_fit.Given as goal

abbrev pub invariant-loop-low : goal.invariant-loop-low
invariant-loop-low l = All (λ t. IsCounter t.0 t.1 t.2) (take l.low-index l.counters)
