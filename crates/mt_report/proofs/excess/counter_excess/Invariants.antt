use Rattle.std.proofs.Common.{◌≡◌, drop}
use Rattle.mt_report.specs.Excess.{counter_excess}
use Rattle.mt_report.proofs.excess.counter_excess.Given as goal

abbrev pub invariant-loop-low : goal.invariant-loop-low
invariant-loop-low l = counter_excess (drop l.low-index l.counters) ≡ counter_excess l.counters
