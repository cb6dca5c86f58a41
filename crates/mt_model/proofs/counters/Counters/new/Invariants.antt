use Rattle.std.proofs.Common.{◌≡◌, map, take}
use Rattle.mt_model.specs.Tables.{started}
use Rattle.mt_model.proofs.counters.Counters.new.Given as goal

abbrev pub invariant-loop-low : goal.invariant-loop-low
invariant-loop-low l = l.list.items ≡ map started (take l.low-index l.bounds)
