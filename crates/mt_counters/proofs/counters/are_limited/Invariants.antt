use Rattle.std.proofs.Common.{◌<◌, ℕ}
use Rattle.mt_model.specs.Tables.{IsLimited}
use Rattle.mt_counters.specs.Counters.{count_in}
use Rattle.mt_counters.proofs.counters.are_limited.Given as goal

abbrev pub invariant-loop-c : goal.invariant-loop-c
invariant-loop-c l = (k : ℕ) → k < l.c → IsLimited (count_in l.page k)
