use Rattle.std.proofs.Common.{◌≤◌, ◌+◌, ◌-◌, vec_len, vec_capacity}
use Rattle.mt_steps.specs.Listed.{AreBounds}
use Rattle.mt_steps.proofs.listed_base.bounds_in.Given as goal

abbrev pub invariant-loop-number : goal.invariant-loop-number
invariant-loop-number l = record {
  bounds : AreBounds l.page l.number l.bounds.items;
  room : vec_len l.bounds + (l.counters - l.number) ≤ vec_capacity l.bounds;
}
