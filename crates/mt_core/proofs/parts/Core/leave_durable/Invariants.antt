use Rattle.std.proofs.Common.{◌≡◌, ◌+◌, ◌-◌, ◌≤◌, length, vec_len, vec_capacity}
use Rattle.mt_log.specs.Words.{durable}
use Rattle.mt_core.specs.Booked.{durable_count}
use Rattle.mt_core.specs.Consistent.{SameUncommitted}
use Rattle.mt_core.specs.Restartable.{StaysRestartable}
use Rattle.mt_core.specs.Work.{LeavesUndo}
use Rattle.mt_core.proofs.Durables.{HaveLeft}
use Rattle.mt_core.proofs.parts.Core.leave_durable.Given as goal

abbrev pub invariant-loop-booked : goal.invariant-loop-booked
invariant-loop-booked g l = record {
  left : HaveLeft g.D.Device l.initial.self l.self l._booked l.initial.names.items l.names.items;
  room : vec_len l.names + (length l.initial.self.commits.items - l._booked) ≤ vec_capacity l.names;
  store : l.self.operations.store ≡ l.initial.self.operations.store;
  running : l.self.running ≡ l.initial.self.running;
  numbers : l.self.last ≡ l.initial.self.last;
  states : SameUncommitted l.initial.self l.self;
  undo : LeavesUndo l.initial.self l.self;
  restarts : l.count ≤ durable_count l.initial.self.commits.items (length (durable l.initial.self.operations.store.log)) → StaysRestartable g.D.Device l.initial.self l.self;
  count : l.count ≤ length l.initial.self.commits.items;
}
