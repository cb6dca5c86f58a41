use Rattle.std.proofs.Common.{◌≤◌, ◌+◌, ◌-◌, take, length, vec_len, vec_capacity}
use Rattle.mt_live.specs.Machine.{start}
use Rattle.mt_model.specs.Model.{Base}
use Rattle.mt_txn.specs.Shown.{Restarts, Shows}
use Rattle.mt_world.specs.Crashes.{FindsSince}
use Rattle.mt_world.specs.Schedules.{IsOfSchema}
use Rattle.mt_world.proofs.StandingLemmas.{RunsTo}
use Rattle.mt_world.proofs.schedules.make_all.Given as goal

abbrev pub invariant-loop-event : goal.invariant-loop-event
invariant-loop-event g l = let D = g.D.Device in let k = l.fn.kernel in record {
  runs : (since : _) (first : Base) → Shows first (start first) k → Restarts first k → FindsSince since first k
      → RunsTo D g.met.D.Device.only_now k.relations k.counters since first (take l.event-index l.events) l.answers.items l.standing;
  schema : IsOfSchema k.relations k.counters l.standing;
  room : vec_len l.answers + (length l.events - l.event-index) ≤ vec_capacity l.answers;
}
