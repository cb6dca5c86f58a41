-- A run that is stopped, and what a crash leaves then.
use Rattle.std.specs.Prelude.{ℕ, ◌≡◌, ◌≤◌, ◌+◌, ◌-◌, ◌^◌, min, List, length, take}
use Rattle.mt_disk.specs.LeftBy.{LeftBy}
use Rattle.mt_disk.specs.Memory.{MayLeave}
use Rattle.mt_disk.specs.declared.device.Device.{Ghosts}
use Rattle.mt_disk.specs.declared.memory.Fill.{Fill}
use Rattle.mt_disk.specs.declared.memory.MemDevice.{MemDevice}
use Rattle.mt_model.specs.History.{after}
use Rattle.mt_model.specs.declared.history.Committed.{Committed}
use Rattle.mt_replay.specs.Stands.{CanRestart}
use Rattle.mt_format.specs.Schemas.{counters_in, relations_in, schema_base}
use Rattle.mt_format.specs.declared.schema.Schema.{Schema}
use Rattle.mt_txn.specs.declared.kernel.Kernel.{Kernel}
use Rattle.mt_world.specs.Crashes.{HasBegun}
use Rattle.mt_world.specs.Schedules.{HasRunTo}
use Rattle.mt_restart.specs.Standings.{device_at}
use Rattle.mt_world.specs.Stopping.{StopsAt, below, taken_by}
use Rattle.mt_world.specs.Reported.{acknowledged, commit_order}
use Rattle.mt_world.specs.declared.crash.CrashRun.{CrashRun}
use Rattle.mt_world.specs.declared.events.Answer.{Answer}
use Rattle.mt_world.specs.declared.events.Event.{Event}
use Rattle.mt_restart.specs.declared.standing.Standing.{Standing}
use Rattle.mt_world.specs.declared.stopping_device.StoppingDevice.{StoppingDevice}
use Rattle.mt_txn.specs.Shown.{kernel_device}

-- A restart finds in these bytes what some of the first of these commits lead to from the schema's first base, and so
-- many of them at least.
pub record FindsFirst (s : Schema) (least : ℕ) (order : List Committed) (c : List ℕ) : Type 0 where
  pub count : ℕ
  pub past : least ≤ count
  pub within : count ≤ length order
  pub finds : CanRestart (relations_in s) (length (counters_in s)) c (after (schema_base s) (take count order))

-- The events were made, as their answers say, over a device that takes so many writes and syncs. A crash may leave
-- this content of the device in memory below it, and does if each write since the last sync leaves what `fill` says.
pub record IsStoppedRun (g : Ghosts (StoppingDevice MemDevice)) (s : Schema) (events : List Event) (limit : ℕ)
    (fill : Fill) (run : CrashRun) : Type 0 where
  pub answers : List Answer
  pub standing : Standing (StoppingDevice MemDevice) g
  pub ran : HasRunTo (relations_in s) (length (counters_in s)) (schema_base s) events answers standing
  pub stops : StopsAt limit (device_at standing)
  pub may : MayLeave (below (device_at standing)) run.content.items
  pub left : LeftBy (below (device_at standing)) fill run.content.items
  -- of the commits that have begun, in the order in which they did, so many were acknowledged
  pub order : run.order.items ≡ commit_order events answers
  pub acked : run.acked ≡ length (acknowledged answers)
  pub found : FindsFirst s run.acked run.order.items run.content.items

-- A device of this kind was formatted by the schema, and a kernel was opened on it, in so many writes and syncs.
pub record BeginsWithin (g : Ghosts (StoppingDevice MemDevice)) (s : Schema) (calls : ℕ) : Type 0 where
  pub device : StoppingDevice MemDevice
  pub unused : taken_by device ≡ 0
  pub kernel : Kernel (StoppingDevice MemDevice) g
  pub begun : HasBegun s device kernel
  pub took : taken_by (kernel_device kernel) ≡ calls

-- So it was with a device that takes so many calls more than a format and an opening took; no device takes more than
-- 64 bits count.
pub record IsCrashRun (g : Ghosts (StoppingDevice MemDevice)) (s : Schema) (events : List Event) (calls : ℕ)
    (fill : Fill) (run : CrashRun) : Type 0 where
  pub before : ℕ
  pub begins : BeginsWithin g s before
  pub stopped : IsStoppedRun g s events (min (before + calls) (2 ^ 64 - 1)) fill run
