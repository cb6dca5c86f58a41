-- What one device call of a batch's force does to the log.
use Rattle.std.specs.Prelude.{ℕ, ◌≡◌, ◌⊎◌, true, IsErr, IsOk, List, [], ◌∷◌, ◌++◌, Result, Ok, Err, vec_len, ◌+◌, map, ◌-◌, IfOk, OnErr, OnOk}
use Rattle.mt_base.specs.declared.refusal.Refusal.{Refusal}
use Rattle.mt_log.specs.Area.{Area, AreaAfter, step_behind, ScansWithOrWithout}
use Rattle.mt_log.specs.declared.stage.Step.{Step}
use Rattle.mt_log.specs.declared.stage.Step.TheVariants.{SyncGate, WriteBody}
use Rattle.mt_log.specs.declared.stage.Stage.TheVariants.{Idle, Forcing, Failed}
use Rattle.mt_log.specs.declared.log.Log.{Log}
use Rattle.mt_log.specs.declared.log.Forced.{Forced}
use Rattle.mt_log.specs.declared.log.Forced.TheVariants.{More, Durable, Idle as Nothing}
use Rattle.mt_log.specs.Words.{AreaOf, IsLast}
use Rattle.mt_disk.specs.Calls.{HasFailedSince}
use Rattle.mt_disk.specs.declared.device.Device.{Ghosts}
use Rattle.mt_log.specs.Seen.{LogSeen, is_failed}
use Rattle.mt_disk.specs.Disk.{Elapses, Follows, HasCause, Only, Torn, LeavesOnly}

-- the call went well, and another comes after it
pub record IsOnTheWay (old new : Log) (step : Step) : Type 0 where
  pub not_last : step ≡ SyncGate → ⊥
  pub stage : new.stage ≡ Forcing (step_behind step)
  pub next : new.next ≡ old.next
  pub batches : new.batches ≡ old.batches
  pub in_flight : new.in_flight ≡ old.in_flight

-- it was the last one: the batch is durable, and its last record is the one at this place
pub record HasArrived (old new : Log) (step : Step) (at : ℕ) : Type 0 where
  pub last : step ≡ SyncGate
  pub stage : new.stage ≡ Idle
  pub next : new.next ≡ old.behind
  pub batches : new.batches.items ≡ old.batches.items ++ old.in_flight ∷ []
  pub in_flight : new.in_flight.items ≡ []
  pub place : at ≡ old.batched

-- the device failed
pub record HasStopped (old new : Log) (refusal : Refusal) : Type 0 where
  pub why : refusal ≡ Refusal.DeviceFailed
  pub stage : new.stage ≡ Failed
  pub next : new.next ≡ old.next
  pub batches : new.batches ≡ old.batches
  pub in_flight : new.in_flight ≡ old.in_flight

-- what the answer says of the batch
abbrev pub HasCome : Log → Step → Result Forced Refusal → Log → Type 0
HasCome old step (Ok More) new = IsOnTheWay old new step
HasCome old step (Ok (Durable at)) new = HasArrived old new step at
HasCome old step (Ok Nothing) new = ⊥
HasCome old step (Err refusal) new = HasStopped old new refusal

-- and what is not of the batch stays
pub record IsCall (old : Log) (step : Step) (result : Result Forced Refusal) (new : Log) : Type 0 where
  pub place : new.place ≡ old.place
  pub waiting : new.waiting ≡ old.waiting
  pub count : new.waiting_count ≡ old.waiting_count
  pub pending : new.pending ≡ old.pending
  pub behind : new.behind ≡ old.behind
  pub came : HasCome old step result new

-- the records that wait are the batch that is forced
pub record Seals (old new : Log) : Type 0 where
  pub stage : new.stage ≡ Forcing WriteBody
  pub place : new.place ≡ old.place
  pub next : new.next ≡ old.next
  pub in_flight : new.in_flight.items ≡ old.waiting.items
  pub waiting : new.waiting.items ≡ []
  pub batches : new.batches ≡ old.batches
  pub count : new.waiting_count ≡ 0
  pub size : vec_len new.pending ≡ 4
  pub behind : new.behind ≡ old.behind + 1 + vec_len old.pending

-- the device call of a step: the area is as after that step, or as the device has left it
pub record CallsDevice {D T F : Type 0} (g : Ghosts D) (log : Log) (step : Step) (d e : D)
    (r : Result T F) : Type 0 where
  pub done : OnOk r (AreaAfter step (g.seen e) (g.may_leave e) log.place.start log.place.end log.next
      (map (λ batch. batch.items) log.batches.items) log.in_flight.items)
  pub failed : OnErr r (Area (g.seen e) (g.may_leave e) log.place.start log.place.end log.next
      (map (λ batch. batch.items) log.batches.items) log.in_flight.items Failed)
  pub time : Elapses (g.moment d) (g.moment e) (g.left_since d) (g.left_since e) (g.may_leave e)
  pub elsewhere : Follows (Torn log.place.start (log.place.end - log.place.start)) (g.may_leave d) (g.may_leave e)
  pub rest : Torn log.place.start (log.place.end - log.place.start) (g.seen d) (g.seen e)
  pub alone : step ≡ SyncGate → OnOk r (Only (g.seen e) (g.may_leave e))
  pub cause : HasCause (g.faults d) (g.faults e) r

-- a device call of a step, with what it comes to
pub record MakesCall {D : Type 0} (g : Ghosts D) (old new : Log) (step : Step) (d e : D)
    (r : Result Forced Refusal) : Type 0 where
  pub on : AreaOf (g.seen e) (g.may_leave e) new
  pub call : IsCall old step r new
  pub moments : LeavesOnly g.moment g.left_since d e (ScansWithOrWithout old.place.start old.place.end
      (map (λ batch. batch.items) old.batches.items) old.in_flight.items)
  pub time : Elapses (g.moment d) (g.moment e) (g.left_since d) (g.left_since e) (g.may_leave e)
  pub elsewhere : Follows (Torn old.place.start (old.place.end - old.place.start)) (g.may_leave d) (g.may_leave e)
  pub rest : Torn old.place.start (old.place.end - old.place.start) (g.seen d) (g.seen e)
  pub alone : IfOk r (λ forced. IsLast forced → Only (g.seen e) (g.may_leave e))
  pub cause : HasCause (g.faults d) (g.faults e) r

-- A step of a force fails if and only if the device failed in it or before.
pub record ReportsFault {D T F : Type 0} (g : Ghosts D) (was : LogSeen) (d e : D) (r : Result T F) : Type 0 where
  pub cause : IsErr r → HasFailedSince g d e ⊎ (is_failed was.stage ≡ true)
  pub quiet : IsOk r → g.faults e ≡ g.faults d
