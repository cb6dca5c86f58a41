-- One step of a force, as a log is seen.
use Rattle.std.specs.Prelude.{ℕ, ◌≡◌, ◌<◌, [], length, Result, Ok, Err}
use Rattle.mt_base.specs.declared.refusal.Refusal.{Refusal}
use Rattle.mt_log.specs.Area.{step_behind}
use Rattle.mt_log.specs.Batch.{joined}
use Rattle.mt_log.specs.Seen.{LogSeen, begun, landed}
use Rattle.mt_log.specs.declared.log.Forced.{Forced}
use Rattle.mt_log.specs.declared.log.Forced.TheVariants.{More, Durable, Idle as Nothing}
use Rattle.mt_log.specs.declared.stage.Step.{Step}
use Rattle.mt_log.specs.declared.stage.Step.TheVariants.{SyncGate}
use Rattle.mt_log.specs.declared.stage.Stage.TheVariants.{Idle, Forcing, Failed}

-- nothing is to be forced
pub record StaysIdle (old new : LogSeen) : Type 0 where
  pub stage : old.stage ≡ Idle
  pub none : old.waits ≡ []
  pub still : new ≡ old

-- a device call of a force, begun now or before, with another to come after it
pub record GoesOn (old new : LogSeen) : Type 0 where
  pub step : Step
  pub not_last : step ≡ SyncGate → ⊥
  pub was : (begun old).stage ≡ Forcing step
  pub some : old.stage ≡ Idle → 0 < length old.waits
  pub now : new ≡ record (begun old) { stage = Forcing (step_behind step) }

-- the last call of a force: so many records are durable
pub record Lands (old new : LogSeen) (at : ℕ) : Type 0 where
  pub last : old.stage ≡ Forcing SyncGate
  pub now : new ≡ landed old
  pub place : at ≡ length (joined new.batches)

-- the device failed, now or before
pub record Stops (old new : LogSeen) (why : Refusal) : Type 0 where
  pub only_device : why ≡ Refusal.DeviceFailed
  pub some : old.stage ≡ Idle → 0 < length old.waits
  pub now : new ≡ record (begun old) { stage = Failed }

-- What a step of a force did, by its answer: there was nothing to force, it goes on, all that waited is durable up to
-- this place, or the device failed.
abbrev pub ForceSteps : LogSeen → LogSeen → Result Forced Refusal → Type 0
ForceSteps old new (Ok Nothing) = StaysIdle old new
ForceSteps old new (Ok More) = GoesOn old new
ForceSteps old new (Ok (Durable at)) = Lands old new at
ForceSteps old new (Err why) = Stops old new why
