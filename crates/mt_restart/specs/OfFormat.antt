-- What a restart finds on a device of a format.
use Rattle.std.specs.Prelude.{◌≡◌, ◌≢◌, ◌⊎◌, ◌<◌, ℕ, List, Result, Err, IfErr, IfOk}
use Rattle.mt_base.specs.declared.format.Format.{Format}
use Rattle.mt_base.specs.declared.refusal.Refusal.{Refusal}
use Rattle.mt_base.specs.declared.refusal.Refusal.TheVariants.{DeviceFailed, NoMemory, NotFormatted, WrongFormat}
use Rattle.mt_disk.specs.declared.device.Device.{Ghosts}
use Rattle.mt_frame.specs.declared.slots.MasterSlot.{MasterSlot}
use Rattle.mt_log.specs.Masters.{IsRuling, IsUnformatted}
use Rattle.mt_log.specs.Quiet.{OnlyReads}
use Rattle.mt_model.specs.Model.{Base}
use Rattle.mt_replay.specs.Marking.{IsMarked}
use Rattle.mt_replay.specs.Refused.{BreaksFormat, IsCause, IsReplayed}
use Rattle.mt_replay.specs.Stands.{CanReplay, ShowsBase}
use Rattle.mt_replay.specs.declared.device_replay.Replayed.{Replayed}

-- the slot that rules these bytes is of another format than this
abbrev pub HasOtherFormat : Format → List ℕ → Type 0
HasOtherFormat format c = (slot : MasterSlot) × IsRuling c slot × (slot.format ≢ format)

-- bytes that are not formatted are reported as such, unless the device failed
abbrev pub SaysUnformatted : List ℕ → Refusal → Type 0
SaysUnformatted c why = IsUnformatted c → (why ≡ NotFormatted) ⊎ (why ≡ DeviceFailed)

-- and so are bytes of another format
abbrev pub SaysOther : Format → List ℕ → Refusal → Type 0
SaysOther format c why = HasOtherFormat format c → (why ≡ WrongFormat) ⊎ (why ≡ DeviceFailed)

-- The passes of a restart are made in memory, if the bytes are of this format; else it is reported that they are of
-- another, before their log is looked at. The device is only read.
pub record ReplaysOf {D : Type 0} (g : Ghosts D) (format : Format) (d e : D)
    (r : Result Replayed Refusal) : Type 0 where
  pub replayed : IfOk r (λ x. IsReplayed (g.seen d) x.ruling x.restored.pages.items)
  pub marked : IfOk r (λ x. IsMarked (g.seen d) x.ruling x.restored.pages.items x.imaged.items x.lost.items)
  pub has_format : IfOk r (λ x. x.ruling.format ≡ format)
  pub found : (relations counters : ℕ) (b : Base) → CanReplay format relations counters (g.seen d) b
      → IfOk r (λ x. ShowsBase relations counters x.restored.pages.items b)
  pub no_other_refusal : (relations counters : ℕ) (b : Base) → CanReplay format relations counters (g.seen d) b
      → IfErr r (λ why. (why ≡ NoMemory) ⊎ (why ≡ DeviceFailed))
  pub reads : OnlyReads g d e
  pub cause : IfErr r (λ why. IsCause BreaksFormat (g.seen d) (g.faults d < g.faults e) why
      ⊎ ((why ≡ WrongFormat) × HasOtherFormat format (g.seen d)))
  pub unformatted : IfErr r (SaysUnformatted (g.seen d))
  pub other : IfErr r (SaysOther format (g.seen d))
  pub none_other : IfOk r (λ _. HasOtherFormat format (g.seen d) → ⊥)
  pub quiet : (r ≡ Err DeviceFailed → ⊥) → g.faults e ≡ g.faults d
