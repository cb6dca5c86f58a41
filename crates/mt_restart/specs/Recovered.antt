-- What a recovery makes of a device.
use Rattle.std.specs.Prelude.{◌≡◌, ◌≢◌, ◌⊎◌, ◌<◌, ℕ, Bool, List, Result, Err, IfErr, IfOk, OnOk, length}
use Rattle.mt_disk.specs.declared.device.Device.{Ghosts}
use Rattle.mt_base.specs.declared.format.Format.TheVariants.{Two}
use Rattle.mt_base.specs.declared.refusal.Refusal.{Refusal}
use Rattle.mt_base.specs.declared.refusal.Refusal.TheVariants.{LogFull, NoMemory, WrongFormat}
use Rattle.mt_frame.specs.declared.records.Record.{Record}
use Rattle.mt_frame.specs.declared.slots.MasterSlot.{MasterSlot}
use Rattle.mt_disk.specs.Disk.{LeavesOnly, Only}
use Rattle.mt_log.specs.Masters.{IsRuling}
use Rattle.mt_log.specs.NextSlot.{next_slot}
use Rattle.mt_log.specs.Quiet.{OnlyReads, OnlyReadsOrSyncs}
use Rattle.mt_model.specs.Model.{Base}
use Rattle.mt_page_rules.specs.Checks.{AreChecked}
use Rattle.mt_replay.specs.Marking.{IsMarked}
use Rattle.mt_replay.specs.declared.device_replay.Replayed.{Replayed}
use Rattle.mt_replay.specs.Refused.{BreaksFormat, IsCause, IsReplayed}
use Rattle.mt_replay.specs.Stands.{CanRestart, IsReadAs, ShowsBase}
use Rattle.mt_space.specs.Changes.{PageBytes}
use Rattle.mt_restart.specs.Beside.{IsBeside}
use Rattle.mt_restart.specs.Found.{AreMarked, CanTurn, HasTurned, IsPrepared, ReadsOldOrNext}
use Rattle.mt_restart.specs.OfFormat.{HasOtherFormat, SaysOther, SaysUnformatted}
use Rattle.mt_restart.specs.Turned.{AreImagesOf}
use Rattle.mt_restart.specs.declared.restart_writes.Marks.{Marks}
use Rattle.mt_restart.specs.declared.recovery.Findings.{Findings}
use Rattle.mt_restart.specs.declared.recovery.Recovered.{Recovered}

-- a restart in memory makes these pages of the bytes, which are of format 2
pub record AreRestored (c : List ℕ) (items : List (List ℕ)) : Type 0 where
  pub slot : MasterSlot
  pub second : slot.format ≡ Two
  pub replayed : IsReplayed c slot items

-- What is at hand over these bytes: pages that break no rule, the marks by which the log can turn over to them, and all
-- that is in memory beside the device, with so many frames.
pub record IsFound (c : List ℕ) (frames : ℕ) (f : Findings) : Type 0 where
  pub batches : List (List Record)
  pub marked : AreMarked c f.ruling f.restored.pages.items batches f.marks
  pub turns : CanTurn f.ruling f.marks.images.items
  pub checked : AreChecked f.restored.pages.items
  pub prepared : IsPrepared f.ruling f.marks.images.items f.prepared
  pub beside : IsBeside f.restored.pages.items frames f.beside

-- The log cannot turn over to these pages: the ruling slot has the last epoch, or the next area has no room for the
-- images of pages that are in no slot and in no image of the ruling one.
pub record IsTurnBarred (c : List ℕ) (ruling : MasterSlot) (items : List (List ℕ)) : Type 0 where
  pub batches : List (List Record)
  pub marks : Marks
  pub marked : AreMarked c ruling items batches marks
  pub none : CanTurn ruling marks.images.items → ⊥

-- nor to those that a restart makes of these bytes
pub record CannotTurn (c : List ℕ) : Type 0 where
  pub ruling : MasterSlot
  pub items : List (List ℕ)
  pub replayed : IsReplayed c ruling items
  pub turn_barred : IsTurnBarred c ruling items

-- The log has turned over: the next area rules, with images of some pages and no other record, and each page is in
-- its slot.
pub record IsRecovered {D : Type 0} (g : Ghosts D) (frames : ℕ) (device : D) (r : Recovered) : Type 0 where
  pub ruling : MasterSlot
  pub next : r.ruling ≡ next_slot ruling
  pub lost : List Bool
  pub count : length r.restored.pages.items ≡ ruling.pages
  pub checked : AreChecked r.restored.pages.items
  pub images : AreImagesOf r.restored.pages.items lost r.images.items
  pub turned : HasTurned g ruling r.restored.pages.items r.images.items device r.log
  pub beside : IsBeside r.restored.pages.items frames r.beside

-- what a crash might have left before, or what represents this base
abbrev pub StandsStill : {D : Type 0} → Ghosts D → ℕ → ℕ → Base → D → List ℕ → Type 0
StandsStill g relations counters b device c = g.may_leave device c ⊎ CanRestart relations counters c b

-- Why these bytes are refused, in a call in which the device failed or did not: that a rule of their formats is
-- broken, that the log cannot turn over, that they are of format 1, or no reason of theirs.
abbrev pub IsCauseToStop : List ℕ → Type 0 → Refusal → Type 0
IsCauseToStop c failed why =
    IsCause BreaksFormat c failed why
    ⊎ (((why ≡ LogFull) × CannotTurn c) ⊎ ((why ≡ WrongFormat) × HasOtherFormat Two c))

-- What the log needs to turn over to these pages is at hand, over any bytes whose marks they have; or memory is wanted,
-- or the log cannot turn over.
pub record Prepares (x : Replayed) (frames : ℕ) (r : Result Findings Refusal) : Type 0 where
  pub found : (c : List ℕ) → IsMarked c x.ruling x.restored.pages.items x.imaged.items x.lost.items
      → IfOk r (IsFound c frames)
  pub ruling : IfOk r (λ found. found.ruling ≡ x.ruling)
  pub restored : IfOk r (λ found. found.restored.pages.items ≡ x.restored.pages.items)
  pub cause : IfErr r (λ why. (why ≡ NoMemory) ⊎ ((why ≡ LogFull) × ((c : List ℕ)
      → IsMarked c x.ruling x.restored.pages.items x.imaged.items x.lost.items
      → IsTurnBarred c x.ruling x.restored.pages.items)))

-- What a recovery needs is found, with pages that show the base for which the bytes stand; or the cause is reported.
-- The device is only read.
pub record FindsAll {D : Type 0} (g : Ghosts D) (frames : ℕ) (d e : D) (r : Result Findings Refusal) : Type 0 where
  pub found : IfOk r (IsFound (g.seen d) frames)
  pub restored : IfOk r (λ found. AreRestored (g.seen d) found.restored.pages.items)
  pub shows : (relations counters : ℕ) (b : Base) → CanRestart relations counters (g.seen d) b
      → IfOk r (λ found. ShowsBase relations counters found.restored.pages.items b)
  pub no_other_refusal : (relations counters : ℕ) (b : Base) → CanRestart relations counters (g.seen d) b
      → IfErr r (λ why. (why ≡ Refusal.NoMemory) ⊎ ((why ≡ Refusal.DeviceFailed) ⊎ (why ≡ Refusal.LogFull)))
  pub reads : OnlyReads g d e
  pub cause : IfErr r (IsCauseToStop (g.seen d) (g.faults d < g.faults e))
  pub unformatted : IfErr r (SaysUnformatted (g.seen d))
  pub other : IfErr r (SaysOther Two (g.seen d))
  pub quiet : (r ≡ Err Refusal.DeviceFailed → ⊥) → g.faults e ≡ g.faults d

-- And the device was synced before, so that a crash leaves just its bytes.
pub record FindsSynced {D : Type 0} (g : Ghosts D) (frames : ℕ) (d e : D) (r : Result Findings Refusal) : Type 0 where
  pub found : IfOk r (IsFound (g.seen e) frames)
  pub restored : IfOk r (λ found. AreRestored (g.seen d) found.restored.pages.items)
  pub shows : (relations counters : ℕ) (b : Base) → CanRestart relations counters (g.seen d) b
      → IfOk r (λ found. ShowsBase relations counters found.restored.pages.items b)
  pub no_other_refusal : (relations counters : ℕ) (b : Base) → CanRestart relations counters (g.seen d) b
      → IfErr r (λ why. (why ≡ Refusal.NoMemory) ⊎ ((why ≡ Refusal.DeviceFailed) ⊎ (why ≡ Refusal.LogFull)))
  pub reads : OnlyReadsOrSyncs g d e
  pub only : r ≢ Err Refusal.DeviceFailed → Only (g.seen d) (g.may_leave e)
  pub cause : IfErr r (IsCauseToStop (g.seen d) (g.faults d < g.faults e))
  pub unformatted : IfErr r (SaysUnformatted (g.seen d))
  pub other : IfErr r (SaysOther Two (g.seen d))
  pub quiet : (r ≡ Err Refusal.DeviceFailed → ⊥) → g.faults e ≡ g.faults d

-- The log turns over to the pages that were found, or the device failed. Meanwhile the old area gives the pages as they
-- were, or the next one as they are.
pub record TurnsLogTo {D : Type 0} (g : Ghosts D) (f : Findings) (d e : D) (r : Result Recovered Refusal) : Type 0 where
  pub recovered : (frames : ℕ) → IsFound (g.seen d) frames f → IfOk r (IsRecovered g frames e)
  pub ruling : IfOk r (λ recovered. recovered.ruling ≡ next_slot f.ruling)
  pub restored : IfOk r (λ recovered. recovered.restored.pages.items ≡ f.restored.pages.items)
  pub moments : (opening : PageBytes) (batches : List (List Record)) → IsReadAs (g.seen d) f.ruling opening batches
      → LeavesOnly g.moment g.left_since d e
      (ReadsOldOrNext f.ruling opening batches f.restored.pages.items f.marks.images.items)
  pub cause : IfErr r (λ why. (why ≡ Refusal.DeviceFailed) × (g.faults d < g.faults e))
  pub quiet : OnOk r (g.faults e ≡ g.faults d)

-- The log has turned over once, with pages that show the base for which the bytes stood; or the cause is reported.
-- All memory is taken before the first write. A crash leaves what represents that base.
pub record Recovers {D : Type 0} (g : Ghosts D) (frames : ℕ) (d e : D) (r : Result Recovered Refusal) : Type 0 where
  pub recovered : IfOk r (IsRecovered g frames e)
  pub restored : IfOk r (λ recovered. AreRestored (g.seen d) recovered.restored.pages.items)
  pub shows : (relations counters : ℕ) (b : Base) → CanRestart relations counters (g.seen d) b
      → IfOk r (λ recovered. ShowsBase relations counters recovered.restored.pages.items b)
  pub no_other_refusal : (relations counters : ℕ) (b : Base) → CanRestart relations counters (g.seen d) b
      → IfErr r (λ why. (why ≡ Refusal.NoMemory) ⊎ ((why ≡ Refusal.DeviceFailed) ⊎ (why ≡ Refusal.LogFull)))
  pub next : (slot : MasterSlot) → IsRuling (g.seen d) slot → IfOk r (λ recovered. recovered.ruling ≡ next_slot slot)
  -- whenever a crash comes meanwhile
  pub moments : (relations counters : ℕ) (b : Base) → CanRestart relations counters (g.seen d) b
      → LeavesOnly g.moment g.left_since d e (StandsStill g relations counters b d)
  -- at the end, unless the device failed
  pub settled : (relations counters : ℕ) (b : Base) → CanRestart relations counters (g.seen d) b
      → r ≢ Err Refusal.DeviceFailed → (c : List ℕ) → g.may_leave e c → CanRestart relations counters c b
  pub reads : IfErr r (λ why. (why ≡ Refusal.DeviceFailed → ⊥) → OnlyReadsOrSyncs g d e)
  pub cause : IfErr r (IsCauseToStop (g.seen d) (g.faults d < g.faults e))
  pub unformatted : IfErr r (SaysUnformatted (g.seen d))
  pub other : IfErr r (SaysOther Two (g.seen d))
  pub quiet : (r ≡ Err Refusal.DeviceFailed → ⊥) → g.faults e ≡ g.faults d
