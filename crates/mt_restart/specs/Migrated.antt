-- What a migration makes of a device.
use Rattle.std.specs.Prelude.{◌≡◌, ◌≢◌, ◌⊎◌, ◌+◌, ◌<◌, ℕ, ℤ, List, Result, Err, IfErr, IfOk, length, map}
use Rattle.mt_base.specs.declared.refusal.Refusal.{Refusal}
use Rattle.mt_base.specs.declared.refusal.Refusal.TheVariants.{BadLength, DeviceFailed, LogFull, WrongFormat}
use Rattle.mt_base.specs.declared.format.Format.TheVariants.{One}
use Rattle.mt_disk.specs.Disk.{LeavesOnly}
use Rattle.mt_disk.specs.declared.device.Device.{Ghosts}
use Rattle.mt_frame.specs.declared.slots.MasterSlot.{MasterSlot}
use Rattle.mt_log.specs.Masters.{IsRuling}
use Rattle.mt_log.specs.NextSlot.{next_slot}
use Rattle.mt_log.specs.Quiet.{OnlyReads, OnlyReadsOrSyncs}
use Rattle.mt_base.specs.Limits.{IsRelationCount}
use Rattle.mt_model.specs.Model.{Base, IsBase}
use Rattle.mt_model.specs.Tables.{started}
use Rattle.mt_replay.specs.Extension.{CanExtend, ExtendsSchema}
use Rattle.mt_replay.specs.Refused.{BreaksFormat, IsCause, IsReplayed}
use Rattle.mt_replay.specs.Stands.{CanReplay, CanRestart, ShowsBase}
use Rattle.mt_counters.specs.Extended.{with_counters}
use Rattle.mt_restart.specs.OfFormat.{HasOtherFormat, SaysOther, SaysUnformatted}
use Rattle.mt_restart.specs.Recovered.{IsTurnBarred, IsFound, IsRecovered}
use Rattle.mt_restart.specs.Resumed.{BeginsOnPages}
use Rattle.mt_txn.specs.declared.kernel.Kernel.{Kernel}
use Rattle.mt_restart.specs.declared.recovery.Findings.{Findings}
use Rattle.mt_restart.specs.declared.recovery.Recovered.{Recovered}

-- how many relations a schema gets more, and which counters: low bound, high bound and start of each
pub record Additions : Type 0 where
  pub relations : ℕ
  pub new_counters : List (ℤ × ℤ × ℤ)

-- the base with these counters after the first n
abbrev pub grown : Additions → ℕ → Base → Base
grown more n b = with_counters n (map started more.new_counters) b

-- Pages in memory show the base with the counters of the additions after its own, which is one.
pub record ShowsGrown (more : Additions) (relations counters : ℕ) (items : List (List ℕ)) (b : Base) : Type 0 where
  pub shows : ShowsBase (relations + more.relations) (counters + length more.new_counters) items (grown more counters b)
  pub fits : IsRelationCount (relations + more.relations)
  pub bounds : IsBase (grown more counters b)

-- what a crash might have left before; or format 1 with the old base; or format 2 with the grown one
abbrev pub IsCarried : {D : Type 0} → Ghosts D → Additions → ℕ → ℕ → Base → D → List ℕ → Type 0
IsCarried g more relations counters b device c =
    g.may_leave device c ⊎ (CanReplay One relations counters c b
    ⊎ CanRestart (relations + more.relations) (counters + length more.new_counters) c (grown more counters b))

-- the pages that a restart makes of these bytes, which are of format 1, with the grown schema
pub record AreGrown (more : Additions) (c : List ℕ) (items : List (List ℕ)) : Type 0 where
  pub slot : MasterSlot
  pub old : List (List ℕ)
  pub first : slot.format ≡ One
  pub replayed : IsReplayed c slot old
  pub extension : ExtendsSchema more.relations more.new_counters old items

-- A sum of relations or of counters, or a counter, lies outside its limits.
pub record CannotGrow (more : Additions) (c : List ℕ) : Type 0 where
  pub slot : MasterSlot
  pub items : List (List ℕ)
  pub replayed : IsReplayed c slot items
  pub none : CanExtend more.relations more.new_counters items → ⊥

-- The log cannot turn over to the pages with the grown schema.
pub record CannotCarry (more : Additions) (c : List ℕ) : Type 0 where
  pub slot : MasterSlot
  pub items : List (List ℕ)
  pub grown_are : AreGrown more c items
  pub turn_barred : IsTurnBarred c slot items

-- Why these bytes are not carried over, in a call in which the device failed or did not: they are of format 2, the
-- schema cannot grow so, the log cannot turn over, or a rule of their formats is broken.
abbrev pub IsCauseNotToCarry : Additions → List ℕ → Type 0 → Refusal → Type 0
IsCauseNotToCarry more c failed WrongFormat = HasOtherFormat One c
IsCauseNotToCarry more c failed BadLength = CannotGrow more c
IsCauseNotToCarry more c failed LogFull = CannotCarry more c
IsCauseNotToCarry more c failed why = IsCause BreaksFormat c failed why

-- What a migration needs is found, over pages with the grown schema that show the grown base; or the cause is reported.
-- The device is only read.
pub record FindsGrown {D : Type 0} (g : Ghosts D) (more : Additions) (frames : ℕ) (d e : D)
    (r : Result Findings Refusal) : Type 0 where
  pub found : IfOk r (IsFound (g.seen d) frames)
  pub grown_are : IfOk r (λ found. AreGrown more (g.seen d) found.restored.pages.items)
  pub shows : (relations counters : ℕ) (b : Base) → CanReplay One relations counters (g.seen d) b
      → IfOk r (λ found. ShowsGrown more relations counters found.restored.pages.items b)
  pub reads : OnlyReads g d e
  pub cause : IfErr r (IsCauseNotToCarry more (g.seen d) (g.faults d < g.faults e))
  pub unformatted : IfErr r (SaysUnformatted (g.seen d))
  pub other : IfErr r (SaysOther One (g.seen d))
  pub quiet : (r ≡ Err Refusal.DeviceFailed → ⊥) → g.faults e ≡ g.faults d

-- The log has turned over once, to format 2, with pages that show the grown base; or the cause is reported. A crash
-- leaves format 1 with the old base, or format 2 with the grown one.
pub record Carries {D : Type 0} (g : Ghosts D) (more : Additions) (frames : ℕ) (d e : D)
    (r : Result Recovered Refusal) : Type 0 where
  pub recovered : IfOk r (IsRecovered g frames e)
  pub grown_are : IfOk r (λ recovered. AreGrown more (g.seen d) recovered.restored.pages.items)
  pub shows : (relations counters : ℕ) (b : Base) → CanReplay One relations counters (g.seen d) b
      → IfOk r (λ recovered. ShowsGrown more relations counters recovered.restored.pages.items b)
  pub next : (slot : MasterSlot) → IsRuling (g.seen d) slot → IfOk r (λ recovered. recovered.ruling ≡ next_slot slot)
  pub moments : (relations counters : ℕ) (b : Base) → CanReplay One relations counters (g.seen d) b
      → LeavesOnly g.moment g.left_since d e (IsCarried g more relations counters b d)
  pub stands : (relations counters : ℕ) (b : Base) → CanReplay One relations counters (g.seen d) b
      → IfOk r (λ _. (c : List ℕ) → g.may_leave e c
      → CanRestart (relations + more.relations) (counters + length more.new_counters) c (grown more counters b))
  pub reads : IfErr r (λ why. (why ≡ Refusal.DeviceFailed → ⊥) → OnlyReadsOrSyncs g d e)
  pub settled : (relations counters : ℕ) (b : Base) → CanReplay One relations counters (g.seen d) b
      → IfErr r (λ why. why ≢ DeviceFailed → (c : List ℕ) → g.may_leave e c
      → CanReplay One relations counters c b)
  pub cause : IfErr r (IsCauseNotToCarry more (g.seen d) (g.faults d < g.faults e))
  pub unformatted : IfErr r (SaysUnformatted (g.seen d))
  pub other : IfErr r (SaysOther One (g.seen d))
  pub quiet : (r ≡ Err Refusal.DeviceFailed → ⊥) → g.faults e ≡ g.faults d

-- the kernel begins on the pages that a restart makes of these bytes, with the grown schema
abbrev pub BeginsOnGrown : {D : Type 0} {g : Ghosts D} → Additions → List ℕ → Kernel D g → Type 0
BeginsOnGrown more c k = (items : List (List ℕ)) × AreGrown more c items × BeginsOnPages items k

-- Why a device is not carried over, and what is left of it. Unless it failed, it was only read or synced, and whatever
-- a crash leaves of it represents what its bytes did.
pub record IsNotCarried {D : Type 0} (g : Ghosts D) (more : Additions) (device : D) (gone : Refusal × D) : Type 0 where
  pub cause : IsCauseNotToCarry more (g.seen device) (g.faults device < g.faults gone.1) gone.0
  pub unformatted : SaysUnformatted (g.seen device) gone.0
  pub other : SaysOther One (g.seen device) gone.0
  pub reads : gone.0 ≢ DeviceFailed → OnlyReadsOrSyncs g device gone.1
  pub settled : (relations counters : ℕ) (b : Base) → CanReplay One relations counters (g.seen device) b
      → gone.0 ≢ DeviceFailed → (c : List ℕ) → g.may_leave gone.1 c → CanReplay One relations counters c b
