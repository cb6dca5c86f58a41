-- A kernel that is opened over a device.
use Rattle.std.specs.Prelude.{◌≡◌, ◌≢◌, ◌⊎◌, ◌<◌, ℕ, List, Result, Ok, Err, get_or}
use Rattle.mt_base.specs.declared.format.Format.TheVariants.{Two}
use Rattle.mt_base.specs.declared.refusal.Refusal.{Refusal}
use Rattle.mt_base.specs.declared.refusal.Refusal.TheVariants.{DeviceFailed, LogFull, NoMemory}
use Rattle.mt_core.specs.Seen.{core_ruling}
use Rattle.mt_core.specs.declared.parts.Core.{Core}
use Rattle.mt_disk.specs.declared.device.Device.{Ghosts}
use Rattle.mt_format.specs.Formats.{IsFormattedAs}
use Rattle.mt_format.specs.declared.schema.Schema.{Schema}
use Rattle.mt_frame.specs.declared.slots.MasterSlot.{MasterSlot}
use Rattle.mt_space.specs.PageLists.{bytes_of}
use Rattle.mt_live.specs.Machine.{start}
use Rattle.mt_log.specs.Masters.{IsRuling}
use Rattle.mt_log.specs.NextSlot.{next_slot}
use Rattle.mt_log.specs.Quiet.{OnlyReadsOrSyncs}
use Rattle.mt_model.specs.Model.{Base, IsBase}
use Rattle.mt_replay.specs.Stands.{CanRestart}
use Rattle.mt_restart.specs.OfFormat.{SaysOther, SaysUnformatted}
use Rattle.mt_restart.specs.Recovered.{AreRestored, IsCauseToStop}
use Rattle.mt_steps.specs.Held.{Holds}
use Rattle.mt_steps.specs.Listed.{IsSame}
use Rattle.mt_txn.specs.Shown.{Restarts, Shows, kernel_device}
use Rattle.mt_txn.specs.Words.{kernel_counters, kernel_relations}
use Rattle.mt_txn.specs.declared.kernel.Kernel.{Kernel}

-- It has so many relations and counters, and begins on this base: nothing has happened yet, and it can be restarted.
pub record IsOpened {D : Type 0} {g : Ghosts D} (relations counters : ℕ) (b : Base) (k : Kernel D g) : Type 0 where
  pub relations_are : kernel_relations k ≡ relations
  pub counters_are : kernel_counters k ≡ counters
  pub shows : Shows b (start b) k
  pub restarts : Restarts b k

-- It begins on this base, and on each that has the same rows and the same counters, as many as it has.
pub record BeginsOn {D : Type 0} {g : Ghosts D} (b : Base) (k : Kernel D g) : Type 0 where
  pub opened : IsOpened (kernel_relations k) (kernel_counters k) b k
  pub same : (m : Base) → IsSame (kernel_counters k) m b → IsBase m
      → IsOpened (kernel_relations k) (kernel_counters k) m k

-- It begins on these pages: on each base that they hold, with as many relations and counters as page 2 names.
pub record BeginsOnPages {D : Type 0} {g : Ghosts D} (items : List (List ℕ)) (k : Kernel D g) : Type 0 where
  pub relations : kernel_relations k ≡ get_or (bytes_of items 2) 0 0
  pub counters : kernel_counters k ≡ get_or (bytes_of items 2) 1 0
  pub opened : (b : Base) → Holds (bytes_of items) b → IsBase b → IsOpened (kernel_relations k) (kernel_counters k) b k

-- and a restart in memory makes them of these bytes
abbrev pub BeginsOnRestored : {D : Type 0} {g : Ghosts D} → List ℕ → Kernel D g → Type 0
BeginsOnRestored c k = (items : List (List ℕ)) × AreRestored c items × BeginsOnPages items k

-- The base has the rows and the counters that these pages hold.
abbrev pub IsHeldBase : List (List ℕ) → Base → Type 0
IsHeldBase items first = (b : Base) → Holds (bytes_of items) b → IsSame (get_or (bytes_of items 2) 1 0) first b

-- And a restart in memory makes the pages of these bytes.
pub record IsRestoredBase (c : List ℕ) (first : Base) : Type 0 where
  pub items : List (List ℕ)
  pub restored : AreRestored c items
  pub held : IsHeldBase items first

-- the slot that rules is the next one after the one that ruled these bytes
abbrev pub HasTurnedOver : {D : Type 0} → List ℕ → Core D → Type 0
HasTurnedOver c k = (slot : MasterSlot) → IsRuling c slot → core_ruling k ≡ next_slot slot

-- the device, in the kernel or handed back
abbrev pub device_of : {D : Type 0} → {g : Ghosts D} → Result (Kernel D g) (Refusal × D) → D
device_of (Ok kernel) = (kernel_device kernel)
device_of (Err gone) = gone.1

-- Why these bytes are refused, beside the cause: those that are not formatted or of format 1 are reported so, what a
-- kernel left is refused for want of memory, a failure or a full log alone, and as it was formatted, for no full log.
pub record IsRefusedRightly (c : List ℕ) (why : Refusal) : Type 0 where
  pub unformatted : SaysUnformatted c why
  pub other : SaysOther Two c why
  pub left : (relations counters : ℕ) (b : Base) → CanRestart relations counters c b
      → (why ≡ NoMemory) ⊎ ((why ≡ DeviceFailed) ⊎ (why ≡ LogFull))
  pub formatted : (s : Schema) → IsFormattedAs s c → why ≢ LogFull

-- Why no kernel begins on a device, and the device that is handed back. What a kernel left is refused for want of
-- memory, a failure or a full log alone; and as it was formatted, for no full log. Unless the device failed, it was
-- only read or synced, and whatever a crash leaves of it represents what its bytes did.
pub record IsNotOpened {D : Type 0} (g : Ghosts D) (device : D) (gone : Refusal × D) : Type 0 where
  pub cause : IsCauseToStop (g.seen device) (g.faults device < g.faults gone.1) gone.0
  pub unformatted : SaysUnformatted (g.seen device) gone.0
  pub other : SaysOther Two (g.seen device) gone.0
  pub left : (relations counters : ℕ) (b : Base) → CanRestart relations counters (g.seen device) b
      → (gone.0 ≡ NoMemory) ⊎ ((gone.0 ≡ DeviceFailed) ⊎ (gone.0 ≡ LogFull))
  pub formatted : (s : Schema) → IsFormattedAs s (g.seen device) → gone.0 ≢ LogFull
  pub reads : gone.0 ≢ DeviceFailed → OnlyReadsOrSyncs g device gone.1
  pub settled : (relations counters : ℕ) (b : Base) → CanRestart relations counters (g.seen device) b
      → gone.0 ≢ DeviceFailed → (c : List ℕ) → g.may_leave gone.1 c → CanRestart relations counters c b
