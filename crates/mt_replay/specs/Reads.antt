-- Pages that are read of a device.
use Rattle.std.specs.Prelude.{◌≡◌, ◌⊎◌, ◌<◌, ℕ, Bool, true, false, List, [], length, get_or, IfErr, IfOk, OnOk, Err, Result}
use Rattle.mt_disk.specs.Disk.{HasCause}
use Rattle.mt_disk.specs.declared.device.Device.{Ghosts}
use Rattle.mt_base.specs.declared.limits.TheConstants.{MASTER_BYTES}
use Rattle.mt_base.specs.declared.refusal.Refusal.{Refusal}
use Rattle.mt_frame.specs.declared.records.Record.{Record}
use Rattle.mt_log.specs.Quiet.{OnlyReads}
use Rattle.mt_pool.specs.Images.{GivesPages, slot}
use Rattle.mt_pool.specs.Kept.{carried}
use Rattle.mt_replay.specs.Marking.{MarksImaged}
use Rattle.mt_space.specs.PageLists.{AreWhole}
use Rattle.mt_replay.specs.Memory.{AreFirst}
use Rattle.mt_replay.specs.Recoverable.{pages_held}
use Rattle.mt_replay.specs.declared.pages_held.HeldPages.{HeldPages}
use Rattle.mt_space.specs.Changes.{PageBytes}

-- each that has no image is as its slot has it
abbrev pub AreOfSlots : ℕ → List Bool → List ℕ → List (List ℕ) → Type 0
AreOfSlots count imaged c found =
    (p : ℕ) → p < count → get_or imaged p false ≡ false → get_or found p [] ≡ slot MASTER_BYTES c p

-- they are the pages held that these records lead to, from these pages that the area found
abbrev pub AreLedOn : List Record → List (List ℕ) → List (List ℕ) → Type 0
AreLedOn records found pages =
    (opening : PageBytes) → AreFirst found opening → AreFirst pages (pages_held opening records)

-- they are the pages held that these records lead to, from whatever opening the device gives
abbrev pub AreLedTo : ℕ → List Record → List ℕ → List (List ℕ) → Type 0
AreLedTo count records c pages =
    (opening : PageBytes) → GivesPages MASTER_BYTES count opening (carried records) c
    → AreFirst pages (pages_held opening records)

-- Each page that has no image is as its slot has it, and the others stay; or the device failed.
pub record FillsPages {D : Type 0} (g : Ghosts D) {T F : Type 0} (imaged : List Bool) (old new : List (List ℕ))
    (d e : D) (r : Result T F) : Type 0 where
  pub whole : AreWhole new
  pub count : length new ≡ length old
  pub slots : OnOk r (AreOfSlots (length old) imaged (g.seen d) new)
  pub others : (p : ℕ) → get_or imaged p false ≡ true → get_or new p [] ≡ get_or old p []
  pub reads : OnlyReads g d e
  pub cause : HasCause (g.faults d) (g.faults e) r

-- These are the pages held, of so many, that these records lead to. With them are the pages that the area found, and
-- marks of those with an image.
pub record AreHeldOf (n : ℕ) (records : List Record) (c : List ℕ) (h : HeldPages) : Type 0 where
  pub whole : AreWhole h.pages.items
  pub count : length h.pages.items ≡ n
  pub led : AreLedTo n records c h.pages.items
  pub imaged : MarksImaged n records h.imaged.items
  pub all : length h.found.items ≡ n
  pub slots : AreOfSlots n h.imaged.items c h.found.items

-- they are found; or memory was refused or the device failed
pub record FindsHeld {D : Type 0} (g : Ghosts D) (n : ℕ) (records : List Record) (d e : D)
    (r : Result HeldPages Refusal) : Type 0 where
  pub found : IfOk r (AreHeldOf n records (g.seen d))
  pub reads : OnlyReads g d e
  pub quiet : (r ≡ Err Refusal.DeviceFailed → ⊥) → g.faults e ≡ g.faults d
  pub cause : IfErr r (λ why. (why ≡ Refusal.NoMemory) ⊎ (why ≡ Refusal.DeviceFailed) × (g.faults d < g.faults e))
