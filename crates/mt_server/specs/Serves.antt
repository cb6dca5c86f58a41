-- A kernel after sessions that shared it.
use Rattle.std.specs.Prelude.{ℕ, ◌<◌, ◌≤◌, List}
use Rattle.mt_base.specs.declared.limits.TheConstants.{MAX_SESSIONS}
use Rattle.mt_base.specs.declared.refusal.Refusal.{Refusal}
use Rattle.mt_base.specs.declared.refusal.Refusal.TheVariants as refusal
use Rattle.mt_disk.specs.declared.device.Device.{Ghosts}
use Rattle.mt_model.specs.History.{IsLegal}
use Rattle.mt_model.specs.Views.{base_of}
use Rattle.mt_model.specs.declared.tables.Base.{Base}
use Rattle.mt_locked.specs.Began.{BeganOn}
use Rattle.mt_restart.specs.Recovered.{AreRestored}
use Rattle.mt_restart.specs.Resumed.{IsRestoredBase}
use Rattle.mt_shared.specs.Opens.{HasBegunWith, IsBaseOf, IsUnshared}
use Rattle.mt_txn.specs.declared.kernel.Kernel.{Kernel}
use Rattle.mt_txn.specs.Words.{kernel_book}

-- It was opened on the base of these bytes, which is of any bytes what the passes of a restart leave. Of its book each
-- commit replied what it replies alone, in the order of the book.
pub record IsServedOn {D : Type 0} {g : Ghosts D} (c : List ℕ) (k : Kernel D g) : Type 0 where
  pub first : Base
  pub is : IsBaseOf c first
  pub first_is : IsRestoredBase c (base_of first)
  pub began : BeganOn first k
  pub legal : IsLegal (base_of first) (kernel_book k)

-- a kernel with so many pages in frames began on the base of these bytes
abbrev pub IsOpenedWith : {D : Type 0} → Ghosts D → ℕ → List ℕ → Type 0
IsOpenedWith g frames c = (first : Base) × IsBaseOf c first × HasBegunWith g frames first

-- ---- refusals

-- a restart in memory makes pages of these bytes
abbrev pub IsRestorable : List ℕ → Type 0
IsRestorable c = (items : List (List ℕ)) × AreRestored c items

-- how serving ends once the device is open: for want of memory, since it failed, or as a close is refused
abbrev pub IsLate : Refusal → Type 0
IsLate refusal.NoMemory = Unit {0}
IsLate refusal.DeviceFailed = Unit {0}
IsLate refusal.Stranger = Unit {0}
IsLate refusal.Busy = Unit {0}
IsLate why = ⊥

-- Why so many scripts are not served to a device of these bytes: there are too many, and only then that is the cause;
-- or it is not opened, for its cause; or serving ended late, of bytes of which a restart makes pages.
pub data IsUnserved (c : List ℕ) (count : ℕ) : Refusal → Type 0 where
  too_many : MAX_SESSIONS < count → IsUnserved c count refusal.BadLength
  unopened : (why : Refusal) → count ≤ MAX_SESSIONS → IsUnshared c (Unit {0}) why → IsUnserved c count why
  cut_short : (why : Refusal) → count ≤ MAX_SESSIONS → IsRestorable c → IsLate why → IsUnserved c count why
