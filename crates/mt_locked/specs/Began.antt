-- What a kernel shows, whatever its state.
use Rattle.std.specs.Prelude.{◌≡◌, ℕ, false, length}
use Rattle.mt_base.specs.declared.modes.LockMode.{LockMode}
use Rattle.mt_disk.specs.declared.device.Device.{Ghosts}
use Rattle.mt_live.specs.Machine.{State}
use Rattle.mt_model.specs.Views.{base_of}
use Rattle.mt_model.specs.declared.objects.Object.{Object}
use Rattle.mt_model.specs.declared.tables.Base.{Base}
use Rattle.mt_txn.specs.Shown.{Restarts, Shows, kernel_page_locks}
use Rattle.mt_txn.specs.Words.{kernel_holds}
use Rattle.mt_txn.specs.Turned.{HasNobody}
use Rattle.mt_txn.specs.declared.kernel.Kernel.{Kernel}

-- it began on this base, and is in some state of the laws
abbrev pub StandsOn : {D : Type 0} → {g : Ghosts D} → Base → Kernel D g → Type 0
StandsOn base k = ∥ ((s : State) × Shows (base_of base) s k) ∥₁

-- and it can be restarted
abbrev pub BeganOn : {D : Type 0} → {g : Ghosts D} → Base → Kernel D g → Type 0
BeganOn base k = StandsOn base k × Restarts (base_of base) k

-- no transaction is active in it, and it holds no lock, neither of an object nor of a page
pub record IsIdle {D : Type 0} {g : Ghosts D} (k : Kernel D g) : Type 0 where
  pub nobody : HasNobody k
  pub objects : (t : ℕ) (x : Object) (m : LockMode) → kernel_holds k t x m ≡ false
  pub pages : length (kernel_page_locks k) ≡ 0
