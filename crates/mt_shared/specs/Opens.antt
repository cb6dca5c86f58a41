-- A device that is opened to be shared.
use Rattle.std.specs.Prelude.{ℕ, ◌≡◌, ◌+◌, false, List, All, length}
use Rattle.atomic_table.specs.Seated.{TableId}
use Rattle.mt_base.specs.declared.refusal.Refusal.{Refusal}
use Rattle.mt_disk.specs.declared.device.Device.{Ghosts}
use Rattle.mt_live.specs.Machine.{start}
use Rattle.mt_locked.specs.Began.{BeganOn}
use Rattle.mt_locked.specs.Seen.{Beside}
use Rattle.mt_mark.specs.Held.{Held}
use Rattle.mt_mark.specs.Rule.{labelled, IsConfirmed}
use Rattle.mt_model.specs.Model as model
use Rattle.mt_model.specs.Views.{base_of}
use Rattle.mt_model.specs.declared.history.Committed.{Committed}
use Rattle.mt_model.specs.declared.tables.Base.{Base}
use Rattle.mt_replay.specs.Stands.{CanRestart}
use Rattle.mt_restart.specs.Recovered.{IsCauseToStop}
use Rattle.mt_restart.specs.Resumed.{IsRefusedRightly}
use Rattle.mt_steps.specs.Listed.{IsSame}
use Rattle.mt_txn.specs.Seen.{KernelSeen, ShowsSeen, has_failed_in}
use Rattle.mt_txn.specs.Shown.{kernel_frames}
use Rattle.mt_txn.specs.declared.kernel.Kernel.{Kernel}

-- the base that these bytes represent, if they represent one: the same rows, and the same counters, as many as there
-- are
abbrev pub IsBaseOf : List ℕ → Base → Type 0
IsBaseOf c first =
    (relations counters : ℕ) (b : model.Base) → CanRestart relations counters c b → IsSame counters (base_of first) b

-- Why a device of these bytes is not opened, in a call in which it failed or did not: the cause is theirs, or memory
-- was wanting. Those that are not formatted, or are of another format, are reported so.
pub record IsUnshared (c : List ℕ) (failed : Type 0) (why : Refusal) : Type 0 where
  pub cause : IsCauseToStop c failed why
  pub rightly : IsRefusedRightly c why

-- a kernel with so many pages in frames began on this base
abbrev pub HasBegunWith : {D : Type 0} → Ghosts D → ℕ → Base → Type 0
HasBegunWith {D} g frames base =
    ∥ ((k : Kernel D g) × (kernel_frames k ≡ frames) × BeganOn base k) ∥₁

-- nothing has happened in a kernel that began on this base, and it has not failed
pub record IsJustOpened {D : Type 0} (g : Ghosts D) (base : model.Base) (k : KernelSeen D) : Type 0 where
  pub shows : ShowsSeen g base (start base) k
  pub well : has_failed_in k ≡ false

-- which mark it is, its kernel, with its first base, book and frames, and how many passes there are to be
pub record OpenedSeen (D : Type 0) : Type 0 where
  pub mark : TableId
  pub kernel : KernelSeen D
  pub base : Base
  pub book : List Committed
  pub frames : ℕ
  pub count : ℕ

-- an end and so many seats, which are all seats of one mark, about a kernel that began on this base: its history is the
-- book
pub record IsMarked (base : Base) (book : List Committed) (count : ℕ) (end : Held) (seats : List Held) : Type 0 where
  pub base_is : end.view.base ≡ base
  pub confirmed : IsConfirmed end.view
  pub list : end.view.list ≡ labelled book
  pub book_is : end.view.book ≡ book
  pub seats_are : All (Beside end) seats
  pub many : length seats ≡ count
  pub made : end.view.made ≡ count + 1
