-- A fetch of a page by its answer, and what it leaves as it was.
use Rattle.std.specs.Prelude.{ℕ, ◌≡◌, None, get_or, Result, Ok, Err}
use Rattle.mt_disk.specs.declared.device.DeviceFault.{DeviceFault}
use Rattle.mt_pool.specs.Views.{IsFull, IsThere, SameDirty, SameWaits, pages as pages_of}
use Rattle.mt_pool.specs.declared.fetches.Fetched.{Fetched}
use Rattle.mt_pool.specs.declared.fetches.Fetched.TheVariants.{There, Flush}
use Rattle.mt_pool.specs.declared.pool.Pool.{Pool}

-- the page is in no frame, and every frame holds a page that is yet to be flushed
pub record HasNoFrame (pool : Pool) (page : ℕ) : Type 0 where
  pub full : IsFull pool
  pub in_no_frame : get_or pool.of_page.items page None ≡ None

-- the page is in a frame; or nothing has changed, if and only if there was no frame for it; or the device failed
abbrev pub FetchSteps : ℕ → Pool → Pool → Result Fetched DeviceFault → Type 0
FetchSteps page old new (Ok There) = IsThere new page × (HasNoFrame old page → ⊥)
FetchSteps page old new (Ok Flush) = HasNoFrame old page × (new ≡ old)
FetchSteps page old new (Err fault) = HasNoFrame old page → ⊥

-- Pages come into frames and leave them. What is to be flushed, what each page waits for, and where it lies stays.
pub record OnlyMoves (old new : Pool) : Type 0 where
  pub waits : SameWaits old new
  pub dirty : SameDirty old new
  pub pages : pages_of new ≡ pages_of old
  pub place : new.place ≡ old.place
