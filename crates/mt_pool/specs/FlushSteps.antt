-- One step of a flush by its answer, if so many records are durable.
use Rattle.std.specs.Prelude.{ℕ, ◌≡◌, ◌+◌, ◌≤◌, IsErr, false, get_or, Result, Ok, Err}
use Rattle.mt_disk.specs.declared.device.DeviceFault.{DeviceFault}
use Rattle.mt_pool.specs.Views.{Cleans, IsWaiting, to_flush, waits_for}
use Rattle.mt_pool.specs.declared.flushes.Flushed.{Flushed}
use Rattle.mt_pool.specs.declared.flushes.Flushed.TheVariants as flushed
use Rattle.mt_pool.specs.declared.flushes.Flushed.TheVariants.{Page, Force, Clean}
use Rattle.mt_pool.specs.declared.pool.Pool.{Pool}

-- the page is written, and clean after it
pub record Flushes (durable : ℕ) (old new : Pool) (p : ℕ) : Type 0 where
  pub cleans : Cleans old new durable p
  pub fewer : to_flush new + 1 ≡ to_flush old
  pub waits : new.waits ≡ old.waits
  pub there : new.of_page ≡ old.of_page

-- no page is to be flushed
pub record FindsClean (old new : Pool) : Type 0 where
  pub none : (f : ℕ) → get_or new.dirty.items f false ≡ false
  pub waits : new.waits ≡ old.waits
  pub there : new.of_page ≡ old.of_page

abbrev pub FlushSteps : ℕ → Pool → Pool → Result Flushed DeviceFault → Type 0
FlushSteps durable old new (Ok (Page p)) = Flushes durable old new p
FlushSteps durable old new (Ok Force) = IsWaiting old durable × (new ≡ old)
FlushSteps durable old new (Ok Clean) = FindsClean old new
FlushSteps durable old new (Err fault) = new ≡ old

-- what follows of it, each fact by its name
pub record HasFlushed (durable : ℕ) (old new : Pool) (r : Result Flushed DeviceFault) : Type 0 where
  pub waits : new.waits ≡ old.waits
  pub there : new.of_page ≡ old.of_page
  pub page : (p : ℕ) → r ≡ Ok (flushed.Page p) → waits_for old p ≤ durable
  pub written : (p : ℕ) → r ≡ Ok (flushed.Page p) → Cleans old new durable p
  pub fewer : (p : ℕ) → r ≡ Ok (flushed.Page p) → to_flush new + 1 ≡ to_flush old
  pub barred : r ≡ Ok Force → IsWaiting old durable
  pub same : r ≡ Ok Force → new ≡ old
  pub nothing : r ≡ Ok Clean → (f : ℕ) → get_or new.dirty.items f false ≡ false
  pub fault : IsErr r → new ≡ old
