-- What making room for a page does to the kernel under the lock.
use Rattle.std.specs.Prelude.{◌≡◌, IsOk, Option, Result, Ok, Err}
use Rattle.mt_base.specs.declared.refusal.Refusal.{Refusal}
use Rattle.mt_disk.specs.declared.device.Device.{Ghosts}
use Rattle.mt_pool.specs.declared.flushes.Flushed.{Flushed}
use Rattle.mt_pool.specs.declared.flushes.Flushed.TheVariants as flushed
use Rattle.mt_locked.specs.Asked.{DidFlush, DidForce}
use Rattle.mt_locked.specs.Seen.{IsAskedOf}
use Rattle.mt_txn.specs.Seen.{KernelSeen}
use Rattle.mt_txn.specs.declared.answers.KernelForced.{KernelForced}

-- it is refused so if that was, and else it is not
abbrev pub EndsAs : {T : Type 0} → Result T Refusal → Result (Unit {0}) Refusal → Type 0
EndsAs (Ok x) result = IsOk result
EndsAs (Err why) result = result ≡ Err why

module _ {D : Type 0} (g : Ghosts D) where
  -- After a flush that answered this: if each page waits for the log, a step of a force is made, and else nothing.
  abbrev pub GoesOnFrom : Result Flushed Refusal → Option (KernelSeen D) → Result (Unit {0}) Refusal
      → Option (KernelSeen D) → Type 0
  GoesOnFrom (Ok flushed.Force) mid result new = (forced : Result KernelForced Refusal)
      × IsAskedOf mid forced new (λ k n. DidForce g k forced n) × EndsAs forced result
  GoesOnFrom (Ok (flushed.Page p)) mid result new = IsOk result × (new ≡ mid)
  GoesOnFrom (Ok flushed.Clean) mid result new = IsOk result × (new ≡ mid)
  GoesOnFrom (Err why) mid result new = (result ≡ Err why) × (new ≡ mid)

  -- The kernel was asked to flush a page, and then for a step of a force if that has to come first.
  pub record MakesRoom (old : Option (KernelSeen D)) (result : Result (Unit {0}) Refusal)
      (new : Option (KernelSeen D)) : Type 0 where
    pub flush : Result Flushed Refusal
    pub mid : Option (KernelSeen D)
    pub flushes : IsAskedOf old flush mid (λ k n. DidFlush g k flush n)
    pub goes_on : GoesOnFrom flush mid result new
