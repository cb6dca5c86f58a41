-- How room is made for a page.
use Rattle.std.proofs.Common.{◌≡◌, Option, Result, Ok, Err, refl, subst, sym}
use Rattle.std.specs.Prelude.{IsOk}
use Rattle.mt_base.specs.declared.refusal.Refusal.{Refusal}
use Rattle.mt_disk.specs.declared.device.Device.{Ghosts}
use Rattle.mt_locked.specs.Asked.{DidFlush, DidForce}
use Rattle.mt_locked.specs.Rooms.{EndsAs, GoesOnFrom, MakesRoom}
use Rattle.mt_locked.specs.Seen.{IsAskedOf}
use Rattle.mt_pool.specs.declared.flushes.Flushed.{Flushed}
use Rattle.mt_pool.specs.declared.flushes.Flushed.TheVariants as flushed
use Rattle.mt_txn.specs.Seen.{KernelSeen}
use Rattle.mt_txn.specs.declared.answers.KernelForced.{KernelForced}

module _ {D : Type 0} (g : Ghosts D) where
  -- nothing is made after a flush that need not wait
  pub made_none : (f : Flushed) (mid new : Option (KernelSeen D)) (r : Result (Unit {0}) Refusal) → (f ≡ flushed.Force → ⊥) → IsOk r → new ≡ mid → GoesOnFrom g (Ok f) mid r new
  made_none flushed.Force mid new r other ok same = absurd (let wrong : flushed.Force ≡ flushed.Force = refl in other wrong)
  made_none (flushed.Page p) mid new r other ok same = (ok, same)
  made_none flushed.Clean mid new r other ok same = (ok, same)

  -- a step of a force is made
  pub made_force : (f : Flushed) (mid new : Option (KernelSeen D)) (r : Result (Unit {0}) Refusal) (forced : Result KernelForced Refusal) → f ≡ flushed.Force
      → IsAskedOf mid forced new (λ k n. DidForce g k forced n) → EndsAs forced r → GoesOnFrom g (Ok f) mid r new
  made_force f mid new r forced is asked ends = subst (λ (x : Flushed). GoesOnFrom g (Ok x) mid r new) (sym is) (forced, asked, ends)

  pub made_room : (old mid new : Option (KernelSeen D)) (flush : Result Flushed Refusal) (f : Flushed) (r : Result (Unit {0}) Refusal) → flush ≡ Ok f
      → IsAskedOf old flush mid (λ k n. DidFlush g k flush n) → GoesOnFrom g (Ok f) mid r new → MakesRoom g old r new
  made_room old mid new flush f r is asked on = record { flush = flush; mid = mid; flushes = asked; goes_on = subst (λ (x : Result Flushed Refusal). GoesOnFrom g x mid r new) (sym is) on }

  pub no_room : (old new : Option (KernelSeen D)) (flush : Result Flushed Refusal) (why : Refusal) (r : Result (Unit {0}) Refusal) → flush ≡ Err why → r ≡ Err why
      → IsAskedOf old flush new (λ k n. DidFlush g k flush n) → MakesRoom g old r new
  no_room old new flush why r is so asked = record { flush = flush; mid = new; flushes = asked; goes_on = subst (λ (x : Result Flushed Refusal). GoesOnFrom g x new r new) (sym is) (so, refl) }
