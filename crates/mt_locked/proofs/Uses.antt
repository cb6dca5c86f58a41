-- How much of a log is in use, and whether it is too early to turn it over, by what is seen under the lock.
use Rattle.std.proofs.Common.{◌≡◌, ◌∙◌, ◌<◌, ◌/◌, ℕ, Bool, false, length, Option, None, Some, inl, inr, subst, sym, ⊎_elim}
use Rattle.std.specs.Prelude.{◌↔◌, IsTrue}
use Rattle.mt_disk.specs.declared.device.Device.{Ghosts}
use Rattle.mt_locked.specs.Seen.{is_failed_in}
use Rattle.mt_locked.specs.Standings.{kernel_in, seen_in}
use Rattle.mt_locked.specs.declared.locked.Due.{Due}
use Rattle.mt_locked.specs.Turns.{IsHalfUsed, IsTooEarly, IsTooEarlyIn, IsUseSeen}
use Rattle.mt_mark.specs.declared.view.View.{View}
use Rattle.mt_restart.specs.declared.standing.Standing.{Standing}
use Rattle.mt_restart.specs.declared.standing.Standing.TheVariants.{Stands, Ended}
use Rattle.mt_txn.specs.Seen.{KernelSeen}
use Rattle.mt_txn.specs.declared.log_use.LogUse.{LogUse}

module _ {D : Type 0} where
  pub above_half : (o : Option (KernelSeen D)) (u : LogUse) → IsUseSeen o (Some u) → (b : Bool) → (IsTrue b ↔ (u.size / 2 < u.used)) → IsTrue b ↔ IsHalfUsed o
  above_half None u is b half = absurd cc
  above_half (Some k) u is b half = subst (λ (p : ℕ × ℕ). IsTrue b ↔ (p.0 / 2 < p.1)) (λ i. (is.1 i, is.0 i)) half

  pub none_above : (o : Option (KernelSeen D)) → IsUseSeen o None → IsTrue false ↔ IsHalfUsed o
  none_above None is = (λ so. absurd (cc), λ never. absurd never)
  none_above (Some k) is = absurd is

module _ {D : Type 0} {g : Ghosts D} where
  pub too_early : (holding : ℕ) (due : Due) (commits : ℕ) (s : Standing D g) (v : View) → commits ≡ length v.list → IsTooEarly commits s → IsTooEarlyIn (seen_in s v holding due)
  too_early holding due commits (Stands k) v is early = ⊎_elim (λ other. inl (λ same. other (same ∙ sym is))) (λ some. inr some) early
  too_early holding due commits (Ended device) v is early = absurd early

  pub too_soon : (holding : ℕ) (due : Due) (commits : ℕ) (s : Standing D g) (v : View) → commits ≡ length v.list → is_failed_in (kernel_in s) ≡ false → IsTooEarlyIn (seen_in s v holding due) → IsTooEarly commits s
  too_soon holding due commits (Stands k) v is well early = ⊎_elim (λ other. inl (λ same. other (same ∙ is))) (λ some. inr some) early
  too_soon holding due commits (Ended device) v is well early = absurd cc
