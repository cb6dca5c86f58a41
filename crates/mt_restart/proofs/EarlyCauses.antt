-- Why nothing is done with a kernel whose log is to be turned over.
use Rattle.std.proofs.Common.{◌≡◌, ◌∙◌, true, false, ℕ, Bool, suc, zero, None, Some, length, ap, refl, sym}
use Rattle.std.proofs.Math.Dec.{eqb-suc-zero}
use Rattle.std.specs.Prelude.{if◌then◌else◌, nat_eq}
use Rattle.mt_base.specs.declared.refusal.Refusal.{Refusal}
use Rattle.mt_base.specs.declared.refusal.Refusal.TheVariants as refusal
use Rattle.mt_disk.specs.declared.device.Device.{Ghosts}
use Rattle.mt_txn.specs.Causes.{survey_cause}
use Rattle.mt_txn.specs.Shown.{is_failed}
use Rattle.mt_txn.specs.Turned.{HasNobody}
use Rattle.mt_txn.specs.declared.kernel.Kernel.{Kernel}
use Rattle.mt_restart.specs.Rotated.{early_cause}

busy_some : (n : ℕ) → (n ≡ 0 → ⊥) → (if nat_eq n 0 then None else Some refusal.Busy) ≡ Some refusal.Busy
busy_some zero not = absurd (not refl)
busy_some (suc n) not = ap (λ (b : Bool). if b then None else Some refusal.Busy) (eqb-suc-zero n)

well_of : (failed : Bool) (n : ℕ) → (if failed then Some refusal.DeviceFailed else if nat_eq n 0 then None else Some refusal.Busy) ≡ None → failed ≡ false
well_of true n is = absurd cc
well_of false n is = refl

nobody_of : (failed : Bool) (n : ℕ) → (if failed then Some refusal.DeviceFailed else if nat_eq n 0 then None else Some refusal.Busy) ≡ None → n ≡ 0
nobody_of true n is = absurd cc
nobody_of false zero is = refl
nobody_of false (suc n) is = let bad : Some refusal.Busy ≡ None = sym (ap (λ (b : Bool). if b then None else Some refusal.Busy) (eqb-suc-zero n)) ∙ is in absurd cc

module _ {D : Type 0} {g : Ghosts D} (k : Kernel D g) where
  pub early_failed : is_failed k ≡ true → early_cause k ≡ Some refusal.DeviceFailed
  early_failed is = ap (λ (b : Bool). survey_cause b k.core) is

  pub early_none : is_failed k ≡ false → HasNobody k → early_cause k ≡ None
  early_none is nobody = ap (λ (b : Bool). survey_cause b k.core) is ∙ ap (λ (n : ℕ). if nat_eq n 0 then None else Some refusal.Busy) nobody

  pub early_busy : is_failed k ≡ false → (HasNobody k → ⊥) → early_cause k ≡ Some refusal.Busy
  early_busy is some = ap (λ (b : Bool). survey_cause b k.core) is ∙ busy_some (length k.core.live.members) some

  pub not_early : (why : Refusal) → is_failed k ≡ false → HasNobody k → early_cause k ≡ Some why → ⊥
  not_early why is nobody early = let wrong : Some why ≡ None = sym early ∙ early_none is nobody in absurd cc

  -- what follows if there is no such cause
  pub may_well : early_cause k ≡ None → is_failed k ≡ false
  may_well early = well_of (is_failed k) (length k.core.live.members) early

  pub may_nobody : early_cause k ≡ None → HasNobody k
  may_nobody early = nobody_of (is_failed k) (length k.core.live.members) early
