-- Which refusal reports a fault of the device.
use Rattle.std.specs.Prelude.{◌≡◌, ◌<◌, ◌≤◌, ℕ, Result, Err}
use Rattle.mt_base.specs.declared.refusal.Refusal.{Refusal}
use Rattle.mt_base.specs.declared.refusal.Refusal.TheVariants as refusal

-- Refusal 2 is answered if and only if the device failed in this call.
pub record ReportsFaults {T : Type 0} (before now : ℕ) (result : Result T Refusal) : Type 0 where
  pub later : before ≤ now
  pub failed : result ≡ Err refusal.DeviceFailed → before < now
  pub quiet : (result ≡ Err refusal.DeviceFailed → ⊥) → now ≡ before
