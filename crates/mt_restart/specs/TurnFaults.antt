-- For which refusals a rotation leaves no more than the device.
use Rattle.std.specs.Prelude.{⊤}
use Rattle.mt_base.specs.declared.refusal.Refusal.{Refusal}
use Rattle.mt_base.specs.declared.refusal.Refusal.TheVariants as refusal

-- 1, 2 or 11
abbrev pub IsTurnFault : Refusal → Type 0
IsTurnFault refusal.NoMemory = ⊤
IsTurnFault refusal.DeviceFailed = ⊤
IsTurnFault refusal.LogFull = ⊤
IsTurnFault _ = ⊥
