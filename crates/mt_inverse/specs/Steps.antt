-- Which operations have an inverse that can be named.
use Rattle.mt_base.specs.Limits.{IsStep}
use Rattle.mt_model.specs.declared.operations.Op.{Op}
use Rattle.mt_model.specs.declared.operations.Op.TheVariants.{Add}

-- an add's step lies within the limits of steps, so that its opposite is a step too
abbrev pub IsWithinSteps : Op → Type 0
IsWithinSteps (Add counter step) = IsStep step
IsWithinSteps _ = Unit {0}
