-- Scripts and schedules that are named, and why one was not read.
use Rattle.std.specs.Prelude.{ℕ, Bool, List, bytes_eq, codes}
use Rattle.mt_base.specs.declared.refusal.Refusal.{Refusal}
use Rattle.mt_base.specs.declared.refusal.Refusal.TheVariants as refusal
use Rattle.mt_report.specs.declared.read_faults.ReadFault.{ReadFault}
use Rattle.mt_report.specs.declared.read_faults.ReadFault.TheVariants.{Refused, BadLine}

-- the name represents the input
abbrev pub is_input : List ℕ → Bool
is_input name = bytes_eq name (codes "-")

-- the refusal of what was not read
abbrev pub refusal_in : {W : Type 0} → ReadFault W → Refusal
refusal_in (Refused why) = why
refusal_in (BadLine number fault) = refusal.BadLine number
