-- What an operation does to a base.
use Rattle.std.specs.Prelude.{Result, IfErr, IfOk, OnErr, OnOk, ◌≡◌}
use Rattle.mt_base.specs.declared.refusal.Refusal.{Refusal}
use Rattle.mt_base.specs.declared.refusal.Refusal.TheVariants as refusal
use Rattle.mt_model.specs.declared.operations.Op.{Op}
use Rattle.mt_model.specs.declared.operations.Reply.{Reply}
use Rattle.mt_model.specs.declared.tables.Base.{Base}
use Rattle.mt_model.specs.Model.{base_after, reply_of}
use Rattle.mt_model.specs.Views.{base_of, counters_of, relations_of}

-- It was done, or memory was refused.
pub record Performs (b n : Base) (op : Op) (r : Result Reply Refusal) : Type 0 where
  pub reply : IfOk r (λ reply. reply ≡ reply_of (base_of b) op)
  pub base : OnOk r (base_of n ≡ base_after (base_of b) op)
  pub only_memory : IfErr r (λ why. why ≡ refusal.NoMemory)
  pub kept : OnErr r (n ≡ b)
  pub relations : relations_of n ≡ relations_of b
  pub counters : counters_of n ≡ counters_of b
