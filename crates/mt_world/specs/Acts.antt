-- Operations that ended, in the order of their ends.
use Rattle.std.specs.Prelude.{ℕ, Bool, List, map}
use Rattle.mt_model.specs.declared.operations.Op.{Op}
use Rattle.mt_model.specs.declared.operations.Reply.{Reply}
use Rattle.mt_model.specs.History.{Call}

-- whose it was, what it replied, and whether it takes another of its transaction back
pub record Act : Type 0 where
  pub txn : ℕ
  pub op : Op
  pub reply : Reply
  pub undoes : Bool

-- the operations with their replies, whoever made them
abbrev pub calls_in : List Act → List Call
calls_in acts = map (λ (a : Act). (a.op, a.reply)) acts
