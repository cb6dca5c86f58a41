-- What is logged of an operation.
use Rattle.std.specs.Prelude.{◌≡◌, ℕ, List, Option, Some, None}
use Rattle.mt_base.specs.Limits.{IsValue}
use Rattle.mt_frame.specs.declared.records.LoggedOp.{LoggedOp}
use Rattle.mt_frame.specs.declared.records.LoggedOp.TheVariants as logged
use Rattle.mt_model.specs.declared.operations.Op.{Op}
use Rattle.mt_model.specs.declared.operations.Op.TheVariants.{Insert, Update, Delete, Add}
use Rattle.mt_model.specs.declared.operations.Reply.{Reply}
use Rattle.mt_model.specs.declared.operations.Reply.TheVariants.{Found, Done, Was}
use Rattle.mt_model.specs.Model.{Base}

-- what is logged of an operation with this reply, if it did anything
abbrev pub logged_of : Op → Reply → Option LoggedOp
logged_of (Insert r k v) Done = Some (logged.Insert r k v)
logged_of (Update r k v) (Was old) = Some (logged.Update r k v old)
logged_of (Delete r k) (Was old) = Some (logged.Delete r k old)
logged_of (Add c d) Done = Some (logged.Add c d)
logged_of _ _ = None

-- a value in the reply lies within the limits of values
abbrev pub HasSmallReply : Reply → Type 0
HasSmallReply (Found v) = IsValue v
HasSmallReply (Was v) = IsValue v
HasSmallReply _ = Unit {0}

-- each value under a key does
abbrev pub HasSmallValues : Base → Type 0
HasSmallValues b = (r : ℕ) (k v : List ℕ) → b.rows r k ≡ Some v → IsValue v
