-- What is logged lies within the limits of the log.
use Rattle.std.proofs.Common.{◌≡◌, ℕ, ◌≤◌, Bool, true, false, cond, List, arith, Option, Some, None, refl, IfSome}
use Rattle.mt_base.specs.Limits.{IsValue}
use Rattle.mt_frame.specs.Grammar.{IsOperation}
use Rattle.mt_model.specs.declared.operations.Op.{Op}
use Rattle.mt_model.specs.declared.operations.Op.TheVariants.{Get, Insert, Update, Delete, Add, Read, Scan}
use Rattle.mt_model.specs.declared.operations.Reply.{Reply}
use Rattle.mt_model.specs.declared.operations.Reply.TheVariants.{Done, Was, OutOfBounds}
use Rattle.mt_model.specs.Model.{Base, IsWithin, reply_of, found, done_unless, was}
use Rattle.mt_steps.specs.Logged.{logged_of, HasSmallReply, HasSmallValues}

-- ---- values stay small

small_found : (o : Option (List ℕ)) → ((v : List ℕ) → o ≡ Some v → IsValue v) → HasSmallReply (found o)
small_found None small = tt
small_found (Some v) small = small v refl

small_done : (o : Option (List ℕ)) → HasSmallReply (done_unless o)
small_done None = tt
small_done (Some v) = tt

small_was : (o : Option (List ℕ)) → ((v : List ℕ) → o ≡ Some v → IsValue v) → HasSmallReply (was o)
small_was None small = tt
small_was (Some v) small = small v refl

small_added : (b : Bool) → HasSmallReply (cond b Done OutOfBounds)
small_added true = tt
small_added false = tt

pub small_reply : (b : Base) (op : Op) → HasSmallValues b → HasSmallReply (reply_of b op)
small_reply b (Get r k) small = small_found (b.rows r k) (small r k)
small_reply b (Insert r k v) small = small_done (b.rows r k)
small_reply b (Update r k v) small = small_was (b.rows r k) (small r k)
small_reply b (Delete r k) small = small_was (b.rows r k) (small r k)
small_reply b (Add c d) small = small_added _
small_reply b (Read c) small = tt
small_reply b (Scan r) small = tt

-- ---- what is logged lies within the limits of the log

pub logged_operation : (relations counters : ℕ) (op : Op) (reply : Reply) → relations ≤ 64 → counters ≤ 128
    → IsWithin relations counters op → HasSmallReply reply → IfSome (logged_of op reply) IsOperation
logged_operation relations counters (Insert r k v) Done few some within small = (omega (arith, within.0), within.1, within.2)
logged_operation relations counters (Update r k v) (Was old) few some within small = (omega (arith, within.0), within.1, within.2, small)
logged_operation relations counters (Delete r k) (Was old) few some within small = (omega (arith, within.0), within.1, small)
logged_operation relations counters (Add c d) Done few some within small = (omega (arith, within.0), within.1)
logged_operation relations counters _ _ few some within small = tt
