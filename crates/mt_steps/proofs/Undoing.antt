-- What an operation's inverse takes.
use Rattle.std.proofs.Common.{◌≡◌, ◌≤◌, ℕ, false, Some, None, Option, subst, arith}
use Rattle.mt_model.specs.declared.operations.Op.{Op}
use Rattle.mt_model.specs.declared.operations.Op.TheVariants.{Get, Insert, Update, Delete, Add, Read, Scan}
use Rattle.mt_model.specs.declared.operations.Reply.{Reply}
use Rattle.mt_model.specs.declared.operations.Reply.TheVariants.{Done, Was}
use Rattle.mt_model.specs.Model.{inverse_of}
use Rattle.mt_steps.specs.Plans.{own_needs, undo_pages}

-- the pages that an operation takes, if there is one
abbrev taken_by : Option Op → ℕ
taken_by None = 0
taken_by (Some op) = own_needs op false

within : (op : Op) (reply : Reply) → taken_by (inverse_of op reply) ≤ undo_pages op
within (Insert r k v) Done = omega arith
within (Insert r k v) _ = omega arith
within (Update r k v) (Was old) = omega arith
within (Update r k v) _ = omega arith
within (Delete r k) (Was old) = omega arith
within (Delete r k) _ = omega arith
within (Add c d) Done = omega arith
within (Add c d) _ = omega arith
within (Get r k) Done = omega arith
within (Get r k) _ = omega arith
within (Read c) Done = omega arith
within (Read c) _ = omega arith
within (Scan r) _ = omega arith

pub enough : (op : Op) (reply : Reply) (inverse : Op) → inverse_of op reply ≡ Some inverse → own_needs inverse false ≤ undo_pages op
enough op reply inverse is = subst (λ (o : Option Op). taken_by o ≤ undo_pages op) is (within op reply)
