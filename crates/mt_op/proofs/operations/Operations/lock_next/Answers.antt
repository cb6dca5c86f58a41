use Rattle.std.proofs.Common.{◌≡◌, ◌∙◌, ◌<◌, inr, true, ℕ, refl, sym, subst, arith}
use Rattle.mt_model.specs.declared.operations.Op.{Op}
use Rattle.mt_model.specs.declared.operations.Op.TheVariants.{Get, Insert, Update, Delete, Add, Read, Scan}
use Rattle.mt_steps.specs.Plans.{record_bytes}
use Rattle.mt_op.specs.Holds.{IsAsked}
use Rattle.mt_op.specs.Operations.{only_reads}
use Rattle.mt_op.proofs.Known.{known}
use Rattle.mt_op.proofs.operations.Operations.lock_next.Goals as goal

-- who only reads puts no record
puts : (op : Op) → 0 < record_bytes op → only_reads op ≡ true → ⊥
puts (Get r k) some is = absurd (omega arith)
puts (Insert r k v) some is = absurd cc
puts (Update r k v) some is = absurd cc
puts (Delete r k) some is = absurd cc
puts (Add c d) some is = absurd cc
puts (Read c) some is = absurd (omega arith)
puts (Scan r) some is = absurd (omega arith)

pub room_for-requires-clause-few : goal.room_for-requires-clause-few
room_for-requires-clause-few g c = let k = known g.D.Device c.args.self.now c.args.scope.now c.requires.right in let few = k.steady.few in let total = k.rooms in omega arith

pub room_for-requires-clause-short : goal.room_for-requires-clause-short
room_for-requires-clause-short g c = (known g.D.Device c.args.self.now c.args.scope.now c.requires.right).short

pub lock-requires-in-Some-clause-next : goal.lock-requires-in-Some-clause-next
lock-requires-in-Some-clause-next g c =
    let s = c.args.scope.now in
    let k = known g.D.Device c.args.self.now s c.requires.right in
    let found = c.in-Some.ensures in
    let ((unled, some), ((inside, enough), free)) = found in
    record {
      unseen = record {
        new = k.unseen c.in-Some.room free;
        inside = let rooms = k.rooms in let total = k.total in omega arith;
        reads = λ is. absurd (puts s.op some is);
      };
      asked = inr ((c.args.mode, subst (λ (p : ℕ). IsAsked s p c.args.mode) (sym c.get.ensures ∙ c.if-get-ne-MAP.false) c.requires.asked), refl, found);
    }

pub lock-requires-in-Some-clause-led : goal.lock-requires-in-Some-clause-led
lock-requires-in-Some-clause-led g c =
    let s = c.args.scope.now in
    let k = known g.D.Device c.args.self.now s c.requires.right in
    let ((unled, some), (takes, free)) = c.in-Some.ensures in
    inr (refl, refl, k.records (record_bytes s.op) c.in-Some.room some takes)
