use Rattle.std.proofs.Props.{props}
use mathlib.Core.Logic.{∥∥₁_elim}
use Rattle.std.proofs.Common.{◌<◌, ◌-◌, ◌+◌, refl, subst, arith, ap}
use Rattle.mt_log.specs.Words.{appended, durable, used, area_size}
use Rattle.mt_log.specs.declared.log.Log.{Log}
use Rattle.mt_pool.specs.Views.{waits_for, pages}
use Rattle.std.specs.Prelude.{IsSome, ℕ}
use Rattle.mt_op.specs.World.{looked}
use Rattle.mt_op.specs.Operations.{world}
use Rattle.mt_op.specs.declared.scope.Stage.TheVariants.{Taking}
use Rattle.mt_op.proofs.Restored.{returnable_one, left_to_drop, back_goes}
use Rattle.mt_op.proofs.Known.{known}
use Rattle.mt_op.proofs.operations.Operations.put_last_back.Goals as goal

pub returns-then-scope-eq1 : goal.returns-then-scope-eq1
returns-then-scope-eq1 g c = c.clear.ensures.back

pub put_back-requires : goal.put_back-requires
put_back-requires g c = let (change, is, same) = c.requires.page in
    let ready = returnable_one g.D.Device c.args.self.now c.args.scope.now change c.requires.right c.requires.stage c.requires.some is in
    let k = known g.D.Device c.args.self.now c.args.scope.now c.requires.right in
    record {
      kept = k.kept;
      looked = subst (λ (p : ℕ). IsSome (looked c.args.scope.now p)) same ready.some;
      whole = k.whole;
      inside = subst (λ (p : ℕ). p < pages c.args.self.now.store.pool) same ready.inside;
      there = c.requires.there;
      logged = subst (λ (p : ℕ). 0 < waits_for c.args.self.now.store.pool p) same ready.logged;
    }

pub returns : goal.returns
returns g c = let b = c.put_back.ensures in let seen = g.D.Device.seen in let may_leave = g.D.Device.may_leave in
    let o = c.args.self.now in let n = c.put_back.new.self in let s = c.args.scope.now in
    let (change, is, same) = c.requires.page in let some = c.requires.some in let not_one = c.if-scope-eq1.false in
    let more : 1 < s.standing = omega arith in
    let t = record s { stage = Taking; standing = s.standing - 1 } in
    record {
      goes = λ opening relations counters right k.
          back_goes g.D.Device opening relations counters o n s change right k c.requires.stage is (b.kept opening right.kept) b.map b.rooms
          t (b.back opening change same) more
          (record { op = record { txn = refl; number = refl; op = refl; undoes = refl; split = refl; total = refl }; room = refl; guards = refl; seen = refl; changes = refl; reply = refl }) refl refl (omega arith);
      device = b.device;
      more = λ is. (refl, omega arith);
      clear = λ is. absurd cc;
      never = λ is. absurd cc;
      log = ap (λ (l : Log). used l + s.left) b.log;
      area = ap (λ (l : Log). area_size l) b.log;
      durable = ap (λ (l : Log). durable l) b.log;
      map = b.map;
      records = ap (λ (l : Log). appended l) b.log;
      locks = b.locks;
      budget =
          record { enough = ∥∥₁_elim c.requires.right (hlevel props) (λ (opening, relations, counters, right, k). left_to_drop relations counters (world g.D.Device opening o) s k c.requires.stage some c.requires.budget); reads = c.requires.budget.reads };
      err = tt;
      only_memory = tt;
    }
