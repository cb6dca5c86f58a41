use Rattle.std.proofs.Props.{props}
use mathlib.Core.Logic.{∥∥₁_elim, ∥∥₁_map}
use Rattle.std.proofs.Common.{◌<◌, ◌≤◌, ◌+◌, ◌-◌, ◌++◌, [], ℕ, refl, sym, ap, ◌∙◌, subst, arith}
use Rattle.std.specs.Prelude.{Err, IsSome}
use Rattle.std.proofs.lemmas.Result.{err_from_is_err_and}
use Rattle.mt_log.specs.Words.{appended, durable, used, area_size}
use Rattle.mt_log.specs.declared.log.Log.{Log}
use Rattle.mt_frame.specs.declared.records.Record.TheVariants.{OpDropped}
use Rattle.mt_pool.specs.Views.{waits_for}
use Rattle.mt_pool.specs.declared.pool.Pool.{Pool}
use Rattle.mt_op.specs.Operations.{world}
use Rattle.mt_op.specs.Records.{dropped_with}
use Rattle.mt_op.specs.Stepping.{PutsOneBack}
use Rattle.mt_op.specs.declared.scope.Stage.TheVariants.{Cleared}
use Rattle.mt_op.proofs.Right.{right_rests}
use Rattle.mt_op.proofs.Budget.{area_small}
use Rattle.mt_op.proofs.Restored.{kept_to_drop, returnable_one, standing_one, drop_stands, notes_back, last_goes}
use Rattle.mt_op.proofs.Written.{rests_goes_as}
use Rattle.mt_op.proofs.Known.{known}
use Rattle.mt_op.specs.World.{looked}
use Rattle.mt_op.proofs.operations.Operations.clear.Goals as goal

pub overflow_add-scope : goal.overflow_add-scope
overflow_add-scope g c = let used = c.used-before.ensures in let most = area_small c.args.self.now.store.log in omega arith

pub overflow_sub-scope : goal.overflow_sub-scope
overflow_sub-scope g c = let took = c.in_ok-append_record.ensures.used in let same = ap (λ (l : Log). used l) c.put_back.ensures.log in let was = c.used-before.ensures in let now = c.used.ensures in
    let kept : 22 ≤ c.args.scope.now.left = ∥∥₁_elim c.requires.right (hlevel props) (λ (opening, relations, counters, right, k). kept_to_drop relations counters (world g.D.Device opening c.args.self.now) c.args.scope.now k c.requires.stage c.requires.last c.requires.budget) in omega (arith, took, same, was, now, kept)

pub put_back-requires-clause-logged : goal.put_back-requires-clause-logged
put_back-requires-clause-logged g c =
    let (change, is, same) = c.requires.page in
    let last = c.requires.last in
    let ready = returnable_one g.D.Device c.args.self.now c.args.scope.now change c.requires.right c.requires.stage (omega arith) is in
    subst (λ (p : Pool). 0 < waits_for p c.args.page) (sym c.append_record.ensures.pool) (subst (λ (p : ℕ). 0 < waits_for c.args.self.now.store.pool p) same ready.logged)

pub returns-in_err-append_record : goal.returns-in_err-append_record
returns-in_err-append_record g c =
    let f = c.append_record.ensures in let e = c.in_err-append_record.ensures in let seen = g.D.Device.seen in let may_leave = g.D.Device.may_leave in
    let o = c.args.self.now in let n = c.append_record.new.self in let s = c.args.scope.now in
    let p = err_from_is_err_and c.from_residual.result c.from_residual.ensures.1 in
    let is = p.1 ∙ ap Err (p.2 ∙ e.only_memory) in
    record {
      cleared = rw is tt;
      back = subst (PutsOneBack g.D.Device o n s s) (sym is) (record {
        goes = λ opening relations counters right k. let rests = e.rests opening in
            (right_rests g.D.Device opening relations counters o n right (f.kept opening right.kept) rests f.map f.rooms, rests_goes_as relations counters (world g.D.Device opening o) (world g.D.Device opening n) s rests k);
        device = f.device;
        more = λ is. absurd cc;
        clear = λ is. absurd cc;
        never = λ is. absurd cc;
        log = ap (λ (u : ℕ). u + s.left) e.err_used;
        area = f.area;
        durable = f.durable;
        map = f.map;
        records = (e.rests (λ n. [])).records;
        locks = f.locks;
        budget = c.requires.budget;
        err = refl;
        only_memory = refl;
      });
    }

pub returns : goal.returns
returns g c = let f = c.append_record.ensures in let b = c.put_back.ensures in let seen = g.D.Device.seen in let may_leave = g.D.Device.may_leave in
    let o = c.args.self.now in let m = c.append_record.new.self in let n = c.put_back.new.self in let s = c.args.scope.now in
    let (change, is, same) = c.requires.page in
    record {
      cleared = refl;
      back = record {
        goes = λ opening relations counters right k.
            let back = notes_back (world g.D.Device opening o) (world g.D.Device opening m) (world g.D.Device opening n) s change (OpDropped s.txn s.number) (c.in_ok-append_record.ensures.notes opening) (b.back opening change same) in
            last_goes g.D.Device opening relations counters o n s change right k c.requires.stage is (b.kept opening (f.kept opening right.kept)) (b.map ∙ f.map) (b.rooms ∙ f.rooms)
            (record s { left = s.left + c.used-before.result - c.used.result; stage = Cleared; standing = 0 }) back c.requires.last
            (record { op = record { txn = refl; number = refl; op = refl; undoes = refl; split = refl; total = refl }; room = refl; guards = refl; seen = refl; changes = refl; reply = refl }) refl;
        device = b.device ∙ f.device;
        more = λ is. absurd cc;
        clear = λ is. (refl, (let last = c.requires.last in omega arith));
        never = λ is. absurd cc;
        log = let took = c.in_ok-append_record.ensures.used in let same = ap (λ (l : Log). used l) b.log in let was = c.used-before.ensures in let now = c.used.ensures in
            let kept : 22 ≤ s.left = ∥∥₁_elim c.requires.right (hlevel props) (λ (opening, relations, counters, right, k). kept_to_drop relations counters (world g.D.Device opening o) s k c.requires.stage c.requires.last c.requires.budget) in omega (arith, took, same, was, now, kept);
        area = ap (λ (l : Log). area_size l) b.log ∙ f.area;
        durable = ap (λ (l : Log). durable l) b.log ∙ f.durable;
        map = b.map ∙ f.map;
        records = ap (λ (l : Log). appended l) b.log ∙ (c.in_ok-append_record.ensures.notes (λ n. [])).records ∙ ap (λ (standing : ℕ). appended o.store.log ++ dropped_with s.txn s.number standing) (sym c.requires.last);
        locks = b.locks ∙ f.locks;
        budget = record { enough = omega arith; reads = c.requires.budget.reads };
        err = tt;
        only_memory = tt;
      };
    }

pub append_record-requires-clause-kept : goal.append_record-requires-clause-kept
append_record-requires-clause-kept g c = (known g.D.Device c.args.self.now c.args.scope.now c.requires.right).kept

pub put_back-requires-clause-kept : goal.put_back-requires-clause-kept
put_back-requires-clause-kept g c = ∥∥₁_map (known g.D.Device c.args.self.now c.args.scope.now c.requires.right).kept (λ k. (k.0, c.append_record.ensures.kept k.0 k.1))

pub append_record-requires-clause-grammar : goal.append_record-requires-clause-grammar
append_record-requires-clause-grammar g c = let k = known g.D.Device c.args.self.now c.args.scope.now c.requires.right in (k.txn, k.op)

pub append_record-requires-clause-rules : goal.append_record-requires-clause-rules
append_record-requires-clause-rules g c = let s = c.args.scope.now in let last = c.requires.last in
    drop_stands (appended c.args.self.now.store.log) s.txn s.number (known g.D.Device c.args.self.now c.args.scope.now c.requires.right).txn (standing_one g.D.Device c.args.self.now c.args.scope.now c.requires.right c.requires.stage (omega arith)).unfinished

pub append_record-requires-clause-fits : goal.append_record-requires-clause-fits
append_record-requires-clause-fits g c = let room = c.requires.room in
    let kept : 22 ≤ c.args.scope.now.left = ∥∥₁_elim c.requires.right (hlevel props) (λ (opening, relations, counters, right, k). kept_to_drop relations counters (world g.D.Device opening c.args.self.now) c.args.scope.now k c.requires.stage c.requires.last c.requires.budget) in
    omega (arith, room, kept)

pub put_back-requires-clause-looked : goal.put_back-requires-clause-looked
put_back-requires-clause-looked g c = let (change, is, same) = c.requires.page in let last = c.requires.last in
    let ready = returnable_one g.D.Device c.args.self.now c.args.scope.now change c.requires.right c.requires.stage (omega arith) is in
    subst (λ (p : ℕ). IsSome (looked c.args.scope.now p)) same ready.some

pub put_back-requires-clause-whole : goal.put_back-requires-clause-whole
put_back-requires-clause-whole g c = (known g.D.Device c.args.self.now c.args.scope.now c.requires.right).whole
