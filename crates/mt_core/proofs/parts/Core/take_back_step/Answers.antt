use mathlib.Core.Logic.{∥∥₁_elim, ∥∥₁_map}
use Rattle.std.proofs.Props.{props}
use Rattle.std.proofs.Common.{rules, ◌≡◌, ◌∙◌, ◌<◌, ◌≤◌, ◌+◌, Ok, length, get_or, sym, ap, subst, arith}
use Rattle.std.specs.Prelude.{Result}
use Rattle.std.proofs.lemmas.Result.{err_from_is_err_and}
use Rattle.mt_base.specs.declared.refusal.Refusal.{Refusal}
use Rattle.mt_live.specs.Lives.{Lives}
use Rattle.mt_op.specs.declared.answers.TakenBack.{TakenBack}
use Rattle.mt_pool.specs.Views.{pages}
use Rattle.std.proofs.Common.{List}
use Rattle.mt_core.specs.Work.{LeavesStanding, LowersBack, effects_left, steps_in, undo_steps}
use Rattle.mt_core.proofs.Laboring.{steps_remove_other}
use Rattle.mt_core.proofs.Undoing.{moved_of, total_at, forward_moved, undo_removed, abort_at, fore_with}
use Rattle.std.proofs.lemmas.List.{get_or_default}
use Rattle.mt_op.specs.Moves.{SameOp}
use Rattle.mt_core.specs.Consistent.{state_of, DropsIn, GoesBack}
use Rattle.mt_op.specs.declared.scope.OpScope.{OpScope}
use Rattle.mt_core.proofs.Restarts.{goes_on, quiet_then}
use Rattle.mt_plock.specs.Releasing.{locks_without}
use Rattle.mt_core.specs.PageLocks.{GivesLocksBack}
use Rattle.mt_core.specs.Writes.{BackWrites}
use Rattle.mt_log.specs.Words.{appended}
use Rattle.mt_pool.specs.declared.store.Store.{Store}
use Rattle.mt_core.proofs.parts.Core.take_back_step.Goals as goal

pub drop_out-requires-clause-cleared : goal.drop_out-requires-clause-cleared
drop_out-requires-clause-cleared g c = ∥∥₁_map c.requires.safe (λ (origin, base, safe).
    let was = c.in_ok-take_back.was ∙ ap Ok c.in-Clear.is in
    (origin, base, (subst (GoesBack g.D.Device origin base (state_of c.args.self.now base) c.take_back.new.self c.args.place) was (c.take_back.ensures.back origin base safe)).0))

pub drop_out-requires-clause-within : goal.drop_out-requires-clause-within
drop_out-requires-clause-within g c = let same = c.take_back.ensures.length in let within = c.requires.within in omega arith

pub drop_out-requires-clause-forward : goal.drop_out-requires-clause-forward
drop_out-requires-clause-forward g c = λ q now. let items = c.args.self.now.running.items in let place = c.args.place in
    let r : OpScope = get_or items place q in
    let at : r ≡ get_or items place r = get_or_default items place q r c.requires.within in
    ∥∥₁_elim c.requires.safe (hlevel props) (λ (origin, base, safe). (c.take_back.ensures.same origin base safe r q at now).undoes ∙ (c.requires.aborting r at).0)

pub returns-in-Clear-clause-back : goal.returns-in-Clear-clause-back
returns-in-Clear-clause-back g c = λ origin base safe x at. let k = c.args.self.now in let place = c.args.place in let seen = g.D.Device.seen in let may_leave = g.D.Device.may_leave in
    let was = c.in_ok-take_back.was ∙ ap Ok c.in-Clear.is in
    let made = subst (GoesBack g.D.Device origin base (state_of k base) c.take_back.new.self place) was (c.take_back.ensures.back origin base safe) in
    let items = c.take_back.new.self.running.items in
    let inside : place < length items = let same = c.take_back.ensures.length in let within = c.requires.within in omega arith in
    let q : OpScope = get_or items place x in
    let now : q ≡ get_or items place q = get_or_default items place x q inside in
    let same : SameOp x q = c.take_back.ensures.same origin base safe x q at now in
    let gone = c.drop_out.ensures.drops origin base made.0 q now in
    subst (λ (X : Type 0). X) (λ i. DropsIn g.D.Device origin base (sym made.1 i) c.drop_out.new.self (same.txn i)) gone

pub returns-in-More-clause-put : goal.returns-in-More-clause-put
returns-in-More-clause-put g c = record {
  lowers = λ x at. ∥∥₁_elim c.requires.safe (hlevel props) (λ (origin, base, safe).
      let k = c.args.self.now in let n = c.take_back.new.self in let place = c.args.place in let seen = g.D.Device.seen in let may_leave = g.D.Device.may_leave in
      let was = c.in_ok-take_back.was ∙ ap Ok c.in-More.is in
      let made = subst (GoesBack g.D.Device origin base (state_of k base) n place) was (c.take_back.ensures.back origin base safe) in
      let m = moved_of g.D.Device origin base k n place x safe made.consistent c.requires.within at c.take_back.ensures.length (λ q now. c.take_back.ensures.same origin base safe x q at now) c.take_back.ensures.live in
      let q : OpScope = get_or n.running.items place x in
      let less = subst (LeavesStanding x q) was (c.take_back.ensures.puts x q at m.now) in
      let both = forward_moved k n place x q m (c.requires.aborting x at).0 in let b = both.0 in let a = both.1 in omega arith);
  others = search rules;
  live = search rules;
  commits = search rules;
  numbers = search rules;
  locks = search rules;
  writes = search rules;
  durable = search rules;
  full = search rules;
  why = search rules;
  faults = search rules;
  moments = search rules;
  reads = search rules;
}

pub returns-in-Flush-clause-put : goal.returns-in-Flush-clause-put
returns-in-Flush-clause-put g c = record {
  lowers = λ x at. ∥∥₁_elim c.requires.safe (hlevel props) (λ (origin, base, safe).
      let k = c.args.self.now in let n = c.take_back.new.self in let place = c.args.place in let seen = g.D.Device.seen in let may_leave = g.D.Device.may_leave in
      let was = c.in_ok-take_back.was ∙ ap Ok c.in-Flush.is in
      let made = subst (GoesBack g.D.Device origin base (state_of k base) n place) was (c.take_back.ensures.back origin base safe) in
      let m = moved_of g.D.Device origin base k n place x safe made.consistent c.requires.within at c.take_back.ensures.length (λ q now. c.take_back.ensures.same origin base safe x q at now) c.take_back.ensures.live in
      let q : OpScope = get_or n.running.items place x in
      let less = subst (LeavesStanding x q) was (c.take_back.ensures.puts x q at m.now) in
      let both = forward_moved k n place x q m (c.requires.aborting x at).0 in let b = both.0 in let a = both.1 in omega arith);
  others = search rules;
  live = search rules;
  commits = search rules;
  numbers = search rules;
  locks = search rules;
  writes = search rules;
  durable = search rules;
  full = search rules;
  why = search rules;
  faults = search rules;
  moments = search rules;
  reads = search rules;
}

pub returns-in_err-take_back-clause-put : goal.returns-in_err-take_back-clause-put
returns-in_err-take_back-clause-put g c = record {
  lowers = λ x at. let k = c.args.self.now in let n = c.take_back.new.self in let place = c.args.place in let seen = g.D.Device.seen in let may_leave = g.D.Device.may_leave in
      let few : undo_steps n x.txn ≤ undo_steps k x.txn = ∥∥₁_elim c.requires.safe (hlevel props) (λ (origin, base, safe).
      let made = subst (GoesBack g.D.Device origin base (state_of k base) n place) c.in_err-take_back.was (c.take_back.ensures.back origin base safe) in
      let m = moved_of g.D.Device origin base k n place x safe made.consistent c.requires.within at c.take_back.ensures.length (λ q now. c.take_back.ensures.same origin base safe x q at now) c.take_back.ensures.live in
      let q : OpScope = get_or n.running.items place x in
      let less = subst (LeavesStanding x q) c.in_err-take_back.was (c.take_back.ensures.puts x q at m.now) in
      let both = forward_moved k n place x q m (c.requires.aborting x at).0 in let b = both.0 in let a = both.1 in omega arith) in
      let p = err_from_is_err_and c.from_residual.result c.from_residual.ensures.1 in
      subst (λ (r : Result TakenBack Refusal). LowersBack r (undo_steps k x.txn) (undo_steps n x.txn)) (sym p.1) few;
  others = search rules;
  live = search rules;
  commits = search rules;
  numbers = search rules;
  locks = λ x at.
      let p = err_from_is_err_and c.from_residual.result c.from_residual.ensures.1 in
      subst (GivesLocksBack c.args.self.now c.take_back.new.self x) (sym p.1) c.take_back.ensures.locks;
  writes = let p = err_from_is_err_and c.from_residual.result c.from_residual.ensures.1 in
      subst (BackWrites (appended c.args.self.now.operations.store.log) (appended c.take_back.new.self.operations.store.log)) (sym p.1)
      (subst (BackWrites (appended c.args.self.now.operations.store.log) (appended c.take_back.new.self.operations.store.log)) c.in_err-take_back.was c.take_back.ensures.writes);
  durable = search rules;
  full = search rules;
  why = search rules;
  faults = search rules;
  moments = search rules;
  reads = search rules;
}

pub returns-in-Clear-clause-put : goal.returns-in-Clear-clause-put
returns-in-Clear-clause-put g c = record {
  lowers = λ x at. ∥∥₁_elim c.requires.safe (hlevel props) (λ (origin, base, safe).
      let k = c.args.self.now in let z = c.take_back.new.self in let n = c.drop_out.new.self in let place = c.args.place in let seen = g.D.Device.seen in let may_leave = g.D.Device.may_leave in
      let was = c.in_ok-take_back.was ∙ ap Ok c.in-Clear.is in
      let made = subst (GoesBack g.D.Device origin base (state_of k base) z place) was (c.take_back.ensures.back origin base safe) in
      let items = z.running.items in
      let inside : place < length items = let same = c.take_back.ensures.length in let within = c.requires.within in omega arith in
      let q : OpScope = get_or items place x in
      let now : q ≡ get_or items place q = get_or_default items place x q inside in
      let same : SameOp x q = c.take_back.ensures.same origin base safe x q at now in
      let cleared = made.0 q now in
      let all = pages k.operations.store.pool in let t = x.txn in
      let size : pages n.operations.store.pool ≡ all = ap (λ o. pages o.pool) c.drop_out.ensures.store ∙ sym cleared.alone.own.total ∙ same.total ∙ total_at g.D.Device origin base k place x safe c.requires.within at in
      let standing : n.live.standing ≡ k.live.standing = ap (λ (l : Lives). l.standing) (c.drop_out.ensures.live ∙ c.take_back.ensures.live) in
      let gone = undo_removed n items place t all q k.live.standing inside now cleared.fit.apart same.txn c.drop_out.ensures.items size standing in
      let effects = effects_left all k.live.standing t in
      let before = abort_at all effects k.running.items place x c.requires.within at safe.fit.apart ∙ fore_with all effects x (c.requires.aborting x at).0 in omega (arith, before, gone));
  others = λ x at u other. ∥∥₁_elim c.requires.safe (hlevel props) (λ (origin, base, safe).
      let place = c.args.place in
      let items = c.take_back.new.self.running.items in
      let inside : place < length items = let same = c.take_back.ensures.length in let within = c.requires.within in omega arith in
      let q : OpScope = get_or items place x in
      let now : q ≡ get_or items place q = get_or_default items place x q inside in
      let same : SameOp x q = c.take_back.ensures.same origin base safe x q at now in
      ap (λ (rs : List OpScope). steps_in rs u) c.drop_out.ensures.items ∙ steps_remove_other items place q inside now u (λ is. other (is ∙ same.txn)) ∙ c.take_back.ensures.others x at u other);
  live = search rules;
  commits = search rules;
  numbers = search rules;
  locks = λ x at. ∥∥₁_elim c.requires.safe (hlevel props) (λ (origin, base, safe).
      let place = c.args.place in let items = c.take_back.new.self.running.items in
      let inside : place < length items = let same = c.take_back.ensures.length in let within = c.requires.within in omega arith in
      let q : OpScope = get_or items place x in
      let now : q ≡ get_or items place q = get_or_default items place x q inside in
      let same : SameOp x q = c.take_back.ensures.same origin base safe x q at now in
      c.drop_out.ensures.locks q now ∙ ap (λ n. locks_without n c.take_back.new.self.operations.locks) same.number ∙ ap (locks_without x.number) c.take_back.ensures.locks);
  writes = subst (λ (s : Store g.row.D.Denot). length (appended s.log) ≤ length (appended c.args.self.now.operations.store.log) + 1) (sym c.drop_out.ensures.store)
      (subst (BackWrites (appended c.args.self.now.operations.store.log) (appended c.take_back.new.self.operations.store.log)) (c.in_ok-take_back.was ∙ ap Ok c.in-Clear.is) c.take_back.ensures.writes);
  durable = search rules;
  full = search rules;
  why = search rules;
  faults = search rules;
  moments = search rules;
  reads = search rules;
}

pub returns-in-More-clause-restartable : goal.returns-in-More-clause-restartable
returns-in-More-clause-restartable g c = λ origin base later safe_k safe_n r. let e = c.take_back.ensures in
    goes_on g.D.Device origin c.args.self.now c.take_back.new.self base later safe_k safe_n (e.appends origin base safe_k) e.book e.commits e.live r

pub returns-in-Flush-clause-restartable : goal.returns-in-Flush-clause-restartable
returns-in-Flush-clause-restartable g c = λ origin base later safe_k safe_n r. let e = c.take_back.ensures in
    goes_on g.D.Device origin c.args.self.now c.take_back.new.self base later safe_k safe_n (e.appends origin base safe_k) e.book e.commits e.live r

pub returns-in_err-take_back-clause-restartable : goal.returns-in_err-take_back-clause-restartable
returns-in_err-take_back-clause-restartable g c = λ origin base later safe_k safe_n r. let e = c.take_back.ensures in
    goes_on g.D.Device origin c.args.self.now c.take_back.new.self base later safe_k safe_n (e.appends origin base safe_k) e.book e.commits e.live r

pub returns-in-Clear-clause-restartable : goal.returns-in-Clear-clause-restartable
returns-in-Clear-clause-restartable g c = λ origin base later safe_k safe_n r. let e = c.take_back.ensures in let d = c.drop_out.ensures in let k = c.args.self.now in let m = c.take_back.new.self in let n = c.drop_out.new.self in let seen = g.D.Device.seen in let may_leave = g.D.Device.may_leave in
    goes_on g.D.Device origin k n base later safe_k safe_n (quiet_then g.D.Device origin k m n (e.appends origin base safe_k) d.store) (d.book ∙ e.book) (d.commits ∙ e.commits) (d.live ∙ e.live) r
