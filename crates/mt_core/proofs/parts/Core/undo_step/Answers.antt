use mathlib.Core.Logic.{∥∥₁_elim}
use Rattle.std.proofs.Props.{props}
use Rattle.std.proofs.Common.{rules, ◌≡◌, ◌∙◌, ◌<◌, Ok, length, get_or, sym, ap, subst, arith}
use Rattle.std.proofs.lemmas.List.{get_or_default}
use Rattle.mt_model.specs.Model.{reply_of}
use Rattle.mt_op.specs.Moves.{SameOp}
use Rattle.mt_core.specs.Consistent.{state_of, IsReady, InvertsIn, Advances}
use Rattle.mt_op.specs.declared.scope.OpScope.{OpScope}
use Rattle.std.proofs.Common.{◌≤◌, List}
use Rattle.std.specs.List.{remove}
use Rattle.mt_op.specs.Work.{Works}
use Rattle.mt_core.specs.Work.{Lowers, steps_in, undo_steps, effects_left, LowersUndo}
use Rattle.mt_core.specs.Steps.{NamesOther, StepNamesOther}
use Rattle.mt_base.specs.declared.refusal.Refusal.{Refusal}
use Rattle.mt_core.specs.declared.steps.Stepping.{Stepping}
use Rattle.std.specs.Prelude.{Result}
use Rattle.std.proofs.lemmas.Result.{err_from_is_err_and}
use Rattle.mt_pool.specs.Views.{pages}
use Rattle.mt_core.specs.Runs.{IsOwned, is_working, TakesBack, state_in, is_undoing}
use Rattle.mt_core.proofs.Undoing.{moved_of, total_at, inverse_moved, undo_removed, inverted_left, abort_at, back_with}
use Rattle.mt_core.proofs.Laboring.{steps_at, steps_removed, some_left, both_at}
use Rattle.std.proofs.Common.{true, ◌≢◌}
use Rattle.mt_live.specs.Lives.{member_of}
use Rattle.mt_core.specs.Restartable.{StepAppends}
use Rattle.mt_core.proofs.Restarts.{area_then, at_place, end_then, goes_on, inverse_restarts, inverted_consistent}
use Rattle.mt_op.specs.Holds.{IsNext, KeepsLocks}
use Rattle.mt_plock.specs.Releasing.{locks_without}
use Rattle.mt_core.specs.PageLocks.{KeepsPageLocks}
use Rattle.std.proofs.Common.{◌+◌}
use Rattle.mt_log.specs.Words.{appended}
use Rattle.mt_pool.specs.declared.store.Store.{Store}
use Rattle.mt_core.proofs.Laboring.{steps_remove_other}
use Rattle.mt_core.specs.Writes.{StepWrites, WritesOnce}
use Rattle.std.proofs.Common.{refl}
use Rattle.mt_core.specs.PageLocks.{step_of}
use Rattle.mt_core.specs.declared.steps.Going.TheVariants.{Flush}
use Rattle.mt_core.proofs.GoingOn.{in_on, lowers_on, lowers_prop, other_on, quiet_on, same_going}
use Rattle.std.proofs.Common.{◌*◌}
use Rattle.mt_core.proofs.parts.Core.undo_step.Goals as goal

pub note_inverse-requires-clause-back : goal.note_inverse-requires-clause-back
note_inverse-requires-clause-back g c = λ q now is. let items = c.args.self.now.running.items in let place = c.args.place in
    let r : OpScope = get_or items place q in
    let at : r ≡ get_or items place r = get_or_default items place q r c.requires.within in
    ∥∥₁_elim c.requires.safe (hlevel props) (λ (origin, base, safe). c.requires.back r at (sym (c.advance.ensures.same origin base safe r q at now).undoes ∙ is))

pub note_inverse-requires-clause-ready : goal.note_inverse-requires-clause-ready
note_inverse-requires-clause-ready g c = ∥∥₁_elim c.requires.safe (hlevel props) (λ (origin, base, safe).
    let was = c.in_ok-stepped.was ∙ ap Ok c.in-Err.ensures.ready in
    ∣ (origin, base, (subst (Advances g.D.Device origin base (state_of c.args.self.now base) c.advance.new.self c.args.place) was (c.advance.ensures.advances origin base safe)).0) ∣₁)

pub returns-in-Err-clause-steps : goal.returns-in-Err-clause-steps
returns-in-Err-clause-steps g c = λ origin base safe x at. let k = c.args.self.now in let place = c.args.place in let seen = g.D.Device.seen in let may_leave = g.D.Device.may_leave in
    let was = c.in_ok-stepped.was ∙ ap Ok c.in-Err.ensures.ready in
    let made = subst (Advances g.D.Device origin base (state_of k base) c.advance.new.self place) was (c.advance.ensures.advances origin base safe) in
    let items = c.advance.new.self.running.items in
    let inside : place < length items = let same = c.advance.ensures.length in let within = c.requires.within in omega arith in
    let q : OpScope = get_or items place x in
    let now : q ≡ get_or items place q = get_or_default items place x q inside in
    let same : SameOp x q = c.advance.ensures.same origin base safe x q at now in
    let ready : IsReady g.D.Device origin base c.advance.new.self place q c.in-Err.reply = made.0 q now in
    let noted = c.note_inverse.ensures.ends origin base made.0 q now in (
      ap (reply_of base) (sym same.op) ∙ ready.replies ∙ sym made.1,
      subst (λ (X : Type 0). X) (λ i. InvertsIn g.D.Device origin base (sym made.2 i) c.note_inverse.new.self (same.txn i) (same.op i) (state_in ((c.advance.ensures.live i).members) (same.txn i))) noted,
    )

pub returns-in-Err-clause-stepped : goal.returns-in-Err-clause-stepped
returns-in-Err-clause-stepped g c = record {
  work = λ x at. ∥∥₁_elim c.requires.safe (hlevel props) (λ (origin, base, safe).
      let k = c.args.self.now in let place = c.args.place in let seen = g.D.Device.seen in let may_leave = g.D.Device.may_leave in
      let was = c.in_ok-stepped.was ∙ ap Ok c.in-Err.ensures.ready in
      let made = subst (Advances g.D.Device origin base (state_of k base) c.advance.new.self place) was (c.advance.ensures.advances origin base safe) in
      let items = c.advance.new.self.running.items in
      let inside : place < length items = let same = c.advance.ensures.length in let within = c.requires.within in omega arith in
      let q : OpScope = get_or items place x in
      let now : q ≡ get_or items place q = get_or_default items place x q inside in
      let same : SameOp x q = c.advance.ensures.same origin base safe x q at now in
      let less = subst (Works x q) was (c.advance.ensures.works x q at now) in
      let apart = (made.0 q now).fit.apart in
      let gone : steps_in c.note_inverse.new.self.running.items x.txn ≡ 0 = ap (λ (rs : List OpScope). steps_in rs x.txn) c.note_inverse.ensures.outer.items ∙ ap (steps_in (remove items place)) (sym same.txn) ∙ steps_removed items place q inside now apart in
      let before = steps_at k.running.items place x c.requires.within at safe.fit.apart in let some = some_left x (c.requires.stage x at) in (omega (arith, before, some), gone));
  others = λ x at u other. ∥∥₁_elim c.requires.safe (hlevel props) (λ (origin, base, safe).
      let place = c.args.place in
      let items = c.advance.new.self.running.items in
      let inside : place < length items = let same = c.advance.ensures.length in let within = c.requires.within in omega arith in
      let q : OpScope = get_or items place x in
      let now : q ≡ get_or items place q = get_or_default items place x q inside in
      let same : SameOp x q = c.advance.ensures.same origin base safe x q at now in
      ap (λ (rs : List OpScope). steps_in rs u) c.note_inverse.ensures.outer.items ∙ steps_remove_other items place q inside now u (λ is. other (is ∙ same.txn)) ∙ c.advance.ensures.others x at u other);
  states = search rules;
  commits = search rules;
  numbers = search rules;
  locks = λ x at.
      let k = c.args.self.now in let place = c.args.place in
      let kept : c.advance.new.self.operations.locks ≡ k.operations.locks = subst (KeepsLocks x.number (IsNext k.operations.rooms k.operations.locks x) k.operations.locks c.advance.new.self.operations.locks) (c.in_ok-stepped.was ∙ ap Ok c.in-Err.ensures.ready) (c.advance.ensures.locks x at) in
      ∥∥₁_elim c.requires.safe (hlevel props) (λ (origin, base, safe).
      let items = c.advance.new.self.running.items in
      let inside : place < length items = let same = c.advance.ensures.length in let within = c.requires.within in omega arith in
      let q : OpScope = get_or items place x in
      let now : q ≡ get_or items place q = get_or_default items place x q inside in
      let same : SameOp x q = c.advance.ensures.same origin base safe x q at now in
      c.note_inverse.ensures.outer.locks q now ∙ ap (λ n. locks_without n c.advance.new.self.operations.locks) same.number ∙ ap (locks_without x.number) kept);
  other = search rules;
  writes = let k = c.args.self.now in
      subst (λ (s : Store g.row.D.Denot). length (appended s.log) ≤ length (appended k.operations.store.log) + 1) (sym c.note_inverse.ensures.outer.store)
      (subst (WritesOnce (appended k.operations.store.log) (appended c.advance.new.self.operations.store.log)) (c.in_ok-stepped.was ∙ ap Ok c.in-Err.ensures.ready) c.advance.ensures.writes);
  durable = search rules;
  full = search rules;
  why = search rules;
  faults = search rules;
  moments = search rules;
  reads = search rules;
}

pub returns-in-Ok-clause-stepped : goal.returns-in-Ok-clause-stepped
returns-in-Ok-clause-stepped g c = record {
  work = λ x at. ∥∥₁_elim c.requires.safe (lowers_prop c.in-Ok.going (pages c.args.self.now.operations.store.pool) (steps_in c.args.self.now.running.items x.txn) (steps_in c.advance.new.self.running.items x.txn)) (λ (origin, base, safe).
      let k = c.args.self.now in let place = c.args.place in let seen = g.D.Device.seen in let may_leave = g.D.Device.may_leave in
      let was = c.in_ok-stepped.was ∙ ap Ok c.in-Ok.ensures.going in
      let made = subst (Advances g.D.Device origin base (state_of k base) c.advance.new.self place) was (c.advance.ensures.advances origin base safe) in
      let on = in_on g.D.Device origin base (state_of k base) c.advance.new.self place c.in-Ok.going made in
      let items = c.advance.new.self.running.items in
      let inside : place < length items = let same = c.advance.ensures.length in let within = c.requires.within in omega arith in
      let q : OpScope = get_or items place x in
      let now : q ≡ get_or items place q = get_or_default items place x q inside in
      let same : SameOp x q = c.advance.ensures.same origin base safe x q at now in
      let less = subst (Works x q) was (c.advance.ensures.works x q at now) in
      let both = both_at k.running.items items place x q c.requires.within at safe.fit.apart inside now on.consistent.fit.apart same.txn in let b = both.0 in let a = both.1 in
      lowers_on c.in-Ok.going (pages k.operations.store.pool) 0 (steps_in k.running.items x.txn) (steps_in items x.txn) x q less (omega (arith, b)) (omega (arith, a)) (total_at g.D.Device origin base k place x safe c.requires.within at));
  others = search rules;
  states = search rules;
  commits = search rules;
  numbers = search rules;
  locks = λ x at. let k = c.args.self.now in
      subst (KeepsLocks x.number (IsNext k.operations.rooms k.operations.locks x) k.operations.locks c.advance.new.self.operations.locks) (c.in_ok-stepped.was ∙ ap Ok c.in-Ok.ensures.going) (c.advance.ensures.locks x at);
  other = λ origin base safe x at.
      other_on c.in-Ok.going c.advance.new.self.running.items x.txn (subst (StepNamesOther c.advance.new.self.running.items x.txn) (c.in_ok-stepped.was ∙ ap Ok c.in-Ok.ensures.going) (c.advance.ensures.other origin base safe x at));
  writes = let k = c.args.self.now in
      subst (WritesOnce (appended k.operations.store.log) (appended c.advance.new.self.operations.store.log)) (c.in_ok-stepped.was ∙ ap Ok c.in-Ok.ensures.going) c.advance.ensures.writes;
  durable = search rules;
  full = λ is. c.advance.ensures.full (c.in_ok-stepped.was ∙ ap Ok (c.in-Ok.ensures.going ∙ ap step_of (same_going c.in-Ok.going Flush _ refl is)));
  why = search rules;
  faults = search rules;
  moments = search rules;
  reads = search rules;
}

pub returns-in-Ok-clause-lowers : goal.returns-in-Ok-clause-lowers
returns-in-Ok-clause-lowers g c = λ x at. ∥∥₁_elim c.requires.safe (lowers_prop c.in-Ok.going (pages c.args.self.now.operations.store.pool) (undo_steps c.args.self.now x.txn) (undo_steps c.advance.new.self x.txn)) (λ (origin, base, safe).
    let k = c.args.self.now in let n = c.advance.new.self in let place = c.args.place in let seen = g.D.Device.seen in let may_leave = g.D.Device.may_leave in
    let was = c.in_ok-stepped.was ∙ ap Ok c.in-Ok.ensures.going in
    let made = subst (Advances g.D.Device origin base (state_of k base) n place) was (c.advance.ensures.advances origin base safe) in
    let on = in_on g.D.Device origin base (state_of k base) n place c.in-Ok.going made in
    let m = moved_of g.D.Device origin base k n place x safe on.consistent c.requires.within at c.advance.ensures.length (λ q now. c.advance.ensures.same origin base safe x q at now) c.advance.ensures.live in
    let q : OpScope = get_or n.running.items place x in
    let less = subst (Works x q) was (c.advance.ensures.works x q at m.now) in
    let both = inverse_moved k n place x q m (c.requires.back x at) in lowers_on c.in-Ok.going (pages k.operations.store.pool) _ (undo_steps k x.txn) (undo_steps n x.txn) x q less both.0 both.1 m.total)

pub returns-in_err-stepped-clause-lowers : goal.returns-in_err-stepped-clause-lowers
returns-in_err-stepped-clause-lowers g c = λ x at. let k = c.args.self.now in let n = c.advance.new.self in let place = c.args.place in let seen = g.D.Device.seen in let may_leave = g.D.Device.may_leave in
    let few : undo_steps n x.txn ≤ undo_steps k x.txn = ∥∥₁_elim c.requires.safe (hlevel props) (λ (origin, base, safe).
    let made = subst (Advances g.D.Device origin base (state_of k base) n place) c.in_err-stepped.was (c.advance.ensures.advances origin base safe) in
    let m = moved_of g.D.Device origin base k n place x safe made.consistent c.requires.within at c.advance.ensures.length (λ q now. c.advance.ensures.same origin base safe x q at now) c.advance.ensures.live in
    let q : OpScope = get_or n.running.items place x in
    let less = subst (Works x q) c.in_err-stepped.was (c.advance.ensures.works x q at m.now) in
    let both = inverse_moved k n place x q m (c.requires.back x at) in let b = both.0 in let a = both.1 in omega arith) in
    let p = err_from_is_err_and c.from_residual.result c.from_residual.ensures.1 in
    subst (λ (r : Result Stepping Refusal). LowersUndo (pages k.operations.store.pool) r (undo_steps k x.txn) (undo_steps n x.txn)) (sym p.1) few

pub returns-in-Err-clause-lowers : goal.returns-in-Err-clause-lowers
returns-in-Err-clause-lowers g c = λ x at. ∥∥₁_elim c.requires.safe (hlevel props) (λ (origin, base, safe).
    let k = c.args.self.now in let z = c.advance.new.self in let n = c.note_inverse.new.self in let place = c.args.place in let seen = g.D.Device.seen in let may_leave = g.D.Device.may_leave in
    let was = c.in_ok-stepped.was ∙ ap Ok c.in-Err.ensures.ready in
    let made = subst (Advances g.D.Device origin base (state_of k base) z place) was (c.advance.ensures.advances origin base safe) in
    let items = z.running.items in
    let inside : place < length items = let same = c.advance.ensures.length in let within = c.requires.within in omega arith in
    let q : OpScope = get_or items place x in
    let now : q ≡ get_or items place q = get_or_default items place x q inside in
    let same : SameOp x q = c.advance.ensures.same origin base safe x q at now in
    let ready : IsReady g.D.Device origin base z place q c.in-Err.reply = made.0 q now in
    let noted = c.note_inverse.ensures.ends origin base made.0 q now in
    let all = pages k.operations.store.pool in let t = x.txn in
    let size : pages n.operations.store.pool ≡ all = ap (λ o. pages o.pool) c.note_inverse.ensures.outer.store ∙ sym ready.alone.own.total ∙ same.total ∙ total_at g.D.Device origin base k place x safe c.requires.within at in
    let gone = undo_removed n items place t all q n.live.standing inside now ready.fit.apart same.txn c.note_inverse.ensures.outer.items size refl in
    let fewer : effects_left all n.live.standing t + (2 * all + 10) ≡ effects_left all k.live.standing t = subst (λ (X : Type 0). X) (λ i. effects_left all n.live.standing (same.txn i) + (2 * all + 10) ≡ effects_left all ((c.advance.ensures.live i).standing) (same.txn i)) (inverted_left g.D.Device origin base z n all q.txn q.op (state_in z.live.members q.txn) noted) in
    let back = c.requires.back x at in
    let effects = effects_left all k.live.standing t in
    let before = abort_at all effects k.running.items place x c.requires.within at safe.fit.apart ∙ back_with all effects x back in
    let some = some_left x (c.requires.stage x at) in omega (arith, before, some, gone, fewer))

pub returns-in_err-stepped-clause-stepped : goal.returns-in_err-stepped-clause-stepped
returns-in_err-stepped-clause-stepped g c = record {
  work = λ x at.
      let k = c.args.self.now in let place = c.args.place in let seen = g.D.Device.seen in let may_leave = g.D.Device.may_leave in
      let items = c.advance.new.self.running.items in
      let p = err_from_is_err_and c.from_residual.result c.from_residual.ensures.1 in
      let few : steps_in items x.txn ≤ steps_in k.running.items x.txn = ∥∥₁_elim c.requires.safe (hlevel props) (λ (origin, base, safe).
      let was = c.in_err-stepped.was in
      let made = subst (Advances g.D.Device origin base (state_of k base) c.advance.new.self place) was (c.advance.ensures.advances origin base safe) in
      let inside : place < length items = let same = c.advance.ensures.length in let within = c.requires.within in omega arith in
      let q : OpScope = get_or items place x in
      let now : q ≡ get_or items place q = get_or_default items place x q inside in
      let same : SameOp x q = c.advance.ensures.same origin base safe x q at now in
      let less = subst (Works x q) was (c.advance.ensures.works x q at now) in
      let both = both_at k.running.items items place x q c.requires.within at safe.fit.apart inside now made.consistent.fit.apart same.txn in let b = both.0 in let a = both.1 in omega (arith, less, a, b)) in
      subst (λ (res : Result Stepping Refusal). Lowers (pages k.operations.store.pool) res (steps_in k.running.items x.txn) (steps_in items x.txn)) (sym p.1) few;
  others = search rules;
  states = search rules;
  commits = search rules;
  numbers = search rules;
  locks = λ x at. let k = c.args.self.now in
      let p = err_from_is_err_and c.from_residual.result c.from_residual.ensures.1 in
      subst (λ (res : Result Stepping Refusal). KeepsPageLocks k c.advance.new.self x res) (sym p.1)
      (subst (KeepsLocks x.number (IsNext k.operations.rooms k.operations.locks x) k.operations.locks c.advance.new.self.operations.locks) c.in_err-stepped.was (c.advance.ensures.locks x at));
  other = λ origin base safe x at.
      let p = err_from_is_err_and c.from_residual.result c.from_residual.ensures.1 in
      subst (λ (res : Result Stepping Refusal). NamesOther c.advance.new.self.running.items x.txn res) (sym p.1) tt;
  writes = let k = c.args.self.now in
      let p = err_from_is_err_and c.from_residual.result c.from_residual.ensures.1 in
      subst (λ (res : Result Stepping Refusal). StepWrites (appended k.operations.store.log) (appended c.advance.new.self.operations.store.log) res) (sym p.1)
      (subst (WritesOnce (appended k.operations.store.log) (appended c.advance.new.self.operations.store.log)) c.in_err-stepped.was c.advance.ensures.writes);
  durable = search rules;
  full = search rules;
  why = search rules;
  faults = search rules;
  moments = search rules;
  reads = search rules;
}

pub returns-in-Err-clause-restartable : goal.returns-in-Err-clause-restartable
returns-in-Err-clause-restartable g c = λ origin base later safe_k safe_n r.
    let k = c.args.self.now in let m = c.advance.new.self in let n = c.note_inverse.new.self in let place = c.args.place in let seen = g.D.Device.seen in let may_leave = g.D.Device.may_leave in
    let was = c.in_ok-stepped.was ∙ ap Ok c.in-Err.ensures.ready in
    let made = subst (Advances g.D.Device origin base (state_of k base) m place) was (c.advance.ensures.advances origin base safe_k) in
    let inside : place < length m.running.items = let same = c.advance.ensures.length in let within = c.requires.within in omega arith in
    let (x, at) = at_place k.running.items place c.requires.within in
    let q : OpScope = get_or m.running.items place x in
    let now : q ≡ get_or m.running.items place q = get_or_default m.running.items place x q inside in
    let same : SameOp x q = c.advance.ensures.same origin base safe_k x q at now in
    let ready : IsReady g.D.Device origin base m place q c.in-Err.reply = made.0 q now in
    let owned : IsOwned m.live.members m.live.standing q = subst (IsOwned m.live.members m.live.standing) (sym now) (ready.fit.owned place q inside) in
    let ends = subst (StepAppends origin k m q) was (c.advance.ensures.appends origin base safe_k q now) in
    let live = c.advance.ensures.live in
    let back : q.undoes ≢ 0 = λ is. c.requires.back x at (sym same.undoes ∙ is) in
    let working : is_working (member_of k.live.members q.txn) ≡ true = ap (λ l. is_working (member_of l.members q.txn)) (sym live) ∙ owned.at_work in
    let takes : TakesBack k.live.members k.live.standing q = subst (λ l. TakesBack l.members l.standing q) live (owned.inverse back) in
    let state = state_in m.live.members q.txn in
    let noted = inverted_consistent g.D.Device origin base (state_of m base) n q.txn q.op state (c.note_inverse.ensures.ends origin base made.0 q now) in
    inverse_restarts g.D.Device origin k m n base q c.in-Err.reply state (ap (λ l. state_in l.members q.txn) (sym live)) safe_k noted (area_then g.D.Device origin k m n ends.area c.note_inverse.ensures.outer.store) (end_then g.D.Device origin k m n q c.in-Err.reply ends.appends c.note_inverse.ensures.outer.store)
    c.advance.ensures.book c.advance.ensures.commits live (c.note_inverse.ensures.notes q now) back (ap is_undoing (ap (λ l. state_in l.members q.txn) (sym live)) ∙ owned.backwards back) working takes ready.replies r

pub returns-in-Ok-clause-restartable : goal.returns-in-Ok-clause-restartable
returns-in-Ok-clause-restartable g c = λ origin base later safe_k safe_n r. let k = c.args.self.now in let n = c.advance.new.self in let place = c.args.place in
    let was = c.in_ok-stepped.was ∙ ap Ok c.in-Ok.ensures.going in
    let inside : place < length n.running.items = let same = c.advance.ensures.length in let within = c.requires.within in omega arith in
    let (q, now) = at_place n.running.items place inside in
    let quiet = subst (StepAppends origin k n q) was (c.advance.ensures.appends origin base safe_k q now) in
    goes_on g.D.Device origin k n base later safe_k safe_n (quiet_on origin k n q c.in-Ok.going quiet) c.advance.ensures.book c.advance.ensures.commits c.advance.ensures.live r

pub returns-in_err-stepped-clause-restartable : goal.returns-in_err-stepped-clause-restartable
returns-in_err-stepped-clause-restartable g c = λ origin base later safe_k safe_n r. let k = c.args.self.now in let n = c.advance.new.self in let place = c.args.place in
    let inside : place < length n.running.items = let same = c.advance.ensures.length in let within = c.requires.within in omega arith in
    let (q, now) = at_place n.running.items place inside in
    let quiet = subst (StepAppends origin k n q) c.in_err-stepped.was (c.advance.ensures.appends origin base safe_k q now) in
    goes_on g.D.Device origin k n base later safe_k safe_n (record { area = quiet.area; appends = quiet.appends }) c.advance.ensures.book c.advance.ensures.commits c.advance.ensures.live r

pub returns-in-Ok-clause-steps : goal.returns-in-Ok-clause-steps
returns-in-Ok-clause-steps g c = λ origin base safe. let k = c.args.self.now in let n = c.advance.new.self in let seen = g.D.Device.seen in let may_leave = g.D.Device.may_leave in
    in_on g.D.Device origin base (state_of k base) n c.args.place c.in-Ok.going (subst (Advances g.D.Device origin base (state_of k base) n c.args.place) (c.in_ok-stepped.was ∙ ap Ok c.in-Ok.ensures.going) (c.advance.ensures.advances origin base safe))
