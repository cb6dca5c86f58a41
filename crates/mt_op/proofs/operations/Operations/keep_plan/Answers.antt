use Rattle.std.specs.Prelude.{All, Contains}
use Rattle.mt_base.specs.declared.modes.Mode.TheVariants.{Write}
use Rattle.mt_plock.specs.Holding.{lock_of}
use Rattle.mt_plock.specs.declared.guards.PageLock.{PageLock}
use Rattle.mt_space.specs.declared.changes.PageChange.{PageChange}
use Rattle.std.proofs.Common.{List, Some, ap, refl, subst, sym, ◌∙◌}
use Rattle.std.specs.Prelude.{Err}
use Rattle.std.proofs.lemmas.Result.{err_from_is_err_and}
use Rattle.mt_op.specs.World.{looked}
use Rattle.mt_op.specs.Operations.{world}
use Rattle.mt_op.specs.Stepping.{KeepsPlan, TakesLock}
use Rattle.mt_op.specs.declared.scope.Stage.TheVariants.{Writing}
use Rattle.mt_op.proofs.Chosen.{touched_seen, keeps_plan}
use Rattle.mt_op.proofs.Choosing.{taken_some, taken_err}
use Rattle.mt_op.proofs.Budget.{made_budget}
use Rattle.mt_op.proofs.Work.{planned_work}
use Rattle.mt_op.proofs.operations.Operations.keep_plan.Goals as goal

pub upgrade-requires-clause-next : goal.upgrade-requires-clause-next
upgrade-requires-clause-next g c = record {
  seen = touched_seen (looked c.args.scope.now) c.args.changes.list.items c.in-Some.page c.requires.there c.in-Some.ensures.0;
  unlocked = subst (λ (gs : List PageLock). Contains gs (lock_of c.args.scope.now.number c.in-Some.page Write) → ⊥) c.as_slice.ensures.value c.in-Some.ensures.1;
  writes = refl;
  changes = c.args.changes.list.items;
  reply = c.args.reply;
  planned = c.requires.planned;
  reads = c.requires.reads;
  touched = c.in-Some.ensures.0;
}

pub returns-in_err-stepped : goal.returns-in_err-stepped
returns-in_err-stepped g c = let d = g.D.Device in let o = c.args.self.now in let s = c.args.scope.now in let n = c.upgrade.new.self in let t = c.upgrade.new.scope in
    let p = err_from_is_err_and c.from_residual.result c.from_residual.ensures.1 in
    subst (KeepsPlan d o n s t) (sym (p.1 ∙ ap Err p.2))
    (taken_err d o n s t c.requires.planning c.requires.budget _ (subst (TakesLock d o n s t) c.in_err-stepped.was c.upgrade.ensures))

pub returns-in-Some : goal.returns-in-Some
returns-in-Some g c = let d = g.D.Device in let o = c.args.self.now in let s = c.args.scope.now in let n = c.upgrade.new.self in let t = c.upgrade.new.scope in
    taken_some d o n s t c.requires.planning c.requires.budget _ (subst (TakesLock d o n s t) c.in_ok-stepped.was c.upgrade.ensures)

pub returns : goal.returns
returns g c = let o = c.args.self.now in let s = c.args.scope.now in let r = c.requires in
    let list = c.args.changes.list.items in
    let t = record s { changes = c.args.changes; reply = Some c.args.reply; stage = Writing } in
    let locked = subst (λ (gs : List PageLock). All (λ (x : PageChange). Contains gs (lock_of s.number x.page Write)) list) c.as_slice.ensures.value c.in_default.ensures in
    record {
      goes = λ opening relations counters right k small.
          (right, keeps_plan relations counters (world g.D.Device opening o) s c.args.changes c.args.reply right.sound k r.planning r.there r.few r.quiet locked (r.planned relations counters small k.within) (r.takes relations counters small k.within));
      store = refl;
      map = refl;
      made = λ is. (refl, refl);
      left = refl;
      budget = made_budget s c.args.changes c.args.reply r.planning r.few r.reads r.budget;
      never = λ is. absurd cc;
      stage = λ not. absurd (not refl);
      work = planned_work s t r.planning refl r.few;
      locks = refl;
      scope = record {
        op = record { txn = refl; number = refl; op = refl; undoes = refl; split = refl; total = refl };
        planning = r.planning;
        stage = refl;
        room = refl;
        guards = refl;
        seen = refl;
        written = refl;
        standing = refl;
        left = refl;
      };
      only_memory = tt;
    }
