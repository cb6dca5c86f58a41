use mathlib.Core.Logic.{∥∥₁_elim, ∥∥₁_map}
use Rattle.std.proofs.Props.{props}
use Rattle.std.specs.Prelude.{Err, Ok, Some}
use Rattle.std.proofs.Common.{◌≡◌, None, ◌<◌, ◌⊎◌, inl, inr, refl, sym, subst, ◌∙◌, ap}
use Rattle.std.proofs.lemmas.Result.{err_from_is_err_and}
use Rattle.mt_pool.proofs.Kept.{no_call}
use Rattle.mt_disk.specs.Disk.{LeavesOnly}
use Rattle.mt_pool.specs.Kept.{Explains}
use Rattle.mt_pool.specs.declared.store.Store.{Store}
use Rattle.mt_space.specs.Changes.{after}
use Rattle.mt_steps.specs.Acts.{IfLock, IfMade, IfFull}
use Rattle.mt_steps.specs.Asks.{AsksFor, HasSearched}
use Rattle.mt_steps.specs.Plans.{InPages, IsPlanned, TakesPages, IsTight, free_pages, own_needs, record_bytes}
use Rattle.mt_steps.specs.declared.act.Act.{Act}
use Rattle.mt_steps.proofs.Asking.{asks_to_read}
use Rattle.mt_pool.proofs.Reading.{reads_nothing}
use Rattle.mt_op.specs.World.{looked}
use Rattle.mt_op.specs.Holds.{IsAsked, IsUnseen}
use Rattle.mt_op.specs.Operations.{world, IsOneOf}
use Rattle.mt_op.specs.Stepping.{KeepsPlan, LocksPage, PlansOn}
use Rattle.mt_op.specs.declared.answers.Stepped.TheVariants as stepped
use Rattle.mt_op.specs.declared.scope.OpScope.{OpScope}
use Rattle.mt_base.specs.declared.refusal.Refusal.TheVariants as refusal
use Rattle.mt_op.proofs.Going.{planning_of, same_seen}
use Rattle.mt_op.proofs.Searching.{searched_prop}
use Rattle.mt_op.proofs.Choosing.{cause_memory, locked_some, locked_err, refused_plan, unled_goes, reading_of}
use Rattle.mt_op.proofs.Work.{led_work, led_misled, plans_over, claim_free}
use Rattle.mt_op.proofs.Known.{one_of, known_within}
use Rattle.mt_op.proofs.Faulting.{no_fault, no_fault_ok}
use Rattle.mt_op.proofs.operations.Operations.plan_step.Goals as goal

pub returns-in_err-page : goal.returns-in_err-page
returns-in_err-page g c = let d = g.D.Device in let o = c.args.self.now in let s = c.args.scope.now in
    let p = err_from_is_err_and c.from_residual.result c.from_residual.ensures.1 in
    subst (PlansOn d o o s (record s { seen = c.plan_over.new.copies })) (sym (p.1 ∙ ap Err p.2))
    (subst (λ (x : OpScope). PlansOn d o o s x (Err refusal.NoMemory)) (sym (same_seen s c.plan_over.new.copies c.plan_over.ensures.same))
    (refused_plan d o s (λ opening kept. no_call d opening o.store kept g.met.D.Device.only_now) c.requires.planning c.requires.budget))

pub returns-in_err-stepped-in-Lock : goal.returns-in_err-stepped-in-Lock
returns-in_err-stepped-in-Lock g c = let d = g.D.Device in let o = c.args.self.now in let s = c.args.scope.now in let n = c.lock_next.new.self in let t = c.lock_next.new.scope in
    let p = err_from_is_err_and c.from_residual-in_err-stepped-in-Lock.result c.from_residual-in_err-stepped-in-Lock.ensures.1 in
    subst (PlansOn d o n s t) (sym (p.1 ∙ ap Err p.2))
    (locked_err d o n s t c.requires.planning _ c.requires.budget (subst (LocksPage d o n s t) c.in_err-stepped-in-Lock.was (subst (λ (x : OpScope). LocksPage d o n x t c.lock_next.result) (same_seen s c.plan_over.new.copies c.plan_over.ensures.same) c.lock_next.ensures)))

pub returns-in_ok-stepped-in-Lock : goal.returns-in_ok-stepped-in-Lock
returns-in_ok-stepped-in-Lock g c = let d = g.D.Device in let o = c.args.self.now in let s = c.args.scope.now in let n = c.lock_next.new.self in let t = c.lock_next.new.scope in
    locked_some d o n s t c.requires.planning _ c.requires.budget (subst (LocksPage d o n s t) c.in_ok-stepped-in-Lock.was (subst (λ (x : OpScope). LocksPage d o n x t c.lock_next.result) (same_seen s c.plan_over.new.copies c.plan_over.ensures.same) c.lock_next.ensures))

pub lock_next-requires-clause-unseen : goal.lock_next-requires-clause-unseen
lock_next-requires-clause-unseen g c = let s = c.args.scope.now in
    let can = ∥∥₁_map c.requires.right (λ (opening, relations, counters, right, k, small, some).
    plans_over relations counters (world g.D.Device opening c.args.self.now) s c.requires.planning right.sound k small) in
    let l = subst (λ (a : Act). IfLock a (λ p mode. (looked s p ≡ None) × (p < s.seen.total))) c.in-Lock.is c.in_ok-page.ensures.lock in
    subst (λ (x : OpScope). IsUnseen x c.in-Lock.page c.in-Lock.mode) (sym (same_seen s c.plan_over.new.copies c.plan_over.ensures.same)) (record {
      new = l.0;
      inside = l.1;
      reads = λ is. asks_to_read (looked s) s.room s.seen.total s.split s.op c.in-Lock.page c.in-Lock.mode can (reading_of s.op is)
          (subst (λ (a : Act). IfLock a (AsksFor (looked s) s.room s.seen.total s.split s.op)) c.in-Lock.is c.in_ok-page.ensures.asks);
    })

pub lock_next-requires-clause-asked : goal.lock_next-requires-clause-asked
lock_next-requires-clause-asked g c = let s = c.args.scope.now in
    subst (λ (x : OpScope). IsAsked x c.in-Lock.page c.in-Lock.mode) (sym (same_seen s c.plan_over.new.copies c.plan_over.ensures.same))
    (subst (λ (a : Act). IfLock a (AsksFor (looked s) s.room s.seen.total s.split s.op)) c.in-Lock.is c.in_ok-page.ensures.asks)

pub lock_next-requires-clause-searched : goal.lock_next-requires-clause-searched
lock_next-requires-clause-searched g c = let s = c.args.scope.now in
    subst (λ (x : OpScope). HasSearched (looked x) x.seen.total x.op c.plan_over.new.search) (sym (same_seen s c.plan_over.new.copies c.plan_over.ensures.same)) c.plan_over.ensures.searched

pub keep_plan-requires-clause-planned : goal.keep_plan-requires-clause-planned
keep_plan-requires-clause-planned g c = let s = c.args.scope.now in λ relations counters small within.
    subst (λ (x : OpScope). InPages (looked x) s.room relations counters x.seen.total (λ pages. IsPlanned relations counters x.seen.total (looked x) pages c.in-Made.changes.list.items s.op s.split c.in-Made.reply))
    (sym (same_seen s c.plan_over.new.copies c.plan_over.ensures.same))
    (subst (λ (a : Act). IfMade a (λ changes reply. InPages (looked s) s.room relations counters s.seen.total (λ pages. IsPlanned relations counters s.seen.total (looked s) pages changes s.op s.split reply))) c.in-Made.is (c.in_ok-page.ensures.made relations counters small within))

pub keep_plan-requires-clause-takes : goal.keep_plan-requires-clause-takes
keep_plan-requires-clause-takes g c = let s = c.args.scope.now in λ relations counters small within.
    subst (λ (x : OpScope). InPages (looked x) s.room relations counters x.seen.total (λ pages. TakesPages s.room s.op pages (after c.in-Made.changes.list.items pages)))
    (sym (same_seen s c.plan_over.new.copies c.plan_over.ensures.same))
    (subst (λ (a : Act). IfMade a (λ changes reply. InPages (looked s) s.room relations counters s.seen.total (λ pages. TakesPages s.room s.op pages (after changes pages)))) c.in-Made.is (c.in_ok-page.ensures.takes relations counters small within))

pub returns-in-Made : goal.returns-in-Made
returns-in-Made g c = let d = g.D.Device in let o = c.args.self.now in let s = c.args.scope.now in
    let f = subst (λ (x : OpScope). KeepsPlan d o c.keep_plan.new.self x c.keep_plan.new.scope c.keep_plan.result) (same_seen s c.plan_over.new.copies c.plan_over.ensures.same) c.keep_plan.ensures in
    record {
      goes = f.goes;
      moments = λ opening kept. subst (λ (x : Store g.row.D.Denot). LeavesOnly d.moment d.left_since o.store.device x.device (Explains opening o.store)) (sym f.store)
          (no_call d opening o.store kept g.met.D.Device.only_now);
      made = f.made;
      log = ap (λ (x : Store g.row.D.Denot). x.log) f.store;
      map = f.map;
      left = f.left;
      budget = f.budget;
      full = λ is. absurd (f.never is);
      stage = f.stage;
      work = f.work;
      locks = f.locks;
      scope = f.scope;
      why = cause_memory c.keep_plan.result f.only_memory;
      faults = no_fault _ _ c.keep_plan.result f.only_memory (ap (λ (x : Store g.row.D.Denot). d.faults x.device) f.store);
      reads = reads_nothing d _ _ (ap (λ (x : Store g.row.D.Denot). x.device) f.store);
    }

pub returns-in-Full : goal.returns-in-Full
returns-in-Full g c = let d = g.D.Device in let o = c.args.self.now in let s = c.args.scope.now in
    subst (λ (x : OpScope). PlansOn d o o s (record x { room = None }) (Ok (Some stepped.Went))) (sym (same_seen s c.plan_over.new.copies c.plan_over.ensures.same)) (record {
      goes = λ opening relations counters right k small. (right, unled_goes relations counters (world d opening o) s c.requires.planning k);
      moments = λ opening kept. no_call d opening o.store kept g.met.D.Device.only_now;
      made = λ is. absurd cc;
      log = refl;
      map = refl;
      left = refl;
      budget = record { enough = c.requires.budget.enough; reads = c.requires.budget.reads };
      full = λ is. absurd cc;
      stage = λ not. c.requires.planning;
      work = ∥∥₁_elim c.requires.right (hlevel props) (λ (opening, relations, counters, right, k, small, some). led_work relations counters (world d opening o) s c.requires.planning right.sound k
          (claim_free d opening relations counters o s right k c.requires.claims)
          (subst (λ (a : Act). IfFull a (InPages (looked s) s.room relations counters s.seen.total (λ pages. (free_pages s.seen.total pages < own_needs s.op s.split) ⊎ IsTight s.room pages (record_bytes s.op)))) c.in-Full.is (c.in_ok-page.ensures.full relations counters small k.within)));
      locks = inl refl;
      scope = inr (inr (
        refl,
        ∥∥₁_elim c.requires.right (hlevel props) (λ (opening, relations, counters, right, k, small, some). led_misled relations counters (world d opening o) s c.requires.planning right.sound k
            (claim_free d opening relations counters o s right k c.requires.claims)
            (subst (λ (a : Act). IfFull a (InPages (looked s) s.room relations counters s.seen.total (λ pages. (free_pages s.seen.total pages < own_needs s.op s.split) ⊎ IsTight s.room pages (record_bytes s.op)))) c.in-Full.is (c.in_ok-page.ensures.full relations counters small k.within))),
      ));
      why = tt;
      faults = no_fault_ok _ _ _ refl;
      reads = reads_nothing d _ _ refl;
    })

pub lock_next-requires-clause-right : goal.lock_next-requires-clause-right
lock_next-requires-clause-right g c = subst (λ (x : OpScope). IsOneOf g.D.Device c.args.self.now x) (sym (same_seen c.args.scope.now c.plan_over.new.copies c.plan_over.ensures.same))
    (one_of g.D.Device c.args.self.now c.args.scope.now c.requires.right)

pub keep_plan-requires-clause-right : goal.keep_plan-requires-clause-right
keep_plan-requires-clause-right g c = subst (λ (x : OpScope). IsOneOf g.D.Device c.args.self.now x) (sym (same_seen c.args.scope.now c.plan_over.new.copies c.plan_over.ensures.same))
    (one_of g.D.Device c.args.self.now c.args.scope.now c.requires.right)

pub plan_over-requires-clause-sound : goal.plan_over-requires-clause-sound
plan_over-requires-clause-sound g c = (known_within g.D.Device c.args.self.now c.args.scope.now c.requires.right).whole

pub plan_over-requires-clause-good : goal.plan_over-requires-clause-good
plan_over-requires-clause-good g c = ∥∥₁_map c.requires.right (λ (opening, relations, counters, right, k, small, some).
    plans_over relations counters (world g.D.Device opening c.args.self.now) c.args.scope.now c.requires.planning right.sound k small)

pub plan_over-requires-clause-searched : goal.plan_over-requires-clause-searched
plan_over-requires-clause-searched g c = let s = c.args.scope.now in ∥∥₁_elim c.requires.right (searched_prop (looked s) s.seen.total s.op s.search) (λ (opening, relations, counters, right, k, small, some).
    (planning_of relations counters (world g.D.Device opening c.args.self.now) s c.requires.planning k).searched)
