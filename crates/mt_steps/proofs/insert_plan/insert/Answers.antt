use mathlib.Core.Logic.{∥∥₁_elim}
use Rattle.std.proofs.Props.{props}
use Rattle.std.proofs.Common.{rules, cond, inl, inr, List, sym, subst}
use Rattle.mt_space.specs.declared.changes.PageChange.{PageChange}
use Rattle.mt_space.specs.Changes.{after, AreShort}
use Rattle.mt_model.specs.declared.operations.Op.TheVariants.{Insert}
use Rattle.mt_model.specs.declared.operations.Reply.TheVariants.{Exists}
use Rattle.mt_base.specs.declared.modes.Mode.TheVariants.{Read}
use Rattle.std.proofs.lemmas.Result.{IfOk-weaker}
use Rattle.mt_steps.proofs.Answered.{lock_reported, asks_reported, made_reported, full_reported, broken_reported}
use Rattle.mt_steps.proofs.Naming.{quiet_none, none_takes}
use Rattle.mt_steps.proofs.Asking.{bucket_inside, looks_to_write}
use Rattle.mt_steps.proofs.Modest.{modest_nothing}
use Rattle.mt_steps.specs.Acts.{IsAct}
use Rattle.mt_steps.proofs.Entering.{found_already}
use Rattle.mt_steps.proofs.insert_plan.insert.Goals as goal

pub returns-in-Found-clause-plans : goal.returns-in-Found-clause-plans
returns-in-Found-clause-plans g c = record {
  lock = search rules;
  asks = search rules;
  made = λ relations fits pages agrees m rows named.
      subst (λ (l : List PageChange). IsAct relations (g.V.Pages.total c.args.views.now) pages (after l pages) (Insert c.args.relation c.args.key.now c.args.value.now) Exists × AreShort l pages) (sym c.new.ensures)
      (found_already relations (g.V.Pages.total c.args.views.now) pages m c.in-Found.field-0 c.args.relation c.args.key.now c.args.value.now rows (c.in-Found.ensures.found pages agrees m rows.index), tt);
  there = search rules;
  few = search rules;
  idle = search rules;
  modest = λ relations fits pages agrees m rows named. modest_nothing (g.V.Pages.at_hand c.args.views.now) (g.V.Pages.total c.args.views.now) (cond c.args.split 3 2) c.args.split pages c.new.result.list.items c.new.ensures;
  takes = λ relations fits pages agrees m rows named.
      none_takes c.args.room (Insert c.args.relation c.args.key.now c.args.value.now) pages (after c.new.result.list.items pages) (quiet_none pages c.new.result.list.items c.new.ensures);
  full = search rules;
  broken = search rules;
}

pub returns-in-Endless-clause-plans : goal.returns-in-Endless-clause-plans
returns-in-Endless-clause-plans g c = record {
  lock = search rules;
  asks = search rules;
  made = search rules;
  there = search rules;
  few = search rules;
  idle = search rules;
  modest = search rules;
  takes = search rules;
  full = search rules;
  broken = ∥∥₁_elim c.requires.good (hlevel props) (λ fact.
      let good = fact.1 in c.in-Endless.ensures.endless good.0 good.1 good.2 good.3.index);
}

pub returns-in-Need-clause-plans : goal.returns-in-Need-clause-plans
returns-in-Need-clause-plans g c = record {
  lock = ∥∥₁_elim c.requires.good (hlevel props) (λ fact.
      let good = fact.1 in
      let asks = c.in-Need.ensures.need in
      (asks.missing, bucket_inside (g.V.Pages.total c.args.views.now) c.args.key.now good.0 good.2 Read c.in-Need.page Read good.3.index (asks.role good.0 good.1 good.2 good.3.index)));
  asks = inl (λ pages agrees m maps.
      looks_to_write c.args.key.now (g.V.Pages.total c.args.views.now) pages m c.in-Need.page c.mode_to_write.result maps c.mode_to_write.ensures.directory c.mode_to_write.ensures.others (c.in-Need.ensures.need.role pages agrees m maps));
  made = search rules;
  there = search rules;
  few = search rules;
  idle = search rules;
  modest = search rules;
  takes = search rules;
  full = search rules;
  broken = search rules;
}

pub returns-in-Missing-clause-plans : goal.returns-in-Missing-clause-plans
returns-in-Missing-clause-plans g c = record {
  lock = IfOk-weaker c.insert_new.result _ _ (lock_reported (g.V.Pages.at_hand c.args.views.now) (g.V.Pages.total c.args.views.now) _ _ _) c.insert_new.ensures;
  asks = IfOk-weaker c.insert_new.result _ _ (asks_reported (g.V.Pages.at_hand c.args.views.now) (g.V.Pages.total c.args.views.now) _ _ _ _ (λ p mode asks. inr (c.in-Missing.ensures.missing, asks))) c.insert_new.ensures;
  made = λ relations fits. IfOk-weaker c.insert_new.result _ _ (made_reported (g.V.Pages.at_hand c.args.views.now) (g.V.Pages.total c.args.views.now) _ _ _ _ (λ changes reply done pages agrees m rows named. let d = done.does relations pages agrees m rows (fits, named) in (d.act, d.short))) c.insert_new.ensures;
  there = IfOk-weaker c.insert_new.result _ _ (made_reported (g.V.Pages.at_hand c.args.views.now) (g.V.Pages.total c.args.views.now) _ _ _ _ (λ changes reply done. done.there)) c.insert_new.ensures;
  few = IfOk-weaker c.insert_new.result _ _ (made_reported (g.V.Pages.at_hand c.args.views.now) (g.V.Pages.total c.args.views.now) _ _ _ _ (λ changes reply done. done.few)) c.insert_new.ensures;
  idle = IfOk-weaker c.insert_new.result _ _ (made_reported (g.V.Pages.at_hand c.args.views.now) (g.V.Pages.total c.args.views.now) _ _ _ _ (λ changes reply done. done.idle)) c.insert_new.ensures;
  modest = λ relations fits. IfOk-weaker c.insert_new.result _ _ (made_reported (g.V.Pages.at_hand c.args.views.now) (g.V.Pages.total c.args.views.now) _ _ _ _ (λ changes reply done pages agrees m rows named. (done.does relations pages agrees m rows (fits, named)).modest)) c.insert_new.ensures;
  takes = λ relations fits. IfOk-weaker c.insert_new.result _ _ (made_reported (g.V.Pages.at_hand c.args.views.now) (g.V.Pages.total c.args.views.now) _ _ _ _ (λ changes reply done pages agrees m rows named. (done.does relations pages agrees m rows (fits, named)).keeps)) c.insert_new.ensures;
  full = λ relations. IfOk-weaker c.insert_new.result _ _ (full_reported (g.V.Pages.at_hand c.args.views.now) (g.V.Pages.total c.args.views.now) _ _ _ _ (λ full. full relations)) c.insert_new.ensures;
  broken = IfOk-weaker c.insert_new.result _ _ (broken_reported (g.V.Pages.at_hand c.args.views.now) (g.V.Pages.total c.args.views.now) _ _ _) c.insert_new.ensures;
}
