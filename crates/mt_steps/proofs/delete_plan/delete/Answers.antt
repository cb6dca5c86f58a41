use mathlib.Core.Logic.{∥∥₁_elim}
use Rattle.std.proofs.Props.{props}
use Rattle.std.proofs.Common.{rules, false, inl, inr, List, sym, subst}
use Rattle.mt_space.specs.declared.changes.PageChange.{PageChange}
use Rattle.mt_space.specs.Changes.{after, AreShort}
use Rattle.mt_model.specs.declared.operations.Op.TheVariants.{Delete}
use Rattle.mt_model.specs.declared.operations.Reply.TheVariants.{Missing}
use Rattle.mt_base.specs.declared.modes.Mode.TheVariants.{Read}
use Rattle.std.proofs.lemmas.Result.{IfOk-weaker}
use Rattle.mt_steps.proofs.Answered.{lock_reported, asks_reported, made_reported, full_reported, broken_reported}
use Rattle.mt_steps.proofs.Asking.{bucket_inside, looks_to_write}
use Rattle.mt_steps.proofs.Modest.{modest_nothing}
use Rattle.mt_steps.specs.Acts.{IsAct}
use Rattle.mt_steps.proofs.Leaving.{missing_already}
use Rattle.mt_steps.proofs.Naming.{quiet_none}
use Rattle.mt_steps.proofs.delete_plan.delete.Goals as goal

pub returns-in-Missing-clause-plans : goal.returns-in-Missing-clause-plans
returns-in-Missing-clause-plans g c = record {
  lock = search rules;
  asks = search rules;
  made = λ relations pages agrees m rows.
      subst (λ (l : List PageChange). IsAct relations (g.V.Pages.total c.args.views.now) pages (after l pages) (Delete c.args.relation c.args.key.now) Missing × AreShort l pages) (sym c.new.ensures)
      (missing_already relations (g.V.Pages.total c.args.views.now) pages m c.args.relation c.args.key.now rows (c.in-Missing.ensures.missing pages agrees m rows.index), tt);
  modest = λ relations pages agrees m rows. modest_nothing (g.V.Pages.at_hand c.args.views.now) (g.V.Pages.total c.args.views.now) 0 false pages c.new.result.list.items c.new.ensures;
  takes = λ relations pages agrees m rows. quiet_none pages c.new.result.list.items c.new.ensures;
  full = search rules;
  there = search rules;
  few = search rules;
  idle = search rules;
  broken = search rules;
}

pub returns-in-Endless-clause-plans : goal.returns-in-Endless-clause-plans
returns-in-Endless-clause-plans g c = record {
  lock = search rules;
  asks = search rules;
  made = search rules;
  modest = search rules;
  takes = search rules;
  full = search rules;
  there = search rules;
  few = search rules;
  idle = search rules;
  broken = ∥∥₁_elim c.requires.good (hlevel props) (λ fact.
      let good = fact.1 in c.in-Endless.ensures.endless good.0 good.1 good.2 good.3.index);
}

pub returns-in-Need-clause-plans : goal.returns-in-Need-clause-plans
returns-in-Need-clause-plans g c = record {
  lock = ∥∥₁_elim c.requires.good (hlevel props) (λ fact.
      let good = fact.1 in
      let asks = c.in-Need.ensures.need in
      (asks.missing, bucket_inside (g.V.Pages.total c.args.views.now) c.args.key.now good.0 good.2 Read c.in-Need.page Read good.3.index (asks.role good.0 good.1 good.2 good.3.index)));
  asks = λ room split. inl (λ pages agrees m maps.
      looks_to_write c.args.key.now (g.V.Pages.total c.args.views.now) pages m c.in-Need.page c.mode_to_write.result maps c.mode_to_write.ensures.directory c.mode_to_write.ensures.others (c.in-Need.ensures.need.role pages agrees m maps));
  made = search rules;
  modest = search rules;
  takes = search rules;
  full = search rules;
  there = search rules;
  few = search rules;
  idle = search rules;
  broken = search rules;
}

pub returns-in-Found-clause-plans : goal.returns-in-Found-clause-plans
returns-in-Found-clause-plans g c = record {
  lock = IfOk-weaker c.delete_row.result _ _ (lock_reported (g.V.Pages.at_hand c.args.views.now) (g.V.Pages.total c.args.views.now) _ _ _) c.delete_row.ensures;
  asks = λ room split. IfOk-weaker c.delete_row.result _ _ (asks_reported (g.V.Pages.at_hand c.args.views.now) (g.V.Pages.total c.args.views.now) _ _ _ _ (λ p mode asks. inr ((c.in-Found.name, c.in-Found.ensures.found), λ relations pages agrees m rows named. asks relations pages agrees m rows tt))) c.delete_row.ensures;
  made = λ relations. IfOk-weaker c.delete_row.result _ _ (made_reported (g.V.Pages.at_hand c.args.views.now) (g.V.Pages.total c.args.views.now) _ _ _ _ (λ changes reply done pages agrees m rows. let d = done.does relations pages agrees m rows tt in (d.act, d.short))) c.delete_row.ensures;
  modest = λ relations. IfOk-weaker c.delete_row.result _ _ (made_reported (g.V.Pages.at_hand c.args.views.now) (g.V.Pages.total c.args.views.now) _ _ _ _ (λ changes reply done pages agrees m rows. (done.does relations pages agrees m rows tt).modest)) c.delete_row.ensures;
  takes = λ relations. IfOk-weaker c.delete_row.result _ _ (made_reported (g.V.Pages.at_hand c.args.views.now) (g.V.Pages.total c.args.views.now) _ _ _ _ (λ changes reply done pages agrees m rows. (done.does relations pages agrees m rows tt).keeps)) c.delete_row.ensures;
  full = IfOk-weaker c.delete_row.result _ _ (full_reported (g.V.Pages.at_hand c.args.views.now) (g.V.Pages.total c.args.views.now) _ _ _ _ (λ no. no)) c.delete_row.ensures;
  there = IfOk-weaker c.delete_row.result _ _ (made_reported (g.V.Pages.at_hand c.args.views.now) (g.V.Pages.total c.args.views.now) _ _ _ _ (λ changes reply done. done.there)) c.delete_row.ensures;
  few = IfOk-weaker c.delete_row.result _ _ (made_reported (g.V.Pages.at_hand c.args.views.now) (g.V.Pages.total c.args.views.now) _ _ _ _ (λ changes reply done. done.few)) c.delete_row.ensures;
  idle = IfOk-weaker c.delete_row.result _ _ (made_reported (g.V.Pages.at_hand c.args.views.now) (g.V.Pages.total c.args.views.now) _ _ _ _ (λ changes reply done. done.idle)) c.delete_row.ensures;
  broken = IfOk-weaker c.delete_row.result _ _ (broken_reported (g.V.Pages.at_hand c.args.views.now) (g.V.Pages.total c.args.views.now) _ _ _) c.delete_row.ensures;
}
