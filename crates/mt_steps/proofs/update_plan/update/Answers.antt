use mathlib.Core.Logic.{∥∥₁_elim}
use Rattle.std.proofs.Props.{props}
use Rattle.std.proofs.Common.{rules, false, inl, inr, List, sym, subst}
use Rattle.mt_space.specs.declared.changes.PageChange.{PageChange}
use Rattle.mt_space.specs.Changes.{after, AreShort}
use Rattle.mt_model.specs.declared.operations.Op.TheVariants.{Update}
use Rattle.mt_model.specs.declared.operations.Reply.TheVariants.{Missing}
use Rattle.mt_base.specs.declared.modes.Mode.TheVariants.{Read}
use Rattle.std.proofs.lemmas.Result.{IfOk-weaker}
use Rattle.mt_steps.proofs.Answered.{lock_reported, asks_reported, made_reported, full_reported, broken_reported}
use Rattle.mt_steps.proofs.Naming.{quiet_none, none_takes}
use Rattle.mt_steps.proofs.Asking.{bucket_inside}
use Rattle.mt_steps.proofs.Modest.{modest_nothing}
use Rattle.mt_steps.specs.Acts.{IsAct}
use Rattle.mt_steps.proofs.Shifting.{update_misses}
use Rattle.mt_steps.proofs.update_plan.update.Goals as goal

pub returns-in-Missing-clause-plans : goal.returns-in-Missing-clause-plans
returns-in-Missing-clause-plans g c = record {
  lock = search rules;
  asks = search rules;
  made = λ relations fits pages agrees m rows named.
      subst (λ (l : List PageChange). IsAct relations (g.V.Pages.total c.args.views.now) pages (after l pages) (Update c.args.relation c.args.key.now c.args.value.now) Missing × AreShort l pages) (sym c.new.ensures)
      (update_misses relations (g.V.Pages.total c.args.views.now) pages m c.args.relation c.args.key.now c.args.value.now rows (c.in-Missing.ensures.missing pages agrees m rows.index), tt);
  there = search rules;
  few = search rules;
  idle = search rules;
  modest = λ relations fits pages agrees m rows named. modest_nothing (g.V.Pages.at_hand c.args.views.now) (g.V.Pages.total c.args.views.now) 1 false pages c.new.result.list.items c.new.ensures;
  takes = λ relations fits pages agrees m rows named.
      none_takes c.args.room (Update c.args.relation c.args.key.now c.args.value.now) pages (after c.new.result.list.items pages) (quiet_none pages c.new.result.list.items c.new.ensures);
  full = search rules;
  broken = search rules;
}

pub returns-in-Endless-clause-plans : goal.returns-in-Endless-clause-plans
returns-in-Endless-clause-plans g c = record {
  lock = search rules;
  asks = search rules;
  made = search rules;
  there = search rules;
  few = search rules;
  idle = search rules;
  modest = search rules;
  takes = search rules;
  full = search rules;
  broken = ∥∥₁_elim c.requires.good (hlevel props) (λ fact.
      let good = fact.1 in c.in-Endless.ensures.endless good.0 good.1 good.2 good.3.index);
}

pub returns-in-Need-clause-plans : goal.returns-in-Need-clause-plans
returns-in-Need-clause-plans g c = record {
  lock = ∥∥₁_elim c.requires.good (hlevel props) (λ fact.
      let good = fact.1 in
      let asks = c.in-Need.ensures.need in
      (asks.missing, bucket_inside (g.V.Pages.total c.args.views.now) c.args.key.now good.0 good.2 Read c.in-Need.page Read good.3.index (asks.role good.0 good.1 good.2 good.3.index)));
  asks = λ split. inl c.in-Need.ensures.need.role;
  made = search rules;
  there = search rules;
  few = search rules;
  idle = search rules;
  modest = search rules;
  takes = search rules;
  full = search rules;
  broken = search rules;
}

pub returns-in-Found-clause-plans : goal.returns-in-Found-clause-plans
returns-in-Found-clause-plans g c = record {
  lock = IfOk-weaker c.update_row.result _ _ (lock_reported (g.V.Pages.at_hand c.args.views.now) (g.V.Pages.total c.args.views.now) _ _ _) c.update_row.ensures;
  asks = λ split. IfOk-weaker c.update_row.result _ _ (asks_reported (g.V.Pages.at_hand c.args.views.now) (g.V.Pages.total c.args.views.now) _ _ _ _ (λ p mode asks. inr ((c.in-Found.name, c.in-Found.ensures.found), asks))) c.update_row.ensures;
  made = λ relations fits. IfOk-weaker c.update_row.result _ _ (made_reported (g.V.Pages.at_hand c.args.views.now) (g.V.Pages.total c.args.views.now) _ _ _ _ (λ changes reply done pages agrees m rows named. let d = done.does relations pages agrees m rows (fits, named) in (d.act, d.short))) c.update_row.ensures;
  there = IfOk-weaker c.update_row.result _ _ (made_reported (g.V.Pages.at_hand c.args.views.now) (g.V.Pages.total c.args.views.now) _ _ _ _ (λ changes reply done. done.there)) c.update_row.ensures;
  few = IfOk-weaker c.update_row.result _ _ (made_reported (g.V.Pages.at_hand c.args.views.now) (g.V.Pages.total c.args.views.now) _ _ _ _ (λ changes reply done. done.few)) c.update_row.ensures;
  idle = IfOk-weaker c.update_row.result _ _ (made_reported (g.V.Pages.at_hand c.args.views.now) (g.V.Pages.total c.args.views.now) _ _ _ _ (λ changes reply done. done.idle)) c.update_row.ensures;
  modest = λ relations fits. IfOk-weaker c.update_row.result _ _ (made_reported (g.V.Pages.at_hand c.args.views.now) (g.V.Pages.total c.args.views.now) _ _ _ _ (λ changes reply done pages agrees m rows named. (done.does relations pages agrees m rows (fits, named)).modest)) c.update_row.ensures;
  takes = λ relations fits. IfOk-weaker c.update_row.result _ _ (made_reported (g.V.Pages.at_hand c.args.views.now) (g.V.Pages.total c.args.views.now) _ _ _ _ (λ changes reply done pages agrees m rows named. (done.does relations pages agrees m rows (fits, named)).keeps)) c.update_row.ensures;
  full = λ relations. IfOk-weaker c.update_row.result _ _ (full_reported (g.V.Pages.at_hand c.args.views.now) (g.V.Pages.total c.args.views.now) _ _ _ _ (λ full. full relations)) c.update_row.ensures;
  broken = IfOk-weaker c.update_row.result _ _ (broken_reported (g.V.Pages.at_hand c.args.views.now) (g.V.Pages.total c.args.views.now) _ _ _) c.update_row.ensures;
}
