use Rattle.mt_index.proofs.Ruling.{planned_map, planned_adds, planned_seen, planned_there, planned_need, planned_due}
use Rattle.mt_index.proofs.insertion_plan.plan_add.Goals as goal

pub returns-clause-map : goal.returns-clause-map
returns-clause-map g c =
    planned_map (g.V.Pages.at_hand c.args.views.now) (g.V.Pages.total c.args.views.now) c.args.split (record { relation = c.args.relation; key = c.args.key.now; name = c.args.name }) c.plan_by_rule.result c.plan_by_rule.ensures

pub returns-clause-added : goal.returns-clause-added
returns-clause-added g c =
    planned_adds (g.V.Pages.at_hand c.args.views.now) (g.V.Pages.total c.args.views.now) c.args.split (record { relation = c.args.relation; key = c.args.key.now; name = c.args.name }) c.plan_by_rule.result c.plan_by_rule.ensures

pub returns-clause-seen : goal.returns-clause-seen
returns-clause-seen g c =
    planned_seen (g.V.Pages.at_hand c.args.views.now) (g.V.Pages.total c.args.views.now) c.args.split (record { relation = c.args.relation; key = c.args.key.now; name = c.args.name }) c.plan_by_rule.result c.plan_by_rule.ensures

pub returns-clause-there : goal.returns-clause-there
returns-clause-there g c =
    planned_there (g.V.Pages.at_hand c.args.views.now) (g.V.Pages.total c.args.views.now) c.args.split (record { relation = c.args.relation; key = c.args.key.now; name = c.args.name }) c.plan_by_rule.result c.plan_by_rule.ensures

pub returns-clause-need : goal.returns-clause-need
returns-clause-need g c =
    planned_need (g.V.Pages.at_hand c.args.views.now) (g.V.Pages.total c.args.views.now) c.args.split (record { relation = c.args.relation; key = c.args.key.now; name = c.args.name }) c.plan_by_rule.result c.plan_by_rule.ensures

pub returns-clause-due : goal.returns-clause-due
returns-clause-due g c =
    planned_due (g.V.Pages.at_hand c.args.views.now) (g.V.Pages.total c.args.views.now) c.args.split (record { relation = c.args.relation; key = c.args.key.now; name = c.args.name }) c.plan_by_rule.result c.plan_by_rule.ensures
