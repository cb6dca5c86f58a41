use Rattle.std.proofs.Common.{◌∙◌}
use Rattle.mt_op.proofs.Work.{begun_work}
use Rattle.mt_op.proofs.operations.Operations.begin_op.Goals as goal

pub returns-clause-work : goal.returns-clause-work
returns-clause-work g c = begun_work c.new.result.total _ c.new.result.list.items c.in-Ok.guards.items (c.new.ensures.total ∙ c.count.ensures) c.new.ensures.none c.in-Ok.ensures.items
