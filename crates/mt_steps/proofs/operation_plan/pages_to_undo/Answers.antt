use Rattle.mt_steps.proofs.Undoing.{enough}
use Rattle.mt_steps.proofs.operation_plan.pages_to_undo.Goals as goal

pub returns-in-Update-clause-enough : goal.returns-in-Update-clause-enough
returns-in-Update-clause-enough c = enough c.args.op.now

pub returns-in-Delete-clause-enough : goal.returns-in-Delete-clause-enough
returns-in-Delete-clause-enough c = enough c.args.op.now

pub returns-in_default-clause-enough : goal.returns-in_default-clause-enough
returns-in_default-clause-enough c = enough c.args.op.now
