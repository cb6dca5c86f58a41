use Rattle.mt_world.proofs.StopLemmas.{counted_run}
use Rattle.mt_world.proofs.crash.crash_run.Goals as goal

pub returns-clause-run : goal.returns-clause-run
returns-clause-run c = counted_run c.args.schema.now c.args.events.now c.in_ok-before.before c.args.calls c.limit_behind.result c.args.fill c.stopped_run.result c.limit_behind.ensures c.in_ok-before.ensures.begins c.stopped_run.ensures.run
