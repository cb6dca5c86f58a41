use Rattle.mt_cli.proofs.Trials.{stands_first}
use Rattle.mt_cli.proofs.commands.kernel_over.Goals as goal

pub returns-in-Ok-clause-first : goal.returns-in-Ok-clause-first
returns-in-Ok-clause-first g c = stands_first c.in_ok-schema.schema c.in-Ok.kernel c.in_ok-schema.ensures.first c.in-Ok.ensures.shows c.in-Ok.ensures.restarts c.in-Ok.ensures.schema
