use Rattle.mt_device_commands.proofs.CheckLemmas.{refused_by_log, refused_by_pages}
use Rattle.mt_device_commands.proofs.check_command.reported_of.Goals as goal

pub returns-then-pages-clause-cause : goal.returns-then-pages-clause-cause
returns-then-pages-clause-cause g c = rw c.if-pages.true (refused_by_pages _ _ c.check.result c.check.ensures.cause)

pub returns-else-pages-clause-cause : goal.returns-else-pages-clause-cause
returns-else-pages-clause-cause g c = rw c.if-pages.false (refused_by_log _ _ c.report.result c.report.ensures.cause)
