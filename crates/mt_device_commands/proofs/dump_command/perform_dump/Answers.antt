use Rattle.std.proofs.KnownBytes.{Keeps-refl}
use Rattle.mt_device_commands.specs.Dumps.{unheard_dump, unopened}
use Rattle.mt_device_commands.proofs.dump_command.perform_dump.Goals as goal

pub returns-in-Ok-clause-undumped : goal.returns-in-Ok-clause-undumped
returns-in-Ok-clause-undumped g c = unheard_dump c.in-Ok.survey c.in-Ok.ensures.outcome c.in-Err-write_dump.ensures.front

pub returns-clause-undumped : goal.returns-clause-undumped
returns-clause-undumped g c = unopened c.in-Err.refusal c.in-Err.ensures.cause (Keeps-refl (g.O.Write.contents c.args.out.now))
