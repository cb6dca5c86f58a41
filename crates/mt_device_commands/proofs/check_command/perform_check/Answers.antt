use Rattle.std.proofs.KnownBytes.{Keeps-refl}
use Rattle.mt_device_commands.specs.Checks.{unheard_check, unreported}
use Rattle.mt_device_commands.proofs.check_command.perform_check.Goals as goal

pub returns-in-Err-write_check-clause-unchecked : goal.returns-in-Err-write_check-clause-unchecked
returns-in-Err-write_check-clause-unchecked g c = unheard_check c.in-Ok.report c.in-Ok.ensures.outcome c.in-Err-write_check.ensures.front

pub returns-in-Err-clause-unchecked : goal.returns-in-Err-clause-unchecked
returns-in-Err-clause-unchecked g c = unreported c.in-Err.refusal c.in-Err.ensures.cause (Keeps-refl (g.O.Write.contents c.args.out.now))
