use Rattle.mt_device_commands.proofs.CheckLemmas.{unreported_of}
use Rattle.mt_device_commands.proofs.check_command.reported_of_file.Goals as goal

pub returns-clause-cause : goal.returns-clause-cause
returns-clause-cause g c =
    unreported_of c.args.pages _ c.args.name.now _ c.reported_of.result c.in_ok-device.ensures.held c.reported_of.ensures.cause
