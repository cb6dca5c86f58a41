use Rattle.mt_device_commands.proofs.CheckLemmas.{unreported_of}
use Rattle.mt_device_commands.proofs.ExplainLemmas.{log_in}
use Rattle.std.proofs.Common.{false}
use Rattle.mt_device_commands.proofs.explain_command.log_of_file.Goals as goal

pub returns-clause-log : goal.returns-clause-log
returns-clause-log g c = log_in (λ bs. bs.items) _ c.args.name.now _ c.log_of.result c.in_ok-device.ensures.held c.log_of.ensures.log

pub returns-clause-cause : goal.returns-clause-cause
returns-clause-cause g c = unreported_of false _ c.args.name.now _ c.log_of.result c.in_ok-device.ensures.held c.log_of.ensures.cause
