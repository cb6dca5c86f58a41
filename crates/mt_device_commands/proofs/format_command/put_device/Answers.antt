use Rattle.std.proofs.lemmas.Result.{on_ok_weaker}
use Rattle.mt_device_commands.proofs.format_command.put_device.Goals as goal

pub returns-clause-formatted : goal.returns-clause-formatted
returns-clause-formatted g c = on_ok_weaker c.put_formatted.result (λ put. record { schema = c.in_ok-schema.schema; of = c.in_ok-schema.ensures.schema; put = put }) c.put_formatted.ensures.put
