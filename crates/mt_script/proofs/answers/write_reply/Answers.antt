use Rattle.std.proofs.Common.{rules}
use Rattle.mt_script.proofs.answers.write_reply.Goals as goal

pub returns-in-Missing : goal.returns-in-Missing
returns-in-Missing g c = search rules
