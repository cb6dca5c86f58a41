use Rattle.std.proofs.Common.{rules}
use Rattle.mt_script.proofs.lines.is_text_of.Goals as goal

pub returns : goal.returns
returns c = search rules
