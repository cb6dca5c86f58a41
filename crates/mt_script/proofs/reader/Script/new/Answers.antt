use Rattle.std.proofs.Common.{rules}
use Rattle.mt_script.proofs.reader.Script.new.Goals as goal

pub returns : goal.returns
returns c = search rules
