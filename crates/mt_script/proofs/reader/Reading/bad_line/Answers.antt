use Rattle.std.proofs.Common.{rules}
use Rattle.mt_script.proofs.reader.Reading.bad_line.Goals as goal

pub returns : goal.returns
returns g c = search rules
