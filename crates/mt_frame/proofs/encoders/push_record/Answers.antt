use Rattle.std.proofs.Common.{rules}
use Rattle.mt_frame.proofs.encoders.push_record.Goals as goal

pub returns-in-Err-clause-err : goal.returns-in-Err-clause-err
returns-in-Err-clause-err c = search rules
