use Rattle.std.proofs.Common.{arith}
use Rattle.mt_log.proofs.Bytes.{used-fields}
use Rattle.mt_log.proofs.log.Log.used.Goals as goal

pub returns : goal.returns
returns c = let is = used-fields c.args.self.now in omega (arith, is, c.len.ensures)
