use Rattle.std.proofs.Common.{rules}
use Rattle.mt_shared.proofs.hold.Hold.abort.Goals as goal

pub returns-in-Err-DeviceFailed-clause-gone : goal.returns-in-Err-DeviceFailed-clause-gone
returns-in-Err-DeviceFailed-clause-gone g c = search rules
