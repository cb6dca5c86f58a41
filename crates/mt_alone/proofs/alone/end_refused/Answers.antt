use Rattle.std.proofs.Common.{refl}
use Rattle.mt_alone.proofs.RunLemmas.{silent}
use Rattle.mt_alone.proofs.alone.end_refused.Goals as goal

pub returns-in_default : goal.returns-in_default
returns-in_default g c = (refl, silent (g.W.Write.contents c.args.writer.now) c.args.refusal c.in_default.not-DeviceFailed)
