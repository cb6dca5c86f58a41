use Rattle.mt_log.proofs.AtRest.{scans_coming}
use Rattle.mt_log.proofs.Prefix.{beginning_found}
use Rattle.mt_log.proofs.laws.a_crash_leaves_a_beginning.Goals as goal

pub returns : goal.returns
returns g c = λ pages k sound left. beginning_found pages c.args.log.now k sound (scans_coming g.D.Device c.args.log.now c.args.device.now c.requires.on k left)
