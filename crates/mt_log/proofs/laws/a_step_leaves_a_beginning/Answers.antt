use Rattle.mt_disk.proofs.Frame.{leaves_more}
use Rattle.mt_log.proofs.Prefix.{beginning_found}
use Rattle.mt_log.proofs.laws.a_step_leaves_a_beginning.Goals as goal

pub returns : goal.returns
returns g c = λ pages sound. leaves_more g.D.Device.moment g.D.Device.left_since c.args.before.now c.args.after.now _ _ c.requires.moments (λ k left. beginning_found pages c.args.log.now k sound left)
