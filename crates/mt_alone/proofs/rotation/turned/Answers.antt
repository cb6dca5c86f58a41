use Rattle.mt_alone.proofs.LeftLemmas.{turned_over}
use Rattle.mt_alone.proofs.rotation.turned.Goals as goal

pub returns : goal.returns
returns g c =
    let D = g.D.Device in let rotated = c.rotate-standing.ensures in
    turned_over c.args.kernel _ _ (g.met.D.Device.counts_now _) rotated.rotated rotated.moments
