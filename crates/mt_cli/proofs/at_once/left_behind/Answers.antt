use Rattle.mt_cli.proofs.AtOnceLemmas.{served_at_once}
use Rattle.mt_cli.proofs.at_once.left_behind.Goals as goal

pub returns : goal.returns
returns g c = λ bytes scripts served outcome.
    let D = g.D.Device in
    let n = c.args.kernel in
    served_at_once bytes scripts c.args.transcripts.items n _ served outcome
    (λ first restarts. c.into_device.ensures.found first (D.seen c.into_device.result) restarts (g.met.D.Device.present c.into_device.result))
    c.is_cut_off-has_failed.result c.is_cut_off-has_failed.ensures
