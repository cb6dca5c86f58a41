use Rattle.mt_alone.proofs.LeftLemmas.{left_stands}
use Rattle.mt_alone.proofs.rotation.NotServed.into_device.Goals as goal

pub returns-clause-stands : goal.returns-clause-stands
returns-clause-stands g c = λ relations counters q left.
    let D = g.D.Device in let given = c.into_device.ensures in
    left_stands relations counters q c.args.self.left c.args.self.why c.into_device.result given.device given.found left
