use Rattle.mt_cli.proofs.ServeLemmas.{served_on, short_on}
use Rattle.mt_cli.proofs.run_command.serve_opened.Goals as goal

pub returns-in-Ok-clause-served : goal.returns-in-Ok-clause-served
returns-in-Ok-clause-served g c = λ relations counters b opened.
    let D = g.D.Device in
    let n = c.in-Ok.kernel in
    served_on c.args.stop c.in-Ok.stopped relations counters b c.args.kernel n _ _ _ _ opened c.in-Ok.ensures.schema c.in-Ok.ensures.restarts c.in-Ok.ensures.ran
    (λ first restarts. c.into_device.ensures.found first (D.seen c.into_device.result) restarts (g.met.D.Device.present c.into_device.result))

pub returns-in-Err-clause-short : goal.returns-in-Err-clause-short
returns-in-Err-clause-short g c = λ relations counters b opened.
    let D = g.D.Device in
    let outcome = c.into_device-why.ensures in
    rw outcome.why (short_on c.args.stop relations counters b c.args.kernel _ _ _ c.in-Err.left _ _ opened (g.met.D.Device.present _) outcome.stands c.in-Err.ensures.cut)
