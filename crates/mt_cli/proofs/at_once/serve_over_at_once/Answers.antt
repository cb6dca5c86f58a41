use Rattle.std.proofs.Common.{map}
use Rattle.mt_script.specs.Scripts.{lines_in}
use Rattle.mt_cli.proofs.at_once.serve_over_at_once.Goals as goal

pub returns-clause-served : goal.returns-clause-served
returns-clause-served g c =
    let served = c.in_ok-kernel.ensures in
    c.left_behind.ensures (g.D.Device.seen c.args.device) (map lines_in c.args.scripts.items) served.began served.outcome
