use Rattle.std.proofs.Common.{◌∙◌, ap}
use Rattle.mt_locked.specs.Seen.{is_failed_in}
use Rattle.mt_locked.proofs.Standings.{kernel_is, none_is}
use Rattle.mt_locked.proofs.locked.Locked.has_failed.Goals as goal

pub returns-in-Stands : goal.returns-in-Stands
returns-in-Stands g c = let D = g.D.Device in
    c.has_failed.ensures ∙ ap is_failed_in (kernel_is c.self.inside.standing c.in-Stands.kernel c.self.inside.end.view c.args.self.now c.in-Stands.is c.self.view_is)

pub returns-in-Ended : goal.returns-in-Ended
returns-in-Ended g c = let D = g.D.Device in
    ap is_failed_in (none_is c.self.inside.standing c.in-Ended.field-0 c.self.inside.end.view c.args.self.now c.in-Ended.is c.self.view_is)
