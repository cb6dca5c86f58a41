use Rattle.std.proofs.Common.{◌<◌, false, length, subst, arith}
use Rattle.std.specs.Prelude.{◌↔◌, IsTrue}
use Rattle.mt_locked.specs.Seen.{under_way_in}
use Rattle.mt_locked.proofs.Standings.{kernel_is, none_is}
use Rattle.mt_locked.proofs.locked.Locked.is_committing.Goals as goal

pub returns-in-Stands : goal.returns-in-Stands
returns-in-Stands g c = let D = g.D.Device in
    subst (λ o. IsTrue c.is_committing.result ↔ (0 < length (under_way_in o)))
    (kernel_is c.self.inside.standing c.in-Stands.kernel c.self.inside.end.view c.args.self.now c.in-Stands.is c.self.view_is) c.is_committing.ensures

pub returns-in-Ended : goal.returns-in-Ended
returns-in-Ended g c = let D = g.D.Device in
    subst (λ o. IsTrue false ↔ (0 < length (under_way_in o)))
    (none_is c.self.inside.standing c.in-Ended.field-0 c.self.inside.end.view c.args.self.now c.in-Ended.is c.self.view_is)
    (λ is. absurd (cc), λ less. absurd (omega (arith, less)))
