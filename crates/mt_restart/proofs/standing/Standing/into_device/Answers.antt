use Rattle.std.proofs.Common.{rules, subst, sym}
use Rattle.mt_restart.specs.Standings.{IsFoundAfter}
use Rattle.mt_restart.specs.declared.standing.Standing.{Standing}
use Rattle.mt_restart.proofs.standing.Standing.into_device.Goals as goal

pub returns-in-Stands-clause-device : goal.returns-in-Stands-clause-device
returns-in-Stands-clause-device g c = search rules

pub returns-in-Stands-clause-found : goal.returns-in-Stands-clause-found
returns-in-Stands-clause-found g c =
    let D = g.D.Device in
    subst (λ (s : Standing _ _). IsFoundAfter s c.into_device.result) (sym c.in-Stands.is) c.into_device.ensures.found

pub returns-in-Ended-clause-found : goal.returns-in-Ended-clause-found
returns-in-Ended-clause-found g c =
    let D = g.D.Device in
    subst (λ (s : Standing _ _). IsFoundAfter s c.in-Ended.device) (sym c.in-Ended.is) tt
