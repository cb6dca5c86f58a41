use Rattle.std.proofs.Common.{None, Some, refl, subst}
use Rattle.mt_mark.specs.Rule.{dones}
use Rattle.mt_locked.specs.Turns.{IsUse, IsUseSeen}
use Rattle.mt_locked.proofs.Standings.{kernel_is, none_is, stands_on}
use Rattle.mt_locked.proofs.locked.Locked.log_use.Goals as goal

pub returns-in-Stands-clause-use_on : goal.returns-in-Stands-clause-use_on
returns-in-Stands-clause-use_on g c =
    let D = g.D.Device in let b = g.J.Naming.base in let k = c.in-Stands.kernel in
    let on = stands_on b (dones c.self.inside.end.view.list) c.self.inside.standing k c.in-Stands.is c.self.invariant.4 in
    let use_of : IsUse D b c.log_use.result = record { kernel = k; began = on.0; used = c.log_use.ensures.used; size = c.log_use.ensures.size } in
    ∣ use_of ∣₁

pub returns-in-Stands-clause-kernel : goal.returns-in-Stands-clause-kernel
returns-in-Stands-clause-kernel g c = let D = g.D.Device in
    subst (λ o. IsUseSeen o (Some c.log_use.result))
    (kernel_is c.self.inside.standing c.in-Stands.kernel c.self.inside.end.view c.args.self.now c.in-Stands.is c.self.view_is) (c.log_use.ensures.used, c.log_use.ensures.size)

pub returns-in-Ended-clause-kernel : goal.returns-in-Ended-clause-kernel
returns-in-Ended-clause-kernel g c = let D = g.D.Device in
    subst (λ o. IsUseSeen o None)
    (none_is c.self.inside.standing c.in-Ended.field-0 c.self.inside.end.view c.args.self.now c.in-Ended.is c.self.view_is) refl
