use Rattle.std.proofs.Common.{Err, refl, subst}
use Rattle.mt_base.specs.declared.refusal.Refusal.TheVariants.{DeviceFailed}
use Rattle.mt_locked.specs.Asked.{DidSave}
use Rattle.mt_locked.proofs.Standings.{kernel_is, none_is}
use Rattle.mt_locked.proofs.locked.Locked.save.Goals as goal

pub returns-in-Stands : goal.returns-in-Stands
returns-in-Stands g c = let D = g.D.Device in let e = c.save.ensures in
    subst (λ o. DidSave D o c.args.txn c.save.result)
    (kernel_is c.self.inside.standing c.in-Stands.kernel c.self.inside.end.view c.args.self.now c.in-Stands.is c.self.view_is)
    (record { may = e.may; why = e.cause; count = e.count; standing = e.standing })

pub returns-in-Ended : goal.returns-in-Ended
returns-in-Ended g c = let D = g.D.Device in
    subst (λ o. DidSave D o c.args.txn (Err DeviceFailed))
    (none_is c.self.inside.standing c.in-Ended.field-0 c.self.inside.end.view c.args.self.now c.in-Ended.is c.self.view_is) refl
