use Rattle.std.proofs.Common.{ap, subst}
use mathlib.Core.List.{IsPrefix}
use Rattle.mt_mark.specs.Rule.{dones}
use Rattle.mt_model.specs.Views.{base_of}
use Rattle.mt_locked.specs.Seen.{LockedSeen}
use Rattle.mt_txn.specs.Seen.{seen_of}
use Rattle.mt_txn.specs.declared.kernel.Kernel.{Kernel}
use Rattle.mt_locked.proofs.Standings.{asked, beside_on, forces_on, reports}
use Rattle.mt_locked.proofs.locked.Locked.force_step.Goals as goal

pub invariant_of-self-2 : goal.invariant_of-self-2
invariant_of-self-2 g c =
    let D = g.D.Device in let b = g.J.Naming.base in let i = c.self.invariant in
    let h = dones c.self.inside.end.view.list in let k = c.in-Stands.kernel in let n = c.force_step.new.self in
    let on = forces_on b h c.self.inside.standing k n c.force_step.result c.in-Stands.is (λ s shows. c.force_step.ensures.forced (base_of b) s shows) c.force_step.ensures.restarts i.4 in
    (i.0, i.1, i.2, i.3, on.0)

pub returns-clause-book : goal.returns-clause-book
returns-clause-book g c =
    let D = g.D.Device in let b = g.J.Naming.base in let i = c.self.invariant in
    let h = dones c.self.inside.end.view.list in let k = c.in-Stands.kernel in let n = c.force_step.new.self in
    let on = forces_on b h c.self.inside.standing k n c.force_step.result c.in-Stands.is (λ s shows. c.force_step.ensures.forced (base_of b) s shows) c.force_step.ensures.restarts i.4 in
    subst (λ (l : LockedSeen _). IsPrefix l.book n.core.book.items) c.self.view_is on.1

pub returns-clause-kernel : goal.returns-clause-kernel
returns-clause-kernel g c =
    let D = g.D.Device in let e = c.force_step.ensures in
    asked c.self.inside.standing c.in-Stands.kernel c.force_step.new.self c.self.inside.end.view _ _ _ c.in-Stands.is c.self.view_is
    (record {
      answers = record { why = e.cause; forced = e.log };
      keeps = e.keeps;
      memory = λ is. ap (λ (x : Kernel _ _). seen_of x) (e.memory is);
      device = record { once = e.once; faults = reports _ _ c.force_step.result e.fails e.quiet };
    })

pub returns-clause-beside : goal.returns-clause-beside
returns-clause-beside g c = beside_on c.self.inside.standing c.in-Stands.kernel c.force_step.new.self c.self.inside.end.view _ c.in-Stands.is c.self.view_is
