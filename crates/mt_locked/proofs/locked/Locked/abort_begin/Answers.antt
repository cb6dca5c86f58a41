use Rattle.std.proofs.Common.{◌∙◌, ap}
use Rattle.mt_locked.proofs.Keeping.{stays}
use Rattle.mt_locked.proofs.Standings.{asked, beside_on, goes_on, on_err_led}
use Rattle.mt_locked.specs.Seen.{LockedSeen}
use Rattle.mt_txn.specs.Seen.{seen_of}
use Rattle.mt_txn.specs.declared.kernel.Kernel.{Kernel}
use Rattle.mt_locked.proofs.locked.Locked.abort_begin.Goals as goal

pub invariant_of-self-2 : goal.invariant_of-self-2
invariant_of-self-2 g c =
    let D = g.D.Device in let b = g.J.Naming.base in let i = c.self.invariant in
    let list = c.self.inside.end.view.list in let k = c.in-Stands.kernel in let n = c.abort_begin.new.self in
    let on = goes_on b list c.self.inside.standing k n c.in-Stands.is (stays b k n c.abort_begin.ensures.state) c.abort_begin.ensures.restarts i.4 in
    (i.0, i.1, i.2, i.3, on.0)

pub returns-clause-kernel : goal.returns-clause-kernel
returns-clause-kernel g c =
    let D = g.D.Device in let e = c.abort_begin.ensures in
    asked c.self.inside.standing c.in-Stands.kernel c.abort_begin.new.self c.self.inside.end.view _ _ _ c.in-Stands.is c.self.view_is
    (record {
      answers = record { may = e.may; why = e.cause; err = on_err_led c.abort_begin.result (λ same. ap (λ (x : Kernel _ _). seen_of x) same) e.err };
      begins = e.begins;
      state = e.state;
    })

pub returns-clause-book : goal.returns-clause-book
returns-clause-book g c =
    let D = g.D.Device in let b = g.J.Naming.base in let i = c.self.invariant in
    let list = c.self.inside.end.view.list in let k = c.in-Stands.kernel in let n = c.abort_begin.new.self in
    let on = goes_on b list c.self.inside.standing k n c.in-Stands.is (stays b k n c.abort_begin.ensures.state) c.abort_begin.ensures.restarts i.4 in
    on.1 ∙ ap (λ (l : LockedSeen _). l.book) c.self.view_is

pub returns-clause-beside : goal.returns-clause-beside
returns-clause-beside g c = beside_on c.self.inside.standing c.in-Stands.kernel c.abort_begin.new.self c.self.inside.end.view _ c.in-Stands.is c.self.view_is
