use Rattle.std.proofs.Common.{◌∙◌, ap}
use Rattle.mt_model.specs.Views.{base_of}
use Rattle.mt_locked.proofs.Keeping.{begins_one}
use Rattle.mt_locked.proofs.Standings.{asked, at_once, beside_on, goes_on}
use Rattle.mt_locked.specs.Seen.{LockedSeen}
use Rattle.mt_txn.proofs.Answering.{may_of}
use Rattle.mt_locked.proofs.locked.Locked.begin.Goals as goal

pub invariant_of-self-2 : goal.invariant_of-self-2
invariant_of-self-2 g c =
    let D = g.D.Device in let b = g.J.Naming.base in let i = c.self.invariant in
    let list = c.self.inside.end.view.list in let k = c.in-Stands.kernel in let n = c.begin.new.self in
    let on = goes_on b list c.self.inside.standing k n c.in-Stands.is (begins_one b k n c.args.session c.begin.result (λ s shows. c.begin.ensures.begun (base_of b) s shows) c.begin.ensures.err c.begin.ensures.schema) c.begin.ensures.restarts i.4 in
    (i.0, i.1, i.2, i.3, on.0)

pub returns-clause-kernel : goal.returns-clause-kernel
returns-clause-kernel g c =
    let D = g.D.Device in let e = c.begin.ensures in
    asked c.self.inside.standing c.in-Stands.kernel c.begin.new.self c.self.inside.end.view _ _ _ c.in-Stands.is c.self.view_is
    (record { answers = record { refused = record { may = may_of _ c.in-Stands.kernel c.begin.new.self c.begin.result e.early; why = e.cause }; early = at_once _ _ _ _ e.early; opened = e.opened; err = e.err }; number = e.number; state = e.begun; numbers = e.numbers; device = e.device })

pub returns-clause-book : goal.returns-clause-book
returns-clause-book g c =
    let D = g.D.Device in let b = g.J.Naming.base in let i = c.self.invariant in
    let list = c.self.inside.end.view.list in let k = c.in-Stands.kernel in let n = c.begin.new.self in
    let on = goes_on b list c.self.inside.standing k n c.in-Stands.is (begins_one b k n c.args.session c.begin.result (λ s shows. c.begin.ensures.begun (base_of b) s shows) c.begin.ensures.err c.begin.ensures.schema) c.begin.ensures.restarts i.4 in
    on.1 ∙ ap (λ (l : LockedSeen _). l.book) c.self.view_is

pub returns-clause-beside : goal.returns-clause-beside
returns-clause-beside g c = beside_on c.self.inside.standing c.in-Stands.kernel c.begin.new.self c.self.inside.end.view _ c.in-Stands.is c.self.view_is
