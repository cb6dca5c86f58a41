use Rattle.std.proofs.Common.{◌∙◌, ap}
use Rattle.mt_model.specs.Views.{base_of}
use Rattle.mt_locked.proofs.Keeping.{aborts_one}
use Rattle.mt_locked.proofs.Standings.{asked, at_once, beside_on, goes_on, reports}
use Rattle.mt_locked.specs.Seen.{LockedSeen}
use Rattle.mt_locked.proofs.locked.Locked.abort_step.Goals as goal

pub invariant_of-self-2 : goal.invariant_of-self-2
invariant_of-self-2 g c =
    let D = g.D.Device in let b = g.J.Naming.base in let i = c.self.invariant in
    let list = c.self.inside.end.view.list in let k = c.in-Stands.kernel in let n = c.abort_step.new.self in
    let on = goes_on b list c.self.inside.standing k n c.in-Stands.is (λ s shows. aborts_one b n c.args.txn c.abort_step.result s (c.abort_step.ensures.aborted (base_of b) s shows)) c.abort_step.ensures.restarts i.4 in
    (i.0, i.1, i.2, i.3, on.0)

pub returns-clause-kernel : goal.returns-clause-kernel
returns-clause-kernel g c =
    let D = g.D.Device in let e = c.abort_step.ensures in
    asked c.self.inside.standing c.in-Stands.kernel c.abort_step.new.self c.self.inside.end.view _ _ _ c.in-Stands.is c.self.view_is
    (record {
      answers = record { may = e.may; early = at_once _ _ _ _ e.early; why = e.cause; aborted = e.aborted };
      moves = e.moves;
      leaves = e.leaves;
      reads = e.reads;
      faults = reports _ _ c.abort_step.result e.fails e.quiet;
    })

pub returns-clause-book : goal.returns-clause-book
returns-clause-book g c =
    let D = g.D.Device in let b = g.J.Naming.base in let i = c.self.invariant in
    let list = c.self.inside.end.view.list in let k = c.in-Stands.kernel in let n = c.abort_step.new.self in
    let on = goes_on b list c.self.inside.standing k n c.in-Stands.is (λ s shows. aborts_one b n c.args.txn c.abort_step.result s (c.abort_step.ensures.aborted (base_of b) s shows)) c.abort_step.ensures.restarts i.4 in
    on.1 ∙ ap (λ (l : LockedSeen _). l.book) c.self.view_is

pub returns-clause-beside : goal.returns-clause-beside
returns-clause-beside g c = beside_on c.self.inside.standing c.in-Stands.kernel c.abort_step.new.self c.self.inside.end.view _ c.in-Stands.is c.self.view_is
