use Rattle.std.proofs.Common.{◌∙◌, ap}
use Rattle.mt_model.specs.Views.{base_of}
use Rattle.mt_locked.proofs.Keeping.{calls_one}
use Rattle.mt_locked.proofs.Standings.{asked, at_once, beside_on, calls_to, goes_on}
use Rattle.mt_locked.specs.Seen.{LockedSeen}
use Rattle.mt_locked.proofs.locked.Locked.call.Goals as goal

pub invariant_of-self-2 : goal.invariant_of-self-2
invariant_of-self-2 g c =
    let D = g.D.Device in let b = g.J.Naming.base in let i = c.self.invariant in
    let list = c.self.inside.end.view.list in let k = c.in-Stands.kernel in let n = c.call.new.self in
    let on = goes_on b list c.self.inside.standing k n c.in-Stands.is (λ s shows. calls_one b n c.args.txn c.args.op.now c.call.result s (c.call.ensures.called (base_of b) s shows)) c.call.ensures.restarts i.4 in
    (i.0, i.1, i.2, i.3, on.0)

pub returns-clause-kernel : goal.returns-clause-kernel
returns-clause-kernel g c =
    let D = g.D.Device in let e = c.call.ensures in
    asked c.self.inside.standing c.in-Stands.kernel c.call.new.self c.self.inside.end.view _ _ _ c.in-Stands.is c.self.view_is
    (record {
      answers = record { early = at_once _ _ _ _ e.early; answer = e.answer; states = e.states; commits = e.commits };
      runs = e.runs;
      numbers = e.numbers;
      store = e.store;
      state = λ first s shows. calls_to first s c.args.txn c.args.op.now c.call.result c.call.new.self (e.called first s shows);
    })

pub returns-clause-book : goal.returns-clause-book
returns-clause-book g c =
    let D = g.D.Device in let b = g.J.Naming.base in let i = c.self.invariant in
    let list = c.self.inside.end.view.list in let k = c.in-Stands.kernel in let n = c.call.new.self in
    let on = goes_on b list c.self.inside.standing k n c.in-Stands.is (λ s shows. calls_one b n c.args.txn c.args.op.now c.call.result s (c.call.ensures.called (base_of b) s shows)) c.call.ensures.restarts i.4 in
    on.1 ∙ ap (λ (l : LockedSeen _). l.book) c.self.view_is

pub returns-clause-beside : goal.returns-clause-beside
returns-clause-beside g c = beside_on c.self.inside.standing c.in-Stands.kernel c.call.new.self c.self.inside.end.view _ c.in-Stands.is c.self.view_is
