use Rattle.std.proofs.Common.{ℕ, List, subst}
use Rattle.mt_mark.specs.Rule.{Holds}
use Rattle.mt_mark.specs.declared.view.Entry.{Entry}
use Rattle.mt_locked.specs.Seen.{PassSeen}
use Rattle.mt_locked.proofs.returned_passes.meet.Goals as goal

pub returns-clause-own : goal.returns-clause-own
returns-clause-own g c =
    let m = c.meet.ensures in
    let seat = c.pass.inside.seat.view in
    let list = c.args.end.now.view.list in
    let held : Holds c.pass.inside.number seat.list list = subst (λ (x : ℕ × List Entry). Holds x.0 seat.list x.1) (λ i. (c.pass.invariant.2 i, m.seen i)) m.others in
    subst (λ (x : PassSeen). Holds x.number x.seen list) c.pass.view_is held
