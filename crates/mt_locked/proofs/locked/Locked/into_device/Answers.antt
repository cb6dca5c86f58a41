use Rattle.std.proofs.Common.{ap, subst, List}
use Rattle.mt_mark.specs.Rule.{dones}
use Rattle.mt_model.specs.declared.history.Committed.{Committed}
use Rattle.mt_locked.specs.Seen.{LockedSeen}
use Rattle.mt_locked.specs.Standings.{LeavesBook}
use Rattle.mt_locked.proofs.Standings.{device_seen, leaves_book}
use Rattle.mt_locked.proofs.locked.Locked.into_device.Goals as goal

pub returns-clause-leaves : goal.returns-clause-leaves
returns-clause-leaves g c =
    let D = g.D.Device in let b = g.J.Naming.base in let inside = c.self.inside in let given = c.into_device.ensures in
    subst (λ (book : List Committed). LeavesBook D b book c.into_device.result) (ap (λ (l : LockedSeen _). l.book) c.self.view_is)
    (leaves_book b (dones inside.end.view.list) inside.standing c.into_device.result given.device given.found c.self.invariant.4)

pub returns-clause-device : goal.returns-clause-device
returns-clause-device g c = let D = g.D.Device in let inside = c.self.inside in
    device_seen inside.standing inside.end.view c.args.self c.into_device.result c.into_device.ensures.device c.self.view_is
