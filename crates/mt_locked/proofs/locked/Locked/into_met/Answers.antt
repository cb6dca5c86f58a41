use Rattle.std.proofs.Common.{List, length, ◌∙◌, ap, sym, All, subst}
use Rattle.mt_mark.specs.Rule.{Holds, dones}
use Rattle.mt_mark.specs.declared.view.Entry.{Entry}
use Rattle.mt_restart.specs.declared.standing.Standing.{Standing}
use Rattle.mt_locked.proofs.Books.{dones-length}
use Rattle.mt_locked.proofs.Counts.{all_counted}
use Rattle.mt_locked.proofs.Idle.{idle_of, none_if}
use Rattle.mt_locked.proofs.Standings.{kernel_is, stands_on}
use Rattle.mt_locked.specs.Seen.{LockedSeen, PassSeen}
use Rattle.mt_locked.specs.Standings.{book_in}
use Rattle.mt_locked.specs.Whole.{IsInUse}
use Rattle.mt_locked.proofs.locked.Locked.into_met.Goals as goal

pub returns-in-Stands-clause-own : goal.returns-in-Stands-clause-own
returns-in-Stands-clause-own g c =
    let h = dones c.self.inside.end.view.list in
    let book = ap (λ (s : Standing _ _). book_in s h) (sym c.in-Stands.is) ∙ ap (λ (l : LockedSeen _). l.book) c.self.view_is in
    let list = ap (λ (l : LockedSeen _). l.list) c.self.view_is in
    let P : List Entry → PassSeen → Type 0 = λ l p. Holds p.number p.seen l in
    (c.args.self.list, c.requires.whole.all ∙ sym book, subst (λ (l : List Entry). All (P l) c.args.passes.items) list c.meet_all.ensures)

pub returns-in-Stands-clause-count : goal.returns-in-Stands-clause-count
returns-in-Stands-clause-count g c =
    let h = dones c.self.inside.end.view.list in
    let book = ap (λ (s : Standing _ _). book_in s h) (sym c.in-Stands.is) ∙ ap (λ (l : LockedSeen _). l.book) c.self.view_is in
    let list = ap (λ (l : LockedSeen _). l.list) c.self.view_is in
    let P : List Entry → PassSeen → Type 0 = λ l p. Holds p.number p.seen l in
    let held = subst (λ (l : List Entry). All (P l) c.args.passes.items) list c.meet_all.ensures in
    ap length (book ∙ sym c.requires.whole.all) ∙ (dones-length c.args.self.list ∙ all_counted g.J.Naming.book c.args.self.list c.args.passes.items c.requires.all held)

pub returns-in-Stands-clause-began : goal.returns-in-Stands-clause-began
returns-in-Stands-clause-began g c = let D = g.D.Device in
    (stands_on g.J.Naming.base (dones c.self.inside.end.view.list) c.self.inside.standing c.in-Stands.kernel c.in-Stands.is c.self.invariant.4).0

pub returns-in-Stands-clause-idle : goal.returns-in-Stands-clause-idle
returns-in-Stands-clause-idle g c = λ well. let D = g.D.Device in let b = g.J.Naming.base in let k = c.in-Stands.kernel in
    let list = c.self.inside.end.view.list in
    let began = (stands_on b (dones list) c.self.inside.standing k c.in-Stands.is c.self.invariant.4).0 in
    let is = kernel_is c.self.inside.standing k c.self.inside.end.view c.args.self c.in-Stands.is c.self.view_is in
    idle_of b k began (none_if (length k.core.live.members) (λ some. c.requires.whole.ended (subst (λ o. IsInUse o) is (well, some))))

pub returns-in-Stands-clause-kernel : goal.returns-in-Stands-clause-kernel
returns-in-Stands-clause-kernel g c = let D = g.D.Device in
    sym (kernel_is c.self.inside.standing c.in-Stands.kernel c.self.inside.end.view c.args.self c.in-Stands.is c.self.view_is)
