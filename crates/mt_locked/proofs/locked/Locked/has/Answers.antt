use Rattle.std.proofs.Common.{◌≡◌, ◌∙◌, Bool, true, false, length, ap, subst, sym}
use Rattle.mt_mark.specs.Legal.{IsLegal}
use Rattle.mt_mark.specs.Rule.{dones}
use Rattle.mt_locked.specs.Seen.{LockedSeen}
use Rattle.mt_locked.specs.Standings.{book_in}
use Rattle.mt_restart.specs.declared.standing.Standing.{Standing}
use Rattle.mt_locked.proofs.Books.{none_behind}
use Rattle.mt_locked.proofs.Standings.{legal_in}
use Rattle.mt_locked.proofs.locked.Locked.has.Goals as goal

pub returns-in-Stands-clause-legal : goal.returns-in-Stands-clause-legal
returns-in-Stands-clause-legal g c = λ _.
    let D = g.D.Device in let b = g.J.Naming.base in
    subst (λ (l : LockedSeen _). IsLegal b l.book) c.self.view_is
    (legal_in b c.in-Stands.kernel c.self.inside.standing (dones c.self.inside.end.view.list) c.in-Stands.is c.self.invariant.4)

pub returns-in-Ended-clause-is : goal.returns-in-Ended-clause-is
returns-in-Ended-clause-is g c =
    let list = c.self.inside.end.view.list in
    let book = sym (ap (λ (l : LockedSeen _). l.book) c.self.view_is) ∙ ap (λ (s : Standing _ _). book_in s (dones list)) c.in-Ended.is in
    let at = c.requires.at ∙ sym (ap (λ (l : LockedSeen _). length l.list) c.self.view_is) in
    (λ is. absurd (let wrong : ◌≡◌ {A = Bool} false true = is in cc), λ there. absurd (none_behind c.args.self.now.book list c.args.at c.args.entry.now.done book at there))
