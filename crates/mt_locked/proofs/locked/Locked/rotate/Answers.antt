use Rattle.std.proofs.Common.{◌≡◌, ◌∙◌, ap, subst, sym}
use Rattle.mt_mark.specs.Held.{Held}
use Rattle.mt_mark.specs.Rule.{IsConfirmed, dones}
use Rattle.std.specs.Prelude.{IfErr}
use Rattle.mt_locked.specs.Seen.{LockedSeen, is_failed_in}
use Rattle.mt_locked.specs.Standings.{KeepsHistory, book_in, kernel_in, left_in, seen_in}
use Rattle.mt_locked.specs.Turns.{IsLeftAfter, IsLostByFault, IsTooEarlyIn, TurnsLogOver}
use Rattle.mt_locked.proofs.Books.{dones-length}
use Rattle.mt_locked.proofs.Uses.{too_early, too_soon}
use Rattle.mt_locked.proofs.locked.Locked.rotate.Goals as goal

pub invariant_of-self : goal.invariant_of-self
invariant_of-self g c =
    let D = g.D.Device in let b = g.J.Naming.base in let i = c.self.invariant in let s = c.check-entered.ensures in
    let list = c.self.inside.end.view.list in let new = c.replace_with-outcome.new.dest in
    let kept = c.replace_with-outcome.ensures.keeps b (dones list) (dones-length list ∙ sym s.stands) i.4 in
    subst (λ (x : Held). (x.mark ≡ g.J.Naming.mark) × (x.view.base ≡ b) × (x.view.book ≡ g.J.Naming.book) × IsConfirmed x.view × KeepsHistory b (dones x.view.list) new)
    (sym s.same) (i.0, i.1, i.2, i.3, kept.0)

pub invariant_of-self-else-ne : goal.invariant_of-self-else-ne
invariant_of-self-else-ne g c =
    let D = g.D.Device in let b = g.J.Naming.base in let i = c.self.invariant in let s = c.check-entered.ensures in
    let list = c.self.inside.end.view.list in let new = c.replace_with-outcome.new.dest in
    let kept = c.replace_with-outcome.ensures.keeps b (dones list) (dones-length list ∙ sym s.stands) i.4 in
    subst (λ (x : Held). (x.mark ≡ g.J.Naming.mark) × (x.view.base ≡ b) × (x.view.book ≡ g.J.Naming.book) × IsConfirmed x.view × KeepsHistory b (dones x.view.list) new)
    (sym s.same) (i.0, i.1, i.2, i.3, kept.0)

pub returns-then-ne-clause-why : goal.returns-then-ne-clause-why
returns-then-ne-clause-why g c = c.replace_with-outcome.ensures.why

pub returns-then-ne-clause-did : goal.returns-then-ne-clause-did
returns-then-ne-clause-did g c = λ did.
    subst (λ (l : LockedSeen _). TurnsLogOver g.D.Device c.args.frames g.J.Naming.base c.args.self.now.kernel l.kernel) (sym c.settle.ensures)
    (subst (λ (l : LockedSeen _). TurnsLogOver g.D.Device c.args.frames g.J.Naming.base l.kernel (kernel_in c.replace_with-outcome.new.dest)) c.self.view_is
    (c.replace_with-outcome.ensures.did did g.J.Naming.base (dones c.self.inside.end.view.list) c.self.invariant.4))

pub returns-then-ne-clause-gone : goal.returns-then-ne-clause-gone
returns-then-ne-clause-gone g c = λ left. c.replace_with-outcome.ensures.gone (sym (ap (λ (l : LockedSeen _). l.kernel) c.settle.ensures) ∙ left)

pub returns-then-ne-clause-book : goal.returns-then-ne-clause-book
returns-then-ne-clause-book g c =
    let D = g.D.Device in let b = g.J.Naming.base in let i = c.self.invariant in let s = c.check-entered.ensures in
    let list = c.self.inside.end.view.list in let new = c.replace_with-outcome.new.dest in
    let kept = c.replace_with-outcome.ensures.keeps b (dones list) (dones-length list ∙ sym s.stands) i.4 in
    ap (λ (l : LockedSeen _). l.book) c.settle.ensures ∙ (ap (λ (x : Held). book_in new (dones x.view.list)) s.same ∙ (kept.1 ∙ ap (λ (l : LockedSeen _). l.book) c.self.view_is))

pub returns-else-ne-clause-why : goal.returns-else-ne-clause-why
returns-else-ne-clause-why g c = c.replace_with-outcome.ensures.why

pub returns-else-ne-clause-did : goal.returns-else-ne-clause-did
returns-else-ne-clause-did g c = λ did.
    subst (λ (l : LockedSeen _). TurnsLogOver g.D.Device c.args.frames g.J.Naming.base l.kernel (kernel_in c.replace_with-outcome.new.dest)) c.self.view_is
    (c.replace_with-outcome.ensures.did did g.J.Naming.base (dones c.self.inside.end.view.list) c.self.invariant.4)

pub returns-else-ne-clause-gone : goal.returns-else-ne-clause-gone
returns-else-ne-clause-gone g c = c.replace_with-outcome.ensures.gone

pub returns-else-ne-clause-book : goal.returns-else-ne-clause-book
returns-else-ne-clause-book g c =
    let D = g.D.Device in let b = g.J.Naming.base in let i = c.self.invariant in let s = c.check-entered.ensures in
    let list = c.self.inside.end.view.list in let new = c.replace_with-outcome.new.dest in
    let kept = c.replace_with-outcome.ensures.keeps b (dones list) (dones-length list ∙ sym s.stands) i.4 in
    ap (λ (x : Held). book_in new (dones x.view.list)) s.same ∙ (kept.1 ∙ ap (λ (l : LockedSeen _). l.book) c.self.view_is)

pub returns-else-ne-clause-early : goal.returns-else-ne-clause-early
returns-else-ne-clause-early g c = λ is.
    let D = g.D.Device in let i = c.self.invariant in let s = c.check-entered.ensures in
    let list = c.self.inside.end.view.list in let standing = c.self.inside.standing in let new = c.replace_with-outcome.new.dest in
    let early = c.replace_with-outcome.ensures.early is in (
      (λ j. seen_in (early.0 j) (ap (λ (x : Held). x.view) s.same j) c.self.inside.holding c.self.inside.due) ∙ c.self.view_is,
      subst (λ (l : LockedSeen _). IsTooEarlyIn l) c.self.view_is (too_early c.self.inside.holding c.self.inside.due c.check-entered.result standing c.self.inside.end.view s.stands early.1),
    )

pub returns-then-ne-clause-waits : goal.returns-then-ne-clause-waits
returns-then-ne-clause-waits g c = λ well early.
    let kernel = ap (λ (l : LockedSeen _). is_failed_in l.kernel) c.self.view_is in
    (c.replace_with-outcome.ensures.waits (kernel ∙ well) (too_soon c.self.inside.holding c.self.inside.due c.check-entered.result c.self.inside.standing c.self.inside.end.view c.check-entered.ensures.stands (kernel ∙ well) (subst (λ (l : LockedSeen _). IsTooEarlyIn l) (sym c.self.view_is) early))).0

pub returns-else-ne-clause-waits : goal.returns-else-ne-clause-waits
returns-else-ne-clause-waits g c = λ well early.
    let kernel = ap (λ (l : LockedSeen _). is_failed_in l.kernel) c.self.view_is in
    (c.replace_with-outcome.ensures.waits (kernel ∙ well) (too_soon c.self.inside.holding c.self.inside.due c.check-entered.result c.self.inside.standing c.self.inside.end.view c.check-entered.ensures.stands (kernel ∙ well) (subst (λ (l : LockedSeen _). IsTooEarlyIn l) (sym c.self.view_is) early))).0

pub returns-then-ne-clause-refused : goal.returns-then-ne-clause-refused
returns-then-ne-clause-refused g c =
    subst (λ (l : LockedSeen _). IfErr c.replace_with-outcome.result (λ why. IsLeftAfter g.D.Device why c.args.self.now.kernel l.kernel)) (sym c.settle.ensures)
    (subst (λ (l : LockedSeen _). IfErr c.replace_with-outcome.result (λ why. IsLeftAfter g.D.Device why l.kernel (kernel_in c.replace_with-outcome.new.dest))) c.self.view_is c.replace_with-outcome.ensures.refused)

pub returns-else-ne-clause-refused : goal.returns-else-ne-clause-refused
returns-else-ne-clause-refused g c =
    subst (λ (l : LockedSeen _). IfErr c.replace_with-outcome.result (λ why. IsLeftAfter g.D.Device why l.kernel (kernel_in c.replace_with-outcome.new.dest))) c.self.view_is c.replace_with-outcome.ensures.refused

pub returns-then-ne-clause-failed : goal.returns-then-ne-clause-failed
returns-then-ne-clause-failed g c = λ bad.
    let kernel = ap (λ (l : LockedSeen _). l.kernel) c.self.view_is in
    let failed = c.replace_with-outcome.ensures.failed (ap is_failed_in kernel ∙ bad) in
    (failed.0, ap (λ (l : LockedSeen _). l.kernel) c.settle.ensures ∙ (ap kernel_in failed.1 ∙ kernel))

pub returns-else-ne-clause-failed : goal.returns-else-ne-clause-failed
returns-else-ne-clause-failed g c = λ bad.
    let kernel = ap (λ (l : LockedSeen _). l.kernel) c.self.view_is in
    let failed = c.replace_with-outcome.ensures.failed (ap is_failed_in kernel ∙ bad) in
    (failed.0, ap kernel_in failed.1 ∙ kernel)

pub returns-then-ne-clause-lost : goal.returns-then-ne-clause-lost
returns-then-ne-clause-lost g c =
    subst (λ (l : LockedSeen _). IsLostByFault g.D.Device c.args.self.now.kernel c.args.self.now.left l.left) (sym c.settle.ensures)
    (subst (λ (l : LockedSeen _). IsLostByFault g.D.Device l.kernel l.left (left_in c.replace_with-outcome.new.dest)) c.self.view_is c.replace_with-outcome.ensures.lost)

pub returns-else-ne-clause-lost : goal.returns-else-ne-clause-lost
returns-else-ne-clause-lost g c =
    subst (λ (l : LockedSeen _). IsLostByFault g.D.Device l.kernel l.left (left_in c.replace_with-outcome.new.dest)) c.self.view_is c.replace_with-outcome.ensures.lost
