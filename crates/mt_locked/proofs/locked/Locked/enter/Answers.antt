use Rattle.std.proofs.Common.{◌≡◌, ℕ, ◌+◌, ◌-◌, ◌++◌, ◌∷◌, [], List, length, slice_get, Some, ap, sym, ◌∙◌, subst, refl, arith}
use mathlib.Core.List.{IsPrefix}
use Rattle.mt_model.specs.declared.tables.Base.{Base}
use Rattle.mt_mark.specs.Legal.{IsLegal}
use Rattle.mt_mark.specs.declared.view.Entry.{Entry}
use Rattle.mt_mark.specs.Held.{Held}
use Rattle.mt_mark.specs.Rule.{dones, Holds}
use Rattle.mt_locked.specs.Seen.{PassSeen, LockedSeen, Entered}
use Rattle.mt_locked.specs.Tokens.{entry_of}
use Rattle.mt_locked.specs.Standings.{KeepsHistory, book_in, seen_in}
use Rattle.mt_locked.proofs.Books.{entered, front_legal}
use Rattle.mt_locked.proofs.Standings.{entered_on, front_of}
use Rattle.mt_locked.proofs.locked.Locked.enter.Goals as goal

pub enter-requires-clause-legal : goal.enter-requires-clause-legal
enter-requires-clause-legal g c =
    let D = g.D.Device in let b = g.J.Naming.base in
    let i = c.self.invariant in
    let s = c.check-at.ensures in
    let h = c.has.ensures in
    let e = c.txn.inside.entry in
    let standing = c.self.inside.standing in
    let list = c.self.inside.end.view.list in
    let there = subst (λ (x : Held). slice_get (book_in standing (dones x.view.list)) c.check-at.result ≡ Some e.done) s.same (h.is.0 c.if-not-has.false) in
    let book = subst (λ (x : Held). IsLegal b (book_in standing (dones x.view.list))) s.same (h.legal c.if-not-has.false) in
    let on = entered_on b list e c.check-at.result standing s.stands there i.4 in
    let front = subst (IsPrefix (dones (list ++ e ∷ []))) on.1 (front_of b (dones (list ++ e ∷ [])) standing on.0) in
    let legal = subst (λ (x : Base). IsLegal x (dones (list ++ e ∷ []))) (sym i.1) (front_legal b (dones (list ++ e ∷ [])) (book_in standing (dones list)) front book) in
    subst (λ (x : Held). IsLegal x.view.base (dones (x.view.list ++ e ∷ []))) (sym s.same) legal

pub invariant_of-self-3 : goal.invariant_of-self-3
invariant_of-self-3 g c =
    let D = g.D.Device in let b = g.J.Naming.base in
    let i = c.self.invariant in
    let s = c.check-at.ensures in
    let h = c.has.ensures in
    let e = c.txn.inside.entry in
    let n = c.enter.ensures in
    let standing = c.self.inside.standing in
    let list = c.self.inside.end.view.list in
    let there = subst (λ (x : Held). slice_get (book_in standing (dones x.view.list)) c.check-at.result ≡ Some e.done) s.same (h.is.0 c.if-not-has.false) in
    let on = entered_on b list e c.check-at.result standing s.stands there i.4 in
    let now = n.list ∙ ap (λ (x : Held). x.view.list ++ e ∷ []) s.same in (
      n.mark.0 ∙ (ap (λ (x : Held). x.mark) s.same ∙ i.0),
      n.end.0.1 ∙ (ap (λ (x : Held). x.view.base) s.same ∙ i.1),
      n.end.0.2 ∙ (ap (λ (x : Held). x.view.book) s.same ∙ i.2),
      n.end.1,
      subst (λ (l : List Entry). KeepsHistory b (dones l) standing) (sym now) on.0,
    )

pub returns-clause-book : goal.returns-clause-book
returns-clause-book g c =
    let D = g.D.Device in let b = g.J.Naming.base in
    let i = c.self.invariant in
    let s = c.check-at.ensures in
    let h = c.has.ensures in
    let e = c.txn.inside.entry in
    let n = c.enter.ensures in
    let standing = c.self.inside.standing in
    let list = c.self.inside.end.view.list in
    let there = subst (λ (x : Held). slice_get (book_in standing (dones x.view.list)) c.check-at.result ≡ Some e.done) s.same (h.is.0 c.if-not-has.false) in
    let on = entered_on b list e c.check-at.result standing s.stands there i.4 in
    let now = n.list ∙ ap (λ (x : Held). x.view.list ++ e ∷ []) s.same in
    ap (λ (l : List Entry). book_in standing (dones l)) now ∙ (on.1 ∙ ap (λ (l : LockedSeen _). l.book) c.self.view_is)

pub returns-clause-entered : goal.returns-clause-entered
returns-clause-entered g c =
    let D = g.D.Device in let b = g.J.Naming.base in
    let i = c.self.invariant in
    let s = c.check-at.ensures in
    let h = c.has.ensures in
    let e = c.txn.inside.entry in
    let n = c.enter.ensures in
    let standing = c.self.inside.standing in
    let list = c.self.inside.end.view.list in
    let there = subst (λ (x : Held). slice_get (book_in standing (dones x.view.list)) c.check-at.result ≡ Some e.done) s.same (h.is.0 c.if-not-has.false) in
    let book = subst (λ (x : Held). IsLegal b (book_in standing (dones x.view.list))) s.same (h.legal c.if-not-has.false) in
    let on = entered_on b list e c.check-at.result standing s.stands there i.4 in
    let front = subst (IsPrefix (dones (list ++ e ∷ []))) on.1 (front_of b (dones (list ++ e ∷ [])) standing on.0) in
    let locked : LockedSeen _ = seen_in standing c.self.inside.end.view c.self.inside.holding c.self.inside.due in
    let old : PassSeen = record { number = c.pass.inside.number; seen = c.pass.inside.seat.view.list } in
    let new : PassSeen = record { number = c.pass.inside.number; seen = c.enter.new.seat.view.list } in
    let seen = n.seen ∙ ap (λ (x : Held). x.view.list ++ e ∷ []) s.same in
    let held : Holds old.number old.seen list = subst (λ (x : ℕ × List Entry). Holds x.0 old.seen x.1) (λ j. (c.pass.invariant.2 j, ap (λ (x : Held). x.view.list) s.same j)) n.others in
    let long : length list + 1 ≡ c.args.place = (let x = s.stands in let y = c.if-at-place.false in let z = c.if-place-eq0.false in omega arith) in
    let at : Entered b locked c.args.place old e new = entered b locked c.args.place old new e held refl seen front book long in
    subst (λ (x : LockedSeen _ × PassSeen × Entry). Entered b x.0 c.args.place x.1 x.2 new) (λ j. (c.self.view_is j, c.pass.view_is j, ap entry_of c.txn.view_is j)) at

pub returns-clause-passes : goal.returns-clause-passes
returns-clause-passes g c =
    let s = c.check-at.ensures in
    let n = c.enter.ensures in
    ap (λ (m : ℕ). m - 1) (n.end.0.0 ∙ ap (λ (x : Held). x.view.made) s.same) ∙ ap (λ (l : LockedSeen _). l.pass_count) c.self.view_is
