use Rattle.std.proofs.Common.{List, ◌∙◌, ap, arith, subst, sym}
use Rattle.mt_mark.specs.Legal.{IsLegal}
use Rattle.mt_mark.specs.Rule.{labelled}
use Rattle.mt_model.specs.declared.history.Committed.{Committed}
use Rattle.mt_model.specs.declared.tables.Base.{Base}
use Rattle.mt_locked.proofs.Keeping.{legal_book}
use Rattle.mt_locked.specs.Began.{BeganOn}
use Rattle.mt_shared.proofs.opened.Opened.new.Goals as goal

pub marked-requires-clause-legal : goal.marked-requires-clause-legal
marked-requires-clause-legal g c = let D = g.D.Device in
    subst (λ (book : List Committed). IsLegal c.args.base.now book) (sym c.book.ensures.book) (legal_book c.args.base.now c.args.kernel c.requires.began)

pub invariant_of-result : goal.invariant_of-result
invariant_of-result g c = let D = g.D.Device in let m = c.in-Ok.ensures in (
  subst (λ (b : Base). BeganOn b c.args.kernel) (sym m.base_is) c.requires.began,
  m.confirmed,
  m.list ∙ ap labelled (sym m.book_is),
  m.book_is ∙ c.book.ensures.book,
  m.seats_are,
  (let many = m.many in let made = m.made in let ok = c.in-Ok.seats.ok in omega arith),
)
