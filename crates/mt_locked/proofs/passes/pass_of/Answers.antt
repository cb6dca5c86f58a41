use Rattle.std.proofs.Common.{ℕ, List, ◌≤◌, ◌∙◌, ap, sym, subst}
use Rattle.mt_mark.specs.Rule.{own}
use Rattle.mt_mark.specs.declared.view.Entry.{Entry}
use Rattle.mt_locked.proofs.Counts.{own-labelled}
use Rattle.mt_locked.proofs.passes.pass_of.Goals as goal

pub returns : goal.returns
returns g c =
    let book = g.J.Naming.book in
    let list = c.requires.seat.list ∙ c.requires.list in
    let high = subst (λ (n : ℕ). 1 ≤ n) (sym c.number.ensures) c.requires.seat.above in
    record { seen = list; none = ap (λ (l : List Entry). own c.number.result l) list ∙ own-labelled c.number.result book high }
