use Rattle.std.proofs.Common.{◌≡◌, ◌<◌, ◌-◌, Some, length, slice_get, ap, sym, ◌∙◌, arith}
use Rattle.std.specs.Option.{option_copied}
use Rattle.std.proofs.Math.Nat.{lt_of_not-le}
use Rattle.mt_live.proofs.Behind.{before_first, before_all}
use Rattle.mt_live.proofs.live.first_place.Goals as goal

pub returns-in-Some-checked_sub-clause-before : goal.returns-in-Some-checked_sub-clause-before
returns-in-Some-checked_sub-clause-before c =
    let ms = c.args.transactions.now in let last = c.in-Some.last.now in
    let at : slice_get ms (length ms - 1) ≡ Some last = sym c.last.ensures.value ∙ ap option_copied c.in-Some.is in
    let own = c.get.ensures ∙ c.number.ensures in let other = c.get-2.ensures in let outcome = c.in-Some-checked_sub.ensures in
    let below = outcome.0 in let gap = outcome.1 in
    before_first ms c.args.txn c.requires last at c.in-Some-checked_sub.behind c.saturating_sub.result (omega (arith, own, other, below)) (omega (arith, own, other, gap)) c.saturating_sub.ensures

pub returns-in-None-clause-before : goal.returns-in-None-clause-before
returns-in-None-clause-before c =
    let ms = c.args.transactions.now in let last = c.in-Some.last.now in
    let at : slice_get ms (length ms - 1) ≡ Some last = sym c.last.ensures.value ∙ ap option_copied c.in-Some.is in
    let own = c.get.ensures ∙ c.number.ensures in let other = c.get-2.ensures in
    let past : c.get.result < c.get-2.result = lt_of_not-le c.in-None.ensures in
    before_all ms c.args.txn c.requires last at (omega (arith, own, other, past))
