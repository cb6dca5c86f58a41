use Rattle.std.proofs.Common.{◌+◌, ◌∙◌, ◌∷◌, [], ℕ, List, length, get_or, sym, ap, subst}
use Rattle.std.proofs.lemmas.List.{length-append}
use Rattle.mt_format.specs.Formats.{IsFirstPage}
use Rattle.mt_format.proofs.Formed.{first_pushed}
use Rattle.mt_format.proofs.first_pages.first_pages.Goals as goal

pub loop-number-preserved : goal.loop-number-preserved
loop-number-preserved c =
    let s = c.args.schema.now in
    let inv = c.loop-number.invariant in
    let items = c.loop-number.pages.items in
    let page = c.page_of.result in
    let is = c.in_ok-push.ensures.items in
    record {
      count = ap (λ (xs : List (List ℕ)). length xs) is ∙ length-append items (page ∷ []) ∙ ap (λ (n : ℕ). n + 1) inv.count;
      each = λ p lt. subst (λ (xs : List (List ℕ)). IsFirstPage s p (get_or xs p [])) (sym is) (first_pushed s c.loop-number.number page items inv.count c.page_of.ensures inv.each p lt);
    }
