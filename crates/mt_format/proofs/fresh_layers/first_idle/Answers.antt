use Rattle.std.proofs.Common.{◌≡◌, ◌∙◌, ℕ, List, length, sym, ap, subst}
use Rattle.std.specs.Prelude.{IfOk}
use Rattle.mt_space.specs.PageLists.{bytes_of}
use Rattle.mt_steps.proofs.Formatting.{formatted_good}
use Rattle.mt_steps.specs.Plans.{IsGood}
use Rattle.mt_op.specs.Begun.{FitsPages}
use Rattle.mt_format.specs.Formats.{AreFirstPages}
use Rattle.mt_format.specs.Schemas.{pages_in, relations_in, counters_in}
use Rattle.mt_format.proofs.Formed.{first_formatted}
use Rattle.mt_format.proofs.Idled as idled
use Rattle.mt_format.proofs.fresh_layers.first_idle.Goals as goal

pub of-requires-clause-good : goal.of-requires-clause-good
of-requires-clause-good c =
    let s = c.args.schema.now in
    let e = c.in_ok-pages.ensures in
    let pages = c.as_slice.result.now in
    let is = c.as_slice.ensures.value in
    let count : length pages ≡ pages_in s = ap (λ (xs : List (List ℕ)). length xs) is ∙ e.count in
    let each = subst (λ (xs : List (List ℕ)). AreFirstPages s (bytes_of xs)) (sym is) e.each in
    ∣ (relations_in s, length (counters_in s), subst (λ (n : ℕ). IsGood (relations_in s) (length (counters_in s)) n (bytes_of pages)) (sym count) (formatted_good (relations_in s) (length (counters_in s)) (pages_in s) (bytes_of pages) (first_formatted s (bytes_of pages) each))) ∣₁

pub returns-clause-idle : goal.returns-clause-idle
returns-clause-idle c =
    let s = c.args.schema.now in
    let e = c.in_ok-pages.ensures in
    let pages = c.as_slice.result.now in
    let is = c.as_slice.ensures.value in
    let count : length pages ≡ pages_in s = ap (λ (xs : List (List ℕ)). length xs) is ∙ e.count in
    let each = subst (λ (xs : List (List ℕ)). AreFirstPages s (bytes_of xs)) (sym is) e.each in
    idled.first_idle s (bytes_of pages) c.of.result (first_formatted s (bytes_of pages) each)
    (subst (λ (n : ℕ). IfOk c.of.result (FitsPages n (bytes_of pages))) count c.of.ensures.fits) c.of.ensures.claimed
