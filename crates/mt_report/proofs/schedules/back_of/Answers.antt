use Rattle.std.proofs.Common.{arith, ◌≢◌, ◌<◌, ◌^◌, ◌≡◌, ℕ, sym, ◌∙◌}
use Rattle.std.proofs.lemmas.Fmt.{decimal_injective}
use Rattle.std.proofs.lemmas.Int.{ints}
use Rattle.std.specs.Fmt.{decimal}
use Rattle.mt_script.proofs.LineLemmas.{decimal_unspaced, same_cut}
use Rattle.mt_report.proofs.EventLemmas.{back_spaced, no_back}
use Rattle.mt_report.proofs.schedules.back_of.Goals as goal

pub returns-in_default : goal.returns-in_default
returns-in_default c = no_back c.args.words.now (λ t n e wide within. back_spaced c.args.words.now c.in_default.ensures.none t n e)

pub returns-in_default-2 : goal.returns-in_default-2
returns-in_default-2 c =
    let none : (n : ℕ) → n < 2 ^ 64 → c.in-Some.word.now ≢ decimal n = rw c.in_default-2.is at c.in_ok-txn.ensures in
    let found = c.in-Some.ensures.found in
    no_back c.args.words.now (λ t n e wide within.
    none t wide (same_cut 32 c.in-Some.word.now (decimal t) c.in-Some.rest.now (decimal n) found.1 (decimal_unspaced t wide) (sym found.0 ∙ e)).0)

pub returns-in_default-3 : goal.returns-in_default-3
returns-in_default-3 c =
    let none : (n : ℕ) → n < 2 ^ 64 → c.in-Some.rest.now ≢ decimal n = rw c.in_default-3.is at c.in_ok-count.ensures in
    let found = c.in-Some.ensures.found in
    no_back c.args.words.now (λ t n e wide within.
    none n (omega (arith, within)) (same_cut 32 c.in-Some.word.now (decimal t) c.in-Some.rest.now (decimal n) found.1 (decimal_unspaced t wide) (sym found.0 ∙ e)).1)

pub returns-in-Err : goal.returns-in-Err
returns-in-Err c =
    let found = c.in-Some.ensures.found in
    let is : c.in-Some.rest.now ≡ decimal c.in-Some-3.count = rw c.in-Some-3.is at c.in_ok-count.ensures in
    no_back c.args.words.now (λ t n e wide within.
    let spelled : decimal c.in-Some-3.count ≡ decimal n = sym is ∙ (same_cut 32 c.in-Some.word.now (decimal t) c.in-Some.rest.now (decimal n) found.1 (decimal_unspaced t wide) (sym found.0 ∙ e)).1 in
    let same : c.in-Some-3.count ≡ n = decimal_injective c.in-Some-3.count n (omega arith) (omega (arith, within)) spelled in
    c.in-Err.ensures (omega (arith, ints, within, same)))
