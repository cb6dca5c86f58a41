use Rattle.std.proofs.Common.{◌≡◌, ◌≢◌, ◌<◌, ◌≤◌, ◌∙◌, ⊎_elim, ℕ, ◌==◌, true, false, get_or, length, sym, ap, subst, arith}
use Rattle.std.proofs.lemmas.Bool.{cases_lt, cases_eq}
use Rattle.std.proofs.lemmas.Bool.Decides.{nat_tests}
use Rattle.mt_space.specs.Rooms.{mapped, IsFirstFree}
use Rattle.mt_space.proofs.Maps.{mapped_at, mapped_past, mapped_long, mapped_length}
use Rattle.mt_space.proofs.map.first_free.Goals as goal

is_zero : (n : ℕ) → n ≡ 0 → (n == 0) ≡ true
is_zero n is = grind (arith, nat_tests)

not_zero : (n : ℕ) → n ≢ 0 → (n == 0) ≡ false
not_zero n ne = grind (arith, nat_tests)

pub returns-then-map-from-eq-FREE-clause-first : goal.returns-then-map-from-eq-FREE-clause-first
returns-then-map-from-eq-FREE-clause-first c =
    let map = c.args.map.now in
    let p = c.loop-page.page in
    let end = c.min-page-end.ensures in
    let below = c.loop-page-test.true in
    let whole = c.requires.map in
    let few : p < c.args.pages = omega arith in
    let lt : p < length map = omega arith in
    let zero : get_or map p 0 ≡ 0 = ap (λ (i : ℕ). get_or map i 0) (sym c.from.ensures) ∙ c.if-map-from-eq-FREE.true in
    subst (λ (q : ℕ). IsFirstFree (mapped map c.args.pages) q) (sym c.new.ensures) (record {
      within = mapped_length map c.args.pages p few lt;
      free = mapped_at map c.args.pages p few lt ∙ is_zero (get_or map p 0) zero;
      first = c.loop-page.invariant;
    })

pub loop-page-preserved : goal.loop-page-preserved
loop-page-preserved c = λ q below.
    let map = c.args.map.now in
    let p = c.loop-page.page in
    let end = c.min-page-end.ensures in
    let test = c.loop-page-test.true in
    let whole = c.requires.map in
    let few : p < c.args.pages = omega arith in
    let lt : p < length map = omega arith in
    let some : get_or map p 0 ≢ 0 = λ is. c.if-map-from-eq-FREE.false (ap (λ (i : ℕ). get_or map i 0) c.from.ensures ∙ is) in
    ⊎_elim
    (λ (same : q ≡ p). ap (λ (i : ℕ). get_or (mapped map c.args.pages) i false) same ∙ mapped_at map c.args.pages p few lt ∙ not_zero (get_or map p 0) some)
    (λ (other : q ≢ p). c.loop-page.invariant q (omega arith))
    (cases_eq q p)

pub returns-clause-none : goal.returns-clause-none
returns-clause-none c = λ q.
    let map = c.args.map.now in
    let end = c.min-page-end.ensures in
    let over = c.loop-page-test.false in
    let whole = c.requires.map in
    ⊎_elim
    (λ (below : q < c.loop-page.page). c.loop-page.invariant q below)
    (λ (above : c.loop-page.page ≤ q). ⊎_elim
    (λ (few : q < c.args.pages). mapped_long map c.args.pages q (omega arith))
    (λ (past : c.args.pages ≤ q). mapped_past map c.args.pages q past)
    (cases_lt q c.args.pages))
    (cases_lt q c.loop-page.page)
