-- How many pages of a list are free.
use Rattle.std.proofs.Common.{◌≡◌, ◌≢◌, ◌<◌, ◌≤◌, ◌+◌, ◌==◌, ℕ, zero, suc, Bool, false, cond, List, [], ◌∷◌, length, length-set, get_or, set, get_or-set_same, get_or-set_other, refl, sym, ◌∙◌, ap, arith, ⊎_elim}
use Rattle.std.proofs.lemmas.Bool.{cases_eq, cases_lt, eq-eqb, ne_eqb}
use Rattle.std.proofs.lemmas.List.{get_or_past}
use Rattle.std.proofs.lemmas.List.Sums.{sum_by-cons}
use Rattle.mt_space.specs.Rooms.{free_in, mapped}

-- one for a free page
one_if : Bool → ℕ
one_if b = cond b 1 0

-- where no page is free there are none
pub none_free : (pages : List Bool) → ((p : ℕ) → p < length pages → get_or pages p false ≡ false) → free_in pages ≡ 0
unfolding one_if
none_free [] all = refl
none_free (x ∷ pages) all =
    let parts : free_in (x ∷ pages) ≡ one_if x + free_in pages = sum_by-cons one_if x pages in
    let first : one_if x ≡ 0 = ap one_if (all 0 (omega arith)) in
    let rest : free_in pages ≡ 0 = none_free pages (λ p lt. all (suc p) (omega (arith, lt))) in
    omega (arith, parts, first, rest)

-- ---- by the bytes of a map

-- one more page
more : (k : ℕ) (kinds : List ℕ) (total : ℕ) → free_in (mapped (k ∷ kinds) (suc total)) ≡ one_if (k == 0) + free_in (mapped kinds total)
unfolding one_if
more k kinds total = sum_by-cons one_if (k == 0) (mapped kinds total)

if_free : (k : ℕ) → k ≡ 0 → one_if (k == 0) ≡ 1
unfolding one_if
if_free k free = ap one_if (eq-eqb k 0 free)

if_taken : (k : ℕ) → k ≢ 0 → one_if (k == 0) ≡ 0
unfolding one_if
if_taken k some = ap one_if (ne_eqb k 0 some)

at_most_one : (k : ℕ) → one_if (k == 0) ≤ 1
at_most_one k = ⊎_elim
    (λ (free : k ≡ 0). let one = if_free k free in omega (arith, one))
    (λ (some : k ≢ 0). let none = if_taken k some in omega (arith, none))
    (cases_eq k 0)

no_fewer : (k n : ℕ) → (k ≡ 0 → n ≡ 0) → one_if (k == 0) ≤ one_if (n == 0)
no_fewer k n still = ⊎_elim
    (λ (free : k ≡ 0). let old = if_free k free in let new = if_free n (still free) in omega (arith, old, new))
    (λ (some : k ≢ 0). let none = if_taken k some in omega (arith, none))
    (cases_eq k 0)

-- where no page is free there are none, and where only one can be there is one at most
pub none_mapped : (kinds : List ℕ) (total : ℕ) → length kinds ≡ 4096 → total ≤ 4096 → ((p : ℕ) → p < total → get_or kinds p 0 ≢ 0) → free_in (mapped kinds total) ≡ 0
none_mapped kinds total whole few all = none kinds total (omega (arith, whole, few)) all
  where
    none : (kinds : List ℕ) (total : ℕ) → total ≤ length kinds → ((p : ℕ) → p < total → get_or kinds p 0 ≢ 0) → free_in (mapped kinds total) ≡ 0
    none [] zero few all = refl
    none [] (suc total) few all = absurd (omega (arith, few))
    none (k ∷ kinds) zero few all = refl
    none (k ∷ kinds) (suc total) few all =
        let parts = more k kinds total in
        let first = if_taken k (all 0 (omega arith)) in
        let rest = none kinds total (omega (arith, few)) (λ p lt. all (suc p) (omega (arith, lt))) in
        omega (arith, parts, first, rest)

-- pages that stay free are no fewer then
pub free_stay : (old new : List ℕ) (total : ℕ) → length new ≡ length old → ((p : ℕ) → get_or old p 0 ≡ 0 → get_or new p 0 ≡ 0) → free_in (mapped old total) ≤ free_in (mapped new total)
free_stay [] new zero same all = omega arith
free_stay [] new (suc total) same all = omega arith
free_stay (k ∷ old) [] total same all = absurd (omega (arith, same))
free_stay (k ∷ old) (n ∷ new) zero same all = omega arith
free_stay (k ∷ old) (n ∷ new) (suc total) same all =
    let before = more k old total in
    let after = more n new total in
    let first = no_fewer k n (all 0) in
    let rest = free_stay old new total (omega (arith, same)) (λ p. all (suc p)) in
    omega (arith, before, after, first, rest)

-- but for one page, one at most is gone
pub free_but_one : (old new : List ℕ) (total q : ℕ) → length new ≡ length old → ((p : ℕ) → p ≢ q → get_or old p 0 ≡ 0 → get_or new p 0 ≡ 0) → free_in (mapped old total) ≤ free_in (mapped new total) + 1
free_but_one [] new zero q same all = omega arith
free_but_one [] new (suc total) q same all = omega arith
free_but_one (k ∷ old) [] total q same all = absurd (omega (arith, same))
free_but_one (k ∷ old) (n ∷ new) zero q same all = omega arith
free_but_one (k ∷ old) (n ∷ new) (suc total) zero same all =
    let before = more k old total in
    let after = more n new total in
    let first = at_most_one k in
    let rest = free_stay old new total (omega (arith, same)) (λ p. all (suc p) (omega arith)) in
    omega (arith, before, after, first, rest)
free_but_one (k ∷ old) (n ∷ new) (suc total) (suc q) same all =
    let before = more k old total in
    let after = more n new total in
    let first = no_fewer k n (all 0 (omega arith)) in
    let rest = free_but_one old new total q (omega (arith, same)) (λ p ne. all (suc p) (omega (arith, ne))) in
    omega (arith, before, after, first, rest)

-- and but for two, two
pub free_but_two : (old new : List ℕ) (total q r : ℕ) → length new ≡ length old → ((p : ℕ) → p ≢ q → p ≢ r → get_or old p 0 ≡ 0 → get_or new p 0 ≡ 0) → free_in (mapped old total) ≤ free_in (mapped new total) + 2
free_but_two old new total q r same all =
    let first = free_but_one old mid total q (length-set new r 0 ∙ same) (λ p ne free. ⊎_elim (λ (here : p ≡ r). ap (λ (x : ℕ). get_or mid x 0) here ∙ freed) (λ (other : p ≢ r). kept p other ∙ all p ne other free) (cases_eq p r)) in
    let second = free_but_one mid new total r (sym (length-set new r 0)) (λ p ne free. sym (kept p ne) ∙ free) in
    omega (arith, first, second)
  where
    mid : List ℕ
    mid = set new r 0

    freed : get_or mid r 0 ≡ 0
    freed = ⊎_elim
        (λ (lt : r < length new). get_or-set_same new r 0 0 lt)
        (λ (past : length new ≤ r). get_or_past mid r 0 (omega (arith, past, length-set new r 0)))
        (cases_lt r (length new))

    kept : (p : ℕ) → p ≢ r → get_or mid p 0 ≡ get_or new p 0
    kept p ne = get_or-set_other new r p 0 0 ne

-- all pages but one are taken
pub one_mapped : (kinds : List ℕ) (total q : ℕ) → length kinds ≡ 4096 → total ≤ 4096 → q < 4096 → ((p : ℕ) → p < total → p ≢ q → get_or kinds p 0 ≢ 0) → free_in (mapped kinds total) ≤ 1
one_mapped kinds total q whole few inside all =
    let here : get_or taken q 0 ≡ 1 = get_or-set_same kinds q 1 0 (omega (arith, whole, inside)) in
    let none = none_mapped taken total (length-set kinds q 1 ∙ whole) few (λ p lt free. ⊎_elim
    (λ (same : p ≡ q). let k : get_or taken p 0 ≡ get_or taken q 0 = ap (λ (x : ℕ). get_or taken x 0) same in let z : get_or taken p 0 ≡ 0 = free in omega (arith, here, k, z))
    (λ (ne : p ≢ q). all p lt ne (sym (get_or-set_other kinds q p 1 0 ne) ∙ free))
    (cases_eq p q)) in
    let most = free_but_one kinds taken total q (length-set kinds q 1) (λ p ne free. get_or-set_other kinds q p 1 0 ne ∙ free) in
    omega (arith, none, most)
  where
    taken : List ℕ
    taken = set kinds q 1
