-- What keeps the space map.
use Rattle.std.proofs.Common.{◌≡◌, ◌≢◌, ◌<◌, ◌⊎◌, inl, inr, ⊎_elim, ℕ, List, sym, ◌∙◌, subst, arith}
use Rattle.std.proofs.lemmas.Bool.{cases_eq}
use Rattle.mt_space.specs.Kinds.{kind, CanBe, IsMap}

-- no page changes its kind
pub map_same : (total : ℕ) (pages pages2 : ℕ → List ℕ) → IsMap total pages → ((p : ℕ) → kind pages2 p ≡ kind pages p) → IsMap total pages2
map_same total pages pages2 map same p = subst (CanBe total p) (sym (same p)) (map p)

-- one page does, that is no fixed one
pub map_but : (total : ℕ) (pages pages2 : ℕ → List ℕ) (p : ℕ) → IsMap total pages → p < total → (kind pages p ≡ 3) ⊎ (kind pages p ≡ 0) → (kind pages2 p ≡ 3) ⊎ (kind pages2 p ≡ 0)
    → ((q : ℕ) → q ≢ p → kind pages2 q ≡ kind pages q) → IsMap total pages2
map_but total pages pages2 p map inside was own same q = ⊎_elim
    (λ (e : q ≡ p). subst (λ (x : ℕ). CanBe total x (kind pages2 x)) (sym e) here)
    (λ (ne : q ≢ p). subst (CanBe total q) (sym (same q ne)) (map q))
    (cases_eq q p)
  where
    free : kind pages p ≢ 1
    free one = ⊎_elim (λ (three : kind pages p ≡ 3). omega (arith, one, three)) (λ (zero : kind pages p ≡ 0). omega (arith, one, zero)) was

    here : CanBe total p (kind pages2 p)
    here = record {
      fixed = λ low. absurd (free ((map p).fixed low));
      taken = λ high. ⊎_elim (λ (three : kind pages2 p ≡ 3). inr (inr three)) (λ (zero : kind pages2 p ≡ 0). inl zero) own;
      within = λ some. inside;
    }

-- free pages become bucket pages
pub map_taken : (total : ℕ) (pages pages2 : ℕ → List ℕ) → IsMap total pages → ((p : ℕ) → kind pages p ≢ 0 → kind pages2 p ≡ kind pages p)
    → ((p : ℕ) → kind pages p ≡ 0 → kind pages2 p ≢ 0 → (kind pages2 p ≡ 2) × (p < total)) → IsMap total pages2
map_taken total pages pages2 map kinds taken p = ⊎_elim
    (λ (free : kind pages p ≡ 0). ⊎_elim
    (λ (still : kind pages2 p ≡ 0). subst (CanBe total p) (free ∙ sym still) (map p))
    (λ (ne : kind pages2 p ≢ 0). let t = taken p free ne in record {
      fixed = λ low. absurd (let one : kind pages p ≡ 1 = (map p).fixed low in omega (arith, free, one));
      taken = λ high. inr (inl t.0);
      within = λ some. t.1;
    })
    (cases_eq (kind pages2 p) 0))
    (λ (some : kind pages p ≢ 0). subst (CanBe total p) (sym (kinds p some)) (map p))
    (cases_eq (kind pages p) 0)
