-- The free page of the smallest number.
use Rattle.std.proofs.Common.{◌≡◌, ◌≢◌, ℕ, ◌<◌, ◌≤◌, ◌==◌, false, List, length, take, min, ap, sym, ◌∙◌, arith, get_or}
use Rattle.std.proofs.lemmas.List.{get_or-map, get_or-take, length-take}
use Rattle.std.proofs.lemmas.Bool.{both_ways}
use Rattle.std.proofs.lemmas.Bool.Decides.{Decides-eqb}
use Rattle.std.proofs.lemmas.List.{length-map}
use Rattle.mt_space.specs.Rooms.{mapped, IsFirstFree}

pub record Fresh (kinds : List ℕ) (total q : ℕ) : Type 0 where
  pub free : get_or kinds q 0 ≡ 0
  pub within : q < total
  pub inside : q < length kinds
  pub first : (n : ℕ) → n < q → get_or kinds n 0 ≢ 0

mapped_length : (kinds : List ℕ) (total : ℕ) → length (mapped kinds total) ≡ min total (length kinds)
mapped_length kinds total = length-map (take total kinds) (λ (kind : ℕ). kind == 0) ∙ length-take total kinds

mapped_at : (kinds : List ℕ) (total q : ℕ) → q < total → q < length kinds → get_or (mapped kinds total) q false ≡ (get_or kinds q 0 == 0)
mapped_at kinds total q lt inside =
    get_or-map (λ (kind : ℕ). kind == 0) (take total kinds) q 0 false (omega (arith, lt, inside, length-take total kinds)) ∙ ap (λ (k : ℕ). k == 0) (get_or-take total kinds q 0 lt)

pub fresh : (kinds : List ℕ) (total q : ℕ) → IsFirstFree (mapped kinds total) q → Fresh kinds total q
fresh kinds total q f = record {
  free = (Decides-eqb (get_or kinds q 0) 0).0 (sym (mapped_at kinds total q low high) ∙ f.free);
  within = low;
  inside = high;
  first = λ n lt z. both_ways (get_or kinds n 0 == 0) (sym (mapped_at kinds total n (omega (arith, lt, low)) (omega (arith, lt, high))) ∙ f.first n lt) ((Decides-eqb (get_or kinds n 0) 0).1 z);
}
  where
    low : q < total
    low = omega (arith, f.within, mapped_length kinds total)

    high : q < length kinds
    high = omega (arith, f.within, mapped_length kinds total)

pub none_fresh : (kinds : List ℕ) (total : ℕ) → total ≤ length kinds → ((p : ℕ) → get_or (mapped kinds total) p false ≡ false) → (p : ℕ) → p < total → get_or kinds p 0 ≢ 0
none_fresh kinds total le none p lt z = both_ways (get_or kinds p 0 == 0) (sym (mapped_at kinds total p lt (omega (arith, lt, le))) ∙ none p) ((Decides-eqb (get_or kinds p 0) 0).1 z)
