-- The first counter that is outside its limits, and the texts of numbers that are.
use Rattle.std.proofs.Common.{◌≡◌, ◌∙◌, ◌<◌, ℕ, ℤ, Bool, true, false, cond, codes, List, [], ◌∷◌, length, drop, get_or, suc, ap, sym}
use Rattle.std.proofs.Math.Seq.{drop-cons}
use Rattle.std.specs.Fmt.{decimal, signed_decimal}
use Rattle.std.specs.List.{concat}
use Rattle.mt_report.specs.declared.excess.Excess.TheVariants.{Counter}
use Rattle.mt_report.specs.Excess.{counter_excess, counter_excess_text, is_counter, outside_text}

module _ (counters : List (ℤ × ℤ × ℤ)) (place : ℕ) (d : ℤ × ℤ × ℤ) (lt : place < length counters) where
  abbrev pub here : ℤ × ℤ × ℤ
  here = get_or counters place d

  at_here : counter_excess (drop place counters) ≡ cond (is_counter here.0 here.1 here.2) (counter_excess (drop (suc place) counters)) (Counter here.0 here.1 here.2)
  at_here = ap counter_excess (drop-cons counters place d lt)

  -- it is the one at this place
  pub found : is_counter here.0 here.1 here.2 ≡ false → counter_excess (drop place counters) ≡ Counter here.0 here.1 here.2
  found is = at_here ∙ ap (λ (t : Bool). cond t (counter_excess (drop (suc place) counters)) (Counter here.0 here.1 here.2)) is

  -- it comes later
  pub passed : is_counter here.0 here.1 here.2 ≡ true → counter_excess (drop (suc place) counters) ≡ counter_excess (drop place counters)
  passed is = sym (at_here ∙ ap (λ (t : Bool). cond t (counter_excess (drop (suc place) counters)) (Counter here.0 here.1 here.2)) is)

-- pieces that are these
pub outside_same : (a b c name limits : List ℕ) (number : ℕ) → a ≡ name → b ≡ decimal number → c ≡ limits
    → concat (a ∷ codes " is " ∷ b ∷ codes ": it must be " ∷ c ∷ []) ≡ outside_text name number limits
outside_same a b c name limits number p q r = λ i. concat (p i ∷ codes " is " ∷ q i ∷ codes ": it must be " ∷ r i ∷ [])

pub counter_same : (a b c : List ℕ) (low high start : ℤ) → a ≡ signed_decimal low → b ≡ signed_decimal high → c ≡ signed_decimal start
    → concat (codes "COUNTER c" ∷ a ∷ codes ":" ∷ b ∷ codes ":" ∷ c ∷ codes ": it must be LOW <= START <= HIGH, from -1000000000000000 to 1000000000000000" ∷ []) ≡ counter_excess_text low high start
counter_same a b c low high start p q r =
    λ i. concat (codes "COUNTER c" ∷ p i ∷ codes ":" ∷ q i ∷ codes ":" ∷ r i ∷ codes ": it must be LOW <= START <= HIGH, from -1000000000000000 to 1000000000000000" ∷ [])
