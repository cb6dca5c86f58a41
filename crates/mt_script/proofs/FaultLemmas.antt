-- The first word of a line.
use Rattle.std.proofs.Common.{Bool, arith, not, cond, take, ◌≡◌, ◌≢◌, ◌+◌, ◌==◌, ◌∙◌, ℕ, List, [], ◌∷◌, ◌++◌, refl, ap, inl, inr}
use Rattle.std.specs.List.{prefix_len}
use Rattle.std.proofs.lemmas.Bool.Decides.{eqb_tells}
use Rattle.std.proofs.lemmas.Grind.{common_steps}
use Rattle.std.proofs.lemmas.List.Elements.{All-head, All-tail}
use Rattle.mt_script.specs.LineFaults.{first_word}
use Rattle.mt_script.specs.Lines.{IsUnspaced}

-- a byte that is no space is of the first word
first_more : (b : ℕ) (bs : List ℕ) → b ≢ 32 → first_word (b ∷ bs) ≡ b ∷ first_word bs
first_more b bs other = elim (eqb_tells b 32) [
  | inl e ↦ absurd (other e.1)
  | inr e ↦
      let n = prefix_len (λ x. not (x == 32)) bs in
      let more : take (1 + n) (b ∷ bs) ≡ b ∷ take n bs = grind (arith, common_steps) in
      ap (λ (t : Bool). take (cond (not t) (1 + n) 0) (b ∷ bs)) e.0 ∙ more
]

-- it ends at the first space
pub first_of : (word rest : List ℕ) → IsUnspaced word → first_word (word ++ 32 ∷ rest) ≡ word
first_of [] rest h = refl
first_of (b ∷ bs) rest h =
    first_more b (bs ++ 32 ∷ rest) (All-head (λ b. b ≢ 32) b bs h) ∙ ap (λ (t : List ℕ). b ∷ t) (first_of bs rest (All-tail (λ b. b ≢ 32) b bs h))

-- or with the line
pub first_alone : (line : List ℕ) → IsUnspaced line → first_word line ≡ line
first_alone [] h = refl
first_alone (b ∷ bs) h =
    first_more b bs (All-head (λ b. b ≢ 32) b bs h) ∙ ap (λ (t : List ℕ). b ∷ t) (first_alone bs (All-tail (λ b. b ≢ 32) b bs h))
