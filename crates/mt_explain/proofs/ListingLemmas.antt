-- What a writer holds after several lines.
use Rattle.std.proofs.Common.{◌≡◌, ◌+◌, ◌<◌, arith, suc, zero, ℕ, List, [], ◌∷◌, ◌++◌, Option, length, take, drop, get_or, ap, sym, ◌∙◌, append_assoc, append-nil}
use Rattle.std.specs.Io.KnownBytes.{Appends}
use Rattle.std.proofs.KnownBytes.{Appends-trans}
use Rattle.mt_script.specs.Answers.{AppendsFront}
use Rattle.mt_explain.specs.Listings.{numbered}

-- a beginning of the last part
pub front_next : (a b c : Option (List ℕ)) (xs ys : List ℕ) → Appends a b xs → AppendsFront b c ys → AppendsFront a c (xs ++ ys)
front_next a b c xs ys p q = (xs ++ q.0, q.1, ap (λ t. xs ++ t) q.2 ∙ sym (append_assoc xs q.0 q.1), Appends-trans a b c xs q.0 p q.3)

module _ {X : Type 0} (text : ℕ → X → List ℕ) where
  about : (n : ℕ) (xs : List X) (i : ℕ) (d : X) → i < length xs → numbered text n xs ≡ (numbered text n (take i xs) ++ text (n + i) (get_or xs i d)) ++ numbered text (n + (i + 1)) (drop (suc i) xs)
  about n [] i d lt = absurd (omega arith)
  about n (x ∷ xs) zero d lt = let same : n ≡ n + 0 = omega arith in ap (λ k. text k x ++ numbered text (n + 1) xs) same
  about n (x ∷ xs) (suc i) d lt =
      let rest = about (n + 1) xs i d (omega arith) in
      let here : (n + 1) + i ≡ n + suc i = omega arith in
      let next : (n + 1) + (i + 1) ≡ n + (suc i + 1) = omega arith in
      let line = text n x in
      let before = numbered text (n + 1) (take i xs) in
      let one = text (n + suc i) (get_or xs i d) in
      let behind = numbered text (n + (suc i + 1)) (drop (suc i) xs) in
      ap (λ t. line ++ t) (rest ∙ ap (λ k. (before ++ text k (get_or xs i d)) ++ numbered text ((n + 1) + (i + 1)) (drop (suc i) xs)) here ∙ ap (λ k. (before ++ one) ++ numbered text k (drop (suc i) xs)) next)
      ∙ sym (append_assoc line (before ++ one) behind) ∙ ap (λ t. t ++ behind) (sym (append_assoc line before one))

  more : (n : ℕ) (xs : List X) (i : ℕ) (d : X) → i < length xs → numbered text n (take (suc i) xs) ≡ numbered text n (take i xs) ++ text (n + i) (get_or xs i d)
  more n [] i d lt = absurd (omega arith)
  more n (x ∷ xs) zero d lt = let same : n ≡ n + 0 = omega arith in append-nil (text n x) ∙ ap (λ k. text k x) same
  more n (x ∷ xs) (suc i) d lt =
      let here : (n + 1) + i ≡ n + suc i = omega arith in
      let line = text n x in
      let before = numbered text (n + 1) (take i xs) in
      ap (λ t. line ++ t) (more (n + 1) xs i d (omega arith) ∙ ap (λ k. before ++ text k (get_or xs i d)) here) ∙ sym (append_assoc line before (text (n + suc i) (get_or xs i d)))

  -- the texts up to one of this number, and from it on
  pub numbered_about : (n : ℕ) (xs : List X) (i k : ℕ) (d : X) → i < length xs → k ≡ n + i → numbered text n xs ≡ (numbered text n (take i xs) ++ text k (get_or xs i d)) ++ numbered text (n + (i + 1)) (drop (suc i) xs)
  numbered_about n xs i k d lt is = about n xs i d lt ∙ ap (λ j. (numbered text n (take i xs) ++ text j (get_or xs i d)) ++ numbered text (n + (i + 1)) (drop (suc i) xs)) (sym is)

  -- one after those before a place
  pub numbered_more : (n : ℕ) (xs : List X) (i k : ℕ) (d : X) → i < length xs → k ≡ n + i → numbered text n (take (suc i) xs) ≡ numbered text n (take i xs) ++ text k (get_or xs i d)
  numbered_more n xs i k d lt is = more n xs i d lt ∙ ap (λ j. numbered text n (take i xs) ++ text j (get_or xs i d)) (sym is)
