-- The last call that did something.
use Rattle.std.proofs.Common.{◌≡◌, ℕ, suc, ◌<◌, ◌+◌, Bool, true, false, cond, List, [], ◌∷◌, ◌++◌, Option, Some, None, IfSome, length, take, get_or, refl, ap, sym, ◌∙◌, arith}
use Rattle.std.proofs.lemmas.List.{take_more, length-take-le}
use Rattle.mt_live.specs.Members.{Noted, has_inverse, later, last_place}

later_choice : (b h : Bool) (n : ℕ) (x : Option ℕ) → later (cond b (Some n) x) h ≡ cond b (Some (suc n)) (later x h)
later_choice true h n x = refl
later_choice false h n x = refl

pub last_place-push : (cs : List Noted) (c : Noted) → last_place (cs ++ c ∷ []) ≡ cond (has_inverse c) (Some (length cs)) (last_place cs)
last_place-push [] c = refl
last_place-push (x ∷ cs) c =
    ap (λ w. later w (has_inverse x)) (last_place-push cs c) ∙ later_choice (has_inverse c) (has_inverse x) (length cs) (last_place cs)

length_of_front : (cs : List Noted) (i : ℕ) → i < length cs → length (take i cs) ≡ i
length_of_front cs i h = length-take-le i cs (omega (arith, h))

pub last_place-more : (cs : List Noted) (i : ℕ) (c : Noted) (b : Bool) → i < length cs → c ≡ get_or cs i c → has_inverse c ≡ b
    → last_place (take (i + 1) cs) ≡ cond b (Some i) (last_place (take i cs))
last_place-more cs i c b within there is =
    ap last_place (take_more cs i c within ∙ ap (λ (x : Noted). take i cs ++ x ∷ []) (sym there))
    ∙ (last_place-push (take i cs) c
    ∙ (ap (λ t. cond t (Some (length (take i cs))) (last_place (take i cs))) is
    ∙ ap (λ n. cond b (Some n) (last_place (take i cs))) (length_of_front cs i within)))

pub last_within : (cs : List Noted) → IfSome (last_place cs) (λ n. n < length cs)
last_within [] = tt
last_within (c ∷ cs) = go (last_place cs) (has_inverse c) (last_within cs)
  where
    go : (x : Option ℕ) (b : Bool) → IfSome x (λ n. n < length cs) → IfSome (later x b) (λ n. n < length (c ∷ cs))
    go (Some n) b h = omega (arith, h)
    go None true h = omega arith
    go None false h = tt
