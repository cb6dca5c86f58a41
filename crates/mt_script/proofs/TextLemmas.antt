-- What a writer holds after several writes, one of which may have failed.
use Rattle.std.proofs.Common.{◌≡◌, ◌+◌, ◌-◌, ◌<◌, ◌≤◌, arith, length-drop, suc, ℕ, List, [], ◌∷◌, ◌++◌, Option, Some, None, length, take, drop, get_or, map, refl, ap, sym, subst, ◌∙◌, append_assoc, append-nil, take-append-drop, Bor}
use Rattle.std.specs.List.{concat}
use Rattle.std.specs.Io.KnownBytes.{Appends, Keeps}
use Rattle.std.proofs.KnownBytes.{Appends-nil, Appends-trans}
use Rattle.std.proofs.Math.Seq.{take-add, take-suc, take-length, drop-cons}
use Rattle.std.specs.Fmt.{decimal}
use Rattle.std.proofs.Common.{codes}
use Rattle.mt_base.specs.Refusal.{number_of, name_of, place_of, text_of}
use Rattle.mt_base.specs.declared.refusal.Refusal.{Refusal}
use Rattle.mt_base.specs.declared.refusal.Refusal.TheVariants.{BadFormat, BadLine}
use Rattle.mt_script.specs.Answers.{AppendsFront}

pub appends_nothing : (a : Option (List ℕ)) (bytes : List ℕ) → Appends a a (take 0 bytes)
appends_nothing a bytes = Appends-nil a

pub appends_kept : (a b c : Option (List ℕ)) (bytes : List ℕ) → Appends a b bytes → Keeps b c → Appends a c bytes
appends_kept None b c bytes p q = tt
appends_kept (Some x) None c bytes p q = absurd p
appends_kept (Some x) (Some y) None bytes p q = absurd q
appends_kept (Some x) (Some y) (Some z) bytes p q = q ∙ p

rest_from : (bytes : List ℕ) (i : ℕ) → take (length bytes - i) (drop i bytes) ≡ drop i bytes
rest_from bytes i = ap (λ k. take k (drop i bytes)) (sym (length-drop i bytes)) ∙ take-length (drop i bytes)

pub left_over : (bytes : List ℕ) (i n : ℕ) → i ≤ length bytes → n ≤ length (take (length bytes - i) (drop i bytes)) → i + n ≤ length bytes
left_over bytes i n within h =
    let same : length (take (length bytes - i) (drop i bytes)) ≡ length (drop i bytes) = ap length (rest_from bytes i) in
    omega (arith, length-drop i bytes)

-- the next bytes, after those up to a place
pub appends_more : (a b c : Option (List ℕ)) (bytes : List ℕ) (i n : ℕ) → Appends a b (take i bytes) → Appends b c (take n (take (length bytes - i) (drop i bytes))) → Appends a c (take (i + n) bytes)
appends_more a b c bytes i n p q =
    let next : Appends b c (take n (drop i bytes)) = subst (λ t. Appends b c (take n t)) (rest_from bytes i) q in
    subst (Appends a c) (sym (take-add i n bytes)) (Appends-trans a b c (take i bytes) (take n (drop i bytes)) p next)

pub front_to : (a b : Option (List ℕ)) (bytes : List ℕ) (i : ℕ) → Appends a b (take i bytes) → AppendsFront a b bytes
front_to a b bytes i p = (take i bytes, drop i bytes, sym (take-append-drop i bytes), p)

-- a beginning of what follows
pub front_then : (a b c : Option (List ℕ)) (xs ys zs : List ℕ) → Appends a b xs → AppendsFront b c ys → AppendsFront a c (xs ++ (ys ++ zs))
front_then a b c xs ys zs p q =
    (xs ++ q.0, q.1 ++ zs, ap (λ t. xs ++ (t ++ zs)) q.2 ∙ ap (λ t. xs ++ t) (append_assoc q.0 q.1 zs) ∙ sym (append_assoc xs q.0 (q.1 ++ zs)), Appends-trans a b c xs q.0 p q.3)

pub front_whole : (a b : Option (List ℕ)) (xs ys : List ℕ) → AppendsFront a b xs → AppendsFront a b (xs ++ ys)
front_whole a b xs ys q = (q.0, q.1 ++ ys, ap (λ t. t ++ ys) q.2 ∙ append_assoc q.0 q.1 ys, q.3)

-- the bytes of several, one after the other
module _ {X : Type 0} (bytes_of : X → List ℕ) where
  abbrev pub all_bytes : List X → List ℕ
  all_bytes xs = concat (map bytes_of xs)

  pub all-append : (xs ys : List X) → all_bytes (xs ++ ys) ≡ all_bytes xs ++ all_bytes ys
  all-append [] ys = refl
  all-append (x ∷ xs) ys = ap (λ t. bytes_of x ++ t) (all-append xs ys) ∙ sym (append_assoc (bytes_of x) (all_bytes xs) (all_bytes ys))

  -- one after those before a place
  pub all_more : (xs : List X) (i : ℕ) (d : X) → i < length xs → all_bytes (take (suc i) xs) ≡ all_bytes (take i xs) ++ bytes_of (get_or xs i d)
  all_more xs i d h =
      ap all_bytes (take-suc xs i d h) ∙ all-append (take i xs) (get_or xs i d ∷ []) ∙ ap (λ t. all_bytes (take i xs) ++ t) (append-nil (bytes_of (get_or xs i d)))

  pub all_about : (xs : List X) (i : ℕ) (d : X) → i < length xs → all_bytes xs ≡ all_bytes (take i xs) ++ (bytes_of (get_or xs i d) ++ all_bytes (drop (suc i) xs))
  all_about xs i d h =
      ap all_bytes (sym (take-append-drop i xs)) ∙ all-append (take i xs) (drop i xs) ∙ ap (λ t. all_bytes (take i xs) ++ all_bytes t) (drop-cons xs i d h)

-- the bytes of pieces
abbrev pub joined : List (Bor (List ℕ)) → List ℕ
joined pieces = all_bytes (λ p. p.now) pieces

pub no_place : (r : Refusal) → ((p : ℕ) → r ≡ BadFormat p → ⊥) → ((p : ℕ) → r ≡ BadLine p → ⊥) → place_of r ≡ []
no_place (BadFormat p) f l = absurd (f p refl)
no_place (BadLine p) f l = absurd (l p refl)
no_place _ f l = refl

-- a refusal's line, without and with its place
pub refusal_line : (r : Refusal) (d n : List ℕ) → d ≡ decimal (number_of r) → n ≡ name_of r → place_of r ≡ [] → codes "refused " ++ (d ++ (32 ∷ (n ++ (10 ∷ [])))) ≡ text_of r ++ 10 ∷ []
refusal_line r d n e f g =
    let D = decimal (number_of r) in
    let N = name_of r in
    let front = (codes "refused " ++ D) ++ (32 ∷ N) in
    ap (λ x. codes "refused " ++ (x ++ (32 ∷ (n ++ (10 ∷ []))))) e ∙ ap (λ x. codes "refused " ++ (D ++ (32 ∷ (x ++ (10 ∷ []))))) f
    ∙ sym (ap (λ p. (front ++ p) ++ (10 ∷ [])) g ∙ ap (λ t. t ++ (10 ∷ [])) (append-nil front) ∙ append_assoc (codes "refused " ++ D) (32 ∷ N) (10 ∷ []) ∙ append_assoc (codes "refused ") D (32 ∷ (N ++ (10 ∷ []))))

pub placed_line : (r : Refusal) (d n p : List ℕ) → d ≡ decimal (number_of r) → n ≡ name_of r → place_of r ≡ 32 ∷ p
    → codes "refused " ++ (d ++ (32 ∷ (n ++ (32 ∷ (p ++ (10 ∷ [])))))) ≡ text_of r ++ 10 ∷ []
placed_line r d n p e f g =
    let D = decimal (number_of r) in
    let N = name_of r in
    let front = (codes "refused " ++ D) ++ (32 ∷ N) in
    let back = 32 ∷ (p ++ (10 ∷ [])) in
    ap (λ x. codes "refused " ++ (x ++ (32 ∷ (n ++ back)))) e ∙ ap (λ x. codes "refused " ++ (D ++ (32 ∷ (x ++ back)))) f
    ∙ sym (ap (λ q. (front ++ q) ++ (10 ∷ [])) g ∙ append_assoc front (32 ∷ p) (10 ∷ []) ∙ append_assoc (codes "refused " ++ D) (32 ∷ N) back ∙ append_assoc (codes "refused ") D (32 ∷ (N ++ back)))
