-- Where bytes are cut, and which bytes are no line.
use Rattle.std.proofs.Common.{Bool, true, false, IsTrue, ◌↔◌, arith, append_assoc, take, drop, Option, Result, Ok, Err, inl, inr, w64, ◌≡◌, ◌≢◌, ◌<◌, ◌≤◌, ◌^◌, ◌-◌, suc, pos, negsuc, ℕ, ℤ, List, [], ◌∷◌, ◌++◌, length, get_or, refl, ap, sym, ◌∙◌, subst, codes}
use Rattle.std.specs.List.{All}
use Rattle.std.specs.Option.{MatchOption}
use Rattle.std.specs.Result.{OkIff, result_ok}
use Rattle.std.specs.Int.RustNames.{FitsSigned}
use Rattle.std.proofs.lemmas.Bool.{cases_lt}
use Rattle.std.proofs.lemmas.Grind.{common_steps}
use Rattle.std.specs.Fmt.{decimal, signed_decimal}
use Rattle.std.proofs.lemmas.Int.{ints}
use Rattle.std.proofs.lemmas.Fmt.{decimal_injective}
use Rattle.std.proofs.lemmas.List.Elements.{All-nil, All-cons, All-head, All-tail, All-weaker}
use Rattle.mt_model.specs.declared.operations.Op.{Op}
use Rattle.mt_model.specs.declared.operations.Op.TheVariants.{Get, Insert, Update, Delete, Add, Read, Scan}
use Rattle.mt_script.specs.Whole.{decimal_digits, is_without}
use Rattle.mt_script.specs.declared.lines.Line.{Line}
use Rattle.mt_script.specs.declared.lines.Line.TheVariants.{Begin, Call, Save, Back, Commit, Abort}
use Rattle.mt_script.specs.Lines.{IsUnspaced, IsWord, IsPlace, IsWide, SpellsStep, SpellsKey, SpellsRow, SpellsOp, Spells, op_text}

-- what stands before the first c, and what after it
pub same_cut : (c : ℕ) (xs ys tail rear : List ℕ) → All (λ b. b ≢ c) xs → All (λ b. b ≢ c) ys → xs ++ c ∷ tail ≡ ys ++ c ∷ rear → (xs ≡ ys) × (tail ≡ rear)
same_cut c [] [] tail rear h k e = (refl, cc)
same_cut c [] (y ∷ ys) tail rear h k e =
    let other = All-head (λ b. b ≢ c) y ys k in
    let same : y ≡ c = cc in absurd (other same)
same_cut c (x ∷ xs) [] tail rear h k e =
    let other = All-head (λ b. b ≢ c) x xs h in
    let same : x ≡ c = cc in absurd (other same)
same_cut c (x ∷ xs) (y ∷ ys) tail rear h k e =
    let first : x ≡ y = cc in
    let rest : xs ++ c ∷ tail ≡ ys ++ c ∷ rear = cc in
    let r = same_cut c xs ys tail rear (All-tail (λ b. b ≢ c) x xs h) (All-tail (λ b. b ≢ c) y ys k) rest in
    let same : xs ≡ ys = r.0 in (cc, r.1)

-- bytes with a separator are not bytes without
pub cut_within : (c : ℕ) (xs tail : List ℕ) → All (λ b. b ≢ c) (xs ++ c ∷ tail) → ⊥
cut_within c [] tail h = All-head (λ b. b ≢ c) c tail h refl
cut_within c (x ∷ xs) tail h = cut_within c xs tail (All-tail (λ b. b ≢ c) x (xs ++ c ∷ tail) h)

abbrev IsDigit : ℕ → Type 0
IsDigit b = (48 ≤ b) × (b ≤ 57)

pub decimal_unspaced : (n : ℕ) → n < 2 ^ 64 → IsUnspaced (decimal n)
decimal_unspaced n h = All-weaker IsDigit (λ b. b ≢ 32) (λ b d. omega (arith, d.0)) (decimal n) (decimal_digits n h)

-- no number begins with a minus
no_minus : (bs ds : List ℕ) → All IsDigit ds → 45 ∷ bs ≡ ds → ⊥
no_minus bs [] h e = cc
no_minus bs (d ∷ ds) h e =
    let digit = All-head IsDigit d ds h in
    let same : 45 ≡ d = cc in omega (arith, digit.0)

pub decimal_no_minus : (bs : List ℕ) (n : ℕ) → n < 2 ^ 64 → 45 ∷ bs ≡ decimal n → ⊥
decimal_no_minus bs n h e = no_minus bs (decimal n) (decimal_digits n h) e

-- the size of a number that is negative, and of one that is not
pub negative_size : (bs : List ℕ) (z : ℤ) → SpellsStep (45 ∷ bs) z → (n : ℕ) × (z ≡ negsuc n) × (bs ≡ decimal (suc n)) × (n ≤ 9223372036854775807)
negative_size bs (pos n) s = absurd (decimal_no_minus bs n (omega (arith, ints, s.1.1)) s.0)
negative_size bs (negsuc n) s = let e = s.0 in (n, refl, cc, omega (arith, ints, s.1.0))

-- two lists that begin differently
apart : (x y : ℕ) (xs ys : List ℕ) → x ≢ y → x ∷ xs ≡ y ∷ ys → ⊥
apart x y xs ys n e = n cc

-- the words of an operation: the first, and those after it
abbrev pub word_of : Op → List ℕ
word_of (Get r k) = codes "get"
word_of (Insert r k v) = codes "insert"
word_of (Update r k v) = codes "update"
word_of (Delete r k) = codes "delete"
word_of (Add c n) = codes "add"
word_of (Read c) = codes "read"
word_of (Scan r) = codes "scan"

abbrev pub rest_of : Op → List ℕ
rest_of (Get r k) = decimal r ++ 32 ∷ k
rest_of (Insert r k v) = decimal r ++ 32 ∷ k ++ 32 ∷ v
rest_of (Update r k v) = decimal r ++ 32 ∷ k ++ 32 ∷ v
rest_of (Delete r k) = decimal r ++ 32 ∷ k
rest_of (Add c n) = decimal c ++ 32 ∷ signed_decimal n
rest_of (Read c) = decimal c
rest_of (Scan r) = decimal r

pub op_words : (op : Op) → op_text op ≡ word_of op ++ 32 ∷ rest_of op
op_words (Get r k) = refl
op_words (Insert r k v) = refl
op_words (Update r k v) = refl
op_words (Delete r k) = refl
op_words (Add c n) = refl
op_words (Read c) = refl
op_words (Scan r) = refl

-- where no c stands up to a place, no shorter front ends at a c
pub no_cut : (c : ℕ) (xs more ys rest : List ℕ) → All (λ b. b ≢ c) xs → length ys < length xs → xs ++ more ≡ ys ++ c ∷ rest → ⊥
no_cut c [] more ys rest h l e = omega arith
no_cut c (x ∷ xs) more [] rest h l e =
    let other = All-head (λ b. b ≢ c) x xs h in
    let same : x ≡ c = cc in other same
no_cut c (x ∷ xs) more (y ∷ ys) rest h l e =
    let less : length ys < length xs = omega arith in
    let tails : xs ++ more ≡ ys ++ c ∷ rest = cc in
    no_cut c xs more ys rest (All-tail (λ b. b ≢ c) x xs h) less tails

-- the size of a negative number
pub size_within : (size : ℕ) (z : ℤ) → size < 2 ^ 64 → SpellsStep (45 ∷ decimal size) z → (1 ≤ size) × (size ≤ 9223372036854775808)
size_within size z h s =
    let m = negative_size (decimal size) z s in
    let same : size ≡ suc m.0 = decimal_injective size (suc m.0) h (omega (arith, m.3)) m.2 in (omega arith, omega (arith, m.3))

-- a minus before what is no number is no step
pub no_size : (bs : List ℕ) (z : ℤ) → ((n : ℕ) → n < 2 ^ 64 → bs ≢ decimal n) → SpellsStep (45 ∷ bs) z → ⊥
no_size bs z none s = let m = negative_size bs z s in none (suc m.0) (omega (arith, m.3)) m.2

-- nor is what is no number and begins with no minus
pub no_step : (bs : List ℕ) (z : ℤ) → get_or bs 0 0 ≢ 45 → ((n : ℕ) → n < 2 ^ 64 → bs ≢ decimal n) → SpellsStep bs z → ⊥
no_step bs (pos n) other none s = none n (omega (arith, ints, s.1.1)) s.0
no_step bs (negsuc n) other none s = other (ap (λ l. get_or l 0 0) s.0)

-- nor is a number past the largest step
pub too_wide : (bs : List ℕ) (m : ℕ) (z : ℤ) → get_or bs 0 0 ≢ 45 → m < 2 ^ 64 → 9223372036854775807 < m → bs ≡ decimal m → SpellsStep bs z → ⊥
too_wide bs m (pos n) other h past is s =
    let same : m ≡ n = decimal_injective m n h (omega (arith, ints, s.1.1)) (sym is ∙ s.0) in omega (arith, ints, s.1.1, same)
too_wide bs m (negsuc n) other h past is s = other (ap (λ l. get_or l 0 0) s.0)

-- a relation and a key are cut at the first space
pub key_cut : (bs front back : List ℕ) (r : ℕ) (k : List ℕ) → bs ≡ front ++ 32 ∷ back → IsUnspaced front → SpellsKey bs r k → (front ≡ decimal r) × (back ≡ k)
key_cut bs front back r k e h s = same_cut 32 front (decimal r) back k h (decimal_unspaced r (omega (arith, s.1))) (sym e ∙ s.0)

pub key_spaced : (bs : List ℕ) (r : ℕ) (k : List ℕ) → IsUnspaced bs → SpellsKey bs r k → ⊥
key_spaced bs r k h s = cut_within 32 (decimal r) k (subst IsUnspaced s.0 h)

word_unspaced : (k : List ℕ) → IsWord k → IsUnspaced k
word_unspaced k w = All-weaker (λ b. (33 ≤ b) × (b ≤ 126)) (λ b. b ≢ 32) (λ b d. omega (arith, d.0)) k w.1

-- a relation, a key and a value are cut at the first two
pub row_cut : (bs front back : List ℕ) (r : ℕ) (k v : List ℕ) → bs ≡ front ++ 32 ∷ back → IsUnspaced front → SpellsRow bs r k v → (front ≡ decimal r) × (back ≡ k ++ 32 ∷ v)
row_cut bs front back r k v e h s =
    same_cut 32 front (decimal r) back (k ++ 32 ∷ v) h (decimal_unspaced r (omega (arith, s.1))) (sym e ∙ s.0 ∙ append_assoc (decimal r) (32 ∷ k) (32 ∷ v))

pub row_cut_twice : (bs front back key value : List ℕ) (r : ℕ) (k v : List ℕ) → bs ≡ front ++ 32 ∷ back → IsUnspaced front → back ≡ key ++ 32 ∷ value → IsUnspaced key
    → SpellsRow bs r k v → (front ≡ decimal r) × (key ≡ k) × (value ≡ v)
row_cut_twice bs front back key value r k v e h f g s =
    let outer = row_cut bs front back r k v e h s in
    let inner = same_cut 32 key k value v g (word_unspaced k s.2) (sym f ∙ outer.1) in (outer.0, inner.0, inner.1)

pub row_spaced : (bs : List ℕ) (r : ℕ) (k v : List ℕ) → IsUnspaced bs → SpellsRow bs r k v → ⊥
row_spaced bs r k v h s = cut_within 32 (decimal r) (k ++ 32 ∷ v) (subst IsUnspaced (s.0 ∙ append_assoc (decimal r) (32 ∷ k) (32 ∷ v)) h)

-- a row without a second space
pub row_unspaced : (bs front back : List ℕ) (r : ℕ) (k v : List ℕ) → bs ≡ front ++ 32 ∷ back → IsUnspaced front → IsUnspaced back → SpellsRow bs r k v → ⊥
row_unspaced bs front back r k v e h g s =
    let outer = row_cut bs front back r k v e h s in cut_within 32 k v (subst IsUnspaced outer.1 g)

-- bytes that begin with a minus
pub minus_first : (bs : List ℕ) → 1 ≤ length bs → get_or bs 0 0 ≡ 45 → bs ≡ 45 ∷ take (length bs - 1) (drop 1 bs)
minus_first [] l e = absurd (omega arith)
minus_first (b ∷ bs) l e = grind (arith, common_steps)

-- a number that begins with no minus is a step where it fits
pub wide_step : {E : Type 0} (bs : List ℕ) (m : ℕ) (o : Option ℤ) (r : Result ℤ E) → get_or bs 0 0 ≢ 45 → m < 2 ^ 64 → bs ≡ decimal m
    → OkIff r (FitsSigned w64 (pos m)) (pos m) → o ≡ result_ok r → MatchOption o ((n : ℤ) → SpellsStep bs n → ⊥) (SpellsStep bs)
wide_step bs m o (Ok v) other h is fits e =
    let P : Option ℤ → Type 0 = λ p. MatchOption p ((n : ℤ) → SpellsStep bs n → ⊥) (SpellsStep bs) in
    let wide : IsWide (pos m) = (omega (arith, ints, fits.0), omega (arith, ints, fits.0)) in
    let spells : SpellsStep bs v = subst (λ x. SpellsStep bs x) (sym fits.1) (is, wide) in
    subst P (sym e) spells
wide_step bs m o (Err x) other h is fits e =
    let P : Option ℤ → Type 0 = λ p. MatchOption p ((n : ℤ) → SpellsStep bs n → ⊥) (SpellsStep bs) in
    subst P (sym e) (λ z s. elim (cases_lt 9223372036854775807 m) [ inl high ↦ too_wide bs m z other h high is s | inr low ↦ fits (omega (arith, ints, low)) ])

word_unspaced_of : (op : Op) → IsUnspaced (word_of op)
word_unspaced_of (Get r k) = All-cons (λ b. b ≢ 32) 103 (101 ∷ 116 ∷ []) (omega arith) (All-cons (λ b. b ≢ 32) 101 (116 ∷ []) (omega arith) (All-cons (λ b. b ≢ 32) 116 ([]) (omega arith) (All-nil (λ b. b ≢ 32))))
word_unspaced_of (Insert r k v) = All-cons (λ b. b ≢ 32) 105 (110 ∷ 115 ∷ 101 ∷ 114 ∷ 116 ∷ []) (omega arith) (All-cons (λ b. b ≢ 32) 110 (115 ∷ 101 ∷ 114 ∷ 116 ∷ []) (omega arith) (All-cons (λ b. b ≢ 32) 115 (101 ∷ 114 ∷ 116 ∷ []) (omega arith) (All-cons (λ b. b ≢ 32) 101 (114 ∷ 116 ∷ []) (omega arith) (All-cons (λ b. b ≢ 32) 114 (116 ∷ []) (omega arith) (All-cons (λ b. b ≢ 32) 116 ([]) (omega arith) (All-nil (λ b. b ≢ 32)))))))
word_unspaced_of (Update r k v) = All-cons (λ b. b ≢ 32) 117 (112 ∷ 100 ∷ 97 ∷ 116 ∷ 101 ∷ []) (omega arith) (All-cons (λ b. b ≢ 32) 112 (100 ∷ 97 ∷ 116 ∷ 101 ∷ []) (omega arith) (All-cons (λ b. b ≢ 32) 100 (97 ∷ 116 ∷ 101 ∷ []) (omega arith) (All-cons (λ b. b ≢ 32) 97 (116 ∷ 101 ∷ []) (omega arith) (All-cons (λ b. b ≢ 32) 116 (101 ∷ []) (omega arith) (All-cons (λ b. b ≢ 32) 101 ([]) (omega arith) (All-nil (λ b. b ≢ 32)))))))
word_unspaced_of (Delete r k) = All-cons (λ b. b ≢ 32) 100 (101 ∷ 108 ∷ 101 ∷ 116 ∷ 101 ∷ []) (omega arith) (All-cons (λ b. b ≢ 32) 101 (108 ∷ 101 ∷ 116 ∷ 101 ∷ []) (omega arith) (All-cons (λ b. b ≢ 32) 108 (101 ∷ 116 ∷ 101 ∷ []) (omega arith) (All-cons (λ b. b ≢ 32) 101 (116 ∷ 101 ∷ []) (omega arith) (All-cons (λ b. b ≢ 32) 116 (101 ∷ []) (omega arith) (All-cons (λ b. b ≢ 32) 101 ([]) (omega arith) (All-nil (λ b. b ≢ 32)))))))
word_unspaced_of (Add c n) = All-cons (λ b. b ≢ 32) 97 (100 ∷ 100 ∷ []) (omega arith) (All-cons (λ b. b ≢ 32) 100 (100 ∷ []) (omega arith) (All-cons (λ b. b ≢ 32) 100 ([]) (omega arith) (All-nil (λ b. b ≢ 32))))
word_unspaced_of (Read c) = All-cons (λ b. b ≢ 32) 114 (101 ∷ 97 ∷ 100 ∷ []) (omega arith) (All-cons (λ b. b ≢ 32) 101 (97 ∷ 100 ∷ []) (omega arith) (All-cons (λ b. b ≢ 32) 97 (100 ∷ []) (omega arith) (All-cons (λ b. b ≢ 32) 100 ([]) (omega arith) (All-nil (λ b. b ≢ 32)))))
word_unspaced_of (Scan r) = All-cons (λ b. b ≢ 32) 115 (99 ∷ 97 ∷ 110 ∷ []) (omega arith) (All-cons (λ b. b ≢ 32) 99 (97 ∷ 110 ∷ []) (omega arith) (All-cons (λ b. b ≢ 32) 97 (110 ∷ []) (omega arith) (All-cons (λ b. b ≢ 32) 110 ([]) (omega arith) (All-nil (λ b. b ≢ 32)))))

-- ---- what spells no operation

tail_of : (c : ℕ) (xs ys : List ℕ) → c ∷ xs ≡ c ∷ ys → xs ≡ ys
tail_of c xs ys e = cc

first_of : (xs ys : List ℕ) → xs ≡ ys → get_or xs 0 0 ≡ get_or ys 0 0
first_of xs ys e = ap (λ l. get_or l 0 0) e

-- what stands after the first word is that of the operation
pub same_words : (word words : List ℕ) (op : Op) → IsUnspaced word → SpellsOp (word ++ 32 ∷ words) op → (word ≡ word_of op) × (words ≡ rest_of op)
same_words word words op h s = same_cut 32 word (word_of op) words (rest_of op) h (word_unspaced_of op) (s.0 ∙ op_words op)

pub no_get : (words : List ℕ) → ((r : ℕ) (k : List ℕ) → SpellsKey words r k → ⊥) → (op : Op) → SpellsOp (codes "get" ++ 32 ∷ words) op → ⊥
no_get words none (Get r k) s = none r k ((same_words (codes "get") words (Get r k) (word_unspaced_of (Get r k)) s).1, s.1.0, s.1.1)
no_get words none (Insert r k v) s = let e = first_of _ _ s.0 in let f : 103 ≡ 105 = e in omega (arith, f)
no_get words none (Update r k v) s = let e = first_of _ _ s.0 in let f : 103 ≡ 117 = e in omega (arith, f)
no_get words none (Delete r k) s = let e = first_of _ _ s.0 in let f : 103 ≡ 100 = e in omega (arith, f)
no_get words none (Add c n) s = let e = first_of _ _ s.0 in let f : 103 ≡ 97 = e in omega (arith, f)
no_get words none (Read c) s = let e = first_of _ _ s.0 in let f : 103 ≡ 114 = e in omega (arith, f)
no_get words none (Scan r) s = let e = first_of _ _ s.0 in let f : 103 ≡ 115 = e in omega (arith, f)

pub no_delete : (words : List ℕ) → ((r : ℕ) (k : List ℕ) → SpellsKey words r k → ⊥) → (op : Op) → SpellsOp (codes "delete" ++ 32 ∷ words) op → ⊥
no_delete words none (Get r k) s = let e = first_of _ _ s.0 in let f : 100 ≡ 103 = e in omega (arith, f)
no_delete words none (Insert r k v) s = let e = first_of _ _ s.0 in let f : 100 ≡ 105 = e in omega (arith, f)
no_delete words none (Update r k v) s = let e = first_of _ _ s.0 in let f : 100 ≡ 117 = e in omega (arith, f)
no_delete words none (Delete r k) s = none r k ((same_words (codes "delete") words (Delete r k) (word_unspaced_of (Delete r k)) s).1, s.1.0, s.1.1)
no_delete words none (Add c n) s = let e = first_of _ _ s.0 in let f : 100 ≡ 97 = e in omega (arith, f)
no_delete words none (Read c) s = let e = first_of _ _ s.0 in let f : 100 ≡ 114 = e in omega (arith, f)
no_delete words none (Scan r) s = let e = first_of _ _ s.0 in let f : 100 ≡ 115 = e in omega (arith, f)

pub no_insert : (words : List ℕ) → ((r : ℕ) (k v : List ℕ) → SpellsRow words r k v → ⊥) → (op : Op) → SpellsOp (codes "insert" ++ 32 ∷ words) op → ⊥
no_insert words none (Get r k) s = let e = first_of _ _ s.0 in let f : 105 ≡ 103 = e in omega (arith, f)
no_insert words none (Insert r k v) s = none r k v ((same_words (codes "insert") words (Insert r k v) (word_unspaced_of (Insert r k v)) s).1, s.1.0, s.1.1, s.1.2)
no_insert words none (Update r k v) s = let e = first_of _ _ s.0 in let f : 105 ≡ 117 = e in omega (arith, f)
no_insert words none (Delete r k) s = let e = first_of _ _ s.0 in let f : 105 ≡ 100 = e in omega (arith, f)
no_insert words none (Add c n) s = let e = first_of _ _ s.0 in let f : 105 ≡ 97 = e in omega (arith, f)
no_insert words none (Read c) s = let e = first_of _ _ s.0 in let f : 105 ≡ 114 = e in omega (arith, f)
no_insert words none (Scan r) s = let e = first_of _ _ s.0 in let f : 105 ≡ 115 = e in omega (arith, f)

pub no_update : (words : List ℕ) → ((r : ℕ) (k v : List ℕ) → SpellsRow words r k v → ⊥) → (op : Op) → SpellsOp (codes "update" ++ 32 ∷ words) op → ⊥
no_update words none (Get r k) s = let e = first_of _ _ s.0 in let f : 117 ≡ 103 = e in omega (arith, f)
no_update words none (Insert r k v) s = let e = first_of _ _ s.0 in let f : 117 ≡ 105 = e in omega (arith, f)
no_update words none (Update r k v) s = none r k v ((same_words (codes "update") words (Update r k v) (word_unspaced_of (Update r k v)) s).1, s.1.0, s.1.1, s.1.2)
no_update words none (Delete r k) s = let e = first_of _ _ s.0 in let f : 117 ≡ 100 = e in omega (arith, f)
no_update words none (Add c n) s = let e = first_of _ _ s.0 in let f : 117 ≡ 97 = e in omega (arith, f)
no_update words none (Read c) s = let e = first_of _ _ s.0 in let f : 117 ≡ 114 = e in omega (arith, f)
no_update words none (Scan r) s = let e = first_of _ _ s.0 in let f : 117 ≡ 115 = e in omega (arith, f)

pub no_add : (words : List ℕ) → ((c : ℕ) (n : ℤ) → words ≡ decimal c ++ 32 ∷ signed_decimal n → IsPlace c → IsWide n → ⊥) → (op : Op) → SpellsOp (codes "add" ++ 32 ∷ words) op → ⊥
no_add words none (Get r k) s = let e = first_of _ _ s.0 in let f : 97 ≡ 103 = e in omega (arith, f)
no_add words none (Insert r k v) s = let e = first_of _ _ s.0 in let f : 97 ≡ 105 = e in omega (arith, f)
no_add words none (Update r k v) s = let e = first_of _ _ s.0 in let f : 97 ≡ 117 = e in omega (arith, f)
no_add words none (Delete r k) s = let e = first_of _ _ s.0 in let f : 97 ≡ 100 = e in omega (arith, f)
no_add words none (Add c n) s = none c n (same_words (codes "add") words (Add c n) (word_unspaced_of (Add c n)) s).1 s.1.0 s.1.1
no_add words none (Read c) s = let e = first_of _ _ s.0 in let f : 97 ≡ 114 = e in omega (arith, f)
no_add words none (Scan r) s = let e = first_of _ _ s.0 in let f : 97 ≡ 115 = e in omega (arith, f)

-- the three ways in which words spell no add
pub add_spaced : (words : List ℕ) → IsUnspaced words → (c : ℕ) (n : ℤ) → words ≡ decimal c ++ 32 ∷ signed_decimal n → IsPlace c → IsWide n → ⊥
add_spaced words h c n e p w = cut_within 32 (decimal c) (signed_decimal n) (subst (λ x. IsUnspaced x) e h)

pub add_cut : (words front back : List ℕ) → words ≡ front ++ 32 ∷ back → IsUnspaced front → (c : ℕ) (n : ℤ) → words ≡ decimal c ++ 32 ∷ signed_decimal n → IsPlace c
    → (front ≡ decimal c) × (back ≡ signed_decimal n)
add_cut words front back f h c n e p = same_cut 32 front (decimal c) back (signed_decimal n) h (decimal_unspaced c (omega (arith, p))) (sym f ∙ e)

-- a first word that is none of the seven
pub no_word : (word words : List ℕ) → IsUnspaced word → word ≢ codes "get" → word ≢ codes "insert" → word ≢ codes "update" → word ≢ codes "delete" → word ≢ codes "add" → word ≢ codes "read" → word ≢ codes "scan"
    → (op : Op) → SpellsOp (word ++ 32 ∷ words) op → ⊥
no_word word words h g i u d a r x (Get t k) s = g (same_words word words (Get t k) h s).0
no_word word words h g i u d a r x (Insert t k v) s = i (same_words word words (Insert t k v) h s).0
no_word word words h g i u d a r x (Update t k v) s = u (same_words word words (Update t k v) h s).0
no_word word words h g i u d a r x (Delete t k) s = d (same_words word words (Delete t k) h s).0
no_word word words h g i u d a r x (Add c n) s = a (same_words word words (Add c n) h s).0
no_word word words h g i u d a r x (Read c) s = r (same_words word words (Read c) h s).0
no_word word words h g i u d a r x (Scan t) s = x (same_words word words (Scan t) h s).0

-- no operation is one word
pub no_bare_op : (bytes : List ℕ) (op : Op) → IsUnspaced bytes → SpellsOp bytes op → ⊥
no_bare_op bytes op h s = cut_within 32 (word_of op) (rest_of op) (subst (λ x. IsUnspaced x) (s.0 ∙ op_words op) h)

pub no_bare_line : (bytes : List ℕ) → IsUnspaced bytes → bytes ≢ codes "begin" → bytes ≢ codes "save" → bytes ≢ codes "commit" → bytes ≢ codes "abort"
    → (line : Line) → Spells bytes line → ⊥
no_bare_line bytes h b v c a Begin s = b s.0
no_bare_line bytes h b v c a (Call op) s = no_bare_op bytes op h s
no_bare_line bytes h b v c a Save s = v s.0
no_bare_line bytes h b v c a (Back n) s = cut_within 32 (codes "back") (decimal n) (subst (λ x. IsUnspaced x) s.0 h)
no_bare_line bytes h b v c a Commit s = c s.0
no_bare_line bytes h b v c a Abort s = a s.0

-- several words are not one
several : (word words one : List ℕ) → word ++ 32 ∷ words ≡ one → IsUnspaced one → ⊥
several word words one e h = cut_within 32 word words (subst (λ x. IsUnspaced x) (sym e) h)

-- a line of several words is an operation, if its first word is not "back"
pub no_spaced_line : (word words : List ℕ) → IsUnspaced word → word ≢ codes "back" → ((op : Op) → SpellsOp (word ++ 32 ∷ words) op → ⊥)
    → (line : Line) → Spells (word ++ 32 ∷ words) line → ⊥
no_spaced_line word words h other none Begin s = several word words (codes "begin") s.0 (is_without 32 (codes "begin") refl)
no_spaced_line word words h other none (Call op) s = none op s
no_spaced_line word words h other none Save s = several word words (codes "save") s.0 (is_without 32 (codes "save") refl)
no_spaced_line word words h other none (Back n) s =
    other (same_cut 32 word (codes "back") words (decimal n) h (is_without 32 (codes "back") refl) s.0).0
no_spaced_line word words h other none Commit s = several word words (codes "commit") s.0 (is_without 32 (codes "commit") refl)
no_spaced_line word words h other none Abort s = several word words (codes "abort") s.0 (is_without 32 (codes "abort") refl)

-- no operation begins with "back"
no_back_op : (words : List ℕ) (op : Op) → SpellsOp (codes "back" ++ 32 ∷ words) op → ⊥
no_back_op words (Get r k) s = let e = first_of _ _ s.0 in let f : 98 ≡ 103 = e in omega (arith, f)
no_back_op words (Insert r k v) s = let e = first_of _ _ s.0 in let f : 98 ≡ 105 = e in omega (arith, f)
no_back_op words (Update r k v) s = let e = first_of _ _ s.0 in let f : 98 ≡ 117 = e in omega (arith, f)
no_back_op words (Delete r k) s = let e = first_of _ _ s.0 in let f : 98 ≡ 100 = e in omega (arith, f)
no_back_op words (Add c n) s = let e = first_of _ _ s.0 in let f : 98 ≡ 97 = e in omega (arith, f)
no_back_op words (Read c) s = let e = first_of _ _ s.0 in let f : 98 ≡ 114 = e in omega (arith, f)
no_back_op words (Scan r) s = let e = first_of _ _ s.0 in let f : 98 ≡ 115 = e in omega (arith, f)

pub no_back : (words : List ℕ) → ((n : ℕ) → IsPlace n → words ≢ decimal n) → (line : Line) → Spells (codes "back" ++ 32 ∷ words) line → ⊥
no_back words none Begin s = several (codes "back") words (codes "begin") s.0 (is_without 32 (codes "begin") refl)
no_back words none (Call op) s = no_back_op words op s
no_back words none Save s = several (codes "back") words (codes "save") s.0 (is_without 32 (codes "save") refl)
no_back words none (Back n) s =
    let back = is_without 32 (codes "back") refl in none n s.1 (same_cut 32 (codes "back") (codes "back") words (decimal n) back back s.0).1
no_back words none Commit s = several (codes "back") words (codes "commit") s.0 (is_without 32 (codes "commit") refl)
no_back words none Abort s = several (codes "back") words (codes "abort") s.0 (is_without 32 (codes "abort") refl)

-- bytes that fail a test of what they are to be
pub lacks : (P : List ℕ → Type 0) (bytes own : List ℕ) (r : Bool) → (IsTrue r ↔ P bytes) → r ≡ false → bytes ≡ own → P own → ⊥
lacks P bytes own r test fails same has = let holds : r ≡ true = test.1 (subst P (sym same) has) in cc

pub differs : (xs ys : List ℕ) (r : Bool) → (IsTrue r ↔ (xs ≡ ys)) → r ≡ false → xs ≢ ys
differs xs ys r test fails e = let holds : r ≡ true = test.1 e in cc
