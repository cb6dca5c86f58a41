-- No line of a script has an LF in it: a law of its grammar.
use Rattle.std.specs.Prelude.{ℕ, ℤ, ◌≡◌, ◌≢◌, ◌≤◌, ◌<◌, ◌^◌, pos, negsuc, suc, cond, Bool, true, false, List, [], ◌∷◌, ◌++◌, codes}
use Rattle.std.specs.List.{All}
use Rattle.std.specs.Fmt.{decimal, signed_decimal}
use Rattle.std.proofs.Common.{arith, inl, inr, refl, ap, sym, ◌∙◌, ◌+◌, ◌%◌}
use Rattle.std.proofs.Math.Dec.{eqb}
use Rattle.std.proofs.lemmas.Bool.Decides.{eqb_tells}
use Rattle.std.proofs.lemmas.Fmt.{decimal_by_steps}
use Rattle.std.proofs.lemmas.Int.{ints}
use Rattle.std.proofs.lemmas.List.Elements.{All-nil, All-cons, All-push, All-append, All-weaker}
use Rattle.mt_model.specs.declared.operations.Op.{Op}
use Rattle.mt_model.specs.declared.operations.Op.TheVariants.{Get, Insert, Update, Delete, Add, Read, Scan}
use Rattle.mt_script.specs.declared.lines.Line.{Line}
use Rattle.mt_script.specs.declared.lines.Line.TheVariants.{Begin, Call, Save, Back, Commit, Abort}
use Rattle.mt_script.specs.Lines.{IsWord, IsText, IsWide, IsSpelled, op_text, line_text, IsInGrammar}

-- whether a byte is none of these; on bytes that are given it is computed
abbrev pub lacks : ℕ → List ℕ → Bool
lacks c [] = true
lacks c (b ∷ bs) = cond (eqb b c) false (lacks c bs)

pub is_without : (c : ℕ) (bs : List ℕ) → lacks c bs ≡ true → All (λ b. b ≢ c) bs
is_without c [] h = All-nil (λ b. b ≢ c)
is_without c (b ∷ bs) h = elim (eqb_tells b c) [
  | inl e ↦ let w : false ≡ true = sym (ap (λ (t : Bool). cond t false (lacks c bs)) e.0) ∙ h in absurd cc
  | inr e ↦ All-cons (λ b. b ≢ c) b bs e.1 (is_without c bs
      (sym (ap (λ (t : Bool). cond t false (lacks c bs)) e.0) ∙ h))
]

abbrev IsDigit : ℕ → Type 0
IsDigit b = (48 ≤ b) × (b ≤ 57)

pub decimal_digits : (n : ℕ) → n < 2 ^ 64 → All (λ b. (48 ≤ b) × (b ≤ 57)) (decimal n)
decimal_digits n h =
    decimal_by_steps (λ m ds. All IsDigit ds) (λ m l. All-cons IsDigit (48 + m) [] (omega arith, omega arith)
    (All-nil IsDigit))
    (λ m ds l p. All-push IsDigit ds (48 + m % 10) p (omega arith, omega arith)) n h

-- no LF is in these
abbrev pub IsWhole : List ℕ → Type 0
IsWhole bytes = All (λ b. b ≢ 10) bytes

pub decimal_whole : (n : ℕ) → n < 2 ^ 64 → IsWhole (decimal n)
decimal_whole n h = All-weaker IsDigit (λ b. b ≢ 10) (λ b d. omega (arith, d.0)) (decimal n) (decimal_digits n h)

-- words with a space between them
pub spaced : (xs ys : List ℕ) → IsWhole xs → IsWhole ys → IsWhole (xs ++ 32 ∷ ys)
spaced xs ys h k = All-append (λ b. b ≢ 10) xs (32 ∷ ys) h (All-cons (λ b. b ≢ 10) 32 ys (omega arith) k)

key_whole : (k : List ℕ) → IsWord k → IsWhole k
key_whole k w = All-weaker (λ b. (33 ≤ b) × (b ≤ 126)) (λ b. b ≢ 10) (λ b d. omega (arith, d.0)) k w.1

value_whole : (v : List ℕ) → IsText v → IsWhole v
value_whole v w = All-weaker (λ b. (32 ≤ b) × (b ≤ 126)) (λ b. b ≢ 10) (λ b d. omega (arith, d.0)) v w

step_whole : (n : ℤ) → IsWide n → IsWhole (signed_decimal n)
step_whole (pos n) w = decimal_whole n (omega (arith, ints, w.1))
step_whole (negsuc n) w =
    All-cons (λ b. b ≢ 10) 45 (decimal (suc n)) (omega arith) (decimal_whole (suc n) (omega (arith, ints, w.0)))

-- a number and a word after the first word, and a value after these
two_whole : (word : List ℕ) (n : ℕ) (xs : List ℕ) → lacks 10 word ≡ true → n < 2 ^ 16 → IsWhole xs
    → IsWhole (word ++ 32 ∷ decimal n ++ 32 ∷ xs)
two_whole word n xs w h k = spaced (word ++ 32 ∷ decimal n) xs
    (spaced word (decimal n) (is_without 10 word w) (decimal_whole n (omega (arith, h)))) k

three_whole : (word : List ℕ) (n : ℕ) (k v : List ℕ) → lacks 10 word ≡ true → n < 2 ^ 16 → IsWord k → IsText v
    → IsWhole (word ++ 32 ∷ decimal n ++ 32 ∷ k ++ 32 ∷ v)
three_whole word n k v w h own text =
    spaced (word ++ 32 ∷ decimal n ++ 32 ∷ k) v (two_whole word n k w h (key_whole k own)) (value_whole v text)

pub op_whole : (op : Op) → IsSpelled op → IsWhole (op_text op)
op_whole (Get r k) s = two_whole (codes "get") r k refl s.0 (key_whole k s.1)
op_whole (Insert r k v) s = three_whole (codes "insert") r k v refl s.0 s.1 s.2
op_whole (Update r k v) s = three_whole (codes "update") r k v refl s.0 s.1 s.2
op_whole (Delete r k) s = two_whole (codes "delete") r k refl s.0 (key_whole k s.1)
op_whole (Add c n) s = two_whole (codes "add") c (signed_decimal n) refl s.0 (step_whole n s.1)
op_whole (Read c) s =
    spaced (codes "read") (decimal c) (is_without 10 (codes "read") refl) (decimal_whole c (omega (arith, s)))
op_whole (Scan r) s =
    spaced (codes "scan") (decimal r) (is_without 10 (codes "scan") refl) (decimal_whole r (omega (arith, s)))

pub line_whole : (line : Line) → IsInGrammar line → IsWhole (line_text line)
line_whole Begin s = is_without 10 (codes "begin") refl
line_whole (Call op) s = op_whole op s
line_whole Save s = is_without 10 (codes "save") refl
line_whole (Back n) s =
    spaced (codes "back") (decimal n) (is_without 10 (codes "back") refl) (decimal_whole n (omega (arith, s)))
line_whole Commit s = is_without 10 (codes "commit") refl
line_whole Abort s = is_without 10 (codes "abort") refl
