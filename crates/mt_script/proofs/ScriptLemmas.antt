-- A line put after others, and a byte after the line under way.
use Rattle.std.proofs.Common.{rules, arith, ◌≡◌, ◌≢◌, ◌<◌, ◌≤◌, ◌+◌, ◌⊎◌, inl, inr, ℕ, List, Option, Some, None, [], ◌∷◌, ◌++◌, length, take, refl, ap, sym, subst, IfSome, ◌∙◌, length-append}
use Rattle.std.specs.List.{All}
use Rattle.std.specs.Io.KnownBytes.{Consumes, IsAtEnd}
use Rattle.std.proofs.lemmas.List.{append_assoc}
use Rattle.std.proofs.lemmas.List.Elements.{All-nil, All-append, All-push}
use Rattle.mt_script.specs.Grammars.{lines_text, SpellsIn, IsShort, Gathered, AreLines, BeginsWithLine, IsFirstBad}
use Rattle.mt_script.proofs.LineLemmas.{same_cut, cut_within, no_cut}

module _ {L : Type 0} (text : L → List ℕ) (IsIn : L → Type 0) where
  pub text_more : (lines : List L) (line : L) → lines_text text (lines ++ line ∷ []) ≡ lines_text text lines ++ text line ++ 10 ∷ []
  unfolding lines_text
  text_more [] line = search rules
  text_more (l ∷ lines) line =
      let h = text_more lines line in
      let first : (text l ++ 10 ∷ lines_text text lines) ++ text line ≡ text l ++ (10 ∷ lines_text text lines ++ text line) = append_assoc (text l) (10 ∷ lines_text text lines) (text line) in
      let second : (text l ++ (10 ∷ lines_text text lines ++ text line)) ++ 10 ∷ [] ≡ text l ++ ((10 ∷ lines_text text lines ++ text line) ++ 10 ∷ []) = append_assoc (text l) (10 ∷ lines_text text lines ++ text line) (10 ∷ []) in
      ap (λ t. text l ++ 10 ∷ t) h ∙ sym (ap (λ t. t ++ 10 ∷ []) first ∙ second)

  pub gathered_nothing : Gathered text IsIn [] [] []
  unfolding lines_text
  gathered_nothing = record { spelled = refl; grammar = All-nil IsIn; short = All-nil (IsShort text IsIn); unbroken = All-nil (λ b. b ≢ 10) }

  pub gathered_part : (bytes : List ℕ) (lines : List L) (line part : List ℕ) → All (λ b. b ≢ 10) part → Gathered text IsIn bytes lines line → Gathered text IsIn (bytes ++ part) lines (line ++ part)
  gathered_part bytes lines line part whole g = record {
    spelled = ap (λ t. t ++ part) g.spelled ∙ append_assoc (lines_text text lines) line part;
    grammar = g.grammar;
    short = g.short;
    unbroken = All-append (λ b. b ≢ 10) line part g.unbroken whole;
  }

  pub gathered_line : (bytes : List ℕ) (lines : List L) (line : List ℕ) (l : L) → length line ≤ 4096 → Gathered text IsIn bytes lines line → SpellsIn text IsIn line l → Gathered text IsIn (bytes ++ 10 ∷ []) (lines ++ l ∷ []) []
  gathered_line bytes lines line l fits g s =
      let e = g.spelled in
      let t = text_more lines l in
      let p = s.0 in
      let short : length (text l) ≤ 4096 = subst (λ x. length x ≤ 4096) p fits in
      record {
        spelled = search (rules, e, t, p);
        grammar = All-push IsIn lines l g.grammar s.1;
        short = All-push (IsShort text IsIn) lines l g.short short;
        unbroken = All-nil (λ b. b ≢ 10);
      }

  pub are_lines : (bytes : List ℕ) (lines : List L) (line : List ℕ) → length lines ≤ 100000 → Gathered text IsIn bytes lines line → line ≡ [] → AreLines text IsIn bytes lines
  are_lines bytes lines line few g e = let s = g.spelled in record { spelled = search (rules, s, e); grammar = g.grammar; short = g.short; few = few }

  -- ---- the first bad line

  not_empty : (xs : List ℕ) (x : ℕ) (ys : List ℕ) → xs ++ x ∷ ys ≢ []
  not_empty [] x ys e = cc
  not_empty (z ∷ xs) x ys e = cc

  bad_after : (front more : List ℕ) (lines : List L) (line : List ℕ) (b : ℕ) → Gathered text IsIn front lines line → length lines ≤ 100000
      → (BeginsWithLine text IsIn (line ++ b ∷ more) → ⊥) ⊎ (length lines ≡ 100000) → IsFirstBad text IsIn (front ++ b ∷ more) (length lines + 1)
  bad_after front more lines line b g few why = record {
    before = (lines, line ++ b ∷ more, ap (λ t. t ++ b ∷ more) g.spelled ∙ append_assoc (lines_text text lines) line (b ∷ more), g.grammar, g.short, few, refl, not_empty line b more, why);
  }

  -- the bytes before an LF are no line
  pub bad_line : ((l : L) → IsIn l → All (λ b. b ≢ 10) (text l)) → (front more : List ℕ) (lines : List L) (line : List ℕ) → length lines ≤ 100000 → Gathered text IsIn front lines line → ((l : L) → SpellsIn text IsIn line l → ⊥) → IsFirstBad text IsIn (front ++ 10 ∷ more) (length lines + 1)
  bad_line whole front more lines line few g bad =
      bad_after front more lines line 10 g few (inl (λ begins.
      let l = begins.0 in
      let cut = same_cut 10 line (text l) more begins.1 g.unbroken (whole l begins.3) begins.2 in
      bad l (cut.0, begins.3)))

  -- a byte after 100,000 lines
  pub too_many : (front more : List ℕ) (lines : List L) (line : List ℕ) (b : ℕ) → length lines ≡ 100000 → Gathered text IsIn front lines line → IsFirstBad text IsIn (front ++ b ∷ more) (length lines + 1)
  too_many front more lines line b full g = bad_after front more lines line b g (omega arith) (inr full)

  part_after : (front more : List ℕ) (lines : List L) (line part : List ℕ) → Gathered text IsIn front lines line → length lines ≤ 100000 → part ≢ []
      → (BeginsWithLine text IsIn (line ++ (part ++ more)) → ⊥) ⊎ (length lines ≡ 100000) → IsFirstBad text IsIn ((front ++ part) ++ more) (length lines + 1)
  part_after front more lines line [] g few some why = absurd (some refl)
  part_after front more lines line (b ∷ part) g few some why =
      subst (λ t. IsFirstBad text IsIn t (length lines + 1)) (sym (append_assoc front (b ∷ part) more)) (bad_after front (part ++ more) lines line b g few why)

  -- bytes after 100,000 lines
  pub part_too_many : (front more : List ℕ) (lines : List L) (line part : List ℕ) → length lines ≡ 100000 → part ≢ [] → Gathered text IsIn front lines line → IsFirstBad text IsIn ((front ++ part) ++ more) (length lines + 1)
  part_too_many front more lines line part full some g = part_after front more lines line part g (omega arith) some (inr full)

  -- bytes that make a line longer than 4096 of them
  pub part_too_long : (front more : List ℕ) (lines : List L) (line part : List ℕ) → length lines ≤ 100000 → 4096 < length line + length part → All (λ b. b ≢ 10) part → part ≢ [] → Gathered text IsIn front lines line → IsFirstBad text IsIn ((front ++ part) ++ more) (length lines + 1)
  part_too_long front more lines line part few long whole some g =
      part_after front more lines line part g few some (inl (λ begins.
      let l = begins.0 in
      let all : All (λ x. x ≢ 10) (line ++ part) = All-append (λ x. x ≢ 10) line part g.unbroken whole in
      let short : length (text l) ≤ 4096 = begins.4 in
      let less : length (text l) < length (line ++ part) = simp length-append (omega arith) in
      let same : (line ++ part) ++ more ≡ text l ++ 10 ∷ begins.1 = append_assoc line part more ∙ begins.2 in
      no_cut 10 (line ++ part) more (text l) begins.1 all less same))

  -- a line without its end
  pub unended : (front : List ℕ) (lines : List L) (line : List ℕ) → length lines ≤ 100000 → line ≢ [] → Gathered text IsIn front lines line → IsFirstBad text IsIn front (length lines + 1)
  unended front lines line few some g = record {
    before = (
      lines,
      line,
      g.spelled,
      g.grammar,
      g.short,
      few,
      refl,
      some,
      inl (λ begins.
          cut_within 10 (text begins.0) begins.1 (subst (λ t. All (λ b. b ≢ 10) t) begins.2 g.unbroken)),
    );
  }

pub read_more : (old new : Option (List ℕ)) (bs bytes front rest : List ℕ) → old ≡ Some rest → bytes ≡ front ++ rest → Consumes old new bs → (rest' : List ℕ) × (new ≡ Some rest') × (bytes ≡ (front ++ bs) ++ rest')
read_more old None bs bytes front rest e b h = let k : Consumes (Some rest) None bs = subst (λ o. Consumes o None bs) e h in absurd k
read_more old (Some ys) bs bytes front rest e b h =
    let k : Consumes (Some rest) (Some ys) bs = subst (λ o. Consumes o (Some ys) bs) e h in
    (ys, refl, b ∙ ap (λ t. front ++ t) k ∙ sym (append_assoc front bs ys))

pub read_done : (old new : Option (List ℕ)) (buf bytes front rest : List ℕ) (n : ℕ) → n ≡ 0 → 0 < length buf → old ≡ Some rest → bytes ≡ front ++ rest → Consumes old new (take n buf) × (n ≡ 0 → 0 < length buf → IsAtEnd new) → bytes ≡ front
read_done old new buf bytes front rest n z long e b h =
    let m = read_more old new (take n buf) bytes front rest e b h.0 in
    let a : IsAtEnd (Some m.0) = subst (λ o. IsAtEnd o) m.1 (h.1 z long) in
    let t : take n buf ≡ [] = ap (λ k. take k buf) z in
    let w = m.2 in search (rules, w, t, a)

pub if_some : (o : Option (List ℕ)) (P : List ℕ → Type 0) → ((x : List ℕ) → o ≡ Some x → P x) → IfSome o P
if_some None P h = tt
if_some (Some x) P h = h x refl

-- bytes that were taken, more of a line with its end, and those after them
pub part_about : (front taken part next more : List ℕ) → ((front ++ taken) ++ part) ++ (10 ∷ (next ++ more)) ≡ (front ++ (taken ++ (part ++ 10 ∷ next))) ++ more
part_about front taken part next more = simp append_assoc
