-- The words of counters, cut at their colons.
use Rattle.std.proofs.Common.{◌≡◌, ◌∙◌, ◌<◌, ◌≤◌, ◌+◌, ◌^◌, ℕ, ℤ, pos, negsuc, ◌≢◌, suc, List, [], ◌∷◌, ◌++◌, Any, Bor, Option, Some, None, Result, Ok, Err, MatchOption, IfOk, length, take, get_or, map, sym, subst, arith, ap}
use Rattle.std.specs.Fmt.{decimal, signed_decimal}
use Rattle.std.proofs.lemmas.Fmt.{decimal_injective}
use Rattle.std.proofs.lemmas.Int.{ints}
use Rattle.std.proofs.lemmas.List.{get_or-map, length-map, map-append, take_more}
use Rattle.std.proofs.lemmas.List.Elements.{All-cons, All-push, All-weaker}
use Rattle.mt_script.specs.Lines.{IsWide}
use Rattle.mt_script.specs.Whole.{decimal_digits}
use Rattle.mt_script.proofs.LineLemmas.{cut_within, same_cut}
use Rattle.mt_args.specs.Spelling.{SpellCounters, AreWide, Bounds, IsNoCounter, IsUncut, SpellBounds, SpellsBounds, SpellsCount, SpellsCounter, counter_text}

-- a number that is larger than any that a word may spell
pub too_large : (word : List ℕ) (m n : ℕ) → word ≡ decimal m → m < 2 ^ 64 → 2 ^ 63 ≤ m → SpellsCount word n → ⊥
too_large word m n is wide past s = let same : m ≡ n = decimal_injective m n wide (omega (arith, s.1)) (sym is ∙ s.0) in omega (arith, past, s.1, same)

-- a word spells one number
pub same_count : (word : List ℕ) (m n : ℕ) → SpellsCount word m → SpellsCount word n → m ≡ n
same_count word m n a b = decimal_injective m n (omega (arith, a.1)) (omega (arith, b.1)) (sym a.0 ∙ b.0)

signed_uncut : (z : ℤ) → IsWide z → IsUncut (signed_decimal z)
signed_uncut (pos n) w = All-weaker (λ b. (48 ≤ b) × (b ≤ 57)) (λ b. b ≢ 58) (λ b d. omega (arith, d.1)) (decimal n) (decimal_digits n (omega (arith, ints, w.1)))
signed_uncut (negsuc n) w =
    All-cons (λ b. b ≢ 58) 45 (decimal (suc n)) (omega arith) (All-weaker (λ b. (48 ≤ b) × (b ≤ 57)) (λ b. b ≢ 58) (λ b d. omega (arith, d.1)) (decimal (suc n)) (decimal_digits (suc n) (omega (arith, ints, w.0))))

pub no_colon : (bytes : List ℕ) → IsUncut bytes → (t : Bounds) → SpellsBounds bytes t → ⊥
no_colon bytes h t s = cut_within 58 (signed_decimal t.0) (signed_decimal t.1 ++ 58 ∷ signed_decimal t.2) (subst IsUncut s.0 h)

first_cut : (bytes low rest : List ℕ) (t : Bounds) → bytes ≡ low ++ 58 ∷ rest → IsUncut low → SpellsBounds bytes t → (low ≡ signed_decimal t.0) × (rest ≡ signed_decimal t.1 ++ 58 ∷ signed_decimal t.2)
first_cut bytes low rest t e h s = same_cut 58 low (signed_decimal t.0) rest (signed_decimal t.1 ++ 58 ∷ signed_decimal t.2) h (signed_uncut t.0 s.1.0) (sym e ∙ s.0)

pub one_colon : (bytes low rest : List ℕ) → bytes ≡ low ++ 58 ∷ rest → IsUncut low → IsUncut rest → (t : Bounds) → SpellsBounds bytes t → ⊥
one_colon bytes low rest e h k t s = cut_within 58 (signed_decimal t.1) (signed_decimal t.2) (subst IsUncut (first_cut bytes low rest t e h s).1 k)

-- what three words spell, their bytes with colons between them do
pub bounds_read : {E : Type 0} (bytes low rest high start : List ℕ) (r : Result (Option Bounds) E) → bytes ≡ low ++ 58 ∷ rest → IsUncut low → rest ≡ high ++ 58 ∷ start → IsUncut high
    → IfOk r (λ o. MatchOption o ((t : Bounds) → ¬ SpellBounds low high start t) (SpellBounds low high start)) → IfOk r (λ o. MatchOption o ((t : Bounds) → ¬ SpellsBounds bytes t) (SpellsBounds bytes))
bounds_read bytes low rest high start (Err e) is h is2 k read = tt
bounds_read bytes low rest high start (Ok None) is h is2 k read = λ t s.
    let outer = first_cut bytes low rest t is h s in
    let inner = same_cut 58 high (signed_decimal t.1) start (signed_decimal t.2) k (signed_uncut t.1 s.1.1) (sym is2 ∙ outer.1) in
    read t ((outer.0, s.1.0), (inner.0, s.1.1), (inner.1, s.1.2))
bounds_read bytes low rest high start (Ok (Some t)) is h is2 k read =
    (is ∙ ap (λ l. l ++ 58 ∷ rest) read.0.0 ∙ ap (λ l. signed_decimal t.0 ++ 58 ∷ l) (is2 ∙ ap (λ l. l ++ 58 ∷ start) read.1.0 ∙ ap (λ l. signed_decimal t.1 ++ 58 ∷ l) read.2.0), (read.0.1, read.1.1, read.2.1))

-- ---- several words

-- the word at a place spells no counter
pub one_bad : (words : List (Bor (List ℕ))) (i : ℕ) (d : Bor (List ℕ)) → i < length words → IsNoCounter (get_or words i d).now → Any IsNoCounter (map (λ w. w.now) words)
one_bad words i d lt none = (
  i,
  (get_or words i d).now,
  subst (λ n. i < n) (sym (length-map words (λ w. w.now))) lt,
  get_or-map (λ (w : Bor (List ℕ)). w.now) words i d (get_or words i d).now lt,
  none,
)

pub one_more : (words : List (Bor (List ℕ))) (i : ℕ) (d : Bor (List ℕ)) (counters : List Bounds) (t : Bounds) → i < length words → SpellCounters (map (λ w. w.now) (take i words)) counters → SpellsCounter (get_or words i d).now t
    → SpellCounters (map (λ w. w.now) (take (i + 1) words)) (counters ++ t ∷ [])
one_more words i d counters t lt before s = record {
  texts = map-append counter_text counters (t ∷ []) ∙ ap (λ ts. ts ++ counter_text t ∷ []) before.texts ∙ ap (λ w. map (λ (w : Bor (List ℕ)). w.now) (take i words) ++ w ∷ []) (sym s.0)
      ∙ sym (map-append (λ (w : Bor (List ℕ)). w.now) (take i words) (get_or words i d ∷ [])) ∙ ap (map (λ (w : Bor (List ℕ)). w.now)) (sym (take_more words i d lt));
  wide = All-push AreWide counters t before.wide s.1;
}
