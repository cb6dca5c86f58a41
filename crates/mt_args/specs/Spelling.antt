-- How the words of a command spell numbers.
use Rattle.std.specs.Prelude.{ℕ, ℤ, ◌≡◌, ◌≢◌, ◌<◌, ◌≤◌, ◌^◌, List, ◌∷◌, ◌++◌, All, map}
use Rattle.std.specs.Fmt.{decimal, signed_decimal}
use Rattle.mt_script.specs.Lines.{IsWide, SpellsStep}

-- a number without a sign, which fits 64 bits with one
abbrev pub SpellsCount : List ℕ → ℕ → Type 0
SpellsCount word n = (word ≡ decimal n) × (n < 2 ^ 63)

abbrev pub IsNoCount : List ℕ → Type 0
IsNoCount word = (n : ℕ) → ¬ SpellsCount word n

-- such a number within limits
abbrev pub SpellsWithin : ℕ → ℕ → List ℕ → ℕ → Type 0
SpellsWithin low high word n = SpellsCount word n × (low ≤ n) × (n ≤ high)

abbrev pub IsNoneWithin : ℕ → ℕ → List ℕ → Type 0
IsNoneWithin low high word = (n : ℕ) → ¬ SpellsWithin low high word n

-- bytes with no colon among them
abbrev pub IsUncut : List ℕ → Type 0
IsUncut bytes = All (λ b. b ≢ 58) bytes

-- low and high bound and start of a counter
abbrev pub Bounds : Type 0
Bounds = ℤ × ℤ × ℤ

-- each of them by a word of its own
abbrev pub SpellBounds : List ℕ → List ℕ → List ℕ → Bounds → Type 0
SpellBounds low high start t = SpellsStep low t.0 × SpellsStep high t.1 × SpellsStep start t.2

-- LOW:HIGH:START
abbrev pub bounds_text : Bounds → List ℕ
bounds_text t = signed_decimal t.0 ++ 58 ∷ (signed_decimal t.1 ++ 58 ∷ signed_decimal t.2)

abbrev pub AreWide : Bounds → Type 0
AreWide t = IsWide t.0 × IsWide t.1 × IsWide t.2

abbrev pub SpellsBounds : List ℕ → Bounds → Type 0
SpellsBounds bytes t = (bytes ≡ bounds_text t) × AreWide t

-- cLOW:HIGH:START
abbrev pub counter_text : Bounds → List ℕ
counter_text t = 99 ∷ bounds_text t

abbrev pub SpellsCounter : List ℕ → Bounds → Type 0
SpellsCounter word t = (word ≡ counter_text t) × AreWide t

abbrev pub IsNoCounter : List ℕ → Type 0
IsNoCounter word = (t : Bounds) → ¬ SpellsCounter word t

-- these words spell these counters, in order
pub record SpellCounters (words : List (List ℕ)) (counters : List Bounds) : Type 0 where
  pub texts : map counter_text counters ≡ words
  pub wide : All AreWide counters
