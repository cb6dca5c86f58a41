-- Texts that are read line by line, whatever the grammar of their lines.
use Rattle.std.specs.Prelude.{ℕ, ◌≡◌, ◌≢◌, ◌≤◌, ◌+◌, ◌⊎◌, List, [], ◌∷◌, ◌++◌, All, length, Option, MatchOption, ⊤}
use Rattle.mt_base.specs.declared.limits.TheConstants.{MAX_LINES, MAX_LINE_BYTES}
use Rattle.mt_base.specs.declared.refusal.Refusal.{Refusal}
use Rattle.mt_base.specs.declared.refusal.Refusal.TheVariants.{NoMemory, BadLine}

-- lines, each with LF after it; `text` says how one is spelled, without its end
unfoldable pub lines_text : {L : Type 0} → (L → List ℕ) → List L → List ℕ
lines_text text [] = []
lines_text text (line ∷ lines) = text line ++ 10 ∷ lines_text text lines

-- `IsIn` says which lines can be spelled
module _ {L : Type 0} (text : L → List ℕ) (IsIn : L → Type 0) where
  -- the bytes spell the line
  abbrev pub SpellsIn : List ℕ → L → Type 0
  SpellsIn bytes line = (bytes ≡ text line) × IsIn line

  -- a line that the bytes spell, or none if they spell none
  abbrev pub ReadsIn : List ℕ → Option L → Type 0
  ReadsIn bytes o = MatchOption o ((line : L) → ¬ SpellsIn bytes line) (SpellsIn bytes)

  -- a line of at most 4096 bytes, its end not counted
  abbrev pub IsShort : L → Type 0
  IsShort line = length (text line) ≤ MAX_LINE_BYTES

  -- the bytes are these lines and then a line under way
  pub record Gathered (bytes : List ℕ) (lines : List L) (line : List ℕ) : Type 0 where
    pub spelled : bytes ≡ lines_text text lines ++ line
    pub grammar : All IsIn lines
    pub short : All IsShort lines
    pub unbroken : All (λ b. b ≢ 10) line

  -- the bytes are just these lines
  pub record AreLines (bytes : List ℕ) (lines : List L) : Type 0 where
    pub spelled : bytes ≡ lines_text text lines
    pub grammar : All IsIn lines
    pub short : All IsShort lines
    pub few : length lines ≤ MAX_LINES

  -- the bytes begin with a line and its end
  abbrev pub BeginsWithLine : List ℕ → Type 0
  BeginsWithLine bytes = (line : L) × (rest : List ℕ) × (bytes ≡ text line ++ 10 ∷ rest) × IsIn line × IsShort line

  -- The line of this number, counted from 1, is the first that is not in the grammar: those before it
  -- are, and what follows them begins with no line, or follows 100,000.
  pub record IsFirstBad (bytes : List ℕ) (number : ℕ) : Type 0 where
    pub before : (lines : List L) × (rest : List ℕ) × (bytes ≡ lines_text text lines ++ rest) × All IsIn lines
        × All IsShort lines × (length lines ≤ MAX_LINES)
        × (number ≡ length lines + 1) × (rest ≢ []) × ((BeginsWithLine rest → ⊥) ⊎ (length lines ≡ MAX_LINES))

  -- why the lines of these bytes are refused: for want of memory, or for the first bad one
  abbrev pub AreRefusedFor : List ℕ → Refusal → Type 0
  AreRefusedFor bytes NoMemory = ⊤
  AreRefusedFor bytes (BadLine number) = IsFirstBad bytes number
  AreRefusedFor bytes _ = ⊥
