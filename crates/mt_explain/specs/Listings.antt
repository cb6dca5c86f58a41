-- The lines of a base.
use Rattle.std.specs.Prelude.{ℕ, ◌+◌, ◌/◌, ◌%◌, ◌==◌, if◌then◌else◌, List, [], ◌∷◌, ◌++◌, codes, length, map, slice_index_or}
use Rattle.std.specs.Fmt.{decimal, signed_decimal}
use Rattle.std.specs.List.{concat}
use Rattle.mt_model.specs.declared.counters.Count.{Count}
use Rattle.mt_rows.specs.declared.rows.Row.{Row}

-- a hexadecimal digit, and the two of a byte
abbrev pub digit : ℕ → ℕ
digit n = slice_index_or (codes "0123456789abcdef") n 0

abbrev pub byte_text : ℕ → List ℕ
byte_text b = digit (b / 16) ∷ digit (b % 16) ∷ []

-- those of a key or a value; a dash is an empty one
abbrev pub hex_text : List ℕ → List ℕ
hex_text bytes = if length bytes == 0 then codes "-" else concat (map byte_text bytes)

-- row R KEY VALUE
abbrev pub row_start : ℕ → List ℕ
row_start relation = codes "row " ++ (decimal relation ++ 32 ∷ [])

abbrev pub row_line : Row → List ℕ
row_line r = (((row_start r.relation ++ hex_text r.key) ++ 32 ∷ []) ++ hex_text r.value) ++ 10 ∷ []

-- counter C VALUE
abbrev pub counter_line : ℕ → Count → List ℕ
counter_line c n = codes "counter " ++ (decimal c ++ 32 ∷ (signed_decimal n.number ++ 10 ∷ []))

-- a text of each, in order, with their numbers from this one on
abbrev pub numbered : {X : Type 0} → (ℕ → X → List ℕ) → ℕ → List X → List ℕ
numbered text n [] = []
numbered text n (x ∷ xs) = text n x ++ numbered text (n + 1) xs

abbrev pub counter_lines : List Count → List ℕ
counter_lines counts = numbered counter_line 0 counts
