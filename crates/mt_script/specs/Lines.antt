-- The lines of a script, as bytes.
use Rattle.std.specs.Prelude.{ℕ, ℤ, ◌≡◌, ◌≢◌, ◌≤◌, ◌<◌, ◌^◌, ◌≤ℤ◌, pos, neg_ℤ, List, ◌∷◌, ◌++◌, All, Option, length, codes, ⊤}
use Rattle.std.specs.Fmt.{decimal, signed_decimal}
use Rattle.mt_model.specs.declared.operations.Op.{Op}
use Rattle.mt_model.specs.declared.operations.Op.TheVariants.{Get, Insert, Update, Delete, Add, Read, Scan}
use Rattle.mt_script.specs.Grammars.{ReadsIn, SpellsIn}
use Rattle.mt_script.specs.declared.lines.Line.{Line}
use Rattle.mt_script.specs.declared.lines.Line.TheVariants.{Begin, Call, Save, Back, Commit, Abort}

-- bytes with no space among them
abbrev pub IsUnspaced : List ℕ → Type 0
IsUnspaced bytes = All (λ b. b ≢ 32) bytes

-- a key's bytes: one or more, graphic
abbrev pub IsWord : List ℕ → Type 0
IsWord bytes = (1 ≤ length bytes) × All (λ b. (33 ≤ b) × (b ≤ 126)) bytes

-- a value's bytes: spaces too, or none at all
abbrev pub IsText : List ℕ → Type 0
IsText bytes = All (λ b. (32 ≤ b) × (b ≤ 126)) bytes

-- the number of a relation, a counter or a savepoint
abbrev pub IsPlace : ℕ → Type 0
IsPlace n = n < 2 ^ 16

-- a number of 64 bits with its sign
abbrev pub IsWide : ℤ → Type 0
IsWide n = (neg_ℤ (pos 9223372036854775808) ≤ℤ n) × (n ≤ℤ pos 9223372036854775807)

-- the bytes spell a step of a counter
abbrev pub SpellsStep : List ℕ → ℤ → Type 0
SpellsStep bytes n = (bytes ≡ signed_decimal n) × IsWide n

-- a relation and a key
abbrev pub SpellsKey : List ℕ → ℕ → List ℕ → Type 0
SpellsKey bytes r k = (bytes ≡ decimal r ++ 32 ∷ k) × IsPlace r × IsWord k

-- and a value after them
abbrev pub SpellsRow : List ℕ → ℕ → List ℕ → List ℕ → Type 0
SpellsRow bytes r k v = (bytes ≡ decimal r ++ 32 ∷ k ++ 32 ∷ v) × IsPlace r × IsWord k × IsText v

-- how an operation is spelled
abbrev pub op_text : Op → List ℕ
op_text (Get r k) = codes "get" ++ 32 ∷ decimal r ++ 32 ∷ k
op_text (Insert r k v) = codes "insert" ++ 32 ∷ decimal r ++ 32 ∷ k ++ 32 ∷ v
op_text (Update r k v) = codes "update" ++ 32 ∷ decimal r ++ 32 ∷ k ++ 32 ∷ v
op_text (Delete r k) = codes "delete" ++ 32 ∷ decimal r ++ 32 ∷ k
op_text (Add c n) = codes "add" ++ 32 ∷ decimal c ++ 32 ∷ signed_decimal n
op_text (Read c) = codes "read" ++ 32 ∷ decimal c
op_text (Scan r) = codes "scan" ++ 32 ∷ decimal r

-- an operation that can be spelled
abbrev pub IsSpelled : Op → Type 0
IsSpelled (Get r k) = IsPlace r × IsWord k
IsSpelled (Insert r k v) = IsPlace r × IsWord k × IsText v
IsSpelled (Update r k v) = IsPlace r × IsWord k × IsText v
IsSpelled (Delete r k) = IsPlace r × IsWord k
IsSpelled (Add c n) = IsPlace c × IsWide n
IsSpelled (Read c) = IsPlace c
IsSpelled (Scan r) = IsPlace r

-- the bytes spell the operation
abbrev pub SpellsOp : List ℕ → Op → Type 0
SpellsOp bytes op = SpellsIn op_text IsSpelled bytes op

-- an operation that the bytes spell, or none if they spell none
abbrev pub ReadsOp : List ℕ → Option Op → Type 0
ReadsOp bytes o = ReadsIn op_text IsSpelled bytes o

-- how a line is spelled, without its end
abbrev pub line_text : Line → List ℕ
line_text Begin = codes "begin"
line_text (Call op) = op_text op
line_text Save = codes "save"
line_text (Back n) = codes "back" ++ 32 ∷ decimal n
line_text Commit = codes "commit"
line_text Abort = codes "abort"

-- a line of the grammar
abbrev pub IsInGrammar : Line → Type 0
IsInGrammar (Call op) = IsSpelled op
IsInGrammar (Back n) = IsPlace n
IsInGrammar _ = ⊤

-- the bytes spell the line
abbrev pub Spells : List ℕ → Line → Type 0
Spells bytes line = SpellsIn line_text IsInGrammar bytes line

-- a line that the bytes spell, or none if they spell none
abbrev pub ReadsLine : List ℕ → Option Line → Type 0
ReadsLine bytes o = ReadsIn line_text IsInGrammar bytes o
