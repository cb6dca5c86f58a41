-- A script as bytes: its lines, each with LF after it.
use Rattle.std.specs.Prelude.{ℕ, List, ⊤}
use Rattle.mt_base.specs.declared.refusal.Refusal.{Refusal}
use Rattle.mt_script.specs.declared.lines.Line.{Line}
use Rattle.mt_script.specs.declared.reader.Script.{Script}
use Rattle.mt_script.specs.declared.reader.ScriptFault.{ScriptFault}
use Rattle.mt_script.specs.declared.reader.ScriptFault.TheVariants.{Input, Refused}
use Rattle.mt_script.specs.Grammars.{AreLines, AreRefusedFor}
use Rattle.mt_script.specs.Lines.{line_text, IsInGrammar}

-- the lines of a script
abbrev pub lines_in : Script → List Line
lines_in script = script.lines.items

-- the bytes are just these lines
abbrev pub IsScript : List ℕ → List Line → Type 0
IsScript bytes lines = AreLines line_text IsInGrammar bytes lines

-- why a script of these bytes is refused: for want of memory, or for its first bad line
abbrev pub IsRefusedFor : List ℕ → Refusal → Type 0
IsRefusedFor bytes why = AreRefusedFor line_text IsInGrammar bytes why

module _ {L : Type 0} (text : L → List ℕ) (IsIn : L → Type 0) where
  -- so are lines of any grammar, or the reader failed
  abbrev pub AreFaultyFor : List ℕ → ScriptFault → Type 0
  AreFaultyFor bytes Input = ⊤
  AreFaultyFor bytes (Refused why) = AreRefusedFor text IsIn bytes why

abbrev pub IsFaultOf : List ℕ → ScriptFault → Type 0
IsFaultOf bytes fault = AreFaultyFor line_text IsInGrammar bytes fault
