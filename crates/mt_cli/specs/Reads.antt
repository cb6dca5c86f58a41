-- Scripts that are read by name: from files, and from the input if the name is a dash.
use Rattle.std.specs.Prelude.{ℕ, ◌≡◌, ◌||◌, Bool, cond, false, true, List, [], ◌∷◌, ◌++◌, Option, Some, None, IfSome, codes, length, nat_eq, nat_lt}
use Rattle.std.specs.List.{starts_with}
use Rattle.mt_frame.specs.declared.TheConstants.{OPEN_GATE}
use Rattle.mt_script.specs.Grammars.{IsFirstBad}
use Rattle.mt_script.specs.LineFaults.{fault_of_numbered, script_word}
use Rattle.mt_script.specs.Lines.{line_text, IsInGrammar}
use Rattle.mt_script.specs.Scripts.{IsScript}
use Rattle.mt_script.specs.declared.lines.Line.{Line}
use Rattle.mt_script.specs.declared.words.ScriptWord.{ScriptWord}
use Rattle.mt_folder.specs.Folders.{Files, IsUnmade, known_in}
use Rattle.mt_report.specs.ReadFaults.{is_input}
use Rattle.mt_report.specs.declared.faults.Fault.{Fault}
use Rattle.mt_report.specs.declared.faults.Fault.TheVariants as fault
use Rattle.mt_report.specs.declared.read_faults.TextFault.{TextFault}
use Rattle.mt_report.specs.declared.read_faults.TextFault.TheVariants.{Overlong, Device, Line as BadAt}
use Rattle.mt_cli.specs.declared.text_faults.TheConstants.{MAX_TEXT_BYTES}
use Rattle.mt_report.specs.declared.read_faults.ReadFault.{ReadFault}
use Rattle.mt_report.specs.declared.read_faults.ReadFault.TheVariants.{Refused, BadLine}

-- the bytes of a script of this name, if they are known
abbrev pub named_bytes : Files → List ℕ → Option (List ℕ) → Option (List ℕ)
named_bytes files name input = cond (is_input name) input (known_in files name)

-- the bytes of a script or a schedule, if they are known: of the input if there is no name
abbrev pub source_of : Files → Option (List ℕ) → Option (List ℕ) → Option (List ℕ)
source_of files None input = input
source_of files (Some name) input = named_bytes files name input

-- the input is read
abbrev pub is_fed : Option (List ℕ) → Bool
is_fed None = true
is_fed (Some name) = is_input name

-- the file that a name names: none if there is no name, or if it represents the input
abbrev pub file_in : Option (List ℕ) → Option (List ℕ)
file_in None = None
file_in (Some name) = cond (is_input name) None (Some name)

-- the bytes of a file, or else of the input
abbrev pub held_by : Files → Option (List ℕ) → Option (List ℕ) → Option (List ℕ)
held_by files None input = input
held_by files (Some name) input = known_in files name

-- the bytes begin as a device does: an open gate, and the letters of a format
abbrev pub is_device : List ℕ → Bool
is_device bytes =
    starts_with nat_eq bytes (OPEN_GATE ∷ codes "MTK1") || starts_with nat_eq bytes (OPEN_GATE ∷ codes "MTK2")

-- the bytes are more than any script or schedule has
abbrev pub is_overlong : List ℕ → Bool
is_overlong bytes = nat_lt MAX_TEXT_BYTES (length bytes)

-- These bytes were read of an input that held others, and so much is left of it: nothing, unless they are overlong.
pub record IsFront (front : List ℕ) (later : Option (List ℕ)) (held : List ℕ) : Type 0 where
  pub rest : List ℕ
  pub left : later ≡ Some rest
  pub whole : held ≡ front ++ rest
  pub ends : is_overlong front ≡ false → rest ≡ []

-- what is wrong with bytes, of which the line of this number is the first that is not in the grammar of these words
abbrev pub text_fault : {W : Type 0} → (List ℕ → Option W) → List ℕ → ℕ → TextFault W
text_fault word_at bytes number =
    cond (is_overlong bytes) Overlong (cond (is_device bytes) Device (BadAt (fault_of_numbered word_at bytes number)))

module _ {L W : Type 0} (text : L → List ℕ) (IsIn : L → Type 0) (word_at : List ℕ → Option W) where
  -- why these bytes are not read as lines: memory was wanting or the reader failed, or a line is not in the grammar
  abbrev pub AreUnreadFor : List ℕ → ReadFault W → Type 0
  AreUnreadFor bytes (Refused why) = IsUnmade why
  AreUnreadFor bytes (BadLine number fault) =
      IsFirstBad text IsIn bytes number × (fault ≡ text_fault word_at bytes number)

  -- if they are known
  abbrev pub IsUnread : Option (List ℕ) → ReadFault W → Type 0
  IsUnread bytes why = IfSome bytes (λ bs. AreUnreadFor bs why)

-- why a script of these bytes is not read
abbrev pub IsUnreadScript : Option (List ℕ) → ReadFault ScriptWord → Type 0
IsUnreadScript bytes why = IsUnread line_text IsInGrammar script_word bytes why

-- ---- several

-- what is known of the input after that: nothing, once it was read
abbrev pub input_behind : List ℕ → Option (List ℕ) → Option (List ℕ)
input_behind name input = cond (is_input name) None input

-- One script is read, and the input only if the name represents it.
pub record IsReadAt (files : Files) (input : Option (List ℕ)) (name : List ℕ) (lines : List Line)
    (later : Option (List ℕ)) : Type 0 where
  pub spelled : IfSome (named_bytes files name input) (λ bs. IsScript bs lines)
  pub untouched : is_input name ≡ false → later ≡ input

-- The scripts of these names are read one after the other: the bytes of each are its lines, if they are known. So
-- much is known of the input then.
pub data AreRead (files : Files) (input : Option (List ℕ)) : List (List ℕ) → List (List Line)
    → Option (List ℕ) → Type 0 where
  none_read : AreRead files input [] [] input
  one_read : (names : List (List ℕ)) (scripts : List (List Line)) (left : Option (List ℕ)) (name : List ℕ)
      (lines : List Line)
      → AreRead files input names scripts left → IfSome (named_bytes files name left) (λ bs. IsScript bs lines)
      → AreRead files input (names ++ name ∷ []) (scripts ++ lines ∷ []) (input_behind name left)

abbrev pub HaveBeenRead : Files → Option (List ℕ) → List (List ℕ) → List (List Line) → Type 0
HaveBeenRead files input names scripts = (left : Option (List ℕ)) × AreRead files input names scripts left

-- The first so many of them were read, and the next one was not, for this.
pub record AreUnread (files : Files) (input : Option (List ℕ)) (names : List (List ℕ)) (at : ℕ)
    (why : ReadFault ScriptWord) : Type 0 where
  pub before : List (List ℕ)
  pub name : List ℕ
  pub rest : List (List ℕ)
  pub split : names ≡ before ++ name ∷ rest
  pub many : length before ≡ at
  pub scripts : List (List Line)
  pub left : Option (List ℕ)
  pub read : AreRead files input before scripts left
  pub unread : IsUnreadScript (named_bytes files name left) why

-- that is the fault: one of them, by its index, was not read
abbrev pub HasNoScript : Files → Option (List ℕ) → List (List ℕ) → Fault → Type 0
HasNoScript files input names (fault.Unread why at) = AreUnread files input names at why
HasNoScript files input names (fault.Unscheduled why) = ⊥
HasNoScript files input names (fault.Stopped at) = ⊥
HasNoScript files input names (fault.Refused why) = ⊥
HasNoScript files input names fault.Output = ⊥
