-- What is wrong with a line of a text.
use Rattle.std.specs.Prelude.{ℕ, ◌-◌, ◌==◌, ◌||◌, Bool, cond, List, [], Option, Some, None, bytes_eq, codes, count_by, get_or, length, nat_lt, slice_get, unwrap_or}
use Rattle.std.specs.List.{before_first, list_all, list_any, slice_split}
use Rattle.mt_base.specs.declared.limits.TheConstants.{MAX_LINES, MAX_LINE_BYTES}
use Rattle.mt_script.specs.declared.faults.LineFault.{LineFault}
use Rattle.mt_script.specs.declared.faults.LineFault.TheVariants.{TooManyLines, TooLong, Unended, Blank, CarriageReturn, Tab, Unprintable, UnknownWord, WrongOperands}
use Rattle.mt_script.specs.declared.words.ScriptWord.{ScriptWord}
use Rattle.mt_script.specs.declared.words.ScriptWord.TheVariants.{Begin, Get, Insert, Update, Delete, Add, Read, Scan, Save, Back, Commit, Abort}

abbrev pub is_line_feed : ℕ → Bool
is_line_feed byte = byte == 10

-- a text's lines: what its line feeds part
abbrev pub lines_of : List ℕ → List (List ℕ)
lines_of bytes = slice_split is_line_feed bytes

-- the line of this number, counted from 1
abbrev pub line_at : List ℕ → ℕ → List ℕ
line_at bytes number = unwrap_or (slice_get (lines_of bytes) (number - 1)) []

-- no line feed ends the line of this number: there are fewer line feeds
abbrev pub is_unended : List ℕ → ℕ → Bool
is_unended bytes number = nat_lt (count_by is_line_feed bytes) number

-- the last byte is a carriage return
abbrev pub ends_in_return : List ℕ → Bool
ends_in_return line = get_or line (length line - 1) 0 == 13

-- it has no byte but spaces
abbrev pub is_blank : List ℕ → Bool
is_blank line = list_all (λ byte. byte == 32) line

-- a byte is a tab
abbrev pub has_tab : List ℕ → Bool
has_tab line = list_any (λ byte. byte == 9) line

-- a byte is not printable ASCII
abbrev pub is_unprintable : ℕ → Bool
is_unprintable byte = nat_lt byte 32 || nat_lt 126 byte

abbrev pub has_unprintable : List ℕ → Bool
has_unprintable line = list_any is_unprintable line

-- what stands before the first space
abbrev pub first_word : List ℕ → List ℕ
first_word line = before_first (λ byte. byte == 32) line

-- `word_at` says which word of the grammar bytes are
module _ {W : Type 0} (word_at : List ℕ → Option W) where
  -- a line that begins with this word, if it is one
  abbrev pub fault_of_word : Option W → LineFault W
  fault_of_word None = UnknownWord
  fault_of_word (Some word) = WrongOperands word

  -- a line of printable bytes
  abbrev pub fault_of_words : List ℕ → LineFault W
  fault_of_words line = fault_of_word (word_at (first_word line))

  -- a line that ends, and is not too long
  abbrev pub fault_of_line : List ℕ → LineFault W
  fault_of_line line =
      cond (is_blank line) Blank (cond (ends_in_return line) CarriageReturn (cond (has_tab line) Tab
      (cond (has_unprintable line) Unprintable (fault_of_words line))))

  -- the line of this number
  abbrev pub fault_of_numbered : List ℕ → ℕ → LineFault W
  fault_of_numbered bytes number =
      cond (nat_lt MAX_LINES number) TooManyLines (cond (nat_lt MAX_LINE_BYTES (length (line_at bytes number))) TooLong
      (cond (is_unended bytes number) Unended (fault_of_line (line_at bytes number))))

-- ---- the words of scripts

-- the word that the bytes are
abbrev pub script_word : List ℕ → Option ScriptWord
script_word bytes =
    cond (bytes_eq bytes (codes "begin")) (Some Begin) (cond (bytes_eq bytes (codes "get")) (Some Get)
    (cond (bytes_eq bytes (codes "insert")) (Some Insert) (cond (bytes_eq bytes (codes "update")) (Some Update)
    (cond (bytes_eq bytes (codes "delete")) (Some Delete) (cond (bytes_eq bytes (codes "add")) (Some Add)
    (cond (bytes_eq bytes (codes "read")) (Some Read) (cond (bytes_eq bytes (codes "scan")) (Some Scan)
    (cond (bytes_eq bytes (codes "save")) (Some Save) (cond (bytes_eq bytes (codes "back")) (Some Back)
    (cond (bytes_eq bytes (codes "commit")) (Some Commit) (cond (bytes_eq bytes (codes "abort")) (Some Abort)
    None)))))))))))

-- how a line is written that begins with it
abbrev pub script_form : ScriptWord → List ℕ
script_form Begin = codes "begin"
script_form Get = codes "get RELATION KEY"
script_form Insert = codes "insert RELATION KEY VALUE"
script_form Update = codes "update RELATION KEY VALUE"
script_form Delete = codes "delete RELATION KEY"
script_form Add = codes "add COUNTER AMOUNT"
script_form Read = codes "read COUNTER"
script_form Scan = codes "scan RELATION"
script_form Save = codes "save"
script_form Back = codes "back COUNT"
script_form Commit = codes "commit"
script_form Abort = codes "abort"

abbrev pub script_words : List ℕ
script_words = codes "begin, get, insert, update, delete, add, read, scan, save, back, commit, abort"
