-- What is reported of a command that did not end well.
use Rattle.std.specs.Prelude.{ℕ, List, [], ◌∷◌, ◌++◌, ◌-◌, Option, Some, None, cond, codes, get_or, length, map, nat_lt, string_bytes, ◌==◌}
use Rattle.std.specs.Fmt.{decimal}
use Rattle.mt_base.specs.declared.limits.TheConstants.{MASTER_BYTES}
use Rattle.mt_base.specs.declared.refusal.Refusal.{Refusal}
use Rattle.mt_base.specs.declared.refusal.Refusal.TheVariants as refusal
use Rattle.mt_script.specs.Answers.{AppendsFront, answer_text}
use Rattle.mt_script.specs.LineFaults.{script_form, script_words}
use Rattle.mt_script.specs.declared.faults.LineFault.{LineFault}
use Rattle.mt_script.specs.declared.faults.LineFault.TheVariants.{TooManyLines, TooLong, Unended, Blank, CarriageReturn, Tab, Unprintable, UnknownWord, WrongOperands}
use Rattle.mt_script.specs.declared.answers.Answer.TheVariants.{Refused as RefusedLine}
use Rattle.mt_args.specs.declared.command.Command.{Command}
use Rattle.mt_args.specs.declared.command.Command.TheVariants.{Try, Schedule, Check, Format, Dump, Explain, Migrate, Run, Show}
use Rattle.mt_report.specs.declared.faults.Fault.{Fault}
use Rattle.mt_report.specs.declared.faults.Fault.TheVariants.{Output, Refused, Stopped, Unread, Unscheduled}
use Rattle.mt_folder.specs.Reasons.{reason_text}
use Rattle.mt_folder.specs.declared.reason.Reason.{Reason}
use Rattle.mt_report.specs.Excess.{excess_in, excess_text}
use Rattle.mt_report.specs.EventWords.{event_form, event_words}
use Rattle.mt_report.specs.ReadFaults.{is_input, refusal_in}
use Rattle.mt_report.specs.declared.read_faults.ReadFault.{ReadFault}
use Rattle.mt_report.specs.declared.read_faults.ReadFault.TheVariants.{Refused as NotHad, BadLine}
use Rattle.mt_report.specs.declared.read_faults.TextFault.{TextFault}
use Rattle.mt_report.specs.declared.read_faults.TextFault.TheVariants.{Overlong, Device, Line as BadAt}

-- the line that reports a fault
abbrev pub fault_line : Fault → List ℕ
fault_line Output = codes "the output cannot be written\n"
fault_line (Refused why) = answer_text (RefusedLine why) ++ 10 ∷ []
fault_line (Stopped at) = answer_text (RefusedLine at.why) ++ 10 ∷ []
fault_line (Unread why at) = answer_text (RefusedLine (refusal_in why)) ++ 10 ∷ []
fault_line (Unscheduled why) = answer_text (RefusedLine (refusal_in why)) ++ 10 ∷ []

-- what to do about bytes that break the format at an offset: below 8192 it is a master slot, which holds the length
abbrev pub advice_at : ℕ → List ℕ
advice_at place = cond (nat_lt place MASTER_BYTES) (codes
    "the file is shorter than its first bytes tell, or these are damaged; take a copy that is whole")
    (codes "the bytes at that place are none that a device can have; keep a copy of the file")

-- what to do if memory was wanting: frames are what `run` takes
abbrev pub memory_advice : Command → List ℕ
memory_advice (Run s wait) = codes "there is not enough memory; `run` takes less with fewer frames"
memory_advice _ = codes "there is not enough memory"

-- why a file is not had: the reason, if the folder knows it
abbrev pub file_advice : Option Reason → List ℕ
file_advice None =
    codes "see that it is there, can be read and written, is open in no other program, and that its disk has room"
file_advice (Some reason) = reason_text reason

-- and why a script is not read
abbrev pub script_advice : Option Reason → List ℕ
script_advice None = codes "see that it is there and can be read"
script_advice (Some reason) = reason_text reason

-- what to do about a device of another format than a command takes
abbrev pub format_advice : Command → List ℕ
format_advice (Migrate file growth wait) = codes "it is of format 2 already, and can be opened"
format_advice _ = codes "it is of format 1; `mtk migrate` carries it over to format 2"

-- what to do about a refusal of a command, if the folder's call failed for this reason
abbrev pub advice_on : Command → Option Reason → Refusal → List ℕ
advice_on command reason refusal.NoMemory = memory_advice command
advice_on command reason refusal.DeviceFailed = file_advice reason
advice_on command reason refusal.NotFormatted =
    codes "this is no device, or its format did not end; `mtk format` makes one"
advice_on command reason (refusal.BadFormat place) = advice_at place
advice_on command reason refusal.BadLength = excess_text (excess_in command)
advice_on command reason refusal.LogFull =
    codes "its log cannot be turned over; keep the file, which `mtk check` still reads"
advice_on command reason refusal.WrongFormat = format_advice command
advice_on command reason _ = codes "see docs/MANUAL.md"

-- ---- a script or a schedule that was not read

-- what is said of one that is a device; `run` takes it before its scripts
abbrev pub device_advice : Command → List ℕ
device_advice (Run s wait) = codes "that is a device, and no script; FILE comes first"
device_advice (Schedule file) = codes "that is a device, and no schedule"
device_advice _ = codes "that is a device, and no script"

-- `form` says how a line is written that begins with a word; these are all words
module _ {W : Type 0} (form : W → List ℕ) (all_words : List ℕ) where
  -- what is wrong with the line
  abbrev pub line_advice : LineFault W → List ℕ
  line_advice TooManyLines = codes "there are more than 100,000 lines"
  line_advice TooLong = codes "that line has more than 4,096 bytes"
  line_advice Unended = codes "that line is the last, and no line feed ends it"
  line_advice Blank = codes "that line is blank"
  line_advice CarriageReturn =
      codes "that line ends with a carriage return and a line feed; a line feed alone ends a line"
  line_advice Tab = codes "that line has a tab; one space stands between two words"
  line_advice Unprintable = codes "that line has a byte that is not printable ASCII (0x20 to 0x7E)"
  line_advice UnknownWord =
      codes "that line begins with none of these words: " ++ (all_words ++ codes "; see docs/MANUAL.md")
  line_advice (WrongOperands word) = codes "that line has to be `" ++ (form word ++ codes "`; see docs/MANUAL.md")

  abbrev pub text_advice : Command → TextFault W → List ℕ
  text_advice command Overlong = codes "that text is longer than 100,000 lines of 4,096 bytes"
  text_advice command Device = device_advice command
  text_advice command (BadAt why) = line_advice why

  -- why it was not read, if the folder's call failed for this reason
  abbrev pub unread_advice : Command → Option Reason → ReadFault W → List ℕ
  unread_advice command reason (NotHad refusal.DeviceFailed) = script_advice reason
  unread_advice command reason (NotHad why) = advice_on command reason why
  unread_advice command reason (BadLine number fault) = text_advice command fault

-- ---- a fault

-- where a run stopped
abbrev pub stop_advice : ℕ → List ℕ
stop_advice line = codes "line " ++ (decimal line ++ codes " was refused so, and nothing after it ran")

abbrev pub advice_of : Command → Option Reason → Fault → List ℕ
advice_of command reason Output =
    codes "see that its disk has room and that its reader goes on; what was committed stands"
advice_of command reason (Refused why) = advice_on command reason why
advice_of command reason (Stopped at) = stop_advice at.line
advice_of command reason (Unread why at) = unread_advice script_form script_words command reason why
advice_of command reason (Unscheduled why) = unread_advice event_form event_words command reason why

-- a file's name, as it is printed, and a script's
abbrev pub shown_file : List ℕ → List ℕ
shown_file name = cond (length name == 0) (codes "''") name

abbrev pub shown_name : List ℕ → List ℕ
shown_name name = cond (is_input name) (codes "standard input") (shown_file name)

-- the file that a command names first, or the input
abbrev pub named_in : Command → List ℕ
named_in (Try None stop) = codes "standard input"
named_in (Try (Some name) stop) = shown_name (string_bytes name)
named_in (Schedule None) = codes "standard input"
named_in (Schedule (Some name)) = shown_name (string_bytes name)
named_in (Check file pages wait) = shown_file (string_bytes file)
named_in (Format file numbers wait) = shown_file (string_bytes file)
named_in (Dump file wait) = shown_file (string_bytes file)
named_in (Explain file wait) = shown_file (string_bytes file)
named_in (Migrate file growth wait) = shown_file (string_bytes file)
named_in (Run s wait) = shown_file (string_bytes s.file)
named_in (Show text) = codes "mtk"

-- the script at this index of those that it names, of which all but `run` name one
abbrev pub script_named : Command → ℕ → List ℕ
script_named (Run s wait) at = shown_name (get_or (map string_bytes s.scripts.items) at [])
script_named command at = named_in command

-- the file or the stream that a fault of a command is about
abbrev pub about : Command → Fault → List ℕ
about command Output = codes "standard output"
about command (Refused why) = named_in command
about command (Stopped at) = script_named command (at.session - 1)
about command (Unread why at) = script_named command at
about command (Unscheduled why) = named_in command

-- the line after it: what it is about, and what to do
abbrev pub advice_line : List ℕ → List ℕ → List ℕ
advice_line name advice = (name ++ codes ": ") ++ (advice ++ 10 ∷ [])

abbrev pub reported_text : List ℕ → List ℕ → Fault → List ℕ
reported_text name advice fault = fault_line fault ++ advice_line name advice

-- so of a fault of a command, if the folder's call failed for this reason
abbrev pub reported_of : Command → Option Reason → Fault → List ℕ
reported_of command reason fault = reported_text (about command fault) (advice_of command reason fault) fault

-- and of words that are not read for want of memory
abbrev pub unread_text : List ℕ
unread_text = reported_text (codes "mtk") (codes "there is not enough memory") (Refused refusal.NoMemory)

-- the line of a fault of a command was written, and after it what it is about and what to do, or a beginning of that.
-- The folder's call failed for this reason, if one did.
abbrev pub IsReportedOf : Command → Option Reason → Fault → Option (List ℕ) → Option (List ℕ) → Type 0
IsReportedOf command reason fault was now = AppendsFront was now (reported_of command reason fault)
