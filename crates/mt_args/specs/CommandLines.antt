-- The program's command line, in the words of the crate that reads it.
use Rattle.std.specs.Prelude.{ℕ, ◌≡◌, ◌≢◌, ◌<◌, ◌≤◌, ◌⊎◌, Any, Bool, true, false, codes, List, [], Option, Some, None, map, option_map, string_bytes, unwrap_or}
use Rattle.mt_base.specs.declared.limits.TheConstants.{MAX_FRAMES, MAX_WORKERS, MIN_FRAMES}
use Rattle.clap.specs.Words.{App, Row, app_of, Rule, Text, new_app, new_rule, with_rule, with_subcommand, all_of, first_of, one_of, rule_of, subcommand_of, takes, kind_of, HasKind, IsAmong, Kinds, fault_of}
use Rattle.clap.specs.declared.builder.action.ArgAction.TheVariants.{Append, SetTrue}
use Rattle.clap.specs.declared.builder.arg.Arg.{Arg}
use Rattle.clap.specs.declared.builder.command.Command.{Command as Parser}
use Rattle.clap.specs.declared.builder.command.Command.TheViews.{out-Command}
use Rattle.clap.specs.declared.error.Error.{Error}
use Rattle.clap.specs.declared.error.kind.ErrorKind.{ErrorKind}
use Rattle.clap.specs.declared.error.kind.ErrorKind.TheVariants.{OutOfMemory, DisplayHelp, DisplayVersion}
use Rattle.mt_base.specs.declared.refusal.Refusal.TheVariants as refusal
use Rattle.mt_args.specs.Spelling.{SpellCounters, IsNoCount, IsNoCounter, IsNoneWithin, SpellsCount, SpellsWithin}
use Rattle.mt_args.specs.declared.command.Command.{Command}
use Rattle.mt_args.specs.declared.command.Command.TheVariants.{Try, Schedule, Check, Format, Dump, Explain, Migrate, Run, Show}
use Rattle.mt_args.specs.declared.numbers.Growth.{Growth}
use Rattle.mt_args.specs.declared.numbers.Numbers.{Numbers}
use Rattle.mt_args.specs.declared.run_words.Serving.{Serving}
use Rattle.mt_args.specs.declared.command.CliFault.{CliFault}
use Rattle.mt_args.specs.declared.command.CliFault.TheVariants.{Usage, Refused}
use Rattle.mt_args.specs.declared.waits.TheConstants.{MAX_WAIT}

-- `--wait SECONDS`, of the commands on a device in a file, and `--stop`, of those that run scripts
abbrev pub wait_rule : Rule
wait_rule = record (new_rule (codes "wait")) { long = Some (codes "wait"); value_names = 1 }

abbrev pub stop_rule : Rule
stop_rule = record (new_rule (codes "stop")) { long = Some (codes "stop"); action = Some SetTrue }

-- `try [--stop] [SCRIPT]`
abbrev pub script_rule : Rule
script_rule = record (new_rule (codes "script")) { value_names = 1 }

abbrev pub trial : App
trial = with_rule (with_rule (new_app (codes "try")) stop_rule) script_rule

-- `schedule [FILE]`
abbrev pub file_rule : Rule
file_rule = record (new_rule (codes "file")) { value_names = 1 }

abbrev pub scheduling : App
scheduling = with_rule (new_app (codes "schedule")) file_rule

-- `check [--pages] [--wait SECONDS] FILE`
abbrev pub pages_rule : Rule
pages_rule = record (new_rule (codes "pages")) { long = Some (codes "pages"); action = Some SetTrue }

abbrev pub required_rule : Text → Rule
required_rule id = record (new_rule id) { value_names = 1; required = true }

abbrev pub checking : App
checking =
    with_rule (with_rule (with_rule (new_app (codes "check")) pages_rule) wait_rule) (required_rule (codes "file"))

-- `format [--wait SECONDS] FILE PAGES AREA RELATIONS [COUNTER..]`
abbrev pub sizing : App
sizing = with_rule (with_rule (with_rule (with_rule (with_rule (new_app (codes "format")) wait_rule)
    (required_rule (codes "file"))) (required_rule (codes "pages"))) (required_rule (codes "area")))
    (required_rule (codes "relations"))

abbrev pub counter_rule : Rule
counter_rule = record (new_rule (codes "counter")) { value_names = 1; action = Some Append }

abbrev pub formatting : App
formatting = with_rule sizing counter_rule

-- `dump [--wait SECONDS] FILE`, `explain [--wait SECONDS] FILE`
abbrev pub on_file : Text → App
on_file name = with_rule (with_rule (new_app name) wait_rule) (required_rule (codes "file"))

-- `migrate [--wait SECONDS] FILE RELATIONS [COUNTER..]`
abbrev pub migrating : App
migrating = with_rule (with_rule (on_file (codes "migrate")) (required_rule (codes "relations"))) counter_rule

-- `run [--frames N] [--wait SECONDS] [--stop] FILE WORKERS SCRIPT..`
abbrev pub frames_rule : Rule
frames_rule = record (new_rule (codes "frames")) { long = Some (codes "frames"); value_names = 1 }

abbrev pub scripts_rule : Rule
scripts_rule = record (new_rule (codes "script")) { value_names = 1; required = true; action = Some Append }

abbrev pub serving : App
serving = with_rule (with_rule (with_rule (with_rule (with_rule (with_rule (new_app (codes "run")) frames_rule)
    wait_rule) stop_rule) (required_rule (codes "file"))) (required_rule (codes "workers"))) scripts_rule

-- `mtk`, whose words are those after its name, one of them the command's name
abbrev pub bare : App
bare = record (new_app (codes "mtk")) {
  top = record (new_app (codes "mtk")).top
      { has_version = true; no_binary_name = true; subcommand_required = true };
}

abbrev pub program : App
program =
    with_subcommand (with_subcommand (with_subcommand (with_subcommand (with_subcommand
    (with_subcommand (with_subcommand (with_subcommand bare trial.top) scheduling.top) checking.top) formatting.top)
    (on_file (codes "dump")).top)
    (on_file (codes "explain")).top) migrating.top) serving.top

-- a parser of this command line, none of whose arguments counts for others
pub record Parses (app : App) (parser : Parser) : Type 0 where
  pub shape : app_of parser ≡ app
  pub local : (out-Command parser).has_globals ≡ false

-- an argument of this rule that counts for its own command alone
pub record IsRuledBy (by : Rule) (arg : Arg) : Type 0 where
  pub rule : rule_of arg ≡ by
  pub local : arg.global ≡ false

-- the words are a command
unfoldable pub fits : List Text → Bool
fits words = takes program words

-- the script that the words name
abbrev pub script_in : Option (Text × List Row) → Option Text
script_in None = None
script_in (Some found) = first_of (codes "script") found.1

-- the schedule that they name
abbrev pub file_in : Option (Text × List Row) → Option Text
file_in None = None
file_in (Some found) = first_of (codes "file") found.1

-- the name of the command that they enter
abbrev pub name_in : Option (Text × List Row) → Option Text
name_in entered = option_map (λ p. p.0) entered

-- the file that they must name
abbrev pub device_in : Option (Text × List Row) → Text
device_in entered = unwrap_or (file_in entered) []

-- a flag that was found with this text, if it was found
pub record IsFlag (text : Option Text) (set : Bool) : Type 0 where
  pub given : text ≡ Some (codes "true") → set ≡ true
  pub left_out : text ≡ Some (codes "false") → set ≡ false
  pub none : text ≡ None → set ≡ false

-- whether they ask for the pages
abbrev pub pages_word : Option (Text × List Row) → Option Text
pages_word None = None
pages_word (Some found) = one_of (codes "pages") found.1

-- whether a refused line is to end a script
abbrev pub stop_in : Option (Text × List Row) → Option Text
stop_in None = None
stop_in (Some found) = one_of (codes "stop") found.1

-- how long a file is to be waited for
abbrev pub wait_in : Option (Text × List Row) → Option Text
wait_in None = None
wait_in (Some found) = first_of (codes "wait") found.1

-- so many seconds are asked for: 0 if none are
abbrev pub AreSeconds : Option Text → ℕ → Type 0
AreSeconds None n = n ≡ 0
AreSeconds (Some word) n = SpellsWithin 0 MAX_WAIT word n

abbrev pub AreNoSeconds : Option Text → Type 0
AreNoSeconds None = ⊥
AreNoSeconds (Some word) = IsNoneWithin 0 MAX_WAIT word

-- the word of an argument that must be given, and those of the counters
abbrev pub text_at : Text → List Row → Text
text_at id rows = unwrap_or (first_of id rows) []

abbrev pub counters_at : List Row → List Text
counters_at rows = unwrap_or (all_of (codes "counter") rows) []

-- they spell these numbers
pub record AreNumbersAt (rows : List Row) (n : Numbers) : Type 0 where
  pub pages : SpellsCount (text_at (codes "pages") rows) n.pages
  pub area : SpellsCount (text_at (codes "area") rows) n.area
  pub relations : SpellsCount (text_at (codes "relations") rows) n.relations
  pub counters : SpellCounters (counters_at rows) n.counters.items

abbrev pub AreNumbersIn : Option (Text × List Row) → Numbers → Type 0
AreNumbersIn None n = ⊥
AreNumbersIn (Some found) n = AreNumbersAt found.1 n

-- one of them spells no number, or no counter
abbrev pub IsMisspelledAt : List Row → Type 0
IsMisspelledAt rows = IsNoCount (text_at (codes "pages") rows) ⊎ IsNoCount (text_at (codes "area") rows)
    ⊎ IsNoCount (text_at (codes "relations") rows) ⊎ Any IsNoCounter (counters_at rows)

-- ---- `migrate`

-- they spell what a schema is to get more
pub record IsGrowthAt (rows : List Row) (g : Growth) : Type 0 where
  pub relations : SpellsCount (text_at (codes "relations") rows) g.relations
  pub counters : SpellCounters (counters_at rows) g.counters.items

abbrev pub IsGrowthIn : Option (Text × List Row) → Growth → Type 0
IsGrowthIn None g = ⊥
IsGrowthIn (Some found) g = IsGrowthAt found.1 g

-- one of them spells no number, or no counter
abbrev pub IsNoGrowthAt : List Row → Type 0
IsNoGrowthAt rows = IsNoCount (text_at (codes "relations") rows) ⊎ Any IsNoCounter (counters_at rows)

-- ---- `run`

-- so many frames are asked for: 256 if none are
abbrev pub AreFrames : Option Text → ℕ → Type 0
AreFrames None n = n ≡ 256
AreFrames (Some word) n = SpellsWithin MIN_FRAMES MAX_FRAMES word n

abbrev pub AreNoFrames : Option Text → Type 0
AreNoFrames None = ⊥
AreNoFrames (Some word) = IsNoneWithin MIN_FRAMES MAX_FRAMES word

-- the names of the scripts
abbrev pub scripts_at : List Row → List Text
scripts_at rows = unwrap_or (all_of (codes "script") rows) []

-- frames, workers and scripts
pub record IsServingAt (rows : List Row) (s : Serving) : Type 0 where
  pub frames : AreFrames (first_of (codes "frames") rows) s.frames
  pub workers : SpellsWithin 1 MAX_WORKERS (text_at (codes "workers") rows) s.workers
  pub scripts : map string_bytes s.scripts.items ≡ scripts_at rows

abbrev pub IsServingIn : Option (Text × List Row) → Serving → Type 0
IsServingIn None s = ⊥
IsServingIn (Some found) s = IsServingAt found.1 s

-- a run is to stop that has several workers
abbrev pub AreManyToStop : List Row → Type 0
AreManyToStop rows =
    IsFlag (one_of (codes "stop") rows) true
    × ((w : ℕ) × SpellsWithin 1 MAX_WORKERS (text_at (codes "workers") rows) w × (1 < w))

-- there are no such numbers of frames or of workers, or a stop wants fewer of these
abbrev pub IsUnlimitedAt : List Row → Type 0
IsUnlimitedAt rows =
    AreNoFrames (first_of (codes "frames") rows) ⊎ IsNoneWithin 1 MAX_WORKERS (text_at (codes "workers") rows)
    ⊎ AreManyToStop rows

-- ----

-- a number is misspelled, or one that `run` names or the seconds of a wait are outside their limits
abbrev pub IsMisspelled : Option (Text × List Row) → Type 0
IsMisspelled None = ⊥
IsMisspelled (Some found) = ((found.0 ≡ codes "format") × IsMisspelledAt found.1)
    ⊎ ((found.0 ≡ codes "migrate") × IsNoGrowthAt found.1)
    ⊎ ((found.0 ≡ codes "run") × IsUnlimitedAt found.1) ⊎ AreNoSeconds (first_of (codes "wait") found.1)

-- no command on a device in a file
abbrev pub IsRun : Text → Type 0
IsRun name = (name ≢ codes "check") × (name ≢ codes "format") × (name ≢ codes "dump") × (name ≢ codes "explain")
    × (name ≢ codes "migrate") × (name ≢ codes "run")

-- what the words enter is the command of its name, or else `try` of a script, and no text to be shown
abbrev pub IsEntered : Option (Text × List Row) → Command → Type 0
IsEntered entered (Try script stop) = (option_map string_bytes script ≡ script_in entered)
    × IsFlag (stop_in entered) stop × (name_in entered ≢ Some (codes "schedule"))
    × (name_in entered ≢ Some (codes "check"))
    × (name_in entered ≢ Some (codes "format")) × (name_in entered ≢ Some (codes "dump"))
    × (name_in entered ≢ Some (codes "explain")) × (name_in entered ≢ Some (codes "migrate"))
    × (name_in entered ≢ Some (codes "run"))
IsEntered entered (Schedule file) =
    (option_map string_bytes file ≡ file_in entered) × (name_in entered ≡ Some (codes "schedule"))
IsEntered entered (Check file pages wait) = (string_bytes file ≡ device_in entered) × IsFlag (pages_word entered) pages
    × AreSeconds (wait_in entered) wait × (name_in entered ≡ Some (codes "check"))
IsEntered entered (Format file numbers wait) = (string_bytes file ≡ device_in entered) × AreNumbersIn entered numbers
    × AreSeconds (wait_in entered) wait × (name_in entered ≡ Some (codes "format"))
IsEntered entered (Dump file wait) = (string_bytes file ≡ device_in entered) × AreSeconds (wait_in entered) wait
    × (name_in entered ≡ Some (codes "dump"))
IsEntered entered (Explain file wait) = (string_bytes file ≡ device_in entered) × AreSeconds (wait_in entered) wait
    × (name_in entered ≡ Some (codes "explain"))
IsEntered entered (Migrate file growth wait) = (string_bytes file ≡ device_in entered) × IsGrowthIn entered growth
    × AreSeconds (wait_in entered) wait × (name_in entered ≡ Some (codes "migrate"))
IsEntered entered (Run s wait) = (string_bytes s.file ≡ device_in entered) × IsServingIn entered s
    × AreSeconds (wait_in entered) wait × IsFlag (stop_in entered) s.stop × (s.stop ≡ true → s.workers ≤ 1)
    × (name_in entered ≡ Some (codes "run"))
IsEntered entered (Show text) = ⊥

-- why words that the parser takes are not read: they are misspelled so, or memory was wanting
abbrev pub IsMisread : Type 0 → CliFault → Type 0
IsMisread misspelled (Usage text) = misspelled
IsMisread misspelled (Refused why) = why ≡ refusal.NoMemory

-- what keeps the words from being a command
unfoldable pub faults : List Text → Kinds
faults words = fault_of program words

-- it is no wish for the help or the version
abbrev pub IsMistake : ErrorKind → Type 0
IsMistake kind = (kind ≢ DisplayHelp) × (kind ≢ DisplayVersion)

-- the words are no command, and wish for the help or the version
abbrev pub IsAsking : List Text → Type 0
IsAsking words = (fits words ≡ false) × (kind : ErrorKind) × IsAmong kind (faults words) × (IsMistake kind → ⊥)

-- the words are no command, and a mistake keeps them from being one; or they are, and a number in them is not one
-- that may stand there
abbrev pub IsMistaken : List Text → Type 0
IsMistaken words = ((fits words ≡ false) × (kind : ErrorKind) × IsAmong kind (faults words) × IsMistake kind)
    ⊎ IsMisspelled (subcommand_of program words)

-- The words name this command: the one that they enter, with the file that they name, if they name one. A
-- text is shown only if they wish for it.
abbrev pub IsCommandOf : List Text → Command → Type 0
IsCommandOf words (Try script stop) = IsEntered (subcommand_of program words) (Try script stop)
IsCommandOf words (Schedule file) = IsEntered (subcommand_of program words) (Schedule file)
IsCommandOf words (Check file pages wait) = IsEntered (subcommand_of program words) (Check file pages wait)
IsCommandOf words (Format file numbers wait) =
    IsEntered (subcommand_of program words) (Format file numbers wait)
IsCommandOf words (Dump file wait) = IsEntered (subcommand_of program words) (Dump file wait)
IsCommandOf words (Explain file wait) = IsEntered (subcommand_of program words) (Explain file wait)
IsCommandOf words (Migrate file growth wait) =
    IsEntered (subcommand_of program words) (Migrate file growth wait)
IsCommandOf words (Run s wait) = IsEntered (subcommand_of program words) (Run s wait)
IsCommandOf words (Show text) = IsAsking words

-- words that are a command are refused for want of memory alone, but for a number that they misspell
abbrev pub IsFaultOf : List Text → CliFault → Type 0
IsFaultOf words (Usage text) = IsMistaken words
IsFaultOf words (Refused why) = why ≡ refusal.NoMemory

-- the error of a parse of these words: if they are a command it is want of memory, and else that or what
-- keeps them from being one
pub record IsFaultAt (words : List Text) (error : Error) : Type 0 where
  pub passes : fits words ≡ true → kind_of error ≡ OutOfMemory
  pub kind : HasKind (faults words) error
