-- What the program's commands do.
use Rattle.std.specs.Prelude.{ℕ, pos, ◌≡◌, ◌⊎◌, Bool, List, [], ◌∷◌, ◌++◌, length, Option, Some, None, IfSome, map, option_map, string_bytes, ⊤}
use Rattle.std.specs.Io.KnownBytes.{Appends, Keeps}
use Rattle.mt_cli.specs.declared.commands.TheConstants.{AREA_MIB, PAGES}
use Rattle.mt_base.specs.Limits.{device_bytes_of}
use Rattle.mt_base.specs.declared.refusal.Refusal.{Refusal}
use Rattle.mt_disk.specs.declared.device.Device.{Ghosts}
use Rattle.mt_model.specs.Views.{rows_of}
use Rattle.mt_txn.specs.Shown.{Restarts}
use Rattle.mt_txn.specs.Words.{kernel_counters, kernel_relations}
use Rattle.mt_txn.specs.declared.kernel.Kernel.{Kernel}
use Rattle.mt_format.specs.Schemas.{counters_in, device_bytes, relations_in, schema_base}
use Rattle.mt_format.specs.declared.schema.Schema.{Schema}
use Rattle.mt_script.specs.declared.answers.Answer.{Answer}
use Rattle.mt_script.specs.declared.lines.Line.{Line}
use Rattle.mt_script.specs.declared.words.ScriptWord.{ScriptWord}
use Rattle.mt_args.specs.declared.command.Command.{Command}
use Rattle.mt_args.specs.declared.command.Command.TheVariants.{Try, Schedule, Check, Format, Dump, Explain, Migrate, Run, Show}
use Rattle.mt_report.specs.declared.faults.Fault.{Fault}
use Rattle.mt_report.specs.declared.faults.Fault.TheVariants.{Output, Refused, Stopped, Unread, Unscheduled}
use Rattle.mt_alone.specs.declared.alone.RunFault.{RunFault}
use Rattle.mt_alone.specs.declared.stops.Stop.{Stop}
use Rattle.mt_script.specs.Answers.{AppendsFront, transcript_text}
use Rattle.mt_alone.specs.Driven.{IsBeside}
use Rattle.mt_alone.specs.Plays.{Play, Runs}
use Rattle.mt_alone.specs.Stops.{Ends, IsStopIn, lines_to, why_stopped}
use Rattle.mt_report.specs.Advice.{IsReportedOf, unread_text}
use Rattle.mt_device_commands.specs.Checks.{HasChecked, IsUnchecked}
use Rattle.mt_args.specs.CommandLines.{IsCommandOf}
use Rattle.mt_device_commands.specs.Dumps.{AreLeftBy, HasDumped, IsUndumped, IsRestarted}
use Rattle.mt_device_commands.specs.Explains.{HasExplained, IsUnexplained}
use Rattle.mt_report.specs.Events.{IsEvent, IsSchedule, event_text}
use Rattle.mt_folder.specs.Folders.{AreKept, Files, IsUnmade, known_in}
use Rattle.mt_folder.specs.declared.reason.Reason.{Reason}
use Rattle.mt_device_commands.specs.Formattings.{Formats, IsFormatFault}
use Rattle.mt_device_commands.specs.Migrations.{additions, AreMigrateFiles, IsMigrateFault, IsRewritten, StandsGrown}
use Rattle.mt_report.specs.EventWords.{event_word}
use Rattle.mt_cli.specs.Reads.{IsUnread, IsUnreadScript, source_of}
use Rattle.mt_report.specs.declared.event_words.EventWord.{EventWord}
use Rattle.mt_report.specs.declared.read_faults.ReadFault.{ReadFault}
use Rattle.mt_cli.specs.Serves.{AreEndedBy, HasNotRun, HasRunScripts, fault_of}
use Rattle.mt_report.specs.AnswerLines.{reported_lines}
use Rattle.mt_script.specs.Scripts.{IsScript}
use Rattle.mt_alone.specs.Runs.{HasTurned, IsReportedFor, last_line}
use Rattle.mt_world.specs.Schedules.{HasRunTo}
use Rattle.mt_world.specs.declared.events.Answer.{Answer as Reported}
use Rattle.mt_world.specs.declared.events.Event.{Event}
use Rattle.mt_restart.specs.Frames.{IsFrameCount}
use Rattle.mt_restart.specs.declared.standing.Standing.{Standing}

-- two relations without rows, and one counter from 0 to 10 that starts at 5
pub record IsFirstSchema (schema : Schema) : Type 0 where
  pub relations : relations_in schema ≡ 2
  pub rows : length (rows_of schema.base) ≡ 0
  pub counters : counters_in schema ≡ record { low = pos 0; high = pos 10; number = pos 5 } ∷ []
  pub long : device_bytes schema ≡ device_bytes_of PAGES AREA_MIB

-- the model as `try` begins on it, for its one session: no rows, that counter, and nothing committed
pub record IsFirst (p : Play) : Type 0 where
  pub session : p.session ≡ 1
  pub rows : (r : ℕ) (k : List ℕ) → p.base.rows r k ≡ None
  pub counter : p.base.counts 0 ≡ record { low = pos 0; high = pos 10; number = pos 5 }
  pub book : p.book ≡ []
  pub nothing : p.under_way ≡ None

-- a kernel stands beside it, and can be restarted from its base
pub record StandsFirst {D : Type 0} {g : Ghosts D} (k : Kernel D g) : Type 0 where
  pub play : Play
  pub first : IsFirst play
  pub beside : IsBeside play None k
  pub restarts : Restarts play.first k
  pub relations : kernel_relations k ≡ 2
  pub counters : kernel_counters k ≡ 1

-- `try` ran these lines on such a kernel, or those up to the line that stopped it. Each was answered as the model does,
-- or refused for a cause that a kernel beside the play had then; the texts of the answers were written.
pub record HasTried {D : Type 0} (g : Ghosts D) (stop : Bool) (ending : Option Stop) (lines : List Line)
    (was now : Option (List ℕ)) : Type 0 where
  pub kernel : Kernel D g
  pub stands : StandsFirst kernel
  pub answers : List Answer
  pub last : Play × Kernel D g
  pub at : IsStopIn 1 lines ending
  pub ran : Runs (HasTurned) (stands.play, kernel) (lines_to ending lines) answers last
  pub ends : Ends stop (why_stopped ending) answers
  pub outcome : Appends was now (transcript_text (answers ++ last_line last.0.under_way))

-- those that the bytes spell, if they are known
pub record IsTrial {D : Type 0} (g : Ghosts D) (stop : Bool) (bytes was now : Option (List ℕ)) : Type 0 where
  pub tried : (lines : List Line) × IfSome bytes (λ bs. IsScript bs lines) × HasTried g stop None lines was now

-- a kernel over such a device, formatted for that schema, answered these events so, and did what the answers say
pub record HaveRun {D : Type 0} (g : Ghosts D) (events : List Event) (answers : List Reported) : Type 0 where
  pub schema : Schema
  pub first : IsFirstSchema schema
  pub standing : Standing D g
  pub ran : ∥ HasRunTo (relations_in schema) (length (counters_in schema)) (schema_base schema) events answers standing
      ∥₁

-- those that the bytes spell, if they are known, and the texts of the answers were written
pub record IsScheduled {D : Type 0} (g : Ghosts D) (bytes was now : Option (List ℕ)) : Type 0 where
  pub events : List Event
  pub spelled : IfSome bytes (λ bs. IsSchedule bs events)
  pub answers : List Reported
  pub ran : HaveRun g events answers
  pub outcome : Appends was now (reported_lines answers)

-- the folder's files before a command and after it, and what of the input is known
pub record Around : Type 0 where
  pub before : Files
  pub after : Files
  pub input : Option (List ℕ)

-- if it serves scripts, as many pages are in frames as a kernel may have
abbrev pub HasFrameCount : Command → Type 0
HasFrameCount (Run s wait) = IsFrameCount s.frames
HasFrameCount _ = ⊤

-- what a command leaves on the output once it is done, and of the files
abbrev pub IsDone : {D : Type 0} → Ghosts D → Command → Around → Option (List ℕ) → Option (List ℕ) → Type 0
IsDone g (Try script stop) a was now =
    IsTrial g stop (source_of a.before (option_map string_bytes script) a.input) was now × AreKept a.before a.after
IsDone g (Schedule file) a was now =
    IsScheduled g (source_of a.before (option_map string_bytes file) a.input) was now × AreKept a.before a.after
IsDone g (Check file pages wait) a was now =
    HasChecked pages (known_in a.before (string_bytes file)) was now × AreKept a.before a.after
IsDone g (Format file numbers wait) a was now = Formats numbers a.before a.after (string_bytes file) × Keeps was now
IsDone g (Dump file wait) a was now =
    HasDumped (known_in a.before (string_bytes file)) was now × IsRestarted a.before a.after (string_bytes file)
IsDone g (Explain file wait) a was now =
    HasExplained (known_in a.before (string_bytes file)) was now × AreKept a.before a.after
IsDone g (Migrate file growth wait) a was now =
    IsRewritten (StandsGrown (additions growth)) a.before a.after (string_bytes file) × Keeps was now
IsDone g (Run s wait) a was now = HasRunScripts s.stop s.workers a.before a.after (string_bytes s.file)
    (map string_bytes s.scripts.items) a.input was now
IsDone g (Show text) a was now = Appends was now (string_bytes text) × AreKept a.before a.after

-- and what the command that words name leaves there
abbrev pub IsWordsDone : {D : Type 0} → Ghosts D → List (List ℕ) → Around → Option (List ℕ) → Option (List ℕ) → Type 0
IsWordsDone g words a was now = (command : Command) × IsCommandOf words command × IsDone g command a was now

-- a fault of some command was reported, for some reason
abbrev pub IsReported : Option (List ℕ) → Option (List ℕ) → Type 0
IsReported was now =
    (command : Command) × (reason : Option Reason) × (fault : Fault) × IsReportedOf command reason fault was now

-- or memory was wanting to read the words of a command line
abbrev pub IsWordsReported : Option (List ℕ) → Option (List ℕ) → Type 0
IsWordsReported was now = IsReported was now ⊎ AppendsFront was now unread_text

-- ---- a command that was not done

-- the first of these lines were answered, and their answers are written, or a beginning of them
pub record IsShort {D : Type 0} (g : Ghosts D) (lines : List Line) (was now : Option (List ℕ))
    (why : RunFault) : Type 0 where
  pub kernel : Kernel D g
  pub stands : StandsFirst kernel
  pub before : List Line
  pub rest : List Line
  pub split : lines ≡ before ++ rest
  pub answers : List Answer
  pub last : Play × Kernel D g
  pub ran : Runs (HasTurned) (stands.play, kernel) before answers last
  pub outcome : IsReportedFor was now answers why
  pub ended : AreEndedBy why

-- why these lines did not run to their end: nothing is written if no kernel is made, and else a line stopped
-- the run, or it was cut short
pub data IsCutTrial {D : Type 0} (g : Ghosts D) (stop : Bool) (lines : List Line)
    (was now : Option (List ℕ)) : Fault → Type 0 where
  unmade : (why : Refusal) → IsUnmade why → Keeps was now → IsCutTrial g stop lines was now (Refused why)
  stopped : (at : Stop) → HasTried g stop (Some at) lines was now → IsCutTrial g stop lines was now (Stopped at)
  cut : (why : RunFault) (fault : Fault) → IsShort g lines was now why → fault ≡ fault_of why
      → IsCutTrial g stop lines was now fault

-- why a script of these bytes was not run to its end: nothing is written if it is not read
pub data IsUntried {D : Type 0} (g : Ghosts D) (stop : Bool) (bytes was now : Option (List ℕ)) : Fault → Type 0 where
  unread : (why : ReadFault ScriptWord) → IsUnreadScript bytes why → Keeps was now
      → IsUntried g stop bytes was now (Unread why 0)
  untried : (lines : List Line) (fault : Fault) → IfSome bytes (λ bs. IsScript bs lines)
      → IsCutTrial g stop lines was now fault → IsUntried g stop bytes was now fault

-- why a schedule of these bytes did not run to its end: nothing is written if it is not read or no kernel is made,
-- and else the output failed within the texts of the answers
pub data IsUnscheduled {D : Type 0} (g : Ghosts D) (bytes was now : Option (List ℕ)) : Fault → Type 0 where
  unspelled : (why : ReadFault EventWord) → IsUnread event_text IsEvent event_word bytes why → Keeps was now
      → IsUnscheduled g bytes was now (Unscheduled why)
  unbegun : (why : Refusal) → IsUnmade why → Keeps was now → IsUnscheduled g bytes was now (Refused why)
  unheard : (events : List Event) (answers : List Reported) → IfSome bytes (λ bs. IsSchedule bs events)
      → HaveRun g events answers
      → AppendsFront was now (reported_lines answers) → IsUnscheduled g bytes was now Output

-- what a command that ended with this fault left on the output, and of the files
abbrev pub IsUndone : {D : Type 0} → Ghosts D → Command → Around → Option (List ℕ) → Option (List ℕ) → Fault → Type 0
IsUndone g (Try script stop) a was now fault = IsUntried g stop
    (source_of a.before (option_map string_bytes script) a.input) was now fault × AreKept a.before a.after
IsUndone g (Schedule file) a was now fault = IsUnscheduled g (source_of a.before (option_map string_bytes file) a.input)
    was now fault × AreKept a.before a.after
IsUndone g (Check file pages wait) a was now fault =
    IsUnchecked pages (known_in a.before (string_bytes file)) was now fault × AreKept a.before a.after
IsUndone g (Format file numbers wait) a was now fault =
    IsFormatFault numbers fault × AreKept a.before a.after × Keeps was now
IsUndone g (Dump file wait) a was now fault = IsUndumped (known_in a.before (string_bytes file)) was now fault
    × AreLeftBy a.before a.after (string_bytes file) fault
IsUndone g (Explain file wait) a was now fault =
    IsUnexplained (known_in a.before (string_bytes file)) was now fault × AreKept a.before a.after
IsUndone g (Migrate file growth wait) a was now fault =
    IsMigrateFault (additions growth) (known_in a.before (string_bytes file)) fault
    × AreMigrateFiles (additions growth) a.before a.after (string_bytes file) fault × Keeps was now
IsUndone g (Run s wait) a was now fault = HasNotRun s.stop s.workers a.before a.after (string_bytes s.file)
    (map string_bytes s.scripts.items) a.input was now fault
IsUndone g (Show text) a was now fault =
    (fault ≡ Output) × AppendsFront was now (string_bytes text) × AreKept a.before a.after

-- A command ended with a fault, or it was done and the output could not be flushed. The error output reports it, and
-- what to do, or has a beginning of that.
pub record IsGivenUp {D : Type 0} (g : Ghosts D) (command : Command) (reason : Option Reason) (a : Around)
    (was now old new : Option (List ℕ)) : Type 0 where
  pub given_up : (fault : Fault) × (mid : Option (List ℕ))
      × (IsUndone g command a was mid fault ⊎ (IsDone g command a was mid × (fault ≡ Output)))
      × Keeps mid now × IsReportedOf command reason fault old new

-- and so did the command that words name, or memory was wanting to read them
abbrev pub IsWordsGivenUp : {D : Type 0} → Ghosts D → List (List ℕ) → Option Reason → Around → Option (List ℕ)
    → Option (List ℕ) → Option (List ℕ) → Option (List ℕ) → Type 0
IsWordsGivenUp g words reason a was now old new =
    ((command : Command) × IsCommandOf words command × IsGivenUp g command reason a was now old new)
    ⊎ (Keeps was now × AppendsFront old new unread_text × AreKept a.before a.after)
