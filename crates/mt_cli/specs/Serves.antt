-- Scripts that are served to the device in a file.
use Rattle.std.specs.Prelude.{ℕ, ◌≡◌, ◌<◌, ◌≤◌, ◌+◌, List, [], ◌∷◌, ◌++◌, length, Bool, true, false, Option, Some, None, Result, Ok, Err}
use Rattle.std.specs.Io.KnownBytes.{Appends, Keeps}
use Rattle.mt_base.specs.declared.limits.TheConstants.{MAX_SESSIONS}
use Rattle.mt_base.specs.declared.refusal.Refusal.{Refusal}
use Rattle.mt_base.specs.declared.refusal.Refusal.TheVariants as refusal
use Rattle.mt_explain.specs.Listings.{numbered}
use Rattle.mt_model.specs.History.{after, IsLegal}
use Rattle.mt_model.specs.Model.{Base}
use Rattle.mt_model.specs.Views.{base_of}
use Rattle.mt_model.specs.declared.history.Committed.{Committed}
use Rattle.mt_model.specs.declared.tables.Base.{Base as Tables}
use Rattle.mt_replay.specs.Stands.{CanRestart}
use Rattle.mt_script.specs.Answers.{AppendsFront}
use Rattle.mt_server.specs.Heard.{AreAllReported}
use Rattle.mt_alone.specs.Plays.{Play, HasPlayed}
use Rattle.mt_alone.specs.Runs.{IsReportedFor}
use Rattle.mt_server.specs.Serves.{IsUnserved}
use Rattle.mt_alone.specs.Sessions.{Close, HavePlayed, in_session, session_line, sessions_text}
use Rattle.mt_alone.specs.Stops.{IsStopAmong, scripts_to, why_stopped}
use Rattle.mt_script.specs.declared.answers.Answer.{Answer}
use Rattle.mt_script.specs.declared.lines.Line.{Line}
use Rattle.mt_script.specs.declared.words.ScriptWord.{ScriptWord}
use Rattle.mt_alone.specs.declared.alone.RunFault.{RunFault}
use Rattle.mt_alone.specs.declared.alone.RunFault.TheVariants as run
use Rattle.mt_alone.specs.declared.stops.Stop.{Stop}
use Rattle.mt_shared.specs.Opens.{IsBaseOf}
use Rattle.mt_device_commands.specs.Dumps.{IsUnsurveyed, IsEarly, StandAs}
use Rattle.mt_folder.specs.Folders.{AreKept, Files, IsFileRefusal, IsHeld, IsLent, IsUnmade, Puts, known_in}
use Rattle.mt_cli.specs.Reads.{AreUnread, HaveBeenRead}
use Rattle.mt_report.specs.declared.faults.Fault.{Fault}
use Rattle.mt_report.specs.declared.read_faults.ReadFault.{ReadFault}
use Rattle.mt_report.specs.declared.faults.Fault.TheVariants.{Output, Refused, Stopped, Unread}

-- ---- how a run ends

-- how a run ended is how its command does
abbrev pub fault_of : RunFault → Fault
fault_of run.Output = Output
fault_of (run.Refused why) = Refused why

-- one that ran on ends well, unless a line stopped it
abbrev pub end_of : Result (Option Stop) RunFault → Result (Unit {0}) Fault
end_of (Ok None) = Ok tt
end_of (Ok (Some at)) = Err (Stopped at)
end_of (Err why) = Err (fault_of why)

-- a run is cut short by the output, for want of memory, or since the device failed
abbrev pub AreEndedBy : RunFault → Type 0
AreEndedBy run.Output = Unit {0}
AreEndedBy (run.Refused why) = IsUnmade why

-- ---- on a base

-- the model as serving begins on a base, with nothing committed
abbrev pub first_on : Base → Play
first_on b = record { session = 0; first = b; base = b; book = []; under_way = None }

-- the bytes represent what all of these commits lead to
abbrev pub StandForAll : ℕ → ℕ → Base → List Committed → List ℕ → Type 0
StandForAll relations counters b book d = ∥ CanRestart relations counters d (after b book) ∥₁

-- or for what they and some further ones lead to
abbrev pub StandForMore : ℕ → ℕ → Base → List Committed → List ℕ → Type 0
StandForMore relations counters b book d =
    ∥ ((further : List Committed) × CanRestart relations counters d (after b (book ++ further))) ∥₁

-- The scripts were served one after the other, as the model plays them on this base, or those up to the line that
-- stopped them. Their texts were written. The device's bytes represent what all commits lead to.
pub record HaveServedOn (stop : Bool) (ending : Option Stop) (relations counters : ℕ) (b : Base)
    (scripts : List (List Line)) (was now : Option (List ℕ)) (d : List ℕ) : Type 0 where
  pub transcripts : List (List Answer)
  pub last : Play
  pub at : IsStopAmong scripts ending
  pub played : HavePlayed relations counters (first_on b) (scripts_to ending scripts) transcripts last
  pub ended : Close stop (why_stopped ending) transcripts
  pub outcome : Appends was now (sessions_text transcripts)
  pub stands : StandForAll relations counters b last.book d

-- A script was cut short: the first of its lines were answered, and their answers are written, or a beginning of
-- them. The device represents the commits until then.
pub record IsShortOf (relations counters : ℕ) (Stand : List Committed → Type 0) (p : Play) (lines : List Line)
    (was now : Option (List ℕ)) (why : RunFault) : Type 0 where
  pub before : List Line
  pub rest : List Line
  pub split : lines ≡ before ++ rest
  pub answers : List Answer
  pub last : Play
  pub ran : HasPlayed relations counters p before answers last
  pub outcome : IsReportedFor was now answers why
  pub ended : AreEndedBy why
  pub stand : Stand last.book

-- so a session, or its line was not written whole
pub data IsShortWithin (relations counters : ℕ) (Stand : List Committed → Type 0) (p : Play) (i : ℕ) (lines : List Line)
    (was now : Option (List ℕ)) : RunFault → Type 0 where
  unheard_session : AppendsFront was now (session_line i) → Stand p.book
      → IsShortWithin relations counters Stand p i lines was now run.Output
  short_session : (mid : Option (List ℕ)) (why : RunFault) → Appends was mid (session_line i)
      → IsShortOf relations counters Stand (in_session p i) lines mid now why
      → IsShortWithin relations counters Stand p i lines was now why

-- The first scripts were served, and the next was cut short. The device's bytes represent what all commits lead to,
-- or for what they and some further ones lead to, which were under way.
pub record AreShortOn (relations counters : ℕ) (b : Base) (scripts : List (List Line)) (was now : Option (List ℕ))
    (d : List ℕ) (why : RunFault) : Type 0 where
  pub before : List (List Line)
  pub lines : List Line
  pub rest : List (List Line)
  pub split : scripts ≡ before ++ lines ∷ rest
  pub transcripts : List (List Answer)
  pub last : Play
  pub played : HavePlayed relations counters (first_on b) before transcripts last
  pub mid : Option (List ℕ)
  pub outcome : Appends was mid (sessions_text transcripts)
  pub within : IsShortWithin relations counters (λ book. StandForMore relations counters b book d) last
      (length before + 1) lines mid now why

-- ---- on a device's bytes

-- it is so on some base, and on the one that the bytes represent, if they represent one
pub record IsOnBase (c : List ℕ) (On : ℕ → ℕ → Base → Type 0) : Type 0 where
  pub some : (relations : ℕ) × (counters : ℕ) × (b : Base) × On relations counters b
  pub stood_for : (relations counters : ℕ) (b : Base) → CanRestart relations counters c b → On relations counters b

abbrev pub ServesFrom : Bool → Option Stop → List ℕ → List (List Line) → Option (List ℕ) → Option (List ℕ) → List ℕ
    → Type 0
ServesFrom stop ending c scripts was now d =
    IsOnBase c (λ relations counters b. HaveServedOn stop ending relations counters b scripts was now d)

-- Why scripts were not served to a device of bytes c, which has bytes d now: there are too many, or it is not opened;
-- and else a line stopped them, or one of them was cut short.
pub data AreUnserved (stop : Bool) (c : List ℕ) (scripts : List (List Line)) (was now : Option (List ℕ))
    (d : List ℕ) : Fault → Type 0 where
  too_many : MAX_SESSIONS < length scripts → d ≡ c → Keeps was now
      → AreUnserved stop c scripts was now d (Refused refusal.BadLength)
  not_begun : (why : Refusal) → IsUnsurveyed c why → StandAs c d → (IsEarly why → d ≡ c) → Keeps was now
      → AreUnserved stop c scripts was now d (Refused why)
  stopped_among : (at : Stop) → ServesFrom stop (Some at) c scripts was now d
      → AreUnserved stop c scripts was now d (Stopped at)
  cut_among : (why : RunFault) (fault : Fault) → IsOnBase c
      (λ relations counters b. AreShortOn relations counters b scripts was now d why) → fault ≡ fault_of why
      → AreUnserved stop c scripts was now d fault

-- ---- on a file

-- They were served to the device in the file of this name. Each other file is as before.
pub record IsServedIn (stop : Bool) (old new : Files) (file : List ℕ) (scripts : List (List Line))
    (was now : Option (List ℕ)) : Type 0 where
  pub before : List ℕ
  pub behind : List ℕ
  pub held : IsHeld old file before
  pub put : Puts old new file behind
  pub served : ServesFrom stop None before scripts was now behind

-- why they were not: the file is not opened, and each is as before; or its device is back in it, and each other one
-- is as before
pub data IsUnservedIn (stop : Bool) (old new : Files) (file : List ℕ) (scripts : List (List Line))
    (was now : Option (List ℕ)) : Fault → Type 0 where
  no_device : (why : Refusal) → IsFileRefusal (known_in old file) why → AreKept old new → Keeps was now
      → IsUnservedIn stop old new file scripts was now (Refused why)
  unserved : (before behind : List ℕ) (fault : Fault) → IsHeld old file before → Puts old new file behind
      → AreUnserved stop before scripts was now behind fault
      → IsUnservedIn stop old new file scripts was now fault

-- ---- at once, by several workers

-- a session's transcript, after its line
abbrev pub session_text : ℕ → List ℕ → List ℕ
session_text i text = session_line i ++ text

-- those of all sessions, of which the first is session 1
abbrev pub texts_in_order : List (List ℕ) → List ℕ
texts_in_order texts = numbered session_text 1 texts

-- the bytes represent what all of these commits lead to; if the device has failed, for that, or for what they and
-- some further ones lead to
abbrev pub StandForBook : Bool → ℕ → ℕ → Base → List Committed → List ℕ → Type 0
StandForBook false relations counters b book d = StandForAll relations counters b book d
StandForBook true relations counters b book d = StandForMore relations counters b book d

-- They were served at once to a device of bytes c, and each has its transcript. The commits that the transcripts report
-- are those of one book, which is legal on the base of c. The device has bytes d now, which represent that book. If
-- the device has failed a transcript may end with 2.
pub record AreServedAtOnce (failed : Bool) (c : List ℕ) (scripts : List (List Line)) (texts : List (List ℕ))
    (d : List ℕ) : Type 0 where
  pub first : Tables
  pub is : IsBaseOf c first
  pub book : List Committed
  pub legal : IsLegal (base_of first) book
  pub outcome : AreAllReported failed scripts texts book
  pub relations : ℕ
  pub counters : ℕ
  pub stands : StandForBook failed relations counters (base_of first) book d

-- how a command ends after that, whose transcripts were not all written or whose device failed
abbrev pub IsEndOf : Bool → Fault → Type 0
IsEndOf false fault = fault ≡ Output
IsEndOf true fault = fault ≡ Refused refusal.DeviceFailed

-- so to the device in the file of this name; each other file is as before
pub record AreServedAtOnceIn (failed : Bool) (old new : Files) (file : List ℕ) (scripts : List (List Line))
    (texts : List (List ℕ)) : Type 0 where
  pub before : List ℕ
  pub behind : List ℕ
  pub held : IsHeld old file before
  pub put : Puts old new file behind
  pub served : AreServedAtOnce failed before scripts texts behind

-- so, and the transcripts were written
pub record IsServedAtOnce (old new : Files) (file : List ℕ) (scripts : List (List Line))
    (was now : Option (List ℕ)) : Type 0 where
  pub texts : List (List ℕ)
  pub served : AreServedAtOnceIn false old new file scripts texts
  pub outcome : Appends was now (texts_in_order texts)

-- Why they were not. The file is not opened, or there are too many of them: each file is as before. Or serving is
-- refused, and the device is dropped: what its file has is not known, and each other one is as before. Or they were
-- served, and a beginning of the transcripts is written: the output failed, or the device did.
pub data IsUnservedAtOnce (old new : Files) (file : List ℕ) (scripts : List (List Line))
    (was now : Option (List ℕ)) : Fault → Type 0 where
  no_device_at_once : (why : Refusal) → IsFileRefusal (known_in old file) why → AreKept old new → Keeps was now
      → IsUnservedAtOnce old new file scripts was now (Refused why)
  too_many_at_once : MAX_SESSIONS < length scripts → AreKept old new → Keeps was now
      → IsUnservedAtOnce old new file scripts was now (Refused refusal.BadLength)
  let_go : (before : List ℕ) (why : Refusal) → IsHeld old file before → IsUnserved before (length scripts) why
      → IsLent old new file → Keeps was now
      → IsUnservedAtOnce old new file scripts was now (Refused why)
  unheard_at_once : (texts : List (List ℕ)) → AreServedAtOnceIn false old new file scripts texts
      → AppendsFront was now (texts_in_order texts)
      → IsUnservedAtOnce old new file scripts was now Output
  failed_at_once : (texts : List (List ℕ)) → AreServedAtOnceIn true old new file scripts texts
      → AppendsFront was now (texts_in_order texts)
      → IsUnservedAtOnce old new file scripts was now (Refused refusal.DeviceFailed)

-- ---- by so many workers

-- one serves in turn, and stops if it is to; several serve at once
abbrev pub AreServedBy : Bool → ℕ → Files → Files → List ℕ → List (List Line) → Option (List ℕ) → Option (List ℕ)
    → Type 0
AreServedBy stop workers old new file scripts was now = (workers ≤ 1 → IsServedIn stop old new file scripts was now)
    × (1 < workers → IsServedAtOnce old new file scripts was now)

abbrev pub AreUnservedBy : Bool → ℕ → Files → Files → List ℕ → List (List Line) → Option (List ℕ) → Option (List ℕ)
    → Fault → Type 0
AreUnservedBy stop workers old new file scripts was now fault =
    (workers ≤ 1 → IsUnservedIn stop old new file scripts was now fault)
    × (1 < workers → IsUnservedAtOnce old new file scripts was now fault)

-- the scripts of these names were read, and served
pub record HasRunScripts (stop : Bool) (workers : ℕ) (old new : Files) (file : List ℕ) (names : List (List ℕ))
    (input was now : Option (List ℕ)) : Type 0 where
  pub scripts : List (List Line)
  pub read : HaveBeenRead old input names scripts
  pub served : AreServedBy stop workers old new file scripts was now

-- or they were not: nothing is written if they are not read
pub data HasNotRun (stop : Bool) (workers : ℕ) (old new : Files) (file : List ℕ) (names : List (List ℕ))
    (input was now : Option (List ℕ)) : Fault → Type 0 where
  unread_scripts : (at : ℕ) (why : ReadFault ScriptWord) → AreUnread old input names at why → AreKept old new
      → Keeps was now
      → HasNotRun stop workers old new file names input was now (Unread why at)
  unserved_scripts : (scripts : List (List Line)) (fault : Fault) → HaveBeenRead old input names scripts
      → AreUnservedBy stop workers old new file scripts was now fault
      → HasNotRun stop workers old new file names input was now fault
