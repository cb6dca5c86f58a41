-- A script run on a kernel, line by line.
use Rattle.std.specs.Prelude.{ℕ, ◌≡◌, ◌⊎◌, Bool, List, [], ◌∷◌, ◌++◌, Option, Some, None, Result, Ok, Err}
use Rattle.std.specs.Io.KnownBytes.{Appends}
use Rattle.mt_base.specs.declared.refusal.Refusal.{Refusal}
use Rattle.mt_base.specs.declared.refusal.Refusal.TheVariants as refusal
use Rattle.mt_disk.specs.declared.device.Device.{Ghosts}
use Rattle.mt_model.specs.History.{Call}
use Rattle.mt_txn.specs.Shown.{SameSchema}
use Rattle.mt_txn.specs.declared.kernel.Kernel.{Kernel}
use Rattle.mt_script.specs.declared.lines.Line.{Line}
use Rattle.mt_script.specs.declared.answers.Answer.{Answer}
use Rattle.mt_script.specs.declared.answers.Answer.TheVariants.{Aborted, Refused}
use Rattle.mt_alone.specs.declared.alone.RunFault.{RunFault}
use Rattle.mt_alone.specs.declared.alone.RunFault.TheVariants as fault
use Rattle.mt_script.specs.Answers.{AppendsFront, transcript_text}
use Rattle.mt_alone.specs.Driven.{IsLeft, IsBeside, IsDueTo, IsGivenUp, HasBroken, Fails}
use Rattle.mt_model.specs.Backwards.{OpenCalls}
use Rattle.mt_alone.specs.Plays.{Play, IsTurn, Runs, put_off}
use Rattle.mt_alone.specs.Stops.{Ends}
use Rattle.mt_txn.specs.Words.{kernel_relations, kernel_counters}

-- ---- ends

-- a transaction that is open at the script's end is aborted, with a line of its own
abbrev pub last_line : Option OpenCalls → List Answer
last_line None = []
last_line (Some calls) = Aborted ∷ []

-- and one of them says that the device failed
abbrev pub failure_line : Refusal → List Answer
failure_line refusal.DeviceFailed = Refused refusal.DeviceFailed ∷ []
failure_line _ = []

-- a refusal is an answer, but for the device's failure, which ends a run
abbrev pub refused_as : Refusal → Option ℕ → Result (Answer × Option ℕ) Refusal
refused_as refusal.DeviceFailed live = Err refusal.DeviceFailed
refused_as why live = Ok (Refused why, live)

-- what was to be written after the answers if the writer failed: nothing, or one of those two lines
pub data IsLast : List Answer → Type 0 where
  nothing : IsLast []
  aborted : IsLast (Aborted ∷ [])
  failed : IsLast (Refused refusal.DeviceFailed ∷ [])

-- The writer failed within the last of these answers: those before it were written, and a beginning of it.
pub record IsUnheard (was now : Option (List ℕ)) (answers : List Answer) : Type 0 where
  pub heard : List Answer
  pub last : Answer
  pub answers_are : answers ≡ heard ++ last ∷ []
  pub mid : Option (List ℕ)
  pub outcome : Appends was mid (transcript_text heard)
  pub front : AppendsFront mid now (transcript_text (last ∷ []))

-- What was written if a run ended early. If the writer failed, it is a beginning. Else it is the answers, and that
-- the device failed; or the writer failed within the last answer, and then the run was given up.
abbrev pub IsReportedFor : Option (List ℕ) → Option (List ℕ) → List Answer → RunFault → Type 0
IsReportedFor was now answers fault.Output =
    (last : List Answer) × IsLast last × AppendsFront was now (transcript_text (answers ++ last))
IsReportedFor was now answers (fault.Refused why) =
    Appends was now (transcript_text (answers ++ failure_line why)) ⊎ IsUnheard was now answers

-- how a run ends that was given up for this refusal: it is written that the device failed, or a beginning of that
abbrev pub IsStopped : Option (List ℕ) → Option (List ℕ) → Refusal → RunFault → Type 0
IsStopped was now refused fault.Output =
    (refused ≡ refusal.DeviceFailed) × AppendsFront was now (transcript_text (failure_line refused))
IsStopped was now refused (fault.Refused why) =
    (why ≡ refused) × Appends was now (transcript_text (failure_line refused))

module _ {D : Type 0} {g : Ghosts D} where
  -- It holds beside whatever play of this session the kernel stands at.
  abbrev pub BesideEach : ℕ → Option ℕ → Kernel D g → (Play → Type 0) → Type 0
  BesideEach session live k Promises = (p : Play) → p.session ≡ session → IsBeside p live k → Promises p

  -- A turn of a kernel beside a play: what it refuses is due there.
  pub record HasTurned (start : Play × Kernel D g) (line : Line) (answer : Answer)
      (end : Play × Kernel D g) : Type 0 where
    pub live : Option ℕ
    pub beside : IsBeside start.0 live start.1
    pub turn : IsTurn (kernel_relations start.1) (kernel_counters start.1) (IsDueTo start.1 live) start.0 line answer
        end.0
    pub schema : SameSchema start.1 end.1

  -- The lines ran, and the texts of the answers were written, a line each. If the run is to stop, the last was refused
  -- so, or no answer stops it.
  pub record HasRunLines (stop : Bool) (why : Option Refusal) (p : Play) (k : Kernel D g) (lines : List Line)
      (was now : Option (List ℕ)) (live : Option ℕ) (n : Kernel D g) : Type 0 where
    pub answers : List Answer
    pub play : Play
    pub ran : Runs HasTurned (p, k) lines answers (play, n)
    pub ends : Ends stop why answers
    pub outcome : Appends was now (transcript_text answers)
    pub beside : IsBeside play live n

  -- The script ran to its end; a transaction that was open there is aborted, and that was written too; none is active.
  pub record HasRun (stop : Bool) (why : Option Refusal) (p : Play) (k : Kernel D g) (lines : List Line)
      (was now : Option (List ℕ)) (n : Kernel D g) : Type 0 where
    pub answers : List Answer
    pub play : Play
    pub last : Kernel D g
    pub ran : Runs HasTurned (p, k) lines answers (play, last)
    pub ends : Ends stop why answers
    pub outcome : Appends was now (transcript_text (answers ++ last_line play.under_way))
    pub beside : IsBeside (put_off play) None n

  -- The run ended early: these of its lines had their answers, of which the last may be unheard. So much is left of it.
  pub record IsCut (Left : Play → Type 0) (p : Play) (k : Kernel D g) (lines : List Line) (was now : Option (List ℕ))
      (why : RunFault) : Type 0 where
    pub before : List Line
    pub rest : List Line
    pub split : lines ≡ before ++ rest
    pub answers : List Answer
    pub play : Play
    pub last : Kernel D g
    pub ran : Runs HasTurned (p, k) before answers (play, last)
    pub outcome : IsReportedFor was now answers why
    pub left : Left play

module _ {D : Type 0} {g : Ghosts D} where
  -- What is left after answers if a run ended early. If the writer failed, the open transaction is aborted, or the
  -- device has failed; if a step was given up, what was committed stands.
  abbrev pub IsLeftFor : Play → Kernel D g → RunFault → Type 0
  IsLeftFor q n fault.Output = IsBeside (put_off q) None n ⊎ (IsLeft q n × HasBroken n)
  IsLeftFor q n (fault.Refused why) = IsGivenUp q n why

  -- the run ended early, and left the kernel so
  abbrev pub IsCutShort : Play → Kernel D g → List Line → Option (List ℕ) → Option (List ℕ) → Kernel D g → RunFault
      → Type 0
  IsCutShort p k lines was now n why = IsCut (λ q. IsLeftFor q n why) p k lines was now why

module _ {D : Type 0} {g : Ghosts D} where
  -- ---- a line

  -- the kernel answered it, and this transaction is open then
  abbrev pub IsAnswered : Play → Kernel D g → Option ℕ → Line → Answer × Option ℕ → Kernel D g → Type 0
  IsAnswered p k live line outcome n =
      (q : Play) × IsTurn (kernel_relations k) (kernel_counters k) (IsDueTo k live) p line outcome.0 q
      × IsBeside q outcome.1 n

module _ {D : Type 0} {g : Ghosts D} where
  -- or gave it up
  abbrev pub IsAnsweredOr : Play → Kernel D g → Option ℕ → Line → Result (Answer × Option ℕ) Refusal → Kernel D g
      → Type 0
  IsAnsweredOr p k live line (Ok outcome) n = IsAnswered p k live line outcome n
  IsAnsweredOr p k live line (Err why) n = IsGivenUp p n why

  -- beside whatever play of this session
  abbrev pub Answers : ℕ → Kernel D g → Option ℕ → Line → Result (Answer × Option ℕ) Refusal → Kernel D g → Type 0
  Answers session k live line result n =
      (p : Play) → p.session ≡ session → IsBeside p live k → IsAnsweredOr p k live line result n

  -- within a transaction, that is open then unless it has ended
  abbrev pub AnswersWithin : Kernel D g → ℕ → Line → Result (Answer × Option ℕ) Refusal → Kernel D g → Type 0
  AnswersWithin k t line result n = (p : Play) → IsBeside p (Some t) k → IsAnsweredOr p k (Some t) line result n

  -- ---- the script's end

  -- why a run ended early while the transaction that was open there was aborted
  pub record IsCutAtEnd (p : Play) (was now : Option (List ℕ)) (n : Kernel D g) (why : RunFault) : Type 0 where
    pub outcome : IsReportedFor was now [] why
    pub left : IsLeftFor p n why

module _ {D : Type 0} {g : Ghosts D} where
  -- it was aborted, and that was written
  pub record IsEnded (p : Play) (was now : Option (List ℕ)) (n : Kernel D g) : Type 0 where
    pub outcome : Appends was now (transcript_text (Aborted ∷ []))
    pub beside : IsBeside (put_off p) None n

module _ {D : Type 0} {g : Ghosts D} where
  -- why a run ended early: the writer failed; or for want of memory, or since the device has failed
  abbrev pub IsEndedFor : Kernel D g → RunFault → Type 0
  IsEndedFor n fault.Output = Unit {0}
  IsEndedFor n (fault.Refused why) = Fails n why
