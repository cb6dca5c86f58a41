-- Scripts served one after the other, each a session of its own.
use Rattle.std.specs.Prelude.{ℕ, ◌≡◌, ◌+◌, All, Bool, List, [], ◌∷◌, ◌++◌, length, Option, None, Some, codes}
use Rattle.std.specs.Fmt.{decimal}
use Rattle.std.specs.Io.KnownBytes.{Appends}
use Rattle.mt_base.specs.declared.refusal.Refusal.{Refusal}
use Rattle.mt_disk.specs.declared.device.Device.{Ghosts}
use Rattle.mt_model.specs.History.{Call}
use Rattle.mt_restart.specs.Rotated.{GoesOver}
use Rattle.mt_txn.specs.Shown.{Restarts, SameSchema}
use Rattle.mt_txn.specs.declared.kernel.Kernel.{Kernel}
use Rattle.mt_script.specs.declared.answers.Answer.{Answer}
use Rattle.mt_script.specs.declared.lines.Line.{Line}
use Rattle.mt_alone.specs.declared.rotation.NotServed.{NotServed}
use Rattle.mt_alone.specs.declared.alone.RunFault.TheVariants as fault
use Rattle.mt_script.specs.Answers.{AppendsFront, transcript_text}
use Rattle.mt_alone.specs.Driven.{IsBeside}
use Rattle.mt_model.specs.Backwards.{OpenCalls}
use Rattle.mt_alone.specs.Plays.{Play, HasPlayed, Runs, put_off}
use Rattle.mt_alone.specs.Runs.{HasTurned, last_line}
use Rattle.mt_alone.specs.Stops.{Ends, IsStopAmong, lines_to, scripts_to, why_stopped}
use Rattle.mt_alone.specs.declared.stops.Stop.{Stop}
use Rattle.mt_alone.specs.Turnovers.{IsCutOff, with_kernel}

-- ---- texts

-- the line before a session's transcript
abbrev pub session_line : ℕ → List ℕ
session_line i = codes "session " ++ (decimal i ++ 10 ∷ [])

-- transcripts, each after the line of its session, of which the first is this one
unfoldable pub sessions_from : ℕ → List (List Answer) → List ℕ
sessions_from i [] = []
sessions_from i (answers ∷ transcripts) =
    session_line i ++ (transcript_text answers ++ sessions_from (i + 1) transcripts)

abbrev pub sessions_text : List (List Answer) → List ℕ
sessions_text transcripts = sessions_from 1 transcripts

-- ---- where they end

-- a transcript's answers end so, before the line that the open transaction was aborted
abbrev pub Closes : Bool → Option Refusal → List Answer → Type 0
Closes stop why outcome =
    (answers : List Answer) × (open_then : Option OpenCalls) × (outcome ≡ answers ++ last_line open_then)
    × Ends stop why answers

-- so the last of transcripts, and nothing stops those before it
abbrev pub Close : Bool → Option Refusal → List (List Answer) → Type 0
Close stop None transcripts = All (Closes stop None) transcripts
Close stop (Some why) transcripts =
    (before : List (List Answer)) × (last : List Answer) × (transcripts ≡ before ++ last ∷ [])
    × All (Closes stop None) before
    × Closes stop (Some why) last

-- ---- sessions

-- the play goes on with the script of this session
abbrev pub in_session : Play → ℕ → Play
in_session p i = record p { session = i }

-- Scripts, each with its transcript, one after the other, from one state to another. They are numbered from 1.
pub data Serves {S : Type 0} (Session : S → ℕ → List Line → List Answer → S → Type 0) (start : S) : List (List Line)
    → List (List Answer) → S → Type 0 where
  no_script : Serves Session start [] [] start
  then_script : (scripts : List (List Line)) (transcripts : List (List Answer)) (mid end : S) (lines : List Line)
      (outcome : List Answer)
      → Serves Session start scripts transcripts mid → Session mid (length scripts + 1) lines outcome end
      → Serves Session start (scripts ++ lines ∷ []) (transcripts ++ outcome ∷ []) end

-- A session on the model: its lines are played, and a transaction that is open at their end is aborted.
pub record IsSession (relations counters : ℕ) (start : Play) (i : ℕ) (lines : List Line) (outcome : List Answer)
    (end : Play) : Type 0 where
  pub answers : List Answer
  pub play : Play
  pub ran : HasPlayed relations counters (in_session start i) lines answers play
  pub reported_is : outcome ≡ answers ++ last_line play.under_way
  pub end_is : end ≡ put_off play

abbrev pub HavePlayed : ℕ → ℕ → Play → List (List Line) → List (List Answer) → Play → Type 0
HavePlayed relations counters = Serves (IsSession relations counters)

module _ {D : Type 0} {g : Ghosts D} where
  -- it holds beside whatever play the kernel stands at with nobody alive, from whose first base it can be restarted
  abbrev pub StandsEach : Kernel D g → (Play → Type 0) → Type 0
  StandsEach k Promises = (p : Play) → IsBeside p None k → Restarts p.first k → Promises p

  -- A session of a kernel, beside the model: its script ran by itself, in this kernel or in one that goes on as it
  -- with its log turned over, and no transaction is active after it.
  pub record HasServed (start : Play × Kernel D g) (i : ℕ) (lines : List Line) (outcome : List Answer)
      (end : Play × Kernel D g) : Type 0 where
    pub answers : List Answer
    pub play : Play
    pub last : Kernel D g
    pub begun : Kernel D g
    pub over : GoesOver start.1 begun
    pub ran : Runs (HasTurned) (in_session start.0 i, begun) lines answers (play, last)
    pub reported_is : outcome ≡ answers ++ last_line play.under_way
    pub end_is : end.0 ≡ put_off play
    pub beside : IsBeside end.0 None end.1
    pub restarts : Restarts end.0.first end.1
    pub schema : SameSchema start.1 end.1

  -- One session was served: its line was written, and then its transcript. One that stopped is served as if its script
  -- ended there.
  pub record IsServed (stop : Bool) (ending : Option Stop) (p : Play) (k : Kernel D g) (i : ℕ) (lines : List Line)
      (was now : Option (List ℕ)) (n : Kernel D g) : Type 0 where
    pub transcript : List Answer
    pub end : Play
    pub served : HasServed (p, k) i (lines_to ending lines) transcript (end, n)
    pub closes : Closes stop (why_stopped ending) transcript
    pub outcome : Appends was now (session_line i ++ transcript_text transcript)

  -- All of them were, one after the other; or those up to the line that stopped them.
  pub record HaveServed (stop : Bool) (ending : Option Stop) (p : Play) (k : Kernel D g) (scripts : List (List Line))
      (was now : Option (List ℕ)) (n : Kernel D g) : Type 0 where
    pub transcripts : List (List Answer)
    pub play : Play
    pub at : IsStopAmong scripts ending
    pub served : Serves HasServed (p, k) (scripts_to ending scripts) transcripts (play, n)
    pub close : Close stop (why_stopped ending) transcripts
    pub outcome : Appends was now (sessions_text transcripts)
    pub beside : IsBeside play None n
    pub restarts : Restarts play.first n

module _ {D : Type 0} {g : Ghosts D} where
  -- A session ended early: its line was not written whole, and nothing ran; or its script was cut short.
  pub data IsCutWithin (p : Play) (k : Kernel D g) (i : ℕ) (lines : List Line) (was now : Option (List ℕ)) : NotServed D
      g → Type 0 where
    unheard_line : (n : Kernel D g) → AppendsFront was now (session_line i) → n ≡ k
        → IsCutWithin p k i lines was now (with_kernel fault.Output n)
    cut_script : (mid : Option (List ℕ)) (left : NotServed D g) → Appends was mid (session_line i)
        → IsCutOff (in_session p i) k lines mid now left
        → IsCutWithin p k i lines was now left

  -- The first of them were served, and the next one ended early.
  pub record AreCutShort (stop : Bool) (p : Play) (k : Kernel D g) (scripts : List (List Line))
      (was now : Option (List ℕ)) (left : NotServed D g) : Type 0 where
    pub before : List (List Line)
    pub lines : List Line
    pub rest : List (List Line)
    pub split : scripts ≡ before ++ lines ∷ rest
    pub mid : Option (List ℕ)
    pub last : Kernel D g
    pub ran : HaveServed stop None p k before was mid last
    pub within : IsCutWithin ran.play last (length before + 1) lines mid now left
