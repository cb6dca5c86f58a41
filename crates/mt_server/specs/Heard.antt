-- What sessions over a shared kernel are answered, and what the history has of them.
use Rattle.std.specs.Prelude.{Bool, true, ℕ, ◌≡◌, ◌<◌, ◌≤◌, ◌+◌, List, [], ◌∷◌, ◌++◌, length, Option, Some, None, All, get_or}
use Rattle.mt_base.specs.declared.refusal.Refusal.{Refusal}
use Rattle.mt_base.specs.declared.refusal.Refusal.TheVariants as refusal
use Rattle.mt_model.specs.History.{Call}
use Rattle.mt_model.specs.declared.history.Committed.{Committed}
use Rattle.mt_model.specs.declared.operations.Op.{Op}
use Rattle.mt_model.specs.declared.operations.Reply.{Reply}
use Rattle.mt_script.specs.Answers.{transcript_text}
use Rattle.mt_script.specs.declared.answers.Answer.{Answer}
use Rattle.mt_script.specs.declared.answers.Answer.TheVariants.{Begun, Replied, Saved, Back, Committed as CommittedAt, Aborted, Refused}
use Rattle.mt_script.specs.declared.lines.Line.{Line}
use Rattle.mt_script.specs.declared.lines.Line.TheVariants as line
use Rattle.mt_model.specs.Backwards.{OpenCalls, back_to, no_calls, with_one}
use Rattle.mt_alone.specs.Plays.{Runs}
use Rattle.mt_alone.specs.Runs.{last_line}
use Rattle.mt_locked.specs.Refusals.{IsBackRefusal, IsBeginRefusal, IsCommitRefusal}
use Rattle.mt_shared.specs.Refusals.{IsSavepointCause}
use Rattle.mt_txn.specs.Causes.{IsCallRefusal, size_cause}

-- ---- answers

-- the calls of the transaction that is open, if one is, and the commits so far: the position of each, with its calls
pub record Heard : Type 0 where
  pub under_way : Option OpenCalls
  pub booked : List (ℕ × List Call)

abbrev pub silence : Heard
silence = record { under_way = None; booked = [] }

-- a session goes on after a refusal, unless the device failed
abbrev pub LetsGoOn : Refusal → Type 0
LetsGoOn refusal.DeviceFailed = ⊥
LetsGoOn why = Unit {0}

-- and so does its transaction, unless it dies of it
abbrev pub LetsLive : Refusal → Type 0
LetsLive (refusal.Die holder) = ⊥
LetsLive why = LetsGoOn why

-- A line may be refused so, and the session goes on: by 15 what is not a begin, and by nothing else, if no
-- transaction is open; by 16 a begin if one is. Else a begin, an operation, a commit and going back each have the
-- refusals that a shared kernel has for it. A save and an abort are not refused. Nor is anything by 2; and an operation
-- by 14 only if its transaction is gone then.
abbrev pub IsRefusable : Option OpenCalls → Line → Refusal → Type 0
IsRefusable None line.Begin why = LetsGoOn why × IsBeginRefusal why
IsRefusable None (line.Call op) why = why ≡ refusal.Stranger
IsRefusable None line.Save why = why ≡ refusal.Stranger
IsRefusable None (line.Back first) why = why ≡ refusal.Stranger
IsRefusable None line.Commit why = why ≡ refusal.Stranger
IsRefusable None line.Abort why = why ≡ refusal.Stranger
IsRefusable (Some calls) line.Begin why = why ≡ refusal.Busy
IsRefusable (Some calls) (line.Call op) why = LetsLive why × IsCallRefusal op why
IsRefusable (Some calls) line.Save why = ⊥
IsRefusable (Some calls) (line.Back first) why =
    LetsGoOn why × IsBackRefusal why × IsSavepointCause (length calls.counted) first why
IsRefusable (Some calls) line.Commit why = LetsGoOn why × IsCommitRefusal why
IsRefusable (Some calls) line.Abort why = ⊥

-- An answer to a line. What is replied to lies within its limits. A save counts the operations that count. What going
-- back takes back counts no more, and its inverses are calls. A commit keeps the calls since the begin, these among
-- them; a transaction that dies is gone.
pub data Hears (h : Heard) : Line → Answer → Heard → Type 0 where
  begins : h.under_way ≡ None → Hears h line.Begin Begun (record h { under_way = Some no_calls })
  replies : (calls : OpenCalls) (op : Op) (reply : Reply) → h.under_way ≡ Some calls → size_cause op ≡ None
      → Hears h (line.Call op) (Replied reply) (record h { under_way = Some (with_one calls (op, reply)) })
  saves : (calls : OpenCalls) → h.under_way ≡ Some calls → Hears h line.Save (Saved (length calls.counted)) h
  goes_back : (calls : OpenCalls) (first : ℕ) → h.under_way ≡ Some calls → first ≤ length calls.counted
      → Hears h (line.Back first) (Back first) (record h { under_way = Some (back_to calls first) })
  commits : (calls : OpenCalls) (place : ℕ) → h.under_way ≡ Some calls → Hears h line.Commit (CommittedAt place)
      (record { under_way = None; booked = h.booked ++ (place, calls.all) ∷ [] })
  aborts : (calls : OpenCalls) → h.under_way ≡ Some calls → Hears h line.Abort Aborted (record h { under_way = None })
  dies : (calls : OpenCalls) (op : Op) (holder : ℕ) → h.under_way ≡ Some calls
      → Hears h (line.Call op) (Refused (refusal.Die holder)) (record h { under_way = None })
  refuses : (line : Line) (why : Refusal) → IsRefusable h.under_way line why → Hears h line (Refused why) h

-- what stands after the answers: that the open transaction is aborted, if the script is at its end; or that the
-- device failed, if it has
pub data IsEnd (failed : Bool) (u : Option OpenCalls) : List Line → List Answer → Type 0 where
  ends : IsEnd failed u [] (last_line u)
  fails : (rest : List Line) → failed ≡ true → IsEnd failed u rest (Refused refusal.DeviceFailed ∷ [])

-- ---- the history

-- a session's transaction with these calls has this position in the book, from 1
pub record StandsAt (session : ℕ) (book : List Committed) (place : ℕ) (calls : List Call) : Type 0 where
  pub before : List Committed
  pub behind : List Committed
  pub book_is : book ≡ before ++ record { session = session; calls = calls } ∷ behind
  pub place_is : length before + 1 ≡ place

-- the positions rise, up to this one
pub data Rise : List (ℕ × List Call) → ℕ → Type 0 where
  nowhere : Rise [] 0
  higher : (booked : List (ℕ × List Call)) (last place : ℕ) (calls : List Call) → Rise booked last → last < place
      → Rise (booked ++ (place, calls) ∷ []) place

-- The transcript of a session: the text of what its lines were answered. These are the commits that it reports, each
-- with its position and its calls; each has that position in this book, and they rise. It ends with 2 only if the
-- device has failed.
pub record IsReported (failed : Bool) (session : ℕ) (lines : List Line) (text : List ℕ) (booked : List (ℕ × List Call))
    (book : List Committed) : Type 0 where
  pub before : List Line
  pub rest : List Line
  pub lines_are : lines ≡ before ++ rest
  pub answers : List Answer
  pub last : List Answer
  pub open_then : Option OpenCalls
  pub hears : Runs Hears silence before answers (record { under_way = open_then; booked = booked })
  pub end : IsEnd failed open_then rest last
  pub text_is : text ≡ transcript_text (answers ++ last)
  pub stands : All (λ (c : ℕ × List Call). StandsAt session book c.0 c.1) booked
  pub highest : ℕ
  pub rises : Rise booked highest

-- how many commits these report together
abbrev pub all_booked : List (List (ℕ × List Call)) → ℕ
all_booked [] = 0
all_booked (booked ∷ more) = length booked + all_booked more

-- There is one for each script, in their order, of which the first is session 1. The book has no commit but those
-- that they report.
pub record AreAllReported (failed : Bool) (scripts : List (List Line)) (texts : List (List ℕ))
    (book : List Committed) : Type 0 where
  pub count : length texts ≡ length scripts
  pub booked : List (List (ℕ × List Call))
  pub each : (i : ℕ) (lines : List Line) → i < length scripts → lines ≡ get_or scripts i lines
      → IsReported failed (i + 1) lines (get_or texts i []) (get_or booked i []) book
  pub many : length booked ≡ length scripts
  pub whole : length book ≡ all_booked booked
