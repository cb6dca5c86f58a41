-- How a session goes on over a shared kernel, beside what its pass sees.
use Rattle.std.specs.Prelude.{Bool, ℕ, suc, ◌≡◌, ◌⊎◌, ◌≤◌, ◌<◌, ◌+◌, ◌^◌, List, [], ◌∷◌, ◌++◌, length, take, Option, Some, None, IsSome, Result, Ok, Err}
use mathlib.Core.List.{IsPrefix}
use Rattle.mt_base.specs.declared.refusal.Refusal.TheVariants as refusal
use Rattle.mt_mark.specs.declared.view.Entry.{Entry}
use Rattle.mt_model.specs.History.{Call}
use Rattle.mt_model.specs.declared.tables.Base.{Base}
use Rattle.mt_script.specs.Answers.{transcript_text}
use Rattle.mt_script.specs.declared.answers.Answer.{Answer}
use Rattle.mt_script.specs.declared.answers.Answer.TheVariants.{Begun, Replied, Saved, Back, Committed as CommittedAt, Aborted, Refused}
use Rattle.mt_script.specs.declared.lines.Line.{Line}
use Rattle.mt_script.specs.declared.lines.Line.TheVariants as line_of
use Rattle.mt_server.specs.Heard.{Heard, Hears, IsEnd}
use Rattle.mt_model.specs.Backwards.{OpenCalls}
use Rattle.mt_alone.specs.Plays.{Runs}
use Rattle.mt_server.specs.declared.attempts.Progress.{Progress}
use Rattle.mt_server.specs.declared.attempts.Progress.TheVariants as progress
use Rattle.mt_server.specs.declared.line_answers.Halt.{Halt}
use Rattle.mt_server.specs.declared.line_answers.Halt.TheVariants as halt
use Rattle.mt_locked.specs.Seen.{PassSeen, Extends}
use Rattle.mt_locked.specs.Tokens.{TxnSeen, entry_of as entry_in, open_calls}

-- ---- a session beside its pass

-- what it has heard, and what its pass has seen
pub record Place : Type 0 where
  pub heard : Heard
  pub pass : PassSeen

abbrev pub entry_of : ℕ → ℕ → List Call → Entry
entry_of pass session calls = record { pass = pass; done = record { session = session; calls = calls } }

-- what its pass has seen grows by its commits, and by nothing else
abbrev pub Grows : Base → ℕ → Place → Answer → PassSeen → Type 0
Grows b session p (CommittedAt place) new = (calls : OpenCalls) × (p.heard.under_way ≡ Some calls)
    × Extends b p.pass (entry_of p.pass.number session calls.all) place new
Grows b session p Begun new = new ≡ p.pass
Grows b session p (Replied reply) new = new ≡ p.pass
Grows b session p (Saved count) new = new ≡ p.pass
Grows b session p (Back first) new = new ≡ p.pass
Grows b session p Aborted new = new ≡ p.pass
Grows b session p (Refused why) new = new ≡ p.pass

pub record Turns (b : Base) (session : ℕ) (p : Place) (line : Line) (answer : Answer) (q : Place) : Type 0 where
  pub hears : Hears p.heard line answer q.heard
  pub grows : Grows b session p answer q.pass

-- lines, each with its answer
abbrev pub Served : Base → ℕ → Place → List Line → List Answer → Place → Type 0
Served b session = Runs (Turns b session)

-- where a session stands between two transactions, and within one
abbrev pub between : List (ℕ × List Call) → PassSeen → Place
between booked pass = record { heard = record { under_way = None; booked = booked }; pass = pass }

abbrev pub within : List (ℕ × List Call) → OpenCalls → PassSeen → Place
within booked calls pass = record { heard = record { under_way = Some calls; booked = booked }; pass = pass }

-- lines had these answers, as text
pub record HasServed (b : Base) (session : ℕ) (start : Place) (lines : List Line) (was now : List ℕ)
    (end : Place) : Type 0 where
  pub answers : List Answer
  pub served : Served b session start lines answers end
  pub text : now ≡ was ++ transcript_text answers

-- ---- a line

-- the token of a transaction with these calls
abbrev pub token_of : ℕ → ℕ → ℕ → OpenCalls → TxnSeen
token_of pass number session calls = record {
  pass = pass;
  number = number;
  done = record { session = session; calls = calls.all };
  standing = calls.counted;
}

-- this is the token of the transaction that is open, if one is
abbrev pub IsAt : ℕ → Option TxnSeen → Place → Type 0
IsAt session None p = p.heard.under_way ≡ None
IsAt session (Some t) p =
    (p.heard.under_way ≡ Some (open_calls t)) × (t ≡ token_of p.pass.number t.number session (open_calls t))

-- while a transaction is open, nothing more is seen
abbrev pub Waits : Option TxnSeen → PassSeen → PassSeen → Type 0
Waits None old new = Unit {0}
Waits (Some t) old new = new ≡ old

-- A line within a transaction was answered. Its token is given back, unless it has ended.
pub record IsTurned (b : Base) (session : ℕ) (start : Place) (line : Line) (was now : List ℕ)
    (token : Option TxnSeen) (new : PassSeen) : Type 0 where
  pub end : Place
  pub pass_is : end.pass ≡ new
  pub at : IsAt session token end
  pub waits : Waits token start.pass new
  pub answer : Answer
  pub turns : Turns b session start line answer end
  pub text : now ≡ was ++ transcript_text (answer ∷ [])

-- or it was not: the transaction died, and is taken back; the device failed, and that is reported; or the answer
-- found no memory. Nothing more is seen then.
abbrev pub IsStopped : PassSeen → List ℕ → List ℕ → PassSeen → Halt → Type 0
IsStopped pass was now new halt.Died = (new ≡ pass) × IsPrefix was now
IsStopped pass was now new halt.Failed =
    (new ≡ pass) × (now ≡ was ++ transcript_text (Refused refusal.DeviceFailed ∷ []))
IsStopped pass was now new halt.Unheard = new ≡ pass

-- A commit was made whose answer found no memory.
abbrev pub IsUnheardCommit : Base → TxnSeen → PassSeen → Line → PassSeen → Halt → Type 0
IsUnheardCommit b txn pass line new stop = (stop ≡ halt.Unheard) × (line ≡ line_of.Commit)
    × ((place : ℕ) × Extends b pass (entry_in txn) place new)

abbrev pub Turning : Base → TxnSeen → PassSeen → Line → List ℕ → List ℕ → PassSeen
    → Result (Option TxnSeen) Halt → Type 0
Turning b txn pass line was now new (Ok token) = (booked : List (ℕ × List Call))
    → IsTurned b txn.done.session (within booked (open_calls txn) pass) line was now token new
Turning b txn pass line was now new (Err stop) =
    IsStopped pass was now new stop ⊎ IsUnheardCommit b txn pass line new stop

-- what a line may come to if it only has an answer, and the transaction goes on
abbrev pub Reporting : TxnSeen → PassSeen → List ℕ → List ℕ → PassSeen → Answer → Result (Option TxnSeen) Halt → Type 0
Reporting txn pass was now new answer (Ok token) =
    (token ≡ Some txn) × (new ≡ pass) × (now ≡ was ++ transcript_text (answer ∷ []))
Reporting txn pass was now new answer (Err stop) = IsStopped pass was now new stop

-- ---- a transaction

-- lines had their answers, and this is the token of the transaction that is open then, if one is
pub record Reached (b : Base) (session : ℕ) (start : Place) (lines : List Line) (was now : List ℕ)
    (token : Option TxnSeen) (pass : PassSeen) : Type 0 where
  pub end : Place
  pub pass_is : end.pass ≡ pass
  pub at : IsAt session token end
  pub served : HasServed b session start lines was now end

-- the transaction has ended after so many lines; or it was open at the script's end, and was aborted
abbrev pub HasRan : Base → ℕ → Place → List Line → List ℕ → List ℕ → PassSeen → Progress → Type 0
HasRan b session start lines was now new (progress.Ended count) = (end : Place) × (end.pass ≡ new)
    × (end.heard.under_way ≡ None) × (count ≤ length lines) × HasServed b session start (take count lines) was now end
HasRan b session start lines was now new progress.AtEnd = (end : Place) × (mid : List ℕ) × (end.pass ≡ new)
    × IsSome end.heard.under_way × HasServed b session start lines was mid end
    × (now ≡ mid ++ transcript_text (Aborted ∷ []))

-- or it stopped
pub record HasFailed (b : Base) (session : ℕ) (start : Place) (lines : List Line) (was now : List ℕ)
    (new : PassSeen) : Type 0 where
  pub before : List Line
  pub rest : List Line
  pub split : lines ≡ before ++ rest
  pub end : Place
  pub pass_is : end.pass ≡ new
  pub mid : List ℕ
  pub served : HasServed b session start before was mid end
  pub text : now ≡ mid ++ transcript_text (Refused refusal.DeviceFailed ∷ [])

-- or a commit was made after these lines were answered, and its answer found no memory
pub record CommitsUnheard (b : Base) (session : ℕ) (start : Place) (lines : List Line) (was : List ℕ)
    (new : PassSeen) : Type 0 where
  pub before : List Line
  pub rest : List Line
  pub split : lines ≡ before ++ line_of.Commit ∷ rest
  pub end : Place
  pub mid : List ℕ
  pub served : HasServed b session start before was mid end
  pub place : ℕ
  pub grows : Grows b session end (CommittedAt place) new

abbrev pub Running : Base → ℕ → Place → List Line → List ℕ → List ℕ → PassSeen → Result Progress Halt → Type 0
Running b session start lines was now new (Ok ran) = HasRan b session start lines was now new ran
Running b session start lines was now new (Err halt.Died) = (new ≡ start.pass) × IsPrefix was now
Running b session start lines was now new (Err halt.Failed) = HasFailed b session start lines was now new
Running b session start lines was now new (Err halt.Unheard) =
    (new ≡ start.pass) ⊎ CommitsUnheard b session start lines was new

-- its begin stands before these lines
abbrev pub and_begin : Result Progress Halt → Result Progress Halt
and_begin (Ok (progress.Ended count)) = Ok (progress.Ended (suc count))
and_begin (Ok progress.AtEnd) = Ok progress.AtEnd
and_begin (Err stop) = Err stop

abbrev pub AreFew : Result Progress Halt → Type 0
AreFew (Ok (progress.Ended count)) = count + 1 < 2 ^ 64
AreFew (Ok progress.AtEnd) = Unit {0}
AreFew (Err stop) = Unit {0}

-- what is open at the script's end is taken back, and that is reported
abbrev pub Ending : PassSeen → List ℕ → List ℕ → PassSeen → Result Progress Halt → Type 0
Ending pass was now new (Ok (progress.Ended count)) = ⊥
Ending pass was now new (Ok progress.AtEnd) = (new ≡ pass) × (now ≡ was ++ transcript_text (Aborted ∷ []))
Ending pass was now new (Err halt.Died) = ⊥
Ending pass was now new (Err halt.Failed) =
    (new ≡ pass) × (now ≡ was ++ transcript_text (Refused refusal.DeviceFailed ∷ []))
Ending pass was now new (Err halt.Unheard) = new ≡ pass

-- ---- a session

-- A script was answered from its first line on, beside this pass. Its device has failed, or it has not.
pub record IsSession (failed : Bool) (b : Base) (session : ℕ) (lines : List Line) (text : List ℕ)
    (old new : PassSeen) : Type 0 where
  pub before : List Line
  pub rest : List Line
  pub lines_are : lines ≡ before ++ rest
  pub answers : List Answer
  pub last : List Answer
  pub end : Place
  pub pass_is : end.pass ≡ new
  pub served : Served b session (between [] old) before answers end
  pub ends : IsEnd failed end.heard.under_way rest last
  pub text_is : text ≡ transcript_text (answers ++ last)
