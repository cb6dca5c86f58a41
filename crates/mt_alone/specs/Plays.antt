-- A script run on the model: on a base alone, after the commits of a book, one operation after the other.
use Rattle.std.specs.Prelude.{ℕ, ◌≡◌, ◌⊎◌, ◌+◌, Bool, true, false, nat_le, List, [], ◌∷◌, ◌++◌, length, take, drop, Option, Some, None, ⊤}
use Rattle.mt_base.specs.declared.refusal.Refusal.{Refusal}
use Rattle.mt_base.specs.declared.refusal.Refusal.TheVariants as refusal
use Rattle.mt_model.specs.declared.history.Committed.{Committed}
use Rattle.mt_model.specs.declared.operations.Op.{Op}
use Rattle.mt_model.specs.declared.operations.Op.TheVariants.{Get, Insert, Update, Delete, Add, Read, Scan}
use Rattle.mt_model.specs.Model.{Base, reply_of}
use Rattle.mt_model.specs.Backwards.{OpenCalls, no_calls, with_one}
use Rattle.mt_model.specs.History.{Call, run}
use Rattle.mt_live.specs.Inverses.{inverses_on}
use Rattle.mt_txn.specs.Causes.{first_of, name_cause, size_cause, unless}
use Rattle.mt_script.specs.declared.lines.Line.{Line}
use Rattle.mt_script.specs.declared.lines.Line.TheVariants as line
use Rattle.mt_script.specs.declared.answers.Answer.{Answer}
use Rattle.mt_script.specs.declared.answers.Answer.TheVariants.{Begun, Replied, Saved, Back as WentBack, Committed as CommittedAt, Aborted, Refused}

-- whose script it is, the base that the commits began on, what they leave, the commits, and the calls of the
-- transaction that is open, if one is
pub record Play : Type 0 where
  pub session : ℕ
  pub first : Base
  pub base : Base
  pub book : List Committed
  pub under_way : Option OpenCalls

-- ---- a line

-- the model's answer if no transaction is open, and if one with these calls is
abbrev pub answer_at : Play → Option OpenCalls → Line → Answer
answer_at p None line.Begin = Begun
answer_at p None (line.Call op) = Refused refusal.Stranger
answer_at p None line.Save = Refused refusal.Stranger
answer_at p None (line.Back n) = Refused refusal.Stranger
answer_at p None line.Commit = Refused refusal.Stranger
answer_at p None line.Abort = Refused refusal.Stranger
answer_at p (Some calls) line.Begin = Refused refusal.Busy
answer_at p (Some calls) (line.Call op) = Replied (reply_of (run p.base calls.all) op)
answer_at p (Some calls) line.Save = Saved (length calls.counted)
answer_at p (Some calls) (line.Back n) = WentBack n
answer_at p (Some calls) line.Commit = CommittedAt (length p.book + 1)
answer_at p (Some calls) line.Abort = Aborted

-- The calls of one that went back, on a base, to the first so many that count. An inverse has the reply that the base
-- gives.
abbrev pub back_on : Base → OpenCalls → ℕ → OpenCalls
back_on b calls n = record {
  all = calls.all ++ inverses_on (run b calls.all) (drop n calls.counted);
  counted = take n calls.counted;
}

-- a call more; back at the first so many; all of them committed; and none
abbrev pub with_call : Play → OpenCalls → Op → Play
with_call p calls op = record p { under_way = Some (with_one calls (op, reply_of (run p.base calls.all) op)) }

abbrev pub returned_to : Play → OpenCalls → ℕ → Play
returned_to p calls n = record p { under_way = Some (back_on p.base calls n) }

abbrev pub committed : Play → OpenCalls → Play
committed p calls = record p {
  base = run p.base calls.all;
  book = p.book ++ record { session = p.session; calls = calls.all } ∷ [];
  under_way = None;
}

abbrev pub put_off : Play → Play
put_off p = record p { under_way = None }

-- what it is after the line: a commit keeps what the calls left, an abort throws it away
abbrev pub after_at : Play → Option OpenCalls → Line → Play
after_at p None line.Begin = record p { under_way = Some no_calls }
after_at p None (line.Call op) = p
after_at p None line.Save = p
after_at p None (line.Back n) = p
after_at p None line.Commit = p
after_at p None line.Abort = p
after_at p (Some calls) line.Begin = p
after_at p (Some calls) (line.Call op) = with_call p calls op
after_at p (Some calls) line.Save = p
after_at p (Some calls) (line.Back n) = returned_to p calls n
after_at p (Some calls) line.Commit = committed p calls
after_at p (Some calls) line.Abort = put_off p

-- ---- refusals

-- Why a line is refused whatever the pages hold, if it is. An operation names no relation or counter, or is past its
-- limits. More operations than count are to be gone back to.
abbrev pub fault_at : ℕ → ℕ → Option OpenCalls → Line → Option Refusal
fault_at relations counters (Some calls) (line.Call op) = first_of (name_cause relations counters op) (size_cause op)
fault_at relations counters (Some calls) (line.Back n) = unless (nat_le n (length calls.counted)) refusal.BadSavepoint
fault_at relations counters _ line = None

abbrev pub is_add : Op → Bool
is_add (Add c d) = true
is_add (Get r k) = false
is_add (Insert r k v) = false
is_add (Update r k v) = false
is_add (Delete r k) = false
is_add (Read c) = false
is_add (Scan r) = false

-- What may be wanting to a begin: memory, room in the book, bytes of the log. To an operation: memory, numbers,
-- pages, bytes of the log, and to an add the leave of escrow. To a commit: memory.
abbrev pub IsBeginWant : Refusal → Type 0
IsBeginWant refusal.NoMemory = ⊤
IsBeginWant refusal.BookFull = ⊤
IsBeginWant refusal.LogFull = ⊤
IsBeginWant _ = ⊥

abbrev pub IsCallWant : Op → Refusal → Type 0
IsCallWant op refusal.NoMemory = ⊤
IsCallWant op refusal.TooManyOperations = ⊤
IsCallWant op refusal.Escrow = is_add op ≡ true
IsCallWant op refusal.NoRoom = ⊤
IsCallWant op refusal.LogFull = ⊤
IsCallWant op _ = ⊥

abbrev pub IsWant : Option OpenCalls → Line → Refusal → Type 0
IsWant None line.Begin why = IsBeginWant why
IsWant (Some calls) (line.Call op) why = IsCallWant op why
IsWant (Some calls) line.Commit why = why ≡ refusal.NoMemory
IsWant _ _ why = ⊥

-- ---- a run

-- A line is answered as the model does. Or it is refused, and nothing comes of it: for its fault, or for a want that
-- is due.
pub data IsTurn (relations counters : ℕ) (IsDue : Line → Refusal → Type 0) (p : Play) (line : Line) : Answer
    → Play → Type 0 where
  acts : fault_at relations counters p.under_way line ≡ None
      → IsTurn relations counters IsDue p line (answer_at p p.under_way line) (after_at p p.under_way line)
  refuses : (why : Refusal) → (fault_at relations counters p.under_way line ≡ Some why)
      ⊎ (IsWant p.under_way line why × IsDue line why)
      → IsTurn relations counters IsDue p line (Refused why) p

-- lines, each with its answer, one after the other, from one state to another
pub data Runs {S : Type 0} (Turn : S → Line → Answer → S → Type 0) (start : S) : List Line → List Answer
    → S → Type 0 where
  starts : Runs Turn start [] [] start
  goes_on : (lines : List Line) (answers : List Answer) (mid end : S) (line : Line) (answer : Answer)
      → Runs Turn start lines answers mid → Turn mid line answer end
      → Runs Turn start (lines ++ line ∷ []) (answers ++ answer ∷ []) end

-- so on the model, whose wants nothing is known of
abbrev pub HasPlayed : ℕ → ℕ → Play → List Line → List Answer → Play → Type 0
HasPlayed relations counters = Runs (IsTurn relations counters (λ line why. Unit {0}))
