-- What contracts see of the token of a transaction.
use Rattle.std.specs.Prelude.{ℕ, ◌<◌, ◌≤◌, ◌++◌, ◌∷◌, [], All, List, drop, get_or, length, map, take}
use Rattle.mt_inverse.specs.Steps.{IsWithinSteps}
use Rattle.mt_mark.specs.declared.view.Entry.{Entry}
use Rattle.mt_model.specs.Backwards.{OpenCalls, back_to, no_calls, with_one}
use Rattle.mt_model.specs.History.{Call}
use Rattle.mt_model.specs.declared.history.Committed.{Committed}
use Rattle.mt_model.specs.declared.operations.Op.{Op}
use Rattle.mt_model.specs.declared.operations.Op.TheVariants.{Read}
use Rattle.mt_model.specs.declared.operations.Reply.{Reply}
use Rattle.mt_model.specs.declared.operations.Reply.TheVariants.{Missing}

-- The pass with which it was begun, its number in the kernel, what it would be in the book, and those of its calls that
-- count. Calls that were taken back do not count, and neither do the inverses that took them back.
pub record TxnSeen : Type 0 where
  pub pass : ℕ
  pub number : ℕ
  pub done : Committed
  pub standing : List Call

-- The calls that were taken out of a token, and those of them that count. There is memory for so many more, of which
-- so many can count.
pub record CallsSeen : Type 0 where
  pub calls : List Call
  pub standing : List Call
  pub spare : ℕ
  pub countable : ℕ

-- there is memory for one more call, and it can count
pub record HasRoom (c : CallsSeen) : Type 0 where
  pub spare : 1 ≤ c.spare
  pub countable : 1 ≤ c.countable

-- the entry that it would be in the history
abbrev pub entry_of : TxnSeen → Entry
entry_of t = record { pass = t.pass; done = t.done }

-- the calls of its transaction, and the token with these calls in place of its own
abbrev pub open_calls : TxnSeen → OpenCalls
open_calls t = record { all = t.done.calls; counted = t.standing }

abbrev pub with_calls : TxnSeen → OpenCalls → TxnSeen
with_calls t calls = record t {
  done = record { session = t.done.session; calls = calls.all };
  standing = calls.counted;
}

-- the token of a transaction that has just begun
abbrev pub fresh : ℕ → ℕ → ℕ → TxnSeen
fresh pass number session = record {
  pass = pass;
  number = number;
  done = record { session = session; calls = [] };
  standing = [];
}

-- the token after a call and its reply
abbrev pub with_call : TxnSeen → Op → Reply → TxnSeen
with_call t op reply = with_calls t (with_one (open_calls t) (op, reply))

-- the token after its transaction went back to the first so many calls that count
abbrev pub went_back : TxnSeen → ℕ → TxnSeen
went_back t first = with_calls t (back_to (open_calls t) first)

-- ---- how a token keeps which of its calls count

-- the call at this position, from 0
abbrev pub call_at : List Call → ℕ → Call
call_at calls position = get_or calls position (Read 0, Missing)

-- those at these positions
abbrev pub calls_at : List Call → List ℕ → List Call
calls_at calls positions = map (call_at calls) positions

-- They are positions of calls, few enough to be counted by 16 bits, and an inverse of each call there can be named.
pub record ArePositions (calls : List Call) (positions : List ℕ) : Type 0 where
  pub within : All (λ (position : ℕ). position < length calls) positions
  pub steps : All (λ (c : Call). IsWithinSteps c.0) (calls_at calls positions)
  pub few : length positions ≤ 65535
