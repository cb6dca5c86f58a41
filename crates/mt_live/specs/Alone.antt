-- A transaction that lives alone.
use Rattle.std.specs.Prelude.{ℕ, ◌≡◌, ◌≢◌, true, List, [], ◌∷◌, ◌++◌, Some, None, filter, take, drop, is_some}
use Rattle.mt_model.specs.declared.objects.Lock.{Lock}
use Rattle.mt_model.specs.declared.operations.Op.{Op}
use Rattle.mt_model.specs.History.{Call, run}
use Rattle.mt_model.specs.Locks.{AreAllFree}
use Rattle.mt_model.specs.declared.pending_add.Pending.{Pending}
use Rattle.mt_model.specs.Model.{Base, reply_of, base_after, inverse_of}
use Rattle.mt_live.specs.Entries.{Entry, calls, kept}
use Rattle.mt_live.specs.Inverses.{inverses_on}
use Rattle.mt_live.specs.Machine.{State, committed_base, IsKept, begun, called, ended, returned, settled, booked, gone}
use Rattle.mt_live.specs.Undoing.{only, is_counted, last_effect, after_first}

abbrev pub NobodyLives : State → Type 0
NobodyLives s = (u : ℕ) → s.sessions u ≡ None

-- It is of this session, these are its calls, of which these count, and it runs nothing.
pub record IsAlone (s : State) (t session : ℕ) (cs counted : List Call) : Type 0 where
  pub lives : s.sessions t ≡ Some session
  pub others : (u : ℕ) → u ≢ t → s.sessions u ≡ None
  pub calls_are : calls (kept (only t) s.standing) ≡ cs
  pub counted_are : calls (filter (is_counted t) s.standing) ≡ counted
  pub idle : s.running t ≡ None

-- if no transaction is active, one that begins is alone
abbrev pub BeginsAlone : Type 0
BeginsAlone =
    (b : Base) (s : State) (session : ℕ) → IsKept b s → NobodyLives s → IsAlone (begun s session) s.next session [] []

-- the pages hold what its calls leave on the base of the book
abbrev pub AloneHolds : Type 0
AloneHolds =
    (b : Base) (s : State) (t session : ℕ) (cs counted : List Call) → IsKept b s → IsAlone s t session cs counted
    → s.base ≡ run (committed_base b s) cs

-- nobody is in its way, whichever locks it asks for
abbrev pub AloneIsFree : Type 0
AloneIsFree =
    (b : Base) (s : State) (t session : ℕ) (cs counted : List Call) → IsKept b s → IsAlone s t session cs counted
    → (ls : List Lock) → AreAllFree s.held t ls

-- an operation that it calls, and that ends, replies as the model does after its other calls, and is the last of them
abbrev pub AloneActs : Type 0
AloneActs =
    (b : Base) (s : State) (t session : ℕ) (cs counted : List Call) (op : Op) → IsKept b s
    → IsAlone s t session cs counted
    → IsAlone (ended (called s t op) t op) t session (cs ++ (op, reply_of (run (committed_base b s) cs) op) ∷ [])
    (counted ++ (op, reply_of (run (committed_base b s) cs) op) ∷ [])

-- ---- it goes back to its first so many that count

-- From these calls it came to a state z by one inverse, which is the last of its calls and replies as the model does.
-- The first so many count as before, and the inverses of those after them that still count are left.
pub record TakesOneBack (z : State) (t session n : ℕ) (b : Base) (cs counted : List Call) (i : Op) : Type 0 where
  pub left : List Call
  pub alone : IsAlone z t session (cs ++ (i, reply_of (run b cs) i) ∷ []) left
  pub first : take n left ≡ take n counted
  pub rest : (m : Base)
      → inverses_on m (drop n counted) ≡ (i, reply_of m i) ∷ inverses_on (base_after m i) (drop n left)

abbrev pub AloneReturns : Type 0
AloneReturns =
    (b : Base) (s : State) (t session n : ℕ) (cs counted : List Call) (last : Entry) (i : Op) (ps : List Pending)
    → IsKept b s → IsAlone s t session cs counted → last_effect t s.standing ≡ Some last
    → is_some (last_effect t (after_first t n s.standing)) ≡ true → inverse_of last.op last.reply ≡ Some i
    → TakesOneBack (returned s t last i ps) t session n (committed_base b s) cs counted i

-- once none of those after the first did anything, the first count, and no inverse is left
abbrev pub AloneSettles : Type 0
AloneSettles =
    (s : State) (t session n : ℕ) (cs counted : List Call) → IsAlone s t session cs counted
    → last_effect t (after_first t n s.standing) ≡ None
    → IsAlone (settled s t n) t session cs (take n counted) × ((m : Base) → inverses_on m (drop n counted) ≡ [])

-- ---- its end

-- its commit puts just its calls after the book
abbrev pub AloneCommits : Type 0
AloneCommits =
    (s : State) (t session : ℕ) (cs counted : List Call) → IsAlone s t session cs counted
    → ((booked s t session).book ≡ s.book ++ record { session = session; calls = cs } ∷ [])
    × NobodyLives (booked s t session)

-- and without it no transaction is active
abbrev pub AloneLeaves : Type 0
AloneLeaves = (s : State) (t session : ℕ) (cs counted : List Call) → IsAlone s t session cs counted
    → ((gone s t).book ≡ s.book) × NobodyLives (gone s t)
