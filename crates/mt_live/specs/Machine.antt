-- A kernel without pages: what it keeps of live transactions, and its events.
use Rattle.std.specs.Prelude.{ℕ, ◌≡◌, ◌≤◌, ◌+◌, ◌==◌, Bool, true, cond, List, [], ◌∷◌, ◌++◌, Option, Some, None, is_some, ⊤}
use Rattle.mt_base.specs.declared.modes.LockMode.{LockMode}
use Rattle.mt_model.specs.declared.objects.Object.{Object}
use Rattle.mt_model.specs.declared.operations.Op.{Op}
use Rattle.mt_model.specs.declared.operations.Op.TheVariants.{Add}
use Rattle.mt_model.specs.declared.pending_add.Pending.{Pending}
use Rattle.mt_model.specs.declared.history.Committed.{Committed}
use Rattle.mt_model.specs.Model.{Base, locks_of, reply_of, base_after, inverse_of}
use Rattle.mt_model.specs.History.{after, IsLegal}
use Rattle.mt_model.specs.Escrow.{IsAdmissible, HasRoom}
use Rattle.mt_model.specs.Locks.{Held, no_locks, with_locks, without_holder, HoldsEach, AreAllFree, AreTogether}
use Rattle.mt_model.specs.Pending.{steps_at, pending_of, pending_without}
use Rattle.mt_live.specs.declared.transactions.Role.TheVariants.{Stands, Back}
use Rattle.mt_live.specs.Entries.{Entry, calls, runs, kept}
use Rattle.mt_live.specs.Adds.{add_before, adds, add_of, backs, GivesBack}
use Rattle.mt_live.specs.Taking.{AreAside}
use Rattle.mt_live.specs.Undoing.{only, others, last_effect, cut_back, mark_last, after_first, settle_after}
use Rattle.mt_live.specs.Sound.{Each, IsSound}

-- the transactions that are durable, in the order of their commits; the session of each live one, and
-- the number of the next; the entries that count, in the order in which they ended; what each
-- transaction runs; the locks; the adds that are pending; those that are set aside; and the base that the pages hold
pub record State : Type 0 where
  pub book : List Committed
  pub sessions : ℕ → Option ℕ
  pub next : ℕ
  pub standing : List Entry
  pub running : ℕ → Option Op
  pub held : Held
  pub pending : List Pending
  pub aside : List Pending
  pub base : Base

-- the base that the durable transactions leave
abbrev pub committed_base : Base → State → Base
committed_base b s = after b s.book

abbrev pub put : {A : Type 0} → (ℕ → A) → ℕ → A → ℕ → A
put f t x u = cond (u == t) x (f u)

abbrev pub is_live : State → ℕ → Bool
is_live s t = is_some (s.sessions t)

-- ---- what is kept

-- what stands, runs, is locked or is set aside is of a live transaction, and no number to come is
pub record AreOwned (s : State) : Type 0 where
  pub standing : Each (λ (e : Entry). is_live s e.txn ≡ true) s.standing
  pub running : (t : ℕ) (op : Op) → s.running t ≡ Some op → is_live s t ≡ true
  pub held : (t : ℕ) (x : Object) (m : LockMode) → s.held t x m ≡ true → is_live s t ≡ true
  pub aside : Each (λ (p : Pending). is_live s p.txn ≡ true) s.aside
  pub fresh : (t : ℕ) → s.next ≤ t → is_live s t ≡ true → ⊥

-- the book is legal; what stands is sound on what it leaves, and leads to the base of the pages; locks
-- go together; each counter has room for whichever adds are set aside or pending; a transaction's pending adds are
-- those that stand and the one that runs; what inverses took back is set aside; and what runs has its locks
pub record IsKept (b : Base) (s : State) : Type 0 where
  pub legal : IsLegal b s.book
  pub sound : IsSound s.held (committed_base b s) s.standing
  pub base : runs (committed_base b s) s.standing ≡ s.base
  pub locks : AreTogether s.held
  pub room : (c : ℕ) → HasRoom ((committed_base b s).counts c) (steps_at c (s.aside ++ s.pending))
  pub tied : (t : ℕ) → pending_of t s.pending ≡ pending_of t (adds s.standing) ++ add_of t (s.running t)
  pub set_aside : AreAside s.aside (backs s.standing)
  pub locked : (t : ℕ) (op : Op) → s.running t ≡ Some op → HoldsEach s.held t (locks_of op)
  pub owned : AreOwned s

-- ---- events

-- a transaction begins, under the next number
abbrev pub begun : State → ℕ → State
begun s session = record s { sessions = put s.sessions s.next (Some session); next = s.next + 1 }

-- a call is granted: its locks are held, and if it is an add, it is pending
abbrev pub called : State → ℕ → Op → State
called s t op = record s {
  running = put s.running t (Some op);
  held = with_locks s.held t (locks_of op);
  pending = s.pending ++ add_before t op [];
}

-- an add is admissible beside these adds
abbrev pub IsAdmitted : Base → List Pending → ℕ → Op → Type 0
IsAdmitted m ps t (Add c d) =
    IsAdmissible (m.counts c) (steps_at c (ps ++ record { txn = t; counter = c; step = d } ∷ []))
IsAdmitted m ps t _ = ⊤

-- its transaction lives and runs nothing, no other holds a lock that bars one that it asks for, and escrow admits it
pub record MayCall (b : Base) (s : State) (t : ℕ) (op : Op) : Type 0 where
  pub live : is_live s t ≡ true
  pub idle : s.running t ≡ None
  pub free : AreAllFree s.held t (locks_of op)
  pub admitted : IsAdmitted (committed_base b s) (s.aside ++ s.pending) t op

-- what a transaction runs ends: it stands after all others, with the model's reply on the base
abbrev pub ended : State → ℕ → Op → State
ended s t op = record s {
  standing = s.standing ++ record { txn = t; op = op; reply = reply_of s.base op; role = Stands } ∷ [];
  running = put s.running t None;
  base = base_after s.base op;
}

-- what a transaction runs is taken back unfinished
abbrev pub dropped : State → ℕ → List Pending → State
dropped s t pending = record s { running = put s.running t None; pending = pending }

-- a transaction is gone, with its entries, its locks, and its adds that are pending or set aside
abbrev pub gone : State → ℕ → State
gone s t = record s {
  sessions = put s.sessions t None;
  standing = kept (others t) s.standing;
  held = without_holder s.held t;
  pending = pending_without t s.pending;
  aside = pending_without t s.aside;
}

-- a commit is durable: its transaction is gone, and its entries stand after the book
abbrev pub booked : State → ℕ → ℕ → State
booked s t session = record (gone s t) {
  book = s.book ++ record { session = session; calls = calls (kept (only t) s.standing) } ∷ [];
}

-- the inverse of a transaction's last effect has ended in its abort
abbrev pub undone : State → ℕ → Op → List Pending → State
undone s t i pending = record s {
  standing = cut_back t s.standing;
  pending = pending;
  base = base_after s.base i;
}

-- the inverse of a transaction's last effect has ended, and the transaction goes on: both stay, and an add is set
-- aside
abbrev pub returned : State → ℕ → Entry → Op → List Pending → State
returned s t last inverse pending = record s {
  standing = mark_last t s.standing
      ++ record { txn = t; op = inverse; reply = reply_of s.base inverse; role = Back } ∷ [];
  pending = pending;
  aside = s.aside ++ add_before t last.op [];
  base = base_after s.base inverse;
}

-- a transaction is back where its first so many operations had ended: those after them, which did nothing, are taken
-- back too
abbrev pub settled : State → ℕ → ℕ → State
settled s t n = record s { standing = settle_after t n s.standing }

-- one event leads from one state to another
pub data Goes (b : Base) (s z : State) : Type 0 where
  Begins : (session : ℕ) → z ≡ begun s session → Goes b s z
  Calls : (t : ℕ) → (op : Op) → MayCall b s t op → z ≡ called s t op → Goes b s z
  Ends : (t : ℕ) → (op : Op) → s.running t ≡ Some op → z ≡ ended s t op → Goes b s z
  Drops : (t : ℕ) → (op : Op) → (ps : List Pending) → s.running t ≡ Some op → GivesBack t op s.pending ps
      → z ≡ dropped s t ps → Goes b s z
  Commits : (t : ℕ) → (session : ℕ) → s.sessions t ≡ Some session → s.running t ≡ None → z ≡ booked s t session
      → Goes b s z
  Undoes : (t : ℕ) → (last : Entry) → (i : Op) → (ps : List Pending) → s.running t ≡ None
      → last_effect t s.standing ≡ Some last → inverse_of last.op last.reply ≡ Some i
      → GivesBack t last.op s.pending ps → z ≡ undone s t i ps → Goes b s z
  Returns : (t : ℕ) → (last : Entry) → (i : Op) → (ps : List Pending) → s.running t ≡ None
      → last_effect t s.standing ≡ Some last → inverse_of last.op last.reply ≡ Some i
      → GivesBack t last.op s.pending ps → z ≡ returned s t last i ps → Goes b s z
  Settles : (t : ℕ) → (n : ℕ) → s.running t ≡ None → last_effect t (after_first t n s.standing) ≡ None
      → z ≡ settled s t n → Goes b s z
  Aborts : (t : ℕ) → s.running t ≡ None → last_effect t s.standing ≡ None → z ≡ gone s t → Goes b s z

-- one event after the other
abbrev pub AllGo : Base → State → List State → Type 0
AllGo b s [] = ⊤
AllGo b s (z ∷ zs) = Goes b s z × AllGo b z zs

abbrev pub last_state : State → List State → State
last_state s [] = s
last_state s (z ∷ zs) = last_state z zs

-- a kernel with an empty book and no transaction
abbrev pub start : Base → State
start b = record {
  book = [];
  sessions = λ t. None;
  next = 1;
  standing = [];
  running = λ t. None;
  held = no_locks;
  pending = [];
  aside = [];
  base = b;
}
