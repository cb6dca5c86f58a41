-- What holds of the kernel without pages: the statements of its laws.
use Rattle.std.specs.Prelude.{ℕ, ◌≡◌, List, [], ◌∷◌, ◌++◌, Some, None, Bool, true}
use Rattle.mt_base.specs.declared.modes.LockMode.{LockMode}
use Rattle.mt_model.specs.declared.objects.Object.{Object}
use Rattle.mt_model.specs.declared.operations.Op.{Op}
use Rattle.mt_model.specs.declared.pending_add.Pending.{Pending}
use Rattle.mt_model.specs.declared.history.Committed.{Committed}
use Rattle.mt_model.specs.Model.{Base, IsBase, inverse_of}
use Rattle.mt_model.specs.History.{IsLegal, after}
use Rattle.mt_model.specs.Locks.{Held, AreTogether}
use Rattle.mt_model.specs.Pending.{moved_by}
use Rattle.mt_live.specs.Entries.{Entry, calls, runs, AreActed, kept, struck, IsExplained}
use Rattle.mt_live.specs.Adds.{GivesBack, add_before}
use Rattle.mt_live.specs.Sound.{IsSound}
use Rattle.mt_live.specs.Undoing.{only, others, last_effect, after_first}
use Rattle.mt_live.specs.Machine.{State, committed_base, is_live, IsKept, begun, called, MayCall, ended, dropped, gone, booked, undone, returned, settled, Goes, AllGo, last_state, start}

-- ---- what each event keeps

abbrev pub BeginKeeps : Type 0
BeginKeeps = (b : Base) (s : State) (session : ℕ) → IsKept b s → IsKept b (begun s session)

abbrev pub CallKeeps : Type 0
CallKeeps = (b : Base) (s : State) (t : ℕ) (op : Op) → IsKept b s → MayCall b s t op → IsKept b (called s t op)

abbrev pub EndKeeps : Type 0
EndKeeps = (b : Base) (s : State) (t : ℕ) (op : Op) → IsKept b s → s.running t ≡ Some op → IsKept b (ended s t op)

abbrev pub DropKeeps : Type 0
DropKeeps =
    (b : Base) (s : State) (t : ℕ) (op : Op) (ps : List Pending) → IsKept b s → s.running t ≡ Some op
    → GivesBack t op s.pending ps → IsKept b (dropped s t ps)

abbrev pub CommitKeeps : Type 0
CommitKeeps = (b : Base) (s : State) (t session : ℕ) → IsKept b s → s.running t ≡ None → IsKept b (booked s t session)

-- the base that the book leaves moves by what the transaction has pending at each counter
abbrev pub CommitMovesCounters : Type 0
CommitMovesCounters =
    (b : Base) (s : State) (t session : ℕ) → IsKept b s → s.running t ≡ None
    → (c : ℕ) → (committed_base b (booked s t session)).counts c
    ≡ moved_by t c s.pending ((committed_base b s).counts c)

abbrev pub InverseKeeps : Type 0
InverseKeeps =
    (b : Base) (s : State) (t : ℕ) (last : Entry) (i : Op) (ps : List Pending) → IsKept b s → s.running t ≡ None
    → last_effect t s.standing ≡ Some last → inverse_of last.op last.reply ≡ Some i → GivesBack t last.op s.pending ps
    → IsKept b (undone s t i ps)

abbrev pub ReturnKeeps : Type 0
ReturnKeeps =
    (b : Base) (s : State) (t : ℕ) (last : Entry) (i : Op) (ps : List Pending) → IsKept b s → s.running t ≡ None
    → last_effect t s.standing ≡ Some last → inverse_of last.op last.reply ≡ Some i → GivesBack t last.op s.pending ps
    → IsKept b (returned s t last i ps)

abbrev pub SettleKeeps : Type 0
SettleKeeps =
    (b : Base) (s : State) (t n : ℕ) → IsKept b s → s.running t ≡ None
    → last_effect t (after_first t n s.standing) ≡ None → IsKept b (settled s t n)

abbrev pub AbortKeeps : Type 0
AbortKeeps =
    (b : Base) (s : State) (t : ℕ) → IsKept b s → s.running t ≡ None → last_effect t s.standing ≡ None
    → IsKept b (gone s t)

-- what stands is what stood without the transaction, on the same book, and its run alone leads to the
-- base that the pages hold
abbrev pub AbortLeavesNoTrace : Type 0
AbortLeavesNoTrace =
    (b : Base) (s : State) (t : ℕ) → IsKept b s → s.running t ≡ None → last_effect t s.standing ≡ None
    → ((gone s t).standing ≡ kept (others t) s.standing) × ((gone s t).book ≡ s.book)
    × ((gone s t).base ≡ runs (committed_base b s) (kept (others t) s.standing))

-- what was pending for a call that is refused after all is given back: it holds as if it had not been called
abbrev pub GivingBackKeeps : Type 0
GivingBackKeeps =
    (b : Base) (s : State) (t : ℕ) (op : Op) (ps : List Pending) → IsKept b s → MayCall b s t op
    → GivesBack t op (s.pending ++ add_before t op []) ps → IsKept b (record s { pending = ps })

-- ---- what is kept explains

abbrev pub KeptIsExplained : Type 0
KeptIsExplained = (b : Base) (s : State) → IsKept b s → IsExplained (committed_base b s) s.standing s.base

-- what locks and escrow keep of entries suffices by itself
abbrev pub SoundIsExplained : Type 0
SoundIsExplained =
    (held : Held) (b : Base) (es : List Entry) → AreTogether held → IsSound held b es → IsExplained b es (runs b es)

-- ---- some transactions' entries moved in front

-- those of a set, each with its old reply, lead with the others after them to the same base, and what
-- is after them is sound there
pub record IsMoved (held : Held) (b : Base) (p : ℕ → Bool) (es : List Entry) : Type 0 where
  pub acted : AreActed b (kept p es)
  pub rest : IsSound held (runs b (kept p es)) (struck p es)
  pub same : runs (runs b (kept p es)) (struck p es) ≡ runs b es

abbrev pub SetMovesInFront : Type 0
SetMovesInFront =
    (held : Held) (b : Base) (es : List Entry) → AreTogether held → IsSound held b es → (p : ℕ → Bool)
    → IsMoved held b p es

-- the calls of each transaction of a list, one transaction after the other, and the entries of nobody in it
abbrev pub in_turn : (ℕ → ℕ) → List ℕ → List Entry → List Committed
in_turn session [] es = []
in_turn session (t ∷ ts) es =
    record { session = session t; calls = calls (kept (only t) es) } ∷ in_turn session ts (kept (others t) es)

abbrev pub without_all : List ℕ → List Entry → List Entry
without_all [] es = es
without_all (t ∷ ts) es = without_all ts (kept (others t) es)

-- so whole transactions may run one after the other, in any order, before the rest
abbrev pub TransactionsMoveInFront : Type 0
TransactionsMoveInFront =
    (held : Held) (b : Base) (es : List Entry) (session : ℕ → ℕ) (ts : List ℕ) → AreTogether held → IsSound held b es
    → IsLegal b (in_turn session ts es) × IsSound held (after b (in_turn session ts es)) (without_all ts es)
    × (runs (after b (in_turn session ts es)) (without_all ts es) ≡ runs b es)

-- ---- whole runs

-- explained whichever transactions are struck out, and with a legal book
pub record IsRight (b : Base) (s : State) : Type 0 where
  pub explained : IsExplained (committed_base b s) s.standing s.base
  pub legal : IsLegal b s.book

-- what is kept holds of an empty kernel, and each event keeps it
abbrev pub StartIsKept : Type 0
StartIsKept = (b : Base) → IsBase b → IsKept b (start b)

abbrev pub EventKeeps : Type 0
EventKeeps = (b : Base) (s z : State) → IsKept b s → Goes b s z → IsKept b z

abbrev pub EveryScheduleIsRight : Type 0
EveryScheduleIsRight =
    (b : Base) (states : List State) → IsBase b → AllGo b (start b) states → IsRight b (last_state (start b) states)

-- with nothing standing the pages hold what the book leaves, whatever came before
abbrev pub EmptyHoldsBook : Type 0
EmptyHoldsBook =
    (b : Base) (states : List State) → IsBase b → AllGo b (start b) states → (last_state (start b) states).standing ≡ []
    → (last_state (start b) states).base ≡ after b (last_state (start b) states).book

-- and if nobody is live, nothing stands, and no lock is held
abbrev pub NobodyLeavesNothing : Type 0
NobodyLeavesNothing =
    (b : Base) (s : State) → IsKept b s → ((t : ℕ) → is_live s t ≡ true → ⊥)
    → (s.standing ≡ []) × (s.pending ≡ []) × (s.aside ≡ [])
    × ((t : ℕ) (x : Object) (m : LockMode) → s.held t x m ≡ true → ⊥)
