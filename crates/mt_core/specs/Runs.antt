-- The operations under way, at most one a transaction, and what is kept for them and for what may have to be undone.
use Rattle.std.specs.Prelude.{ℕ, ◌≡◌, ◌≢◌, ◌⊎◌, ◌<◌, ◌≤◌, ◌+◌, ◌==◌, ◌&&◌, Bool, true, false, cond, if◌then◌else◌, List, [], ◌∷◌, Option, Some, None, is_some, All}
use Rattle.std.specs.List.{list_any}
use Rattle.std.specs.Option.{option_map}
use Rattle.mt_base.specs.declared.limits.TheConstants.{MAX_OPERATIONS, OPERATION_LOG_BYTES}
use Rattle.mt_live.specs.declared.transactions.TxnState.{TxnState}
use Rattle.mt_live.specs.declared.transactions.TxnState.TheVariants.{Open, Committing, Returning, Aborting}
use Rattle.mt_live.specs.Entries.{Entry, is_standing}
use Rattle.mt_live.specs.Lives.{calls_of, member_of, has_room, IsAbove}
use Rattle.mt_live.specs.Members.{Member, Noted, has_inverse, last_operation, last_place, noted_after, standing_count, forward_count}
use Rattle.mt_live.specs.Undoing.{last_effect}
use Rattle.mt_model.specs.History.{Call}
use Rattle.mt_model.specs.declared.operations.Op.{Op}
use Rattle.mt_model.specs.Model.{inverse_of}
use Rattle.mt_op.specs.Operations.{HasBudget, only_reads}
use Rattle.mt_op.specs.World.{World, IsUnderWay, IsOther, undoes_of, splits}
use Rattle.mt_op.specs.declared.scope.Stage.{Stage}
use Rattle.mt_op.specs.declared.scope.Stage.TheVariants.{Planning, Writing, Taking}
use Rattle.mt_plock.specs.declared.guards.PageLock.{PageLock}
use Rattle.mt_steps.specs.Plans.{own_needs, undo_pages}
use Rattle.mt_op.specs.declared.scope.OpScope.{OpScope}

-- a transaction's operation that is no inverse
abbrev pub is_for : ℕ → OpScope → Bool
is_for t r = (r.txn == t) && (undoes_of r == 0)

abbrev pub running_in : List OpScope → ℕ → Option Op
running_in [] t = None
running_in (r ∷ rs) t = cond (is_for t r) (Some r.op) (running_in rs t)

abbrev pub AreApart : OpScope → OpScope → Type 0
AreApart r q = IsOther r q

-- an operation under way has this number
abbrev pub is_under_way : List OpScope → ℕ → Bool
is_under_way rs number = list_any (λ (r : OpScope). r.number == number) rs

-- each page lock is of an operation under way
abbrev pub AreHeldBy : List OpScope → List PageLock → Type 0
AreHeldBy rs locks = All (λ (l : PageLock). is_under_way rs l.op ≡ true) locks

abbrev pub IsMoving : Stage → Type 0
IsMoving stage = (stage ≡ Planning) ⊎ ((stage ≡ Writing) ⊎ (stage ≡ Taking))

-- on the pages
pub record IsRunning (relations counters : ℕ) (w : World) (last : ℕ) (r : OpScope) : Type 0 where
  pub under : IsUnderWay relations counters w r
  pub budget : HasBudget r
  pub number : r.number ≤ last
  pub moving : IsMoving r.stage

-- ---- its transaction

abbrev pub is_at_work : TxnState → Bool
is_at_work Open = true
is_at_work Committing = false
is_at_work (Returning first) = true
is_at_work Aborting = true

abbrev pub is_working : Option Member → Bool
is_working None = false
is_working (Some m) = is_at_work m.state

abbrev pub state_in : List Member → ℕ → Option TxnState
state_in ms t = option_map (λ (m : Member). m.state) (member_of ms t)

-- in which its operations are undone one after the other, the last one first
abbrev pub is_undoing : Option TxnState → Bool
is_undoing None = false
is_undoing (Some Open) = false
is_undoing (Some Committing) = false
is_undoing (Some (Returning first)) = true
is_undoing (Some Aborting) = true

-- how many operations of a transaction stand, if it lives
abbrev pub count_in : List Member → ℕ → Option ℕ
count_in ms t = option_map (λ (m : Member). standing_count m.calls) (member_of ms t)

-- an operation of it after its first so many stands and did something
abbrev pub did_after : ℕ → Option Member → Bool
did_after first None = false
did_after first (Some m) = is_some (last_place (noted_after first m.calls))

-- the last entry of its transaction that did something, which it takes back, by its operation's number
pub record TakesBack (ms : List Member) (standing : List Entry) (r : OpScope) : Type 0 where
  pub named : last_operation (member_of ms r.txn) ≡ Some (undoes_of r)
  pub entry : Entry
  pub last : last_effect r.txn standing ≡ Some entry
  pub inverse : inverse_of entry.op entry.reply ≡ Some r.op
  pub unsplit : splits r ≡ false

-- An inverse may be noted in a transaction that goes back to its first so many operations: there is room, its number is
-- above the others, and what it takes back is none of those.
pub record IsNotedAfter (first number : ℕ) (m : Option Member) : Type 0 where
  pub room : has_room m ≡ true
  pub newest : IsAbove number m
  pub after : did_after first m ≡ true

-- in a state of one that goes back and then on
abbrev pub is_returning : Option TxnState → Bool
is_returning None = false
is_returning (Some Open) = false
is_returning (Some Committing) = false
is_returning (Some (Returning first)) = true
is_returning (Some Aborting) = false

-- Only what a transaction that is to be undone has called is taken back. Inverses are there of one that goes back, and
-- while it goes on after that, nothing but these.
pub record IsOwned (ms : List Member) (standing : List Entry) (r : OpScope) : Type 0 where
  pub at_work : is_working (member_of ms r.txn) ≡ true
  pub room : undoes_of r ≡ 0 → has_room (member_of ms r.txn) ≡ true
  pub inverse : undoes_of r ≢ 0 → TakesBack ms standing r
  pub newest : undoes_of r ≡ 0 → IsAbove r.number (member_of ms r.txn)
  pub few : undoes_of r ≡ 0 → forward_count (calls_of ms r.txn) < MAX_OPERATIONS
  pub taken : r.stage ≡ Taking → (undoes_of r ≡ 0) × (state_in ms r.txn ≡ Some Aborting)
  pub forwards : undoes_of r ≡ 0 → is_returning (state_in ms r.txn) ≡ false
  pub backwards : undoes_of r ≢ 0 → is_undoing (state_in ms r.txn) ≡ true
  pub returns : undoes_of r ≢ 0 → (first : ℕ) → state_in ms r.txn ≡ Some (Returning first)
      → IsNotedAfter first r.number (member_of ms r.txn)

-- ---- claims and log bytes

-- log bytes that the inverse may append
abbrev pub undo_bytes : Op → ℕ
undo_bytes op = if only_reads op then 0 else OPERATION_LOG_BYTES

-- of an entry that stands and did something
abbrev pub weighed : (Op → ℕ) → Entry → ℕ
weighed weight e = cond (is_standing e.role && is_some (inverse_of e.op e.reply)) (weight e.op) 0

-- of a call, as of its entry
abbrev pub call_weighed : (Op → ℕ) → Call → ℕ
call_weighed weight c = cond (is_some (inverse_of c.0 c.1)) (weight c.0) 0

abbrev pub call_pages : Call → ℕ
call_pages c = call_weighed undo_pages c

abbrev pub call_bytes : Call → ℕ
call_bytes c = call_weighed undo_bytes c

-- of a call with its role
abbrev pub noted_weighed : (Op → ℕ) → Noted → ℕ
noted_weighed weight n = cond (has_inverse n) (weight n.op) 0

abbrev pub noted_pages : Noted → ℕ
noted_pages n = noted_weighed undo_pages n

abbrev pub noted_bytes : Noted → ℕ
noted_bytes n = noted_weighed undo_bytes n

abbrev pub entry_pages : Entry → ℕ
entry_pages e = weighed undo_pages e

abbrev pub entry_bytes : Entry → ℕ
entry_bytes e = weighed undo_bytes e

-- What is claimed for an operation and for its inverse; an inverse has what its entry claims.
abbrev pub pages_of : OpScope → ℕ
pages_of r = cond (undoes_of r == 0) (own_needs r.op (splits r) + undo_pages r.op) 0

-- log bytes kept for the inverse of what runs
abbrev pub kept_bytes : OpScope → ℕ
kept_bytes r = cond (undoes_of r == 0) (undo_bytes r.op) 0

-- those that an inverse which runs has taken of what was kept for it
abbrev pub taken_bytes : OpScope → ℕ
taken_bytes r = cond (undoes_of r == 0) 0 OPERATION_LOG_BYTES
