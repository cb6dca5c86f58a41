-- Words for what a kernel has, why it refuses, and what stays of it, for whoever need not know where that lies.
use Rattle.std.specs.Prelude.{ℕ, ◌≡◌, Bool, List, Option}
use Rattle.mt_base.specs.declared.refusal.Refusal.{Refusal}
use Rattle.mt_core.specs.Consistent.{SameCommits, SameRunning, SameStates, SameStatesBut, SameUncommitted, SetsState}
use Rattle.mt_core.specs.Runs.{count_in, state_in}
use Rattle.mt_core.specs.Seen.{core_commits, core_holds, core_last, core_store}
use Rattle.mt_core.specs.Work.{LeavesUndo, steps_in, undo_steps}
use Rattle.mt_core.specs.declared.parts.Commit.{Commit}
use Rattle.mt_disk.specs.declared.device.Device.{Ghosts}
use Rattle.mt_live.specs.Members.{Member}
use Rattle.mt_live.specs.declared.transactions.TxnState.{TxnState}
use Rattle.mt_model.specs.Model.{Base}
use Rattle.mt_model.specs.declared.history.Committed.{Committed}
use Rattle.mt_base.specs.declared.modes.LockMode.{LockMode}
use Rattle.mt_model.specs.declared.objects.Object.{Object}
use Rattle.mt_model.specs.declared.operations.Op.{Op}
use Rattle.mt_op.specs.declared.scope.OpScope.{OpScope}
use Rattle.mt_pool.specs.declared.store.Store.{Store}
use Rattle.mt_txn.specs.Causes.{IsFailure, IsFault, abort_begin_cause, abort_cause, back_cause, begin_cause, call_cause, commit_cause, is_busy, open_cause, return_cause, step_cause, survey_cause}
use Rattle.mt_txn.specs.Restarted.{FindsCommits, FindsMeanwhile, all_commits}
use Rattle.mt_txn.specs.Shown.{is_failed}
use Rattle.mt_txn.specs.declared.kernel.Kernel.{Kernel}

-- how many relations and counters it has
abbrev pub kernel_relations : {D : Type 0} → {g : Ghosts D} → Kernel D g → ℕ
kernel_relations k = k.relations

abbrev pub kernel_counters : {D : Type 0} → {g : Ghosts D} → Kernel D g → ℕ
kernel_counters k = k.counters

-- the store under it
abbrev pub kernel_store : {D : Type 0} → {g : Ghosts D} → Kernel D g → Store D
kernel_store k = core_store k.core

-- the durable commits; those under way; and both in their order
abbrev pub kernel_book : {D : Type 0} → {g : Ghosts D} → Kernel D g → List Committed
kernel_book k = k.core.book.items

abbrev pub kernel_commits : {D : Type 0} → {g : Ghosts D} → Kernel D g → List Commit
kernel_commits k = core_commits k.core

abbrev pub kernel_history : {D : Type 0} → {g : Ghosts D} → Kernel D g → List Committed
kernel_history k = all_commits k.core

-- the active transactions, and the state of one
abbrev pub kernel_members : {D : Type 0} → {g : Ghosts D} → Kernel D g → List Member
kernel_members k = k.core.live.members

abbrev pub kernel_state : {D : Type 0} → {g : Ghosts D} → Kernel D g → ℕ → Option TxnState
kernel_state k t = state_in k.core.live.members t

-- how many of its operations count, if it lives
abbrev pub kernel_count : {D : Type 0} → {g : Ghosts D} → Kernel D g → ℕ → Option ℕ
kernel_count k t = count_in k.core.live.members t

-- whether a transaction holds the lock of an object in a mode
abbrev pub kernel_holds : {D : Type 0} → {g : Ghosts D} → Kernel D g → ℕ → Object → LockMode → Bool
kernel_holds k t x m = core_holds k.core t x m

-- the operations under way; whether a transaction has one; and how many steps its operation or its undoing takes
abbrev pub kernel_running : {D : Type 0} → {g : Ghosts D} → Kernel D g → List OpScope
kernel_running k = k.core.running.items

abbrev pub kernel_is_busy : {D : Type 0} → {g : Ghosts D} → Kernel D g → ℕ → Bool
kernel_is_busy k t = is_busy k.core t

abbrev pub kernel_steps : {D : Type 0} → {g : Ghosts D} → Kernel D g → ℕ → ℕ
kernel_steps k t = steps_in k.core.running.items t

abbrev pub kernel_undo_steps : {D : Type 0} → {g : Ghosts D} → Kernel D g → ℕ → ℕ
kernel_undo_steps k t = undo_steps k.core t

-- the number of the last operation that began
abbrev pub kernel_last : {D : Type 0} → {g : Ghosts D} → Kernel D g → ℕ
kernel_last k = core_last k.core

-- ---- why a call is refused before locks, escrow, pages and log are asked, if it is

abbrev pub kernel_begin_cause : {D : Type 0} → {g : Ghosts D} → Kernel D g → Option Refusal
kernel_begin_cause k = begin_cause (is_failed k) k.core

abbrev pub kernel_call_cause : {D : Type 0} → {g : Ghosts D} → Kernel D g → ℕ → Op → Option Refusal
kernel_call_cause k t op = call_cause k.relations k.counters (is_failed k) k.core t op

abbrev pub kernel_step_cause : {D : Type 0} → {g : Ghosts D} → Kernel D g → ℕ → Option Refusal
kernel_step_cause k t = step_cause (is_failed k) k.core t

abbrev pub kernel_commit_cause : {D : Type 0} → {g : Ghosts D} → Kernel D g → ℕ → Option Refusal
kernel_commit_cause k t = commit_cause (is_failed k) k.core t

-- of what only an open transaction may do
abbrev pub kernel_open_cause : {D : Type 0} → {g : Ghosts D} → Kernel D g → ℕ → Option Refusal
kernel_open_cause k t = open_cause (is_failed k) k.core t

-- of the beginning of an abort, and of a step of it
abbrev pub kernel_abort_begin_cause : {D : Type 0} → {g : Ghosts D} → Kernel D g → ℕ → Option Refusal
kernel_abort_begin_cause k t = abort_begin_cause (is_failed k) k.core t

abbrev pub kernel_abort_cause : {D : Type 0} → {g : Ghosts D} → Kernel D g → ℕ → Option Refusal
kernel_abort_cause k t = abort_cause (is_failed k) k.core t

-- of going back to so many operations, and of a step of that
abbrev pub kernel_back_cause : {D : Type 0} → {g : Ghosts D} → Kernel D g → ℕ → ℕ → Option Refusal
kernel_back_cause k t first = back_cause (is_failed k) k.core t first

abbrev pub kernel_return_cause : {D : Type 0} → {g : Ghosts D} → Kernel D g → ℕ → Option Refusal
kernel_return_cause k t = return_cause (is_failed k) k.core t

abbrev pub kernel_survey_cause : {D : Type 0} → {g : Ghosts D} → Kernel D g → Option Refusal
kernel_survey_cause k = survey_cause (is_failed k) k.core

-- The device failed between k and n, and this is why; or it failed before.
abbrev pub IsKernelFault : {D : Type 0} → {g : Ghosts D} → Kernel D g → Kernel D g → Refusal → Type 0
IsKernelFault {g = g} k n why = IsFault g k.core n.core why

abbrev pub IsKernelFailure : {D : Type 0} → {g : Ghosts D} → Kernel D g → Kernel D g → Refusal → Type 0
IsKernelFailure {g = g} k n why = IsFailure g (is_failed k) k.core n.core why

-- ---- what stays from k to n

-- who is active, and in which state; but for one; or but for who committed
abbrev pub StatesStay : {D : Type 0} → {g : Ghosts D} → Kernel D g → Kernel D g → Type 0
StatesStay k n = SameStates k.core n.core

abbrev pub StatesStayBut : {D : Type 0} → {g : Ghosts D} → Kernel D g → Kernel D g → ℕ → Type 0
StatesStayBut k n t = SameStatesBut k.core n.core t

abbrev pub UncommittedStay : {D : Type 0} → {g : Ghosts D} → Kernel D g → Kernel D g → Type 0
UncommittedStay k n = SameUncommitted k.core n.core

-- one is in this state now, and the others stay
abbrev pub StateIsSet : {D : Type 0} → {g : Ghosts D} → Kernel D g → Kernel D g → ℕ → Option TxnState → Type 0
StateIsSet k n t state = SetsState k.core n.core t state

-- the commits under way; the operations under way; and what is to be undone
abbrev pub CommitsStay : {D : Type 0} → {g : Ghosts D} → Kernel D g → Kernel D g → Type 0
CommitsStay k n = SameCommits k.core n.core

abbrev pub RunningStays : {D : Type 0} → {g : Ghosts D} → Kernel D g → Kernel D g → Type 0
RunningStays k n = SameRunning k.core n.core

abbrev pub UndoStays : {D : Type 0} → {g : Ghosts D} → Kernel D g → Kernel D g → Type 0
UndoStays k n = LeavesUndo k.core n.core

-- no operation has begun, so none has taken a number
abbrev pub NumbersStay : {D : Type 0} → {g : Ghosts D} → Kernel D g → Kernel D g → Type 0
NumbersStay k n = kernel_last n ≡ kernel_last k

-- ---- what a restart finds

-- In this content a restart finds what some of the first commits lead to.
abbrev pub FindsSome : {D : Type 0} → {g : Ghosts D} → Base → Kernel D g → List ℕ → Type 0
FindsSome first k c = FindsCommits k.relations k.counters first k.core c

-- It does so whenever a crash comes until the device of k is this one.
abbrev pub FindsUntil : {D : Type 0} → {g : Ghosts D} → Base → Kernel D g → D → Type 0
FindsUntil {g = g} first k device = FindsMeanwhile g k.relations k.counters first k.core device
