-- What steps do that the public ones share.
use Rattle.std.specs.Prelude.{ℕ, ◌≡◌, ◌⊎◌, ◌++◌, [], IfErr, List, Ok, Result, length, slice_index_or, ◌≤◌, ◌∷◌, ◌+◌, ◌*◌, OnErr, OnOk, Some}
use Rattle.mt_disk.specs.declared.device.Device.{Ghosts}
use Rattle.mt_base.specs.declared.refusal.Refusal.{Refusal}
use Rattle.mt_core.specs.Consistent.{Advances, AtPlace, GoesBack, IsConsistent, Origin, state_of, EndsIn, IsReadyAt, SameStates, UndoesIn, ReturnsIn, InvertsIn, state_in, DropsIn, IsClearedAt, BooksIn, SameUncommitted, IsCalled, MayRun, SameCommits, log_kept, CallsIn, IsAskedFor, IsGranted, IsRestored, without_call, IsLocked}
use Rattle.mt_core.specs.Restartable.{QuietlyAppends, StepAppends, NotesEnd, NotesUndone, NotesBack, NotesInverse, StaysRestartable}
use Rattle.mt_core.specs.Steps.{LeavesExplained, StepNamesOther, WantsFrame}
use Rattle.mt_core.specs.declared.calls.Called.{Called}
use Rattle.mt_core.specs.declared.parts.Core.{Core}
use Rattle.mt_model.specs.declared.operations.Op.{Op}
use Rattle.mt_op.specs.declared.scope.OpScope.{OpScope}
use Rattle.mt_log.specs.Words.{appended, durable}
use Rattle.mt_core.specs.Work.{KeepsOthers, LeavesStanding, LeavesUndo, CallRuns, DrawsNumber, RunsBehind, TakesNumber}
use Rattle.mt_core.specs.Writes.{BackWrites, WritesOnce}
use Rattle.mt_model.specs.Model.{Base}
use Rattle.mt_op.specs.Faults.{ReportsFaults}
use Rattle.mt_op.specs.Holds.{IsNext, KeepsLocks}
use Rattle.mt_op.specs.Moves.{SameOp}
use Rattle.mt_op.specs.Operations.{IsCause}
use Rattle.mt_op.specs.Work.{Works}
use Rattle.mt_op.specs.declared.answers.Stepped.{Stepped}
use Rattle.mt_op.specs.declared.answers.Stepped.TheVariants as stepped
use Rattle.mt_op.specs.declared.answers.TakenBack.{TakenBack}
use Rattle.mt_op.specs.declared.answers.TakenBack.TheVariants as back
use Rattle.mt_model.specs.declared.operations.Reply.{Reply}
use Rattle.mt_plock.specs.Releasing.{locks_without}
use Rattle.std.specs.List.{remove}
use Rattle.mt_core.specs.declared.parts.Commit.{Commit}
use Rattle.mt_core.specs.Causes.{IsAnswered, HasReserves, IsUnreserved, IsAdmittedBy, IsRefusedBehind}
use Rattle.mt_pool.specs.Reads.{ReadsOnce}
use Rattle.mt_pool.specs.Views.{pages}
use Rattle.mt_escrow.specs.Seen.{Escrowed}
use Rattle.mt_live.specs.Adds.{add_before}
use Rattle.mt_slock.specs.declared.holders.Holder.{Holder}
use Rattle.mt_model.specs.declared.objects.Object.{Object}
use Rattle.mt_core.specs.Seen.{core_device, core_log, core_page_locks, core_pool, core_store, core_rooms}
use Rattle.mt_live.specs.declared.transactions.TxnState.TheVariants.{Returning}

-- leave for an operation is asked, if it is an add; an add that may not be made is refused
pub record AsksLeave {T : Type 0} (was now : Escrowed) (txn : ℕ) (op : Op) (r : Result T Refusal) : Type 0 where
  pub granted : OnOk r (now.pending ≡ was.pending ++ add_before txn op [])
  pub committed : now.committed ≡ was.committed
  pub aside : now.aside ≡ was.aside
  pub admitted : OnOk r (IsAskedFor was txn op)
  pub cause : IfErr r (λ why. (why ≡ Refusal.NoMemory) ⊎ ((why ≡ Refusal.Escrow) × ¬ IsAskedFor was txn op))
  pub kept : OnErr r (now ≡ was)

module _ {D : Type 0} (g : Ghosts D) where
  -- A step of the operation at a place answered this, from parts k to parts n.
  pub record IsAdvanced (k n : Core D) (place : ℕ) (result : Result Stepped Refusal) : Type 0 where
    pub length : length n.running.items ≡ length k.running.items
    pub same : (origin : Origin) (base : Base) → IsConsistent g origin base k → (r q : OpScope)
        → r ≡ slice_index_or k.running.items place r → q ≡ slice_index_or n.running.items place q → SameOp r q
    pub live : n.live ≡ k.live
    pub commits : n.commits ≡ k.commits
    pub numbers : n.last ≡ k.last
    pub full : result ≡ Ok stepped.Flush → WantsFrame k n
    pub works : (r q : OpScope) → r ≡ slice_index_or k.running.items place r
        → q ≡ slice_index_or n.running.items place q → Works r q result
    pub locks : AtPlace k.running.items place (λ r. KeepsLocks r.number (IsNext (core_rooms k) (core_page_locks k) r)
        (core_page_locks k) (core_page_locks n) result)
    pub why : IfErr result IsCause
    pub faults : ReportsFaults (g.faults (core_device k)) (g.faults (core_device n)) result
    pub advances : (origin : Origin) (base : Base) → IsConsistent g origin base k
        → Advances g origin base (state_of k base) n place result
    pub other : (origin : Origin) (base : Base) → IsConsistent g origin base k
        → AtPlace k.running.items place (λ r. StepNamesOther n.running.items r.txn result)
    pub book : n.book ≡ k.book
    pub durable : durable (core_log n) ≡ durable (core_log k)
    pub moments : LeavesExplained g k n
    pub reads : ReadsOnce g (core_device k) (core_device n)
    pub others : AtPlace k.running.items place (λ r. KeepsOthers r.txn k.running.items n.running.items)
    pub writes : WritesOnce (appended (core_log k)) (appended (core_log n)) result
    pub appends : (origin : Origin) (base : Base) → IsConsistent g origin base k
        → AtPlace n.running.items place (λ r. StepAppends origin k n r result)

module _ {D : Type 0} (g : Ghosts D) where
  -- The operation at a place was taken back a step, which answered this, from parts k to parts n.
  pub record IsTakenBack (k n : Core D) (place : ℕ) (result : Result TakenBack Refusal) : Type 0 where
    pub live : n.live ≡ k.live
    pub commits : n.commits ≡ k.commits
    pub numbers : n.last ≡ k.last
    pub locks : core_page_locks n ≡ core_page_locks k
    pub full : result ≡ Ok back.Flush → WantsFrame k n
    pub length : length n.running.items ≡ length k.running.items
    pub same : (origin : Origin) (base : Base) → IsConsistent g origin base k → (r q : OpScope)
        → r ≡ slice_index_or k.running.items place r → q ≡ slice_index_or n.running.items place q → SameOp r q
    pub puts : (r q : OpScope) → r ≡ slice_index_or k.running.items place r → q ≡ slice_index_or n.running.items place q
        → LeavesStanding r q result
    pub writes : BackWrites (appended (core_log k)) (appended (core_log n)) result
    pub why : IfErr result IsCause
    pub faults : ReportsFaults (g.faults (core_device k)) (g.faults (core_device n)) result
    pub back : (origin : Origin) (base : Base) → IsConsistent g origin base k
        → GoesBack g origin base (state_of k base) n place result
    pub book : n.book ≡ k.book
    pub durable : durable (core_log n) ≡ durable (core_log k)
    pub moments : LeavesExplained g k n
    pub reads : ReadsOnce g (core_device k) (core_device n)
    pub others : AtPlace k.running.items place (λ r. KeepsOthers r.txn k.running.items n.running.items)
    pub appends : (origin : Origin) (base : Base) → IsConsistent g origin base k → QuietlyAppends origin.pages k n

-- The operation at a place, which was ready and no inverse, ended with this reply.
pub record EndsReady {D : Type 0} (g : Ghosts D) (k n : Core D) (place : ℕ) (reply : Reply) : Type 0 where
  pub items : n.running.items ≡ remove k.running.items place
  pub locks : AtPlace k.running.items place (λ r. core_page_locks n ≡ locks_without r.number (core_page_locks k))
  pub store : core_store n ≡ core_store k
  pub states : SameStates k n
  pub commits : n.commits ≡ k.commits
  pub numbers : n.last ≡ k.last
  pub ends : (origin : Origin) (base : Base) → IsReadyAt g origin base k place reply
      → AtPlace k.running.items place (λ r. EndsIn g origin base k n r)
  pub notes : AtPlace k.running.items place (λ r. NotesEnd k n r reply)

-- The operation at a place has ended: it is under way no more, with its page locks.
pub record EndsAt {D : Type 0} (k n : Core D) (place : ℕ) : Type 0 where
  pub items : n.running.items ≡ remove k.running.items place
  pub locks : AtPlace k.running.items place (λ r. core_page_locks n ≡ locks_without r.number (core_page_locks k))
  pub store : core_store n ≡ core_store k
  pub states : SameStates k n
  pub commits : n.commits ≡ k.commits
  pub numbers : n.last ≡ k.last

-- The inverse at a place, which was ready, ended in an abort.
pub record EndsUndone {D : Type 0} (g : Ghosts D) (k n : Core D) (place : ℕ) : Type 0 where
  pub outer : EndsAt k n place
  pub ends : (origin : Origin) (base : Base) (reply : Reply) → IsReadyAt g origin base k place reply
      → AtPlace k.running.items place (λ r. UndoesIn g origin base (state_of k base) n r.txn r.op)
  pub notes : AtPlace k.running.items place (NotesUndone k n)

-- It did, with this reply, in a transaction that goes back to its first so many and then on.
pub record EndsReturned {D : Type 0} (g : Ghosts D) (k n : Core D) (place : ℕ) (reply : Reply) : Type 0 where
  pub outer : EndsAt k n place
  pub ends : (origin : Origin) (base : Base) → IsReadyAt g origin base k place reply
      → AtPlace k.running.items place (λ r. (first : ℕ) → state_in k.live.members r.txn ≡ Some (Returning first)
      → ReturnsIn g origin base (state_of k base) n r.txn first r.op)
  pub notes : AtPlace k.running.items place (λ r. NotesBack k n r reply)

-- It did in a transaction of either kind.
pub record EndsInverse {D : Type 0} (g : Ghosts D) (k n : Core D) (place : ℕ) (reply : Reply) : Type 0 where
  pub outer : EndsAt k n place
  pub ends : (origin : Origin) (base : Base) → IsReadyAt g origin base k place reply
      → AtPlace k.running.items place (λ r.
      InvertsIn g origin base (state_of k base) n r.txn r.op (state_in k.live.members r.txn))
  pub notes : AtPlace k.running.items place (λ r. NotesInverse k n r reply (state_in k.live.members r.txn))

-- The operation at a place, which was taken back and no inverse, is gone.
pub record DropsOut {D : Type 0} (g : Ghosts D) (k n : Core D) (place : ℕ) : Type 0 where
  pub items : n.running.items ≡ remove k.running.items place
  pub store : core_store n ≡ core_store k
  pub locks : AtPlace k.running.items place (λ r. core_page_locks n ≡ locks_without r.number (core_page_locks k))
  pub live : n.live ≡ k.live
  pub commits : n.commits ≡ k.commits
  pub numbers : n.last ≡ k.last
  pub drops : (origin : Origin) (base : Base) → IsClearedAt g origin base k place
      → AtPlace k.running.items place (λ r. DropsIn g origin base (state_of k base) n r.txn)
  pub book : n.book ≡ k.book

-- The first of the commits under way, which is of this transaction, is booked.
pub record LeavesFirst {D : Type 0} (g : Ghosts D) (k n : Core D) (txn : ℕ) : Type 0 where
  pub left : (origin : Origin) (base : Base) (c : Commit) (cs : List Commit) → IsConsistent g origin base k
      → k.commits.items ≡ c ∷ cs → BooksIn g origin base k n c
  pub store : core_store n ≡ core_store k
  pub rest : (c : Commit) (cs : List Commit) → k.commits.items ≡ c ∷ cs → (txn ≡ c.txn) × (n.commits.items ≡ cs)
  pub running : n.running ≡ k.running
  pub numbers : n.last ≡ k.last
  pub states : SameUncommitted k n
  pub undo : LeavesUndo k n
  pub restartable : (c : Commit) (cs : List Commit) → k.commits.items ≡ c ∷ cs → c.place ≤ length (durable (core_log k))
      → StaysRestartable g k n

-- An operation of a transaction was called, its locks asked for first.
pub record LocksCall {D : Type 0} (g : Ghosts D) (k n : Core D) (txn : ℕ) (op : Op)
    (r : Result Called Refusal) : Type 0 where
  pub called : (origin : Origin) (base : Base) → IsConsistent g origin base k → MayRun origin k txn op
      → IsCalled g origin base (state_of k base) n txn op r
  pub answer : (origin : Origin) (base : Base) → IsConsistent g origin base k → MayRun origin k txn op
      → IsAnswered g origin k (log_kept k) txn op r
  pub live : n.live ≡ k.live
  pub runs : CallRuns txn (2 * pages (core_pool k) + 9) k.running.items n.running.items r
  pub numbered : DrawsNumber k.last k.running.items n r
  pub same_commits : SameCommits k n
  pub store : core_store n ≡ core_store k
  pub book : n.book ≡ k.book

-- A call that has its locks and its room in escrow is begun, or refused with all as it was.
pub record StartsCall {D : Type 0} (g : Ghosts D) (k n : Core D) (txn : ℕ)
    (end : Op) (r : Result Unit (Refusal × Op)) : Type 0 where
  pub ok : (origin : Origin) (base : Base) (locks : List (Object × List Holder)) (escrow : Escrowed)
      → IsGranted g origin base locks escrow k txn end
      → OnOk r (CallsIn g origin base (without_call locks escrow k) n txn end)
  pub may : (origin : Origin) (base : Base) (locks : List (Object × List Holder)) (escrow : Escrowed)
      → IsGranted g origin base locks escrow k txn end
      → OnOk r (HasReserves g origin k (log_kept k) end)
  pub cause : (origin : Origin) (base : Base) (locks : List (Object × List Holder)) (escrow : Escrowed)
      → IsGranted g origin base locks escrow k txn end
      → IfErr r (λ gone. IsUnreserved g origin k (log_kept k) end gone.0)
  pub back : IfErr r (λ gone. gone.1 ≡ end)
  pub err : OnErr r (IsRestored g k n)
  pub live : n.live ≡ k.live
  pub runs : OnOk r (RunsBehind txn (2 * pages (core_pool k) + 9) k.running.items n.running.items)
  pub numbered : OnOk r (TakesNumber k.last k.running.items n)
  pub same_commits : SameCommits k n
  pub store : core_store n ≡ core_store k
  pub book : n.book ≡ k.book

-- A call that has its locks is admitted, or refused with all as it was.
pub record AdmitsCall {D : Type 0} (g : Ghosts D) (k n : Core D) (txn : ℕ)
    (op : Op) (r : Result Unit (Refusal × Op)) : Type 0 where
  pub ok : (origin : Origin) (base : Base) (locks : List (Object × List Holder))
      → IsLocked g origin base locks k txn op
      → OnOk r (CallsIn g origin base (without_call locks k.escrow k) n txn op)
  pub may : (origin : Origin) (base : Base) (locks : List (Object × List Holder))
      → IsLocked g origin base locks k txn op
      → OnOk r (IsAdmittedBy g origin k (log_kept k) txn op)
  pub cause : (origin : Origin) (base : Base) (locks : List (Object × List Holder))
      → IsLocked g origin base locks k txn op
      → IfErr r (λ gone. IsRefusedBehind g origin k (log_kept k) txn op gone.0)
  pub back : IfErr r (λ gone. gone.1 ≡ op)
  pub err : OnErr r (IsRestored g k n)
  pub live : n.live ≡ k.live
  pub runs : OnOk r (RunsBehind txn (2 * pages (core_pool k) + 9) k.running.items n.running.items)
  pub numbered : OnOk r (TakesNumber k.last k.running.items n)
  pub same_commits : SameCommits k n
  pub store : core_store n ≡ core_store k
  pub book : n.book ≡ k.book
