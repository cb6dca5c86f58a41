-- What a call of a kernel did, and what it left, by what is seen of the kernel: k before, and n after the call.
use Rattle.std.specs.Prelude.{ℕ, ◌≡◌, ◌≢◌, ◌⊎◌, ◌<◌, ◌≤◌, ◌+◌, ◌++◌, ◌∷◌, [], IfOk, List, None, Ok, OnErr, OnOk, Option, Result, Some, false, length, true}
use Rattle.mt_base.specs.declared.refusal.Refusal.{Refusal}
use Rattle.mt_core.specs.Consistent.{SameCommits, SameRunning, SameStates, SameStatesBut, SameUncommitted, SetsState}
use Rattle.mt_core.specs.Runs.{count_in, state_in}
use Rattle.mt_core.specs.Seen.{core_commits, core_device, core_last, core_log, core_page_locks, core_pool, core_ruling, core_store}
use Rattle.mt_core.specs.Steps.{WantsFrame}
use Rattle.mt_core.specs.Work.{KeepsOthers, LeavesUndo, most_steps, steps_in, undo_steps}
use Rattle.mt_core.specs.declared.parts.Commit.{Commit}
use Rattle.mt_frame.specs.declared.records.Record.{Record}
use Rattle.mt_frame.specs.declared.records.Record.TheVariants as record_of
use Rattle.mt_live.specs.declared.transactions.TxnState.{TxnState}
use Rattle.mt_live.specs.declared.transactions.TxnState.TheVariants.{Committing, Open, Returning}
use Rattle.mt_log.specs.Words.{appended, durable, waiting}
use Rattle.mt_pool.specs.Views.{AreClean, Cleans, IsWaiting, SamePlaces, pages, to_flush}
use Rattle.mt_pool.specs.declared.flushes.Flushed.{Flushed}
use Rattle.mt_pool.specs.declared.flushes.Flushed.TheVariants as flushed
use Rattle.mt_txn.specs.Causes.{abort_cause, is_busy, return_cause, step_cause}
use Rattle.mt_txn.specs.PageLocks.{AbortsLocks, OfRunning, StepsLocks}
use Rattle.mt_txn.specs.Seen.{KernelSeen, has_failed_in}
use Rattle.mt_txn.specs.Work.{IsAbortForOther, IsForOther, LowersSteps, LowersUndoing, NoMoreAreLeft, NoneAreLeft}
use Rattle.mt_txn.specs.Writes.{LogsEnd, LogsNothing, UndoingWrites, WritesOnePage}
use Rattle.mt_txn.specs.declared.answers.AbortStepped.{AbortStepped}
use Rattle.mt_txn.specs.declared.answers.AbortStepped.TheVariants as abort
use Rattle.mt_txn.specs.declared.answers.KernelForced.{KernelForced}
use Rattle.mt_txn.specs.declared.answers.Stepped.{Stepped}
use Rattle.mt_txn.specs.declared.answers.Stepped.TheVariants as step

module _ {D : Type 0} where
  -- ---- a step of the operation of t

  -- It leaves so many steps to each transaction, waits only for another, and takes and gives back these page locks.
  pub record MovesStep (k : KernelSeen D) (t : ℕ) (result : Result Stepped Refusal) (n : KernelSeen D) : Type 0 where
    pub work : LowersSteps (pages (core_pool k.core)) result (steps_in k.core.running.items t)
        (steps_in n.core.running.items t)
    pub others : KeepsOthers t k.core.running.items n.core.running.items
    pub other : IfOk result (λ stepped. IsForOther k.core.live.members t stepped)
    pub full : result ≡ Ok step.Flush → WantsFrame k.core n.core
    pub locks : step_cause (has_failed_in k) k.core t ≡ None
        → OfRunning k.core.running.items t (λ r. StepsLocks k.core n.core r result)

  -- It appends the records of one page, or its end, at most, and takes no number; what is durable, transactions and
  -- commits stay.
  pub record LeavesStep (k : KernelSeen D) (result : Result Stepped Refusal) (n : KernelSeen D) : Type 0 where
    pub writes : WritesOnePage (appended (core_log k.core)) (appended (core_log n.core)) result
    pub durable : durable (core_log n.core) ≡ durable (core_log k.core)
    pub states : SameStates k.core n.core
    pub commits : SameCommits k.core n.core
    pub numbers : core_last n.core ≡ core_last k.core

  -- ---- the beginning of an abort of t, and of its going back

  -- t is in this state then, and so many steps undo it at most. Nothing else has changed.
  pub record BeginsUndoing (k : KernelSeen D) (t : ℕ) (phase : TxnState) (n : KernelSeen D) : Type 0 where
    pub state : SetsState k.core n.core t (Some phase)
    pub work : undo_steps n.core t ≤ most_steps k.core t
    pub running : SameRunning k.core n.core
    pub numbers : core_last n.core ≡ core_last k.core
    pub commits : SameCommits k.core n.core
    pub counts : (u : ℕ) → count_in n.core.live.members u ≡ count_in k.core.live.members u
    pub store : core_store n.core ≡ core_store k.core
    pub locks : core_page_locks n.core ≡ core_page_locks k.core

  -- ---- a step that undoes, in an abort of t or as t goes back

  -- It leaves so many steps to each transaction, waits only for another, and takes and gives back these page locks. If
  -- no operation of t is under way, it takes no page lock, calls no device, and does not wait.
  pub record MovesUndoing (AtEnd : ℕ → ℕ → Type 0) (cause : Option Refusal) (k : KernelSeen D) (t : ℕ)
      (result : Result AbortStepped Refusal) (n : KernelSeen D) : Type 0 where
    pub work : LowersUndoing AtEnd (pages (core_pool k.core)) result (undo_steps k.core t) (undo_steps n.core t)
    pub others : KeepsOthers t k.core.running.items n.core.running.items
    pub other : IfOk result (λ stepped. IsAbortForOther k.core.live.members t stepped)
    pub full : result ≡ Ok abort.Flush → WantsFrame k.core n.core
    pub locks : cause ≡ None → is_busy k.core t ≡ true
        → OfRunning k.core.running.items t (λ r. AbortsLocks k.core n.core r result)
    pub idle : is_busy k.core t ≡ false → core_page_locks n.core ≡ core_page_locks k.core
    pub device : is_busy k.core t ≡ false → core_device n.core ≡ core_device k.core
    pub goes : is_busy k.core t ≡ false
        → IfOk result (λ stepped. (stepped ≡ abort.More) ⊎ (stepped ≡ abort.Ended))

  abbrev pub MovesAbort : KernelSeen D → ℕ → Result AbortStepped Refusal → KernelSeen D → Type 0
  MovesAbort k t result n = MovesUndoing NoneAreLeft (abort_cause (has_failed_in k) k.core t) k t result n

  abbrev pub MovesReturn : KernelSeen D → ℕ → Result AbortStepped Refusal → KernelSeen D → Type 0
  MovesReturn k t result n = MovesUndoing NoMoreAreLeft (return_cause (has_failed_in k) k.core t) k t result n

  -- At its end Ends holds, and these records are appended. Else it appends the records of one page, or one record, at
  -- most. The other transactions, the commits and what is durable stay. It takes a number if it begins an inverse, and
  -- else none; and if no operation of t is under way, Idle holds.
  pub record LeavesUndoing (Ends Idle : Type 0) (Logs : List Record → List Record → Type 0) (k : KernelSeen D) (t : ℕ)
      (result : Result AbortStepped Refusal) (n : KernelSeen D) : Type 0 where
    pub states : IfOk result (λ stepped. stepped ≢ abort.Ended → SameStates k.core n.core)
    pub ends : result ≡ Ok abort.Ended → Ends
    pub err_states : OnErr result (SameStates k.core n.core)
    pub idle : is_busy k.core t ≡ false → Idle
    pub writes : UndoingWrites Logs (appended (core_log k.core)) (appended (core_log n.core)) result
    pub durable : durable (core_log n.core) ≡ durable (core_log k.core)
    pub commits : SameCommits k.core n.core
    pub numbers : is_busy k.core t ≡ true → core_last n.core ≡ core_last k.core
    pub numbered : is_busy k.core t ≡ false → result ≡ Ok abort.More → core_last n.core ≡ core_last k.core + 1
    pub unnumbered : result ≢ Ok abort.More → core_last n.core ≡ core_last k.core

  -- The transaction lives no more once its abort ends. As an inverse begins the store stays.
  abbrev pub LeavesAbort : KernelSeen D → ℕ → Result AbortStepped Refusal → KernelSeen D → Type 0
  LeavesAbort k t result n = LeavesUndoing ((state_in n.core.live.members t ≡ None) × SameStatesBut k.core n.core t)
      (result ≡ Ok abort.More → core_store n.core ≡ core_store k.core) (LogsEnd t) k t result n

  -- The transaction is open once it is back, and its first so many operations count; it lives with its locks. If no
  -- operation is under way the store stays.
  abbrev pub LeavesReturn : KernelSeen D → ℕ → Result AbortStepped Refusal → KernelSeen D → Type 0
  LeavesReturn k t result n = LeavesUndoing
      ((first : ℕ) → state_in k.core.live.members t ≡ Some (Returning first)
      → SetsState k.core n.core t (Some Open) × (count_in n.core.live.members t ≡ Some first))
      (core_store n.core ≡ core_store k.core) LogsNothing k t result n

  -- ---- the beginning of the commit of t

  -- Its Commit waits in the log, and it is the last under way; or no record is appended, and all stay.
  pub record LogsCommit (k : KernelSeen D) (t : ℕ) (result : Result ℕ Refusal) (n : KernelSeen D) : Type 0 where
    pub queue : OnOk result ((c : Commit) × (c.txn ≡ t) × (c.place ≡ length (appended (core_log n.core)))
        × (core_commits n.core ≡ core_commits k.core ++ c ∷ []))
    pub waits : OnOk result (waiting (core_log n.core) ≡ waiting (core_log k.core) ++ record_of.Commit t ∷ [])
    pub err_appended : OnErr result (appended (core_log n.core) ≡ appended (core_log k.core))
    pub commits : OnOk result (SetsState k.core n.core t (Some Committing))
    pub err : OnErr result (SameStates k.core n.core × SameCommits k.core n.core)

  -- ---- a step of a force, and of a flush

  -- Pages, records and what is under way stay, and so does each transaction that does not commit.
  pub record KeepsAtForce (k : KernelSeen D) (result : Result KernelForced Refusal) (n : KernelSeen D) : Type 0 where
    pub pool : core_pool n.core ≡ core_pool k.core
    pub ruling : core_ruling n.core ≡ core_ruling k.core
    pub appended : appended (core_log n.core) ≡ appended (core_log k.core)
    pub running : SameRunning k.core n.core
    pub numbers : core_last n.core ≡ core_last k.core
    pub states : SameUncommitted k.core n.core
    pub undo : LeavesUndo k.core n.core
    pub err : OnErr result (SameStates k.core n.core × SameCommits k.core n.core)

  -- A page is clean then; or each waits for records that are not durable; or all are clean. Each stays in its frame.
  pub record FlushesPage (k : KernelSeen D) (result : Result Flushed Refusal) (n : KernelSeen D) : Type 0 where
    pub written : (p : ℕ) → result ≡ Ok (flushed.Page p)
        → Cleans (core_pool k.core) (core_pool n.core) (length (durable (core_log k.core))) p
    pub one_less : (p : ℕ) → result ≡ Ok (flushed.Page p)
        → to_flush (core_pool n.core) + 1 ≡ to_flush (core_pool k.core)
    pub held_up : result ≡ Ok flushed.Force → IsWaiting (core_pool k.core) (length (durable (core_log k.core)))
    pub waits : result ≡ Ok flushed.Force → length (durable (core_log k.core)) < length (appended (core_log k.core))
    pub nothing : result ≡ Ok flushed.Clean → AreClean (core_pool n.core)
    pub there : SamePlaces (core_pool k.core) (core_pool n.core)
