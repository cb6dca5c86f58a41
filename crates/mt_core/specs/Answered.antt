-- What calls of the core did, and what each left of it: parts k before, and n after the call.
use Rattle.std.specs.Prelude.{ℕ, ◌≡◌, ◌<◌, ◌≤◌, ◌+◌, ◌++◌, ◌∷◌, [], Bool, IfErr, None, Ok, OnErr, Result, Some, false, length, true}
use Rattle.mt_disk.specs.declared.device.Device.{Ghosts}
use Rattle.mt_base.specs.declared.refusal.Refusal.{Refusal}
use Rattle.mt_frame.specs.declared.records.Record.TheVariants as record_of
use Rattle.mt_live.specs.declared.transactions.TxnState.TheVariants.{Committing}
use Rattle.mt_log.specs.Words.{appended, calls_left, durable, in_flight, waiting}
use Rattle.mt_model.specs.Model.{Base}
use Rattle.mt_op.specs.Faults.{ReportsFaults}
use Rattle.mt_op.specs.Operations.{IsCause}
use Rattle.mt_op.specs.declared.answers.TakenBack.{TakenBack}
use Rattle.mt_op.specs.declared.answers.TakenBack.TheVariants as taken
use Rattle.mt_pool.specs.Reads.{ReadsOnce}
use Rattle.mt_pool.specs.Views.{pages}
use Rattle.mt_core.specs.Consistent.{AtPlace, IsConsistent, Origin, SameCommits, SameRunning, SameStates, SameStatesBut, SetsState}
use Rattle.mt_core.specs.PageLocks.{GivesLocksBack, KeepsPageLocks}
use Rattle.mt_live.specs.Lives.{member_of}
use Rattle.mt_live.specs.Undoing.{after_first, last_effect}
use Rattle.mt_core.specs.Runs.{did_after, state_in}
use Rattle.mt_core.specs.Seen.{core_device, core_log, core_page_locks, core_pool, core_store}
use Rattle.mt_core.specs.Steps.{LeavesExplained, NamesOther, WantsFrame}
use Rattle.mt_core.specs.Work.{KeepsOthers, Lowers, LowersBack, steps_in, undo_steps}
use Rattle.mt_core.specs.Writes.{BackWrites, StepWrites}
use Rattle.mt_core.specs.declared.parts.Commit.{Commit}
use Rattle.mt_core.specs.declared.parts.Core.{Core}
use Rattle.mt_core.specs.declared.steps.Going.TheVariants.{Flush}
use Rattle.mt_core.specs.declared.steps.Stepping.{Stepping}
use Rattle.mt_core.specs.declared.steps.Stepping.TheVariants.{Going as GoingOn}

module _ {D : Type 0} (g : Ghosts D) where
  -- A step of the operation at a place answered this, whether it is an inverse or not.
  pub record StepsAtPlace (k n : Core D) (place : ℕ) (result : Result Stepping Refusal) : Type 0 where
    pub work : AtPlace k.running.items place (λ r. Lowers (pages (core_pool k)) result
        (steps_in k.running.items r.txn) (steps_in n.running.items r.txn))
    pub others : AtPlace k.running.items place (λ r. KeepsOthers r.txn k.running.items n.running.items)
    pub states : SameStates k n
    pub commits : n.commits ≡ k.commits
    pub numbers : n.last ≡ k.last
    pub locks : AtPlace k.running.items place (λ r. KeepsPageLocks k n r result)
    pub other : (origin : Origin) (base : Base) → IsConsistent g origin base k
        → AtPlace k.running.items place (λ r. NamesOther n.running.items r.txn result)
    pub writes : StepWrites (appended (core_log k)) (appended (core_log n)) result
    pub durable : durable (core_log n) ≡ durable (core_log k)
    pub full : result ≡ Ok (GoingOn Flush) → WantsFrame k n
    pub why : IfErr result IsCause
    pub faults : ReportsFaults (g.faults (core_device k)) (g.faults (core_device n)) result
    pub moments : LeavesExplained g k n
    pub reads : ReadsOnce g (core_device k) (core_device n)

  -- A step of the taking back of the operation at a place answered this.
  pub record IsPutBack (k n : Core D) (place : ℕ) (result : Result TakenBack Refusal) : Type 0 where
    pub lowers : AtPlace k.running.items place (λ r. LowersBack result (undo_steps k r.txn) (undo_steps n r.txn))
    pub others : AtPlace k.running.items place (λ r. KeepsOthers r.txn k.running.items n.running.items)
    pub live : n.live ≡ k.live
    pub commits : n.commits ≡ k.commits
    pub numbers : n.last ≡ k.last
    pub locks : AtPlace k.running.items place (λ r. GivesLocksBack k n r result)
    pub writes : BackWrites (appended (core_log k)) (appended (core_log n)) result
    pub durable : durable (core_log n) ≡ durable (core_log k)
    pub full : result ≡ Ok taken.Flush → WantsFrame k n
    pub why : IfErr result IsCause
    pub faults : ReportsFaults (g.faults (core_device k)) (g.faults (core_device n)) result
    pub moments : LeavesExplained g k n
    pub reads : ReadsOnce g (core_device k) (core_device n)

module _ {D : Type 0} where
  -- what stays as an inverse of a transaction begins, or none does
  pub record KeepsToUndo (k n : Core D) (t : ℕ) : Type 0 where
    pub store : core_store n ≡ core_store k
    pub locks : core_page_locks n ≡ core_page_locks k
    pub live : n.live ≡ k.live
    pub commits : n.commits ≡ k.commits
    pub others : KeepsOthers t k.running.items n.running.items

  -- An inverse of a transaction begins, which takes the next number and a step of what is left to undo; or none does,
  -- and all stays; or it is refused.
  pub record BeginsInverse (k n : Core D) (t : ℕ) (result : Result Bool Refusal) : Type 0 where
    pub fewer : result ≡ Ok true → undo_steps n t < undo_steps k t
    pub drawn : result ≡ Ok true → n.last ≡ k.last + 1
    pub same : result ≡ Ok false → n ≡ k
    pub err_left : OnErr result (undo_steps n t ≤ undo_steps k t)
    pub undrawn : OnErr result (n.last ≡ k.last)

  -- no operation of a transaction after its first so many stands and did something
  pub record NoneAfter (k : Core D) (t first : ℕ) : Type 0 where
    pub effect : last_effect t (after_first t first k.live.standing) ≡ None
    pub call : did_after first (member_of k.live.members t) ≡ false

  -- what stays as an inverse of a transaction begins that goes on, or none does
  pub record KeepsToReturn (k n : Core D) (t : ℕ) : Type 0 where
    pub store : core_store n ≡ core_store k
    pub locks : core_page_locks n ≡ core_page_locks k
    pub states : SameStates k n
    pub commits : n.commits ≡ k.commits
    pub others : KeepsOthers t k.running.items n.running.items

  -- what stays as an abort ends, or is refused
  pub record KeepsAtAbort (k n : Core D) (t : ℕ) : Type 0 where
    pub others : SameStatesBut k n t
    pub running : n.running ≡ k.running
    pub commits : n.commits ≡ k.commits
    pub numbers : n.last ≡ k.last
    pub locks : core_page_locks n ≡ core_page_locks k
    pub durable : durable (core_log n) ≡ durable (core_log k)
    pub device : core_device n ≡ core_device k

  -- The abort of a transaction has ended.
  pub record EndsAbort (k n : Core D) (t : ℕ) : Type 0 where
    pub ended : appended (core_log n) ≡ appended (core_log k) ++ record_of.AbortEnd t ∷ []
    pub is_out : state_in n.live.members t ≡ None
    pub none_left : undo_steps k t ≡ 0

  -- what stays as a commit begins, or is refused
  pub record KeepsAtCommit (k n : Core D) : Type 0 where
    pub running : SameRunning k n
    pub numbers : n.last ≡ k.last
    pub durable : durable (core_log n) ≡ durable (core_log k)
    pub under_force : in_flight (core_log n) ≡ in_flight (core_log k)
    pub calls : calls_left (core_log n) ≡ calls_left (core_log k)
    pub device : core_device n ≡ core_device k

  -- The commit of a transaction has begun, at this place among all commits.
  pub record BeginsCommit (k n : Core D) (t number : ℕ) : Type 0 where
    pub place : number ≡ length k.book.items + length k.commits.items + 1
    pub queue : (c : Commit) × (c.txn ≡ t) × (c.place ≡ length (appended (core_log n)))
        × (n.commits.items ≡ k.commits.items ++ c ∷ [])
    pub waits : waiting (core_log n) ≡ waiting (core_log k) ++ record_of.Commit t ∷ []
    pub commits : SetsState k n t (Some Committing)

  -- No commit has begun.
  pub record KeepsCommits (k n : Core D) : Type 0 where
    pub records : appended (core_log n) ≡ appended (core_log k)
    pub states : SameStates k n
    pub commits : SameCommits k n
