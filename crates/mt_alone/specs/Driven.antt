-- A kernel beside the model's play of a script that runs alone on it.
use Rattle.std.specs.Prelude.{ℕ, ◌+◌, ◌*◌, ◌≡◌, ◌≢◌, ◌⊎◌, ◌<◌, ◌≤◌, ◌++◌, true, List, [], ◌∷◌, length, Option, Some, None, Result, Ok, Err, IfOk, IfErr, OnErr}
use Rattle.mt_base.specs.declared.limits.TheConstants.{MAX_PAGES}
use Rattle.mt_base.specs.declared.refusal.Refusal.{Refusal}
use Rattle.mt_base.specs.declared.refusal.Refusal.TheVariants as refusal
use Rattle.mt_disk.specs.declared.device.Device.{Ghosts}
use Rattle.mt_live.specs.Alone.{NobodyLives, IsAlone}
use Rattle.mt_live.specs.Machine.{State, IsKept, called}
use Rattle.mt_live.specs.declared.transactions.TxnState.TheVariants.{Open, Committing, Returning, Aborting}
use Rattle.mt_log.specs.Words.{appended, durable}
use Rattle.mt_model.specs.History.{Call, run, after}
use Rattle.mt_model.specs.Model.{Base, reply_of}
use Rattle.mt_model.specs.declared.operations.Op.{Op}
use Rattle.mt_model.specs.declared.operations.Reply.{Reply}
use Rattle.mt_core.specs.declared.parts.Commit.{Commit}
use Rattle.mt_txn.specs.Due.{IsDueIn}
use Rattle.mt_txn.specs.Events.{HasForced, IsAnsweredBy, IsForcedBy}
use Rattle.mt_txn.specs.Shown.{Shows, Stays, is_failed, kernel_device, kernel_log}
use Rattle.mt_txn.specs.declared.answers.KernelForced.{KernelForced}
use Rattle.mt_txn.specs.declared.answers.Stepped.{Stepped}
use Rattle.mt_txn.specs.declared.answers.Stepped.TheVariants as step
use Rattle.mt_txn.specs.declared.answers.AbortStepped.{AbortStepped}
use Rattle.mt_txn.specs.declared.answers.AbortStepped.TheVariants as abort
use Rattle.mt_txn.specs.declared.kernel.Kernel.{Kernel}
use Rattle.mt_txn.specs.Words.{kernel_commits, kernel_state, kernel_steps, kernel_undo_steps, kernel_begin_cause, kernel_call_cause, StatesStay, UncommittedStay, CommitsStay, RunningStays, UndoStays}
use Rattle.mt_script.specs.declared.lines.Line.{Line}
use Rattle.mt_script.specs.declared.lines.Line.TheVariants as line
use Rattle.mt_model.specs.Backwards.{OpenCalls, with_one}
use Rattle.mt_alone.specs.Plays.{Play, back_on, committed, put_off}

-- the book, the base that it begins on and what it leaves are the model's
pub record IsPlayed (first : Base) (p : Play) (s : State) : Type 0 where
  pub first_is : first ≡ p.first
  pub book : s.book ≡ p.book
  pub base : after first p.book ≡ p.base

-- A transaction is the only one that is active, and these are its calls.
abbrev pub IsPlaying : Base → Play → ℕ → OpenCalls → State → Type 0
IsPlaying first p t calls s = IsPlayed first p s × IsAlone s t p.session calls.all calls.counted

-- none but it is active
pub record IsUndone (first : Base) (p : Play) (t : ℕ) (s : State) : Type 0 where
  pub played : IsPlayed first p s
  pub others : (u : ℕ) → u ≢ t → s.sessions u ≡ None

-- It goes back to its first so many, from calls that it had. Its calls by now lead, with what is left to take back, to
-- what those lead to.
pub record IsPartWay (first : Base) (p : Play) (t n : ℕ) (had : OpenCalls) (s : State) : Type 0 where
  pub calls : OpenCalls
  pub playing : IsPlaying first p t calls s
  pub leads : back_on p.base calls n ≡ back_on p.base had n

-- no transaction commits
abbrev pub NobodyCommits : {D : Type 0} {g : Ghosts D} → Kernel D g → Type 0
NobodyCommits k = (t : ℕ) → kernel_state k t ≢ Some Committing

module _ {D : Type 0} {g : Ghosts D} where
  -- the kernel shows a state of which this holds
  abbrev pub ShowsOne : (Base → State → Type 0) → Kernel D g → Type 0
  ShowsOne Holds k = ∥ ((first : Base) × (s : State) × Shows first s k × Holds first s) ∥₁

  -- what is committed is the model's, whatever else there is
  abbrev pub IsLeft : Play → Kernel D g → Type 0
  IsLeft p k = ShowsOne (λ first s. IsPlayed first p s) k

  -- between two lines: no transaction is active; or only the open one is, and runs nothing
  pub record IsResting (p : Play) (k : Kernel D g) : Type 0 where
    pub shown : ShowsOne (λ first s. IsPlayed first p s × NobodyLives s) k
    pub nothing : p.under_way ≡ None

  pub record IsOpened (p : Play) (t : ℕ) (calls : OpenCalls) (k : Kernel D g) : Type 0 where
    pub shown : ShowsOne (λ first s. IsPlaying first p t calls s) k
    pub state : kernel_state k t ≡ Some Open

  abbrev pub IsBeside : Play → Option ℕ → Kernel D g → Type 0
  IsBeside p None k = IsResting p k
  IsBeside p (Some t) k = (calls : OpenCalls) × (p.under_way ≡ Some calls) × IsOpened p t calls k

  -- ---- within a line

  -- an operation of it is under way
  pub record IsCalling (p : Play) (t : ℕ) (calls : OpenCalls) (op : Op) (k : Kernel D g) : Type 0 where
    pub shown : ∥ ((first : Base) × (s : State) × IsKept first s × IsPlaying first p t calls s
        × Shows first (called s t op) k) ∥₁
    pub state : kernel_state k t ≡ Some Open

  -- its commit is begun, and not durable
  pub record IsEnding (p : Play) (t : ℕ) (calls : OpenCalls) (steps : ℕ) (k : Kernel D g) : Type 0 where
    pub shown : ShowsOne (λ first s. IsPlaying first p t calls s) k
    pub commit : Commit
    pub queue : kernel_commits k ≡ commit ∷ []
    pub own : commit.txn ≡ t
    pub waits : length (durable (kernel_log k)) < commit.place
    pub due : IsDueIn steps commit.place (kernel_log k)

  -- it goes back
  pub record IsReturning (p : Play) (t n : ℕ) (had : OpenCalls) (k : Kernel D g) : Type 0 where
    pub shown : ShowsOne (λ first s. IsPartWay first p t n had s) k
    pub state : kernel_state k t ≡ Some (Returning n)

  -- it is being undone
  pub record IsGoing (p : Play) (t : ℕ) (k : Kernel D g) : Type 0 where
    pub shown : ShowsOne (λ first s. IsUndone first p t s) k
    pub state : kernel_state k t ≡ Some Aborting

  -- ---- refusals

  -- the tests by which it refuses a begin, and an operation: those of the call, and else what locks, escrow, pages
  -- and log say
  abbrev pub IsTested : Kernel D g → Option ℕ → Line → Refusal → Type 0
  IsTested k None line.Begin why = kernel_begin_cause k ≡ Some why
  IsTested k (Some t) (line.Call op) why =
      (kernel_call_cause k t op ≡ Some why) ⊎ ((kernel_call_cause k t op ≡ None) × IsAnsweredBy k t op (Err why))
  IsTested k live line why = ⊥

  -- A want of this kernel: memory, or what its tests say.
  abbrev pub IsDueTo : Kernel D g → Option ℕ → Line → Refusal → Type 0
  IsDueTo k live line why = (why ≡ refusal.NoMemory) ⊎ IsTested k live line why

  -- only frames were flushed, and the log was forced
  pub record Eases (k n : Kernel D g) : Type 0 where
    pub state : Stays k n
    pub states : StatesStay k n
    pub running : RunningStays k n
    pub undo : UndoStays k n

module _ {D : Type 0} {g : Ghosts D} where
  -- a call of it was refused with 2, a force has failed, or a call of the device has
  abbrev pub HasBroken : Kernel D g → Type 0
  HasBroken k = (is_failed k ≡ true) ⊎ (0 < g.faults (kernel_device k))

  -- it is given up for want of memory, or since the device has failed
  abbrev pub Fails : Kernel D g → Refusal → Type 0
  Fails n why = why ≢ refusal.NoMemory → (why ≡ refusal.DeviceFailed) × HasBroken n

module _ {D : Type 0} {g : Ghosts D} where
  -- ---- what the steps of a line do

  -- a force step
  pub record IsForcing (k : Kernel D g) (result : Result KernelForced Refusal) (n : Kernel D g) : Type 0 where
    pub forced : (first : Base) (s : State) → Shows first s k → HasForced first s result n
    pub log : IfOk result (λ forced. IsForcedBy (kernel_log k) (kernel_commits k) forced (kernel_log n)
        (kernel_commits n))
    pub appended : appended (kernel_log n) ≡ appended (kernel_log k)
    pub running : RunningStays k n
    pub states : UncommittedStay k n
    pub undo : UndoStays k n
    pub err : OnErr result (StatesStay k n × CommitsStay k n)
    pub cause : IfErr result (Fails n)

  -- it was given up, and what is committed is as it was
  abbrev pub IsGivenUp : Play → Kernel D g → Refusal → Type 0
  IsGivenUp p n why = IsLeft p n × Fails n why

  -- a step of the operation of one that is alone: it goes on, nearer to its end, or ends with the model's reply
  abbrev pub IsMoved : Play → ℕ → OpenCalls → Op → Kernel D g → Result Stepped Refusal → Kernel D g → Type 0
  IsMoved p t calls op k (Ok (step.Replied reply)) n =
      (reply ≡ reply_of (run p.base calls.all) op)
      × IsOpened p t (with_one calls (op, reply_of (run p.base calls.all) op)) n
  IsMoved p t calls op k (Ok step.Went) n = IsCalling p t calls op n × (kernel_steps n t < kernel_steps k t)
  IsMoved p t calls op k (Ok (step.Wait other)) n = ⊥
  IsMoved p t calls op k (Ok step.Again) n = ⊥
  IsMoved p t calls op k (Ok step.Flush) n = ⊥
  IsMoved p t calls op k (Err why) n = IsGivenUp p n why

  abbrev pub HasMoved : Kernel D g → ℕ → Result Stepped Refusal → Kernel D g → Type 0
  HasMoved k t result n =
      (p : Play) (calls : OpenCalls) (op : Op) → IsCalling p t calls op k → IsMoved p t calls op k result n

  -- all of them
  abbrev pub IsReplied : Play → ℕ → OpenCalls → Op → Result Reply Refusal → Kernel D g → Type 0
  IsReplied p t calls op (Ok reply) n =
      (reply ≡ reply_of (run p.base calls.all) op)
      × IsOpened p t (with_one calls (op, reply_of (run p.base calls.all) op)) n
  IsReplied p t calls op (Err why) n = IsGivenUp p n why

  abbrev pub HasReplied : Kernel D g → ℕ → Result Reply Refusal → Kernel D g → Type 0
  HasReplied k t result n = (p : Play) (calls : OpenCalls) (op : Op) → IsCalling p t calls op k
      → kernel_steps k t ≤ 2 * MAX_PAGES + 9 → IsReplied p t calls op result n

  -- the force steps of its commit, which is durable then
  abbrev pub IsDurable : {U : Type 0} → Play → OpenCalls → Result U Refusal → Kernel D g → Type 0
  IsDurable p calls (Ok done) n = IsResting (committed p calls) n
  IsDurable p calls (Err why) n = IsGivenUp p n why

  abbrev pub HasCommitted : {U : Type 0} → Kernel D g → ℕ → Result U Refusal → Kernel D g → Type 0
  HasCommitted k t result n = (p : Play) (calls : OpenCalls) → IsEnding p t calls 8 k → IsDurable p calls result n

  -- a step of its going back
  abbrev pub IsNearer : Play → ℕ → ℕ → OpenCalls → Kernel D g → Result AbortStepped Refusal → Kernel D g → Type 0
  IsNearer p t n had k (Ok abort.More) m =
      IsReturning p t n had m × (kernel_undo_steps m t < kernel_undo_steps k t)
  IsNearer p t n had k (Ok (abort.Wait other)) m = ⊥
  IsNearer p t n had k (Ok abort.Again) m = ⊥
  IsNearer p t n had k (Ok abort.Flush) m = ⊥
  IsNearer p t n had k (Ok abort.Ended) m = IsOpened p t (back_on p.base had n) m
  IsNearer p t n had k (Err why) m = IsGivenUp p m why

  abbrev pub HasNeared : Kernel D g → ℕ → Result AbortStepped Refusal → Kernel D g → Type 0
  HasNeared k t result m =
      (p : Play) (n : ℕ) (had : OpenCalls) → IsReturning p t n had k → IsNearer p t n had k result m

  -- all of them
  abbrev pub IsGoneBack : {U : Type 0} → Play → ℕ → ℕ → OpenCalls → Result U Refusal → Kernel D g → Type 0
  IsGoneBack p t n had (Ok done) m = IsOpened p t (back_on p.base had n) m
  IsGoneBack p t n had (Err why) m = IsGivenUp p m why

  abbrev pub HasGoneBack : {U : Type 0} → Kernel D g → ℕ → Result U Refusal → Kernel D g → Type 0
  HasGoneBack k t result m = (p : Play) (n : ℕ) (had : OpenCalls) → IsReturning p t n had k
      → kernel_undo_steps k t ≤ 631 * (2 * MAX_PAGES + 10) → IsGoneBack p t n had result m

  -- a step of its abort
  abbrev pub IsBacked : Play → ℕ → Kernel D g → Result AbortStepped Refusal → Kernel D g → Type 0
  IsBacked p t k (Ok abort.More) n = IsGoing p t n × (kernel_undo_steps n t < kernel_undo_steps k t)
  IsBacked p t k (Ok (abort.Wait other)) n = ⊥
  IsBacked p t k (Ok abort.Again) n = ⊥
  IsBacked p t k (Ok abort.Flush) n = ⊥
  IsBacked p t k (Ok abort.Ended) n = IsResting (put_off p) n
  IsBacked p t k (Err why) n = IsGivenUp p n why

  abbrev pub HasBacked : Kernel D g → ℕ → Result AbortStepped Refusal → Kernel D g → Type 0
  HasBacked k t result n = (p : Play) → IsGoing p t k → IsBacked p t k result n

  -- the whole of it
  abbrev pub IsTakenBack : {U : Type 0} → Play → Result U Refusal → Kernel D g → Type 0
  IsTakenBack p (Ok done) n = IsResting (put_off p) n
  IsTakenBack p (Err why) n = IsGivenUp p n why

  abbrev pub HasUndone : {U : Type 0} → Kernel D g → ℕ → Result U Refusal → Kernel D g → Type 0
  HasUndone k t result n =
      (p : Play) → IsGoing p t k → kernel_undo_steps k t ≤ 631 * (2 * MAX_PAGES + 10) → IsTakenBack p result n

  -- the abort of one that is open
  abbrev pub HasAborted : {U : Type 0} → Kernel D g → ℕ → Result U Refusal → Kernel D g → Type 0
  HasAborted k t result n = (p : Play) (calls : OpenCalls) → IsOpened p t calls k → IsTakenBack p result n
