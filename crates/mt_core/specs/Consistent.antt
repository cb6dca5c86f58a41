-- What the parts of a kernel keep of one another.
use Rattle.std.specs.Prelude.{ℕ, ◌≡◌, ◌≢◌, ◌<◌, ◌≤◌, ◌+◌, ◌-◌, ◌++◌, ◌*◌, ◌==◌, [], true, false, List, length, vec_len, All, AllPairs, is_some, Option, Some, None, Result, Ok, Err, slice_index_or}
use Rattle.std.specs.List.{sum_by, list_any}
use Rattle.std.specs.Option.{option_map}
use Rattle.std.specs.Vec.{vec_capacity}
use Rattle.mt_disk.specs.declared.device.Device.{Ghosts}
use Rattle.mt_core.specs.declared.commits.TheConstants.{END_LOG_BYTES}
use Rattle.mt_base.specs.declared.limits.TheConstants.{MAX_AREA_MIB, MAX_BEGUN, MAX_COUNTERS, MAX_OPERATIONS, MAX_RELATIONS, MIB_BYTES, OPERATION_LOG_BYTES, TRANSACTION_LOG_BYTES}
use Rattle.mt_base.specs.declared.refusal.Refusal.{Refusal}
use Rattle.mt_escrow.specs.Seen.{Escrowed, all_adds, CanStand, add_of}
use Rattle.mt_frame.specs.declared.records.Record.{Record}
use Rattle.mt_frame.specs.declared.records.Record.TheVariants as record_of
use Rattle.mt_area_rules.specs.History.{some_record, ends_txn, ends_op, finishes, undoes_op}
use Rattle.mt_live.specs.Adds.{add_before, GivesBack}
use Rattle.mt_live.specs.Lives.{calls_of, member_of, has_room}
use Rattle.mt_live.specs.Machine.{State, put, committed_base, IsKept, IsAdmitted, called, ended, undone, returned, dropped, booked}
use Rattle.mt_live.specs.Entries.{Entry}
use Rattle.mt_live.specs.Undoing.{after_first, last_effect}
use Rattle.mt_live.specs.Members.{Member, Noted, has_inverse, standing_count, forward_count}
use Rattle.mt_live.specs.declared.transactions.TxnState.{TxnState}
use Rattle.mt_live.specs.declared.transactions.TxnState.TheVariants.{Open, Committing, Returning, Aborting}
use Rattle.mt_log.specs.Words.{appended, used, area_size}
use Rattle.mt_model.specs.declared.history.Committed.{Committed}
use Rattle.mt_model.specs.declared.operations.Reply.{Reply}
use Rattle.mt_model.specs.declared.operations.Op.{Op}
use Rattle.mt_model.specs.declared.operations.Op.TheVariants.{Get, Insert, Update, Delete, Add, Read, Scan}
use Rattle.mt_model.specs.declared.objects.Object.{Object}
use Rattle.mt_model.specs.History.{after}
use Rattle.mt_model.specs.Locks.{with_locks, AreAllFree}
use Rattle.mt_model.specs.Model.{Base, reply_of, base_after, inverse_of, locks_of, IsWithin}
use Rattle.mt_model.specs.Tables.{count_at}
use Rattle.mt_op.specs.Begun.{AreImages}
use Rattle.mt_op.specs.Operations.{world, IsRight, claimed, operation_log}
use Rattle.mt_op.specs.Records.{end_of}
use Rattle.mt_op.specs.World.{IsUnderWay, held_in, undoes_of, splits}
use Rattle.mt_op.specs.declared.operations.Operations.{Operations}
use Rattle.mt_op.specs.declared.scope.OpScope.{OpScope}
use Rattle.mt_op.specs.declared.scope.Stage.{Stage}
use Rattle.mt_op.specs.declared.answers.Stepped.{Stepped}
use Rattle.mt_op.specs.declared.answers.Stepped.TheVariants as stepped
use Rattle.mt_op.specs.declared.answers.TakenBack.{TakenBack}
use Rattle.mt_op.specs.declared.answers.TakenBack.TheVariants as taken
use Rattle.mt_op.specs.declared.scope.Stage.TheVariants.{Ready, Cleared}
use Rattle.mt_plock.specs.declared.guards.PageLock.{PageLock}
use Rattle.mt_space.specs.Changes.{PageBytes}
use Rattle.mt_slock.specs.Views.{held_of}
use Rattle.mt_slock.specs.declared.holders.Holder.{Holder}
use Rattle.mt_steps.specs.Held.{Holds}
use Rattle.mt_steps.specs.Logged.{HasSmallReply}
use Rattle.mt_steps.specs.Plans.{own_needs}
use Rattle.mt_core.specs.Runs.{running_in, AreApart, AreHeldBy, IsRunning, IsOwned, is_returning, pages_of, entry_pages, entry_bytes, kept_bytes, taken_bytes, is_working}
use Rattle.mt_op.specs.World.{left_of}
pub use Rattle.mt_core.specs.Runs.{state_in}
use Rattle.mt_core.specs.declared.calls.Called.{Called}
use Rattle.mt_core.specs.declared.calls.Called.TheVariants as answer
use Rattle.mt_core.specs.declared.parts.Commit.{Commit}
use Rattle.mt_core.specs.declared.parts.Core.{Core}
use Rattle.mt_core.specs.Seen.{core_log, core_page_locks, core_store}

-- What a kernel began on: the base on which its book begins, and the schema; and of its log's area the pages as they
-- were when that began, the base that they held, and the commits that were in the book by then.
pub record Origin : Type 0 where
  pub first : Base
  pub earlier : List Committed
  pub begun : Base
  pub pages : PageBytes
  pub relations : ℕ
  pub counters : ℕ

pub record IsSchema (origin : Origin) : Type 0 where
  pub few_relations : origin.relations ≤ MAX_RELATIONS
  pub few_counters : origin.counters ≤ MAX_COUNTERS

-- the area began with the book
pub record IsFirstArea (origin : Origin) : Type 0 where
  pub begun : origin.begun ≡ origin.first
  pub none : origin.earlier ≡ []

-- The state that the laws speak of, read off the kernel's parts; the base is one that the pages hold.
abbrev pub state_of : {D : Type 0} → Core D → Base → State
state_of k base = record {
  book = k.book.items;
  sessions = λ t. option_map (λ (m : Member). m.session) (member_of k.live.members t);
  next = k.live.begun + 1;
  standing = k.live.standing;
  running = running_in k.running.items;
  held = held_of k.locks;
  pending = k.escrow.pending;
  aside = k.escrow.aside;
  base = base;
}

-- each lock and each record is of an operation that has begun; no transaction that is open or aborting, and none to
-- come, has ended
pub record IsNumbered (last begun : ℕ) (ms : List Member) (page_locks : List PageLock)
    (records : List Record) : Type 0 where
  pub locks : All (λ (l : PageLock). l.op ≤ last) page_locks
  pub ops : (n : ℕ) → last < n → some_record (ends_op n) records ≡ false
  pub txns : (t : ℕ) → is_working (member_of ms t) ≡ true → some_record (ends_txn t) records ≡ false
  pub coming : (t : ℕ) → begun < t → some_record (ends_txn t) records ≡ false
  pub few_operations : last ≤ 2 * MAX_BEGUN
  pub few_transactions : begun ≤ MAX_BEGUN
  pub nobody : is_some (member_of ms 0) ≡ false

-- the operation's end is in the log, and no inverse of it
pub record IsDue (records : List Record) (t n : ℕ) : Type 0 where
  pub ended : some_record (finishes t n) records ≡ true
  pub standing : some_record (undoes_op t n) records ≡ false

-- The operations of a transaction are numbered in the order of their ends, and each that did something may be taken
-- back. If it goes back to where its first so many had ended, these stand. They are no more than it may call.
pub record IsReported (last : ℕ) (records : List Record) (t : ℕ) (m : Member) : Type 0 where
  pub many : length m.operations ≡ length m.calls
  pub numbers : All (λ n. (1 ≤ n) × (n ≤ last)) m.operations
  pub rising : AllPairs (λ a b. a < b) m.operations
  pub due : (i : ℕ) (c : Noted) → i < length m.calls → c ≡ slice_index_or m.calls i c → has_inverse c ≡ true
      → IsDue records t (slice_index_or m.operations i 0)
  pub firsts : (first : ℕ) → m.state ≡ Returning first → first ≤ standing_count m.calls
  pub few : forward_count m.calls ≤ MAX_OPERATIONS

abbrev pub AreReported : ℕ → List Member → List Record → Type 0
AreReported last ms records = (t : ℕ) (m : Member) → member_of ms t ≡ Some m → IsReported last records t m

abbrev pub session_or : Option Member → ℕ
session_or None = 0
session_or (Some m) = m.session

-- whose it is, if it lives
abbrev pub session_in : List Member → ℕ → ℕ
session_in ms t = session_or (member_of ms t)

-- its Commit is the record at its place
pub record IsPlaced (records : List Record) (c : Commit) : Type 0 where
  pub some : 1 ≤ c.place
  pub within : c.place ≤ length records
  pub there : (d : Record) → slice_index_or records (c.place - 1) d ≡ record_of.Commit c.txn

-- the commits that are under way, in the order of their records
pub record IsQueued (ms : List Member) (records : List Record) (cs : List Commit) : Type 0 where
  pub each : All (λ (c : Commit). state_in ms c.txn ≡ Some Committing) cs
  pub all : (t : ℕ) → state_in ms t ≡ Some Committing → list_any (λ (c : Commit). c.txn == t) cs ≡ true
  pub apart : AllPairs (λ (a b : Commit). a.txn ≢ b.txn) cs
  pub rising : AllPairs (λ (a b : Commit). a.place < b.place) cs
  pub placed : All (IsPlaced records) cs

-- the operation is within the schema, and what it replied has its inverse within it
pub record IsWithinSchema (origin : Origin) (e : Entry) : Type 0 where
  pub op : IsWithin origin.relations origin.counters e.op
  pub reply : HasSmallReply e.reply

-- The numbers of operations suffice. A call is given one below 2^40; each inverse after that has its bytes kept, so
-- of such there are no more than the area and the ends that are kept for transactions have room for.
abbrev pub AreLeft : ℕ → ℕ → ℕ → Type 0
AreLeft last begun reserved = OPERATION_LOG_BYTES * last + reserved
    ≤ OPERATION_LOG_BYTES * MAX_BEGUN + MAX_AREA_MIB * MIB_BYTES + TRANSACTION_LOG_BYTES * begun

-- the counters of the escrow are those of the base that the book leaves
pub record IsEscrowed (counters : ℕ) (m : Base) (e : Escrowed) : Type 0 where
  pub all : length e.committed ≡ counters
  pub counts : (c : ℕ) → c < counters → count_at e.committed c ≡ m.counts c

-- operations of which none has begun, in a log area without records but the images that it began with, and an escrow
-- without adds that are pending or set aside
pub record IsFresh {D : Type 0} (o : Operations D) (e : Escrowed) : Type 0 where
  pub locks : o.locks ≡ []
  pub unclaimed : claimed o ≡ 0
  pub images : AreImages (appended (operation_log o))
  pub room : used (operation_log o) < area_size (operation_log o)
  pub pending : e.pending ≡ []
  pub aside : e.aside ≡ []

-- What the parts keep of one another, whatever one of the operations is about: the laws' state is kept; each
-- operation is its transaction's only one; each page lock is of one of them; numbers are used once; the log has room
-- for what may still have to be appended.
pub record IsFit {D : Type 0} (g : Ghosts D) (origin : Origin) (base : Base) (k : Core D) : Type 0 where
  pub schema : IsSchema origin
  pub right : IsRight g origin.pages origin.relations origin.counters k.operations
  pub kept : IsKept origin.first (state_of k base)
  pub owned : All (IsOwned k.live.members k.live.standing) k.running.items
  pub apart : AllPairs AreApart k.running.items
  pub numbered : IsNumbered k.last k.live.begun k.live.members (core_page_locks k) (appended (core_log k))
  pub locked : AreHeldBy k.running.items (core_page_locks k)
  pub small : All (IsWithinSchema origin) k.live.standing
  pub log : used (core_log k) + sum_by left_of k.running.items + k.reserved < area_size (core_log k)
  pub reserves : k.reserved + sum_by taken_bytes k.running.items + END_LOG_BYTES * length k.commits.items
      ≡ sum_by kept_bytes k.running.items + sum_by entry_bytes k.live.standing
      + TRANSACTION_LOG_BYTES * length k.live.members
  pub queued : IsQueued k.live.members (appended (core_log k)) k.commits.items
  pub numbers : AreLeft k.last k.live.begun k.reserved
  pub booked : vec_len k.book + length k.commits.items ≤ vec_capacity k.book
  pub escrowed : IsEscrowed origin.counters (committed_base origin.first (state_of k base)) k.escrow

-- All operations are under way; the pages hold the base; what is claimed is what they and what may have to be undone
-- may take.
pub record IsConsistent {D : Type 0} (g : Ghosts D) (origin : Origin) (base : Base) (k : Core D) : Type 0 where
  pub fit : IsFit g origin base k
  pub holds : Holds (held_in (world g origin.pages k.operations)) base
  pub runs : All (IsRunning origin.relations origin.counters (world g origin.pages k.operations) k.last) k.running.items
  pub outcome : AreReported k.last k.live.members (appended (core_log k))
  pub claims : claimed k.operations ≡ sum_by pages_of k.running.items + sum_by entry_pages k.live.standing

-- each transaction is open, commits or is to be undone as before; but for one, which is in this state
abbrev pub SameStates : {D : Type 0} → Core D → Core D → Type 0
SameStates k n = (u : ℕ) → state_in n.live.members u ≡ state_in k.live.members u

abbrev pub SetsState : {D : Type 0} → Core D → Core D → ℕ → Option TxnState → Type 0
SetsState k n t x = (u : ℕ) → state_in n.live.members u ≡ put (state_in k.live.members) t x u

abbrev pub SameStatesBut : {D : Type 0} → Core D → Core D → ℕ → Type 0
SameStatesBut k n t = (u : ℕ) → u ≢ t → state_in n.live.members u ≡ state_in k.live.members u

-- each that does not commit is in the state in which it was
abbrev pub SameUncommitted : {D : Type 0} → Core D → Core D → Type 0
SameUncommitted k n =
    (u : ℕ) → state_in k.live.members u ≢ Some Committing → state_in n.live.members u ≡ state_in k.live.members u

-- with these operations under way, and these commits
abbrev pub SameRunning : {D : Type 0} → Core D → Core D → Type 0
SameRunning k n = n.running.items ≡ k.running.items

abbrev pub SameCommits : {D : Type 0} → Core D → Core D → Type 0
SameCommits k n = n.commits.items ≡ k.commits.items

-- consistent on some base
abbrev pub IsSound : {D : Type 0} → Ghosts D → Core D → Type 0
IsSound g k = ∥ ((origin : Origin) × (base : Base) × IsConsistent g origin base k) ∥₁

-- bytes of the log that are used and kept
abbrev pub log_kept : {D : Type 0} → Core D → ℕ
log_kept k = used (core_log k) + sum_by left_of k.running.items + k.reserved

-- of the operation at a place
abbrev pub AtPlace : List OpScope → ℕ → (OpScope → Type 0) → Type 0
AtPlace rs place P = (r : OpScope) → r ≡ slice_index_or rs place r → P r

-- the place of a transaction's operation, if it has one
abbrev pub IsPlaceOf : List OpScope → ℕ → Option ℕ → Type 0
IsPlaceOf rs t (Some place) = (place < length rs) × AtPlace rs place (λ r. r.txn ≡ t)
IsPlaceOf rs t None = All (λ (r : OpScope). r.txn ≢ t) rs

-- all operations but the one at a place are under way, and it has come to a stage
pub record IsAlone {D : Type 0} (g : Ghosts D) (origin : Origin) (k : Core D) (place : ℕ) (r : OpScope)
    (come : Stage) : Type 0 where
  pub within : place < length k.running.items
  pub there : r ≡ slice_index_or k.running.items place r
  pub own : IsUnderWay origin.relations origin.counters (world g origin.pages k.operations) r
  pub stage : r.stage ≡ come
  pub known : r.number ≤ k.last
  pub others : (i : ℕ) (d : OpScope) → i < length k.running.items → i ≢ place
      → IsRunning origin.relations origin.counters (world g origin.pages k.operations) k.last
      (slice_index_or k.running.items i d)

-- before its end, the records had each call; none takes it back
pub record IsReportedBefore (last : ℕ) (ms : List Member) (records : List Record) (s : OpScope)
    (reply : Reply) : Type 0 where
  pub was : List Record
  pub ended : records ≡ was ++ end_of s reply
  pub outcome : AreReported last ms was
  pub standing : undoes_of s ≡ 0 → some_record (undoes_op s.txn s.number) was ≡ false

-- The operation at a place has acted on the pages, with this reply, and has not ended yet.
pub record IsReady {D : Type 0} (g : Ghosts D) (origin : Origin) (base : Base)
    (k : Core D) (place : ℕ) (r : OpScope) (reply : Reply) : Type 0 where
  pub fit : IsFit g origin base k
  pub alone : IsAlone g origin k place r Ready
  pub holds : Holds (held_in (world g origin.pages k.operations)) (base_after base r.op)
  pub replies : reply_of base r.op ≡ reply
  pub small : HasSmallReply reply
  pub outcome : IsReportedBefore k.last k.live.members (appended (core_log k)) r reply
  pub claims : claimed k.operations + own_needs r.op (splits r)
      ≡ sum_by pages_of k.running.items + sum_by entry_pages k.live.standing

-- what is at a place is ready, with this reply
abbrev pub IsReadyAt : {D : Type 0} → Ghosts D → Origin → Base → Core D → ℕ → Reply → Type 0
IsReadyAt g origin base k place reply = AtPlace k.running.items place (λ r. IsReady g origin base k place r reply)

-- The operation at a place is taken back: nothing of it is left but its page locks, and its claims.
pub record IsCleared {D : Type 0} (g : Ghosts D) (origin : Origin) (base : Base)
    (k : Core D) (place : ℕ) (r : OpScope) : Type 0 where
  pub fit : IsFit g origin base k
  pub alone : IsAlone g origin k place r Cleared
  pub holds : Holds (held_in (world g origin.pages k.operations)) base
  pub outcome : AreReported k.last k.live.members (appended (core_log k))
  pub claims : claimed k.operations ≡ sum_by pages_of k.running.items + sum_by entry_pages k.live.standing

-- what is at a place is taken back
abbrev pub IsClearedAt : {D : Type 0} → Ghosts D → Origin → Base → Core D → ℕ → Type 0
IsClearedAt g origin base k place = AtPlace k.running.items place (λ r. IsCleared g origin base k place r)

-- consistent on a base, in this state of the laws
pub record IsIn {D : Type 0} (g : Ghosts D) (origin : Origin) (base : Base) (s : State) (k : Core D) : Type 0 where
  pub consistent : IsConsistent g origin base k
  pub state : s ≡ state_of k base

-- in the state in which other parts were
abbrev pub StaysIn : {D : Type 0} → Ghosts D → Core D → Core D → Type 0
StaysIn g k n = (origin : Origin) (base : Base) → IsConsistent g origin base k → IsIn g origin base (state_of k base) n

-- but for what it does to the operations, nothing has changed
abbrev pub OnlyOperations : {D : Type 0} → Core D → Core D → Type 0
OnlyOperations k n = n ≡ record k { operations = n.operations }

-- what a step of the operation at a place leaves, of parts that were in this state
abbrev pub Advances : {D : Type 0} → Ghosts D → Origin → Base → State → Core D → ℕ → Result Stepped Refusal → Type 0
Advances g origin base s k place (Ok (stepped.Ready first second)) = ((r : OpScope)
    → r ≡ slice_index_or k.running.items place r → IsReady g origin base k place r first)
    × (second ≡ first) × (s ≡ state_of k base)
Advances g origin base s k place (Ok stepped.Went) = IsIn g origin base s k
Advances g origin base s k place (Ok (stepped.Wait holder)) = IsIn g origin base s k
Advances g origin base s k place (Ok (stepped.Again holder)) = IsIn g origin base s k
Advances g origin base s k place (Ok stepped.Flush) = IsIn g origin base s k
Advances g origin base s k place (Err why) = IsIn g origin base s k

-- what a step of its taking back leaves
abbrev pub GoesBack : {D : Type 0} → Ghosts D → Origin → Base → State → Core D → ℕ → Result TakenBack Refusal → Type 0
GoesBack g origin base s k place (Ok taken.Clear) = ((r : OpScope)
    → r ≡ slice_index_or k.running.items place r → IsCleared g origin base k place r)
    × (s ≡ state_of k base)
GoesBack g origin base s k place (Ok taken.More) = IsIn g origin base s k
GoesBack g origin base s k place (Ok taken.Flush) = IsIn g origin base s k
GoesBack g origin base s k place (Err why) = IsIn g origin base s k

-- An operation that a transaction has called may run: it lies within the schema, and its transaction is at work and
-- idle, does not go back, has room, and may call one more.
pub record MayRun {D : Type 0} (origin : Origin) (k : Core D) (t : ℕ) (op : Op) : Type 0 where
  pub within : IsWithin origin.relations origin.counters op
  pub at_work : is_working (member_of k.live.members t) ≡ true
  pub forwards : is_returning (state_in k.live.members t) ≡ false
  pub room : has_room (member_of k.live.members t) ≡ true
  pub idle : All (λ (r : OpScope). r.txn ≢ t) k.running.items
  pub few : forward_count (calls_of k.live.members t) < MAX_OPERATIONS

-- but for room for its end
pub record MayBeCalled {D : Type 0} (origin : Origin) (k : Core D) (t : ℕ) (op : Op) : Type 0 where
  pub within : IsWithin origin.relations origin.counters op
  pub at_work : is_working (member_of k.live.members t) ≡ true
  pub forwards : is_returning (state_in k.live.members t) ≡ false
  pub idle : All (λ (r : OpScope). r.txn ≢ t) k.running.items
  pub few : forward_count (calls_of k.live.members t) < MAX_OPERATIONS

-- Its locks are held: nobody was in the way of any. But for those locks the parts are as they were.
pub record IsLocked {D : Type 0} (g : Ghosts D) (origin : Origin) (base : Base)
    (was_locks : List (Object × List Holder)) (k : Core D) (t : ℕ) (op : Op) : Type 0 where
  pub was : IsConsistent g origin base (record k { locks = was_locks })
  pub may : MayRun origin k t op
  pub locked : held_of k.locks ≡ with_locks (held_of was_locks) t (locks_of op)
  pub free : AreAllFree (held_of was_locks) t (locks_of op)

-- If it is an add, the escrow admits it besides, and it is pending. But for that and the locks the parts are as they
-- were.
pub record IsGranted {D : Type 0} (g : Ghosts D) (origin : Origin) (base : Base)
    (was_locks : List (Object × List Holder)) (was_escrow : Escrowed) (k : Core D) (t : ℕ) (op : Op) : Type 0 where
  pub was : IsConsistent g origin base (record k { locks = was_locks; escrow = was_escrow })
  pub may : MayRun origin k t op
  pub locked : held_of k.locks ≡ with_locks (held_of was_locks) t (locks_of op)
  pub free : AreAllFree (held_of was_locks) t (locks_of op)
  pub committed : k.escrow.committed ≡ was_escrow.committed
  pub more : k.escrow.pending ≡ was_escrow.pending ++ add_before t op []
  pub aside : k.escrow.aside ≡ was_escrow.aside
  pub admitted : IsAdmitted (after origin.first k.book.items) (all_adds was_escrow) t op

-- the parts without what was granted for a call
abbrev pub without_call : {D : Type 0} → List (Object × List Holder) → Escrowed → Core D → Core D
without_call locks escrow k = record k { locks = locks; escrow = escrow }

-- as before, in whatever room the operations have
pub record IsRestored {D : Type 0} (g : Ghosts D) (k n : Core D) : Type 0 where
  pub same : n ≡ record k { operations = n.operations }
  pub right : (opening : PageBytes) (relations counters : ℕ)
      → IsRight g opening relations counters k.operations
      → IsRight g opening relations counters n.operations
  pub store : core_store n ≡ core_store k
  pub page_locks : core_page_locks n ≡ core_page_locks k
  pub claimed : claimed n.operations ≡ claimed k.operations

-- if it is refused or has to wait, nothing of it stays
abbrev pub IsCalled : {D : Type 0} → Ghosts D → Origin → Base → State → Core D → ℕ → Op → Result Called Refusal → Type 0
IsCalled g origin base s n t op (Ok answer.Started) = IsIn g origin base (called s t op) n
IsCalled g origin base s n t op (Ok (answer.Wait holder)) = IsIn g origin base s n
IsCalled g origin base s n t op (Err why) = IsIn g origin base s n

-- the escrow can take an operation that is an add
abbrev pub IsAskedFor : Escrowed → ℕ → Op → Type 0
IsAskedFor e t (Add c d) = CanStand e (add_of t c d)
IsAskedFor e t (Get r k) = Unit {0}
IsAskedFor e t (Insert r k v) = Unit {0}
IsAskedFor e t (Update r k v) = Unit {0}
IsAskedFor e t (Delete r k) = Unit {0}
IsAskedFor e t (Read c) = Unit {0}
IsAskedFor e t (Scan r) = Unit {0}

-- whose operation under way has a number, if one has
abbrev pub IsOwnerOf : List OpScope → ℕ → Option ℕ → Type 0
IsOwnerOf rs op (Some t) = (place : ℕ) × (place < length rs) × AtPlace rs place (λ r. (r.number ≡ op) × (r.txn ≡ t))
IsOwnerOf rs op None = All (λ (r : OpScope). r.number ≢ op) rs

-- ---- the events of the laws

-- the operation has ended, on the base that it leaves
abbrev pub EndsIn : {D : Type 0} → Ghosts D → Origin → Base → Core D → Core D → OpScope → Type 0
EndsIn g origin base k n r = IsIn g origin (base_after base r.op) (ended (state_of k base) r.txn r.op) n

-- the inverse has, of the last effect of its transaction, whose add is given back if it is one
pub record UndoesIn {D : Type 0} (g : Ghosts D) (origin : Origin) (base : Base)
    (s : State) (n : Core D) (t : ℕ) (inverse : Op) : Type 0 where
  pub last : Entry
  pub idle : s.running t ≡ None
  pub effect : last_effect t s.standing ≡ Some last
  pub inverts : inverse_of last.op last.reply ≡ Some inverse
  pub given : GivesBack t last.op s.pending n.escrow.pending
  pub leads : IsIn g origin (base_after base inverse) (undone s t inverse n.escrow.pending) n

-- The inverse has, of the last effect of a transaction that goes back to its first so many and then on. That came
-- after these, and its add is set aside if it is one.
pub record ReturnsIn {D : Type 0} (g : Ghosts D) (origin : Origin) (base : Base)
    (s : State) (n : Core D) (t first : ℕ) (inverse : Op) : Type 0 where
  pub last : Entry
  pub idle : s.running t ≡ None
  pub effect : last_effect t s.standing ≡ Some last
  pub after : is_some (last_effect t (after_first t first s.standing)) ≡ true
  pub inverts : inverse_of last.op last.reply ≡ Some inverse
  pub given : GivesBack t last.op s.pending n.escrow.pending
  pub leads : IsIn g origin (base_after base inverse) (returned s t last inverse n.escrow.pending) n

-- so in a transaction of a state: one that goes on, or is to be undone
abbrev pub InvertsIn : {D : Type 0} → Ghosts D → Origin → Base → State → Core D → ℕ → Op → Option TxnState → Type 0
InvertsIn g origin base s n t inverse None = UndoesIn g origin base s n t inverse
InvertsIn g origin base s n t inverse (Some Open) = UndoesIn g origin base s n t inverse
InvertsIn g origin base s n t inverse (Some Committing) = UndoesIn g origin base s n t inverse
InvertsIn g origin base s n t inverse (Some (Returning first)) = ReturnsIn g origin base s n t first inverse
InvertsIn g origin base s n t inverse (Some Aborting) = UndoesIn g origin base s n t inverse

-- what the transaction runs is dropped, and its add is given back if it is one
pub record DropsIn {D : Type 0} (g : Ghosts D) (origin : Origin) (base : Base)
    (s : State) (n : Core D) (t : ℕ) : Type 0 where
  pub op : Op
  pub runs : s.running t ≡ Some op
  pub given : GivesBack t op s.pending n.escrow.pending
  pub leads : IsIn g origin base (dropped s t n.escrow.pending) n

-- a step of its taking back; at its end the operation at the place is dropped
abbrev pub BacksIn : {D : Type 0} → Ghosts D → Origin → Base → Core D → Core D → ℕ → Result TakenBack Refusal → Type 0
BacksIn g origin base k n place (Ok taken.Clear) =
    AtPlace k.running.items place (λ r. DropsIn g origin base (state_of k base) n r.txn)
BacksIn g origin base k n place (Ok taken.More) = IsIn g origin base (state_of k base) n
BacksIn g origin base k n place (Ok taken.Flush) = IsIn g origin base (state_of k base) n
BacksIn g origin base k n place (Err why) = IsIn g origin base (state_of k base) n

-- the operation of parts that were without what was granted for it is called
abbrev pub CallsIn : {D : Type 0} → Ghosts D → Origin → Base → Core D → Core D → ℕ → Op → Type 0
CallsIn g origin base k n t op = IsIn g origin base (called (state_of k base) t op) n

-- the commit is booked
abbrev pub BooksIn : {D : Type 0} → Ghosts D → Origin → Base → Core D → Core D → Commit → Type 0
BooksIn g origin base k n c = IsIn g origin base (booked (state_of k base) c.txn (session_in k.live.members c.txn)) n
