-- What a call does that goes on with an operation or takes a page of it back: all its clauses in one relation, for
-- those who pass them on.
use Rattle.std.specs.Prelude.{◌≡◌, ◌≤◌, ◌+◌, ℕ, [], Bool, true, false, Option, None, Some, Result, Ok, Err, IfErr, OnErr, length, get_or, OnOk}
use Rattle.mt_disk.specs.declared.device.Device.{Ghosts}
use Rattle.mt_base.specs.declared.limits.TheConstants.{MAX_COUNTERS, MAX_RELATIONS, MAX_WRITTEN_PAGES}
use Rattle.mt_base.specs.declared.modes.Mode.{Mode}
use Rattle.mt_base.specs.declared.refusal.Refusal.{Refusal}
use Rattle.mt_base.specs.declared.refusal.Refusal.TheVariants as refusal
use Rattle.mt_disk.specs.Disk.{LeavesOnly, HasCause}
use Rattle.mt_frame.specs.Lengths.{record_length}
use Rattle.mt_frame.specs.declared.records.LoggedOp.{LoggedOp}
use Rattle.mt_frame.specs.declared.records.Record.{Record}
use Rattle.mt_frame.specs.declared.records.Record.TheVariants.{OpEnd}
use Rattle.mt_log.specs.Words.{durable as log_durable, used as log_used}
use Rattle.mt_log.specs.Seen.{with_record}
use Rattle.mt_log.specs.Words.{appended, durable, used, area_size, seen_of}
use Rattle.mt_space.specs.Changes.{PageBytes, Agrees, AreShort}
use Rattle.mt_space.specs.declared.changes.PageChange.{PageChange}
use Rattle.mt_pool.specs.Kept.{IsKept, Explains}
use Rattle.mt_pool.specs.Reads.{ReadsOnce}
use Rattle.mt_plock.specs.Releasing.{locks_without}
use Rattle.mt_pool.specs.Views.{IsFull, IsThere, SameDirty, SameWaits}
use Rattle.mt_steps.specs.Plans.{own_needs}
use Rattle.mt_op.specs.World.{IsUnderWay, looked, changes_in}
use Rattle.mt_op.specs.Operations.{world, IsRight, Goes, GoesOn, Steps, GivesBack, IsPlannedOn, HasBudget, IsAsFar, IsCause, claimed}
use Rattle.mt_op.specs.Holds.{IsAnew, IsNext, AsksNothing, KeepsLocks, KeepsLocksOn, KeepsScope, KeepsScopeOn, IsHeld}
use Rattle.mt_op.specs.Moves.{Leaves, Notes, PutsBack, Rests}
use Rattle.mt_op.specs.Room.{HasFollowed, HasRooms}
use Rattle.mt_op.specs.Records.{KeepsRecords, ReportsDropped}
use Rattle.mt_op.specs.Work.{Works, WorksOn, ComesTo}
use Rattle.mt_op.specs.Faults.{ReportsFaults}
use Rattle.mt_op.specs.declared.answers.Stepped.{Stepped}
use Rattle.mt_op.specs.declared.answers.Stepped.TheVariants as stepped
use Rattle.mt_op.specs.declared.answers.TakenBack.{TakenBack}
use Rattle.mt_op.specs.declared.answers.TakenBack.TheVariants as taken
use Rattle.mt_op.specs.declared.operations.Operations.{Operations}
use Rattle.mt_op.specs.declared.scope.OpScope.{OpScope}
use Rattle.mt_op.specs.declared.scope.Stage.TheVariants.{Planning, Writing, Taking, Cleared, Ready}

-- A step of an operation: by its answer a page is locked or written, or it ends; or it has to wait, or is refused.
pub record MakesStep {D : Type 0} (g : Ghosts D) (o n : Operations D) (s t : OpScope)
    (r : Result Stepped Refusal) : Type 0 where
  pub steps : (opening : PageBytes) (relations counters : ℕ) → IsRight g opening relations counters o
      → IsUnderWay relations counters (world g opening o) s → relations ≤ MAX_RELATIONS → counters ≤ MAX_COUNTERS
      → IsRight g opening relations counters n
      × Steps relations counters (world g opening o) (world g opening n) s t r
  pub moments : (opening : PageBytes) → IsKept g opening o.store
      → LeavesOnly g.moment g.left_since o.store.device n.store.device (Explains opening o.store)
  pub reads : ReadsOnce g o.store.device n.store.device
  pub log : used n.store.log + t.left ≡ used o.store.log + s.left
  pub area : area_size n.store.log ≡ area_size o.store.log
  pub durable : durable n.store.log ≡ durable o.store.log
  pub budget : HasBudget t
  pub claims : GivesBack (own_needs s.op s.split) (claimed o) (claimed n) r
  pub full : r ≡ Ok stepped.Flush → IsFull o.store.pool × (n ≡ o)
  pub stage : ComesTo t.stage r
  pub work : Works s t r
  pub records : KeepsRecords t (appended o.store.log) (appended n.store.log) r
  pub locks : KeepsLocks s.number (IsNext o.rooms o.locks s) o.locks n.locks r
  pub scope : KeepsScope s t r
  pub writing : s.stage ≡ Writing → n.locks ≡ o.locks
  -- if the plan is made, a page more is written then
  pub went : s.stage ≡ Writing → r ≡ Ok stepped.Went → t.written ≡ s.written + 1
  pub why : IfErr r IsCause
  pub faults : ReportsFaults (g.faults o.store.device) (g.faults n.store.device) r

-- A step by which an operation is taken back: a page is put back; or none is left to be put back; or nothing has
-- changed.
pub record TakesStepBack {D : Type 0} (g : Ghosts D) (o n : Operations D) (s t : OpScope)
    (r : Result TakenBack Refusal) : Type 0 where
  pub goes : (opening : PageBytes) (relations counters : ℕ) → IsRight g opening relations counters o
      → IsUnderWay relations counters (world g opening o) s
      → IsRight g opening relations counters n
      × Goes relations counters (world g opening o) (world g opening n) s t
  pub moments : (opening : PageBytes) → IsKept g opening o.store
      → LeavesOnly g.moment g.left_since o.store.device n.store.device (Explains opening o.store)
  pub reads : ReadsOnce g o.store.device n.store.device
  pub more : r ≡ Ok taken.More → (t.stage ≡ Taking) × (t.standing + 1 ≡ s.standing)
  pub clear : r ≡ Ok taken.Clear → (t.stage ≡ Cleared) × (s.standing ≤ 1)
  pub few : s.standing ≤ MAX_WRITTEN_PAGES
  pub log : used n.store.log + t.left ≡ used o.store.log + s.left
  pub area : area_size n.store.log ≡ area_size o.store.log
  pub durable : durable n.store.log ≡ durable o.store.log
  pub claimed : claimed n ≡ claimed o
  pub records : ReportsDropped s (appended o.store.log) (appended n.store.log) r
  pub locks : n.locks ≡ o.locks
  pub budget : HasBudget t
  pub err : OnErr r (t ≡ s)
  pub flush : r ≡ Ok taken.Flush → t ≡ s
  pub full : r ≡ Ok taken.Flush → IsFull o.store.pool × (n ≡ o)
  pub why : IfErr r IsCause
  pub faults : ReportsFaults (g.faults o.store.device) (g.faults n.store.device) r

-- a step of an operation that writes, or ends
pub record GoesAhead {D : Type 0} (g : Ghosts D) (o n : Operations D) (s t : OpScope)
    (r : Result Stepped Refusal) : Type 0 where
  pub steps : (opening : PageBytes) (relations counters : ℕ) → IsRight g opening relations counters o
      → IsUnderWay relations counters (world g opening o) s → relations ≤ MAX_RELATIONS → counters ≤ MAX_COUNTERS
      → IsRight g opening relations counters n
      × Steps relations counters (world g opening o) (world g opening n) s t r
  pub moments : (opening : PageBytes) → IsKept g opening o.store
      → LeavesOnly g.moment g.left_since o.store.device n.store.device (Explains opening o.store)
  pub reads : ReadsOnce g o.store.device n.store.device
  pub log : used n.store.log + t.left ≡ used o.store.log + s.left
  pub area : area_size n.store.log ≡ area_size o.store.log
  pub durable : durable n.store.log ≡ durable o.store.log
  pub budget : HasBudget t
  pub claims : GivesBack (own_needs s.op s.split) (claimed o) (claimed n) r
  pub full : r ≡ Ok stepped.Flush → IsFull o.store.pool × (n ≡ o)
  pub went : r ≡ Ok stepped.Went → t.written ≡ s.written + 1
  pub stage : ComesTo t.stage r
  pub work : Works s t r
  pub records : KeepsRecords t (appended o.store.log) (appended n.store.log) r
  pub locks : n.locks ≡ o.locks
  pub room : t.room ≡ s.room
  pub asks : AsksNothing r
  pub err : OnErr r (t ≡ s)
  pub flush : r ≡ Ok stepped.Flush → t ≡ s
  pub why : IfErr r IsCause
  pub faults : ReportsFaults (g.faults o.store.device) (g.faults n.store.device) r

-- a page is put back that is in a frame
pub record PutsOneBack {D : Type 0} (g : Ghosts D) (o n : Operations D)
    (s t : OpScope) (r : Result TakenBack Refusal) : Type 0 where
  pub goes : (opening : PageBytes) (relations counters : ℕ) → IsRight g opening relations counters o
      → IsUnderWay relations counters (world g opening o) s
      → IsRight g opening relations counters n
      × Goes relations counters (world g opening o) (world g opening n) s t
  pub device : n.store.device ≡ o.store.device
  pub more : r ≡ Ok taken.More → (t.stage ≡ Taking) × (t.standing + 1 ≡ s.standing)
  pub clear : r ≡ Ok taken.Clear → (t.stage ≡ Cleared) × (s.standing ≤ 1)
  pub never : r ≡ Ok taken.Flush → ⊥
  pub log : used n.store.log + t.left ≡ used o.store.log + s.left
  pub area : area_size n.store.log ≡ area_size o.store.log
  pub durable : durable n.store.log ≡ durable o.store.log
  pub map : n.map ≡ o.map
  pub records : ReportsDropped s (appended o.store.log) (appended n.store.log) r
  pub locks : n.locks ≡ o.locks
  pub budget : HasBudget t
  pub err : OnErr r (t ≡ s)
  pub only_memory : IfErr r (λ why. why ≡ refusal.NoMemory)

-- a page is locked and looked at, or is not to be had
pub record LocksPage {D : Type 0} (g : Ghosts D) (o n : Operations D) (s t : OpScope)
    (r : Result Stepped Refusal) : Type 0 where
  pub goes : (opening : PageBytes) (relations counters : ℕ) → IsRight g opening relations counters o
      → IsUnderWay relations counters (world g opening o) s
      → IsRight g opening relations counters n
      × GoesOn relations counters (world g opening o) (world g opening n) s t r
  pub moments : (opening : PageBytes) → IsKept g opening o.store
      → LeavesOnly g.moment g.left_since o.store.device n.store.device (Explains opening o.store)
  pub reads : ReadsOnce g o.store.device n.store.device
  pub log : n.store.log ≡ o.store.log
  pub map : n.map ≡ o.map
  pub same : IsAsFar s t
  pub full : r ≡ Ok stepped.Flush → IsFull o.store.pool × (n ≡ o)
  pub work : Works s t r
  pub locks : KeepsLocks s.number (IsNext o.rooms o.locks s) o.locks n.locks r
  pub scope : KeepsScope s t r
  pub why : IfErr r IsCause
  pub faults : ReportsFaults (g.faults o.store.device) (g.faults n.store.device) r

-- a page that is in a frame is locked, and looked at if it is new; or it is not to be had
pub record TakesLock {D : Type 0} (g : Ghosts D) (o n : Operations D)
    (s t : OpScope) (r : Result Stepped Refusal) : Type 0 where
  pub goes : (opening : PageBytes) (relations counters : ℕ) → IsRight g opening relations counters o
      → IsUnderWay relations counters (world g opening o) s
      → IsRight g opening relations counters n
      × GoesOn relations counters (world g opening o) (world g opening n) s t r
  pub store : n.store ≡ o.store
  pub map : n.map ≡ o.map
  pub same : IsAsFar s t
  pub never : r ≡ Ok stepped.Flush → ⊥
  pub work : Works s t r
  pub locks : KeepsLocks s.number (IsNext o.rooms o.locks s) o.locks n.locks r
  pub scope : KeepsScope s t r
  pub only_memory : IfErr r (λ why. why ≡ refusal.NoMemory)

-- the plan is kept, or a page that it changes is locked to be written
pub record KeepsPlan {D : Type 0} (g : Ghosts D) (o n : Operations D)
    (s t : OpScope) (r : Result (Option Stepped) Refusal) : Type 0 where
  pub goes : (opening : PageBytes) (relations counters : ℕ) → IsRight g opening relations counters o
      → IsUnderWay relations counters (world g opening o) s → relations ≤ MAX_RELATIONS
      → IsRight g opening relations counters n
      × IsPlannedOn relations counters (world g opening o) (world g opening n) s t r
  pub store : n.store ≡ o.store
  pub map : n.map ≡ o.map
  pub made : r ≡ Ok None → (n ≡ o) × (t.stage ≡ Writing)
  pub left : t.left ≡ s.left
  pub budget : HasBudget t
  pub never : r ≡ Ok (Some stepped.Flush) → ⊥
  pub stage : (r ≡ Ok None → ⊥) → t.stage ≡ Planning
  pub work : WorksOn s t r
  pub locks : KeepsLocksOn s.number (IsNext o.rooms o.locks s) o.locks n.locks r
  pub scope : KeepsScopeOn s t r
  pub only_memory : IfErr r (λ why. why ≡ refusal.NoMemory)

-- a step of an operation that plans
pub record PlansOn {D : Type 0} (g : Ghosts D) (o n : Operations D) (s t : OpScope)
    (r : Result (Option Stepped) Refusal) : Type 0 where
  pub goes : (opening : PageBytes) (relations counters : ℕ) → IsRight g opening relations counters o
      → IsUnderWay relations counters (world g opening o) s → relations ≤ MAX_RELATIONS
      → IsRight g opening relations counters n
      × IsPlannedOn relations counters (world g opening o) (world g opening n) s t r
  pub moments : (opening : PageBytes) → IsKept g opening o.store
      → LeavesOnly g.moment g.left_since o.store.device n.store.device (Explains opening o.store)
  pub reads : ReadsOnce g o.store.device n.store.device
  pub made : r ≡ Ok None → (n ≡ o) × (t.stage ≡ Writing)
  pub log : n.store.log ≡ o.store.log
  pub map : n.map ≡ o.map
  pub left : t.left ≡ s.left
  pub budget : HasBudget t
  pub full : r ≡ Ok (Some stepped.Flush) → IsFull o.store.pool × (n ≡ o)
  pub stage : (r ≡ Ok None → ⊥) → t.stage ≡ Planning
  pub work : WorksOn s t r
  pub locks : KeepsLocksOn s.number (IsNext o.rooms o.locks s) o.locks n.locks r
  pub scope : KeepsScopeOn s t r
  pub why : IfErr r IsCause
  pub faults : ReportsFaults (g.faults o.store.device) (g.faults n.store.device) r

-- a page comes into a frame, or every frame holds a page that is yet to be flushed
pub record BringsPage {D : Type 0} (g : Ghosts D) (o n : Operations D) (page : ℕ)
    (r : Result Bool Refusal) : Type 0 where
  pub right : (opening : PageBytes) (relations counters : ℕ) → IsRight g opening relations counters o
      → IsRight g opening relations counters n
  pub kept : (opening : PageBytes) → IsKept g opening o.store → IsKept g opening n.store
  pub rests : (opening : PageBytes) → Rests (world g opening o) (world g opening n)
  pub moments : (opening : PageBytes) → IsKept g opening o.store
      → LeavesOnly g.moment g.left_since o.store.device n.store.device (Explains opening o.store)
  pub reads : ReadsOnce g o.store.device n.store.device
  pub there : r ≡ Ok true → IsThere n.store.pool page
  pub full : r ≡ Ok false → IsFull o.store.pool × (n ≡ o)
  pub place : n.store.pool.place ≡ o.store.pool.place
  pub log : n.store.log ≡ o.store.log
  pub locks : n.locks ≡ o.locks
  pub map : n.map ≡ o.map
  pub rooms : n.rooms ≡ o.rooms
  pub waits : SameWaits o.store.pool n.store.pool
  pub flush : SameDirty o.store.pool n.store.pool
  pub only_device : IfErr r (λ why. why ≡ refusal.DeviceFailed)
  pub cause : HasCause (g.faults o.store.device) (g.faults n.store.device) r

-- a page in a frame is as the operation looked at it
pub record ReturnsPage {D : Type 0} (g : Ghosts D) (o n : Operations D) (s : OpScope) (page : ℕ) : Type 0 where
  pub kept : (opening : PageBytes) → IsKept g opening o.store → IsKept g opening n.store
  pub back : (opening : PageBytes) (c : PageChange) → c.page ≡ page
      → PutsBack (world g opening o) (world g opening n) s c []
  pub device : n.store.device ≡ o.store.device
  pub log : n.store.log ≡ o.store.log
  pub locks : n.locks ≡ o.locks
  pub map : n.map ≡ o.map
  pub rooms : n.rooms ≡ o.rooms

-- an operation's locks are given back, and it begins anew
pub record BeginsAnew {D : Type 0} (g : Ghosts D) (o n : Operations D) (s t : OpScope) : Type 0 where
  pub leaves : (opening : PageBytes) → Leaves (world g opening o) (world g opening n) s
  pub anew : IsAnew s t
  pub store : n.store ≡ o.store
  pub map : n.map ≡ o.map
  pub rooms : n.rooms ≡ o.rooms

-- an operation's locks are given back, and it is spent
pub record Releases {D : Type 0} (g : Ghosts D) (o n : Operations D) (s : OpScope) : Type 0 where
  pub leaves : (opening : PageBytes) → Leaves (world g opening o) (world g opening n) s
  pub locks : n.locks ≡ locks_without s.number o.locks
  pub store : n.store ≡ o.store
  pub map : n.map ≡ o.map
  pub rooms : n.rooms ≡ o.rooms

-- what each page takes is noted that the operation looked at and may have changed
pub record NotesLooked {D : Type 0} (o n : Operations D) (s : OpScope) : Type 0 where
  pub store : n.store ≡ o.store
  pub locks : n.locks ≡ o.locks
  pub map : n.map ≡ o.map
  pub rooms : length n.rooms ≡ length o.rooms
  pub noted : HasFollowed s o.map.kinds.value o.rooms n.rooms

-- what each page takes is noted that the operation looked at, and of no other page
pub record NotesEach {D : Type 0} (o n : Operations D) (s : OpScope) : Type 0 where
  pub store : n.store ≡ o.store
  pub locks : n.locks ≡ o.locks
  pub map : n.map ≡ o.map
  pub rooms : length n.rooms ≡ length o.rooms
  pub noted : (pages : PageBytes) → Agrees (looked s) pages → AreShort (changes_in s) pages
      → HasRooms s o.map.kinds.value n.rooms pages
  pub others : (p : ℕ) → looked s p ≡ None → get_or n.rooms p 0 ≡ get_or o.rooms p 0

-- a page that is in a frame is written, with its records, or memory was refused
pub record WritesPage {D : Type 0} (g : Ghosts D) (o n : Operations D) (s t : OpScope)
    (r : Result Stepped Refusal) : Type 0 where
  pub ahead : GoesAhead g o n s t r
  pub device : n.store.device ≡ o.store.device
  pub map : n.map ≡ o.map
  pub stage : t.stage ≡ Writing
  pub changes : t.changes ≡ s.changes
  pub never : r ≡ Ok stepped.Flush → ⊥
  pub only_memory : IfErr r (λ why. why ≡ refusal.NoMemory)

-- an operation that has written all ends, or memory was refused
pub record EndsOperation {D : Type 0} (g : Ghosts D) (o n : Operations D) (s t : OpScope)
    (r : Result Stepped Refusal) : Type 0 where
  pub ahead : GoesAhead g o n s t r
  pub device : n.store.device ≡ o.store.device
  pub ready : OnOk r (t.stage ≡ Ready)
  pub ended : (r ≡ Ok stepped.Went → ⊥) × (r ≡ Ok stepped.Flush → ⊥)
  pub only_memory : IfErr r (λ why. why ≡ refusal.NoMemory)

-- this record is appended, at this place
pub record AppendsEntry {D : Type 0} (g : Ghosts D) (o n : Operations D) (entry : Record) (at : ℕ) : Type 0 where
  pub notes : (opening : PageBytes) → Notes (world g opening o) (world g opening n) entry
  pub place : at ≡ length (appended n.store.log)
  pub log : seen_of n.store.log ≡ with_record (seen_of o.store.log) entry

-- nothing is appended, since memory was refused
pub record AppendsNothing {D : Type 0} (g : Ghosts D) (o n : Operations D) (why : Refusal) : Type 0 where
  pub rests : (opening : PageBytes) → Rests (world g opening o) (world g opening n)
  pub err : seen_of n.store.log ≡ seen_of o.store.log
  pub only_memory : why ≡ refusal.NoMemory

abbrev pub AppendSteps : {D : Type 0} → Ghosts D → Operations D → Operations D → Record → Result ℕ Refusal → Type 0
AppendSteps g o n entry (Ok place) = AppendsEntry g o n entry place
AppendSteps g o n entry (Err why) = AppendsNothing g o n why

-- a record that is of no page is appended, or memory was refused and none is
pub record AppendsRecord {D T : Type 0} (g : Ghosts D) (o n : Operations D)
    (entry : Record) (r : Result T Refusal) : Type 0 where
  pub kept : (opening : PageBytes) → IsKept g opening o.store → IsKept g opening n.store
  pub notes : (opening : PageBytes) → OnOk r (Notes (world g opening o) (world g opening n) entry)
  pub rests : (opening : PageBytes) → OnErr r (Rests (world g opening o) (world g opening n))
  pub device : n.store.device ≡ o.store.device
  pub pool : n.store.pool ≡ o.store.pool
  pub map : n.map ≡ o.map
  pub rooms : n.rooms ≡ o.rooms
  pub locks : n.locks ≡ o.locks
  pub used : OnOk r (log_used n.store.log ≡ log_used o.store.log + 5 + record_length entry)
  pub err_used : OnErr r (log_used n.store.log ≡ log_used o.store.log)
  pub area : area_size n.store.log ≡ area_size o.store.log
  pub durable : log_durable n.store.log ≡ log_durable o.store.log
  pub only_memory : IfErr r (λ why. why ≡ refusal.NoMemory)

-- the end of an operation is appended, and its bytes are no longer left to it; or memory was refused
pub record AppendsEnd {D T : Type 0} (g : Ghosts D) (o n : Operations D)
    (s t : OpScope) (done : LoggedOp) (r : Result T Refusal) : Type 0 where
  pub appends : AppendsRecord g o n (OpEnd s.txn s.number s.undoes done) r
  pub log : used n.store.log + t.left ≡ used o.store.log + s.left
  pub scope : t ≡ record s { left = t.left }
  pub same : OnErr r (t ≡ s)

-- a page lock is asked for
pub record AsksLock {D : Type 0} (g : Ghosts D) (o n : Operations D) (s t : OpScope) (page : ℕ) (mode : Mode)
    (r : Result Stepped Refusal) : Type 0 where
  pub held : (opening : PageBytes) → IsHeld (world g opening o) (world g opening n) s t page mode r
  pub store : n.store ≡ o.store
  pub map : n.map ≡ o.map
  pub rooms : n.rooms ≡ o.rooms
  pub same : IsAsFar s t
  pub room : r ≡ Ok stepped.Went → t.seen ≡ s.seen
  pub never : r ≡ Ok stepped.Flush → ⊥
  pub only_memory : IfErr r (λ why. why ≡ refusal.NoMemory)
