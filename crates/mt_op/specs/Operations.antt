-- The operations of one kernel over their store, and what each step does.
use Rattle.std.specs.Prelude.{◌≡◌, ◌⊎◌, ◌≤◌, ◌-◌, ◌+◌, ◌*◌, ◌++◌, ℕ, List, [], length, Bool, true, false, if◌then◌else◌, Option, Some, None, Result, Ok, Err}
use Rattle.mt_disk.specs.declared.device.Device.{Ghosts}
use Rattle.mt_base.specs.declared.limits.TheConstants.{BATCH_HEAD_BYTES, LARGEST_OP_END, LARGEST_PAGE_RECORD, MAX_COUNTERS, MAX_RELATIONS, OPERATION_LOG_BYTES}
use Rattle.mt_base.specs.declared.refusal.Refusal.{Refusal}
use Rattle.mt_base.specs.declared.refusal.Refusal.TheVariants as refusal
use Rattle.mt_file.specs.Rooms.{AreRooms}
use Rattle.mt_log.specs.Words.{appended}
use Rattle.mt_log.specs.declared.log.Log.{Log}
use Rattle.mt_model.specs.declared.operations.Op.{Op}
use Rattle.mt_model.specs.declared.operations.Op.TheVariants.{Get, Insert, Update, Delete, Add, Read, Scan}
use Rattle.mt_model.specs.declared.operations.Reply.{Reply}
use Rattle.mt_model.specs.Model.{Base, reply_of, base_after}
use Rattle.mt_space.specs.Changes.{PageBytes}
use Rattle.mt_pool.specs.Kept.{IsKept, store_frames}
use Rattle.mt_pool.specs.Views.{view, pages}
use Rattle.mt_space.specs.Rooms.{mapped, free_of, reserved_of}
use Rattle.mt_steps.specs.Held.{Holds}
use Rattle.mt_steps.specs.Logged.{HasSmallReply}
use Rattle.mt_steps.specs.Plans.{TakesPages}
use Rattle.mt_op.specs.World.{World, held_in, IsWorld, IsUnderWay, IsOther, changes_in}
use Rattle.mt_op.specs.Moves.{SameOp}
use Rattle.mt_op.specs.Records.{end_of}
use Rattle.mt_op.specs.declared.operations.Operations.{Operations}
use Rattle.mt_op.specs.declared.scope.OpScope.{OpScope}
use Rattle.mt_op.specs.declared.scope.Stage.{Stage}
use Rattle.mt_op.specs.declared.scope.Stage.TheVariants.{Planning, Writing, Ready, Taking, Cleared}
use Rattle.mt_op.specs.declared.answers.Stepped.{Stepped}
use Rattle.mt_op.specs.declared.answers.Stepped.TheVariants as stepped
use Rattle.mt_plock.specs.declared.guards.PageLock.{PageLock}
use Rattle.mt_frame.specs.declared.slots.MasterSlot.{MasterSlot}
use Rattle.mt_pool.specs.declared.pool.Pool.{Pool}
use Rattle.mt_pool.specs.declared.store.Store.{Store}

-- page locks, records and present pages, over the pages as they were when the log's area began
abbrev pub world : {D : Type 0} → Ghosts D → PageBytes → Operations D → World
world g opening o = record {
  locks = o.locks;
  opening = opening;
  records = appended o.store.log;
  present = λ p. view o.store.pool (g.seen o.store.device) p;
  total = pages o.store.pool;
}

-- the store, and what is under it: its device, its log and its pool
abbrev pub operation_store : {D : Type 0} → Operations D → Store D
operation_store o = o.store

abbrev pub operation_device : {D : Type 0} → Operations D → D
operation_device o = o.store.device

abbrev pub operation_log : {D : Type 0} → Operations D → Log
operation_log o = o.store.log

abbrev pub operation_pool : {D : Type 0} → Operations D → Pool
operation_pool o = o.store.pool

-- the master slot that rules
abbrev pub operation_ruling : {D : Type 0} → Operations D → MasterSlot
operation_ruling o = o.store.ruling

abbrev pub operation_page_locks : {D : Type 0} → Operations D → List PageLock
operation_page_locks o = o.locks

-- how many pages can be in frames
abbrev pub operation_frames : {D : Type 0} → Operations D → ℕ
operation_frames o = store_frames o.store

-- what each page of records takes
abbrev pub operation_rooms : {D : Type 0} → Operations D → List ℕ
operation_rooms o = o.rooms

-- how many free pages are claimed
abbrev pub claimed : {D : Type 0} → Operations D → ℕ
claimed o = reserved_of o.map.space

-- The store keeps its rules, the world is right, the map, the free pages and what each page of records takes are
-- those of the pages held, and no more pages are claimed than are free.
pub record IsRight {D : Type 0} (g : Ghosts D) (opening : PageBytes)
    (relations counters : ℕ) (o : Operations D) : Type 0 where
  pub kept : IsKept g opening o.store
  pub sound : IsWorld relations counters (world g opening o)
  pub map : o.map.kinds.value ≡ held_in (world g opening o) 0
  pub space : o.map.space.0 ≡ mapped (held_in (world g opening o) 0) (pages o.store.pool)
  pub claims : reserved_of o.map.space ≤ free_of o.map.space
  pub rooms : length o.rooms ≡ pages o.store.pool
  pub noted : AreRooms o.rooms (held_in (world g opening o))

-- The operation is one of those under way, for some pages as they were when the area began and some schema.
abbrev pub IsOneOf : {D : Type 0} → Ghosts D → Operations D → OpScope → Type 0
IsOneOf g o s =
    ∥ ((opening : PageBytes) × (relations : ℕ) × (counters : ℕ) × IsRight g opening relations counters o
    × IsUnderWay relations counters (world g opening o) s) ∥₁

-- the same of a schema within its limits
abbrev pub IsOneWithin : {D : Type 0} → Ghosts D → Operations D → OpScope → Type 0
IsOneWithin g o s =
    ∥ ((opening : PageBytes) × (relations : ℕ) × (counters : ℕ) × IsRight g opening relations counters o
    × IsUnderWay relations counters (world g opening o) s
    × (relations ≤ MAX_RELATIONS) × (counters ≤ MAX_COUNTERS)) ∥₁

-- ---- log bytes

-- what IsReading says, as a test, since the bytes that are kept are chosen by it
abbrev pub only_reads : Op → Bool
only_reads (Get r k) = true
only_reads (Insert r k v) = false
only_reads (Update r k v) = false
only_reads (Delete r k) = false
only_reads (Add c d) = false
only_reads (Read c) = true
only_reads (Scan r) = true

-- what an operation may still append: for each page not yet written 12,317 bytes at most, and its end
abbrev pub end_bytes : OpScope → ℕ
end_bytes s = if only_reads s.op then 0 else (BATCH_HEAD_BYTES + LARGEST_OP_END)

abbrev pub needs : OpScope → Stage → ℕ
needs s Planning = if only_reads s.op then 0 else OPERATION_LOG_BYTES
needs s Writing = (BATCH_HEAD_BYTES + LARGEST_PAGE_RECORD) * (length (changes_in s) - s.written) + end_bytes s
needs s Ready = 0
needs s Taking = 22
needs s Cleared = 0

-- The bytes of the log that are left to an operation are enough for what its stage needs. One that only reads changes
-- no page.
pub record HasBudget (s : OpScope) : Type 0 where
  pub enough : needs s s.stage ≤ s.left
  pub reads : only_reads s.op ≡ true → changes_in s ≡ []

-- ---- what a step does

-- It ends nothing: the pages held stay.
pub record Goes (relations counters : ℕ) (w z : World) (s t : OpScope) : Type 0 where
  pub own : IsUnderWay relations counters z t
  pub others : (u : OpScope) → IsUnderWay relations counters w u → IsOther s u → IsUnderWay relations counters z u
  pub held : held_in z ≡ held_in w
  pub same : SameOp s t

-- The operation acts once on the base that the pages hold, whatever the others have half done, with this reply, whose
-- value is within its limit; pages are taken only if it needs one, and its record goes into the page that it was led
-- to, or into a free one if it was led to none; and nothing but its end is appended.
pub record Acts (relations counters : ℕ) (w z : World) (s t : OpScope) (reply : Reply) : Type 0 where
  pub own : IsUnderWay relations counters z t
  pub others : (u : OpScope) → IsUnderWay relations counters w u → IsOther s u → IsUnderWay relations counters z u
  pub replies : (b : Base) → Holds (held_in w) b → reply_of b s.op ≡ reply
  pub base : (b : Base) → Holds (held_in w) b → Holds (held_in z) (base_after b s.op)
  pub takes : TakesPages s.room s.op (held_in w) (held_in z)
  pub small : HasSmallReply reply
  pub ended : z.records ≡ w.records ++ end_of s reply
  pub same : SameOp s t

-- What a step did, by its answer. One that is ready acts on the base, with one reply. Every other, and one that is
-- refused, ends nothing.
abbrev pub Steps : ℕ → ℕ → World → World → OpScope → OpScope → Result Stepped Refusal → Type 0
Steps relations counters w z s t (Ok (stepped.Ready first second)) =
    Acts relations counters w z s t first × (second ≡ first)
Steps relations counters w z s t (Ok stepped.Went) = Goes relations counters w z s t
Steps relations counters w z s t (Ok (stepped.Wait holder)) = Goes relations counters w z s t
Steps relations counters w z s t (Ok (stepped.Again holder)) = Goes relations counters w z s t
Steps relations counters w z s t (Ok stepped.Flush) = Goes relations counters w z s t
Steps relations counters w z s t (Err why) = Goes relations counters w z s t

-- an operation that has ended has given its claim back, of so many pages; before that the claims stay
abbrev pub GivesBack : ℕ → ℕ → ℕ → Result Stepped Refusal → Type 0
GivesBack claim before after (Ok (stepped.Ready first second)) = after + claim ≡ before
GivesBack claim before after (Ok stepped.Went) = after ≡ before
GivesBack claim before after (Ok (stepped.Wait holder)) = after ≡ before
GivesBack claim before after (Ok (stepped.Again holder)) = after ≡ before
GivesBack claim before after (Ok stepped.Flush) = after ≡ before
GivesBack claim before after (Err why) = after ≡ before

-- a step that never ends the operation
abbrev pub GoesOn : ℕ → ℕ → World → World → OpScope → OpScope → Result Stepped Refusal → Type 0
GoesOn relations counters w z s t (Ok (stepped.Ready first second)) = ⊥
GoesOn relations counters w z s t (Ok stepped.Went) = Goes relations counters w z s t
GoesOn relations counters w z s t (Ok (stepped.Wait holder)) = Goes relations counters w z s t
GoesOn relations counters w z s t (Ok (stepped.Again holder)) = Goes relations counters w z s t
GoesOn relations counters w z s t (Ok stepped.Flush) = Goes relations counters w z s t
GoesOn relations counters w z s t (Err why) = Goes relations counters w z s t

-- a step of an operation that plans; if it answers nothing the plan is made
abbrev pub IsPlannedOn : ℕ → ℕ → World → World → OpScope → OpScope → Result (Option Stepped) Refusal → Type 0
IsPlannedOn relations counters w z s t (Ok (Some answer)) = GoesOn relations counters w z s t (Ok answer)
IsPlannedOn relations counters w z s t (Ok None) = Goes relations counters w z s t
IsPlannedOn relations counters w z s t (Err why) = Goes relations counters w z s t

-- as far as before, with the same log bytes kept for it
pub record IsAsFar (s t : OpScope) : Type 0 where
  pub op : t.op ≡ s.op
  pub stage : t.stage ≡ s.stage
  pub changes : t.changes ≡ s.changes
  pub written : t.written ≡ s.written
  pub left : t.left ≡ s.left

-- a step is refused for want of memory, or if the device failed
abbrev pub IsCause : Refusal → Type 0
IsCause why = (why ≡ refusal.NoMemory) ⊎ (why ≡ refusal.DeviceFailed)
