-- What a core has under it, for whoever need not know where it lies.
use Rattle.std.specs.Prelude.{ℕ, Bool, List}
use Rattle.mt_frame.specs.declared.slots.MasterSlot.{MasterSlot}
use Rattle.mt_log.specs.declared.log.Log.{Log}
use Rattle.mt_base.specs.declared.modes.LockMode.{LockMode}
use Rattle.mt_model.specs.declared.objects.Object.{Object}
use Rattle.mt_plock.specs.declared.guards.PageLock.{PageLock}
use Rattle.mt_pool.specs.declared.pool.Pool.{Pool}
use Rattle.mt_pool.specs.declared.store.Store.{Store}
use Rattle.mt_slock.specs.Views.{held_of}
use Rattle.mt_core.specs.declared.parts.Commit.{Commit}
use Rattle.mt_core.specs.declared.next_area.Rest.{Rest}
use Rattle.mt_core.specs.declared.parts.Core.{Core}
use Rattle.mt_op.specs.Operations.{operation_device, operation_frames, operation_log, operation_page_locks, operation_pool, operation_rooms, operation_ruling, operation_store}

abbrev pub core_device : {D : Type 0} → Core D → D
core_device k = operation_device k.operations

abbrev pub core_store : {D : Type 0} → Core D → Store D
core_store k = operation_store k.operations

-- what each page of records takes
abbrev pub core_rooms : {D : Type 0} → Core D → List ℕ
core_rooms k = operation_rooms k.operations

-- the number of the last operation that began
abbrev pub core_last : {D : Type 0} → Core D → ℕ
core_last k = k.last

-- and of what outlasts the log's area
abbrev pub rest_last : Rest → ℕ
rest_last r = r.last

abbrev pub core_log : {D : Type 0} → Core D → Log
core_log k = operation_log k.operations

abbrev pub core_pool : {D : Type 0} → Core D → Pool
core_pool k = operation_pool k.operations

-- the master slot that rules
abbrev pub core_ruling : {D : Type 0} → Core D → MasterSlot
core_ruling k = operation_ruling k.operations

abbrev pub core_page_locks : {D : Type 0} → Core D → List PageLock
core_page_locks k = operation_page_locks k.operations

-- the commits whose records are appended, and not known to be durable
abbrev pub core_commits : {D : Type 0} → Core D → List Commit
core_commits k = k.commits.items

-- how many pages can be in frames
abbrev pub core_frames : {D : Type 0} → Core D → ℕ
core_frames k = operation_frames k.operations

-- whether a transaction holds the lock of an object in a mode
abbrev pub core_holds : {D : Type 0} → Core D → ℕ → Object → LockMode → Bool
core_holds k t x m = held_of k.locks t x m
