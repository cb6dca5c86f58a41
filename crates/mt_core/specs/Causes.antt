-- Why a call is refused, and what it had if it is not.
use Rattle.std.specs.Prelude.{ℕ, ◌<◌, ◌≤◌, ◌+◌, ◌*◌, Result, Ok, Err, true, ⊤}
use Rattle.mt_disk.specs.declared.device.Device.{Ghosts}
use Rattle.mt_base.specs.declared.refusal.Refusal.{Refusal}
use Rattle.mt_base.specs.declared.refusal.Refusal.TheVariants as refusal
use Rattle.mt_log.specs.Words.{area_size}
use Rattle.mt_model.specs.Locks.{AreAllFree, IsLeastBarOf}
use Rattle.mt_model.specs.Model.{locks_of}
use Rattle.mt_model.specs.declared.operations.Op.{Op}
use Rattle.mt_op.specs.Operations.{world, claimed}
use Rattle.mt_op.specs.World.{held_in}
use Rattle.mt_pool.specs.Views.{pages}
use Rattle.mt_slock.specs.Views.{held_of}
use Rattle.mt_steps.specs.Plans.{own_needs, undo_pages, free_pages}
use Rattle.mt_core.specs.Runs.{undo_bytes}
use Rattle.mt_core.specs.Consistent.{Origin, IsAskedFor}
use Rattle.mt_core.specs.declared.calls.Called.{Called}
use Rattle.mt_core.specs.declared.calls.Called.TheVariants as answer
use Rattle.mt_core.specs.declared.parts.Core.{Core}
use Rattle.mt_core.specs.Seen.{core_log, core_pool}

-- what a call reserves, for its operation and for the inverse of that: pages, and bytes of the log
abbrev pub pages_asked : Op → ℕ
pages_asked op = own_needs op true + undo_pages op

abbrev pub bytes_asked : Op → ℕ
bytes_asked op = 2 * undo_bytes op

-- how many of the pages held are free
abbrev pub pages_free : {D : Type 0} → Ghosts D → Origin → Core D → ℕ
pages_free g origin k = free_pages (pages (core_pool k)) (held_in (world g origin.pages k.operations))

-- so many are free beside those that are claimed
abbrev pub HasPages : {D : Type 0} → Ghosts D → Origin → Core D → ℕ → Type 0
HasPages g origin k count = claimed k.operations + count ≤ pages_free g origin k

-- the log has room for so many bytes beside those that are used and kept
abbrev pub HasBytes : {D : Type 0} → Core D → ℕ → ℕ → Type 0
HasBytes k kept bytes = kept + bytes < area_size (core_log k)

abbrev pub HasReserves : {D : Type 0} → Ghosts D → Origin → Core D → ℕ → Op → Type 0
HasReserves g origin k kept op = HasPages g origin k (pages_asked op) × HasBytes k kept (bytes_asked op)

-- too few pages; or else too little of the log
abbrev pub IsUnreserved : {D : Type 0} → Ghosts D → Origin → Core D → ℕ → Op → Refusal → Type 0
IsUnreserved g origin k kept op refusal.NoRoom = pages_free g origin k < claimed k.operations + pages_asked op
IsUnreserved g origin k kept op refusal.LogFull =
    HasPages g origin k (pages_asked op) × (area_size (core_log k) ≤ kept + bytes_asked op)
IsUnreserved g origin k kept op refusal.NoMemory = ⊤
IsUnreserved g origin k kept op _ = ⊥

-- escrow admits it, and it has its reserves
abbrev pub IsAdmittedBy : {D : Type 0} → Ghosts D → Origin → Core D → ℕ → ℕ → Op → Type 0
IsAdmittedBy g origin k kept t op = IsAskedFor k.escrow t op × HasReserves g origin k kept op

-- escrow does not admit it; or else it lacks reserves
abbrev pub IsRefusedBehind : {D : Type 0} → Ghosts D → Origin → Core D → ℕ → ℕ → Op → Refusal → Type 0
IsRefusedBehind g origin k kept t op refusal.Escrow = ¬ IsAskedFor k.escrow t op
IsRefusedBehind g origin k kept t op refusal.NoMemory = ⊤
IsRefusedBehind g origin k kept t op why = IsAskedFor k.escrow t op × IsUnreserved g origin k kept op why

-- an older transaction is in the way of one of its locks; or else nobody is, and it is refused after them
abbrev pub IsRefusedCall : {D : Type 0} → Ghosts D → Origin → Core D → ℕ → ℕ → Op → Refusal → Type 0
IsRefusedCall g origin k kept t op (refusal.Die holder) =
    IsLeastBarOf (held_of k.locks) t (locks_of op) holder × (holder < t)
IsRefusedCall g origin k kept t op refusal.NoMemory = ⊤
IsRefusedCall g origin k kept t op why =
    AreAllFree (held_of k.locks) t (locks_of op) × IsRefusedBehind g origin k kept t op why

-- It runs only if nobody is in the way and all that it reserves is there; it waits only for a younger one.
abbrev pub IsAnswered : {D : Type 0} → Ghosts D → Origin → Core D → ℕ → ℕ → Op → Result Called Refusal → Type 0
IsAnswered g origin k kept t op (Ok answer.Started) =
    AreAllFree (held_of k.locks) t (locks_of op) × IsAdmittedBy g origin k kept t op
IsAnswered g origin k kept t op (Ok (answer.Wait holder)) =
    IsLeastBarOf (held_of k.locks) t (locks_of op) holder × (t < holder)
IsAnswered g origin k kept t op (Err why) = IsRefusedCall g origin k kept t op why
