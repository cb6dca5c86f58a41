-- A kernel as its callers see it.
use Rattle.std.specs.Prelude.{ℕ, ◌≡◌, ◌+◌, ◌≤◌, Bool, true, List, Result, Err}
use Rattle.mt_base.specs.Limits.{IsRelationCount}
use Rattle.mt_base.specs.declared.refusal.Refusal.{Refusal}
use Rattle.mt_base.specs.declared.refusal.Refusal.TheVariants.{DeviceFailed}
use Rattle.mt_disk.specs.declared.device.Device.{Ghosts}
use Rattle.mt_live.specs.Machine.{State}
use Rattle.mt_log.specs.declared.log.Log.{Log}
use Rattle.mt_model.specs.Model.{Base}
use Rattle.mt_txn.specs.Restarted.{FindsCommits, FindsMeanwhile}
use Rattle.mt_txn.specs.Seen.{ShowsSeen, has_failed_in, seen_of}
use Rattle.mt_txn.specs.Well.{RestartsFrom}
use Rattle.mt_txn.specs.declared.kernel.Kernel.{Kernel}
use Rattle.mt_plock.specs.declared.guards.PageLock.{PageLock}
use Rattle.mt_frame.specs.declared.slots.MasterSlot.{MasterSlot}
use Rattle.mt_pool.specs.Reads.{ReadsOnce}
use Rattle.mt_pool.specs.declared.pool.Pool.{Pool}
use Rattle.mt_core.specs.Seen.{core_device, core_frames, core_log, core_page_locks, core_pool, core_ruling}

-- Begun on this base, the kernel is in this state of the laws.
abbrev pub Shows : {D : Type 0} → {g : Ghosts D} → Base → State → Kernel D g → Type 0
Shows {g = g} first s k = ShowsSeen g first s (seen_of k)

-- in whatever state it was
abbrev pub Stays : {D : Type 0} → {g : Ghosts D} → Kernel D g → Kernel D g → Type 0
Stays k n = (first : Base) (s : State) → Shows first s k → Shows first s n

-- of as many relations and counters
abbrev pub SameSchema : {D : Type 0} → {g : Ghosts D} → Kernel D g → Kernel D g → Type 0
SameSchema k n = (n.relations ≡ k.relations) × (n.counters ≡ k.counters)

-- the device of a kernel, and its log
abbrev pub kernel_device : {D : Type 0} → {g : Ghosts D} → Kernel D g → D
kernel_device k = core_device k.core

abbrev pub kernel_log : {D : Type 0} → {g : Ghosts D} → Kernel D g → Log
kernel_log k = core_log k.core

abbrev pub kernel_pool : {D : Type 0} → {g : Ghosts D} → Kernel D g → Pool
kernel_pool k = core_pool k.core

abbrev pub kernel_ruling : {D : Type 0} → {g : Ghosts D} → Kernel D g → MasterSlot
kernel_ruling k = core_ruling k.core

abbrev pub kernel_page_locks : {D : Type 0} → {g : Ghosts D} → Kernel D g → List PageLock
kernel_page_locks k = core_page_locks k.core

-- how many pages a kernel can hold in frames
abbrev pub kernel_frames : {D : Type 0} → {g : Ghosts D} → Kernel D g → ℕ
kernel_frames k = core_frames k.core

-- a call of it was refused with 2, or a force of its log has failed
abbrev pub is_failed : {D : Type 0} → {g : Ghosts D} → Kernel D g → Bool
is_failed k = has_failed_in (seen_of k)

-- If a call of kernel k is refused with 2, each later call of n is; and no other call marks n as failed.
abbrev pub FailsForGood : {D T : Type 0} → {g : Ghosts D} → Kernel D g → Result T Refusal → Kernel D g → Type 0
FailsForGood k result n = (is_failed k ≡ true → (result ≡ Err DeviceFailed) × (n ≡ k))
    × (result ≡ Err DeviceFailed → is_failed n ≡ true) × (n.failed ≡ true → result ≡ Err DeviceFailed)

-- The device failed in a call of kernel k only if the call is refused with 2.
abbrev pub HidesNoFault : {D T : Type 0} → {g : Ghosts D} → Kernel D g → Result T Refusal → Kernel D g → Type 0
HidesNoFault {g = g} k result n =
    (result ≡ Err DeviceFailed → ⊥) → g.faults (kernel_device n) ≡ g.faults (kernel_device k)

-- The device was called once at most.
abbrev pub CallsOnce : {D : Type 0} → {g : Ghosts D} → Kernel D g → Kernel D g → Type 0
CallsOnce {g = g} k n = g.moment (kernel_device n) ≤ g.moment (kernel_device k) + 1

-- It was called once at most, and only read: nothing on it changed, and a crash may leave just what it might have left
-- before.
abbrev pub ReadsDevice : {D : Type 0} → {g : Ghosts D} → Kernel D g → Kernel D g → Type 0
ReadsDevice {g = g} k n = ReadsOnce g (kernel_device k) (kernel_device n)

-- Begun on this base, the kernel can be restarted from each beginning of its log's records; and so it stays.
abbrev pub Restarts : {D : Type 0} → {g : Ghosts D} → Base → Kernel D g → Type 0
Restarts {g = g} first k = RestartsFrom g k.relations k.counters first k.core

abbrev pub StaysRestarting : {D : Type 0} → {g : Ghosts D} → Kernel D g → Kernel D g → Type 0
StaysRestarting k n = (first : Base) → Restarts first k → Restarts first n

-- Whatever a crash leaves of this device, a restart finds in it what some of the first commits of k lead to.
abbrev pub IsFoundIn : {D : Type 0} → {g : Ghosts D} → Kernel D g → D → Type 0
IsFoundIn {g = g} k device = (first : Base) (c : List ℕ) → Restarts first k → g.may_leave device c
    → ∥ FindsCommits k.relations k.counters first k.core c ∥₁

-- Whenever a crash comes between k and n, a restart finds in what it leaves what some of the first commits of k lead
-- to.
abbrev pub LeavesFound : {D : Type 0} → {g : Ghosts D} → Kernel D g → Kernel D g → Type 0
LeavesFound {g = g} k n = (first : Base) → Restarts first k → IsRelationCount k.relations
    → FindsMeanwhile g k.relations k.counters first k.core (kernel_device n)
