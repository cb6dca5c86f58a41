-- A kernel whose device was detached.
use Rattle.std.specs.Prelude.{ℕ, ◌≡◌, List}
use Rattle.mt_disk.specs.declared.device.Device.{Ghosts}
use Rattle.mt_live.specs.Machine.{State}
use Rattle.mt_log.specs.Quiet.{OnlyReadsOrSyncs}
use Rattle.mt_model.specs.Model.{Base}
use Rattle.mt_core.specs.Detached.{attached}
use Rattle.mt_core.specs.Turned as parts
use Rattle.mt_txn.specs.Shown.{Restarts, Shows}
use Rattle.mt_txn.specs.Well.{IsWell, RestartsFrom, ShowsIn}
use Rattle.mt_txn.specs.declared.detached_kernel.DetachedKernel.{DetachedKernel}
use Rattle.mt_txn.specs.declared.kernel.Kernel.{Kernel}
use Rattle.mt_txn.specs.declared.kernel_rest.KernelRest.{KernelRest}

-- all of the kernel but this device
pub record IsDetached {D : Type 0} {g : Ghosts D} (k : Kernel D g) (rest : DetachedKernel) (device : D) : Type 0 where
  pub core : k.core ≡ attached rest.core device
  pub relations : rest.relations ≡ k.relations
  pub counters : rest.counters ≡ k.counters
  pub failed : rest.failed ≡ k.failed

-- it was detached from a device of which this one was read or synced since
abbrev pub CanAttach : {D : Type 0} → Ghosts D → DetachedKernel → D → Type 0
CanAttach {D} g rest device =
    ∥ ((was : D) × OnlyReadsOrSyncs g was device
    × IsWell g rest.relations rest.counters (attached rest.core was)
    × (first : Base) × RestartsFrom g rest.relations rest.counters first (attached rest.core was)) ∥₁

-- The kernel over that device, in whatever state it was over one of which that one was read or synced since; and it
-- can be restarted.
pub record Attaches {D : Type 0} {g : Ghosts D} (rest : DetachedKernel) (device : D) (n : Kernel D g) : Type 0 where
  pub core : n.core ≡ attached rest.core device
  pub relations : n.relations ≡ rest.relations
  pub counters : n.counters ≡ rest.counters
  pub failed : n.failed ≡ rest.failed
  pub state : (was : D) → OnlyReadsOrSyncs g was device → (first : Base) (s : State)
      → ShowsIn g rest.relations rest.counters first s (attached rest.core was) → Shows first s n
  pub restarts : (was : D) → OnlyReadsOrSyncs g was device → (first : Base)
      → RestartsFrom g rest.relations rest.counters first (attached rest.core was) → Restarts first n

-- what outlasts the log's area of it
pub record IsRestBeside {D : Type 0} (rest : DetachedKernel) (device : D) (r : KernelRest) : Type 0 where
  pub parts : parts.IsRestOf (attached rest.core device) r.rest
  pub relations : r.relations ≡ rest.relations
  pub counters : r.counters ≡ rest.counters
