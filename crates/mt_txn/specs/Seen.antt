-- What contracts see of a kernel that is lent, as under a lock: all of it, without the proofs that it carries.
use Rattle.std.specs.Prelude.{ℕ, ◌||◌, Bool, List}
use Rattle.mt_core.specs.declared.parts.Commit.{Commit}
use Rattle.mt_core.specs.declared.parts.Core.{Core}
use Rattle.mt_disk.specs.declared.device.Device.{Ghosts}
use Rattle.mt_live.specs.Machine.{State}
use Rattle.mt_log.specs.Words.{has_failed}
use Rattle.mt_model.specs.Model.{Base}
use Rattle.mt_txn.specs.Well.{ShowsIn}
use Rattle.mt_txn.specs.declared.kernel.Kernel.{Kernel}
use Rattle.mt_core.specs.Seen.{core_commits, core_log}

pub record KernelSeen (D : Type 0) : Type 0 where
  pub core : Core D
  pub relations : ℕ
  pub counters : ℕ
  pub failed : Bool

abbrev pub seen_of : {D : Type 0} → {g : Ghosts D} → Kernel D g → KernelSeen D
seen_of k = record { core = k.core; relations = k.relations; counters = k.counters; failed = k.failed }

-- a call of it was refused with 2, or a force of its log has failed
abbrev pub has_failed_in : {D : Type 0} → KernelSeen D → Bool
has_failed_in k = k.failed || has_failed (core_log k.core)

-- the commits that are appended, and not in the book yet
abbrev pub commits_in : {D : Type 0} → KernelSeen D → List Commit
commits_in k = core_commits k.core

-- Begun on this base, it is in this state of the laws.
abbrev pub ShowsSeen : {D : Type 0} → Ghosts D → Base → State → KernelSeen D → Type 0
ShowsSeen g first s k = ShowsIn g k.relations k.counters first s k.core
