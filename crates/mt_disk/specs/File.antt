-- A device in a file, of which the proofs know the copy in memory.
use Rattle.std.specs.Prelude.{◌≡◌, ◌≤◌, ◌*◌, ℕ, true, length, Result, IsErr}
use Rattle.mt_base.specs.declared.limits.TheConstants.{PAGE_BYTES}
use Rattle.mt_disk.specs.Disk.{Only, HasCause}
use Rattle.mt_disk.specs.Memory.{content, MayLeave, failures_of, writes_left, bytes_left}
use Rattle.mt_disk.specs.declared.memory.MemDevice.{MemDevice}
use Rattle.mt_disk.specs.declared.file.FileDevice.{FileDevice}

-- its copy in memory, from which it answers reads
abbrev pub copy_in : {F : Type 0} → FileDevice F → MemDevice
copy_in f = f.memory

-- how often the file has failed
abbrev pub file_failures : {F : Type 0} → FileDevice F → ℕ
file_failures f = length f.failures.items

-- the file has failed, and is not asked again
abbrev pub IsBroken : {F : Type 0} → FileDevice F → Type 0
IsBroken f = f.broken ≡ true

-- a device in memory that is synced and has not failed, with room for a write of each of its pages
pub record IsFreshCopy (m : MemDevice) : Type 0 where
  pub synced : Only (content m) (MayLeave m)
  pub quiet : failures_of m ≡ 0
  pub writes : length (content m) ≤ PAGE_BYTES * writes_left m
  pub written : length (content m) ≤ bytes_left m

-- a device in a file that was made just now: neither has the file failed
pub record IsFresh {F : Type 0} (f : FileDevice F) : Type 0 where
  pub copy : IsFreshCopy (copy_in f)
  pub quiet : file_failures f ≡ 0

-- What was asked of the file alone: it is not asked if it has failed before, and after a failure it is broken.
pub record AsksFile {F T E : Type 0} (old new : FileDevice F) (result : Result T E) : Type 0 where
  pub copy : copy_in new ≡ copy_in old
  pub cause : HasCause (file_failures old) (file_failures new) result
  pub broken : IsBroken old → IsErr result × IsBroken new
  pub breaks : IsErr result → IsBroken new
