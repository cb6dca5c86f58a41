use Rattle.std.proofs.Common.{drop}
use Rattle.mt_disk.specs.Unsynced.{Unsynced}
use Rattle.mt_disk.proofs.memory.copy_ranges.Given as goal

-- the two agree but for the ranges that are still to come
abbrev pub invariant-loop-write : goal.invariant-loop-write
invariant-loop-write l = Unsynced l.synced.items (drop l.write-index l.writes) l.bytes
