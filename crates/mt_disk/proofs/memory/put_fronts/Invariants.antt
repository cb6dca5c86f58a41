use Rattle.std.proofs.Common.{◌≡◌, List, ℕ, length, drop}
use Rattle.mt_disk.specs.Crash.{InTurn, front_half}
use Rattle.mt_disk.proofs.memory.put_fronts.Given as goal

-- whatever the writes that are still to come make of the bytes, all of them make of what the bytes were
abbrev pub invariant-loop-write : goal.invariant-loop-write
invariant-loop-write l = record {
  size : length l.bytes.items ≡ length l.initial.bytes.items;
  rest : (c : List ℕ) → InTurn (front_half l.written) (drop l.write-index l.writes) l.bytes.items c → InTurn (front_half l.written) l.writes l.initial.bytes.items c;
}
