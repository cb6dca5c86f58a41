use Rattle.std.proofs.Common.{◌≡◌, List, ℕ, length, drop}
use Rattle.mt_disk.specs.Crash.{InTurn, all_bytes}
use Rattle.mt_disk.proofs.memory.blot_ranges.Given as goal

-- whatever the writes that are still to come make of the bytes, all of them make of what the bytes were
abbrev pub invariant-loop-write : goal.invariant-loop-write
invariant-loop-write l = record {
  size : length l.bytes.items ≡ length l.initial.bytes.items;
  rest : (c : List ℕ) → InTurn (all_bytes l.byte) (drop l.write-index l.writes) l.bytes.items c → InTurn (all_bytes l.byte) l.writes l.initial.bytes.items c;
}
