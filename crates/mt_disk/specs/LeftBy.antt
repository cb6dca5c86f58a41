-- What a crash leaves of a device in memory, for each kind of bytes that a write may leave.
use Rattle.std.specs.Prelude.{◌≡◌, ℕ, List}
use Rattle.mt_disk.specs.Crash.{InTurn, front_half, all_bytes}
use Rattle.mt_disk.specs.declared.memory.Fill.{Fill}
use Rattle.mt_disk.specs.declared.memory.Fill.TheVariants.{Old, New, FrontHalf, Byte}
use Rattle.mt_disk.specs.declared.memory.State.{State}
use Rattle.mt_disk.specs.declared.memory.MemDevice.{MemDevice}

-- the bytes of the last sync
abbrev pub synced_content : MemDevice → List ℕ
synced_content m = m.state.synced.items

-- each write since the last sync, the oldest first, has put such bytes over those of that sync
abbrev pub LeftInTurn : State → Fill → List ℕ → Type 0
LeftInTurn s Old c = c ≡ s.synced.items
LeftInTurn s New c = c ≡ s.bytes.items
LeftInTurn s FrontHalf c = InTurn (front_half s.written.items) s.writes.items s.synced.items c
LeftInTurn s (Byte byte) c = InTurn (all_bytes byte) s.writes.items s.synced.items c

abbrev pub LeftBy : MemDevice → Fill → List ℕ → Type 0
LeftBy m fill c = LeftInTurn m.state fill c
