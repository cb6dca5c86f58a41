-- What a device in memory holds, and what a crash may leave of it.
use Rattle.std.specs.Prelude.{◌<◌, ◌≡◌, ◌⊎◌, ℕ, ◌+◌, ◌-◌, ◌≤◌, List, [], ◌∷◌, length, drop, vec_len, ◌++◌}
use Rattle.std.proofs.Common.{sym, ◌∙◌}
use mathlib.Core.Logic.{inl, inr}
use Rattle.mt_disk.specs.Unsynced.{Unsynced}
use Rattle.mt_disk.specs.declared.memory.State.{State}
use Rattle.mt_disk.specs.declared.memory.MemDevice.{MemDevice}
use Rattle.mt_disk.specs.Disk.{Wrote}

-- one write more of n bytes fits
abbrev pub HasRoom : State → ℕ → Type 0
HasRoom s n = (vec_len s.writes < s.writes_room) × (vec_len s.written + n ≤ s.bytes_room)

-- what a read returns
abbrev pub content : MemDevice → List ℕ
content m = m.state.bytes.items

-- how often it has failed
abbrev pub failures_of : MemDevice → ℕ
failures_of m = length m.failures.items

-- how many writes, and how many bytes in them, it still takes before a sync
abbrev pub writes_left : MemDevice → ℕ
writes_left m = m.state.writes_room - vec_len m.state.writes

abbrev pub bytes_left : MemDevice → ℕ
bytes_left m = m.state.bytes_room - vec_len m.state.written

-- the same, right after a sync
abbrev pub writes_room : MemDevice → ℕ
writes_room m = m.state.writes_room

abbrev pub bytes_room : MemDevice → ℕ
bytes_room m = m.state.bytes_room

abbrev pub Leaves : State → List ℕ → Type 0
Leaves s c = Unsynced s.synced.items s.writes.items c

-- what a crash may leave now
abbrev pub MayLeave : MemDevice → List ℕ → Type 0
MayLeave m c = Leaves m.state c

-- a crash in one of these states might have left this
abbrev pub HadLeft : List State → List ℕ → Type 0
HadLeft [] c = ⊥
HadLeft (s ∷ past) c = Leaves s c ⊎ HadLeft past c

-- A moment is the number of states that have passed: since then a crash might have left what it may
-- leave now, or what it might have in a state that came later.
abbrev pub LeftSince : State → List State → ℕ → List ℕ → Type 0
LeftSince s past t c = Leaves s c ⊎ HadLeft (drop t past) c

-- how many states have passed
abbrev pub moment_of : MemDevice → ℕ
moment_of m = length m.past.items

-- what a crash might have left of it since that moment
abbrev pub left_by : MemDevice → ℕ → List ℕ → Type 0
left_by m t c = LeftSince m.state m.past.items t c

none_left : (past : List State) (c : List ℕ) → HadLeft (drop (length past) past) c → ⊥
none_left [] c had = had
none_left (s ∷ past) c had = none_left past c had

pub only_present : (s : State) (past : List State) (c : List ℕ) → LeftSince s past (length past) c → Leaves s c
only_present s past c (inl now) = now
only_present s past c (inr had) = absurd (none_left past c had)

pub same_size : (s : State) (c : List ℕ) → Leaves s c → length c ≡ length s.bytes.items
same_size s c left = left.size ∙ sym s.present.size

-- bytes are written, and the write is noted
pub record PutsBytes (s t : State) (at : ℕ) (bytes : List ℕ) : Type 0 where
  pub wrote : Wrote at bytes s.bytes.items t.bytes.items
  pub noted : t.writes.items ≡ s.writes.items ++ record { at = at; len = length bytes; from = vec_len s.written } ∷ []
  pub kept : t.written.items ≡ s.written.items ++ bytes
  pub synced : t.synced.items ≡ s.synced.items
  pub writes_room : t.writes_room ≡ s.writes_room
  pub bytes_room : t.bytes_room ≡ s.bytes_room

-- what was written is the content of the last sync
pub record Settles (s t : State) : Type 0 where
  pub bytes : t.bytes.items ≡ s.bytes.items
  pub synced : t.synced.items ≡ s.bytes.items
  pub writes : t.writes.items ≡ []
  pub written : t.written.items ≡ []
  pub writes_room : t.writes_room ≡ s.writes_room
  pub bytes_room : t.bytes_room ≡ s.bytes_room
