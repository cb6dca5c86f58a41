-- What a crash may leave of writes that no sync has followed.
use Rattle.std.specs.Prelude.{◌<◌, ◌≡◌, ◌⊎◌, ℕ, ◌+◌, ◌≤◌, List, [], ◌∷◌, length}
use Rattle.std.proofs.Math.ListN.{get_or}
use Rattle.mt_disk.specs.declared.memory.Write.{Write}

-- this place is in the range of none of the writes
abbrev pub Untouched : List Write → ℕ → Type 0
Untouched [] i = Unit {0}
Untouched (w ∷ ws) i = (i < w.at ⊎ w.at + w.len ≤ i) × Untouched ws i

-- In the union of the written ranges any bytes may stand, in whatever order the writes came; outside
-- of it stands what the last sync left.
pub record Unsynced (synced : List ℕ) (writes : List Write) (c : List ℕ) : Type 0 where
  pub size : length c ≡ length synced
  pub rest : (i : ℕ) → Untouched writes i → get_or c i 0 ≡ get_or synced i 0

-- the write's range is on the device, and its own bytes are among those written
pub record IsInside (w : Write) (size written : ℕ) : Type 0 where
  pub range : w.at + w.len ≤ size
  pub bytes : w.from + w.len ≤ written
