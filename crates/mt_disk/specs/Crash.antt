-- What a crash leaves if it leaves the same kind of bytes of each write that no sync has followed.
use Rattle.std.specs.Prelude.{◌≡◌, ℕ, ◌/◌, List, [], ◌∷◌, replicate}
use Rattle.mt_base.specs.Ranges.{part}
use Rattle.mt_disk.specs.Disk.{Wrote}
use Rattle.mt_disk.specs.declared.memory.Write.{Write}

-- the first half of a write's own bytes, which stand among `written`
abbrev pub front_half : List ℕ → Write → List ℕ
front_half written w = part written w.from (w.len / 2)

-- as many bytes as a write has, and each of them this one
abbrev pub all_bytes : ℕ → Write → List ℕ
all_bytes byte w = replicate w.len byte

-- each of the writes in turn puts such bytes at its place, and leaves every other byte
abbrev pub InTurn : (Write → List ℕ) → List Write → List ℕ → List ℕ → Type 0
InTurn bytes_of [] old new = new ≡ old
InTurn bytes_of (w ∷ ws) old new = (next : List ℕ) × Wrote w.at (bytes_of w) old next × InTurn bytes_of ws next new
