-- Batches of records on a device: a gate, the length of the body in four bytes, and the body.
use Rattle.std.specs.Prelude.{◌<◌, ◌≡◌, ◌≢◌, ℕ, ◌+◌, List, [], ◌∷◌, ◌++◌, length}
use Rattle.std.specs.Int.{w32}
use Rattle.std.proofs.Math.ListN.{get_or}
use Rattle.mt_frame.specs.declared.TheConstants.{OPEN_GATE}
use Rattle.mt_disk.specs.Disk.{Has}
use Rattle.mt_frame.specs.declared.records.Record.{Record}
use Rattle.mt_frame.specs.Grammar.{counted, body_text, batch_text}

-- the text of a batch without its gate
abbrev pub framed : List Record → List ℕ
framed batch = counted w32 (body_text batch)

-- a row of open batches stands from p up to q
abbrev pub Stands : List ℕ → ℕ → List (List Record) → ℕ → Type 0
Stands c p [] q = p ≡ q
Stands c p (b ∷ bs) q = Has c p (batch_text b) × Stands c (p + 5 + length (body_text b)) bs q

-- Reading from p on finds these batches: a row of open ones, and after it, before the area's end, a
-- gate that is not open.
abbrev pub Scans : List ℕ → ℕ → ℕ → List (List Record) → Type 0
Scans c p end batches = (q : ℕ) × Stands c p batches q × (q < end) × (get_or c q 0 ≢ OPEN_GATE)

-- the records of the batches, in order
abbrev pub joined : List (List Record) → List Record
joined [] = []
joined (b ∷ bs) = b ++ joined bs
