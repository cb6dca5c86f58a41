-- What is kept of a counter beside its pending adds.
use Rattle.std.specs.Prelude.{ℕ, ℤ, pos, neg_ℤ, ◌+ℤ◌, ◌-ℤ◌, ◌≤ℤ◌, ◌≡◌, ◌<◌, ◌≤◌, ◌+◌, List, ◌++◌, length, All, slice_index_or}
use Rattle.mt_base.specs.Limits.{IsStep}
use Rattle.mt_model.specs.declared.counters.Count.{Count}
use Rattle.mt_model.specs.declared.pending_add.Pending.{Pending}
use Rattle.mt_model.specs.Model.{moved}
use Rattle.mt_model.specs.Escrow.{below, above, lowest, highest, HasRoom}
use Rattle.mt_model.specs.Pending.{steps_at}
use Rattle.mt_model.specs.Tables.{IsLimited, no_count}
use Rattle.mt_escrow.specs.declared.rooms.Room.{Room}

-- a number within 10^16 of zero, so that sums of a few such numbers fit 64 bits
abbrev pub IsBroad : ℤ → Type 0
IsBroad z = (neg_ℤ (pos 10000000000000000) ≤ℤ z) × (z ≤ℤ pos 10000000000000000)

-- a room of such numbers
abbrev pub IsModest : Room → Type 0
IsModest r = IsBroad r.count.number × IsBroad r.lowest × IsBroad r.highest

-- a counter to which no add is granted
abbrev pub fresh : Count → Room
fresh n = record { count = n; lowest = pos 0; highest = pos 0 }

-- a room with one more step pending
abbrev pub held : ℤ → Room → Room
held d r = record { count = r.count; lowest = r.lowest +ℤ below d; highest = r.highest +ℤ above d }

-- a room with one step that is pending no longer
abbrev pub let_go : ℤ → Room → Room
let_go d r = record { count = r.count; lowest = r.lowest -ℤ below d; highest = r.highest -ℤ above d }

-- a room with one step made
abbrev pub settled : ℤ → Room → Room
settled d r = record { count = moved r.count d; lowest = r.lowest -ℤ below d; highest = r.highest -ℤ above d }

-- the counter stays in its bounds with all the steps down, and with all the steps up
abbrev pub Fits : Room → Type 0
Fits r = (r.count.low ≤ℤ (r.count.number +ℤ r.lowest)) × ((r.count.number +ℤ r.highest) ≤ℤ r.count.high)

-- what represents the room of a counter that is not there
abbrev pub room_at : List Room → ℕ → Room
room_at rooms c = slice_index_or rooms c (fresh no_count)

abbrev pub count_of : Room → Count
count_of r = r.count

-- a room keeps the two sums of the steps that are granted, and these stay in the bounds
pub record IsKept (r : Room) (ds : List ℤ) : Type 0 where
  pub limited : IsLimited r.count
  pub lowest : r.lowest ≡ lowest ds
  pub highest : r.highest ≡ highest ds
  pub fits : HasRoom r.count ds

-- each room does so, and each add is to a counter that is there, by a step within its limits
pub record AreKept (rooms : List Room) (granted : List Pending) : Type 0 where
  pub each : (c : ℕ) → IsKept (room_at rooms c) (steps_at c granted)
  pub adds : All (λ (p : Pending). (p.counter < length rooms) × IsStep p.step) granted

-- they do so for these adds and some others
abbrev pub AreKeptFor : List Room → List Pending → Type 0
AreKeptFor rooms adds = (others : List Pending) × AreKept rooms (adds ++ others)

-- whichever others there are, rooms that kept the steps of both keep those of the others and of these adds now
abbrev pub KeepsBeside : List Room → List Pending → List Room → List Pending → Type 0
KeepsBeside old adds new left = (others : List Pending) → AreKept old (adds ++ others) → AreKept new (left ++ others)

-- what is kept of an escrow: its rooms keep what is granted, and there is memory to set aside each pending add
pub record IsWell (rooms : List Room) (pending aside : List Pending) (used capacity : ℕ) : Type 0 where
  pub kept : AreKept rooms (aside ++ pending)
  pub room : used + length pending ≤ capacity
