-- What operations begin over.
use Rattle.std.specs.Prelude.{◌≡◌, ◌<◌, ◌≤◌, ℕ, List, [], length, All}
use Rattle.mt_disk.specs.declared.device.Device.{Ghosts}
use Rattle.mt_file.specs.Rooms.{AreRooms}
use Rattle.mt_frame.specs.Grammar.{txn_of}
use Rattle.mt_frame.specs.declared.records.Record.{Record}
use Rattle.mt_pool.specs.Views.{view, pages}
use Rattle.mt_pool.specs.declared.store.Store.{Store}
use Rattle.mt_space.specs.Changes.{PageBytes}
use Rattle.mt_space.specs.Rooms.{mapped, free_of, reserved_of}
use Rattle.mt_op.specs.declared.next_area.Idle.{Idle}

-- each is an image, as the records are with which an area begins
abbrev pub AreImages : List Record → Type 0
AreImages records = All (λ (r : Record). txn_of r ≡ 0) records

-- each page shows as it was when the area began
abbrev pub ShowsOpening : {D : Type 0} → Ghosts D → PageBytes → Store D → Type 0
ShowsOpening g opening s = (p : ℕ) → p < pages s.pool → view s.pool (g.seen s.device) p ≡ opening p

-- what operations keep beside a store fits these pages of it, and none is under way
pub record FitsPages (total : ℕ) (held : PageBytes) (i : Idle) : Type 0 where
  pub locks : i.locks ≡ []
  pub map : i.map.kinds.value ≡ held 0
  pub space : i.map.space.0 ≡ mapped (held 0) total
  pub claims : reserved_of i.map.space ≤ free_of i.map.space
  pub rooms : length i.rooms ≡ total
  pub noted : AreRooms i.rooms held

-- the free pages that are claimed of them
abbrev pub idle_claims : Idle → ℕ
idle_claims i = reserved_of i.map.space
