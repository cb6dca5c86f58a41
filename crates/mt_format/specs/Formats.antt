-- A device as it is formatted.
use Rattle.std.specs.Prelude.{◌≡◌, ◌≢◌, ◌⊎◌, ◌+◌, ◌*◌, ◌<◌, ◌≤◌, ℕ, List, [], ◌∷◌, Result, OnOk, length, drop}
use Rattle.std.proofs.Math.ListN.{get_or}
use Rattle.mt_disk.specs.declared.device.Device.{Ghosts}
use Rattle.mt_frame.specs.declared.TheConstants.{OPEN_GATE}
use Rattle.mt_base.specs.declared.format.Format.TheVariants.{Two}
use Rattle.mt_base.specs.declared.limits.TheConstants.{MASTER_BYTES, PAGE_BYTES}
use Rattle.mt_bucket.specs.Page.{depth_of, next_of, entries, IsBucket}
use Rattle.mt_disk.specs.Disk.{Has, HasCause, LeavesOnly, Only, Torn, Follows}
use Rattle.mt_frame.specs.declared.slots.MasterSlot.{MasterSlot}
use Rattle.mt_frame.specs.SlotText.{slot_text}
use Rattle.mt_index.specs.Pages.{AreZero, IsDirectory, depth_in, pointer_at}
use Rattle.mt_log.specs.Holds.{HoldsBatches}
use Rattle.mt_model.specs.Tables.{count_at}
use Rattle.mt_pool.specs.Images.{slot}
use Rattle.mt_space.specs.Changes.{PageBytes}
use Rattle.mt_counters.specs.Counters.{AreCounters, count_in}
use Rattle.mt_steps.specs.Formatted.{IsFormatted}
use Rattle.mt_steps.specs.Held.{Holds}
use Rattle.mt_format.specs.declared.schema.Schema.{Schema}
use Rattle.mt_format.specs.Schemas.{pages_in, mib_in, relations_in, counters_in, schema_base, pages_end, area_end, device_bytes}

-- ---- its pages

-- pages 0 to 2 are fixed, page 3 is a bucket, and the others are free
pub record IsFirstMap (map : List ℕ) : Type 0 where
  pub size : length map ≡ PAGE_BYTES
  pub space : get_or map 0 0 ≡ 1
  pub directory : get_or map 1 0 ≡ 1
  pub counters : get_or map 2 0 ≡ 1
  pub bucket : get_or map 3 0 ≡ 2
  pub free : AreZero map 4 PAGE_BYTES

-- its one pointer is to page 3
pub record IsFirstDirectory (page : List ℕ) : Type 0 where
  pub formed : IsDirectory page
  pub no_bits : depth_in page ≡ 0
  pub pointer : pointer_at page 0 ≡ 3

-- the counters of the schema, each at its start
pub record IsFirstCounters (s : Schema) (page : List ℕ) : Type 0 where
  pub formed : AreCounters (relations_in s) (length (counters_in s)) page
  pub starts : (c : ℕ) → c < length (counters_in s) → count_in page c ≡ count_at (counters_in s) c

-- no entry, and no page after it
pub record IsFirstBucket (s : Schema) (page : List ℕ) : Type 0 where
  pub formed : IsBucket (relations_in s) (pages_in s) page
  pub depth : depth_of page ≡ 0
  pub next : next_of page ≡ 0
  pub none : entries page ≡ []

-- each of the first four pages, and a page after them
pub record IsFirstPage (s : Schema) (p : ℕ) (page : List ℕ) : Type 0 where
  pub map : p ≡ 0 → IsFirstMap page
  pub directory : p ≡ 1 → IsFirstDirectory page
  pub counters : p ≡ 2 → IsFirstCounters s page
  pub bucket : p ≡ 3 → IsFirstBucket s page
  pub zeros : 4 ≤ p → AreZero page 0 PAGE_BYTES

-- each page is one of those
abbrev pub AreFirstPages : Schema → PageBytes → Type 0
AreFirstPages s pages = (p : ℕ) → p < pages_in s → IsFirstPage s p (pages p)

-- the pages of the device are, as its slots have them
abbrev pub HasFirstPages : Schema → List ℕ → Type 0
HasFirstPages s c = AreFirstPages s (slot MASTER_BYTES c)

-- ---- the whole of it

-- the first opening, in format 2, whose log is in area 0
abbrev pub first_slot : Schema → MasterSlot
first_slot s = record { format = Two; epoch = 1; area = 0; pages = pages_in s; mib = mib_in s }

-- an empty open batch and a closed gate
abbrev pub empty_area : List ℕ
empty_area = OPEN_GATE ∷ 0 ∷ 0 ∷ 0 ∷ 0 ∷ 0 ∷ []

-- The content of a device of this schema: master slot 0 rules, as the other one's gate is closed; log area 0 has
-- nothing but its empty first batch; and the pages, of which those after the first four are zero, hold the schema's
-- first base.
pub record IsFormattedAs (s : Schema) (c : List ℕ) : Type 0 where
  pub long : device_bytes s ≤ length c
  pub master : Has c 0 (slot_text (first_slot s))
  pub other : get_or c PAGE_BYTES 0 ≢ OPEN_GATE
  pub area : HoldsBatches c (pages_end s) (area_end s) (pages_in s) ([] ∷ [])
  pub pages : IsFormatted (relations_in s) (length (counters_in s)) (pages_in s) (slot MASTER_BYTES c)
  pub base : Holds (slot MASTER_BYTES c) (schema_base s)
  pub zeros : (p : ℕ) → 4 ≤ p → p < pages_in s → AreZero (slot MASTER_BYTES c p) 0 PAGE_BYTES

-- ---- how it comes to be

-- the n bytes from `at` on may have become any bytes, and so in whatever a crash leaves
pub record Tears {D : Type 0} (g : Ghosts D) (at n : ℕ) (old new : D) : Type 0 where
  pub now : Torn at n (g.seen old) (g.seen new)
  pub later : Follows (Torn at n) (g.may_leave old) (g.may_leave new)

-- only the gates of the master slots may be others
pub record GatesTorn (old new : List ℕ) : Type 0 where
  pub size : length new ≡ length old
  pub rest : (i : ℕ) → i ≢ 0 → i ≢ PAGE_BYTES → get_or new i 0 ≡ get_or old i 0

-- one of these contents, but for the gates of the master slots
abbrev pub ButForGates : (List ℕ → Type 0) → List ℕ → Type 0
ButForGates contents c = (d : List ℕ) × contents d × GatesTorn d c

-- no master slot is open
pub record IsShut (c : List ℕ) : Type 0 where
  pub first : get_or c 0 0 ≢ OPEN_GATE
  pub second : get_or c PAGE_BYTES 0 ≢ OPEN_GATE

-- all is there but the open gate
pub record IsReady (s : Schema) (c : List ℕ) : Type 0 where
  pub long : device_bytes s ≤ length c
  pub shut : IsShut c
  pub slot : Has c 1 (drop 1 (slot_text (first_slot s)))
  pub pages : HasFirstPages s c
  pub area : Has c (pages_end s) empty_area

-- formatted, or not to be read at all
abbrev pub IsFormattedOrShut : Schema → List ℕ → Type 0
IsFormattedOrShut s c = IsShut c ⊎ IsFormattedAs s c

-- What a crash leaves of a device while it is formatted: one of these contents, but for the gates of the master
-- slots; then no open master slot; at last the schema's format.
abbrev pub FormatBegins : Schema → (List ℕ → Type 0) → List ℕ → Type 0
FormatBegins s contents c = ButForGates contents c ⊎ IsFormattedOrShut s c

-- The schema's first pages and an empty log area are there, and a crash leaves them; or the device failed. No master
-- slot opens meanwhile.
pub record WritesContent {D : Type 0} (g : Ghosts D) {T F : Type 0} (s : Schema) (d e : D)
    (r : Result T F) : Type 0 where
  pub pages : OnOk r (HasFirstPages s (g.seen e))
  pub area : OnOk r (Has (g.seen e) (pages_end s) empty_area)
  pub durable : OnOk r (Only (g.seen e) (g.may_leave e))
  pub moments : LeavesOnly g.moment g.left_since d e IsShut
  pub tears : Tears g MASTER_BYTES (PAGE_BYTES * pages_in s + 6) d e
  pub cause : HasCause (g.faults d) (g.faults e) r

-- The device is formatted with this schema, and a crash leaves it so; or the device failed.
pub record FormatsDurably {D : Type 0} (g : Ghosts D) {T F : Type 0} (s : Schema) (d e : D)
    (r : Result T F) : Type 0 where
  pub formatted : OnOk r (IsFormattedAs s (g.seen e))
  pub durable : OnOk r (Only (g.seen e) (g.may_leave e))
  pub moments : LeavesOnly g.moment g.left_since d e (FormatBegins s (g.may_leave d))
  pub tears : Tears g 0 (device_bytes s) d e
  pub cause : HasCause (g.faults d) (g.faults e) r
