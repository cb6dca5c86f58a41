-- Marks of pages: those of which an area has images, and those that are in no slot either.
use Rattle.std.specs.Prelude.{◌≡◌, ◌≢◌, ℕ, ◌<◌, Bool, true, false, List, [], length, get_or}
use Rattle.mt_base.specs.declared.limits.TheConstants.{MASTER_BYTES}
use Rattle.mt_frame.specs.declared.records.Record.{Record}
use Rattle.mt_frame.specs.declared.slots.MasterSlot.{MasterSlot}
use Rattle.mt_log.specs.Batch.{joined}
use Rattle.mt_pool.specs.Images.{has_image, slot}
use Rattle.mt_pool.specs.Kept.{carried}
use Rattle.mt_replay.specs.Stands.{HasArea}

-- What is reported of a page is whether it has no image and other bytes than its slot.
pub record FindsLost (bytes : List ℕ) (imaged : Bool) (in_slot : List ℕ) (outcome : Bool) : Type 0 where
  pub other : outcome ≡ true → (imaged ≡ false) × (in_slot ≢ bytes)
  pub kept : outcome ≡ false → imaged ≡ false → in_slot ≡ bytes

-- Marked are the pages of which these records carry an image.
pub record MarksImaged (count : ℕ) (records : List Record) (marked : List Bool) : Type 0 where
  pub size : length marked ≡ count
  pub each : (p : ℕ) → p < count → get_or marked p false ≡ has_image (carried records) p

-- Marked are the pages that have no image and other bytes than their slots.
pub record MarksLost (pages : List (List ℕ)) (imaged : List Bool) (c : List ℕ) (marked : List Bool) : Type 0 where
  pub size : length marked ≡ length pages
  pub other : (p : ℕ) → p < length pages → get_or marked p false ≡ true
      → (get_or imaged p false ≡ false) × (slot MASTER_BYTES c p ≢ get_or pages p [])
  pub kept : (p : ℕ) → p < length pages → get_or marked p false ≡ false → get_or imaged p false ≡ false
      → slot MASTER_BYTES c p ≡ get_or pages p []

-- The ruling area holds these batches; marked are the pages with an image there, and those that are lost.
pub record IsMarked (c : List ℕ) (ruling : MasterSlot) (pages : List (List ℕ)) (imaged lost : List Bool) : Type 0 where
  pub batches : List (List Record)
  pub area : HasArea c ruling batches
  pub count : length pages ≡ ruling.pages
  pub imaged_are : MarksImaged ruling.pages (joined batches) imaged
  pub lost_are : MarksLost pages imaged c lost
