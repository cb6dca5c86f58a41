-- What a restart has at hand before its first write, and what the device is meanwhile.
use Rattle.std.specs.Prelude.{◌≡◌, ◌⊎◌, ℕ, ◌+◌, ◌<◌, ◌^◌, false, List, [], ◌∷◌, length, get_or}
use Rattle.mt_disk.specs.declared.device.Device.{Ghosts}
use Rattle.mt_base.specs.declared.limits.TheConstants.{MASTER_BYTES}
use Rattle.mt_disk.specs.Disk.{Only}
use Rattle.mt_frame.specs.Grammar.{body_text}
use Rattle.mt_frame.specs.declared.records.Record.{Record}
use Rattle.mt_frame.specs.declared.slots.MasterSlot.{MasterSlot}
use Rattle.mt_space.specs.PageLists.{bytes_of}
use Rattle.mt_log.specs.Batch.{joined}
use Rattle.mt_log.specs.First.{IsFirst}
use Rattle.mt_log.specs.Holds.{HoldsBatches}
use Rattle.mt_log.specs.Masters.{IsRuling, area_size, area_start, area_end}
use Rattle.mt_log.specs.Sound.{IsSound}
use Rattle.mt_log.specs.Words.{durable, in_flight, waiting, used, has_failed, area_size as log_size, area_start as log_start, IsOn}
use Rattle.mt_log.specs.declared.area.AreaPlace.{AreaPlace}
use Rattle.mt_log.specs.declared.log.Log.{Log}
use Rattle.mt_pool.specs.Images.{slot}
use Rattle.mt_replay.specs.Stands.{IsReadAs}
use Rattle.mt_space.specs.Changes.{PageBytes}
use Rattle.mt_log.specs.NextSlot.{next_slot}
use Rattle.mt_replay.specs.Marking.{MarksImaged, MarksLost}
use Rattle.mt_restart.specs.Turned.{AreImagesOf}
use Rattle.mt_restart.specs.declared.restart_writes.Marks.{Marks}

-- ---- before the first write

-- The ruling area holds these batches; marked are the pages with an image there, and those that are lost without one
-- in the next area.
pub record AreMarked (c : List ℕ) (ruling : MasterSlot) (items : List (List ℕ)) (batches : List (List Record))
    (m : Marks) : Type 0 where
  pub rules : IsRuling c ruling
  pub held : HoldsBatches c (area_start ruling) (area_end ruling) ruling.pages batches
  pub count : length items ≡ ruling.pages
  pub imaged : MarksImaged ruling.pages (joined batches) m.imaged.items
  pub lost : MarksLost items m.imaged.items c m.lost.items
  pub images : AreImagesOf items m.lost.items m.images.items

-- another slot may rule next, and its area has room for the images
pub record CanTurn (ruling : MasterSlot) (images : List Record) : Type 0 where
  pub not_last : ruling.epoch < 2 ^ 63
  pub fits : 5 + length (body_text images) < area_size ruling

-- the log of the next area, in memory: these images are about to be forced as its first batch
pub record IsPrepared (ruling : MasterSlot) (images : List Record) (log : Log) : Type 0 where
  pub place : AreaPlace
  pub start : place.start ≡ area_start (next_slot ruling)
  pub end : place.end ≡ area_end (next_slot ruling)
  pub first : IsFirst place images log

-- ---- meanwhile, and then

-- the old area and the slots give the pages as they were, or the next one as they are
abbrev pub ReadsOldOrNext : MasterSlot → PageBytes → List (List Record) → List (List ℕ) → List Record → List ℕ → Type 0
ReadsOldOrNext ruling opening batches items images c =
    IsReadAs c ruling opening batches ⊎ IsReadAs c (next_slot ruling) (bytes_of items) (images ∷ [])

-- the log of the next area, with these images and no other record
pub record IsNextLog {D : Type 0} (g : Ghosts D) (ruling : MasterSlot)
    (images : List Record) (device : D) (log : Log) : Type 0 where
  pub on : IsOn g log device
  pub start : log_start log ≡ area_start (next_slot ruling)
  pub size : log_size log ≡ area_size ruling
  pub durable_is : durable log ≡ images
  pub flying : in_flight log ≡ []
  pub waits : waiting log ≡ []
  pub head : used log ≡ 5 + length (body_text images)
  pub well : has_failed log ≡ false
  pub sound : IsSound ruling.pages log

-- The next area has begun with these images, beside the one that rules; the pages without an image there are in their
-- slots.
pub record HasBegun {D : Type 0} (g : Ghosts D) (ruling : MasterSlot)
    (items : List (List ℕ)) (m : Marks) (device : D) (log : Log) : Type 0 where
  pub next : IsNextLog g ruling m.images.items device log
  pub only : Only (g.seen device) (g.may_leave device)
  pub rules : IsRuling (g.seen device) ruling
  pub held : HoldsBatches (g.seen device) (area_start (next_slot ruling)) (area_end (next_slot ruling)) ruling.pages
      (m.images.items ∷ [])
  pub slots : (p : ℕ) → p < ruling.pages → get_or m.lost.items p false ≡ false
      → slot MASTER_BYTES (g.seen device) p ≡ get_or items p []

-- The next area rules, with these images and no other record, and each page is in its slot.
pub record HasTurned {D : Type 0} (g : Ghosts D) (ruling : MasterSlot)
    (items : List (List ℕ)) (images : List Record) (device : D) (log : Log) : Type 0 where
  pub next : IsNextLog g ruling images device log
  pub only : Only (g.seen device) (g.may_leave device)
  pub slots : (p : ℕ) → p < ruling.pages → slot MASTER_BYTES (g.seen device) p ≡ get_or items p []
  pub read : IsReadAs (g.seen device) (next_slot ruling) (bytes_of items) (images ∷ [])
