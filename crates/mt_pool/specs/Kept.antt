-- What a log and a pool know together of their device.
use Rattle.std.specs.Prelude.{◌<◌, ◌≡◌, ℕ, ◌+◌, ◌*◌, ◌≤◌, List, length, map, false, Option, None, Some}
use Rattle.mt_base.specs.declared.format.Format.TheVariants.{Two}
use Rattle.mt_base.specs.declared.limits.TheConstants.{MASTER_BYTES, MAX_PAGES, PAGE_BYTES}
use Rattle.mt_disk.specs.Disk.{LeavesOnly}
use Rattle.mt_disk.specs.declared.device.Device.{Ghosts}
use Rattle.mt_frame.specs.declared.records.Record.{Record}
use Rattle.mt_frame.specs.declared.records.Record.TheVariants.{Page, OpEnd, OpDropped, Commit, AbortEnd}
use Rattle.mt_area_rules.specs.History.{some_record, is_of_page}
use Rattle.mt_log.specs.Batch.{joined}
use Rattle.mt_frame.specs.declared.slots.MasterSlot.{MasterSlot}
use Rattle.mt_log.specs.Holds.{HoldsBatches}
use Rattle.mt_log.specs.Masters.{IsRuling, area_start as start_of, area_end as end_of}
use Rattle.mt_log.specs.Sound.{IsSound, IsBeginning}
use Rattle.mt_log.specs.Words.{durable, appended, area_start, area_end, IsOn}
use Rattle.mt_pool.specs.Images.{IsSafe, GivesPages}
use Rattle.mt_pool.specs.Views.{IsPool, Shows, IsTied, frames, pages, waits_for}
use Rattle.mt_log.specs.declared.log.Log.{Log}
use Rattle.mt_pool.specs.declared.pool.Pool.{Pool}
use Rattle.mt_pool.specs.declared.store.Store.{Store}

-- the image of this page, if there is one
abbrev pub imaged : ℕ → Option (List ℕ) → Option (ℕ × List ℕ)
imaged page None = None
imaged page (Some image) = Some (page, image)

-- the image that a record carries, if any
abbrev pub carried_of : Record → Option (ℕ × List ℕ)
carried_of (Page txn op page image start old new) = imaged page image
carried_of (OpEnd txn op undoes done) = None
carried_of (OpDropped txn op) = None
carried_of (Commit txn) = None
carried_of (AbortEnd txn) = None

-- the images that the records carry
abbrev pub carried : List Record → List (Option (ℕ × List ℕ))
carried records = map carried_of records

-- how many pages it can have in frames
abbrev pub store_frames : {D : Type 0} → Store D → ℕ
store_frames s = frames s.pool

-- the slot is of format 2, and names these pages, after the two slots, and the area of this log
pub record Names (ruling : MasterSlot) (pool : Pool) (log : Log) : Type 0 where
  pub count : ruling.pages ≡ pages pool
  pub place : pool.place ≡ MASTER_BYTES
  pub start : start_of ruling ≡ area_start log
  pub end : end_of ruling ≡ area_end log
  pub second : ruling.format ≡ Two

-- What a crash left, c, explains the pages as at the opening: the log's area holds batches, and no more, whose
-- records are a beginning of the appended ones with all durable ones, and each page is its first image in them or
-- else what its slot has. The master slot that rules names the pages and that area.
pub record Explains {D : Type 0} (opening : ℕ → List ℕ) (s : Store D) (c : List ℕ) : Type 0 where
  pub batches : List (List Record)
  pub held : HoldsBatches c (area_start s.log) (area_end s.log) (pages s.pool) batches
  pub beginning : IsBeginning s.log batches
  pub gives : GivesPages s.pool.place (pages s.pool) opening (carried (joined batches)) c
  pub ruling : MasterSlot
  pub rules : IsRuling c ruling
  pub names : Names ruling s.pool s.log

-- The log and the pool are on the device, the slots before the log's area; whatever a crash leaves, the master slot
-- that names both rules in it, and the pages are had as at the opening; and the pool knows of each page whether the
-- log has a record of it, and the last one.
pub record IsKept {D : Type 0} (g : Ghosts D) (opening : ℕ → List ℕ) (s : Store D) : Type 0 where
  pub on : IsOn g s.log s.device
  pub sound : IsSound (pages s.pool) s.log
  pub apart : s.pool.place + PAGE_BYTES * pages s.pool ≤ area_start s.log
  pub few : pages s.pool ≤ MAX_PAGES
  pub frames : IsPool s.pool
  pub shows : Shows s.pool (g.seen s.device)
  pub settled : s.settled ≡ length (durable s.log)
  pub safe : IsSafe s.pool.place (pages s.pool) opening (carried (appended s.log)) (length (durable s.log))
      (g.may_leave s.device)
  pub tied : IsTied s.pool (g.seen s.device) opening (carried (appended s.log))
  pub names : Names s.ruling s.pool s.log
  pub rules : (c : List ℕ) → g.may_leave s.device c → IsRuling c s.ruling
  pub unnamed : (p : ℕ) → p < pages s.pool → waits_for s.pool p ≡ 0
      → some_record (is_of_page p) (appended s.log) ≡ false

-- it is kept for some pages, as they were when its area began
abbrev pub HasOpening : {D : Type 0} → Ghosts D → Store D → Type 0
HasOpening g s = ∥ ((opening : ℕ → List ℕ) × IsKept g opening s) ∥₁

-- ---- what a call does

-- it stays kept, for whatever pages it was
abbrev pub StaysKept : {D : Type 0} → Ghosts D → Store D → Store D → Type 0
StaysKept g old new = (opening : ℕ → List ℕ) → IsKept g opening old → IsKept g opening new

-- whenever a crash comes in it, what that leaves explains these pages
abbrev pub ExplainsMeanwhile : {D : Type 0} → Ghosts D → Store D → Store D → Type 0
ExplainsMeanwhile g old new =
    (opening : ℕ → List ℕ) → IsKept g opening old
    → LeavesOnly g.moment g.left_since old.device new.device (Explains opening old)

-- ---- the same, of all the ghosts of the device as one, and of the device that the store is over

module _ {D : Type 0} (g : Ghosts D) where
  abbrev pub IsOpen : Store D → D → Type 0
  IsOpen s device = HasOpening g (record s { device = device })

  -- what each call keeps of a store: the pages, and at each moment what a crash leaves of them
  pub record Keeps (old new : Store D) (d e : D) : Type 0 where
    pub kept : StaysKept g (record old { device = d }) (record new { device = e })
    pub moments : ExplainsMeanwhile g (record old { device = d })
        (record new { device = e })
