-- What the bytes of a device represent, answered without a restart's passes.
use Rattle.std.specs.Prelude.{◌≡◌, ◌<◌, ℕ, List, length}
use Rattle.mt_base.specs.declared.limits.TheConstants.{FIRST_VALUE_BYTES, MASTER_BYTES}
use Rattle.mt_base.specs.declared.format.Format.{Format}
use Rattle.mt_base.specs.declared.format.Format.TheVariants.{One, Two}
use Rattle.mt_frame.specs.declared.records.Record.{Record}
use Rattle.mt_frame.specs.declared.slots.MasterSlot.{MasterSlot}
use Rattle.mt_log.specs.Batch.{joined}
use Rattle.mt_log.specs.Holds.{AreBatchesOf, HoldsBatches}
use Rattle.mt_model.specs.Model.{Base, IsBase}
use Rattle.mt_pool.specs.Images.{GivesPages}
use Rattle.mt_pool.specs.Kept.{carried}
use Rattle.mt_slots.specs.Page.{IsPage}
use Rattle.mt_space.specs.Changes.{PageBytes}
use Rattle.mt_space.specs.Kinds.{kind}
use Rattle.mt_steps.specs.Held.{Holds}
use Rattle.mt_log.specs.Masters.{IsRuling, area_size, area_start, area_end}
use Rattle.mt_replay.specs.Recorded.{losers, stands_for}
use Rattle.mt_replay.specs.Losers.{all_finished}
use Rattle.mt_replay.specs.declared.losers.Loser.{Loser}
use Rattle.mt_replay.specs.Recoverable.{IsRecoverable, pages_held}
use Rattle.mt_replay.specs.Memory.{AreFirst}
use Rattle.mt_base.specs.Limits.{IsRelationCount}
use Rattle.mt_steps.specs.Plans.{IsGood}

-- The ruling slot names the area, and the format of its batches. These and the page slots give each page as the area
-- found it: its first image, or its slot if there is none.
pub record IsReadAs (c : List ℕ) (slot : MasterSlot) (opening : PageBytes) (batches : List (List Record)) : Type 0 where
  pub rules : IsRuling c slot
  pub held : HoldsBatches c (area_start slot) (area_end slot) slot.pages batches
  pub of_its_format : AreBatchesOf slot.format batches
  pub gives : GivesPages MASTER_BYTES slot.pages opening (carried (joined batches)) c

-- The bytes represent this base: of what the opening pages hold, what the area's committed transactions lead to, each
-- alone, in the order of their commits.
pub record StandsFor (c : List ℕ) (b : Base) : Type 0 where
  pub slot : MasterSlot
  pub opening : PageBytes
  pub batches : List (List Record)
  pub read : IsReadAs c slot opening batches
  pub first : Base
  pub holds : Holds opening first
  pub bounds : IsBase first
  pub is : b ≡ stands_for first (joined batches)

-- each page of records is one of so many relations, with values that format 1 lets be as long
abbrev pub HaveFirstValues : ℕ → ℕ → PageBytes → Type 0
HaveFirstValues relations total pages =
    (p : ℕ) → p < total → kind pages p ≡ 3 → IsPage relations FIRST_VALUE_BYTES (pages p)

-- The passes of a restart find it: a kernel of a schema of so many relations and counters left these bytes, in this
-- format.
pub record CanReplay (format : Format) (relations counters : ℕ) (c : List ℕ) (b : Base) : Type 0 where
  pub stands : StandsFor c b
  pub is_of : stands.slot.format ≡ format
  pub fits : IsRelationCount relations
  pub recoverable : IsRecoverable relations counters stands.slot.pages (area_size stands.slot) stands.opening
      stands.first (joined stands.batches)
  pub short : stands.slot.format ≡ One
      → HaveFirstValues relations stands.slot.pages (pages_held stands.opening (joined stands.batches))

-- a restart finds it: they are in format 2, in which every kernel leaves them
abbrev pub CanRestart : ℕ → ℕ → List ℕ → Base → Type 0
CanRestart relations counters c b = CanReplay Two relations counters c b

-- pages in memory that are good and hold this base
pub record ShowsBase (relations counters : ℕ) (items : List (List ℕ)) (b : Base) : Type 0 where
  pub pages : PageBytes
  pub first : AreFirst items pages
  pub good : IsGood relations counters (length items) pages
  pub holds : Holds pages b

-- the area that the ruling slot names holds these batches, of its format
pub record HasArea (c : List ℕ) (slot : MasterSlot) (batches : List (List Record)) : Type 0 where
  pub rules : IsRuling c slot
  pub held : HoldsBatches c (area_start slot) (area_end slot) slot.pages batches
  pub of_its_format : AreBatchesOf slot.format batches

-- what is in memory once history is repeated, of a device of this format: the pages held of records that are
-- recoverable, and their losers
pub record AreHeld (format : Format) (relations counters : ℕ) (items : List (List ℕ)) (list : List Loser)
    (b : Base) : Type 0 where
  pub bytes : ℕ
  pub opening : PageBytes
  pub records : List Record
  pub first : Base
  pub fits : IsRelationCount relations
  pub recoverable : IsRecoverable relations counters (length items) bytes opening first records
  pub holds : Holds opening first
  pub bounds : IsBase first
  pub is : b ≡ stands_for first records
  pub pages : AreFirst items (pages_held opening records)
  pub losers : all_finished list ≡ losers records
  pub short : format ≡ One → HaveFirstValues relations (length items) (pages_held opening records)
