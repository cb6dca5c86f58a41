-- An area that begins with images of pages.
use Rattle.std.specs.Prelude.{◌≡◌, ◌<◌, ◌≤◌, ℕ, List, length, take, get_or, Bool, true, false, IsSome}
use Rattle.mt_frame.specs.declared.records.Record.{Record}
use Rattle.mt_frame.specs.declared.records.Record.TheVariants.{Page, OpEnd, OpDropped, Commit, AbortEnd}
use Rattle.mt_area_rules.specs.History.{some_record, is_of_page}
use Rattle.mt_pool.specs.Images.{Carried, has_image}
use Rattle.mt_pool.specs.Kept.{carried}
use Rattle.mt_pool.specs.Views.{pages, waits_for}
use Rattle.mt_pool.specs.declared.pool.Pool.{Pool}

-- an image of one of the device's pages, and nothing else
abbrev pub IsImageOnly : ℕ → Record → Type 0
IsImageOnly count (Page txn op page image start old new) = (txn ≡ 0) × (page < count) × IsSome image
IsImageOnly count (OpEnd txn op undoes done) = ⊥
IsImageOnly count (OpDropped txn op) = ⊥
IsImageOnly count (Commit txn) = ⊥
IsImageOnly count (AbortEnd txn) = ⊥

-- the pool knows of these records of each page whether there is one, and one of its images
pub record KnowsImages (pool : Pool) (records : List Record) : Type 0 where
  pub some : (p : ℕ) → p < pages pool → 0 < waits_for pool p
      → has_image (take (waits_for pool p) (carried records)) p ≡ true
  pub within : (p : ℕ) → p < pages pool → waits_for pool p ≤ length records
  pub none : (p : ℕ) → p < pages pool → waits_for pool p ≡ 0
      → (has_image (carried records) p ≡ false) × (some_record (is_of_page p) records ≡ false)

-- the pages that are marked have an image
abbrev pub AreImaged : List Bool → List Carried → Type 0
AreImaged imaged images = (p : ℕ) → get_or imaged p false ≡ true → has_image images p ≡ true
