-- Pages as a device is formatted with them.
use Rattle.std.specs.Prelude.{◌≡◌, ◌≢◌, ℕ, [], length, None}
use Rattle.mt_base.specs.declared.limits.TheConstants.{PAGE_BYTES}
use Rattle.mt_bucket.specs.Page.{IsBucket}
use Rattle.mt_space.specs.Changes.{PageBytes}
use Rattle.mt_space.specs.Kinds.{kind, IsMap}
use Rattle.mt_index.specs.Pages.{IsDirectory, IsEmpty}
use Rattle.mt_rows.proofs.Listings.{listed}
use Rattle.mt_model.specs.Model.{Base}
use Rattle.mt_counters.specs.Counters.{count_in, AreCounters}

-- an index without entries, no page of records, and the counters on page 2
pub record IsFormatted (relations counters total : ℕ) (pages : PageBytes) : Type 0 where
  pub map : length (pages 0) ≡ PAGE_BYTES
  pub index : IsEmpty total pages
  pub directory : IsDirectory (pages 1)
  pub bucket : IsBucket relations total (pages 3)
  pub one_bucket : (p : ℕ) → kind pages p ≡ 2 → p ≡ 3
  pub no_records : (p : ℕ) → kind pages p ≢ 3
  pub kinds : IsMap total pages
  pub counts : AreCounters relations counters (pages 2)

-- the base without rows, with the counters of page 2
abbrev pub first_base : PageBytes → Base
first_base pages = record { rows = λ r k. None; counts = count_in (pages 2); listing = listed [] }
