-- How far a scan has come.
use Rattle.std.specs.Prelude.{ℕ, ◌≢◌, ◌<◌, ◌≤◌, List, Option, None, slice_index_or}
use Rattle.mt_base.specs.declared.limits.TheConstants.{MAX_PAGES}
use Rattle.mt_base.specs.declared.numbers.RecordName.{RecordName}
use Rattle.mt_index.specs.Names.{IsGatheredTo}
use Rattle.mt_steps.specs.declared.scan_progress.ScanProgress.{ScanProgress}

-- the names so far are those of its relation, by what is at hand
abbrev pub IsScannedTo : (ℕ → Option (List ℕ)) → ℕ → ScanProgress → Type 0
IsScannedTo at_hand total scan = IsGatheredTo at_hand total scan.relation scan.gathering

-- The pages of these names from one place to below another are at hand. A device has no page whose number is larger.
abbrev pub AreReady : (ℕ → Option (List ℕ)) → List RecordName → ℕ → ℕ → Type 0
AreReady at_hand names from to =
    (i : ℕ) (d : RecordName) → from ≤ i → i < to → (slice_index_or names i d).page < MAX_PAGES
    → at_hand (slice_index_or names i d).page ≢ None
