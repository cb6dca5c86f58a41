-- A table of the places of pages among copies.
use Rattle.std.specs.Prelude.{◌≢◌, ◌<◌, ℕ, List}
use Rattle.std.proofs.Math.ListN.{get_or}
use Rattle.mt_base.specs.declared.limits.TheConstants.{MAX_PAGES}
use Rattle.mt_overlay.specs.declared.overlay.PageCopy.{PageCopy}
use Rattle.mt_overlay.specs.Overlays.{IsCopyAt}

-- the first copy of each page stands at the place that the table has for it; 65535 is no place
abbrev pub ArePlaced : List PageCopy → List ℕ → Type 0
ArePlaced copies places =
    (p : ℕ) → p < MAX_PAGES → get_or places p 0 ≢ 65535 → IsCopyAt copies p (get_or places p 0)
