-- What a change of a page leaves.
use Rattle.std.specs.Prelude.{◌≡◌, ℕ, ◌+◌, ◌≤◌, List, length}
use Rattle.std.proofs.Math.ListN.{get_or}
use Rattle.mt_base.specs.Ranges.{Apart}
use Rattle.mt_base.specs.declared.touched.TouchedBytes.{TouchedBytes}

-- each byte after the head that is outside of the range stays, and both are within the page
pub record TouchesOnly (touched : TouchedBytes) (old new : List ℕ) : Type 0 where
  pub size : length new ≡ length old
  pub head : touched.head ≤ length old
  pub range : touched.start + touched.count ≤ length old
  pub rest : (i : ℕ) → touched.head ≤ i → Apart touched.start touched.count i 1 → get_or new i 0 ≡ get_or old i 0
