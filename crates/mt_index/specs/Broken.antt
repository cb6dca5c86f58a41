-- The rules of an index that one of its pages can break.
use Rattle.std.specs.Prelude.{ℕ, ◌≡◌, ◌≢◌, ◌⊎◌, ◌^◌, ◌≤◌, ◌<◌, List, length}
use Rattle.mt_bucket.specs.Page.{depth_of, count_of, IsBucket}
use Rattle.mt_space.specs.Changes.{PageBytes}
use Rattle.mt_space.specs.Kinds.{kind}
use Rattle.mt_index.specs.Maps.{Each}
use Rattle.mt_index.specs.Steps.{Walk}
use Rattle.mt_index.specs.Pages.{depth_in, pointer_at, node_of, IsDirectory, IsOn}
use Rattle.mt_index.specs.Checks.{AreKinds, ArePointers, HasNext, IsAlone}

-- A bucket's chain comes to a page that cannot stand there: it is not as deep as the first one, it stands in another
-- bucket's chain, the chain has it already, or it never ends.
pub record IsAstray (total : ℕ) (pages : PageBytes) (p : ℕ) : Type 0 where
  pub pointer : ℕ
  pub there : pointer < 2 ^ depth_in (pages 1)
  pub front : List ℕ
  pub walk : Walk (λ n. node_of (pages n)) (pointer_at (pages 1) pointer) front p
  pub real : p ≢ 0
  pub cause : (depth_of (pages p) ≢ depth_of (pages (pointer_at (pages 1) pointer)))
      ⊎ (((other : ℕ) × (other < 2 ^ depth_in (pages 1)) × (pointer_at (pages 1) other ≢ pointer_at (pages 1) pointer)
      × IsOn pages (pointer_at (pages 1) other) p)
      ⊎ ((Each (λ n. n ≢ p) front → ⊥) ⊎ (total ≤ length front)))

-- A page stands in the chain of a bucket, and each of its entries has the bucket of its hash, and its key in
-- no entry after it.
pub record IsPlaced (pages : PageBytes) (p : ℕ) : Type 0 where
  pub pointer : ℕ
  pub there : pointer < 2 ^ depth_in (pages 1)
  pub on : IsOn pages (pointer_at (pages 1) pointer) p
  pub each : (i : ℕ) → i < count_of (pages p) → IsAlone pages (pointer_at (pages 1) pointer) p i

-- A page breaks a rule of the index: as the map of the space, as the directory by its own bytes or by the buckets
-- that it names, as a bucket page by its own bytes, by the page that it names as the next one, by the chain that
-- comes to it, or by its place.
pub data IsBroken (relations total : ℕ) (pages : PageBytes) (p : ℕ) : Type 0 where
  map_broken : p ≡ 0 → (AreKinds total pages → ⊥) → IsBroken relations total pages p
  directory_broken : p ≡ 1 → (IsDirectory (pages 1) → ⊥) → IsBroken relations total pages p
  pointers_broken : p ≡ 1 → (ArePointers pages → ⊥) → IsBroken relations total pages p
  bytes_broken : kind pages p ≡ 2 → (IsBucket relations total (pages p) → ⊥) → IsBroken relations total pages p
  next_broken : kind pages p ≡ 2 → (HasNext pages p → ⊥) → IsBroken relations total pages p
  chain_broken : IsAstray total pages p → IsBroken relations total pages p
  place_broken : kind pages p ≡ 2 → (IsPlaced pages p → ⊥) → IsBroken relations total pages p
