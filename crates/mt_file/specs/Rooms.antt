-- What each page of records takes.
use Rattle.std.specs.Prelude.{◌≡◌, ◌≢◌, ℕ, zero, suc, ◌+◌, ◌-◌, ◌*◌, ◌/◌, ◌<◌, ◌≤◌, max, List, length, ◌==◌, if◌then◌else◌}
use Rattle.std.proofs.Math.ListN.{get_or}
use Rattle.mt_base.specs.declared.limits.TheConstants.{MAX_PAGES}
use Rattle.mt_file.specs.declared.rooms.TheConstants.{LEAVES}
use Rattle.mt_space.specs.Changes.{PageBytes}
use Rattle.mt_slots.specs.Page.{count, live_slots, room_of}
use Rattle.mt_space.specs.Kinds.{kind}

-- the bytes of the longest record that fits: a new slot takes 4 if none is empty
unfoldable pub fits_of : List ℕ → ℕ
fits_of page = if live_slots page (count page) == count page then room_of page - 4 else room_of page

-- what a page of this kind with these bytes takes: nothing if it does not hold records
pub record IsRoom (kind : ℕ) (bytes : List ℕ) (room : ℕ) : Type 0 where
  pub records : kind ≡ 3 → room ≡ fits_of bytes
  pub others : kind ≢ 3 → room ≡ 0

-- the page takes a record of so many bytes
abbrev pub Takes : List ℕ → ℕ → ℕ → Type 0
Takes fits bytes p = (p < length fits) × (bytes ≤ get_or fits p 0)

-- the index beside the pages: what each page of records takes, and 0 for each other page
pub record AreRooms (fits : List ℕ) (pages : PageBytes) : Type 0 where
  pub records : (p : ℕ) → p < length fits → kind pages p ≡ 3 → get_or fits p 0 ≡ fits_of (pages p)
  pub others : (p : ℕ) → p < length fits → kind pages p ≢ 3 → get_or fits p 0 ≡ 0

-- ---- the tree

-- node i is the larger of its two children
abbrev pub IsMax : List ℕ → ℕ → Type 0
IsMax tree i = get_or tree i 0 ≡ max (get_or tree (2 * i) 0) (get_or tree (2 * i + 1) 0)

-- each node but one
abbrev pub IsTreeBut : List ℕ → ℕ → Type 0
IsTreeBut tree but = (i : ℕ) → 1 ≤ i → i < LEAVES → i ≢ but → IsMax tree i

-- A tree over the pages: the leaves, from 4096 on, are what each page takes.
pub record IsKept (fits tree : List ℕ) : Type 0 where
  pub few : length fits ≤ MAX_PAGES
  pub size : length tree ≡ 2 * LEAVES
  pub nodes : (i : ℕ) → 1 ≤ i → i < LEAVES → IsMax tree i
  pub leaves : (p : ℕ) → p < LEAVES → get_or tree (LEAVES + p) 0 ≡ get_or fits p 0

-- ---- a walk through the tree

-- the node so many steps above a leaf
abbrev pub above : ℕ → ℕ → ℕ
above zero leaf = leaf
above (suc height) leaf = above height leaf / 2

-- each leaf, from this one on, that stands before a node of this height has less
abbrev pub IsPassed : List ℕ → ℕ → ℕ → ℕ → ℕ → Type 0
IsPassed tree from least height node =
    (i : ℕ) → from ≤ i → i < 2 * LEAVES → above height i < node → get_or tree i 0 < least

-- So it is for a node of some height, which stands after what is above the leaf before this one, and no further than
-- what is above the last leaf.
pub record IsPassedTo (tree : List ℕ) (from least node : ℕ) : Type 0 where
  pub height : ℕ
  pub low : above height (from - 1) < node
  pub high : node ≤ above height (2 * LEAVES - 1)
  pub before : IsPassed tree from least height node

-- the first leaf, from this one on, that has so much
pub record IsFirstLeaf (tree : List ℕ) (from least leaf : ℕ) : Type 0 where
  pub behind : from ≤ leaf
  pub there : leaf < 2 * LEAVES
  pub enough : least ≤ get_or tree leaf 0
  pub first : (i : ℕ) → from ≤ i → i < leaf → get_or tree i 0 < least

-- no leaf from this one on has so much
abbrev pub HasNone : List ℕ → ℕ → ℕ → Type 0
HasNone tree from least = (i : ℕ) → from ≤ i → i < 2 * LEAVES → get_or tree i 0 < least
