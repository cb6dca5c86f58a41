-- An index in the bytes of its pages. Page 0 has the kind of each page, page 1 is the directory.
use Rattle.std.specs.Prelude.{ℕ, zero, suc, ◌==◌, ◌&&◌, ◌⊎◌, cond, ◌≡◌, ◌≢◌, ◌+◌, ◌*◌, ◌^◌, ◌≤◌, ◌<◌, List, [], ◌∷◌, length, min}
use Rattle.std.proofs.Math.ListN.{get_or}
use Rattle.mt_base.specs.declared.limits.TheConstants.{PAGE_BYTES}
use Rattle.mt_base.specs.Ranges.{u16_at, Torn}
use Rattle.mt_bucket.specs.Entries.{Entry}
use Rattle.mt_bucket.specs.Hash.{hash, high}
use Rattle.mt_bucket.specs.Page.{depth_of, next_of, entries, IsBucket}
use Rattle.mt_space.specs.Changes.{PageBytes}
use Rattle.mt_space.specs.Kinds.{kind}
use Rattle.mt_index.specs.Maps.{Map, Each}
use Rattle.mt_index.specs.Index.{Node, State, named, IsIndex, kept_low, kept_high}
use Rattle.mt_index.specs.Steps.{Walk}

-- the bits of a hash that the directory goes by, and a pointer
abbrev pub depth_in : List ℕ → ℕ
depth_in directory = min (get_or directory 0 0) 9

abbrev pub pointer_at : List ℕ → ℕ → ℕ
pointer_at directory i = u16_at directory (8 + 2 * i)

abbrev pub pointers_from : List ℕ → ℕ → ℕ → List ℕ
pointers_from directory at zero = []
pointers_from directory at (suc n) = u16_at directory at ∷ pointers_from directory (at + 2) n

abbrev pub node_of : List ℕ → Node
node_of page = record { depth = depth_of page; next = next_of page; entries = entries page }

-- what the pages are, whatever their bytes
abbrev pub state_of : PageBytes → State
state_of pages = record {
  g = depth_in (pages 1);
  pointers = pointers_from (pages 1) 8 (2 ^ depth_in (pages 1));
  node = λ p. node_of (pages p);
  kind = λ p. kind pages p;
}

-- So many pages are this map. Pages 0 and 1 are fixed ones, so no bucket's; none is used past the last one.
pub record AreMap (total : ℕ) (pages : PageBytes) (m : Map) : Type 0 where
  pub index : IsIndex (state_of pages) m
  pub space_fixed : kind pages 0 ≡ 1
  pub directory_fixed : kind pages 1 ≡ 1
  pub within : (p : ℕ) → kind pages p ≢ 0 → p < total
  pub few : total ≤ PAGE_BYTES

-- the pages of the key's bucket before this one are so, and there are so many of them
pub record Passed (P : ℕ → Type 0) (pages : PageBytes) (key : List ℕ) (at steps : ℕ) : Type 0 where
  pub front : List ℕ
  pub walk : Walk (λ p. node_of (pages p)) (named (state_of pages) (hash key)) front at
  pub real : at ≢ 0
  pub each : Each P front
  pub long : length front ≡ steps

-- the bytes from one place up to another
abbrev pub AreZero : List ℕ → ℕ → ℕ → Type 0
AreZero page from to = (i : ℕ) → from ≤ i → i < to → get_or page i 0 ≡ 0

-- a directory page
pub record IsDirectory (page : List ℕ) : Type 0 where
  pub size : length page ≡ PAGE_BYTES
  pub shallow : get_or page 0 0 ≤ 9
  pub zeros : AreZero page 1 8
  pub rest : (i : ℕ) → 8 + 2 * 2 ^ depth_in page ≤ i → get_or page i 0 ≡ 0

-- a page stands in the chain that begins with another
pub record IsOn (pages : PageBytes) (b p : ℕ) : Type 0 where
  pub front : List ℕ
  pub walk : Walk (λ n. node_of (pages n)) b front p
  pub real : p ≢ 0

-- each bucket page stands in the chain of some key
abbrev pub AreChained : PageBytes → Type 0
AreChained pages = (p : ℕ) → kind pages p ≡ 2 → (h : ℕ) × IsOn pages (named (state_of pages) h) p

-- the index's pages are well formed, each byte of them, and each of its bucket pages stands in a chain
pub record AreFormed (relations total : ℕ) (pages : PageBytes) : Type 0 where
  pub directory : IsDirectory (pages 1)
  pub buckets : (p : ℕ) → kind pages p ≡ 2 → IsBucket relations total (pages p)
  pub chained : AreChained pages

-- one page has new bytes
pub record Turns (p : ℕ) (new : List ℕ) (pages pages2 : PageBytes) : Type 0 where
  pub here : pages2 p ≡ new
  pub others : (n : ℕ) → n ≢ p → pages2 n ≡ pages n

-- a page is taken in the map of the space
pub record TakesPage (p : ℕ) (old new : List ℕ) : Type 0 where
  pub size : length new ≡ length old
  pub taken : get_or new p 0 ≡ 2
  pub others : (q : ℕ) → q ≢ p → get_or new q 0 ≡ get_or old q 0

-- a page with this entry alone
pub record HasOne (level : ℕ) (e : Entry) (page : List ℕ) : Type 0 where
  pub size : length page ≡ PAGE_BYTES
  pub depth : depth_of page ≡ level
  pub next : next_of page ≡ 0
  pub entries : entries page ≡ e ∷ []

-- ---- a split

-- a directory of twice as many pointers, which name what they did
pub record Doubled (old new : List ℕ) : Type 0 where
  pub size : length new ≡ length old
  pub depth : depth_in new ≡ suc (depth_in old)
  pub below : (i : ℕ) → i < 2 ^ depth_in old → pointer_at new i ≡ pointer_at old i
  pub above : (i : ℕ) → i < 2 ^ depth_in old → pointer_at new (2 ^ depth_in old + i) ≡ pointer_at old i
  pub formed : IsDirectory old → IsDirectory new

-- the pointers to a page whose numbers have a bit name another, and the rest of the directory stays
pub record Redirected (from to bit : ℕ) (old new : List ℕ) : Type 0 where
  pub rest : Torn 8 (2 * 2 ^ depth_in old) old new
  pub each : (i : ℕ) → i < 2 ^ depth_in old → pointer_at new i
      ≡ cond (pointer_at old i == from && high bit i) to (pointer_at old i)

-- doubled before, just if it goes by so many bits as the bucket
pub record Rewired (from to bit : ℕ) (old new : List ℕ) : Type 0 where
  pub between : List ℕ
  pub first : ((bit ≡ depth_in old) × Doubled old between) ⊎ ((bit ≢ depth_in old) × (between ≡ old))
  pub then : Redirected from to bit between new

-- a bucket page is two: those entries whose hash has the bit that they do not share so far go to the other
pub record Parted (old low up : List ℕ) : Type 0 where
  pub low_depth : depth_of low ≡ depth_of old + 1
  pub low_next : next_of low ≡ next_of old
  pub stay : entries low ≡ kept_low (depth_of old) (entries old)
  pub up_depth : depth_of up ≡ depth_of old + 1
  pub up_next : next_of up ≡ 0
  pub go : entries up ≡ kept_high (depth_of old) (entries old)
  pub kept : (relations pages : ℕ) → IsBucket relations pages old
      → IsBucket relations pages low × IsBucket relations pages up

-- ---- what stands beside it

-- an index as a device is formatted with it: page 3 is the only bucket, and empty
pub record IsEmpty (total : ℕ) (pages : PageBytes) : Type 0 where
  pub space_fixed : kind pages 0 ≡ 1
  pub directory_fixed : kind pages 1 ≡ 1
  pub bucket : kind pages 3 ≡ 2
  pub within : (p : ℕ) → kind pages p ≢ 0 → p < total
  pub few : total ≤ PAGE_BYTES
  pub no_bits : depth_in (pages 1) ≡ 0
  pub pointer : pointer_at (pages 1) 0 ≡ 3
  pub depth : depth_of (pages 3) ≡ 0
  pub next : next_of (pages 3) ≡ 0
  pub entries : entries (pages 3) ≡ []

-- changes of pages that are none of the index's: the directory and the buckets stay, and there are no more
-- and no fewer of them
pub record LeavesIndex (total : ℕ) (pages pages2 : PageBytes) : Type 0 where
  pub directory : pages2 1 ≡ pages 1
  pub buckets : (p : ℕ) → kind pages p ≡ 2 → (kind pages2 p ≡ 2) × (pages2 p ≡ pages p)
  pub no_more : (p : ℕ) → kind pages2 p ≡ 2 → kind pages p ≡ 2
  pub fixed : (p : ℕ) → kind pages p ≡ 1 → kind pages2 p ≡ 1
  pub within : (p : ℕ) → kind pages2 p ≢ 0 → p < total
