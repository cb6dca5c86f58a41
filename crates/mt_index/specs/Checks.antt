-- What a reading of any pages finds out: whether they are an index, each byte of it.
use Rattle.std.specs.Prelude.{ℕ, ◌≡◌, ◌≢◌, ◌⊎◌, ◌+◌, ◌*◌, ◌^◌, ◌%◌, ◌≤◌, ◌<◌, true, List, [], ◌∷◌, length, Option, Some, None}
use Rattle.std.proofs.Math.ListN.{get_or}
use Rattle.std.specs.Borrow.{Bor}
use Rattle.std.specs.Cmp.Lexicographic.{slice_cmp}
use Rattle.std.specs.Ordering.{nat_cmp, ordering_then}
use Rattle.std.specs.BTreeMap.{BTreeMap, get_by}
use Rattle.mt_bucket.specs.declared.heads.TheConstants.{CELL_BYTES, HEAD_BYTES}
use Rattle.mt_base.specs.declared.limits.TheConstants.{PAGE_BYTES}
use Rattle.mt_bucket.specs.Entries.{Entry, is_at, look}
use Rattle.mt_bucket.specs.Hash.{hash}
use Rattle.mt_bucket.specs.Page.{depth_of, next_of, count_of, cell, entry_of, entries, IsBucket, IsFirst}
use Rattle.mt_space.specs.Changes.{PageBytes}
use Rattle.mt_space.specs.Kinds.{kind}
use Rattle.mt_index.specs.Maps.{Map, Each}
use Rattle.mt_index.specs.Index.{Linked}
use Rattle.mt_index.specs.Steps.{Walk}
use Rattle.mt_index.specs.Pages.{depth_in, pointer_at, node_of, AreMap, IsOn, AreFormed}

-- pages in a row, each whole, and no more than the space map has bytes
pub record AreWhole (pages : List (List ℕ)) : Type 0 where
  pub some : 2 ≤ length pages
  pub few : length pages ≤ PAGE_BYTES
  pub each : (p : ℕ) → p < length pages → length (get_or pages p []) ≡ PAGE_BYTES

-- So many pages are an index, well formed in each byte; each bucket page stands in the chain of some key.
pub record IsSound (relations total : ℕ) (pages : PageBytes) : Type 0 where
  pub formed : AreFormed relations total pages
  pub meaning : Map
  pub map : AreMap total pages meaning

-- ---- the parts of it that are looked at one after the other

-- the space map has pages 0 and 1 as fixed ones, and none past the last
pub record AreKinds (total : ℕ) (pages : PageBytes) : Type 0 where
  pub few : total ≤ PAGE_BYTES
  pub space_fixed : kind pages 0 ≡ 1
  pub directory_fixed : kind pages 1 ≡ 1
  pub within : (p : ℕ) → kind pages p ≢ 0 → p < total

abbrev pub AreBuckets : ℕ → ℕ → PageBytes → Type 0
AreBuckets relations total pages = (p : ℕ) → kind pages p ≡ 2 → IsBucket relations total (pages p)

-- pointer i names a bucket that is no deeper than the directory, and just the pointers of its pattern do
abbrev pub IsPattern : List ℕ → ℕ → ℕ → ℕ → Type 0
IsPattern directory i b l = (j : ℕ) → j < 2 ^ depth_in directory
    → ((pointer_at directory j ≡ b) → (j % 2 ^ l ≡ i % 2 ^ l))
    × ((j % 2 ^ l ≡ i % 2 ^ l) → (pointer_at directory j ≡ b))

pub record IsPointer (pages : PageBytes) (i : ℕ) : Type 0 where
  pub bucket : kind pages (pointer_at (pages 1) i) ≡ 2
  pub shallow : depth_of (pages (pointer_at (pages 1) i)) ≤ depth_in (pages 1)
  pub pattern : IsPattern (pages 1) i (pointer_at (pages 1) i) (depth_of (pages (pointer_at (pages 1) i)))

-- a bucket page names a bucket page as the next one of its chain, or none; so does each
abbrev pub HasNext : PageBytes → ℕ → Type 0
HasNext pages p = next_of (pages p) ≢ 0 → kind pages (next_of (pages p)) ≡ 2

abbrev pub AreNexts : PageBytes → Type 0
AreNexts pages = (p : ℕ) → kind pages p ≡ 2 → HasNext pages p

abbrev pub ArePointers : PageBytes → Type 0
ArePointers pages = (i : ℕ) → i < 2 ^ depth_in (pages 1) → IsPointer pages i

-- a page of the bucket b is marked with it
pub record IsMember (pages : PageBytes) (homes : List ℕ) (b n : ℕ) : Type 0 where
  pub home : get_or homes n 0 ≡ b
  pub kind : kind pages n ≡ 2
  pub level : depth_of (pages n) ≡ depth_of (pages b)

-- all pages of the bucket b are
pub record IsMarked (pages : PageBytes) (homes : List ℕ) (b : ℕ) : Type 0 where
  pub chain : List ℕ
  pub linked : Linked (λ n. node_of (pages n)) b chain
  pub each : Each (IsMember pages homes b) chain

-- the buckets of the first pointers are marked, and no other page is
pub record AreMarked (pages : PageBytes) (homes : List ℕ) (done : ℕ) : Type 0 where
  pub each : (i : ℕ) → i < done → IsMarked pages homes (pointer_at (pages 1) i)
  pub back : (n : ℕ) → get_or homes n 0 ≢ 0 → (i : ℕ) × (i < done) × (get_or homes n 0 ≡ pointer_at (pages 1) i)
      × IsOn pages (pointer_at (pages 1) i) n

-- the marks of the bucket b are new, and all others as before
abbrev pub Marks : PageBytes → ℕ → List ℕ → List ℕ → Type 0
Marks pages b old new =
    (n : ℕ) → (get_or new n 0 ≡ get_or old n 0) ⊎ ((get_or old n 0 ≡ 0) × (get_or new n 0 ≡ b) × IsOn pages b n)

-- a bucket's page of this depth that has no mark, and one of another depth or with a mark
abbrev pub CanFollow : ℕ → PageBytes → List ℕ → ℕ → ℕ → Type 0
CanFollow total pages homes p l = (kind pages p ≡ 2) × (p < total) × (depth_of (pages p) ≡ l) × (get_or homes p 0 ≡ 0)

abbrev pub CannotFollow : PageBytes → List ℕ → ℕ → ℕ → Type 0
CannotFollow pages homes p l = (depth_of (pages p) ≢ l) ⊎ (get_or homes p 0 ≢ 0)

-- the walk along a bucket comes to a page that cannot be the bucket's next one
pub record IsStuck (total : ℕ) (pages : PageBytes) (homes : List ℕ) (b p : ℕ) : Type 0 where
  pub front : List ℕ
  pub walk : Walk (λ n. node_of (pages n)) b front p
  pub real : p ≢ 0
  pub cause : (depth_of (pages p) ≢ depth_of (pages b))
      ⊎ ((get_or homes p 0 ≢ 0) ⊎ ((Each (λ n. n ≢ p) front → ⊥) ⊎ (total ≤ length front)))

-- no page from this one on has the key
abbrev pub LacksFrom : PageBytes → ℕ → ℕ → List ℕ → Type 0
LacksFrom pages p r k =
    (ns : List ℕ) → Linked (λ n. node_of (pages n)) p ns → Each (λ n. look r k (entries (pages n)) ≡ None) ns

-- the chain from this page on comes to an end
pub record IsFinite (total : ℕ) (pages : PageBytes) (p : ℕ) : Type 0 where
  pub chain : List ℕ
  pub linked : Linked (λ n. node_of (pages n)) p chain
  pub within : Each (λ n. n < total) chain
  pub few : length chain ≤ total

abbrev pub entry_at : List ℕ → ℕ → Entry
entry_at page i = entry_of (cell page (HEAD_BYTES + CELL_BYTES * i))

-- the entry is in the bucket of its hash, and its key in no other entry from there on
pub record IsAlone (pages : PageBytes) (home p i : ℕ) : Type 0 where
  pub own : pointer_at (pages 1) (hash (entry_at (pages p) i).key % 2 ^ depth_in (pages 1)) ≡ home
  pub first : IsFirst (entry_at (pages p) i).relation (entry_at (pages p) i).key (pages p) i
  pub behind : LacksFrom pages (next_of (pages p)) (entry_at (pages p) i).relation (entry_at (pages p) i).key

-- each entry of the page is
abbrev pub AreAlone : PageBytes → ℕ → ℕ → Type 0
AreAlone pages home p = (i : ℕ) → i < count_of (pages p) → IsAlone pages home p i

-- a page stands in a bucket, and so does each of its entries
pub record IsSettled (pages : PageBytes) (homes : List ℕ) (p : ℕ) : Type 0 where
  pub home : get_or homes p 0 ≢ 0
  pub each : AreAlone pages (get_or homes p 0) p

-- a bucket page stands in a bucket, and if that begins with it, all pages there are settled
pub record IsBegun (pages : PageBytes) (homes : List ℕ) (p : ℕ) : Type 0 where
  pub home : get_or homes p 0 ≢ 0
  pub bucket : get_or homes p 0 ≡ p → (n : ℕ) → get_or homes n 0 ≡ p → IsSettled pages homes n

abbrev pub Settles : PageBytes → List ℕ → ℕ → Type 0
Settles pages homes p = kind pages p ≡ 2 → IsBegun pages homes p

-- ---- a walk along a bucket, which notes the page of each relation and key

-- the page that is noted of a relation and a key
abbrev pub holder_in : BTreeMap (ℕ × Bor (List ℕ)) ℕ → ℕ → List ℕ → Option ℕ
holder_in holders r k = get_by (λ q. ordering_then (nat_cmp r q.0) (slice_cmp nat_cmp k q.1.now)) holders

-- a number stands in a list
abbrev pub IsIn : ℕ → List ℕ → Type 0
IsIn n [] = ⊥
IsIn n (x ∷ xs) = (x ≡ n) ⊎ IsIn n xs

-- an entry is past: one of a page before this one, or one of the first i of this one
abbrev pub IsPast : PageBytes → List ℕ → ℕ → ℕ → ℕ → ℕ → Type 0
IsPast pages front at i n j = (IsIn n front × (j < count_of (pages n))) ⊎ ((n ≡ at) × (j < i))

-- an entry is in the bucket of its hash, no other of its page before it has its key, and its page is noted
pub record IsNoted (pages : PageBytes) (b : ℕ) (holders : ℕ → List ℕ → Option ℕ) (n j : ℕ) : Type 0 where
  pub own : pointer_at (pages 1) (hash (entry_at (pages n) j).key % 2 ^ depth_in (pages 1)) ≡ b
  pub first : IsFirst (entry_at (pages n) j).relation (entry_at (pages n) j).key (pages n) j
  pub page : holders (entry_at (pages n) j).relation (entry_at (pages n) j).key ≡ Some n

-- the walk along the bucket b has passed some pages, and the first i entries of the next one; just these are noted
pub record ArePassed (pages : PageBytes) (b at i : ℕ) (holders : ℕ → List ℕ → Option ℕ) : Type 0 where
  pub front : List ℕ
  pub walk : Walk (λ n. node_of (pages n)) b front at
  pub each : (n j : ℕ) → IsPast pages front at i n j → IsNoted pages b holders n j
  pub back : (r : ℕ) (k : List ℕ) (n : ℕ) → holders r k ≡ Some n
      → (j : ℕ) × IsPast pages front at i n j × (is_at r k (entry_at (pages n) j) ≡ true)

-- a page of the bucket b has an entry that is not alone
abbrev pub IsMisplaced : PageBytes → ℕ → ℕ → Type 0
IsMisplaced pages b p = IsOn pages b p × (AreAlone pages b p → ⊥)
