-- What the gathering of a relation's names answers.
use Rattle.std.specs.Prelude.{ℕ, zero, suc, ◌≡◌, ◌<◌, ◌≤◌, ◌^◌, ◌⊎◌, ◌++◌, ◌↔◌, List, [], Option, Some, Contains, cond, ltb}
use Rattle.std.specs.List.{filter_map}
use Rattle.mt_base.specs.declared.modes.Mode.{Mode}
use Rattle.mt_base.specs.declared.modes.Mode.TheVariants.{Read}
use Rattle.mt_base.specs.declared.numbers.RecordName.{RecordName}
use Rattle.mt_bucket.specs.Entries.{Entry, look, name_under}
use Rattle.mt_bucket.specs.Page.{depth_of}
use Rattle.mt_space.specs.Changes.{PageBytes, Agrees}
use Rattle.mt_space.specs.Kinds.{kind}
use Rattle.mt_index.specs.Answers.{InMaps, Asks}
use Rattle.mt_index.specs.Index.{Linked, entries_of, named}
use Rattle.mt_index.specs.Maps.{Map, Once}
use Rattle.mt_index.specs.Pages.{node_of, state_of, AreMap}
use Rattle.mt_index.specs.declared.answers.Gathered.{Gathered}
use Rattle.mt_index.specs.declared.answers.Gathered.TheVariants as gathered
use Rattle.mt_index.specs.declared.answers.Names.{Names}
use Rattle.mt_index.specs.declared.answers.Names.TheVariants as answer
use Rattle.mt_index.specs.declared.record_names.Gathering.{Gathering}

-- the directory and the pages of buckets are read
abbrev pub IsInIndex : PageBytes → ℕ → Mode → Type 0
IsInIndex pages p mode = ((p ≡ 1) ⊎ (kind pages p ≡ 2)) × (mode ≡ Read)

-- the page that it needs, which it needs for read
abbrev pub NamesNeed : Names → (ℕ → Mode → Type 0) → Type 0
NamesNeed (answer.Need p) P = P p Read
NamesNeed _ P = Unit {0}

abbrev pub IfNamed : Names → Type 0 → Type 0
IfNamed answer.Named P = P
IfNamed _ P = Unit {0}

abbrev pub NamesEndless : Names → Type 0 → Type 0
NamesEndless answer.Endless P = P
NamesEndless _ P = Unit {0}

-- a name is one of these just if a key of the relation has it
abbrev pub AreNames : ℕ → Map → List RecordName → Type 0
AreNames r m names = (n : RecordName) → Contains names n ↔ ((k : List ℕ) × (m r k ≡ Some n))

-- the names of a relation in entries, in their order
abbrev pub names_in : ℕ → List Entry → List RecordName
names_in r es = filter_map (name_under r) es

-- they are those of the map's entries, of which each key has one
pub record AreNamesOnce (r : ℕ) (m : Map) (names : List RecordName) : Type 0 where
  pub entries : List Entry
  pub once : Once entries
  pub map : (q : ℕ) (k : List ℕ) → look q k entries ≡ m q k
  pub same : names ≡ names_in r entries

-- ---- bucket after bucket

-- the entries of the bucket that pointer i names, if it is the bucket's first one
abbrev pub bucket_entries : PageBytes → (ℕ → List ℕ) → ℕ → List Entry
bucket_entries pages chain i =
    cond (ltb i (2 ^ depth_of (pages (named (state_of pages) i))))
    (entries_of (λ n. node_of (pages n)) (chain (named (state_of pages) i))) []

-- those of all buckets that the first i pointers name, each bucket's once
abbrev pub entries_before : PageBytes → (ℕ → List ℕ) → ℕ → List Entry
entries_before pages chain zero = []
entries_before pages chain (suc i) = entries_before pages chain i ++ bucket_entries pages chain i

-- these are the names of the relation in the buckets that the pointers before its own one name
abbrev pub IsGatheredTo : (ℕ → Option (List ℕ)) → ℕ → ℕ → Gathering → Type 0
IsGatheredTo at_hand total r gathering =
    (pages : PageBytes) → Agrees at_hand pages → (m : Map) → (a : AreMap total pages m)
    → gathering.names.items ≡ names_in r (entries_before pages a.index.tree.chain gathering.pointer)

-- ---- one bucket

-- the names in the pages from b on are there after the old ones
abbrev pub HasChain : ℕ → ℕ → List RecordName → List RecordName → PageBytes → Type 0
HasChain b r old new pages =
    (chain : List ℕ) → Linked (λ n. node_of (pages n)) b chain
    → new ≡ old ++ names_in r (entries_of (λ n. node_of (pages n)) chain)

-- those of the bucket b, if pointer i is its first one
abbrev pub HasBucket : ℕ → ℕ → ℕ → List RecordName → List RecordName → PageBytes → Type 0
HasBucket b i r old new pages =
    ((2 ^ depth_of (pages b) ≤ i) × (new ≡ old)) ⊎ ((i < 2 ^ depth_of (pages b)) × HasChain b r old new pages)

-- these are the old ones, and maybe more after them
abbrev pub GrowsTo : List RecordName → List RecordName → Type 0
GrowsTo old new = (more : List RecordName) × (new ≡ old ++ more)

-- it holds unless all pages of a bucket were gathered
abbrev pub UnlessWhole : Gathered → Type 0 → Type 0
UnlessWhole gathered.Whole P = Unit {0}
UnlessWhole _ P = P

-- a page is needed, or this holds of all pages that are a map
abbrev pub Gathers : (ℕ → Option (List ℕ)) → ℕ → (PageBytes → Type 0) → Gathered → Type 0
Gathers at_hand total P (gathered.Need p) = Asks at_hand total IsInIndex p Read
Gathers at_hand total P gathered.Whole = InMaps at_hand total (λ pages m. P pages)
Gathers at_hand total P gathered.Endless = InMaps at_hand total (λ pages m. ⊥)
