-- What plans answer, over all pages that agree with those at hand.
use Rattle.std.specs.Prelude.{ℕ, ◌≡◌, ◌≢◌, ◌<◌, ◌≤◌, ◌⊎◌, Bool, true, false, cond, List, length, Option, Some, None, IsSome}
use Rattle.mt_bucket.specs.declared.heads.TheConstants.{MAX_ENTRIES}
use Rattle.mt_base.specs.declared.numbers.RecordName.{RecordName}
use Rattle.mt_base.specs.declared.modes.Mode.{Mode}
use Rattle.mt_base.specs.declared.modes.Mode.TheVariants.{Read, Write}
use Rattle.mt_bucket.specs.Entries.{Entry, look}
use Rattle.mt_bucket.specs.Hash.{hash, high}
use Rattle.mt_bucket.specs.Page.{depth_of, entries, next_of}
use Rattle.mt_index.specs.Maps.{Map, alter}
use Rattle.mt_space.specs.declared.changes.PageChange.{PageChange}
use Rattle.mt_index.specs.declared.answers.Amend.{Amend}
use Rattle.mt_index.specs.declared.answers.Amend.TheVariants as amend
use Rattle.mt_index.specs.Index.{kept_low, kept_high}
use Rattle.mt_index.specs.Steps.{OnChain}
use Rattle.mt_index.specs.Rule.{IsFull, MaySplit, IsSmallest, Way}
use Rattle.mt_space.specs.Changes.{PageBytes, Agrees, after, IsUntouched, AreShort}
use Rattle.mt_space.specs.Kinds.{kind}
use Rattle.mt_index.specs.Pages.{state_of, AreMap, Passed, AreFormed}
use Rattle.mt_index.specs.declared.answers.Find.{Find}
use Rattle.mt_index.specs.declared.answers.Find.TheVariants as find
use Rattle.mt_index.specs.declared.answers.Spot.{Spot}
use Rattle.mt_index.specs.declared.answers.Spot.TheVariants as spot
use Rattle.mt_index.specs.declared.answers.Add.{Add}
use Rattle.mt_index.specs.declared.answers.Add.TheVariants as add
use Rattle.mt_index.specs.declared.answers.Held.{Held}
use Rattle.mt_index.specs.declared.answers.Held.TheVariants as held
use Rattle.mt_index.specs.declared.answers.Search.{Search}
use Rattle.mt_index.specs.declared.answers.Search.TheVariants as search

-- it holds of all pages that agree with those at hand and are a map
abbrev pub InMaps : (ℕ → Option (List ℕ)) → ℕ → (PageBytes → Map → Type 0) → Type 0
InMaps at_hand total P = (pages : PageBytes) → Agrees at_hand pages → (m : Map) → AreMap total pages m → P pages m

-- the directory is read; a page on the key's chain is locked as the plan says
abbrev pub IsInBucket : List ℕ → Mode → PageBytes → ℕ → Mode → Type 0
IsInBucket key in_bucket pages p mode =
    ((p ≡ 1) × (mode ≡ Read)) ⊎ ((kind pages p ≡ 2) × (mode ≡ in_bucket) × OnChain (state_of pages) key p)

-- a page is needed that is not at hand
pub record Asks (at_hand : ℕ → Option (List ℕ)) (total : ℕ) (Role : PageBytes → ℕ → Mode → Type 0) (p : ℕ)
    (mode : Mode) : Type 0 where
  pub missing : at_hand p ≡ None
  pub role : InMaps at_hand total (λ pages m. Role pages p mode)

-- ---- a find

-- the page that it needs, which it needs for read
abbrev pub FindNeeds : Find → (ℕ → Mode → Type 0) → Type 0
FindNeeds (find.Need p) P = P p Read
FindNeeds _ P = Unit {0}

abbrev pub IfFound : Find → (RecordName → Type 0) → Type 0
IfFound (find.Found name) P = P name
IfFound _ P = Unit {0}

abbrev pub IfMissing : Find → Type 0 → Type 0
IfMissing find.Missing P = P
IfMissing _ P = Unit {0}

abbrev pub IfEndless : Find → Type 0 → Type 0
IfEndless find.Endless P = P
IfEndless _ P = Unit {0}

-- ---- the page of a key's entry

-- the page's entries do not have the key
abbrev pub Lacks : ℕ → List ℕ → PageBytes → ℕ → Type 0
Lacks r k pages p = look r k (entries (pages p)) ≡ None

-- an entry of the key is in this page, the first of its bucket that has one
pub record Holds (r : ℕ) (k : List ℕ) (pages : PageBytes) (p : ℕ) (name : RecordName) : Type 0 where
  pub steps : ℕ
  pub passed : Passed (Lacks r k pages) pages k p steps
  pub here : look r k (entries (pages p)) ≡ Some name

-- the key's bucket has this page, and those before it have no entry of the key
abbrev pub IsSearchedTo : (ℕ → Option (List ℕ)) → ℕ → ℕ → List ℕ → ℕ → Type 0
IsSearchedTo at_hand total r k p =
    InMaps at_hand total (λ pages m. ∥ ((steps : ℕ) × Passed (Lacks r k pages) pages k p steps) ∥₁)

-- how far the search for a key has come is so in all maps that agree with what is at hand
abbrev pub IsSearched : (ℕ → Option (List ℕ)) → ℕ → ℕ → List ℕ → Search → Type 0
IsSearched at_hand total r k search.Start = Unit {0}
IsSearched at_hand total r k (search.At p) = IsSearchedTo at_hand total r k p
IsSearched at_hand total r k (search.Found name) = InMaps at_hand total (λ pages m. m r k ≡ Some name)

-- what the walk along a key's bucket comes to: a page that is needed, the page that has the key's entry, or that none
-- has it
abbrev pub FindsHolder : (ℕ → Option (List ℕ)) → ℕ → ℕ → List ℕ → Mode → Held → Type 0
FindsHolder at_hand total r k in_bucket (held.Need p mode) = Asks at_hand total (IsInBucket k in_bucket) p mode
FindsHolder at_hand total r k in_bucket (held.In p name) =
    (at_hand p ≡ None → ⊥) × InMaps at_hand total (λ pages m. Holds r k pages p name)
FindsHolder at_hand total r k in_bucket held.Nowhere = InMaps at_hand total (λ pages m. m r k ≡ None)
FindsHolder at_hand total r k in_bucket held.Endless = InMaps at_hand total (λ pages m. ⊥)

abbrev pub HeldNeeds : Held → (ℕ → Type 0) → Type 0
HeldNeeds (held.Need p mode) P = P p
HeldNeeds _ P = Unit {0}

-- what a find comes to: a page that is needed, the name under the key, or that there is none
abbrev pub FindsName : (ℕ → Option (List ℕ)) → ℕ → ℕ → List ℕ → Find → Type 0
FindsName at_hand total r k (find.Need p) = Asks at_hand total (IsInBucket k Read) p Read
FindsName at_hand total r k (find.Found name) = InMaps at_hand total (λ pages m. m r k ≡ Some name)
FindsName at_hand total r k find.Missing = InMaps at_hand total (λ pages m. m r k ≡ None)
FindsName at_hand total r k find.Endless = InMaps at_hand total (λ pages m. ⊥)

-- ---- a change of one entry

abbrev pub AmendNeeds : Amend → (ℕ → Mode → Type 0) → Type 0
AmendNeeds (amend.Need p mode) P = P p mode
AmendNeeds _ P = Unit {0}

abbrev pub IfAmended : Amend → (List PageChange → Type 0) → Type 0
IfAmended (amend.Changes changes) P = P changes.list.items
IfAmended _ P = Unit {0}

abbrev pub AmendMissing : Amend → Type 0 → Type 0
AmendMissing amend.Missing P = P
AmendMissing _ P = Unit {0}

abbrev pub AmendEndless : Amend → Type 0 → Type 0
AmendEndless amend.Endless P = P
AmendEndless _ P = Unit {0}

-- the entry of a key is there, and is the one that changes, in one page of a bucket
pub record Amends (total : ℕ) (pages : PageBytes) (changes : List PageChange) (m : Map) (r : ℕ) (k : List ℕ)
    (name : Option RecordName) : Type 0 where
  pub there : (old : RecordName) × (m r k ≡ Some old)
  pub map : AreMap total (after changes pages) (alter m r k name)
  pub others : (p : ℕ) → kind pages p ≢ 2 → after changes pages p ≡ pages p
  pub one : length changes ≤ 1
  pub short : AreShort changes pages

-- ---- the place of a new entry

-- a page of the key's bucket has room, and those before it are full
pub record HasRoom (key : List ℕ) (pages : PageBytes) (p : ℕ) : Type 0 where
  pub steps : ℕ
  pub passed : Passed (IsFull (state_of pages)) pages key p steps
  pub room : length (entries (pages p)) < MAX_ENTRIES

-- every page of the key's bucket is full; this is the last of them
pub record IsEnd (key : List ℕ) (pages : PageBytes) (p : ℕ) (alone : Bool) : Type 0 where
  pub steps : ℕ
  pub passed : Passed (IsFull (state_of pages)) pages key p steps
  pub full : IsFull (state_of pages) p
  pub last : next_of (pages p) ≡ 0
  pub one : alone ≡ true → steps ≡ 0
  pub more : alone ≡ false → 0 < steps

-- what the walk for a new entry comes to: a page that is needed, the first with room, or the last of those that are
-- full
abbrev pub FindsSpot : (ℕ → Option (List ℕ)) → ℕ → List ℕ → Spot → Type 0
FindsSpot at_hand total k (spot.Need p mode) = Asks at_hand total (IsInBucket k Write) p mode
FindsSpot at_hand total k (spot.In p) = InMaps at_hand total (λ pages m. HasRoom k pages p)
FindsSpot at_hand total k (spot.Behind last alone) = InMaps at_hand total (λ pages m. IsEnd k pages last alone)
FindsSpot at_hand total k spot.Endless = InMaps at_hand total (λ pages m. ⊥)

-- ---- an add

-- pages that are not taken keep their kind, and those that are no bucket's keep their bytes, but for
-- the map of the space and the directory; a page that is taken was free, and is a bucket's
pub record Stays (total : ℕ) (pages pages2 : PageBytes) : Type 0 where
  pub size : length (pages2 0) ≡ length (pages 0)
  pub kinds : (p : ℕ) → kind pages p ≢ 0 → kind pages2 p ≡ kind pages p
  pub taken : (p : ℕ) → kind pages p ≡ 0 → kind pages2 p ≢ 0 → (kind pages2 p ≡ 2) × (p < total)
  pub bytes : (p : ℕ) → p ≢ 0 → p ≢ 1 → kind pages2 p ≢ 2 → pages2 p ≡ pages p

-- an entry fits a schema of so many relations and pages
pub record Fits (relations total : ℕ) (e : Entry) : Type 0 where
  pub relation : e.relation < relations
  pub some : 1 ≤ length e.key
  pub place : e.name.page < total

-- the pages change by the rule
pub record Added (split : Bool) (total : ℕ) (e : Entry) (pages pages2 : PageBytes) : Type 0 where
  pub way : Way split e (state_of pages) (state_of pages2)
  pub stays : Stays total pages pages2
  pub directory : split ≡ false → pages2 1 ≡ pages 1
  pub formed : (relations : ℕ) → Fits relations total e → AreFormed relations total pages
      → AreFormed relations total pages2

-- at most five pages change, each once
pub record Adds (split : Bool) (total : ℕ) (e : Entry) (pages : PageBytes) (changes : List PageChange) : Type 0 where
  pub added : Added split total e pages (after changes pages)
  pub few : length changes ≤ 5
  pub short : AreShort changes pages

-- no page is free, or just this one
abbrev pub HasNoneFree : ℕ → PageBytes → Type 0
HasNoneFree total pages = (p : ℕ) → p < total → kind pages p ≢ 0

pub record HasOneFree (total : ℕ) (pages : PageBytes) (q : ℕ) : Type 0 where
  pub free : kind pages q ≡ 0
  pub within : q < total
  pub others : (p : ℕ) → p < total → p ≢ q → kind pages p ≢ 0

-- a split takes no entry away from the new one's side
abbrev pub IsLopsided : Entry → PageBytes → ℕ → Type 0
IsLopsided e pages b = length (cond (high (depth_of (pages b)) (hash e.key))
    (kept_high (depth_of (pages b)) (entries (pages b))) (kept_low (depth_of (pages b)) (entries (pages b)))) ≡ 58

-- The key's bucket has no room, and no page is free; or one is, and the entry wants it split and a page more.
pub record Shortage (split : Bool) (total : ℕ) (e : Entry) (pages : PageBytes) : Type 0 where
  pub last : ℕ
  pub alone : Bool
  pub full : IsEnd e.key pages last alone
  pub free : HasNoneFree total pages ⊎ ((split ≡ true) × (MaySplit e.key (state_of pages)
      × (((q : ℕ) × HasOneFree total pages q) × IsLopsided e pages last)))

-- besides the pages of the bucket: the map of the space, the directory if a split may change it, and pages to be
-- taken are needed, to be written
abbrev pub IsInAdd : Bool → List ℕ → ℕ → PageBytes → ℕ → Mode → Type 0
IsInAdd split key total pages p mode =
    IsInBucket key Write pages p mode
    ⊎ (((p ≡ 0) ⊎ (((p ≡ 1) × (split ≡ true)) ⊎ ((kind pages p ≡ 0) × (p < total)))) × (mode ≡ Write))

-- no page of the key's bucket has room
abbrev pub HasNoRoom : List ℕ → PageBytes → Type 0
HasNoRoom key pages = (last : ℕ) × (alone : Bool) × IsEnd key pages last alone

-- a page may be taken: each smaller one that is free is the first free one, and goes to a split
pub record MayTake (split : Bool) (key : List ℕ) (total : ℕ) (pages : PageBytes) (q : ℕ) : Type 0 where
  pub free : kind pages q ≡ 0
  pub within : q < total
  pub before : (n : ℕ) → n < q → kind pages n ≡ 0 → (split ≡ true) × MaySplit key (state_of pages)
      × IsSmallest (state_of pages) n

-- each of these only if the bucket has no room: the map of the space; the directory if it splits; a page
-- that it then takes
abbrev pub IsDueInAdd : Bool → List ℕ → ℕ → PageBytes → ℕ → Mode → Type 0
IsDueInAdd split key total pages p mode =
    IsInBucket key Write pages p mode
    ⊎ (HasNoRoom key pages × (mode ≡ Write) × ((p ≡ 0) ⊎ (((p ≡ 1) × (split ≡ true) × MaySplit key (state_of pages))
    ⊎ MayTake split key total pages p)))

-- each page that is taken is at hand
abbrev pub TakesSeen : (ℕ → Option (List ℕ)) → PageBytes → List PageChange → Type 0
TakesSeen at_hand pages changes = (p : ℕ) → kind pages p ≡ 0 → kind (after changes pages) p ≢ 0 → IsSome (at_hand p)

-- each page that changes is
abbrev pub AreSeen : (ℕ → Option (List ℕ)) → List PageChange → Type 0
AreSeen at_hand changes = (p : ℕ) → at_hand p ≡ None → IsUntouched changes p

abbrev pub IsPlanned : (ℕ → Option (List ℕ)) → ℕ → Bool → Entry → Add → Type 0
IsPlanned at_hand total split e (add.Need p mode) = Asks at_hand total (IsDueInAdd split e.key total) p mode
IsPlanned at_hand total split e (add.Changes changes) =
    InMaps at_hand total (λ pages m. Adds split total e pages changes.list.items
    × TakesSeen at_hand pages changes.list.items) × AreSeen at_hand changes.list.items
IsPlanned at_hand total split e add.Full = InMaps at_hand total (λ pages m. Shortage split total e pages)
IsPlanned at_hand total split e add.Endless = InMaps at_hand total (λ pages m. ⊥)

abbrev pub AddNeeds : Add → (ℕ → Mode → Type 0) → Type 0
AddNeeds (add.Need p mode) P = P p mode
AddNeeds _ P = Unit {0}

abbrev pub IfAdded : Add → (List PageChange → Type 0) → Type 0
IfAdded (add.Changes changes) P = P changes.list.items
IfAdded _ P = Unit {0}

abbrev pub AddFull : Add → Type 0 → Type 0
AddFull add.Full P = P
AddFull _ P = Unit {0}

abbrev pub AddEndless : Add → Type 0 → Type 0
AddEndless add.Endless P = P
AddEndless _ P = Unit {0}
