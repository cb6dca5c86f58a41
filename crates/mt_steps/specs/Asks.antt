-- Which page an operation asks for, and whether to read or to write it: its row of the table of page locks.
use Rattle.std.specs.Prelude.{◌≡◌, ◌≢◌, ◌⊎◌, ℕ, Bool, List, Option, None, Some, Contains}
use Rattle.mt_base.specs.declared.numbers.RecordName.{RecordName}
use Rattle.mt_base.specs.declared.modes.Mode.{Mode}
use Rattle.mt_base.specs.declared.modes.Mode.TheVariants.{Read as ToRead, Write as ToWrite}
use Rattle.mt_slots.specs.Page.{Row}
use Rattle.mt_space.specs.Changes.{PageBytes}
use Rattle.mt_file.specs.File.{record_in, Adds}
use Rattle.mt_file.specs.Plans.{IsChosen, IsLooked}
use Rattle.mt_index.specs.Answers.{InMaps, IsInBucket, IsDueInAdd, IsSearched}
use Rattle.mt_index.specs.Names.{IsInIndex, AreNames}
use Rattle.mt_index.specs.declared.answers.Search.{Search}
use Rattle.mt_model.specs.declared.operations.Op.{Op}
use Rattle.mt_model.specs.declared.operations.Op.TheVariants.{Get, Insert, Update, Delete, Add, Read, Scan}
use Rattle.mt_steps.specs.Acts.{InRoomy}
use Rattle.mt_steps.specs.Plans.{HasStood, NeedsPlace}

-- ---- a key is looked for

-- it asks for the directory to read, and for pages of the key's chain
abbrev pub LooksFor : (ℕ → Option (List ℕ)) → ℕ → List ℕ → Mode → ℕ → Mode → Type 0
LooksFor at_hand total key in_bucket p mode = InMaps at_hand total (λ pages m. IsInBucket key in_bucket pages p mode)

-- how far the search for a row's key has come is so, by what is at hand
abbrev pub HasSearched : (ℕ → Option (List ℕ)) → ℕ → Op → Search → Type 0
HasSearched at_hand total (Get r k) search = IsSearched at_hand total r k search
HasSearched at_hand total (Insert r k v) search = IsSearched at_hand total r k search
HasSearched at_hand total (Update r k v) search = IsSearched at_hand total r k search
HasSearched at_hand total (Delete r k) search = IsSearched at_hand total r k search
HasSearched at_hand total (Add c d) search = Unit {0}
HasSearched at_hand total (Read c) search = Unit {0}
HasSearched at_hand total (Scan r) search = Unit {0}

-- what is at hand shows that a key has no record, or which one it has
abbrev pub IsMissing : (ℕ → Option (List ℕ)) → ℕ → ℕ → List ℕ → Type 0
IsMissing at_hand total r k = InMaps at_hand total (λ pages m. m r k ≡ None)

abbrev pub IsNamedBy : (ℕ → Option (List ℕ)) → ℕ → ℕ → List ℕ → RecordName → Type 0
IsNamedBy at_hand total r k name = InMaps at_hand total (λ pages m. m r k ≡ Some name)

abbrev pub IsFound : (ℕ → Option (List ℕ)) → ℕ → ℕ → List ℕ → Type 0
IsFound at_hand total r k = (name : RecordName) × IsNamedBy at_hand total r k name

-- what is at hand shows the names of all records of a relation, and one of these is in the page
abbrev pub HasNamed : (ℕ → Option (List ℕ)) → ℕ → ℕ → ℕ → Type 0
HasNamed at_hand total r p = (names : List RecordName) × InMaps at_hand total (λ pages m. AreNames r m names)
    × ((s : ℕ) × Contains names (record { page = p; slot = s }))

-- ---- a row is changed in these pages

-- the key's record is the only one of its page, which is given back with it
abbrev pub IsAlone : PageBytes → ℕ → List ℕ → Type 0
IsAlone pages r k = (p s : ℕ) × (v : List ℕ) × (record_in pages p s
    ≡ Some (record { relation = r; key = k; value = v })) × ((t : ℕ) → t ≢ s → record_in pages p t ≡ None)

-- A delete asks for the key's bucket, and to write for the page of its record; for the map if that page is given
-- back.
abbrev pub IsForDelete : ℕ → List ℕ → PageBytes → ℕ → Mode → Type 0
IsForDelete r k pages p mode =
    IsInBucket k ToWrite pages p mode ⊎ ((mode ≡ ToWrite) × (HasStood pages p r k ⊎ ((p ≡ 0) × IsAlone pages r k)))

-- An update asks to write for the page of its record. Only if that has no room for the new value it asks for the page
-- to move to, which is the one that is named, or else the smallest free one after the map; and for the key's bucket.
abbrev pub IsForUpdate : Option ℕ → ℕ → ℕ → List ℕ → List ℕ → PageBytes → ℕ → Mode → Type 0
IsForUpdate room total r k v pages p mode =
    ((mode ≡ ToWrite) × HasStood pages p r k)
    ⊎ (NeedsPlace (Update r k v) pages × (((mode ≡ ToWrite) × IsLooked room total pages p)
    ⊎ IsInBucket k ToWrite pages p mode))

-- the pages once a record is put into the page for it
abbrev pub HasPut : Option ℕ → ℕ → Row → PageBytes → PageBytes → Type 0
HasPut room total row pages next =
    (name : RecordName) × IsChosen room total pages name.page × Adds pages next name.page name.slot row

-- An insert asks to write for the page for its record, as an update that moves; and once the record is put, for what
-- its entry needs.
abbrev pub IsForInsert : Option ℕ → ℕ → Bool → Row → PageBytes → ℕ → Mode → Type 0
IsForInsert room total split row pages p mode =
    ((mode ≡ ToWrite) × IsLooked room total pages p)
    ⊎ ((next : PageBytes) × HasPut room total row pages next × IsDueInAdd split row.key total next p mode)

-- ---- the table

-- it holds of all good pages that agree with what is at hand
abbrev pub InRows : (ℕ → Option (List ℕ)) → Option ℕ → ℕ → (PageBytes → Type 0) → Type 0
InRows at_hand room total P = (relations : ℕ) → InRoomy at_hand room relations total (λ pages m. P pages)

-- An operation on a row looks for its key; and only once what is at hand shows what the key has, it asks for the
-- record's page, or for what it changes. An operation on a counter asks for page 2. A scan asks for pages of the index;
-- and only once what is at hand shows all records of the relation, it asks for their pages.
abbrev pub AsksFor : (ℕ → Option (List ℕ)) → Option ℕ → ℕ → Bool → Op → ℕ → Mode → Type 0
AsksFor at_hand room total split (Get r k) p mode =
    LooksFor at_hand total k ToRead p mode ⊎ ((s : ℕ) × IsNamedBy at_hand total r k (record { page = p; slot = s })
    × (mode ≡ ToRead))
AsksFor at_hand room total split (Insert r k v) p mode =
    LooksFor at_hand total k ToWrite p mode
    ⊎ (IsMissing at_hand total r k × InRows at_hand room total
    (λ pages. IsForInsert room total split (record { relation = r; key = k; value = v }) pages p mode))
AsksFor at_hand room total split (Update r k v) p mode =
    LooksFor at_hand total k ToRead p mode ⊎ (IsFound at_hand total r k
    × InRows at_hand room total (λ pages. IsForUpdate room total r k v pages p mode))
AsksFor at_hand room total split (Delete r k) p mode =
    LooksFor at_hand total k ToWrite p mode ⊎ (IsFound at_hand total r k
    × InRows at_hand room total (λ pages. IsForDelete r k pages p mode))
AsksFor at_hand room total split (Add c d) p mode = (p ≡ 2) × (mode ≡ ToWrite)
AsksFor at_hand room total split (Read c) p mode = (p ≡ 2) × (mode ≡ ToRead)
AsksFor at_hand room total split (Scan r) p mode =
    InMaps at_hand total (λ pages m. IsInIndex pages p mode) ⊎ (HasNamed at_hand total r p × (mode ≡ ToRead))
