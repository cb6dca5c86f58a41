-- Pages that break no rule, and the parts of that which are looked at one after the other.
use Rattle.std.specs.Prelude.{◌≡◌, ℕ, ◌<◌, List, length, Some}
use Rattle.mt_base.specs.Limits.{IsRelationCount, limit_of}
use Rattle.mt_base.specs.declared.format.Format.{Format}
use Rattle.mt_base.specs.declared.format.Format.TheVariants.{Two}
use Rattle.mt_base.specs.declared.numbers.RecordName.{RecordName}
use Rattle.mt_bucket.specs.Page.{count_of}
use Rattle.mt_file.specs.File.{record_in}
use Rattle.mt_index.specs.Checks.{entry_at, IsSound}
use Rattle.mt_space.specs.PageLists.{bytes_of}
use Rattle.mt_index.specs.Maps.{Map}
use Rattle.mt_index.specs.Pages.{AreMap}
use Rattle.mt_slots.specs.Page.{Row, IsPage}
use Rattle.mt_space.specs.Kinds.{kind}
use Rattle.mt_counters.specs.Counters.{AreCounters}
use Rattle.mt_steps.specs.Plans.{IsGood}

-- a page of records is one of so many relations, with values as long as the format lets them be, and each is
abbrev pub IsRecordPage : Format → List (List ℕ) → ℕ → ℕ → Type 0
IsRecordPage format items relations p =
    kind (bytes_of items) p ≡ 3 → IsPage relations (limit_of format) (bytes_of items p)

abbrev pub AreRecordPages : Format → List (List ℕ) → ℕ → Type 0
AreRecordPages format items relations = (p : ℕ) → p < length items → IsRecordPage format items relations p

-- pages in memory that break no rule of some schema's formats
pub record AreChecked (items : List (List ℕ)) : Type 0 where
  pub relations : ℕ
  pub counters : ℕ
  pub fits : IsRelationCount relations
  pub good : IsGood relations counters (length items) (bytes_of items)

-- those whose values are of this format, and those that break a rule of each schema in it
pub record AreCheckedIn (format : Format) (items : List (List ℕ)) : Type 0 where
  pub well_formed : AreChecked items
  pub well_valued : AreRecordPages format items well_formed.relations

abbrev pub AreBroken : Format → List (List ℕ) → Type 0
AreBroken format items = (relations counters : ℕ) → IsRelationCount relations
    → IsGood relations counters (length items) (bytes_of items) → AreRecordPages format items relations → ⊥

-- page 2 has the counts of so many relations and counters, within their limits
pub record HasSchema (items : List (List ℕ)) (relations counters : ℕ) : Type 0 where
  pub fits : IsRelationCount relations
  pub counts : AreCounters relations counters (bytes_of items 2)

-- a record of this relation and key has the name
abbrev pub HasRecord : List (List ℕ) → RecordName → ℕ → List ℕ → Type 0
HasRecord items name r k = (v : List ℕ) × (record_in (bytes_of items) name.page name.slot
    ≡ Some (record { relation = r; key = k; value = v }))

-- the index names none under a relation and key but a record of them
abbrev pub IsNamedWell : List (List ℕ) → ℕ → List ℕ → Type 0
IsNamedWell items r k = (m : Map) → AreMap (length items) (bytes_of items) m → (name : RecordName) → m r k ≡ Some name
    → HasRecord items name r k

-- so each entry of a bucket page, and each entry of all
abbrev pub NamesRecords : List (List ℕ) → ℕ → Type 0
NamesRecords items q = kind (bytes_of items) q ≡ 2 → (i : ℕ) → i < count_of (bytes_of items q)
    → IsNamedWell items (entry_at (bytes_of items q) i).relation (entry_at (bytes_of items q) i).key

abbrev pub AllNameRecords : List (List ℕ) → Type 0
AllNameRecords items = (q : ℕ) → q < length items → NamesRecords items q

-- the index names a record by its name
abbrev pub IsListed : List (List ℕ) → ℕ → ℕ → Row → Type 0
IsListed items p s row = (m : Map) → AreMap (length items) (bytes_of items) m
    → m row.relation row.key ≡ Some (record { page = p; slot = s })

-- so the record of a slot, each record of a page, and each record of all
abbrev pub AreListedAt : List (List ℕ) → ℕ → ℕ → Type 0
AreListedAt items p s = (row : Row) → record_in (bytes_of items) p s ≡ Some row → IsListed items p s row

abbrev pub HasListed : List (List ℕ) → ℕ → Type 0
HasListed items p = kind (bytes_of items) p ≡ 3 → (s : ℕ) → AreListedAt items p s

abbrev pub AllAreListed : List (List ℕ) → Type 0
AllAreListed items = (p : ℕ) → p < length items → HasListed items p

-- what is known of the pages while they are looked at
pub record IsIndexed (items : List (List ℕ)) (relations : ℕ) : Type 0 where
  pub index : IsSound relations (length items) (bytes_of items)
  pub records : AreRecordPages Two items relations
