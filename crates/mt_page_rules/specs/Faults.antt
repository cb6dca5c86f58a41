-- The rule that one page of a device breaks.
use Rattle.std.specs.Prelude.{◌≡◌, ℕ, List, length}
use Rattle.mt_base.specs.declared.format.Format.{Format}
use Rattle.mt_index.specs.Broken.{IsBroken}
use Rattle.mt_space.specs.PageLists.{bytes_of}
use Rattle.mt_space.specs.Kinds.{IsMap}
use Rattle.mt_page_rules.specs.Checks.{HasSchema, IsRecordPage, NamesRecords, HasListed}

-- A page breaks a rule of a schema of so many relations: one of the index; the format of a page of records; as a
-- bucket page by an entry that names no record of its relation and key; as a page of records by one that the index
-- does not name.
pub data IsAtFault (format : Format) (items : List (List ℕ)) (relations p : ℕ) : Type 0 where
  in_index : IsBroken relations (length items) (bytes_of items) p → IsAtFault format items relations p
  malformed : (IsRecordPage format items relations p → ⊥) → IsAtFault format items relations p
  misnaming : (NamesRecords items p → ⊥) → IsAtFault format items relations p
  unlisted : (HasListed items p → ⊥) → IsAtFault format items relations p

-- A page breaks a rule: page 0, since it is no map of so many pages; page 2, since it has no schema's counts; or a
-- page by the schema of page 2.
pub data IsFaulty (format : Format) (items : List (List ℕ)) (p : ℕ) : Type 0 where
  map_broken : p ≡ 0 → (IsMap (length items) (bytes_of items) → ⊥) → IsFaulty format items p
  has_no_schema : p ≡ 2 → ((relations counters : ℕ) → HasSchema items relations counters → ⊥) → IsFaulty format items p
  breaks : (relations counters : ℕ) → HasSchema items relations counters → IsAtFault format items relations p
      → IsFaulty format items p
