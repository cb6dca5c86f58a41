-- Which slots of pages of records the entries of bucket pages name.
use Rattle.std.specs.Prelude.{◌≡◌, ◌⊎◌, ℕ, ◌+◌, ◌*◌, ◌<◌, Bool, true, false, List, length, get_or}
use Rattle.mt_page_rules.specs.declared.page_rules.TheConstants.{MAX_SLOTS}
use Rattle.mt_base.specs.declared.numbers.RecordName.{RecordName}
use Rattle.mt_bucket.specs.Page.{count_of}
use Rattle.mt_index.specs.Checks.{entry_at}
use Rattle.mt_space.specs.PageLists.{bytes_of}
use Rattle.mt_space.specs.Kinds.{kind}

-- the place of a name among all slots of all pages
abbrev pub place : RecordName → ℕ
place name = MAX_SLOTS * name.page + name.slot

-- one of the first n entries of a page names the place
abbrev pub NamesPlace : List (List ℕ) → ℕ → ℕ → ℕ → Type 0
NamesPlace items q n at = (i : ℕ) × (i < n) × (place (entry_at (bytes_of items q) i).name ≡ at)

-- an entry of a bucket page does
abbrev pub IsNamedIn : List (List ℕ) → ℕ → ℕ → Type 0
IsNamedIn items q at = (kind (bytes_of items) q ≡ 2) × NamesPlace items q (count_of (bytes_of items q)) at

-- Marked are the places that were so, and those that the first n entries of a page name.
pub record MarksNamed (items : List (List ℕ)) (q n : ℕ) (old new : List Bool) : Type 0 where
  pub size : length new ≡ length old
  pub only : (at : ℕ) → get_or new at false ≡ true → (get_or old at false ≡ true) ⊎ NamesPlace items q n at
  pub kept : (at : ℕ) → get_or old at false ≡ true → get_or new at false ≡ true
  pub named : (at : ℕ) → NamesPlace items q n at → get_or new at false ≡ true

-- Marked are the places that entries of the first n pages name.
pub record AreNamed (items : List (List ℕ)) (n : ℕ) (marks : List Bool) : Type 0 where
  pub size : length marks ≡ MAX_SLOTS * length items
  pub only : (at : ℕ) → get_or marks at false ≡ true → (q : ℕ) × (q < n) × IsNamedIn items q at
  pub named : (q : ℕ) → q < n → (at : ℕ) → IsNamedIn items q at → get_or marks at false ≡ true
