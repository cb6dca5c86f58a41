-- The bytes of all pages, and changes of them.
use Rattle.std.specs.Prelude.{◌≡◌, ◌≢◌, ◌==◌, if◌then◌else◌, All, ℕ, ◌+◌, ◌*◌, ◌≤◌, List, [], ◌∷◌, length, Option, Some}
use Rattle.mt_base.specs.declared.limits.TheConstants.{PAGE_BYTES}
use Rattle.mt_base.specs.Edits.{patched, log_size, IsShortest}
use Rattle.mt_space.specs.declared.changes.PageChange.{PageChange}

-- the bytes of each page, by its number
abbrev pub PageBytes : Type 0
PageBytes = ℕ → List ℕ

-- what is at hand is as in these pages
abbrev pub Agrees : (ℕ → Option (List ℕ)) → PageBytes → Type 0
Agrees at_hand pages = (p : ℕ) (bytes : List ℕ) → at_hand p ≡ Some bytes → pages p ≡ bytes

-- the pages with other bytes in one
unfoldable pub replaced : ℕ → List ℕ → PageBytes → PageBytes
replaced p bytes pages = λ q. if q == p then bytes else pages q

-- the pages once all changes are made
abbrev pub after : List PageChange → PageBytes → PageBytes
after [] pages = pages
after (c ∷ cs) pages = after cs (replaced c.page (patched c.edits.items (pages c.page)) pages)

-- no change is of this page
abbrev pub IsUntouched : List PageChange → ℕ → Type 0
IsUntouched [] p = Unit {0}
IsUntouched (c ∷ cs) p = (c.page ≢ p) × IsUntouched cs p

-- a change of a page with these bytes as a log wants it: some edits, each as short as can be, and together
-- they take no more than one of the whole page would
pub record IsShort (old : List ℕ) (c : PageChange) : Type 0 where
  pub some : 1 ≤ length c.edits.items
  pub ranges : All (IsShortest old (patched c.edits.items old)) c.edits.items
  pub size : log_size c.edits.items ≤ 29 + 2 * PAGE_BYTES

-- each change is, and each is of another page
abbrev pub AreShort : List PageChange → PageBytes → Type 0
AreShort [] pages = Unit {0}
AreShort (c ∷ cs) pages = IsShort (pages c.page) c × IsUntouched cs c.page × AreShort cs pages
