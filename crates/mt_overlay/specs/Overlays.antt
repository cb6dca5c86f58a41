-- Pages as they will be: copies of some pages that lie over all pages.
use Rattle.std.specs.Prelude.{◌≡◌, ◌≢◌, ◌==◌, ◌+◌, ◌<◌, ◌≤◌, ◌↔◌, if◌then◌else◌, All, ℕ, Bool, List, [], ◌∷◌, length, take, Option, Some, None, IsSome, OnOk, Result}
use Rattle.std.specs.List.{list_any}
use Rattle.std.proofs.Math.ListN.{get_or}
use Rattle.mt_base.specs.declared.limits.TheConstants.{PAGE_BYTES}
use Rattle.mt_space.specs.Changes.{PageBytes, Agrees, AreShort, IsUntouched, after}
use Rattle.mt_space.specs.declared.changes.PageChange.{PageChange}
use Rattle.mt_overlay.specs.declared.overlay.PageCopy.{PageCopy}

-- the copy of a page, if there is one
abbrev pub copied : List PageCopy → ℕ → Option (List ℕ)
copied [] p = None
copied (c ∷ cs) p = if c.page == p then Some c.bytes else copied cs p

-- a copy, or else what lies below it
abbrev pub or_below : Option (List ℕ) → Option (List ℕ) → Option (List ℕ)
or_below (Some copy) below = Some copy
or_below None below = below

-- what is at hand if copies lie over other pages
abbrev pub shown : List PageCopy → (ℕ → Option (List ℕ)) → ℕ → Option (List ℕ)
shown copies below p = or_below (copied copies p) (below p)

-- a copy, or else these bytes
abbrev pub or_bytes : Option (List ℕ) → List ℕ → List ℕ
or_bytes (Some copy) bytes = copy
or_bytes None bytes = bytes

-- all pages, with the copies in place of those that have one
abbrev pub drawn : List PageCopy → PageBytes → PageBytes
drawn copies pages = λ p. or_bytes (copied copies p) (pages p)

-- no copy is of this page
abbrev pub IsUncopied : List PageCopy → ℕ → Type 0
IsUncopied [] p = Unit {0}
IsUncopied (c ∷ cs) p = (c.page ≢ p) × IsUncopied cs p

-- no two are of one page
abbrev pub AreApart : List PageCopy → Type 0
AreApart [] = Unit {0}
AreApart (c ∷ cs) = IsUncopied cs c.page × AreApart cs

-- whole copies of pages that are at hand below, one of each
pub record AreCopies (below : ℕ → Option (List ℕ)) (copies : List PageCopy) : Type 0 where
  pub whole : (p : ℕ) (bytes : List ℕ) → copied copies p ≡ Some bytes → length bytes ≡ PAGE_BYTES
  pub there : (p : ℕ) (bytes : List ℕ) → copied copies p ≡ Some bytes → IsSome (below p)
  pub apart : AreApart copies

-- the first copy of a page stands at this place
pub record IsCopyAt (copies : List PageCopy) (p i : ℕ) : Type 0 where
  pub inside : i < length copies
  pub page : (c : PageCopy) → (get_or copies i c).page ≡ p
  pub first : copied (take i copies) p ≡ None

-- the copy of one page becomes this one, and the others stay
abbrev pub Keeps : ℕ → List ℕ → List PageCopy → List PageCopy → Type 0
Keeps p bytes old new = (q : ℕ) → copied new q ≡ (if p == q then Some bytes else copied old q)

-- each change is of a page that is at hand
abbrev pub AreAtHand : (ℕ → Option (List ℕ)) → List PageChange → Type 0
AreAtHand at_hand changes = All (λ c. IsSome (at_hand c.page)) changes

-- these changes are made in an overlay, or a first part of them if memory was refused
pub record MakesChanges {V T E : Type 0} (at_hand : ℕ → Option (List ℕ)) (was now : V) (old new : List PageCopy)
    (changes : List PageChange) (r : Result T E) : Type 0 where
  pub copies : AreCopies at_hand new
  pub views : now ≡ was
  pub same_pages : (p : ℕ) → IsSome (shown new at_hand p) ↔ IsSome (at_hand p)
  pub agrees : OnOk r ((pages : PageBytes) → Agrees (shown old at_hand) pages
      → Agrees (shown new at_hand) (after changes pages))
  pub few : OnOk r (length new ≤ length old + length changes)
  pub draws : OnOk r ((pages : PageBytes) → Agrees at_hand pages → drawn new pages ≡ after changes (drawn old pages))

-- these changes are what the copies come to
pub record ComeTo (below : ℕ → Option (List ℕ)) (copies : List PageCopy) (changes : List PageChange) : Type 0 where
  pub made : (pages : PageBytes) → Agrees below pages → after changes pages ≡ drawn copies pages
  pub short : (pages : PageBytes) → Agrees below pages → AreShort changes pages
  pub same : (p : ℕ) → shown copies below p ≡ below p → IsUntouched changes p
  pub few : length changes ≤ length copies

-- some change is of this page
unfoldable pub names_page : List PageChange → ℕ → Bool
names_page changes p = list_any (λ (c : PageChange). c.page == p) changes

-- a page that is at hand is whole, if those below are
pub shown_whole : (copies : List PageCopy) (below : ℕ → Option (List ℕ)) → AreCopies below copies
    → ((p : ℕ) (bytes : List ℕ) → below p ≡ Some bytes → length bytes ≡ PAGE_BYTES) → (p : ℕ) (bytes : List ℕ)
    → shown copies below p ≡ Some bytes → length bytes ≡ PAGE_BYTES
shown_whole copies below sound whole p bytes is = either (copied copies p) is (sound.whole p)
  where
    either : (o : Option (List ℕ)) → or_below o (below p) ≡ Some bytes
        → ((b : List ℕ) → o ≡ Some b → length b ≡ PAGE_BYTES) → length bytes ≡ PAGE_BYTES
    either None is copy = whole p bytes is
    either (Some b) is copy = copy bytes is
