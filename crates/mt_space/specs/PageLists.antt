-- All pages of a device in memory, in a row.
use Rattle.std.specs.Prelude.{◌≡◌, ℕ, ◌<◌, ◌≤◌, List, [], length, Some, None, slice_get}
use Rattle.std.proofs.Common.{⊎_elim, get_or, sym, ap, ◌∙◌}
use Rattle.std.proofs.lemmas.Bool.{cases_lt}
use Rattle.std.proofs.lemmas.Option.{slice_get_past, get_or_from_slice_get}
use Rattle.mt_base.specs.declared.limits.TheConstants.{PAGE_BYTES}
use Rattle.mt_space.specs.Changes.{PageBytes, Agrees}

-- the bytes of each; none past the last one
abbrev pub bytes_of : List (List ℕ) → PageBytes
bytes_of pages p = get_or pages p []

-- each of them whole
abbrev pub AreWhole : List (List ℕ) → Type 0
AreWhole pages = (p : ℕ) → p < length pages → length (bytes_of pages p) ≡ PAGE_BYTES

pub bytes_at : (pages : List (List ℕ)) → Agrees (λ p. slice_get pages p) (bytes_of pages)
bytes_at pages p bytes there = get_or_from_slice_get pages p bytes [] there

pub bytes_whole : (pages : List (List ℕ)) (p : ℕ) (bytes : List ℕ) → AreWhole pages → slice_get pages p ≡ Some bytes
    → length bytes ≡ PAGE_BYTES
bytes_whole pages p bytes whole there = ⊎_elim
    (λ (lt : p < length pages). sym (ap length (bytes_at pages p bytes there)) ∙ whole p lt)
    (λ (le : length pages ≤ p). let none : None ≡ Some bytes = sym (slice_get_past pages p le) ∙ there in cc)
    (cases_lt p (length pages))
