-- Some pages in memory, as the tests have them: the map of the space, the directory, and pages 3 to 5; and pages in a
-- row.
use Rattle.std.specs.Prelude.{ℕ, ◌≡◌, ◌==◌, ◌<◌, ◌≤◌, Bool, true, false, cond, List, [], length, Option, Some, None, slice_get}
use Rattle.std.proofs.Common.{⊎_elim, sym, ap, ◌∙◌}
use Rattle.std.proofs.lemmas.Bool.{cases_lt}
use Rattle.std.proofs.lemmas.Option.{slice_get_past, get_or_from_slice_get}
use Rattle.mt_base.specs.declared.limits.TheConstants.{PAGE_BYTES}
use Rattle.mt_index.specs.Checks as row

abbrev pub copied : List ℕ → List ℕ → List ℕ → List ℕ → List ℕ → ℕ → Option (List ℕ)
copied space directory third fourth fifth p =
    cond (p == 0) (Some space) (cond (p == 1) (Some directory)
    (cond (p == 3) (Some third) (cond (p == 4) (Some fourth) (cond (p == 5) (Some fifth) None))))

-- each is whole
pub record AreWhole (space directory third fourth fifth : List ℕ) : Type 0 where
  pub zero : length space ≡ PAGE_BYTES
  pub one : length directory ≡ PAGE_BYTES
  pub three : length third ≡ PAGE_BYTES
  pub four : length fourth ≡ PAGE_BYTES
  pub five : length fifth ≡ PAGE_BYTES

pub copied_whole : (space directory third fourth fifth : List ℕ) → AreWhole space directory third fourth fifth
    → (p : ℕ) (bytes : List ℕ) → copied space directory third fourth fifth p ≡ Some bytes → length bytes ≡ PAGE_BYTES
copied_whole space directory third fourth fifth w p bytes is =
    one (p == 0) space _ w.zero (one (p == 1) directory _ w.one
    (one (p == 3) third _ w.three (one (p == 4) fourth _ w.four (one (p == 5) fifth _ w.five (λ e. absurd cc))))) is
  where
    same : (a : List ℕ) → Some a ≡ Some bytes → a ≡ bytes
    same a e = ap (λ (x : Option (List ℕ)). elim x [ None ↦ a | Some y ↦ y ]) e

    one : (t : Bool) (a : List ℕ) (o : Option (List ℕ)) → length a ≡ PAGE_BYTES
        → (o ≡ Some bytes → length bytes ≡ PAGE_BYTES) → cond t (Some a) o ≡ Some bytes → length bytes ≡ PAGE_BYTES
    one true a o long rest e = sym (ap length (same a e)) ∙ long
    one false a o long rest e = rest e

-- of pages in a row, each that is at hand
pub row_whole : (pages : List (List ℕ)) (p : ℕ) (bytes : List ℕ) → row.AreWhole pages → slice_get pages p ≡ Some bytes
    → length bytes ≡ PAGE_BYTES
row_whole pages p bytes whole there = ⊎_elim
    (λ (lt : p < length pages). sym (ap length (get_or_from_slice_get pages p bytes [] there)) ∙ whole.each p lt)
    (λ (le : length pages ≤ p). let none : None ≡ Some bytes = sym (slice_get_past pages p le) ∙ there in cc)
    (cases_lt p (length pages))
