-- Pages in memory.
use Rattle.std.proofs.Common.{◌≡◌, ◌≢◌, ⊎_elim, ℕ, ◌<◌, ◌≤◌, List, [], ◌∷◌, ◌++◌, length, get_or, set, ◌∙◌, ap, arith, length-set, length-append}
use Rattle.std.proofs.lemmas.Bool.{cases_eq, cases_lt}
use Rattle.std.proofs.lemmas.List.{get_or-set_same, get_or-set_other, get_or_append_left, get_or_push, get_or_past}
use Rattle.mt_slots.specs.Page.{IsShaped}
use Rattle.mt_space.specs.Kinds.{kind}
use Rattle.mt_space.specs.PageLists.{AreWhole, bytes_of}
use Rattle.mt_file.specs.File.{IsFile}

pub whole_set : (pages : List (List ℕ)) (i : ℕ) (page : List ℕ) → AreWhole pages → i < length pages → length page ≡ 4096 → AreWhole (set pages i page)
whole_set pages i page whole there long = λ p lt.
    let same = length-set pages i page in
    ⊎_elim
    (λ (e : p ≡ i). ap (λ (k : ℕ). length (get_or (set pages i page) k [])) e ∙ ap length (get_or-set_same pages i page [] there) ∙ long)
    (λ (ne : p ≢ i). ap length (get_or-set_other pages i p page [] ne) ∙ whole p (omega arith))
    (cases_eq p i)

pub whole_push : (pages : List (List ℕ)) (page : List ℕ) → AreWhole pages → length page ≡ 4096 → AreWhole (pages ++ page ∷ [])
whole_push pages page whole long = λ p lt.
    let count = length-append pages (page ∷ []) in
    ⊎_elim
    (λ (within : p < length pages). ap length (get_or_append_left pages (page ∷ []) [] p within) ∙ whole p within)
    (λ (past : length pages ≤ p). ap length (get_or_push pages page [] p (omega arith)) ∙ long)
    (cases_lt p (length pages))

pub is_file : (pages : List (List ℕ)) → AreWhole pages → 0 < length pages → kind (bytes_of pages) 0 ≡ 1 → ((p : ℕ) → p < 4096 → kind (bytes_of pages) p ≡ 3 → IsShaped (bytes_of pages p)) → IsFile (bytes_of pages)
is_file pages whole some fixed each = record {
  whole = whole 0 some;
  fixed = fixed;
  each = λ p is. ⊎_elim
      (λ (lt : p < 4096). each p lt is)
      (λ (le : 4096 ≤ p). let long = whole 0 some in let past = get_or_past (bytes_of pages 0) p 0 (omega arith) in absurd (omega arith))
      (cases_lt p 4096);
}
