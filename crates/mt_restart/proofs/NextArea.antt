-- An area that begins with images of pages, and the slots beside it.
use Rattle.std.proofs.Common.{◌≡◌, inl, inr, ⊎_elim, ℕ, ◌+◌, ◌*◌, ◌<◌, Bool, true, false, List, [], ◌∷◌, length, get_or, sym, ◌∙◌, subst, arith, append-nil}
use Rattle.std.specs.List.{AllByRecursion}
use Rattle.std.proofs.lemmas.Bool.{cases_lt}
use Rattle.std.proofs.lemmas.List.{get_or_past}
use Rattle.mt_disk.specs.Disk.{Torn}
use Rattle.mt_disk.proofs.Frame.{Apart}
use Rattle.mt_frame.specs.declared.records.Record.{Record}
use Rattle.mt_frame.specs.declared.records.Record.TheVariants.{Page, OpEnd, OpDropped, Commit, AbortEnd}
use Rattle.mt_space.specs.PageLists.{bytes_of}
use Rattle.mt_log.specs.Batch.{Scans, joined}
use Rattle.mt_log.specs.Holds.{HasItsPage, HoldsBatches}
use Rattle.mt_pool.specs.Images.{GivesPages, has_image, page_in, slot}
use Rattle.mt_pool.specs.Kept.{carried}
use Rattle.mt_pool.specs.Turns.{AreImaged, IsImageOnly}
use Rattle.mt_pool.proofs.Safe.{bool_cases, cut_torn, in_none, slot_apart}
use Rattle.mt_replay.specs.Marking.{MarksImaged, MarksLost}
use Rattle.mt_restart.specs.Turned.{OnlySlots, AreInPlace, AreImagesOf}

-- what is marked has an image
pub are_imaged : (count : ℕ) (records : List Record) (marked : List Bool) → MarksImaged count records marked → AreImaged marked (carried records)
are_imaged count records marked m p is = elim (cases_lt p count) [
  | inl inside ↦ sym (m.each p inside) ∙ is
  | inr past ↦ absurd (let size = m.size in let none = get_or_past marked p false (omega (arith, past, size)) in cc)
]

-- ---- the area

page_inside : (n : ℕ) (r : Record) → IsImageOnly n r → HasItsPage n r
page_inside n (Page txn op page image start old new) only = only.1
page_inside n (OpEnd txn op undoes done) only = tt
page_inside n (OpDropped txn op) only = tt
page_inside n (Commit txn) only = tt
page_inside n (AbortEnd txn) only = tt

pub pages_inside : (n : ℕ) (rs : List Record) → AllByRecursion (IsImageOnly n) rs → AllByRecursion (HasItsPage n) rs
pages_inside n [] all = tt
pages_inside n (r ∷ rs) all = (page_inside n r all.0, pages_inside n rs all.1)

module _ (items : List (List ℕ)) (lost : List Bool) (images : List Record) (i : AreImagesOf items lost images) where
  -- an area in which the one batch is read holds it
  pub next_held : (c : List ℕ) (start end n : ℕ) → length items ≡ n → Scans c start end (images ∷ []) → HoldsBatches c start end n (images ∷ [])
  next_held c start end n count row = record {
    row = row;
    each = ((i.grammar, subst (λ (k : ℕ). AllByRecursion (HasItsPage k) images) count (pages_inside (length items) images i.only)), tt);
    rules = (i.first, tt);
  }

  -- with the slots of the other pages they give all of them
  pub next_gives : (c : List ℕ) (n : ℕ) → length items ≡ n → ((p : ℕ) → p < n → get_or lost p false ≡ false → slot 8192 c p ≡ get_or items p []) → GivesPages 8192 n (bytes_of items) (carried (joined (images ∷ []))) c
  next_gives c n count slots p lt =
      let inside : p < length items = subst (λ (k : ℕ). p < k) (sym count) lt in
      subst (λ (rs : List Record). page_in (carried rs) p (slot 8192 c p) ≡ get_or items p []) (sym (append-nil images)) (⊎_elim
      (λ (marked : get_or lost p false ≡ true). i.bytes p inside marked (slot 8192 c p))
      (λ (other : get_or lost p false ≡ false). in_none p (carried images) (slot 8192 c p) (i.some p inside ∙ other) ∙ slots p lt other)
      (bool_cases (get_or lost p false)))

  -- what is marked has an image in it
  pub lost_imaged : length lost ≡ length items → AreImaged lost (carried (joined (images ∷ [])))
  lost_imaged size p is = elim (cases_lt p (length items)) [
    | inl inside ↦ subst (λ (rs : List Record). has_image (carried rs) p ≡ true) (sym (append-nil images)) (i.some p inside ∙ is)
    | inr past ↦ absurd (let none = get_or_past lost p false (omega (arith, past, size)) in cc)
  ]

-- ---- the slots

-- the pages with an image written in place, the others are there that are not lost
pub in_slots : (items : List (List ℕ)) (imaged lost : List Bool) (c d : List ℕ) → length imaged ≡ length items → MarksLost items imaged c lost → OnlySlots imaged c d → AreInPlace imaged items d
    → (p : ℕ) → p < length items → get_or lost p false ≡ false → slot 8192 d p ≡ get_or items p []
in_slots items imaged lost c d count marks only place p lt kept = ⊎_elim
    (λ (marked : get_or imaged p false ≡ true). place p lt marked)
    (λ (other : get_or imaged p false ≡ false). only.others p (subst (λ (k : ℕ). p < k) (sym count) lt) other ∙ marks.kept p lt kept other)
    (bool_cases (get_or imaged p false))

-- a slot stays where what is torn lies elsewhere
pub slot_same : (at n pages : ℕ) (d c : List ℕ) → Torn at n d c → Apart at n 8192 (4096 * pages) → (p : ℕ) → p < pages → slot 8192 c p ≡ slot 8192 d p
slot_same at n pages d c torn apart p lt = cut_torn at n (8192 + 4096 * p) 4096 d c torn (slot_apart at n 8192 pages p lt apart)
