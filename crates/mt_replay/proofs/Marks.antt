-- What marks say of the pages.
use Rattle.std.proofs.Common.{◌≡◌, ℕ, ◌<◌, Bool, true, false, List, [], length, get_or, refl, sym, ap, ◌∙◌, subst, arith}
use Rattle.mt_frame.specs.declared.records.Record.{Record}
use Rattle.mt_pool.specs.Images.{GivesPages, has_image, page_in, slot}
use Rattle.mt_pool.specs.Kept.{carried}
use Rattle.mt_space.specs.Changes.{PageBytes}
use Rattle.mt_replay.specs.Marking.{MarksImaged, MarksLost, FindsLost}
use Rattle.mt_replay.specs.Reads.{AreOfSlots}
use Rattle.mt_replay.proofs.Imaged.{none_in}

-- ---- lost pages

-- what was found of each, by the slots that were read, is so of the slots on the device
pub lost_of : (pages slots : List (List ℕ)) (imaged lost : List Bool) (c : List ℕ) (n : ℕ) → n ≡ length pages → length lost ≡ n
    → ((p : ℕ) → p < n → FindsLost (get_or pages p []) (get_or imaged p false) (get_or slots p []) (get_or lost p false))
    → AreOfSlots (length pages) imaged c slots → MarksLost pages imaged c lost
lost_of pages slots imaged lost c n all size each read = record {
  size = size ∙ all;
  other = λ p lt is. let both = (each p (omega (arith, all))).other is in (both.0, λ same. both.1 (read p lt both.0 ∙ same));
  kept = λ p lt not none. sym (read p lt none) ∙ (each p (omega (arith, all))).kept not none;
}

-- so of what lists the code had
pub lost_at : (pages p2 slots s2 : List (List ℕ)) (imaged i2 lost : List Bool) (c c0 : List ℕ) (n : ℕ) → p2 ≡ pages → s2 ≡ slots → i2 ≡ imaged → c ≡ c0 → length pages ≡ n → AreOfSlots n imaged c slots
    → ((x : List ℕ) → AreOfSlots (length p2) i2 x s2 → MarksLost p2 i2 x lost) → MarksLost pages imaged c0 lost
lost_at pages p2 slots s2 imaged i2 lost c c0 n is_pages is_slots is_imaged same count read found =
    subst (λ (x : List ℕ). MarksLost pages imaged x lost) same
    (subst (λ (l : List (List ℕ)). MarksLost l imaged c lost) is_pages
    (subst (λ (i : List Bool). MarksLost p2 i c lost) is_imaged
    (found c (subst (λ (k : ℕ). AreOfSlots k i2 c s2) (sym (ap (λ (l : List (List ℕ)). length l) is_pages ∙ count))
    (subst (λ (i : List Bool). AreOfSlots n i c s2) (sym is_imaged) (subst (AreOfSlots n imaged c) (sym is_slots) read))))))

-- ---- pages without an image, and those with one

-- so the pages are those that the area found
pub opened_by : (count : ℕ) (records : List Record) (images found : List (List ℕ)) (imaged : List Bool) (c : List ℕ) (opening : PageBytes) → MarksImaged count records imaged
    → ((p : ℕ) → p < count → has_image (carried records) p ≡ true → (bytes : List ℕ) → get_or images p [] ≡ page_in (carried records) p bytes)
    → ((p : ℕ) → p < count → get_or imaged p false ≡ true → get_or found p [] ≡ get_or images p []) → AreOfSlots count imaged c found
    → GivesPages 8192 count opening (carried records) c → (p : ℕ) → p < count → get_or found p [] ≡ opening p
opened_by count records images found imaged c opening marks laid kept read gives p lt = go (has_image (carried records) p) refl ∙ gives p lt
  where
    go : (b : Bool) → has_image (carried records) p ≡ b → get_or found p [] ≡ page_in (carried records) p (slot 8192 c p)
    go true has = kept p lt (marks.each p lt ∙ has) ∙ laid p lt has (slot 8192 c p)
    go false none = read p lt (marks.each p lt ∙ none) ∙ sym (none_in (carried records) p (slot 8192 c p) none)
