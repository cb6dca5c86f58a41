-- A device that holds what it is formatted with.
use Rattle.std.proofs.Common.{◌≡◌, ◌≢◌, ◌<◌, ◌≤◌, ◌+◌, ◌*◌, ◌⊎◌, inl, inr, ⊎_elim, ℕ, zero, suc, List, [], ◌∷◌, ◌++◌, length, get_or, None, refl, sym, ap, ◌∙◌, subst, arith}
use Rattle.std.proofs.lemmas.Bool.{cases_lt, cases_eq}
use Rattle.std.proofs.lemmas.List.{get_or_append_left, get_or_past}
use Rattle.std.proofs.Math.Seq.{get_or-append_seam}
use Rattle.mt_base.proofs.Places.{part_has, has_front, has_back, one_of}
use Rattle.mt_disk.specs.Disk.{Has, Torn, Wrote, Apart}
use Rattle.mt_frame.specs.SlotText.{slot_text}
use Rattle.mt_log.specs.Holds.{HoldsBatches}
use Rattle.mt_rows.specs.Rows.{value_at}
use Rattle.mt_rows.specs.declared.rows.Row.{Row}
use Rattle.mt_model.specs.Views.{rows_of}
use Rattle.mt_pool.specs.Images.{slot}
use Rattle.mt_pool.proofs.Safe.{cut_torn, slot_apart, other_slot}
use Rattle.mt_space.specs.Changes.{PageBytes}
use Rattle.mt_space.specs.Kinds.{CanBe}
use Rattle.mt_steps.specs.Formatted.{IsFormatted}
use Rattle.mt_steps.specs.Held.{Holds}
use Rattle.mt_steps.proofs.Formatting.{formatted_holds}
use Rattle.mt_format.specs.declared.schema.Schema.{Schema}
use Rattle.mt_format.specs.Formats.{AreFirstPages, IsFirstMap, IsFirstPage, HasFirstPages, IsFormattedAs, empty_area, first_slot}
use Rattle.mt_format.specs.Schemas.{pages_in, relations_in, counters_in, schema_base, pages_end, area_end, device_bytes}

-- ---- pages in their slots

-- they stay where what changes lies elsewhere
pub pages_kept : (s : Schema) (at n : ℕ) (old new : List ℕ) → Torn at n old new → Apart at n 8192 (4096 * pages_in s) → HasFirstPages s old → HasFirstPages s new
pages_kept s at n old new torn apart has p lt = subst (IsFirstPage s p) (sym (cut_torn at n (8192 + 4096 * p) 4096 old new torn (slot_apart at n 8192 (pages_in s) p lt apart))) (has p lt)

-- one more is written
pub pages_more : (s : Schema) (n : ℕ) (page old new : List ℕ) → Wrote (8192 + 4096 * n) page old new → length page ≡ 4096 → IsFirstPage s n page → ((p : ℕ) → p < n → IsFirstPage s p (slot 8192 old p))
    → (p : ℕ) → p < n + 1 → IsFirstPage s p (slot 8192 new p)
pages_more s n page old new wrote size is before p lt = ⊎_elim
    (λ (same : p ≡ n). subst (λ (q : ℕ). IsFirstPage s q (slot 8192 new q)) (sym same) (subst (IsFirstPage s n) (sym (part_has new page (8192 + 4096 * n) 4096 wrote.has (sym size))) is))
    (λ (other : p ≢ n). subst (IsFirstPage s p) (sym (cut_torn (8192 + 4096 * n) 4096 (8192 + 4096 * p) 4096 old new (subst (λ (m : ℕ). Torn (8192 + 4096 * n) m old new) size wrote.rest) (other_slot 8192 p n other))) (before p (omega arith)))
    (cases_eq p n)

-- one more is in memory
pub first_pushed : (s : Schema) (n : ℕ) (page : List ℕ) (items : List (List ℕ)) → length items ≡ n → IsFirstPage s n page → ((p : ℕ) → p < n → IsFirstPage s p (get_or items p []))
    → (p : ℕ) → p < n + 1 → IsFirstPage s p (get_or (items ++ page ∷ []) p [])
first_pushed s n page items size is before p lt = ⊎_elim
    (λ (same : p ≡ n). subst (λ (q : ℕ). IsFirstPage s q (get_or (items ++ page ∷ []) q [])) (sym same)
    (subst (IsFirstPage s n) (sym (ap (λ (q : ℕ). get_or (items ++ page ∷ []) q []) (sym size) ∙ get_or-append_seam items page [] [])) is))
    (λ (other : p ≢ n). subst (IsFirstPage s p) (sym (get_or_append_left items (page ∷ []) [] p (omega arith))) (before p (omega arith)))
    (cases_eq p n)

-- ---- the map

free_behind : (map : List ℕ) → IsFirstMap map → (p : ℕ) → 4 ≤ p → get_or map p 0 ≡ 0
free_behind map m p from = elim (cases_lt p 4096) [
  | inl inside ↦ m.free p from inside
  | inr past ↦ get_or_past map p 0 (let size = m.size in omega arith)
]

bucket_is : (map : List ℕ) → IsFirstMap map → (p : ℕ) → get_or map p 0 ≡ 2 → p ≡ 3
bucket_is map m zero is = absurd (let k = m.space in omega arith)
bucket_is map m (suc zero) is = absurd (let k = m.directory in omega arith)
bucket_is map m (suc (suc zero)) is = absurd (let k = m.counters in omega arith)
bucket_is map m (suc (suc (suc zero))) is = refl
bucket_is map m (suc (suc (suc (suc p)))) is = absurd (let k = free_behind map m (suc (suc (suc (suc p)))) (omega arith) in omega arith)

no_records : (map : List ℕ) → IsFirstMap map → (p : ℕ) → get_or map p 0 ≢ 3
no_records map m zero is = let k = m.space in omega arith
no_records map m (suc zero) is = let k = m.directory in omega arith
no_records map m (suc (suc zero)) is = let k = m.counters in omega arith
no_records map m (suc (suc (suc zero))) is = let k = m.bucket in omega arith
no_records map m (suc (suc (suc (suc p)))) is = let k = free_behind map m (suc (suc (suc (suc p)))) (omega arith) in omega arith

-- ---- all of it

taken : (total : ℕ) (map : List ℕ) → IsFirstMap map → 4 ≤ total → (p : ℕ) → get_or map p 0 ≢ 0 → p < total
taken total map m some p ne = elim (cases_lt p 4) [
  | inl low ↦ omega (arith, low, some)
  | inr behind ↦ absurd (ne (free_behind map m p behind))
]

first_fixed : (map : List ℕ) → IsFirstMap map → (p : ℕ) → p < 3 → get_or map p 0 ≡ 1
first_fixed map m zero low = m.space
first_fixed map m (suc zero) low = m.directory
first_fixed map m (suc (suc zero)) low = m.counters
first_fixed map m (suc (suc (suc p))) low = absurd (omega (arith, low))

first_taken : (map : List ℕ) → IsFirstMap map → (p : ℕ) → 3 ≤ p → (get_or map p 0 ≡ 0) ⊎ ((get_or map p 0 ≡ 2) ⊎ (get_or map p 0 ≡ 3))
first_taken map m p high = elim (cases_lt p 4) [
  | inl low ↦ let at : 3 ≡ p = omega (arith, high, low) in inr (inl (subst (λ (q : ℕ). get_or map q 0 ≡ 2) at m.bucket))
  | inr past ↦ inl (free_behind map m p past)
]

first_kinds : (total : ℕ) (map : List ℕ) → IsFirstMap map → 4 ≤ total → (p : ℕ) → CanBe total p (get_or map p 0)
first_kinds total map m some p = record { fixed = first_fixed map m p; taken = first_taken map m p; within = taken total map m some p }

-- the pages as a schema formats them, wherever they are
module _ (s : Schema) (pages : PageBytes) (has : AreFirstPages s pages) where
  at_least : (n : ℕ) → n ≤ 16 → n ≤ pages_in s
  at_least n small = let some = s.page_count.0 in omega (arith, small, some)

  at_most : (n : ℕ) → 4000 ≤ n → pages_in s ≤ n
  at_most n large = let few = s.page_count.1 in omega (arith, large, few)

  first : (p : ℕ) → p < 4 → IsFirstPage s p (pages p)
  first p lt = has p (omega (arith, lt, at_least 4 (omega arith)))

  pub first_formatted : IsFormatted (relations_in s) (length (counters_in s)) (pages_in s) pages
  first_formatted =
      let m = (first 0 (omega arith)).map refl in
      let d = (first 1 (omega arith)).directory refl in
      let n = (first 2 (omega arith)).counters refl in
      let b = (first 3 (omega arith)).bucket refl in
      record {
        map = m.size;
        index = record {
          space_fixed = m.space;
          directory_fixed = m.directory;
          bucket = m.bucket;
          within = taken (pages_in s) (pages 0) m (at_least 4 (omega arith));
          few = at_most 4096 (omega arith);
          no_bits = d.no_bits;
          pointer = d.pointer;
          depth = b.depth;
          next = b.next;
          entries = b.none;
        };
        directory = d.formed;
        bucket = b.formed;
        one_bucket = bucket_is (pages 0) m;
        no_records = no_records (pages 0) m;
        kinds = first_kinds (pages_in s) (pages 0) m (at_least 4 (omega arith));
        counts = n.formed;
      }

module _ (s : Schema) (c : List ℕ) (has : HasFirstPages s c) where
  no_row : (r : ℕ) (k : List ℕ) → (schema_base s).rows r k ≡ None
  no_row r k = none (rows_of s.base) s.no_rows
    where
      none : (rows : List Row) → length rows ≡ 0 → value_at rows r k ≡ None
      none [] is = refl
      none (x ∷ xs) is = absurd (omega arith)

  holds : Holds (slot 8192 c) (schema_base s)
  holds =
      let h = formatted_holds (relations_in s) (length (counters_in s)) (pages_in s) (slot 8192 c) (first_formatted s (slot 8192 c) has) in
      let n = (first s (slot 8192 c) has 2 (omega arith)).counters refl in
      record {
        rows = record {
          found = λ r k v is. let no = no_row r k in absurd cc;
          there = λ r k v there. no_row r k ∙ h.rows.there r k v there;
        };
        counts = λ k lt. sym (n.starts k (omega (arith, lt, n.formed.counters_reported)));
      }

  area_held : Has c (pages_end s) empty_area → HoldsBatches c (pages_end s) (area_end s) (pages_in s) ([] ∷ [])
  area_held area =
      let some = s.area_size in
      record {
        row = (pages_end s + 5, (has_front c (pages_end s) (165 ∷ 0 ∷ 0 ∷ 0 ∷ 0 ∷ []) (0 ∷ []) area, omega arith), omega arith, λ gate. let shut = one_of c (pages_end s + 5) 0 (has_back c (pages_end s) (165 ∷ 0 ∷ 0 ∷ 0 ∷ 0 ∷ []) (0 ∷ []) area) in omega arith);
        each = ((tt, tt), tt);
        rules = (tt, tt);
      }

  pub formatted_as : device_bytes s ≤ length c → Has c 0 (slot_text (first_slot s)) → (get_or c 4096 0 ≢ 165) → Has c (pages_end s) empty_area → IsFormattedAs s c
  formatted_as long master shut area = record {
    long = long;
    master = master;
    other = shut;
    area = area_held area;
    pages = first_formatted s (slot 8192 c) has;
    base = holds;
    zeros = λ p behind lt. (has p lt).zeros behind;
  }
