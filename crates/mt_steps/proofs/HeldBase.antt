-- The base that pages hold: their records under their keys, and some counters.
use Rattle.std.proofs.Common.{◌≡◌, ◌<◌, ℕ, List, Option, None, Some, refl, sym, ◌∙◌, ap}
use Rattle.mt_base.specs.declared.numbers.RecordName.{RecordName}
use Rattle.mt_file.specs.File.{record_in}
use Rattle.mt_file.proofs.Filed.{record_kind}
use Rattle.mt_index.specs.Maps.{Map}
use Rattle.mt_model.specs.declared.counters.Count.{Count}
use Rattle.mt_model.specs.Model.{Base}
use Rattle.mt_slots.specs.Page.{Row}
use Rattle.mt_space.specs.Changes.{PageBytes}
use Rattle.mt_steps.specs.Held.{HoldsRows, IsThere, AreRows}
use Rattle.mt_steps.proofs.RecordRows.{listing_of}

value_in : Option Row → Option (List ℕ)
value_in None = None
value_in (Some row) = Some row.value

-- the value of the record that is named
value_named : PageBytes → Option RecordName → Option (List ℕ)
value_named pages None = None
value_named pages (Some n) = value_in (record_in pages n.page n.slot)

same : (v w : List ℕ) → Some v ≡ Some w → v ≡ w
same v w e = cc

module _ (relations total : ℕ) (pages : PageBytes) (m : Map) (rows : AreRows relations total pages m) where
  named_found : (r : ℕ) (k v : List ℕ) (o : Option RecordName) → m r k ≡ o → value_named pages o ≡ Some v → IsThere pages r k v
  unfolding value_named value_in
  named_found r k v None at is = absurd cc
  named_found r k v (Some n) at is =
      let t = rows.named.names r k n at in
      (n.page, n.slot, t.1 ∙ ap (λ (w : List ℕ). Some (record { relation = r; key = k; value = w })) (same t.0 v (sym (ap value_in t.1) ∙ is)))

  found : (r : ℕ) (k v : List ℕ) → value_named pages (m r k) ≡ Some v → IsThere pages r k v
  found r k v is = named_found r k v (m r k) refl is

  there : (r : ℕ) (k v : List ℕ) → IsThere pages r k v → value_named pages (m r k) ≡ Some v
  unfolding value_named value_in
  there r k v at = ap (value_named pages) (rows.named.named at.0 at.1 (record { relation = r; key = k; value = v }) at.2) ∙ ap value_in at.2

  -- each record stands in one of the pages
  inside : (p s : ℕ) (row : Row) → record_in pages p s ≡ Some row → p < total
  inside p s row at = rows.index.within p (λ free. let wrong : 3 ≡ 0 = sym (record_kind pages p s row at) ∙ free in cc)

  -- the base of these records, with such counters
  pub base_with : (ℕ → Count) → Base
  base_with counts = record {
    rows = λ r k. value_named pages (m r k);
    counts = counts;
    listing = listing_of pages total (λ r k. value_named pages (m r k)) inside found there;
  }

  pub counts_with : (counts : ℕ → Count) (c : ℕ) → (base_with counts).counts c ≡ counts c
  unfolding base_with
  counts_with counts c = refl

  pub rows_held : (counts : ℕ → Count) → HoldsRows pages (base_with counts)
  unfolding base_with
  rows_held counts = record { found = found; there = there }
