-- Pages of a schema that gets more relations and counters: page 2 changes alone.
use Rattle.std.proofs.Common.{◌≡◌, ◌∙◌, ◌<◌, ◌+◌, ◌-◌, inl, inr, ℕ, List, length, get_or, refl, sym, ap, subst, arith}
use Rattle.std.proofs.lemmas.Bool.{le-ltb, lt-ltb}
use Rattle.std.specs.Prelude.{cond, Bool}
use Rattle.mt_base.specs.declared.limits.TheConstants.{MAX_VALUE_BYTES}
use Rattle.mt_bucket.specs.Page.{IsBucket}
use Rattle.mt_file.specs.File.{AreWithin}
use Rattle.mt_index.specs.Maps.{Map}
use Rattle.mt_index.specs.Pages.{AreFormed}
use Rattle.mt_model.specs.Model.{Base}
use Rattle.mt_model.specs.Tables.{count_at}
use Rattle.mt_model.specs.declared.counters.Count.{Count}
use Rattle.mt_space.specs.Changes.{PageBytes, replaced}
use Rattle.mt_space.proofs.Changing.{replaced_here}
use Rattle.mt_counters.specs.Counters.{count_in, AreCounters}
use Rattle.mt_counters.specs.Extended.{IsExtended, with_counters}
use Rattle.mt_counters.proofs.Growing.{each_counter}
use Rattle.mt_steps.specs.Held.{AreRows, Holds}
use Rattle.mt_steps.specs.Plans.{IsGood}
use Rattle.mt_steps.proofs.Acting.{base_same, rows_same}
use Rattle.mt_steps.proofs.Adding.{file_kept, rows_stay}
use Rattle.mt_steps.proofs.Apart.{records_stay}

-- ---- more relations

bucket_grows : (r n total : ℕ) (page : List ℕ) → IsBucket r total page → IsBucket (r + n) total page
bucket_grows r n total page b = record {
  length = b.length;
  shallow = b.shallow;
  first_zero = b.first_zero;
  few = b.few;
  next = b.next;
  zeros = b.zeros;
  each = λ i lt. let cell = b.each i lt in let low = cell.relation in record {
    relation = omega (arith, low);
    some = cell.some;
    short = cell.short;
    fill = cell.fill;
    place = cell.place;
  };
}

formed_grows : (r n total : ℕ) (pages : PageBytes) → AreFormed r total pages → AreFormed (r + n) total pages
formed_grows r n total pages f = record {
  directory = f.directory;
  buckets = λ p two. bucket_grows r n total (pages p) (f.buckets p two);
  chained = f.chained;
}

within_grows : (r n longest : ℕ) (pages : PageBytes) → AreWithin r longest pages → AreWithin (r + n) longest pages
within_grows r n longest pages w = λ p s row is. let fits = w p s row is in let low = fits.relation in record {
  relation = omega (arith, low);
  key = fits.key;
  value = fits.value;
}

rows_grow : (r n total : ℕ) (pages : PageBytes) (m : Map) → AreRows r total pages m → AreRows (r + n) total pages m
rows_grow r n total pages m rows = record {
  file = rows.file;
  within = within_grows r n MAX_VALUE_BYTES pages rows.within;
  index = rows.index;
  formed = formed_grows r n total pages rows.formed;
  named = rows.named;
  map = rows.map;
}

-- ---- all pages

module _ (r c n total : ℕ) (counters : List Count) (pages : PageBytes) (new : List ℕ) where
  at_two : replaced 2 new pages 2 ≡ new
  at_two = replaced_here 2 2 new pages refl

  pub good_grows : IsGood r c total pages → AreCounters (r + n) (c + length counters) new → IsGood (r + n) (c + length counters) total (replaced 2 new pages)
  good_grows good grown = record {
    meaning = good.meaning;
    rows = rows_grow r n total (replaced 2 new pages) good.meaning (rows_stay r total pages good.meaning new good.rows);
    counts = subst (AreCounters (r + n) (c + length counters)) (sym at_two) grown;
  }

  same_rows : (b : Base) (x : ℕ) (k : List ℕ) → b.rows x k ≡ (with_counters c counters b).rows x k
  unfolding with_counters
  same_rows b x k = refl

  stay : (b : Base) (k : ℕ) → k < c → (with_counters c counters b).counts k ≡ b.counts k
  unfolding with_counters
  stay b k lt = ap (λ (t : Bool). cond t (b.counts k) (count_at counters (k - c))) (lt-ltb k c lt)

  start : (b : Base) (i : ℕ) → (with_counters c counters b).counts (c + i) ≡ count_at counters i
  unfolding with_counters
  start b i = ap (λ (t : Bool). cond t (b.counts (c + i)) (count_at counters (c + i - c))) (le-ltb (c + i) c (omega arith)) ∙ ap (λ (x : ℕ). count_at counters x) (omega arith)

  pub holds_more : (b : Base) → IsGood r c total pages → IsExtended n counters (pages 2) new → Holds pages b → Holds (replaced 2 new pages) (with_counters c counters b)
  holds_more b good e held = record {
    rows = base_same (replaced 2 new pages) b (with_counters c counters b) (λ x k. same_rows b x k) (rows_same pages (replaced 2 new pages) b (records_stay pages (replaced 2 new pages) (file_kept r total pages good.meaning new good.rows)) held.rows);
    counts = λ k lt. elim (each_counter c k counters (subst (λ (x : ℕ). k < x) reported lt)) [
      | inl was ↦ stay b k was ∙ held.counts k (subst (λ (x : ℕ). k < x) (sym first) was) ∙ sym (e.stay k (subst (λ (x : ℕ). k < x) (sym first) was)) ∙ ap (λ (page : List ℕ). count_in page k) (sym at_two)
      | inr is ↦ ap (λ (x : ℕ). (with_counters c counters b).counts x) is.2 ∙ start b is.0 ∙ sym (e.starts is.0 is.1) ∙ ap (λ (x : ℕ). count_in new x) (ap (λ (x : ℕ). x + is.0) first ∙ sym is.2) ∙ ap (λ (page : List ℕ). count_in page k) (sym at_two)
    ];
  }
    where
      first : get_or (pages 2) 1 0 ≡ c
      first = good.counts.counters_reported

      reported : get_or (replaced 2 new pages 2) 1 0 ≡ c + length counters
      reported = ap (λ (page : List ℕ). get_or page 1 0) at_two ∙ e.more_counters ∙ ap (λ (x : ℕ). x + length counters) first
