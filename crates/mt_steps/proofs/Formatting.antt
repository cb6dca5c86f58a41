-- Pages as a device is formatted with them are good.
use Rattle.std.proofs.Common.{◌≡◌, ◌≢◌, ℕ, None, Some, refl, sym, subst}
use Rattle.std.proofs.lemmas.Bool.{ne_eqb}
use Rattle.mt_bucket.specs.Page.{IsBucket}
use Rattle.mt_slots.specs.Page.{Row}
use Rattle.mt_space.specs.Changes.{PageBytes}
use Rattle.mt_space.specs.Kinds.{kind}
use Rattle.mt_file.specs.File.{record_in}
use Rattle.mt_index.proofs.Chaining.{first_chained}
use Rattle.mt_index.proofs.Witness.{formatted}
use Rattle.mt_steps.specs.Formatted.{IsFormatted, first_base}
use Rattle.mt_steps.specs.Held.{Holds}
use Rattle.mt_steps.specs.Plans.{IsGood}

-- where no page holds records, no name does
nothing_in : (pages : PageBytes) → ((p : ℕ) → kind pages p ≢ 3) → (p s : ℕ) → record_in pages p s ≡ None
unfolding record_in
nothing_in pages none p s = rw (ne_eqb (kind pages p) 3 (none p)) refl

no_row : (pages : PageBytes) → ((p : ℕ) → kind pages p ≢ 3) → (p s : ℕ) (row : Row) → record_in pages p s ≡ Some row → ⊥
no_row pages none p s row is = let no = nothing_in pages none p s in cc

pub formatted_good : (relations counters total : ℕ) (pages : PageBytes) → IsFormatted relations counters total pages → IsGood relations counters total pages
formatted_good relations counters total pages f = record {
  meaning = λ r k. None;
  rows = record {
    file = record { whole = f.map; fixed = f.index.space_fixed; each = λ p is. absurd (f.no_records p is) };
    within = λ p s row is. absurd (no_row pages f.no_records p s row is);
    index = formatted total pages f.index;
    formed = record {
      directory = f.directory;
      buckets = λ p is. subst (λ (n : ℕ). IsBucket relations total (pages n)) (sym (f.one_bucket p is)) f.bucket;
      chained = first_chained total pages f.index f.one_bucket;
    };
    named = record { names = λ r k n is. absurd cc; named = λ p s row is. absurd (no_row pages f.no_records p s row is) };
    map = f.kinds;
  };
  counts = f.counts;
}

pub formatted_holds : (relations counters total : ℕ) (pages : PageBytes) → IsFormatted relations counters total pages → Holds pages (first_base pages)
formatted_holds relations counters total pages f = record {
  rows = record {
    found = λ r k v is. absurd cc;
    there = λ r k v there. absurd (no_row pages f.no_records there.0 there.1 (record { relation = r; key = k; value = v }) there.2);
  };
  counts = λ c lt. refl;
}
