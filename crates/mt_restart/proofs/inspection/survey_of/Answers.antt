use Rattle.std.proofs.Common.{◌≡◌, ◌<◌, ℕ, List, ap, get_or, length, refl, subst, ◌∙◌}
use Rattle.mt_space.specs.PageLists.{bytes_of}
use Rattle.mt_index.specs.Pages.{depth_in}
use Rattle.mt_model.specs.Tables.{count_at}
use Rattle.mt_model.specs.Views.{base_of}
use Rattle.mt_model.specs.declared.counters.Count.{Count}
use Rattle.mt_counters.specs.Counters.{count_in}
use Rattle.mt_op.proofs.Surveyed.{records_inside, same_base}
use Rattle.mt_steps.specs.Listed.{HasListed}
use Rattle.mt_steps.specs.Plans.{free_pages}
use Rattle.mt_restart.proofs.inspection.survey_of.Goals as goal

pub base_of_rows-requires : goal.base_of_rows-requires
base_of_rows-requires c = record { once = c.in_ok-rows.ensures.listed.once }

pub returns : goal.returns
returns c = record {
  surveyed = λ relations counters held good holds.
      let items = c.args.restored.now.pages.items in
      let same = c.as_slice-pages.ensures.value in
      let none = c.in_ok-base.base in
      let made = c.base_of_rows.ensures in
      let page = ap (λ (i : ℕ). bytes_of c.as_slice-pages.result.now i) c.from.ensures ∙ ap (λ (xs : List (List ℕ)). bytes_of xs 2) same in
      let directory = ap (λ (i : ℕ). bytes_of c.as_slice-pages.result.now i) c.from-2.ensures ∙ ap (λ (xs : List (List ℕ)). bytes_of xs 1) same in
      let counted = subst (λ (bytes : List ℕ). (n : ℕ) → n < get_or bytes 1 0 → (base_of none).counts n ≡ count_in bytes n) page c.in_ok-base.ensures.counts in
      let listed = subst (λ (xs : List (List ℕ)). HasListed (bytes_of xs) (length xs) c.in_ok-rows.rows.items) same c.in_ok-rows.ensures.listed in
      record {
        depth = c.depth.ensures ∙ ap depth_in directory;
        free = c.free_count.ensures ∙ ap (λ (xs : List (List ℕ)). free_pages (length xs) (bytes_of xs)) same;
        relations_reported = made.relations ∙ c.in_ok-base.ensures.relations ∙ ap (λ (bytes : List ℕ). get_or bytes 0 0) page ∙ good.counts.relations_reported;
        counters_reported = ap length made.counters ∙ c.in_ok-base.ensures.counters ∙ ap (λ (bytes : List ℕ). get_or bytes 1 0) page ∙ good.counts.counters_reported;
        base = same_base relations counters (length items) (bytes_of items) held (base_of c.base_of_rows.result) (base_of none) (bytes_of items 2) good holds refl counted
            (ap (λ (ns : List Count). λ (n : ℕ). count_at ns n) made.counters)
            (made.rows (bytes_of items) (length items) held (records_inside relations counters (length items) (bytes_of items) good) holds.rows listed);
      };
}
