-- Pages that are the same below their number are equally good, and hold the same base.
use Rattle.std.proofs.Common.{◌≡◌, inl, inr, ℕ, ◌<◌, ◌==◌, cond, List, None, length, get_or, refl, sym, ap, ◌∙◌, subst, arith}
use Rattle.std.proofs.lemmas.Bool.{cases_eq, ne_eqb}
use Rattle.mt_index.specs.Maps.{Map}
use Rattle.mt_index.specs.Pages.{AreMap, AreFormed, LeavesIndex}
use Rattle.mt_file.specs.File.{record_in}
use Rattle.mt_slots.specs.Page.{IsShaped, slot}
use Rattle.mt_space.proofs.MapLemmas.{map_same}
use Rattle.mt_space.specs.Kinds.{kind}
use Rattle.mt_model.specs.Model.{Base}
use Rattle.mt_space.specs.Changes.{PageBytes}
use Rattle.mt_counters.specs.Counters.{AreCounters, count_in}
use Rattle.mt_steps.specs.Held.{Holds}
use Rattle.mt_steps.specs.Plans.{IsGood}

module _ (map : (total : ℕ) (pages pages2 : PageBytes) (m : Map) → AreMap total pages m → LeavesIndex total pages pages2 → AreMap total pages2 m)
    (formed : (relations total : ℕ) (pages pages2 : PageBytes) (m : Map) → AreMap total pages m → AreFormed relations total pages → LeavesIndex total pages pages2 → AreFormed relations total pages2)
    (relations counters total : ℕ) (f g : PageBytes) (alike : (p : ℕ) → p < total → g p ≡ f p) (good : IsGood relations counters total f) where
  zero_is : g 0 ≡ f 0
  zero_is = alike 0 (good.rows.index.within 0 (λ z. absurd (let one = good.rows.index.space_fixed in omega (arith, z, one))))

  kinds : (p : ℕ) → kind g p ≡ kind f p
  kinds p = ap (λ (x : List ℕ). get_or x p 0) zero_is

  used_is : (p k : ℕ) → kind f p ≡ k → 0 < k → g p ≡ f p
  used_is p k is some = alike p (good.rows.index.within p (λ z. absurd (omega (arith, z, is, some))))

  leaves : LeavesIndex total f g
  leaves = record {
    directory = used_is 1 1 good.rows.index.directory_fixed (omega arith);
    buckets = λ p is. (kinds p ∙ is, used_is p 2 is (omega arith));
    no_more = λ p is. sym (kinds p) ∙ is;
    fixed = λ p is. kinds p ∙ is;
    within = λ p ne. good.rows.index.within p (λ z. ne (kinds p ∙ z));
  }

  records : (p s : ℕ) → record_in g p s ≡ record_in f p s
  unfolding record_in
  records p s = ap (λ (k : ℕ). cond (k == 3) (slot (g p) s) None) (kinds p) ∙ elim (cases_eq (kind f p) 3) [
    | inl is ↦ ap (λ (x : List ℕ). cond (kind f p == 3) (slot x s) None) (used_is p 3 is (omega arith))
    | inr ne ↦ rw (ne_eqb (kind f p) 3 ne) refl
  ]

  counters_is : g 2 ≡ f 2
  counters_is = used_is 2 1 ((good.rows.map 2).fixed (omega arith)) (omega arith)

  pub alike_good : IsGood relations counters total g
  alike_good = record {
    meaning = good.meaning;
    rows = record {
      file = record {
        whole = ap (λ (x : List ℕ). length x) zero_is ∙ good.rows.file.whole;
        fixed = kinds 0 ∙ good.rows.file.fixed;
        each = λ p is. subst IsShaped (sym (used_is p 3 (sym (kinds p) ∙ is) (omega arith))) (good.rows.file.each p (sym (kinds p) ∙ is));
      };
      within = λ p s r is. good.rows.within p s r (sym (records p s) ∙ is);
      index = map total f g good.meaning good.rows.index leaves;
      formed = formed relations total f g good.meaning good.rows.index good.rows.formed leaves;
      named = record {
        names = λ r k n is. let e = good.rows.named.names r k n is in (e.0, records n.page n.slot ∙ e.1);
        named = λ p s row is. good.rows.named.named p s row (sym (records p s) ∙ is);
      };
      map = map_same total f g good.rows.map kinds;
    };
    counts = subst (AreCounters relations counters) (sym counters_is) good.counts;
  }

  pub alike_holds : (b : Base) → Holds f b → Holds g b
  alike_holds b h = record {
    rows = record {
      found = λ r k v is. let e = h.rows.found r k v is in (e.0, e.1, records e.0 e.1 ∙ e.2);
      there = λ r k v e. h.rows.there r k v (e.0, e.1, sym (records e.0 e.1) ∙ e.2);
    };
    counts = λ c lt. h.counts c (subst (λ (x : List ℕ). c < get_or x 1 0) counters_is lt) ∙ ap (λ (x : List ℕ). count_in x c) (sym counters_is);
  }
