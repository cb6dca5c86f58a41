use Rattle.std.proofs.Common.{◌≡◌, ◌≢◌, ◌<◌, ◌∙◌, ⊎_elim, ℕ, length, ap, sym, subst, arith}
use Rattle.std.proofs.lemmas.Bool.{cases_eq}
use Rattle.mt_model.specs.Tables.{IsLimited, no_count, count_at}
use Rattle.mt_base.specs.Ranges.{Torn}
use Rattle.mt_counters.specs.Counters.{count_in, place_of}
use Rattle.mt_format.proofs.Zeros.{zero_at}
use Rattle.mt_counters.proofs.Numbers.{counter_stays}
use Rattle.mt_format.specs.Schemas.{counters_in}
use Rattle.mt_format.proofs.first_pages.counters_page.Goals as goal

pub loop-number-init : goal.loop-number-init
loop-number-init c =
    let w = c.put.ensures in
    let s = c.args.schema.now in
    let few = s.relation_count in
    let fewer = s.counter_count in
    let same = ap length c.counters-counters.ensures.counters in
    record {
      size = w.rest.size;
      relations = w.has.each 0 (omega arith) ∙ omega (arith, c.relations.ensures, few);
      counters = w.has.each 1 (omega arith) ∙ omega (arith, same, fewer);
      zeros = λ i from to. w.rest.above i from ∙ zero_at 4096 i;
      starts = λ k none. absurd (omega arith);
    }

pub loop-number-preserved : goal.loop-number-preserved
loop-number-preserved c =
    let inv = c.loop-number.invariant in
    let n = c.loop-number.number in
    let old = c.loop-number.page in
    let new = c.put_counter.new.page in
    let torn : Torn (place_of n) 24 old new = subst (λ (k : ℕ). Torn (place_of k) 24 old new) c.new.ensures c.put_counter.ensures.rest in
    let all = c.counters-counters.result.now in
    record {
      size = torn.size ∙ inv.size;
      relations = torn.below 0 (omega arith) ∙ inv.relations;
      counters = torn.below 1 (omega arith) ∙ inv.counters;
      zeros = λ i from to. torn.below i (omega arith) ∙ inv.zeros i from to;
      starts = λ k lt. ⊎_elim
          (λ (same : k ≡ n). ap (λ (m : ℕ). count_in new m) (same ∙ sym c.new.ensures) ∙ c.put_counter.ensures.count ∙ ap (λ (m : ℕ). count_at all m) (sym same))
          (λ (other : k ≢ n). counter_stays old new n k torn other ∙ inv.starts k (omega arith))
          (cases_eq k n);
    }

pub returns : goal.returns
returns c =
    let inv = c.loop-number.invariant in
    let done = c.loop-number-test.false in
    let s = c.args.schema.now in
    let all = c.counters-counters.ensures.counters in
    let starts : (k : ℕ) → k < length (counters_in s) → count_in c.loop-number.page k ≡ count_at (counters_in s) k = λ k lt. inv.starts k (omega (arith, lt, ap length all)) ∙ ap (λ l. count_at l k) all in
    record {
      formed = record {
        size = inv.size;
        relations_reported = inv.relations;
        counters_reported = inv.counters ∙ ap length all;
        zeros = inv.zeros;
        few = s.counter_count;
        each = λ k lt. subst IsLimited (sym (starts k lt)) (subst (λ l. IsLimited (count_at l k)) all (c.counters-counters.ensures.limited k no_count (omega (arith, lt, ap length all))));
      };
      starts = starts;
    }
