use Rattle.std.proofs.Common.{◌≡◌, ◌≢◌, ◌∙◌, ◌+◌, ⊎_elim, ℕ, map, get_or, pos, sym, ap, subst, arith, rules, SFits, w64, to_z-of_z}
use Rattle.std.proofs.lemmas.Bool.{cases_eq}
use Rattle.std.proofs.lemmas.List.{get_or-map}
use Rattle.mt_base.specs.Ranges.{Torn}
use Rattle.mt_model.specs.Tables.{count_at, no_count, started}
use Rattle.mt_counters.specs.Counters.{count_in, place_of}
use Rattle.mt_counters.proofs.Numbers.{counter_stays}
use Rattle.mt_counters.proofs.counters.put_starts.Goals as goal

pub loop-at-preserved : goal.loop-at-preserved
loop-at-preserved c =
    let inv = c.loop-at.invariant in
    let at = c.loop-at.at in
    let n = c.args.first + at in
    let old = c.loop-at.page in
    let new = c.put_counter.new.page in
    let xs = c.args.counters.now in
    let t = get_or xs at (pos 0, pos 0, pos 0) in
    let low : SFits w64 t.0 = search rules in
    let high : SFits w64 t.1 = search rules in
    let number : SFits w64 t.2 = search rules in
    let placed : count_in new c.new.result ≡ started t = simp to_z-of_z at c.put_counter.ensures.count in
    let here : count_in new n ≡ started t = subst (λ (k : ℕ). count_in new k ≡ started t) c.new.ensures placed in
    let first = c.args.first in
    let torn : Torn (place_of n) 24 old new = subst (λ (k : ℕ). Torn (place_of k) 24 old new) c.new.ensures c.put_counter.ensures.rest in
    record {
      size = torn.size ∙ inv.size;
      head = λ i lt. torn.below i (omega (arith, lt)) ∙ inv.head i lt;
      stay = λ k lt. counter_stays old new n k torn (λ e. omega (arith, e, lt)) ∙ inv.stay k lt;
      starts = λ k lt. ⊎_elim
          (λ (same : k ≡ at). ap (λ (m : ℕ). count_in new (first + m)) same ∙ here ∙ sym (get_or-map started xs at (pos 0, pos 0, pos 0) no_count c.loop-at-test.true) ∙ ap (λ (m : ℕ). count_at (map started xs) m) (sym same))
          (λ (other : k ≢ at). counter_stays old new n (first + k) torn (λ e. other (omega (arith, e))) ∙ inv.starts k (omega (arith, lt, other)))
          (cases_eq k at);
    }
