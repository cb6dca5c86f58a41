-- Counters of a page, one of whose numbers changes.
use Rattle.std.proofs.Common.{◌≡◌, ◌≢◌, ◌<◌, ◌≤◌, ◌+◌, ◌*◌, ◌+ℤ◌, ◌⊎◌, inl, inr, ⊎_elim, true, int_le, ℕ, ℤ, List, sym, ◌∙◌, ap, subst, arith}
use Rattle.std.proofs.lemmas.Int.{ints}
use Rattle.mt_base.specs.Ranges.{Torn, i64_at}
use Rattle.mt_base.proofs.EightBytes.{number_stays}
use Rattle.std.proofs.lemmas.Bool.{cases_eq, cases_lt, and_parts}
use Rattle.mt_model.specs.declared.counters.Count.{Count}
use Rattle.mt_model.specs.Model.{moved, stays}
use Rattle.mt_model.specs.Tables.{IsLimited}
use Rattle.mt_counters.specs.Counters.{place_of, count_in, AreCounters}

-- another counter stays where one number changes
pub count_apart : (old new : List ℕ) (n c : ℕ) → Torn (place_of n + 16) 8 old new → c ≢ n → count_in new c ≡ count_in old c
count_apart old new n c torn other = λ i. record { low = one (place_of c) (ends (place_of c) (omega arith) (omega arith)) i; high = one (place_of c + 8) (ends (place_of c + 8) (omega arith) (omega arith)) i; number = one (place_of c + 16) (ends (place_of c + 16) (omega arith) (omega arith)) i }
  where
    one : (p : ℕ) → (p + 8 ≤ place_of n + 16) ⊎ (place_of n + 16 + 8 ≤ p) → i64_at new p ≡ i64_at old p
    one p e = number_stays old new (place_of n + 16) 8 p torn e

    ends : (p : ℕ) → 8 + 24 * c ≤ p → p ≤ 8 + 24 * c + 16 → (p + 8 ≤ place_of n + 16) ⊎ (place_of n + 16 + 8 ≤ p)
    ends p low high = ⊎_elim
        (λ (below : c < n). inl (omega (arith, below, low, high)))
        (λ (above : n ≤ c). inr (let ne : n ≢ c = (λ e. other (sym e)) in omega (arith, above, ne, low, high)))
        (cases_lt c n)

-- another counter stays where one is put
pub counter_stays : (old new : List ℕ) (n c : ℕ) → Torn (place_of n) 24 old new → c ≢ n → count_in new c ≡ count_in old c
counter_stays old new n c torn other = λ i. record {
  low = one (place_of c) (apart (place_of c) (omega arith) (omega arith)) i;
  high = one (place_of c + 8) (apart (place_of c + 8) (omega arith) (omega arith)) i;
  number = one (place_of c + 16) (apart (place_of c + 16) (omega arith) (omega arith)) i;
}
  where
    apart : (p : ℕ) → place_of c ≤ p → p ≤ place_of c + 16 → (p + 8 ≤ place_of n) ⊎ (place_of n + 24 ≤ p)
    apart p low high = ⊎_elim
        (λ (below : c < n). inl (omega (arith, below, low, high)))
        (λ (above : n ≤ c). inr (let ne : n ≢ c = (λ e. other (sym e)) in omega (arith, above, ne, low, high)))
        (cases_lt c n)

    one : (p : ℕ) → (p + 8 ≤ place_of n) ⊎ (place_of n + 24 ≤ p) → i64_at new p ≡ i64_at old p
    one p e = number_stays old new (place_of n) 24 p torn e

-- a counters page whose one number has moved within its bounds
pub counters_kept : (relations counters n : ℕ) (old new : List ℕ) (d : ℤ) → AreCounters relations counters old → Torn (place_of n + 16) 8 old new → count_in new n ≡ moved (count_in old n) d → stays (count_in old n) d ≡ true → AreCounters relations counters new
counters_kept relations counters n old new d a torn here fits = record {
  size = torn.size ∙ a.size;
  relations_reported = torn.below 0 (omega arith) ∙ a.relations_reported;
  counters_reported = torn.below 1 (omega arith) ∙ a.counters_reported;
  zeros = λ i two eight. torn.below i (omega (arith, eight)) ∙ a.zeros i two eight;
  few = a.few;
  each = λ c lt. ⊎_elim
      (λ (same : c ≡ n). subst (λ (k : ℕ). IsLimited (count_in new k)) (sym same) (subst IsLimited (sym here) (subst (λ (k : ℕ). IsLimited (moved (count_in old k) d)) same (moved_limited (count_in old c) d (a.each c lt) (ap (λ (k : ℕ). stays (count_in old k) d) same ∙ fits)))))
      (λ (other : c ≢ n). subst IsLimited (sym (count_apart old new n c torn other)) (a.each c lt))
      (cases_eq c n);
}
  where
    moved_limited : (k : Count) (e : ℤ) → IsLimited k → stays k e ≡ true → IsLimited (moved k e)
    moved_limited k e l t = let p = and_parts (int_le k.low (k.number +ℤ e)) (int_le (k.number +ℤ e) k.high) t in let low = p.0 in let high = p.1 in (l.0, omega (arith, ints, low), omega (arith, ints, high), l.3)
