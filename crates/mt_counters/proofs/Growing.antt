-- A counters page that gets more relations and counters.
use Rattle.std.proofs.Common.{◌≡◌, ◌∙◌, ◌<◌, ◌≤◌, ◌+◌, ◌-◌, ◌⊎◌, inl, inr, ⊎_elim, ℕ, List, length, get_or, set, sym, ap, subst, arith}
use Rattle.std.proofs.lemmas.Bool.{cases_lt}
use Rattle.std.proofs.lemmas.List.{get_or-set_other, get_or-set_same, length-set}
use Rattle.mt_base.specs.Ranges.{Torn}
use Rattle.mt_base.proofs.EightBytes.{number_stays}
use Rattle.mt_base.specs.declared.limits.TheConstants.{MAX_COUNTERS}
use Rattle.mt_model.specs.Tables.{IsLimited, count_at}
use Rattle.mt_model.specs.declared.counters.Count.{Count}
use Rattle.mt_counters.specs.Counters.{count_in, place_of, AreCounters}
use Rattle.mt_counters.specs.Extended.{IsExtended}

-- ---- more counters

-- a counter that was there, or one of those after it
pub each_counter : (n c : ℕ) (counters : List Count) → c < n + length counters → (c < n) ⊎ ((i : ℕ) × (i < length counters) × (c ≡ n + i))
each_counter n c counters lt = ⊎_elim
    (λ (old : c < n). inl old)
    (λ (new : n ≤ c). inr (c - n, omega (arith, lt, new), omega (arith, new)))
    (cases_lt c n)

pub counters_grow : (r c n : ℕ) (counters : List Count) (old new : List ℕ) → AreCounters r c old → IsExtended n counters old new
    → ((i : ℕ) → 2 ≤ i → i < 8 → get_or new i 0 ≡ get_or old i 0) → ((i : ℕ) → i < length counters → IsLimited (count_at counters i)) → c + length counters ≤ MAX_COUNTERS
    → AreCounters (r + n) (c + length counters) new
counters_grow r c n counters old new a e head limited few = record {
  size = e.size;
  relations_reported = e.more_relations ∙ ap (λ (x : ℕ). x + n) a.relations_reported;
  counters_reported = e.more_counters ∙ ap (λ (x : ℕ). x + length counters) a.counters_reported;
  zeros = λ i two eight. head i two eight ∙ a.zeros i two eight;
  few = few;
  each = λ k lt. elim (each_counter c k counters lt) [
    | inl was ↦ subst IsLimited (sym (e.stay k (subst (λ (x : ℕ). k < x) (sym a.counters_reported) was))) (a.each k was)
    | inr is ↦ subst (λ (x : ℕ). IsLimited (count_in new x)) (sym (is.2 ∙ ap (λ (x : ℕ). x + is.0) (sym a.counters_reported))) (subst IsLimited (sym (e.starts is.0 is.1)) (limited is.0 is.1))
  ];
}

-- ---- a page whose two counts are written after its counters

module _ (old mid : List ℕ) (n : ℕ) (counters : List Count) (size : length mid ≡ 4096) (head : (i : ℕ) → i < 8 → get_or mid i 0 ≡ get_or old i 0)
    (stay : (c : ℕ) → c < get_or old 1 0 → count_in mid c ≡ count_in old c) (starts : (i : ℕ) → i < length counters → count_in mid (get_or old 1 0 + i) ≡ count_at counters i) where
  abbrev first : List ℕ
  first = set mid 0 (get_or old 0 0 + n)

  abbrev pub counted : List ℕ
  counted = set first 1 (get_or old 1 0 + length counters)

  many : length first ≡ 4096
  many = length-set mid 0 (get_or old 0 0 + n) ∙ size

  torn : Torn 0 2 mid counted
  torn = record {
    size = length-set first 1 (get_or old 1 0 + length counters) ∙ length-set mid 0 (get_or old 0 0 + n);
    below = λ i lt. absurd (omega (arith, lt));
    above = λ i le. get_or-set_other first 1 i (get_or old 1 0 + length counters) 0 (λ e. omega (arith, e, le)) ∙ get_or-set_other mid 0 i (get_or old 0 0 + n) 0 (λ e. omega (arith, e, le));
  }

  same_count : (c : ℕ) → count_in counted c ≡ count_in mid c
  same_count c = λ i. record {
    low = number_stays mid counted 0 2 (place_of c) torn (inr (omega arith)) i;
    high = number_stays mid counted 0 2 (place_of c + 8) torn (inr (omega arith)) i;
    number = number_stays mid counted 0 2 (place_of c + 16) torn (inr (omega arith)) i;
  }

  pub extended : IsExtended n counters old counted
  extended = record {
    size = torn.size ∙ size;
    more_relations = get_or-set_other first 1 0 (get_or old 1 0 + length counters) 0 (λ e. omega (arith, e)) ∙ get_or-set_same mid 0 (get_or old 0 0 + n) 0 (omega (arith, size));
    more_counters = get_or-set_same first 1 (get_or old 1 0 + length counters) 0 (omega (arith, many));
    stay = λ c lt. same_count c ∙ stay c lt;
    starts = λ i lt. same_count (get_or old 1 0 + i) ∙ starts i lt;
  }

  pub rest : (i : ℕ) → 2 ≤ i → i < 8 → get_or counted i 0 ≡ get_or old i 0
  rest i low high = torn.above i low ∙ head i high
