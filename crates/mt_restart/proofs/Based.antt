-- Good pages hold a base whose counters lie in their bounds.
use Rattle.std.proofs.Common.{◌≡◌, inl, inr, ◌⊎◌, ℕ, ◌<◌, ◌≤◌, refl, sym, ◌∙◌, subst, arith}
use Rattle.std.proofs.lemmas.Bool.{cases_lt}
use Rattle.mt_model.specs.Model.{Base, IsBase, IsInBounds}
use Rattle.mt_model.specs.Tables.{IsLimited, no_count}
use Rattle.mt_model.specs.declared.counters.Count.{Count}
use Rattle.mt_space.specs.Changes.{PageBytes}
use Rattle.mt_counters.specs.Counters.{count_in}
use Rattle.mt_steps.specs.Held.{Holds}
use Rattle.mt_steps.proofs.HeldBase.{base_with, counts_with, rows_held}
use Rattle.mt_steps.specs.Plans.{IsGood}

-- the counter, if there are so many
abbrev pick : {A B : Type 0} → Count → A ⊎ B → Count
pick count (inl a) = count
pick count (inr b) = no_count

picked : (count : Count) (c n : ℕ) (x : (c < n) ⊎ (n ≤ c)) → c < n → pick count x ≡ count
picked count c n (inl a) lt = refl
picked count c n (inr past) lt = absurd (omega (arith, past, lt))

limited : (count : Count) (c n : ℕ) (x : (c < n) ⊎ (n ≤ c)) → (c < n → IsLimited count) → IsInBounds (pick count x)
limited count c n (inl lt) is = record { not_under = (is lt).1; not_over = (is lt).2 }
limited count c n (inr past) is = record { not_under = search; not_over = search }

pub base_of_good : (relations counters total : ℕ) (f : PageBytes) → IsGood relations counters total f → (b : Base) × Holds f b × IsBase b
base_of_good relations counters total f good = (
  base_with relations total f good.meaning good.rows counts,
  record {
    rows = rows_held relations total f good.meaning good.rows counts;
    counts = λ c lt.
        counts_with relations total f good.meaning good.rows counts c
        ∙ picked (count_in (f 2) c) c counters (cases_lt c counters) (subst (λ (n : ℕ). c < n) good.counts.counters_reported lt);
  },
  λ c. subst IsInBounds (sym (counts_with relations total f good.meaning good.rows counts c))
      (limited (count_in (f 2) c) c counters (cases_lt c counters) (good.counts.each c)),
)
  where
    counts : ℕ → Count
    counts c = pick (count_in (f 2) c) (cases_lt c counters)
