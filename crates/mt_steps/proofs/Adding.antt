-- A counters page that changes, and one that is read.
use Rattle.std.proofs.Common.{◌≡◌, ◌≢◌, ◌⊎◌, inl, inr, ℕ, ◌<◌, ◌+◌, ◌==◌, Bool, true, false, cond, List, length, get_or, refl, ap, sym, ◌∙◌, subst, arith, ℤ}
use Rattle.std.proofs.lemmas.Bool.{cases_eq, eq-eqb, ne_eqb}
use Rattle.mt_base.specs.declared.limits.TheConstants.{MAX_VALUE_BYTES}
use Rattle.mt_base.specs.Ranges.{Torn}
use Rattle.mt_space.specs.Changes.{PageBytes, replaced}
use Rattle.mt_space.proofs.Changing.{replaced_here, replaced_other}
use Rattle.mt_space.proofs.MapLemmas.{map_same}
use Rattle.mt_steps.proofs.Counted.{two_fixed}
use Rattle.mt_space.specs.Kinds.{kind}
use Rattle.mt_index.specs.Maps.{Map}
use Rattle.mt_index.specs.Pages.{LeavesIndex}
use Rattle.mt_index.proofs.Witness.{index_stays, form_stays}
use Rattle.mt_model.specs.declared.counters.Count.{Count}
use Rattle.mt_model.specs.declared.operations.Op.TheVariants.{Add, Read}
use Rattle.mt_model.specs.declared.operations.Reply.TheVariants.{Done, OutOfBounds, Value}
use Rattle.mt_model.specs.Model.{Base, moved, stays, added, alter_count}
use Rattle.mt_counters.specs.Counters.{place_of, count_in, AreCounters}
use Rattle.mt_steps.specs.Held.{Holds, AreRows}
use Rattle.mt_steps.specs.Acts.{IsAct}
use Rattle.mt_counters.proofs.Numbers.{count_apart}
use Rattle.mt_steps.proofs.Apart.{StaysFile, records_stay, file_stays, within_stays}
use Rattle.mt_steps.proofs.Acting.{named_same, rows_same}

-- ---- page 2 changes alone

other_page : (pages : PageBytes) (new : List ℕ) (p : ℕ) → kind pages 2 ≡ 1 → kind pages p ≢ 1 → replaced 2 new pages p ≡ pages p
other_page pages new p fixed ne = replaced_other 2 p new pages (λ e. ne (ap (λ (n : ℕ). kind pages n) e ∙ fixed))

kinds_stay : (pages : PageBytes) (new : List ℕ) (p : ℕ) → kind (replaced 2 new pages) p ≡ kind pages p
kinds_stay pages new p = ap (λ (c : List ℕ). get_or c p 0) (replaced_other 2 0 new pages (omega arith))

leaves : (relations total : ℕ) (pages : PageBytes) (m : Map) (new : List ℕ) → AreRows relations total pages m → LeavesIndex total pages (replaced 2 new pages)
leaves relations total pages m new rows = record {
  directory = replaced_other 2 1 new pages (omega arith);
  buckets = λ p two. (kinds_stay pages new p ∙ two, other_page pages new p (two_fixed total pages rows.map) (λ z. let a : kind pages p ≡ 1 = z in let b : kind pages p ≡ 2 = two in omega (arith, a, b)));
  no_more = λ p two. sym (kinds_stay pages new p) ∙ two;
  fixed = λ p one. kinds_stay pages new p ∙ one;
  within = λ p some. rows.index.within p (λ z. some (kinds_stay pages new p ∙ z));
}

pub file_kept : (relations total : ℕ) (pages : PageBytes) (m : Map) (new : List ℕ) → AreRows relations total pages m → StaysFile pages (replaced 2 new pages)
file_kept relations total pages m new rows = record {
  size = ap length (replaced_other 2 0 new pages (omega arith));
  fixed = kinds_stay pages new 0 ∙ rows.index.space_fixed;
  kinds = λ p three. kinds_stay pages new p ∙ three;
  back = λ p three. sym (kinds_stay pages new p) ∙ three;
  bytes = λ p three. other_page pages new p (two_fixed total pages rows.map) (λ z. let a : kind pages p ≡ 1 = z in let b : kind pages p ≡ 3 = three in omega (arith, a, b));
}

-- the rows stay, and the index with them
pub rows_stay : (relations total : ℕ) (pages : PageBytes) (m : Map) (new : List ℕ) → AreRows relations total pages m → AreRows relations total (replaced 2 new pages) m
rows_stay relations total pages m new rows =
    let kept = file_kept relations total pages m new rows in
    record {
      file = file_stays pages (replaced 2 new pages) kept rows.file;
      within = within_stays relations MAX_VALUE_BYTES pages (replaced 2 new pages) kept rows.within;
      index = index_stays total pages (replaced 2 new pages) m rows.index (leaves relations total pages m new rows);
      formed = form_stays relations total pages (replaced 2 new pages) m rows.index rows.formed (leaves relations total pages m new rows);
      named = named_same pages (replaced 2 new pages) m (records_stay pages (replaced 2 new pages) kept) rows.named;
      map = map_same total pages (replaced 2 new pages) rows.map (kinds_stay pages new);
    }

-- ---- the acts

stays_is : (pages : PageBytes) (b : Base) (c : ℕ) (d : ℤ) (t : Bool) → Holds pages b → c < get_or (pages 2) 1 0 → stays (count_in (pages 2) c) d ≡ t → stays (b.counts c) d ≡ t
stays_is pages b c d t held lt is = ap (λ (n : Count). stays n d) (held.counts c lt) ∙ is

-- the sum stays in the bounds
pub adds_done : (relations total : ℕ) (pages : PageBytes) (m : Map) (c counters : ℕ) (d : ℤ) (new : List ℕ) → AreRows relations total pages m → c < counters → AreCounters relations counters (pages 2)
    → stays (count_in (pages 2) c) d ≡ true → count_in new c ≡ moved (count_in (pages 2) c) d → Torn (place_of c + 16) 8 (pages 2) new → ((r n : ℕ) → AreCounters r n (pages 2) → AreCounters r n new)
    → IsAct relations total pages (replaced 2 new pages) (Add c d) Done
adds_done relations total pages m c counters d new rows there a fits here torn kept = record {
  replies = λ b held. ap (λ (t : Bool). cond t Done OutOfBounds) (stays_is pages b c d true held inside fits);
  base = λ b held. record {
    rows = rows_same pages (replaced 2 new pages) (alter_count b c (added d)) (records_stay pages (replaced 2 new pages) (file_kept relations total pages m new rows)) (record { found = held.rows.found; there = held.rows.there });
    counts = λ k lt. counted b held k (as_reported k lt) (cases k);
  };
  meaning = m;
  good = rows_stay relations total pages m new rows;
  counters = λ n old. subst (λ (page : List ℕ). AreCounters relations n page) (sym at_two) (kept relations n old);
}
  where
    inside : c < get_or (pages 2) 1 0
    inside = let outcome = a.counters_reported in omega (arith, there, outcome)

    at_two : replaced 2 new pages 2 ≡ new
    at_two = replaced_here 2 2 new pages refl

    as_reported : (k : ℕ) → k < get_or (replaced 2 new pages 2) 1 0 → k < get_or (pages 2) 1 0
    as_reported k lt =
        let now : get_or (replaced 2 new pages 2) 1 0 ≡ counters = ap (λ (page : List ℕ). get_or page 1 0) at_two ∙ (kept relations counters a).counters_reported in
        let outcome = a.counters_reported in
        omega (arith, lt, now, outcome)

    cases : (k : ℕ) → (k ≡ c) ⊎ (k ≢ c)
    cases k = cases_eq k c

    counted : (b : Base) → Holds pages b → (k : ℕ) → k < get_or (pages 2) 1 0 → (k ≡ c) ⊎ (k ≢ c) → cond (c == k) (added d (b.counts k)) (b.counts k) ≡ count_in (replaced 2 new pages 2) k
    counted b held k lt (inl same) =
        ap (λ (t : Bool). cond t (added d (b.counts k)) (b.counts k)) (eq-eqb c k (sym same))
        ∙ ap (λ (n : ℕ). added d (b.counts n)) same
        ∙ ap (λ (t : Bool). cond t (moved (b.counts c) d) (b.counts c)) (stays_is pages b c d true held inside fits)
        ∙ ap (λ (n : Count). moved n d) (held.counts c inside)
        ∙ sym here ∙ ap (λ (page : List ℕ). count_in page c) (sym at_two) ∙ ap (λ (n : ℕ). count_in (replaced 2 new pages 2) n) (sym same)
    counted b held k lt (inr other) =
        ap (λ (t : Bool). cond t (added d (b.counts k)) (b.counts k)) (ne_eqb c k (λ e. other (sym e)))
        ∙ held.counts k lt ∙ sym (count_apart (pages 2) new c k torn other) ∙ ap (λ (page : List ℕ). count_in page k) (sym at_two)

-- it does not, and nothing changes
pub adds_nothing : (relations total : ℕ) (pages : PageBytes) (m : Map) (c counters : ℕ) (d : ℤ) → AreRows relations total pages m → c < counters → AreCounters relations counters (pages 2)
    → stays (count_in (pages 2) c) d ≡ false → IsAct relations total pages pages (Add c d) OutOfBounds
adds_nothing relations total pages m c counters d rows there a leaves = record {
  replies = λ b held. ap (λ (t : Bool). cond t Done OutOfBounds) (stays_is pages b c d false held inside leaves);
  base = λ b held. record {
    rows = record { found = held.rows.found; there = held.rows.there };
    counts = λ k lt. counted b held k lt (cases_eq k c);
  };
  meaning = m;
  good = rows;
  counters = λ n old. old;
}
  where
    inside : c < get_or (pages 2) 1 0
    inside = let outcome = a.counters_reported in omega (arith, there, outcome)

    counted : (b : Base) → Holds pages b → (k : ℕ) → k < get_or (pages 2) 1 0 → (k ≡ c) ⊎ (k ≢ c) → cond (c == k) (added d (b.counts k)) (b.counts k) ≡ count_in (pages 2) k
    counted b held k lt (inl same) =
        ap (λ (t : Bool). cond t (added d (b.counts k)) (b.counts k)) (eq-eqb c k (sym same))
        ∙ ap (λ (n : ℕ). added d (b.counts n)) same
        ∙ ap (λ (t : Bool). cond t (moved (b.counts c) d) (b.counts c)) (stays_is pages b c d false held inside leaves)
        ∙ ap (λ (n : ℕ). b.counts n) (sym same) ∙ held.counts k lt
    counted b held k lt (inr other) = ap (λ (t : Bool). cond t (added d (b.counts k)) (b.counts k)) (ne_eqb c k (λ e. other (sym e))) ∙ held.counts k lt

-- a read
pub reads : (relations total : ℕ) (pages : PageBytes) (m : Map) (c counters : ℕ) (number : ℤ) → AreRows relations total pages m → c < counters → AreCounters relations counters (pages 2) → number ≡ (count_in (pages 2) c).number → IsAct relations total pages pages (Read c) (Value number)
reads relations total pages m c counters number rows there a is = record {
  replies = λ b held. ap (λ (n : Count). Value n.number) (held.counts c (let outcome = a.counters_reported in omega (arith, there, outcome))) ∙ ap Value (sym is);
  base = λ b held. record { rows = held.rows; counts = held.counts };
  meaning = m;
  good = rows;
  counters = λ n old. old;
}
