-- Pages whose schema is extended break no rule, and hold the base with more counters.
use mathlib.Core.Logic.{∥∥₁_map}
use Rattle.std.proofs.Common.{◌≡◌, ◌≢◌, ◌∙◌, inl, inr, ℕ, ℤ, ◌≤◌, ◌+◌, Bool, false, List, [], length, get_or, map, set, refl, sym, ap, subst, arith}
use Rattle.std.proofs.lemmas.Bool.{cases_eq}
use Rattle.std.proofs.lemmas.Grind.{get_or-set_at}
use Rattle.std.proofs.lemmas.List.{length-map, length-set, get_or-set_other}
use Rattle.mt_space.specs.PageLists.{bytes_of, AreWhole}
use Rattle.mt_base.specs.Limits.{IsRelationCount}
use Rattle.mt_model.specs.Model.{Base}
use Rattle.mt_model.specs.Tables.{started}
use Rattle.mt_model.specs.declared.counters.Count.{Count}
use Rattle.mt_page_rules.specs.Checks.{AreChecked}
use Rattle.mt_space.specs.Changes.{PageBytes, replaced}
use Rattle.mt_space.proofs.Changing.{replaced_here, replaced_other}
use Rattle.mt_counters.specs.Counters.{AreCounters}
use Rattle.mt_counters.specs.Extended.{IsExtended, with_counters}
use Rattle.mt_steps.specs.Held.{Holds}
use Rattle.mt_steps.specs.Plans.{IsGood}
use Rattle.mt_steps.proofs.Extending.{good_grows, holds_more}
use Rattle.mt_replay.specs.Extension.{CanExtend, ExtendsSchema}
use Rattle.mt_pool.specs.Images.{slot}
use Rattle.mt_replay.specs.Marking.{MarksLost, FindsLost}
use Rattle.mt_replay.specs.Memory.{AreFirst, AreGood}
use Rattle.mt_replay.specs.Stands.{ShowsBase}

module _ (n : ℕ) (starts : List (ℤ × ℤ × ℤ)) (old new : List (List ℕ)) (extends : ExtendsSchema n starts old new) where
  abbrev counters : List Count
  counters = map started starts

  listed : length counters ≡ length starts
  listed = length-map starts started

  many : length new ≡ length old
  many = extends.sets.count

  other : (p : ℕ) → p ≢ 2 → get_or new p [] ≡ get_or old p []
  other p not = ap (λ (l : List (List ℕ)). get_or l p []) extends.sets.is ∙ get_or-set_other old 2 p (get_or new 2 []) [] not

  -- the pages, of which one is replaced
  pub first_then : (f : PageBytes) → AreFirst old f → AreFirst new (replaced 2 (get_or new 2 []) f)
  first_then f first p lt = elim (cases_eq p 2) [
    | inl same ↦ ap (λ (q : ℕ). get_or new q []) same ∙ sym (replaced_here 2 p (get_or new 2 []) f same)
    | inr not ↦ other p not ∙ first p (omega (arith, lt, many)) ∙ sym (replaced_other 2 p (get_or new 2 []) f not)
  ]

  module _ (r c : ℕ) (f : PageBytes) (first : AreFirst old f) (some : 3 ≤ length old) (good : IsGood r c (length old) f) where
    at_two : get_or old 2 [] ≡ f 2
    at_two = first 2 (omega (arith, some))

    pub then_good : IsGood (r + n) (c + length starts) (length new) (replaced 2 (get_or new 2 []) f)
    then_good = subst (λ (X : Type 0). X) (λ i. IsGood (r + n) (c + listed i) (sym many i) (replaced 2 (get_or new 2 []) f))
        (good_grows r c n (length old) counters f (get_or new 2 []) good (subst (λ (k : ℕ). AreCounters (r + n) (c + k) (get_or new 2 [])) (sym listed) (extends.schema r c (subst (AreCounters r c) (sym at_two) good.counts))))

    pub then_holds : (b : Base) → Holds f b → Holds (replaced 2 (get_or new 2 []) f) (with_counters c counters b)
    then_holds b held = holds_more r c n (length old) counters f (get_or new 2 []) b good (subst (λ (page : List ℕ). IsExtended n counters page (get_or new 2 [])) at_two extends.extended) held

  pub shows_more : (r c : ℕ) (b : Base) → 3 ≤ length old → ShowsBase r c old b → ShowsBase (r + n) (c + length starts) new (with_counters c counters b)
  shows_more r c b some shows = record {
    pages = replaced 2 (get_or new 2 []) shows.pages;
    first = first_then shows.pages shows.first;
    good = then_good r c shows.pages shows.first some shows.good;
    holds = then_holds r c shows.pages shows.first some shows.good b shows.holds;
  }

  pages_then : bytes_of new ≡ replaced 2 (get_or new 2 []) (bytes_of old)
  pages_then = λ i p. each p i
    where
      each : (p : ℕ) → bytes_of new p ≡ replaced 2 (get_or new 2 []) (bytes_of old) p
      each p = elim (cases_eq p 2) [
        | inl same ↦ ap (λ (q : ℕ). get_or new q []) same ∙ sym (replaced_here 2 p (get_or new 2 []) (bytes_of old) same)
        | inr not ↦ other p not ∙ sym (replaced_other 2 p (get_or new 2 []) (bytes_of old) not)
      ]

  pub relations_fit : (r c : ℕ) → AreCounters r c (get_or old 2 []) → IsRelationCount r → IsRelationCount (r + n)
  relations_fit r c a fits = let low = fits.0 in let is = a.relations_reported in let few = extends.takes.relation_count in (omega (arith, low), omega (arith, few, is))

  pub checked_more : 3 ≤ length old → AreChecked old → AreChecked new
  checked_more some checked = record {
    relations = checked.relations + n;
    counters = checked.counters + length starts;
    fits = relations_fit checked.relations checked.counters checked.good.counts checked.fits;
    good = subst (λ (f : PageBytes). IsGood (checked.relations + n) (checked.counters + length starts) (length new) f) (sym pages_then) (then_good checked.relations checked.counters (bytes_of old) (λ p lt. refl) some checked.good);
  }

  -- the marks of the pages, of which one is looked at again
  pub marks_more : (imaged lost : List Bool) (c : List ℕ) (found : Bool) → 3 ≤ length old → MarksLost old imaged c lost → FindsLost (get_or new 2 []) (get_or imaged 2 false) (slot 8192 c 2) found → MarksLost new imaged c (set lost 2 found)
  marks_more imaged lost c found some marks here = record {
    size = length-set lost 2 found ∙ marks.size ∙ sym many;
    other = λ p lt is. elim (cases_eq p 2) [
      | inl same ↦ subst (λ (q : ℕ). (get_or imaged q false ≡ false) × (slot 8192 c q ≢ get_or new q [])) (sym same) (here.other (sym (at_lost p same) ∙ is))
      | inr not ↦ let both = marks.other p (omega (arith, lt, many)) (sym (off_lost p not) ∙ is) in (both.0, λ e. both.1 (e ∙ other p not))
    ];
    kept = λ p lt is none. elim (cases_eq p 2) [
      | inl same ↦ subst (λ (q : ℕ). slot 8192 c q ≡ get_or new q []) (sym same) (here.kept (sym (at_lost p same) ∙ is) (ap (λ (q : ℕ). get_or imaged q false) (sym same) ∙ none))
      | inr not ↦ marks.kept p (omega (arith, lt, many)) (sym (off_lost p not) ∙ is) none ∙ sym (other p not)
    ];
  }
    where
      at_lost : (p : ℕ) → p ≡ 2 → get_or (set lost 2 found) p false ≡ found
      at_lost p same = get_or-set_at lost 2 p found false same (let size = marks.size in omega (arith, some, size))

      off_lost : (p : ℕ) → p ≢ 2 → get_or (set lost 2 found) p false ≡ get_or lost p false
      off_lost p not = get_or-set_other lost 2 p found false not

-- ---- one page that is extended

whole_set : (old : List (List ℕ)) (page : List ℕ) → AreWhole old → length page ≡ 4096 → AreWhole (set old 2 page)
whole_set old page whole size p lt = elim (cases_eq p 2) [
  | inl same ↦ ap (λ (l : List ℕ). length l) (get_or-set_at old 2 p page [] same (omega (arith, lt, many, same))) ∙ size
  | inr other ↦ ap (λ (l : List ℕ). length l) (get_or-set_other old 2 p page [] other) ∙ whole p (omega (arith, lt, many))
]
  where
    many : length (set old 2 page) ≡ length old
    many = length-set old 2 page

pub extends_by : (n : ℕ) (starts : List (ℤ × ℤ × ℤ)) (old : List (List ℕ)) (page : List ℕ) → AreWhole old → 3 ≤ length old → CanExtend n starts old → IsExtended n (map started starts) (get_or old 2 []) page
    → ((r c : ℕ) → AreCounters r c (get_or old 2 []) → AreCounters (r + n) (c + length starts) page) → ExtendsSchema n starts old (set old 2 page)
extends_by n starts old page whole some takes extended schema = record {
  takes = takes;
  sets = record {
    whole = whole_set old page whole extended.size;
    is = ap (set old 2) (sym here);
    count = length-set old 2 page;
  };
  extended = subst (IsExtended n (map started starts) (get_or old 2 [])) (sym here) extended;
  schema = λ r c a. subst (AreCounters (r + n) (c + length starts)) (sym here) (schema r c a);
}
  where
    here : get_or (set old 2 page) 2 [] ≡ page
    here = get_or-set_at old 2 2 page [] refl (omega (arith, some))

-- pages in memory that break no rule still break none
pub good_more : (n : ℕ) (starts : List (ℤ × ℤ × ℤ)) (old new : List (List ℕ)) → 3 ≤ length old → ExtendsSchema n starts old new → AreGood old → AreGood new
good_more n starts old new some extends good = ∥∥₁_map good (λ (f, r, c, first, is, few).
    let a : AreCounters r c (get_or old 2 []) = subst (AreCounters r c) (sym (first 2 (omega (arith, some)))) is.counts in
    let sum = extends.takes.relation_count in
    let reported = a.relations_reported in
    (replaced 2 (get_or new 2 []) f, r + n, c + length starts, first_then n starts old new extends f first, then_good n starts old new extends r c f first some is, omega (arith, sum, reported)))
