use Rattle.std.proofs.Common.{◌≡◌, ◌≤◌, ◌+◌, ◌∙◌, ℕ, ℤ, List, [], Bool, true, false, get_or, map, set, length, length-set, refl, sym, subst, ap, arith}
use Rattle.std.specs.Bool.{MatchBool, OnFalse, OnTrue}
use Rattle.std.proofs.lemmas.List.{get_or_read_under, set-get_or}
use Rattle.mt_model.specs.Tables.{started}
use Rattle.mt_space.specs.PageLists.{AreWhole}
use Rattle.mt_counters.specs.Counters.{AreCounters}
use Rattle.mt_counters.specs.Extended.{IsExtended, TakesMore}
use Rattle.mt_replay.specs.Extension.{CanExtend, ExtendsSchema}
use Rattle.mt_replay.specs.Memory.{AreGood}
use Rattle.mt_replay.proofs.Extending.{extends_by, good_more}
use Rattle.mt_replay.proofs.undo_pass.Restored.extend_schema.Goals as goal

-- what the two answers make of the pages
module _ (n : ℕ) (starts : List (ℤ × ℤ × ℤ)) (old : List (List ℕ)) (page : List ℕ) (whole : AreWhole old) (some : 3 ≤ length old) where
  abbrev was : List ℕ
  was = get_or old 2 []

  abbrev Takes : Type 0
  Takes = CanExtend n starts old

  extended : (t : Bool) → t ≡ true → MatchBool t Takes (Takes → ⊥) → OnTrue t (IsExtended n (map started starts) was page) → OnTrue t ((r c : ℕ) → AreCounters r c was → AreCounters (r + n) (c + length starts) page)
      → ExtendsSchema n starts old (set old 2 page)
  extended true e takes done schema = extends_by n starts old page whole some takes done schema
  extended false e takes done schema = absurd (let both : false ≡ true = e in cc)

  stay : (t : Bool) → t ≡ false → OnFalse t (page ≡ was) → set old 2 page ≡ old
  stay true e same = absurd (let both : true ≡ false = e in cc)
  stay false e same = ap (set old 2) same ∙ set-get_or old 2 []

  good : (t : Bool) → AreGood old → MatchBool t Takes (Takes → ⊥) → OnTrue t (IsExtended n (map started starts) was page) → OnFalse t (page ≡ was) → OnTrue t ((r c : ℕ) → AreCounters r c was → AreCounters (r + n) (c + length starts) page)
      → AreWhole (set old 2 page) × AreGood (set old 2 page)
  good true held takes done same schema = let e = extended true refl takes done schema in (e.sets.whole, good_more n starts old (set old 2 page) some e held)
  good false held takes done same schema = subst (λ (l : List (List ℕ)). AreWhole l × AreGood l) (sym (stay false refl same)) (whole, held)

was_is : (c : goal.After-self-1) → c.index_mut.result.now ≡ get_or c.args.self.now.pages.items 2 []
was_is c =
    let items = c.args.self.now.pages.items in
    let some = c.requires in
    get_or_read_under items 2 (length items) c.index_mut.result.now [] (subst (λ (i : ℕ). c.index_mut.result.now ≡ get_or items i c.index_mut.result.now) c.from.ensures c.index_mut.ensures.value) (omega (arith, some)) refl

pub invariant_of-self : goal.invariant_of-self
invariant_of-self c =
    let items = c.args.self.now.pages.items in
    let page = c.extend.new.page in
    let n = c.args.relations in
    let starts = c.args.counters.now in
    let few = c.args.self.now.few in
    let e = c.extend.ensures in
    let both = subst (λ (i : ℕ). AreWhole (set items i page) × AreGood (set items i page)) (sym c.from.ensures)
    (good n starts items page c.args.self.now.whole c.requires c.extend.result c.args.self.now.good
    (subst (λ (x : List ℕ). MatchBool c.extend.result (TakesMore (get_or x 0 0) (get_or x 1 0) n starts) (TakesMore (get_or x 0 0) (get_or x 1 0) n starts → ⊥)) (was_is c) e.outcome)
    (subst (λ (x : List ℕ). OnTrue c.extend.result (IsExtended n (map started starts) x page)) (was_is c) e.done)
    (subst (λ (x : List ℕ). OnFalse c.extend.result (page ≡ x)) (was_is c) e.unchanged)
    (subst (λ (x : List ℕ). OnTrue c.extend.result ((r k : ℕ) → AreCounters r k x → AreCounters (r + n) (k + length starts) page)) (was_is c) e.schema)) in
    record {
      whole = both.0;
      few = omega (arith, few, length-set items c.from.result page);
      good = both.1;
    }
