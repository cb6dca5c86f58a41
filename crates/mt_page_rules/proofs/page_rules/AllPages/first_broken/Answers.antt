use Rattle.std.proofs.Common.{◌≡◌, ◌∙◌, ◌<◌, ℕ, List, Option, None, length, get_or, ap, sym, subst, arith}
use Rattle.std.specs.Prelude.{MatchOption, IfSome}
use Rattle.mt_index.specs.Broken.{IsBroken}
use Rattle.mt_index.specs.Checks.{IsSound}
use Rattle.mt_space.specs.PageLists.{bytes_of}
use Rattle.mt_counters.specs.Counters.{AreCounters}
use Rattle.mt_steps.specs.Plans.{IsGood}
use Rattle.mt_base.specs.declared.format.Format.{Format}
use Rattle.mt_page_rules.specs.Checks.{AreRecordPages, HasSchema, IsIndexed}
use Rattle.mt_page_rules.specs.Faults.{in_index, malformed, misnaming, map_broken, has_no_schema, breaks}
use Rattle.mt_page_rules.proofs.Checked.{all_checked, good_names, good_sound, last_look, page_is, pages_of_two, unlisted_named}
use Rattle.mt_page_rules.proofs.page_rules.AllPages.first_broken.Goals as goal

-- what is known of the pages once those of records are looked at, by their bytes
known : (items : List (List ℕ)) (relations : ℕ) (format : Format) (o : Option ℕ) → o ≡ None → (x : List (List ℕ)) → x ≡ items
    → MatchOption o (IsSound relations (length x) (bytes_of x)) (λ p. IsSound relations (length x) (bytes_of x) → ⊥) → AreRecordPages format items relations → (r : ℕ) × IsIndexed items r
known items relations format o none x same found pages = (
  relations,
  record {
    index = subst (λ (q : Option ℕ). MatchOption q (IsSound relations (length items) (bytes_of items)) (λ p. IsSound relations (length items) (bytes_of items) → ⊥)) none
        (subst (λ (y : List (List ℕ)). MatchOption o (IsSound relations (length y) (bytes_of y)) (λ p. IsSound relations (length y) (bytes_of y) → ⊥)) same found);
    records = pages_of_two items relations format pages;
  },
)

pub returns-in-Some-clause-found : goal.returns-in-Some-clause-found
returns-in-Some-clause-found c = λ r n fits good values.
    let items = c.args.self.now.pages.items in
    let counted = c.sizes-counted.result in
    let three : 2 < length items = let some = c.args.self.now.some in omega (arith, some) in
    let page = c.index.result.now in
    let is_page : page ≡ bytes_of items 2 = page_is items 2 page three (c.index.ensures ∙ ap (λ (p : ℕ). get_or items p page) c.from.ensures) in
    let schema = λ (r : ℕ) (n : ℕ) (good : IsGood r n (length items) (bytes_of items)). c.sizes-counted.ensures.schema r n (subst (AreCounters r n) (sym is_page) good.counts) in
    let found = subst (λ (x : List (List ℕ)). MatchOption c.in_ok-page.field-0 (IsSound counted.relations (length x) (bytes_of x)) (λ p. IsSound counted.relations (length x) (bytes_of x) → ⊥)) c.deref.ensures.value c.in_ok-page.ensures.found in
    subst (λ (o : Option ℕ). MatchOption o (IsSound counted.relations (length items) (bytes_of items)) (λ p. IsSound counted.relations (length items) (bytes_of items) → ⊥)) c.in-Some.is found
    (subst (λ (x : ℕ). IsSound x (length items) (bytes_of items)) (sym (schema r n good).0) (good_sound items r n good))

pub returns-in-Some-first_malformed-clause-found : goal.returns-in-Some-first_malformed-clause-found
returns-in-Some-first_malformed-clause-found c = λ r n fits good values.
    let items = c.args.self.now.pages.items in
    let counted = c.sizes-counted.result in
    let three : 2 < length items = let some = c.args.self.now.some in omega (arith, some) in
    let page = c.index.result.now in
    let is_page : page ≡ bytes_of items 2 = page_is items 2 page three (c.index.ensures ∙ ap (λ (p : ℕ). get_or items p page) c.from.ensures) in
    let schema = λ (r : ℕ) (n : ℕ) (good : IsGood r n (length items) (bytes_of items)). c.sizes-counted.ensures.schema r n (subst (AreCounters r n) (sym is_page) good.counts) in
    (let p = c.in-Some-first_malformed.ensures in p.1 (subst (AreRecordPages c.args.self.now.format items) (sym (schema r n good).0) values c.in-Some-first_malformed.page p.0))

pub returns-in-Some-first_misnaming-clause-found : goal.returns-in-Some-first_misnaming-clause-found
returns-in-Some-first_misnaming-clause-found c = λ r n fits good values. let p = c.in-Some-first_misnaming.ensures in p.1 (good_names c.args.self.now.pages.items r n good c.in-Some-first_misnaming.page p.0)

pub returns-clause-found : goal.returns-clause-found
returns-clause-found c =
    let items = c.args.self.now.pages.items in
    let counted = c.sizes-counted.result in
    let found = subst (λ (x : List (List ℕ)). MatchOption c.in_ok-page.field-0 (IsSound counted.relations (length x) (bytes_of x)) (λ p. IsSound counted.relations (length x) (bytes_of x) → ⊥)) c.deref.ensures.value c.in_ok-page.ensures.found in
    let index : IsSound counted.relations (length items) (bytes_of items) = subst (λ (o : Option ℕ). MatchOption o (IsSound counted.relations (length items) (bytes_of items)) (λ p. IsSound counted.relations (length items) (bytes_of items) → ⊥)) c.in_default.is found in
    last_look c.args.self.now.format items c.first_unlisted.result
    (all_checked items counted.relations counted.counters c.if-not-has_map.ensures c.if-not-has_schema.ensures index c.args.self.now.format c.in_default-first_malformed.ensures c.args.self.now.whole c.in_default-first_misnaming.ensures)
    c.first_unlisted.ensures

pub returns-in-Some-clause-named : goal.returns-in-Some-clause-named
returns-in-Some-clause-named c =
    let items = c.args.self.now.pages.items in
    let counted = c.sizes-counted.result in
    let named = subst (λ (x : List (List ℕ)). IfSome c.in_ok-page.field-0 (IsBroken counted.relations (length x) (bytes_of x))) c.deref.ensures.value c.in_ok-page.ensures.named in
    breaks counted.relations counted.counters c.if-not-has_schema.ensures (in_index (subst (λ (o : Option ℕ). IfSome o (IsBroken counted.relations (length items) (bytes_of items))) c.in-Some.is named))

pub returns-in-Some-first_malformed-clause-named : goal.returns-in-Some-first_malformed-clause-named
returns-in-Some-first_malformed-clause-named c = breaks c.sizes-counted.result.relations c.sizes-counted.result.counters c.if-not-has_schema.ensures (malformed c.in-Some-first_malformed.ensures.1)

pub returns-in-Some-first_misnaming-clause-named : goal.returns-in-Some-first_misnaming-clause-named
returns-in-Some-first_misnaming-clause-named c = breaks c.sizes-counted.result.relations c.sizes-counted.result.counters c.if-not-has_schema.ensures (misnaming c.in-Some-first_misnaming.ensures.1)

pub returns-clause-named : goal.returns-clause-named
returns-clause-named c =
    let schema = c.if-not-has_schema.ensures in
    unlisted_named c.args.self.now.format c.args.self.now.pages.items c.sizes-counted.result.relations c.sizes-counted.result.counters schema c.first_unlisted.result c.first_unlisted.ensures

pub returns-then-not-has_schema-clause-named : goal.returns-then-not-has_schema-clause-named
returns-then-not-has_schema-clause-named c =
    let items = c.args.self.now.pages.items in
    let counted = c.sizes-counted.result in
    let three : 2 < length items = let some = c.args.self.now.some in omega (arith, some) in
    let page = c.index.result.now in
    let is_page : page ≡ bytes_of items 2 = page_is items 2 page three (c.index.ensures ∙ ap (λ (p : ℕ). get_or items p page) c.from.ensures) in
    has_no_schema c.new-then-not-has_schema.ensures (λ r n s.
    let same = c.sizes-counted.ensures.schema r n (subst (AreCounters r n) (sym is_page) s.counts) in
    c.if-not-has_schema.ensures (subst (λ (x : ℕ × ℕ). HasSchema items x.0 x.1) (λ i. (sym same.0 i, sym same.1 i)) s))

pub returns-then-not-has_map-clause-found : goal.returns-then-not-has_map-clause-found
returns-then-not-has_map-clause-found c = λ r n fits good values. c.if-not-has_map.ensures good.rows.map

pub returns-then-not-has_map-clause-named : goal.returns-then-not-has_map-clause-named
returns-then-not-has_map-clause-named c = map_broken c.new.ensures c.if-not-has_map.ensures

pub first_misnaming-requires : goal.first_misnaming-requires
first_misnaming-requires c =
    known c.args.self.now.pages.items c.sizes-counted.result.relations c.args.self.now.format c.in_ok-page.field-0 c.in_default.is c.deref.result.now c.deref.ensures.value c.in_ok-page.ensures.found c.in_default-first_malformed.ensures

pub named_slots-requires-clause-known : goal.named_slots-requires-clause-known
named_slots-requires-clause-known c =
    known c.args.self.now.pages.items c.sizes-counted.result.relations c.args.self.now.format c.in_ok-page.field-0 c.in_default.is c.deref.result.now c.deref.ensures.value c.in_ok-page.ensures.found c.in_default-first_malformed.ensures

pub first_unlisted-requires-clause-known : goal.first_unlisted-requires-clause-known
first_unlisted-requires-clause-known c =
    known c.args.self.now.pages.items c.sizes-counted.result.relations c.args.self.now.format c.in_ok-page.field-0 c.in_default.is c.deref.result.now c.deref.ensures.value c.in_ok-page.ensures.found c.in_default-first_malformed.ensures
