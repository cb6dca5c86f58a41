-- What looking at all pages answers.
use Rattle.std.proofs.Common.{◌≡◌, ◌≢◌, inl, inr, ℕ, zero, suc, ◌+◌, ◌*◌, ◌<◌, ◌≤◌, Bool, true, false, not, ◌==◌, cond, bytes_eq, List, [], ◌∷◌, Option, Some, None, length, get_or, refl, sym, ap, ◌∙◌, subst, arith}
use Rattle.std.specs.Prelude.{IfSome, MatchOption}
use Rattle.std.proofs.lemmas.Bool.{cases_eq}
use Rattle.std.proofs.lemmas.Bool.Decides.{Decides-eqb, nat_tests}
use Rattle.std.specs.Cmp.Lexicographic.{bytes_decides}
use Rattle.mt_base.specs.declared.numbers.RecordName.{RecordName}
use Rattle.mt_bucket.specs.Entries.{Entry, is_at, look}
use Rattle.mt_bucket.specs.Page.{count_of, entries, entries_from, entry_of, cell}
use Rattle.mt_bucket.specs.Hash.{hash}
use Rattle.mt_file.specs.File.{record_in}
use Rattle.mt_file.proofs.Filed.{record_records, record_kind}
use Rattle.mt_index.specs.Checks.{entry_at, IsSound}
use Rattle.mt_space.specs.PageLists.{bytes_of, AreWhole}
use Rattle.mt_index.specs.Index.{Linked, Node, entries_of, named}
use Rattle.mt_index.specs.Maps.{Each, Map}
use Rattle.mt_index.specs.Pages.{AreMap, state_of}
use Rattle.mt_index.proofs.Lists.{at_parts}
use Rattle.mt_index.proofs.Looking.{look_in, look_past}
use Rattle.mt_base.specs.Limits.{IsRelationCount, limit_of}
use Rattle.mt_slots.specs.Page.{Row, count, slot}
use Rattle.mt_space.specs.Changes.{PageBytes}
use Rattle.mt_space.specs.Kinds.{kind, IsMap}
use Rattle.mt_steps.specs.Plans.{IsGood}
use Rattle.mt_base.specs.declared.format.Format.{Format}
use Rattle.mt_base.specs.declared.format.Format.TheVariants.{One, Two}
use Rattle.mt_page_rules.specs.Checks.{AllAreListed, AllNameRecords, AreBroken, AreChecked, AreCheckedIn, AreListedAt, AreRecordPages, HasListed, HasRecord, HasSchema, IsIndexed, IsNamedWell}
use Rattle.mt_page_rules.specs.Faults.{IsFaulty, breaks, unlisted}

pub at_any : {A : Type 0} (xs : List A) (i : ℕ) (d e : A) → i < length xs → get_or xs i d ≡ get_or xs i e
at_any [] i d e lt = absurd (omega arith)
at_any (x ∷ xs) zero d e lt = refl
at_any (x ∷ xs) (suc i) d e lt = at_any xs i d e (omega arith)

pub some_same : {A : Type 0} (x y : A) → Some x ≡ Some y → x ≡ y
some_same x y e = ap (λ (o : Option _). elim o [ None ↦ x | Some z ↦ z ]) e

none_some : {A : Type 0} (x : A) → None ≡ Some x → ⊥
none_some x e = cc

-- what is read of one of them
pub page_is : (items : List (List ℕ)) (p : ℕ) (page : List ℕ) → p < length items → page ≡ get_or items p page → page ≡ bytes_of items p
page_is items p page lt is = is ∙ at_any items p page [] lt

-- ---- records

module _ (items : List (List ℕ)) (p s : ℕ) (page : List ℕ) (is_page : page ≡ bytes_of items p) (records : kind (bytes_of items) p ≡ 3) where
  pub slot_is : record_in (bytes_of items) p s ≡ slot page s
  slot_is = record_records (bytes_of items) p s records ∙ ap (λ (x : List ℕ). slot x s) (sym is_page)

  pub none_there : slot page s ≡ None → (row : Row) → record_in (bytes_of items) p s ≡ Some row → ⊥
  none_there none row is = none_some row (sym none ∙ sym slot_is ∙ is)

  pub row_is : (row other : Row) → slot page s ≡ Some row → record_in (bytes_of items) p s ≡ Some other → other ≡ row
  row_is row other there is = some_same other row (sym is ∙ slot_is ∙ there)

pub kind_inside : (items : List (List ℕ)) (relations p : ℕ) → IsIndexed items relations → kind (bytes_of items) p ≢ 0 → p < length items
kind_inside items relations p known some = known.index.map.within p some

-- a name without a page of records is none of a record's
pub no_records : (items : List (List ℕ)) (relations : ℕ) (name : RecordName) (r : ℕ) (k : List ℕ) → IsIndexed items relations → (name.page < length items → kind (bytes_of items) name.page ≡ 3 → ⊥) → HasRecord items name r k → ⊥
no_records items relations name r k known none (v, is) =
    let records = record_kind (bytes_of items) name.page name.slot (record { relation = r; key = k; value = v }) is in
    none (kind_inside items relations name.page known (λ zero_is. let e = sym zero_is ∙ records in absurd (omega (arith, e)))) records

module _ (items : List (List ℕ)) (name : RecordName) (r : ℕ) (k page : List ℕ) (is_page : page ≡ bytes_of items name.page) (records : kind (bytes_of items) name.page ≡ 3) where
  pub empty_slot : slot page name.slot ≡ None → HasRecord items name r k → ⊥
  empty_slot none (v, is) = none_there items name.page name.slot page is_page records none (record { relation = r; key = k; value = v }) is

  pub own_record : (row : Row) → slot page name.slot ≡ Some row → row.relation ≡ r → row.key ≡ k → HasRecord items name r k
  own_record row there relation key = (row.value, slot_is items name.page name.slot page is_page records ∙ there ∙ (λ i. Some (record { relation = relation i; key = key i; value = row.value })))

  pub its_record : (row : Row) → slot page name.slot ≡ Some row → HasRecord items name r k → (r ≡ row.relation) × (k ≡ row.key)
  its_record row there (v, is) =
      let same = row_is items name.page name.slot page is_page records row (record { relation = r; key = k; value = v }) there is in
      (ap (λ (x : Row). x.relation) same, ap (λ (x : Row). x.key) same)

-- past the table nothing stands
pub slot_past : (page : List ℕ) (i : ℕ) → count page ≤ i → slot page i ≡ None
unfolding slot
slot_past page i past = grind (arith, nat_tests)

pub listed_past : (items : List (List ℕ)) (relations p s : ℕ) → AreRecordPages Two items relations → p < length items → kind (bytes_of items) p ≡ 3 → 1022 ≤ s → AreListedAt items p s
listed_past items relations p s pages inside records past row is =
    let shaped = (pages p inside records).shaped in
    let table = shaped.table in
    absurd (none_there items p s (bytes_of items p) refl records (slot_past (bytes_of items p) s (omega (arith, table, past))) row is)

-- ---- the index names records, and each record is listed

-- an entry of a key that is found stands somewhere
record Stands (r : ℕ) (k : List ℕ) (name : RecordName) (E : ℕ → Entry) (n : ℕ) : Type 0 where
  pub place : ℕ
  pub inside : place < n
  pub relation : (E place).relation ≡ r
  pub key : (E place).key ≡ k
  pub named : (E place).name ≡ name

stands_here : (page : List ℕ) (at n r : ℕ) (k : List ℕ) (name : RecordName) → look r k (entries_from page at n) ≡ Some name → Stands r k name (λ i. entry_of (cell page (at + 70 * i))) n
stands_here page at zero r k name is = absurd (none_some name is)
stands_here page at (suc n) r k name is = go (is_at r k (entry_of (cell page at))) refl is (stands_here page (at + 70) n r k name)
  where
    go : (b : Bool) → is_at r k (entry_of (cell page at)) ≡ b → cond b (Some (entry_of (cell page at)).name) (look r k (entries_from page (at + 70) n)) ≡ Some name
        → (look r k (entries_from page (at + 70) n) ≡ Some name → Stands r k name (λ i. entry_of (cell page (at + 70 + 70 * i))) n) → Stands r k name (λ i. entry_of (cell page (at + 70 * i))) (suc n)
    go true here found rec =
        let parts = at_parts r k (entry_of (cell page at)) here in
        let first : at + 70 * 0 ≡ at = omega arith in
        record {
          place = 0;
          inside = omega arith;
          relation = ap (λ (x : ℕ). (entry_of (cell page x)).relation) first ∙ parts.0;
          key = ap (λ (x : ℕ). (entry_of (cell page x)).key) first ∙ parts.1;
          named = ap (λ (x : ℕ). (entry_of (cell page x)).name) first ∙ some_same (entry_of (cell page at)).name name found;
        }
    go false other found rec =
        let rest = rec found in
        let lt = rest.inside in
        let next : at + 70 * suc rest.place ≡ at + 70 + 70 * rest.place = omega arith in
        record {
          place = suc rest.place;
          inside = omega (arith, lt);
          relation = ap (λ (x : ℕ). (entry_of (cell page x)).relation) next ∙ rest.relation;
          key = ap (λ (x : ℕ). (entry_of (cell page x)).key) next ∙ rest.key;
          named = ap (λ (x : ℕ). (entry_of (cell page x)).name) next ∙ rest.named;
        }

-- ---- tests

not_true : (b : Bool) → true ≡ not b → b ≡ false
not_true true e = absurd (cc)
not_true false e = refl

not_false : (b : Bool) → false ≡ not b → b ≡ true
not_false true e = refl
not_false false e = absurd (cc)

pub differ : (a b : ℕ) → true ≡ not (a == b) → a ≡ b → ⊥
differ a b e same = let no_match = not_true (a == b) e in let is_match = (Decides-eqb a b).1 same in let both = sym is_match ∙ no_match in cc

pub alike : (a b : ℕ) → false ≡ not (a == b) → a ≡ b
alike a b e = (Decides-eqb a b).0 (not_false (a == b) e)

pub keys_differ : (k l : List ℕ) → true ≡ not (bytes_eq k l) → k ≡ l → ⊥
keys_differ k l e same = let no_match = not_true (bytes_eq k l) e in let is_match = (bytes_decides k l).1 same in let both = sym is_match ∙ no_match in cc

pub keys_alike : (k l : List ℕ) → false ≡ not (bytes_eq k l) → k ≡ l
keys_alike k l e = (bytes_decides k l).0 (not_false (bytes_eq k l) e)

-- one more of a row
pub each_more : (P : ℕ → Type 0) (n : ℕ) → ((p : ℕ) → p < n → P p) → P n → (p : ℕ) → p < n + 1 → P p
each_more P n all here p lt = elim (cases_eq p n) [
  | inl same ↦ subst P (sym same) here
  | inr other ↦ all p (omega arith)
]

-- ---- the map is one

linked_same : (node : ℕ → Node) (p : ℕ) (ns ms : List ℕ) → Linked node p ns → Linked node p ms → ns ≡ ms
linked_same node p [] [] a b = refl
linked_same node p [] (m ∷ ms) a b = absurd (b.1 (sym b.0 ∙ a))
linked_same node p (n ∷ ns) [] a b = absurd (a.1 (sym a.0 ∙ b))
linked_same node p (n ∷ ns) (m ∷ ms) a b =
    let same : n ≡ m = sym a.0 ∙ b.0 in
    (λ i. same i ∷ ns) ∙ ap (λ (xs : List ℕ). m ∷ xs) (linked_same node (node m).next ns ms (subst (λ (x : ℕ). Linked node (node x).next ns) same a.2) b.2)

pub one_map : (total : ℕ) (pages : PageBytes) (m n : Map) → AreMap total pages m → AreMap total pages n → (r : ℕ) (k : List ℕ) → m r k ≡ n r k
one_map total pages m n a b r k =
    let s = state_of pages in
    sym (a.index.tree.map r k)
    ∙ ap (λ (ns : List ℕ). look r k (entries_of s.node ns)) (linked_same s.node (named s (hash k)) (a.index.tree.chain (named s (hash k))) (b.index.tree.chain (named s (hash k))) (a.index.tree.linked (hash k)) (b.index.tree.linked (hash k)))
    ∙ b.index.tree.map r k

-- ---- what the map names, an entry of a bucket page names

record InChain (pages : PageBytes) (r : ℕ) (k : List ℕ) (name : RecordName) : Type 0 where
  pub page : ℕ
  pub bucket : kind pages page ≡ 2
  pub here : look r k (entries (pages page)) ≡ Some name

in_chain : (pages : PageBytes) (r : ℕ) (k : List ℕ) (ns : List ℕ) (name : RecordName) → Each (λ n. kind pages n ≡ 2) ns → look r k (entries_of (state_of pages).node ns) ≡ Some name → InChain pages r k name
in_chain pages r k [] name kinds is = absurd (none_some name is)
in_chain pages r k (n ∷ ns) name kinds is = go (look r k (entries (pages n))) refl (in_chain pages r k ns name kinds.1)
  where
    go : (o : Option RecordName) → look r k (entries (pages n)) ≡ o → (look r k (entries_of (state_of pages).node ns) ≡ Some name → InChain pages r k name) → InChain pages r k name
    go None none rest = rest (sym (look_past r k (entries (pages n)) (entries_of (state_of pages).node ns) none) ∙ is)
    go (Some found) here rest =
        let whole = look_in r k (entries (pages n)) (entries_of (state_of pages).node ns) found here in
        record { page = n; bucket = kinds.0; here = here ∙ sym whole ∙ is }

-- the key's entry in a bucket page
pub record HasEntry (pages : PageBytes) (r : ℕ) (k : List ℕ) (name : RecordName) : Type 0 where
  pub page : ℕ
  pub bucket : kind pages page ≡ 2
  pub place : ℕ
  pub inside : place < count_of (pages page)
  pub relation : (entry_at (pages page) place).relation ≡ r
  pub key : (entry_at (pages page) place).key ≡ k
  pub named : (entry_at (pages page) place).name ≡ name

pub has_entry : (total : ℕ) (pages : PageBytes) (m : Map) → AreMap total pages m → (r : ℕ) (k : List ℕ) (name : RecordName) → m r k ≡ Some name → HasEntry pages r k name
has_entry total pages m a r k name is =
    let s = state_of pages in
    let found = in_chain pages r k (a.index.tree.chain (named s (hash k))) name (a.index.tree.kinds (hash k)) (a.index.tree.map r k ∙ is) in
    let e = stands_here (pages found.page) 8 (count_of (pages found.page)) r k name found.here in
    record { page = found.page; bucket = found.bucket; place = e.place; inside = e.inside; relation = e.relation; key = e.key; named = e.named }

-- ---- all of it

limit_below : (format : Format) → limit_of format ≤ 3000
limit_below One = omega arith
limit_below Two = omega arith

-- pages of either format are pages of format 2
pub pages_of_two : (items : List (List ℕ)) (relations : ℕ) (format : Format) → AreRecordPages format items relations → AreRecordPages Two items relations
pages_of_two items relations format pages p lt is = record {
  shaped = (pages p lt is).shaped;
  within = λ i r there. let fits = (pages p lt is).within i r there in record { relation = fits.relation; key = fits.key; value = let value = fits.value in let below = limit_below format in omega (arith, value, below) };
}

module _ (items : List (List ℕ)) (relations counters : ℕ) (map : IsMap (length items) (bytes_of items)) (schema : HasSchema items relations counters) (index : IsSound relations (length items) (bytes_of items)) (format : Format) (pages : AreRecordPages format items relations) where
  inside : (p : ℕ) → kind (bytes_of items) p ≢ 0 → p < length items
  inside p some = index.map.within p some

  used : (p k : ℕ) → kind (bytes_of items) p ≡ k → 0 < k → p < length items
  used p k is some = inside p (λ none. absurd (omega (arith, none, is, some)))

  within_page : (p s : ℕ) (row : Row) → record_in (bytes_of items) p s ≡ Some row → slot (bytes_of items p) s ≡ Some row
  within_page p s row is = sym (slot_is items p s (bytes_of items p) refl (record_kind (bytes_of items) p s row is)) ∙ is

  in_two : AreWhole items → AllNameRecords items → AllAreListed items → AreChecked items
  in_two whole named listed = record {
    relations = relations;
    counters = counters;
    fits = schema.fits;
    good = record {
      meaning = index.meaning;
      rows = record {
        file = record {
          whole = whole 0 (used 0 1 index.map.space_fixed (omega arith));
          fixed = index.map.space_fixed;
          each = λ p is. (pages p (used p 3 is (omega arith)) is).shaped;
        };
        within = λ p s row is. let records = record_kind (bytes_of items) p s row is in (pages_of_two items relations format pages p (used p 3 records (omega arith)) records).within s row (within_page p s row is);
        index = index.map;
        formed = index.formed;
        named = record {
          names = λ r k name is.
              let e = has_entry (length items) (bytes_of items) index.meaning index.map r k name is in
              let well = named e.page (used e.page 2 e.bucket (omega arith)) e.bucket e.place e.inside in
              subst (λ (x : ℕ). IsNamedWell items x k) e.relation (subst (λ (x : List ℕ). IsNamedWell items (entry_at (bytes_of items e.page) e.place).relation x) e.key well) index.meaning index.map name is;
          named = λ p s row is. let records = record_kind (bytes_of items) p s row is in listed p (used p 3 records (omega arith)) records s row is index.meaning index.map;
        };
        map = map;
      };
      counts = schema.counts;
    };
  }

  pub all_checked : AreWhole items → AllNameRecords items → AllAreListed items → AreCheckedIn format items
  unfolding in_two
  all_checked whole named listed = record { well_formed = in_two whole named listed; well_valued = pages }

-- good pages pass each look
module _ (items : List (List ℕ)) (relations counters : ℕ) (good : IsGood relations counters (length items) (bytes_of items)) where
  pub good_names : AllNameRecords items
  good_names q lt bucket i inside m am name is =
      good.rows.named.names (entry_at (bytes_of items q) i).relation (entry_at (bytes_of items q) i).key name
      (one_map (length items) (bytes_of items) good.meaning m good.rows.index am (entry_at (bytes_of items q) i).relation (entry_at (bytes_of items q) i).key ∙ is)

  pub good_listed : AllAreListed items
  good_listed p lt records s row is m am =
      one_map (length items) (bytes_of items) m good.meaning am good.rows.index row.relation row.key ∙ good.rows.named.named p s row is

  pub good_pages : AreRecordPages Two items relations
  good_pages p lt records = record {
    shaped = good.rows.file.each p records;
    within = λ s row is. good.rows.within p s row (slot_is items p s (bytes_of items p) refl records ∙ is);
  }

  pub good_sound : IsSound relations (length items) (bytes_of items)
  good_sound = record { formed = good.rows.formed; meaning = good.meaning; map = good.rows.index }

  pub good_schema : IsRelationCount relations → HasSchema items relations counters
  good_schema fits = record { fits = fits; counts = good.counts }

-- the last look
pub last_look : (format : Format) (items : List (List ℕ)) (o : Option ℕ) → (AllAreListed items → AreCheckedIn format items) → MatchOption o (AllAreListed items) (λ p. (p < length items) × (HasListed items p → ⊥)) → MatchOption o (AreCheckedIn format items) (λ p. AreBroken format items)
last_look format items None checked is = checked is
last_look format items (Some p) checked other = λ relations counters fits good values. other.1 (good_listed items relations counters good p other.0)

pub unlisted_named : (format : Format) (items : List (List ℕ)) (relations counters : ℕ) → HasSchema items relations counters → (o : Option ℕ) → MatchOption o (AllAreListed items) (λ p. (p < length items) × (HasListed items p → ⊥)) → IfSome o (IsFaulty format items)
unlisted_named format items relations counters schema None is = tt
unlisted_named format items relations counters schema (Some p) other = breaks relations counters schema (unlisted other.1)
