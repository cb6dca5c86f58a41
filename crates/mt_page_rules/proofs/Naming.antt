-- What the entries of bucket pages name.
use Rattle.std.proofs.Common.{◌≡◌, ◌≢◌, inl, inr, ⊎_elim, ℕ, zero, suc, ◌+◌, ◌*◌, ◌<◌, ◌≤◌, Bool, true, false, cond, List, [], ◌∷◌, ◌++◌, Some, length, get_or, set, refl, sym, ap, ◌∙◌, subst, arith, append_assoc}
use Rattle.std.specs.Prelude.{MatchBool}
use Rattle.std.proofs.lemmas.Bool.{cases_eq, cases_lt}
use Rattle.std.proofs.lemmas.List.{get_or-set_same, get_or-set_other, length-set}
use Rattle.mt_base.specs.declared.numbers.RecordName.{RecordName}
use Rattle.mt_bucket.specs.Entries.{Entry, look}
use Rattle.mt_bucket.specs.Page.{count_of, entries, entries_from, entry_of, cell}
use Rattle.mt_file.specs.File.{record_in}
use Rattle.mt_file.proofs.Filed.{record_kind}
use Rattle.mt_index.specs.Checks.{entry_at}
use Rattle.mt_space.specs.PageLists.{bytes_of}
use Rattle.mt_index.specs.Index.{State, entries_of, named}
use Rattle.mt_index.specs.Maps.{Map, Once}
use Rattle.mt_index.specs.Pages.{AreMap, state_of, IsOn}
use Rattle.mt_index.proofs.Chains.{entries_parts}
use Rattle.mt_index.proofs.Keeping.{walk_splits}
use Rattle.mt_index.proofs.Lists.{at_from, look_insert, once_remove}
use Rattle.mt_index.proofs.Looking.{anywhere}
use Rattle.mt_slots.specs.Page.{Row, slot}
use Rattle.mt_space.specs.Kinds.{kind}
use Rattle.mt_page_rules.specs.Checks.{AllNameRecords, AreListedAt, HasRecord, IsIndexed, IsNamedWell}
use Rattle.mt_page_rules.specs.Naming.{AreNamed, IsNamedIn, MarksNamed, NamesPlace, place}
use Rattle.mt_page_rules.proofs.Checked.{has_entry, kind_inside, none_there, slot_is, slot_past, some_same}

-- ---- an entry of an index is its map's

entry_splits : (page : List ℕ) (at n i : ℕ) → i < n → (x : List Entry) × (y : List Entry) × (entries_from page at n ≡ x ++ entry_of (cell page (at + 70 * i)) ∷ y)
entry_splits page at zero i lt = absurd (omega (arith, lt))
entry_splits page at (suc n) zero lt = ([], entries_from page (at + 70) n, ap (λ (p : ℕ). entry_of (cell page p) ∷ entries_from page (at + 70) n) (omega arith))
entry_splits page at (suc n) (suc i) lt =
    let r = entry_splits page (at + 70) n i (omega (arith, lt)) in (
      entry_of (cell page at) ∷ r.0,
      r.1,
      ap (λ (es : List Entry). entry_of (cell page at) ∷ es) r.2 ∙ ap (λ (p : ℕ). entry_of (cell page at) ∷ (r.0 ++ entry_of (cell page p) ∷ r.1)) (omega arith),
    )

look_once : (front : List Entry) (e : Entry) (back : List Entry) → Once (front ++ e ∷ back) → look e.relation e.key (front ++ e ∷ back) ≡ Some e.name
look_once front e back once =
    look_insert e.relation e.key front e back (once_remove front e back once).0
    ∙ ap (λ (b : Bool). cond b (Some e.name) (look e.relation e.key (front ++ back))) (at_from e.relation e.key e refl refl)

module _ (items : List (List ℕ)) (relations : ℕ) (known : IsIndexed items relations) (q i : ℕ) (bucket : kind (bytes_of items) q ≡ 2) (inside : i < count_of (bytes_of items q)) where
  pub entry_named : (m : Map) → AreMap (length items) (bytes_of items) m → m (entry_at (bytes_of items q) i).relation (entry_at (bytes_of items q) i).key ≡ Some (entry_at (bytes_of items q) i).name
  entry_named m a = anywhere s m a.index e.relation e.key e.name h (ap (look e.relation e.key) whole ∙ look_once (before ++ split.0) e (split.1 ++ behind) (subst Once whole (a.index.tree.buckets.once h)))
    where
      s : State
      s = state_of (bytes_of items)

      e : Entry
      e = entry_at (bytes_of items q) i

      h : ℕ
      h = (known.index.formed.chained q bucket).0

      on : IsOn (bytes_of items) (named s h) q
      on = (known.index.formed.chained q bucket).1

      parts : (back : List ℕ) × (a.index.tree.chain (named s h) ≡ on.front ++ q ∷ back)
      parts = walk_splits s.node (named s h) on.front q (a.index.tree.chain (named s h)) on.walk on.real (a.index.tree.linked h)

      split : (x : List Entry) × (y : List Entry) × (entries (bytes_of items q) ≡ x ++ e ∷ y)
      split = entry_splits (bytes_of items q) 8 (count_of (bytes_of items q)) i inside

      before : List Entry
      before = entries_of s.node on.front

      behind : List Entry
      behind = entries_of s.node parts.0

      whole : entries_of s.node (a.index.tree.chain (named s h)) ≡ before ++ split.0 ++ e ∷ (split.1 ++ behind)
      whole =
          ap (entries_of s.node) parts.1
          ∙ entries_parts s.node on.front q parts.0
          ∙ ap (λ (es : List Entry). before ++ (es ++ behind)) split.2
          ∙ ap (λ (es : List Entry). before ++ es) (append_assoc split.0 (e ∷ split.1) behind)
          ∙ sym (append_assoc before split.0 (e ∷ (split.1 ++ behind)))

  -- it names a record of its relation and key, or the index names none under them
  pub entry_well : (b : Bool) → MatchBool b (HasRecord items (entry_at (bytes_of items q) i).name (entry_at (bytes_of items q) i).relation (entry_at (bytes_of items q) i).key)
      (HasRecord items (entry_at (bytes_of items q) i).name (entry_at (bytes_of items q) i).relation (entry_at (bytes_of items q) i).key → ⊥)
      → MatchBool b (IsNamedWell items (entry_at (bytes_of items q) i).relation (entry_at (bytes_of items q) i).key) (IsNamedWell items (entry_at (bytes_of items q) i).relation (entry_at (bytes_of items q) i).key → ⊥)
  entry_well true has = λ m am name is.
      subst (λ (x : RecordName). HasRecord items x (entry_at (bytes_of items q) i).relation (entry_at (bytes_of items q) i).key)
      (some_same (entry_at (bytes_of items q) i).name name (sym (entry_named m am) ∙ is)) has
  entry_well false has = λ well. has (well known.index.meaning known.index.map (entry_at (bytes_of items q) i).name (entry_named known.index.meaning known.index.map))

  -- where each names a record, it names a slot of a page
  module _ (names : AllNameRecords items) where
    pub its_record : HasRecord items (entry_at (bytes_of items q) i).name (entry_at (bytes_of items q) i).relation (entry_at (bytes_of items q) i).key
    its_record =
        names q (kind_inside items relations q known (λ none. absurd (omega (arith, none, bucket)))) bucket i inside known.index.meaning known.index.map (entry_at (bytes_of items q) i).name (entry_named known.index.meaning known.index.map)

    pub its_page : (entry_at (bytes_of items q) i).name.page < length items
    its_page =
        let name = (entry_at (bytes_of items q) i).name in
        let row : Row = record { relation = (entry_at (bytes_of items q) i).relation; key = (entry_at (bytes_of items q) i).key; value = its_record.0 } in
        let records = record_kind (bytes_of items) name.page name.slot row its_record.1 in
        kind_inside items relations name.page known (λ none. absurd (omega (arith, none, records)))

    pub its_slot : (entry_at (bytes_of items q) i).name.slot < 1022
    its_slot =
        let name = (entry_at (bytes_of items q) i).name in
        let row : Row = record { relation = (entry_at (bytes_of items q) i).relation; key = (entry_at (bytes_of items q) i).key; value = its_record.0 } in
        let records = record_kind (bytes_of items) name.page name.slot row its_record.1 in
        let table = (known.records name.page its_page records).shaped.table in
        ⊎_elim (λ (lt : name.slot < 1022). lt)
        (λ (past : 1022 ≤ name.slot). absurd (none_there items name.page name.slot (bytes_of items name.page) refl records (slot_past (bytes_of items name.page) name.slot (omega (arith, table, past))) row its_record.1))
        (cases_lt name.slot 1022)

    pub its_place : place (entry_at (bytes_of items q) i).name < 1022 * length items
    its_place = let page = its_page in let low = its_slot in omega (arith, page, low)

-- ---- marks

-- one entry more
pub mark_more : (items : List (List ℕ)) (q n : ℕ) (old mid new : List Bool) (at : ℕ) → MarksNamed items q n old mid → place (entry_at (bytes_of items q) n).name ≡ at → at < length mid → new ≡ set mid at true → MarksNamed items q (n + 1) old new
mark_more items q n old mid new at m here inside is = record {
  size = ap length is ∙ length-set mid at true ∙ m.size;
  only = λ x marked. ⊎_elim
      (λ (e : x ≡ at). inr (n, omega arith, here ∙ sym e))
      (λ (ne : x ≢ at). ⊎_elim
      (λ (was : get_or old x false ≡ true). inl was)
      (λ (named : NamesPlace items q n x). inr (below x named))
      (m.only x (sym (other x ne) ∙ marked)))
      (cases_eq x at);
  kept = λ x was. stays x (m.kept x was);
  named = λ x (i, lt, names). ⊎_elim
      (λ (less : i < n). stays x (m.named x (i, less, names)))
      (λ (last : n ≤ i). let same : i ≡ n = omega (arith, lt, last) in ap (λ (y : ℕ). get_or new y false) (sym names ∙ ap (λ (j : ℕ). place (entry_at (bytes_of items q) j).name) same ∙ here) ∙ set_here)
      (cases_lt i n);
}
  where
    set_here : get_or new at false ≡ true
    set_here = ap (λ (l : List Bool). get_or l at false) is ∙ get_or-set_same mid at true false inside

    other : (x : ℕ) → x ≢ at → get_or new x false ≡ get_or mid x false
    other x ne = ap (λ (l : List Bool). get_or l x false) is ∙ get_or-set_other mid at x true false ne

    stays : (x : ℕ) → get_or mid x false ≡ true → get_or new x false ≡ true
    stays x was = ⊎_elim (λ (e : x ≡ at). ap (λ (y : ℕ). get_or new y false) e ∙ set_here) (λ (ne : x ≢ at). other x ne ∙ was) (cases_eq x at)

    below : (x : ℕ) → NamesPlace items q n x → NamesPlace items q (n + 1) x
    below x named = (named.0, (let lt = named.1 in omega (arith, lt)), named.2)

-- one bucket page more, and one of another kind
pub named_more : (items : List (List ℕ)) (q : ℕ) (old new : List Bool) → AreNamed items q old → kind (bytes_of items) q ≡ 2 → MarksNamed items q (count_of (bytes_of items q)) old new → AreNamed items (q + 1) new
named_more items q old new a bucket m = record {
  size = m.size ∙ a.size;
  only = λ x marked. ⊎_elim
      (λ (was : get_or old x false ≡ true). let r = a.only x was in (r.0, (let lt = r.1 in omega (arith, lt)), r.2))
      (λ (named : NamesPlace items q (count_of (bytes_of items q)) x). (q, omega arith, (bucket, named)))
      (m.only x marked);
  named = λ p lt x here. ⊎_elim
      (λ (less : p < q). m.kept x (a.named p less x here))
      (λ (last : q ≤ p). let same : p ≡ q = omega (arith, lt, last) in m.named x (subst (λ (y : ℕ). IsNamedIn items y x) same here).1)
      (cases_lt p q);
}

pub named_other : (items : List (List ℕ)) (q : ℕ) (marks : List Bool) → AreNamed items q marks → kind (bytes_of items) q ≢ 2 → AreNamed items (q + 1) marks
named_other items q marks a other = record {
  size = a.size;
  only = λ x marked. let r = a.only x marked in (r.0, (let lt = r.1 in omega (arith, lt)), r.2);
  named = λ p lt x here. ⊎_elim
      (λ (less : p < q). a.named p less x here)
      (λ (last : q ≤ p). let same : p ≡ q = omega (arith, lt, last) in absurd (other (ap (kind (bytes_of items)) (sym same) ∙ here.0)))
      (cases_lt p q);
}

-- ---- the record of a slot, by its mark

module _ (items : List (List ℕ)) (relations p s : ℕ) (page : List ℕ) (known : IsIndexed items relations) (names : AllNameRecords items) (marks : List Bool) (marked : AreNamed items (length items) marks) (below : s < 1022)
    (is_page : page ≡ bytes_of items p) (records : kind (bytes_of items) p ≡ 3) (row : Row) (there : slot page s ≡ Some row) where
  pub marked_listed : get_or marks (1022 * p + s) false ≡ true → AreListedAt items p s
  marked_listed is other held m am = go (marked.only (1022 * p + s) is)
    where
      go : (q : ℕ) × (q < length items) × IsNamedIn items q (1022 * p + s) → m other.relation other.key ≡ Some (record { page = p; slot = s })
      go (q, lt, (bucket, (i, inside, at))) =
          let e : Entry = entry_at (bytes_of items q) i in
          let slot_lt : e.name.slot < 1022 = its_slot items relations known q i bucket inside names in
          let has = its_record items relations known q i bucket inside names in
          let same_page : e.name.page ≡ p = omega (arith, at, slot_lt, below) in
          let same_slot : e.name.slot ≡ s = omega (arith, at, slot_lt, below) in
          let same : e.name ≡ record { page = p; slot = s } = λ j. record { page = same_page j; slot = same_slot j } in
          let rows : Some other ≡ Some (record { relation = e.relation; key = e.key; value = has.0 }) =
          sym held ∙ ap (λ (x : RecordName). record_in (bytes_of items) x.page x.slot) (sym same) ∙ has.1 in
          let one = some_same other (record { relation = e.relation; key = e.key; value = has.0 }) rows in
          ap (λ (x : Row). m x.relation x.key) one ∙ entry_named items relations known q i bucket inside m am ∙ ap (λ (x : RecordName). Some x) same

  pub unmarked_not : get_or marks (1022 * p + s) false ≡ false → AreListedAt items p s → ⊥
  unmarked_not is all =
      let m = known.index.meaning in
      let named : m row.relation row.key ≡ Some (record { page = p; slot = s }) = all row (slot_is items p s page is_page records ∙ there) m known.index.map in
      let e = has_entry (length items) (bytes_of items) m known.index.map row.relation row.key (record { page = p; slot = s }) named in
      let here = marked.named e.page (kind_inside items relations e.page known (λ none. let two = e.bucket in absurd (omega (arith, none, two)))) (1022 * p + s) (e.bucket, (e.place, e.inside, ap place e.named)) in
      let wrong : false ≡ true = sym is ∙ here in absurd (cc)

  pub by_mark : (b : Bool) → b ≡ get_or marks (1022 * p + s) false → MatchBool b (AreListedAt items p s) (AreListedAt items p s → ⊥)
  by_mark true is = marked_listed (sym is)
  by_mark false is = unmarked_not (sym is)
