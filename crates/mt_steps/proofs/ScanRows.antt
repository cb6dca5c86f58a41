-- The rows under all names of a relation are its rows.
use Rattle.std.proofs.Common.{◌≡◌, ◌≢◌, ◌⊎◌, inl, inr, ℕ, ◌+◌, ◌<◌, List, [], ◌∷◌, ◌++◌, Option, Some, length, get_or, length-append, refl, sym, ap, ◌∙◌, subst, arith}
use Rattle.std.proofs.lemmas.Bool.{cases_order}
use Rattle.std.proofs.lemmas.List.{get_or_push, get_or_append_left}
use Rattle.std.specs.Prelude.{AllPairs, Contains}
use Rattle.std.specs.List.Sorted.{IsPermutation}
use Rattle.std.proofs.lemmas.List.Elements.{All-contains_itself}
use Rattle.std.proofs.lemmas.List.Sorted.{Contains-permutation, IsPermutation-sym}
use Rattle.mt_base.specs.declared.numbers.RecordName.{RecordName}
use Rattle.mt_rows.specs.declared.rows.Row as base
use Rattle.mt_rows.specs.Rows.{IsOrdered, AreKeysOnce}
use Rattle.mt_rows.specs.Listing.{of_relation}
use Rattle.mt_rows.proofs.Altered.{row_of, equal_keys}
use Rattle.mt_rows.proofs.Listings.{rows_equal}
use Rattle.mt_rows.proofs.Members.{relation_is}
use Rattle.mt_slots.specs.Page.{Row}
use Rattle.mt_space.specs.Changes.{PageBytes}
use Rattle.mt_file.specs.File.{record_in}
use Rattle.mt_index.specs.Maps.{Map}
use Rattle.mt_index.specs.Names.{AreNames, AreNamesOnce}
use Rattle.mt_index.proofs.Bucketwise.{names_distinct}
use Rattle.mt_model.specs.Model.{Base}
use Rattle.mt_steps.specs.Held.{HoldsRows, AreNamed, IsThere}
use Rattle.mt_steps.proofs.RecordRows.{record_of}

-- a row of a base as a record that is there
abbrev pub row_in : base.Row → Option Row
row_in x = Some (record_of x)

-- each row is the record under the name at its place
abbrev pub AreUnder : PageBytes → List RecordName → List base.Row → Type 0
AreUnder pages names rows = (j : ℕ) (d : RecordName) (e : base.Row) → j < length rows
    → record_in pages (get_or names j d).page (get_or names j d).slot ≡ row_in (get_or rows j e)

-- one row more, under the next name
pub under_push : (pages : PageBytes) (names : List RecordName) (rows : List base.Row) (x : base.Row) → AreUnder pages names rows
    → ((d : RecordName) → record_in pages (get_or names (length rows) d).page (get_or names (length rows) d).slot ≡ row_in x)
    → AreUnder pages names (rows ++ x ∷ [])
under_push pages names rows x under here j d e lt = by (cases_order j (length rows))
  where
    grown : length (rows ++ x ∷ []) ≡ length rows + 1
    grown = length-append rows (x ∷ [])

    by : (j ≡ length rows) ⊎ ((j < length rows) ⊎ (length rows < j))
        → record_in pages (get_or names j d).page (get_or names j d).slot ≡ row_in (get_or (rows ++ x ∷ []) j e)
    by (inl same) =
        subst (λ i. record_in pages (get_or names i d).page (get_or names i d).slot ≡ row_in (get_or (rows ++ x ∷ []) i e)) (sym same)
        (here d ∙ ap row_in (sym (get_or_push rows x e (length rows) refl)))
    by (inr (inl less)) = under j d e less ∙ ap row_in (sym (get_or_append_left rows (x ∷ []) e j less))
    by (inr (inr more)) = absurd (omega (arith, lt, more, grown))

pub some_row : {x y : Row} → Some x ≡ Some y → x ≡ y
some_row h = cc

pub row_is : (r s : ℕ) (k l v w : List ℕ) → r ≡ s → k ≡ l → v ≡ w
    → Some (record { relation = r; key = k; value = v }) ≡ row_in (record { relation = s; key = l; value = w })
row_is r s k l v w relation key value = λ i. Some (record { relation = relation i; key = key i; value = value i })

some_name : {x y : RecordName} → Some x ≡ Some y → x ≡ y
some_name h = cc

pub same_row : (x y : base.Row) → row_in x ≡ row_in y → x ≡ y
same_row x y is =
    let rows = some_row is in
    rows_equal x y (ap (λ (z : Row). z.relation) rows) (ap (λ (z : Row). z.key) rows) (ap (λ (z : Row). z.value) rows)

module _ (r : ℕ) (pages : PageBytes) (m : Map) (named : AreNamed pages m) where
  -- a name has one key
  one_key : (k l : List ℕ) (n : RecordName) → m r k ≡ Some n → m r l ≡ Some n → k ≡ l
  one_key k l n a b = ap (λ (x : Row). x.key) (some_row (sym (named.names r k n a).1 ∙ (named.names r l n b).1))

  -- so no name stands twice
  distinct : (names : List RecordName) → AreNamesOnce r m names → AllPairs (λ a b. a ≢ b) names
  distinct names once =
      subst (AllPairs (λ a b. a ≢ b)) (sym once.same)
      (names_distinct r once.entries once.once (λ k l n a b. one_key k l n (sym (once.map r k) ∙ a) (sym (once.map r l) ∙ b)))

  -- under a name there is a record of the relation
  pub stands : (names : List RecordName) → AreNames r m names → (i : ℕ) (d : RecordName) → i < length names
      → (k v : List ℕ) × (record_in pages (get_or names i d).page (get_or names i d).slot ≡ Some (record { relation = r; key = k; value = v }))
      × (m r k ≡ Some (get_or names i d))
  stands names are i d lt =
      let key = (are (get_or names i d)).0 (All-contains_itself names i d lt) in
      let stood = named.names r key.0 (get_or names i d) key.1 in
      (key.0, stood.0, stood.1, key.1)

  module _ (names : List RecordName) (rows : List base.Row) (all : length rows ≡ length names) (under : AreUnder pages names rows) where
    -- the name of a row is what the map says of its key
    row_named : (j : ℕ) (d : RecordName) (e : base.Row) → j < length rows → m (get_or rows j e).relation (get_or rows j e).key ≡ Some (get_or names j d)
    row_named j d e lt =
        named.named (get_or names j d).page (get_or names j d).slot
        (record { relation = (get_or rows j e).relation; key = (get_or rows j e).key; value = (get_or rows j e).value }) (under j d e lt)

    -- rows under different names have different keys
    pub keys_once : RecordName → AreNamesOnce r m names → AreKeysOnce rows
    keys_once d once i j e less within same =
        let keys = equal_keys (get_or rows i e) (get_or rows j e).relation (get_or rows j e).key same in
        let first = row_named i d e (omega (arith, less, within)) in
        let second = row_named j d e within in
        let there : Some (get_or names i d) ≡ Some (get_or names j d) =
        sym first ∙ (ap (λ q. m q (get_or rows i e).key) keys.0 ∙ (ap (λ q. m (get_or rows j e).relation q) keys.1 ∙ second)) in
        distinct names once i j d less (omega (arith, within, all)) (some_name there)

    -- a row is of the relation, if the names are
    of_own : AreNames r m names → (j : ℕ) (d : RecordName) (e : base.Row) → j < length rows → (get_or rows j e).relation ≡ r
    of_own are j d e lt =
        let stood = stands names are j d (omega (arith, lt, all)) in
        ap (λ (x : Row). x.relation) (some_row (sym (under j d e lt) ∙ stood.2))

    -- the rows, put in order, are those of the relation
    pub rows_are : AreNames r m names → (b : Base) → HoldsRows pages b → (ys : List base.Row) → IsOrdered ys → IsPermutation rows ys
        → of_relation r b.listing.sorted ≡ ys
    rows_are are b held ys ordered moved = relation_is b.rows b.listing r ys ordered some each
      where
        some : (k v : List ℕ) → b.rows r k ≡ Some v → Contains ys (row_of r k v)
        some k v is =
            let (p, s, at) = held.found r k v is in
            let n : RecordName = record { page = p; slot = s } in
            let has = (are n).1 (k, named.named p s (record { relation = r; key = k; value = v }) at) in
            let lt : has.0 < length rows = omega (arith, has.1, all) in
            let under_it = under has.0 n (row_of r k v) lt in
            let here : record_in pages p s ≡ row_in (get_or rows has.0 (row_of r k v)) =
            subst (λ (q : RecordName). record_in pages q.page q.slot ≡ row_in (get_or rows has.0 (row_of r k v))) has.2 under_it in
            Contains-permutation rows ys (row_of r k v) moved (has.0, lt, same_row (get_or rows has.0 (row_of r k v)) (row_of r k v) (sym here ∙ at))

        each : (x : base.Row) → Contains ys x → (x.relation ≡ r) × (b.rows x.relation x.key ≡ Some x.value)
        each x has =
            let (j, lt, is) = Contains-permutation ys rows x (IsPermutation-sym rows ys moved) has in
            let d : RecordName = record { page = 0; slot = 0 } in
            let n : RecordName = get_or names j d in
            let there : IsThere pages x.relation x.key x.value =
            (n.page, n.slot, subst (λ (z : base.Row). record_in pages n.page n.slot ≡ row_in z) is (under j d x lt)) in
            (ap (λ (z : base.Row). z.relation) (sym is) ∙ of_own are j d x lt, held.there x.relation x.key x.value there)
