-- Which rows a list has once the records of pages are listed, and the base of them.
use Rattle.std.proofs.Common.{◌≡◌, ◌≢◌, ◌⊎◌, inl, inr, ◌<◌, ◌≤◌, ◌+◌, ℕ, ℤ, List, [], ◌∷◌, ◌++◌, length, map, get_or, pos, Some, None, Equal, Result, Ok, Err, IfOk, refl, ap, sym, subst, ◌∙◌, ⊎_elim, length-append, arith}
use Rattle.std.specs.Prelude.{Contains}
use Rattle.std.specs.List.Sorted.{IsPermutation}
use Rattle.std.proofs.lemmas.Bool.{cases_lt}
use Rattle.std.proofs.lemmas.List.{get_or_append_left, get_or-map}
use Rattle.std.proofs.lemmas.List.Elements.{All-contains_itself, Contains-append_left, Contains-push, Contains-push_cases}
use Rattle.std.proofs.lemmas.List.Quantifiers.{all_pairs_push}
use Rattle.std.proofs.lemmas.List.Sorted.{Contains-permutation, IsPermutation-sym}
use Rattle.mt_base.specs.declared.numbers.RecordName.{RecordName}
use Rattle.mt_file.proofs.Filed.{record_none, record_records}
use Rattle.mt_file.specs.File.{record_in}
use Rattle.mt_index.specs.Maps.{Map}
use Rattle.mt_model.specs.Model.{Base}
use Rattle.mt_model.specs.Tables.{count_at, no_count, started}
use Rattle.mt_model.specs.declared.counters.Count.{Count}
use Rattle.mt_rows.proofs.Altered.{equal_keys, row_of}
use Rattle.mt_rows.proofs.Members.{looked_up}
use Rattle.mt_rows.specs.Rows.{AreKeysOnce, IsOrdered, row_order, value_at}
use Rattle.mt_rows.specs.declared.rows.Row.{Row}
use Rattle.mt_slots.proofs.Pages.{slot_past}
use Rattle.mt_slots.specs.Page.{count, slot}
use Rattle.mt_space.specs.Changes.{PageBytes}
use Rattle.mt_space.specs.Kinds.{kind}
use Rattle.mt_counters.specs.Counters.{count_in}
use Rattle.mt_steps.proofs.RecordRows.{record_of}
use Rattle.mt_steps.proofs.ScanRows.{same_row}
use Rattle.mt_steps.specs.Held.{AreNamed, HoldsRows}
use Rattle.mt_steps.specs.Listed.{AreBounds, AreInside, HasListed, IsRow}

-- ---- counters

pub if_ok_map : {T E : Type 0} {P Q : T → Type 0} (r : Result T E) → ((x : T) → P x → Q x) → IfOk r P → IfOk r Q
if_ok_map (Ok x) f is = f x is
if_ok_map (Err e) f is = tt

pub no_bounds : (page : List ℕ) (bounds : List (ℤ × ℤ × ℤ)) → bounds ≡ [] → AreBounds page 0 bounds
no_bounds page bounds none = record { many = ap length none; each = λ c d lt. absurd (omega arith) }

last_bounds : (xs : List (ℤ × ℤ × ℤ)) (x d : ℤ × ℤ × ℤ) → get_or (xs ++ x ∷ []) (length xs) d ≡ x
last_bounds [] x d = refl
last_bounds (y ∷ xs) x d = last_bounds xs x d

pub more_bounds : (page : List ℕ) (n : ℕ) (bounds new : List (ℤ × ℤ × ℤ)) (x : ℤ × ℤ × ℤ) → new ≡ bounds ++ x ∷ [] → started x ≡ count_in page n → AreBounds page n bounds → AreBounds page (n + 1) new
more_bounds page n bounds new x pushed is are = record {
  many = ap length pushed ∙ length-append bounds (x ∷ []) ∙ ap (λ (l : ℕ). l + 1) are.many;
  each = λ c d lt. ap (λ (xs : List (ℤ × ℤ × ℤ)). started (get_or xs c d)) pushed ∙ ⊎_elim (λ (before : c < n). old c d before) (λ (last : n ≤ c). own c d (omega arith)) (cases_lt c n);
}
  where
    old : (c : ℕ) (d : ℤ × ℤ × ℤ) → c < n → started (get_or (bounds ++ x ∷ []) c d) ≡ count_in page c
    old c d before = ap started (get_or_append_left bounds (x ∷ []) d c (let many = are.many in omega arith)) ∙ are.each c d before

    own : (c : ℕ) (d : ℤ × ℤ × ℤ) → c ≡ n → started (get_or (bounds ++ x ∷ []) c d) ≡ count_in page c
    own c d same = let at' : c ≡ length bounds = same ∙ sym are.many in ap (λ (i : ℕ). started (get_or (bounds ++ x ∷ []) i d)) at' ∙ ap started (last_bounds bounds x d) ∙ is ∙ ap (count_in page) (sym same)

pub counted : (page : List ℕ) (n : ℕ) (bounds : List (ℤ × ℤ × ℤ)) (counts : List Count) → counts ≡ map started bounds → AreBounds page n bounds → (c : ℕ) → c < n → count_at counts c ≡ count_in page c
counted page n bounds counts same are c lt =
    let far : c < length bounds = (let many = are.many in omega arith) in
    ap (λ (ns : List Count). count_at ns c) same ∙ get_or-map started bounds c (pos 0, pos 0, pos 0) no_count far ∙ are.each c (pos 0, pos 0, pos 0) lt

-- ---- rows

-- a record in a page before p, or in one of the first i slots of p
abbrev pub IsBefore : ℕ → ℕ → ℕ → ℕ → Type 0
IsBefore p i q s = (q < p) ⊎ ((q ≡ p) × (s < i))

-- the rows are the records of the pages before p and those of its first slots, and no key stands twice
pub record HasListedTo (pages : PageBytes) (p i : ℕ) (rows : List Row) : Type 0 where
  pub found : (x : Row) → Contains rows x → (q : ℕ) × (s : ℕ) × IsBefore p i q s × IsRow pages q s x
  pub listed : (q s : ℕ) (x : Row) → IsBefore p i q s → IsRow pages q s x → Contains rows x
  pub once : AreKeysOnce rows

pub first_slot : (pages : PageBytes) (p : ℕ) (rows : List Row) → HasListed pages p rows → HasListedTo pages p 0 rows
first_slot pages p rows is = record {
  found = λ x has. let (q, s, before, at') = is.found x has in (q, s, inl before, at');
  listed = λ q s x before. is.listed q s x (⊎_elim (λ (lt : q < p). lt) (λ (none : (q ≡ p) × (s < 0)). absurd (let lt = none.1 in omega (arith, lt))) before);
  once = is.once;
}

-- a record that is there stands in one of the page's slots
within_slots : (pages : PageBytes) (p s : ℕ) (x : Row) → kind pages p ≡ 3 → IsRow pages p s x → s < count (pages p)
within_slots pages p s x records there = ⊎_elim (λ (lt : s < count (pages p)). lt)
    (λ (past : count (pages p) ≤ s). absurd (let wrong : None ≡ Some (record_of x) = sym (slot_past (pages p) s past) ∙ sym (record_records pages p s records) ∙ there in cc))
    (cases_lt s (count (pages p)))

pub last_slot : (pages : PageBytes) (p i : ℕ) (rows : List Row) → kind pages p ≡ 3 → count (pages p) ≤ i → HasListedTo pages p i rows → HasListed pages (p + 1) rows
last_slot pages p i rows records all is = record {
  found = λ x has. let (q, s, before, at') = is.found x has in (q, s, ⊎_elim (λ (lt : q < p). omega arith) (λ (own : (q ≡ p) × (s < i)). let same = own.0 in omega (arith, same)) before, at');
  listed = λ q s x lt there. is.listed q s x (⊎_elim (λ (less : q < p). inl less) (λ (own : p ≤ q). inr (of_own q s x (omega arith) there)) (cases_lt q p)) there;
  once = is.once;
}
  where
    of_own : (q s : ℕ) (x : Row) → q ≡ p → IsRow pages q s x → (q ≡ p) × (s < i)
    of_own q s x same there =
        let lt : s < count (pages p) = within_slots pages p s x records (subst (λ (n : ℕ). IsRow pages n s x) same there) in
        (same, omega arith)

-- what stands before the next slot stands before this one or in it
one_more : (p i q s : ℕ) → IsBefore p (i + 1) q s → IsBefore p i q s ⊎ ((q ≡ p) × (s ≡ i))
one_more p i q s (inl lt) = inl (inl lt)
one_more p i q s (inr own) =
    let last = own.1 in
    ⊎_elim (λ (less : s < i). inl (inr (own.0, less))) (λ (le : i ≤ s). inr (own.0, omega (arith, last))) (cases_lt s i)

still_before : (p i q s : ℕ) → IsBefore p i q s → IsBefore p (i + 1) q s
still_before p i q s (inl lt) = inl lt
still_before p i q s (inr own) = inr (own.0, let lt = own.1 in omega (arith, lt))

pub empty_slot : (pages : PageBytes) (p i : ℕ) (rows : List Row) → kind pages p ≡ 3 → slot (pages p) i ≡ None → HasListedTo pages p i rows → HasListedTo pages p (i + 1) rows
empty_slot pages p i rows records none is = record {
  found = λ x has. let (q, s, before, at') = is.found x has in (q, s, still_before p i q s before, at');
  listed = λ q s x before there. ⊎_elim (λ (old : IsBefore p i q s). is.listed q s x old there)
      (λ (own : (q ≡ p) × (s ≡ i)). absurd (nothing q s x own there)) (one_more p i q s before);
  once = is.once;
}
  where
    nothing : (q s : ℕ) (x : Row) → (q ≡ p) × (s ≡ i) → IsRow pages q s x → ⊥
    nothing q s x own there =
        let here : record_in pages p i ≡ Some (record_of x) = subst (λ (n : ℕ × ℕ). record_in pages n.0 n.1 ≡ Some (record_of x)) (λ j. (own.0 j, own.1 j)) there in
        let wrong : None ≡ Some (record_of x) = sym none ∙ sym (record_records pages p i records) ∙ here in cc

-- records of one key have one place
one_place : (pages : PageBytes) (m : Map) (q s p i : ℕ) (x y : Row) → AreNamed pages m → IsRow pages q s y → IsRow pages p i x → row_order y x ≡ Equal → (q ≡ p) × (s ≡ i)
one_place pages m q s p i x y named at_y at_x same =
    let keys = equal_keys y x.relation x.key same in
    let first : m y.relation y.key ≡ Some (record { page = q; slot = s }) = named.named q s (record_of y) at_y in
    let second : m x.relation x.key ≡ Some (record { page = p; slot = i }) = named.named p i (record_of x) at_x in
    let places : Some (record { page = q; slot = s }) ≡ Some (record { page = p; slot = i }) =
    sym first ∙ (ap (λ r. m r y.key) keys.0 ∙ (ap (λ k. m x.relation k) keys.1 ∙ second)) in
    let one : record { page = q; slot = s } ≡ record { page = p; slot = i } = some_name places in
    (ap (λ (n : RecordName). n.page) one, ap (λ (n : RecordName). n.slot) one)
  where
    some_name : {a b : RecordName} → Some a ≡ Some b → a ≡ b
    some_name e = cc

pub full_slot : (pages : PageBytes) (m : Map) (p i : ℕ) (rows new : List Row) (x : Row) → kind pages p ≡ 3 → slot (pages p) i ≡ Some (record_of x) → AreNamed pages m → new ≡ rows ++ x ∷ []
    → HasListedTo pages p i rows → HasListedTo pages p (i + 1) new
full_slot pages m p i rows new x records there named pushed is = subst (HasListedTo pages p (i + 1)) (sym pushed) (record {
  found = λ y has. ⊎_elim (λ (old : Contains rows y). let (q, s, before, at') = is.found y old in (q, s, still_before p i q s before, at'))
      (λ (own : x ≡ y). (p, i, inr (refl, omega arith), subst (IsRow pages p i) own here)) (Contains-push_cases rows x y has);
  listed = λ q s y before at'. ⊎_elim (λ (old : IsBefore p i q s). Contains-append_left rows (x ∷ []) y (is.listed q s y old at'))
      (λ (own : (q ≡ p) × (s ≡ i)). subst (Contains (rows ++ x ∷ [])) (own_row q s y own at') (Contains-push rows x)) (one_more p i q s before);
  once = all_pairs_push (λ a b. row_order a b ≢ Equal) rows x is.once (λ k d lt same. other (get_or rows k d) (All-contains_itself rows k d lt) same);
})
  where
    here : IsRow pages p i x
    here = record_records pages p i records ∙ there

    own_row : (q s : ℕ) (y : Row) → (q ≡ p) × (s ≡ i) → IsRow pages q s y → x ≡ y
    own_row q s y own at' = same_row x y (sym here ∙ subst (λ (n : ℕ × ℕ). IsRow pages n.0 n.1 y) (λ j. (own.0 j, own.1 j)) at')

    -- a row that is there already has another place, and so another key
    other : (y : Row) → Contains rows y → row_order y x ≡ Equal → ⊥
    other y has same =
        let (q, s, before, at') = is.found y has in
        let place = one_place pages m q s p i x y named at' here same in
        let page = place.0 in let slot_is = place.1 in
        ⊎_elim (λ (lt : q < p). absurd (omega (arith, page))) (λ (own : (q ≡ p) × (s < i)). absurd (let lt = own.1 in omega (arith, lt, slot_is))) before

-- a page that has no records adds no row
pub skip_page : (pages : PageBytes) (p : ℕ) (rows : List Row) → kind pages p ≢ 3 → HasListed pages p rows → HasListed pages (p + 1) rows
skip_page pages p rows other is = record {
  found = λ x has. let (q, s, before, at') = is.found x has in (q, s, omega (arith, before), at');
  listed = λ q s x lt there. ⊎_elim (λ (before : q < p). is.listed q s x before there)
      (λ (own : p ≤ q). absurd (let at' : q ≡ p = omega arith in let wrong : None ≡ Some (record_of x) = sym (record_none pages p s other) ∙ ap (λ (n : ℕ). record_in pages n s) (sym at') ∙ there in cc)) (cases_lt q p);
  once = is.once;
}

-- ---- all pages

-- of no page nothing is listed
pub nothing_listed : (pages : PageBytes) (rows : List Row) → rows ≡ [] → HasListed pages 0 rows
nothing_listed pages rows none = subst (HasListed pages 0) (sym none) (record {
  found = λ x has. absurd (let lt = has.1 in omega (arith, lt));
  listed = λ q s x lt there. absurd (omega arith);
  once = λ i j d less within. absurd (omega (arith, within));
})

-- with all pages listed, the rows in order are those of the base that the pages hold
pub all_listed : (pages : PageBytes) (total : ℕ) (rows sorted : List Row) (held : Base) → AreInside total pages → HoldsRows pages held → HasListed pages total rows
    → IsPermutation rows sorted → IsOrdered sorted → (r : ℕ) (k : List ℕ) → value_at sorted r k ≡ held.rows r k
all_listed pages total rows sorted held inside holds is moved ordered = looked_up sorted held.rows ordered some each
  where
    some : (r : ℕ) (k v : List ℕ) → held.rows r k ≡ Some v → Contains sorted (row_of r k v)
    some r k v has =
        let (q, s, there) = holds.found r k v has in
        Contains-permutation rows sorted (row_of r k v) moved (is.listed q s (row_of r k v) (inside q s (row_of r k v) there) there)

    each : (x : Row) → Contains sorted x → held.rows x.relation x.key ≡ Some x.value
    each x has =
        let (q, s, before, there) = is.found x (Contains-permutation sorted rows x (IsPermutation-sym rows sorted moved) has) in
        holds.there x.relation x.key x.value (q, s, there)
