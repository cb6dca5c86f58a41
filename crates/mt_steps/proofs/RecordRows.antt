-- The records of all pages as the rows of a base, in order.
use Rattle.std.proofs.Common.{◌≡◌, ◌≢◌, ◌⊎◌, inl, inr, ℕ, zero, suc, ◌<◌, ◌≤◌, List, [], ◌∷◌, ◌++◌, Option, Some, None, refl, ap, sym, ◌∙◌, subst, arith}
use Rattle.std.specs.Prelude.{Contains}
use Rattle.std.proofs.lemmas.Bool.{cases_lt, cases_eq}
use Rattle.std.proofs.lemmas.List.Elements.{Contains-append_left, Contains-append_right, Contains-append_cases}
use Rattle.mt_rows.specs.declared.rows.Row as base
use Rattle.mt_rows.specs.Rows.{value_at}
use Rattle.mt_rows.specs.Listing.{Listing}
use Rattle.mt_rows.proofs.Altered.{row_of}
use Rattle.mt_rows.proofs.Listings.{listed}
use Rattle.mt_rows.proofs.Members.{found_contained, contained_somewhere}
use Rattle.mt_file.specs.File.{record_in}
use Rattle.mt_file.proofs.Filed.{record_kind, record_records}
use Rattle.mt_slots.specs.Page.{Row, count}
use Rattle.mt_slots.proofs.Pages.{slot_past}
use Rattle.mt_space.specs.Changes.{PageBytes}
use Rattle.mt_steps.specs.Held.{IsThere}

-- a row of a base as a record, and a record as a row of a base
abbrev pub record_of : base.Row → Row
record_of x = record { relation = x.relation; key = x.key; value = x.value }

abbrev as_row : Row → base.Row
as_row x = record { relation = x.relation; key = x.key; value = x.value }

-- the rows, and one more if there is one
abbrev with_record : Option Row → List base.Row → List base.Row
with_record None xs = xs
with_record (Some x) xs = as_row x ∷ xs

-- the first n of these, those that are there
unfoldable collected : (ℕ → Option Row) → ℕ → List base.Row
collected g zero = []
collected g (suc n) = with_record (g n) (collected g n)

-- the records of the first n pages
unfoldable in_pages : PageBytes → ℕ → List base.Row
in_pages f zero = []
in_pages f (suc p) = collected (record_in f p) (count (f p)) ++ in_pages f p

-- ---- the slots of a page

-- what is among them is the first record, or is among the others
first_or_later : (o : Option Row) (xs : List base.Row) (x : base.Row) → Contains (with_record o xs) x → (o ≡ Some (record_of x)) ⊎ Contains xs x
first_or_later None xs x has = inr has
first_or_later (Some y) xs x (zero, lt, is) = inl (ap (λ (z : base.Row). Some (record_of z)) is)
first_or_later (Some y) xs x (suc i, lt, is) = inr (i, omega (arith, lt), is)

later : (o : Option Row) (xs : List base.Row) (x : base.Row) → Contains xs x → Contains (with_record o xs) x
later None xs x has = has
later (Some y) xs x has = (suc has.0, omega (arith, has.1), has.2)

collected_from : (g : ℕ → Option Row) (n : ℕ) (x : base.Row) → Contains (collected g n) x → (i : ℕ) × (g i ≡ Some (record_of x))
unfolding collected
collected_from g zero x has = absurd (let lt = has.1 in omega (arith, lt))
collected_from g (suc n) x has = go (collected_from g n x) (first_or_later (g n) (collected g n) x has)
  where
    go : (Contains (collected g n) x → (i : ℕ) × (g i ≡ Some (record_of x))) → (g n ≡ Some (record_of x)) ⊎ Contains (collected g n) x → (i : ℕ) × (g i ≡ Some (record_of x))
    go rest (inl here) = (n, here)
    go rest (inr there) = rest there

collected_has : (g : ℕ → Option Row) (n i : ℕ) (x : Row) → i < n → g i ≡ Some x → Contains (collected g n) (as_row x)
unfolding collected
collected_has g zero i x lt is = absurd (omega (arith, lt))
collected_has g (suc n) i x lt is = go (collected_has g n i x) (cases_eq i n)
  where
    go : (i < n → g i ≡ Some x → Contains (collected g n) (as_row x)) → (i ≡ n) ⊎ (i ≢ n) → Contains (with_record (g n) (collected g n)) (as_row x)
    go rest (inl same) =
        let here : g n ≡ Some x = ap g (sym same) ∙ is in
        subst (λ o. Contains (with_record o (collected g n)) (as_row x)) (sym here) (0, omega arith, refl)
    go rest (inr other) = later (g n) (collected g n) (as_row x) (rest (omega (arith, lt, other)) is)

-- ---- the pages

pages_from : (f : PageBytes) (n : ℕ) (x : base.Row) → Contains (in_pages f n) x → IsThere f x.relation x.key x.value
unfolding in_pages
pages_from f zero x has = absurd (let lt = has.1 in omega (arith, lt))
pages_from f (suc p) x has = go (pages_from f p x) (Contains-append_cases (collected (record_in f p) (count (f p))) (in_pages f p) x has)
  where
    go : (Contains (in_pages f p) x → IsThere f x.relation x.key x.value)
        → Contains (collected (record_in f p) (count (f p))) x ⊎ Contains (in_pages f p) x → IsThere f x.relation x.key x.value
    go rest (inl here) = let s = collected_from (record_in f p) (count (f p)) x here in (p, s.0, s.1)
    go rest (inr there) = rest there

slot_counted : (f : PageBytes) (p s : ℕ) (x : Row) → record_in f p s ≡ Some x → s < count (f p)
slot_counted f p s x is = go (cases_lt s (count (f p)))
  where
    go : (s < count (f p)) ⊎ (count (f p) ≤ s) → s < count (f p)
    go (inl lt) = lt
    go (inr le) =
        let none : None ≡ Some x = sym (record_records f p s (record_kind f p s x is) ∙ slot_past (f p) s le) ∙ is in
        absurd cc

pages_have : (f : PageBytes) (n p s : ℕ) (x : Row) → p < n → record_in f p s ≡ Some x → Contains (in_pages f n) (as_row x)
unfolding in_pages
pages_have f zero p s x lt is = absurd (omega (arith, lt))
pages_have f (suc n) p s x lt is = go (pages_have f n p s x) (cases_eq p n)
  where
    here : List base.Row
    here = collected (record_in f n) (count (f n))

    go : (p < n → record_in f p s ≡ Some x → Contains (in_pages f n) (as_row x)) → (p ≡ n) ⊎ (p ≢ n) → Contains (here ++ in_pages f n) (as_row x)
    go rest (inl same) =
        let there : record_in f n s ≡ Some x = ap (λ q. record_in f q s) (sym same) ∙ is in
        Contains-append_left here (in_pages f n) (as_row x) (collected_has (record_in f n) (count (f n)) s x (slot_counted f n s x there) there)
    go rest (inr other) = Contains-append_right here (in_pages f n) (as_row x) (rest (omega (arith, lt, other)) is)

-- ---- all records, in order

module _ (f : PageBytes) (total : ℕ) (rows : ℕ → List ℕ → Option (List ℕ)) where
  look_ups : ((p s : ℕ) (x : Row) → record_in f p s ≡ Some x → p < total) → ((r : ℕ) (k v : List ℕ) → rows r k ≡ Some v → IsThere f r k v)
      → ((r : ℕ) (k v : List ℕ) → IsThere f r k v → rows r k ≡ Some v) → (r : ℕ) (k : List ℕ) → value_at (in_pages f total) r k ≡ rows r k
  look_ups inside found there r k = go (value_at (in_pages f total) r k) refl (rows r k) refl
    where
      go : (o : Option (List ℕ)) → value_at (in_pages f total) r k ≡ o → (w : Option (List ℕ)) → rows r k ≡ w → o ≡ w
      go (Some v) is w row = sym (there r k v (pages_from f total (row_of r k v) (found_contained (in_pages f total) r k v is))) ∙ row
      go None is None row = refl
      go None is (Some v) row =
          let (p, s, at) = found r k v row in
          let x : Row = record { relation = r; key = k; value = v } in
          let some = contained_somewhere (in_pages f total) (as_row x) (pages_have f total p s x (inside p s x at) at) in
          let none : Some some.0 ≡ None = sym some.1 ∙ is in
          absurd cc

  -- look-ups that find all records, and no others, have a list in order
  pub listing_of : ((p s : ℕ) (x : Row) → record_in f p s ≡ Some x → p < total) → ((r : ℕ) (k v : List ℕ) → rows r k ≡ Some v → IsThere f r k v)
      → ((r : ℕ) (k v : List ℕ) → IsThere f r k v → rows r k ≡ Some v) → Listing rows
  listing_of inside found there =
      let all = listed (in_pages f total) in
      record { sorted = all.sorted; rising = all.rising; complete = λ r k. all.complete r k ∙ look_ups inside found there r k }
