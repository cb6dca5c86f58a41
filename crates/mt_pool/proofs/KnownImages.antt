-- What a pool knows of images, with one image more.
use Rattle.std.proofs.Common.{◌≡◌, ◌≢◌, inl, inr, ℕ, zero, suc, ◌+◌, ◌<◌, Bool, true, false, ◌||◌, ◌==◌, List, [], ◌∷◌, ◌++◌, Option, None, Some, length, take, get_or, set, refl, sym, ap, ◌∙◌, subst, length-append, arith}
use Rattle.std.specs.Prelude.{IsSome}
use Rattle.std.specs.List.{AllByRecursion}
use Rattle.std.proofs.lemmas.Bool.{cases_eq, eq-eqb, ne_eqb}
use Rattle.std.proofs.lemmas.List.{map-append, length-map, get_or-set_other, take-append-le, take_all}
use Rattle.std.proofs.lemmas.Grind.{get_or-set_at}
use Rattle.mt_frame.specs.declared.records.Record.{Record}
use Rattle.mt_frame.specs.declared.records.Record.TheVariants.{Page, OpEnd, OpDropped, Commit, AbortEnd}
use Rattle.mt_area_rules.specs.History.{some_record, is_of_page}
use Rattle.mt_pool.specs.Images.{has_image}
use Rattle.mt_pool.specs.Kept.{carried, carried_of}
use Rattle.mt_pool.specs.Views.{pages, waits_for}
use Rattle.mt_pool.specs.declared.pool.Pool.{Pool}
use Rattle.mt_pool.specs.Turns.{IsImageOnly, KnowsImages}

has_append : (xs ys : List (Option (ℕ × List ℕ))) (p : ℕ) → has_image (xs ++ ys) p ≡ (has_image xs p || has_image ys p)
has_append [] ys p = refl
has_append (None ∷ xs) ys p = has_append xs ys p
has_append (Some i ∷ xs) ys p = go (i.0 == p) (has_append xs ys p)
  where
    go : (b : Bool) → has_image (xs ++ ys) p ≡ (has_image xs p || has_image ys p) → (b || has_image (xs ++ ys) p) ≡ ((b || has_image xs p) || has_image ys p)
    go true rest = refl
    go false rest = rest

some_append : (is : Record → Bool) (xs ys : List Record) → some_record is (xs ++ ys) ≡ (some_record is xs || some_record is ys)
some_append is [] ys = refl
some_append is (x ∷ xs) ys = go (is x) (some_append is xs ys)
  where
    go : (b : Bool) → some_record is (xs ++ ys) ≡ (some_record is xs || some_record is ys) → (b || some_record is (xs ++ ys)) ≡ ((b || some_record is xs) || some_record is ys)
    go true rest = refl
    go false rest = rest

or_true : (b : Bool) → (b || true) ≡ true
or_true true = refl
or_true false = refl

pub knows_more : (pool : Pool) (new : Pool) (records : List Record) (txn op page start : ℕ) (image : List ℕ) (old bytes : List ℕ) → page < pages pool → length pool.waits.items ≡ pages pool → pages new ≡ pages pool
    → new.waits.items ≡ set pool.waits.items page (length records + 1) → KnowsImages pool records → KnowsImages new (records ++ Page txn op page (Some image) start old bytes ∷ [])
knows_more pool new records txn op page start image old bytes inside size count waits k = record {
  some = λ p lt some. elim (cases_eq p page) [
    | inl same ↦
        let w : waits_for new p ≡ length records + 1 = at p same in
        ap (λ (n : ℕ). has_image (take n (carried (records ++ r ∷ []))) p) w
        ∙ ap (λ (es : List (Option (ℕ × List ℕ))). has_image es p) (take_all (length records + 1) (carried (records ++ r ∷ [])) (let n = length-map (records ++ r ∷ []) carried_of in let m = length-append records (r ∷ []) in omega arith))
        ∙ ap (λ (es : List (Option (ℕ × List ℕ))). has_image es p) (map-append carried_of records (r ∷ [])) ∙ has_append (carried records) (Some (page, image) ∷ []) p
        ∙ ap (λ (b : Bool). has_image (carried records) p || (b || false)) (eq-eqb page p (sym same)) ∙ or_true (has_image (carried records) p)
    | inr other ↦
        let w = elsewhere p other in
        let was : 0 < waits_for pool p = omega (arith, w, some) in
        let fits = k.within p (omega (arith, lt, count)) in
        let long = length-map records carried_of in
        ap (λ (n : ℕ). has_image (take n (carried (records ++ r ∷ []))) p) w
        ∙ ap (λ (es : List (Option (ℕ × List ℕ))). has_image (take (waits_for pool p) es) p) (map-append carried_of records (r ∷ []))
        ∙ ap (λ (es : List (Option (ℕ × List ℕ))). has_image es p) (take-append-le (waits_for pool p) (carried records) (Some (page, image) ∷ []) (omega (arith, fits, long)))
        ∙ k.some p (omega (arith, lt, count)) was
  ];
  within = λ p lt. elim (cases_eq p page) [
    | inl same ↦ let w = at p same in let n = length-append records (r ∷ []) in omega arith
    | inr other ↦ let w = elsewhere p other in let fits = k.within p (omega (arith, lt, count)) in let n = length-append records (r ∷ []) in omega arith
  ];
  none = λ p lt is. elim (cases_eq p page) [
    | inl same ↦ absurd (let w = at p same in omega (arith, w, is))
    | inr other ↦
        let w = elsewhere p other in
        let none = k.none p (omega (arith, lt, count)) (omega (arith, w, is)) in
        let not : (page == p) ≡ false = ne_eqb page p (λ e. other (sym e)) in (
          ap (λ (es : List (Option (ℕ × List ℕ))). has_image es p) (map-append carried_of records (r ∷ [])) ∙ has_append (carried records) (Some (page, image) ∷ []) p
              ∙ ap (λ (b : Bool). has_image (carried records) p || (b || false)) not ∙ ap (λ (b : Bool). b || false) none.0,
          some_append (is_of_page p) records (r ∷ []) ∙ ap (λ (b : Bool). some_record (is_of_page p) records || (b || false)) not ∙ ap (λ (b : Bool). b || false) none.1,
        )
  ];
}
  where
    r : Record
    r = Page txn op page (Some image) start old bytes

    at : (p : ℕ) → p ≡ page → waits_for new p ≡ length records + 1
    at p same = ap (λ (ws : List ℕ). get_or ws p 0) waits ∙ get_or-set_at pool.waits.items page p (length records + 1) 0 same (omega (arith, inside, size))

    elsewhere : (p : ℕ) → p ≢ page → waits_for new p ≡ waits_for pool p
    elsewhere p other = ap (λ (ws : List ℕ). get_or ws p 0) waits ∙ get_or-set_other pool.waits.items page p (length records + 1) 0 other

pub knows_any : (pool : Pool) (new : Pool) (records : List Record) (txn op page start : ℕ) (image : Option (List ℕ)) (old bytes : List ℕ) → IsSome image → page < pages pool → length pool.waits.items ≡ pages pool → pages new ≡ pages pool
    → new.waits.items ≡ set pool.waits.items page (length records + 1) → KnowsImages pool records → KnowsImages new (records ++ Page txn op page image start old bytes ∷ [])
knows_any pool new records txn op page start None old bytes some inside size count waits k = absurd cc
knows_any pool new records txn op page start (Some image) old bytes some inside size count waits k = knows_more pool new records txn op page start image old bytes inside size count waits k

pub image_at : (n : ℕ) (rs : List Record) (i : ℕ) (r : Record) → i < length rs → r ≡ get_or rs i r → AllByRecursion (IsImageOnly n) rs → IsImageOnly n r
image_at n [] i r lt is all = absurd (omega arith)
image_at n (x ∷ xs) zero r lt is all = subst (IsImageOnly n) (sym is) all.0
image_at n (x ∷ xs) (suc i) r lt is all = image_at n xs i r (omega arith) is all.1

pub page_only : (n : ℕ) (r : Record) → IsImageOnly n r → ((txn op page : ℕ) (image : Option (List ℕ)) (start : ℕ) (old new : List ℕ) → r ≡ Page txn op page image start old new → ⊥) → ⊥
page_only n (Page txn op page image start old new) only not = not txn op page image start old new refl
page_only n (OpEnd txn op undoes done) only not = only
page_only n (OpDropped txn op) only not = only
page_only n (Commit txn) only not = only
page_only n (AbortEnd txn) only not = only
