-- A record more, less or replaced: the rows that the pages hold, and the names in the index.
use Rattle.std.proofs.Common.{◌≡◌, ◌≢◌, ◌⊎◌, inl, inr, ⊎_elim, ℕ, ◌==◌, ◌&&◌, Bool, true, false, cond, List, Option, None, Some, bytes_eq, refl, ap, sym, ◌∙◌}
use Rattle.std.proofs.lemmas.Bool.{cases_eq, and_parts, and_from}
use Rattle.std.proofs.lemmas.Bool.Decides.{Decides-eqb}
use Rattle.std.specs.Cmp.Lexicographic.{bytes_decides}
use Rattle.mt_base.specs.declared.numbers.RecordName.{RecordName}
use Rattle.mt_slots.specs.Page.{Row}
use Rattle.mt_space.specs.Changes.{PageBytes}
use Rattle.mt_file.specs.File.{record_in, Puts}
use Rattle.mt_index.specs.Maps.{Map, alter}
use Rattle.mt_model.specs.Model.{Base, alter_row, inserted, updated, deleted}
use Rattle.mt_steps.specs.Held.{IsThere, HoldsRows, AreNamed}

-- a value under a relation and a key, as a record
abbrev pub row_of : ℕ → List ℕ → Option (List ℕ) → Option Row
row_of r k None = None
row_of r k (Some v) = Some (record { relation = r; key = k; value = v })

abbrev pub name_of : ℕ → ℕ → Option (List ℕ) → Option RecordName
name_of p s None = None
name_of p s (Some v) = Some (record { page = p; slot = s })

-- a record of the key stands nowhere else
abbrev pub IsLone : PageBytes → ℕ → ℕ → ℕ → List ℕ → Type 0
IsLone pages p s r k = (q t : ℕ) (v : List ℕ) → (q ≢ p) ⊎ (t ≢ s) → record_in pages q t ≡ Some (record { relation = r; key = k; value = v }) → ⊥

-- ---- this key or another, this name or another

pub key_cases : (r : ℕ) (k : List ℕ) (s : ℕ) (l : List ℕ) → ((r ≡ s) × (k ≡ l)) ⊎ (((r == s) && bytes_eq k l) ≡ false)
key_cases r k s l = go ((r == s) && bytes_eq k l) refl
  where
    go : (b : Bool) → ((r == s) && bytes_eq k l) ≡ b → ((r ≡ s) × (k ≡ l)) ⊎ (((r == s) && bytes_eq k l) ≡ false)
    go true e = let p = and_parts (r == s) (bytes_eq k l) e in inl ((Decides-eqb r s).0 p.0, (bytes_decides k l).0 p.1)
    go false e = inr e

pub key_same : (r : ℕ) (k : List ℕ) (s : ℕ) (l : List ℕ) → r ≡ s → k ≡ l → ((r == s) && bytes_eq k l) ≡ true
key_same r k s l a b = and_from (r == s) (bytes_eq k l) ((Decides-eqb r s).1 a) ((bytes_decides k l).1 b)

pub name_cases : (q t p s : ℕ) → ((q ≡ p) × (t ≡ s)) ⊎ ((q ≢ p) ⊎ (t ≢ s))
name_cases q t p s = ⊎_elim
    (λ (a : q ≡ p). ⊎_elim (λ (b : t ≡ s). inl (a, b)) (λ (b : t ≢ s). inr (inr b)) (cases_eq t s))
    (λ (a : q ≢ p). inr (inl a))
    (cases_eq q p)

pub some_row : (x y : Row) → Some x ≡ Some y → x ≡ y
some_row x y e = ap (λ (o : Option Row). elim o [ None ↦ x | Some z ↦ z ]) e

some_value : (x y : List ℕ) → Some x ≡ Some y → x ≡ y
some_value x y e = ap (λ (o : Option (List ℕ)). elim o [ None ↦ x | Some z ↦ z ]) e

pub some_name : (x y : RecordName) → Some x ≡ Some y → x ≡ y
some_name x y e = ap (λ (o : Option RecordName). elim o [ None ↦ x | Some z ↦ z ]) e

-- the parts of a record of a known key
row_parts : (r : ℕ) (k : List ℕ) (o : Option (List ℕ)) (row : Row) → row_of r k o ≡ Some row → (r ≡ row.relation) × (k ≡ row.key) × (o ≡ Some row.value)
row_parts r k None row e = absurd (cc)
row_parts r k (Some v) row e = let same = some_row (record { relation = r; key = k; value = v }) row e in (ap (λ (x : Row). x.relation) same, ap (λ (x : Row). x.key) same, ap (λ (x : Row). Some x.value) same)

row_again : (r s : ℕ) (k l v : List ℕ) → r ≡ s → k ≡ l → row_of r k (Some v) ≡ row_of s l (Some v)
row_again r s k l v a b = λ i. row_of (a i) (b i) (Some v)

-- ---- the rows

pub rows_put : (old new : PageBytes) (b : Base) (p s r : ℕ) (k : List ℕ) (was now : Option (List ℕ)) (f : Option (List ℕ) → Option (List ℕ)) → HoldsRows old b → record_in old p s ≡ row_of r k was → IsLone old p s r k
    → Puts old new p s (row_of r k now) → f (b.rows r k) ≡ now → HoldsRows new (alter_row b r k f)
rows_put old new b p s r k was now f held before lone puts after = record {
  found = λ q l w is. found q l w is (key_cases r k q l);
  there = λ q l w t. there q l w t.0 t.1 t.2 (name_cases t.0 t.1 p s);
}
  where
    altered : ℕ → List ℕ → Option (List ℕ)
    altered q l = cond ((r == q) && bytes_eq k l) (f (b.rows q l)) (b.rows q l)

    at_key : (q : ℕ) (l : List ℕ) → r ≡ q → k ≡ l → altered q l ≡ now
    at_key q l a c = ap (λ (t : Bool). cond t (f (b.rows q l)) (b.rows q l)) (key_same r k q l a c) ∙ (λ i. f (b.rows (sym a i) (sym c i))) ∙ after

    at_other : (q : ℕ) (l : List ℕ) → ((r == q) && bytes_eq k l) ≡ false → altered q l ≡ b.rows q l
    at_other q l e = ap (λ (t : Bool). cond t (f (b.rows q l)) (b.rows q l)) e

    found : (q : ℕ) (l w : List ℕ) → altered q l ≡ Some w → ((r ≡ q) × (k ≡ l)) ⊎ (((r == q) && bytes_eq k l) ≡ false) → IsThere new q l w
    found q l w is (inl same) = (p, s, puts.here ∙ ap (row_of r k) (sym (at_key q l same.0 same.1) ∙ is) ∙ row_again r q k l w same.0 same.1)
    found q l w is (inr other) =
        let t = held.found q l w (sym (at_other q l other) ∙ is) in
        (t.0, t.1, elsewhere t.0 t.1 t.2 (name_cases t.0 t.1 p s))
      where
        elsewhere : (x y : ℕ) → record_in old x y ≡ Some (record { relation = q; key = l; value = w }) → ((x ≡ p) × (y ≡ s)) ⊎ ((x ≢ p) ⊎ (y ≢ s)) → record_in new x y ≡ Some (record { relation = q; key = l; value = w })
        elsewhere x y e (inr apart) = puts.elsewhere x y apart ∙ e
        elsewhere x y e (inl here) =
            let parts = row_parts r k was (record { relation = q; key = l; value = w }) (sym before ∙ (λ i. record_in old (sym here.0 i) (sym here.1 i)) ∙ e) in
            absurd (let yes_key = key_same r k q l parts.0 parts.1 in let wrong : true ≡ false = sym yes_key ∙ other in cc)

    there : (q : ℕ) (l w : List ℕ) (x y : ℕ) → record_in new x y ≡ Some (record { relation = q; key = l; value = w }) → ((x ≡ p) × (y ≡ s)) ⊎ ((x ≢ p) ⊎ (y ≢ s)) → altered q l ≡ Some w
    there q l w x y e (inl here) =
        let parts = row_parts r k now (record { relation = q; key = l; value = w }) (sym puts.here ∙ (λ i. record_in new (sym here.0 i) (sym here.1 i)) ∙ e) in
        at_key q l parts.0 parts.1 ∙ parts.2
    there q l w x y e (inr apart) = go (key_cases r k q l)
      where
        stood : record_in old x y ≡ Some (record { relation = q; key = l; value = w })
        stood = sym (puts.elsewhere x y apart) ∙ e

        go : ((r ≡ q) × (k ≡ l)) ⊎ (((r == q) && bytes_eq k l) ≡ false) → altered q l ≡ Some w
        go (inl same) = absurd (lone x y w apart (stood ∙ row_again q r l k w (sym same.0) (sym same.1)))
        go (inr other) = at_other q l other ∙ held.there q l w (x, y, stood)

-- ---- the names

pub names_put : (old new : PageBytes) (m : Map) (p s r : ℕ) (k : List ℕ) (was now : Option (List ℕ)) → AreNamed old m → record_in old p s ≡ row_of r k was → IsLone old p s r k
    → Puts old new p s (row_of r k now) → AreNamed new (alter m r k (name_of p s now))
names_put old new m p s r k was now named before lone puts = record {
  names = λ q l n is. names q l n is (key_cases r k q l);
  named = λ x y row e. has_name x y row e (name_cases x y p s);
}
  where
    altered : ℕ → List ℕ → Option RecordName
    altered q l = cond ((r == q) && bytes_eq k l) (name_of p s now) (m q l)

    at_key : (q : ℕ) (l : List ℕ) → r ≡ q → k ≡ l → altered q l ≡ name_of p s now
    at_key q l a c = ap (λ (t : Bool). cond t (name_of p s now) (m q l)) (key_same r k q l a c)

    at_other : (q : ℕ) (l : List ℕ) → ((r == q) && bytes_eq k l) ≡ false → altered q l ≡ m q l
    at_other q l e = ap (λ (t : Bool). cond t (name_of p s now) (m q l)) e

    name_is : (v : Option (List ℕ)) (n : RecordName) → name_of p s v ≡ Some n → (u : List ℕ) × (v ≡ Some u) × (p ≡ n.page) × (s ≡ n.slot)
    name_is None n e = absurd (cc)
    name_is (Some u) n e = let same = some_name (record { page = p; slot = s }) n e in (u, refl, ap (λ (x : RecordName). x.page) same, ap (λ (x : RecordName). x.slot) same)

    names : (q : ℕ) (l : List ℕ) (n : RecordName) → altered q l ≡ Some n → ((r ≡ q) × (k ≡ l)) ⊎ (((r == q) && bytes_eq k l) ≡ false) → (v : List ℕ) × (record_in new n.page n.slot ≡ Some (record { relation = q; key = l; value = v }))
    names q l n is (inl same) =
        let name = name_is now n (sym (at_key q l same.0 same.1) ∙ is) in
        (name.0, (λ i. record_in new (sym name.2 i) (sym name.3 i)) ∙ puts.here ∙ ap (row_of r k) name.1 ∙ row_again r q k l name.0 same.0 same.1)
    names q l n is (inr other) =
        let t = named.names q l n (sym (at_other q l other) ∙ is) in
        (t.0, elsewhere t.0 t.1 (name_cases n.page n.slot p s))
      where
        elsewhere : (v : List ℕ) → record_in old n.page n.slot ≡ Some (record { relation = q; key = l; value = v }) → ((n.page ≡ p) × (n.slot ≡ s)) ⊎ ((n.page ≢ p) ⊎ (n.slot ≢ s)) → record_in new n.page n.slot ≡ Some (record { relation = q; key = l; value = v })
        elsewhere v e (inr apart) = puts.elsewhere n.page n.slot apart ∙ e
        elsewhere v e (inl here) =
            let parts = row_parts r k was (record { relation = q; key = l; value = v }) (sym before ∙ (λ i. record_in old (sym here.0 i) (sym here.1 i)) ∙ e) in
            absurd (let yes_key = key_same r k q l parts.0 parts.1 in let wrong : true ≡ false = sym yes_key ∙ other in cc)

    has_name : (x y : ℕ) (row : Row) → record_in new x y ≡ Some row → ((x ≡ p) × (y ≡ s)) ⊎ ((x ≢ p) ⊎ (y ≢ s)) → altered row.relation row.key ≡ Some (record { page = x; slot = y })
    has_name x y row e (inl here) =
        let parts = row_parts r k now row (sym puts.here ∙ (λ i. record_in new (sym here.0 i) (sym here.1 i)) ∙ e) in
        at_key row.relation row.key parts.0 parts.1 ∙ ap (name_of p s) parts.2 ∙ ap Some (λ i. record { page = sym here.0 i; slot = sym here.1 i })
    has_name x y row e (inr apart) = go (key_cases r k row.relation row.key)
      where
        stood : record_in old x y ≡ Some row
        stood = sym (puts.elsewhere x y apart) ∙ e

        go : ((r ≡ row.relation) × (k ≡ row.key)) ⊎ (((r == row.relation) && bytes_eq k row.key) ≡ false) → altered row.relation row.key ≡ Some (record { page = x; slot = y })
        go (inl same) = absurd (lone x y row.value apart (stood ∙ row_again row.relation r row.key k row.value (sym same.0) (sym same.1)))
        go (inr other) = at_other row.relation row.key other ∙ named.named x y row stood

-- ---- who is alone

-- a key that the index lacks stands nowhere
pub none_lone : (pages : PageBytes) (m : Map) (p s r : ℕ) (k : List ℕ) → AreNamed pages m → m r k ≡ None → IsLone pages p s r k
none_lone pages m p s r k named none q t v apart e = absurd (let n = sym none ∙ named.named q t (record { relation = r; key = k; value = v }) e in cc)

-- and one that it names stands there alone
pub name_lone : (pages : PageBytes) (m : Map) (r : ℕ) (k : List ℕ) (n : RecordName) → AreNamed pages m → m r k ≡ Some n → IsLone pages n.page n.slot r k
name_lone pages m r k n named is q t v apart e =
    let same = some_name n (record { page = q; slot = t }) (sym is ∙ named.named q t (record { relation = r; key = k; value = v }) e) in
    ⊎_elim
    (λ (a : q ≢ n.page). a (sym (ap (λ (x : RecordName). x.page) same)))
    (λ (a : t ≢ n.slot). a (sym (ap (λ (x : RecordName). x.slot) same)))
    apart

-- what the base has under a key that the index lacks, and under one that it names
pub none_held : (pages : PageBytes) (m : Map) (b : Base) (r : ℕ) (k : List ℕ) → AreNamed pages m → HoldsRows pages b → m r k ≡ None → b.rows r k ≡ None
none_held pages m b r k named held none = go (b.rows r k) refl
  where
    go : (o : Option (List ℕ)) → b.rows r k ≡ o → b.rows r k ≡ None
    go None e = e
    go (Some v) e = let t = held.found r k v e in absurd (let n = sym none ∙ named.named t.0 t.1 (record { relation = r; key = k; value = v }) t.2 in cc)

-- the map with what it says already
pub alter_same : (m : Map) (r : ℕ) (k : List ℕ) (n : RecordName) → m r k ≡ Some n → (q : ℕ) (l : List ℕ) → alter m r k (Some n) q l ≡ m q l
alter_same m r k n is q l = ⊎_elim
    (λ (same : (r ≡ q) × (k ≡ l)). ap (λ (t : Bool). cond t (Some n) (m q l)) (key_same r k q l same.0 same.1) ∙ sym is ∙ (λ i. m (same.0 i) (same.1 i)))
    (λ (other : ((r == q) && bytes_eq k l) ≡ false). ap (λ (t : Bool). cond t (Some n) (m q l)) other)
    (key_cases r k q l)

-- altered twice, the last one counts
pub alter_twice : (m : Map) (r : ℕ) (k : List ℕ) (x y : Option RecordName) (q : ℕ) (l : List ℕ) → alter (alter m r k x) r k y q l ≡ alter m r k y q l
alter_twice m r k x y q l = go ((r == q) && bytes_eq k l)
  where
    go : (t : Bool) → cond t y (cond t x (m q l)) ≡ cond t y (m q l)
    go true = refl
    go false = refl

pub rows_twice : (b : Base) (r : ℕ) (k w : List ℕ) (v : List ℕ) → b.rows r k ≡ Some v → (q : ℕ) (l : List ℕ) → (alter_row (alter_row b r k deleted) r k (inserted w)).rows q l ≡ (alter_row b r k (updated w)).rows q l
rows_twice b r k w v is q l = ⊎_elim
    (λ (same : (r ≡ q) × (k ≡ l)). go (b.rows q l) (sym (λ i. b.rows (same.0 i) (same.1 i)) ∙ is) ((r == q) && bytes_eq k l) (key_same r k q l same.0 same.1))
    (λ (other : ((r == q) && bytes_eq k l) ≡ false). ap (λ (t : Bool). cond t (inserted w (cond t (deleted (b.rows q l)) (b.rows q l))) (cond t (deleted (b.rows q l)) (b.rows q l))) other ∙ sym (ap (λ (t : Bool). cond t (updated w (b.rows q l)) (b.rows q l)) other))
    (key_cases r k q l)
  where
    go : (o : Option (List ℕ)) → o ≡ Some v → (t : Bool) → t ≡ true → cond t (inserted w (cond t (deleted o) o)) (cond t (deleted o) o) ≡ cond t (updated w o) o
    go None e true f = absurd (cc)
    go (Some u) e true f = refl
    go o e false f = absurd (cc)

-- an insert where there is a value
pub inserted_again : (b : Base) (r : ℕ) (k w v : List ℕ) → b.rows r k ≡ Some v → (q : ℕ) (l : List ℕ) → (alter_row b r k (inserted w)).rows q l ≡ b.rows q l
inserted_again b r k w v is q l = ⊎_elim
    (λ (same : (r ≡ q) × (k ≡ l)). go (b.rows q l) (sym (λ i. b.rows (same.0 i) (same.1 i)) ∙ is) ((r == q) && bytes_eq k l))
    (λ (other : ((r == q) && bytes_eq k l) ≡ false). ap (λ (t : Bool). cond t (inserted w (b.rows q l)) (b.rows q l)) other)
    (key_cases r k q l)
  where
    go : (o : Option (List ℕ)) → o ≡ Some v → (t : Bool) → cond t (inserted w o) o ≡ o
    go None e t = absurd (cc)
    go (Some u) e true = refl
    go (Some u) e false = refl

-- a delete where there is no value
pub deleted_again : (b : Base) (r : ℕ) (k : List ℕ) → b.rows r k ≡ None → (q : ℕ) (l : List ℕ) → (alter_row b r k deleted).rows q l ≡ b.rows q l
deleted_again b r k none q l = ⊎_elim
    (λ (same : (r ≡ q) × (k ≡ l)). go (b.rows q l) (sym (λ i. b.rows (same.0 i) (same.1 i)) ∙ none) ((r == q) && bytes_eq k l))
    (λ (other : ((r == q) && bytes_eq k l) ≡ false). ap (λ (t : Bool). cond t (deleted (b.rows q l)) (b.rows q l)) other)
    (key_cases r k q l)
  where
    go : (o : Option (List ℕ)) → o ≡ None → (t : Bool) → cond t (deleted o) o ≡ o
    go None e true = refl
    go None e false = refl
    go (Some u) e t = absurd (cc)

-- an update where there is no value
pub updated_again : (b : Base) (r : ℕ) (k w : List ℕ) → b.rows r k ≡ None → (q : ℕ) (l : List ℕ) → (alter_row b r k (updated w)).rows q l ≡ b.rows q l
updated_again b r k w none q l = ⊎_elim
    (λ (same : (r ≡ q) × (k ≡ l)). go (b.rows q l) (sym (λ i. b.rows (same.0 i) (same.1 i)) ∙ none) ((r == q) && bytes_eq k l))
    (λ (other : ((r == q) && bytes_eq k l) ≡ false). ap (λ (t : Bool). cond t (updated w (b.rows q l)) (b.rows q l)) other)
    (key_cases r k q l)
  where
    go : (o : Option (List ℕ)) → o ≡ None → (t : Bool) → cond t (updated w o) o ≡ o
    go None e true = refl
    go None e false = refl
    go (Some u) e t = absurd (cc)
