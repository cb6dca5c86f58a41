-- Buckets stay buckets, and are the map with one key changed.
use Rattle.std.proofs.Common.{◌≡◌, ◌≢◌, ℕ, Bool, true, false, cond, List, ◌∷◌, ◌++◌, Option, Some, None, refl, ap, sym, ◌∙◌, ◌⊎◌, inl, inr}
use Rattle.std.proofs.lemmas.Bool.{cases_eq}
use Rattle.mt_base.specs.declared.numbers.RecordName.{RecordName}
use Rattle.mt_bucket.specs.Entries.{Entry, is_at, look, last_first}
use Rattle.mt_bucket.specs.Hash.{hash}
use Rattle.mt_index.specs.Maps.{Once, Each, alter}
use Rattle.mt_index.specs.Buckets.{IsBuckets, lookup, Changed}
use Rattle.mt_index.proofs.Lists.{at_parts, look_insert, once_insert, once_remove, each_insert, each_remove, Turned, last_turned}

-- ---- one list changed

pub look_drop : (r : ℕ) (k : List ℕ) (front : List Entry) (e : Entry) (back : List Entry) → Once (front ++ e ∷ back)
    → look r k (front ++ back) ≡ cond (is_at r k e) None (look r k (front ++ e ∷ back))
look_drop r k front e back o = go (is_at r k e) refl
  where
    absent : look e.relation e.key (front ++ back) ≡ None
    absent = (once_remove front e back o).0

    go : (t : Bool) → is_at r k e ≡ t → look r k (front ++ back) ≡ cond t None (look r k (front ++ e ∷ back))
    go true h = let p = at_parts r k e h in rw (← p.0, ← p.1) absent
    go false h = sym (look_insert r k front e back absent ∙ ap (λ t. cond t (Some e.name) (look r k (front ++ back))) h)

two_conds : (t : Bool) (n : Option RecordName) (o : Option RecordName) → cond t n (cond t None o) ≡ cond t n o
two_conds true n o = refl
two_conds false n o = refl

pub look_set : (r : ℕ) (k : List ℕ) (front : List Entry) (e : Entry) (n : RecordName) (back : List Entry) → Once (front ++ e ∷ back)
    → look r k (front ++ record e { name = n } ∷ back) ≡ cond (is_at r k e) (Some n) (look r k (front ++ e ∷ back))
look_set r k front e n back o =
    look_insert r k front (record e { name = n }) back (once_remove front e back o).0
    ∙ ap (λ x. cond (is_at r k e) (Some n) x) (look_drop r k front e back o)
    ∙ two_conds (is_at r k e) (Some n) (look r k (front ++ e ∷ back))

pub once_set : (front : List Entry) (e : Entry) (n : RecordName) (back : List Entry) → Once (front ++ e ∷ back) → Once (front ++ record e { name = n } ∷ back)
once_set front e n back o = let r = once_remove front e back o in once_insert front (record e { name = n }) back r.0 r.1

-- ---- one bucket changed

pub bucket_kept : (names depth : ℕ → ℕ) (old new : ℕ → List Entry) (b : ℕ) (es : List Entry) → IsBuckets names depth old → Changed names b old new es
    → Once es → Each (λ e. names (hash e.key) ≡ b) es → IsBuckets names depth new
bucket_kept names depth old new b es is c o own = record {
  same = is.same;
  apart = is.apart;
  own = λ h. owned h (cases_eq (names h) b);
  once = λ h. onced h (cases_eq (names h) b);
}
  where
    owned : (h : ℕ) → (names h ≡ b) ⊎ (names h ≡ b → ⊥) → Each (λ e. names (hash e.key) ≡ names h) (new (names h))
    owned h (inl here) = rw (here, c.at) own
    owned h (inr there) = rw (c.others h there) (is.own h)

    onced : (h : ℕ) → (names h ≡ b) ⊎ (names h ≡ b → ⊥) → Once (new (names h))
    onced h (inl here) = rw (here, c.at) o
    onced h (inr there) = rw (c.others h there) (is.once h)

pub bucket_alters : (names : ℕ → ℕ) (old new : ℕ → List Entry) (b : ℕ) (es : List Entry) (e : Entry) (o : Option RecordName) → Changed names b old new es
    → names (hash e.key) ≡ b → ((r : ℕ) (k : List ℕ) → look r k es ≡ cond (is_at r k e) o (look r k (old b)))
    → (r : ℕ) (k : List ℕ) → lookup names new r k ≡ alter (lookup names old) e.relation e.key o r k
bucket_alters names old new b es e o c home w r k = go (cases_eq (names (hash k)) b)
  where
    away : (t : Bool) → is_at r k e ≡ t → names (hash k) ≢ b → look r k (old (names (hash k))) ≡ cond t o (look r k (old (names (hash k))))
    away true h there = let p = at_parts r k e h in absurd (there (ap (λ x. names (hash x)) (sym p.1) ∙ home))
    away false h there = refl

    go : (names (hash k) ≡ b) ⊎ (names (hash k) ≡ b → ⊥) → lookup names new r k ≡ alter (lookup names old) e.relation e.key o r k
    go (inl here) = ap (λ x. look r k (new x)) here ∙ ap (look r k) c.at ∙ w r k ∙ ap (λ x. cond (is_at r k e) o (look r k (old x))) (sym here)
    go (inr there) = ap (look r k) (c.others (hash k) there) ∙ away (is_at r k e) refl there

pub added : (names depth : ℕ → ℕ) (old new : ℕ → List Entry) (b : ℕ) (front : List Entry) (e : Entry) (back : List Entry)
    → IsBuckets names depth old → names (hash e.key) ≡ b → lookup names old e.relation e.key ≡ None → old b ≡ front ++ back → Changed names b old new (front ++ e ∷ back)
    → IsBuckets names depth new × ((r : ℕ) (k : List ℕ) → lookup names new r k ≡ alter (lookup names old) e.relation e.key (Some e.name) r k)
added names depth old new b front e back is home absent parts c = (
  bucket_kept names depth old new b (front ++ e ∷ back) is c (once_insert front e back none (rw parts at (rw home at (is.once (hash e.key)))))
      (each_insert (λ x. names (hash x.key) ≡ b) front e back home (rw parts at (rw home at (is.own (hash e.key))))),
  bucket_alters names old new b (front ++ e ∷ back) e (Some e.name) c home
      (λ r k. look_insert r k front e back none ∙ ap (λ x. cond (is_at r k e) (Some e.name) (look r k x)) (sym parts)),
)
  where
    none : look e.relation e.key (front ++ back) ≡ None
    none = ap (look e.relation e.key) (sym (ap old home ∙ parts)) ∙ absent

-- an entry goes, and the last one of those behind it in its page takes its place
pub dropped : (names depth : ℕ → ℕ) (old new : ℕ → List Entry) (b : ℕ) (front : List Entry) (e : Entry) (mid back : List Entry)
    → IsBuckets names depth old → names (hash e.key) ≡ b → old b ≡ front ++ e ∷ (mid ++ back) → Changed names b old new (front ++ (last_first mid ++ back))
    → IsBuckets names depth new × ((r : ℕ) (k : List ℕ) → lookup names new r k ≡ alter (lookup names old) e.relation e.key None r k)
dropped names depth old new b front e mid back is home parts c = (
  bucket_kept names depth old new b (front ++ (last_first mid ++ back)) is c (turned.once gone.1)
      (turned.each (each_remove (λ x. names (hash x.key) ≡ b) front e (mid ++ back) (rw parts at (rw home at (is.own (hash e.key))))).1),
  bucket_alters names old new b (front ++ (last_first mid ++ back)) e None c home
      (λ r k. turned.same gone.1 r k ∙ look_drop r k front e (mid ++ back) once ∙ ap (λ x. cond (is_at r k e) None (look r k x)) (sym parts)),
)
  where
    once : Once (front ++ e ∷ (mid ++ back))
    once = rw parts at (rw home at (is.once (hash e.key)))

    gone : (look e.relation e.key (front ++ (mid ++ back)) ≡ None) × Once (front ++ (mid ++ back))
    gone = once_remove front e (mid ++ back) once

    turned : Turned (λ x. names (hash x.key) ≡ b) (front ++ (mid ++ back)) (front ++ (last_first mid ++ back))
    turned = last_turned (λ x. names (hash x.key) ≡ b) front mid back

pub renamed : (names depth : ℕ → ℕ) (old new : ℕ → List Entry) (b : ℕ) (front : List Entry) (e : Entry) (n : RecordName) (back : List Entry)
    → IsBuckets names depth old → names (hash e.key) ≡ b → old b ≡ front ++ e ∷ back → Changed names b old new (front ++ record e { name = n } ∷ back)
    → IsBuckets names depth new × ((r : ℕ) (k : List ℕ) → lookup names new r k ≡ alter (lookup names old) e.relation e.key (Some n) r k)
renamed names depth old new b front e n back is home parts c = (
  bucket_kept names depth old new b (front ++ record e { name = n } ∷ back) is c (once_set front e n back once)
      (each_insert (λ x. names (hash x.key) ≡ b) front (record e { name = n }) back home
      (each_remove (λ x. names (hash x.key) ≡ b) front e back (rw parts at (rw home at (is.own (hash e.key))))).1),
  bucket_alters names old new b (front ++ record e { name = n } ∷ back) e (Some n) c home
      (λ r k. look_set r k front e n back once ∙ ap (λ x. cond (is_at r k e) (Some n) (look r k x)) (sym parts)),
)
  where
    once : Once (front ++ e ∷ back)
    once = rw parts at (rw home at (is.once (hash e.key)))
