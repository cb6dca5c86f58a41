-- A list of entries as a map.
use Rattle.std.proofs.Common.{◌≡◌, ℕ, Bool, true, false, cond, ◌==◌, List, [], ◌∷◌, ◌++◌, Option, Some, None, bytes_eq, refl, ap, sym, subst, ◌∙◌, filter, length, append_assoc, length-append, arith}
use Rattle.std.proofs.lemmas.Bool.{and_parts, and_from, both_ways}
use Rattle.std.proofs.lemmas.Bool.Decides.{Decides-eqb}
use Rattle.std.specs.Cmp.Lexicographic.{bytes_decides}
use Rattle.mt_base.specs.declared.numbers.RecordName.{RecordName}
use Rattle.mt_bucket.specs.Entries.{Entry, is_at, look, behind_first, last_first}
use Rattle.mt_index.specs.Maps.{Once, Each}

pub at_parts : (r : ℕ) (k : List ℕ) (e : Entry) → is_at r k e ≡ true → (e.relation ≡ r) × (e.key ≡ k)
at_parts r k e h =
    let p = and_parts (e.relation == r) (bytes_eq e.key k) h in
    ((Decides-eqb e.relation r).0 p.0, (bytes_decides e.key k).0 p.1)

pub at_from : (r : ℕ) (k : List ℕ) (e : Entry) → e.relation ≡ r → e.key ≡ k → is_at r k e ≡ true
at_from r k e a b = and_from (e.relation == r) (bytes_eq e.key k) ((Decides-eqb e.relation r).1 a) ((bytes_decides e.key k).1 b)

pub at_self : (e : Entry) → is_at e.relation e.key e ≡ true
at_self e = at_from e.relation e.key e refl refl

-- two entries at one place have one key
pub at_both : (r : ℕ) (k : List ℕ) (e x : Entry) → is_at r k e ≡ true → is_at r k x ≡ true → is_at e.relation e.key x ≡ true
at_both r k e x h i =
    let a = at_parts r k e h in let b = at_parts r k x i in
    at_from e.relation e.key x (b.0 ∙ sym a.0) (b.1 ∙ sym a.1)

at_turned_is : (e x : Entry) (t : Bool) → is_at x.relation x.key e ≡ t → is_at e.relation e.key x ≡ false → t ≡ false
at_turned_is e x true h no_match =
    let p = at_parts x.relation x.key e h in
    absurd (both_ways (is_at e.relation e.key x) no_match (at_from e.relation e.key x (sym p.0) (sym p.1)))
at_turned_is e x false h no_match = refl

pub at_turned : (e x : Entry) → is_at e.relation e.key x ≡ false → is_at x.relation x.key e ≡ false
at_turned e x h = at_turned_is e x (is_at x.relation x.key e) refl h

-- what is not found is not the first and not behind it
pub cond_none : (t : Bool) (n : RecordName) (o : Option RecordName) → cond t (Some n) o ≡ None → (t ≡ false) × (o ≡ None)
cond_none true n o h = absurd cc
cond_none false n o h = (refl, h)

pub none_from : (t : Bool) (n : RecordName) (o : Option RecordName) → t ≡ false → o ≡ None → cond t (Some n) o ≡ None
none_from true n o h i = absurd cc
none_from false n o h i = i

swap : (a b : Bool) (x e : RecordName) (o : Option RecordName) → (a ≡ true → b ≡ true → ⊥) → cond a (Some x) (cond b (Some e) o) ≡ cond b (Some e) (cond a (Some x) o)
swap true true x e o h = absurd (h refl refl)
swap true false x e o h = refl
swap false true x e o h = refl
swap false false x e o h = refl

pub look_insert : (r : ℕ) (k : List ℕ) (front : List Entry) (e : Entry) (back : List Entry) → look e.relation e.key (front ++ back) ≡ None
    → look r k (front ++ e ∷ back) ≡ cond (is_at r k e) (Some e.name) (look r k (front ++ back))
look_insert r k [] e back h = refl
look_insert r k (x ∷ front) e back h =
    let p = cond_none (is_at e.relation e.key x) x.name (look e.relation e.key (front ++ back)) h in
    ap (λ o. cond (is_at r k x) (Some x.name) o) (look_insert r k front e back p.1)
    ∙ swap (is_at r k x) (is_at r k e) x.name e.name (look r k (front ++ back)) (λ a b. both_ways (is_at e.relation e.key x) p.0 (at_both r k e x b a))

pub once_insert : (front : List Entry) (e : Entry) (back : List Entry) → look e.relation e.key (front ++ back) ≡ None → Once (front ++ back) → Once (front ++ e ∷ back)
once_insert [] e back h o = (h, o)
once_insert (x ∷ front) e back h o =
    let p = cond_none (is_at e.relation e.key x) x.name (look e.relation e.key (front ++ back)) h in (
      look_insert x.relation x.key front e back p.1 ∙ none_from (is_at x.relation x.key e) e.name _ (at_turned e x p.0) o.0,
      once_insert front e back p.1 o.1,
    )

pub once_remove : (front : List Entry) (e : Entry) (back : List Entry) → Once (front ++ e ∷ back) → (look e.relation e.key (front ++ back) ≡ None) × Once (front ++ back)
once_remove [] e back o = (o.0, o.1)
once_remove (x ∷ front) e back o =
    let r = once_remove front e back o.1 in
    let p = cond_none (is_at x.relation x.key e) e.name (look x.relation x.key (front ++ back)) (sym (look_insert x.relation x.key front e back r.0) ∙ o.0) in
    (none_from (is_at e.relation e.key x) x.name _ (at_turned x e p.0) r.0, (p.1, r.1))

-- ---- a part of the entries, chosen by key

filter_step : (t : Bool) (r : ℕ) (k : List ℕ) (x : Entry) (es fs : List Entry) → look r k fs ≡ look r k es → (is_at r k x ≡ true → t ≡ true)
    → look r k (cond t (x ∷ fs) fs) ≡ cond (is_at r k x) (Some x.name) (look r k es)
filter_step true r k x es fs h w = ap (λ o. cond (is_at r k x) (Some x.name) o) h
filter_step false r k x es fs h w = h ∙ skips (is_at r k x) refl
  where
    skips : (a : Bool) → is_at r k x ≡ a → look r k es ≡ cond a (Some x.name) (look r k es)
    skips true is = absurd (let c : false ≡ true = w is in cc)
    skips false is = refl

pub look_filter : (p : Entry → Bool) (r : ℕ) (k : List ℕ) (es : List Entry) → ((e : Entry) → is_at r k e ≡ true → p e ≡ true) → look r k (filter p es) ≡ look r k es
look_filter p r k [] w = refl
look_filter p r k (x ∷ es) w = filter_step (p x) r k x es (filter p es) (look_filter p r k es w) (w x)

none_step : (t : Bool) (r : ℕ) (k : List ℕ) (x : Entry) (fs : List Entry) → is_at r k x ≡ false → look r k fs ≡ None → look r k (cond t (x ∷ fs) fs) ≡ None
none_step true r k x fs a h = none_from (is_at r k x) x.name (look r k fs) a h
none_step false r k x fs a h = h

pub none_filter : (p : Entry → Bool) (r : ℕ) (k : List ℕ) (es : List Entry) → look r k es ≡ None → look r k (filter p es) ≡ None
none_filter p r k [] h = refl
none_filter p r k (x ∷ es) h =
    let q = cond_none (is_at r k x) x.name (look r k es) h in
    none_step (p x) r k x (filter p es) q.0 (none_filter p r k es q.1)

once_step : (t : Bool) (x : Entry) (fs : List Entry) → look x.relation x.key fs ≡ None → Once fs → Once (cond t (x ∷ fs) fs)
once_step true x fs h o = (h, o)
once_step false x fs h o = o

pub once_filter : (p : Entry → Bool) (es : List Entry) → Once es → Once (filter p es)
once_filter p [] o = tt
once_filter p (x ∷ es) o = once_step (p x) x (filter p es) (none_filter p x.relation x.key es o.0) (once_filter p es o.1)

-- ---- each

pub each_map : {A : Type 0} (P Q : A → Type 0) → ((x : A) → P x → Q x) → (xs : List A) → Each P xs → Each Q xs
each_map P Q f [] h = tt
each_map P Q f (x ∷ xs) h = (f x h.0, each_map P Q f xs h.1)

pub each_insert : {A : Type 0} (P : A → Type 0) (front : List A) (e : A) (back : List A) → P e → Each P (front ++ back) → Each P (front ++ e ∷ back)
each_insert P [] e back p h = (p, h)
each_insert P (x ∷ front) e back p h = (h.0, each_insert P front e back p h.1)

pub each_remove : {A : Type 0} (P : A → Type 0) (front : List A) (e : A) (back : List A) → Each P (front ++ e ∷ back) → P e × Each P (front ++ back)
each_remove P [] e back h = (h.0, h.1)
each_remove P (x ∷ front) e back h = let r = each_remove P front e back h.1 in (r.0, (h.0, r.1))

keep_step : {A : Type 0} (P : A → Type 0) (p : A → Bool) (t : Bool) (x : A) (fs : List A) → p x ≡ t → P x → Each (λ y. P y × (p y ≡ true)) fs → Each (λ y. P y × (p y ≡ true)) (cond t (x ∷ fs) fs)
keep_step P p true x fs is h r = ((h, is), r)
keep_step P p false x fs is h r = r

pub each_filter : {A : Type 0} (P : A → Type 0) (p : A → Bool) (xs : List A) → Each P xs → Each (λ y. P y × (p y ≡ true)) (filter p xs)
each_filter P p [] h = tt
each_filter P p (x ∷ xs) h = keep_step P p (p x) x (filter p xs) refl h.0 (each_filter P p xs h.1)

-- ---- the last one of some entries, put in front of the others

-- a list that is not empty by its last entry
pub record Ends (es : List Entry) : Type 0 where
  pub others : List Entry
  pub last : Entry
  pub whole : es ≡ others ++ last ∷ []
  pub turned : last_first es ≡ last ∷ others

pub ends : (e : Entry) (es : List Entry) → Ends (e ∷ es)
ends e [] = record { others = []; last = e; whole = refl; turned = refl }
ends e (f ∷ es) = let r = ends f es in record {
  others = e ∷ r.others;
  last = r.last;
  whole = ap (λ xs. e ∷ xs) r.whole;
  turned = ap (behind_first e) r.turned;
}

pub last_first_length : (es : List Entry) → length (last_first es) ≡ length es
last_first_length [] = refl
last_first_length (e ∷ es) = let r = ends e es in ap length r.turned ∙ (let a = ap length r.whole in omega (arith, length-append r.others (r.last ∷ [])))

-- the entries among others, before and after
pub record Turned (P : Entry → Type 0) (old new : List Entry) : Type 0 where
  pub each : Each P old → Each P new
  pub once : Once old → Once new
  pub same : Once old → (r : ℕ) (k : List ℕ) → look r k new ≡ look r k old

-- an entry moves up
moved_up : (P : Entry → Type 0) (front mid : List Entry) (l : Entry) (back : List Entry) → Turned P (front ++ mid ++ l ∷ back) (front ++ l ∷ (mid ++ back))
moved_up P front mid l back = record {
  each = λ h. let r = each_remove P (front ++ mid) l back h in each_insert P front l (mid ++ back) r.0 (subst (Each P) joined r.1);
  once = λ o. once_insert front l (mid ++ back) (absent o) (subst Once joined (once_remove (front ++ mid) l back o).1);
  same = λ o r k. look_insert r k front l (mid ++ back) (absent o) ∙ ap (λ xs. cond (is_at r k l) (Some l.name) (look r k xs)) (sym joined)
      ∙ sym (look_insert r k (front ++ mid) l back (once_remove (front ++ mid) l back o).0);
}
  where
    joined : front ++ mid ++ back ≡ front ++ (mid ++ back)
    joined = append_assoc front mid back

    absent : Once (front ++ mid ++ l ∷ back) → look l.relation l.key (front ++ (mid ++ back)) ≡ None
    absent o = ap (look l.relation l.key) (sym joined) ∙ (once_remove (front ++ mid) l back o).0

pub last_turned : (P : Entry → Type 0) (front es back : List Entry) → Turned P (front ++ (es ++ back)) (front ++ (last_first es ++ back))
last_turned P front [] back = record { each = λ h. h; once = λ o. o; same = λ o r k. refl }
last_turned P front (e ∷ es) back =
    let w = ends e es in
    let old : front ++ w.others ++ w.last ∷ back ≡ front ++ (e ∷ es ++ back) =
    append_assoc front w.others (w.last ∷ back) ∙ ap (λ xs. front ++ xs) (sym (append_assoc w.others (w.last ∷ []) back) ∙ ap (λ xs. xs ++ back) (sym w.whole)) in
    let new : front ++ w.last ∷ (w.others ++ back) ≡ front ++ (last_first (e ∷ es) ++ back) = ap (λ xs. front ++ (xs ++ back)) (sym w.turned) in
    subst (λ (x : List Entry). Turned P x (front ++ (last_first (e ∷ es) ++ back))) old (subst (Turned P (front ++ w.others ++ w.last ∷ back)) new (moved_up P front w.others w.last back))
