-- What a further record changes of what is known, and what the rules then say.
use Rattle.std.proofs.Common.{◌≡◌, ℕ, ◌+◌, ◌<◌, List, [], ◌∷◌, ◌++◌, length, get_or, take, drop, Bool, true, false, cond, eqb, ltb, refl, sym, ap, subst, ◌∙◌, arith, append_assoc}
use Rattle.std.specs.Prelude.{◌&&◌, ◌||◌, not}
use Rattle.std.specs.Ordering.{nat_cmp, is_eq, ordering_then}
use Rattle.std.specs.BTreeMap.{is_at}
use Rattle.std.specs.BTreeSet.{contains, BTreeSet, Updates}
use Rattle.std.specs.declared.cmp.Ordering.{Ordering}
use Rattle.std.specs.declared.cmp.Ordering.TheVariants.{Less, Equal, Greater}
use Rattle.std.proofs.lemmas.Bool.Decides.{nat_tests}
use Rattle.std.proofs.lemmas.List.{take_more, drop_more}
use Rattle.mt_frame.specs.declared.records.Record.{Record}
use Rattle.mt_area_rules.specs.declared.area_rules.AreaRules.{AreaRules}
use Rattle.mt_area_rules.specs.History.{some_record, ends_txn, ends_op, finishes, undoes_op, is_of_page, may_stand, MayFollow}
use Rattle.mt_area_rules.specs.Known.{pair_cmp, Knows}

or_false : (a : Bool) → (a || false) ≡ a
or_false true = refl
or_false false = refl

or_assoc : (a b c : Bool) → (a || (b || c)) ≡ ((a || b) || c)
or_assoc true b c = refl
or_assoc false b c = refl

or_comm : (a b : Bool) → (a || b) ≡ (b || a)
or_comm true true = refl
or_comm true false = refl
or_comm false true = refl
or_comm false false = refl

pub some_record-push : (is : Record → Bool) (rs : List Record) (r : Record) → some_record is (rs ++ r ∷ []) ≡ (some_record is rs || is r)
some_record-push is [] r = or_false (is r)
some_record-push is (q ∷ rs) r = ap (λ b. is q || b) (some_record-push is rs r) ∙ or_assoc (is q) (some_record is rs) (is r)

-- what each set had, and this record
pub record Notes (old new : AreaRules) (r : Record) : Type 0 where
  pub ended : (t : ℕ) → contains nat_cmp new.ended t ≡ (contains nat_cmp old.ended t || ends_txn t r)
  pub imaged : (p : ℕ) → contains nat_cmp new.imaged p ≡ (contains nat_cmp old.imaged p || is_of_page p r)
  pub over : (o : ℕ) → contains nat_cmp new.over o ≡ (contains nat_cmp old.over o || ends_op o r)
  pub finished : (t o : ℕ) → contains pair_cmp new.finished (t, o) ≡ (contains pair_cmp old.finished (t, o) || finishes t o r)
  pub undone : (t o : ℕ) → contains pair_cmp new.undone (t, o) ≡ (contains pair_cmp old.undone (t, o) || undoes_op t o r)

outcome : (is : Record → Bool) (a b : Bool) (rs : List Record) (r : Record) → a ≡ (b || is r) → b ≡ some_record is rs → a ≡ some_record is (rs ++ r ∷ [])
outcome is a b rs r now was = now ∙ ap (λ c. c || is r) was ∙ sym (some_record-push is rs r)

pub Knows-push : (old new : AreaRules) (rs : List Record) (r : Record) → Notes old new r → Knows old rs → Knows new (rs ++ r ∷ [])
Knows-push old new rs r n k = record {
  ended = λ t. outcome (ends_txn t) _ _ rs r (n.ended t) (k.ended t);
  imaged = λ p. outcome (is_of_page p) _ _ rs r (n.imaged p) (k.imaged p);
  over = λ o. outcome (ends_op o) _ _ rs r (n.over o) (k.over o);
  finished = λ t o. outcome (finishes t o) _ _ rs r (n.finished t o) (k.finished t o);
  undone = λ t o. outcome (undoes_op t o) _ _ rs r (n.undone t o) (k.undone t o);
}

-- ---- sets

is_eq-cond : (a b : Bool) → (a ≡ true → b ≡ false) → is_eq (cond a Less (cond b Equal Greater)) ≡ b
is_eq-cond true b no_both = sym (no_both refl)
is_eq-cond false true no_both = refl
is_eq-cond false false no_both = refl

not_both : (s t : ℕ) → ltb s t ≡ true → eqb s t ≡ false
not_both s t below = grind (arith, nat_tests)

pub is_at_number : (s t : ℕ) → is_at (nat_cmp s) t ≡ eqb s t
is_at_number s t = is_eq-cond (ltb s t) (eqb s t) (not_both s t)

is_eq-then : (x y : Ordering) → is_eq (ordering_then x y) ≡ (is_eq x && is_eq y)
is_eq-then Less y = refl
is_eq-then Equal y = refl
is_eq-then Greater y = refl

pub is_at_pair : (x y : ℕ × ℕ) → is_at (pair_cmp x) y ≡ (eqb x.0 y.0 && eqb x.1 y.1)
is_at_pair x y =
    is_eq-then (nat_cmp x.0 y.0) (nat_cmp x.1 y.1) ∙ ap (λ b. b && is_eq (nat_cmp x.1 y.1)) (is_at_number x.0 y.0) ∙ ap (λ b. eqb x.0 y.0 && b) (is_at_number x.1 y.1)

cond_or : (a b : Bool) → cond a true b ≡ (b || a)
cond_or true true = refl
cond_or true false = refl
cond_or false true = refl
cond_or false false = refl

pub put_number : (old new : BTreeSet ℕ) (s : ℕ) → Updates nat_cmp old new s true → (t : ℕ) → contains nat_cmp new t ≡ (contains nat_cmp old t || eqb s t)
put_number old new s u t = u.0 t ∙ cond_or (is_at (nat_cmp s) t) (contains nat_cmp old t) ∙ ap (λ b. contains nat_cmp old t || b) (is_at_number s t)

pub put_pair : (old new : BTreeSet (ℕ × ℕ)) (x : ℕ × ℕ) → Updates pair_cmp old new x true → (t o : ℕ) → contains pair_cmp new (t, o) ≡ (contains pair_cmp old (t, o) || (eqb x.0 t && eqb x.1 o))
put_pair old new x u t o = u.0 (t, o) ∙ cond_or (is_at (pair_cmp x) (t, o)) (contains pair_cmp old (t, o)) ∙ ap (λ b. contains pair_cmp old (t, o) || b) (is_at_pair x (t, o))

-- ---- a loop over the records of a batch

-- the records that are left begin with this one
drop_next : (rs : List Record) (i : ℕ) (r : Record) → i < length rs → r ≡ get_or rs i r → drop i rs ≡ r ∷ drop (i + 1) rs
drop_next rs i r below is = drop_more rs i r below ∙ ap (λ (q : Record). q ∷ drop (i + 1) rs) (sym is)

pub take_next : (earlier rs : List Record) (i : ℕ) (r : Record) → i < length rs → r ≡ get_or rs i r → (earlier ++ take i rs) ++ r ∷ [] ≡ earlier ++ take (i + 1) rs
take_next earlier rs i r below is =
    append_assoc earlier (take i rs) (r ∷ []) ∙ ap (λ (l : List Record). earlier ++ l) (ap (λ (q : Record). take i rs ++ q ∷ []) is ∙ sym (take_more rs i r below))

pub follows_from : (first : Bool) (earlier rs : List Record) (i : ℕ) (r : Record) → i < length rs → r ≡ get_or rs i r → may_stand first (earlier ++ take i rs) r ≡ true
    → MayFollow first (earlier ++ take (i + 1) rs) (drop (i + 1) rs) → MayFollow first (earlier ++ take i rs) (drop i rs)
follows_from first earlier rs i r below is may rest =
    let P : List Record → Type 0 = λ l. MayFollow first (earlier ++ take i rs) l in
    let Q : List Record → Type 0 = λ l. MayFollow first l (drop (i + 1) rs) in
    subst P (sym (drop_next rs i r below is)) (may, subst Q (sym (take_next earlier rs i r below is)) rest)

pub follows_on : (first : Bool) (earlier rs : List Record) (i : ℕ) (r : Record) → i < length rs → r ≡ get_or rs i r
    → MayFollow first (earlier ++ take i rs) (drop i rs) → MayFollow first (earlier ++ take (i + 1) rs) (drop (i + 1) rs)
follows_on first earlier rs i r below is all =
    let P : List Record → Type 0 = λ l. MayFollow first (earlier ++ take i rs) l in
    let Q : List Record → Type 0 = λ l. MayFollow first l (drop (i + 1) rs) in
    let parts : MayFollow first (earlier ++ take i rs) (r ∷ drop (i + 1) rs) = subst P (drop_next rs i r below is) all in
    subst Q (take_next earlier rs i r below is) parts.1

pub Knows-next : (rules : AreaRules) (earlier rs : List Record) (i : ℕ) (r : Record) → i < length rs → r ≡ get_or rs i r → Knows rules ((earlier ++ take i rs) ++ r ∷ []) → Knows rules (earlier ++ take (i + 1) rs)
Knows-next rules earlier rs i r below is k = let P : List Record → Type 0 = λ l. Knows rules l in subst P (take_next earlier rs i r below is) k

-- ---- inverses

pub due_of : (u : ℕ) (f d a b : Bool) → eqb u 0 ≡ false → f ≡ true → a ≡ f → d ≡ b → not d ≡ (eqb u 0 || (a && not b))
due_of u f d a b some_op finished same_f same_d = let is : a ≡ true = same_f ∙ finished in rw (some_op, is, same_d) refl

pub not_due : (u : ℕ) (f a b : Bool) → eqb u 0 ≡ false → f ≡ false → a ≡ f → f ≡ (eqb u 0 || (a && not b))
not_due u f a b some_op unfinished same_f = let is : a ≡ false = same_f ∙ unfinished in rw (some_op, is, unfinished) refl
