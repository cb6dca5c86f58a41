-- What each transaction runs, in a list of operations that changes.
use Rattle.std.proofs.Common.{◌≡◌, ◌≢◌, ℕ, zero, suc, ◌<◌, ◌==◌, ◌&&◌, Bool, true, false, cond, List, [], ◌∷◌, ◌++◌, length, get_or, set, Option, Some, None, refl, sym, ap, ◌∙◌, subst, arith}
use Rattle.std.specs.Prelude.{All, AllPairs}
use Rattle.std.specs.List.{remove, list_any}
use Rattle.std.specs.Prelude.{is_some}
use Rattle.std.proofs.lemmas.List.{get_or_default}
use Rattle.std.proofs.lemmas.List.Folds.{list_any_at, list_any_none}
use Rattle.mt_core.specs.Consistent.{IsPlaceOf}
use Rattle.std.proofs.lemmas.Bool.{eq-eqb, eqb-true, ne_eqb, and_left, and_right, and_from}
use Rattle.std.proofs.lemmas.List.Elements.{All-head, All-tail}
use Rattle.mt_live.specs.Machine.{put}
use Rattle.mt_model.specs.declared.operations.Op.{Op}
use Rattle.mt_core.specs.Runs.{is_for, running_in, AreApart}
use Rattle.mt_op.specs.declared.scope.OpScope.{OpScope}
use Rattle.mt_core.proofs.Lists.{pairs_head, pairs_tail}

-- of the same transaction, operation and purpose
pub record IsSame (r q : OpScope) : Type 0 where
  pub txn : q.txn ≡ r.txn
  pub number : q.number ≡ r.number
  pub op : q.op ≡ r.op
  pub undoes : q.undoes ≡ r.undoes
  pub split : q.split ≡ r.split

pub apart_flip : (r q : OpScope) → AreApart r q → AreApart q r
apart_flip r q a = record { number = λ is. a.number (sym is); txn = λ is. a.txn (sym is) }

pub running_set : (rs : List OpScope) (i : ℕ) (r q : OpScope) → i < length rs → r ≡ get_or rs i r → IsSame r q → (t : ℕ) → running_in (set rs i q) t ≡ running_in rs t
running_set [] i r q within there same t = absurd (omega arith)
running_set (x ∷ xs) zero r q within there same t =
    (λ j. cond ((same.txn j == t) && (same.undoes j == 0)) (Some (same.op j)) (running_in xs t))
    ∙ ap (λ (y : OpScope). cond (is_for t y) (Some y.op) (running_in xs t)) there
running_set (x ∷ xs) (suc i) r q within there same t = ap (λ (o : Option Op). cond (is_for t x) (Some x.op) o) (running_set xs i r q (omega (arith, within)) there same t)

-- of a transaction that has none
pub runs_none : (rs : List OpScope) (t : ℕ) → All (λ (q : OpScope). q.txn ≢ t) rs → running_in rs t ≡ None
runs_none [] t none = refl
runs_none (x ∷ xs) t none =
    let not : is_for t x ≡ false = and_left (x.txn == t) (x.undoes == 0) (ne_eqb x.txn t (All-head (λ (q : OpScope). q.txn ≢ t) x xs none)) in
    rw not (runs_none xs t (All-tail (λ (q : OpScope). q.txn ≢ t) x xs none))

apart_all : (x : OpScope) (xs : List OpScope) (t : ℕ) → t ≡ x.txn → All (AreApart x) xs → All (λ (q : OpScope). q.txn ≢ t) xs
apart_all x xs t is apart k d lt = λ e. (apart k d lt).txn (e ∙ is)

forward : (x : OpScope) (t : ℕ) → x.txn ≡ t → x.undoes ≡ 0 → is_for t x ≡ true
forward x t own zero_is = and_from (x.txn == t) (x.undoes == 0) (eq-eqb x.txn t own) (eq-eqb x.undoes 0 zero_is)

pub running_at : (rs : List OpScope) (i : ℕ) (r : OpScope) → i < length rs → r ≡ get_or rs i r → r.undoes ≡ 0 → AllPairs AreApart rs → running_in rs r.txn ≡ Some r.op
running_at [] i r within there fore apart = absurd (omega arith)
running_at (x ∷ xs) zero r within there fore apart =
    subst (λ (y : OpScope). cond (is_for r.txn y) (Some y.op) (running_in xs r.txn) ≡ Some r.op) there
    (let own : is_for r.txn r ≡ true = forward r r.txn refl fore in rw own refl)
running_at (x ∷ xs) (suc i) r within there fore apart =
    let other : r.txn ≢ x.txn = subst (λ (y : OpScope). y.txn ≢ x.txn) (sym there) ((pairs_head AreApart x xs apart i r (omega (arith, within))).txn) in
    let not : is_for r.txn x ≡ false = and_left (x.txn == r.txn) (x.undoes == 0) (ne_eqb x.txn r.txn (λ e. other (sym e))) in
    rw not (running_at xs i r (omega (arith, within)) there fore (pairs_tail AreApart x xs apart))

-- of a transaction whose inverse is under way
pub running_back : (rs : List OpScope) (i : ℕ) (r : OpScope) → i < length rs → r ≡ get_or rs i r → r.undoes ≢ 0 → AllPairs AreApart rs → running_in rs r.txn ≡ None
running_back [] i r within there back apart = absurd (omega arith)
running_back (x ∷ xs) zero r within there back apart =
    let not : is_for r.txn x ≡ false = and_right (x.txn == r.txn) (x.undoes == 0) (ne_eqb x.undoes 0 (λ e. back (ap (λ (y : OpScope). y.undoes) there ∙ e))) in
    rw not (runs_none xs r.txn (apart_all x xs r.txn (ap (λ (y : OpScope). y.txn) there) (pairs_head AreApart x xs apart)))
running_back (x ∷ xs) (suc i) r within there back apart =
    let other : r.txn ≢ x.txn = subst (λ (y : OpScope). y.txn ≢ x.txn) (sym there) ((pairs_head AreApart x xs apart i r (omega (arith, within))).txn) in
    let not : is_for r.txn x ≡ false = and_left (x.txn == r.txn) (x.undoes == 0) (ne_eqb x.txn r.txn (λ e. other (sym e))) in
    rw not (running_back xs i r (omega (arith, within)) there back (pairs_tail AreApart x xs apart))

-- ---- one is gone

pub running_remove : (rs : List OpScope) (i : ℕ) (r : OpScope) → i < length rs → r ≡ get_or rs i r → r.undoes ≡ 0 → AllPairs AreApart rs → (u : ℕ) → running_in (remove rs i) u ≡ put (running_in rs) r.txn None u
running_remove [] i r within there fore apart u = absurd (omega arith)
running_remove (x ∷ xs) zero r within there fore apart u = go (u == r.txn) refl
  where
    go : (b : Bool) → (u == r.txn) ≡ b → running_in xs u ≡ cond b None (cond (is_for u x) (Some x.op) (running_in xs u))
    go true is = runs_none xs u (apart_all x xs u (eqb-true u r.txn is ∙ ap (λ (y : OpScope). y.txn) there) (pairs_head AreApart x xs apart))
    go false is =
        let other : x.txn ≢ u = λ e. let y : (u == r.txn) ≡ true = eq-eqb u r.txn (sym e ∙ sym (ap (λ (y : OpScope). y.txn) there)) in cc in
        let not : is_for u x ≡ false = and_left (x.txn == u) (x.undoes == 0) (ne_eqb x.txn u other) in
        rw not refl
running_remove (x ∷ xs) (suc i) r within there fore apart u =
    ap (λ (o : Option Op). cond (is_for u x) (Some x.op) o) (running_remove xs i r (omega (arith, within)) there fore (pairs_tail AreApart x xs apart) u)
    ∙ go (u == r.txn) refl
  where
    go : (b : Bool) → (u == r.txn) ≡ b → cond (is_for u x) (Some x.op) (cond b None (running_in xs u)) ≡ cond b None (cond (is_for u x) (Some x.op) (running_in xs u))
    go true is =
        let other : r.txn ≢ x.txn = subst (λ (y : OpScope). y.txn ≢ x.txn) (sym there) ((pairs_head AreApart x xs apart i r (omega (arith, within))).txn) in
        let not : is_for u x ≡ false = and_left (x.txn == u) (x.undoes == 0) (ne_eqb x.txn u (λ e. other (sym (eqb-true u r.txn is) ∙ sym e))) in
        rw not refl
    go false is = refl

-- an inverse is gone
pub running_without : (rs : List OpScope) (i : ℕ) (r : OpScope) → i < length rs → r ≡ get_or rs i r → r.undoes ≢ 0 → (u : ℕ) → running_in (remove rs i) u ≡ running_in rs u
running_without [] i r within there back u = absurd (omega arith)
running_without (x ∷ xs) zero r within there back u =
    let not : is_for u x ≡ false = and_right (x.txn == u) (x.undoes == 0) (ne_eqb x.undoes 0 (λ e. back (ap (λ (y : OpScope). y.undoes) there ∙ e))) in
    rw not refl
running_without (x ∷ xs) (suc i) r within there back u = ap (λ (o : Option Op). cond (is_for u x) (Some x.op) o) (running_without xs i r (omega (arith, within)) there back u)

-- ---- one more

pub running_push : (rs : List OpScope) (r : OpScope) → r.undoes ≡ 0 → running_in rs r.txn ≡ None → (u : ℕ) → running_in (rs ++ r ∷ []) u ≡ put (running_in rs) r.txn (Some r.op) u
running_push [] r fore none u = go (u == r.txn) refl
  where
    go : (b : Bool) → (u == r.txn) ≡ b → cond (is_for u r) (Some r.op) None ≡ cond b (Some r.op) None
    go true is = let own : is_for u r ≡ true = forward r u (sym (eqb-true u r.txn is)) fore in rw own refl
    go false is =
        let not : is_for u r ≡ false = and_left (r.txn == u) (r.undoes == 0) (ne_eqb r.txn u (λ e. let y : (u == r.txn) ≡ true = eq-eqb u r.txn (sym e) in cc)) in
        rw not refl
running_push (x ∷ xs) r fore none u = go (is_for r.txn x) refl none (λ k. running_push xs r fore k u)
  where
    go : (b : Bool) → is_for r.txn x ≡ b → cond b (Some x.op) (running_in xs r.txn) ≡ None → (running_in xs r.txn ≡ None → running_in (xs ++ r ∷ []) u ≡ put (running_in xs) r.txn (Some r.op) u)
        → cond (is_for u x) (Some x.op) (running_in (xs ++ r ∷ []) u) ≡ put (λ (v : ℕ). cond (is_for v x) (Some x.op) (running_in xs v)) r.txn (Some r.op) u
    go true is k rec = absurd cc
    go false is k rec = ap (λ (o : Option Op). cond (is_for u x) (Some x.op) o) (rec k) ∙ last (u == r.txn) refl
      where
        last : (c : Bool) → (u == r.txn) ≡ c → cond (is_for u x) (Some x.op) (cond c (Some r.op) (running_in xs u)) ≡ cond c (Some r.op) (cond (is_for u x) (Some x.op) (running_in xs u))
        last true same = let not : is_for u x ≡ false = subst (λ (v : ℕ). is_for v x ≡ false) (sym (eqb-true u r.txn same)) is in rw not refl
        last false same = refl

-- whether there is one of a transaction, from where it is
pub busy_of : (rs : List OpScope) (t : ℕ) (place : Option ℕ) → IsPlaceOf rs t place → is_some place ≡ list_any (λ (r : OpScope). r.txn == t) rs
busy_of [] t (Some i) k = absurd (let within = k.0 in omega (arith, within))
busy_of (x ∷ xs) t (Some i) k =
    let r : OpScope = get_or (x ∷ xs) i x in
    sym (list_any_at (λ (q : OpScope). q.txn == t) (x ∷ xs) i x k.0 (eq-eqb r.txn t (k.1 r (get_or_default (x ∷ xs) i x r k.0))))
busy_of rs t None k = sym (list_any_none (λ (q : OpScope). q.txn == t) rs (λ i d lt. ne_eqb (get_or rs i d).txn t (k i d lt)))
