-- The steps that are left of the operation at a place.
use Rattle.std.proofs.Common.{◌≡◌, ◌≢◌, ℕ, zero, suc, ◌<◌, ◌==◌, true, false, List, [], ◌∷◌, ◌++◌, length, get_or, set, ⊎_elim, ◌⊎◌, refl, sym, ap, ◌∙◌, subst, arith}
use Rattle.std.specs.Prelude.{All, AllPairs, cond}
use Rattle.std.specs.List.{remove}
use Rattle.std.proofs.lemmas.Bool.{eq-eqb, ne_eqb}
use Rattle.std.proofs.lemmas.List.{get_or_default}
use Rattle.std.proofs.lemmas.List.Elements.{All-head, All-tail}
use Rattle.mt_op.specs.Work.{work_of, work_at}
use Rattle.mt_op.specs.declared.scope.OpScope.{OpScope}
use Rattle.mt_op.specs.declared.scope.Stage.{Stage}
use Rattle.mt_op.specs.declared.scope.Stage.TheVariants.{Planning, Writing}
use Rattle.mt_core.specs.Runs.{AreApart}
use Rattle.mt_core.specs.Work.{steps_in}
use Rattle.mt_core.proofs.Lists.{pairs_head, pairs_tail, pair_at, all_remove}
use Rattle.mt_core.proofs.Underway.{apart_flip}

pub steps_at : (rs : List OpScope) (i : ℕ) (r : OpScope) → i < length rs → r ≡ get_or rs i r → AllPairs AreApart rs → steps_in rs r.txn ≡ work_of r
steps_at [] i r within there apart = absurd (omega (arith, within))
steps_at (x ∷ xs) zero r within there apart = let same : (x.txn == r.txn) ≡ true = eq-eqb x.txn r.txn (ap (λ (y : OpScope). y.txn) (sym there)) in
    rw same (ap (λ (y : OpScope). work_of y) (sym there))
steps_at (x ∷ xs) (suc i) r within there apart =
    let other : x.txn ≢ r.txn = λ is. (pairs_head AreApart x xs apart i r (omega (arith, within))).txn (ap (λ (y : OpScope). y.txn) (sym there) ∙ sym is) in
    let not : (x.txn == r.txn) ≡ false = ne_eqb x.txn r.txn other in
    rw not (steps_at xs i r (omega (arith, within)) there (pairs_tail AreApart x xs apart))

-- of a transaction that runs nothing
pub steps_none : (rs : List OpScope) (t : ℕ) → All (λ (r : OpScope). r.txn ≢ t) rs → steps_in rs t ≡ 0
steps_none [] t none = refl
steps_none (x ∷ xs) t none = let not : (x.txn == t) ≡ false = ne_eqb x.txn t (All-head (λ (r : OpScope). r.txn ≢ t) x xs none) in rw not (steps_none xs t (All-tail (λ (r : OpScope). r.txn ≢ t) x xs none))

-- behind the end of its operation
pub steps_removed : (rs : List OpScope) (i : ℕ) (r : OpScope) → i < length rs → r ≡ get_or rs i r → AllPairs AreApart rs → steps_in (remove rs i) r.txn ≡ 0
steps_removed rs i r within there apart = steps_none (remove rs i) r.txn (all_remove (λ (q : OpScope). q.txn ≢ r.txn) rs i within (λ j d lt other.
    let pair = pair_at AreApart rs apart_flip apart i j d within lt other in
    λ is. pair.txn (is ∙ ap (λ (y : OpScope). y.txn) (there ∙ get_or_default rs i r d within))))

-- one that may make a step has one left
pub some_left : (s : OpScope) → (s.stage ≡ Planning) ⊎ (s.stage ≡ Writing) → 0 < work_of s
some_left s g = ⊎_elim (λ (p : s.stage ≡ Planning). subst (λ (x : Stage). 0 < work_at s x) (sym p) (omega arith)) (λ (w : s.stage ≡ Writing). subst (λ (x : Stage). 0 < work_at s x) (sym w) (omega arith)) g

-- of an operation at the same place, before and now
pub both_at : (olds news : List OpScope) (place : ℕ) (x q : OpScope) → place < length olds → x ≡ get_or olds place x → AllPairs AreApart olds → place < length news → q ≡ get_or news place q → AllPairs AreApart news → q.txn ≡ x.txn
    → (steps_in olds x.txn ≡ work_of x) × (steps_in news x.txn ≡ work_of q)
both_at olds news place x q within at apart inside now apart_now same = (steps_at olds place x within at apart, ap (steps_in news) (sym same) ∙ steps_at news place q inside now apart_now)

-- ---- of another transaction

pub steps_set_other : (rs : List OpScope) (i : ℕ) (r q : OpScope) → i < length rs → r ≡ get_or rs i r → q.txn ≡ r.txn → (u : ℕ) → u ≢ r.txn → steps_in (set rs i q) u ≡ steps_in rs u
steps_set_other [] i r q within there same u other = absurd (omega (arith, within))
steps_set_other (x ∷ xs) zero r q within there same u other =
    let now : (q.txn == u) ≡ false = ne_eqb q.txn u (λ is. other (sym is ∙ same)) in
    let was : (x.txn == u) ≡ false = ne_eqb x.txn u (λ is. other (sym is ∙ ap (λ (y : OpScope). y.txn) (sym there))) in
    rw (now, was) refl
steps_set_other (x ∷ xs) (suc i) r q within there same u other = ap (λ (n : ℕ). cond (x.txn == u) (work_of x) n) (steps_set_other xs i r q (omega (arith, within)) there same u other)

pub steps_remove_other : (rs : List OpScope) (i : ℕ) (r : OpScope) → i < length rs → r ≡ get_or rs i r → (u : ℕ) → u ≢ r.txn → steps_in (remove rs i) u ≡ steps_in rs u
steps_remove_other [] i r within there u other = absurd (omega (arith, within))
steps_remove_other (x ∷ xs) zero r within there u other =
    let was : (x.txn == u) ≡ false = ne_eqb x.txn u (λ is. other (sym is ∙ ap (λ (y : OpScope). y.txn) (sym there))) in
    rw was refl
steps_remove_other (x ∷ xs) (suc i) r within there u other = ap (λ (n : ℕ). cond (x.txn == u) (work_of x) n) (steps_remove_other xs i r (omega (arith, within)) there u other)

pub steps_push_other : (rs : List OpScope) (r : OpScope) (u : ℕ) → u ≢ r.txn → steps_in (rs ++ r ∷ []) u ≡ steps_in rs u
steps_push_other [] r u other = let not : (r.txn == u) ≡ false = ne_eqb r.txn u (λ is. other (sym is)) in rw not refl
steps_push_other (x ∷ xs) r u other = ap (λ (n : ℕ). cond (x.txn == u) (work_of x) n) (steps_push_other xs r u other)
