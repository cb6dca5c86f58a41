-- Page locks of the operations under way.
use Rattle.std.proofs.Common.{◌≡◌, ◌≢◌, ⊎_elim, ℕ, zero, suc, ◌+◌, ◌<◌, ◌==◌, ◌||◌, Bool, true, false, not, List, [], ◌∷◌, ◌++◌, length, get_or, set, Some, refl, sym, ap, ◌∙◌, subst, arith}
use Rattle.std.specs.Prelude.{All, AllPairs, Result, Ok, Err}
use Rattle.std.specs.List.{remove, sum_by}
use Rattle.std.proofs.lemmas.Bool.{eq-eqb, eqb-true, ne_eqb, or_left, cases_eq}
use Rattle.std.proofs.lemmas.List.{get_or_default, get_or_read, get_or-set_other, length-set}
use Rattle.std.proofs.lemmas.List.Elements.{All-push, All-filter, filter_passes}
use Rattle.std.proofs.lemmas.List.Sums.{sum_by_push}
use Rattle.std.proofs.lemmas.List.Folds.{list_any-append, list_any_at, Any-from_list_any}
use Rattle.mt_base.specs.declared.modes.Mode.{Mode}
use Rattle.mt_base.specs.declared.refusal.Refusal.{Refusal}
use Rattle.mt_live.specs.Entries.{Entry}
use Rattle.mt_live.specs.Lives.{member_of}
use Rattle.mt_live.specs.Members.{Member}
use Rattle.mt_op.specs.Holds.{KeepsLocks}
use Rattle.mt_op.specs.declared.answers.Stepped.{Stepped}
use Rattle.mt_op.specs.declared.answers.Stepped.TheVariants as stepped
use Rattle.mt_plock.specs.Holding.{lock_of, IsLeastHolder}
use Rattle.mt_plock.specs.Releasing.{locks_without}
use Rattle.mt_plock.specs.declared.guards.PageLock.{PageLock}
use Rattle.mt_core.specs.Consistent.{IsOwnerOf}
use Rattle.mt_core.specs.Runs.{AreApart, AreHeldBy, IsOwned, is_under_way, kept_bytes, pages_of, taken_bytes, is_working}
use Rattle.mt_op.specs.World.{left_of}
use Rattle.mt_core.specs.Steps.{IsOfOther, StepNamesOther}
use Rattle.mt_op.specs.declared.scope.OpScope.{OpScope}
use Rattle.mt_core.proofs.Lists.{pair_at}
use Rattle.mt_core.proofs.Underway.{apart_flip}

-- ---- numbers of the operations under way

pub way_at : (rs : List OpScope) (i : ℕ) (r : OpScope) → i < length rs → r ≡ get_or rs i r → is_under_way rs r.number ≡ true
way_at rs i r within there = list_any_at (λ (q : OpScope). q.number == r.number) rs i r within (eq-eqb (get_or rs i r).number r.number (ap (λ (q : OpScope). q.number) (sym there)))

pub way_set : (rs : List OpScope) (i : ℕ) (r q : OpScope) (n : ℕ) → i < length rs → r ≡ get_or rs i r → q.number ≡ r.number → is_under_way (set rs i q) n ≡ is_under_way rs n
way_set [] i r q n within there same = absurd (omega (arith, within))
way_set (x ∷ xs) zero r q n within there same = ap (λ (m : ℕ). (m == n) || is_under_way xs n) (same ∙ ap (λ (y : OpScope). y.number) there)
way_set (x ∷ xs) (suc i) r q n within there same = ap (λ (b : Bool). (x.number == n) || b) (way_set xs i r q n (omega (arith, within)) there same)

pub way_push : (rs : List OpScope) (r : OpScope) (n : ℕ) → is_under_way rs n ≡ true → is_under_way (rs ++ r ∷ []) n ≡ true
way_push rs r n is = list_any-append (λ (q : OpScope). q.number == n) rs (r ∷ []) ∙ or_left (is_under_way rs n) (is_under_way (r ∷ []) n) is

-- of the others, where one goes
pub way_remove : (rs : List OpScope) (i : ℕ) (r : OpScope) (n : ℕ) → i < length rs → r ≡ get_or rs i r → n ≢ r.number → is_under_way rs n ≡ true → is_under_way (remove rs i) n ≡ true
way_remove [] i r n within there apart is = absurd (omega (arith, within))
way_remove (x ∷ xs) zero r n within there apart is =
    let other : (x.number == n) ≡ false = ne_eqb x.number n (λ e. apart (sym e ∙ ap (λ (y : OpScope). y.number) (sym there))) in
    ap (λ (b : Bool). b || is_under_way xs n) (sym other) ∙ is
way_remove (x ∷ xs) (suc i) r n within there apart is = go (x.number == n) is (λ h. way_remove xs i r n (omega (arith, within)) there apart h)
  where
    go : (b : Bool) → (b || is_under_way xs n) ≡ true → (is_under_way xs n ≡ true → is_under_way (remove xs i) n ≡ true) → (b || is_under_way (remove xs i) n) ≡ true
    go true h rec = refl
    go false h rec = rec h

-- ---- the locks

pub held_as : (rs new : List OpScope) (locks : List PageLock) → ((n : ℕ) → is_under_way rs n ≡ true → is_under_way new n ≡ true) → AreHeldBy rs locks → AreHeldBy new locks
held_as rs new locks more held i d lt = more (get_or locks i d).op (held i d lt)

-- what one more that is under way adds to each sum
pub record AddsUp (rs ns : List OpScope) (r : OpScope) : Type 0 where
  pub pages : sum_by pages_of ns ≡ sum_by pages_of rs + pages_of r
  pub left : sum_by left_of ns ≡ sum_by left_of rs + left_of r
  pub kept : sum_by kept_bytes ns ≡ sum_by kept_bytes rs + kept_bytes r
  pub taken : sum_by taken_bytes ns ≡ sum_by taken_bytes rs + taken_bytes r

pub sums_push : (rs ns : List OpScope) (r : OpScope) → ns ≡ rs ++ r ∷ [] → AddsUp rs ns r
sums_push rs ns r more = record {
  pages = ap (sum_by pages_of) more ∙ sum_by_push pages_of rs r;
  left = ap (sum_by left_of) more ∙ sum_by_push left_of rs r;
  kept = ap (sum_by kept_bytes) more ∙ sum_by_push kept_bytes rs r;
  taken = ap (sum_by taken_bytes) more ∙ sum_by_push taken_bytes rs r;
}

pub held_push : (rs : List OpScope) (r : OpScope) (locks : List PageLock) → AreHeldBy rs locks → AreHeldBy (rs ++ r ∷ []) locks
held_push rs r locks held = held_as rs (rs ++ r ∷ []) locks (way_push rs r) held

pub held_set : (rs : List OpScope) (i : ℕ) (r q : OpScope) (locks : List PageLock) → i < length rs → r ≡ get_or rs i r → q.number ≡ r.number → AreHeldBy rs locks → AreHeldBy (set rs i q) locks
held_set rs i r q locks within there same held = held_as rs (set rs i q) locks (λ n is. way_set rs i r q n within there same ∙ is) held

-- an operation goes with its locks
pub held_without : (rs : List OpScope) (i : ℕ) (r : OpScope) (locks : List PageLock) → i < length rs → r ≡ get_or rs i r → AreHeldBy rs locks → AreHeldBy (remove rs i) (locks_without r.number locks)
held_without rs i r locks within there held k d lt =
    let l : PageLock = get_or (locks_without r.number locks) k d in
    let was : is_under_way rs l.op ≡ true = All-filter (λ (x : PageLock). not (x.op == r.number)) (λ (x : PageLock). is_under_way rs x.op ≡ true) locks held k d lt in
    let passes : not (l.op == r.number) ≡ true = filter_passes (λ (x : PageLock). not (x.op == r.number)) locks k d lt in
    way_remove rs i r l.op within there (λ same. let own : (l.op == r.number) ≡ true = eq-eqb l.op r.number same in let no : not (l.op == r.number) ≡ false = ap not own in absurd cc) was

-- a step of an operation under way locks under its number, or gives locks back
pub held_step : (rs : List OpScope) (number : ℕ) (Next : ℕ → Mode → Type 0) (old new : List PageLock) (res : Result Stepped Refusal) → is_under_way rs number ≡ true → KeepsLocks number Next old new res → AreHeldBy rs old → AreHeldBy rs new
held_step rs number Next old new (Ok stepped.Went) own keeps held =
    ⊎_elim (λ (same : new ≡ old). subst (AreHeldBy rs) (sym same) held)
    (λ (one : (p : ℕ) × (mode : Mode) × Next p mode × (new ≡ old ++ lock_of number p mode ∷ [])).
    subst (AreHeldBy rs) (sym one.3) (All-push (λ (l : PageLock). is_under_way rs l.op ≡ true) old (lock_of number one.0 one.1) held own)) keeps
held_step rs number Next old new (Ok (stepped.Wait holder)) own keeps held = subst (AreHeldBy rs) (sym keeps.0) held
held_step rs number Next old new (Ok (stepped.Again holder)) own keeps held =
    subst (AreHeldBy rs) (sym keeps.0) (All-filter (λ (l : PageLock). not (l.op == number)) (λ (l : PageLock). is_under_way rs l.op ≡ true) old held)
held_step rs number Next old new (Ok stepped.Flush) own keeps held = subst (AreHeldBy rs) (sym keeps) held
held_step rs number Next old new (Ok (stepped.Ready first second)) own keeps held = subst (AreHeldBy rs) (sym keeps) held
held_step rs number Next old new (Err why) own keeps held = subst (AreHeldBy rs) (sym keeps) held

-- ---- who is in the way

-- an operation of another transaction, where its number is another
pub other_of : (rs : List OpScope) (place : ℕ) (r q : OpScope) (n : ℕ) → place < length rs → r ≡ get_or rs place r → n ≢ r.number → AllPairs AreApart rs → is_under_way rs n ≡ true → IsOfOther (set rs place q) r.txn n
other_of rs place r q n within there apart pairs is =
    let (i, d, lt, here, found) = Any-from_list_any (λ (x : OpScope). x.number == n) rs is in
    let at : d ≡ get_or rs i d = sym here in
    let number : d.number ≡ n = eqb-true d.number n found in
    let away : i ≢ place = λ same. apart (sym number ∙ ap (λ (x : OpScope). x.number) (at ∙ ap (λ (j : ℕ). get_or rs j d) same ∙ sym (get_or_read rs place r within there d))) in
    let pair : AreApart (get_or rs place d) (get_or rs i d) = pair_at AreApart rs apart_flip pairs place i d within lt away in
    let other : AreApart r d = subst (λ (X : Type 0). X) (λ j. AreApart (sym (get_or_read rs place r within there d) j) (sym at j)) pair in
    let less : i < length (set rs place q) = let len = length-set rs place q in omega (arith, lt, len) in (
      d.txn,
      other.txn,
      (
        i,
        less,
        λ x is_at. let same : x ≡ d = is_at ∙ get_or-set_other rs place i q x away ∙ get_or_default rs i x d lt ∙ sym at in (ap (λ (y : OpScope). y.number) same ∙ number, ap (λ (y : OpScope). y.txn) same),
      ),
    )

-- whoever holds a lock in its way is under way
in_way : (rs : List OpScope) (lock : PageLock) (locks : List PageLock) (holder : ℕ) → AreHeldBy rs locks → IsLeastHolder lock locks holder → is_under_way rs holder ≡ true
in_way rs lock locks holder held least =
    let (i, d, lt, at, both) = least.holds in
    ap (is_under_way rs) (sym both.1 ∙ ap (λ (l : PageLock). l.op) (sym at)) ∙ held i d lt

pub step_names_other : (rs : List OpScope) (place : ℕ) (r q : OpScope) (Next : ℕ → Mode → Type 0) (old new : List PageLock) (res : Result Stepped Refusal) → place < length rs → r ≡ get_or rs place r → AllPairs AreApart rs → AreHeldBy rs old → KeepsLocks r.number Next old new res
    → StepNamesOther (set rs place q) r.txn res
step_names_other rs place r q Next old new (Ok (stepped.Wait holder)) within there pairs held keeps =
    let (p, mode, next, awaited) = keeps.1 in
    other_of rs place r q holder within there (λ same. let more = awaited.1 in absurd (omega (arith, same, more))) pairs (in_way rs (lock_of r.number p mode) old holder held awaited.0)
step_names_other rs place r q Next old new (Ok (stepped.Again holder)) within there pairs held keeps =
    let (p, mode, next, barred) = keeps.1 in
    other_of rs place r q holder within there (λ same. let less = barred.1 in absurd (omega (arith, same, less))) pairs (in_way rs (lock_of r.number p mode) old holder held barred.0)
step_names_other rs place r q Next old new (Ok stepped.Went) within there pairs held keeps = tt
step_names_other rs place r q Next old new (Ok stepped.Flush) within there pairs held keeps = tt
step_names_other rs place r q Next old new (Ok (stepped.Ready first second)) within there pairs held keeps = tt
step_names_other rs place r q Next old new (Err why) within there pairs held keeps = tt

-- ---- an operation has one owner, who lives

pub owners_same : (rs : List OpScope) (n t u : ℕ) → AllPairs AreApart rs → IsOwnerOf rs n (Some t) → IsOwnerOf rs n (Some u) → t ≡ u
owners_same [] n t u pairs (i, within, one) (j, inside, two) = absurd (omega (arith, within))
owners_same (y ∷ ys) n t u pairs (i, within, one) (j, inside, two) =
    let a : OpScope = get_or (y ∷ ys) i y in
    let b : OpScope = get_or (y ∷ ys) j y in
    let first = one a (get_or_default (y ∷ ys) i y a within) in
    let second = two b (get_or_default (y ∷ ys) j y b inside) in
    ⊎_elim (λ (same : j ≡ i). sym first.1 ∙ ap (λ (k : ℕ). (get_or (y ∷ ys) k y).txn) (sym same) ∙ second.1)
    (λ (away : j ≡ i → ⊥). absurd ((pair_at AreApart (y ∷ ys) apart_flip pairs i j y within inside away).number (second.0 ∙ sym first.0))) (cases_eq j i)

pub owner_works : (ms : List Member) (standing : List Entry) (rs : List OpScope) (n u : ℕ) → All (IsOwned ms standing) rs → IsOwnerOf rs n (Some u) → is_working (member_of ms u) ≡ true
owner_works ms standing [] n u owned (i, within, is) = absurd (omega (arith, within))
owner_works ms standing (y ∷ ys) n u owned (i, within, is) =
    let a : OpScope = get_or (y ∷ ys) i y in
    let own = is a (get_or_default (y ∷ ys) i y a within) in
    ap (λ (t : ℕ). is_working (member_of ms t)) (sym own.1) ∙ (owned i y within).at_work
