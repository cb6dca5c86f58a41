-- What entries hold, after the entry of one object is changed.
use Rattle.std.proofs.Common.{◌≡◌, ◌≢◌, ℕ, ◌==◌, ◌&&◌, ◌||◌, Bool, true, false, not, cond, List, Option, None, Some, MatchOption, Result, Ok, Err, OnOk, OnErr, [], ◌∷◌, ◌++◌, refl, ap, sym, ◌∙◌}
use Rattle.std.specs.Map.{lookup}
use Rattle.std.proofs.lemmas.Bool.{and_parts, not-true, ne_eqb}
use Rattle.std.proofs.lemmas.Bool.Decides.{Decides-eqb}
use Rattle.mt_base.specs.Modes.{granted_together}
use Rattle.mt_base.specs.declared.modes.LockMode.{LockMode}
use Rattle.mt_model.specs.declared.objects.Object.{Object}
use Rattle.mt_model.specs.Model.{same_object}
use Rattle.mt_model.specs.Locks.{same_mode, with_lock, without_lock, IsFree, IsLeastBar}
use Rattle.mt_model.proofs.Cells.{same-true}
use Rattle.mt_slock.specs.declared.holders.Holder.{Holder}
use Rattle.mt_slock.specs.Views.{holds_in, held_of, conflicts, HasNoIdle}
use Rattle.mt_slock.proofs.Among.{or_false, and_false, not_both, Found}

with_step : (s e m new old : Bool) → (s ≡ true → new ≡ (old || (e && m))) → (s ≡ false → new ≡ old) → new ≡ (old || (e && (s && m)))
with_step true e m new old here elsewhere = here refl
with_step false e m new old here elsewhere = elsewhere refl ∙ (sym (or_false old) ∙ ap (λ b. old || b) (sym (and_false e)))

without_step : (s e m new old : Bool) → (s ≡ true → new ≡ (old && not (e && m))) → (s ≡ false → new ≡ old) → new ≡ (old && not (e && (s && m)))
without_step true e m new old here elsewhere = here refl
without_step false e m new old here elsewhere = elsewhere refl ∙ (and_true old ∙ ap (λ b. old && not b) (sym (and_false e)))
  where
    and_true : (b : Bool) → b ≡ (b && true)
    and_true true = refl
    and_true false = refl

same_step : (s new old : Bool) → (s ≡ true → new ≡ old) → (s ≡ false → new ≡ old) → new ≡ old
same_step true new old here elsewhere = here refl
same_step false new old here elsewhere = elsewhere refl

-- the entry of x becomes w, and each other one stays
module _ (old new : Object → Option (List Holder)) (x : Object) (w : Option (List Holder))
    (changes : (q : Object) → new q ≡ cond (same_object x q) w (old q)) where
  here : (y : Object) (u : ℕ) (n : LockMode) → same_object x y ≡ true → holds_in (new y) u n ≡ holds_in w u n
  here y u n s = ap (λ o. holds_in o u n) (changes y ∙ ap (λ b. cond b w (old y)) s)

  elsewhere : (y : Object) (u : ℕ) (n : LockMode) → same_object x y ≡ false → holds_in (new y) u n ≡ holds_in (old y) u n
  elsewhere y u n s = ap (λ o. holds_in o u n) (changes y ∙ ap (λ b. cond b w (old y)) s)

  pub with_changed : (t : ℕ) (m : LockMode) → ((u : ℕ) (n : LockMode) → holds_in w u n ≡ (holds_in (old x) u n || ((u == t) && same_mode m n)))
      → (u : ℕ) (y : Object) (n : LockMode) → holds_in (new y) u n ≡ with_lock (λ v z k. holds_in (old z) v k) t x m u y n
  with_changed t m h u y n = with_step (same_object x y) (u == t) (same_mode m n) (holds_in (new y) u n) (holds_in (old y) u n)
      (λ s. here y u n s ∙ (h u n ∙ ap (λ z. holds_in (old z) u n || ((u == t) && same_mode m n)) (same-true x y s)))
      (elsewhere y u n)

  pub without_changed : (t : ℕ) (m : LockMode) → ((u : ℕ) (n : LockMode) → holds_in w u n ≡ (holds_in (old x) u n && not ((u == t) && same_mode m n)))
      → (u : ℕ) (y : Object) (n : LockMode) → holds_in (new y) u n ≡ without_lock (λ v z k. holds_in (old z) v k) t x m u y n
  without_changed t m h u y n = without_step (same_object x y) (u == t) (same_mode m n) (holds_in (new y) u n) (holds_in (old y) u n)
      (λ s. here y u n s ∙ (h u n ∙ ap (λ z. holds_in (old z) u n && not ((u == t) && same_mode m n)) (same-true x y s)))
      (elsewhere y u n)

  pub same_changed : ((u : ℕ) (n : LockMode) → holds_in w u n ≡ holds_in (old x) u n) → (u : ℕ) (y : Object) (n : LockMode) → holds_in (new y) u n ≡ holds_in (old y) u n
  same_changed h u y n = same_step (same_object x y) (holds_in (new y) u n) (holds_in (old y) u n)
      (λ s. here y u n s ∙ (h u n ∙ ap (λ z. holds_in (old z) u n) (same-true x y s)))
      (elsewhere y u n)

-- each entry is its own
pub own_entry : (old : Object → Option (List Holder)) (x q : Object) → old q ≡ cond (same_object x q) (old x) (old q)
own_entry old x q = by (same_object x q) refl
  where
    by : (s : Bool) → same_object x q ≡ s → old q ≡ cond s (old x) (old q)
    by true e = ap old (sym (same-true x q e))
    by false e = refl

pub cond_twice : {A : Type 0} (s : Bool) (a b c : A) → cond s a (cond s b c) ≡ cond s a c
cond_twice true a b c = refl
cond_twice false a b c = refl

-- ---- who is in the way

conflict_parts : (t u : ℕ) (m n : LockMode) → conflicts t m u n ≡ true → (u ≢ t) × (granted_together n m ≡ false)
conflict_parts t u m n e =
    let p = and_parts (not (t == u)) (not (granted_together n m)) e in
    (λ same. not_both (t == u) ((Decides-eqb t u).1 (sym same)) (not-true (t == u) p.0), not-true (granted_together n m) p.1)

conflict_from : (t u : ℕ) (m n : LockMode) → u ≢ t → granted_together n m ≡ false → conflicts t m u n ≡ true
conflict_from t u m n apart bars = (λ i. not (ne_eqb t u (λ e. apart (sym e)) i) && not (bars i))

pub barring_is : (es : List (Object × List Holder)) (x : Object) (t : ℕ) (m : LockMode) (hs : List Holder) (r : Option ℕ)
    → lookup (same_object x) es ≡ Some hs → Found hs t m r → MatchOption r (IsFree (held_of es) t x m) (IsLeastBar (held_of es) t x m)
barring_is es x t m hs None is f = λ u b.
    not_both (conflicts t m u b.mode) (conflict_from t u m b.mode b.another b.conflicts) (f u b.mode (ap (λ o. holds_in o u b.mode) (sym is) ∙ b.holds))
barring_is es x t m hs (Some u) is f = record {
  bars = record {
    another = (conflict_parts t u m f.mode f.bars).0;
    mode = f.mode;
    holds = ap (λ o. holds_in o u f.mode) is ∙ f.among;
    conflicts = (conflict_parts t u m f.mode f.bars).1;
  };
  least = λ v b. f.oldest v b.mode (ap (λ o. holds_in o v b.mode) (sym is) ∙ b.holds) (conflict_from t v m b.mode b.another b.conflicts);
}

-- nobody holds what has no entry
pub free_alone : (es : List (Object × List Holder)) (x : Object) (t : ℕ) (m : LockMode) → lookup (same_object x) es ≡ None → IsFree (held_of es) t x m
free_alone es x t m is = λ u b. not_both (holds_in (lookup (same_object x) es) u b.mode) b.holds (ap (λ o. holds_in o u b.mode) is)

-- ---- objects that nobody holds

idle_step : (s : Bool) (w old new : Option (List Holder)) → new ≡ cond s w old → w ≢ Some [] → old ≢ Some [] → new ≢ Some []
idle_step true w old new e a b = λ f. a (sym e ∙ f)
idle_step false w old new e a b = λ f. b (sym e ∙ f)

pub still_no_idle : (x : Object) (w : Option (List Holder)) (old new : List (Object × List Holder))
    → ((q : Object) → lookup (same_object q) new ≡ cond (same_object x q) w (lookup (same_object q) old)) → w ≢ Some [] → HasNoIdle old → HasNoIdle new
still_no_idle x w old new changes here idle = λ q. idle_step (same_object x q) w (lookup (same_object q) old) (lookup (same_object q) new) (changes q) here (idle q)

pub some_not_empty : (hs : List Holder) → hs ≢ [] → Some hs ≢ Some []
some_not_empty hs h = λ e. h cc

pub none_not_empty : ◌≢◌ {A = Option (List Holder)} None (Some [])
none_not_empty e = absurd cc

push_not_empty : (hs : List Holder) (h : Holder) → hs ++ h ∷ [] ≢ []
push_not_empty [] h e = absurd cc
push_not_empty (x ∷ xs) h e = absurd cc

-- after one more was put there, or could not be
pub grown_not_empty : {E : Type 0} (r : Result (Unit {0}) E) (hs now : List Holder) (h : Holder) → OnOk r (now ≡ hs ++ h ∷ []) → OnErr r (now ≡ hs) → hs ≢ [] → now ≢ []
grown_not_empty (Ok u) hs now h ok err there = λ e. push_not_empty hs h (sym ok ∙ e)
grown_not_empty (Err y) hs now h ok err there = λ e. there (sym err ∙ e)
