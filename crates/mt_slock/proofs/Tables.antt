-- What is kept by each change of the locks that are held.
use Rattle.std.proofs.Common.{◌≡◌, ◌≢◌, ℕ, ◌==◌, ◌&&◌, ◌||◌, ◌++◌, ◌∷◌, [], Bool, true, false, not, cond, List, refl, ap, sym, ◌∙◌, subst, ◌⊎◌, inl, inr}
use Rattle.std.proofs.lemmas.Bool.{and_parts, or_cases, not-true, cases_Bool, eqb-true, eqb-false}
use Rattle.std.proofs.lemmas.List.Folds.{list_any-append}
use Rattle.std.proofs.lemmas.List.Elements.{All-nil, All-cons}
use Rattle.std.specs.Prelude.{All}
use Rattle.mt_base.specs.Modes.{granted_together}
use Rattle.mt_base.specs.declared.modes.LockMode.{LockMode}
use Rattle.mt_base.specs.declared.modes.LockMode.TheVariants.{Read, Write, Add, Intend}
use Rattle.mt_model.specs.declared.objects.Object.{Object}
use Rattle.mt_model.specs.Model.{same_object}
use Rattle.mt_model.specs.Locks.{Held, no_locks, same_mode, is_lock, with_lock, without_lock, with_locks, without_locks, without_holder, HoldsEach, IsFree, AreTogether}
use Rattle.mt_model.specs.Laws.{AreCompatible}
use Rattle.mt_model.proofs.Cells.{same-true, same-self}
use Rattle.mt_model.specs.declared.objects.Lock.{Lock}
use Rattle.mt_slock.specs.Noted.{front, is_among_locks, with_note, without_last, without_notes, AreNoted, IsKept}
use Rattle.mt_slock.proofs.Among.{or_false, not_both, same_mode-true, eqb_self}
use Rattle.mt_slock.proofs.Noting.{front_push, gone_are_among}

-- ---- held together

granted_back : (m n : LockMode) → granted_together m n ≡ granted_together n m
granted_back Read Read = refl
granted_back Read Write = refl
granted_back Read Add = refl
granted_back Write Read = refl
granted_back Write Write = refl
granted_back Write Add = refl
granted_back Add Read = refl
granted_back Add Write = refl
granted_back Add Add = refl
granted_back Read Intend = refl
granted_back Write Intend = refl
granted_back Add Intend = refl
granted_back Intend Read = refl
granted_back Intend Write = refl
granted_back Intend Add = refl
granted_back Intend Intend = refl

-- what a lock is, where it is this one
pub lock_is : (t : ℕ) (x : Object) (m : LockMode) (u : ℕ) (y : Object) (n : LockMode) → is_lock t x m u y n ≡ true → (u ≡ t) × (x ≡ y) × (m ≡ n)
lock_is t x m u y n e =
    let p = and_parts (u == t) (same_object x y && same_mode m n) e in
    let q = and_parts (same_object x y) (same_mode m n) p.1 in
    (eqb-true u t p.0, same-true x y q.0, same_mode-true m n q.1)

-- where another holds it, the modes are granted together
beside_free : (held : Held) (t : ℕ) (x : Object) (m : LockMode) (u : ℕ) (n : LockMode) → IsFree held t x m → u ≢ t → held u x n ≡ true → granted_together n m ≡ true
beside_free held t x m u n free apart h = elim (cases_Bool (granted_together n m)) [
  | inl granted ↦ granted
  | inr bars ↦ absurd (free u (record { another = apart; mode = n; holds = h; conflicts = bars }))
]

pub together_with : (held : Held) (t : ℕ) (x : Object) (m : LockMode) → AreTogether held → IsFree held t x m → AreTogether (with_lock held t x m)
together_with held t x m together free = λ u v y k n apart hu hv.
    both u v y k n apart (or_cases (held u y k) (is_lock t x m u y k) hu) (or_cases (held v y n) (is_lock t x m v y n) hv)
  where
    both : (u v : ℕ) (y : Object) (k n : LockMode) → u ≢ v → (held u y k ≡ true) ⊎ (is_lock t x m u y k ≡ true) → (held v y n ≡ true) ⊎ (is_lock t x m v y n ≡ true) → granted_together k n ≡ true
    both u v y k n apart (inl a) (inl b) = together u v y k n apart a b
    both u v y k n apart (inl a) (inr b) =
        let p = lock_is t x m v y n b in
        subst (λ j. granted_together k j ≡ true) p.2 (beside_free held t x m u k free (λ e. apart (e ∙ sym p.0)) (subst (λ z. held u z k ≡ true) (sym p.1) a))
    both u v y k n apart (inr a) (inl b) =
        let p = lock_is t x m u y k a in
        subst (λ j. granted_together j n ≡ true) p.2 (granted_back m n ∙ beside_free held t x m v n free (λ e. apart (p.0 ∙ sym e)) (subst (λ z. held v z n ≡ true) (sym p.1) b))
    both u v y k n apart (inr a) (inr b) = absurd (apart ((lock_is t x m u y k a).0 ∙ sym (lock_is t x m v y n b).0))

-- locks that go leave the others together
fewer_together : (held less : Held) → ((u : ℕ) (y : Object) (k : LockMode) → less u y k ≡ true → held u y k ≡ true) → AreTogether held → AreTogether less
fewer_together held less fewer together = λ u v y k n apart a b. together u v y k n apart (fewer u y k a) (fewer v y n b)

-- ---- noted

among_push : (ls : List Lock) (l : Lock) (y : Object) (k : LockMode) → is_among_locks (ls ++ l ∷ []) y k ≡ (is_among_locks ls y k || (same_object l.object y && same_mode l.mode k))
among_push ls l y k =
    list_any-append (λ (j : Lock). same_object j.object y && same_mode j.mode k) ls (l ∷ []) ∙ ap (λ b. is_among_locks ls y k || b) (or_false (same_object l.object y && same_mode l.mode k))

-- at t its own list, at another that of the other
at_own : (s : Bool) (ls ks : List Lock) (y : Object) (k : LockMode) → (s ≡ true → is_among_locks ls y k ≡ true) → (s ≡ false → is_among_locks ks y k ≡ true) → is_among_locks (cond s ls ks) y k ≡ true
at_own true ls ks y k own other = own refl
at_own false ls ks y k own other = other refl

flip : (t u : ℕ) → (t == u) ≡ false → (u == t) ≡ true → ⊥
flip t u n e = eqb-false t u n (sym (eqb-true u t e))

noted_with : (held : Held) (notes : ℕ → List Lock) (t : ℕ) (x : Object) (m : LockMode) → AreNoted held notes → AreNoted (with_lock held t x m) (with_note notes t x m)
noted_with held notes t x m noted = λ u y k h.
    let lock : Lock = record { object = x; mode = m } in
    at_own (t == u) (notes u ++ lock ∷ []) (notes u) y k
    (λ own. among_push (notes u) lock y k ∙ either (is_among_locks (notes u) y k) (same_object x y && same_mode m k)
    (elim (or_cases (held u y k) (is_lock t x m u y k) h) [ inl a ↦ inl (noted u y k a) | inr b ↦ inr (and_parts (u == t) (same_object x y && same_mode m k) b).1 ]))
    (λ other. elim (or_cases (held u y k) (is_lock t x m u y k) h) [ inl a ↦ noted u y k a | inr b ↦ absurd (flip t u other (and_parts (u == t) (same_object x y && same_mode m k) b).0) ])
  where
    either : (a b : Bool) → (a ≡ true) ⊎ (b ≡ true) → (a || b) ≡ true
    either true b h = refl
    either false b (inl h) = absurd cc
    either false b (inr h) = h

-- the last note of a transaction, where its lock goes too
noted_without_last : (held : Held) (notes : ℕ → List Lock) (t : ℕ) (x : Object) (m : LockMode) → notes t ≡ front (notes t) ++ record { object = x; mode = m } ∷ []
    → AreNoted held notes → AreNoted (without_lock held t x m) (without_last notes t)
noted_without_last held notes t x m last noted = λ u y k h.
    let lock : Lock = record { object = x; mode = m } in
    let p = and_parts (held u y k) (not (is_lock t x m u y k)) h in
    let gone : is_lock t x m u y k ≡ false = not-true (is_lock t x m u y k) p.1 in
    at_own (t == u) (front (notes u)) (notes u) y k
    (λ own.
    let e : t ≡ u = eqb-true t u own in
    let ends : notes u ≡ front (notes u) ++ lock ∷ [] = subst (λ n. notes n ≡ front (notes n) ++ lock ∷ []) e last in
    let there : (is_among_locks (front (notes u)) y k || (same_object x y && same_mode m k)) ≡ true =
    sym (among_push (front (notes u)) lock y k) ∙ (ap (λ ls. is_among_locks ls y k) (sym ends) ∙ noted u y k p.0) in
    let other : (same_object x y && same_mode m k) ≡ false = ap (λ b. b && (same_object x y && same_mode m k)) (sym (ap (λ n. u == n) e ∙ eqb_self u)) ∙ gone in
    sym (or_false (is_among_locks (front (notes u)) y k)) ∙ (ap (λ b. is_among_locks (front (notes u)) y k || b) (sym other) ∙ there))
    (λ other. noted u y k p.0)

-- ---- kept

moved : (held less : Held) (notes fewer : ℕ → List Lock) → held ≡ less → notes ≡ fewer → IsKept less fewer → IsKept held notes
moved held less notes fewer e f kept = subst (λ h. IsKept h notes) (sym e) (subst (λ n. IsKept less n) (sym f) kept)

module _ (held after : Held) (notes then : ℕ → List Lock) (t : ℕ) where
  pub kept_none : after ≡ no_locks → IsKept after then
  kept_none e = subst (λ h. IsKept h then) (sym e) (record { noted = λ u y k h. absurd cc; together = λ u v y k n apart h _. absurd cc })

  pub kept_with : (x : Object) (m : LockMode) → IsFree held t x m → after ≡ with_lock held t x m → then ≡ with_note notes t x m → IsKept held notes → IsKept after then
  kept_with x m free e f kept = moved after (with_lock held t x m) then (with_note notes t x m) e f (record {
    noted = noted_with held notes t x m kept.noted;
    together = together_with held t x m kept.together free;
  })

  pub kept_without : (x : Object) (m : LockMode) → after ≡ without_lock held t x m → IsKept held notes → IsKept after notes
  kept_without x m e kept = subst (λ h. IsKept h notes) (sym e) (record {
    noted = λ u y k h. kept.noted u y k (and_parts (held u y k) (not (is_lock t x m u y k)) h).0;
    together = fewer_together held (without_lock held t x m) (λ u y k h. (and_parts (held u y k) (not (is_lock t x m u y k)) h).0) kept.together;
  })

  pub kept_without_last : (x : Object) (m : LockMode) → after ≡ without_lock held t x m → then ≡ without_last notes t
      → notes t ≡ front (notes t) ++ record { object = x; mode = m } ∷ [] → IsKept held notes → IsKept after then
  kept_without_last x m e f last kept = moved after (without_lock held t x m) then (without_last notes t) e f (record {
    noted = noted_without_last held notes t x m last kept.noted;
    together = fewer_together held (without_lock held t x m) (λ u y k h. (and_parts (held u y k) (not (is_lock t x m u y k)) h).0) kept.together;
  })

-- a note that was made in vain is dropped
dropped_step : (s : Bool) (ls : List Lock) (l : Lock) → cond s (front (cond s (ls ++ l ∷ []) ls)) (cond s (ls ++ l ∷ []) ls) ≡ ls
dropped_step true ls l = front_push ls l
dropped_step false ls l = refl

pub dropped_again : (notes : ℕ → List Lock) (t : ℕ) (x : Object) (m : LockMode) → without_last (with_note notes t x m) t ≡ notes
dropped_again notes t x m = λ i u. dropped_step (t == u) (notes u) (record { object = x; mode = m }) i

-- a lock that is held already
pub with_held : (held : Held) (t : ℕ) (x : Object) (m : LockMode) → held t x m ≡ true → held ≡ with_lock held t x m
with_held held t x m h = λ i u y k. same u y k (is_lock t x m u y k) refl i
  where
    or_true : (a : Bool) → a ≡ true → a ≡ (a || true)
    or_true true e = refl
    or_true false e = e

    same : (u : ℕ) (y : Object) (k : LockMode) (b : Bool) → is_lock t x m u y k ≡ b → held u y k ≡ (held u y k || is_lock t x m u y k)
    same u y k true e =
        let p = lock_is t x m u y k e in
        or_true (held u y k) (subst (λ j. held u y j ≡ true) p.2 (subst (λ z. held u z m ≡ true) p.1 (ap (λ n. held n x m) p.0 ∙ h)))
        ∙ ap (λ b. held u y k || b) (sym e)
    same u y k false e = sym (or_false (held u y k)) ∙ ap (λ b. held u y k || b) (sym e)

-- ---- all of one transaction

released_step : (h e n : Bool) → (h ≡ true → e ≡ true → n ≡ true) → (h && not (e && n)) ≡ (not e && h)
released_step true true true noted = refl
released_step true true false noted = absurd (not_both false (noted refl refl) refl)
released_step true false n noted = refl
released_step false true n noted = refl
released_step false false n noted = refl

pub released : (held : Held) (notes : ℕ → List Lock) (t : ℕ) → AreNoted held notes → without_locks held t (notes t) ≡ without_holder held t
released held notes t noted = λ i u y k.
    (gone_are_among held t (notes t) u y k
    ∙ released_step (held u y k) (u == t) (is_among_locks (notes t) y k) (λ h e. subst (λ n. is_among_locks (notes n) y k ≡ true) (eqb-true u t e) (noted u y k h))) i

pub kept_released : (held after : Held) (notes then : ℕ → List Lock) (t : ℕ) → after ≡ without_holder held t → then ≡ without_notes notes t → IsKept held notes → IsKept after then
kept_released held after notes then t e f kept = moved after (without_holder held t) then (without_notes notes t) e f (record {
  noted = λ u y k h.
      let p = and_parts (not (u == t)) (held u y k) h in
      at_own (t == u) [] (notes u) y k
      (λ own. absurd (not_both (u == t) (ap (λ n. u == n) (eqb-true t u own) ∙ eqb_self u) (not-true (u == t) p.0)))
      (λ other. kept.noted u y k p.1);
  together = fewer_together held (without_holder held t) (λ u y k h. (and_parts (not (u == t)) (held u y k) h).1) kept.together;
})

-- ---- the law

module _ (held : Held) (t u : ℕ) (together : AreTogether held) (apart : t ≢ u) where
  compatible : (l m : Lock) → held t l.object l.mode ≡ true → held u m.object m.mode ≡ true → AreCompatible l m
  compatible l m hl hm = by (same_object l.object m.object) refl
    where
      by : (s : Bool) → same_object l.object m.object ≡ s → AreCompatible l m
      by true e = inr (together t u l.object l.mode m.mode apart hl (subst (λ y. held u y m.mode ≡ true) (sym (same-true l.object m.object e)) hm))
      by false e = inl (λ same. not_both (same_object l.object m.object) (subst (λ y. same_object l.object y ≡ true) same (same-self l.object)) e)

  with_each : (l : Lock) (ms : List Lock) → held t l.object l.mode ≡ true → HoldsEach held u ms → All (AreCompatible l) ms
  with_each l [] hl each = All-nil (AreCompatible l)
  with_each l (m ∷ ms) hl each = All-cons (AreCompatible l) m ms (compatible l m hl each.0) (with_each l ms hl each.1)

  pub each_with_each : (ls ms : List Lock) → HoldsEach held t ls → HoldsEach held u ms → All (λ l. All (AreCompatible l) ms) ls
  each_with_each [] ms first second = All-nil (λ l. All (AreCompatible l) ms)
  each_with_each (l ∷ ls) ms first second =
      All-cons (λ l. All (AreCompatible l) ms) l ls (with_each l ms first.0 second) (each_with_each ls ms first.1 second)

-- ---- what a grant of several does, and what takes it back

pub granted_once : (held : Held) (t : ℕ) (ls : List Lock) → HoldsEach held t ls → with_locks held t ls ≡ held
granted_once held t [] each = refl
granted_once held t (l ∷ ls) each =
    let one : with_lock held t l.object l.mode ≡ held = sym (with_held held t l.object l.mode each.0) in
    ap (λ (h : Held). with_locks h t ls) one ∙ granted_once held t ls each.1
