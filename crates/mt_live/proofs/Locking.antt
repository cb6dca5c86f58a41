-- Locks that are granted, one or several, and one transaction's that go.
use Rattle.std.proofs.Common.{◌≡◌, ◌≢◌, ◌⊎◌, inl, inr, ℕ, Bool, true, false, cond, not, ◌&&◌, ◌||◌, ◌==◌, List, [], ◌∷◌, ◌++◌, refl, sym, ◌∙◌, subst}
use Rattle.std.proofs.lemmas.Bool.{and_parts, and_from}
use Rattle.std.proofs.lemmas.Bool.Decides.{Decides-eqb}
use Rattle.mt_base.specs.Modes.{granted_together}
use Rattle.mt_base.specs.declared.modes.LockMode.{LockMode}
use Rattle.mt_base.specs.declared.modes.LockMode.TheVariants as mode
use Rattle.mt_model.specs.declared.objects.Lock.{Lock}
use Rattle.mt_model.specs.declared.objects.Object.{Object}
use Rattle.mt_model.specs.declared.operations.Op.{Op}
use Rattle.mt_model.specs.Model.{object_of, same_object, mode_of, intent_of, intents, locks_of}
use Rattle.mt_model.specs.Locks.{Held, same_mode, is_lock, with_lock, with_locks, without_holder, Bars, IsFree, HoldsEach, BarsSome, AreAllFree, AreTogether}
use Rattle.mt_model.proofs.Cells.{same-true, same-self}
use Rattle.mt_live.specs.Entries.{Entry, kept}
use Rattle.mt_live.specs.Sound.{Each, IsLocked}
use Rattle.mt_live.specs.Undoing.{others}

or_parts : (p q : Bool) → (p || q) ≡ true → (p ≡ true) ⊎ (q ≡ true)
or_parts true q h = inl refl
or_parts false q h = inr h

or_right : (p q : Bool) → q ≡ true → (p || q) ≡ true
or_right true q h = refl
or_right false q h = h

same_mode_true : (m n : LockMode) → same_mode m n ≡ true → m ≡ n
same_mode_true mode.Read mode.Read h = refl
same_mode_true mode.Read mode.Write h = absurd cc
same_mode_true mode.Read mode.Add h = absurd cc
same_mode_true mode.Read mode.Intend h = absurd cc
same_mode_true mode.Write mode.Read h = absurd cc
same_mode_true mode.Write mode.Write h = refl
same_mode_true mode.Write mode.Add h = absurd cc
same_mode_true mode.Write mode.Intend h = absurd cc
same_mode_true mode.Add mode.Read h = absurd cc
same_mode_true mode.Add mode.Write h = absurd cc
same_mode_true mode.Add mode.Add h = refl
same_mode_true mode.Add mode.Intend h = absurd cc
same_mode_true mode.Intend mode.Read h = absurd cc
same_mode_true mode.Intend mode.Write h = absurd cc
same_mode_true mode.Intend mode.Add h = absurd cc
same_mode_true mode.Intend mode.Intend h = refl

same_mode_self : (m : LockMode) → same_mode m m ≡ true
same_mode_self mode.Read = refl
same_mode_self mode.Write = refl
same_mode_self mode.Add = refl
same_mode_self mode.Intend = refl

granted-flip : (m n : LockMode) → granted_together m n ≡ granted_together n m
granted-flip mode.Read mode.Read = refl
granted-flip mode.Read mode.Write = refl
granted-flip mode.Read mode.Add = refl
granted-flip mode.Read mode.Intend = refl
granted-flip mode.Write mode.Read = refl
granted-flip mode.Write mode.Write = refl
granted-flip mode.Write mode.Add = refl
granted-flip mode.Write mode.Intend = refl
granted-flip mode.Add mode.Read = refl
granted-flip mode.Add mode.Write = refl
granted-flip mode.Add mode.Add = refl
granted-flip mode.Add mode.Intend = refl
granted-flip mode.Intend mode.Read = refl
granted-flip mode.Intend mode.Write = refl
granted-flip mode.Intend mode.Add = refl
granted-flip mode.Intend mode.Intend = refl

-- ---- one lock more

pub record IsThis (t : ℕ) (x : Object) (m : LockMode) (u : ℕ) (y : Object) (n : LockMode) : Type 0 where
  pub txn : u ≡ t
  pub object : x ≡ y
  pub mode : m ≡ n

pub is_this : (t : ℕ) (x : Object) (m : LockMode) (u : ℕ) (y : Object) (n : LockMode) → is_lock t x m u y n ≡ true → IsThis t x m u y n
is_this t x m u y n h =
    let p = and_parts (u == t) (same_object x y && same_mode m n) h in
    let q = and_parts (same_object x y) (same_mode m n) p.1 in
    record { txn = (Decides-eqb u t).0 p.0; object = same-true x y q.0; mode = same_mode_true m n q.1 }

pub has_lock : (held : Held) (t : ℕ) (x : Object) (m : LockMode) → with_lock held t x m t x m ≡ true
has_lock held t x m =
    or_right (held t x m) (is_lock t x m t x m)
    (and_from (t == t) (same_object x x && same_mode m m) ((Decides-eqb t t).1 refl)
    (and_from (same_object x x) (same_mode m m) (same-self x) (same_mode_self m)))

pub still_held : (held : Held) (t : ℕ) (x : Object) (m : LockMode) (u : ℕ) (y : Object) (n : LockMode) → held u y n ≡ true → with_lock held t x m u y n ≡ true
still_held held t x m u y n h = rw h refl

free_granted : (held : Held) (t : ℕ) (x : Object) (m : LockMode) → IsFree held t x m → (u : ℕ) (n : LockMode) → u ≢ t → held u x n ≡ true → granted_together n m ≡ true
free_granted held t x m free u n apart h = go (granted_together n m) refl
  where
    go : (b : Bool) → granted_together n m ≡ b → b ≡ true
    go true is = refl
    go false is = absurd (free u (record { another = apart; mode = n; holds = h; conflicts = is }))

pub more_locks : (held : Held) (t : ℕ) (x : Object) (m : LockMode) → AreTogether held → IsFree held t x m → AreTogether (with_lock held t x m)
more_locks held t x m h free u v y p q apart a b = go (or_parts (held u y p) (is_lock t x m u y p) a) (or_parts (held v y q) (is_lock t x m v y q) b)
  where
    go : (held u y p ≡ true) ⊎ (is_lock t x m u y p ≡ true) → (held v y q ≡ true) ⊎ (is_lock t x m v y q ≡ true) → granted_together p q ≡ true
    go (inl f) (inl g) = h u v y p q apart f g
    go (inl f) (inr e) =
        let i = is_this t x m v y q e in
        let here : held u x p ≡ true = subst (λ z. held u z p ≡ true) (sym i.object) f in
        subst (λ n. granted_together p n ≡ true) i.mode (free_granted held t x m free u p (λ s. apart (s ∙ sym i.txn)) here)
    go (inr e) (inl g) =
        let i = is_this t x m u y p e in
        let here : held v x q ≡ true = subst (λ z. held v z q ≡ true) (sym i.object) g in
        granted-flip p q ∙ subst (λ n. granted_together q n ≡ true) i.mode (free_granted held t x m free v q (λ s. apart (i.txn ∙ sym s)) here)
    go (inr e) (inr f) = absurd (apart ((is_this t x m u y p e).txn ∙ sym (is_this t x m v y q f).txn))

-- what is held with one lock more: what was held before, or this one
pub old_or_this : (held : Held) (t : ℕ) (x : Object) (m : LockMode) (u : ℕ) (y : Object) (n : LockMode) → with_lock held t x m u y n ≡ true → (held u y n ≡ true) ⊎ IsThis t x m u y n
old_or_this held t x m u y n h = go (or_parts (held u y n) (is_lock t x m u y n) h)
  where
    go : (held u y n ≡ true) ⊎ (is_lock t x m u y n ≡ true) → (held u y n ≡ true) ⊎ IsThis t x m u y n
    go (inl a) = inl a
    go (inr e) = inr (is_this t x m u y n e)

-- who holds with one lock more: who held before, or the one that it is granted to
pub holder_of : (held : Held) (t : ℕ) (x : Object) (m : LockMode) (u : ℕ) (y : Object) (n : LockMode) → with_lock held t x m u y n ≡ true → (held u y n ≡ true) ⊎ (u ≡ t)
holder_of held t x m u y n h = go (old_or_this held t x m u y n h)
  where
    go : (held u y n ≡ true) ⊎ IsThis t x m u y n → (held u y n ≡ true) ⊎ (u ≡ t)
    go (inl a) = inl a
    go (inr this) = inr this.txn

-- a lock more of its own bars no transaction
bars_before : (held : Held) (t : ℕ) (x : Object) (m : LockMode) (y : Object) (n : LockMode) (u : ℕ) → Bars (with_lock held t x m) t y n u → Bars held t y n u
bars_before held t x m y n u bars = go (holder_of held t x m u y bars.mode bars.holds)
  where
    go : (held u y bars.mode ≡ true) ⊎ (u ≡ t) → Bars held t y n u
    go (inl a) = record { another = bars.another; mode = bars.mode; holds = a; conflicts = bars.conflicts }
    go (inr same) = absurd (bars.another same)

-- ---- several locks more

pub all_still_held : (held : Held) (t : ℕ) (ls : List Lock) (u : ℕ) (y : Object) (n : LockMode) → held u y n ≡ true → with_locks held t ls u y n ≡ true
all_still_held held t [] u y n h = h
all_still_held held t (l ∷ ls) u y n h = all_still_held (with_lock held t l.object l.mode) t ls u y n (still_held held t l.object l.mode u y n h)

pub has_each : (held : Held) (t : ℕ) (ls : List Lock) → HoldsEach (with_locks held t ls) t ls
has_each held t [] = tt
has_each held t (l ∷ ls) =
    let more = with_lock held t l.object l.mode in
    (all_still_held more t ls t l.object l.mode (has_lock held t l.object l.mode), has_each more t ls)

pub whose_locks : (held : Held) (t : ℕ) (ls : List Lock) (u : ℕ) (y : Object) (n : LockMode) → with_locks held t ls u y n ≡ true → (held u y n ≡ true) ⊎ (u ≡ t)
whose_locks held t [] u y n h = inl h
whose_locks held t (l ∷ ls) u y n h = go (whose_locks (with_lock held t l.object l.mode) t ls u y n h)
  where
    go : (with_lock held t l.object l.mode u y n ≡ true) ⊎ (u ≡ t) → (held u y n ≡ true) ⊎ (u ≡ t)
    go (inl a) = holder_of held t l.object l.mode u y n a
    go (inr same) = inr same

some_bars_before : (held : Held) (t : ℕ) (x : Object) (m : LockMode) (ls : List Lock) (u : ℕ) → BarsSome (with_lock held t x m) t ls u → BarsSome held t ls u
some_bars_before held t x m [] u bars = bars
some_bars_before held t x m (l ∷ ls) u (inl bars) = inl (bars_before held t x m l.object l.mode u bars)
some_bars_before held t x m (l ∷ ls) u (inr bars) = inr (some_bars_before held t x m ls u bars)

-- if nobody bars any of them, locks go together with them
pub all_more_locks : (held : Held) (t : ℕ) (ls : List Lock) → AreTogether held → AreAllFree held t ls → AreTogether (with_locks held t ls)
all_more_locks held t [] h free = h
all_more_locks held t (l ∷ ls) h free =
    all_more_locks (with_lock held t l.object l.mode) t ls (more_locks held t l.object l.mode h (λ u bars. free u (inl bars)))
    (λ u bars. free u (inr (some_bars_before held t l.object l.mode ls u bars)))

-- if each lock is free, all of a list are
pub free_each : (held : Held) (t : ℕ) (ls : List Lock) → ((x : Object) (m : LockMode) → IsFree held t x m) → AreAllFree held t ls
free_each held t [] free u bars = bars
free_each held t (l ∷ ls) free u (inl bars) = free l.object l.mode u bars
free_each held t (l ∷ ls) free u (inr bars) = free_each held t ls free u bars

-- what is held elsewhere too
pub holds_each_more : (held more : Held) (t : ℕ) → ((x : Object) (m : LockMode) → held t x m ≡ true → more t x m ≡ true) → (ls : List Lock) → HoldsEach held t ls → HoldsEach more t ls
holds_each_more held more t f [] h = tt
holds_each_more held more t f (l ∷ ls) h = (f l.object l.mode h.0, holds_each_more held more t f ls h.1)

-- ---- the lock of what an operation is on

last_held : (held : Held) (t : ℕ) (ls : List Lock) (l : Lock) → HoldsEach held t (ls ++ l ∷ []) → held t l.object l.mode ≡ true
last_held held t [] l h = h.0
last_held held t (k ∷ ks) l h = last_held held t ks l h.1

-- whatever it intends besides
pub main_lock : (held : Held) (t : ℕ) (op : Op) → HoldsEach held t (locks_of op) → held t (object_of op) (mode_of op) ≡ true
main_lock held t op h = last_held held t (intents (intent_of op)) (record { object = object_of op; mode = mode_of op }) h

-- ---- one transaction's locks go

pub held_before : (held : Held) (t u : ℕ) (x : Object) (m : LockMode) → without_holder held t u x m ≡ true → held u x m ≡ true
held_before held t u x m h = (and_parts (not (u == t)) (held u x m) h).1

pub another_holds : (held : Held) (t u : ℕ) (x : Object) (m : LockMode) → without_holder held t u x m ≡ true → (u == t) ≡ false
another_holds held t u x m h = not_true (u == t) (and_parts (not (u == t)) (held u x m) h).0
  where
    not_true : (b : Bool) → not b ≡ true → b ≡ false
    not_true true k = absurd cc
    not_true false k = refl

pub held_after : (held : Held) (t u : ℕ) (x : Object) (m : LockMode) → (u == t) ≡ false → held u x m ≡ true → without_holder held t u x m ≡ true
held_after held t u x m apart h = rw (apart, h) refl

pub each_held_after : (held : Held) (t u : ℕ) (ls : List Lock) → (u == t) ≡ false → HoldsEach held u ls → HoldsEach (without_holder held t) u ls
each_held_after held t u ls apart h = holds_each_more held (without_holder held t) u (λ x m. held_after held t u x m apart) ls h

pub fewer_locks : (held : Held) (t : ℕ) → AreTogether held → AreTogether (without_holder held t)
fewer_locks held t h u v x m n apart a b = h u v x m n apart (held_before held t u x m a) (held_before held t v x n b)

locked_choice : (held : Held) (t : ℕ) (e : Entry) (es : List Entry) (b : Bool) → (e.txn == t) ≡ b → IsLocked held e → Each (IsLocked (without_holder held t)) es
    → Each (IsLocked (without_holder held t)) (cond (not b) (e ∷ es) es)
locked_choice held t e es true is h rest = rest
locked_choice held t e es false is h rest = (each_held_after held t e.txn (locks_of e.op) is h, rest)

pub still_locked : (held : Held) (t : ℕ) (es : List Entry) → Each (IsLocked held) es → Each (IsLocked (without_holder held t)) (kept (others t) es)
still_locked held t [] h = tt
still_locked held t (e ∷ es) h = locked_choice held t e (kept (others t) es) (e.txn == t) refl h.0 (still_locked held t es h.1)
