-- Locks that are asked for at once: who is in the way, what is granted one after the other, and what takes it back.
use Rattle.std.proofs.Common.{◌≡◌, ℕ, ◌≤◌, ◌&&◌, ◌||◌, ◌++◌, ◌∷◌, [], Bool, true, false, not, cond, min, List, Option, None, Some, MatchOption, refl, ap, sym, ◌∙◌, subst, arith, ◌⊎◌, inl, inr}
use Rattle.std.proofs.lemmas.Bool.{or_cases}
use Rattle.mt_base.specs.declared.modes.LockMode.{LockMode}
use Rattle.mt_base.specs.declared.modes.LockMode.TheVariants.{Intend}
use Rattle.mt_model.specs.declared.objects.Asks.{Asks}
use Rattle.mt_model.specs.declared.objects.Lock.{Lock}
use Rattle.mt_model.specs.declared.objects.Object.{Object}
use Rattle.mt_model.specs.declared.objects.Object.TheVariants.{Relation}
use Rattle.mt_model.specs.Model.{intents, locks_in}
use Rattle.mt_model.specs.Locks.{Held, is_lock, with_lock, without_lock, with_locks, without_locks, Bars, BarsSome, IsFree, IsLeastBar, AreAllFree, IsLeastBarOf}
use Rattle.mt_slock.specs.Answers.{is_fresh_intent, MarksFresh, fresh_in}
use Rattle.mt_slock.specs.Standings.{Stands, StandsIntent, Stand}
use Rattle.mt_slock.specs.Views.{held_of, oldest_of}
use Rattle.mt_slock.specs.declared.holders.Holder.{Holder}
use Rattle.mt_slock.specs.declared.standings.Standing.{Standing}
use Rattle.mt_slock.specs.declared.standings.Standings.{Standings}
use Rattle.mt_slock.specs.declared.table.Fresh.{Fresh}
use Rattle.mt_slock.proofs.Tables.{lock_is, with_held}

abbrev pub lock_of : Object → LockMode → Lock
lock_of x m = record { object = x; mode = m }

-- ---- who is in the way

-- of one
abbrev IsBar : Held → ℕ → Lock → Option ℕ → Type 0
IsBar held t l bar = MatchOption bar (IsFree held t l.object l.mode) (IsLeastBar held t l.object l.mode)

-- of several
abbrev IsBarOf : Held → ℕ → List Lock → Option ℕ → Type 0
IsBarOf held t ls bar = MatchOption bar (AreAllFree held t ls) (IsLeastBarOf held t ls)

module _ (held : Held) (t : ℕ) where
  one_bar : (l : Lock) (bar : Option ℕ) → IsBar held t l bar → IsBarOf held t (l ∷ []) bar
  one_bar l None free = λ u b. elim b [ inl a ↦ free u a | inr n ↦ absurd n ]
  one_bar l (Some h) least = record { bars = inl least.bars; least = λ u b. elim b [ inl a ↦ least.least u a | inr n ↦ absurd n ] }

  more_bar : (l : Lock) (ls : List Lock) (one other : Option ℕ) → IsBar held t l one → IsBarOf held t ls other → IsBarOf held t (l ∷ ls) (oldest_of one other)
  more_bar l ls None None f g = λ u b. elim b [ inl a ↦ f u a | inr a ↦ g u a ]
  more_bar l ls (Some h) None f g = record { bars = inl f.bars; least = λ u b. elim b [ inl a ↦ f.least u a | inr a ↦ absurd (g u a) ] }
  more_bar l ls None (Some k) f g = record { bars = inr g.bars; least = λ u b. elim b [ inl a ↦ absurd (f u a) | inr a ↦ g.least u a ] }
  more_bar l ls (Some h) (Some k) f g = record {
    bars = elim (either h k) [
      | inl a ↦ inl (subst (λ (n : ℕ). Bars held t l.object l.mode n) (sym a) f.bars)
      | inr a ↦ inr (subst (λ (n : ℕ). BarsSome held t ls n) (sym a) g.bars)
    ];
    least = λ u b. elim b [ inl a ↦ down_left h k u (f.least u a) | inr a ↦ down_right h k u (g.least u a) ];
  }
    where
      either : (a b : ℕ) → (min a b ≡ a) ⊎ (min a b ≡ b)
      either a b = grind arith

      down_left : (a b v : ℕ) → a ≤ v → min a b ≤ v
      down_left a b v k = omega arith

      down_right : (a b v : ℕ) → b ≤ v → min a b ≤ v
      down_right a b v k = omega arith

module _ (es : List (Object × List Holder)) (t : ℕ) where
  all_bar : (i : Option ℕ) (x : Object) (m : LockMode) (intent object : Standing) → StandsIntent es t i intent → Stands es t x m object
      → IsBarOf (held_of es) t (intents i ++ lock_of x m ∷ []) (oldest_of intent.bar object.bar)
  all_bar None x m intent object none st =
      subst (λ (o : Option ℕ). IsBarOf (held_of es) t (lock_of x m ∷ []) (oldest_of o object.bar)) (sym none.0)
      (subst (λ (o : Option ℕ). IsBarOf (held_of es) t (lock_of x m ∷ []) o) (alone object.bar) (one_bar (held_of es) t (lock_of x m) object.bar st.bar))
    where
      alone : (o : Option ℕ) → o ≡ oldest_of None o
      alone None = refl
      alone (Some n) = refl
  all_bar (Some r) x m intent object si st =
      more_bar (held_of es) t (lock_of (Relation r) Intend) (lock_of x m ∷ []) intent.bar object.bar si.bar
      (one_bar (held_of es) t (lock_of x m) object.bar st.bar)

  pub standings_bar : (a : Asks) (s : Standings) → Stand es t a s → IsBarOf (held_of es) t (locks_in a) (oldest_of s.intent.bar s.object.bar)
  standings_bar a s st = all_bar a.intent a.object a.mode s.intent s.object st.intent st.object

-- ---- what is granted

-- nobody is in the way of the first ones, and of the last
pub free_intents : (held : Held) (t : ℕ) (i : Option ℕ) (ls : List Lock) → AreAllFree held t (intents i ++ ls) → AreAllFree held t (intents i)
free_intents held t None ls free = λ u b. absurd b
free_intents held t (Some r) ls free = λ u b. elim b [ inl a ↦ free u (inl a) | inr n ↦ absurd n ]

pub free_last : (held : Held) (t : ℕ) (i : Option ℕ) (l : Lock) → AreAllFree held t (intents i ++ l ∷ []) → IsFree held t l.object l.mode
free_last held t None l free = λ u b. free u (inl b)
free_last held t (Some r) l free = λ u b. free u (inr (inl b))

-- what a transaction holds itself is not in its way
pub still_free : (held : Held) (t : ℕ) (ls : List Lock) (x : Object) (m : LockMode) → IsFree held t x m → IsFree (with_locks held t ls) t x m
still_free held t [] x m free = free
still_free held t (l ∷ ls) x m free = still_free (with_lock held t l.object l.mode) t ls x m (λ u b.
    free u (record {
      another = b.another;
      mode = b.mode;
      holds = elim (or_cases (held u x b.mode) (is_lock t l.object l.mode u x b.mode) b.holds) [
        | inl a ↦ a
        | inr a ↦ absurd (b.another (lock_is t l.object l.mode u x b.mode a).0)
      ];
      conflicts = b.conflicts;
    }))

or_left : (a b : Bool) → a ≡ true → (a || b) ≡ true
or_left true b e = refl
or_left false b e = absurd cc

-- what is held still is
pub still_held : (held : Held) (t : ℕ) (ls : List Lock) (u : ℕ) (x : Object) (m : LockMode) → held u x m ≡ true → with_locks held t ls u x m ≡ true
still_held held t [] u x m h = h
still_held held t (l ∷ ls) u x m h = still_held (with_lock held t l.object l.mode) t ls u x m (or_left (held u x m) (is_lock t l.object l.mode u x m) h)

-- ---- which are fresh

-- what is not fresh is held, and still is once others were granted
pub held_after : (held : Held) (t : ℕ) (ls : List Lock) (x : Object) (m : LockMode) (fresh : Bool) → fresh ≡ not (held t x m) → fresh ≡ false
    → with_locks held t ls t x m ≡ true
held_after held t ls x m fresh is old = still_held held t ls t x m (is_true (held t x m) (sym is ∙ old))
  where
    is_true : (b : Bool) → not b ≡ false → b ≡ true
    is_true true e = refl
    is_true false e = absurd cc

-- a relation, for an intent
fresh_intent : (es : List (Object × List Holder)) (t : ℕ) (i : Option ℕ) (s : Standing) → StandsIntent es t i s → s.fresh ≡ is_fresh_intent (held_of es) t i
fresh_intent es t None s none = none.1
fresh_intent es t (Some r) s st = st.fresh

pub all_fresh : (es : List (Object × List Holder)) (t : ℕ) (a : Asks) (s : Standings) (fresh : Fresh) → fresh.intent ≡ s.intent.fresh → fresh.object ≡ s.object.fresh
    → Stand es t a s → MarksFresh (held_of es) t a fresh
all_fresh es t a s fresh fi fo st = record { intent = fi ∙ fresh_intent es t a.intent s.intent st.intent; object = fo ∙ st.object.fresh }

-- one after the other
pub granted_last : (held : Held) (t : ℕ) (i : Option ℕ) (l : Lock) → with_lock (with_locks held t (intents i)) t l.object l.mode ≡ with_locks held t (intents i ++ l ∷ [])
granted_last held t None l = refl
granted_last held t (Some r) l = refl

-- ---- what takes it back

-- h was held before, l and k are the locks granted: each of them that was not held goes
back_step : (h l k : Bool) → (l ≡ true → h ≡ false) → (k ≡ true → h ≡ false) → ((((h || l) || k) && not l) && not k) ≡ h
back_step true true k a b = absurd (let e : true ≡ false = a refl in cc)
back_step true false true a b = absurd (let e : true ≡ false = b refl in cc)
back_step true false false a b = refl
back_step false true true a b = refl
back_step false true false a b = refl
back_step false false true a b = refl
back_step false false false a b = refl

first_step : (h l k : Bool) → (l ≡ true → h ≡ false) → (k ≡ true → h ≡ true) → (((h || l) || k) && not l) ≡ h
first_step true true k a b = absurd (let e : true ≡ false = a refl in cc)
first_step true false k a b = refl
first_step false l true a b = absurd (let e : false ≡ true = b refl in cc)
first_step false true false a b = refl
first_step false false false a b = refl

last_step : (h l k : Bool) → (l ≡ true → h ≡ true) → (k ≡ true → h ≡ false) → (((h || l) || k) && not k) ≡ h
last_step true l true a b = absurd (let e : true ≡ false = b refl in cc)
last_step true l false a b = refl
last_step false true k a b = absurd (let e : false ≡ true = a refl in cc)
last_step false false true a b = refl
last_step false false false a b = refl

none_step : (h l k : Bool) → (l ≡ true → h ≡ true) → (k ≡ true → h ≡ true) → ((h || l) || k) ≡ h
none_step true l k a b = refl
none_step false true k a b = absurd (let e : false ≡ true = a refl in cc)
none_step false false true a b = absurd (let e : false ≡ true = b refl in cc)
none_step false false false a b = refl

one_step : (h l : Bool) → (l ≡ true → h ≡ false) → ((h || l) && not l) ≡ h
one_step true true a = absurd (let e : true ≡ false = a refl in cc)
one_step true false a = refl
one_step false true a = refl
one_step false false a = refl

is_not : (b f : Bool) → f ≡ not b → b ≡ not f
is_not true f e = ap not (sym e)
is_not false f e = ap not (sym e)

module _ (held : Held) (t : ℕ) where
  -- this very lock is held as it was
  was : (l : Lock) (b : Bool) → held t l.object l.mode ≡ b → (u : ℕ) (y : Object) (n : LockMode) → is_lock t l.object l.mode u y n ≡ true → held u y n ≡ b
  was l b e u y n is =
      let p = lock_is t l.object l.mode u y n is in
      subst (λ j. held u y j ≡ b) p.2 (subst (λ z. held u z l.mode ≡ b) p.1 (ap (λ v. held v l.object l.mode) p.0 ∙ e))

  one_back : (l : Lock) (f : Bool) → f ≡ not (held t l.object l.mode) → without_locks (with_lock held t l.object l.mode) t (cond f (l ∷ []) []) ≡ held
  one_back l true e = λ i u y n. one_step (held u y n) (is_lock t l.object l.mode u y n) (was l false (is_not (held t l.object l.mode) true e) u y n) i
  one_back l false e = sym (with_held held t l.object l.mode (is_not (held t l.object l.mode) false e))

  two_back : (k l : Lock) (f g : Bool) → f ≡ not (held t k.object k.mode) → g ≡ not (held t l.object l.mode)
      → without_locks (with_lock (with_lock held t k.object k.mode) t l.object l.mode) t (cond f (k ∷ []) [] ++ cond g (l ∷ []) []) ≡ held
  two_back k l true true e d = λ i u y n. back_step (held u y n) (is_lock t k.object k.mode u y n) (is_lock t l.object l.mode u y n)
      (was k false (is_not (held t k.object k.mode) true e) u y n) (was l false (is_not (held t l.object l.mode) true d) u y n) i
  two_back k l true false e d = λ i u y n. first_step (held u y n) (is_lock t k.object k.mode u y n) (is_lock t l.object l.mode u y n)
      (was k false (is_not (held t k.object k.mode) true e) u y n) (was l true (is_not (held t l.object l.mode) false d) u y n) i
  two_back k l false true e d = λ i u y n. last_step (held u y n) (is_lock t k.object k.mode u y n) (is_lock t l.object l.mode u y n)
      (was k true (is_not (held t k.object k.mode) false e) u y n) (was l false (is_not (held t l.object l.mode) true d) u y n) i
  two_back k l false false e d = λ i u y n. none_step (held u y n) (is_lock t k.object k.mode u y n) (is_lock t l.object l.mode u y n)
      (was k true (is_not (held t k.object k.mode) false e) u y n) (was l true (is_not (held t l.object l.mode) false d) u y n) i

  pub intent_back : (i : Option ℕ) (f : Bool) → f ≡ is_fresh_intent held t i → without_locks (with_locks held t (intents i)) t (cond f (intents i) []) ≡ held
  intent_back None true e = absurd cc
  intent_back None false e = refl
  intent_back (Some r) f e = one_back (lock_of (Relation r) Intend) f e

  all_back : (i : Option ℕ) (l : Lock) (f g : Bool) → f ≡ is_fresh_intent held t i → g ≡ not (held t l.object l.mode)
      → without_locks (with_locks held t (intents i ++ l ∷ [])) t (cond f (intents i) [] ++ cond g (l ∷ []) []) ≡ held
  all_back None l true g e d = absurd cc
  all_back None l false g e d = one_back l g d
  all_back (Some r) l f g e d = two_back (lock_of (Relation r) Intend) l f g e d

pub taken_out : (held : Held) (t : ℕ) (a : Asks) (fresh : Fresh) → MarksFresh held t a fresh → without_locks (with_locks held t (locks_in a)) t (fresh_in a fresh) ≡ held
taken_out held t a fresh is = all_back held t a.intent (lock_of a.object a.mode) fresh.intent fresh.object is.intent is.object

-- ---- in which order they go

-- two that go, in either order
either_step : (h a b : Bool) → ((h && not a) && not b) ≡ ((h && not b) && not a)
either_step false a b = refl
either_step true true true = refl
either_step true true false = refl
either_step true false true = refl
either_step true false false = refl

either_order : (held : Held) (t : ℕ) (k l : Lock) → without_lock (without_lock held t k.object k.mode) t l.object l.mode ≡ without_lock (without_lock held t l.object l.mode) t k.object k.mode
either_order held t k l = λ i u y n. either_step (held u y n) (is_lock t k.object k.mode u y n) (is_lock t l.object l.mode u y n) i

without_last_one : (held : Held) (t : ℕ) (ls : List Lock) (l : Lock) → without_locks (without_lock held t l.object l.mode) t ls ≡ without_locks held t (ls ++ l ∷ [])
without_last_one held t [] l = refl
without_last_one held t (k ∷ ls) l = ap (λ (h : Held). without_locks h t ls) (either_order held t l k) ∙ without_last_one (without_lock held t k.object k.mode) t ls l

-- the last goes first, if it goes
pub last_first : (held : Held) (t : ℕ) (ls : List Lock) (l : Lock) (fresh : Bool) → fresh ≡ true
    → without_locks (without_lock held t l.object l.mode) t ls ≡ without_locks held t (ls ++ cond fresh (l ∷ []) [])
last_first held t ls l true e = without_last_one held t ls l
last_first held t ls l false e = absurd cc

pub none_last : (held : Held) (t : ℕ) (ls : List Lock) (l : Lock) (fresh : Bool) → fresh ≡ false
    → without_locks held t ls ≡ without_locks held t (ls ++ cond fresh (l ∷ []) [])
none_last held t ls l true e = absurd cc
none_last held t [] l false e = refl
none_last held t (k ∷ ls) l false e = none_last (without_lock held t k.object k.mode) t ls l false e
