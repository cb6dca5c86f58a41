-- Which semantic locks are held, and which one more may be granted beside them (Weikum 1991).
use Rattle.std.specs.Prelude.{ℕ, ◌≡◌, ◌≢◌, ◌⊎◌, ◌≤◌, ◌==◌, ◌&&◌, ◌||◌, Bool, true, false, not, List, [], ◌∷◌, ⊤}
use Rattle.mt_base.specs.Modes.{granted_together}
use Rattle.mt_base.specs.declared.modes.LockMode.{LockMode}
use Rattle.mt_base.specs.declared.modes.LockMode.TheVariants.{Read, Write, Add, Intend}
use Rattle.mt_model.specs.Model.{Object, same_object}
use Rattle.mt_model.specs.declared.objects.Lock.{Lock}

-- whether a transaction holds an object in a mode
abbrev pub Held : Type 0
Held = ℕ → Object → LockMode → Bool

abbrev pub no_locks : Held
no_locks t x m = false

abbrev pub same_mode : LockMode → LockMode → Bool
same_mode Read Read = true
same_mode Write Write = true
same_mode Add Add = true
same_mode Intend Intend = true
same_mode _ _ = false

-- this very lock
abbrev pub is_lock : ℕ → Object → LockMode → Held
is_lock t x m u y n = (u == t) && (same_object x y && same_mode m n)

-- the locks with one more, those without one, and those without one transaction's
abbrev pub with_lock : Held → ℕ → Object → LockMode → Held
with_lock held t x m = λ u y n. held u y n || is_lock t x m u y n

abbrev pub without_lock : Held → ℕ → Object → LockMode → Held
without_lock held t x m = λ u y n. held u y n && not (is_lock t x m u y n)

abbrev pub without_holder : Held → ℕ → Held
without_holder held t = λ u y n. not (u == t) && held u y n

-- another transaction holds the object in a mode that is not granted together with this one
pub record Bars (held : Held) (t : ℕ) (x : Object) (m : LockMode) (holder : ℕ) : Type 0 where
  pub another : holder ≢ t
  pub mode : LockMode
  pub holds : held holder x mode ≡ true
  pub conflicts : granted_together mode m ≡ false

-- nobody does
abbrev pub IsFree : Held → ℕ → Object → LockMode → Type 0
IsFree held t x m = (u : ℕ) → Bars held t x m u → ⊥

-- the oldest that does
pub record IsLeastBar (held : Held) (t : ℕ) (x : Object) (m : LockMode) (holder : ℕ) : Type 0 where
  pub bars : Bars held t x m holder
  pub least : (u : ℕ) → Bars held t x m u → holder ≤ u

-- no two transactions hold an object in modes that are not granted together
abbrev pub AreTogether : Held → Type 0
AreTogether held =
    (t u : ℕ) (x : Object) (m n : LockMode) → t ≢ u → held t x m ≡ true → held u x n ≡ true
    → granted_together m n ≡ true

-- ---- several locks at once, one after the other

abbrev pub with_locks : Held → ℕ → List Lock → Held
with_locks held t [] = held
with_locks held t (l ∷ ls) = with_locks (with_lock held t l.object l.mode) t ls

abbrev pub without_locks : Held → ℕ → List Lock → Held
without_locks held t [] = held
without_locks held t (l ∷ ls) = without_locks (without_lock held t l.object l.mode) t ls

-- a transaction holds each of them
abbrev pub HoldsEach : Held → ℕ → List Lock → Type 0
HoldsEach held t [] = ⊤
HoldsEach held t (l ∷ ls) = (held t l.object l.mode ≡ true) × HoldsEach held t ls

-- another transaction is in the way of one of them
abbrev pub BarsSome : Held → ℕ → List Lock → ℕ → Type 0
BarsSome held t [] u = ⊥
BarsSome held t (l ∷ ls) u = Bars held t l.object l.mode u ⊎ BarsSome held t ls u

-- nobody is in the way of any
abbrev pub AreAllFree : Held → ℕ → List Lock → Type 0
AreAllFree held t ls = (u : ℕ) → BarsSome held t ls u → ⊥

-- the oldest that is in the way of one
pub record IsLeastBarOf (held : Held) (t : ℕ) (ls : List Lock) (holder : ℕ) : Type 0 where
  pub bars : BarsSome held t ls holder
  pub least : (u : ℕ) → BarsSome held t ls u → holder ≤ u
