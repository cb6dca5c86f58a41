-- What is noted of each transaction: its locks, in order of grant.
use Rattle.std.specs.Prelude.{ℕ, ◌≡◌, ◌-◌, ◌==◌, ◌&&◌, ◌++◌, ◌∷◌, [], Bool, true, cond, List, Option, None, Some, length, take}
use Rattle.std.specs.List.{list_any}
use Rattle.std.specs.Map.{lookup}
use Rattle.mt_base.specs.declared.modes.LockMode.{LockMode}
use Rattle.mt_model.specs.declared.objects.Object.{Object}
use Rattle.mt_model.specs.Model.{same_object}
use Rattle.mt_model.specs.Locks.{Held, same_mode, AreTogether}
use Rattle.mt_model.specs.declared.objects.Lock.{Lock}

-- all but the last
abbrev pub front : List Lock → List Lock
front ls = take (length ls - 1) ls

-- this lock is the last
abbrev pub EndsWith : List Lock → Object → LockMode → Type 0
EndsWith ls x m = ls ≡ front ls ++ record { object = x; mode = m } ∷ []

abbrev pub or_none : Option (List Lock) → List Lock
or_none None = []
or_none (Some ls) = ls

-- the locks that are noted of each transaction
abbrev pub notes_of : List (ℕ × List Lock) → ℕ → List Lock
notes_of es t = or_none (lookup (λ u. t == u) es)

abbrev pub no_notes : ℕ → List Lock
no_notes t = []

-- with one lock more of a transaction, without its last, and without all of its
abbrev pub with_note : (ℕ → List Lock) → ℕ → Object → LockMode → ℕ → List Lock
with_note notes t x m = λ u. cond (t == u) (notes u ++ record { object = x; mode = m } ∷ []) (notes u)

abbrev pub without_last : (ℕ → List Lock) → ℕ → ℕ → List Lock
without_last notes t = λ u. cond (t == u) (front (notes u)) (notes u)

abbrev pub without_notes : (ℕ → List Lock) → ℕ → ℕ → List Lock
without_notes notes t = λ u. cond (t == u) [] (notes u)

-- a lock is among these
abbrev pub is_among_locks : List Lock → Object → LockMode → Bool
is_among_locks ls x m = list_any (λ l. same_object l.object x && same_mode l.mode m) ls

-- each lock that is held is noted of its holder
abbrev pub AreNoted : Held → (ℕ → List Lock) → Type 0
AreNoted held notes = (t : ℕ) (x : Object) (m : LockMode) → held t x m ≡ true → is_among_locks (notes t) x m ≡ true

-- what is held is noted, and is held together
pub record IsKept (held : Held) (notes : ℕ → List Lock) : Type 0 where
  pub noted : AreNoted held notes
  pub together : AreTogether held
