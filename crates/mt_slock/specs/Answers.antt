-- What is answered if locks are asked for, by the locks that were held and those that are held then.
use Rattle.std.specs.Prelude.{ℕ, ◌≡◌, ◌<◌, ◌++◌, ◌∷◌, [], Bool, false, not, cond, List, Option, None, Some}
use Rattle.mt_base.specs.declared.modes.LockMode.TheVariants.{Intend}
use Rattle.mt_base.specs.declared.refusal.Refusal.{Refusal}
use Rattle.mt_base.specs.declared.refusal.Refusal.TheVariants.{NoMemory, Die}
use Rattle.mt_model.specs.declared.objects.Asks.{Asks}
use Rattle.mt_model.specs.declared.objects.Lock.{Lock}
use Rattle.mt_model.specs.declared.objects.Object.TheVariants.{Relation}
use Rattle.mt_model.specs.Model.{intents, locks_in}
use Rattle.mt_model.specs.Locks.{Held, with_locks, HoldsEach, AreAllFree, IsLeastBarOf}
use Rattle.mt_slock.specs.declared.table.Asked.{Asked}
use Rattle.mt_slock.specs.declared.table.Asked.TheVariants.{Granted, Wait}
use Rattle.mt_slock.specs.declared.table.Fresh.{Fresh}

-- there is an intent, and the relation was not held so
abbrev pub is_fresh_intent : Held → ℕ → Option ℕ → Bool
is_fresh_intent held t None = false
is_fresh_intent held t (Some r) = not (held t (Relation r) Intend)

-- which of the locks asked for were not held before
pub record MarksFresh (held : Held) (t : ℕ) (a : Asks) (fresh : Fresh) : Type 0 where
  pub intent : fresh.intent ≡ is_fresh_intent held t a.intent
  pub object : fresh.object ≡ not (held t a.object a.mode)

-- those locks
abbrev pub fresh_in : Asks → Fresh → List Lock
fresh_in a fresh =
    cond fresh.intent (intents a.intent) [] ++ cond fresh.object (record { object = a.object; mode = a.mode } ∷ []) []

-- all are granted if nobody is in the way of any, with which are fresh; else the oldest that is in the way is younger
abbrev pub IsAsked : Held → ℕ → Asks → Asked → Held → Type 0
IsAsked old t a (Granted fresh) new =
    AreAllFree old t (locks_in a) × (new ≡ with_locks old t (locks_in a)) × MarksFresh old t a fresh
IsAsked old t a (Wait h) new = IsLeastBarOf old t (locks_in a) h × (t < h) × (new ≡ old)

-- the oldest that is in the way is older; or all would be granted, and not all were held before
abbrev pub IsRefused : Held → ℕ → Asks → Refusal → Type 0
IsRefused held t a (Die h) = IsLeastBarOf held t (locks_in a) h × (h < t)
IsRefused held t a NoMemory = AreAllFree held t (locks_in a) × (HoldsEach held t (locks_in a) → ⊥)
IsRefused held t a _ = ⊥
