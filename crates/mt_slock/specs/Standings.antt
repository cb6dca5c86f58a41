-- How locks stand that a transaction asks for, by the entries of a table.
use Rattle.std.specs.Prelude.{ℕ, ◌≡◌, true, false, not, List, Option, None, Some, MatchOption}
use Rattle.std.specs.Map.{lookup}
use Rattle.mt_base.specs.declared.modes.LockMode.{LockMode}
use Rattle.mt_base.specs.declared.modes.LockMode.TheVariants.{Intend}
use Rattle.mt_model.specs.declared.objects.Asks.{Asks}
use Rattle.mt_model.specs.declared.objects.Object.{Object}
use Rattle.mt_model.specs.declared.objects.Object.TheVariants.{Relation}
use Rattle.mt_model.specs.Model.{same_object}
use Rattle.mt_model.specs.Locks.{IsFree, IsLeastBar}
use Rattle.mt_slock.specs.Views.{held_of}
use Rattle.mt_slock.specs.declared.holders.Holder.{Holder}
use Rattle.mt_slock.specs.declared.standings.Standing.{Standing}
use Rattle.mt_slock.specs.declared.standings.Standings.{Standings}

-- how an object is held, for a transaction that asks for it in a mode: who is in the way, whether the transaction does
-- not hold it so, and whether nobody does
pub record Stands (es : List (Object × List Holder)) (t : ℕ) (x : Object) (m : LockMode) (s : Standing) : Type 0 where
  pub bar : MatchOption s.bar (IsFree (held_of es) t x m) (IsLeastBar (held_of es) t x m)
  pub fresh : s.fresh ≡ not (held_of es t x m)
  pub alone : s.alone ≡ true → lookup (same_object x) es ≡ None

-- a relation, for an intent; if there is none, nobody is in the way, and it is not fresh
abbrev pub StandsIntent : List (Object × List Holder) → ℕ → Option ℕ → Standing → Type 0
StandsIntent es t None s = (s.bar ≡ None) × (s.fresh ≡ false)
StandsIntent es t (Some r) s = Stands es t (Relation r) Intend s

-- both
pub record Stand (es : List (Object × List Holder)) (t : ℕ) (a : Asks) (s : Standings) : Type 0 where
  pub intent : StandsIntent es t a.intent s.intent
  pub object : Stands es t a.object a.mode s.object
