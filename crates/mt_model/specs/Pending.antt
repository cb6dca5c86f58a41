-- The adds that are pending, in the order in which they were granted, each counted singly.
use Rattle.std.specs.Prelude.{ℕ, ℤ, ◌≡◌, ◌≢◌, ◌==◌, cond, not, List, [], ◌∷◌, ◌++◌, filter}
use Rattle.mt_model.specs.declared.pending_add.Pending.{Pending}
use Rattle.mt_model.specs.Model.{moved}
use Rattle.mt_model.specs.Escrow.{total}
use Rattle.mt_model.specs.declared.counters.Count.{Count}

-- the steps at one counter
abbrev pub steps_at : ℕ → List Pending → List ℤ
steps_at c [] = []
steps_at c (p ∷ ps) = cond (p.counter == c) (p.step ∷ steps_at c ps) (steps_at c ps)

-- one transaction's, and the others'
abbrev pub pending_of : ℕ → List Pending → List Pending
pending_of t ps = filter (λ (p : Pending). p.txn == t) ps

abbrev pub pending_without : ℕ → List Pending → List Pending
pending_without t ps = filter (λ (p : Pending). not (p.txn == t)) ps

-- a counter, moved by all that a transaction added to it
abbrev pub moved_by : ℕ → ℕ → List Pending → Count → Count
moved_by t c ps n = moved n (total (steps_at c (pending_of t ps)))

-- a list without the last of a transaction's adds that is this one; the order of the others stays
pub record TakesOut (p : Pending) (old new : List Pending) : Type 0 where
  pub its : (front : List Pending) → pending_of p.txn old ≡ front ++ p ∷ [] → pending_of p.txn new ≡ front
  pub apart : (u : ℕ) → u ≢ p.txn → pending_of u new ≡ pending_of u old
