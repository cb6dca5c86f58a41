-- What contracts see of an escrow.
use Rattle.std.specs.Prelude.{ℕ, ℤ, ◌≡◌, ◌≢◌, ◌<◌, List, [], ◌∷◌, ◌++◌, length, slice_index_or, Contains}
use Rattle.mt_model.specs.declared.counters.Count.{Count}
use Rattle.mt_model.specs.declared.pending_add.Pending.{Pending}
use Rattle.mt_model.specs.Escrow.{IsAdmissible}
use Rattle.mt_model.specs.Pending.{steps_at}
use Rattle.mt_model.specs.Tables.{count_at}

-- the counters as they are committed; the pending adds in order of grant; and the adds that were taken back by a
-- transaction that goes on, in the order in which they were set aside
pub record Escrowed : Type 0 where
  pub committed : List Count
  pub pending : List Pending
  pub aside : List Pending

-- an add as it is pending
abbrev pub add_of : ℕ → ℕ → ℤ → Pending
add_of t c d = record { txn = t; counter = c; step = d }

-- what is pending, with one add more
abbrev pub with_add : Pending → Escrowed → Escrowed
with_add p e = record e { pending = e.pending ++ p ∷ [] }

-- the adds for which the bounds have to suffice: those set aside, and those pending
abbrev pub all_adds : Escrowed → List Pending
all_adds e = e.aside ++ e.pending

-- its counter stays in its bounds whichever of the granted adds are made, this one among them
abbrev pub CanStand : Escrowed → Pending → Type 0
CanStand e p = IsAdmissible (count_at e.committed p.counter) (steps_at p.counter (all_adds e ++ p ∷ []))

-- an add is among those set aside if it was pending
pub record JoinsAside (p : Pending) (old new : Escrowed) : Type 0 where
  pub last : Contains old.pending p → new.aside ≡ old.aside ++ p ∷ []
  pub none_there : (Contains old.pending p → ⊥) → new.aside ≡ old.aside

-- the list without the last of its adds that is this one; if none is, the list itself
pub record LosesLast (p : Pending) (old new : List Pending) : Type 0 where
  pub last : (front back : List Pending) → old ≡ front ++ p ∷ back → (Contains back p → ⊥) → new ≡ front ++ back
  pub none_there : (Contains old p → ⊥) → new ≡ old

-- the place of the last of its adds that is this one
pub record IsLastAdd (ps : List Pending) (p : Pending) (i : ℕ) : Type 0 where
  pub there : i < length ps
  pub is : slice_index_or ps i p ≡ p
  pub last : (k : ℕ) → i < k → k < length ps → slice_index_or ps k p ≢ p

-- each counter stays in its bounds whichever of its granted adds are made
abbrev pub AreAdmissible : Escrowed → Type 0
AreAdmissible e = (c : ℕ) → IsAdmissible (count_at e.committed c) (steps_at c (all_adds e))
