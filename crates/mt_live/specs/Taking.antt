-- How entries that were taken back and their inverses stand beside one another.
use Rattle.std.specs.Prelude.{ℕ, ℤ, pos, ◌+ℤ◌, ◌≤ℤ◌, ◌≡◌, Bool, true, false, List, [], ◌∷◌, Option, Some, None, filter, is_some}
use Rattle.mt_model.specs.declared.pending_add.Pending.{Pending}
use Rattle.mt_model.specs.Escrow.{below, above, lowest, highest}
use Rattle.mt_model.specs.Model.{inverse_of}
use Rattle.mt_model.specs.Pending.{steps_at}
use Rattle.mt_live.specs.declared.transactions.Role.{Role}
use Rattle.mt_live.specs.declared.transactions.Role.TheVariants.{Stands, TakenBack, Back}
use Rattle.mt_live.specs.Adds.{op_step}
use Rattle.mt_live.specs.Entries.{Entry, kept}

-- ---- at one counter

-- what a step adds to the steps up that were taken back and are in the counter still
abbrev pub up_by : Role → Option ℤ → ℤ
up_by r None = pos 0
up_by Stands (Some d) = pos 0
up_by TakenBack (Some d) = above d
up_by Back (Some d) = below d

-- and to the steps down
abbrev pub down_by : Role → Option ℤ → ℤ
down_by r None = pos 0
down_by Stands (Some d) = pos 0
down_by TakenBack (Some d) = below d
down_by Back (Some d) = above d

-- from so much on: no beginning takes back more than was taken back before it, neither up nor down, and in the end all
-- of it is out of the counter
abbrev pub Ballot : ℕ → ℤ → ℤ → List Entry → Type 0
Ballot c u d [] = (u ≡ pos 0) × (d ≡ pos 0)
Ballot c u d (e ∷ es) =
    (pos 0 ≤ℤ u) × (d ≤ℤ pos 0)
    × Ballot c (u +ℤ up_by e.role (op_step c e.op)) (d +ℤ down_by e.role (op_step c e.op)) es

-- whichever transactions are taken
abbrev pub IsBallot : ℕ → List Entry → Type 0
IsBallot c es = (p : ℕ → Bool) → Ballot c (pos 0) (pos 0) (kept p es)

-- ---- one transaction

-- an inverse takes back the last of those that are due
abbrev pub TakesLast : Entry → List Entry → (List Entry → Type 0) → Type 0
TakesLast e [] rest = ⊥
TakesLast e (f ∷ due) rest = (inverse_of f.op f.reply ≡ Some e.op) × rest due

-- what an entry does to those that were taken back and whose inverse is still to come. One that stands and did
-- something comes when none is due; what did nothing comes at any time
abbrev pub Turns : Role → Bool → Entry → List Entry → (List Entry → Type 0) → Type 0
Turns Stands true e due rest = (due ≡ []) × rest []
Turns Stands false e due rest = rest due
Turns TakenBack true e due rest = rest (e ∷ due)
Turns TakenBack false e due rest = rest due
Turns Back did e due rest = TakesLast e due rest

abbrev pub did_something : Entry → Bool
did_something e = is_some (inverse_of e.op e.reply)

-- one transaction's entries, from those that are due: in the end none is
abbrev pub Nests : List Entry → List Entry → Type 0
Nests [] due = due ≡ []
Nests (e ∷ es) due = Turns e.role (did_something e) e due (λ left. Nests es left)

-- ---- what escrow keeps of them

-- one list of steps goes as far down and up as another
pub record Wider (xs ys : List ℤ) : Type 0 where
  pub lows : lowest xs ≤ℤ lowest ys
  pub highs : highest ys ≤ℤ highest xs

abbrev pub pending_in : (ℕ → Bool) → List Pending → List Pending
pending_in p ps = filter (λ (q : Pending). p q.txn) ps

-- of whichever transactions, and at each counter, the adds set aside go as far as those that inverses took back
abbrev pub AreAside : List Pending → List Pending → Type 0
AreAside aside backs =
    (p : ℕ → Bool) (c : ℕ) → Wider (steps_at c (pending_in p aside)) (steps_at c (pending_in p backs))
