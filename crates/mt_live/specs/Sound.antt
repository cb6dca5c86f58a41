-- What locks and escrow keep of the entries that stand.
use Rattle.std.specs.Prelude.{ℕ, ◌≡◌, List, [], ◌∷◌, ⊤}
use Rattle.mt_base.specs.declared.modes.LockMode.TheVariants as mode
use Rattle.mt_model.specs.declared.operations.Reply.TheVariants.{Done}
use Rattle.mt_model.specs.Model.{Base, mode_of, locks_of}
use Rattle.mt_model.specs.Escrow.{HasRoom}
use Rattle.mt_model.specs.Locks.{Held, HoldsEach}
use Rattle.mt_live.specs.Entries.{Entry, AreActed, kept}
use Rattle.mt_live.specs.Adds.{forward_at}
use Rattle.mt_live.specs.Taking.{IsBallot, Nests}
use Rattle.mt_live.specs.Undoing.{only}

-- P holds of each element
abbrev pub Each : {A : Type 0} → (A → Type 0) → List A → Type 0
Each P [] = ⊤
Each P (x ∷ xs) = P x × Each P xs

-- the entry's transaction holds each lock that its operation asked for
abbrev pub IsLocked : Held → Entry → Type 0
IsLocked held e = HoldsEach held e.txn (locks_of e.op)

-- if the entry is an add, it was done
abbrev pub IsDone : Entry → Type 0
IsDone e = mode_of e.op ≡ mode.Add → e.reply ≡ Done

-- the entries have the replies that the model gives, their locks are held, and their adds were done; each counter has
-- room for whichever of the adds, those taken back among them; at each counter no more is taken back than was taken
-- back before; and each transaction's inverses take back its entries from the last one on
pub record IsSound (held : Held) (b : Base) (standing : List Entry) : Type 0 where
  pub acted : AreActed b standing
  pub locked : Each (IsLocked held) standing
  pub done : Each IsDone standing
  pub room : (c : ℕ) → HasRoom (b.counts c) (forward_at c standing)
  pub ballot : (c : ℕ) → IsBallot c standing
  pub nested : (t : ℕ) → Nests (kept (only t) standing) []
