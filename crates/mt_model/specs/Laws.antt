-- What holds of the model: the statements of its laws.
use Rattle.std.specs.Prelude.{ℤ, ◌≡◌, ◌≢◌, ◌⊎◌, ◌↔◌, ◌++◌, true, List, Some, None, All}
use Rattle.mt_base.specs.Modes.{granted_together}
use Rattle.mt_model.specs.declared.counters.Count.{Count}
use Rattle.mt_model.specs.declared.objects.Lock.{Lock}
use Rattle.mt_model.specs.declared.operations.Op.{Op}
use Rattle.mt_model.specs.declared.operations.Reply.{Reply}
use Rattle.mt_model.specs.declared.operations.Reply.TheVariants.{OutOfBounds}
use Rattle.mt_model.specs.declared.history.Committed.{Committed}
use Rattle.mt_model.specs.Model.{Base, IsBase, asks_of, locks_of, reply_of, base_after, inverse_of}
use Rattle.mt_model.specs.Escrow.{IsAdmissible, HasRoom}
use Rattle.mt_model.specs.History.{Call, alone, run, IsActed, ops_of, replies_of, after, IsLegal}
use Rattle.mt_model.specs.Backwards.{calls_back}

-- both orders give the same two replies and the same base
pub record DoCommute (b : Base) (f g : Op) : Type 0 where
  pub first : reply_of b f ≡ reply_of (base_after b g) f
  pub second : reply_of b g ≡ reply_of (base_after b f) g
  pub base : base_after (base_after b f) g ≡ base_after (base_after b g) f

-- in this order neither of the two leaves a counter's bounds
pub record StaysIn (b : Base) (f g : Op) : Type 0 where
  pub first : reply_of b f ≢ OutOfBounds
  pub second : reply_of (base_after b f) g ≢ OutOfBounds

-- two locks are on different objects, or in modes that are granted together
abbrev pub AreCompatible : Lock → Lock → Type 0
AreCompatible l m = (l.object ≢ m.object) ⊎ (granted_together l.mode m.mode ≡ true)

-- two transactions may hold the locks of both operations
abbrev pub AreFree : Op → Op → Type 0
AreFree f g = All (λ l. All (AreCompatible l) (locks_of g)) (locks_of f)

-- ---- the laws

abbrev pub OperationsCommute : Type 0
OperationsCommute = (b : Base) (f g : Op) → AreFree f g → StaysIn b f g → StaysIn b g f → DoCommute b f g

-- what has an inverse is taken back by it
abbrev pub InversesTakeBack : Type 0
InversesTakeBack =
    (b : Base) (op i : Op) → IsBase b → inverse_of op (reply_of b op) ≡ Some i → base_after (base_after b op) i ≡ b

-- and what has none left the base as it was
abbrev pub NoInverseNoEffect : Type 0
NoInverseNoEffect = (b : Base) (op : Op) → inverse_of op (reply_of b op) ≡ None → base_after b op ≡ b

-- an inverse is on the same object, and asks for no other lock
abbrev pub InversesAskTheSame : Type 0
InversesAskTheSame = (op i : Op) (reply : Reply) → inverse_of op reply ≡ Some i → asks_of i ≡ asks_of op

-- counters stay in their bounds
abbrev pub BoundsAreKept : Type 0
BoundsAreKept = (b : Base) (op : Op) → IsBase b → IsBase (base_after b op)

abbrev pub TwoNumbersDecide : Type 0
TwoNumbersDecide = (n : Count) (ds : List ℤ) → HasRoom n ds ↔ IsAdmissible n ds

-- alone over a list after another: the replies of the first, then those from the base that it leaves
abbrev pub RepliesAppend : Type 0
RepliesAppend =
    (b : Base) (xs ys : List Op)
    → alone b (xs ++ ys) ≡ ((alone (alone b xs).0 ys).0, (alone b xs).1 ++ (alone (alone b xs).0 ys).1)

-- calls are acted if and only if their replies are those of their operations alone
abbrev pub ActedIsAlone : Type 0
ActedIsAlone = (b : Base) (cs : List Call) → IsActed b cs ↔ ((alone b (ops_of cs)).1 ≡ replies_of cs)

-- and they leave the same base
abbrev pub RunIsAlone : Type 0
RunIsAlone = (b : Base) (cs : List Call) → run b cs ≡ (alone b (ops_of cs)).0

abbrev pub LegalAppends : Type 0
LegalAppends = (b : Base) (cs ds : List Committed) → IsLegal b (cs ++ ds) ↔ (IsLegal b cs × IsLegal (after b cs) ds)

abbrev pub AfterAppends : Type 0
AfterAppends = (b : Base) (cs ds : List Committed) → after b (cs ++ ds) ≡ after (after b cs) ds

-- calls, and then their inverses with the last one's first, are acted and leave the base
abbrev pub CallsGoBack : Type 0
CallsGoBack =
    (b : Base) (cs : List Call) → IsBase b → IsActed b cs
    → IsActed b (cs ++ calls_back cs) × (run b (cs ++ calls_back cs) ≡ b)
