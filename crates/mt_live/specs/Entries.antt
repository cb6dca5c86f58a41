-- The operations of live transactions that count, and what explains them.
use Rattle.std.specs.Prelude.{ℕ, ◌≡◌, Bool, true, false, not, List, filter, map}
use Rattle.mt_model.specs.declared.operations.Op.{Op}
use Rattle.mt_model.specs.declared.operations.Reply.{Reply}
use Rattle.mt_model.specs.Model.{Base}
use Rattle.mt_model.specs.History.{Call, run, IsActed}
use Rattle.mt_live.specs.declared.transactions.Role.{Role}
use Rattle.mt_live.specs.declared.transactions.Role.TheVariants.{Stands, TakenBack, Back}

-- an operation that ended, whose it was, what it replied, and whether it stands, was taken back by its transaction, or
-- takes back one before it
pub record Entry : Type 0 where
  pub txn : ℕ
  pub op : Op
  pub reply : Reply
  pub role : Role

-- the entry with another role
abbrev pub with_role : Role → Entry → Entry
with_role r e = record e { role = r }

abbrev pub is_standing : Role → Bool
is_standing Stands = true
is_standing TakenBack = false
is_standing Back = false

-- it is no inverse
abbrev pub is_forward : Role → Bool
is_forward Stands = true
is_forward TakenBack = true
is_forward Back = false

-- the calls, whoever made them
abbrev pub calls : List Entry → List Call
calls es = map (λ (e : Entry). (e.op, e.reply)) es

-- the base that the entries leave, one after the other
abbrev pub runs : Base → List Entry → Base
runs b es = run b (calls es)

-- each entry has the reply that the model gives on the base that those before it leave
abbrev pub AreActed : Base → List Entry → Type 0
AreActed b es = IsActed b (calls es)

-- the entries of the transactions that a test picks, in their order
abbrev pub kept : (ℕ → Bool) → List Entry → List Entry
kept p es = filter (λ (e : Entry). p e.txn) es

-- the entries without the transactions of a set
abbrev pub struck : (ℕ → Bool) → List Entry → List Entry
struck s es = kept (λ t. not (s t)) es

-- whichever transactions are struck out, the rest has the replies that the model gives; and with
-- nobody struck out the entries leave this base
pub record IsExplained (b : Base) (standing : List Entry) (held : Base) : Type 0 where
  pub whichever : (s : ℕ → Bool) → AreActed b (struck s standing)
  pub all : runs b standing ≡ held
