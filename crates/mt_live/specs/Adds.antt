-- The adds among entries, those taken back, and what escrow takes out with one.
use Rattle.std.specs.Prelude.{ℕ, ℤ, neg_ℤ, ◌≡◌, ◌==◌, cond, List, [], ◌∷◌, Option, Some, None}
use Rattle.mt_model.specs.declared.operations.Op.{Op}
use Rattle.mt_model.specs.declared.operations.Op.TheVariants.{Get, Insert, Update, Delete, Add, Read, Scan}
use Rattle.mt_model.specs.declared.pending_add.Pending.{Pending}
use Rattle.mt_model.specs.Pending.{TakesOut}
use Rattle.mt_live.specs.declared.transactions.Role.{Role}
use Rattle.mt_live.specs.declared.transactions.Role.TheVariants.{Stands, TakenBack, Back}
use Rattle.mt_live.specs.Entries.{Entry}

-- a transaction's operation before others, if it is an add
abbrev pub add_before : ℕ → Op → List Pending → List Pending
add_before t (Add c d) ps = record { txn = t; counter = c; step = d } ∷ ps
add_before t (Get r k) ps = ps
add_before t (Insert r k v) ps = ps
add_before t (Update r k v) ps = ps
add_before t (Delete r k) ps = ps
add_before t (Read c) ps = ps
add_before t (Scan r) ps = ps

-- an add that stands, before others
abbrev pub standing_before : Role → ℕ → Op → List Pending → List Pending
standing_before Stands t op ps = add_before t op ps
standing_before TakenBack t op ps = ps
standing_before Back t op ps = ps

-- the adds that stand among entries, in their order
abbrev pub adds : List Entry → List Pending
adds [] = []
adds (e ∷ es) = standing_before e.role e.txn e.op (adds es)

-- the add that an inverse took back
abbrev pub opposite_before : ℕ → Op → List Pending → List Pending
opposite_before t (Add c d) ps = record { txn = t; counter = c; step = neg_ℤ d } ∷ ps
opposite_before t (Get r k) ps = ps
opposite_before t (Insert r k v) ps = ps
opposite_before t (Update r k v) ps = ps
opposite_before t (Delete r k) ps = ps
opposite_before t (Read c) ps = ps
opposite_before t (Scan r) ps = ps

abbrev pub back_before : Role → ℕ → Op → List Pending → List Pending
back_before Stands t op ps = ps
back_before TakenBack t op ps = ps
back_before Back t op ps = opposite_before t op ps

-- the adds that inverses among entries took back, in the order of the inverses
abbrev pub backs : List Entry → List Pending
backs [] = []
backs (e ∷ es) = back_before e.role e.txn e.op (backs es)

-- the step of an operation at one counter, if it is an add there
abbrev pub op_step : ℕ → Op → Option ℤ
op_step c (Add n d) = cond (n == c) (Some d) None
op_step c (Get r k) = None
op_step c (Insert r k v) = None
op_step c (Update r k v) = None
op_step c (Delete r k) = None
op_step c (Read n) = None
op_step c (Scan r) = None

abbrev pub step_before : Option ℤ → List ℤ → List ℤ
step_before None ds = ds
step_before (Some d) ds = d ∷ ds

-- a step for which there has to be room: an inverse needs none
abbrev pub forward_before : Role → Option ℤ → List ℤ → List ℤ
forward_before Stands x ds = step_before x ds
forward_before TakenBack x ds = step_before x ds
forward_before Back x ds = ds

-- the steps at one counter of all entries but the inverses
abbrev pub forward_at : ℕ → List Entry → List ℤ
forward_at c [] = []
forward_at c (e ∷ es) = forward_before e.role (op_step c e.op) (forward_at c es)

-- the add of an operation that has not ended, if there is one
abbrev pub add_of : ℕ → Option Op → List Pending
add_of t None = []
add_of t (Some op) = add_before t op []

-- the adds that are pending without the operation's, if it is an add
abbrev pub GivesBack : ℕ → Op → List Pending → List Pending → Type 0
GivesBack t (Add c d) old new = TakesOut (record { txn = t; counter = c; step = d }) old new
GivesBack t (Get r k) old new = new ≡ old
GivesBack t (Insert r k v) old new = new ≡ old
GivesBack t (Update r k v) old new = new ≡ old
GivesBack t (Delete r k) old new = new ≡ old
GivesBack t (Read c) old new = new ≡ old
GivesBack t (Scan r) old new = new ≡ old
