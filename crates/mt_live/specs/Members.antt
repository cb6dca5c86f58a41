-- A live transaction as contracts see it.
use Rattle.std.specs.Prelude.{ℕ, zero, suc, ◌++◌, ◌≡◌, ◌<◌, ◌&&◌, Bool, true, false, cond, List, [], ◌∷◌, Option, Some, None, map, take, is_some, slice_index_or}
use Rattle.std.specs.Option.{option_map}
use Rattle.mt_model.specs.declared.history.Committed.{Committed}
use Rattle.mt_model.specs.Model.{inverse_of}
use Rattle.mt_model.specs.History.{Call}
use Rattle.mt_model.specs.declared.operations.Op.{Op}
use Rattle.mt_model.specs.declared.operations.Reply.{Reply}
use Rattle.mt_live.specs.declared.transactions.Role.{Role}
use Rattle.mt_live.specs.declared.transactions.Role.TheVariants.{Stands, TakenBack, Back}
use Rattle.mt_live.specs.Entries.{is_standing, is_forward}
use Rattle.mt_live.specs.Roles.{settled_role, left_after}
use Rattle.mt_live.specs.declared.transactions.TxnState.{TxnState}
use Rattle.mt_live.specs.declared.transactions.TxnState.TheVariants.{Open}

-- a call with its role: whether it stands, was taken back, or takes back one before it
pub record Noted : Type 0 where
  pub op : Op
  pub reply : Reply
  pub role : Role

abbrev pub noted : Role → Call → Noted
noted r c = record { op = c.0; reply = c.1; role = r }

abbrev pub plain_call : Noted → Call
plain_call n = (n.op, n.reply)

-- a transaction's number, its session, what is made of it, what counts of its calls with the number of each one's
-- operation, and whether there is room for one more
pub record Member : Type 0 where
  pub number : ℕ
  pub session : ℕ
  pub state : TxnState
  pub calls : List Noted
  pub operations : List ℕ
  pub has_room : Bool

-- calls, each with its role
abbrev pub noted_calls : List Call → List Role → List Noted
noted_calls [] rs = []
noted_calls (c ∷ cs) [] = []
noted_calls (c ∷ cs) (r ∷ rs) = noted r c ∷ noted_calls cs rs

-- there are as many roles and numbers as calls, and room for one of each if there is room
pub record HasRoomFor (has_room : Bool) (calls calls_room roles roles_room operations operations_room : ℕ)
    : Type 0 where
  pub both : operations ≡ calls
  pub each : roles ≡ calls
  pub call : has_room ≡ true → calls < calls_room
  pub role : has_room ≡ true → roles < roles_room
  pub operation : has_room ≡ true → operations < operations_room

-- one that has just begun
abbrev pub fresh : ℕ → ℕ → Member
fresh number session =
    record { number = number; session = session; state = Open; calls = []; operations = []; has_room = false }

abbrev pub with_room : Member → Member
with_room m = record m { has_room = true }

-- a call more, of the operation of this number
abbrev pub with_noted : Member → ℕ → Noted → Member
with_noted m operation c =
    record m { calls = m.calls ++ c ∷ []; operations = m.operations ++ operation ∷ []; has_room = false }

-- one that stands
abbrev pub with_call : Member → ℕ → Call → Member
with_call m operation c = with_noted m operation (noted Stands c)

abbrev pub with_state : Member → TxnState → Member
with_state m state = record m { state = state }

-- with so many of its calls
abbrev pub cut_at : Member → ℕ → Member
cut_at m n = record m { calls = take n m.calls; operations = take n m.operations }

abbrev pub cut_to : Member → Option ℕ → Member
cut_to m None = m
cut_to m (Some n) = cut_at m n

abbrev pub committed_of : Member → Committed
committed_of m = record { session = m.session; calls = map plain_call m.calls }

-- the call stands and did something
abbrev pub has_inverse : Noted → Bool
has_inverse c = is_standing c.role && is_some (inverse_of c.op c.reply)

-- the number of the last call that stands and did something
abbrev pub later : Option ℕ → Bool → Option ℕ
later (Some n) here = Some (suc n)
later None here = cond here (Some 0) None

abbrev pub last_place : List Noted → Option ℕ
last_place [] = None
last_place (c ∷ cs) = later (last_place cs) (has_inverse c)

-- the transaction without its last call that stands and did something, and without those after it
abbrev pub taken_back : Member → Member
taken_back m = cut_to m (last_place m.calls)

-- calls, one of which has this role
abbrev pub set_role : List Noted → ℕ → Role → List Noted
set_role [] n r = []
set_role (c ∷ cs) zero r = record c { role = r } ∷ cs
set_role (c ∷ cs) (suc n) r = c ∷ set_role cs n r

-- the call of a number has this role
abbrev pub with_role_at : Member → ℕ → Role → Member
with_role_at m n r = record m { calls = set_role m.calls n r }

abbrev pub with_mark : Member → Option ℕ → Member
with_mark m None = m
with_mark m (Some n) = with_role_at m n TakenBack

-- the last call that stands and did something is taken back by one of the operation of this number
abbrev pub with_back : Member → ℕ → Call → Member
with_back m operation c = with_noted (with_mark m (last_place m.calls)) operation (noted Back c)

-- how many calls have a role that a test picks
abbrev pub count_noted : (Role → Bool) → List Noted → ℕ
count_noted p [] = 0
count_noted p (c ∷ cs) = cond (p c.role) (suc (count_noted p cs)) (count_noted p cs)

-- how many calls stand
abbrev pub standing_count : List Noted → ℕ
standing_count cs = count_noted is_standing cs

-- how many are no inverses
abbrev pub forward_count : List Noted → ℕ
forward_count cs = count_noted is_forward cs

-- the calls after the first so many that stand
abbrev pub noted_after : ℕ → List Noted → List Noted
noted_after n [] = []
noted_after zero (c ∷ cs) = c ∷ cs
noted_after (suc n) (c ∷ cs) = cond (is_standing c.role) (noted_after n cs) (noted_after (suc n) cs)

-- each call that stands, but for the first so many, is taken back
abbrev pub settle_calls : ℕ → List Noted → List Noted
settle_calls n [] = []
settle_calls n (c ∷ cs) = record c { role = settled_role n c.role } ∷ settle_calls (left_after n c.role) cs

abbrev pub settled_at : ℕ → Member → Member
settled_at n m = record m { calls = settle_calls n m.calls }

-- the number of the operation that this call was
abbrev pub operation_at : Member → Option ℕ → Option ℕ
operation_at m at = option_map (λ i. slice_index_or m.operations i 0) at

-- the number of the last operation that did something
abbrev pub last_operation : Option Member → Option ℕ
last_operation None = None
last_operation (Some m) = operation_at m (last_place m.calls)
