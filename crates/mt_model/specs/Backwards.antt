-- Calls taken back, the last one first, and what is left of a transaction then.
use Rattle.std.specs.Prelude.{ℕ, List, [], ◌∷◌, ◌++◌, drop, take, Option}
use Rattle.std.specs.Option.{option_map, option_to_list}
use Rattle.mt_model.specs.declared.operations.Op.{Op}
use Rattle.mt_model.specs.declared.operations.Op.TheVariants.{Get, Insert, Update, Delete, Add, Read, Scan}
use Rattle.mt_model.specs.declared.operations.Reply.{Reply}
use Rattle.mt_model.specs.declared.operations.Reply.TheVariants.{Done, Was}
use Rattle.mt_model.specs.Model.{inverse_of}
use Rattle.mt_model.specs.History.{Call}

-- what the inverse of an operation replies, if it has one
abbrev pub inverse_reply : Op → Reply
inverse_reply (Insert r k v) = Was v
inverse_reply (Update r k v) = Was v
inverse_reply (Delete r k) = Done
inverse_reply (Add c d) = Done
inverse_reply (Get r k) = Done
inverse_reply (Read c) = Done
inverse_reply (Scan r) = Done

-- the inverse of a call together with the reply that it will give, if the call did anything
abbrev pub call_back : Call → Option Call
call_back c = option_map (λ (i : Op). (i, inverse_reply c.0)) (inverse_of c.0 c.1)

-- the inverses of calls, of the last call first
abbrev pub calls_back : List Call → List Call
calls_back [] = []
calls_back (c ∷ cs) = calls_back cs ++ option_to_list (call_back c)

-- the calls of a transaction that is open, in their order, and those of them that count: which were not taken back, and
-- took none back
pub record OpenCalls : Type 0 where
  pub all : List Call
  pub counted : List Call

-- no call yet, and one more, which counts
abbrev pub no_calls : OpenCalls
no_calls = record { all = []; counted = [] }

abbrev pub with_one : OpenCalls → Call → OpenCalls
with_one calls c = record { all = calls.all ++ c ∷ []; counted = calls.counted ++ c ∷ [] }

-- The calls once the transaction went back to the first so many that count. The inverses of the others are calls then,
-- the last one's first.
abbrev pub back_to : OpenCalls → ℕ → OpenCalls
back_to calls first =
    record { all = calls.all ++ calls_back (drop first calls.counted); counted = take first calls.counted }
