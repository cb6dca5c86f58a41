-- Operations one after the other, and transactions one after the other.
use Rattle.std.specs.Prelude.{◌≡◌, List, [], ◌∷◌, map, ⊤}
use Rattle.mt_model.specs.declared.operations.Op.{Op}
use Rattle.mt_model.specs.declared.operations.Reply.{Reply}
use Rattle.mt_model.specs.declared.history.Committed.{Committed}
use Rattle.mt_model.specs.Model.{Base, reply_of, base_after}

-- an operation with its reply
abbrev pub Call : Type 0
Call = Op × Reply

-- the last base and the replies of operations that act alone, one after the other
abbrev pub alone : Base → List Op → Base × List Reply
alone b [] = (b, [])
alone b (op ∷ ops) = ((alone (base_after b op) ops).0, reply_of b op ∷ (alone (base_after b op) ops).1)

-- the base that calls leave
abbrev pub run : Base → List Call → Base
run b [] = b
run b (c ∷ cs) = run (base_after b c.0) cs

-- each call has the reply that its operation gives on the base that those before it leave
abbrev pub IsActed : Base → List Call → Type 0
IsActed b [] = ⊤
IsActed b (c ∷ cs) = (reply_of b c.0 ≡ c.1) × IsActed (base_after b c.0) cs

abbrev pub ops_of : List Call → List Op
ops_of cs = map (λ (c : Call). c.0) cs

abbrev pub replies_of : List Call → List Reply
replies_of cs = map (λ (c : Call). c.1) cs

-- the base that transactions leave, one after the other
abbrev pub after : Base → List Committed → Base
after b [] = b
after b (c ∷ cs) = after (run b c.calls) cs

-- each transaction has the replies that its operations give alone, on the base that those before it
-- leave
abbrev pub IsLegal : Base → List Committed → Type 0
IsLegal b [] = ⊤
IsLegal b (c ∷ cs) = IsActed b c.calls × IsLegal (run b c.calls) cs
