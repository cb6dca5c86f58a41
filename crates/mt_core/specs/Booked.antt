-- Commits that become durable together.
use Rattle.std.specs.Prelude.{ℕ, List, [], ◌∷◌, Option, Some, None, map, take, nat_lt}
use Rattle.std.specs.List.{position_or_len}
use Rattle.mt_live.specs.Machine.{State, booked}
use Rattle.mt_core.specs.declared.parts.Commit.{Commit}

abbrev pub or_zero : Option ℕ → ℕ
or_zero None = 0
or_zero (Some n) = n

-- the session of a transaction that lives
abbrev pub session_at : State → ℕ → ℕ
session_at s t = or_zero (s.sessions t)

-- the commits of these transactions are booked, one after the other
abbrev pub booked_each : State → List ℕ → State
booked_each s [] = s
booked_each s (t ∷ ts) = booked_each (booked s t (session_at s t)) ts

-- how many commits stand before the first whose record is after this place
abbrev pub durable_count : List Commit → ℕ → ℕ
durable_count cs place = position_or_len (λ (c : Commit). nat_lt place c.place) cs

abbrev pub txns_of : List Commit → List ℕ
txns_of cs = map (λ (c : Commit). c.txn) cs

-- the transactions whose records are in the log up to this place
abbrev pub durable_txns : List Commit → ℕ → List ℕ
durable_txns cs place = txns_of (take (durable_count cs place) cs)
