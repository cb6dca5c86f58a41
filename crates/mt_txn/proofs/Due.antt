-- Steps of a force until records of the log are durable.
use Rattle.std.proofs.Common.{◌≡◌, ◌≤◌, ◌<◌, ◌+◌, ◌⊎◌, inl, inr, suc, ℕ, List, ◌++◌, length, ap, ◌∙◌, arith, length-append}
use Rattle.std.proofs.lemmas.Bool.{cases_lt}
use Rattle.mt_frame.specs.declared.records.Record.{Record}
use Rattle.mt_log.specs.Words.{seen_of, durable, in_flight, waiting, appended, calls_left, calls_after, IsStep}
use Rattle.mt_log.specs.declared.log.Forced.TheVariants as log
use Rattle.mt_log.specs.declared.log.Log.{Log}
use Rattle.mt_log.specs.declared.stage.Step.TheVariants.{WriteBody, SyncBody, WriteGate, SyncGate}
use Rattle.mt_log.specs.declared.stage.Stage.{Stage}
use Rattle.mt_log.specs.declared.stage.Stage.TheVariants.{Idle, Forcing, Failed}
use Rattle.mt_txn.specs.Due.{IsDueIn}

pub all_of : (l : Log) → length (appended l) ≡ length (durable l) + (length (in_flight l) + length (waiting l))
all_of l = let a = length-append (durable l) (in_flight l ++ waiting l) in let b = length-append (in_flight l) (waiting l) in omega (arith, a, b)

few_calls : (stage : Stage) → calls_after stage ≤ 4
few_calls Idle = omega arith
few_calls (Forcing WriteBody) = omega arith
few_calls (Forcing SyncBody) = omega arith
few_calls (Forcing WriteGate) = omega arith
few_calls (Forcing SyncGate) = omega arith
few_calls Failed = omega arith

few_left : (l : Log) → calls_left l ≤ 4
few_left l = few_calls (seen_of l).stage

-- whatever is under way, eight steps do
pub due_start : (n : ℕ) (l : Log) → n ≤ length (appended l) → IsDueIn 8 n l
due_start n l logged = record { logged = logged; left = left (cases_lt 0 (calls_left l)) }
  where
    short : calls_left l ≤ 4
    short = few_left l

    left : (0 < calls_left l) ⊎ (calls_left l ≤ 0) → ((calls_left l ≡ 0) × (4 ≤ 8)) ⊎ (((0 < calls_left l) × (n ≤ length (durable l) + length (in_flight l)) × (calls_left l ≤ 8)) ⊎ ((0 < calls_left l) × (calls_left l + 4 ≤ 8)))
    left (inl some) = inr (inr (some, let few = short in omega (arith, few)))
    left (inr none) = inl (omega (arith, none), omega arith)

pub due_none : (n : ℕ) (l : Log) → length (durable l) < n → IsDueIn 0 n l → ⊥
due_none n l waits due = go due.left
  where
    go : ((calls_left l ≡ 0) × (4 ≤ 0)) ⊎ (((0 < calls_left l) × (n ≤ length (durable l) + length (in_flight l)) × (calls_left l ≤ 0)) ⊎ ((0 < calls_left l) × (calls_left l + 4 ≤ 0))) → ⊥
    go (inl x) = let e = x.1 in omega (arith, e)
    go (inr (inl x)) = let a = x.0 in let b = x.2 in omega (arith, a, b)
    go (inr (inr x)) = let a = x.1 in omega (arith, a)

-- a step that goes on leaves one less
pub due_more : (n rest : ℕ) (k l : Log) → IsDueIn (suc rest) n k → IsStep k log.More l → appended l ≡ appended k → IsDueIn rest n l
due_more n rest k l due step same = record { logged = logged; left = go due.left }
  where
    logged : n ≤ length (appended l)
    logged = let a = due.logged in let b : length (appended l) ≡ length (appended k) = ap (λ (rs : List Record). length rs) same in omega (arith, a, b)

    go : ((calls_left k ≡ 0) × (4 ≤ suc rest)) ⊎ (((0 < calls_left k) × (n ≤ length (durable k) + length (in_flight k)) × (calls_left k ≤ suc rest)) ⊎ ((0 < calls_left k) × (calls_left k + 4 ≤ suc rest)))
        → ((calls_left l ≡ 0) × (4 ≤ rest)) ⊎ (((0 < calls_left l) × (n ≤ length (durable l) + length (in_flight l)) × (calls_left l ≤ rest)) ⊎ ((0 < calls_left l) × (calls_left l + 4 ≤ rest)))
    go (inl x) =
        let s = step.1 x.0 in
        let none : length (waiting l) ≡ 0 = ap (λ (rs : List Record). length rs) s.1 in
        let all = all_of l in
        let l3 = s.2 in let few = x.1 in let within = logged in
        inr (inl (omega (arith, l3), omega (arith, none, all, within), omega (arith, l3, few)))
    go (inr (inl x)) =
        let s = step.2 x.0 in
        let flight : length (in_flight l) ≡ length (in_flight k) = ap (λ (rs : List Record). length rs) s.0 in
        let there : length (durable l) ≡ length (durable k) = ap (λ (rs : List Record). length rs) step.0 in
        let less = s.2 in let many = x.1 in let few = x.2 in
        inr (inl (s.3, omega (arith, flight, there, many), omega (arith, less, few)))
    go (inr (inr x)) =
        let s = step.2 x.0 in let less = s.2 in let few = x.1 in
        inr (inr (s.3, omega (arith, less, few)))

-- and so does one that makes durable what the record is not part of
pub due_settled : (n rest pos : ℕ) (k l : Log) → IsDueIn (suc rest) n k → IsStep k (log.Durable pos) l → appended l ≡ appended k → pos < n → IsDueIn rest n l
due_settled n rest pos k l due step same behind = record { logged = logged; left = inl (step.1, go due.left) }
  where
    logged : n ≤ length (appended l)
    logged = let a = due.logged in let b : length (appended l) ≡ length (appended k) = ap (λ (rs : List Record). length rs) same in omega (arith, a, b)

    go : ((calls_left k ≡ 0) × (4 ≤ suc rest)) ⊎ (((0 < calls_left k) × (n ≤ length (durable k) + length (in_flight k)) × (calls_left k ≤ suc rest)) ⊎ ((0 < calls_left k) × (calls_left k + 4 ≤ suc rest))) → 4 ≤ rest
    go (inl x) = let one = step.0 in let none = x.0 in omega (arith, one, none)
    go (inr (inl x)) =
        let long : length (durable l) ≡ length (durable k) + length (in_flight k) = ap (λ (rs : List Record). length rs) step.2 ∙ length-append (durable k) (in_flight k) in
        let place = step.6 in let many = x.1 in omega (arith, long, place, many, behind)
    go (inr (inr x)) = let one = step.0 in let few = x.1 in omega (arith, one, few)

-- there is something to force
pub due_idle : (n rest : ℕ) (k l : Log) → length (durable k) < n → IsDueIn rest n k → IsStep k log.Idle l → appended l ≡ appended k → ⊥
due_idle n rest k l waits due step same =
    let all = all_of l in
    let there : length (durable l) ≡ length (durable k) = ap (λ (rs : List Record). length rs) step.2 in
    let flight : length (in_flight l) ≡ 0 = ap (λ (rs : List Record). length rs) step.3 in
    let none : length (waiting l) ≡ 0 = ap (λ (rs : List Record). length rs) step.4 in
    let whole : length (appended l) ≡ length (appended k) = ap (λ (rs : List Record). length rs) same in
    let logged = due.logged in omega (arith, all, there, flight, none, whole, logged, waits)
