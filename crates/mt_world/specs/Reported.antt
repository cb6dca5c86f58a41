-- What events and their answers say of a transaction, and which commits they acknowledge.
use Rattle.std.specs.Prelude.{ℕ, ◌==◌, cond, List, [], ◌∷◌, ◌++◌, drop, map, take, Option, Some, None}
use Rattle.mt_core.specs.declared.calls.Called.TheVariants as call
use Rattle.mt_model.specs.Backwards.{OpenCalls, back_to}
use Rattle.mt_model.specs.History.{Call as Replied}
use Rattle.mt_model.specs.declared.history.Committed.{Committed}
use Rattle.mt_model.specs.declared.operations.Op.{Op}
use Rattle.mt_model.specs.declared.operations.Reply.{Reply}
use Rattle.mt_txn.specs.declared.answers.AbortStepped.TheVariants as abort
use Rattle.mt_txn.specs.declared.answers.KernelForced.TheVariants as forced
use Rattle.mt_txn.specs.declared.answers.Stepped.TheVariants as step
use Rattle.mt_world.specs.declared.events.Answer.{Answer}
use Rattle.mt_world.specs.declared.events.Answer.TheVariants.{Begun, Called, Stepped, Committing, Returning, Returned, Forced}
use Rattle.mt_world.specs.declared.events.Event.{Event}
use Rattle.mt_world.specs.declared.events.Event.TheVariants.{Begin, Call, Step, Commit, Back, BackStep}

-- Whose it is, and what was last reported to it as started. The operations that it had a reply to, with the inverses
-- of those that it took back; those of them that count; and how many it was last to go back to.
pub record Reported : Type 0 where
  pub session : ℕ
  pub started : Option Op
  pub calls : List Replied
  pub counting : List Replied
  pub first : ℕ

abbrev pub begun_by : ℕ → Reported
begun_by session = record { session = session; started = None; calls = []; counting = []; first = 0 }

abbrev pub nothing_reported : Reported
nothing_reported = begun_by 0

abbrev pub replied : Option Op → Reply → List Replied
replied None reply = []
replied (Some op) reply = (op, reply) ∷ []

-- one more reply
abbrev pub with_reply : Reported → Reply → Reported
with_reply so_far reply = record so_far {
  started = None;
  calls = so_far.calls ++ replied so_far.started reply;
  counting = so_far.counting ++ replied so_far.started reply;
}

-- It has gone back to the first so many. An inverse finds what its operation left, so its reply is known.
abbrev pub reported_calls : Reported → OpenCalls
reported_calls so_far = record { all = so_far.calls; counted = so_far.counting }

abbrev pub gone_back : Reported → Reported
gone_back so_far = record so_far {
  calls = (back_to (reported_calls so_far) so_far.first).all;
  counting = (back_to (reported_calls so_far) so_far.first).counted;
}

-- what one more event with its answer says of transaction t
abbrev pub with_answer : ℕ → Reported → Event → Answer → Reported
with_answer t so_far (Begin session) (Begun u) = cond (t == u) (begun_by session) so_far
with_answer t so_far (Call u op) (Called call.Started) = cond (t == u) (record so_far { started = Some op }) so_far
with_answer t so_far (Step u) (Stepped (step.Replied reply)) = cond (t == u) (with_reply so_far reply) so_far
with_answer t so_far (Back u first) Returning = cond (t == u) (record so_far { first = first }) so_far
with_answer t so_far (BackStep u) (Returned abort.Ended) = cond (t == u) (gone_back so_far) so_far
with_answer t so_far event answer = so_far

-- and what all of them do, one after the other
abbrev pub reported_from : ℕ → Reported → List Event → List Answer → Reported
reported_from t so_far [] answers = so_far
reported_from t so_far (event ∷ events) [] = so_far
reported_from t so_far (event ∷ events) (answer ∷ answers) =
    reported_from t (with_answer t so_far event answer) events answers

abbrev pub reported_of : List Event → List Answer → ℕ → Reported
reported_of events answers t = reported_from t nothing_reported events answers

-- its session, with the operations that it had a reply to, and the inverses of those that it took back
abbrev pub commit_of : Reported → Committed
commit_of reported = record { session = reported.session; calls = reported.calls }

-- the transactions whose commits an answer names durable
abbrev pub named : Answer → List ℕ
named (Forced (forced.Durable names)) = names.items
named answer = []

-- the acknowledged commits, in the order in which they were
abbrev pub acknowledged : List Answer → List ℕ
acknowledged [] = []
acknowledged (answer ∷ answers) = named answer ++ acknowledged answers

-- the transaction whose commit an event begins, if it does
abbrev pub started_by : Event → Answer → List ℕ
started_by (Commit t) (Committing place) = t ∷ []
started_by event answer = []

-- the commits that have begun, in the order in which they did
abbrev pub committing : List Event → List Answer → List ℕ
committing [] answers = []
committing (event ∷ events) [] = []
committing (event ∷ events) (answer ∷ answers) = started_by event answer ++ committing events answers

-- these commits: each session's, with the operations that it had a reply to, and its inverses
abbrev pub commit_order : List Event → List Answer → List Committed
commit_order events answers = map (λ t. commit_of (reported_of events answers t)) (committing events answers)
