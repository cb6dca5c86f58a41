-- What a log is seen as, and what is said of it.
use Rattle.std.specs.Prelude.{ℕ, ◌+◌, ◌-◌, ◌*◌, Bool, true, false, List, [], ◌∷◌, ◌++◌, length}
use Rattle.mt_frame.specs.declared.records.Record.{Record}
use Rattle.mt_frame.specs.Grammar.{body_text}
use Rattle.mt_log.specs.Area.{Area, ScansWithOrWithout, gate_behind}
use Rattle.mt_log.specs.declared.area.AreaPlace.{AreaPlace}
use Rattle.mt_log.specs.declared.stage.Step.TheVariants.{WriteBody, SyncBody, WriteGate, SyncGate}
use Rattle.mt_log.specs.declared.stage.Stage.{Stage}
use Rattle.mt_log.specs.declared.stage.Stage.TheVariants.{Idle, Forcing, Failed}

-- A log's area lies from `start` to `end`. In it stand the durable batches, the first one too, up to the gate of the
-- next one. If a force is under way, one batch is in flight, and the records that wait are for the batch after it.
pub record LogSeen : Type 0 where
  pub start : ℕ
  pub end : ℕ
  pub gate : ℕ
  pub batches : List (List Record)
  pub flight : List Record
  pub waits : List Record
  pub stage : Stage

-- bytes of the area in use; each record that waits counts a head of its own
unfoldable pub bytes_in : LogSeen → ℕ
bytes_in it = (gate_behind it.stage it.gate it.flight - it.start) + 5 * length it.waits + length (body_text it.waits)

abbrev pub calls_after : Stage → ℕ
calls_after Idle = 0
calls_after (Forcing WriteBody) = 4
calls_after (Forcing SyncBody) = 3
calls_after (Forcing WriteGate) = 2
calls_after (Forcing SyncGate) = 1
calls_after Failed = 0

abbrev pub is_failed : Stage → Bool
is_failed Idle = false
is_failed (Forcing step) = false
is_failed Failed = true

-- the batch that is being forced, or the one that a force would write
abbrev pub batch_of : Stage → List Record → List Record → List Record
batch_of Idle waiting in_flight = waiting
batch_of (Forcing step) waiting in_flight = in_flight
batch_of Failed waiting in_flight = in_flight

abbrev pub coming_in : LogSeen → List Record
coming_in it = batch_of it.stage it.waits it.flight

-- no force has anything to do
abbrev pub is_still_at : Stage → List Record → Bool
is_still_at Idle [] = true
is_still_at Idle (x ∷ waits) = false
is_still_at (Forcing step) waits = false
is_still_at Failed waits = true

abbrev pub is_still : LogSeen → Bool
is_still it = is_still_at it.stage it.waits

-- ---- what a call makes of it

-- the log of an area that has nothing but its first batch, with no record in it
abbrev pub new_log : AreaPlace → LogSeen
new_log place = record {
  start = place.start;
  end = place.end;
  gate = place.start + 5;
  batches = [] ∷ [];
  flight = [];
  waits = [];
  stage = Idle;
}

-- the log of an area with no batch yet, of which these records are about to be forced as the first one
abbrev pub first_log : AreaPlace → List Record → LogSeen
first_log place records = record {
  start = place.start;
  end = place.end;
  gate = place.start;
  batches = [];
  flight = records;
  waits = [];
  stage = Forcing WriteBody;
}

-- these records wait, too
abbrev pub with_records : LogSeen → List Record → LogSeen
with_records it records = record it { waits = it.waits ++ records }

abbrev pub with_record : LogSeen → Record → LogSeen
with_record it entry = with_records it (entry ∷ [])

-- if no batch is in flight, the records that wait become one
abbrev pub left_waiting : Stage → List Record → List Record
left_waiting Idle waits = []
left_waiting (Forcing step) waits = waits
left_waiting Failed waits = waits

abbrev pub begun_stage : Stage → Stage
begun_stage Idle = Forcing WriteBody
begun_stage (Forcing step) = Forcing step
begun_stage Failed = Failed

abbrev pub begun : LogSeen → LogSeen
begun it = record it { flight = coming_in it; waits = left_waiting it.stage it.waits; stage = begun_stage it.stage }

-- the batch in flight is durable
abbrev pub landed : LogSeen → LogSeen
landed it = record it {
  gate = it.gate + 5 + length (body_text it.flight);
  batches = it.batches ++ it.flight ∷ [];
  flight = [];
  stage = Idle;
}

-- ---- on a device

-- whatever a crash leaves, the area has the durable batches, with the one that comes or without
abbrev pub HasItsBatches : LogSeen → List ℕ → Type 0
HasItsBatches it c = ScansWithOrWithout it.start it.end it.batches (coming_in it) c

abbrev pub AreaIn : List ℕ → (List ℕ → Type 0) → LogSeen → Type 0
AreaIn seen may_leave it = Area seen may_leave it.start it.end it.gate it.batches it.flight it.stage
