-- What a log shows, as functions of what it is seen as.
use Rattle.std.specs.Prelude.{ℕ, ◌≡◌, ◌⊎◌, ◌<◌, ◌+◌, ◌-◌, Bool, true, false, List, [], ◌∷◌, ◌++◌, length, map, vec_len, vec_capacity}
use Rattle.mt_disk.specs.declared.device.Device.{Ghosts}
use Rattle.mt_frame.specs.declared.records.Record.{Record}
use Rattle.mt_log.specs.Batch.{joined}
use Rattle.mt_log.specs.Area.{Area}
pub use Rattle.mt_log.specs.Seen.{LogSeen, calls_after, is_failed, batch_of}
use Rattle.mt_log.specs.Seen.{AreaIn, bytes_in, coming_in}
use Rattle.mt_log.specs.declared.stage.Stage.{Stage}
use Rattle.mt_log.specs.declared.log.Log.{Log}
use Rattle.mt_log.specs.declared.log.Forced.{Forced}
use Rattle.mt_log.specs.declared.log.Forced.TheVariants.{More, Durable, Idle as Nothing}

unfoldable pub seen_of : Log → LogSeen
seen_of log = record {
  start = log.place.start;
  end = log.place.end;
  gate = log.next;
  batches = map (λ batch. batch.items) log.batches.items;
  flight = log.in_flight.items;
  waits = log.waiting.items;
  stage = log.stage;
}

-- bytes of text that can be appended without memory: `seen_of` leaves them out, since `reserve` changes nothing else
unfoldable pub room : Log → ℕ
room log = vec_capacity log.pending - (vec_len log.pending + 1)

-- the batches that no crash takes away, the area's first one included
abbrev pub durable_batches : Log → List (List Record)
durable_batches log = (seen_of log).batches

-- the records that no crash takes away, those in the batch being forced, and those for the next
abbrev pub durable : Log → List Record
durable log = joined (seen_of log).batches

abbrev pub in_flight : Log → List Record
in_flight log = (seen_of log).flight

abbrev pub waiting : Log → List Record
waiting log = (seen_of log).waits

abbrev pub appended : Log → List Record
appended log = durable log ++ (in_flight log ++ waiting log)

-- where the area begins and where it ends
abbrev pub area_start : Log → ℕ
area_start log = (seen_of log).start

abbrev pub area_end : Log → ℕ
area_end log = (seen_of log).end

-- bytes of the area in use, and in all
abbrev pub used : Log → ℕ
used log = bytes_in (seen_of log)

abbrev pub area_size : Log → ℕ
area_size log = (seen_of log).end - (seen_of log).start

-- device calls until what is being forced is durable; 0 if nothing is being forced
abbrev pub calls_left : Log → ℕ
calls_left log = calls_after (seen_of log).stage

abbrev pub has_failed : Log → Bool
has_failed log = is_failed (seen_of log).stage

abbrev pub coming : Log → List Record
coming log = coming_in (seen_of log)

-- what is known of the log's area: where it begins and ends, the gate of the next batch, the durable
-- batches, the one that is being forced, and how far its force has come
abbrev pub stands_at : Log → ℕ × ℕ × ℕ × List (List Record) × List Record × Stage
stands_at log = let it = seen_of log in (it.start, it.end, it.gate, it.batches, it.flight, it.stage)

-- what a step that gave this answer did
abbrev pub IsStep : Log → Forced → Log → Type 0
IsStep old Nothing new = (calls_left old ≡ 0) × (waiting old ≡ []) × (durable new ≡ durable old) × (in_flight new ≡ [])
    × (waiting new ≡ []) × (used new ≡ used old) × (calls_left new ≡ 0)
IsStep old More new = (durable new ≡ durable old) × (calls_left old ≡ 0
    → (in_flight new ≡ waiting old) × (waiting new ≡ []) × (calls_left new ≡ 3))
    × (0 < calls_left old → (in_flight new ≡ in_flight old) × (waiting new ≡ waiting old)
    × (calls_left new + 1 ≡ calls_left old) × (0 < calls_left new) × (used new ≡ used old))
IsStep old (Durable pos) new = (calls_left old ≡ 1) × (calls_left new ≡ 0)
    × (durable new ≡ durable old ++ in_flight old) × (in_flight new ≡ []) × (waiting new ≡ waiting old)
    × (used new ≡ used old) × (pos ≡ length (durable new))

-- this answer is of the last call of a force
abbrev pub IsLast : Forced → Type 0
IsLast Nothing = ⊥
IsLast More = ⊥
IsLast (Durable pos) = Unit {0}

-- What a step does to the records, whatever it answered: nothing moves; or those that wait become the batch that is
-- being forced; or that batch joins the durable ones.
abbrev pub Moves : Log → Log → Type 0
Moves old new = ((durable new ≡ durable old) × (in_flight new ≡ in_flight old) × (waiting new ≡ waiting old)
    × (calls_left new ≡ 0 → has_failed new ≡ false → calls_left old ≡ 0))
    ⊎ (((calls_left old ≡ 0) × (durable new ≡ durable old) × (in_flight new ≡ waiting old) × (waiting new ≡ [])
    × (calls_left new ≡ 0 → has_failed new ≡ true))
    ⊎ ((calls_left new ≡ 0) × (durable new ≡ durable old ++ in_flight old) × (in_flight new ≡ [])
    × (waiting new ≡ waiting old)))

-- the durable batches after a step that gave this answer
abbrev pub batches_after : Log → Forced → List (List Record)
batches_after old Nothing = durable_batches old
batches_after old More = durable_batches old
batches_after old (Durable pos) = durable_batches old ++ in_flight old ∷ []

-- what the log knows of its area, of the fields
abbrev pub AreaOf : List ℕ → (List ℕ → Type 0) → Log → Type 0
AreaOf seen may_leave log = Area seen may_leave log.place.start log.place.end log.next
    (map (λ batch. batch.items) log.batches.items) log.in_flight.items log.stage

-- The log is on this device: its durable batches stand in its area, whatever a crash leaves.
unfoldable pub IsOn : {D : Type 0} → Ghosts D → Log → D → Type 0
IsOn g log device = AreaIn (g.seen device) (g.may_leave device) (seen_of log)

-- the same, of all the ghosts of the device as one
abbrev pub LiesOn : {D : Type 0} → Ghosts D → Log → D → Type 0
LiesOn g log device = IsOn g log device
