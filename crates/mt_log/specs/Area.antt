-- What a log knows of its area, at each stage of a force.
use Rattle.std.specs.Prelude.{◌<◌, ◌≡◌, ◌≢◌, ◌⊎◌, ℕ, ◌+◌, ◌≤◌, List, [], ◌∷◌, ◌++◌, length}
use Rattle.std.proofs.Math.ListN.{get_or}
use Rattle.mt_frame.specs.declared.TheConstants.{OPEN_GATE}
use Rattle.mt_disk.specs.Disk.{Has, Torn}
use Rattle.mt_frame.specs.declared.records.Record.{Record}
use Rattle.mt_frame.specs.Grammar.{body_text}
use Rattle.mt_log.specs.Batch.{framed, Stands, Scans}
use Rattle.mt_log.specs.declared.stage.Step.{Step}
use Rattle.mt_log.specs.declared.stage.Step.TheVariants.{WriteBody, SyncBody, WriteGate, SyncGate}
use Rattle.mt_log.specs.declared.stage.Stage.{Stage}
use Rattle.mt_log.specs.declared.stage.Stage.TheVariants.{Idle, Forcing, Failed}

-- after the gate at `next` stand the batch's length and body, and after them a closed gate
abbrev pub Body : List ℕ → ℕ → List Record → Type 0
Body c next batch = Has c (next + 1) (framed batch ++ 0 ∷ [])

-- what each outcome of a crash has at the next batch's place
abbrev pub Outcome : Stage → ℕ → List Record → List ℕ → Type 0
Outcome Idle next batch c = get_or c next 0 ≢ OPEN_GATE
Outcome (Forcing WriteBody) next batch c = get_or c next 0 ≢ OPEN_GATE
Outcome (Forcing SyncBody) next batch c = get_or c next 0 ≢ OPEN_GATE
Outcome (Forcing WriteGate) next batch c = (get_or c next 0 ≢ OPEN_GATE) × Body c next batch
Outcome (Forcing SyncGate) next batch c = Body c next batch
Outcome Failed next batch c = get_or c next 0 ≡ OPEN_GATE → Body c next batch

-- what the present content has besides
abbrev pub Present : Stage → ℕ → List Record → List ℕ → Type 0
Present Idle next batch c = Unit {0}
Present (Forcing WriteBody) next batch c = Unit {0}
Present (Forcing SyncBody) next batch c = Body c next batch
Present (Forcing WriteGate) next batch c = Unit {0}
Present (Forcing SyncGate) next batch c = get_or c next 0 ≡ OPEN_GATE
Present Failed next batch c = Unit {0}

-- where the gate after the batch that is being forced stands, or the next gate if none is
abbrev pub gate_behind : Stage → ℕ → List Record → ℕ
gate_behind Idle next batch = next
gate_behind (Forcing step) next batch = next + 5 + length (body_text batch)
gate_behind Failed next batch = next + 5 + length (body_text batch)

-- The area of a log lies from start to end: the durable batches stand up to `next`, whatever a crash
-- leaves, and what it leaves of the batch after them is as the stage of its force says.
pub record Area (seen : List ℕ) (may_leave : List ℕ → Type 0) (start end next : ℕ) (batches : List (List Record))
    (batch : List Record) (stage : Stage) : Type 0 where
  pub within : end ≤ length seen
  pub order : start ≤ next
  pub room : gate_behind stage next batch < end
  pub front : (c : List ℕ) → may_leave c → Stands c start batches next
  pub outcome : (c : List ℕ) → may_leave c → Outcome stage next batch c
  pub present : Present stage next batch seen

-- the step after this one; the last one has none
abbrev pub step_behind : Step → Step
step_behind WriteBody = SyncBody
step_behind SyncBody = WriteGate
step_behind WriteGate = SyncGate
step_behind SyncGate = SyncGate

-- the same, after the device call of this step of a force went well
abbrev pub AreaAfter : Step → List ℕ → (List ℕ → Type 0) → ℕ → ℕ → ℕ → List (List Record) → List Record → Type 0
AreaAfter WriteBody seen may_leave start end next batches batch =
    Area seen may_leave start end next batches batch (Forcing SyncBody)
AreaAfter SyncBody seen may_leave start end next batches batch =
    Area seen may_leave start end next batches batch (Forcing WriteGate)
AreaAfter WriteGate seen may_leave start end next batches batch =
    Area seen may_leave start end next batches batch (Forcing SyncGate)
AreaAfter SyncGate seen may_leave start end next batches batch =
    Area seen may_leave start end (next + 5 + length (body_text batch)) (batches ++ batch ∷ []) [] Idle

-- reading the area finds these batches, or these and one more after them
abbrev pub ScansWithOrWithout : ℕ → ℕ → List (List Record) → List Record → List ℕ → Type 0
ScansWithOrWithout start end batches batch c = Scans c start end batches ⊎ Scans c start end (batches ++ batch ∷ [])

-- what one of these contents may become if the n bytes from `at` on are torn
abbrev pub TornFrom : (List ℕ → Type 0) → ℕ → ℕ → List ℕ → Type 0
TornFrom contents at n c = (d : List ℕ) × contents d × Torn at n d c

-- What a crash may leave of an area that is begun with this batch: what it might have left before, but for the first
-- gate; then a first gate that is not open; at last the batch.
abbrev pub AreaBegins : (List ℕ → Type 0) → ℕ → ℕ → List Record → List ℕ → Type 0
AreaBegins contents start end batch c = TornFrom contents start 1 c ⊎ ScansWithOrWithout start end [] batch c
