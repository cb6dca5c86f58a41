-- What a restart finds if a crash comes while events are made.
use Rattle.std.specs.Prelude.{ℕ, ◌≡◌, ◌⊎◌, ◌<◌, ◌≤◌, ◌+◌, List, get_or, length, take, IfErr, IfOk, Result}
use Rattle.mt_base.specs.declared.refusal.Refusal.{Refusal}
use Rattle.mt_disk.specs.Disk.{LeavesOnly}
use Rattle.mt_disk.specs.declared.device.Device.{Ghosts}
use Rattle.mt_live.specs.Machine.{start}
use Rattle.mt_model.specs.Model.{Base}
use Rattle.mt_replay.specs.Stands.{CanRestart}
use Rattle.mt_format.specs.Formats.{FormatBegins}
use Rattle.mt_format.specs.Schemas.{counters_in, device_bytes, relations_in, schema_base}
use Rattle.mt_format.specs.declared.schema.Schema.{Schema}
use Rattle.mt_txn.specs.Shown.{Restarts, Shows, kernel_device}
use Rattle.mt_txn.specs.declared.kernel.Kernel.{Kernel}
use Rattle.mt_txn.specs.Words.{kernel_book, FindsSome, kernel_relations, kernel_counters}
use Rattle.mt_world.specs.Schedules.{HasEnded, HasMade, HasRun}
use Rattle.mt_world.specs.Reported.{acknowledged}
use Rattle.mt_world.specs.declared.events.Answer.{Answer}
use Rattle.mt_world.specs.declared.events.Event.{Event}
use Rattle.mt_restart.specs.declared.standing.Standing.{Standing}
use Rattle.mt_restart.specs.declared.standing.Standing.TheVariants.{Stands, Ended}

-- A restart finds in these bytes what some of the first commits of a kernel lead to. All that were acknowledged by
-- then are among them, for they are its book; and all whose records were durable. At least so many events were made
-- by then, and at most so many.
pub record FindsBetween {D : Type 0} {g : Ghosts D} (first : Base) (behind : ℕ → Kernel D g) (least most : ℕ)
    (c : List ℕ) : Type 0 where
  pub made : ℕ
  pub past : least ≤ made
  pub within : made ≤ most
  pub finds : FindsSome first (behind made) c

-- Whatever a crash left since the device of a kernel was this one, a restart finds in it what some of the first
-- commits of the kernel lead to.
pub record FindsSince {D : Type 0} {g : Ghosts D} (since : D) (first : Base) (k : Kernel D g) : Type 0 where
  pub later : g.moment since ≤ g.moment (kernel_device k)
  pub each : (c : List ℕ) → g.left_since (kernel_device k) (g.moment since) c → ∥ FindsSome first k c ∥₁
  -- the same, for a run of calls that began before
  pub before : (t : ℕ) (c : List ℕ) → t ≤ g.moment since → g.left_since (kernel_device k) t c
      → ∥ g.left_since since t c ⊎ FindsSome first k c ∥₁

-- The events led from kernel to kernel, the last of which is k, until the device is this one. Whatever a crash leaves
-- since one of these kernels stood, a restart finds in it what some of the first commits of that one, or of a later
-- one, lead to. And so it does in what a crash leaves since the device was another one, before the first kernel
-- stood.
pub record FoundUntil {D : Type 0} {g : Ghosts D} (since : D) (first : Base) (events : List Event)
    (answers : List Answer) (k : Kernel D g) (device : D) : Type 0 where
  -- the kernel after so many events
  pub behind : ℕ → Kernel D g
  pub last : behind (length events) ≡ k
  pub goes : (i : ℕ) (event : Event) (answer : Answer) → i < length events
      → HasMade (behind i) (get_or events i event) (get_or answers i answer) (behind (i + 1))
  pub ran : (i : ℕ) → i ≤ length events → ∥ HasRun first (take i events) (take i answers) (behind i) ∥₁
  -- its book has each commit that was acknowledged by then
  pub answered : (i : ℕ) → i ≤ length events → length (kernel_book (behind i)) ≡ length (acknowledged (take i answers))
  pub later : (i : ℕ) → i ≤ length events → g.moment (kernel_device (behind i)) ≤ g.moment device
  pub each : (i : ℕ) (c : List ℕ) → i ≤ length events → g.left_since device (g.moment (kernel_device (behind i))) c
      → ∥ FindsBetween first behind i (length events) c ∥₁
  pub begun : g.moment since ≤ g.moment device
  pub all : (c : List ℕ) → g.left_since device (g.moment since) c → ∥ FindsBetween first behind 0 (length events) c ∥₁
  -- the same, for a run of calls that began before
  pub before : (t : ℕ) (c : List ℕ) → t ≤ g.moment since → g.left_since device t c
      → ∥ g.left_since since t c ⊎ FindsBetween first behind 0 (length events) c ∥₁

-- the same once a rotation has ended the kernel, until the device is the one that it left
pub record FoundUntilEnd {D : Type 0} (g : Ghosts D) (relations counters : ℕ) (since : D) (first : Base)
    (events : List Event) (answers : List Answer) (device : D) : Type 0 where
  pub ended : HasEnded g relations counters first events answers device
  pub until : FoundUntil since first ended.done ended.outcome ended.kernel device

-- until what stands after all events
abbrev pub FoundTo : {D : Type 0} {g : Ghosts D} → ℕ → ℕ → D → Base → List Event → List Answer → Standing D g → Type 0
FoundTo relations counters since first events answers (Stands n) =
    FoundUntil since first events answers n (kernel_device n)
FoundTo {g = g} relations counters since first events answers (Ended device) = FoundUntilEnd g relations counters since
    first events answers device

-- ---- from the format on

-- a restart finds the schema's first base in these bytes
abbrev pub StandsFirst : Schema → List ℕ → Type 0
StandsFirst s c = CanRestart (relations_in s) (length (counters_in s)) c (schema_base s)

-- what a crash leaves of a device while it is formatted, and then while it is opened
abbrev pub BeginsOrStands : Schema → (List ℕ → Type 0) → List ℕ → Type 0
BeginsOrStands s contents c = FormatBegins s contents c ⊎ StandsFirst s c

-- A device was formatted by the schema, and then represented its first base, whatever a crash left.
pub record HasFormatted {D : Type 0} (g : Ghosts D) (s : Schema) (device formatted : D) : Type 0 where
  pub meanwhile : LeavesOnly g.moment g.left_since device formatted (FormatBegins s (g.may_leave device))
  pub stands : (c : List ℕ) → g.may_leave formatted c → StandsFirst s c

-- And a kernel was opened on it.
pub record HasBegun {D : Type 0} {g : Ghosts D} (s : Schema) (device : D) (k : Kernel D g) : Type 0 where
  pub formatted : D
  pub format : HasFormatted g s device formatted
  pub since : FindsSince formatted (schema_base s) k

-- A device is formatted by the schema, and a kernel is opened on it at the first base; or the device is handed back.
pub record BeginsOnFormatted {D : Type 0} {g : Ghosts D} (s : Schema) (device : D)
    (r : Result (Kernel D g) (Refusal × D)) : Type 0 where
  pub shows : IfOk r (Shows (schema_base s) (start (schema_base s)))
  pub restarts : IfOk r (Restarts (schema_base s))
  pub schema : IfOk r (λ kernel. (kernel_relations kernel ≡ relations_in s)
      × (kernel_counters kernel ≡ length (counters_in s)))
  pub begun : IfOk r (HasBegun s device)
  pub err : IfErr r (λ gone. LeavesOnly g.moment g.left_since device gone.1 (BeginsOrStands s (g.may_leave device)))
  pub cause : IfErr r (λ gone. (gone.0 ≡ Refusal.NoMemory)
      ⊎ ((gone.0 ≡ Refusal.BadLength) × (length (g.seen device) < device_bytes s)
      ⊎ (gone.0 ≡ Refusal.DeviceFailed) × (g.faults device < g.faults gone.1)))
  pub short : IfErr r (λ gone. gone.0 ≡ Refusal.BadLength → gone.1 ≡ device)

-- A device was formatted, a kernel was opened on it, and then the events were made. Whenever a crash comes from the
-- format on, a restart finds what some of the first commits lead to, beginning with the schema's first base.
pub record FoundFromFormat {D : Type 0} {g : Ghosts D} (s : Schema) (device : D) (events : List Event)
    (answers : List Answer) (standing : Standing D g) : Type 0 where
  -- the device after its format
  pub formatted : D
  pub format : HasFormatted g s device formatted
  pub until : FoundTo (relations_in s) (length (counters_in s)) formatted (schema_base s) events answers standing
