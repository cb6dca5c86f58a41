-- Any list of events, made on a kernel one after the other, and what stands after them.
use Rattle.std.specs.Prelude.{ℕ, ◌≡◌, List, [], ◌∷◌, ◌++◌, Option, None, Some, map, ⊤}
use Rattle.mt_base.specs.declared.refusal.Refusal.TheVariants as refusal
use Rattle.mt_disk.specs.declared.device.Device.{Ghosts}
use Rattle.mt_core.specs.Booked.{txns_of}
use Rattle.mt_live.specs.Entries.{IsExplained}
use Rattle.mt_live.specs.Machine.{State, committed_base, start}
use Rattle.mt_model.specs.History.{IsActed, IsLegal, run}
use Rattle.mt_model.specs.Model.{Base}
use Rattle.mt_restart.specs.Rotated.{IsEnded}
use Rattle.mt_txn.specs.Shown.{LeavesFound, Restarts, SameSchema, Shows, StaysRestarting}
use Rattle.mt_txn.specs.declared.kernel.Kernel.{Kernel}
use Rattle.mt_txn.specs.Words.{kernel_commits, kernel_history, kernel_state, FindsUntil, kernel_relations, kernel_counters}
use Rattle.mt_world.specs.Acts.{Act, calls_in}
use Rattle.mt_world.specs.Due.{CallsAtEvent, FailsIn, IsDue, SetsPhases, StayBroken}
use Rattle.mt_world.specs.Moves.{Moves}
use Rattle.mt_world.specs.Reported.{acknowledged, commit_of, commit_order, committing, reported_of}
use Rattle.mt_world.specs.declared.events.Answer.{Answer}
use Rattle.mt_world.specs.declared.events.Answer.TheVariants.{Refused}
use Rattle.mt_world.specs.declared.events.Event.{Event}
use Rattle.mt_world.specs.declared.events.Event.TheVariants.{Rotate}
use Rattle.mt_restart.specs.declared.standing.Standing.{Standing}
use Rattle.mt_restart.specs.declared.standing.Standing.TheVariants.{Stands, Ended}

-- An event led a kernel to another, whatever state it showed; and whenever a crash came in it, a restart finds what
-- some of the first commits of the kernel lead to.
pub record HasMade {D : Type 0} {g : Ghosts D} (k : Kernel D g) (event : Event) (answer : Answer)
    (n : Kernel D g) : Type 0 where
  pub leads : (first : Base) (s : State) → Restarts first k → Shows first s k
      → ∥ ((acts : List Act) × (z : State) × Moves (kernel_state k) s event answer acts z × Shows first z n) ∥₁
  pub due : IsDue k event answer n
  pub device : CallsAtEvent k event n
  pub phases : SetsPhases k event answer n
  pub fails : FailsIn k answer n
  pub restarts : StaysRestarting k n
  pub found : LeavesFound k n
  pub schema : SameSchema k n

module _ {D : Type 0} {g : Ghosts D} where
  -- An event led a kernel in this state to another in that, with what ended in it.
  pub record IsMade (first : Base) (s : State) (k : Kernel D g) (event : Event) (answer : Answer) (acts : List Act)
      (z : State) (n : Kernel D g) : Type 0 where
    pub moves : Moves (kernel_state k) s event answer acts z
    pub due : IsDue k event answer n
    pub device : CallsAtEvent k event n
    pub phases : SetsPhases k event answer n
    pub fails : FailsIn k answer n
    pub schema : SameSchema k n
    pub shows : Shows first z n

  -- One after the other, from a kernel on this base without transactions on: what ended, the state that is shown
  -- then, and the kernel.
  pub data Makes (first : Base) : List Event → List Answer → List Act → State → Kernel D g → Type 0 where
    starts : (k : Kernel D g) → Shows first (start first) k → Makes first [] [] [] (start first) k
    goes_on : (events : List Event) (answers : List Answer) (acts more : List Act) (s z : State) (k n : Kernel D g)
        (event : Event) (answer : Answer)
        → Makes first events answers acts s k → IsMade first s k event answer more z n
        → Makes first (events ++ event ∷ []) (answers ++ answer ∷ []) (acts ++ more) z n

  -- What ended replied as the model does, one operation after the other, and leads to the base that the pages hold.
  -- The book has the acknowledged commits in their order, each with the replies that its session was given, and with
  -- the inverses of what its transaction took back. They are what its transactions do alone, one after the other. What
  -- stands of the others is explained, whoever of them is struck out. After the first refusal 2 each answer is that.
  -- The book, and after it the commits under way, are all commits that have begun, in the order in which they did. And
  -- whatever a crash leaves of the kernel can be restarted from.
  pub record HasRun (first : Base) (events : List Event) (answers : List Answer) (n : Kernel D g) : Type 0 where
    pub acts : List Act
    pub state : State
    pub made : Makes first events answers acts state n
    pub shows : Shows first state n
    pub acted : IsActed first (calls_in acts)
    pub held : run first (calls_in acts) ≡ state.base
    pub outcome : state.book ≡ map (λ t. commit_of (reported_of events answers t)) (acknowledged answers)
    -- in the order of their records
    pub order : kernel_history n ≡ commit_order events answers
    pub queue : acknowledged answers ++ txns_of (kernel_commits n) ≡ committing events answers
    pub legal : IsLegal first state.book
    pub explained : IsExplained (committed_base first state) state.standing state.base
    pub broken : StayBroken answers
    pub restarts : Restarts first n

-- The first of the events ran. Then the device failed in a rotation, of which it alone is left; that event and each
-- later one was refused with 2.
pub record HasEnded {D : Type 0} (g : Ghosts D) (relations counters : ℕ) (first : Base) (events : List Event)
    (answers : List Answer) (device : D) : Type 0 where
  pub done : List Event
  pub later : List Event
  pub outcome : List Answer
  pub kernel : Kernel D g
  pub events_are : events ≡ done ++ Rotate ∷ later
  pub answers_are : answers ≡ outcome ++ Refused refusal.DeviceFailed
      ∷ map (λ (event : Event). Refused refusal.DeviceFailed) later
  pub ran : HasRun first done outcome kernel
  pub schema : (kernel_relations kernel ≡ relations) × (kernel_counters kernel ≡ counters)
  pub ended : IsEnded kernel device
  pub broken : StayBroken answers

module _ {D : Type 0} {g : Ghosts D} where
  -- The device failed in a rotation, and only it is left of the kernel.
  pub record HasEndedBy (k : Kernel D g) (event : Event) (answer : Answer) (device : D) : Type 0 where
    pub rotation : event ≡ Rotate
    pub refused : answer ≡ Refused refusal.DeviceFailed
    pub ended : IsEnded k device
    pub found : (first : Base) → Restarts first k → FindsUntil first k device

  -- what an event made of a kernel
  abbrev pub HasBecome : Kernel D g → Event → Answer → Standing D g → Type 0
  HasBecome k event answer (Stands n) = HasMade k event answer n
  HasBecome k event answer (Ended device) = HasEndedBy k event answer device

  -- a rotation is not made in place
  abbrev pub IsMadeInPlace : Kernel D g → Event → Option Answer → Kernel D g → Type 0
  IsMadeInPlace k event (Some answer) n = HasMade k event answer n
  IsMadeInPlace k event None n = (event ≡ Rotate) × (n ≡ k)

  -- and of what stands: once the kernel is gone, each event is refused with 2
  abbrev pub GoesTo : Standing D g → Event → Answer → Standing D g → Type 0
  GoesTo (Stands k) event answer next = HasBecome k event answer next
  GoesTo (Ended device) event answer next = (answer ≡ Refused refusal.DeviceFailed) × (next ≡ Ended device)

  -- what stands after all events
  abbrev pub HasRunTo : ℕ → ℕ → Base → List Event → List Answer → Standing D g → Type 0
  HasRunTo relations counters first events answers (Stands n) = HasRun first events answers n
  HasRunTo relations counters first events answers (Ended device) =
      HasEnded g relations counters first events answers device

-- a kernel of so many relations and counters, if one stands
abbrev pub IsOfSchema : {D : Type 0} → {g : Ghosts D} → ℕ → ℕ → Standing D g → Type 0
IsOfSchema relations counters (Stands n) = (kernel_relations n ≡ relations) × (kernel_counters n ≡ counters)
IsOfSchema relations counters (Ended device) = ⊤
