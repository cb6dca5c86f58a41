-- Lines of sessions in turn, on a kernel whose log is turned over before a transaction.
use Rattle.std.specs.Prelude.{ℕ, ◌≡◌, ◌<◌, ◌++◌, Bool, List, Option, None}
use Rattle.mt_base.specs.declared.refusal.Refusal.{Refusal}
use Rattle.mt_base.specs.declared.refusal.Refusal.TheVariants as refusal
use Rattle.mt_disk.specs.declared.device.Device.{Ghosts}
use Rattle.mt_model.specs.History.{after}
use Rattle.mt_model.specs.Model.{Base}
use Rattle.mt_model.specs.declared.history.Committed.{Committed}
use Rattle.mt_replay.specs.Stands.{CanRestart}
use Rattle.mt_restart.specs.Rotated.{GoesOver}
use Rattle.mt_restart.specs.declared.standing.Standing.{Standing}
use Rattle.mt_restart.specs.declared.standing.Standing.TheVariants.{Stands, Ended}
use Rattle.mt_script.specs.declared.lines.Line.{Line}
use Rattle.mt_alone.specs.Driven.{IsBeside}
use Rattle.mt_alone.specs.Plays.{Play}
use Rattle.mt_alone.specs.Runs.{HasRun, HasRunLines, IsCut, IsLeftFor}
use Rattle.mt_alone.specs.Stops.{lines_to, why_stopped}
use Rattle.mt_alone.specs.declared.rotation.NotServed.{NotServed}
use Rattle.mt_alone.specs.declared.alone.RunFault.{RunFault}
use Rattle.mt_alone.specs.declared.alone.RunFault.TheVariants as fault
use Rattle.mt_alone.specs.declared.stops.Stop.{Stop}
use Rattle.mt_txn.specs.Shown.{Restarts, SameSchema, StaysRestarting}
use Rattle.mt_txn.specs.declared.kernel.Kernel.{Kernel}
use Rattle.mt_txn.specs.Words.{kernel_book, kernel_relations, kernel_counters}

-- ---- what is left

-- the kernel
abbrev pub with_kernel : {D : Type 0} {g : Ghosts D} → RunFault → Kernel D g → NotServed D g
with_kernel why n = record { why = why; left = Stands n }

-- the device that failed
abbrev pub with_device : {D : Type 0} {g : Ghosts D} → RunFault → D → NotServed D g
with_device why device = record { why = why; left = Ended device }

-- whatever a crash leaves of the device, it represents what the play's commits lead to
abbrev pub StandsForPlay : {D : Type 0} → Ghosts D → ℕ → ℕ → Play → D → Type 0
StandsForPlay g relations counters q device =
    (c : List ℕ) → g.may_leave device c → ∥ CanRestart relations counters c (after q.first q.book) ∥₁

-- the device is left alone: it failed while the log was turned over
abbrev pub IsDeviceLeft : {D : Type 0} → Ghosts D → ℕ → ℕ → RunFault → D → Play → Type 0
IsDeviceLeft g relations counters fault.Output device q =
    (0 < g.faults device) × StandsForPlay g relations counters q device
IsDeviceLeft g relations counters (fault.Refused why) device q =
    (why ≡ refusal.DeviceFailed) × (0 < g.faults device) × StandsForPlay g relations counters q device

-- so, or for what they and some further ones lead to, which were under way
abbrev pub StandsForMore : {D : Type 0} → Ghosts D → ℕ → ℕ → Play → D → Type 0
StandsForMore g relations counters q device =
    (c : List ℕ) → g.may_leave device c → ∥ ((further : List Committed)
    × CanRestart relations counters c (after q.first (q.book ++ further))) ∥₁

module _ {D : Type 0} {g : Ghosts D} where
  -- it holds beside whatever play of this session the kernel stands at, from whose first base it can be restarted
  abbrev pub BesideFrom : ℕ → Option ℕ → Kernel D g → (Play → Type 0) → Type 0
  BesideFrom session live k Promises =
      (p : Play) → p.session ≡ session → IsBeside p live k → Restarts p.first k → Promises p

  -- it holds from this kernel on, or from one that goes on as this one, with its log turned over
  abbrev pub From : Kernel D g → (Kernel D g → Type 0) → Type 0
  From k Holds = (begun : Kernel D g) × GoesOver k begun × Holds begun

  -- lines ran; and a script did, to its end or so far as to the line that stopped it, as one that ends there
  abbrev pub HasRunOn : Bool → Option Refusal → Play → Kernel D g → List Line → Option (List ℕ) → Option (List ℕ)
      → Option ℕ → Kernel D g → Type 0
  HasRunOn stop why p k lines was now live n = From k (λ begun. HasRunLines stop why p begun lines was now live n)

  abbrev pub HasRunOut : Bool → Option Stop → Play → Kernel D g → List Line → Option (List ℕ) → Option (List ℕ)
      → Kernel D g → Type 0
  HasRunOut stop ending p k lines was now n =
      From k (λ begun. HasRun stop (why_stopped ending) p begun (lines_to ending lines) was now n)

  -- The lines of this session ran on the kernel, beside whatever play it stands at. The one that is left after them has
  -- its schema, and can be restarted from each base that it can.
  pub record GoesThrough (stop : Bool) (why : Option Refusal) (session : ℕ) (k : Kernel D g) (lines : List Line)
      (was now : Option (List ℕ)) (live : Option ℕ) (n : Kernel D g) : Type 0 where
    pub ran : BesideFrom session None k (λ p. HasRunOn stop why p k lines was now live n)
    pub schema : SameSchema k n
    pub restarts : StaysRestarting k n

  -- a kernel of so many relations and counters can be restarted from the play's first base
  pub record RestartsFor (relations counters : ℕ) (q : Play) (n : Kernel D g) : Type 0 where
    pub restarts : Restarts q.first n
    pub relations_are : kernel_relations n ≡ relations
    pub counters_are : kernel_counters n ≡ counters

module _ {D : Type 0} {g : Ghosts D} where
  -- The log of this kernel was to be turned over, and its device failed in that. Whatever a crash leaves of the device
  -- represents what the book leads to.
  pub record IsTurnedOut (k : Kernel D g) (device : D) : Type 0 where
    pub failed : 0 < g.faults device
    pub stands : (first : Base) → Restarts first k → (c : List ℕ) → g.may_leave device c
        → ∥ CanRestart (kernel_relations k) (kernel_counters k) c (after first (kernel_book k)) ∥₁

  -- so, or a kernel goes on as this one
  abbrev pub IsTurned : Kernel D g → Standing D g → Type 0
  IsTurned k (Stands n) = GoesOver k n
  IsTurned k (Ended device) = IsTurnedOut k device

  -- what is left after a play if serving ended early: the kernel, or the device alone
  abbrev pub IsLeftFrom : ℕ → ℕ → RunFault → Standing D g → Play → Type 0
  IsLeftFrom relations counters why (Stands n) q = IsLeftFor q n why × RestartsFor relations counters q n
  IsLeftFrom relations counters why (Ended device) q = IsDeviceLeft g relations counters why device q

  abbrev pub IsLeftBy : ℕ → ℕ → NotServed D g → Play → Type 0
  IsLeftBy relations counters left q = IsLeftFrom relations counters left.why left.left q

  -- lines were cut short so
  abbrev pub IsCutOff : Play → Kernel D g → List Line → Option (List ℕ) → Option (List ℕ) → NotServed D g → Type 0
  IsCutOff p k lines was now left =
      From k (λ begun. IsCut (IsLeftBy (kernel_relations k) (kernel_counters k) left) p begun lines was now left.why)
