-- A kernel over the other area of its log.
use Rattle.std.specs.Prelude.{ℕ, ◌≡◌, List, length}
use Rattle.mt_disk.specs.declared.device.Device.{Ghosts}
use Rattle.mt_escrow.specs.Seen.{Escrowed}
use Rattle.mt_core.specs.Turned as parts
use Rattle.mt_log.specs.Words.{appended, durable}
use Rattle.mt_model.specs.History.{after}
use Rattle.mt_model.specs.Model.{Base}
use Rattle.mt_op.specs.declared.operations.Operations.{Operations}
use Rattle.mt_core.specs.declared.parts.Core.{Core}
use Rattle.mt_live.specs.Machine.{State}
use Rattle.mt_txn.specs.Shown.{Restarts, Shows, kernel_log}
use Rattle.mt_txn.specs.Well.{Opens, RestartsFrom, ShowsIn}
use Rattle.mt_txn.specs.declared.kernel.Kernel.{Kernel}
use Rattle.mt_txn.specs.declared.kernel_rest.KernelRest.{KernelRest}

-- no transaction is active
abbrev pub HasNobody : {D : Type 0} {g : Ghosts D} → Kernel D g → Type 0
HasNobody k = length k.core.live.members ≡ 0

-- all that was appended to its log is durable
abbrev pub IsForced : {D : Type 0} {g : Ghosts D} → Kernel D g → Type 0
IsForced k = durable (kernel_log k) ≡ appended (kernel_log k)

-- No transaction is active in parts that can be restarted. This is their rest, and operations and an escrow are
-- opened on what their book leads to.
pub record GoesOn {D : Type 0} (g : Ghosts D) (first : Base) (k : Core D)
    (rest : KernelRest) (operations : Operations D) (escrow : Escrowed) : Type 0 where
  pub is : parts.IsRestOf k rest.rest
  pub nobody : length k.live.members ≡ 0
  pub restarts : RestartsFrom g rest.relations rest.counters first k
  pub opens : Opens g operations escrow rest.relations rest.counters (after first k.book.items)

abbrev pub CanGoOn : {D : Type 0} → Ghosts D → KernelRest → Operations D → Escrowed → Type 0
CanGoOn {D} g rest operations escrow = ∥ ((first : Base) × (k : Core D) × GoesOn g first k rest operations escrow) ∥₁

-- The kernel is in whatever state such parts were in, and can be restarted.
abbrev pub Resumes : {D : Type 0} {g : Ghosts D} → KernelRest → Operations D → Escrowed → Kernel D g → Type 0
Resumes {D} {g = g} rest operations escrow n = (first : Base) (k : Core D)
    → GoesOn g first k rest operations escrow
    → ((s : State) → ShowsIn g rest.relations rest.counters first s k → Shows first s n)
    × Restarts first n
