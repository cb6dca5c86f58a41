-- Bytes that are made to last.
use Rattle.std.specs.Prelude.{◌≡◌, ◌⊎◌, ◌+◌, ◌∷◌, [], ℕ, List, OnOk, Result, Ok, Err, length, drop}
use Rattle.mt_base.specs.declared.limits.TheConstants.{MASTER_BYTES}
use Rattle.mt_disk.specs.declared.device.Device.{Ghosts}
use Rattle.mt_disk.specs.Disk.{Follows, HasCause, LeavesOnly, Only, Torn, Wrote}
use Rattle.mt_frame.specs.SlotText.{slot_text}
use Rattle.mt_frame.specs.declared.TheConstants.{OPEN_GATE}
use Rattle.mt_frame.specs.declared.slots.MasterSlot.{MasterSlot}
use Rattle.mt_log.specs.Area.{TornFrom}

-- These bytes stand at this place, and a crash leaves them; or the device failed, and they are torn.
pub record WritesDurably {D : Type 0} (g : Ghosts D) {T F : Type 0} (at : ℕ) (bytes : List ℕ) (d e : D)
    (r : Result T F) : Type 0 where
  pub written : OnOk r (Wrote at bytes (g.seen d) (g.seen e))
  pub durable : OnOk r (Only (g.seen e) (g.may_leave e))
  pub moments : LeavesOnly g.moment g.left_since d e (TornFrom (g.may_leave d) at (length bytes))
  pub elsewhere : Follows (Torn at (length bytes)) (g.may_leave d) (g.may_leave e)
  pub rest : Torn at (length bytes) (g.seen d) (g.seen e)
  pub cause : HasCause (g.faults d) (g.faults e) r

-- The text of a slot after its gate is made to last, and then its open gate; or the device failed before the gate.
abbrev pub GateComesLast : {D : Type 0} → Ghosts D → {T F : Type 0} → ℕ → MasterSlot → D → D → Result T F → Type 0
GateComesLast {D = D} g {T = T} {F = F} at slot d e r =
    ((why : F) × (r ≡ Err why) × WritesDurably g (at + 1) (drop 1 (slot_text slot)) d e r)
    ⊎ ((between : D) × (done : T)
    × WritesDurably g {T = T} {F = F} (at + 1) (drop 1 (slot_text slot)) d between (Ok done)
    × WritesDurably g at (OPEN_GATE ∷ []) between e r)

-- This slot stands at this place, its gate open, and a crash leaves it; or the device failed.
pub record WritesMaster {D : Type 0} (g : Ghosts D) {T F : Type 0} (at : ℕ) (slot : MasterSlot) (d e : D)
    (r : Result T F) : Type 0 where
  pub steps : GateComesLast g at slot d e r
  pub durable : OnOk r (Only (g.seen e) (g.may_leave e))
  pub elsewhere : Follows (Torn 0 MASTER_BYTES) (g.may_leave d) (g.may_leave e)
  pub rest : Torn 0 MASTER_BYTES (g.seen d) (g.seen e)
  pub cause : HasCause (g.faults d) (g.faults e) r
