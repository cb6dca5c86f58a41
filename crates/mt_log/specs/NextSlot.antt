-- The master slot that rules next, and what a crash leaves while it comes to rule.
use Rattle.std.specs.Prelude.{◌⊎◌, ◌+◌, ◌-◌, ℕ, List, OnOk, Result}
use Rattle.mt_disk.specs.declared.device.Device.{Ghosts}
use Rattle.mt_base.specs.declared.limits.TheConstants.{MASTER_BYTES}
use Rattle.mt_base.specs.declared.format.Format.TheVariants.{Two}
use Rattle.mt_frame.specs.declared.slots.MasterSlot.{MasterSlot}
use Rattle.mt_log.specs.Area.{TornFrom}
use Rattle.mt_log.specs.Masters.{IsClosedAt, IsRuling, Rules}
use Rattle.mt_disk.specs.Disk.{Follows, HasCause, LeavesOnly, Only, Torn}

-- of the same device and of format 2, one opening later, over the other log area
abbrev pub next_slot : MasterSlot → MasterSlot
next_slot slot = record {
  format = Two;
  epoch = slot.epoch + 1;
  area = 1 - slot.area;
  pages = slot.pages;
  mib = slot.mib;
}

-- One of these contents, but for the bytes of the two master slots: this slot rules, or the next one does.
pub record TurnsTo (ruling : MasterSlot) (contents : List ℕ → Type 0) (c : List ℕ) : Type 0 where
  pub rules : IsRuling c ruling ⊎ IsRuling c (next_slot ruling)
  pub from : TornFrom contents 0 MASTER_BYTES c

-- The gate at this place is closed, and the slot at the other one rules as before; or the device failed.
pub record ClosesBeside {D : Type 0} (g : Ghosts D) {T F : Type 0} (at other : ℕ) (d e : D)
    (r : Result T F) : Type 0 where
  pub closed : OnOk r (IsClosedAt (g.seen e) at)
  pub rules : OnOk r ((ruling : MasterSlot) → Rules (g.seen d) other at ruling → Rules (g.seen e) other at ruling)
  pub durable : OnOk r (Only (g.seen e) (g.may_leave e))
  pub moments : (ruling : MasterSlot) → Rules (g.seen d) other at ruling
      → LeavesOnly g.moment g.left_since d e (TurnsTo ruling (g.may_leave d))
  pub elsewhere : Follows (Torn 0 MASTER_BYTES) (g.may_leave d) (g.may_leave e)
  pub rest : Torn 0 MASTER_BYTES (g.seen d) (g.seen e)
  pub cause : HasCause (g.faults d) (g.faults e) r

-- The next slot rules beside this one, or the device failed.
pub record TurnsBeside {D : Type 0} (g : Ghosts D) {T F : Type 0} (ruling : MasterSlot) (d e : D)
    (r : Result T F) : Type 0 where
  pub rules : OnOk r (IsRuling (g.seen e) (next_slot ruling))
  pub durable : OnOk r (Only (g.seen e) (g.may_leave e))
  pub moments : LeavesOnly g.moment g.left_since d e (TurnsTo ruling (g.may_leave d))
  pub elsewhere : Follows (Torn 0 MASTER_BYTES) (g.may_leave d) (g.may_leave e)
  pub rest : Torn 0 MASTER_BYTES (g.seen d) (g.seen e)
  pub cause : HasCause (g.faults d) (g.faults e) r
