-- The two master slots of a device, and which of them rules.
use Rattle.std.specs.Prelude.{◌≡◌, ◌≢◌, ◌⊎◌, ◌+◌, ◌*◌, ◌<◌, ◌≤◌, ℕ, List, length, Option, Some, None, Result, Ok, Err}
use Rattle.std.proofs.Math.ListN.{get_or}
use Rattle.mt_frame.specs.declared.TheConstants.{OPEN_GATE}
use Rattle.mt_base.specs.declared.limits.TheConstants.{MASTER_BYTES, MIB_BYTES, PAGE_BYTES}
use Rattle.mt_base.specs.declared.refusal.Refusal.{Refusal}
use Rattle.mt_base.specs.declared.refusal.Refusal.TheVariants.{BadFormat}
use Rattle.mt_base.specs.Limits.{device_bytes_of}
use Rattle.mt_base.specs.declared.format.Format.TheVariants.{One}
use Rattle.mt_disk.specs.Disk.{Has}
use Rattle.mt_frame.specs.SlotText.{IsSlot, slot_text}
use Rattle.mt_frame.specs.declared.slots.MasterSlot.{MasterSlot}

-- a slot of a device that is long enough
abbrev pub IsOfDevice : List ℕ → MasterSlot → Type 0
IsOfDevice c slot = device_bytes_of slot.pages slot.mib ≤ length c

-- an open slot at a place
pub record IsOpenAt (c : List ℕ) (at : ℕ) (slot : MasterSlot) : Type 0 where
  pub fits : IsSlot slot
  pub text : Has c at (slot_text slot)
  pub long : IsOfDevice c slot

abbrev pub IsClosedAt : List ℕ → ℕ → Type 0
IsClosedAt c at = get_or c at 0 ≢ OPEN_GATE

-- the places of the two slots
abbrev pub AreSlots : ℕ → ℕ → Type 0
AreSlots at other = ((at ≡ 0) × (other ≡ PAGE_BYTES)) ⊎ ((at ≡ PAGE_BYTES) × (other ≡ 0))

-- what is read at a place
abbrev pub IsFoundAt : ℕ → List ℕ → Option MasterSlot → Type 0
IsFoundAt at c None = IsClosedAt c at
IsFoundAt at c (Some slot) = IsOpenAt c at slot

-- It may stand beside one that rules: of the same device, and older. One of format 1 has none of format 2 before it.
pub record IsBefore (older slot : MasterSlot) : Type 0 where
  pub epoch : older.epoch < slot.epoch
  pub pages : older.pages ≡ slot.pages
  pub mib : older.mib ≡ slot.mib
  pub format_order : slot.format ≡ One → older.format ≡ One

-- The slot at this place rules: it is open, and the other is closed or older.
pub record Rules (c : List ℕ) (at other : ℕ) (slot : MasterSlot) : Type 0 where
  pub own : IsOpenAt c at slot
  pub beside : IsClosedAt c other ⊎ ((older : MasterSlot) × IsOpenAt c other older × IsBefore older slot)

-- one of the two slots of a device rules
abbrev pub IsRuling : List ℕ → MasterSlot → Type 0
IsRuling c slot = Rules c 0 PAGE_BYTES slot ⊎ Rules c PAGE_BYTES 0 slot

-- ---- the log area that a slot names

-- the bytes of an area, the place of its first, and the place after its last
abbrev pub area_size : MasterSlot → ℕ
area_size slot = slot.mib * MIB_BYTES

abbrev pub area_start : MasterSlot → ℕ
area_start slot = MASTER_BYTES + PAGE_BYTES * slot.pages + slot.area * area_size slot

abbrev pub area_end : MasterSlot → ℕ
area_end slot = area_start slot + area_size slot

-- ---- devices on which no slot rules

-- the device is shorter than its two slots' pages, or both slots are closed
abbrev pub IsUnformatted : List ℕ → Type 0
IsUnformatted c = (length c < MASTER_BYTES) ⊎ (IsClosedAt c 0 × IsClosedAt c PAGE_BYTES)

-- the gate at this place is open, and no slot of this device stands there
pub record IsBadAt (c : List ℕ) (at : ℕ) : Type 0 where
  pub gate : get_or c at 0 ≡ OPEN_GATE
  pub none : (slot : MasterSlot) → IsOpenAt c at slot → ⊥

-- neither of two open slots may stand beside the other
pub record AreAtOdds (c : List ℕ) : Type 0 where
  pub first : MasterSlot
  pub second : MasterSlot
  pub first_open : IsOpenAt c 0 first
  pub second_open : IsOpenAt c PAGE_BYTES second
  pub no_older_first : IsBefore first second → ⊥
  pub no_older_second : IsBefore second first → ⊥

-- what stands at this place breaks a rule of master slots
abbrev pub BreaksMaster : List ℕ → ℕ → Type 0
BreaksMaster c at = ((at ≡ 0) × IsBadAt c 0) ⊎ ((at ≡ PAGE_BYTES) × (IsBadAt c PAGE_BYTES ⊎ AreAtOdds c))

-- ---- of two open slots

-- the newer one rules, if one may
abbrev pub IsNewer : MasterSlot → MasterSlot → Result MasterSlot Refusal → Type 0
IsNewer first second (Ok slot) = ((slot ≡ first) × IsBefore second first) ⊎ ((slot ≡ second) × IsBefore first second)
IsNewer first second (Err why) =
    (why ≡ BadFormat PAGE_BYTES) × (IsBefore first second → ⊥) × (IsBefore second first → ⊥)
