-- The text of a master slot.
use Rattle.std.proofs.Math.ListN.{get_or}
use Rattle.std.specs.Prelude.{◌≡◌, ◌≢◌, ℕ, ◌^◌, ◌≤◌, List, [], ◌∷◌, ◌++◌}
use Rattle.std.specs.Int.{w16, w64, to_be_bytes}
use Rattle.mt_frame.specs.declared.TheConstants.{OPEN_GATE}
use Rattle.mt_base.specs.Limits.{IsPageCount, IsAreaSize}
use Rattle.mt_base.specs.declared.format.Format.{Format}
use Rattle.mt_base.specs.declared.format.Format.TheVariants.{One, Two}
use Rattle.mt_frame.specs.declared.slots.MasterSlot.{MasterSlot}
use Rattle.mt_frame.specs.declared.slots.SlotRead.{SlotRead}
use Rattle.mt_frame.specs.declared.slots.SlotRead.TheVariants.{Closed, Bad, Open}

pub record IsSlot (slot : MasterSlot) : Type 0 where
  pub epoch : (1 ≤ slot.epoch) × (slot.epoch ≤ 2 ^ 63)
  pub area : slot.area ≤ 1
  pub pages : IsPageCount slot.pages
  pub mib : IsAreaSize slot.mib

-- the last of the letters MTK1 and MTK2
abbrev pub last_letter : Format → ℕ
last_letter One = 49
last_letter Two = 50

-- an open gate, the letters MTK1 or MTK2, the epoch, the area, the pages, the MiB of an area
abbrev pub slot_text : MasterSlot → List ℕ
slot_text slot =
    (OPEN_GATE ∷ 77 ∷ 84 ∷ 75 ∷ last_letter slot.format ∷ []) ++ (to_be_bytes w64 slot.epoch
    ++ ((slot.area ∷ []) ++ (to_be_bytes w16 slot.pages ++ (slot.mib ∷ []))))

pub record IsSlotText (bytes : List ℕ) (slot : MasterSlot) : Type 0 where
  pub fits : IsSlot slot
  pub text : bytes ≡ slot_text slot

-- what is in a slot's bytes: a closed gate, or an open one with a slot's text, or an open one without
abbrev pub IsSlotRead : List ℕ → SlotRead → Type 0
IsSlotRead bytes Closed = get_or bytes 0 0 ≢ OPEN_GATE
IsSlotRead bytes Bad = (get_or bytes 0 0 ≡ OPEN_GATE) × ((slot : MasterSlot) → IsSlotText bytes slot → ⊥)
IsSlotRead bytes (Open slot) = IsSlotText bytes slot
