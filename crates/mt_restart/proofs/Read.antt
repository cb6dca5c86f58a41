-- What a device is read as stays where pages with an image, the other log area or the master slots are written.
use Rattle.std.proofs.Common.{◌≡◌, ◌⊎◌, inl, inr, ⊎_elim, ◌≤◌, ◌+◌, ◌-◌, ◌*◌, ℕ, List, Bool, true, false, length, get_or, sym, ap, ◌∙◌, subst, arith}
use Rattle.std.proofs.Math.Seq.{take-length}
use Rattle.std.proofs.lemmas.Bool.{cases_eq}
use Rattle.mt_disk.specs.Disk.{Torn}
use Rattle.mt_frame.specs.declared.records.Record.{Record}
use Rattle.mt_frame.specs.declared.slots.MasterSlot.{MasterSlot}
use Rattle.mt_log.specs.Batch.{joined}
use Rattle.mt_log.specs.Holds.{AreBatchesOf, HoldsBatches}
use Rattle.mt_log.specs.Masters.{IsRuling, Rules, area_end, area_size, area_start}
use Rattle.mt_pool.specs.Images.{Carried, GivesPages, has_image, page_in, slot}
use Rattle.mt_pool.specs.Kept.{carried}
use Rattle.mt_pool.specs.Turns.{AreImaged}
use Rattle.mt_pool.proofs.Safe.{bool_cases, in_take}
use Rattle.mt_replay.specs.Stands.{IsReadAs}
use Rattle.mt_log.specs.NextSlot.{TurnsTo, next_slot}
use Rattle.mt_restart.specs.Turned.{OnlySlots}
use Rattle.mt_log.proofs.Ruling.{ruling_elsewhere}
use Rattle.mt_restart.proofs.Elsewhere.{gives_elsewhere, held_elsewhere}

-- ---- slots of pages with an image

-- a page with an image does not read its slot
in_image : (images : List Carried) (p : ℕ) (d c : List ℕ) → has_image images p ≡ true → page_in images p d ≡ page_in images p c
in_image images p d c has =
    let whole = take-length images in
    ap (λ (es : List Carried). page_in es p d) (sym whole) ∙ in_take p images (length images) d c (ap (λ (es : List Carried). has_image es p) whole ∙ has)

gives_slots : (marked : List Bool) (d c : List ℕ) (opening : ℕ → List ℕ) (images : List Carried) → AreImaged marked images → OnlySlots marked d c → GivesPages 8192 (length marked) opening images d → GivesPages 8192 (length marked) opening images c
gives_slots marked d c opening images imaged only gives p lt = elim (bool_cases (get_or marked p false)) [
  | inl is ↦ in_image images p (slot 8192 c p) (slot 8192 d p) (imaged p is) ∙ gives p lt
  | inr unmarked ↦ ap (page_in images p) (only.others p lt unmarked) ∙ gives p lt
]

pub read_slots : (marked : List Bool) (d c : List ℕ) (slot : MasterSlot) (opening : ℕ → List ℕ) (batches : List (List Record))
    → length marked ≡ slot.pages → AreImaged marked (carried (joined batches)) → OnlySlots marked d c → IsReadAs d slot opening batches → IsReadAs c slot opening batches
read_slots marked d c slot opening batches count imaged only read = record {
  rules = ruling_elsewhere 8192 (4096 * length marked) d c slot read.rules only.within (omega arith);
  held = held_elsewhere 8192 (4096 * length marked) (area_start slot) (area_end slot) slot.pages batches d c read.held only.within (inl (omega (arith, count))) (omega arith);
  of_its_format = read.of_its_format;
  gives = subst (λ (n : ℕ). GivesPages 8192 n opening (carried (joined batches)) c) count
      (gives_slots marked d c opening (carried (joined batches)) imaged only (subst (λ (n : ℕ). GivesPages 8192 n opening (carried (joined batches)) d) (sym count) read.gives));
}

-- ---- the other log area

pub one_area : (c : List ℕ) (slot : MasterSlot) → IsRuling c slot → slot.area ≤ 1
one_area c slot r = ⊎_elim (λ (first : Rules c 0 4096 slot). first.own.fits.area) (λ (second : Rules c 4096 0 slot). second.own.fits.area) r

-- the areas of a slot and of the next one lie after the page slots, one beside the other
pub areas_apart : (slot : MasterSlot) → slot.area ≤ 1 → (area_end (next_slot slot) ≤ area_start slot) ⊎ (area_end slot ≤ area_start (next_slot slot))
areas_apart slot one =
    let size = area_size slot in
    elim (cases_eq slot.area 0) [
      | inl zero ↦
          let own : slot.area * size ≡ 0 * size = ap (λ (a : ℕ). a * size) zero in
          let other : (1 - slot.area) * size ≡ 1 * size = ap (λ (a : ℕ). (1 - a) * size) zero in
          inr (omega (arith, own, other))
      | inr some ↦
          let second : slot.area ≡ 1 = omega (arith, one, some) in
          let own : slot.area * size ≡ 1 * size = ap (λ (a : ℕ). a * size) second in
          let other : (1 - slot.area) * size ≡ 0 * size = ap (λ (a : ℕ). (1 - a) * size) second in
          inl (omega (arith, own, other))
    ]

pub read_other_area : (d c : List ℕ) (slot : MasterSlot) (opening : ℕ → List ℕ) (batches : List (List Record))
    → Torn (area_start (next_slot slot)) (area_size slot) d c → IsReadAs d slot opening batches → IsReadAs c slot opening batches
read_other_area d c slot opening batches torn read =
    let start = area_start (next_slot slot) in
    record {
      rules = ruling_elsewhere start (area_size slot) d c slot read.rules torn (omega arith);
      held = held_elsewhere start (area_size slot) (area_start slot) (area_end slot) slot.pages batches d c read.held torn (areas_apart slot (one_area d slot read.rules)) (omega arith);
      of_its_format = read.of_its_format;
      gives = gives_elsewhere start (area_size slot) slot.pages opening (carried (joined batches)) d c read.gives torn (inl (omega arith));
    }

-- ---- the master slots

-- an area holds these batches, which give the pages as at the opening, whichever slot rules
pub record IsHeldAs (c : List ℕ) (slot : MasterSlot) (opening : ℕ → List ℕ) (batches : List (List Record)) : Type 0 where
  pub held : HoldsBatches c (area_start slot) (area_end slot) slot.pages batches
  pub of_its_format : AreBatchesOf slot.format batches
  pub gives : GivesPages 8192 slot.pages opening (carried (joined batches)) c

pub held_read : (c : List ℕ) (slot : MasterSlot) (opening : ℕ → List ℕ) (batches : List (List Record)) → IsReadAs c slot opening batches → IsHeldAs c slot opening batches
held_read c slot opening batches read = record { held = read.held; of_its_format = read.of_its_format; gives = read.gives }

pub read_held : (c : List ℕ) (slot : MasterSlot) (opening : ℕ → List ℕ) (batches : List (List Record)) → IsRuling c slot → IsHeldAs c slot opening batches → IsReadAs c slot opening batches
read_held c slot opening batches rules h = record { rules = rules; held = h.held; of_its_format = h.of_its_format; gives = h.gives }

pub master_torn : (at n : ℕ) (d c : List ℕ) (slot : MasterSlot) (opening : ℕ → List ℕ) (batches : List (List Record))
    → Torn at n d c → at + n ≤ 8192 → IsHeldAs d slot opening batches → IsHeldAs c slot opening batches
master_torn at n d c slot opening batches torn below h = record {
  held = held_elsewhere at n (area_start slot) (area_end slot) slot.pages batches d c h.held torn (inl (omega (arith, below))) (omega arith);
  of_its_format = h.of_its_format;
  gives = gives_elsewhere at n slot.pages opening (carried (joined batches)) d c h.gives torn (inr below);
}

-- Where both areas hold what they are to be read as, the device is read as one of them while the next slot comes to rule.
pub turns_read : (ruling : MasterSlot) (contents : List ℕ → Type 0) (opening opening2 : ℕ → List ℕ) (batches batches2 : List (List Record))
    → ((d : List ℕ) → contents d → IsHeldAs d ruling opening batches) → ((d : List ℕ) → contents d → IsHeldAs d (next_slot ruling) opening2 batches2)
    → (c : List ℕ) → TurnsTo ruling contents c → IsReadAs c ruling opening batches ⊎ IsReadAs c (next_slot ruling) opening2 batches2
turns_read ruling contents opening opening2 batches batches2 first second c turns =
    let from : (d : List ℕ) × contents d × Torn 0 8192 d c = turns.from in
    ⊎_elim
    (λ (still : IsRuling c ruling). inl (read_held c ruling opening batches still (master_torn 0 8192 from.0 c ruling opening batches from.2 (omega arith) (first from.0 from.1))))
    (λ (next : IsRuling c (next_slot ruling)). inr (read_held c (next_slot ruling) opening2 batches2 next (master_torn 0 8192 from.0 c (next_slot ruling) opening2 batches2 from.2 (omega arith) (second from.0 from.1))))
    turns.rules
