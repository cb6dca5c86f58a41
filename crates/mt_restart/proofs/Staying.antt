-- What is known of a device while the next area begins beside the ruling one.
use Rattle.std.proofs.Common.{◌≡◌, ℕ, List, sym, subst, arith}
use Rattle.mt_disk.specs.Disk.{Follows, Only, Torn}
use Rattle.mt_frame.specs.declared.records.Record.{Record}
use Rattle.mt_frame.specs.declared.slots.MasterSlot.{MasterSlot}
use Rattle.mt_log.specs.Batch.{joined}
use Rattle.mt_log.specs.Area.{TornFrom}
use Rattle.mt_log.specs.Masters.{area_end, area_size, area_start}
use Rattle.mt_log.proofs.Turns.{ruling_fits}
use Rattle.mt_log.proofs.OneWay.{holds_one}
use Rattle.mt_pool.specs.Kept.{carried}
use Rattle.mt_pool.specs.Turns.{AreImaged}
use Rattle.mt_restart.specs.Found.{AreMarked}
use Rattle.mt_log.specs.NextSlot.{next_slot}
use Rattle.mt_replay.specs.Stands.{IsReadAs}
use Rattle.mt_restart.specs.Turned.{ButForSlots, OnlySlots}
use Rattle.mt_restart.specs.declared.restart_writes.Marks.{Marks}
use Rattle.mt_restart.proofs.NextArea.{are_imaged}
use Rattle.mt_restart.proofs.Read.{read_other_area, read_slots}

-- the same torn bytes, in other words
pub torn_at : (may : List ℕ → Type 0) (at n at2 n2 : ℕ) (c : List ℕ) → at ≡ at2 → n ≡ n2 → TornFrom may at n c → TornFrom may at2 n2 c
torn_at may at n at2 n2 c same size left = subst (λ (k : ℕ). TornFrom may at2 k c) size (subst (λ (k : ℕ). TornFrom may k n c) same left)

module _ (ruling : MasterSlot) (items : List (List ℕ)) (m : Marks) (c0 : List ℕ) (batches : List (List Record)) (k : AreMarked c0 ruling items batches m) (opening : ℕ → List ℕ) (bs : List (List Record)) (read : IsReadAs c0 ruling opening bs) where
  -- the area holds one row of batches
  one_row : bs ≡ batches
  one_row =
      let fits = ruling_fits c0 ruling k.rules in
      let small = fits.mib.1 in
      holds_one c0 (area_start ruling) (area_end ruling) ruling.pages bs batches (omega (arith, small)) read.held k.held

  imaged : AreImaged m.imaged.items (carried (joined bs))
  imaged = subst (λ (rows : List (List Record)). AreImaged m.imaged.items (carried (joined rows))) (sym one_row) (are_imaged ruling.pages (joined batches) m.imaged.items k.imaged)

  -- what is left while pages with an image are written in place
  pub read_written : (may : List ℕ → Type 0) → Only c0 may → (c : List ℕ) → ButForSlots m.imaged.items may c → IsReadAs c ruling opening bs
  read_written may only c left =
      let from : (d : List ℕ) × may d × OnlySlots m.imaged.items d c = left in
      read_slots m.imaged.items c0 c ruling opening bs k.imaged.size imaged (subst (λ (d : List ℕ). OnlySlots m.imaged.items d c) (only from.0 from.1) from.2) read

  -- what is left while the next area begins after them
  pub read_begun : (may may2 : List ℕ → Type 0) → Only c0 may → Follows (OnlySlots m.imaged.items) may may2 → (c : List ℕ) → TornFrom may2 (area_start (next_slot ruling)) (area_size ruling) c → IsReadAs c ruling opening bs
  read_begun may may2 only follows c left =
      let from : (d : List ℕ) × may2 d × Torn (area_start (next_slot ruling)) (area_size ruling) d c = left in
      read_other_area from.0 c ruling opening bs from.2 (read_written may only from.0 (follows from.0 from.1))
