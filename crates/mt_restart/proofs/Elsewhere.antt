-- What stands on a device stays where others of its bytes are torn.
use Rattle.std.proofs.Common.{◌⊎◌, inl, inr, ⊎_elim, ◌<◌, ◌≤◌, ◌+◌, ◌-◌, ◌*◌, ℕ, List, sym, ap, ◌∙◌, arith}
use Rattle.mt_disk.specs.Disk.{Apart, Torn}
use Rattle.mt_disk.proofs.Frame.{get_torn}
use Rattle.mt_frame.specs.declared.records.Record.{Record}
use Rattle.mt_log.specs.Holds.{HoldsBatches}
use Rattle.mt_log.proofs.Elsewhere.{stands_apart}
use Rattle.mt_log.proofs.Steps.{stands_le}
use Rattle.mt_pool.specs.Images.{Carried, GivesPages, page_in}
use Rattle.mt_pool.proofs.Safe.{cut_torn, slot_apart}

-- ---- the batches of an area

-- where the torn bytes lie before or after it
pub held_elsewhere : (at n start end pages : ℕ) (batches : List (List Record)) (d c : List ℕ) → HoldsBatches d start end pages batches → Torn at n d c → (at + n ≤ start) ⊎ (end ≤ at) → start ≤ end → HoldsBatches c start end pages batches
held_elsewhere at n start end pages batches d c h t beside order =
    let q = h.row.0 in
    let inside : q < end = h.row.2 in
    let low : start ≤ q = stands_le d start batches q h.row.1 in
    let apart : Apart at n start (end - start) = ⊎_elim (λ (before : at + n ≤ start). inr before) (λ (behind : end ≤ at). inl (omega arith)) beside in
    let gate : Apart at n q 1 = ⊎_elim (λ (before : at + n ≤ start). inr (omega arith)) (λ (behind : end ≤ at). inl (omega arith)) beside in
    record {
      row = (q, stands_apart at n start end d c start batches q t apart (omega arith) (omega arith) h.row.1, inside, (λ is. h.row.3 (sym (get_torn at n q d c t gate) ∙ is)));
      each = h.each;
      rules = h.rules;
    }

-- ---- the pages that images and slots give

pub gives_elsewhere : (at n pages : ℕ) (opening : ℕ → List ℕ) (images : List Carried) (d c : List ℕ) → GivesPages 8192 pages opening images d → Torn at n d c → Apart at n 8192 (4096 * pages) → GivesPages 8192 pages opening images c
gives_elsewhere at n pages opening images d c gives torn apart p lt =
    ap (page_in images p) (cut_torn at n (8192 + 4096 * p) 4096 d c torn (slot_apart at n 8192 pages p lt apart)) ∙ gives p lt
