-- Counting the records of batches.
use Rattle.std.proofs.Common.{◌≡◌, ℕ, ◌+◌, ◌*◌, ◌<◌, ◌≤◌, ◌^◌, ⊎_elim, List, [], ◌∷◌, length, drop, get_or, ap, ◌∙◌, arith, length-append}
use Rattle.std.specs.Prelude.{count_by, cond}
use Rattle.std.proofs.lemmas.List.Sums.{sum_by-append, count_by-le-length}
use Rattle.mt_frame.specs.declared.records.Record.{Record}
use Rattle.mt_frame.specs.Grammar.{body_text, record_text}
use Rattle.mt_frame.proofs.Rows.{text_some}
use Rattle.std.proofs.Math.Nat.{mul-le-mul_right}
use Rattle.mt_log.specs.Batch.{Stands, joined}
use Rattle.mt_log.specs.Found.{records_of}
use Rattle.mt_log.specs.declared.batch.Batch.{Batch}
use Rattle.mt_frame.specs.SlotText.{IsSlot}
use Rattle.mt_frame.specs.declared.slots.MasterSlot.{MasterSlot}
use Rattle.mt_replay.specs.Figures.{is_commit}
use Rattle.mt_log.specs.Masters.{Rules, area_size, area_start}
use Rattle.mt_replay.specs.Stands.{HasArea}
use Rattle.mt_replay.proofs.Walking.{joined_at}

-- each record takes a byte of the row at least
body_long : (rs : List Record) → length rs ≤ length (body_text rs)
body_long [] = omega arith
body_long (r ∷ rs) = omega (arith, length-append (record_text r) (body_text rs), text_some r, body_long rs)

pub row_long : (c : List ℕ) (p q : ℕ) (bs : List (List Record)) → Stands c p bs q → p + length (joined bs) ≤ q
row_long c p q [] at = omega (arith, at)
row_long c p q (b ∷ bs) at =
    let rest = row_long c (p + 5 + length (body_text b)) q bs at.1 in
    omega (arith, rest, body_long b, length-append b (joined bs))

-- one batch more
pub records_more : (bs : List Batch) (i : ℕ) (b : Batch) → i < length bs → b ≡ get_or bs i b → length (joined (records_of (drop i bs))) ≡ length b.records.items + length (joined (records_of (drop (i + 1) bs)))
records_more bs i b lt is = ap length (joined_at bs i b lt is) ∙ length-append b.records.items (joined (records_of (drop (i + 1) bs)))

pub commits_more : (bs : List Batch) (i : ℕ) (b : Batch) → i < length bs → b ≡ get_or bs i b
    → count_by is_commit (joined (records_of (drop i bs))) ≡ count_by is_commit b.records.items + count_by is_commit (joined (records_of (drop (i + 1) bs)))
commits_more bs i b lt is = ap (count_by is_commit) (joined_at bs i b lt is) ∙ sum_by-append (λ r. cond (is_commit r) 1 0) b.records.items (joined (records_of (drop (i + 1) bs)))

pub commits_few : (rs : List Record) → count_by is_commit rs ≤ length rs
commits_few rs = count_by-le-length is_commit rs

-- an area has fewer records than bytes
pub few_records : (c : List ℕ) (slot : MasterSlot) (bs : List (List Record)) → HasArea c slot bs → length (joined bs) < 2 ^ 32
few_records c slot bs has =
    let fits : IsSlot slot = ⊎_elim (λ (r : Rules c 0 4096 slot). r.own.fits) (λ (r : Rules c 4096 0 slot). r.own.fits) has.rules in
    let row = row_long c (area_start slot) has.held.row.0 bs has.held.row.1 in
    let end = has.held.row.2 in
    let pages : slot.pages ≤ 4000 = fits.pages.1 in
    let mib : slot.mib ≤ 64 = fits.mib.1 in
    let moved : slot.area * area_size slot ≤ 1 * area_size slot = mul-le-mul_right (area_size slot) fits.area in
    omega (arith, row, end, pages, mib, moved)
