use Rattle.std.proofs.Common.{◌+◌, ◌-◌, ◌*◌, ℕ, length, ap, ◌∙◌, arith}
use Rattle.mt_base.proofs.Places.{part_length}
use Rattle.mt_bucket.specs.Page.{cell}
use Rattle.mt_bucket.proofs.Moves.{closed}
use Rattle.mt_bucket.proofs.Kept.{closed_kept}
use Rattle.mt_bucket.proofs.entry_changes.close_gap.Goals as goal

pub returns-clause-closed : goal.returns-clause-closed
returns-clause-closed c = closed c.args.page.now c.put.new.page c.set_count.new.page c.copy_from_slice.new.self c.args.i c.requires.whole c.requires.there
    (c.copy_from_slice.ensures.after ∙ c.part_of.ensures ∙ ap (λ (n : ℕ). cell c.args.page.now (8 + 70 * (n - 1))) c.count-count.ensures)
    c.put.ensures c.set_count.ensures.rest (omega arith)

pub returns-clause-kept : goal.returns-clause-kept
returns-clause-kept c = closed_kept c.args.page.now c.set_count.new.page c.args.i (returns-clause-closed c)

pub copy_from_slice-requires : goal.copy_from_slice-requires
copy_from_slice-requires c =
    let text = ap length c.part_of.ensures in
    let long = (part_length c.args.page.now (8 + 70 * (c.count-count.result - 1)) 70 (omega arith)).0 in
    omega arith
