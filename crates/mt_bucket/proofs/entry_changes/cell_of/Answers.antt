use Rattle.std.proofs.Common.{◌∙◌, inl, arith, rules}
use Rattle.std.proofs.lemmas.List.{get_or-replicate}
use Rattle.mt_base.proofs.Places.{has_torn}
use Rattle.mt_bucket.proofs.Cells.{entry_is}
use Rattle.mt_bucket.proofs.Kept.{cell_written}
use Rattle.mt_bucket.proofs.entry_changes.cell_of.Goals as goal

pub returns-clause-entry : goal.returns-clause-entry
returns-clause-entry c =
    let b = c.write_name.new.bytes in
    let short = c.requires.short in
    let a = c.put.ensures.rest.size in
    let d = c.put-2.ensures.rest.size in
    let e = c.write_name.ensures.rest.size in
    entry_is b c.args.key.now c.args.relation c.args.name.page c.args.name.slot (omega arith) c.requires.short
    (c.write_name.ensures.rest.below 0 (omega arith) ∙ c.put-2.ensures.rest.below 0 (omega arith) ∙ c.put.ensures.has.each 0 (omega arith) ∙ search rules)
    (c.write_name.ensures.rest.below 1 (omega arith) ∙ c.put-2.ensures.rest.below 1 (omega arith) ∙ c.put.ensures.has.each 1 (omega arith) ∙ search rules)
    (has_torn 66 4 2 c.args.key.now c.put-2.new.page b c.put-2.ensures.has c.write_name.ensures.rest (inl (omega arith)))
    c.write_name.ensures.page
    c.write_name.ensures.slot

pub returns-clause-cell : goal.returns-clause-cell
returns-clause-cell c =
    let short = c.requires.short in
    λ r pages below some within. cell_written _ c.put.new.page c.put-2.new.page c.write_name.new.bytes c.args.key.now r c.args.relation c.args.name.page pages
    (λ i le lt. get_or-replicate 70 i 0 0 (omega (arith, lt))) c.put.ensures.rest c.put-2.ensures.rest c.write_name.ensures.rest c.requires.short
    (c.write_name.ensures.rest.below 0 (omega arith) ∙ c.put-2.ensures.rest.below 0 (omega arith) ∙ c.put.ensures.has.each 0 (omega arith) ∙ search rules)
    (c.write_name.ensures.rest.below 1 (omega arith) ∙ c.put-2.ensures.rest.below 1 (omega arith) ∙ c.put.ensures.has.each 1 (omega arith) ∙ search rules)
    c.write_name.ensures.page
    below some within
