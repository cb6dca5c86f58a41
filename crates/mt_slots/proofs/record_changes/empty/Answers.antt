use Rattle.std.proofs.Common.{ℕ, get_or, ap, ◌∙◌, arith}
use Rattle.std.proofs.lemmas.List.{get_or-replicate}
use Rattle.mt_slots.proofs.Pages.{cleared_page}
use Rattle.mt_slots.proofs.record_changes.empty.Goals as goal

pub returns-clause-shaped : goal.returns-clause-shaped
returns-clause-shaped c = (cleared_page c.put.new.page (c.put.ensures.rest.size ∙ c.requires.whole) (λ i lt. ap (λ (k : ℕ). get_or c.put.new.page k 0) (omega arith) ∙ c.put.ensures.has.each i lt ∙ get_or-replicate 8 i 0 0 lt)).0

pub returns-clause-count : goal.returns-clause-count
returns-clause-count c = (cleared_page c.put.new.page (c.put.ensures.rest.size ∙ c.requires.whole) (λ i lt. ap (λ (k : ℕ). get_or c.put.new.page k 0) (omega arith) ∙ c.put.ensures.has.each i lt ∙ get_or-replicate 8 i 0 0 lt)).1
