-- The parts of a cell.
use Rattle.std.proofs.Common.{◌+◌, ◌*◌, ℕ, List, take, drop, get_or, sym, ◌∙◌, ap, arith}
use Rattle.mt_bucket.proofs.Cells.{get_cell, key_cell}
use Rattle.mt_bucket.specs.Page.{cell}
use Rattle.mt_bucket.proofs.lookup.entry.Goals as goal

pub returns-clause-is : goal.returns-clause-is
returns-clause-is c = λ i. record {
  relation = (get_cell page at 0 (omega arith) ∙ ap (λ (k : ℕ). get_or page k 0) (omega arith) ∙ sym (c.new.ensures ∙ c.from.ensures)) i;
  key = (ap (λ (n : ℕ). take n (drop 2 (cell page at))) (get_cell page at 1 (omega arith) ∙ sym c.from-2.ensures) ∙ key_cell page at c.from-2.result (omega (arith, c.from-2.ensures, c.requires.fits)) ∙ sym c.part_of.ensures) i;
  name = (sym c.name_at.ensures) i;
}
  where
    page : List ℕ
    page = c.args.page.now

    at : ℕ
    at = 8 + 70 * c.args.i
