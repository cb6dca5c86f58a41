-- The two numbers behind the key.
use Rattle.std.proofs.Common.{sym, ◌∙◌, arith}
use Rattle.mt_bucket.proofs.Cells.{number_cell}
use Rattle.mt_bucket.proofs.lookup.name_at.Goals as goal

pub returns : goal.returns
returns c = λ i. record {
  page = (c.new.ensures ∙ c.u16_at.ensures ∙ sym (number_cell c.args.page.now c.args.at 66 (omega arith))) i;
  slot = (c.u16_at-2.ensures ∙ sym (number_cell c.args.page.now c.args.at 68 (omega arith))) i;
}
