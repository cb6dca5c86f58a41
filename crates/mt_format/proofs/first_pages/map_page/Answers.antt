use Rattle.std.proofs.Common.{arith, ◌∙◌}
use Rattle.mt_format.proofs.Zeros.{zero_at}
use Rattle.mt_format.proofs.first_pages.map_page.Goals as goal

pub returns : goal.returns
returns c = let w = c.put.ensures in record {
  size = w.rest.size;
  space = w.has.each 0 (omega arith);
  directory = w.has.each 1 (omega arith);
  counters = w.has.each 2 (omega arith);
  bucket = w.has.each 3 (omega arith);
  free = λ i from to. w.rest.above i from ∙ zero_at 4096 i;
}
