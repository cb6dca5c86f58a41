use Rattle.std.proofs.Common.{arith}
use Rattle.mt_format.specs.Schemas.{pages_in, relations_in}
use Rattle.mt_format.proofs.first_pages.bucket_page.Goals as goal

pub returns : goal.returns
returns c = let s = c.args.schema.now in let e = c.empty.ensures in let some = s.page_count in record {
  formed = e.bucket (relations_in s) (pages_in s) (omega arith) (omega arith);
  depth = e.depth;
  next = e.next;
  none = e.entries;
}
