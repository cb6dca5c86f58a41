use Rattle.std.proofs.Common.{◌≡◌, length}
use Rattle.mt_index.specs.Checks.{AreMarked}
use Rattle.mt_space.specs.PageLists.{bytes_of}
use Rattle.mt_index.proofs.bucket_marks.mark_buckets.Given as goal

abbrev pub invariant-loop-i : goal.invariant-loop-i
invariant-loop-i l = record {
  size : length l.homes ≡ length l.fn.homes;
  marked : AreMarked (bytes_of l.pages) l.homes l.i;
}
