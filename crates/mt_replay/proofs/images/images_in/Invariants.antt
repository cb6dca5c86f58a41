use Rattle.std.proofs.Common.{◌≡◌, ◌≤◌, drop, false, length}
use Rattle.std.specs.Prelude.{replicate}
use Rattle.mt_log.specs.Batch.{joined}
use Rattle.mt_log.specs.Found.{records_of}
use Rattle.mt_replay.specs.Passes.{HasMarks, Lays}
use Rattle.mt_replay.specs.declared.images.Images.{Images}
use Rattle.mt_replay.proofs.images.images_in.Given as goal

abbrev pub invariant-loop-i : goal.invariant-loop-i
invariant-loop-i l = record {
  inside : l.i ≤ length l.batches;
  marks : HasMarks l.images;
  zeros : Images;
  blank : length zeros.pages.items ≡ l.count;
  none : zeros.imaged.items ≡ replicate l.count false;
  lays : Lays (joined (records_of (drop l.i l.batches))) zeros l.images;
}

abbrev pub decreases-loop-i : goal.decreases-loop-i
decreases-loop-i l = l.i
