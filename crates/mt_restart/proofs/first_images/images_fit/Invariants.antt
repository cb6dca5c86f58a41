use Rattle.std.proofs.Common.{◌≡◌, ◌+◌, ◌<◌, length, take}
use Rattle.mt_frame.specs.Grammar.{body_text}
use Rattle.mt_restart.proofs.first_images.images_fit.Given as goal

abbrev pub invariant-loop-entry : goal.invariant-loop-entry
invariant-loop-entry l = record {
  some : 0 < l.left;
  sum : 5 + length (body_text (take l.entry-index l.images)) + l.left ≡ l.bytes;
}
