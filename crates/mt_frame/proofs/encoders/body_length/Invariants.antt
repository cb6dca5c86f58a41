use Rattle.std.proofs.Common.{◌≡◌, ◌+◌, ◌<◌, ◌^◌, length, drop}
use Rattle.std.specs.List.{AllByRecursion}
use Rattle.mt_frame.specs.Grammar.{body_text, IsRecord}
use Rattle.mt_frame.proofs.encoders.body_length.Given as goal

abbrev pub invariant-loop-entry : goal.invariant-loop-entry
invariant-loop-entry l = record {
  each : AllByRecursion IsRecord (drop l.entry-index l.records);
  so_far : l.length + length (body_text (drop l.entry-index l.records)) ≡ length (body_text l.records);
  short : length (body_text l.records) < 2 ^ 32;
}
