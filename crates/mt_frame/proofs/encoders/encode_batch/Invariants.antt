use Rattle.std.proofs.Common.{◌≡◌, ◌++◌, drop}
use Rattle.std.specs.List.{AllByRecursion}
use Rattle.mt_frame.specs.Grammar.{body_text, batch_text, IsRecord}
use Rattle.mt_frame.proofs.encoders.encode_batch.Given as goal

abbrev pub invariant-loop-entry : goal.invariant-loop-entry
invariant-loop-entry l = record {
  each : AllByRecursion IsRecord (drop l.entry-index l.records);
  so_far : l.bytes.items ++ body_text (drop l.entry-index l.records) ≡ batch_text l.records;
}
