use Rattle.std.proofs.Common.{◌≡◌, ◌++◌, ◌<◌, ◌≤◌, drop, take, vec_len, vec_capacity}
use Rattle.std.specs.List.{AllByRecursion}
use Rattle.mt_frame.specs.Grammar.{body_text, IsRecord}
use Rattle.mt_log.proofs.first_batch.first_batch.Given as goal

abbrev pub invariant-loop-entry : goal.invariant-loop-entry
invariant-loop-entry l = record {
  each : AllByRecursion IsRecord (drop l.entry-index l.records);
  so_far : drop 4 l.text.items ++ body_text (drop l.entry-index l.records) ≡ body_text l.records;
  head : 4 ≤ vec_len l.text;
  room : vec_len l.text < vec_capacity l.text;
  batch : l.batch.items ≡ take l.entry-index l.records;
}
