use Rattle.std.proofs.Common.{drop}
use Rattle.mt_frame.specs.Grammar.{AreOfFormat}
use Rattle.mt_frame.proofs.formats.are_of_format.Given as goal

-- all of them are if and only if those that are left are
abbrev pub invariant-loop-entry : goal.invariant-loop-entry
invariant-loop-entry l = record {
  there : AreOfFormat l.format (drop l.entry-index l.records) → AreOfFormat l.format l.records;
  back : AreOfFormat l.format l.records → AreOfFormat l.format (drop l.entry-index l.records);
}
