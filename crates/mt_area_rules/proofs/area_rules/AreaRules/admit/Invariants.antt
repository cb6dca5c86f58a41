use Rattle.std.proofs.Common.{◌++◌, List, take, drop}
use Rattle.mt_frame.specs.declared.records.Record.{Record}
use Rattle.mt_area_rules.specs.History.{MayFollow}
use Rattle.mt_area_rules.specs.Known.{Knows}
use Rattle.mt_area_rules.proofs.area_rules.AreaRules.admit.Given as goal

abbrev pub invariant-loop-entry : goal.invariant-loop-entry
invariant-loop-entry l = record {
  known : (earlier : List Record) → Knows l.fn.self earlier → Knows l.self (earlier ++ take l.entry-index l.records);
  there : (earlier : List Record) → Knows l.fn.self earlier → MayFollow l.first (earlier ++ take l.entry-index l.records) (drop l.entry-index l.records) → MayFollow l.first earlier l.records;
  back : (earlier : List Record) → Knows l.fn.self earlier → MayFollow l.first earlier l.records → MayFollow l.first (earlier ++ take l.entry-index l.records) (drop l.entry-index l.records);
}
