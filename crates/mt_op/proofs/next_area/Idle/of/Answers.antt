use mathlib.Core.Logic.{∥∥₁_map}
use Rattle.std.proofs.Common.{arith}
use Rattle.mt_file.proofs.Roomed.{some_pages}
use Rattle.mt_op.proofs.next_area.Idle.of.Goals as goal

pub rooms_of-requires-clause-file : goal.rooms_of-requires-clause-file
rooms_of-requires-clause-file c = ∥∥₁_map c.requires.good (λ (relations, counters, good). good.rows.file)

pub bounds-pages-from : goal.bounds-pages-from
bounds-pages-from c = let first = c.from.ensures in let some = some_pages c.args.pages.now (∥∥₁_map c.requires.good (λ (relations, counters, good). good.rows.file)) in omega (arith, first, some)

pub of-requires-clause-whole : goal.of-requires-clause-whole
of-requires-clause-whole c = c.told-pages c.from.result (bounds-pages-from c)
