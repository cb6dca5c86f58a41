use Rattle.std.proofs.Common.{arith}
use Rattle.mt_op.proofs.Budget.{area_small}
use Rattle.mt_op.proofs.operations.Operations.append_end.Goals as goal

pub append_record-requires-clause-rules : goal.append_record-requires-clause-rules
append_record-requires-clause-rules g c = c.requires.rules

pub overflow_add-scope : goal.overflow_add-scope
overflow_add-scope g c = let used = c.used-before_end.ensures in let small = area_small c.args.self.now.store.log in omega arith
