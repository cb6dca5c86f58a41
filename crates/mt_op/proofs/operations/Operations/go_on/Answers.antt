use Rattle.std.proofs.Common.{arith}
use Rattle.mt_op.proofs.Known.{one_of, writes_on}
use Rattle.mt_op.proofs.operations.Operations.go_on.Goals as goal

pub write_next-requires-clause-right : goal.write_next-requires-clause-right
write_next-requires-clause-right g c = one_of g.D.Device c.args.self.now c.args.scope.now c.requires.right

pub write_next-requires-clause-writing : goal.write_next-requires-clause-writing
write_next-requires-clause-writing g c = c.requires.writing

pub write_next-requires-clause-budget : goal.write_next-requires-clause-budget
write_next-requires-clause-budget g c = c.requires.budget

pub write_next-requires-clause-room : goal.write_next-requires-clause-room
write_next-requires-clause-room g c = c.requires.room

pub returns-then-scope-len : goal.returns-then-scope-len
returns-then-scope-len g c = c.write_next.ensures.ahead

pub returns-else-scope-len : goal.returns-else-scope-len
returns-else-scope-len g c = c.finish.ensures.ahead

pub finish-requires-clause-all : goal.finish-requires-clause-all
finish-requires-clause-all g c = let on = writes_on g.D.Device c.args.self.now c.args.scope.now (one_of g.D.Device c.args.self.now c.args.scope.now c.requires.right) c.requires.writing in let some = on.some in omega arith
