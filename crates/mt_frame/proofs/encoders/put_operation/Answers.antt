use Rattle.std.proofs.lemmas.Grind.{common_steps}
use Rattle.std.proofs.Common.{rules, arith}
use Rattle.mt_frame.proofs.encoders.put_operation.Goals as goal

pub returns-in-Add-clause-items : goal.returns-in-Add-clause-items
returns-in-Add-clause-items c = search (rules, common_steps)

pub returns-in-Update-clause-items : goal.returns-in-Update-clause-items
returns-in-Update-clause-items c = grind (arith, common_steps)

pub returns-in-Delete-clause-items : goal.returns-in-Delete-clause-items
returns-in-Delete-clause-items c = grind (arith, common_steps)

pub returns-in-Insert-clause-items : goal.returns-in-Insert-clause-items
returns-in-Insert-clause-items c = grind (arith, common_steps)
