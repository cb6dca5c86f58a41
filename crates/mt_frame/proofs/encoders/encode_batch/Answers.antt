use Rattle.std.proofs.lemmas.Grind.{common_steps}
use Rattle.std.proofs.Common.{rules, arith}
use Rattle.mt_frame.proofs.encoders.encode_batch.Goals as goal

pub loop-entry-init : goal.loop-entry-init
loop-entry-init c = search rules

pub loop-entry-preserved : goal.loop-entry-preserved
loop-entry-preserved c = grind (arith, common_steps)

pub returns-clause-text : goal.returns-clause-text
returns-clause-text c = grind (arith, common_steps)

pub push_record-requires : goal.push_record-requires
push_record-requires c = grind (arith, common_steps)
