use Rattle.std.proofs.Common.{arith}
use Rattle.std.proofs.lemmas.Grind.{common_steps}
use Rattle.mt_space.proofs.patches.patch.Goals as goal

pub loop-edit-preserved : goal.loop-edit-preserved
loop-edit-preserved c = grind (arith, common_steps)
