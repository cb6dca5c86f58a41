use Rattle.mt_locked.proofs.Keeping.{began_so}
use Rattle.mt_shared_cases.proofs.kernels.opened_over.Goals as goal

pub new-requires-clause-began : goal.new-requires-clause-began
new-requires-clause-began g c =
    began_so c.args.base.now c.in-Ok.kernel _ _ c.requires.base c.in-Ok.ensures.shows c.in-Ok.ensures.restarts
