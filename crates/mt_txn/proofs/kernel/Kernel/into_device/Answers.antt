use Rattle.std.proofs.Common.{subst}
use Rattle.mt_txn.proofs.Restarting.{finds_commits}
use Rattle.mt_txn.proofs.kernel.Kernel.into_device.Goals as goal

pub returns-clause-found : goal.returns-clause-found
returns-clause-found g c = λ first x at left.
    let D = g.D.Device in let k = c.args.self in
    finds_commits D k.relations k.counters first k.core x at (subst (λ d. D.may_leave d x) c.part-device.ensures.device left) k.schema
