use Rattle.std.proofs.Common.{◌≡◌, length, arith}
use Rattle.mt_plock.proofs.Removing.{given_all, all_given, nothing}
use Rattle.mt_plock.proofs.table.PageLocks.release_all.Goals as goal

pub returns-clause-whole : goal.returns-clause-whole
returns-clause-whole c =
    let short : length c.loop-guard.guards.items ≡ 0 = omega (arith, c.in_default.ensures.cases) in
    λ op is.
    all_given op c.args.guards.items c.args.self.now c.loop-guard.self
    (given_all c.loop-guard.guards.items c.args.guards.items c.args.self.now c.loop-guard.self (nothing c.loop-guard.guards.items short) c.loop-guard.invariant) is
