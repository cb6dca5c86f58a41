use Rattle.std.proofs.Common.{◌≡◌, length, ap, arith}
use Rattle.mt_live.specs.Members.{Member}
use Rattle.mt_live.proofs.Noting.{noted-length}
use Rattle.mt_live.proofs.transactions.Transaction.len.Goals as goal

pub returns : goal.returns
returns c =
    let each : length c.self.inside.roles.items ≡ length c.self.inside.calls.items = omega (arith, c.self.invariant.each) in
    let size = noted-length c.self.inside.calls.items c.self.inside.roles.items each in
    let seen = ap (λ (m : Member). length m.calls) c.self.view_is in
    omega (arith, c.len.ensures, size, seen)
