use Rattle.std.proofs.Common.{◌≡◌, ◌<◌, IfSome, length, ap, subst, sym, ◌∙◌, arith}
use Rattle.mt_live.specs.Members.{Member}
use Rattle.mt_live.proofs.Noting.{noted-length}
use Rattle.mt_live.proofs.transactions.Transaction.last_place.Goals as goal

pub returns-clause-within : goal.returns-clause-within
returns-clause-within c =
    let each : length c.self.inside.roles.items ≡ length c.self.inside.calls.items = omega (arith, c.self.invariant.each) in
    let size = noted-length c.self.inside.calls.items c.self.inside.roles.items each in
    let seen = ap (λ (m : Member). length m.calls) c.self.view_is in
    let same : length c.deref.result.now ≡ length c.args.self.now.calls = ap length c.deref.ensures.value ∙ (sym size ∙ seen) in
    subst (λ n. IfSome c.last_place.result (λ at. at < n)) same c.last_place.ensures.within
