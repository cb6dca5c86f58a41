use Rattle.std.proofs.Common.{◌≡◌, ◌<◌, length, get_or, ap, sym, ◌∙◌, arith}
use Rattle.mt_live.specs.Members.{Member, plain_call}
use Rattle.mt_live.proofs.Noting.{noted-length, noted-get}
use Rattle.mt_live.proofs.transactions.Transaction.call.Goals as goal

pub index-requires : goal.index-requires
index-requires c =
    let each : length c.self.inside.roles.items ≡ length c.self.inside.calls.items = omega (arith, c.self.invariant.each) in
    let size = noted-length c.self.inside.calls.items c.self.inside.roles.items each in
    let seen = ap (λ (m : Member). length m.calls) c.self.view_is in
    omega (arith, size, seen, c.requires)

pub returns : goal.returns
returns c = λ d.
    let each : length c.self.inside.roles.items ≡ length c.self.inside.calls.items = omega (arith, c.self.invariant.each) in
    let size = noted-length c.self.inside.calls.items c.self.inside.roles.items each in
    let seen = ap (λ (m : Member). length m.calls) c.self.view_is in
    let within : c.args.at < length c.self.inside.calls.items = omega (arith, size, seen, c.requires) in
    c.index.ensures
    ∙ (sym (noted-get c.args.at c.self.inside.calls.items c.self.inside.roles.items d c.index.result.now each within)
    ∙ ap (λ (m : Member). plain_call (get_or m.calls c.args.at d)) c.self.view_is)
