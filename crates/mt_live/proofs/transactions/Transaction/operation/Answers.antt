use Rattle.std.proofs.lemmas.List.{get_or_default}
use Rattle.std.proofs.Common.{◌≡◌, ◌<◌, length, get_or, ap, ◌∙◌, arith}
use Rattle.mt_live.specs.Members.{Member}
use Rattle.mt_live.proofs.Noting.{noted-length}
use Rattle.mt_live.proofs.transactions.Transaction.operation.Goals as goal

pub index-requires : goal.index-requires
index-requires c =
    let each : length c.self.inside.roles.items ≡ length c.self.inside.calls.items = omega (arith, c.self.invariant.each) in
    let size = noted-length c.self.inside.calls.items c.self.inside.roles.items each in
    let seen = ap (λ (m : Member). length m.calls) c.self.view_is in
    omega (arith, size, seen, c.requires, c.self.invariant.both)

pub returns : goal.returns
returns c = λ d.
    let each : length c.self.inside.roles.items ≡ length c.self.inside.calls.items = omega (arith, c.self.invariant.each) in
    let size = noted-length c.self.inside.calls.items c.self.inside.roles.items each in
    let seen = ap (λ (m : Member). length m.calls) c.self.view_is in
    let within : c.args.at < length c.self.inside.operations.items = omega (arith, size, seen, c.requires, c.self.invariant.both) in
    c.index.ensures ∙ (get_or_default c.self.inside.operations.items c.args.at c.index.result.now d within ∙ ap (λ (m : Member). get_or m.operations c.args.at d) c.self.view_is)
