use Rattle.std.proofs.Common.{◌≡◌, set, length, ap, ◌∙◌, arith}
use Rattle.mt_live.specs.declared.transactions.Role.TheVariants.{TakenBack}
use Rattle.mt_live.specs.Members.{Member, noted_calls, set_role, with_role_at}
use Rattle.mt_live.proofs.Noting.{noted-length, noted-set}
use Rattle.mt_live.proofs.transactions.Transaction.mark.Goals as goal

pub index_mut-requires : goal.index_mut-requires
index_mut-requires c =
    let each : length c.self.inside.roles.items ≡ length c.self.inside.calls.items = omega (arith, c.self.invariant.each) in
    let size = noted-length c.self.inside.calls.items c.self.inside.roles.items each in
    let seen = ap (λ (m : Member). length m.calls) c.self.view_is in
    omega (arith, size, seen, c.requires, c.self.invariant.each)

pub returns : goal.returns
returns c =
    let calls : noted_calls c.self.inside.calls.items (set c.self.inside.roles.items c.args.at TakenBack) ≡ set_role (noted_calls c.self.inside.calls.items c.self.inside.roles.items) c.args.at TakenBack =
    noted-set c.args.at c.self.inside.calls.items c.self.inside.roles.items TakenBack in
    (λ i. record { number = c.self.inside.number; session = c.self.inside.session; state = c.self.inside.state; calls = calls i; operations = c.self.inside.operations.items; has_room = c.self.inside.has_room })
    ∙ ap (λ (m : Member). with_role_at m c.args.at TakenBack) c.self.view_is
