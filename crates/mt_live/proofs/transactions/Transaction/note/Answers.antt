use Rattle.std.proofs.Common.{◌≡◌, ◌++◌, ◌∷◌, [], false, length, ap, ◌∙◌, arith}
use Rattle.mt_live.specs.Members.{Member, noted, noted_calls, with_noted}
use Rattle.mt_live.proofs.Noting.{noted-push}
use Rattle.mt_live.proofs.transactions.Transaction.note.Goals as goal

pub returns : goal.returns
returns c =
    let each : length c.self.inside.roles.items ≡ length c.self.inside.calls.items = omega (arith, c.self.invariant.each) in
    let calls : noted_calls c.push_reserved.new.self.items c.push_reserved-2.new.self.items ≡ noted_calls c.self.inside.calls.items c.self.inside.roles.items ++ noted c.args.role (c.args.op, c.args.reply) ∷ [] =
    ap (λ cs. noted_calls cs c.push_reserved-2.new.self.items) c.push_reserved.ensures.items
    ∙ (ap (noted_calls (c.self.inside.calls.items ++ (c.args.op, c.args.reply) ∷ [])) c.push_reserved-2.ensures.items
    ∙ noted-push c.self.inside.calls.items c.self.inside.roles.items (c.args.op, c.args.reply) c.args.role each) in
    (λ i. record { number = c.self.inside.number; session = c.self.inside.session; state = c.self.inside.state; calls = calls i; operations = c.push_reserved-3.ensures.items i; has_room = false })
    ∙ ap (λ (m : Member). with_noted m c.args.operation (noted c.args.role (c.args.op, c.args.reply))) c.self.view_is
