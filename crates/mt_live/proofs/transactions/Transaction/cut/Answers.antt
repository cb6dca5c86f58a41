use Rattle.std.proofs.Common.{◌≡◌, take, ap, ◌∙◌}
use Rattle.mt_live.specs.Members.{Member, noted_calls, cut_at}
use Rattle.mt_live.proofs.Noting.{noted-take}
use Rattle.mt_live.proofs.transactions.Transaction.cut.Goals as goal

pub returns : goal.returns
returns c =
    let calls : noted_calls c.truncate.new.self.items c.truncate-2.new.self.items ≡ take c.args.at (noted_calls c.self.inside.calls.items c.self.inside.roles.items) =
    ap (λ cs. noted_calls cs c.truncate-2.new.self.items) c.truncate.ensures.items
    ∙ (ap (noted_calls (take c.args.at c.self.inside.calls.items)) c.truncate-2.ensures.items
    ∙ noted-take c.args.at c.self.inside.calls.items c.self.inside.roles.items) in
    (λ i. record { number = c.self.inside.number; session = c.self.inside.session; state = c.self.inside.state; calls = calls i; operations = c.truncate-3.ensures.items i; has_room = c.self.inside.has_room })
    ∙ ap (λ (m : Member). cut_at m c.args.at) c.self.view_is
