use Rattle.std.proofs.Common.{◌≡◌, ◌++◌, take, drop, length, ap, ◌∙◌, arith}
use Rattle.mt_live.specs.Members.{Member, noted_calls, settle_calls, settled_at}
use Rattle.mt_live.specs.Roles.{settle_roles}
use Rattle.mt_live.proofs.Noting.{noted-settle, written_roles}
use Rattle.mt_live.proofs.transactions.Transaction.settle.Goals as goal

pub returns : goal.returns
returns c =
    let old = c.self.inside.roles.items in
    let new = c.settle.new.roles in
    let whole : take c.self.inside.roles.len (new ++ drop (length new) old) ≡ new = written_roles c.self.inside.roles.len old new (omega arith) (omega arith) in
    let roles : take c.self.inside.roles.len (new ++ drop (length new) old) ≡ settle_roles c.args.first old = whole ∙ (c.settle.ensures ∙ ap (settle_roles c.args.first) c.deref_mut.ensures.value) in
    let calls : noted_calls c.self.inside.calls.items (take c.self.inside.roles.len (new ++ drop (length new) old)) ≡ settle_calls c.args.first (noted_calls c.self.inside.calls.items old) =
    ap (noted_calls c.self.inside.calls.items) roles ∙ noted-settle c.args.first c.self.inside.calls.items old in
    (λ i. record { number = c.self.inside.number; session = c.self.inside.session; state = c.self.inside.state; calls = calls i; operations = c.self.inside.operations.items; has_room = c.self.inside.has_room })
    ∙ ap (λ (m : Member). settled_at c.args.first m) c.self.view_is
