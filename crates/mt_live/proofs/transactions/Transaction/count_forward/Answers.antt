use Rattle.std.proofs.Common.{◌≡◌, length, ap, sym, ◌∙◌, arith}
use Rattle.mt_live.specs.Members.{Member, forward_count}
use Rattle.mt_live.specs.Roles.{forward_roles}
use Rattle.mt_live.specs.Entries.{is_forward}
use Rattle.mt_live.proofs.Noting.{noted-count}
use Rattle.mt_live.proofs.transactions.Transaction.count_forward.Goals as goal

pub returns : goal.returns
returns c =
    let each : length c.self.inside.roles.items ≡ length c.self.inside.calls.items = omega (arith, c.self.invariant.each) in
    c.count_forward.ensures.count
    ∙ (ap forward_roles c.deref.ensures.value
    ∙ (sym (noted-count is_forward c.self.inside.calls.items c.self.inside.roles.items each)
    ∙ ap (λ (m : Member). forward_count m.calls) c.self.view_is))
