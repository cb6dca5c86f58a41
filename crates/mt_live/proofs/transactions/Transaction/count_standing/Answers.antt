use Rattle.std.proofs.Common.{◌≡◌, length, ap, sym, ◌∙◌, arith}
use Rattle.mt_live.specs.Members.{Member, standing_count}
use Rattle.mt_live.specs.Roles.{standing_roles}
use Rattle.mt_live.specs.Entries.{is_standing}
use Rattle.mt_live.proofs.Noting.{noted-count}
use Rattle.mt_live.proofs.transactions.Transaction.count_standing.Goals as goal

pub returns : goal.returns
returns c =
    let each : length c.self.inside.roles.items ≡ length c.self.inside.calls.items = omega (arith, c.self.invariant.each) in
    c.count_standing.ensures.count
    ∙ (ap standing_roles c.deref.ensures.value
    ∙ (sym (noted-count is_standing c.self.inside.calls.items c.self.inside.roles.items each)
    ∙ ap (λ (m : Member). standing_count m.calls) c.self.view_is))
