use Rattle.std.proofs.Common.{◌≡◌, length, map, ap, sym, ◌∙◌, arith}
use Rattle.mt_live.specs.Members.{Member, plain_call}
use Rattle.mt_live.proofs.Noting.{noted-calls}
use Rattle.mt_live.proofs.transactions.Transaction.into_committed.Goals as goal

pub returns : goal.returns
returns c =
    let each : length c.self.inside.roles.items ≡ length c.self.inside.calls.items = omega (arith, c.self.invariant.each) in
    let calls : c.new.result ≡ map plain_call c.args.self.calls =
    c.new.ensures ∙ (sym (noted-calls c.self.inside.calls.items c.self.inside.roles.items each) ∙ ap (λ (m : Member). map plain_call m.calls) c.self.view_is) in
    let session : c.self.inside.session ≡ c.args.self.session = ap (λ (m : Member). m.session) c.self.view_is in
    (λ i. record { session = session i; calls = calls i })
