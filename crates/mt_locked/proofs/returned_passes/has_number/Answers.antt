use Rattle.std.proofs.Common.{ap, arith, refl, sym, ◌∙◌}
use Rattle.mt_locked.specs.Seen.{PassSeen}
use Rattle.mt_locked.proofs.Counts.{none_at_all, none_so_far, number_at}
use Rattle.mt_locked.proofs.returned_passes.has_number.Goals as goal

pub returns-then-pass-number : goal.returns-then-pass-number
returns-then-pass-number g c = (
  λ _. number_at c.args.number c.args.passes.now c.passes.pass-index c.pass-item.result c.passes-test.true
      (ap (λ (p : PassSeen). p.number) (sym c.pass-item.is) ∙ (ap (λ (p : PassSeen). p.number) (sym c.pass.view_is) ∙ c.if-pass-number.true)),
  λ _. refl,
)

pub passes-preserved : goal.passes-preserved
passes-preserved g c = none_so_far c.args.number c.args.passes.now c.passes.pass-index c.pass-item.result c.passes-test.true
    (λ is. c.if-pass-number.false (ap (λ (p : PassSeen). p.number) c.pass.view_is ∙ (ap (λ (p : PassSeen). p.number) c.pass-item.is ∙ is))) c.passes.invariant

pub returns : goal.returns
returns g c = (λ is. absurd (cc), λ has. absurd (none_at_all c.args.number c.args.passes.now c.passes.pass-index (let over = c.passes-test.false in omega arith) c.passes.invariant has))
