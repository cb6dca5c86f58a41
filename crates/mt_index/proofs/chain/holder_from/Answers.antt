use Rattle.std.proofs.Common.{◌+◌, ◌≤◌, sym, ◌∙◌, arith, refl, inr}
use Rattle.mt_index.specs.Answers.{Lacks}
use Rattle.mt_index.proofs.Passing.{passed_on, passed_more, passed_kind, passed_ends, nowhere_map}
use Rattle.mt_index.proofs.Searching.{passed_of}
use Rattle.mt_index.proofs.chain.holder_from.Goals as goal

pub loop-step-init : goal.loop-step-init
loop-step-init g c pages agree m a =
    let p = passed_of c.args.relation (g.V.Pages.total c.args.views.now) c.args.key.now pages m c.args.from a (c.requires.lacks pages agree m a) in
    let some : 0 ≤ p.0 = omega arith in
    (p.0, some, p.1)

pub returns-in_default : goal.returns-in_default
returns-in_default g c = record {
  holder = record {
    missing = c.in_default.ensures.none;
    role = λ pages agree m a. let p = c.loop-step.invariant pages agree m a in
        inr (passed_kind (Lacks c.args.relation c.args.key.now pages) (g.V.Pages.total c.args.views.now) pages m c.args.key.now c.loop-step.at p.0 a p.2, refl, passed_on (Lacks c.args.relation c.args.key.now pages) pages c.args.key.now c.loop-step.at p.0 p.2);
  };
  lacks = λ pages agree m a. let p = c.loop-step.invariant pages agree m a in ∣ (p.0, p.2) ∣₁;
}

pub returns-in-Some-find : goal.returns-in-Some-find
returns-in-Some-find g c = record {
  holder = (
    λ none. let some = c.in-Some.ensures.some in absurd cc,
    λ pages agree m a. let p = c.loop-step.invariant pages agree m a in record {
      steps = p.0;
      passed = p.2;
      here = rw (agree c.loop-step.at c.in-Some.page.now c.in-Some.ensures.some) (sym c.in-Some-find.ensures);
    },
  );
  lacks = tt;
}

pub returns-then-get-eq0 : goal.returns-then-get-eq0
returns-then-get-eq0 g c = record {
  holder = λ pages agree m a. let p = c.loop-step.invariant pages agree m a in
      nowhere_map (g.V.Pages.total c.args.views.now) pages m c.args.relation c.args.key.now c.loop-step.at p.0 c.in-Some.page.now a p.2
      (agree c.loop-step.at c.in-Some.page.now c.in-Some.ensures.some) c.in_default-find.ensures (sym c.next-behind.ensures ∙ sym c.get.ensures ∙ c.if-get-eq0.true);
  lacks = tt;
}

pub loop-step-preserved : goal.loop-step-preserved
loop-step-preserved g c pages agree m a =
    let here = agree c.loop-step.at c.in-Some.page.now c.in-Some.ensures.some in
    let p = c.loop-step.invariant pages agree m a in
    let far : c.loop-step._step ≤ p.0 = p.1 in
    let further : c.loop-step._step + 1 ≤ p.0 + 1 = omega (arith, far) in (
      p.0 + 1,
      further,
      passed_more (Lacks c.args.relation c.args.key.now pages) pages c.args.key.now c.loop-step.at c.next-behind.result p.0 c.in-Some.page.now p.2
          here (rw here (sym c.in_default-find.ensures)) c.next-behind.ensures (λ e. c.if-get-eq0.false (c.get.ensures ∙ e)),
    )

pub returns : goal.returns
returns g c = record {
  holder = λ pages agree m a. let p = c.loop-step.invariant pages agree m a in
      passed_ends (Lacks c.args.relation c.args.key.now pages) (g.V.Pages.total c.args.views.now) pages m c.args.key.now c.loop-step.at p.0 a p.2
      (let far : c.loop-step._step ≤ p.0 = p.1 in let last = c.loop-step-test.false in let end = c.count-step-end.ensures in omega (arith, far));
  lacks = tt;
}
