use Rattle.std.proofs.Common.{◌≡◌, ℕ, sym, ◌∙◌, subst, arith, refl, inr}
use Rattle.mt_index.specs.Rule.{IsFull}
use Rattle.mt_index.specs.Pages.{state_of}
use Rattle.mt_index.proofs.Passing.{passed_on, passed_start, passed_more, passed_kind, passed_ends, full_is, room_is, no_step, some_step}
use Rattle.mt_index.proofs.chain.room_in.Goals as goal

pub loop-step-init : goal.loop-step-init
loop-step-init g c pages agree m a = passed_start (IsFull (state_of pages)) (g.V.Pages.total c.args.views.now) pages m c.args.key.now c.in-Some.directory.now c.hash.result c.pointer-at.result a
    (subst (λ (p : ℕ). pages p ≡ c.in-Some.directory.now) c.new.ensures (agree c.new.result c.in-Some.directory.now c.in-Some.ensures.some)) c.hash.ensures c.pointer-at.ensures

pub returns-in_default-page : goal.returns-in_default-page
returns-in_default-page g c = record {
  missing = c.in_default-page.ensures.none;
  role = λ pages agree m a. inr (passed_kind (IsFull (state_of pages)) (g.V.Pages.total c.args.views.now) pages m c.args.key.now c.loop-step.at c.loop-step.step a (c.loop-step.invariant pages agree m a), refl, passed_on (IsFull (state_of pages)) pages c.args.key.now c.loop-step.at c.loop-step.step (c.loop-step.invariant pages agree m a));
}

pub returns-then-count-lt-MAX_ENTRIES : goal.returns-then-count-lt-MAX_ENTRIES
returns-then-count-lt-MAX_ENTRIES g c pages agree m a = record {
  steps = c.loop-step.step;
  passed = c.loop-step.invariant pages agree m a;
  room = rw (agree c.loop-step.at c.in-Some-page.page.now c.in-Some-page.ensures.some) (room_is c.in-Some-page.page.now c.count.result c.count.ensures c.if-count-lt-MAX_ENTRIES.true);
}

pub returns-then-get-eq0 : goal.returns-then-get-eq0
returns-then-get-eq0 g c pages agree m a =
    let here = agree c.loop-step.at c.in-Some-page.page.now c.in-Some-page.ensures.some in record {
      steps = c.loop-step.step;
      passed = c.loop-step.invariant pages agree m a;
      full = rw here (full_is c.in-Some-page.page.now c.count.result c.count.ensures c.if-count-lt-MAX_ENTRIES.false);
      last = rw here (sym c.next-behind.ensures ∙ sym c.get.ensures ∙ c.if-get-eq0.true);
      one = λ e. no_step c.loop-step.step e;
      more = λ e. some_step c.loop-step.step e;
    }

pub loop-step-preserved : goal.loop-step-preserved
loop-step-preserved g c pages agree m a =
    let here = agree c.loop-step.at c.in-Some-page.page.now c.in-Some-page.ensures.some in
    passed_more (IsFull (state_of pages)) pages c.args.key.now c.loop-step.at c.next-behind.result c.loop-step.step c.in-Some-page.page.now (c.loop-step.invariant pages agree m a)
    here (rw here (full_is c.in-Some-page.page.now c.count.result c.count.ensures c.if-count-lt-MAX_ENTRIES.false)) c.next-behind.ensures (λ e. c.if-get-eq0.false (c.get.ensures ∙ e))

pub returns : goal.returns
returns g c pages agree m a =
    passed_ends (IsFull (state_of pages)) (g.V.Pages.total c.args.views.now) pages m c.args.key.now c.loop-step.at c.loop-step.step a (c.loop-step.invariant pages agree m a)
    (let last = c.loop-step-test.false in let end = c.count-step-end.ensures in omega arith)
