use Rattle.std.proofs.Common.{◌<◌, ℕ, Bool, inl, inr, refl, subst, arith}
use Rattle.std.proofs.lemmas.Bool.{both_ways}
use Rattle.mt_bucket.specs.Page.{depth_of}
use Rattle.mt_index.specs.Rule.{IsFull}
use Rattle.mt_index.specs.Pages.{state_of}
use Rattle.mt_index.specs.Answers.{IsEnd}
use Rattle.mt_index.proofs.Passing.{passed_on, passed_kind}
use Rattle.mt_index.proofs.Ruling.{due, no_several, no_deep}
use Rattle.mt_index.proofs.insertion_plan.plan_by_rule.Goals as goal
use Rattle.mt_index.proofs.insertion_plan.plan_by_rule.Goals.{else-split-via-then-split+then-alone+else-depth-lt-MAX_DEPTH, else-split-via-then-split+else-alone, else-split-via-else-split}

pub returns-in-Need : goal.returns-in-Need
returns-in-Need g c = record { missing = c.in-Need.ensures.missing; role = λ pages agree m a. inl (c.in-Need.ensures.role pages agree m a) }

pub returns-in-In : goal.returns-in-In
returns-in-In g c = c.plan_put.ensures c.args.split

pub returns-in_default : goal.returns-in_default
returns-in_default g c = record {
  missing = c.in_default.ensures.none;
  role = λ pages agree m a. let end = c.in-Behind.ensures pages agree m a in
      inl (inr (passed_kind (IsFull (state_of pages)) (g.V.Pages.total c.args.views.now) pages m c.args.key.now c.in-Behind.last end.steps a end.passed, refl, passed_on (IsFull (state_of pages)) pages c.args.key.now c.in-Behind.last end.steps end.passed));
}

pub plan_split-requires-clause-due : goal.plan_split-requires-clause-due
plan_split-requires-clause-due g c pages agree m a =
    due pages c.args.key.now c.in-Behind.last (subst (λ (x : Bool). IsEnd c.args.key.now pages c.in-Behind.last x) c.if-alone.true (c.in-Behind.ensures pages agree m a))
    (rw (agree c.in-Behind.last c.in-Some.page.now c.in-Some.ensures.some) (subst (λ (x : ℕ). x < 9) c.depth.ensures c.if-depth-lt-MAX_DEPTH.true))

pub plan_chain-requires-clause-end : goal.plan_chain-requires-clause-end
plan_chain-requires-clause-end g c pages agree m a = (c.in-Behind.alone, c.in-Behind.ensures pages agree m a)

pub returns : goal.returns
returns g c = c.plan_chain.ensures c.args.split (λ pages agree m a is may. elim c.else-split.branch [
  | else-split-via-then-split+then-alone+else-depth-lt-MAX_DEPTH w ↦
      let shallow : depth_of c.in-Some.page.now < 9 = subst (λ x. depth_of x < 9) (agree c.in-Behind.last c.in-Some.page.now c.in-Some.ensures.some)
      (no_deep pages c.args.key.now c.in-Behind.last c.in-Behind.alone (c.in-Behind.ensures pages agree m a) may) in
      let deep = w.if-depth-lt-MAX_DEPTH.false in let depth = w.depth.ensures in omega (arith, shallow, deep, depth)
  | else-split-via-then-split+else-alone w ↦
      no_several pages c.args.key.now c.in-Behind.last (subst (λ (x : Bool). IsEnd c.args.key.now pages c.in-Behind.last x) w.if-alone.false (c.in-Behind.ensures pages agree m a)) may
  | else-split-via-else-split w ↦ both_ways c.args.split w.if-split.false is
])
