use Rattle.std.proofs.Common.{◌∙◌, sym, ap, arith}
use Rattle.mt_bucket.specs.Page.{next_of}
use Rattle.mt_index.specs.Checks.{IsMisplaced}
use Rattle.mt_space.specs.PageLists.{bytes_of}
use Rattle.mt_index.proofs.Settled.{holder_empty, passed_end, walking_start, walking_inside, walking_kind, walking_more, walking_all, none_follows}
use Rattle.mt_index.proofs.entry_rules.find_misplaced.Goals as goal

pub loop-step-init : goal.loop-step-init
loop-step-init c = walking_start _ _ c.requires.marked.0 _ _ c.requires.kinds c.requires.marked.1 (holder_empty c.new-holders.result c.new-holders.ensures.empty)

pub returns-then-get-eq0 : goal.returns-then-get-eq0
returns-then-get-eq0 c = passed_end _ _ _ _ c.loop-step.invariant.passed (sym c.get.ensures ∙ c.if-get-eq0.true)

pub pass-requires-clause-inside : goal.pass-requires-clause-inside
pass-requires-clause-inside c = walking_inside _ _ _ _ _ _ c.loop-step.invariant (λ e. c.if-get-eq0.false (c.get.ensures ∙ e))

pub pass-requires-clause-bucket : goal.pass-requires-clause-bucket
pass-requires-clause-bucket c = (c.requires.buckets.0, c.requires.buckets.1 c.loop-step.at (walking_kind _ _ _ _ _ _ c.loop-step.invariant (λ e. c.if-get-eq0.false (c.get.ensures ∙ e))))

pub page_at-requires-clause-inside : goal.page_at-requires-clause-inside
page_at-requires-clause-inside c = walking_inside _ _ _ _ _ _ c.loop-step.invariant (λ e. c.if-get-eq0.false (c.get.ensures ∙ e))

pub loop-step-preserved : goal.loop-step-preserved
loop-step-preserved c = walking_more _ _ _ _ _ _ _ _ c.loop-step.invariant (λ e. c.if-get-eq0.false (c.get.ensures ∙ e)) (c.next-at.ensures ∙ ap next_of c.page_at.ensures.is) (none_follows (λ p. IsMisplaced (bytes_of c.args.pages.now) c.args.bucket p) c.in_ok-page.field-0 c.in_default.is c.in_ok-page.ensures)

pub returns : goal.returns
returns c =
    let end = c.loop-step.auto._step-end in
    let last = c.loop-step-test.false in
    passed_end _ _ _ _ c.loop-step.invariant.passed (walking_all _ _ _ _ _ _ c.loop-step.invariant (omega (arith, end, last)))
