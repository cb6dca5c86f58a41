use Rattle.std.proofs.Common.{ℕ, set, ◌∙◌, sym, ap, arith}
use Rattle.mt_bucket.specs.Page.{depth_of, next_of}
use Rattle.mt_index.proofs.Marks.{marking_more, marking_marks, marking_done, marking_stuck}
use Rattle.mt_index.proofs.bucket_marks.mark_chain.Goals as goal

pub returns-then-get-eq0-clause-marks : goal.returns-then-get-eq0-clause-marks
returns-then-get-eq0-clause-marks c = marking_marks _ _ _ _ _ _ c.loop-step.invariant

pub returns-then-get-eq0-clause-done : goal.returns-then-get-eq0-clause-done
returns-then-get-eq0-clause-done c = marking_done _ _ _ _ _ _ c.loop-step.invariant (sym c.get.ensures ∙ c.if-get-eq0.true)

pub returns-then-not-is_next-clause-marks : goal.returns-then-not-is_next-clause-marks
returns-then-not-is_next-clause-marks c = marking_marks _ _ _ _ _ _ c.loop-step.invariant

pub returns-then-not-is_next-clause-done : goal.returns-then-not-is_next-clause-done
returns-then-not-is_next-clause-done c =
    marking_stuck _ _ _ _ _ _ _ _ c.loop-step.invariant (λ e. c.if-get-eq0.false (c.get.ensures ∙ e)) (c.depth-bits.ensures ∙ ap depth_of c.page_at.ensures.is) c.if-not-is_next.ensures

pub loop-step-preserved : goal.loop-step-preserved
loop-step-preserved c =
    let follows = c.if-not-is_next.ensures in
    let size = c.loop-step.invariant.size in
    marking_more _ _ _ _ _ _ _ _ _ c.loop-step.invariant (λ e. c.if-get-eq0.false (c.get.ensures ∙ e)) (omega (arith, follows.1, size, c.requires.size)) follows.0 follows.2 (c.depth-bits.ensures ∙ ap depth_of c.page_at.ensures.is) follows.3
    (ap (λ (i : ℕ). set c.loop-step.homes i c.get-in-loop-step.result) (c.from.ensures ∙ c.get-in-loop-step-2.ensures) ∙ ap (λ (b : ℕ). set c.loop-step.homes c.loop-step.at b) c.get-in-loop-step.ensures)
    (c.next-at.ensures ∙ ap next_of c.page_at-in-loop-step.ensures.is) (c.requires.nexts _ follows.0)

pub returns-then-get-eq0-2-clause-marks : goal.returns-then-get-eq0-2-clause-marks
returns-then-get-eq0-2-clause-marks c = marking_marks _ _ _ _ _ _ c.loop-step.invariant

pub returns-then-get-eq0-2-clause-done : goal.returns-then-get-eq0-2-clause-done
returns-then-get-eq0-2-clause-done c = marking_done _ _ _ _ _ _ c.loop-step.invariant (sym c.get-2.ensures ∙ c.if-get-eq0-2.true)

pub returns-else-get-eq0-2-clause-marks : goal.returns-else-get-eq0-2-clause-marks
returns-else-get-eq0-2-clause-marks c = marking_marks _ _ _ _ _ _ c.loop-step.invariant
