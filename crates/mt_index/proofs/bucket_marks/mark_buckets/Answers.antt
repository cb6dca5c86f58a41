use Rattle.std.proofs.Common.{◌≡◌, ◌≢◌, ◌<◌, ◌^◌, ◌∙◌, ℕ, List, length, get_or, ap, subst, arith}
use Rattle.mt_index.specs.Pages.{depth_in, pointer_at}
use Rattle.mt_index.specs.Checks.{IsMarked, Marks, IsStuck}
use Rattle.mt_space.specs.PageLists.{bytes_of}
use Rattle.mt_index.proofs.Marks.{marked_more}
use Rattle.mt_index.proofs.Pointers.{in_directory}
use Rattle.mt_index.proofs.Sounds.{sound_walks, pointer_real}
use Rattle.mt_index.proofs.Breaking.{stuck_astray}
use Rattle.mt_index.proofs.bucket_marks.mark_buckets.Goals as goal

pub returns-in-Some-clause-done : goal.returns-in-Some-clause-done
returns-in-Some-clause-done c =
    let pages = bytes_of c.args.pages.now in
    let i = c.loop-i.i in
    let named : c.pointer_of.result ≡ pointer_at (pages 1) i = c.pointer_of.ensures ∙ ap (λ (d : List ℕ). pointer_at d i) (c.page_at-directory.ensures.is ∙ ap pages c.new.ensures) in
    let there : i < 2 ^ depth_in (pages 1) = in_directory i c.depth.result (depth_in (pages 1)) (c.depth.ensures ∙ ap depth_in (c.page_at-directory.ensures.is ∙ ap pages c.new.ensures)) (omega arith) c.loop-i-test.true in
    let done = c.in-Some.ensures.done in
    let unmarked = subst (λ (b : ℕ). get_or c.loop-i.homes b 0 ≢ b) named done.0 in
    let stuck = subst (λ (b : ℕ). IsStuck (length c.args.pages.now) pages c.loop-i.homes b c.in-Some.page) named done.1 in (
      stuck_astray (length c.args.pages.now) pages c.loop-i.homes i i c.in-Some.page c.loop-i.invariant.marked (omega (arith, there)) there
          (λ j lt. pointer_real (length c.args.pages.now) pages c.requires.kinds j (c.requires.pointers j (omega (arith, lt, there)))) unmarked stuck,
      λ relations x. sound_walks relations (length c.args.pages.now) pages x c.loop-i.homes i i c.in-Some.page c.loop-i.invariant.marked (omega (arith, there)) there unmarked stuck,
    )

pub loop-i-preserved : goal.loop-i-preserved
loop-i-preserved c =
    let pages = bytes_of c.args.pages.now in
    let i = c.loop-i.i in
    let named : c.pointer_of.result ≡ pointer_at (pages 1) i = c.pointer_of.ensures ∙ ap (λ (d : List ℕ). pointer_at d i) (c.page_at-directory.ensures.is ∙ ap pages c.new.ensures) in
    let there : i < 2 ^ depth_in (pages 1) = in_directory i c.depth.result (depth_in (pages 1)) (c.depth.ensures ∙ ap depth_in (c.page_at-directory.ensures.is ∙ ap pages c.new.ensures)) (omega arith) c.loop-i-test.true in
    let outcome = c.in_default.ensures in
    record {
      size = outcome.size ∙ c.loop-i.invariant.size;
      marked = marked_more pages c.loop-i.homes c.mark_bucket.new.homes i c.loop-i.invariant.marked
          (subst (λ (b : ℕ). IsMarked pages c.mark_bucket.new.homes b) named outcome.done) (subst (λ (b : ℕ). Marks pages b c.loop-i.homes c.mark_bucket.new.homes) named outcome.marks)
          (λ j lt. pointer_real (length c.args.pages.now) pages c.requires.kinds j (c.requires.pointers j (omega (arith, lt, there))));
    }
