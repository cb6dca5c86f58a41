use Rattle.std.proofs.Common.{◌+◌, sym, subst, arith}
use Rattle.mt_restart.proofs.ImageRecords.{AreImagesBelow, images_all, marked_one, unmarked}
use Rattle.mt_restart.proofs.first_images.images_of.Goals as goal
use Rattle.mt_restart.proofs.first_images.images_of.Goals.{then-marked-page+in_ok-image+in_ok-push, else-marked-page}

pub loop-page-preserved : goal.loop-page-preserved
loop-page-preserved c =
    let page = c.loop-page.page in
    let pages = c.args.pages.now in
    let marked = c.args.marked.now in
    let lt = c.loop-page-test.true in
    let few = c.requires.few in
    elim c.if-marked-page.branch [
      | then-marked-page+in_ok-image+in_ok-push w ↦ subst (λ (v : _). AreImagesBelow (page + 1) pages marked v.items) (sym w.images-is)
          (marked_one page w.new.result pages marked c.loop-page.images.items w.push.new.self.items w.in_ok-image.image (omega arith) (c.told-pages page lt) w.if-marked-page.true w.new.ensures w.in_ok-image.ensures
          w.in_ok-push.ensures.items c.loop-page.invariant)
      | else-marked-page w ↦ subst (λ (v : _). AreImagesBelow (page + 1) pages marked v.items) (sym w.images-is) (unmarked page pages marked c.loop-page.images.items w.if-marked-page.false c.loop-page.invariant)
    ]

pub returns-clause-images : goal.returns-clause-images
returns-clause-images c = let end = c.loop-page-test.false in images_all c.loop-page.page c.args.pages.now c.args.marked.now c.loop-page.images.items (omega arith) c.loop-page.invariant
