use Rattle.mt_restart.proofs.ImageRecords.{AreImagesBelow}
use Rattle.mt_restart.proofs.first_images.images_of.Given as goal

abbrev pub invariant-loop-page : goal.invariant-loop-page
invariant-loop-page l = AreImagesBelow l.page l.pages l.marked l.images.items
