use Rattle.std.proofs.Common.{◌≢◌, ◌∙◌, ap, arith}
use Rattle.std.proofs.lemmas.Bool.Decides.{nat_tests}
use Rattle.mt_overlay.specs.declared.overlay.PageCopy.{PageCopy}
use Rattle.mt_overlay.proofs.Overlaid.{uncopied_more}
use Rattle.mt_overlay.proofs.overlay.place_of.Goals as goal

pub loop-i-preserved : goal.loop-i-preserved
loop-i-preserved c =
    let ne : c.index-copies-i.result.page ≢ c.args.page = grind (arith, nat_tests) in
    uncopied_more c.args.copies.now c.loop-i.i c.args.page c.index-copies-i.result c.loop-i-test.true c.loop-i.invariant (λ e. ne (ap (λ (x : PageCopy). x.page) c.index-copies-i.is ∙ e))
