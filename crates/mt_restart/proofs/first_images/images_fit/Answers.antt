use Rattle.std.proofs.Common.{◌+◌, arith}
use Rattle.mt_restart.proofs.Sizes.{body_more, body_part}
use Rattle.mt_restart.proofs.first_images.images_fit.Goals as goal

pub loop-entry-preserved : goal.loop-entry-preserved
loop-entry-preserved c =
    let more = body_more c.args.images.now c.loop-entry.entry-index c.entry-item.result c.loop-entry-test.true c.entry-item.is in
    let was = c.loop-entry.invariant.sum in
    let size = c.length-size.ensures in
    let under = c.if-left-size.false in
    record { some = omega arith; sum = omega arith }

pub returns-then-left-size : goal.returns-then-left-size
returns-then-left-size c =
    let images = c.args.images.now in
    let i = c.loop-entry.entry-index in
    let more = body_more images i c.entry-item.result c.loop-entry-test.true c.entry-item.is in
    let part = body_part (i + 1) images in
    let size = c.length-size.ensures in
    (λ no. absurd (cc), λ fits. absurd (omega arith))
