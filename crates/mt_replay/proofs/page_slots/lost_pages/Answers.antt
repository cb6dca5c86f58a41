use Rattle.std.proofs.Common.{ℕ, Bool, [], false, get_or, arith}
use Rattle.mt_replay.specs.Marking.{FindsLost}
use Rattle.mt_replay.proofs.Walking.{each_more, length_more}
use Rattle.mt_replay.proofs.Marks.{lost_of}
use Rattle.mt_replay.proofs.page_slots.lost_pages.Goals as goal

pub loop-page-preserved : goal.loop-page-preserved
loop-page-preserved c =
    let was = c.loop-page.invariant in
    let lost = c.loop-page.lost.items in
    let page = c.loop-page.page in
    let pages = c.args.pages.now in
    let imaged = c.args.imaged.now in
    let found = c.args.found.now in
    record {
      size = length_more lost c.push.new.self.items c.is_lost.result page was.size c.in_ok-push.ensures.items;
      each = each_more (λ (p : ℕ) (b : Bool). FindsLost (get_or pages p []) (get_or imaged p false) (get_or found p []) b) lost c.push.new.self.items c.is_lost.result false page was.size c.in_ok-push.ensures.items was.each c.is_lost.ensures;
    }

pub returns : goal.returns
returns c = λ x are. lost_of c.args.pages.now c.args.found.now c.args.imaged.now c.loop-page.lost.items x c.loop-page.page (let end = c.loop-page-test.false in omega arith) c.loop-page.invariant.size c.loop-page.invariant.each are
