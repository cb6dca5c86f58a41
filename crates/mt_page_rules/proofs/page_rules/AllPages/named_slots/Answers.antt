use Rattle.std.proofs.Common.{◌+◌, ◌<◌, List, Bool, Global, Vec, length, ap, sym, subst, arith}
use Rattle.mt_bucket.specs.Page.{count_of}
use Rattle.mt_space.specs.PageLists.{bytes_of}
use Rattle.mt_page_rules.specs.Naming.{AreNamed, MarksNamed}
use Rattle.mt_page_rules.proofs.Naming.{named_more, named_other}
use Rattle.mt_page_rules.proofs.page_rules.AllPages.named_slots.Goals as goal
use Rattle.mt_page_rules.proofs.page_rules.AllPages.named_slots.Goals.{then-is_of_kind, else-is_of_kind}

pub loop-page-preserved : goal.loop-page-preserved
loop-page-preserved c =
    let items = c.args.self.now.pages.items in
    let q = c.loop-page.page in
    let n = count_of (bytes_of items q) in
    let old = c.loop-page.marks.items in
    let new = c.if-is_of_kind.marks.items in
    let inside : q < length items = let test = c.loop-page-test.true in let long = c.len-page-end.ensures in omega arith in
    elim c.if-is_of_kind.branch [
      | then-is_of_kind w ↦ named_more items q old new c.loop-page.invariant w.if-is_of_kind.ensures.1
          (subst (λ (x : List Bool). MarksNamed items q n old x) (sym (ap (λ (v : Vec Bool Global). v.items) w.marks-is)) w.mark_named.ensures)
      | else-is_of_kind w ↦ subst (λ (x : List Bool). AreNamed items (q + 1) x) (sym (ap (λ (v : Vec Bool Global). v.items) w.marks-is)) (named_other items q old c.loop-page.invariant (w.if-is_of_kind.ensures inside))
    ]
