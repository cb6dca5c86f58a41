use Rattle.mt_page_rules.specs.Naming.{MarksNamed}
use Rattle.mt_page_rules.proofs.page_rules.AllPages.mark_named.Given as goal

abbrev pub invariant-loop-i : goal.invariant-loop-i
invariant-loop-i l = MarksNamed l.self.pages.items l.page l.i l.fn.marks.items l.marks.items
