use Rattle.mt_page_rules.specs.Naming.{AreNamed}
use Rattle.mt_page_rules.proofs.page_rules.AllPages.named_slots.Given as goal

abbrev pub invariant-loop-page : goal.invariant-loop-page
invariant-loop-page l = AreNamed l.self.pages.items l.page l.marks.items
