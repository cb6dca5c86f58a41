use Rattle.std.proofs.Common.{inl, inr, arith}
use Rattle.std.proofs.lemmas.Bool.{cases_lt}
use Rattle.mt_page_rules.specs.Checks.{AreListedAt}
use Rattle.mt_page_rules.proofs.Checked.{each_more, listed_past}
use Rattle.mt_page_rules.proofs.page_rules.AllPages.has_listed.Goals as goal

pub loop-slot-preserved : goal.loop-slot-preserved
loop-slot-preserved c = each_more (AreListedAt c.args.self.now.pages.items c.args.page) c.loop-slot.slot c.loop-slot.invariant c.if-not-is_listed.ensures

pub returns : goal.returns
returns c = λ records s. elim (cases_lt s 1022) [
  | inl low ↦ c.loop-slot.invariant s (let past = c.loop-slot-test.false in omega (arith, low, past))
  | inr past ↦ listed_past c.args.self.now.pages.items c.requires.known.0 c.args.page s c.requires.known.1.records c.requires.inside records past
]
