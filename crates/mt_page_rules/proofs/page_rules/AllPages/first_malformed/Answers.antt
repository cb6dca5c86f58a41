use Rattle.std.proofs.Common.{◌≡◌, ◌<◌, ℕ, length, subst, arith}
use Rattle.mt_page_rules.specs.Checks.{IsRecordPage}
use Rattle.mt_page_rules.proofs.Checked.{each_more}
use Rattle.mt_page_rules.proofs.page_rules.AllPages.first_malformed.Goals as goal

pub loop-number-preserved : goal.loop-number-preserved
loop-number-preserved c = each_more (IsRecordPage c.args.self.now.format c.args.self.now.pages.items c.args.relations) c.loop-number.number c.loop-number.invariant c.if-not-is_record_page.ensures

pub returns-then-not-is_record_page : goal.returns-then-not-is_record_page
returns-then-not-is_record_page c =
    let items = c.args.self.now.pages.items in
    let below : c.loop-number.number < length items = (let test = c.loop-number-test.true in let long = c.len-number-end.ensures in omega arith) in
    let is : c.new.result ≡ c.loop-number.number = (let few = c.args.self.now.few in let new = c.new.ensures in omega arith) in
    (omega (arith, below, is), λ fine. c.if-not-is_record_page.ensures (subst (λ (p : ℕ). IsRecordPage c.args.self.now.format items c.args.relations p) is fine))

pub returns : goal.returns
returns c = λ p lt. c.loop-number.invariant p (let past = c.loop-number-test.false in let long = c.len-number-end.ensures in omega (arith, lt, past, long))
