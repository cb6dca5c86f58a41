use Rattle.std.proofs.Common.{◌≡◌, ◌<◌, ℕ, length, subst, arith}
use Rattle.mt_page_rules.specs.Checks.{HasListed}
use Rattle.mt_page_rules.proofs.Checked.{each_more}
use Rattle.mt_page_rules.proofs.page_rules.AllPages.first_unlisted.Goals as goal

pub loop-number-preserved : goal.loop-number-preserved
loop-number-preserved c = each_more (HasListed c.args.self.now.pages.items) c.loop-number.number c.loop-number.invariant c.if-not-has_listed.ensures

pub returns-then-not-has_listed : goal.returns-then-not-has_listed
returns-then-not-has_listed c =
    let items = c.args.self.now.pages.items in
    let below : c.loop-number.number < length items = (let test = c.loop-number-test.true in let long = c.len-number-end.ensures in omega arith) in
    let is : c.new.result ≡ c.loop-number.number = (let few = c.args.self.now.few in let new = c.new.ensures in omega arith) in
    (omega (arith, below, is), λ fine. c.if-not-has_listed.ensures (subst (λ (p : ℕ). HasListed items p) is fine))

pub returns : goal.returns
returns c = λ p lt. c.loop-number.invariant p (let past = c.loop-number-test.false in let long = c.len-number-end.ensures in omega (arith, lt, past, long))
