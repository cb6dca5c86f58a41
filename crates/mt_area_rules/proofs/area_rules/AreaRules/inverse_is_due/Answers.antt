use Rattle.std.proofs.Common.{◌≡◌, sym, ◌∙◌, arith, eqb, false}
use Rattle.std.proofs.lemmas.Bool.Decides.{nat_tests}
use Rattle.mt_area_rules.specs.History.{some_record, finishes, undoes_op}
use Rattle.mt_area_rules.proofs.RuleLaws.{due_of, not_due}
use Rattle.mt_area_rules.proofs.area_rules.AreaRules.inverse_is_due.Goals as goal

pub returns-then-contains : goal.returns-then-contains
returns-then-contains c = λ earlier k.
    let t = c.in-OpEnd.txn in
    let u = c.in-OpEnd.undoes in
    let some_op : eqb u 0 ≡ false = grind (arith, nat_tests) in
    let finished : c.contains.result ≡ some_record (finishes t u) earlier = c.contains.ensures ∙ rw c.get.ensures (k.finished t u) in
    let undone : c.contains-then-contains.result ≡ some_record (undoes_op t u) earlier = c.contains-then-contains.ensures ∙ rw c.get.ensures (k.undone t u) in
    rw c.in-OpEnd.is (due_of u c.contains.result c.contains-then-contains.result (some_record (finishes t u) earlier) (some_record (undoes_op t u) earlier) some_op c.if-contains.true (sym finished) undone)

pub returns-else-contains : goal.returns-else-contains
returns-else-contains c = λ earlier k.
    let t = c.in-OpEnd.txn in
    let u = c.in-OpEnd.undoes in
    let some_op : eqb u 0 ≡ false = grind (arith, nat_tests) in
    let finished : c.contains.result ≡ some_record (finishes t u) earlier = c.contains.ensures ∙ rw c.get.ensures (k.finished t u) in
    rw c.in-OpEnd.is (not_due u c.contains.result (some_record (finishes t u) earlier) (some_record (undoes_op t u) earlier) some_op c.if-contains.false (sym finished))
