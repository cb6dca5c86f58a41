use Rattle.std.proofs.Common.{rules, arith, ap, ◌∙◌}
use Rattle.mt_mark.specs.Rule.{labelled}
use Rattle.mt_shared.proofs.Oks.{four_ok}
use Rattle.mt_shared.proofs.opened.marked.Goals as goal

pub returns : goal.returns
returns c = four_ok _ _ _ _ _ c.new.result c.new.ensures.end c.new.ensures.count c.new.ensures.seats c.new.ensures.made (λ r end count seats made.
    let book = ap (λ v. v.items) c.of-2.ensures ∙ c.in_ok-copy.ensures in
    record {
      base_is = end.1 ∙ c.of.ensures;
      confirmed = end.3;
      list = end.0 ∙ ap labelled book;
      book_is = end.2 ∙ book;
      many = (let n = count in let o = r.1.ok in omega arith);
      seats_are = λ k d h. let s = seats k d (let n = count in let o = r.1.ok in omega arith) in record { mark = s.mark; base = s.base; list = s.list; above = (let n = s.number in omega arith) };
      made = made;
    })

pub new-requires-clause-from : goal.new-requires-clause-from
new-requires-clause-from c = search rules
