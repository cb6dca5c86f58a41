use Rattle.std.proofs.Common.{◌∙◌, ◌∷◌, [], Bool, cond, sym, ap, subst}
use Rattle.std.proofs.lemmas.Bool.{ne_eqb}
use Rattle.mt_frame.specs.Grammar.{txn_of}
use Rattle.mt_frame.specs.declared.records.Record.{Record}
use Rattle.mt_steps.specs.Repeated.{Change, changed, repeated}
use Rattle.mt_replay.specs.Passes.{Repeats}
use Rattle.mt_replay.proofs.Restoring.{repeats_same}
use Rattle.mt_replay.proofs.repeat.Repeating.repeat_one.Goals as goal

pub returns-in_ok-change-in-Page-2-clause-repeated : goal.returns-in_ok-change-in-Page-2-clause-repeated
returns-in_ok-change-in-Page-2-clause-repeated c =
    let p = c.in-Page-2 in
    let one : Change = record { op = p.op; page = p.page; start = p.start; old = p.old; new = p.new } in
    let page_is = c.get-in-Page-2.ensures in
    let old_is = c.as_slice.ensures in
    let new_is = c.as_slice-in-Page-2.ensures in
    repeats_same (λ x. changed x (record { op = p.op; page = c.get-in-Page-2.result; start = p.start; old = c.as_slice.result.now; new = c.as_slice-in-Page-2.result.now } ∷ [])) (λ x. repeated x c.args.entry.now) c.args.self.now c.change.new.self
    (λ x.
    (λ i. changed x (record { op = p.op; page = page_is i; start = p.start; old = old_is i; new = new_is i } ∷ []))
    ∙ sym (ap (λ (b : Bool). cond b x (changed x (one ∷ []))) (ne_eqb p.txn 0 (λ e. c.if-get-eq0.false (c.get.ensures ∙ sym (ap txn_of c.in-Page.is) ∙ ap txn_of c.in-Page-2.is ∙ e))))
    ∙ sym (ap (repeated x) p.is))
    c.in_ok-change-in-Page-2.ensures

pub returns-in-OpEnd-clause-repeated : goal.returns-in-OpEnd-clause-repeated
returns-in-OpEnd-clause-repeated c = subst (λ (r : Record). Repeats (λ x. repeated x r) c.args.self.now c.finish.new.self) (sym c.in-OpEnd.is) c.finish.ensures

pub returns-in-OpDropped-clause-repeated : goal.returns-in-OpDropped-clause-repeated
returns-in-OpDropped-clause-repeated c = subst (λ (r : Record). Repeats (λ x. repeated x r) c.args.self.now c.drop_back.new.self) (sym c.in-OpDropped.is) c.drop_back.ensures
