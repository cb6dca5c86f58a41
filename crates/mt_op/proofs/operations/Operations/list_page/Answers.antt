use Rattle.std.proofs.Common.{ℕ, List, ap, arith, get_or, sym, ◌∙◌}
use Rattle.mt_op.proofs.Surveyed.{idle_steady, kind_of, reads_none, shaped_page}
use Rattle.mt_op.specs.Operations.{world}
use Rattle.mt_op.specs.World.{held_in}
use Rattle.mt_steps.proofs.Listed.{skip_page}
use Rattle.mt_op.proofs.operations.Operations.list_page.Goals as goal

pub bounds-deref-from : goal.bounds-deref-from
bounds-deref-from g c =
    let few = (idle_steady g.D.Device c.args.self.now c.requires.idle).few in
    let inside = c.requires.inside in let same = c.from.ensures in omega arith

pub returns-then-deref-from-ne-RECORDS-clause-listed : goal.returns-then-deref-from-ne-RECORDS-clause-listed
returns-then-deref-from-ne-RECORDS-clause-listed g c = λ opening relations counters right was.
    let D = g.D.Device in let o = c.args.self.now in
    skip_page (held_in (world D opening o)) c.args.page c.args.rows.now.items
    (λ records. c.if-deref-from-ne-RECORDS.true (ap (λ (bytes : List ℕ). get_or bytes c.from.result 0) c.deref.ensures ∙ sym (kind_of D opening relations counters o c.args.page c.from.result right (c.from.ensures ∙ c.get.ensures)) ∙ records)) was

pub returns-then-deref-from-ne-RECORDS-clause-read : goal.returns-then-deref-from-ne-RECORDS-clause-read
returns-then-deref-from-ne-RECORDS-clause-read g c = reads_none g.D.Device g.met.D.Device.only_now c.args.self.now

pub list_rows-requires : goal.list_rows-requires
list_rows-requires g c =
    let D = g.D.Device in let o = c.args.self.now in
    record {
      shaped = shaped_page D o c.args.page c.in_ok-bytes.bytes c.in_ok-bytes.ensures.held
          (ap (λ (i : ℕ). get_or o.map.kinds.value i 0) (sym (c.from.ensures ∙ c.get.ensures)) ∙ ap (λ (bytes : List ℕ). get_or bytes c.from.result 0) (sym c.deref.ensures) ∙ c.if-deref-from-ne-RECORDS.false) c.requires.idle;
    }

pub returns-clause-listed : goal.returns-clause-listed
returns-clause-listed g c = λ opening relations counters right was.
    let D = g.D.Device in let o = c.args.self.now in let good = right.sound.good in
    c.in_ok-list_rows.ensures.listed (held_in (world D opening o)) c.args.page good.meaning (sym (c.in_ok-bytes.ensures.held opening relations counters right))
    (kind_of D opening relations counters o c.args.page c.from.result right (c.from.ensures ∙ c.get.ensures) ∙ ap (λ (bytes : List ℕ). get_or bytes c.from.result 0) (sym c.deref.ensures) ∙ c.if-deref-from-ne-RECORDS.false) good.rows.named was
