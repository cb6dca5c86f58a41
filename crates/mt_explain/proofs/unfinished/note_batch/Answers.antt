use Rattle.std.proofs.Common.{arith, ◌<◌, length, take, ap, sym, ◌∙◌, add-one}
use Rattle.mt_explain.proofs.HistoryLemmas.{note_more}
use Rattle.mt_explain.specs.Explanations.{note_all, noted}
use Rattle.mt_explain.proofs.unfinished.note_batch.Goals as goal

pub loop-entry-preserved : goal.loop-entry-preserved
loop-entry-preserved c =
    let all = c.args.records.now in
    let i = c.loop-entry.entry-index in
    let one = c.entry-item.result in
    let first = c.args.list.now.items in
    let lt : i < length all = omega arith in
    rw add-one
    (c.in_ok-note.ensures ∙ ap (λ us. noted us one) c.loop-entry.invariant ∙ sym (note_more first all i one lt ∙ ap (λ r. noted (note_all first (take i all)) r) (sym c.entry-item.is)))
