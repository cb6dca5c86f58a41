use Rattle.std.proofs.Common.{arith, ◌<◌, [], length, take, ap, sym, ◌∙◌, add-one}
use Rattle.mt_log.specs.Batch.{joined}
use Rattle.mt_log.specs.Found.{records_of}
use Rattle.mt_log.specs.declared.batch.Batch.{Batch}
use Rattle.mt_explain.proofs.HistoryLemmas.{batch_more}
use Rattle.mt_explain.specs.Explanations.{note_all, unfinished}
use Rattle.mt_explain.proofs.unfinished.unfinished_of.Goals as goal

pub loop-batch-preserved : goal.loop-batch-preserved
loop-batch-preserved c =
    let all = c.args.batches.now in
    let i = c.loop-batch.batch-index in
    let one = c.batch-item.result in
    let before = unfinished (joined (records_of (take i all))) in
    let lt : i < length all = omega arith in
    rw add-one
    (c.in_ok-note_batch.ensures ∙ ap (note_all c.loop-batch.list.items) c.as_slice.ensures.value ∙ ap (λ us. note_all us one.records.items) c.loop-batch.invariant
    ∙ sym (batch_more [] all i one lt ∙ ap (λ (b : Batch). note_all before b.records.items) (sym c.batch-item.is)))
