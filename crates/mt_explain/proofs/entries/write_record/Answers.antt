use Rattle.std.proofs.lemmas.Result.{err_from_is_err_and, on_err_weaker}
use Rattle.mt_script.proofs.TextLemmas.{front_whole}
use Rattle.mt_explain.proofs.ListingLemmas.{front_next}
use Rattle.mt_explain.specs.Explanations.{batch_start, entry_line}
use Rattle.mt_explain.proofs.entries.write_record.Goals as goal

pub returns-in_err-write_batch_start-clause-front : goal.returns-in_err-write_batch_start-clause-front
returns-in_err-write_batch_start-clause-front g c =
    let p = err_from_is_err_and c.from_residual.result c.from_residual.ensures.1 in
    rw p.1 (front_whole _ _ (batch_start c.args.number c.args.place) (entry_line c.args.entry.now) c.in_err-write_batch_start.ensures.front)

pub returns-clause-front : goal.returns-clause-front
returns-clause-front g c =
    on_err_weaker c.write_entry.result (λ front. front_next _ _ _ (batch_start c.args.number c.args.place) (entry_line c.args.entry.now) c.in_ok-write_batch_start.ensures.all front) c.write_entry.ensures.front
