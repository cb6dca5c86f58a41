use Rattle.std.proofs.Common.{map}
use Rattle.std.specs.List.{concat}
use Rattle.std.proofs.KnownBytes.{Appends-trans}
use Rattle.std.proofs.lemmas.Result.{err_from_is_err_and, on_err_weaker}
use Rattle.mt_model.specs.Views.{counters_of, rows_of}
use Rattle.mt_script.proofs.TextLemmas.{front_whole}
use Rattle.mt_explain.proofs.ListingLemmas.{front_next}
use Rattle.mt_device_commands.specs.Dumps.{sizes_text}
use Rattle.mt_explain.specs.Listings.{counter_lines, row_line}
use Rattle.mt_device_commands.proofs.dump_command.write_dump.Goals as goal

pub returns-in_err-write_sizes-clause-front : goal.returns-in_err-write_sizes-clause-front
returns-in_err-write_sizes-clause-front g c =
    let s = c.args.survey.now in
    let p = err_from_is_err_and c.from_residual.result c.from_residual.ensures.1 in
    rw p.1 (front_whole _ _ _ (counter_lines (counters_of s.base)) (front_whole _ _ (sizes_text s) (concat (map row_line (rows_of s.base))) c.in_err-write_sizes.ensures.front))

pub returns-in_err-write_rows-clause-front : goal.returns-in_err-write_rows-clause-front
returns-in_err-write_rows-clause-front g c =
    let s = c.args.survey.now in
    let p = err_from_is_err_and c.from_residual-in_err-write_rows.result c.from_residual-in_err-write_rows.ensures.1 in
    let front = rw c.rows.ensures.rows at c.in_err-write_rows.ensures.front in
    rw p.1 (front_whole _ _ _ (counter_lines (counters_of s.base)) (front_next _ _ _ (sizes_text s) (concat (map row_line (rows_of s.base))) c.in_ok-write_sizes.ensures.all front))

pub returns-clause-front : goal.returns-clause-front
returns-clause-front g c =
    let s = c.args.survey.now in
    let rows = rw c.rows.ensures.rows at c.in_ok-write_rows.ensures.all in
    let before = Appends-trans _ _ _ (sizes_text s) (concat (map row_line (rows_of s.base))) c.in_ok-write_sizes.ensures.all rows in
    let last = rw c.counters.ensures.counters at c.write_counters.ensures.front in
    on_err_weaker c.write_counters.result (λ front. front_next _ _ _ _ (counter_lines (counters_of s.base)) before front) last
