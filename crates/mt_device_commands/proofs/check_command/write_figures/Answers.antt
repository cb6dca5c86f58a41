use Rattle.std.proofs.Common.{arith, suc, ◌<◌, ℕ, List, [], Bor, length, take, drop, get_or, sym, subst, add-one}
use Rattle.std.proofs.lemmas.Result.{err_from_is_err_and}
use Rattle.std.proofs.KnownBytes.{Appends-trans}
use Rattle.mt_script.specs.Answers.{AppendsFront}
use Rattle.mt_script.proofs.TextLemmas.{all_about, all_bytes, all_more, front_then}
use Rattle.mt_device_commands.specs.Checks.{figure_line}
use Rattle.mt_device_commands.proofs.check_command.write_figures.Goals as goal

-- a figure at no place
no_figure : Bor (List ℕ) × ℕ
no_figure = (record { ref_ptr = (0, 0); now = [] }, 0)

pub returns-in_err-write_number-clause-front : goal.returns-in_err-write_number-clause-front
unfolding no_figure
returns-in_err-write_number-clause-front g c =
    let p = err_from_is_err_and c.from_residual.result c.from_residual.ensures.1 in
    let all = c.args.figures.now in
    let i = c.loop-word.word-index in
    let lt : i < length all = omega arith in
    let one = get_or all i no_figure in
    let front = front_then _ _ _ (all_bytes figure_line (take i all)) (figure_line one) (all_bytes figure_line (drop (suc i) all)) c.loop-word.invariant c.in_err-write_number.ensures.front in
    rw p.1 (subst (AppendsFront _ _) (sym (all_about figure_line all i no_figure lt)) front)

pub loop-word-preserved : goal.loop-word-preserved
unfolding no_figure
loop-word-preserved g c =
    let all = c.args.figures.now in
    let i = c.loop-word.word-index in
    let lt : i < length all = omega arith in
    let both = Appends-trans _ _ _ (all_bytes figure_line (take i all)) (figure_line (get_or all i no_figure)) c.loop-word.invariant c.in_ok-write_number.ensures.all in
    rw (add-one, all_more figure_line all i no_figure lt) both
