use Rattle.std.proofs.Common.{[], ◌++◌, ◌≡◌, subst, ap, append-nil, ◌∙◌, rules}
use Rattle.std.proofs.lemmas.Result.{err_from_is_err_and, on_err_weaker}
use Rattle.mt_script.specs.Answers.{AppendsFront}
use Rattle.mt_script.proofs.TextLemmas.{front_then, front_whole}
use Rattle.mt_device_commands.specs.Checks.{pages_text, report_text}
use Rattle.mt_device_commands.proofs.check_command.write_check.Goals as goal

pub returns-in_err-write_report-clause-front : goal.returns-in_err-write_report-clause-front
returns-in_err-write_report-clause-front g c =
    let p = err_from_is_err_and c.from_residual.result c.from_residual.ensures.1 in
    rw p.1 (front_whole _ _ (report_text c.args.report.now) (pages_text c.args.pages) c.in_err-write_report.ensures.front)

pub returns-clause-front : goal.returns-clause-front
returns-clause-front g c =
    let last : c.as_bytes.result.now ≡ pages_text c.args.pages = search rules in
    on_err_weaker c.put.result (λ front.
    subst (AppendsFront _ _) (ap (λ t. report_text c.args.report.now ++ t) (append-nil _ ∙ last)) (front_then _ _ _ (report_text c.args.report.now) c.as_bytes.result.now [] c.in_ok-write_report.ensures.all front)) c.put.ensures.front
