use Rattle.std.proofs.Common.{arith}
use Rattle.std.proofs.KnownBytes.{Keeps-refl}
use Rattle.std.proofs.lemmas.Result.{IfErr-weaker}
use Rattle.mt_cli.proofs.AtOnceLemmas.{not_at_once_then, not_by_one, not_by_several}
use Rattle.mt_cli.proofs.ServeLemmas.{unread_of, unserved_then}
use Rattle.mt_cli.specs.Serves.{unserved_scripts}
use Rattle.mt_cli.proofs.run_command.perform_run.Goals as goal

pub returns-in-Err-clause-not_run : goal.returns-in-Err-clause-not_run
returns-in-Err-clause-not_run g c =
    unread_of _ _ _ _ _ _ _ _ _ c.in-Err.fault (rw c.as_slice-names.ensures.value at c.in-Err.ensures.unread) c.in-Err.ensures.kept (Keeps-refl (g.O.Write.contents c.args.out.now))

pub returns-then-serving-gt1-clause-not_run : goal.returns-then-serving-gt1-clause-not_run
returns-then-serving-gt1-clause-not_run g c =
    let s = c.args.serving.now in
    IfErr-weaker c.serve_file_at_once.result _ _
    (λ fault x. unserved_scripts _ fault (rw c.as_slice-names.ensures.value at c.in-Ok.ensures.read)
    (not_by_several s.stop s.workers _ _ _ _ _ _ fault (omega (arith, c.if-serving-gt1.true)) (not_at_once_then _ _ _ _ _ _ _ fault c.in-Ok.ensures.kept x)))
    c.serve_file_at_once.ensures.unserved

pub returns-clause-not_run : goal.returns-clause-not_run
returns-clause-not_run g c =
    let s = c.args.serving.now in
    IfErr-weaker c.serve_file.result _ _
    (λ fault x. unserved_scripts _ fault (rw c.as_slice-names.ensures.value at c.in-Ok.ensures.read)
    (not_by_one s.stop s.workers _ _ _ _ _ _ fault (omega (arith, c.if-serving-gt1.false)) (unserved_then _ _ _ _ _ _ _ _ fault c.in-Ok.ensures.kept (rw c.as_slice.ensures.value at x))))
    c.serve_file.ensures.unserved
