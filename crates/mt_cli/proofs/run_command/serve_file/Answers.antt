use Rattle.std.proofs.KnownBytes.{Keeps-refl}
use Rattle.std.proofs.lemmas.Result.{IfErr-weaker}
use Rattle.mt_cli.proofs.ServeLemmas.{put_back}
use Rattle.mt_cli.specs.Serves.{no_device, unserved}
use Rattle.mt_cli.proofs.run_command.serve_file.Goals as goal

pub returns-in-Err-clause-unserved : goal.returns-in-Err-clause-unserved
returns-in-Err-clause-unserved g c =
    no_device c.in-Err.refusal (rw c.as_str-name.ensures.value at c.in-Err.ensures.cause) c.in-Err.ensures.err (Keeps-refl (g.O.Write.contents c.args.out.now))

pub returns-clause-unserved : goal.returns-clause-unserved
returns-clause-unserved g c =
    IfErr-weaker c.serve_over-served.result.0 _ _
    (λ fault x. unserved _ _ fault (rw c.as_str-name.ensures.value at c.in-Ok.ensures.held) (rw c.as_str-name.ensures.value at (put_back _ _ _ _ _ c.in-Ok.ensures.lent c.back.ensures)) x)
    c.serve_over-served.ensures.unserved
