use Rattle.std.proofs.KnownBytes.{Keeps-refl}
use Rattle.std.proofs.lemmas.Result.{on_ok_weaker}
use Rattle.mt_cli.proofs.commands.do_command.Goals as goal

pub returns-in-Format-clause-done : goal.returns-in-Format-clause-done
returns-in-Format-clause-done g c =
    rw c.in-Format.is (on_ok_weaker c.perform_format.result (λ put. (rw c.as_str-in-Format.ensures.value at put, Keeps-refl (g.O.Write.contents c.args.out.now))) c.perform_format.ensures.formatted)
