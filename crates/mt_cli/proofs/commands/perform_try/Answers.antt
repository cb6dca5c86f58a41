use Rattle.std.proofs.KnownBytes.{Keeps-refl}
use Rattle.std.proofs.lemmas.Result.{IfErr-weaker}
use Rattle.mt_cli.specs.Performs.{unread, untried}
use Rattle.mt_cli.proofs.commands.perform_try.Goals as goal

pub returns-in-Ok-clause-untried : goal.returns-in-Ok-clause-untried
returns-in-Ok-clause-untried g c = IfErr-weaker c.try_script.result _ _ (λ fault cut. untried c.in-Ok.lines.items fault c.in-Ok.ensures.lines (rw c.new.ensures at cut)) c.try_script.ensures.cut

pub returns-in-Err-clause-untried : goal.returns-in-Err-clause-untried
returns-in-Err-clause-untried g c = unread _ c.in-Err.ensures.unread (Keeps-refl (g.O.Write.contents c.args.out.now))
