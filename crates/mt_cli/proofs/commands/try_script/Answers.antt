use Rattle.std.proofs.KnownBytes.{Keeps-refl}
use Rattle.mt_cli.specs.Performs.{unmade}
use Rattle.mt_cli.proofs.commands.try_script.Goals as goal

pub returns-in-Err-clause-cut : goal.returns-in-Err-clause-cut
returns-in-Err-clause-cut g c = unmade _ c.in-Err.ensures.unmade (Keeps-refl (g.O.Write.contents c.args.out.now))
