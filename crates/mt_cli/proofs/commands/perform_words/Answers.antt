use Rattle.std.proofs.Common.{map}
use Rattle.mt_cli.proofs.Framed.{framed}
use Rattle.mt_cli.proofs.commands.perform_words.Goals as goal

pub perform-requires-clause-frames : goal.perform-requires-clause-frames
perform-requires-clause-frames g c = λ lives outlive. framed (map (λ word. word.now) c.args.words.now) c.in-Ok.command c.in-Ok.ensures.command
