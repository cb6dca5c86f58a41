use Rattle.mt_script.proofs.LineLemmas.{no_bare_op}
use Rattle.mt_script.proofs.lines.op_of.Goals as goal

pub returns-in-None : goal.returns-in-None
returns-in-None c = λ op s. no_bare_op c.args.bytes.now op c.in-None.ensures.none s
