use Rattle.std.proofs.Common.{arith}
use Rattle.std.proofs.lemmas.Int.{ints}
use Rattle.mt_script.proofs.LineLemmas.{size_within}
use Rattle.mt_script.proofs.lines.negated.Goals as goal

pub returns-then-size-eq0 : goal.returns-then-size-eq0
returns-then-size-eq0 c = λ z s. let b = size_within c.args.size z (omega arith) s in omega (arith, b.0, c.if-size-eq0.true)

pub returns-in-Err : goal.returns-in-Err
returns-in-Err c = λ z s. let b = size_within c.args.size z (omega arith) s in c.in-Err.ensures (omega (arith, ints, b.1))
