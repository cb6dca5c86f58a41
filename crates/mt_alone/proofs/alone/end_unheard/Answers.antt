use Rattle.std.proofs.Common.{inl}
use Rattle.mt_alone.proofs.RunLemmas.{left_resting}
use Rattle.mt_alone.proofs.alone.end_unheard.Goals as goal

pub returns-in_default-clause-left : goal.returns-in_default-clause-left
returns-in_default-clause-left g c = λ p b.
    let D = g.D.Device in
    inl (left_resting p c.args.kernel.now c.args.kernel.now (rw c.in_default.is at b))
