use Rattle.std.proofs.Common.{take}
use Rattle.std.proofs.lemmas.List.Elements.{All-map, All-take}
use Rattle.mt_base.specs.Limits.{IsCounter}
use Rattle.mt_model.specs.Tables.{IsLimited, started}
use Rattle.mt_model.proofs.counters.Counters.new.Goals as goal

pub invariant_of-result : goal.invariant_of-result
invariant_of-result c =
    rw c.loop-low.invariant
    (All-map IsLimited started (take c.loop-low.low-index c.args.bounds.now)
    (All-take (λ t. IsCounter t.0 t.1 t.2) c.loop-low.low-index c.args.bounds.now c.requires))

pub returns-clause-limited : goal.returns-clause-limited
returns-clause-limited c =
    rw c.loop-low.invariant
    (All-map IsLimited started (take c.loop-low.low-index c.args.bounds.now)
    (All-take (λ t. IsCounter t.0 t.1 t.2) c.loop-low.low-index c.args.bounds.now c.requires))
