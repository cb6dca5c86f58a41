use Rattle.std.proofs.Common.{ap, ◌∙◌, sym}
use Rattle.mt_pool.specs.Views.{pages}
use Rattle.mt_space.specs.Rooms.{mapped}
use Rattle.mt_op.proofs.Stored.{unlogged_right}
use Rattle.mt_op.proofs.operations.Operations.join.Goals as goal

pub returns-clause-right : goal.returns-clause-right
returns-clause-right g c = λ opening relations counters kept none good shows fits.
    unlogged_right g.D.Device opening relations counters _ kept none shows fits.locks fits.map
    (fits.space ∙ ap (λ bytes. mapped bytes (pages c.args.store.pool)) (sym fits.map)) fits.claims fits.rooms fits.noted good
