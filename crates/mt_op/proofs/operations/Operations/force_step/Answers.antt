use Rattle.std.proofs.Common.{refl, ap}
use Rattle.mt_log.proofs.Stepped.{stepped}
use Rattle.mt_pool.specs.Views.{pages}
use Rattle.mt_pool.specs.declared.pool.Pool.{Pool}
use Rattle.mt_op.proofs.Right.{right_rests}
use Rattle.mt_op.proofs.operations.Operations.force_step.Goals as goal

pub returns-clause-rests : goal.returns-clause-rests
returns-clause-rests g c = λ opening. let f = c.force_step.ensures in
    record { area = record { opening = refl; total = ap (λ (p : Pool). pages p) f.pool }; pages = f.views; records = (stepped c.args.self.now.store.log c.force_step.new.self.log c.force_step.result f.steps).same_records; locks = refl }

pub returns-clause-right : goal.returns-clause-right
returns-clause-right g c = λ opening relations counters k. let f = c.force_step.ensures in
    right_rests g.D.Device opening relations counters c.args.self.now _ k (f.keeps.kept opening k.kept) (returns-clause-rests g c opening) refl refl
