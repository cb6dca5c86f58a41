use Rattle.std.proofs.Common.{◌∙◌}
use Rattle.mt_alone.proofs.ForceLemmas.{eased_more}
use Rattle.mt_alone.proofs.forces.make_room.Goals as goal

pub loop-preserved : goal.loop-preserved
loop-preserved g c =
    let D = g.D.Device in
    let e = c.in_ok-flush_step.ensures in
    record {
      eases = eased_more c.args.kernel.now c.loop.kernel c.flush_step.new.self c.ask_force.new.kernel c.ask_force.result c.loop.invariant.eases e.state e.rest e.undo c.ask_force.ensures.forcing;
      schema = (c.ask_force.ensures.schema.0 ∙ e.schema.0 ∙ c.loop.invariant.schema.0, c.ask_force.ensures.schema.1 ∙ e.schema.1 ∙ c.loop.invariant.schema.1);
      restarts = λ first r. c.ask_force.ensures.restarts first (e.restarts first (c.loop.invariant.restarts first r));
    }
