use Rattle.std.proofs.Common.{refl, sym, ap, subst}
use mathlib.Core.Logic.{∥∥₁_elim, ∥∥₁_map, ∥∥₁_prop}
use Rattle.mt_live.specs.Machine.{start}
use Rattle.mt_log.specs.Words.{has_failed}
use Rattle.mt_model.specs.Model.{Base, IsBase}
use Rattle.mt_op.specs.declared.operations.Operations.{Operations}
use Rattle.mt_steps.specs.Held.{Holds}
use Rattle.mt_core.specs.Consistent.{IsIn}
use Rattle.mt_txn.proofs.kernel.Kernel.assemble.Goals as goal

pub invariant_of-result : goal.invariant_of-result
invariant_of-result g c = record {
  well = ∥∥₁_elim c.requires.opens ∥∥₁_prop (λ (first, o). ∥∥₁_map o (λ (origin, is, y).
      (origin, origin.first, record { relations_are = is.relations_are; counters_are = is.counters_are; first_is = refl }, (c.new.ensures.state origin y.schema y.bounds y.holds y.right y.escrowed).consistent)));
  starts = ∥∥₁_elim c.requires.opens ∥∥₁_prop (λ (first, o). ∥∥₁_map o (λ (origin, is, y). (
    first,
    ∣ (
      origin,
      origin.first,
      record {
        is = is;
        bounds = subst IsBase (sym y.area.begun) y.bounds;
        holds = subst (Holds origin.pages) (sym y.area.begun) y.holds;
        consistent = (c.new.ensures.state origin y.schema y.bounds y.holds y.right y.escrowed).consistent;
        restartable = c.new.ensures.restartable origin y.schema y.area y.bounds y.holds y.right y.escrowed;
      },
    ) ∣₁,
  )));
  schema = c.requires.schema;
}

pub returns : goal.returns
returns g c = record {
  shows = λ first o. ∥∥₁_map o (λ (origin, is, y).
      (origin, origin.first, is, subst (λ (b : Base). IsIn g.D.Device origin origin.first (start b) c.new.result) is.first_is (c.new.ensures.state origin y.schema y.bounds y.holds y.right y.escrowed)));
  restarts = λ first o. ∥∥₁_map o (λ (origin, is, y). (
    origin,
    origin.first,
    record {
      is = is;
      bounds = subst IsBase (sym y.area.begun) y.bounds;
      holds = subst (Holds origin.pages) (sym y.area.begun) y.holds;
      consistent = (c.new.ensures.state origin y.schema y.bounds y.holds y.right y.escrowed).consistent;
      restartable = c.new.ensures.restartable origin y.schema y.area y.bounds y.holds y.right y.escrowed;
    },
  ));
  schema = (refl, refl);
  fails = ap (λ (o : Operations g.row.D.Denot). has_failed o.store.log) c.new.ensures.operations;
  operations = c.new.ensures.operations;
  numbers = c.new.ensures.numbers;
}
