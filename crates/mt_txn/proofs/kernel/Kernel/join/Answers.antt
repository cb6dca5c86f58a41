use Rattle.std.proofs.Common.{◌∙◌, ap, refl}
use Rattle.mt_core.specs.Turned.{turned}
use mathlib.Core.Logic.{∥∥₁_elim, ∥∥₁_map, ∥∥₁_prop}
use Rattle.mt_log.specs.Words.{has_failed}
use Rattle.mt_op.specs.declared.operations.Operations.{Operations}
use Rattle.mt_txn.proofs.GoingOn.{turns_over}
use Rattle.mt_txn.proofs.kernel.Kernel.join.Goals as goal

pub invariant_of-result : goal.invariant_of-result
invariant_of-result g c = record {
  well = ∥∥₁_elim c.requires.goes_on ∥∥₁_prop (λ (first, k, on). ∥∥₁_elim on.opens ∥∥₁_prop (λ (z, opened, opening). ∥∥₁_map on.restarts (λ (origin, base, x).
      let D = g.D.Device in
      let turns = turns_over D c.args.rest.relations c.args.rest.counters first k origin base on.nobody z c.args.operations c.args.escrow x.is x.consistent opened opening in
      (turned origin base z.pages k, base, record { relations_are = x.is.relations_are; counters_are = x.is.counters_are; first_is = refl }, (c.join.ensures.resumed k origin base z.pages on.is turns).0.consistent))));
  starts = ∥∥₁_elim c.requires.goes_on ∥∥₁_prop (λ (first, k, on). ∥∥₁_elim on.opens ∥∥₁_prop (λ (z, opened, opening). ∥∥₁_map on.restarts (λ (origin, base, x).
      let D = g.D.Device in
      let turns = turns_over D c.args.rest.relations c.args.rest.counters first k origin base on.nobody z c.args.operations c.args.escrow x.is x.consistent opened opening in
      let now = c.join.ensures.resumed k origin base z.pages on.is turns in (
        first,
        ∣ (
          turned origin base z.pages k,
          base,
          record {
            is = record { relations_are = x.is.relations_are; counters_are = x.is.counters_are; first_is = x.is.first_is };
            bounds = turns.bounds;
            holds = turns.holds;
            consistent = now.0.consistent;
            restartable = now.1;
          },
        ) ∣₁,
      ))));
  schema = c.args.rest.schema;
}

pub returns : goal.returns
returns g c = record {
  resumed = λ first k on. (
    λ s shows. ∥∥₁_elim on.opens ∥∥₁_prop (λ (z, opened, opening). ∥∥₁_map shows (λ (origin, base, is, y).
        let D = g.D.Device in
        let turns = turns_over D c.args.rest.relations c.args.rest.counters first k origin base on.nobody z c.args.operations c.args.escrow is y.consistent opened opening in
        let now = (c.join.ensures.resumed k origin base z.pages on.is turns).0 in
        (turned origin base z.pages k, base, record { relations_are = is.relations_are; counters_are = is.counters_are; first_is = is.first_is }, record { consistent = now.consistent; state = y.state ∙ now.state }))),
    ∥∥₁_elim on.opens ∥∥₁_prop (λ (z, opened, opening). ∥∥₁_map on.restarts (λ (origin, base, x).
        let D = g.D.Device in
        let turns = turns_over D c.args.rest.relations c.args.rest.counters first k origin base on.nobody z c.args.operations c.args.escrow x.is x.consistent opened opening in
        let now = c.join.ensures.resumed k origin base z.pages on.is turns in (
          turned origin base z.pages k,
          base,
          record {
            is = record { relations_are = x.is.relations_are; counters_are = x.is.counters_are; first_is = x.is.first_is };
            bounds = turns.bounds;
            holds = turns.holds;
            consistent = now.0.consistent;
            restartable = now.1;
          },
        ))),
  );
  schema = (refl, refl);
  fails = ap (λ (o : Operations g.row.D.Denot). has_failed o.store.log) c.join.ensures.operations;
  operations = c.join.ensures.operations;
  book = c.join.ensures.book;
  numbers = c.join.ensures.numbers;
}
