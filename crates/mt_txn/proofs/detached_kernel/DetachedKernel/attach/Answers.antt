use Rattle.std.proofs.Common.{refl, subst, sym}
use mathlib.Core.Logic.{∥∥₁_elim, ∥∥₁_map, ∥∥₁_prop}
use Rattle.mt_txn.proofs.Detached.{restarts_attached, shows_attached, well_attached}
use Rattle.mt_txn.specs.Well.{IsWell, RestartsFrom, ShowsIn}
use Rattle.mt_txn.proofs.detached_kernel.DetachedKernel.attach.Goals as goal

pub invariant_of-result : goal.invariant_of-result
invariant_of-result g c = let D = g.D.Device in let rest = c.args.self in
    record {
      well = ∥∥₁_elim c.requires ∥∥₁_prop (λ (was, reads, well, first, starts).
          subst (IsWell D rest.relations rest.counters) (sym c.attach.ensures) (well_attached D rest.relations rest.counters rest.core was c.args.device reads well));
      starts = ∥∥₁_map c.requires (λ (was, reads, well, first, starts).
          (first, subst (RestartsFrom D rest.relations rest.counters first) (sym c.attach.ensures) (restarts_attached D rest.relations rest.counters rest.core was c.args.device reads first starts)));
      schema = rest.schema;
    }

pub returns : goal.returns
returns g c = let D = g.D.Device in let rest = c.args.self in
    record {
      core = c.attach.ensures;
      relations = refl;
      counters = refl;
      failed = refl;
      state = λ was reads first s shows. subst (ShowsIn D rest.relations rest.counters first s) (sym c.attach.ensures) (shows_attached D rest.relations rest.counters rest.core was c.args.device reads first s shows);
      restarts = λ was reads first starts. subst (RestartsFrom D rest.relations rest.counters first) (sym c.attach.ensures) (restarts_attached D rest.relations rest.counters rest.core was c.args.device reads first starts);
    }
