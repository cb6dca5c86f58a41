use Rattle.std.proofs.Common.{◌≡◌, ◌-◌, false}
use Rattle.mt_txn.specs.Shown.{is_failed}
use Rattle.mt_txn.specs.Turned.{HasNobody}
use Rattle.mt_restart.proofs.Rotations.{IsNear}
use Rattle.mt_restart.specs.Rotated.{Grows, Keeps}
use Rattle.mt_restart.proofs.rotation.force_out.Given as goal

abbrev pub invariant-loop-step : goal.invariant-loop-step
invariant-loop-step g l =
    let D = g.D.Device in
    record {
      keeps : Keeps l.initial.kernel l.kernel;
      well : is_failed l.kernel ≡ false;
      nobody : HasNobody l.kernel;
      grows : Grows l.initial.kernel l.kernel;
      quiet : D.faults l.kernel.core.operations.store.device ≡ D.faults l.initial.kernel.core.operations.store.device;
      ruling : l.kernel.core.operations.store.ruling ≡ l.initial.kernel.core.operations.store.ruling;
      near : IsNear (8 - l._step) l.kernel.core.operations.store.log;
    }
