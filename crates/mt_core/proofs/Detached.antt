-- A core that is attached to its device again, which was only read or synced, is in the state in which it was.
use Rattle.std.proofs.Common.{refl, arith}
use Rattle.mt_disk.specs.declared.device.Device.{Ghosts}
use Rattle.mt_log.specs.Quiet.{OnlyReadsOrSyncs}
use Rattle.mt_op.proofs.Detached as operations
use Rattle.mt_op.proofs.Surveyed.{read_rests, read_right}
use Rattle.mt_core.proofs.Lasting.{lasts_same}
use Rattle.mt_core.proofs.Resting.{rests_in}
use Rattle.mt_core.proofs.Restarts.{rests_same}
use Rattle.mt_core.specs.Consistent.{StaysIn}
use Rattle.mt_core.specs.Detached.{attached}
use Rattle.mt_core.specs.Restartable.{StaysRestartable}
use Rattle.mt_core.specs.declared.detached_core.DetachedCore.{DetachedCore}

module _ {D : Type 0} (g : Ghosts D) (rest : DetachedCore) (d e : D) (reads : OnlyReadsOrSyncs g d e) where
  pub attached_stays : StaysIn g (attached rest d) (attached rest e)
  attached_stays origin base safe =
      let k = attached rest d in let n = attached rest e in let read = operations.attached_reads g rest.operations d e reads in
      rests_in g origin base k n safe (read_right g origin.pages origin.relations origin.counters k.operations n.operations read safe.fit.right)
      (read_rests g origin.pages k.operations n.operations read) refl (omega arith) refl

  pub attached_restartable : StaysRestartable g (attached rest d) (attached rest e)
  attached_restartable origin base later safe still r =
      let k = attached rest d in let n = attached rest e in let read = operations.attached_reads g rest.operations d e reads in
      rests_same g origin k n base later safe still (read_rests g origin.pages k.operations n.operations read) refl (lasts_same k n refl) (record { book = refl; commits = refl }) refl r
