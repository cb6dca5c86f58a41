-- A kernel that is attached to its device again, which was only read or synced, shows what it showed.
use Rattle.std.proofs.Common.{ℕ, List}
use Rattle.mt_disk.specs.declared.device.Device.{Ghosts}
use Rattle.mt_log.specs.Quiet.{OnlyReadsOrSyncs}
use Rattle.mt_live.specs.Machine.{State}
use Rattle.mt_model.specs.Model.{Base}
use Rattle.mt_core.proofs.Detached.{attached_restartable, attached_stays}
use Rattle.mt_core.specs.Detached.{attached}
use Rattle.mt_core.specs.declared.detached_core.DetachedCore.{DetachedCore}
use Rattle.mt_txn.proofs.Restarting.{restarts_on, stays_goes}
use Rattle.mt_txn.proofs.Showing.{led, stays_led, well_led}
use Rattle.mt_txn.specs.Well.{IsWell, RestartsFrom, ShowsIn}

module _ {D : Type 0} (g : Ghosts D) (relations counters : ℕ) (rest : DetachedCore) (d e : D) (reads : OnlyReadsOrSyncs g d e) where
  pub well_attached : IsWell g relations counters (attached rest d) → IsWell g relations counters (attached rest e)
  well_attached = well_led g relations counters (attached rest d) (attached rest e) (λ z. z) (stays_led g relations counters (attached rest d) (attached rest e) (attached_stays g rest d e reads))

  pub shows_attached : (first : Base) (s : State) → ShowsIn g relations counters first s (attached rest d) → ShowsIn g relations counters first s (attached rest e)
  shows_attached first s = led g relations counters (attached rest d) (attached rest e) (λ z. z) first s (stays_led g relations counters (attached rest d) (attached rest e) (attached_stays g rest d e reads))

  pub restarts_attached : (first : Base) → RestartsFrom g relations counters first (attached rest d) → RestartsFrom g relations counters first (attached rest e)
  restarts_attached first = restarts_on g relations counters first (attached rest d) (attached rest e) (stays_goes g (attached rest d) (attached rest e) (attached_stays g rest d e reads)) (attached_restartable g rest d e reads)
