-- What stands after a rotation, whatever that answered.
use Rattle.std.proofs.Common.{Result, Ok, Err}
use Rattle.std.specs.Prelude.{IsOk}
use Rattle.mt_base.specs.declared.refusal.Refusal.{Refusal}
use Rattle.mt_disk.specs.declared.device.Device.{Ghosts}
use Rattle.mt_restart.specs.Rotated.{GoesOver, IsEnded, IsRotated, Keeps, Rotates}
use Rattle.mt_restart.specs.declared.standing.Standing.TheVariants.{Stands, Ended}
use Rattle.mt_txn.specs.declared.kernel.Kernel.{Kernel}

-- a kernel that keeps its state goes on
pub over_kept : {D : Type 0} {g : Ghosts D} (k n : Kernel D g) → Keeps k n → GoesOver k n
over_kept k n keeps = record { state = λ first s starts shows. keeps.state first s shows; restarts = keeps.restarts; schema = keeps.schema }

module _ {D : Type 0} {g : Ghosts D} (k : Kernel D g) where
  pub stands_over : (n : Kernel D g) (r : Result (Unit {0}) Refusal) → Rotates k (Stands n) r → GoesOver k n
  stands_over n (Ok u) x = x.over
  stands_over n (Err why) x = over_kept k n x.keeps

  pub rotated_of : (n : Kernel D g) (r : Result (Unit {0}) Refusal) → IsOk r → Rotates k (Stands n) r → IsRotated k n
  rotated_of n (Ok u) ok x = x
  rotated_of n (Err why) ok x = absurd (let no = ok in cc)

  pub ended_of : (device : D) (r : Result (Unit {0}) Refusal) → Rotates k (Ended device) r → IsEnded k device
  ended_of device (Ok u) x = absurd x
  ended_of device (Err why) x = x.1
