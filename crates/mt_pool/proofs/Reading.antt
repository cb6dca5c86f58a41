-- A device that stays was not called.
use Rattle.std.proofs.Common.{◌≡◌, refl, sym, subst, arith}
use Rattle.mt_disk.specs.declared.device.Device.{Ghosts}
use Rattle.mt_pool.specs.Reads.{ReadsOnce}

pub reads_nothing : {D : Type 0} (g : Ghosts D) (old new : D) → new ≡ old → ReadsOnce g old new
reads_nothing g old new same =
    subst (ReadsOnce g old) (sym same) (record { once = omega arith; seen = refl; crash = λ c. (λ left. left, λ left. left) })
