-- What calls do to a device of any type D: each word takes all the ghosts of D as one argument.
use Rattle.std.specs.Prelude.{◌<◌, ℕ, List}
use Rattle.mt_disk.specs.Disk.{Elapses, Follows, LeavesOnly, Only, Torn}
use Rattle.mt_disk.specs.declared.device.Device.{Ghosts}

module _ {D : Type 0} (g : Ghosts D) where
  -- whenever a crash comes between these two states of the device, it leaves what has P
  abbrev pub Meanwhile : D → D → (List ℕ → Type 0) → Type 0
  Meanwhile old new P = LeavesOnly g.moment g.left_since old new P

  -- a crash leaves just what a read returns
  abbrev pub IsSynced : D → Type 0
  IsSynced device = Only (g.seen device) (g.may_leave device)

  -- one call at most
  abbrev pub MakesOneCall : D → D → Type 0
  MakesOneCall old new = Elapses (g.moment old) (g.moment new) (g.left_since old) (g.left_since new) (g.may_leave new)

  -- one call at most, which touches nothing but the n bytes from `at` on
  pub record CallsWithin (at n : ℕ) (old new : D) : Type 0 where
    pub time : MakesOneCall old new
    pub elsewhere : Follows (Torn at n) (g.may_leave old) (g.may_leave new)
    pub rest : Torn at n (g.seen old) (g.seen new)

  -- the device has failed more often
  abbrev pub HasFailedSince : D → D → Type 0
  HasFailedSince old new = g.faults old < g.faults new
