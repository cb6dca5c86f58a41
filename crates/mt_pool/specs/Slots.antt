-- What the calls for one page do to its slot.
use Rattle.std.specs.Prelude.{◌≡◌, ◌+◌, ◌*◌, ℕ, List, OnOk, Result, length}
use Rattle.mt_disk.specs.declared.device.Device.{Ghosts}
use Rattle.mt_base.specs.declared.limits.TheConstants.{PAGE_BYTES}
use Rattle.mt_disk.specs.Disk.{Elapses, Follows, Has, HasCause, LeavesTheSame, Torn}
use Rattle.mt_pool.specs.Images.{slot}

-- the page's bytes are in its slot; after a fault it may hold anything
pub record WritesSlot {D T F : Type 0} (g : Ghosts D) (place page : ℕ) (bytes : List ℕ) (d e : D)
    (r : Result T F) : Type 0 where
  pub size : length bytes ≡ PAGE_BYTES
  pub written : OnOk r (Has (g.seen e) (place + PAGE_BYTES * page) bytes)
  pub rest : Torn (place + PAGE_BYTES * page) PAGE_BYTES (g.seen d) (g.seen e)
  pub crash : Follows (Torn (place + PAGE_BYTES * page) PAGE_BYTES) (g.may_leave d) (g.may_leave e)
  pub time : Elapses (g.moment d) (g.moment e) (g.left_since d) (g.left_since e) (g.may_leave e)
  pub cause : HasCause (g.faults d) (g.faults e) r

-- these are the bytes of the page's slot; after a fault they may be any
pub record ReadsSlot {D T F : Type 0} (g : Ghosts D) (place page : ℕ) (bytes : List ℕ) (d e : D)
    (r : Result T F) : Type 0 where
  pub size : length bytes ≡ PAGE_BYTES
  pub read : OnOk r (bytes ≡ slot place (g.seen d) page)
  pub same : g.seen e ≡ g.seen d
  pub crash : LeavesTheSame (g.may_leave d) (g.may_leave e)
  pub time : Elapses (g.moment d) (g.moment e) (g.left_since d) (g.left_since e) (g.may_leave e)
  pub cause : HasCause (g.faults d) (g.faults e) r
