-- What a row of device calls may have torn.
use Rattle.std.proofs.Common.{ℕ, ◌+◌, ◌≤◌, List}
use Rattle.mt_disk.specs.declared.device.Device.{Ghosts}
use Rattle.mt_disk.proofs.Frame.{torn_refl, torn_within, torn_trans, follows_trans}
use Rattle.mt_format.specs.Formats.{Tears}

module _ {D : Type 0} (g : Ghosts D) where
  -- no call
  pub tears_none : (at n : ℕ) (d : D) → Tears g at n d d
  tears_none at n d = record { now = torn_refl at n (g.seen d); later = λ c left. (c, left, torn_refl at n c) }

  -- one after the other
  pub tears_both : (at n : ℕ) (old mid new : D) → Tears g at n old mid → Tears g at n mid new → Tears g at n old new
  tears_both at n old mid new first second = record {
    now = torn_trans at n (g.seen old) (g.seen mid) (g.seen new) first.now second.now;
    later = follows_trans at n (g.may_leave old) (g.may_leave mid) (g.may_leave new) first.later second.later;
  }

  -- a range within another
  pub tears_within : (at n start size : ℕ) (old new : D) → start ≤ at → at + n ≤ start + size → Tears g at n old new → Tears g start size old new
  tears_within at n start size old new low high t = record {
    now = torn_within at n start size (g.seen old) (g.seen new) t.now low high;
    later = λ c left. let from = t.later c left in (from.0, from.1, torn_within at n start size from.0 c from.2 low high);
  }
