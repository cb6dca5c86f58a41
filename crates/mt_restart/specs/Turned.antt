-- What becomes of a device's bytes while a restart turns its log over to another area.
use Rattle.std.specs.Prelude.{◌≡◌, ℕ, ◌*◌, ◌<◌, Bool, true, false, List, [], Result, OnOk, length, get_or}
use Rattle.std.specs.List.{AllByRecursion}
use Rattle.mt_disk.specs.declared.device.Device.{Ghosts}
use Rattle.mt_base.specs.declared.limits.TheConstants.{MASTER_BYTES, PAGE_BYTES}
use Rattle.mt_disk.specs.Disk.{Follows, HasCause, LeavesOnly, Only, Torn}
use Rattle.mt_frame.specs.Grammar.{IsRecord}
use Rattle.mt_area_rules.specs.History.{MayFollow}
use Rattle.mt_frame.specs.declared.records.Record.{Record}
use Rattle.mt_pool.specs.Images.{has_image, page_in, slot}
use Rattle.mt_pool.specs.Kept.{carried}
use Rattle.mt_pool.specs.Turns.{IsImageOnly}

-- ---- slots

-- Nothing has changed but the slots of marked pages.
pub record OnlySlots (marked : List Bool) (old new : List ℕ) : Type 0 where
  pub within : Torn MASTER_BYTES (PAGE_BYTES * length marked) old new
  pub others : (p : ℕ) → p < length marked → get_or marked p false ≡ false
      → slot MASTER_BYTES new p ≡ slot MASTER_BYTES old p

-- one of these contents, but for the slots of marked pages
abbrev pub ButForSlots : List Bool → (List ℕ → Type 0) → List ℕ → Type 0
ButForSlots marked contents c = (d : List ℕ) × contents d × OnlySlots marked d c

-- each marked page is in its slot
abbrev pub AreInPlace : List Bool → List (List ℕ) → List ℕ → Type 0
AreInPlace marked pages c =
    (p : ℕ) → p < length pages → get_or marked p false ≡ true → slot MASTER_BYTES c p ≡ get_or pages p []

-- Each marked page is in its slot, or the device failed. Only slots of marked pages have changed.
pub record PutsInPlace {D : Type 0} (g : Ghosts D) {T F : Type 0} (marked : List Bool)
    (pages : List (List ℕ)) (d e : D) (r : Result T F) : Type 0 where
  pub written : OnOk r (AreInPlace marked pages (g.seen e))
  pub slots : OnlySlots marked (g.seen d) (g.seen e)
  pub elsewhere : Follows (OnlySlots marked) (g.may_leave d) (g.may_leave e)
  pub moments : LeavesOnly g.moment g.left_since d e (ButForSlots marked (g.may_leave d))
  pub cause : HasCause (g.faults d) (g.faults e) r

-- Each marked page is put into its slot, and a crash leaves it there; or the device failed.
pub record PutsDurably {D : Type 0} (g : Ghosts D) {T F : Type 0} (marked : List Bool)
    (pages : List (List ℕ)) (d e : D) (r : Result T F) : Type 0 where
  pub put : PutsInPlace g marked pages d e r
  pub durable : OnOk r (Only (g.seen e) (g.may_leave e))

-- ---- images

-- Each of the marked pages has one image, and no other page has one.
pub record AreImagesOf (pages : List (List ℕ)) (marked : List Bool) (images : List Record) : Type 0 where
  pub only : AllByRecursion (IsImageOnly (length pages)) images
  pub grammar : AllByRecursion IsRecord images
  pub first : MayFollow true [] images
  pub some : (p : ℕ) → p < length pages → has_image (carried images) p ≡ get_or marked p false
  pub bytes : (p : ℕ) → p < length pages → get_or marked p false ≡ true → (d : List ℕ)
      → page_in (carried images) p d ≡ get_or pages p []
