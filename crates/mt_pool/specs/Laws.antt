-- The laws by which the pages are had from whatever a crash leaves. Each is said of a type of devices, by what a
-- crash may leave of each.
use Rattle.std.specs.Prelude.{◌<◌, ◌≡◌, ◌≢◌, ℕ, ◌+◌, ◌*◌, ◌≤◌, List, [], ◌∷◌, ◌++◌, length, take, set, true, false, None, Some, Result}
use Rattle.mt_disk.specs.declared.device.Device.{Ghosts}
use Rattle.mt_base.specs.declared.limits.TheConstants.{PAGE_BYTES}
use Rattle.mt_disk.specs.Disk.{Torn, Follows, Only, Apart}
use Rattle.mt_disk.specs.declared.device.DeviceFault.{DeviceFault}
use Rattle.mt_pool.specs.FlushSteps.{FlushSteps, HasFlushed}
use Rattle.mt_pool.specs.Images.{Carried, has_image, page_in, slot, IsSafe, GivesPages}
use Rattle.mt_pool.specs.Views.{IsPool, Shows, IsTied, IsImageFirst, view, pages, waits_for}
use Rattle.mt_pool.specs.declared.flushes.Flushed.{Flushed}
use Rattle.mt_pool.specs.declared.pool.Pool.{Pool}

-- what follows of each step of a flush
abbrev pub FlushesSayAll : Type 0
FlushesSayAll =
    (durable : ℕ) (old new : Pool) (result : Result Flushed DeviceFault)
    → FlushSteps durable old new result → HasFlushed durable old new result

-- the pages as at the opening come from what a crash leaves, with all durable records, and any part of those after
-- them
abbrev pub CrashGivesPages : {D : Type 0} → Ghosts D → Type 0
CrashGivesPages {D} g =
    (device : D) (place pages : ℕ) (opening : ℕ → List ℕ) (appended : List Carried) (durable k : ℕ) (c : List ℕ)
    → IsSafe place pages opening appended durable (g.may_leave device) → durable ≤ k → g.may_leave device c
    → GivesPages place pages opening (take k appended) c

-- an area begins with images of some pages, and the others stand in their slots
abbrev pub BeginsSafe : {D : Type 0} → Ghosts D → Type 0
BeginsSafe {D} g =
    (device : D) (place pages : ℕ) (images : List Carried) (c : List ℕ) → Only c (g.may_leave device)
    → IsSafe place pages (λ p. page_in images p (slot place c p)) images (length images) (g.may_leave device)

-- a write outside of the slots, with which more records may become durable
abbrev pub ElsewhereKeepsSafe : {D : Type 0} → Ghosts D → Type 0
ElsewhereKeepsSafe {D} g =
    (old new : D) (place pages : ℕ) (opening : ℕ → List ℕ) (appended : List Carried) (durable more at n : ℕ)
    → IsSafe place pages opening appended durable (g.may_leave old) → durable ≤ more → more ≤ length appended
    → Apart at n place (PAGE_BYTES * pages) → Follows (Torn at n) (g.may_leave old) (g.may_leave new)
    → IsSafe place pages opening appended more (g.may_leave new)

-- a write of the slot of a page with a durable image
abbrev pub SlotKeepsSafe : {D : Type 0} → Ghosts D → Type 0
SlotKeepsSafe {D} g =
    (old new : D) (place pages : ℕ) (opening : ℕ → List ℕ) (appended : List Carried) (durable p : ℕ)
    → IsSafe place pages opening appended durable (g.may_leave old) → has_image (take durable appended) p ≡ true
    → Follows (Torn (place + PAGE_BYTES * p) PAGE_BYTES) (g.may_leave old) (g.may_leave new)
    → IsSafe place pages opening appended durable (g.may_leave new)

-- a read or a sync
abbrev pub LessKeepsSafe : {D : Type 0} → Ghosts D → Type 0
LessKeepsSafe {D} g =
    (old new : D) (place pages : ℕ) (opening : ℕ → List ℕ) (appended : List Carried) (durable : ℕ)
    → IsSafe place pages opening appended durable (g.may_leave old)
    → ((c : List ℕ) → g.may_leave new c → g.may_leave old c)
    → IsSafe place pages opening appended durable (g.may_leave new)

-- a record more; the first image of a page has it as at the opening
abbrev pub AppendKeepsSafe : {D : Type 0} → Ghosts D → Type 0
AppendKeepsSafe {D} g =
    (device : D) (place pages : ℕ) (opening : ℕ → List ℕ) (appended : List Carried) (durable : ℕ) (e : Carried)
    → IsSafe place pages opening appended durable (g.may_leave device)
    → ((i : ℕ × List ℕ) → e ≡ Some i → i.0 < pages → has_image appended i.0 ≡ false → i.1 ≡ opening i.0)
    → IsSafe place pages opening (appended ++ e ∷ []) durable (g.may_leave device)

-- the record of a change, by what the pool knows: image first
abbrev pub ChangeKeepsSafe : {D : Type 0} → Ghosts D → Type 0
ChangeKeepsSafe {D} g =
    (device : D) (pool : Pool) (opening : ℕ → List ℕ) (appended : List Carried) (durable page : ℕ) (e : Carried)
    → IsTied pool (g.seen device) opening appended → page < pages pool → IsImageFirst pool (g.seen device) page e
    → IsSafe pool.place (pages pool) opening appended durable (g.may_leave device)
    → IsSafe pool.place (pages pool) opening (appended ++ e ∷ []) durable (g.may_leave device)

-- a flush step, by what the pool knows: write-ahead
abbrev pub FlushKeepsSafe : {D : Type 0} → Ghosts D → Type 0
FlushKeepsSafe {D} g =
    (old new : D) (pool : Pool) (opening : ℕ → List ℕ) (appended : List Carried) (durable page : ℕ)
    → IsTied pool (g.seen old) opening appended → page < pages pool → 0 < waits_for pool page
    → waits_for pool page ≤ durable
    → Follows (Torn (pool.place + PAGE_BYTES * page) PAGE_BYTES) (g.may_leave old) (g.may_leave new)
    → IsSafe pool.place (pages pool) opening appended durable (g.may_leave old)
    → IsSafe pool.place (pages pool) opening appended durable (g.may_leave new)

-- a pool that waits for nothing is tied to an area without records, whose opening is what is there
abbrev pub BeginsTied : Type 0
BeginsTied = (pool : Pool) (seen : List ℕ) → ((p : ℕ) → waits_for pool p ≡ 0) → IsTied pool seen (view pool seen) []

-- a change, and its record at the end of the log
abbrev pub ChangeKeepsTied : Type 0
ChangeKeepsTied =
    (pool new : Pool) (seen : List ℕ) (opening : ℕ → List ℕ) (appended : List Carried) (e : Carried) (page : ℕ)
    → IsPool pool → IsTied pool seen opening appended → page < pages pool → IsImageFirst pool seen page e
    → new.waits.items ≡ set pool.waits.items page (length appended + 1) → pages new ≡ pages pool
    → ((q : ℕ) → q ≢ page → view new seen q ≡ view pool seen q)
    → IsTied new seen opening (appended ++ e ∷ [])

-- a record without an image, and no change
abbrev pub AppendKeepsTied : Type 0
AppendKeepsTied = (pool : Pool) (seen : List ℕ) (opening : ℕ → List ℕ) (appended : List Carried)
    → IsTied pool seen opening appended → IsTied pool seen opening (appended ++ None ∷ [])

-- a fetch, a flush: the views stay, and so does what is waited for
abbrev pub SameViewsKeepTied : Type 0
SameViewsKeepTied =
    (pool new : Pool) (seen seen2 : List ℕ) (opening : ℕ → List ℕ) (appended : List Carried)
    → IsTied pool seen opening appended
    → new.waits ≡ pool.waits → pages new ≡ pages pool → ((q : ℕ) → q < pages pool → view new seen2 q ≡ view pool seen q)
    → IsTied new seen2 opening appended

-- a write outside of the slots leaves the views, and the frames that are not to be flushed are as their slots
abbrev pub ElsewhereKeepsViews : Type 0
ElsewhereKeepsViews = (pool : Pool) (at n : ℕ) (seen seen2 : List ℕ) → Torn at n seen seen2
    → Apart at n pool.place (PAGE_BYTES * pages pool) → (q : ℕ) → q < pages pool → view pool seen2 q ≡ view pool seen q

abbrev pub ElsewhereKeepsShows : Type 0
ElsewhereKeepsShows = (pool : Pool) (at n : ℕ) (seen seen2 : List ℕ) → IsPool pool → Torn at n seen seen2
    → Apart at n pool.place (PAGE_BYTES * pages pool) → Shows pool seen → Shows pool seen2
