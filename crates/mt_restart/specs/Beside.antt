-- What a kernel has beside its device and its log.
use Rattle.std.specs.Prelude.{◌≡◌, ◌<◌, ◌≤◌, ◌+◌, ◌*◌, ℕ, List, [], length, get_or}
use Rattle.mt_base.specs.declared.limits.TheConstants.{MASTER_BYTES, PAGE_BYTES}
use Rattle.mt_space.specs.PageLists.{bytes_of}
use Rattle.mt_model.specs.Tables.{count_at}
use Rattle.mt_op.specs.Begun.{FitsPages, idle_claims}
use Rattle.mt_pool.specs.Images.{slot}
use Rattle.mt_pool.specs.Views.{IsPool, Shows, view, waits_for, pages, frames}
use Rattle.mt_counters.specs.Counters.{count_in}
use Rattle.mt_restart.specs.declared.beside.Beside.{Beside}

-- It is made for these pages: a pool of so many frames, none of which holds a page; what operations keep if none is
-- under way; and the counters of the third page, to which no add is pending or set aside.
pub record IsBeside (items : List (List ℕ)) (frame_count : ℕ) (b : Beside) : Type 0 where
  pub pool : IsPool b.pool
  pub shows : (c : List ℕ) → MASTER_BYTES + PAGE_BYTES * length items ≤ length c → Shows b.pool c
  pub views : (c : List ℕ) (p : ℕ) → view b.pool c p ≡ slot MASTER_BYTES c p
  pub waits : (p : ℕ) → waits_for b.pool p ≡ 0
  pub place : b.pool.place ≡ MASTER_BYTES
  pub page_count : pages b.pool ≡ length items
  pub many : frames b.pool ≡ frame_count
  pub fits : FitsPages (length items) (bytes_of items) b.idle
  pub unclaimed : idle_claims b.idle ≡ 0
  pub relations : b.relations ≡ get_or (bytes_of items 2) 0 0
  pub counters : b.counters ≡ get_or (bytes_of items 2) 1 0
  pub all : length b.escrow.committed ≡ b.counters
  pub counts : (c : ℕ) → c < b.counters → count_at b.escrow.committed c ≡ count_in (bytes_of items 2) c
  pub pending : b.escrow.pending ≡ []
  pub aside : b.escrow.aside ≡ []
