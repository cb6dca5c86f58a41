-- What is begun over a device that is formatted.
use Rattle.std.specs.Prelude.{◌≡◌, ◌≤◌, ◌+◌, ◌*◌, ℕ, false, List, [], ◌∷◌, length}
use Rattle.mt_disk.specs.declared.device.Device.{Ghosts}
use Rattle.mt_base.specs.declared.limits.TheConstants.{MASTER_BYTES, MIB_BYTES}
use Rattle.mt_escrow.specs.Seen.{Escrowed}
use Rattle.mt_log.specs.Sound.{IsSound}
use Rattle.mt_log.specs.Words.{appended, durable, in_flight, waiting, used, area_size, area_start, area_end, stands_at, has_failed}
use Rattle.mt_log.specs.declared.log.Log.{Log}
use Rattle.mt_log.specs.declared.stage.Stage.TheVariants.{Idle as idle_stage}
use Rattle.mt_model.specs.Model.{IsBase}
use Rattle.mt_op.specs.Begun.{FitsPages, idle_claims}
use Rattle.mt_op.specs.Operations.{IsRight, claimed, operation_log}
use Rattle.mt_op.specs.declared.next_area.Idle.{Idle}
use Rattle.mt_op.specs.declared.operations.Operations.{Operations}
use Rattle.mt_pool.specs.Images.{slot}
use Rattle.mt_pool.specs.Views.{IsPool, Shows, view, waits_for, pages, frames}
use Rattle.mt_pool.specs.declared.pool.Pool.{Pool}
use Rattle.mt_space.specs.Changes.{PageBytes}
use Rattle.mt_steps.specs.Formatted.{IsFormatted}
use Rattle.mt_format.specs.Formats.{IsFormattedAs}
use Rattle.mt_format.specs.Schemas.{pages_in, mib_in, relations_in, counters_in, schema_base, pages_end, area_end as schema_end}
use Rattle.mt_format.specs.declared.fresh_layers.FirstLayers.{FirstLayers}
use Rattle.mt_format.specs.declared.schema.Schema.{Schema}

-- its first area, with nothing but the empty first batch
pub record IsFirstLog (s : Schema) (log : Log) : Type 0 where
  pub stands : stands_at log ≡ (pages_end s, schema_end s, pages_end s + 5, [] ∷ [], [], idle_stage)
  pub start : area_start log ≡ pages_end s
  pub end : area_end log ≡ schema_end s
  pub size : area_size log ≡ mib_in s * MIB_BYTES
  pub none : durable log ≡ []
  pub flying : in_flight log ≡ []
  pub waits : waiting log ≡ []
  pub head : used log ≡ 5
  pub well : has_failed log ≡ false
  pub sound : IsSound (pages_in s) log

-- each page in its slot, and none in a frame
pub record IsFirstPool (s : Schema) (frame_count : ℕ) (pool : Pool) : Type 0 where
  pub sound : IsPool pool
  pub shows : (c : List ℕ) → pages_end s ≤ length c → Shows pool c
  pub views : (c : List ℕ) (q : ℕ) → view pool c q ≡ slot MASTER_BYTES c q
  pub waits : (q : ℕ) → waits_for pool q ≡ 0
  pub place : pool.place ≡ MASTER_BYTES
  pub page_count : pages pool ≡ pages_in s
  pub many : frames pool ≡ frame_count

-- what operations keep beside a store over pages as they are formatted, none of which is claimed
pub record IsFirstIdle (s : Schema) (idle : Idle) : Type 0 where
  pub fits : (pages : PageBytes) → IsFormatted (relations_in s) (length (counters_in s)) (pages_in s) pages
      → FitsPages (pages_in s) pages idle
  pub unclaimed : idle_claims idle ≡ 0

-- each counter of the schema at its start, and no add pending or set aside
pub record IsFirstEscrow (s : Schema) (e : Escrowed) : Type 0 where
  pub committed : e.committed ≡ counters_in s
  pub pending : e.pending ≡ []
  pub aside : e.aside ≡ []

-- all that a kernel has beside the device
pub record AreFirstLayers (s : Schema) (frame_count : ℕ) (layers : FirstLayers) : Type 0 where
  pub log : IsFirstLog s layers.log
  pub pool : IsFirstPool s frame_count layers.pool
  pub idle : IsFirstIdle s layers.idle
  pub escrow : IsFirstEscrow s layers.escrow
  pub bounds : IsBase (schema_base s)

-- operations over it, of which none is under way
pub record AreFirst {D : Type 0} (g : Ghosts D) (s : Schema) (device : D) (o : Operations D) : Type 0 where
  pub right : IsRight g (slot MASTER_BYTES (g.seen device)) (relations_in s) (length (counters_in s)) o
  pub locks : o.locks ≡ []
  pub unclaimed : claimed o ≡ 0
  pub empty : appended (operation_log o) ≡ []
  pub head : used (operation_log o) ≡ 5
  pub well : has_failed (operation_log o) ≡ false
  pub size : area_size (operation_log o) ≡ mib_in s * MIB_BYTES

-- Operations over a device that was formatted, and an escrow of the schema's counters: they begin on pages that hold
-- its first base.
pub record AreFresh {D : Type 0} (g : Ghosts D) (s : Schema) (o : Operations D) (e : Escrowed) : Type 0 where
  pub device : D
  pub formatted : IsFormattedAs s (g.seen device)
  pub operations : AreFirst g s device o
  pub bounds : IsBase (schema_base s)
  pub escrow : IsFirstEscrow s e
