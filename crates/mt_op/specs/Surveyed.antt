-- What a survey finds, and what it leaves as it was.
use Rattle.std.specs.Prelude.{◌≡◌, ℕ, [], length}
use Rattle.mt_disk.specs.declared.device.Device.{Ghosts}
use Rattle.mt_disk.specs.Disk.{LeavesOnly}
use Rattle.mt_index.specs.Pages.{depth_in}
use Rattle.mt_model.specs.Model.{Base}
use Rattle.mt_model.specs.Views.{base_of, counters_of, relations_of}
use Rattle.mt_pool.specs.Kept.{IsKept, Explains}
use Rattle.mt_space.specs.Changes.{PageBytes}
use Rattle.mt_steps.specs.Listed.{IsSame}
use Rattle.mt_steps.specs.Plans.{free_pages}
use Rattle.mt_op.specs.Operations.{IsRight}
use Rattle.mt_op.specs.declared.operations.Operations.{Operations}
use Rattle.mt_op.specs.declared.survey.Survey.{Survey}

-- None is under way, over pages of a schema of so many relations.
abbrev pub IsIdle : {D : Type 0} → Ghosts D → ℕ → Operations D → Type 0
IsIdle g relations o = ∥ ((opening : PageBytes) × (counters : ℕ)
    × IsRight g opening relations counters o × (o.locks ≡ [])) ∥₁

-- The device was read, and nothing else has changed; whatever a crash leaves meanwhile explains the pages.
pub record OnlyReads {D : Type 0} (g : Ghosts D) (o n : Operations D) : Type 0 where
  pub kept : (opening : PageBytes) → IsKept g opening o.store → IsKept g opening n.store
  pub moments : (opening : PageBytes) → IsKept g opening o.store
      → LeavesOnly g.moment g.left_since o.store.device n.store.device (Explains opening o.store)
  pub content : g.seen n.store.device ≡ g.seen o.store.device
  pub pool : n.store.pool ≡ o.store.pool
  pub log : n.store.log ≡ o.store.log
  pub locks : n.locks ≡ o.locks
  pub rooms : n.rooms ≡ o.rooms
  pub map : n.map ≡ o.map

-- It reports so many pages, of a schema of so many relations and counters, what they hold.
pub record IsSurvey (relations counters total : ℕ) (pages : PageBytes) (held : Base) (survey : Survey) : Type 0 where
  pub depth : survey.depth ≡ depth_in (pages 1)
  pub free : survey.free ≡ free_pages total pages
  pub relations_reported : relations_of survey.base ≡ relations
  pub counters_reported : length (counters_of survey.base) ≡ counters
  pub base : IsSame counters (base_of survey.base) held
