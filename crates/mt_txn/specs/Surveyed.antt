-- What a survey reports of a kernel.
use Rattle.std.specs.Prelude.{ℕ, ◌≡◌, ◌≤◌, ◌+◌, length}
use Rattle.mt_core.specs.Consistent.{OnlyOperations}
use Rattle.mt_disk.specs.Disk.{LeavesTheSame}
use Rattle.mt_disk.specs.declared.device.Device.{Ghosts}
use Rattle.mt_index.specs.Pages.{depth_in}
use Rattle.mt_model.specs.Model.{Base}
use Rattle.mt_model.specs.Views.{base_of, counters_of, relations_of}
use Rattle.mt_op.specs.declared.survey.Survey.{Survey}
use Rattle.mt_pool.specs.Views.{pages, view}
use Rattle.mt_steps.specs.Listed.{IsSame}
use Rattle.mt_steps.specs.Plans.{free_pages}
use Rattle.mt_txn.specs.declared.kernel.Kernel.{Kernel}
use Rattle.mt_txn.specs.Shown.{kernel_device, kernel_log, kernel_pool}

-- It has the rows and the counters of this base, of so many relations and counters.
pub record SurveysBase (relations counters : ℕ) (base : Base) (survey : Survey) : Type 0 where
  pub relations_reported : relations_of survey.base ≡ relations
  pub counters_reported : length (counters_of survey.base) ≡ counters
  pub same : IsSame counters (base_of survey.base) base

-- It has the depth of the directory on page 1, and counts the free pages by the map on page 0, as pages and frames
-- have them.
pub record SurveysPages {D : Type 0} {g : Ghosts D} (k : Kernel D g) (survey : Survey) : Type 0 where
  pub depth : survey.depth ≡ depth_in (view (kernel_pool k) (g.seen (kernel_device k)) 1)
  pub free : survey.free ≡ free_pages (pages (kernel_pool k)) (λ p. view (kernel_pool k) (g.seen (kernel_device k)) p)

-- The device was only read, each page once at most but for two that are read first. All else stays.
pub record ReadsPages {D : Type 0} {g : Ghosts D} (k n : Kernel D g) : Type 0 where
  pub rest : OnlyOperations k.core n.core
  pub log : kernel_log n ≡ kernel_log k
  pub pool : kernel_pool n ≡ kernel_pool k
  pub content : g.seen (kernel_device n) ≡ g.seen (kernel_device k)
  pub crash : LeavesTheSame (g.may_leave (kernel_device k)) (g.may_leave (kernel_device n))
  pub calls : g.moment (kernel_device n) ≤ g.moment (kernel_device k) + pages (kernel_pool k) + 2
