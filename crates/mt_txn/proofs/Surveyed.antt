-- What a survey says, whatever the base that the pages hold.
use Rattle.std.proofs.Common.{◌≡◌, ◌<◌, ℕ, List, [], Result, Ok, Err, IfOk, sym, ap, subst, ◌∙◌, arith}
use Rattle.std.proofs.Props.{props}
use mathlib.Core.Logic.{∥∥₁_elim}
use Rattle.mt_base.specs.declared.refusal.Refusal.{Refusal}
use Rattle.mt_disk.specs.declared.device.Device.{Ghosts}
use Rattle.mt_index.specs.Pages.{depth_in}
use Rattle.mt_core.proofs.Surveyed.{nobody_locks}
use Rattle.mt_core.specs.Consistent.{IsConsistent, Origin}
use Rattle.mt_core.specs.declared.parts.Core.{Core}
use Rattle.mt_live.specs.Machine.{State}
use Rattle.mt_model.specs.Model.{Base}
use Rattle.mt_model.specs.Views.{base_of}
use Rattle.mt_op.proofs.Surveyed.{fixed_inside, idle_page}
use Rattle.mt_op.specs.Operations.{world}
use Rattle.mt_op.specs.Surveyed.{IsIdle, IsSurvey}
use Rattle.mt_op.specs.World.{held_in}
use Rattle.mt_op.specs.declared.survey.Survey.{Survey}
use Rattle.mt_pool.specs.Views.{pages, view}
use Rattle.mt_space.specs.Rooms.{free_in, mapped}
use Rattle.mt_steps.specs.Listed.{IsSame}
use Rattle.mt_txn.specs.Surveyed.{SurveysBase, SurveysPages}
use Rattle.mt_txn.specs.Well.{IsWell, ShowsIn}
use Rattle.mt_txn.specs.declared.kernel.Kernel.{Kernel}

module _ {D : Type 0} (g : Ghosts D) (k : Core D) where
  abbrev pub Finds : Result Survey Refusal → Type 0
  Finds r = (origin : Origin) (base : Base) → IsConsistent g origin base k → IfOk r (IsSurvey origin.relations origin.counters (pages k.operations.store.pool) (held_in (world g origin.pages k.operations)) base)

  pub base_reported : (relations counters : ℕ) (first : Base) (s : State) (r : Result Survey Refusal) → Finds r → ShowsIn g relations counters first s k → IfOk r (SurveysBase relations counters s.base)
  base_reported relations counters first s (Err why) finds shows = tt
  base_reported relations counters first s (Ok survey) finds shows = ∥∥₁_elim shows (hlevel props) (λ (origin, base, is, x).
      let outcome = finds origin base x.consistent in record {
        relations_reported = outcome.relations_reported ∙ is.relations_are;
        counters_reported = outcome.counters_reported ∙ is.counters_are;
        same = subst (λ (X : Type 0). X) (λ i. IsSame (is.counters_are i) (base_of survey.base) (ap (λ (z : State). z.base) (sym x.state) i)) outcome.base;
      })

  -- the pages show as they are held
  pub shown_held : (relations counters : ℕ) (survey : Survey) → k.live.members ≡ [] → Finds (Ok survey) → IsWell g relations counters k
      → (survey.depth ≡ depth_in (view k.operations.store.pool (g.seen k.operations.store.device) 1)) × (survey.free ≡ free_in (mapped (view k.operations.store.pool (g.seen k.operations.store.device) 0) (pages k.operations.store.pool)))
  shown_held relations counters survey nobody finds well = ∥∥₁_elim well (hlevel props) (λ (origin, base, is, safe).
      let outcome = finds origin base safe in
      let free = nobody_locks k.live.members k.live.standing k.running.items k.operations.locks nobody safe.fit.owned safe.fit.locked in
      let idle : IsIdle g origin.relations k.operations = ∣ (origin.pages, origin.counters, safe.fit.right, free) ∣₁ in
      let shows = λ (p : ℕ) (inside : p < pages k.operations.store.pool). idle_page g origin.pages origin.relations origin.counters k.operations p safe.fit.right free inside in (
        outcome.depth ∙ ap depth_in (sym (shows 1 (fixed_inside g origin.relations k.operations 1 (omega arith) idle))),
        outcome.free ∙ ap (λ (bytes : List ℕ). free_in (mapped bytes (pages k.operations.store.pool))) (sym (shows 0 (fixed_inside g origin.relations k.operations 0 (omega arith) idle))),
      ))

pub pages_reported : {D : Type 0} {g : Ghosts D} (k : Kernel D g) (r : Result Survey Refusal) → k.core.live.members ≡ [] → Finds g k.core r → IsWell g k.relations k.counters k.core
    → IfOk r (SurveysPages k)
pages_reported k (Err why) nobody finds well = tt
pages_reported {g = g} k (Ok survey) nobody finds well = let outcome = shown_held g k.core k.relations k.counters survey nobody finds well in record { depth = outcome.0; free = outcome.1 }
