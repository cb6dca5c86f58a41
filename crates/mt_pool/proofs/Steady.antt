-- What is known of a store, whatever the pages were when its area began.
use Rattle.std.proofs.Common.{◌<◌, ◌≡◌, ℕ, ◌+◌, ◌*◌, ◌≤◌, length, take, true, false, arith}
use Rattle.std.proofs.Props.{props}
use Rattle.std.proofs.lemmas.List.{length-map}
use mathlib.Core.Logic.{∥∥₁_elim}
use Rattle.mt_disk.specs.declared.device.Device.{Ghosts}
use Rattle.mt_area_rules.specs.History.{some_record, is_of_page}
use Rattle.mt_log.specs.Same.{IsOn-prop}
use Rattle.mt_log.specs.Sound.{IsSound}
use Rattle.mt_log.specs.Words.{durable, appended, area_start, IsOn}
use Rattle.mt_pool.specs.Images.{has_image}
use Rattle.mt_pool.specs.Kept.{carried_of, carried, HasOpening}
use Rattle.mt_pool.specs.Same.{Pool-prop, Shows-prop, Sound-prop}
use Rattle.mt_pool.specs.Views.{IsPool, Shows, pages, waits_for}
use Rattle.mt_pool.specs.declared.store.Store.{Store}

pub record IsSteady {D : Type 0} (g : Ghosts D) (s : Store D) : Type 0 where
  pub on : IsOn g s.log s.device
  pub sound : IsSound (pages s.pool) s.log
  pub apart : s.pool.place + 4096 * pages s.pool ≤ area_start s.log
  pub few : pages s.pool ≤ 4000
  pub frames : IsPool s.pool
  pub shows : Shows s.pool (g.seen s.device)
  pub settled : s.settled ≡ length (durable s.log)
  pub imaged : (p : ℕ) → p < pages s.pool → 0 < waits_for s.pool p → has_image (take (waits_for s.pool p) (carried (appended s.log))) p ≡ true
  pub within : (p : ℕ) → p < pages s.pool → waits_for s.pool p ≤ length (appended s.log)
  pub unnamed : (p : ℕ) → p < pages s.pool → waits_for s.pool p ≡ 0 → some_record (is_of_page p) (appended s.log) ≡ false

pub Steady-prop : {D : Type 0} (g : Ghosts D) (s : Store D) → IsProp (IsSteady g s)
Steady-prop g s = hlevel (props, IsOn-prop, Sound-prop, Pool-prop, Shows-prop)

pub steady : {D : Type 0} (g : Ghosts D) (s : Store D) → HasOpening g s → IsSteady g s
steady g s some = ∥∥₁_elim some (Steady-prop g s) (λ (opening, k). record {
  on = k.on;
  sound = k.sound;
  apart = k.apart;
  few = k.few;
  frames = k.frames;
  shows = k.shows;
  settled = k.settled;
  imaged = k.tied.imaged;
  within = λ p lt. let w = k.tied.within p lt in omega (arith, w, length-map (appended s.log) carried_of);
  unnamed = k.unnamed;
})
