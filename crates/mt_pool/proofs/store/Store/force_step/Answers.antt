use Rattle.std.proofs.Common.{◌≡◌, ◌<◌, ◌∙◌, inl, ℕ, Ok, refl, sym, ap, subst, length}
use Rattle.mt_log.specs.Batch.{joined}
use Rattle.mt_log.specs.Seen.{LogSeen}
use Rattle.mt_log.specs.Words.{durable, IsStep}
use Rattle.mt_log.specs.declared.log.Forced.{Forced}
use Rattle.mt_log.proofs.Stepped.{stepped}
use Rattle.mt_pool.specs.Kept.{IsKept, Keeps}
use Rattle.mt_pool.specs.Views.{pages, view}
use Rattle.mt_pool.specs.declared.store.Store.{Store}
use Rattle.mt_pool.proofs.Steady.{steady}
use Rattle.mt_pool.proofs.Kept.{each_moment, kept_force, joined_more, same_durable}
use Rattle.mt_pool.proofs.Tied.{views_apart}
use Rattle.mt_pool.proofs.store.Store.force_step.Goals as goal
use Rattle.mt_pool.proofs.store.Store.force_step.Goals.{in-Durable, in_default}
use Rattle.mt_pool.proofs.store.Store.force_step.Given.{Over}

pub returns-in_err-forced-clause-keeps : goal.returns-in_err-forced-clause-keeps
returns-in_err-forced-clause-keeps g c =
    let s = c.args.self.now in let new = c.force_step.new.self in let f = c.force_step.ensures in
    let t = stepped s.log new c.force_step.result f.steps in
    let more = joined_more s.log new t.moves in
    let kept : (opening : _) → IsKept g.D.Device opening s → IsKept g.D.Device opening _ = λ opening k.
    kept_force g.D.Device opening s k new c.force_step.new.device s.settled f.on (t.sound _) t.moves t.same_records
    (k.settled ∙ sym (ap (λ (x : LogSeen). length (joined x.batches)) c.in_err-forced.ensures.steps.now)) t.start t.end f.within.rest f.within.elsewhere in
    record {
      kept = kept;
      moments = λ opening k. each_moment g.D.Device g.met.D.Device.only_now opening s _ k (kept opening k) t.start t.end refl refl t.same_records more.0 more.1 f.within.time;
    }

pub returns-in_err-forced-clause-views : goal.returns-in_err-forced-clause-views
returns-in_err-forced-clause-views g c = let s = c.args.self.now in
    views_apart s.pool _ _ _ _ c.force_step.ensures.within.rest (inl (steady g.D.Device s c.requires.open).apart)

-- the store that is returned
after : (g : Over) (c : goal.Joined-forced g) → (n : ℕ) × (n ≡ length (durable c.force_step.new.self)) × (c.match-forced.self ≡ record c.args.self.now { device = c.force_step.new.device; log = c.force_step.new.self; settled = n })
after g c =
    let old = c.args.self.now.log in
    let new = c.force_step.new.self in
    let step = (stepped old new (Ok c.in_ok-forced.forced) c.in_ok-forced.ensures.steps).step in
    elim c.match-forced.branch [
      | in-Durable w ↦ (w.in-Durable.place, (subst (λ (f : Forced). IsStep old f new) w.in-Durable.is step).6, w.self-is)
      | in_default w ↦ (c.args.self.now.settled, (steady g.D.Device c.args.self.now c.requires.open).settled ∙ sym (ap length (same_durable old new c.in_ok-forced.forced w.in_default.not-Durable step)), w.self-is)
    ]

pub returns-clause-keeps : goal.returns-clause-keeps
returns-clause-keeps g c =
    let s = c.args.self.now in let new = c.force_step.new.self in let f = c.force_step.ensures in let a = after g c in
    let t = stepped s.log new c.force_step.result f.steps in
    let more = joined_more s.log new t.moves in
    let kept : (opening : _) → IsKept g.D.Device opening s → IsKept g.D.Device opening _ = λ opening k.
    kept_force g.D.Device opening s k new c.force_step.new.device a.0 f.on (t.sound _) t.moves t.same_records a.1 t.start t.end f.within.rest f.within.elsewhere in
    subst (λ (t : Store _). Keeps g.D.Device s t s.device t.device) (sym a.2) (record {
      kept = kept;
      moments = λ opening k. each_moment g.D.Device g.met.D.Device.only_now opening s _ k (kept opening k) t.start t.end refl refl t.same_records more.0 more.1 f.within.time;
    })

pub returns-clause-views : goal.returns-clause-views
returns-clause-views g c = let s = c.args.self.now in let a = after g c in
    subst (λ (t : _). (q : ℕ) → q < pages s.pool → view t.pool (g.D.Device.seen t.device) q ≡ view s.pool (g.D.Device.seen s.device) q) (sym a.2)
    (views_apart s.pool _ _ _ _ c.force_step.ensures.within.rest (inl (steady g.D.Device s c.requires.open).apart))

pub force_step-requires : goal.force_step-requires
force_step-requires g c = record { on = (steady g.D.Device c.args.self.now c.requires.open).on }
