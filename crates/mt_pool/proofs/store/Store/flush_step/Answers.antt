use Rattle.std.proofs.Common.{rules, ◌≡◌, ℕ, [], ◌∙◌, arith, ap, length, refl, sym, subst, append-nil}
use Rattle.mt_log.specs.Words.{durable}
use Rattle.mt_pool.specs.FlushSteps.{FlushSteps, HasFlushed}
use Rattle.mt_pool.specs.Views.{IsWaiting}
use Rattle.mt_pool.proofs.store.Store.flush_step.Given.{Over}
use Rattle.mt_pool.specs.Kept.{IsKept}
use Rattle.mt_pool.proofs.Flushing.{flushed}
use Rattle.mt_pool.proofs.Steady.{steady}
use Rattle.mt_pool.proofs.Kept.{each_moment, kept_flush}
use Rattle.mt_pool.proofs.store.Store.flush_step.Goals as goal

-- what follows of the step
says : (g : Over) (c : goal.After-flush_step g) → HasFlushed c.get.result c.args.self.now.pool c.flush_step.new.self c.flush_step.result
says g c = flushed c.get.result c.args.self.now.pool c.flush_step.new.self c.flush_step.result c.flush_step.ensures.steps

pub returns-clause-keeps : goal.returns-clause-keeps
returns-clause-keeps g c =
    let kept : (opening : _) → IsKept g.D.Device opening c.args.self.now → IsKept g.D.Device opening _ = λ opening k. let f = c.flush_step.ensures in let t = says g c in
    kept_flush g.D.Device opening c.args.self.now k c.flush_step.new.self c.flush_step.new.device c.get.result c.get.ensures f.pool f.shows t.waits f.place (ap (λ v. length v.items) t.there) f.views f.crash in
    record {
      kept = kept;
      moments = λ opening k. let f = c.flush_step.ensures in let t = says g c in
          each_moment g.D.Device g.met.D.Device.only_now opening c.args.self.now _ k (kept opening k) refl refl f.place (ap (λ v. length v.items) t.there) refl
          [] (sym (append-nil (durable c.args.self.now.log))) f.time;
    }

pub flush_step-requires-clause-pool : goal.flush_step-requires-clause-pool
flush_step-requires-clause-pool g c = (steady g.D.Device c.args.self.now c.requires.open).frames

pub flush_step-requires-clause-shows : goal.flush_step-requires-clause-shows
flush_step-requires-clause-shows g c = (steady g.D.Device c.args.self.now c.requires.open).shows

-- the pool counts by what is settled, which is what is durable
same_count : (g : Over) (c : goal.After-flush_step g) → c.get.result ≡ length (durable c.args.self.now.log)
same_count g c = c.get.ensures ∙ (steady g.D.Device c.args.self.now c.requires.open).settled

pub returns-clause-steps : goal.returns-clause-steps
returns-clause-steps g c = subst (λ (n : ℕ). FlushSteps n c.args.self.now.pool c.flush_step.new.self c.flush_step.result) (same_count g c) c.flush_step.ensures.steps

pub returns-clause-forced : goal.returns-clause-forced
returns-clause-forced g c = λ is.
    let k = (steady g.D.Device c.args.self.now c.requires.open) in
    let waiting = subst (λ (n : ℕ). IsWaiting c.args.self.now.pool n) (same_count g c) ((says g c).barred is) in
    let (f, dirty) = waiting.0 in let (p, holds, some) = k.frames.logged f dirty in
    let late = waiting.1 f p dirty holds in let within = k.within p (k.frames.names.back f p holds).0 in (search rules, omega arith)
