use Rattle.std.proofs.Common.{◌≡◌, ◌<◌, true, map, length, sym, subst, refl, ◌∙◌, arith}
use Rattle.std.specs.Prelude.{List, [], ◌∷◌}
use Rattle.mt_disk.specs.Calls.{Meanwhile}
use Rattle.mt_disk.proofs.Frame.{started}
use Rattle.mt_frame.specs.declared.records.Record.{Record}
use Rattle.mt_log.specs.Area.{ScansWithOrWithout}
use Rattle.mt_log.specs.Seen.{LogSeen, is_still_at, batch_of}
use Rattle.mt_log.specs.Words.{seen_of}
use Rattle.mt_log.specs.declared.stage.Stage.{Stage}
use Rattle.mt_log.specs.declared.stage.Step.TheVariants.{WriteBody}
use Rattle.mt_log.proofs.AtRest.{scans_coming}
use Rattle.mt_log.proofs.Stepped.{steps_called, steps_on, sealed, stopped_still}
use Rattle.mt_log.proofs.log.Log.force_step.Goals as goal

some_waits : (waits : List Record) → 0 < length waits → is_still_at Stage.Idle waits ≡ true → ⊥
some_waits [] some is = omega arith
some_waits (x ∷ waits) some is = cc

pub returns-in-Failed-clause-steps : goal.returns-in-Failed-clause-steps
unfolding seen_of
returns-in-Failed-clause-steps g c = record { only_device = refl; some = λ idle. absurd (let no = sym c.in-Failed.is ∙ idle in cc); now = stopped_still (seen_of c.args.self.now) c.in-Failed.is }

pub returns-in-Failed-clause-moments : goal.returns-in-Failed-clause-moments
returns-in-Failed-clause-moments g c = let d = c.args.device.now in
    started g.D.Device.moment g.D.Device.left_since d _
    (λ k left. scans_coming g.D.Device c.args.self.now d c.requires.on k (g.met.D.Device.only_now d k left))

pub returns-then-self-eq0-clause-moments : goal.returns-then-self-eq0-clause-moments
returns-then-self-eq0-clause-moments g c = let d = c.args.device.now in
    started g.D.Device.moment g.D.Device.left_since d _
    (λ k left. scans_coming g.D.Device c.args.self.now d c.requires.on k (g.met.D.Device.only_now d k left))

pub returns-in-Forcing-clause-steps : goal.returns-in-Forcing-clause-steps
returns-in-Forcing-clause-steps g c =
    steps_on c.args.self.now c.make_call-in-Forcing.new.self c.in-Forcing.step c.make_call-in-Forcing.result c.in-Forcing.is c.make_call-in-Forcing.ensures.call

pub returns-in-Forcing-clause-moments : goal.returns-in-Forcing-clause-moments
unfolding seen_of
returns-in-Forcing-clause-moments g c = let s = c.args.self.now in
    subst (λ (x : Stage). Meanwhile g.D.Device c.args.device.now c.make_call-in-Forcing.new.device (ScansWithOrWithout s.place.start s.place.end (map (λ batch. batch.items) s.batches.items) (batch_of x s.waiting.items s.in_flight.items)))
    (sym c.in-Forcing.is) c.make_call-in-Forcing.ensures.moments

pub returns-else-self-eq0-clause-steps : goal.returns-else-self-eq0-clause-steps
unfolding seen_of
returns-else-self-eq0-clause-steps g c = let s = c.args.self.now in let t = c.seal.new.self in
    steps_called (seen_of s) t c.make_call.new.self WriteBody (sealed s t c.seal.ensures c.in-Idle.is) c.seal.ensures.stage (λ idle. let n = s.counted in let no = c.if-self-eq0.false in omega (arith, n, no)) c.make_call.result c.make_call.ensures.call

pub returns-else-self-eq0-clause-moments : goal.returns-else-self-eq0-clause-moments
unfolding seen_of
returns-else-self-eq0-clause-moments g c = let s = c.args.self.now in let t = c.seal.new.self in
    subst (λ (x : LogSeen). Meanwhile g.D.Device c.args.device.now c.make_call.new.device (ScansWithOrWithout x.start x.end x.batches x.flight))
    (sym (sealed s t c.seal.ensures c.in-Idle.is)) c.make_call.ensures.moments
