use Rattle.std.proofs.Common.{◌≡◌, ◌∙◌, ◌<◌, ℕ, List, refl, subst, sym}
use Rattle.std.proofs.lemmas.Result.{IfErr-weaker, IfOk-weaker}
use Rattle.mt_base.specs.declared.format.Format.TheVariants.{Two}
use Rattle.mt_replay.specs.Stands.{CanRestart}
use Rattle.mt_restart.specs.OfFormat.{SaysOther, SaysUnformatted}
use Rattle.mt_restart.specs.Recovered.{AreRestored, IsCauseToStop, IsFound}
use Rattle.mt_restart.proofs.Again.{read_synced}
use Rattle.mt_restart.proofs.recovery.find_synced.Goals as goal

pub returns : goal.returns
returns g c =
    let D = g.D.Device in
    let o = c.args.device.now in
    let s = c.sync.new.self in
    let n = c.find.new.device in
    let r = c.find.result in
    let x = c.find.ensures in
    let seen = c.sync.ensures.seen in
    let well : D.faults s ≡ D.faults o = c.in_ok-sync.ensures.cause.quiet refl in
    record {
      found = IfOk-weaker r _ _ (λ f is. subst (λ (y : List ℕ). IsFound y c.args.frames f) (sym x.reads.same) is) x.found;
      restored = IfOk-weaker r _ _ (λ f is. subst (λ (c : List ℕ). AreRestored c f.restored.pages.items) seen is) x.restored;
      shows = λ relations counters b can. x.shows relations counters b (subst (λ (c : List ℕ). CanRestart relations counters c b) (sym seen) can);
      no_other_refusal = λ relations counters b can. x.no_other_refusal relations counters b (subst (λ (c : List ℕ). CanRestart relations counters c b) (sym seen) can);
      reads = read_synced D g.met.D.Device.only_now o s n seen c.sync.ensures.time c.sync.ensures.crash x.reads;
      only = λ not y left. c.in_ok-sync.ensures.durable y ((x.reads.crash y).0 left);
      cause = IfErr-weaker r _ _ (λ why cause. subst (λ (k : ℕ). IsCauseToStop (D.seen o) (k < D.faults n) why) well (subst (λ (c : List ℕ). IsCauseToStop c (D.faults s < D.faults n) why) seen cause)) x.cause;
      unformatted = IfErr-weaker r _ _ (λ why says. subst (λ (c : List ℕ). SaysUnformatted c why) seen says) x.unformatted;
      other = IfErr-weaker r _ _ (λ why says. subst (λ (c : List ℕ). SaysOther Two c why) seen says) x.other;
      quiet = λ not. x.quiet not ∙ well;
    }
