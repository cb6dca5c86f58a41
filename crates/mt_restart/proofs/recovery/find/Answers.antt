use Rattle.std.proofs.Common.{rules, ◌<◌, inl, inr, ⊎_elim, ℕ, List, sym, subst}
use Rattle.std.proofs.lemmas.Result.{IfErr-weaker, IfOk-weaker, err_from_is_err_and}
use Rattle.mt_replay.specs.Refused.{IsReplayed}
use Rattle.mt_replay.specs.Stands.{ShowsBase}
use Rattle.mt_restart.specs.Recovered.{IsCauseToStop}
use Rattle.mt_log.proofs.Ruling.{ruled}
use Rattle.mt_restart.proofs.recovery.find.Goals as goal

pub returns-in_err-replayed : goal.returns-in_err-replayed
returns-in_err-replayed g c = record {
  found = search rules;
  restored = search rules;
  shows = search rules;
  no_other_refusal = λ relations counters b found.
      let p = err_from_is_err_and c.from_residual.result c.from_residual.ensures.1 in
      rw (p.1, p.2) (⊎_elim (λ memory. inl memory) (λ fault. inr (inl fault)) (c.in_err-replayed.ensures.no_other_refusal relations counters b found));
  reads = c.replay_of.ensures.reads;
  cause = let p = err_from_is_err_and c.from_residual.result c.from_residual.ensures.1 in
      rw (p.1, p.2) (⊎_elim (λ broken. inl broken) (λ other. inr (inr other)) c.in_err-replayed.ensures.cause);
  unformatted = let p = err_from_is_err_and c.from_residual.result c.from_residual.ensures.1 in
      rw (p.1, p.2) c.in_err-replayed.ensures.unformatted;
  other = let p = err_from_is_err_and c.from_residual.result c.from_residual.ensures.1 in
      rw (p.1, p.2) c.in_err-replayed.ensures.other;
  quiet = search rules;
}

pub prepare-requires-clause-marked : goal.prepare-requires-clause-marked
prepare-requires-clause-marked g c = (g.D.Device.seen c.args.device.now, c.in_ok-replayed.ensures.marked)

pub returns : goal.returns
returns g c =
    let D = g.D.Device in
    let seen = D.seen c.args.device.now in
    let x = c.in_ok-replayed.replayed in
    let r = c.in_ok-replayed.ensures in
    let p = c.prepare.ensures in
    let failed = D.faults c.args.device.now < D.faults c.replay_of.new.device in
    record {
      found = p.found seen r.marked;
      restored = IfOk-weaker c.prepare.result _ _ (λ f same. record { slot = x.ruling; second = r.has_format; replayed = subst (IsReplayed seen x.ruling) (sym same) r.replayed }) p.restored;
      shows = λ relations counters b can. IfOk-weaker c.prepare.result _ _ (λ f same. subst (λ (items : List (List ℕ)). ShowsBase relations counters items b) (sym same) (r.found relations counters b can)) p.restored;
      no_other_refusal = λ relations counters b can. IfErr-weaker c.prepare.result _ _ (λ why cause. ⊎_elim (λ memory. inl memory) (λ full. inr (inr full.0)) cause) p.cause;
      reads = c.replay_of.ensures.reads;
      cause = IfErr-weaker c.prepare.result _ _ (λ why cause. ⊎_elim
          (λ memory. subst (IsCauseToStop seen failed) (sym memory) (inl tt))
          (λ full. inr (inl (full.0, record { ruling = x.ruling; items = x.restored.pages.items; replayed = r.replayed; turn_barred = full.1 seen r.marked }))) cause) p.cause;
      unformatted = IfErr-weaker c.prepare.result _ _ (λ why cause none. absurd (ruled seen x.ruling r.marked.area.rules none)) p.cause;
      other = IfErr-weaker c.prepare.result _ _ (λ why cause is. absurd (r.none_other is)) p.cause;
      quiet = λ not. r.quiet (λ e. cc);
    }
