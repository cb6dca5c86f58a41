use Rattle.std.proofs.Common.{rules, ◌≡◌, ◌∙◌, ◌<◌, ◌≤◌, ⊎_elim, ℕ, List, length, sym, subst, arith}
use Rattle.std.proofs.lemmas.Result.{IfErr-weaker, IfOk-weaker, err_from_is_err_and}
use Rattle.mt_base.specs.declared.refusal.Refusal.{Refusal}
use Rattle.mt_log.proofs.ReadOn.{reads_then}
use Rattle.mt_log.proofs.Ruling.{ruled}
use Rattle.mt_log.proofs.Turns.{ruling_fits}
use Rattle.mt_model.specs.Model.{IsBase}
use Rattle.mt_replay.specs.Extension.{ExtendsSchema}
use Rattle.mt_replay.specs.Marking.{IsMarked}
use Rattle.mt_restart.specs.Migrated.{Additions, IsCauseNotToCarry, ShowsGrown}
use Rattle.mt_restart.proofs.Migrating.{cause_replayed, shows_grown}
use Rattle.mt_restart.proofs.Refusals.{not_either}
use Rattle.mt_restart.proofs.migration.find_grown.Goals as goal

pub returns-in_err-replayed : goal.returns-in_err-replayed
returns-in_err-replayed g c =
    let D = g.D.Device in
    let p = err_from_is_err_and c.from_residual.result c.from_residual.ensures.1 in
    let more : Additions = record { relations = c.args.relations; new_counters = c.args.counters.now } in
    record {
      found = search rules;
      grown_are = search rules;
      shows = search rules;
      reads = c.replay_of.ensures.reads;
      cause = rw (p.1, p.2) (cause_replayed more (D.seen c.args.device.now) (D.faults c.args.device.now < D.faults c.replay_of.new.device) c.in_err-replayed.field-0.0 c.in_err-replayed.ensures.cause);
      unformatted = rw (p.1, p.2) c.in_err-replayed.ensures.unformatted;
      other = rw (p.1, p.2) c.in_err-replayed.ensures.other;
      quiet = search rules;
    }

pub extend_schema-requires-clause-marked : goal.extend_schema-requires-clause-marked
extend_schema-requires-clause-marked g c =
    let x = c.in_ok-replayed.replayed in
    subst (λ (s : List ℕ). IsMarked s x.ruling x.restored.pages.items x.imaged.items x.lost.items) (sym c.replay_of.ensures.reads.same) c.in_ok-replayed.ensures.marked

pub returns-in_err-extended : goal.returns-in_err-extended
returns-in_err-extended g c =
    let D = g.D.Device in
    let seen = D.seen c.args.device.now in
    let x = c.in_ok-replayed.replayed in
    let r = c.in_ok-replayed.ensures in
    let e = c.in_err-extended.ensures in
    let well : D.faults c.replay_of.new.device ≡ D.faults c.args.device.now = r.quiet (λ e. cc) in
    let p = err_from_is_err_and c.from_residual-in_err-extended.result c.from_residual-in_err-extended.ensures.1 in
    let more : Additions = record { relations = c.args.relations; new_counters = c.args.counters.now } in
    let failed = D.faults c.args.device.now < D.faults c.extend_schema.new.device in
    record {
      found = search rules;
      grown_are = search rules;
      shows = search rules;
      reads = reads_then D g.met.D.Device.only_now c.args.device.now c.replay_of.new.device c.extend_schema.new.device c.replay_of.ensures.reads c.extend_schema.ensures.reads;
      cause = rw (p.1, p.2) (⊎_elim
          (λ long. subst (IsCauseNotToCarry more seen failed) (sym long.0) (record { slot = x.ruling; items = x.restored.pages.items; replayed = r.replayed; none = long.1 }))
          (λ fault. subst (IsCauseNotToCarry more seen failed) (sym fault.0) (subst (λ (n : ℕ). n < D.faults c.extend_schema.new.device) well fault.1))
          e.cause);
      unformatted = rw (p.1, p.2) (λ none. absurd (ruled seen x.ruling r.marked.area.rules none));
      other = rw (p.1, p.2) (λ is. absurd (r.none_other is));
      quiet = rw (p.1, p.2) (λ not. e.quiet (not_either c.in_err-extended.field-0.0 Refusal.DeviceFailed not) ∙ well);
    }

pub prepare-requires-clause-marked : goal.prepare-requires-clause-marked
prepare-requires-clause-marked g c = (g.D.Device.seen c.replay_of.new.device, c.in_ok-extended.ensures.marked)

pub returns : goal.returns
returns g c =
    let D = g.D.Device in
    let seen = D.seen c.args.device.now in
    let x = c.in_ok-replayed.replayed in
    let r = c.in_ok-replayed.ensures in
    let y = c.in_ok-extended.extended in
    let e = c.in_ok-extended.ensures in
    let p = c.prepare.ensures in
    let more : Additions = record { relations = c.args.relations; new_counters = c.args.counters.now } in
    let failed = D.faults c.args.device.now < D.faults c.extend_schema.new.device in
    let marked : IsMarked seen y.ruling y.restored.pages.items y.imaged.items y.lost.items = subst (λ (s : List ℕ). IsMarked s y.ruling y.restored.pages.items y.imaged.items y.lost.items) c.replay_of.ensures.reads.same e.marked in
    let some : 3 ≤ length x.restored.pages.items = let low = (ruling_fits seen x.ruling r.marked.area.rules).pages.0 in let count = r.marked.count in omega (arith, low, count) in
    record {
      found = p.found seen marked;
      grown_are = IfOk-weaker c.prepare.result _ _ (λ f same. record { slot = x.ruling; old = x.restored.pages.items; first = r.has_format; replayed = r.replayed; extension = subst (ExtendsSchema more.relations more.new_counters x.restored.pages.items) (sym same) e.extended }) p.restored;
      shows = λ relations counters b can. IfOk-weaker c.prepare.result _ _
          (λ f same. subst (λ (items : List (List ℕ)). ShowsGrown more relations counters items b) (sym same)
          (shows_grown more x.restored.pages.items y.restored.pages.items e.extended relations counters b some can.fits (subst IsBase (sym can.stands.is) can.recoverable.serial.bounds) (r.found relations counters b can))) p.restored;
      reads = reads_then D g.met.D.Device.only_now c.args.device.now c.replay_of.new.device c.extend_schema.new.device c.replay_of.ensures.reads c.extend_schema.ensures.reads;
      cause = IfErr-weaker c.prepare.result _ _ (λ why cause. ⊎_elim
          (λ memory. subst (IsCauseNotToCarry more seen failed) (sym memory) tt)
          (λ full. subst (IsCauseNotToCarry more seen failed) (sym full.0) (record { slot = y.ruling; items = y.restored.pages.items; grown_are = record { slot = x.ruling; old = x.restored.pages.items; first = r.has_format; replayed = r.replayed; extension = e.extended }; turn_barred = full.1 seen marked })) cause) p.cause;
      unformatted = IfErr-weaker c.prepare.result _ _ (λ why cause none. absurd (ruled seen x.ruling r.marked.area.rules none)) p.cause;
      other = IfErr-weaker c.prepare.result _ _ (λ why cause is. absurd (r.none_other is)) p.cause;
      quiet = λ not. e.quiet (λ e. cc) ∙ r.quiet (λ e. cc);
    }
