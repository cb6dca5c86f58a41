use Rattle.std.proofs.Common.{rules, ◌≡◌, ◌∙◌, ◌<◌, ap, inl, inr, ℕ, ◌+◌, List, length, refl, sym, subst}
use Rattle.std.proofs.lemmas.Result.{IfErr-weaker, IfOk-weaker, err_from_is_err_and}
use Rattle.mt_base.specs.declared.format.Format.TheVariants.{One}
use Rattle.mt_base.specs.declared.refusal.Refusal.{Refusal}
use Rattle.mt_disk.proofs.Frame.{leaves_more}
use Rattle.mt_log.specs.Masters.{IsRuling}
use Rattle.mt_log.specs.NextSlot.{next_slot}
use Rattle.mt_model.specs.Model.{Base}
use Rattle.mt_replay.specs.Stands.{CanReplay, ShowsBase}
use Rattle.mt_restart.specs.Migrated.{Additions, AreGrown, IsCarried, IsCauseNotToCarry, ShowsGrown, grown}
use Rattle.mt_restart.specs.OfFormat.{SaysOther, SaysUnformatted}
use Rattle.mt_restart.specs.Recovered.{IsFound}
use Rattle.mt_restart.proofs.Again.{read_stands, read_synced, when_turned}
use Rattle.mt_restart.proofs.Migrating.{ok_both, recovered_restarts}
use Rattle.mt_restart.proofs.Refusals.{not_either, quiet_of}
use Rattle.mt_restart.proofs.Ruled.{one_rules}
use Rattle.mt_restart.proofs.migration.carry_over.Goals as goal

pub turn_to-requires-clause-only : goal.turn_to-requires-clause-only
turn_to-requires-clause-only g c = λ x left. c.in_ok-sync.ensures.durable x ((c.find_grown.ensures.reads.crash x).0 left) ∙ sym (c.find_grown.ensures.reads.same ∙ c.sync.ensures.seen)

-- what was found of the device as it was synced is so of it as it was read
pub turn_to-requires-clause-found : goal.turn_to-requires-clause-found
turn_to-requires-clause-found g c = (c.args.frames, subst (λ (x : List ℕ). IsFound x c.args.frames c.in_ok-found.found) (sym c.find_grown.ensures.reads.same) c.in_ok-found.ensures.found)

pub returns-in_err-found : goal.returns-in_err-found
returns-in_err-found g c =
    let D = g.D.Device in
    let o = c.args.device.now in
    let s = c.sync.new.self in
    let n = c.find_grown.new.device in
    let p = err_from_is_err_and c.from_residual-in_err-found.result c.from_residual-in_err-found.ensures.1 in
    let more : Additions = record { relations = c.args.relations; new_counters = c.args.counters.now } in
    record {
      recovered = search rules;
      grown_are = search rules;
      shows = search rules;
      next = search rules;
      moments = λ relations counters b found. leaves_more D.moment D.left_since o n (D.may_leave o) (IsCarried D more relations counters b o)
          (read_synced D g.met.D.Device.only_now o s n c.sync.ensures.seen c.sync.ensures.time c.sync.ensures.crash c.find_grown.ensures.reads).moments (λ x left. inl left);
      stands = search rules;
      reads = rw (p.1, p.2) (λ not. read_synced D g.met.D.Device.only_now o s n c.sync.ensures.seen c.sync.ensures.time c.sync.ensures.crash c.find_grown.ensures.reads);
      settled = λ relations counters b found. rw (p.1, p.2) (λ not. let reads = read_synced D g.met.D.Device.only_now o s n c.sync.ensures.seen c.sync.ensures.time c.sync.ensures.crash c.find_grown.ensures.reads in
          read_stands D g.met.D.Device.counts_now o n reads.same reads.moments One relations counters b found (λ x left. c.in_ok-sync.ensures.durable x ((c.find_grown.ensures.reads.crash x).0 left)));
      -- the same cause, of a device that failed in no call before
      cause = rw (p.1, p.2) (subst (λ (k : ℕ). IsCauseNotToCarry more (D.seen o) (k < D.faults n) c.in_err-found.field-0.0) (c.in_ok-sync.ensures.cause.quiet refl)
          (subst (λ (x : List ℕ). IsCauseNotToCarry more x (D.faults s < D.faults n) c.in_err-found.field-0.0) c.sync.ensures.seen c.in_err-found.ensures.cause));
      unformatted = rw (p.1, p.2) (subst (λ (x : List ℕ). SaysUnformatted x c.in_err-found.field-0.0) c.sync.ensures.seen c.in_err-found.ensures.unformatted);
      other = rw (p.1, p.2) (subst (λ (x : List ℕ). SaysOther One x c.in_err-found.field-0.0) c.sync.ensures.seen c.in_err-found.ensures.other);
      quiet = rw (p.1, p.2) (λ not. c.in_err-found.ensures.quiet (not_either c.in_err-found.field-0.0 Refusal.DeviceFailed not) ∙ c.in_ok-sync.ensures.cause.quiet refl);
    }

pub returns : goal.returns
returns g c =
    let D = g.D.Device in
    let o = c.args.device.now in
    let s = c.sync.new.self in
    let n = c.find_grown.new.device in
    let e = c.turn_to.new.device in
    let r = c.turn_to.result in
    let t = c.turn_to.ensures in
    let f = c.in_ok-found.found in
    let is = c.in_ok-found.ensures.found in
    let more : Additions = record { relations = c.args.relations; new_counters = c.args.counters.now } in
    let well : D.faults n ≡ D.faults o = c.in_ok-found.ensures.quiet (λ e. cc) ∙ c.in_ok-sync.ensures.cause.quiet refl in
    let over : IsFound (D.seen n) c.args.frames f = subst (λ (x : List ℕ). IsFound x c.args.frames f) (sym c.find_grown.ensures.reads.same) is in
    let shows : (relations counters : ℕ) (b : Base) → CanReplay One relations counters (D.seen o) b → ShowsGrown more relations counters f.restored.pages.items b = λ relations counters b found.
    c.in_ok-found.ensures.shows relations counters b (subst (λ (x : List ℕ). CanReplay One relations counters x b) (sym c.sync.ensures.seen) found) in
    record {
      recovered = t.recovered c.args.frames over;
      grown_are = IfOk-weaker r _ _ (λ x same. subst (AreGrown more (D.seen o)) (sym same) (subst (λ (y : List ℕ). AreGrown more y f.restored.pages.items) c.sync.ensures.seen c.in_ok-found.ensures.grown_are)) t.restored;
      shows = λ relations counters b found. IfOk-weaker r _ _ (λ x same. subst (λ (items : List (List ℕ)). ShowsGrown more relations counters items b) (sym same) (shows relations counters b found)) t.restored;
      next = λ slot rules. IfOk-weaker r _ _ (λ x next. next ∙ ap next_slot (one_rules c.slots_are_read_back.ensures (D.seen s) f.ruling slot is.marked.rules (subst (λ (x : List ℕ). IsRuling x slot) (sym c.sync.ensures.seen) rules))) t.ruling;
      moments = λ relations counters b found. let grown_is = shows relations counters b found in
          let reads = read_synced D g.met.D.Device.only_now o s n c.sync.ensures.seen c.sync.ensures.time c.sync.ensures.crash c.find_grown.ensures.reads in
          when_turned D g.met.D.Device.counts_now o n reads.same reads.moments One relations counters b found
          c.slots_are_read_back.ensures c.only_own_pages_matter.ensures c.args.frames f over (relations + more.relations) (counters + length more.new_counters) (grown more counters b) grown_is.fits grown_is.bounds grown_is.shows e t.moments;
      stands = λ relations counters b found. let grown_is = shows relations counters b found in
          let n2 = relations + more.relations in let k2 = counters + length more.new_counters in let b2 = grown more counters b in
          ok_both r (λ x recovered same. recovered_restarts D c.only_own_pages_matter.ensures c.args.frames e x recovered n2 k2 b2 grown_is.fits grown_is.bounds (subst (λ (items : List (List ℕ)). ShowsBase n2 k2 items b2) (sym same) grown_is.shows))
          (t.recovered c.args.frames over) t.restored;
      reads = IfErr-weaker r _ _ (λ why fault not. absurd (not fault.0)) t.cause;
      settled = λ relations counters b found. IfErr-weaker r _ _ (λ why fault not. absurd (not fault.0)) t.cause;
      cause = IfErr-weaker r _ _ (λ why fault. subst (IsCauseNotToCarry more (D.seen o) (D.faults o < D.faults e)) (sym fault.0) (subst (λ (k : ℕ). k < D.faults e) well fault.1)) t.cause;
      unformatted = IfErr-weaker r _ _ (λ why fault none. inr fault.0) t.cause;
      other = IfErr-weaker r _ _ (λ why fault is. inr fault.0) t.cause;
      quiet = λ not. quiet_of (D.faults n < D.faults e) r t.cause t.quiet not ∙ well;
    }
