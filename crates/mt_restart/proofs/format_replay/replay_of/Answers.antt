use Rattle.std.proofs.Common.{rules, ◌≡◌, ◌⊎◌, ◌∙◌, ◌<◌, inl, inr, ℕ, List, Result, Ok, Err, refl, ap, sym, subst}
use Rattle.std.specs.Prelude.{IfErr, IfOk}
use Rattle.std.proofs.lemmas.Result.{err_from_is_err_and}
use Rattle.mt_base.specs.declared.refusal.Refusal.{Refusal}
use Rattle.mt_base.specs.declared.refusal.Refusal.TheVariants.{BadFormat, DeviceFailed, NotFormatted, WrongFormat}
use Rattle.mt_frame.specs.declared.slots.MasterSlot.{MasterSlot}
use Rattle.mt_log.specs.Masters.{BreaksMaster, IsRuling, IsUnformatted}
use Rattle.mt_replay.specs.Refused.{BreaksFormat, IsCause, IsReplayed, in_log, in_master}
use Rattle.mt_replay.specs.Marking.{IsMarked}
use Rattle.mt_replay.specs.Stands.{CanReplay}
use Rattle.mt_log.proofs.ReadOn.{reads_then}
use Rattle.mt_base.specs.declared.format.Format.{Format}
use Rattle.mt_frame.specs.Laws.{OneSlot}
use Rattle.mt_log.proofs.Calls.{one_outcome}
use Rattle.mt_log.proofs.Ruling.{ruled}
use Rattle.mt_restart.specs.OfFormat.{HasOtherFormat, SaysOther, SaysUnformatted}
use Rattle.mt_restart.proofs.Ruled.{one_rules}
use Rattle.mt_restart.proofs.format_replay.replay_of.Goals as goal

-- why no slot rules
slot_cause : (c : List ℕ) (F : Type 0) (why : Refusal) → ((why ≡ DeviceFailed) × F) ⊎ (((why ≡ NotFormatted) × IsUnformatted c) ⊎ ((at : ℕ) × (why ≡ BadFormat at) × BreaksMaster c at))
    → IsCause BreaksFormat c F why
slot_cause c F why (inl failed) = subst (IsCause BreaksFormat c F) (sym failed.0) failed.1
slot_cause c F why (inr (inl none)) = subst (IsCause BreaksFormat c F) (sym none.0) none.1
slot_cause c F why (inr (inr bad)) = subst (IsCause BreaksFormat c F) (sym bad.1) (in_log (in_master bad.2))

pub returns-in_err-ruling : goal.returns-in_err-ruling
returns-in_err-ruling g c = record {
  replayed = search rules;
  marked = search rules;
  has_format = search rules;
  found = search rules;
  no_other_refusal = λ relations counters b can.
      let p = err_from_is_err_and c.from_residual.result c.from_residual.ensures.1 in
      rw (p.1, p.2) (inr (c.in_err-ruling.ensures.no_other_refusal can.stands.slot can.stands.read.rules));
  reads = let r = c.ruling_slot.ensures in record { same = r.seen; crash = r.crash; moments = r.moments };
  cause = let D = g.D.Device in let p = err_from_is_err_and c.from_residual.result c.from_residual.ensures.1 in
      rw (p.1, p.2) (inl (slot_cause (D.seen c.args.device.now) (D.faults c.args.device.now < D.faults c.ruling_slot.new.device) c.in_err-ruling.field-0.0 c.in_err-ruling.ensures.cause));
  unformatted = let p = err_from_is_err_and c.from_residual.result c.from_residual.ensures.1 in
      rw (p.1, p.2) c.in_err-ruling.ensures.unformatted;
  other = let p = err_from_is_err_and c.from_residual.result c.from_residual.ensures.1 in
      rw (p.1, p.2) (λ is. inr (c.in_err-ruling.ensures.no_other_refusal is.0 is.1));
  none_other = search rules;
  quiet = search rules;
}

-- one slot rules
of_one : OneSlot → (c : List ℕ) (s t : MasterSlot) (format : Format) → IsRuling c s → IsRuling c t → s.format ≡ format → t.format ≡ format
of_one one c s t format a b is = ap (λ (m : MasterSlot). m.format) (one_rules one c t s b a) ∙ is

pub returns-then-not-is_of_format : goal.returns-then-not-is_of_format
returns-then-not-is_of_format g c =
    let D = g.D.Device in
    let slot = c.in_ok-ruling.ruling in
    let rules = c.in_ok-ruling.ensures.rules in
    let not : slot.format ≡ c.args.format → ⊥ = λ is. one_outcome c.is_of_format.result (c.is_of_format.ensures.1 is) c.if-not-is_of_format.true in
    record {
      replayed = search rules;
      marked = search rules;
      has_format = search rules;
      found = search rules;
      no_other_refusal = λ relations counters b can.
          absurd (not (of_one c.slots_are_read_back.ensures (D.seen c.args.device.now) can.stands.slot slot c.args.format can.stands.read.rules rules can.is_of));
      reads = let r = c.ruling_slot.ensures in record { same = r.seen; crash = r.crash; moments = r.moments };
      cause = inr (refl, (slot, rules, not));
      unformatted = λ none. absurd (ruled (D.seen c.args.device.now) slot rules none);
      other = λ is. inl refl;
      none_other = search rules;
      quiet = λ not. c.in_ok-ruling.ensures.quiet (λ e. cc);
    }

-- what is so of each answer, or of each refusal
ok_all : {T E : Type 0} (r : Result T E) (P : T → Type 0) → ((x : T) → P x) → IfOk r P
ok_all (Ok x) P all = all x
ok_all (Err e) P all = tt

err_all : {T E : Type 0} (r : Result T E) (P : E → Type 0) → ((e : E) → P e) → IfErr r P
err_all (Ok x) P all = tt
err_all (Err e) P all = all e

ok_more : {T E : Type 0} (r : Result T E) (P Q : T → Type 0) → ((x : T) → P x → Q x) → IfOk r P → IfOk r Q
ok_more (Ok x) P Q more is = more x is
ok_more (Err e) P Q more is = tt

err_more : {T E : Type 0} (r : Result T E) (P Q : E → Type 0) → ((e : E) → P e → Q e) → IfErr r P → IfErr r Q
err_more (Ok x) P Q more is = tt
err_more (Err e) P Q more is = more e is

pub replay_by-requires-clause-only : goal.replay_by-requires-clause-only
replay_by-requires-clause-only g c = λ slot rules. c.in_ok-ruling.ensures.only slot (subst (λ (x : List ℕ). IsRuling x slot) c.ruling_slot.ensures.seen rules)

pub returns : goal.returns
returns g c =
    let D = g.D.Device in
    let one = c.slots_are_read_back.ensures in
    let old = c.args.device.now in
    let mid = c.ruling_slot.new.device in
    let new = c.replay_by.new.device in
    let format = c.args.format in
    let r = c.replay_by.result in
    let e = c.replay_by.ensures in
    let first = c.ruling_slot.ensures in
    let slot = c.in_ok-ruling.ruling in
    let rules = c.in_ok-ruling.ensures.rules in
    let same = first.seen in
    let is : slot.format ≡ format = c.is_of_format.ensures.0 c.if-not-is_of_format.false in
    let quiet : D.faults mid ≡ D.faults old = c.in_ok-ruling.ensures.quiet (λ e. cc) in
    let marked = subst (λ (c : List ℕ). IfOk r (λ x. IsMarked c x.ruling x.restored.pages.items x.imaged.items x.lost.items)) same e.marked in
    record {
      replayed = subst (λ (c : List ℕ). IfOk r (λ x. IsReplayed c x.ruling x.restored.pages.items)) same e.replayed;
      marked = marked;
      has_format = ok_more r (λ x. IsMarked (D.seen old) x.ruling x.restored.pages.items x.imaged.items x.lost.items) (λ x. x.ruling.format ≡ format)
          (λ x m. of_one one (D.seen old) slot x.ruling format rules m.area.rules is) marked;
      found = λ relations counters b can. e.found format relations counters b (subst (λ (c : List ℕ). CanReplay format relations counters c b) (sym same) can);
      no_other_refusal = λ relations counters b can. e.no_other_refusal format relations counters b (subst (λ (c : List ℕ). CanReplay format relations counters c b) (sym same) can);
      reads = reads_then D g.met.D.Device.only_now old mid new (record { same = first.seen; crash = first.crash; moments = first.moments }) e.reads;
      cause = err_more r (IsCause BreaksFormat (D.seen old) (D.faults old < D.faults new)) (λ why. IsCause BreaksFormat (D.seen old) (D.faults old < D.faults new) why ⊎ ((why ≡ WrongFormat) × HasOtherFormat format (D.seen old)))
          (λ why is. inl is)
          (subst (λ (n : ℕ). IfErr r (IsCause BreaksFormat (D.seen old) (n < D.faults new))) quiet (subst (λ (c : List ℕ). IfErr r (IsCause BreaksFormat c (D.faults mid < D.faults new))) same e.cause));
      unformatted = err_all r (SaysUnformatted (D.seen old)) (λ why none. absurd (ruled (D.seen old) slot rules none));
      other = err_all r (SaysOther format (D.seen old)) (λ why o. absurd (o.2 (of_one one (D.seen old) slot o.0 format rules o.1 is)));
      none_other = ok_all r (λ _. HasOtherFormat format (D.seen old) → ⊥) (λ x o. o.2 (of_one one (D.seen old) slot o.0 format rules o.1 is));
      quiet = λ not. e.quiet not ∙ quiet;
    }
