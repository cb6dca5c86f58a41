use Rattle.std.proofs.Common.{rules, ◌∙◌, sym}
use Rattle.std.proofs.lemmas.Result.{err_from_is_err_and}
use Rattle.mt_base.specs.declared.format.Format.TheVariants.{Two}
use Rattle.mt_base.specs.declared.refusal.Refusal.{Refusal}
use Rattle.mt_restart.proofs.Refusals.{not_either}
use Rattle.mt_restart.proofs.Again.{read_stands, recovers}
use Rattle.mt_restart.proofs.recovery.recover.Goals as goal

pub turn_to-requires : goal.turn_to-requires
turn_to-requires g c = record {
  only = λ x left. c.in_ok-found.ensures.only (λ e. cc) x left ∙ sym c.find_synced.ensures.reads.same;
  found = (c.args.frames, c.in_ok-found.ensures.found);
}

pub returns-in_err-found : goal.returns-in_err-found
returns-in_err-found g c =
    let D = g.D.Device in
    let x = c.in_err-found.ensures in
    let why = c.in_err-found.field-0.0 in
    let p = err_from_is_err_and c.from_residual.result c.from_residual.ensures.1 in
    record {
      recovered = search rules;
      restored = search rules;
      shows = search rules;
      no_other_refusal = λ relations counters b found. rw (p.1, p.2) (x.no_other_refusal relations counters b found);
      next = search rules;
      moments = search rules;
      settled = λ relations counters b found. rw (p.1, p.2) (λ other. read_stands D g.met.D.Device.counts_now c.args.device.now c.find_synced.new.device x.reads.same x.reads.moments Two relations counters b found (x.only (not_either why Refusal.DeviceFailed (λ e. other e))));
      reads = rw (p.1, p.2) (λ not. x.reads);
      cause = rw (p.1, p.2) x.cause;
      unformatted = rw (p.1, p.2) x.unformatted;
      other = rw (p.1, p.2) x.other;
      quiet = rw (p.1, p.2) (λ not. x.quiet (not_either why Refusal.DeviceFailed not));
    }

pub returns : goal.returns
returns g c =
    recovers g.D.Device g.met.D.Device.counts_now c.args.device.now c.find_synced.new.device c.find_synced.ensures.reads.same c.find_synced.ensures.reads.moments
    c.args.frames c.in_ok-found.found c.in_ok-found.ensures c.slots_are_read_back.ensures c.only_own_pages_matter.ensures c.turn_to.new.device c.turn_to.result c.turn_to.ensures
