use Rattle.std.proofs.Common.{◌≡◌, ◌<◌, ◌∙◌, ℕ, List, Ok, Err, ap, inl, length, refl, sym, subst}
use Rattle.mt_base.specs.declared.format.Format.TheVariants.{Two}
use Rattle.mt_disk.proofs.Frame.{leaves_more}
use Rattle.mt_restart.proofs.Again.{read_stands, recovers}
use Rattle.mt_base.specs.declared.refusal.Refusal.{Refusal}
use Rattle.mt_disk.specs.Disk.{LeavesOnly}
use Rattle.mt_space.specs.PageLists.{bytes_of}
use Rattle.mt_model.specs.Views.{base_of}
use Rattle.mt_restart.proofs.Based.{base_of_good}
use Rattle.mt_restart.proofs.Counted.{begins_on, begins_on_pages}
use Rattle.mt_restart.proofs.Refusals.{one_refusal}
use Rattle.mt_restart.proofs.Surveying.{inspected_of}
use Rattle.mt_restart.proofs.Ruled.{not_other, not_unformatted}
use Rattle.mt_restart.proofs.Unlost.{never_full}
use Rattle.mt_restart.specs.Inspected.{IsOfPages}
use Rattle.mt_restart.specs.Recovered.{IsCauseToStop, StandsStill}
use Rattle.mt_steps.specs.Listed.{IsSame}
use Rattle.mt_restart.proofs.surveyed_kernel.open_with_survey.Goals as goal

pub survey_of-requires : goal.survey_of-requires
survey_of-requires g c = c.in-Ok.ensures.found.checked

pub turn_to-requires : goal.turn_to-requires
turn_to-requires g c = record {
  only = λ x left. c.in-Ok.ensures.only (λ e. cc) x left ∙ sym c.find_synced.ensures.reads.same;
  found = (c.args.frames, c.in-Ok.ensures.found);
}

pub kernel_over-requires : goal.kernel_over-requires
kernel_over-requires g c =
    let D = g.D.Device in let o = c.args.device in let n = c.find_synced.new.device in let read = c.find_synced.ensures.reads in
    let x = recovers D g.met.D.Device.counts_now o n read.same read.moments c.args.frames c.in-Ok.found c.in-Ok.ensures c.slots_are_read_back.ensures c.only_own_pages_matter.ensures c.turn_to.new.device (Ok c.in-Ok-turn_to.recovered) c.in-Ok-turn_to.ensures in
    record { recovered = (c.args.frames, x.recovered) }

pub returns-clause-opened : goal.returns-clause-opened
returns-clause-opened g c =
    let D = g.D.Device in let o = c.args.device in let n = c.find_synced.new.device in let read = c.find_synced.ensures.reads in
    let x = recovers D g.met.D.Device.counts_now o n read.same read.moments c.args.frames c.in-Ok.found c.in-Ok.ensures c.slots_are_read_back.ensures c.only_own_pages_matter.ensures c.turn_to.new.device (Ok c.in-Ok-turn_to.recovered) c.in-Ok-turn_to.ensures in
    let r = c.in-Ok-turn_to.recovered in let is = x.recovered in let k = c.kernel_over.result in
    let pages = bytes_of r.restored.pages.items in let checked = is.checked in
    let based = base_of_good checked.relations checked.counters (length r.restored.pages.items) pages checked.good in
    let begins = begins_on k pages r.beside.relations r.beside.counters based.0 is.beside.counters based.1 based.2 c.kernel_over.ensures.opened in
    let many : k.counters ≡ checked.counters = (c.kernel_over.ensures.opened based.0 based.1 based.2).counters_are ∙ is.beside.counters ∙ checked.good.counts.counters_reported in
    let base = base_of c.in-Ok-survey_of.survey.base in
    let surveyed = subst (λ (items : List (List ℕ)). IsOfPages items c.in-Ok-survey_of.survey) (sym c.in-Ok-turn_to.ensures.restored) c.in-Ok-survey_of.ensures.surveyed in
    let listed = (surveyed checked.relations checked.counters based.0 checked.good based.1).base in
    begins.same base (subst (λ (n : ℕ). IsSame n base based.0) (sym many) listed) c.keeps_bounds.ensures

pub returns-clause-sized : goal.returns-clause-sized
returns-clause-sized g c =
    let D = g.D.Device in let o = c.args.device in let n = c.find_synced.new.device in let read = c.find_synced.ensures.reads in
    let x = recovers D g.met.D.Device.counts_now o n read.same read.moments c.args.frames c.in-Ok.found c.in-Ok.ensures c.slots_are_read_back.ensures c.only_own_pages_matter.ensures c.turn_to.new.device (Ok c.in-Ok-turn_to.recovered) c.in-Ok-turn_to.ensures in
    let r = c.in-Ok-turn_to.recovered in let is = x.recovered in let checked = is.checked in
    let based = base_of_good checked.relations checked.counters (length r.restored.pages.items) (bytes_of r.restored.pages.items) checked.good in
    let opened = c.kernel_over.ensures.opened based.0 based.1 based.2 in
    let surveyed = subst (λ (items : List (List ℕ)). IsOfPages items c.in-Ok-survey_of.survey) (sym c.in-Ok-turn_to.ensures.restored) c.in-Ok-survey_of.ensures.surveyed in
    let survey = surveyed checked.relations checked.counters based.0 checked.good based.1 in (
      survey.relations_reported ∙ sym (opened.relations_are ∙ is.beside.relations ∙ checked.good.counts.relations_reported),
      survey.counters_reported ∙ sym (opened.counters_are ∙ is.beside.counters ∙ checked.good.counts.counters_reported),
    )

pub returns-clause-base : goal.returns-clause-base
returns-clause-base g c = λ relations counters b can.
    let items = c.in-Ok.found.restored.pages.items in
    let shown = c.in-Ok.ensures.shows relations counters b can in
    let matter = c.only_own_pages_matter.ensures relations counters (length items) shown.pages (bytes_of items) shown.first shown.good in
    (c.in-Ok-survey_of.ensures.surveyed relations counters b matter.0 (matter.1 b shown.holds)).base

pub returns-clause-frames : goal.returns-clause-frames
returns-clause-frames g c =
    let D = g.D.Device in let o = c.args.device in let n = c.find_synced.new.device in let read = c.find_synced.ensures.reads in
    let x = recovers D g.met.D.Device.counts_now o n read.same read.moments c.args.frames c.in-Ok.found c.in-Ok.ensures c.slots_are_read_back.ensures c.only_own_pages_matter.ensures c.turn_to.new.device (Ok c.in-Ok-turn_to.recovered) c.in-Ok-turn_to.ensures in
    c.kernel_over.ensures.frames c.args.frames x.recovered

pub returns-clause-moments : goal.returns-clause-moments
returns-clause-moments g c = λ relations counters b can.
    let D = g.D.Device in let o = c.args.device in let n = c.find_synced.new.device in let read = c.find_synced.ensures.reads in
    let x = recovers D g.met.D.Device.counts_now o n read.same read.moments c.args.frames c.in-Ok.found c.in-Ok.ensures c.slots_are_read_back.ensures c.only_own_pages_matter.ensures c.turn_to.new.device (Ok c.in-Ok-turn_to.recovered) c.in-Ok-turn_to.ensures in
    subst (λ (d : _). LeavesOnly D.moment D.left_since o d (StandsStill D relations counters b o)) (sym c.kernel_over.ensures.device) (x.moments relations counters b can)

pub returns-clause-stands : goal.returns-clause-stands
returns-clause-stands g c = λ relations counters b can y left.
    let D = g.D.Device in let o = c.args.device in let n = c.find_synced.new.device in let read = c.find_synced.ensures.reads in
    let x = recovers D g.met.D.Device.counts_now o n read.same read.moments c.args.frames c.in-Ok.found c.in-Ok.ensures c.slots_are_read_back.ensures c.only_own_pages_matter.ensures c.turn_to.new.device (Ok c.in-Ok-turn_to.recovered) c.in-Ok-turn_to.ensures in
    x.settled relations counters b can (λ e. cc) y (subst (λ (d : _). g.D.Device.may_leave d y) c.kernel_over.ensures.device left)

pub returns-clause-quiet : goal.returns-clause-quiet
returns-clause-quiet g c =
    let D = g.D.Device in let o = c.args.device in let n = c.find_synced.new.device in let read = c.find_synced.ensures.reads in
    let x = recovers D g.met.D.Device.counts_now o n read.same read.moments c.args.frames c.in-Ok.found c.in-Ok.ensures c.slots_are_read_back.ensures c.only_own_pages_matter.ensures c.turn_to.new.device (Ok c.in-Ok-turn_to.recovered) c.in-Ok-turn_to.ensures in
    ap g.D.Device.faults c.kernel_over.ensures.device ∙ x.quiet (λ e. cc)

pub returns-clause-restored : goal.returns-clause-restored
returns-clause-restored g c =
    let D = g.D.Device in let o = c.args.device in let n = c.find_synced.new.device in let read = c.find_synced.ensures.reads in
    let x = recovers D g.met.D.Device.counts_now o n read.same read.moments c.args.frames c.in-Ok.found c.in-Ok.ensures c.slots_are_read_back.ensures c.only_own_pages_matter.ensures c.turn_to.new.device (Ok c.in-Ok-turn_to.recovered) c.in-Ok-turn_to.ensures in
    let r = c.in-Ok-turn_to.recovered in
    (r.restored.pages.items, x.restored, begins_on_pages c.kernel_over.result r.restored.pages.items c.args.frames r.beside x.recovered.checked x.recovered.beside c.kernel_over.ensures.opened)

pub returns-clause-listed : goal.returns-clause-listed
returns-clause-listed g c =
    let items = c.in-Ok.found.restored.pages.items in let checked = c.in-Ok.ensures.found.checked in
    record {
      items = items;
      restored = c.in-Ok.ensures.restored;
      held = λ b holds. subst (λ (n : ℕ). IsSame n (base_of c.in-Ok-survey_of.survey.base) b) (sym checked.good.counts.counters_reported)
          (c.in-Ok-survey_of.ensures.surveyed checked.relations checked.counters b checked.good holds).base;
    }

pub returns-clause-surveyed : goal.returns-clause-surveyed
returns-clause-surveyed g c =
    let items = c.in-Ok.found.restored.pages.items in let restored = c.in-Ok.ensures.restored in
    let surveyed = c.in-Ok-survey_of.ensures.surveyed in
    record {
      inspected = inspected_of (g.D.Device.seen c.args.device) restored.slot items c.in-Ok-survey_of.survey restored.replayed surveyed;
      stood_for = λ relations counters b can.
          let shown = c.in-Ok.ensures.shows relations counters b can in
          let matter = c.only_own_pages_matter.ensures relations counters (length items) shown.pages (bytes_of items) shown.first shown.good in
          let holds = matter.1 b shown.holds in
          record { slot = restored.slot; items = items; replayed = restored.replayed; good = matter.0; holds = holds; outcome = surveyed relations counters b matter.0 holds };
    }

pub returns-clause-once : goal.returns-clause-once
returns-clause-once g c = λ slot rules.
    let D = g.D.Device in let o = c.args.device in let n = c.find_synced.new.device in let read = c.find_synced.ensures.reads in
    let x = recovers D g.met.D.Device.counts_now o n read.same read.moments c.args.frames c.in-Ok.found c.in-Ok.ensures c.slots_are_read_back.ensures c.only_own_pages_matter.ensures c.turn_to.new.device (Ok c.in-Ok-turn_to.recovered) c.in-Ok-turn_to.ensures in
    c.kernel_over.ensures.ruling ∙ x.next slot rules

-- ---- what was found is refused

pub returns-in-Err-clause-moments : goal.returns-in-Err-clause-moments
returns-in-Err-clause-moments g c = λ relations counters b can.
    let D = g.D.Device in let o = c.args.device in let n = c.find_synced.new.device in
    leaves_more D.moment D.left_since o n (D.may_leave o) (StandsStill D relations counters b o) c.find_synced.ensures.reads.moments (λ y left. inl left)

pub returns-in-Err-clause-refused : goal.returns-in-Err-clause-refused
returns-in-Err-clause-refused g c =
    let D = g.D.Device in let o = c.args.device in let n = c.find_synced.new.device in let e = c.in-Err.ensures in let read = c.find_synced.ensures.reads in
    record {
      cause = e.cause;
      unformatted = e.unformatted;
      other = e.other;
      left = e.no_other_refusal;
      formatted = λ s formatted. never_full c.slots_are_read_back.ensures s (D.seen o) (D.faults o < D.faults n) c.in-Err.refusal formatted e.cause;
      reads = λ not. read;
      settled = λ relations counters b can not. read_stands D g.met.D.Device.counts_now o n read.same read.moments Two relations counters b can (e.only (λ is. not (one_refusal c.in-Err.refusal Refusal.DeviceFailed is)));
    }

pub returns-in-Err-clause-quiet : goal.returns-in-Err-clause-quiet
returns-in-Err-clause-quiet g c = λ not. c.in-Err.ensures.quiet (λ is. not (one_refusal c.in-Err.refusal Refusal.DeviceFailed is))

-- ---- no memory for the base

pub returns-in-Err-survey_of-clause-moments : goal.returns-in-Err-survey_of-clause-moments
returns-in-Err-survey_of-clause-moments g c = λ relations counters b can.
    let D = g.D.Device in let o = c.args.device in let n = c.find_synced.new.device in
    leaves_more D.moment D.left_since o n (D.may_leave o) (StandsStill D relations counters b o) c.find_synced.ensures.reads.moments (λ y left. inl left)

pub returns-in-Err-survey_of-clause-refused : goal.returns-in-Err-survey_of-clause-refused
returns-in-Err-survey_of-clause-refused g c =
    let D = g.D.Device in let o = c.args.device in let n = c.find_synced.new.device in let read = c.find_synced.ensures.reads in
    record {
      cause = inl tt;
      unformatted = λ none. absurd (not_unformatted (D.seen o) c.in-Ok.found.restored.pages.items c.in-Ok.ensures.restored none);
      other = λ is. absurd (not_other c.slots_are_read_back.ensures (D.seen o) c.in-Ok.found.restored.pages.items c.in-Ok.ensures.restored is);
      left = λ relations counters b can. inl refl;
      formatted = λ s formatted full. absurd cc;
      reads = λ not. read;
      settled = λ relations counters b can not. read_stands D g.met.D.Device.counts_now o n read.same read.moments Two relations counters b can (c.in-Ok.ensures.only (λ e. cc));
    }

pub returns-in-Err-survey_of-clause-quiet : goal.returns-in-Err-survey_of-clause-quiet
returns-in-Err-survey_of-clause-quiet g c = λ not. c.in-Ok.ensures.quiet (λ e. cc)

-- ---- the device failed at the turn

pub returns-in-Err-turn_to-clause-moments : goal.returns-in-Err-turn_to-clause-moments
returns-in-Err-turn_to-clause-moments g c =
    let D = g.D.Device in let o = c.args.device in let n = c.find_synced.new.device in let read = c.find_synced.ensures.reads in
    let x = recovers D g.met.D.Device.counts_now o n read.same read.moments c.args.frames c.in-Ok.found c.in-Ok.ensures c.slots_are_read_back.ensures c.only_own_pages_matter.ensures c.turn_to.new.device (Err c.in-Err-turn_to.refusal) c.in-Err-turn_to.ensures in
    x.moments

pub returns-in-Err-turn_to-clause-refused : goal.returns-in-Err-turn_to-clause-refused
returns-in-Err-turn_to-clause-refused g c =
    let D = g.D.Device in let o = c.args.device in let n = c.find_synced.new.device in let read = c.find_synced.ensures.reads in
    let x = recovers D g.met.D.Device.counts_now o n read.same read.moments c.args.frames c.in-Ok.found c.in-Ok.ensures c.slots_are_read_back.ensures c.only_own_pages_matter.ensures c.turn_to.new.device (Err c.in-Err-turn_to.refusal) c.in-Err-turn_to.ensures in
    let is = c.in-Err-turn_to.ensures.cause.0 in
    record {
      cause = x.cause;
      unformatted = x.unformatted;
      other = x.other;
      left = x.no_other_refusal;
      formatted = λ s formatted full. let wrong = sym is ∙ full in absurd cc;
      reads = λ not. absurd (not is);
      settled = λ relations counters b can not. absurd (not is);
    }
