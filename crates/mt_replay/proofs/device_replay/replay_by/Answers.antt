use Rattle.std.proofs.Common.{◌≡◌, ◌⊎◌, ◌∙◌, ◌<◌, ℕ, List, inl, ap, refl, sym, subst}
use Rattle.std.specs.List.{AllByRecursion}
use Rattle.std.proofs.lemmas.Result.{err_from_is_err_and}
use Rattle.mt_base.specs.declared.refusal.Refusal.TheVariants.{BadFormat, DeviceFailed, NoMemory}
use Rattle.mt_frame.specs.Grammar.{IsOperation}
use Rattle.mt_log.specs.Batch.{joined}
use Rattle.mt_log.specs.Found.{records_of}
use Rattle.mt_log.specs.Holds.{BreaksAt}
use Rattle.mt_log.specs.declared.batch.Batch.{Batch}
use Rattle.mt_replay.specs.Losers.{all_finished, AreOfGrammar}
use Rattle.mt_replay.specs.Marking.{MarksImaged}
use Rattle.mt_replay.specs.Refused.{BreaksFormat, in_log}
use Rattle.mt_replay.specs.Stands.{HasArea}
use Rattle.mt_log.specs.Masters.{area_end, area_start}
use Rattle.mt_replay.specs.Recorded.{losers}
use Rattle.mt_replay.specs.declared.losers.Loser.{Loser}
use Rattle.mt_replay.proofs.Areas.{area_had, ended_grammar, grammar_of, held_of}
use Rattle.mt_replay.proofs.Causes.{cause_area, cause_behind, repeated_of}
use Rattle.mt_replay.proofs.Marks.{lost_at}
use Rattle.mt_replay.proofs.device_replay.replay_by.Goals as goal

pub returns-in_err-batches-clause-no_other_refusal : goal.returns-in_err-batches-clause-no_other_refusal
returns-in_err-batches-clause-no_other_refusal g c = λ format relations counters b can.
    let p = err_from_is_err_and c.from_residual.result c.from_residual.ensures.1 in
    let slot_is = c.requires.only can.stands.slot can.stands.read.rules in
    rw (p.1, p.2) (c.in_err-batches.ensures.no_other_refusal can.stands.batches
    (area_had format relations counters (g.D.Device.seen c.args.device.now) (g.D.Device.seen c.args.device.now) b can refl c.args.ruling slot_is))

pub losers_of-requires : goal.losers_of-requires
losers_of-requires g c = subst AreOfGrammar (sym c.deref-2.ensures.value) (grammar_of c.args.ruling.pages c.in_ok-batches.batches.items c.in_ok-batches.ensures.found.held.each)

pub undone-requires-clause-grammar : goal.undone-requires-clause-grammar
undone-requires-clause-grammar g c = subst (AllByRecursion (λ (l : Loser). IsOperation l.done)) (sym c.deref-3.ensures.value) (ended_grammar c.deref-2.result.now c.in_ok-losers.losers.items c.in_ok-losers.ensures.ended)

pub returns-in_err-restored-clause-no_other_refusal : goal.returns-in_err-restored-clause-no_other_refusal
returns-in_err-restored-clause-no_other_refusal g c = λ format relations counters b can.
    let slot_is = c.requires.only can.stands.slot can.stands.read.rules in
    let ruling = c.args.ruling in
    let seen = g.D.Device.seen c.args.device.now in
    let first = g.D.Device.seen c.args.device.now in
    let second = g.D.Device.seen c.read_area.new.device in
    let read = c.in_ok-batches.ensures.only can.stands.batches (area_had format relations counters seen first b can refl ruling slot_is) in
    let taken = c.deref.ensures.value in
    let again = c.deref-2.ensures.value ∙ sym taken in
    let held = held_of format relations counters seen second b can (c.read_area.ensures.reads.same ∙ refl) ruling slot_is (records_of c.deref.result.now) c.in_ok-held.held.pages.items c.deref-3.result.now
    (ap records_of taken ∙ read) c.in_ok-held.ensures.found.count c.in_ok-held.ensures.found.led
    (ap all_finished c.deref-3.ensures.value ∙ c.in_ok-losers.ensures.losers ∙ ap (λ (bs : List Batch). losers (joined (records_of bs))) again) in
    let p = err_from_is_err_and c.from_residual-in_err-restored.result c.from_residual-in_err-restored.ensures.1 in
    rw (p.1, p.2) (inl (c.in_err-restored.ensures.no_other_refusal relations counters b held))

pub returns-clause-found : goal.returns-clause-found
returns-clause-found g c = λ format relations counters b can.
    let slot_is = c.requires.only can.stands.slot can.stands.read.rules in
    let ruling = c.args.ruling in
    let seen = g.D.Device.seen c.args.device.now in
    let first = g.D.Device.seen c.args.device.now in
    let second = g.D.Device.seen c.read_area.new.device in
    let read = c.in_ok-batches.ensures.only can.stands.batches (area_had format relations counters seen first b can refl ruling slot_is) in
    let taken = c.deref.ensures.value in
    let again = c.deref-2.ensures.value ∙ sym taken in
    let held = held_of format relations counters seen second b can (c.read_area.ensures.reads.same ∙ refl) ruling slot_is (records_of c.deref.result.now) c.in_ok-held.held.pages.items c.deref-3.result.now
    (ap records_of taken ∙ read) c.in_ok-held.ensures.found.count c.in_ok-held.ensures.found.led
    (ap all_finished c.deref-3.ensures.value ∙ c.in_ok-losers.ensures.losers ∙ ap (λ (bs : List Batch). losers (joined (records_of bs))) again) in
    c.in_ok-restored.ensures.found relations counters b held

pub returns-in_err-batches-clause-cause : goal.returns-in_err-batches-clause-cause
returns-in_err-batches-clause-cause g c =
    let p = err_from_is_err_and c.from_residual.result c.from_residual.ensures.1 in
    let seen = g.D.Device.seen c.args.device.now in
    let first = g.D.Device.faults c.args.device.now in
    let last = g.D.Device.faults c.read_area.new.device in
    let slot = c.args.ruling in
    let why = c.in_err-batches.field-0.0 in
    let cause = subst (λ (x : List ℕ). (why ≡ NoMemory) ⊎ (((why ≡ DeviceFailed) × (first < last)) ⊎ ((at : ℕ) × (why ≡ BadFormat at) × BreaksAt slot.format x (area_start slot) (area_end slot) slot.pages at)))
    refl c.in_err-batches.ensures.cause in
    rw (p.1, p.2) (cause_area BreaksFormat seen (λ at breaks. in_log breaks) (first < last) (g.D.Device.faults c.args.device.now < last) slot why c.requires.rules (λ lt. lt) cause)

pub returns-in_err-restored-clause-cause : goal.returns-in_err-restored-clause-cause
returns-in_err-restored-clause-cause g c =
    let p = err_from_is_err_and c.from_residual-in_err-restored.result c.from_residual-in_err-restored.ensures.1 in
    let seen = g.D.Device.seen c.args.device.now in
    let first = refl in
    let batches = c.in_ok-batches.batches.items in
    let repeated = repeated_of seen (g.D.Device.seen c.args.device.now) (g.D.Device.seen c.read_area.new.device) c.args.ruling batches c.deref.result.now c.deref-2.result.now c.in_ok-held.held.pages.items
    c.in_ok-losers.losers.items c.deref-3.result.now first (c.read_area.ensures.reads.same ∙ first) c.deref.ensures.value c.deref-2.ensures.value c.deref-3.ensures.value
    c.in_ok-batches.ensures.found c.in_ok-batches.ensures.places c.in_ok-held.ensures.found.count c.in_ok-held.ensures.found.led c.in_ok-losers.ensures.losers c.in_ok-losers.ensures.ended in
    rw (p.1, p.2) (cause_behind seen (g.D.Device.faults c.args.device.now < g.D.Device.faults c.held_pages.new.device) c.args.ruling batches c.in_ok-held.held.pages.items c.deref-3.result.now
    c.in_err-restored.field-0.0 repeated c.in_err-restored.ensures.cause)

pub returns-clause-marked : goal.returns-clause-marked
returns-clause-marked g c =
    let D = g.D.Device in
    let ruling = c.args.ruling in
    let batches = c.in_ok-batches.batches.items in
    let held = c.in_ok-held.held in
    let h = c.in_ok-held.ensures.found in
    let items = c.in_ok-restored.restored.pages.items in
    let count = c.in_ok-restored.ensures.undone.undone.count in
    let same = c.read_area.ensures.reads.same ∙ refl in
    record {
      batches = records_of batches;
      area = subst (λ (x : List ℕ). HasArea x ruling (records_of batches)) refl c.in_ok-batches.ensures.found;
      count = count ∙ h.count;
      imaged_are = subst (λ (bs : List Batch). MarksImaged ruling.pages (joined (records_of bs)) held.imaged.items) c.deref.ensures.value h.imaged;
      lost_are = lost_at items c.deref-5.result.now held.found.items c.deref-4.result.now held.imaged.items c.deref-6.result.now c.in_ok-lost.lost.items (D.seen c.read_area.new.device) (D.seen c.args.device.now) ruling.pages
          c.deref-5.ensures.value c.deref-4.ensures.value c.deref-6.ensures.value same (count ∙ h.count) h.slots c.in_ok-lost.ensures;
    }
