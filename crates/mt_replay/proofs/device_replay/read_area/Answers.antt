use Rattle.std.proofs.Common.{◌≡◌, ◌^◌, ◌<◌, ℕ, List, length, sym, subst}
use Rattle.mt_frame.specs.declared.records.Record.{Record}
use Rattle.mt_frame.specs.declared.slots.MasterSlot.{MasterSlot}
use Rattle.mt_log.specs.Found.{places_of, records_of}
use Rattle.mt_log.specs.Holds.{BreaksAt, HoldsOf, places_from}
use Rattle.mt_log.specs.Masters.{IsRuling, area_end, area_start}
use Rattle.mt_replay.specs.Stands.{HasArea}
use Rattle.mt_replay.proofs.Areas.{if_ok}
use Rattle.mt_replay.proofs.Causes.{scan_cause}
use Rattle.mt_replay.proofs.Counting.{few_records}
use Rattle.mt_log.specs.Batch.{joined}
use Rattle.mt_replay.proofs.device_replay.read_area.Goals as goal

has_area : (c : List ℕ) (slot : MasterSlot) (bs : List (List Record)) → IsRuling c slot → HoldsOf slot.format c (area_start slot) (area_end slot) slot.pages bs → HasArea c slot bs
has_area c slot bs rules of_format = record { rules = rules; held = of_format.held; of_its_format = of_format.of_format }

area_held : (c : List ℕ) (slot : MasterSlot) (bs : List (List Record)) → HasArea c slot bs → HoldsOf slot.format c (area_start slot) (area_end slot) slot.pages bs
area_held c slot bs has = record { held = has.held; of_format = has.of_its_format }

pub returns-clause-found : goal.returns-clause-found
returns-clause-found g c =
    let seen = g.D.Device.seen c.args.device.now in
    let slot = c.args.ruling.now in
    let start = c.named_by-area.ensures.start in
    let end : c.named_by-area.result.end ≡ area_end slot = c.named_by-area.ensures.end in
    if_ok (λ batches. HoldsOf slot.format seen c.named_by-area.result.start c.named_by-area.result.end slot.pages (records_of batches.items)) (λ batches. HasArea seen slot (records_of batches.items)) c.scan.result
    (λ batches held. has_area seen slot (records_of batches.items) c.requires (subst (λ (e : ℕ). HoldsOf slot.format seen (area_start slot) e slot.pages (records_of batches.items)) end (subst (λ (s : ℕ). HoldsOf slot.format seen s c.named_by-area.result.end slot.pages (records_of batches.items)) start held)))
    c.scan.ensures.found

pub returns-clause-only : goal.returns-clause-only
returns-clause-only g c = λ batches has.
    let seen = g.D.Device.seen c.args.device.now in
    let slot = c.args.ruling.now in
    let start = c.named_by-area.ensures.start in
    let end : c.named_by-area.result.end ≡ area_end slot = c.named_by-area.ensures.end in
    c.scan.ensures.only batches (subst (λ (e : ℕ). HoldsOf slot.format seen c.named_by-area.result.start e slot.pages batches) (sym end) (subst (λ (s : ℕ). HoldsOf slot.format seen s (area_end slot) slot.pages batches) (sym start) (area_held seen slot batches has)))

pub returns-clause-no_other_refusal : goal.returns-clause-no_other_refusal
returns-clause-no_other_refusal g c = λ batches has.
    let seen = g.D.Device.seen c.args.device.now in
    let slot = c.args.ruling.now in
    let start = c.named_by-area.ensures.start in
    let end : c.named_by-area.result.end ≡ area_end slot = c.named_by-area.ensures.end in
    c.scan.ensures.no_other_refusal batches (subst (λ (e : ℕ). HoldsOf slot.format seen c.named_by-area.result.start e slot.pages batches) (sym end) (subst (λ (s : ℕ). HoldsOf slot.format seen s (area_end slot) slot.pages batches) (sym start) (area_held seen slot batches has)))

pub returns-clause-places : goal.returns-clause-places
returns-clause-places g c =
    let slot = c.args.ruling.now in
    let start = c.named_by-area.ensures.start in
    if_ok (λ batches. places_of batches.items ≡ places_from c.named_by-area.result.start (records_of batches.items)) (λ batches. places_of batches.items ≡ places_from (area_start slot) (records_of batches.items)) c.scan.result
    (λ batches places. subst (λ (s : ℕ). places_of batches.items ≡ places_from s (records_of batches.items)) start places)
    c.scan.ensures.places

pub returns-clause-cause : goal.returns-clause-cause
returns-clause-cause g c =
    let seen = g.D.Device.seen c.args.device.now in
    let slot = c.args.ruling.now in
    let start = c.named_by-area.ensures.start in
    let end : c.named_by-area.result.end ≡ area_end slot = c.named_by-area.ensures.end in
    scan_cause c.scan.result (g.D.Device.faults c.args.device.now < g.D.Device.faults c.scan.new.device)
    (BreaksAt slot.format seen c.named_by-area.result.start c.named_by-area.result.end slot.pages) (BreaksAt slot.format seen (area_start slot) (area_end slot) slot.pages)
    (λ at bad. subst (λ (e : ℕ). BreaksAt slot.format seen (area_start slot) e slot.pages at) end (subst (λ (s : ℕ). BreaksAt slot.format seen s c.named_by-area.result.end slot.pages at) start bad))
    c.scan.ensures.bad c.scan.ensures.cause

pub returns-clause-few : goal.returns-clause-few
returns-clause-few g c =
    let seen = g.D.Device.seen c.args.device.now in
    let slot = c.args.ruling.now in
    let start = c.named_by-area.ensures.start in
    let end : c.named_by-area.result.end ≡ area_end slot = c.named_by-area.ensures.end in
    if_ok (λ batches. HoldsOf slot.format seen c.named_by-area.result.start c.named_by-area.result.end slot.pages (records_of batches.items)) (λ batches. length (joined (records_of batches.items)) < 2 ^ 32) c.scan.result
    (λ batches held. few_records seen slot (records_of batches.items) (has_area seen slot (records_of batches.items) c.requires (subst (λ (e : ℕ). HoldsOf slot.format seen (area_start slot) e slot.pages (records_of batches.items)) end (subst (λ (s : ℕ). HoldsOf slot.format seen s c.named_by-area.result.end slot.pages (records_of batches.items)) start held))))
    c.scan.ensures.found
