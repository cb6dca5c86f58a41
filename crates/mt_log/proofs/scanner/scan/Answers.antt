use Rattle.std.proofs.Common.{◌≡◌, ◌≢◌, ℕ, ◌+◌, ◌<◌, ◌^◌, ◌==◌, Bool, false, List, [], ◌∷◌, length, vec_len, get_or, refl, subst, sym, ◌∙◌, ap, arith, Ok, Vec, Global}
use Rattle.std.proofs.lemmas.Result.{err_from_is_err_and}
use Rattle.std.proofs.lemmas.Bool.{eqb-true}
use Rattle.mt_base.specs.declared.refusal.Refusal.{Refusal}
use Rattle.mt_log.specs.Batch.{Stands}
use Rattle.mt_log.specs.declared.area.AreaPlace.{AreaPlace}
use Rattle.mt_log.specs.declared.batch.Batch.{Batch}
use Rattle.mt_log.specs.declared.scan_state.Reading.{Reading}
use Rattle.mt_log.specs.Found.{records_of, places_of}
use Rattle.mt_log.specs.Holds.{HoldsBatches, HoldsOf, BreaksAt, AreBatches, AreBatchesOf, places_from}
use Rattle.mt_base.specs.declared.format.Format.{Format}
use Rattle.mt_log.specs.Reading.{HasRead}
use Rattle.mt_log.specs.Sound.{IsBeginning}
use Rattle.mt_log.specs.Words.{area_start}
use Rattle.mt_log.proofs.OneWay.{holds_one, holds_or_breaks, holds_found, nothing_found, no_other_cause, refused}
use Rattle.mt_log.proofs.ReadOn.{reads_none, bad_place}
use Rattle.mt_log.proofs.scanner.scan.Goals as goal

length-records : (bs : List Batch) → length (records_of bs) ≡ length bs
length-records [] = refl
length-records (b ∷ bs) = omega (arith, length-records bs)

some_found : (found : Vec Batch Global) (empty : Bool) → empty ≡ (vec_len found == 0) → empty ≡ false → length found.items ≡ 0 → ⊥
some_found found empty is not none =
    let zero_len : vec_len found ≡ 0 = omega (arith, found.ok.0) in
    let yes : empty ≡ (0 == 0) = is ∙ ap (λ (k : ℕ). k == 0) zero_len in
    absurd (cc)

-- the area of which was read
module _ (c : List ℕ) (place : AreaPlace) (pages : ℕ) (format : Format) (r : Reading) (here : r.place ≡ place) (same : r.pages ≡ pages) (of : r.format ≡ format) (read : HasRead c r) (shut : get_or c r.next 0 ≢ 165) where
  row : Stands c place.start (records_of r.found.items) r.next
  row = subst (λ (p : AreaPlace). Stands c p.start (records_of r.found.items) r.next) here read.row

  all_read : (length r.found.items ≡ 0 → ⊥) → HoldsOf format c place.start place.end pages (records_of r.found.items)
  all_read some = record {
    held = holds_found c place.start place.end pages r.next (records_of r.found.items) row (subst (λ (p : AreaPlace). r.next < p.end) here r.inside) shut
        (subst (λ (n : ℕ). AreBatches n (records_of r.found.items)) same read.each) read.rules (λ none. some (sym (length-records r.found.items) ∙ none));
    of_format = subst (λ (f : Format). AreBatchesOf f (records_of r.found.items)) of read.of_format;
  }

  none_read : length r.found.items ≡ 0 → BreaksAt format c place.start place.end pages place.start
  none_read none = nothing_found format c place.start place.end pages r.next (records_of r.found.items) row shut (let p = place.some_bytes in omega arith) (length-records r.found.items ∙ none)

small : (place : AreaPlace) → place.end < place.start + 2 ^ 32
small place = let p = place.not_too_many in omega arith

pub loop-reading-init : goal.loop-reading-init
loop-reading-init g c = record {
  read = c.new-reading.ensures.read (g.D.Device.seen c.args.device.now);
  place = c.new-reading.ensures.place;
  pages = c.new-reading.ensures.pages;
  format = c.new-reading.ensures.format;
  reads = reads_none g.D.Device g.met.D.Device.only_now c.args.device.now;
  faults = refl;
}

pub returns-in_err-read_batch-clause-no_other_refusal : goal.returns-in_err-read_batch-clause-no_other_refusal
returns-in_err-read_batch-clause-no_other_refusal g c = λ batches holds.
    let p = err_from_is_err_and c.from_residual.result c.from_residual.ensures.1 in
    let inv = c.loop-reading.invariant in
    let seen = g.D.Device.seen c.args.device.now in
    let place = c.args.place in
    let r = c.loop-reading.reading in
    let breaks : (at : ℕ) → c.in_err-read_batch.field-0.0 ≡ Refusal.BadFormat at → BreaksAt c.args.format seen place.start place.end c.args.pages at = λ at is.
    subst (λ (l : List ℕ). BreaksAt c.args.format l place.start place.end c.args.pages at) inv.reads.same
    (subst (λ (q : AreaPlace). BreaksAt c.args.format (g.D.Device.seen c.loop-reading.device) q.start q.end c.args.pages at) inv.place
    (subst (λ (n : ℕ). BreaksAt c.args.format (g.D.Device.seen c.loop-reading.device) r.place.start r.place.end n at) inv.pages
    (subst (λ (f : Format). BreaksAt f (g.D.Device.seen c.loop-reading.device) r.place.start r.place.end r.pages at) inv.format (c.in_err-read_batch.ensures.bad at is)))) in
    refused c.from_residual.result p.0 c.in_err-read_batch.field-0.0 _ p.1 p.2
    (no_other_cause c.in_err-read_batch.field-0.0 _ c.in_err-read_batch.ensures.cause (λ at is. holds_or_breaks c.args.format seen place.start place.end c.args.pages at batches (small place) holds (breaks at is)))

pub returns-then-is_empty-clause-bad : goal.returns-then-is_empty-clause-bad
returns-then-is_empty-clause-bad g c = λ at is.
    let inv = c.loop-reading.invariant in
    let e = c.in_ok-read_batch.ensures in
    let seen = g.D.Device.seen c.args.device.now in
    let place = c.args.place in
    let r = c.read_batch.new.self in
    let shut : get_or seen r.next 0 ≢ 165 = subst (λ (l : List ℕ). get_or l r.next 0 ≢ 165) inv.reads.same (e.ended (ap Ok c.if-branch.false)) in
    let read = subst (λ (l : List ℕ). HasRead l r) inv.reads.same e.read in
    let zero_len : vec_len r.found ≡ 0 = eqb-true (vec_len r.found) 0 (sym c.is_empty.ensures ∙ c.if-is_empty.true) in
    subst (λ (k : ℕ). BreaksAt c.args.format seen place.start place.end c.args.pages k) (bad_place place.start at is)
    (none_read seen place c.args.pages c.args.format r (e.place ∙ inv.place) (e.pages ∙ inv.pages) (e.same_format ∙ inv.format) read shut (omega (arith, r.found.ok.0)))

pub returns-then-is_empty-clause-no_other_refusal : goal.returns-then-is_empty-clause-no_other_refusal
returns-then-is_empty-clause-no_other_refusal g c = λ batches holds.
    let inv = c.loop-reading.invariant in
    let e = c.in_ok-read_batch.ensures in
    let seen = g.D.Device.seen c.args.device.now in
    let place = c.args.place in
    let r = c.read_batch.new.self in
    let shut : get_or seen r.next 0 ≢ 165 = subst (λ (l : List ℕ). get_or l r.next 0 ≢ 165) inv.reads.same (e.ended (ap Ok c.if-branch.false)) in
    let read = subst (λ (l : List ℕ). HasRead l r) inv.reads.same e.read in
    let zero_len : vec_len r.found ≡ 0 = eqb-true (vec_len r.found) 0 (sym c.is_empty.ensures ∙ c.if-is_empty.true) in
    absurd (holds_or_breaks c.args.format seen place.start place.end c.args.pages place.start batches (small place) holds
    (none_read seen place c.args.pages c.args.format r (e.place ∙ inv.place) (e.pages ∙ inv.pages) (e.same_format ∙ inv.format) read shut (omega (arith, r.found.ok.0))))

pub returns-clause-found : goal.returns-clause-found
returns-clause-found g c =
    let inv = c.loop-reading.invariant in
    let e = c.in_ok-read_batch.ensures in
    let seen = g.D.Device.seen c.args.device.now in
    let place = c.args.place in
    let r = c.read_batch.new.self in
    let shut : get_or seen r.next 0 ≢ 165 = subst (λ (l : List ℕ). get_or l r.next 0 ≢ 165) inv.reads.same (e.ended (ap Ok c.if-branch.false)) in
    let read = subst (λ (l : List ℕ). HasRead l r) inv.reads.same e.read in
    let some : (length r.found.items ≡ 0 → ⊥) = some_found r.found c.is_empty.result c.is_empty.ensures c.if-is_empty.false in
    all_read seen place c.args.pages c.args.format r (e.place ∙ inv.place) (e.pages ∙ inv.pages) (e.same_format ∙ inv.format) read shut some

pub returns-clause-places : goal.returns-clause-places
returns-clause-places g c =
    let inv = c.loop-reading.invariant in
    let e = c.in_ok-read_batch.ensures in
    let r = c.read_batch.new.self in
    let there : places_of r.found.items ≡ places_from r.place.start (records_of r.found.items) = e.read.places in
    subst (λ (p : AreaPlace). places_of r.found.items ≡ places_from p.start (records_of r.found.items)) (e.place ∙ inv.place) there

pub returns-clause-only : goal.returns-clause-only
returns-clause-only g c = λ batches holds.
    let inv = c.loop-reading.invariant in
    let e = c.in_ok-read_batch.ensures in
    let seen = g.D.Device.seen c.args.device.now in
    let place = c.args.place in
    let r = c.read_batch.new.self in
    let shut : get_or seen r.next 0 ≢ 165 = subst (λ (l : List ℕ). get_or l r.next 0 ≢ 165) inv.reads.same (e.ended (ap Ok c.if-branch.false)) in
    let read = subst (λ (l : List ℕ). HasRead l r) inv.reads.same e.read in
    let some : (length r.found.items ≡ 0 → ⊥) = some_found r.found c.is_empty.result c.is_empty.ensures c.if-is_empty.false in
    holds_one seen place.start place.end c.args.pages (records_of r.found.items) batches (small place) (all_read seen place c.args.pages c.args.format r (e.place ∙ inv.place) (e.pages ∙ inv.pages) (e.same_format ∙ inv.format) read shut some).held holds.held

pub returns-clause-recovers : goal.returns-clause-recovers
returns-clause-recovers g c = λ log starts ends holds.
    let inv = c.loop-reading.invariant in
    let e = c.in_ok-read_batch.ensures in
    let seen = g.D.Device.seen c.args.device.now in
    let place = c.args.place in
    let r = c.read_batch.new.self in
    let shut : get_or seen r.next 0 ≢ 165 = subst (λ (l : List ℕ). get_or l r.next 0 ≢ 165) inv.reads.same (e.ended (ap Ok c.if-branch.false)) in
    let read = subst (λ (l : List ℕ). HasRead l r) inv.reads.same e.read in
    let some : (length r.found.items ≡ 0 → ⊥) = some_found r.found c.is_empty.result c.is_empty.ensures c.if-is_empty.false in
    let held : HoldsBatches seen place.start place.end c.args.pages holds.batches = subst (λ (k : ℕ). HoldsBatches seen k place.end c.args.pages holds.batches) starts (subst (λ (k : ℕ). HoldsBatches seen (area_start log) k c.args.pages holds.batches) ends holds.held) in
    let same = holds_one seen place.start place.end c.args.pages (records_of r.found.items) holds.batches (small place) (all_read seen place c.args.pages c.args.format r (e.place ∙ inv.place) (e.pages ∙ inv.pages) (e.same_format ∙ inv.format) read shut some).held held in
    subst (IsBeginning log) (sym same) holds.beginning
