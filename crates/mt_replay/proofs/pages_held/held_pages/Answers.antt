use Rattle.std.proofs.Common.{rules, ◌≡◌, ◌∙◌, ◌<◌, ℕ, Bool, List, [], false, get_or, length, ap, subst}
use Rattle.mt_log.specs.Batch.{joined}
use Rattle.mt_log.specs.Found.{records_of}
use Rattle.mt_replay.specs.Reads.{AreOfSlots}
use Rattle.mt_replay.proofs.Marks.{opened_by}
use Rattle.mt_replay.proofs.pages_held.held_pages.Goals as goal

pub returns : goal.returns
returns g c = record {
  found = let count = c.args.count in
      let seen = g.D.Device.seen c.args.device.now in
      let records = joined (records_of c.args.batches.now) in
      let x = c.in_ok-images.images in let i = c.in_ok-images.ensures.images in
      let fill = c.in_ok-read_slots.ensures in
      let found = c.read_slots.new.pages.items in
      let flags : c.deref.result.now ≡ x.imaged.items = c.deref.ensures.value in
      let read : AreOfSlots count x.imaged.items seen found =
      subst (λ (n : ℕ). AreOfSlots n x.imaged.items seen found) i.count (subst (λ (l : List Bool). AreOfSlots (length x.pages.items) l seen found) flags fill.slots) in
      let again : c.deref-2.result.now ≡ found = c.deref-2.ensures.value in
      let size : length c.deref-2.result.now ≡ count = ap (λ (l : List (List ℕ)). length l) again ∙ fill.count ∙ i.count in
      record {
        whole = c.in_ok-pages.ensures.whole;
        count = c.in_ok-pages.ensures.count ∙ size;
        led = λ opening gives. c.in_ok-pages.ensures.held opening (λ p lt.
            ap (λ (l : List (List ℕ)). get_or l p []) again
            ∙ opened_by count records x.pages.items found x.imaged.items seen opening i.imaged i.laid (λ q below is. fill.others q (ap (λ (l : List Bool). get_or l q false) flags ∙ is)) read gives p (subst (λ (n : ℕ). p < n) size lt));
        imaged = i.imaged;
        all = fill.count ∙ i.count;
        slots = read;
      };
  reads = search rules;
  quiet = search rules;
  cause = search rules;
}
