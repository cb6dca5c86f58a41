use Rattle.std.proofs.Common.{◌≡◌, ◌≤◌, ◌∙◌, ℕ, List, [], Bool, false, get_or, set, length, refl, sym, subst, ap, arith}
use Rattle.std.proofs.lemmas.List.{get_or_read_under}
use Rattle.mt_disk.proofs.Frame.{reads_on}
use Rattle.mt_frame.specs.declared.slots.MasterSlot.{MasterSlot}
use Rattle.mt_log.proofs.Turns.{ruling_fits}
use Rattle.mt_pool.specs.Images.{slot}
use Rattle.mt_replay.specs.Marking.{IsMarked, MarksLost, FindsLost}
use Rattle.mt_replay.proofs.Extending.{checked_more, marks_more}
use Rattle.mt_replay.proofs.schema_extension.extend_schema.Goals as goal

pub returns-in_err-read_slot-clause-reads : goal.returns-in_err-read_slot-clause-reads
returns-in_err-read_slot-clause-reads g c =
    let D = g.D.Device in let r = c.read_slot.ensures in
    record { same = r.same; crash = r.crash; moments = reads_on D.moment D.left_since D.may_leave g.met.D.Device.only_now c.args.device.now c.read_slot.new.device r.time (λ k left. (r.crash k).0 left) }

-- the device has pages, page 2 among them
some : (c : List ℕ) (ruling : MasterSlot) (items : List (List ℕ)) (imaged lost : List Bool) → IsMarked c ruling items imaged lost → 3 ≤ length items
some c ruling items imaged lost k = let low = (ruling_fits c ruling k.area.rules).pages.0 in let count = k.count in omega (arith, low, count)

pub returns-clause-checked : goal.returns-clause-checked
returns-clause-checked g c =
    let x = c.args.replayed in
    checked_more c.args.relations c.args.counters.now x.restored.pages.items c.extend_schema.new.self.pages.items c.if-not-extend_schema.ensures.extended
    (some (g.D.Device.seen c.args.device.now) x.ruling x.restored.pages.items x.imaged.items x.lost.items c.requires.marked) c.requires.checked

pub returns-clause-marked : goal.returns-clause-marked
returns-clause-marked g c =
    let x = c.args.replayed in
    let seen = g.D.Device.seen c.args.device.now in
    let k = c.requires.marked in
    let old = x.restored.pages.items in
    let new = c.extend_schema.new.self.pages.items in
    let e = c.if-not-extend_schema.ensures.extended in
    let three : 3 ≤ length old = some seen x.ruling old x.imaged.items x.lost.items k in
    let many : length new ≡ length old = e.sets.count in
    let marks : length x.imaged.items ≡ length old = k.imaged_are.size ∙ sym k.count in
    let page : c.index.result.now ≡ get_or new 2 [] = get_or_read_under new 2 (length new) c.index.result.now [] (subst (λ (i : ℕ). c.index.result.now ≡ get_or new i c.index.result.now) c.from-at.ensures c.index.ensures) (omega (arith, three, many)) refl in
    let imaged : c.index-2.result.now ≡ get_or x.imaged.items 2 false = get_or_read_under x.imaged.items 2 (length x.imaged.items) c.index-2.result.now false (subst (λ (i : ℕ). c.index-2.result.now ≡ get_or x.imaged.items i c.index-2.result.now) c.from-at.ensures c.index-2.ensures) (omega (arith, three, marks)) refl in
    let bytes : c.read_slot.new.bytes ≡ slot 8192 seen 2 = c.in_ok-read_slot.ensures.read ∙ ap (λ (p : ℕ). slot 8192 seen p) c.new.ensures in
    let outcome : FindsLost (get_or new 2 []) (get_or x.imaged.items 2 false) (slot 8192 seen 2) c.is_lost.result = subst (λ (X : Type 0). X) (λ i. FindsLost (page i) (imaged i) (bytes i) c.is_lost.result) c.is_lost.ensures in
    record {
      batches = k.batches;
      area = k.area;
      count = many ∙ k.count;
      imaged_are = k.imaged_are;
      lost_are = subst (λ (i : ℕ). MarksLost new x.imaged.items seen (set x.lost.items i c.is_lost.result)) (sym c.from-at.ensures)
          (marks_more c.args.relations c.args.counters.now old new e x.imaged.items x.lost.items seen c.is_lost.result three k.lost_are outcome);
    }

pub returns-clause-reads : goal.returns-clause-reads
returns-clause-reads g c =
    let D = g.D.Device in let r = c.read_slot.ensures in
    record { same = r.same; crash = r.crash; moments = reads_on D.moment D.left_since D.may_leave g.met.D.Device.only_now c.args.device.now c.read_slot.new.device r.time (λ k left. (r.crash k).0 left) }
