use Rattle.std.proofs.Common.{◌≡◌, ◌<◌, ◌+◌, length, set, ap, sym, subst, ◌∙◌, arith, rules, to_z-of_z, SFits, w64}
use Rattle.mt_base.specs.Limits.{IsStep}
use Rattle.mt_model.specs.declared.pending_add.Pending.{Pending}
use Rattle.mt_escrow.specs.Rooms.{IsModest, settled, room_at}
use Rattle.mt_escrow.proofs.Settling.{AreSettled, settled_none, settled_more, settled_past, settled_all, still_modest, its_place}
use Rattle.mt_escrow.proofs.rooms.settle.Goals as goal
use Rattle.mt_escrow.proofs.rooms.settle.Goals.{then-eq, else-eq}

pub with_made-requires-clause-modest : goal.with_made-requires-clause-modest
with_made-requires-clause-modest c =
    let p : Pending = c.add-item.result in
    subst (λ k. IsModest (room_at c.loop-add.rooms k)) (sym (c.from.ensures ∙ c.get.ensures))
    (still_modest c.args.txn c.loop-add.add-index c.args.pending.now c.args.rooms.now c.loop-add.rooms c.requires c.loop-add.invariant.each p.counter)

pub loop-add-preserved : goal.loop-add-preserved
loop-add-preserved c =
    let p : Pending = c.add-item.result in
    let lt : c.loop-add.add-index < length c.args.pending.now = c.loop-add-test.true in
    elim c.if-eq.branch [
      | then-eq w ↦
          let place : w.from.result ≡ p.counter = w.from.ensures ∙ w.get.ensures in
          let step : SFits w64 p.step = search rules in
          let made : w.with_made.result ≡ settled p.step (room_at c.loop-add.rooms w.from.result) = simp to_z-of_z at w.with_made.ensures in
          let rooms : c.if-eq.rooms ≡ set c.loop-add.rooms p.counter (settled p.step (room_at c.loop-add.rooms p.counter)) =
          w.rooms-is ∙ (ap (λ r. set c.loop-add.rooms w.from.result r) made
          ∙ ap (λ n. set c.loop-add.rooms n (settled p.step (room_at c.loop-add.rooms n))) place) in
          let add : (p.counter < length c.args.rooms.now) × IsStep p.step =
          its_place c.args.pending.now c.loop-add.add-index p c.args.rooms.now c.requires lt c.add-item.is in
          let there : p.counter < length c.loop-add.rooms = let long = c.loop-add.invariant.long in let inside = add.0 in omega arith in
          subst (λ rs. AreSettled c.args.txn (c.loop-add.add-index + 1) c.args.pending.now c.args.rooms.now rs) (sym rooms)
          (settled_more c.args.txn c.loop-add.add-index c.args.pending.now p c.args.rooms.now c.loop-add.rooms lt c.add-item.is
          (sym c.eq.ensures ∙ w.if-eq.true) there c.loop-add.invariant)
      | else-eq w ↦
          subst (λ rooms. AreSettled c.args.txn (c.loop-add.add-index + 1) c.args.pending.now c.args.rooms.now rooms) (sym w.rooms-is)
          (settled_past c.args.txn c.loop-add.add-index c.args.pending.now p c.args.rooms.now c.loop-add.rooms lt c.add-item.is
          (sym c.eq.ensures ∙ w.if-eq.false) c.loop-add.invariant)
    ]

pub returns-clause-kept : goal.returns-clause-kept
returns-clause-kept c =
    (settled_all c.args.txn c.loop-add.add-index c.args.pending.now c.args.rooms.now c.loop-add.rooms (omega arith) c.loop-add.invariant).0

pub returns-clause-counts : goal.returns-clause-counts
returns-clause-counts c =
    (settled_all c.args.txn c.loop-add.add-index c.args.pending.now c.args.rooms.now c.loop-add.rooms (omega arith) c.loop-add.invariant).1

pub loop-add-init : goal.loop-add-init
loop-add-init c = settled_none c.args.txn c.args.pending.now c.args.rooms.now
