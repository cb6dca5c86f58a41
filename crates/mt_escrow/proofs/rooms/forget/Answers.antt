use Rattle.std.proofs.Common.{◌≡◌, ◌<◌, ◌+◌, length, set, ap, sym, subst, ◌∙◌, arith, rules, to_z-of_z, SFits, w64}
use Rattle.mt_base.specs.Limits.{IsStep}
use Rattle.mt_model.specs.declared.pending_add.Pending.{Pending}
use Rattle.mt_escrow.specs.Rooms.{IsModest, let_go, room_at}
use Rattle.mt_escrow.proofs.Settling.{AreForgotten, forgotten_none, forgotten_more, forgotten_past, forgotten_all, still_modest, its_place}
use Rattle.mt_escrow.proofs.rooms.forget.Goals as goal
use Rattle.mt_escrow.proofs.rooms.forget.Goals.{then-eq, else-eq}

pub without-requires-clause-modest : goal.without-requires-clause-modest
without-requires-clause-modest c =
    let p : Pending = c.add-item.result in
    subst (λ k. IsModest (room_at c.loop-add.rooms k)) (sym (c.from.ensures ∙ c.get.ensures))
    (still_modest c.args.txn c.loop-add.add-index c.args.adds.now c.args.rooms.now c.loop-add.rooms c.requires c.loop-add.invariant.each p.counter)

pub loop-add-preserved : goal.loop-add-preserved
loop-add-preserved c =
    let p : Pending = c.add-item.result in
    let lt : c.loop-add.add-index < length c.args.adds.now = c.loop-add-test.true in
    elim c.if-eq.branch [
      | then-eq w ↦
          let place : w.from.result ≡ p.counter = w.from.ensures ∙ w.get.ensures in
          let step : SFits w64 p.step = search rules in
          let made : w.without.result ≡ let_go p.step (room_at c.loop-add.rooms w.from.result) = simp to_z-of_z at w.without.ensures in
          let rooms : c.if-eq.rooms ≡ set c.loop-add.rooms p.counter (let_go p.step (room_at c.loop-add.rooms p.counter)) =
          w.rooms-is ∙ (ap (λ r. set c.loop-add.rooms w.from.result r) made
          ∙ ap (λ n. set c.loop-add.rooms n (let_go p.step (room_at c.loop-add.rooms n))) place) in
          let add : (p.counter < length c.args.rooms.now) × IsStep p.step =
          its_place c.args.adds.now c.loop-add.add-index p c.args.rooms.now c.requires lt c.add-item.is in
          let there : p.counter < length c.loop-add.rooms = let long = c.loop-add.invariant.long in let inside = add.0 in omega arith in
          subst (λ rs. AreForgotten c.args.txn (c.loop-add.add-index + 1) c.args.adds.now c.args.rooms.now rs) (sym rooms)
          (forgotten_more c.args.txn c.loop-add.add-index c.args.adds.now p c.args.rooms.now c.loop-add.rooms lt c.add-item.is
          (sym c.eq.ensures ∙ w.if-eq.true) there c.loop-add.invariant)
      | else-eq w ↦
          subst (λ rooms. AreForgotten c.args.txn (c.loop-add.add-index + 1) c.args.adds.now c.args.rooms.now rooms) (sym w.rooms-is)
          (forgotten_past c.args.txn c.loop-add.add-index c.args.adds.now p c.args.rooms.now c.loop-add.rooms lt c.add-item.is
          (sym c.eq.ensures ∙ w.if-eq.false) c.loop-add.invariant)
    ]

pub returns-clause-kept : goal.returns-clause-kept
returns-clause-kept c =
    forgotten_all c.args.txn c.loop-add.add-index c.args.adds.now c.args.rooms.now c.loop-add.rooms (omega arith) c.loop-add.invariant

pub returns-clause-counts : goal.returns-clause-counts
returns-clause-counts c = c.loop-add.invariant.counts

pub loop-add-init : goal.loop-add-init
loop-add-init c = forgotten_none c.args.txn c.args.adds.now c.args.rooms.now
