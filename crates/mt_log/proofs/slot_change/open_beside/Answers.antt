use Rattle.std.proofs.Common.{◌≡◌, ◌+◌, inl, inr, List, ℕ, OnOk, length, take, drop, ap, sym, subst, arith}
use Rattle.std.proofs.lemmas.Result.{on_ok_weaker}
use Rattle.mt_disk.specs.Disk.{Torn}
use Rattle.mt_disk.proofs.Frame.{follows_within}
use Rattle.mt_frame.specs.SlotText.{slot_text}
use Rattle.mt_log.specs.Masters.{IsClosedAt, IsRuling, Rules}
use Rattle.mt_log.specs.NextSlot.{next_slot}
use Rattle.mt_log.proofs.Ruling.{behind_size}
use Rattle.mt_log.proofs.Turns.{behind_gate, behind_turns, next_rules, one_rules, slots_below, then_turns, write_turns}
use Rattle.mt_log.proofs.slot_change.open_beside.Goals as goal
use Rattle.mt_log.proofs.slot_change.open_beside.Goals.{After-write_master}

-- the text of the next slot
text_is : (g : _) (c : After-write_master g) → slot_text c.slot_after.result ≡ slot_text (next_slot c.args.ruling.now)
text_is g c = ap slot_text c.slot_after.ensures

-- once it stands after the gate
before_gate : (g : _) (c : After-write_master g) (mid : List ℕ) → Torn (c.args.at + 1) (length (drop 1 (slot_text c.slot_after.result))) (g.D.Device.seen c.args.device.now) mid
    → Rules mid c.args.other c.args.at c.args.ruling.now × IsClosedAt mid c.args.at
before_gate g c mid torn =
    behind_gate c.args.at c.args.other c.requires.slots c.args.ruling.now c.requires.epoch (slot_text c.slot_after.result) (text_is g c) (g.D.Device.seen c.args.device.now) mid c.requires.rules c.requires.closed torn

pub write_master-requires-clause-below : goal.write_master-requires-clause-below
write_master-requires-clause-below g c = slots_below c.args.at c.args.other c.requires.slots

pub returns : goal.returns
returns g c =
    let D = g.D.Device in let seen = D.seen in let may = D.may_leave in
    let at = c.args.at in let other = c.args.other in let ruling = c.args.ruling.now in let slots = c.requires.slots in
    let d = c.args.device.now in let new = c.write_master.new.device in
    let after = (goal.at.returns g c).After-write_master in
    let text = slot_text c.slot_after.result in let is = text_is g after in
    let below = slots_below at other slots in
    let w = c.write_master.ensures in
    record {
      rules = elim w.steps [
        | inl x ↦ subst (λ r. OnOk r (IsRuling (seen new) (next_slot ruling))) (sym x.1) tt
        | inr x ↦ on_ok_weaker c.write_master.result
            (next_rules at other slots ruling c.requires.epoch text is (seen x.0) (seen new) (before_gate g after (seen x.0) x.2.rest) x.2.written.has) x.3.written
      ];
      durable = w.durable;
      moments = elim w.steps [
        | inl x ↦ behind_turns at other slots ruling c.requires.epoch text is D d new c.requires.durable c.requires.rules c.requires.closed x.2.moments
        | inr x ↦ then_turns D ruling d x.0 new
            (behind_turns at other slots ruling c.requires.epoch text is D d x.0 c.requires.durable c.requires.rules c.requires.closed x.2.moments)
            (follows_within (at + 1) (length (take 16 (drop 1 text))) 0 8192 (may d) (may x.0) (omega arith) (let n = behind_size text (next_slot ruling) is in omega (arith, below, n)) x.2.elsewhere)
            (write_turns D ruling at 1 x.0 new (omega (arith, below)) x.2.durable
            (λ k torn. one_rules at other slots ruling c.requires.epoch text is (seen x.0) k (before_gate g after (seen x.0) x.2.rest) x.2.written.has torn) x.3.moments)
      ];
      elsewhere = w.elsewhere;
      rest = w.rest;
      cause = w.cause;
    }
