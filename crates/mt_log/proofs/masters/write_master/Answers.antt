use Rattle.std.proofs.Common.{rules, ◌≡◌, ◌+◌, ◌∙◌, inl, inr, ℕ, List, Ok, Err, take, drop, ap, sym, subst, arith}
use Rattle.std.proofs.lemmas.Result.{err_from_is_err_and}
use Rattle.mt_disk.specs.declared.device.DeviceFault.{DeviceFault}
use Rattle.mt_disk.proofs.Frame.{follows_trans, follows_within, torn_trans, torn_within}
use Rattle.mt_frame.specs.SlotText.{slot_text}
use Rattle.mt_log.specs.Lasting.{WritesDurably}
use Rattle.mt_log.proofs.masters.write_master.Goals as goal
use Rattle.mt_log.proofs.masters.write_master.Goals.{After-write_durably}

-- the slot's text after its gate
text_is : (g : _) (c : After-write_durably g) → take 16 (drop 1 c.encode_slot-text.result) ≡ drop 1 (slot_text c.args.slot.now)
text_is g c = ap (λ (l : List ℕ). take 16 (drop 1 l)) c.encode_slot-text.ensures

pub returns-in_err-write_durably : goal.returns-in_err-write_durably
returns-in_err-write_durably g c =
    let D = g.D.Device in let at = c.args.at in let d = c.args.device.now in let mid = c.write_durably.new.device in
    let p = err_from_is_err_and c.from_residual.result c.from_residual.ensures.1 in
    let is = p.1 ∙ ap Err p.2 in
    let text = text_is g (goal.at.returns-in_err-write_durably g c).After-write_durably in
    let below = c.requires.below in
    let w = subst (λ (l : List ℕ). WritesDurably D (at + 1) l d mid c.from_residual.result) text (subst (WritesDurably D (at + 1) (take 16 (drop 1 c.encode_slot-text.result)) d mid) (sym is) c.in_err-write_durably.ensures) in
    record {
      steps = inl (c.in_err-write_durably.field-0.0, is, w);
      durable = w.durable;
      elsewhere = follows_within (at + 1) 16 0 8192 (D.may_leave d) (D.may_leave mid) (omega arith) (omega (arith, below)) w.elsewhere;
      rest = torn_within (at + 1) 16 0 8192 (D.seen d) (D.seen mid) w.rest (omega arith) (omega (arith, below));
      cause = w.cause;
    }

pub returns : goal.returns
returns g c =
    let D = g.D.Device in let at = c.args.at in let d = c.args.device.now in let mid = c.write_durably.new.device in let new = c.write_durably-2.new.device in
    let text = text_is g (goal.at.returns g c).After-write_durably in
    let below = c.requires.below in
    let w : WritesDurably D {F = DeviceFault} (at + 1) (drop 1 (slot_text c.args.slot.now)) d mid (Ok c.in_ok-write_durably.field-0) = subst (λ (l : List ℕ). WritesDurably D {F = DeviceFault} (at + 1) l d mid (Ok c.in_ok-write_durably.field-0)) text c.in_ok-write_durably.ensures in
    let gate = c.write_durably-2.ensures in
    record {
      steps = inr (mid, c.in_ok-write_durably.field-0, w, gate);
      durable = gate.durable;
      elsewhere = follows_trans 0 8192 (D.may_leave d) (D.may_leave mid) (D.may_leave new)
          (follows_within (at + 1) 16 0 8192 (D.may_leave d) (D.may_leave mid) (omega arith) (omega (arith, below)) w.elsewhere)
          (follows_within at 1 0 8192 (D.may_leave mid) (D.may_leave new) (omega arith) (omega (arith, below)) gate.elsewhere);
      rest = torn_trans 0 8192 (D.seen d) (D.seen mid) (D.seen new)
          (torn_within (at + 1) 16 0 8192 (D.seen d) (D.seen mid) w.rest (omega arith) (omega (arith, below)))
          (torn_within at 1 0 8192 (D.seen mid) (D.seen new) gate.rest (omega arith) (omega (arith, below)));
      cause = search rules;
    }
