use Rattle.std.proofs.Common.{rules, ◌≡◌, inl, ℕ, List, [], ◌∷◌, get_or, sym, subst, arith}
use Rattle.mt_disk.specs.Disk.{Only, Torn, Wrote}
use Rattle.mt_disk.proofs.Frame.{follows_less, one_of}
use Rattle.mt_frame.specs.declared.slots.MasterSlot.{MasterSlot}
use Rattle.mt_log.specs.Masters.{IsClosedAt, Rules}
use Rattle.mt_log.proofs.Calls.{if_ok, on_ok, one_outcome}
use Rattle.mt_log.proofs.Turns.{closes_one, read_turns, rules_own, slots_below, slots_turned, then_turns, write_turns}
use Rattle.mt_log.proofs.slot_change.close_beside.Goals as goal
use Rattle.mt_log.proofs.slot_change.close_beside.Goals.{After-write_durably}

-- what a write of the gate leaves, which was found open
rules_on : (g : _) (c : After-write_durably g) (ruling : MasterSlot) → Rules (g.D.Device.seen c.args.device.now) c.args.other c.args.at ruling → (k : List ℕ) → Torn c.args.at 1 (g.D.Device.seen c.gate_is_open.new.device) k → Rules k c.args.other c.args.at ruling
rules_on g c ruling r k torn =
    let seen = g.D.Device.seen in
    closes_one (seen c.args.device.now) k c.args.at c.args.other ruling c.requires.slots r
    (λ (shut : IsClosedAt (seen c.args.device.now) c.args.at). shut (c.in_ok-gate_is_open.ensures.is.0 c.if-not-branch.false))
    (subst (λ (x : List ℕ). Torn c.args.at 1 x k) c.gate_is_open.ensures.reads.same torn)

pub returns-then-not-branch : goal.returns-then-not-branch
returns-then-not-branch g c =
    let seen = g.D.Device.seen in let same = c.gate_is_open.ensures.reads.same in
    record {
      closed = λ gate. one_outcome _ (c.in_ok-gate_is_open.ensures.is.1 (subst (λ (x : List ℕ). get_or x c.args.at 0 ≡ 165) same gate)) c.if-not-branch.true;
      rules = search rules;
      durable = search rules;
      moments = search rules;
      elsewhere = search rules;
      rest = search rules;
      cause = search rules;
    }

pub returns : goal.returns
returns g c = record {
  closed = let seen = g.D.Device.seen c.write_durably.new.device in
      on_ok c.write_durably.result (λ (w : Wrote c.args.at (0 ∷ []) (g.D.Device.seen c.gate_is_open.new.device) seen) (is : get_or seen c.args.at 0 ≡ 165). let zero = one_of seen c.args.at 0 w.has in absurd (omega arith)) c.write_durably.ensures.written;
  rules = if_ok c.write_durably.result (λ ruling r. rules_on g (goal.at.returns g c).After-write_durably ruling r (g.D.Device.seen c.write_durably.new.device) c.write_durably.ensures.rest);
  durable = search rules;
  moments = λ ruling r.
      let m = g.D.Device.moment in let l = g.D.Device.left_since in let may = g.D.Device.may_leave in let seen = g.D.Device.seen in
      let at = c.args.at in let other = c.args.other in
      let d = c.args.device.now in let mid = c.gate_is_open.new.device in let new = c.write_durably.new.device in
      let turned = slots_turned at other c.requires.slots in
      let reads = c.gate_is_open.ensures.reads in
      let only : Only (seen mid) (may mid) = subst (λ (x : List ℕ). Only x (may mid)) (sym reads.same) (λ k left. c.requires.durable k ((reads.crash k).0 left)) in
      then_turns g.D.Device ruling d mid new
      (read_turns g.D.Device ruling d mid c.requires.durable (rules_own (seen d) other at ruling turned r) reads)
      (follows_less 0 8192 (may d) (may mid) (λ k left. (reads.crash k).0 left))
      (write_turns g.D.Device ruling at 1 mid new (let below = slots_below at other c.requires.slots in omega (arith, below)) only
      (λ k torn. inl (rules_own k other at ruling turned (rules_on g (goal.at.returns g c).After-write_durably ruling r k torn))) c.write_durably.ensures.moments);
  elsewhere = search rules;
  rest = search rules;
  cause = search rules;
}
