use Rattle.std.proofs.Common.{List, ℕ, sym, subst}
use Rattle.mt_disk.proofs.Frame.{follows_less}
use Rattle.mt_frame.specs.SlotText.{slot_text}
use Rattle.mt_disk.specs.Disk.{Has}
use Rattle.mt_log.specs.Masters.{Rules}
use Rattle.mt_log.proofs.Calls.{one_outcome}
use Rattle.mt_log.proofs.Turns.{read_turns, ruling_fits, rules_first, rules_second, then_turns}
use Rattle.mt_log.proofs.slot_change.turn_slot.Goals as goal

pub holds_slot-requires-clause-fits : goal.holds_slot-requires-clause-fits
holds_slot-requires-clause-fits g c = let seen = g.D.Device.seen c.args.device.now in ruling_fits seen c.args.ruling.now (c.requires.rules seen (g.met.D.Device.present c.args.device.now))

pub rule_beside-requires-clause-rules : goal.rule_beside-requires-clause-rules
rule_beside-requires-clause-rules g c =
    let seen = g.D.Device.seen c.args.device.now in let ruling = c.args.ruling.now in
    subst (λ (x : List ℕ). Rules x 0 4096 ruling) (sym c.holds_slot.ensures.reads.same)
    (rules_first c.slots_are_read_back.ensures seen ruling (c.requires.rules seen (g.met.D.Device.present c.args.device.now)) (c.in_ok-is_first.ensures.is.0 c.if-is_first.true))

pub rule_beside-requires-else-is_first-clause-rules : goal.rule_beside-requires-else-is_first-clause-rules
rule_beside-requires-else-is_first-clause-rules g c =
    let seen = g.D.Device.seen c.args.device.now in let ruling = c.args.ruling.now in
    subst (λ (x : List ℕ). Rules x 4096 0 ruling) (sym c.holds_slot.ensures.reads.same)
    (rules_second seen ruling (c.requires.rules seen (g.met.D.Device.present c.args.device.now))
    (λ (text : Has seen 0 (slot_text ruling)). one_outcome c.in_ok-is_first.is_first (c.in_ok-is_first.ensures.is.1 text) c.if-is_first.false))

pub returns-then-is_first-clause-moments : goal.returns-then-is_first-clause-moments
returns-then-is_first-clause-moments g c =
    let m = g.D.Device.moment in let l = g.D.Device.left_since in let may = g.D.Device.may_leave in let seen = g.D.Device.seen in
    let ruling = c.args.ruling.now in let d = c.args.device.now in let mid = c.holds_slot.new.device in
    then_turns g.D.Device ruling d mid c.rule_beside.new.device
    (read_turns g.D.Device ruling d mid c.requires.durable (c.requires.rules (seen d) (g.met.D.Device.present d)) c.holds_slot.ensures.reads)
    (follows_less 0 8192 (may d) (may mid) (λ k left. (c.holds_slot.ensures.reads.crash k).0 left)) c.rule_beside.ensures.moments

pub returns-else-is_first-clause-moments : goal.returns-else-is_first-clause-moments
returns-else-is_first-clause-moments g c =
    let m = g.D.Device.moment in let l = g.D.Device.left_since in let may = g.D.Device.may_leave in let seen = g.D.Device.seen in
    let ruling = c.args.ruling.now in let d = c.args.device.now in let mid = c.holds_slot.new.device in
    then_turns g.D.Device ruling d mid c.rule_beside-else-is_first.new.device
    (read_turns g.D.Device ruling d mid c.requires.durable (c.requires.rules (seen d) (g.met.D.Device.present d)) c.holds_slot.ensures.reads)
    (follows_less 0 8192 (may d) (may mid) (λ k left. (c.holds_slot.ensures.reads.crash k).0 left)) c.rule_beside-else-is_first.ensures.moments
