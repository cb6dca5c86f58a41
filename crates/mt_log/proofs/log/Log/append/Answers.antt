use Rattle.std.proofs.Common.{length, ap, arith, length-append}
use Rattle.mt_frame.specs.Grammar.{record_text}
use Rattle.mt_frame.proofs.TextLengths.{length-record_text}
use Rattle.mt_log.specs.Words.{room, seen_of}
use Rattle.mt_log.proofs.Bytes.{used-fields}
use Rattle.mt_log.proofs.log.Log.append.Goals as goal

pub invariant_of-self-2-clause-fits : goal.invariant_of-self-2-clause-fits
unfolding seen_of
invariant_of-self-2-clause-fits c =
    let s = c.args.self.now in
    let old = s.pending in
    let new = c.push_text.new.text in
    omega (arith, used-fields s, c.requires.fits, s.in_order, s.fits, s.head, ap length c.in_ok-push_text.ensures.ok, length-append old.items (record_text c.args.entry), length-record_text c.args.entry, old.ok.0, new.ok.0)

pub returns-clause-room_left : goal.returns-clause-room_left
unfolding room
returns-clause-room_left c =
    let old = c.args.self.now.pending in
    let new = c.push_text.new.text in
    let text = ap length c.in_ok-push_text.ensures.ok in
    let kept = c.push_text.ensures.capacity in
    omega (arith, kept, text, length-append old.items (record_text c.args.entry), length-record_text c.args.entry, old.ok.0, new.ok.0)
