use Rattle.std.proofs.Common.{◌≡◌, ◌+◌, length, map, refl, ap, ◌∙◌, arith}
use Rattle.mt_frame.specs.Grammar.{body_text}
use Rattle.mt_log.specs.Batch.{joined}
use Rattle.mt_log.proofs.Steps.{length-closed}
use Rattle.mt_log.proofs.Calls.{batches_push, length-joined_push}
use Rattle.mt_log.proofs.log.Log.settle.Goals as goal

pub invariant_of-self-in-SyncGate : goal.invariant_of-self-in-SyncGate
invariant_of-self-in-SyncGate c =
    let s = c.args.self.now in
    let way = s.under_way (λ is. cc) in
    let long : length s.flight.items ≡ 5 + length (body_text s.in_flight.items) = ap length way.whole ∙ length-closed s.in_flight.items in
    let grown : length (joined (map (λ batch. batch.items) c.and-self.result.items)) ≡ length (joined (map (λ batch. batch.items) s.batches.items)) + length s.in_flight.items =
    ap (λ l. length (joined (map (λ batch. batch.items) l))) c.and-self.ensures ∙ ap (λ l. length (joined l)) (batches_push s.batches.items s.in_flight) ∙ length-joined_push (map (λ batch. batch.items) s.batches.items) s.in_flight.items in
    let none : length c.new-self.result.items ≡ 0 = ap length c.new-self.ensures in
    record {
      in_order = s.in_order;
      fits = s.fits;
      head = s.head;
      gate_room = s.gate_room;
      flight_room = let k = c.truncate.ensures.capacity in let r = s.flight_room in omega arith;
      text = s.text;
      counted = s.counted;
      few_waiting = s.few_waiting;
      counted_batched = let b = s.counted_batched in omega arith;
      few_batched = s.few_batched;
      at_rest = λ _. record { place = refl; none = none; head_alone = let l = c.truncate.ensures.len in omega (arith, s.flight.ok.0) };
      under_way = λ not. absurd (not refl);
    }
