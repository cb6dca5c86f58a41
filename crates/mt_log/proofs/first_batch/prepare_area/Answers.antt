use Rattle.std.proofs.Common.{◌≤◌, List, [], ◌∷◌, length, map, ap, arith, length-append}
use Rattle.std.proofs.lemmas.List.Concat.{flat_map-cons}
use Rattle.mt_frame.specs.declared.records.Record.{Record}
use Rattle.mt_frame.specs.Grammar.{record_text, body_text}
use Rattle.mt_frame.proofs.Rows.{text_some}
use Rattle.mt_log.proofs.Steps.{length-closed}
use Rattle.mt_log.specs.Words.{seen_of}
use Rattle.mt_log.specs.declared.stage.Stage.TheVariants.{Forcing}
use Rattle.mt_log.specs.declared.stage.Step.TheVariants.{WriteBody}
use Rattle.mt_log.proofs.first_batch.prepare_area.Goals as goal

-- a byte a record at least
length-body : (rs : List Record) → length rs ≤ length (body_text rs)
length-body [] = omega arith
length-body (r ∷ rs) = omega (arith, length-body rs, text_some r, ap length (flat_map-cons record_text r rs), length-append (record_text r) (body_text rs))

pub invariant_of-result-clause-fits : goal.invariant_of-result-clause-fits
invariant_of-result-clause-fits c =
    let flight = c.in_ok-flight.flight in
    let four = c.in_ok-pending.ensures.len in
    let room = c.requires.fits in
    omega (arith, c.len.ensures, flight.ok.0, ap length c.in_ok-flight.ensures.text, length-closed c.args.images.now)

pub invariant_of-result-clause-few_batched : goal.invariant_of-result-clause-few_batched
invariant_of-result-clause-few_batched c =
    let flight = c.in_ok-flight.flight in
    omega (arith, c.len.ensures, flight.ok.0, ap length c.in_ok-flight.ensures.text, length-closed c.args.images.now, length-body c.args.images.now)

pub returns-clause-first : goal.returns-clause-first
unfolding seen_of
returns-clause-first c = record {
  seen = λ i. record {
    start = c.args.place.start;
    end = c.args.place.end;
    gate = c.args.place.start;
    batches = map (λ batch. batch.items) (c.new-2.ensures i);
    flight = c.in_ok-flight.ensures.records i;
    waits = c.new.ensures i;
    stage = Forcing WriteBody;
  };
  room = let fits = c.requires.fits in let some = c.args.place.some_bytes in omega arith;
}
