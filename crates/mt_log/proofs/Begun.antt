-- What follows of an area that begins, in the words of callers.
use Rattle.std.proofs.Common.{◌≡◌, ◌+◌, ◌-◌, List, [], length, ap, arith, ◌∙◌, ◌∷◌, ℕ, append-nil}
use Rattle.mt_frame.specs.declared.records.Record.{Record}
use Rattle.mt_frame.specs.Grammar.{body_text}
use Rattle.mt_log.specs.Batch.{joined}
use Rattle.mt_log.specs.First.{HasBegun, IsBegun, IsFirst}
use Rattle.mt_log.specs.Seen.{LogSeen, bytes_in, calls_after, first_log, is_failed, landed, new_log}
use Rattle.mt_log.specs.Words.{seen_of, area_start, area_end, area_size, durable_batches, in_flight}
use Rattle.mt_log.specs.declared.area.AreaPlace.{AreaPlace}
use Rattle.mt_log.specs.declared.log.Log.{Log}
use Rattle.mt_log.specs.declared.stage.Stage.TheVariants.{Forcing}
use Rattle.mt_log.specs.declared.stage.Step.TheVariants.{WriteBody}
use Rattle.mt_log.proofs.Prefix.{sound_first}

-- what is so before the first batch is forced, each fact by its name
pub record HasFirst (place : AreaPlace) (records : List Record) (log : Log) : Type 0 where
  pub start : area_start log ≡ place.start
  pub end : area_end log ≡ place.end
  pub size : area_size log ≡ place.end - place.start
  pub batches : durable_batches log ≡ []
  pub flying : in_flight log ≡ records
  pub gate : log.next ≡ place.start
  pub stage : log.stage ≡ Forcing WriteBody

module _ (place : AreaPlace) (records : List Record) where
  pub first_facts : (log : Log) → IsFirst place records log → HasFirst place records log
  unfolding seen_of
  first_facts log first = let is = first.seen in record {
    start = ap (λ (x : LogSeen). x.start) is;
    end = ap (λ (x : LogSeen). x.end) is;
    size = ap (λ (x : LogSeen). x.end - x.start) is;
    batches = ap (λ (x : LogSeen). x.batches) is;
    flying = ap (λ (x : LogSeen). x.flight) is;
    gate = ap (λ (x : LogSeen). x.gate) is;
    stage = ap (λ (x : LogSeen). x.stage) is;
  }

  pub first_bytes : bytes_in (first_log place records) ≡ 5 + length (body_text records)
  unfolding bytes_in
  first_bytes = omega arith

  begun_bytes : bytes_in (landed (first_log place records)) ≡ 5 + length (body_text records)
  unfolding bytes_in
  begun_bytes = omega arith

  pub begun_facts : (log : Log) → IsBegun place records log → HasBegun place records log
  begun_facts log is =
      let batches = ap (λ (x : LogSeen). x.batches) is in
      let none = ap (λ (x : LogSeen). x.flight) is in
      let waits = ap (λ (x : LogSeen). x.waits) is in
      record {
        start = ap (λ (x : LogSeen). x.start) is;
        end = ap (λ (x : LogSeen). x.end) is;
        size = ap (λ (x : LogSeen). x.end - x.start) is;
        batches = batches;
        none_flies = none;
        none_waits = waits;
        bytes = ap bytes_in is ∙ begun_bytes;
        calls = ap (λ (x : LogSeen). calls_after x.stage) is;
        well = ap (λ (x : LogSeen). is_failed x.stage) is;
        sound = λ pages. sound_first pages log records batches (ap joined batches ∙ joined_one records) none waits;
      }
    where
      joined_one : (b : List Record) → joined (b ∷ []) ≡ b
      joined_one b = append-nil b

-- with no record it is as a new one
pub begun_empty : (place : AreaPlace) → landed (first_log place []) ≡ new_log place
begun_empty place = ap (λ (n : ℕ). record (new_log place) { gate = n }) (omega arith)
