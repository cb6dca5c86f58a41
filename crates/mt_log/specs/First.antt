-- The log of an area that begins.
use Rattle.std.specs.Prelude.{◌<◌, ◌≡◌, ◌+◌, ◌-◌, ℕ, List, [], ◌∷◌, length, true, false}
use Rattle.mt_frame.specs.declared.records.Record.{Record}
use Rattle.mt_frame.specs.Grammar.{body_text}
use Rattle.mt_area_rules.specs.History.{MayFollow}
use Rattle.mt_log.specs.Holds.{AreRecords}
use Rattle.mt_log.specs.Seen.{first_log, landed}
use Rattle.mt_log.specs.Sound.{IsSound}
use Rattle.mt_log.specs.Words.{seen_of, durable_batches, in_flight, waiting, area_start, area_end, area_size, used, calls_left, has_failed}
use Rattle.mt_log.specs.declared.area.AreaPlace.{AreaPlace}
use Rattle.mt_log.specs.declared.log.Log.{Log}

-- it has no batch yet, and these records are about to be forced as its first one
pub record IsFirst (place : AreaPlace) (records : List Record) (log : Log) : Type 0 where
  pub seen : seen_of log ≡ first_log place records
  pub room : place.start + 5 + length (body_text records) < place.end

-- these records are its one batch, and durable
abbrev pub IsBegun : AreaPlace → List Record → Log → Type 0
IsBegun place records log = seen_of log ≡ landed (first_log place records)

-- what is so of such a log, each fact by its name
pub record HasBegun (place : AreaPlace) (records : List Record) (log : Log) : Type 0 where
  pub start : area_start log ≡ place.start
  pub end : area_end log ≡ place.end
  pub size : area_size log ≡ place.end - place.start
  pub batches : durable_batches log ≡ records ∷ []
  pub none_flies : in_flight log ≡ []
  pub none_waits : waiting log ≡ []
  pub bytes : used log ≡ 5 + length (body_text records)
  pub calls : calls_left log ≡ 0
  pub well : has_failed log ≡ false
  pub sound : (pages : ℕ) → AreRecords pages records → MayFollow true [] records → IsSound pages log
