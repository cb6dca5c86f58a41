-- How many steps of a force are left until records are durable.
use Rattle.std.specs.Prelude.{ℕ, ◌≡◌, ◌⊎◌, ◌<◌, ◌≤◌, ◌+◌, length}
use Rattle.mt_log.specs.Words.{appended, durable, in_flight, calls_left}
use Rattle.mt_log.specs.declared.log.Log.{Log}

-- so many force steps, and no more, until these records of the log are durable
pub record IsDueIn (steps : ℕ) (records : ℕ) (log : Log) : Type 0 where
  pub logged : records ≤ length (appended log)
  pub left : ((calls_left log ≡ 0) × (4 ≤ steps)) ⊎ (((0 < calls_left log)
      × (records ≤ length (durable log) + length (in_flight log)) × (calls_left log ≤ steps))
      ⊎ ((0 < calls_left log) × (calls_left log + 4 ≤ steps)))
