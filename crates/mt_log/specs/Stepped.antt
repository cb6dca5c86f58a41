-- What follows of one step of a force, in the words of callers.
use Rattle.std.specs.Prelude.{ℕ, ◌≡◌, ◌<◌, ◌≤◌, ◌+◌, ◌*◌, true, false, [], length, IfErr, IfOk, IsErr, IsOk, Ok, OnErr, Result}
use Rattle.mt_base.specs.declared.refusal.Refusal.{Refusal}
use Rattle.mt_log.specs.Seen.{is_still}
use Rattle.mt_log.specs.Sound.{IsSound}
use Rattle.mt_log.specs.Words.{seen_of, durable_batches, durable, waiting, appended, used, area_start, area_end, area_size, calls_left, has_failed, batches_after, IsStep, Moves}
use Rattle.mt_log.specs.declared.log.Forced.{Forced}
use Rattle.mt_log.specs.declared.log.Forced.TheVariants.{Idle as Nothing}
use Rattle.mt_log.specs.declared.log.Log.{Log}

-- what a step did, each fact by its name
pub record Stepped (old new : Log) (r : Result Forced Refusal) : Type 0 where
  pub step : IfOk r (λ forced. IsStep old forced new)
  pub batches : IfOk r (λ forced. durable_batches new ≡ batches_after old forced)
  pub moves : Moves old new
  pub same_records : appended new ≡ appended old
  pub bytes : used new ≤ used old
  pub used_less : 0 < calls_left old → used new ≡ used old
  pub used_shared : calls_left old ≡ 0 → has_failed old ≡ false → 0 < length (waiting old)
      → used new + 5 * length (waiting old) ≡ used old + 5
  pub start : area_start new ≡ area_start old
  pub end : area_end new ≡ area_end old
  pub area : area_size new ≡ area_size old
  pub failed : has_failed old ≡ true → IsErr r
  pub now_failed : IsErr r → has_failed new ≡ true
  pub well : IsOk r → has_failed new ≡ false
  pub only_device : IfErr r (λ why. why ≡ Refusal.DeviceFailed)
  pub err_batches : OnErr r (durable_batches new ≡ durable_batches old)
  pub err_durable : OnErr r (durable new ≡ durable old)
  pub idle : r ≡ Ok Nothing → length (durable old) ≡ length (appended old)
  pub failed_still : has_failed old ≡ true → is_still (seen_of old) ≡ true
  pub idle_still : calls_left old ≡ 0 → waiting old ≡ [] → is_still (seen_of old) ≡ true
  pub sound : (pages : ℕ) → IsSound pages old → IsSound pages new
