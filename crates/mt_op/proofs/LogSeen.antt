-- What is said of a log by what it is seen as, in the words of operations.
use Rattle.std.proofs.Common.{◌≡◌, ◌++◌, ◌∷◌, [], ap, Result, Ok, Err, OnOk, OnErr}
use Rattle.mt_frame.specs.declared.records.Record.{Record}
use Rattle.mt_log.specs.Batch.{joined}
use Rattle.mt_log.specs.Seen.{LogSeen, with_record}
use Rattle.mt_log.specs.Words.{seen_of, appended}
use Rattle.mt_log.specs.declared.log.Log.{Log}
use Rattle.mt_pool.proofs.Logged.{longer_appended}

pub same_appended : (old new : Log) → seen_of new ≡ seen_of old → appended new ≡ appended old
same_appended old new is = ap (λ (x : LogSeen). joined x.batches ++ (x.flight ++ x.waits)) is

module _ {T E : Type 0} (old new : Log) (entry : Record) where
  pub appended_ok : (r : Result T E) → OnOk r (seen_of new ≡ with_record (seen_of old) entry) → OnOk r (appended new ≡ appended old ++ entry ∷ [])
  appended_ok (Ok x) is = longer_appended old new (entry ∷ []) is
  appended_ok (Err e) is = tt

  pub appended_err : (r : Result T E) → OnErr r (seen_of new ≡ seen_of old) → OnErr r (appended new ≡ appended old)
  appended_err (Ok x) is = tt
  appended_err (Err e) is = same_appended old new is
