-- A write of a change of a page by its answer.
use Rattle.std.specs.Prelude.{◌≡◌, ◌≤◌, ◌+◌, ℕ, List, length, set, Result, Ok, Err}
use Rattle.mt_base.specs.declared.limits.TheConstants.{PAGE_BYTES}
use Rattle.mt_base.specs.declared.refusal.Refusal.{Refusal}
use Rattle.mt_base.specs.declared.refusal.Refusal.TheVariants as refusal
use Rattle.mt_base.specs.Edits.{patched, log_size}
use Rattle.mt_frame.specs.PageRecords.{redone}
use Rattle.mt_log.specs.Words as words
use Rattle.mt_log.specs.Words.{seen_of, appended}
use Rattle.mt_log.specs.declared.log.Log.{Log}
use Rattle.mt_space.specs.declared.changes.PageChange.{PageChange}
use Rattle.mt_pool.specs.Views.{view}
use Rattle.mt_pool.specs.Writes.{IsLonger, due_records}
use Rattle.mt_pool.specs.declared.pool.Pool.{Pool}

-- the page has the change, and waits for the last of its records, which the log has; these records, made again over
-- a page as it was, give it as it is
pub record WritesChange (seen : List ℕ) (txn op : ℕ) (change : PageChange) (old new : Pool)
    (before after : Log) : Type 0 where
  pub edited : (c : List ℕ) → view new c change.page ≡ patched change.edits.items (view old c change.page)
  pub log : IsLonger before after (due_records old txn op change (view old seen change.page))
  pub again : (c : List ℕ) (q : ℕ)
      → view new c q ≡ redone q (due_records old txn op change (view old c change.page)) (view old c q)
  pub waits : new.waits.items ≡ set old.waits.items change.page (length (appended after))
  pub used : words.used after ≤ words.used before + log_size change.edits.items + PAGE_BYTES

-- nothing is appended or written, since memory was refused
pub record WritesNothing (old new : Pool) (before after : Log) (why : Refusal) : Type 0 where
  pub log : seen_of after ≡ seen_of before
  pub pool : new ≡ old
  pub only_memory : why ≡ refusal.NoMemory

abbrev pub WriteSteps : {T : Type 0}
    → List ℕ → ℕ → ℕ → PageChange → Pool → Pool → Log → Log → Result T Refusal → Type 0
WriteSteps seen txn op change old new before after (Ok done) = WritesChange seen txn op change old new before after
WriteSteps seen txn op change old new before after (Err why) = WritesNothing old new before after why
