-- What a store's log has of a change of one page.
use Rattle.std.specs.Prelude.{◌≡◌, ◌≢◌, set, ℕ, ◌+◌, List, [], ◌∷◌, Option, Some, None, false, ◌==◌, if◌then◌else◌, length, IfErr, IfOk, OnErr, OnOk, Result}
use Rattle.std.specs.List.{AllByRecursion}
use Rattle.mt_base.specs.declared.refusal.Refusal.{Refusal}
use Rattle.mt_frame.specs.declared.records.Record.{Record}
use Rattle.mt_area_rules.specs.History.{MayFollow, some_record, ends_txn, ends_op}
use Rattle.mt_frame.specs.Lengths.{record_length}
use Rattle.mt_frame.specs.PageRecords.{change_records, lent_image}
use Rattle.mt_log.specs.Holds.{HasItsPage}
use Rattle.mt_log.specs.Sound.{IsSound}
use Rattle.mt_log.specs.Seen.{with_records}
use Rattle.mt_log.specs.Words as words
use Rattle.mt_log.specs.Words.{seen_of, appended}
use Rattle.mt_log.specs.declared.log.Log.{Log}
use Rattle.mt_base.specs.Edits.{patched}
use Rattle.mt_base.specs.Ranges.{part}
use Rattle.mt_base.specs.declared.edits.Edit.{Edit}
use Rattle.mt_space.specs.declared.changes.PageChange.{PageChange}
use Rattle.mt_pool.specs.declared.page_changes.Change.{Change}
use Rattle.mt_pool.specs.Views.{IsPool, Shows, view, waits_for}
use Rattle.mt_pool.specs.declared.pool.Pool.{Pool}

-- the image that the first record of a page carries
abbrev pub due_image : Pool → ℕ → List ℕ → Option (List ℕ)
due_image pool page bytes = if waits_for pool page == 0 then Some bytes else None

-- what is to be logged of a change of a page with these bytes
abbrev pub due_records : Pool → ℕ → ℕ → PageChange → List ℕ → List Record
due_records pool txn op change page = let edits = change.edits.items in
    change_records txn op change.page (due_image pool change.page page) page (patched edits page) edits

-- the edit's bytes are those that its range has in the page as a change leaves it
abbrev pub IsAsLeft : List ℕ → Edit → Type 0
IsAsLeft new e = e.bytes ≡ part new e.start (length e.bytes)

-- the records of a change with lent bytes, one for each of these edits
abbrev pub lent_records : Change → List Edit → List Record
lent_records c edits = change_records c.txn c.op c.page (lent_image c.image) c.old.now (patched edits c.old.now) edits

-- what the records take of an area, each with a head of its own
abbrev pub records_size : List Record → ℕ
records_size [] = 0
records_size (r ∷ rs) = 5 + record_length r + records_size rs

-- neither the transaction nor its operation has ended
pub record IsUnfinished (txn op : ℕ) (records : List Record) : Type 0 where
  pub transaction : some_record (ends_txn txn) records ≡ false
  pub operation : some_record (ends_op op) records ≡ false

-- the log has these records more, which wait
abbrev pub IsLonger : Log → Log → List Record → Type 0
IsLonger old new records = seen_of new ≡ with_records (seen_of old) records

-- these records are appended, all of them or none, and what is answered is the place of the last one
pub record AppendsAll (log new : Log) (records : List Record) (r : Result ℕ Refusal) : Type 0 where
  pub longer : OnOk r (IsLonger log new records)
  pub used : OnOk r (words.used new ≡ words.used log + records_size records)
  pub place : IfOk r (λ place. place ≡ length (appended new))
  pub sound : (pages : ℕ) → IsSound pages log → AllByRecursion (HasItsPage pages) records
      → MayFollow false (appended log) records → IsSound pages new
  pub err : OnErr r (seen_of new ≡ seen_of log)
  pub only_memory : IfErr r (λ why. why ≡ Refusal.NoMemory)

-- all edits of a page in a frame are made, and the page waits for the record at this place
pub record IsEdited (old new : Pool) (page : ℕ) (edits : List Edit) (position : ℕ) : Type 0 where
  pub pool : IsPool new
  pub shows : (seen : List ℕ) → Shows old seen → Shows new seen
  pub edited : (seen : List ℕ) → view new seen page ≡ patched edits (view old seen page)
  pub others : (seen : List ℕ) (q : ℕ) → q ≢ page → view new seen q ≡ view old seen q
  pub waits : new.waits.items ≡ set old.waits.items page position
  pub there : new.of_page ≡ old.of_page
  pub place : new.place ≡ old.place
