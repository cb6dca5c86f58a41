-- What is in memory of the losers.
use Rattle.std.specs.Prelude.{◌≡◌, ◌*◌, ◌++◌, ◌∷◌, ℕ, List, length, map, reverse, Contains}
use Rattle.mt_base.specs.declared.limits.TheConstants.{MAX_WRITTEN_PAGES}
use Rattle.std.specs.BTreeSet.{contains}
use Rattle.std.specs.List.{AllByRecursion}
use Rattle.std.specs.Ordering.{nat_cmp}
use Rattle.mt_frame.specs.declared.records.Record.{Record}
use Rattle.mt_frame.specs.declared.records.Record.TheVariants.{OpEnd}
use Rattle.mt_frame.specs.Grammar.{IsRecord, IsOperation}
use Rattle.mt_area_rules.specs.History.{some_record, ends_txn, undoes_op}
use Rattle.mt_area_rules.specs.Known.{pair_cmp}
use Rattle.mt_log.specs.declared.batch.Batch.{Batch}
use Rattle.mt_model.specs.Model.{Base}
use Rattle.mt_space.specs.Changes.{PageBytes}
use Rattle.mt_steps.specs.Plans.{IsGood}
use Rattle.mt_replay.specs.Memory.{AreFirst, ChangesFew}
use Rattle.mt_replay.specs.Undoing.{UndoesAll, Finds}
use Rattle.mt_replay.specs.Recorded.{Finished, losers}
use Rattle.mt_replay.specs.declared.losers.Loser.{Loser}
use Rattle.mt_replay.specs.declared.losers.LoserPass.{LoserPass}

abbrev pub finished_of : Loser → Finished
finished_of l = record { txn = l.txn; op = l.op; done = l.done }

abbrev pub all_finished : List Loser → List Finished
all_finished list = map finished_of list

-- each record of the batches is one of the grammar
abbrev pub AreOfGrammar : List Batch → Type 0
AreOfGrammar batches = AllByRecursion (λ (batch : Batch). AllByRecursion IsRecord batch.records.items) batches

-- the record of the loser's end stands in the batch at its offset
pub record HasEnded (batches : List Batch) (l : Loser) : Type 0 where
  pub ends_in : Batch
  pub among : Contains batches ends_in
  pub place : ends_in.place ≡ l.place
  pub end : Contains ends_in.records.items (OpEnd l.txn l.op 0 l.done)
  pub grammar : IsOperation l.done

-- what these records say: the losers, the latest end first, the transactions that end, and the operations that
-- inverses name
pub record HasRecorded (x : LoserPass) (records : List Record) : Type 0 where
  pub losers : all_finished (reverse x.losers.items) ≡ losers records
  pub ended : (t : ℕ) → contains nat_cmp x.ended t ≡ some_record (ends_txn t) records
  pub undone : (t o : ℕ) → contains pair_cmp x.undone (t, o) ≡ some_record (undoes_op t o) records

-- these records of a batch are passed too, before those after them
pub record PassesRecords (batch : Batch) (records : List Record) (old new : LoserPass) : Type 0 where
  pub outcome : (behind : List Record) → HasRecorded old behind → HasRecorded new (records ++ behind)
  pub ended : (batches : List Batch) → Contains batches batch → AllByRecursion (HasEnded batches) old.losers.items
      → AllByRecursion (HasEnded batches) new.losers.items

-- ---- undone one by one

-- the pages as the inverses of these losers leave them, that of the latest end first: each changes eight at most
pub record HasUndone (old : List (List ℕ)) (losers : List Loser) (new : List (List ℕ)) : Type 0 where
  pub count : length new ≡ length old
  pub few : ChangesFew (MAX_WRITTEN_PAGES * length losers) old new
  pub undone : (relations counters : ℕ) (f : PageBytes) → AreFirst old f → IsGood relations counters (length old) f
      → (k : PageBytes) × AreFirst new k × IsGood relations counters (length old) k
      × UndoesAll relations counters (length old) f (all_finished losers) k

-- The pass stops at the loser of this offset: on the pages that the inverses of those after it leave, whatever base
-- they hold, its inverse does not find what its record says, or no free pages.
pub record StopsAt (pages : List (List ℕ)) (losers : List Loser) (at : ℕ) : Type 0 where
  pub front : List Loser
  pub loser : Loser
  pub behind : List Loser
  pub is : losers ≡ front ++ loser ∷ behind
  pub place : loser.place ≡ at
  pub missed : (relations counters : ℕ) (f : PageBytes) → AreFirst pages f → IsGood relations counters (length pages) f
      → (m : PageBytes) × UndoesAll relations counters (length pages) f (all_finished behind) m
      × ((b : Base) → Finds relations counters (length pages) m b loser.done → ⊥)
