-- What every beginning of a log's records has to have, so that a restart over it finds the base that it represents.
-- It speaks of the opening pages and the records alone.
use Rattle.std.specs.Prelude.{◌≡◌, ◌+◌, ◌*◌, ◌<◌, ◌≤◌, ℕ, List, [], ◌∷◌, ◌++◌, length}
use Rattle.std.specs.List.{AllByRecursion}
use Rattle.mt_base.specs.declared.limits.TheConstants.{PAGE_BYTES}
use Rattle.mt_frame.specs.declared.records.Record.{Record}
use Rattle.mt_frame.specs.declared.records.LoggedOp.{LoggedOp}
use Rattle.mt_frame.specs.declared.records.LoggedOp.TheVariants.{Insert, Update, Delete, Add}
use Rattle.mt_model.specs.History.{run, IsActed}
use Rattle.mt_model.specs.Model.{Base, IsBase}
use Rattle.mt_space.specs.Changes.{PageBytes}
use Rattle.mt_steps.specs.Held.{Holds}
use Rattle.mt_steps.specs.Plans.{IsGood, free_pages}
use Rattle.mt_steps.specs.Repeated.{logged, held}
use Rattle.mt_replay.specs.Recorded.{calls_in, calls_of, Finished, losers, stands_for}

-- it holds of every beginning
abbrev pub EachBeginning : (List Record → Type 0) → List Record → Type 0
EachBeginning P records = (front back : List Record) → records ≡ front ++ back → P front

-- the pages that the records lead to: history repeated, and what is unfinished put back
abbrev pub pages_held : PageBytes → List Record → PageBytes
pages_held opening records = held (logged opening records)

-- They break no rule, and hold the base that the ended operations lead to, each with the reply of its record.
pub record LeadsOn (relations counters total : ℕ) (opening : PageBytes) (records : List Record) : Type 0 where
  pub good : IsGood relations counters total (pages_held opening records)
  pub base : (b : Base) → Holds opening b → Holds (pages_held opening records) (run b (calls_in records))
  pub acted : (b : Base) → Holds opening b → IsActed b (calls_in records)

-- What the ended operations come to: first those of committed transactions, each transaction alone, then the losers'.
pub record IsSerial (b : Base) (records : List Record) : Type 0 where
  pub same : run b (calls_in records) ≡ run (stands_for b records) (calls_of (losers records))
  pub acted : IsActed (stands_for b records) (calls_of (losers records))
  pub bounds : IsBase (stands_for b records)

-- free pages that the inverse of an operation may take
abbrev pub inverse_pages : LoggedOp → ℕ
inverse_pages (Insert r k v) = 0
inverse_pages (Update r k v old) = 1
inverse_pages (Delete r k old) = 2
inverse_pages (Add c d) = 0

abbrev pub all_pages : List Finished → ℕ
all_pages [] = 0
all_pages (f ∷ fs) = inverse_pages f.done + all_pages fs

-- the relation or the counter is one of the schema
abbrev pub IsOf : ℕ → ℕ → LoggedOp → Type 0
IsOf relations counters (Insert r k v) = r < relations
IsOf relations counters (Update r k v old) = r < relations
IsOf relations counters (Delete r k old) = r < relations
IsOf relations counters (Add c d) = c < counters

-- log bytes of the images of all pages that an inverse may change: 8 of 4,096 bytes, each with a head of 24
abbrev pub inverse_images : ℕ
inverse_images = 8 * (24 + PAGE_BYTES)

-- A restart over these records finds the base that they represent, after the first base of the opening pages. In an
-- area of `bytes` bytes the images of all pages that the losers' inverses change fit into the first batch of another
-- one.
pub record IsRecoverable (relations counters total bytes : ℕ) (opening : PageBytes) (first : Base)
    (records : List Record) : Type 0 where
  pub leads : LeadsOn relations counters total opening records
  pub serial : IsSerial first records
  pub within : AllByRecursion (λ (f : Finished). IsOf relations counters f.done) (losers records)
  pub free : all_pages (losers records) ≤ free_pages total (pages_held opening records)
  pub images : inverse_images * length (losers records) + 5 < bytes
