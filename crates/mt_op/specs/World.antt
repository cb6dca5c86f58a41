-- Operations half done over one log: what holds of all of them together, and of each one.
use Rattle.std.specs.Prelude.{◌≡◌, ◌≢◌, ◌⊎◌, ◌<◌, ◌≤◌, ℕ, List, [], ◌∷◌, ◌++◌, length, take, All, Any, Contains, Option, Some, None, IsSome, Bool, true}
use Rattle.mt_base.specs.declared.limits.TheConstants.{MAX_WRITTEN_PAGES, PAGE_BYTES}
use Rattle.mt_base.specs.declared.modes.Mode.TheVariants.{Write}
use Rattle.mt_frame.specs.declared.records.Record.{Record}
use Rattle.mt_frame.specs.declared.records.Record.TheVariants.{OpEnd}
use Rattle.mt_frame.specs.declared.records.LoggedOp.{LoggedOp}
use Rattle.mt_frame.specs.Grammar.{IsTxn, IsOp}
use Rattle.mt_area_rules.specs.History.{inverse_is_due}
use Rattle.mt_model.specs.Model.{IsWithin}
use Rattle.mt_model.specs.declared.operations.Reply.{Reply}
use Rattle.mt_plock.specs.declared.guards.PageLock.{PageLock}
use Rattle.mt_plock.specs.Holding.{lock_of, AreTogether}
use Rattle.mt_plock.specs.Releasing.{locks_of}
use Rattle.mt_space.specs.Changes.{PageBytes, Agrees, after}
use Rattle.mt_pool.specs.Writes.{IsUnfinished}
use Rattle.mt_space.specs.declared.changes.PageChange.{PageChange}
use Rattle.mt_space.specs.Kinds.{kind}
use Rattle.mt_file.specs.Plans.{IsNamed}
use Rattle.mt_steps.specs.Asks.{HasSearched}
use Rattle.mt_overlay.specs.Overlays.{copied, or_bytes, AreAtHand}
use Rattle.mt_steps.specs.Logged.{logged_of}
use Rattle.mt_steps.specs.Plans.{IsGood, IsPlanned, TakesPages}
use Rattle.mt_steps.specs.Repeated.{Repeated, Change, logged, held, by, changes_of, IsRepeated}
use Rattle.mt_op.specs.declared.scope.OpScope.{OpScope}
use Rattle.mt_op.specs.declared.scope.Stage.{Stage}
use Rattle.mt_op.specs.declared.scope.Stage.TheVariants.{Planning, Writing, Ready, Taking, Cleared}

-- page locks, the records of a log area over the pages as they were when it began, and the present pages
pub record World : Type 0 where
  pub locks : List PageLock
  pub opening : PageBytes
  pub records : List Record
  pub present : PageBytes
  pub total : ℕ

-- what the records make of the pages, and the pages held
abbrev pub repeated_in : World → Repeated
repeated_in w = logged w.opening w.records

abbrev pub held_in : World → PageBytes
held_in w = held (repeated_in w)

abbrev pub unfinished_in : World → List Change
unfinished_in w = (repeated_in w).unfinished

-- an unfinished change is of a page that its operation has locked to write
abbrev pub IsCovered : List PageLock → Change → Type 0
IsCovered locks c = Contains locks (lock_of c.op c.page Write)

-- Whatever is half done: a page is as the records make it, or as it is held if it is being taken back; and the
-- pages held break no rule.
pub record IsWorld (relations counters : ℕ) (w : World) : Type 0 where
  pub repeated : IsRepeated (repeated_in w)
  pub shows : (p : ℕ) → p < w.total → (w.present p ≡ (repeated_in w).pages p) ⊎ (w.present p ≡ held_in w p)
  pub covered : All (IsCovered w.locks) (unfinished_in w)
  pub together : AreTogether w.locks
  pub good : IsGood relations counters w.total (held_in w)

-- ---- one operation

-- the pages that an operation has looked at, and their bytes
abbrev pub looked : OpScope → ℕ → Option (List ℕ)
looked s p = copied s.seen.list.items p

abbrev pub looked_bytes : OpScope → PageBytes
looked_bytes s p = or_bytes (looked s p) []

-- the operation that it takes back, or 0; whether an insert splits a bucket; and the log bytes that are kept for it
abbrev pub undoes_of : OpScope → ℕ
undoes_of s = s.undoes

abbrev pub splits : OpScope → Bool
splits s = s.split

abbrev pub left_of : OpScope → ℕ
left_of s = s.left

abbrev pub changes_in : OpScope → List PageChange
changes_in s = s.changes.list.items

-- it has logged nothing that is unfinished
abbrev pub HasNothing : World → OpScope → Type 0
HasNothing w s = by s.number (unfinished_in w) ≡ []

-- its writes so far, each page once, are in the log and not ended
abbrev pub HasWritten : World → OpScope → Type 0
HasWritten w s = by s.number (unfinished_in w) ≡ changes_of s.number (take s.written (changes_in s)) (looked_bytes s)

-- Its changes are one act on whatever good pages agree with those that it looked at, and take pages only if it needs
-- one, for its record none but the page that it was led to; it has looked at each page
-- that changes, and locked it to write.
pub record HasPlan (relations counters : ℕ) (s : OpScope) : Type 0 where
  pub reply : Reply
  pub replies : s.reply ≡ Some reply
  pub planned : (pages : PageBytes) → Agrees (looked s) pages → IsGood relations counters s.seen.total pages
      → IsNamed s.room pages → IsPlanned relations counters s.seen.total (looked s) pages (changes_in s) s.op s.split
      reply
  pub takes : (pages : PageBytes) → Agrees (looked s) pages → IsGood relations counters s.seen.total pages
      → IsNamed s.room pages → TakesPages s.room s.op pages (after (changes_in s) pages)
  pub there : AreAtHand (looked s) (changes_in s)
  pub quiet : logged_of s.op reply ≡ None → changes_in s ≡ []
  pub few : length (changes_in s) ≤ MAX_WRITTEN_PAGES
  pub locked : All (λ c. Contains s.guards.items (lock_of s.number c.page Write)) (changes_in s)

-- neither it nor its transaction has ended; what it takes back, if anything, has ended and is not taken back yet
pub record IsOpen (w : World) (s : OpScope) : Type 0 where
  pub unfinished : IsUnfinished s.txn s.number w.records
  pub due : (done : LoggedOp) → inverse_is_due w.records (OpEnd s.txn s.number s.undoes done) ≡ true

-- the pages held have what it looked at, and the page that it was led to is its own and one of records
pub record Sees (w : World) (s : OpScope) : Type 0 where
  pub saw : Agrees (looked s) (held_in w)
  pub named : (p : ℕ) → s.room ≡ Some p → IsSome (looked s p) × Contains s.guards.items (lock_of s.number p Write)
      × (kind (held_in w) p ≡ 3)

-- the pages that it has put back are as they are held
abbrev pub AreBack : World → OpScope → Type 0
AreBack w s = (c : PageChange) (front back : List PageChange) → take s.written (changes_in s) ≡ front ++ c ∷ back
    → s.standing ≤ length front → w.present c.page ≡ held_in w c.page

-- the pages that it looked at are as the records make them
abbrev pub AreStanding : World → OpScope → Type 0
AreStanding w s = (p : ℕ) → IsSome (looked s p) → w.present p ≡ (repeated_in w).pages p

-- ---- how far it has come

pub record IsPlanning (w : World) (s : OpScope) : Type 0 where
  pub sees : Sees w s
  pub unended : IsOpen w s
  pub nothing : HasNothing w s
  pub searched : HasSearched (looked s) s.seen.total s.op s.search
  pub none_written : s.written ≡ 0
  pub none_standing : s.standing ≡ 0

pub record IsWriting (relations counters : ℕ) (w : World) (s : OpScope) : Type 0 where
  pub sees : Sees w s
  pub unended : IsOpen w s
  pub plan : HasPlan relations counters s
  pub done : HasWritten w s
  pub some : s.written ≤ length (changes_in s)
  pub all_stand : s.standing ≡ s.written
  pub stand : AreStanding w s

pub record IsTaking (relations counters : ℕ) (w : World) (s : OpScope) : Type 0 where
  pub sees : Sees w s
  pub unended : IsOpen w s
  pub plan : HasPlan relations counters s
  pub done : HasWritten w s
  pub some : s.written ≤ length (changes_in s)
  pub one_stands : 0 < s.standing
  pub fewer_stand : s.standing ≤ s.written
  pub back : AreBack w s

abbrev pub IsAt : ℕ → ℕ → World → OpScope → Stage → Type 0
IsAt relations counters w s Planning = IsPlanning w s
IsAt relations counters w s Writing = IsWriting relations counters w s
IsAt relations counters w s Ready = HasNothing w s
IsAt relations counters w s Taking = IsTaking relations counters w s
IsAt relations counters w s Cleared = HasNothing w s

-- an operation under way: its locks are its guards, and it has locked each page that it looked at
pub record IsUnderWay (relations counters : ℕ) (w : World) (s : OpScope) : Type 0 where
  pub txn : IsTxn s.txn
  pub op : IsOp s.number
  pub within : IsWithin relations counters s.op
  pub locks : locks_of s.number w.locks ≡ s.guards.items
  pub whole : (p : ℕ) (bytes : List ℕ) → looked s p ≡ Some bytes → length bytes ≡ PAGE_BYTES
  pub total : s.seen.total ≡ w.total
  pub inside : (p : ℕ) → IsSome (looked s p) → p < w.total
  pub guarded : (p : ℕ) → IsSome (looked s p) → Any (λ l. l.page ≡ p) s.guards.items
  pub at : IsAt relations counters w s s.stage

-- another one, of another transaction
pub record IsOther (s u : OpScope) : Type 0 where
  pub number : u.number ≢ s.number
  pub txn : u.txn ≢ s.txn

-- a number that no operation has, of a transaction without an operation under way; what it takes back, if anything,
-- has ended
pub record IsFresh (w : World) (txn number undoes : ℕ) : Type 0 where
  pub locks : locks_of number w.locks ≡ []
  pub nothing : by number (unfinished_in w) ≡ []
  pub unfinished : IsUnfinished txn number w.records
  pub due : (done : LoggedOp) → inverse_is_due w.records (OpEnd txn number undoes done) ≡ true
