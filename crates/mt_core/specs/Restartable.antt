-- What the log's records say of the transactions, and that a restart over each beginning of them finds its base.
use Rattle.std.specs.Prelude.{ℕ, ◌*◌, ◌≡◌, ◌≤◌, ◌+◌, ◌++◌, Bool, cond, List, [], ◌∷◌, Option, Some, None, filter, is_some, map, length, Result, Ok, Err, ⊤}
use Rattle.mt_disk.specs.declared.device.Device.{Ghosts}
use Rattle.mt_base.specs.declared.limits.TheConstants.{MAX_LIVE, MIB_BYTES, MIN_AREA_MIB}
use Rattle.mt_base.specs.declared.refusal.Refusal.{Refusal}
use Rattle.mt_frame.specs.declared.records.Record.{Record}
use Rattle.mt_live.specs.Entries.{Entry, calls, kept, runs}
use Rattle.mt_live.specs.Laws.{in_turn, without_all}
use Rattle.mt_live.specs.Lives.{member_of, IsChanged}
use Rattle.mt_live.specs.declared.transactions.Role.TheVariants.{Stands, Back}
use Rattle.mt_live.specs.Members.{Member, Noted, noted, has_inverse, with_call, with_back, taken_back}
use Rattle.mt_live.specs.Undoing.{only, cut_back, mark_last}
use Rattle.mt_live.specs.declared.transactions.TxnState.{TxnState}
use Rattle.mt_live.specs.declared.transactions.TxnState.TheVariants.{Open, Committing, Returning, Aborting}
use Rattle.mt_log.specs.Words.{appended, durable, area_size}
use Rattle.mt_model.specs.History.{Call, run, after}
use Rattle.mt_model.specs.Model.{Base, inverse_of}
use Rattle.mt_model.specs.declared.history.Committed.{Committed}
use Rattle.mt_model.specs.declared.operations.Reply.{Reply}
use Rattle.mt_op.specs.Records.{end_of}
use Rattle.mt_op.specs.declared.answers.Stepped.{Stepped}
use Rattle.mt_op.specs.declared.answers.Stepped.TheVariants as stepped
use Rattle.mt_op.specs.declared.scope.OpScope.{OpScope}
use Rattle.mt_pool.specs.Views.{pages}
use Rattle.mt_replay.specs.Recoverable.{EachBeginning, IsRecoverable, LeadsOn, pages_held}
use Rattle.mt_replay.specs.Recorded.{Recorded, Finished, plus_records, recorded_in, its, op_of, reply_in, calls_in, calls_of}
use Rattle.mt_space.specs.Changes.{PageBytes}
use Rattle.mt_core.specs.Booked.{txns_of, durable_count}
use Rattle.mt_core.specs.Consistent.{Origin, session_in, IsConsistent}
use Rattle.mt_core.specs.Runs.{is_at_work, state_in}
use Rattle.mt_core.specs.declared.parts.Core.{Core}
use Rattle.mt_core.specs.Seen.{core_log, core_pool}

-- ---- what did something

-- it stands and did something
abbrev pub did : Entry → Bool
did e = has_inverse (noted e.role (e.op, e.reply))

abbrev pub did_call : Call → Bool
did_call c = is_some (inverse_of c.0 c.1)

abbrev pub effects_of : Committed → List Call
effects_of c = filter did_call c.calls

-- of a transaction, those taken back and their inverses among them
abbrev pub its_effects : ℕ → List Entry → List Call
its_effects t es = filter did_call (calls (kept (only t) es))

abbrev pub entry_of : Finished → Entry
entry_of f = record { txn = f.txn; op = op_of f.done; reply = reply_in f.done; role = Stands }

-- the numbers of the operations whose calls did something
abbrev pub numbers_did : List Noted → List ℕ → List ℕ
numbers_did [] ns = []
numbers_did (c ∷ cs) [] = []
numbers_did (c ∷ cs) (n ∷ ns) = cond (has_inverse c) (n ∷ numbers_did cs ns) (numbers_did cs ns)

-- of a transaction at work
abbrev pub numbers_of : Option Member → List ℕ
numbers_of None = []
numbers_of (Some m) = cond (is_at_work m.state) (numbers_did m.calls m.operations) []

-- ---- what the records say

-- What the records have of the ends of a transaction in a state: its effects, until its commit is recorded. Of one that
-- is being undone they have more than what is left.
abbrev pub HasEnds : Option TxnState → List Call → List Call → Type 0
HasEnds None ends mine = ends ≡ mine
HasEnds (Some Open) ends mine = ends ≡ mine
HasEnds (Some Committing) ends mine = ends ≡ []
HasEnds (Some (Returning first)) ends mine = ends ≡ mine
HasEnds (Some Aborting) ends mine = ⊤

-- Of a book with commits of these transactions after it, in their order, and of the others, which are at work: what
-- each has committed, what stands of each and did something, under its numbers, and what of each has ended.
pub record IsRecorded (book : List Committed) (ts : List ℕ) (ms : List Member) (standing : List Entry)
    (x : Recorded) : Type 0 where
  pub books : map calls_of x.books ≡ map effects_of (book ++ in_turn (session_in ms) ts standing)
  pub live : map entry_of x.live ≡ filter did (without_all ts standing)
  pub numbers : (t : ℕ) → map (λ (f : Finished). f.op) (its t x.live) ≡ numbers_of (member_of ms t)
  pub ends : (t : ℕ) → HasEnds (state_in ms t) (calls_of (its t x.ends)) (its_effects t standing)

-- The records name what is in the book since the area began, the commits under way and the transactions at work, and
-- have led to what these leave.
pub record AreRecordsOf {D : Type 0} (origin : Origin) (k : Core D) (records : List Record) : Type 0 where
  pub since : List Committed
  pub book : k.book.items ≡ origin.earlier ++ since
  pub recorded : IsRecorded since (txns_of k.commits.items) k.live.members k.live.standing (recorded_in records)
  pub calls : run origin.begun (calls_in records) ≡ runs (after origin.first k.book.items) k.live.standing

-- a restart over these records finds the base that they represent
abbrev pub Recovers : {D : Type 0} → Origin → Core D → List Record → Type 0
Recovers origin k records = IsRecoverable origin.relations origin.counters (pages (core_pool k))
    (area_size (core_log k)) origin.pages origin.begun records

-- The durable records name each commit that was booked since the area began. Of those under way they name each whose
-- record is one of them.
abbrev pub RecordsBook : {D : Type 0} → Origin → Core D → Type 0
RecordsBook origin k = length k.book.items + durable_count k.commits.items (length (durable (core_log k)))
    ≤ length origin.earlier + length (recorded_in (durable (core_log k))).books

-- A restart over each beginning of the records finds its base, if the area has 4 MiB at least: at most 64
-- transactions live, and such an area has room for the images of the pages that inverses change. The area began on
-- what the commits from before it lead to.
pub record IsRestartable {D : Type 0} (origin : Origin) (k : Core D) : Type 0 where
  pub beginnings : MIN_AREA_MIB * MIB_BYTES ≤ area_size (core_log k)
      → EachBeginning (Recovers origin k) (appended (core_log k))
  pub begun : origin.begun ≡ after origin.first origin.earlier
  pub records : AreRecordsOf origin k (appended (core_log k))
  pub booked : RecordsBook origin k
  pub few : length k.live.members ≤ MAX_LIVE

-- ---- what a step appends

-- what was durable is
abbrev pub Lasts : {D : Type 0} → Core D → Core D → Type 0
Lasts k n = (more : List Record) × (durable (core_log n) ≡ durable (core_log k) ++ more)

-- as many pages, and an area as large in which no durable record was lost
pub record SameArea {D : Type 0} (k n : Core D) : Type 0 where
  pub total : pages (core_pool n) ≡ pages (core_pool k)
  pub bytes : area_size (core_log n) ≡ area_size (core_log k)
  pub lasts : Lasts k n

-- after these records others say nothing of transactions, and the pages held stay
pub record IsQuiet (opening : PageBytes) (records more : List Record) : Type 0 where
  pub held : pages_held opening (records ++ more) ≡ pages_held opening records
  pub calls : calls_in more ≡ []
  pub outcome : (x : Recorded) → plus_records x more ≡ x

-- each beginning of what is appended is such
pub record AppendsQuietly (opening : PageBytes) (old new : List Record) : Type 0 where
  pub more : List Record
  pub is : new ≡ old ++ more
  pub quiet : EachBeginning (IsQuiet opening old) more

-- the end of an operation, on pages that it acted on
pub record AppendsEnd (origin : Origin) (total : ℕ) (old new : List Record) (s : OpScope) (reply : Reply) : Type 0 where
  pub is : new ≡ old ++ end_of s reply
  pub leads : LeadsOn origin.relations origin.counters total origin.pages old
      → LeadsOn origin.relations origin.counters total origin.pages new

-- a step of an operation appends its end if it is ready, and else nothing that says more
abbrev pub Appends : Origin → ℕ → List Record → List Record → OpScope → Result Stepped Refusal → Type 0
Appends origin total old new s (Ok (stepped.Ready first second)) = AppendsEnd origin total old new s first
Appends origin total old new s (Ok stepped.Went) = AppendsQuietly origin.pages old new
Appends origin total old new s (Ok (stepped.Wait holder)) = AppendsQuietly origin.pages old new
Appends origin total old new s (Ok (stepped.Again holder)) = AppendsQuietly origin.pages old new
Appends origin total old new s (Ok stepped.Flush) = AppendsQuietly origin.pages old new
Appends origin total old new s (Err why) = AppendsQuietly origin.pages old new

-- so of parts whose operation at a place makes a step, and of parts of which nothing is appended but what says
-- nothing more
pub record StepAppends {D : Type 0} (origin : Origin) (k n : Core D) (s : OpScope)
    (result : Result Stepped Refusal) : Type 0 where
  pub area : SameArea k n
  pub appends : Appends origin (pages (core_pool k)) (appended (core_log k)) (appended (core_log n)) s result

pub record QuietlyAppends {D : Type 0} (opening : PageBytes) (k n : Core D) : Type 0 where
  pub area : SameArea k n
  pub appends : AppendsQuietly opening (appended (core_log k)) (appended (core_log n))

-- ---- what an end leaves

-- the book and the commits under way are the same
pub record SameBook {D : Type 0} (k n : Core D) : Type 0 where
  pub book : n.book.items ≡ k.book.items
  pub commits : n.commits.items ≡ k.commits.items

-- an operation stands after all others, with this reply
pub record NotesEnd {D : Type 0} (k n : Core D) (r : OpScope) (reply : Reply) : Type 0 where
  pub same : SameBook k n
  pub standing : n.live.standing
      ≡ k.live.standing ++ record { txn = r.txn; op = r.op; reply = reply; role = Stands } ∷ []
  pub members : IsChanged k.live.members n.live.members r.txn (λ m. with_call m r.number (r.op, reply))
  pub count : length n.live.members ≡ length k.live.members

-- the last effect of a transaction stands no more
pub record NotesUndone {D : Type 0} (k n : Core D) (r : OpScope) : Type 0 where
  pub same : SameBook k n
  pub standing : n.live.standing ≡ cut_back r.txn k.live.standing
  pub members : IsChanged k.live.members n.live.members r.txn taken_back
  pub count : length n.live.members ≡ length k.live.members

-- the last effect of a transaction is taken back, and its inverse stands after all others, with this reply
pub record NotesBack {D : Type 0} (k n : Core D) (r : OpScope) (reply : Reply) : Type 0 where
  pub same : SameBook k n
  pub standing : n.live.standing
      ≡ mark_last r.txn k.live.standing ++ record { txn = r.txn; op = r.op; reply = reply; role = Back } ∷ []
  pub members : IsChanged k.live.members n.live.members r.txn (λ m. with_back m r.number (r.op, reply))
  pub count : length n.live.members ≡ length k.live.members

-- an inverse has ended, in a transaction of a state
abbrev pub NotesInverse : {D : Type 0} → Core D → Core D → OpScope → Reply → Option TxnState → Type 0
NotesInverse k n r reply None = NotesUndone k n r
NotesInverse k n r reply (Some Open) = NotesUndone k n r
NotesInverse k n r reply (Some Committing) = NotesUndone k n r
NotesInverse k n r reply (Some (Returning first)) = NotesBack k n r reply
NotesInverse k n r reply (Some Aborting) = NotesUndone k n r

-- parts that are consistent, and become so, stay restartable
abbrev pub StaysRestartable : {D : Type 0} → Ghosts D → Core D → Core D → Type 0
StaysRestartable g k n = (origin : Origin) (base later : Base) → IsConsistent g origin base k
    → IsConsistent g origin later n → IsRestartable origin k → IsRestartable origin n
