-- What the records of a log's area say of operations and transactions, without any page.
use Rattle.std.specs.Prelude.{◌==◌, ◌||◌, if◌then◌else◌, not, Bool, ℕ, neg_ℤ, List, [], ◌∷◌, ◌++◌, filter, map}
use Rattle.mt_frame.specs.declared.records.LoggedOp.{LoggedOp}
use Rattle.mt_frame.specs.declared.records.LoggedOp.TheVariants as logged
use Rattle.mt_frame.specs.declared.records.Record.{Record}
use Rattle.mt_frame.specs.declared.records.Record.TheVariants.{Page, OpEnd, OpDropped, Commit, AbortEnd}
use Rattle.mt_model.specs.declared.operations.Op.{Op}
use Rattle.mt_model.specs.declared.operations.Op.TheVariants.{Insert, Update, Delete, Add}
use Rattle.mt_model.specs.declared.operations.Reply.{Reply}
use Rattle.mt_model.specs.declared.operations.Reply.TheVariants.{Done, Was}
use Rattle.mt_model.specs.History.{Call, run}
use Rattle.mt_model.specs.Model.{Base}

-- ---- an operation that has ended

-- the operation, and the reply that its record implies
abbrev pub op_of : LoggedOp → Op
op_of (logged.Insert r k v) = Insert r k v
op_of (logged.Update r k v old) = Update r k v
op_of (logged.Delete r k old) = Delete r k
op_of (logged.Add c d) = Add c d

abbrev pub reply_in : LoggedOp → Reply
reply_in (logged.Insert r k v) = Done
reply_in (logged.Update r k v old) = Was old
reply_in (logged.Delete r k old) = Was old
reply_in (logged.Add c d) = Done

abbrev pub call_of : LoggedOp → Call
call_of done = (op_of done, reply_in done)

-- the operation that takes it back, and its reply if it finds what the record says
abbrev pub undo_of : LoggedOp → Op
undo_of (logged.Insert r k v) = Delete r k
undo_of (logged.Update r k v old) = Update r k old
undo_of (logged.Delete r k old) = Insert r k old
undo_of (logged.Add c d) = Add c (neg_ℤ d)

abbrev pub reply_back : LoggedOp → Reply
reply_back (logged.Insert r k v) = Was v
reply_back (logged.Update r k v old) = Was v
reply_back (logged.Delete r k old) = Done
reply_back (logged.Add c d) = Done

-- ---- each end acts, whoever's it is

-- the calls that have ended, inverses among them, in the order of their ends
abbrev pub call_in : Record → List Call
call_in (Page txn op page image start old new) = []
call_in (OpEnd txn op undoes done) = call_of done ∷ []
call_in (OpDropped txn op) = []
call_in (Commit txn) = []
call_in (AbortEnd txn) = []

abbrev pub calls_in : List Record → List Call
calls_in [] = []
calls_in (r ∷ rs) = call_in r ++ calls_in rs

-- ---- what has committed, and what is left to undo

-- a finished operation, under its number
pub record Finished : Type 0 where
  pub txn : ℕ
  pub op : ℕ
  pub done : LoggedOp

abbrev pub calls_of : List Finished → List Call
calls_of fs = map (λ (f : Finished). call_of f.done) fs

-- Of transactions that have not ended: the operations that stand, which are no inverses and which no finished inverse
-- names, and all that have ended, inverses among them, each in the order of ends. Of each that has committed, all.
pub record Recorded : Type 0 where
  pub live : List Finished
  pub ends : List Finished
  pub books : List (List Finished)

abbrev pub nothing : Recorded
nothing = record { live = []; ends = []; books = [] }

abbrev pub its : ℕ → List Finished → List Finished
its t fs = filter (λ (f : Finished). f.txn == t) fs

abbrev pub others : ℕ → List Finished → List Finished
others t fs = filter (λ (f : Finished). not (f.txn == t)) fs

abbrev pub is_but : ℕ → ℕ → Finished → Bool
is_but t o f = not (f.txn == t) || not (f.op == o)

abbrev pub without : ℕ → ℕ → List Finished → List Finished
without t o fs = filter (is_but t o) fs

-- what is live once an operation has ended, which is no inverse, or is one of this operation
abbrev pub live_after : List Finished → ℕ → Finished → List Finished
live_after live undoes f = if undoes == 0 then live ++ f ∷ [] else without f.txn undoes live

-- what a record adds: an end of its own, an inverse, a commit, the end of an abort
abbrev pub plus_record : Recorded → Record → Recorded
plus_record s (Page txn op page image start old new) = s
plus_record s (OpEnd txn op undoes done) = record {
  live = live_after s.live undoes (record { txn = txn; op = op; done = done });
  ends = s.ends ++ record { txn = txn; op = op; done = done } ∷ [];
  books = s.books;
}
plus_record s (OpDropped txn op) = s
plus_record s (Commit txn) =
    record { live = others txn s.live; ends = others txn s.ends; books = s.books ++ its txn s.ends ∷ [] }
plus_record s (AbortEnd txn) = record { live = others txn s.live; ends = others txn s.ends; books = s.books }

abbrev pub plus_records : Recorded → List Record → Recorded
plus_records s [] = s
plus_records s (r ∷ rs) = plus_records (plus_record s r) rs

abbrev pub recorded_in : List Record → Recorded
recorded_in rs = plus_records nothing rs

-- the losers: what stands of transactions that have not ended
abbrev pub losers : List Record → List Finished
losers rs = (recorded_in rs).live

abbrev pub run_all : Base → List (List Finished) → Base
run_all b [] = b
run_all b (fs ∷ rest) = run_all (run b (calls_of fs)) rest

-- the base that the records represent: what has committed, one transaction after the other
abbrev pub stands_for : Base → List Record → Base
stands_for b rs = run_all b (recorded_in rs).books
