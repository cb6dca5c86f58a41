-- A run in which each event takes place.
use Rattle.std.specs.Prelude.{pos, negsuc, ◌≡◌, List, [], ◌∷◌, None}
use Rattle.mt_rows.proofs.Listings.{listed}
use Rattle.mt_model.specs.declared.operations.Op.{Op}
use Rattle.mt_model.specs.declared.operations.Op.TheVariants.{Insert, Add}
use Rattle.mt_model.specs.declared.operations.Reply.TheVariants.{Done}
use Rattle.mt_model.specs.declared.counters.Count.{Count}
use Rattle.mt_model.specs.declared.pending_add.Pending.{Pending}
use Rattle.mt_model.specs.Model.{Base, IsBase}
use Rattle.mt_live.specs.declared.transactions.Role.TheVariants.{Stands}
use Rattle.mt_live.specs.Entries.{Entry}
use Rattle.mt_live.specs.Machine.{State, begun, called, ended, dropped, gone, booked, undone, returned, settled, AllGo, last_state, start}

-- no rows, and counters from 0 to 10 that stand at 5
abbrev pub five : Count
five = record { low = pos 0; high = pos 10; number = pos 5 }

abbrev pub opening : Base
opening = record { rows = λ r k. None; counts = λ c. five; listing = listed [] }

abbrev pub insert : Op
insert = Insert 0 (1 ∷ []) (2 ∷ [])

abbrev pub first_add : Pending
first_add = record { txn = 2; counter = 0; step = pos 2 }

abbrev pub last_add : Entry
last_add = record { txn = 3; op = Add 0 (pos 3); reply = Done; role = Stands }

-- two transactions begin. The first inserts a row; the second adds 2, and its next add is taken back
-- unfinished. The first commits; the second undoes its add and leaves. A third adds 3, goes back to its begin, and
-- commits
abbrev pub states : List State
states =
    let a : State = begun (start opening) 7 in
    let b : State = begun a 8 in
    let c : State = called b 1 insert in
    let d : State = called c 2 (Add 0 (pos 2)) in
    let e : State = ended d 2 (Add 0 (pos 2)) in
    let f : State = ended e 1 insert in
    let g : State = called f 2 (Add 0 (pos 1)) in
    let h : State = dropped g 2 (first_add ∷ []) in
    let i : State = booked h 1 7 in
    let j : State = undone i 2 (Add 0 (negsuc 1)) [] in
    let k : State = gone j 2 in
    let l : State = begun k 9 in
    let m : State = called l 3 (Add 0 (pos 3)) in
    let n : State = ended m 3 (Add 0 (pos 3)) in
    let o : State = returned n 3 last_add (Add 0 (negsuc 2)) [] in
    let p : State = settled o 3 0 in
    let q : State = booked p 3 9 in
    a ∷ b ∷ c ∷ d ∷ e ∷ f ∷ g ∷ h ∷ i ∷ j ∷ k ∷ l ∷ m ∷ n ∷ o ∷ p ∷ q ∷ []

abbrev pub last : State
last = last_state (start opening) states

-- the run meets each event's conditions. At its end the book has the insert, and the third transaction's add with its
-- inverse; nothing stands or is set aside, no transaction lives, and the counter is at 5 again
abbrev pub RunTakesPlace : Type 0
RunTakesPlace =
    IsBase opening × AllGo opening (start opening) states
    × (last.book
    ≡ record { session = 7; calls = (insert, Done) ∷ [] }
    ∷ record { session = 9; calls = (Add 0 (pos 3), Done) ∷ (Add 0 (negsuc 2), Done) ∷ [] } ∷ [])
    × (last.standing ≡ []) × (last.aside ≡ [])
    × (last.sessions 1 ≡ None) × (last.sessions 2 ≡ None) × (last.sessions 3 ≡ None)
    × ((last.base.counts 0).number ≡ pos 5)
