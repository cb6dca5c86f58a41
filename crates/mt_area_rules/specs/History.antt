-- Which records may stand where in a log area: rules over all that stands before.
use Rattle.std.specs.Prelude.{◌≡◌, ℕ, List, [], ◌∷◌, ◌++◌, Bool, true, false, not, is_some, ◌||◌, ◌&&◌, ◌==◌, if◌then◌else◌}
use Rattle.mt_frame.specs.Grammar.{txn_of}
use Rattle.mt_frame.specs.declared.records.Record.{Record}
use Rattle.mt_frame.specs.declared.records.Record.TheVariants.{Page, OpEnd, OpDropped, Commit, AbortEnd}

-- ---- what one record is

-- the transaction's Commit or AbortEnd
abbrev pub ends_txn : ℕ → Record → Bool
ends_txn t (Page txn op page image start old new) = false
ends_txn t (OpEnd txn op undoes done) = false
ends_txn t (OpDropped txn op) = false
ends_txn t (Commit txn) = txn == t
ends_txn t (AbortEnd txn) = txn == t

-- the OpEnd or OpDropped of the operation of this number, whichever transaction it names
abbrev pub ends_op : ℕ → Record → Bool
ends_op o (Page txn op page image start old new) = false
ends_op o (OpEnd txn op undoes done) = op == o
ends_op o (OpDropped txn op) = op == o
ends_op o (Commit txn) = false
ends_op o (AbortEnd txn) = false

-- the end of this operation, which is no inverse
abbrev pub finishes : ℕ → ℕ → Record → Bool
finishes t o (Page txn op page image start old new) = false
finishes t o (OpEnd txn op undoes done) = (txn == t) && ((op == o) && (undoes == 0))
finishes t o (OpDropped txn op) = false
finishes t o (Commit txn) = false
finishes t o (AbortEnd txn) = false

-- the end of an inverse of this operation; an operation that is no inverse undoes none
abbrev pub undoes_op : ℕ → ℕ → Record → Bool
undoes_op t o (Page txn op page image start old new) = false
undoes_op t o (OpEnd txn op undoes done) = (txn == t) && ((undoes == o) && not (undoes == 0))
undoes_op t o (OpDropped txn op) = false
undoes_op t o (Commit txn) = false
undoes_op t o (AbortEnd txn) = false

-- a record of this page
abbrev pub is_of_page : ℕ → Record → Bool
is_of_page p (Page txn op page image start old new) = page == p
is_of_page p (OpEnd txn op undoes done) = false
is_of_page p (OpDropped txn op) = false
is_of_page p (Commit txn) = false
is_of_page p (AbortEnd txn) = false

-- one of the records is so
abbrev pub some_record : (Record → Bool) → List Record → Bool
some_record is [] = false
some_record is (r ∷ rs) = is r || some_record is rs

-- ---- the rules, each of a record and those before it

-- no record of a transaction stands after its end
abbrev pub txn_is_open : List Record → Record → Bool
txn_is_open earlier r = not (some_record (ends_txn (txn_of r)) earlier)

-- no page record of an operation stands after its end
abbrev pub op_is_open : List Record → Record → Bool
op_is_open earlier (Page txn op page image start old new) = not (some_record (ends_op op) earlier)
op_is_open earlier (OpEnd txn op undoes done) = true
op_is_open earlier (OpDropped txn op) = true
op_is_open earlier (Commit txn) = true
op_is_open earlier (AbortEnd txn) = true

-- an inverse names a finished operation of its transaction that is no inverse and has none yet
abbrev pub inverse_is_due : List Record → Record → Bool
inverse_is_due earlier (Page txn op page image start old new) = true
inverse_is_due earlier (OpEnd txn op undoes done) =
    (undoes == 0) || (some_record (finishes txn undoes) earlier && not (some_record (undoes_op txn undoes) earlier))
inverse_is_due earlier (OpDropped txn op) = true
inverse_is_due earlier (Commit txn) = true
inverse_is_due earlier (AbortEnd txn) = true

-- the first record of a page has its image, and no later one has
abbrev pub image_is_first : List Record → Record → Bool
image_is_first earlier (Page txn op page image start old new) =
    if is_some image then not (some_record (is_of_page page) earlier) else some_record (is_of_page page) earlier
image_is_first earlier (OpEnd txn op undoes done) = true
image_is_first earlier (OpDropped txn op) = true
image_is_first earlier (Commit txn) = true
image_is_first earlier (AbortEnd txn) = true

-- the area's first batch has the images that a rotation wrote, and nothing else; no later batch has one
abbrev pub is_in_its_batch : Bool → Record → Bool
is_in_its_batch first r = if first then txn_of r == 0 else not (txn_of r == 0)

abbrev pub may_stand : Bool → List Record → Record → Bool
may_stand first earlier r =
    is_in_its_batch first r && (txn_is_open earlier r &&
    (op_is_open earlier r && (inverse_is_due earlier r && image_is_first earlier r)))

-- ---- whole batches and areas

-- each record of a batch may stand after those before it
abbrev pub MayFollow : Bool → List Record → List Record → Type 0
MayFollow first earlier [] = Unit {0}
MayFollow first earlier (r ∷ rs) = (may_stand first earlier r ≡ true) × MayFollow first (earlier ++ r ∷ []) rs

-- so of each batch after the first
abbrev pub BatchesMayFollow : List Record → List (List Record) → Type 0
BatchesMayFollow earlier [] = Unit {0}
BatchesMayFollow earlier (b ∷ bs) = MayFollow false earlier b × BatchesMayFollow (earlier ++ b) bs

-- the batches of an area break no rule: there is a first one, of images alone, in which a page stands at most once
-- since its image is its first record
abbrev pub IsHistory : List (List Record) → Type 0
IsHistory [] = ⊥
IsHistory (b ∷ bs) = MayFollow true [] b × BatchesMayFollow b bs
