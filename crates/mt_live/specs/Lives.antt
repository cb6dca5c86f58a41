-- The live transactions as contracts see them.
use Rattle.std.specs.Prelude.{ℕ, zero, suc, ◌≡◌, ◌≢◌, ◌<◌, ◌≤◌, ◌+◌, ◌==◌, Bool, false, cond, List, [], ◌∷◌, ◌++◌, Option, Some, None, All, AllPairs, filter, map, take, drop, length, is_some, slice_index_or}
use Rattle.std.specs.List.{sum_by}
use Rattle.std.specs.Option.{option_map}
use Rattle.mt_live.specs.declared.places.Place.{Place}
use Rattle.mt_live.specs.Entries.{Entry}
use Rattle.mt_live.specs.Members.{Member, Noted}
use Rattle.mt_live.specs.Machine.{put}

-- how many have begun; those that are live; and what stands of their operations, in the order of their
-- ends
pub record Lives : Type 0 where
  pub begun : ℕ
  pub members : List Member
  pub standing : List Entry

-- ---- the transaction of a number

abbrev pub member_of : List Member → ℕ → Option Member
member_of [] t = None
member_of (m ∷ ms) t = cond (m.number == t) (Some m) (member_of ms t)

-- this is its place in the list
pub record IsFirst (ms : List Member) (t i : ℕ) : Type 0 where
  pub within : i < length ms
  pub own : (d : Member) → (slice_index_or ms i d).number ≡ t
  pub before : (k : ℕ) (d : Member) → k < i → (slice_index_or ms k d).number ≢ t

abbrev pub is_member : List Member → ℕ → Bool
is_member ms t = is_some (member_of ms t)

abbrev pub has_room : Option Member → Bool
has_room None = false
has_room (Some m) = m.has_room

-- The transaction of a number: the number is one of those that have begun, from 1; there are as many operations as
-- calls, and their numbers rise.
pub record IsNumbered (begun t : ℕ) (m : Member) : Type 0 where
  pub number : m.number ≡ t
  pub from_one : 1 ≤ t
  pub has_begun : t ≤ begun
  pub operations : length m.operations ≡ length m.calls
  pub rising : AllPairs (λ (a b : ℕ). a < b) m.operations

abbrev pub AreNumbered : ℕ → List Member → Type 0
AreNumbered begun ms = (t : ℕ) (m : Member) → member_of ms t ≡ Some m → IsNumbered begun t m

-- an operation's number is above those of the operations that stand
abbrev pub IsAbove : ℕ → Option Member → Type 0
IsAbove operation None = Unit {0}
IsAbove operation (Some m) = All (λ (o : ℕ). o < operation) m.operations

-- one transaction is changed, and no other
abbrev pub IsChanged : List Member → List Member → ℕ → (Member → Member) → Type 0
IsChanged old new t f = (u : ℕ) → member_of new u ≡ put (member_of old) t (option_map f (member_of old t)) u

-- ---- the standing list, from each transaction's calls and the order in which they ended

abbrev pub calls_in : Option Member → List Noted
calls_in None = []
calls_in (Some m) = m.calls

abbrev pub calls_of : List Member → ℕ → List Noted
calls_of ms t = calls_in (member_of ms t)

abbrev pub entry_by : ℕ → Noted → Entry
entry_by t c = record { txn = t; op = c.op; reply = c.reply; role = c.role }

-- the call of this number of the transaction
abbrev pub entries_at : (ℕ → List Noted) → Place → List Entry
entries_at calls o = map (entry_by o.txn) (take 1 (drop o.index (calls o.txn)))

abbrev pub standing_by : (ℕ → List Noted) → List Place → List Entry
standing_by calls [] = []
standing_by calls (o ∷ os) = entries_at calls o ++ standing_by calls os

-- ---- what is kept of them

-- the numbers of one transaction's calls, in the order of ends
abbrev pub numbers : ℕ → List Place → List ℕ
numbers t os = map (λ (o : Place). o.index) (filter (λ (o : Place). o.txn == t) os)

-- so many numbers from one on
abbrev pub count_from : ℕ → ℕ → List ℕ
count_from n zero = []
count_from n (suc k) = n ∷ count_from (suc n) k

-- transaction numbers rise, from past one to at most another
abbrev pub AreRising : ℕ → List Member → ℕ → Type 0
AreRising low [] high = low ≤ high
AreRising low (m ∷ ms) high = (low < m.number) × AreRising m.number ms high

-- they rise, whatever their bounds
abbrev pub AreInOrder : List Member → Type 0
AreInOrder ms = (high : ℕ) × AreRising 0 ms high

abbrev pub rooms : Member → ℕ
rooms m = cond m.has_room 1 0

-- transaction numbers rise up to the last begun, and so do each transaction's operations; its calls ended in their
-- order; and the list of ends has a place for each transaction that has room
pub record IsWell (begun : ℕ) (ms : List Member) (os : List Place) (used capacity : ℕ) : Type 0 where
  pub rising : AreRising 0 ms begun
  pub numbered : All (λ (m : Member). IsNumbered begun m.number m) ms
  pub placed : (t : ℕ) → numbers t os ≡ count_from 0 (length (calls_of ms t))
  pub room : used + sum_by rooms ms ≤ capacity
