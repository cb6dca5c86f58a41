-- The model: what an operation replies, and what base it leaves.
use Rattle.std.specs.Prelude.{ℕ, ℤ, ◌<◌, ◌+ℤ◌, ◌≤ℤ◌, ◌==◌, ◌&&◌, neg_ℤ, Bool, false, cond, List, [], ◌∷◌, ◌++◌, Option, Some, None, bytes_eq, int_le}
use Rattle.mt_base.specs.Limits.{IsKey, IsValue, IsStep}
use Rattle.mt_base.specs.declared.modes.LockMode.{LockMode}
use Rattle.mt_base.specs.declared.modes.LockMode.TheVariants as mode
pub use Rattle.mt_rows.specs.Rows.{inserted, updated, deleted}
use Rattle.mt_rows.specs.Listing.{Listing, of_relation}
use Rattle.mt_rows.proofs.Listings.{with_altered}
use Rattle.mt_model.specs.declared.counters.Count.{Count}
use Rattle.mt_model.specs.declared.objects.Asks.{Asks}
use Rattle.mt_model.specs.declared.objects.Lock.{Lock}
pub use Rattle.mt_model.specs.declared.objects.Object.{Object}
pub use Rattle.mt_model.specs.declared.objects.Object.TheVariants.{Key, Counter, Relation}
use Rattle.mt_model.specs.declared.operations.Op.{Op}
use Rattle.mt_model.specs.declared.operations.Op.TheVariants.{Get, Insert, Update, Delete, Add, Read, Scan}
use Rattle.mt_model.specs.declared.operations.Reply.{Reply}
use Rattle.mt_model.specs.declared.operations.Reply.TheVariants.{Found, Missing, Exists, Done, Was, Value, Rows, OutOfBounds}

-- the value under each key of each relation, and each counter; the rows in order, which the values say already
pub record Base : Type 0 where
  pub rows : ℕ → List ℕ → Option (List ℕ)
  pub counts : ℕ → Count
  pub listing : Listing rows

-- a counter lies in its bounds, ends included
pub record IsInBounds (n : Count) : Type 0 where
  pub not_under : n.low ≤ℤ n.number
  pub not_over : n.number ≤ℤ n.high

-- each counter does
abbrev pub IsBase : Base → Type 0
IsBase b = (c : ℕ) → IsInBounds (b.counts c)

-- an operation of a schema with so many relations and counters: what it names is there, and its key,
-- value and step lie within their limits
abbrev pub IsWithin : ℕ → ℕ → Op → Type 0
IsWithin relations counters (Get r k) = (r < relations) × IsKey k
IsWithin relations counters (Insert r k v) = (r < relations) × IsKey k × IsValue v
IsWithin relations counters (Update r k v) = (r < relations) × IsKey k × IsValue v
IsWithin relations counters (Delete r k) = (r < relations) × IsKey k
IsWithin relations counters (Add c d) = (c < counters) × IsStep d
IsWithin relations counters (Read c) = c < counters
IsWithin relations counters (Scan r) = r < relations

-- what an operation is on
abbrev pub object_of : Op → Object
object_of (Get r k) = Key r k
object_of (Insert r k v) = Key r k
object_of (Update r k v) = Key r k
object_of (Delete r k) = Key r k
object_of (Add c d) = Counter c
object_of (Read c) = Counter c
object_of (Scan r) = Relation r

abbrev pub same_object : Object → Object → Bool
same_object (Key r k) (Key s l) = (r == s) && bytes_eq k l
same_object (Key r k) (Counter d) = false
same_object (Key r k) (Relation s) = false
same_object (Counter c) (Key s l) = false
same_object (Counter c) (Counter d) = c == d
same_object (Counter c) (Relation s) = false
same_object (Relation r) (Key s l) = false
same_object (Relation r) (Counter d) = false
same_object (Relation r) (Relation s) = r == s

-- the mode in which an operation locks its object
abbrev pub mode_of : Op → LockMode
mode_of (Get r k) = mode.Read
mode_of (Insert r k v) = mode.Write
mode_of (Update r k v) = mode.Write
mode_of (Delete r k) = mode.Write
mode_of (Add c d) = mode.Add
mode_of (Read c) = mode.Read
mode_of (Scan r) = mode.Read

-- the relation in which it intends to write a row, if it does
abbrev pub intent_of : Op → Option ℕ
intent_of (Get r k) = None
intent_of (Insert r k v) = Some r
intent_of (Update r k v) = Some r
intent_of (Delete r k) = Some r
intent_of (Add c d) = None
intent_of (Read c) = None
intent_of (Scan r) = None

-- what its transaction asks for, all at once
abbrev pub asks_of : Op → Asks
asks_of op = record { intent = intent_of op; object = object_of op; mode = mode_of op }

abbrev pub intents : Option ℕ → List Lock
intents None = []
intents (Some r) = record { object = Relation r; mode = mode.Intend } ∷ []

-- the locks of what is asked for: of the relation, if there is an intent, and then of the object
abbrev pub locks_in : Asks → List Lock
locks_in a = intents a.intent ++ record { object = a.object; mode = a.mode } ∷ []

-- the locks of an operation
abbrev pub locks_of : Op → List Lock
locks_of op = locks_in (asks_of op)

-- ---- a counter, after an add

-- the counter with its number moved by a step, wherever that leads
abbrev pub moved : Count → ℤ → Count
moved n d = record { low = n.low; high = n.high; number = n.number +ℤ d }

-- whether a step leaves it in its bounds
abbrev pub stays : Count → ℤ → Bool
stays n d = int_le n.low (n.number +ℤ d) && int_le (n.number +ℤ d) n.high

abbrev pub added : ℤ → Count → Count
added d n = cond (stays n d) (moved n d) n

-- ---- one operation

-- the table of replies, by what is under the key
abbrev pub found : Option (List ℕ) → Reply
found None = Missing
found (Some v) = Found v

abbrev pub done_unless : Option (List ℕ) → Reply
done_unless None = Done
done_unless (Some v) = Exists

abbrev pub was : Option (List ℕ) → Reply
was None = Missing
was (Some v) = Was v

abbrev pub reply_of : Base → Op → Reply
reply_of b (Get r k) = found (b.rows r k)
reply_of b (Insert r k v) = done_unless (b.rows r k)
reply_of b (Update r k v) = was (b.rows r k)
reply_of b (Delete r k) = was (b.rows r k)
reply_of b (Add c d) = cond (stays (b.counts c) d) Done OutOfBounds
reply_of b (Read c) = Value (b.counts c).number
reply_of b (Scan r) = Rows (of_relation r b.listing.sorted)

-- the base with what is under one key altered
abbrev pub alter_row : Base → ℕ → List ℕ → (Option (List ℕ) → Option (List ℕ)) → Base
alter_row b r k f = record {
  rows = λ s l. cond ((r == s) && bytes_eq k l) (f (b.rows s l)) (b.rows s l);
  counts = b.counts;
  listing = with_altered b.rows r k f b.listing;
}

-- the base with one counter altered
abbrev pub alter_count : Base → ℕ → (Count → Count) → Base
alter_count b c f = record {
  rows = b.rows;
  counts = λ d. cond (c == d) (f (b.counts d)) (b.counts d);
  listing = b.listing;
}

abbrev pub base_after : Base → Op → Base
base_after b (Get r k) = b
base_after b (Insert r k v) = alter_row b r k (inserted v)
base_after b (Update r k v) = alter_row b r k (updated v)
base_after b (Delete r k) = alter_row b r k deleted
base_after b (Add c d) = alter_count b c (added d)
base_after b (Read c) = b
base_after b (Scan r) = b

-- both at once
abbrev pub act : Base → Op → Base × Reply
act b op = (base_after b op, reply_of b op)

-- the operation that takes back what one with this reply did, if it did anything
abbrev pub inverse_of : Op → Reply → Option Op
inverse_of (Insert r k v) Done = Some (Delete r k)
inverse_of (Update r k v) (Was old) = Some (Update r k old)
inverse_of (Delete r k) (Was old) = Some (Insert r k old)
inverse_of (Add c d) Done = Some (Add c (neg_ℤ d))
inverse_of _ _ = None
