-- A base seen at one object at a time: an operation changes one cell at most, and but for a scan it reads no other.
use Rattle.std.proofs.Common.{◌≡◌, ℕ, pos, ◌==◌, ◌&&◌, Bool, true, false, cond, List, Option, None, bytes_eq, refl, ap, ◌∙◌}
use Rattle.std.proofs.lemmas.Bool.{and_parts, and_from}
use Rattle.std.proofs.lemmas.Bool.Decides.{Decides-eqb}
use Rattle.std.specs.Cmp.Lexicographic.{bytes_decides}
use mathlib.Core.HLevel.{is_prop→PathP}
use Rattle.mt_rows.specs.Listing.{Listing}
use Rattle.mt_rows.proofs.Listings.{listing_prop}
use Rattle.mt_model.specs.declared.counters.Count.{Count}
use Rattle.mt_model.specs.declared.operations.Op.{Op}
use Rattle.mt_model.specs.declared.operations.Op.TheVariants.{Get, Insert, Update, Delete, Add, Read, Scan}
use Rattle.mt_model.specs.declared.operations.Reply.{Reply}
use Rattle.mt_model.specs.declared.operations.Reply.TheVariants.{Missing, Done, Value, OutOfBounds}
use Rattle.mt_model.specs.Model.{Base, Object, Key, Counter, Relation, object_of, same_object, inserted, updated, deleted, stays, added, found, done_unless, was, reply_of, base_after}

-- what a base has at one object: a row or none, or a counter; at a relation as a whole, neither
pub record Cell : Type 0 where
  pub row : Option (List ℕ)
  pub count : Count

-- the counter of a key's cell
abbrev pub idle : Count
idle = record { low = pos 0; high = pos 0; number = pos 0 }

abbrev pub row_cell : Option (List ℕ) → Cell
row_cell row = record { row = row; count = idle }

abbrev pub count_cell : Count → Cell
count_cell n = record { row = None; count = n }

abbrev pub cell : Base → Object → Cell
cell b (Key r k) = row_cell (b.rows r k)
cell b (Counter c) = count_cell (b.counts c)
cell b (Relation r) = row_cell None

-- the cell after an operation on its object
abbrev pub next : Op → Cell → Cell
next (Get r k) c = c
next (Insert r k v) c = record { row = inserted v c.row; count = c.count }
next (Update r k v) c = record { row = updated v c.row; count = c.count }
next (Delete r k) c = record { row = deleted c.row; count = c.count }
next (Add n d) c = record { row = c.row; count = added d c.count }
next (Read n) c = c
next (Scan r) c = c

-- what an operation on its object replies; a scan's reply is of many cells, and this is none of its
abbrev pub says : Op → Cell → Reply
says (Get r k) c = found c.row
says (Insert r k v) c = done_unless c.row
says (Update r k v) c = was c.row
says (Delete r k) c = was c.row
says (Add n d) c = cond (stays c.count d) Done OutOfBounds
says (Read n) c = Value c.count.number
says (Scan r) c = Missing

abbrev pub is_scan : Op → Bool
is_scan (Scan r) = true
is_scan (Get r k) = false
is_scan (Insert r k v) = false
is_scan (Update r k v) = false
is_scan (Delete r k) = false
is_scan (Add n d) = false
is_scan (Read n) = false

-- the objects that an operation reads or changes: its own, and of a scan each key of its relation too
abbrev pub touches : Op → Object → Bool
touches (Scan r) (Key s l) = r == s
touches (Scan r) (Counter d) = false
touches (Scan r) (Relation s) = r == s
touches (Get r k) x = same_object (Key r k) x
touches (Insert r k v) x = same_object (Key r k) x
touches (Update r k v) x = same_object (Key r k) x
touches (Delete r k) x = same_object (Key r k) x
touches (Add n d) x = same_object (Counter n) x
touches (Read n) x = same_object (Counter n) x

-- ---- a base at a cell

pub reply-cell : (b : Base) (op : Op) → is_scan op ≡ false → reply_of b op ≡ says op (cell b (object_of op))
reply-cell b (Get r k) single = refl
reply-cell b (Insert r k v) single = refl
reply-cell b (Update r k v) single = refl
reply-cell b (Delete r k) single = refl
reply-cell b (Add c d) single = refl
reply-cell b (Read c) single = refl
reply-cell b (Scan r) single = absurd cc

-- a scan leaves the base as it is
pub scan_leaves : (b : Base) (op : Op) → is_scan op ≡ true → base_after b op ≡ b
scan_leaves b (Scan r) is = refl
scan_leaves b (Get r k) is = absurd cc
scan_leaves b (Insert r k v) is = absurd cc
scan_leaves b (Update r k v) is = absurd cc
scan_leaves b (Delete r k) is = absurd cc
scan_leaves b (Add c d) is = absurd cc
scan_leaves b (Read c) is = absurd cc

cond_out : {A B : Type 0} (f : A → B) (t : Bool) (x y : A) → f (cond t x y) ≡ cond t (f x) (f y)
cond_out f true x y = refl
cond_out f false x y = refl

cond_both : {A : Type 0} (t : Bool) (x : A) → x ≡ cond t x x
cond_both true x = refl
cond_both false x = refl

pub cell-next : (b : Base) (op : Op) (x : Object)
    → cell (base_after b op) x ≡ cond (touches op x) (next op (cell b x)) (cell b x)
cell-next b (Get r k) x = cond_both (same_object (Key r k) x) (cell b x)
cell-next b (Insert r k v) (Key s l) = cond_out row_cell ((r == s) && bytes_eq k l) (inserted v (b.rows s l)) (b.rows s l)
cell-next b (Insert r k v) (Counter d) = refl
cell-next b (Insert r k v) (Relation s) = refl
cell-next b (Update r k v) (Key s l) = cond_out row_cell ((r == s) && bytes_eq k l) (updated v (b.rows s l)) (b.rows s l)
cell-next b (Update r k v) (Counter d) = refl
cell-next b (Update r k v) (Relation s) = refl
cell-next b (Delete r k) (Key s l) = cond_out row_cell ((r == s) && bytes_eq k l) (deleted (b.rows s l)) (b.rows s l)
cell-next b (Delete r k) (Counter d) = refl
cell-next b (Delete r k) (Relation s) = refl
cell-next b (Add c d) (Key s l) = refl
cell-next b (Add c d) (Relation s) = refl
cell-next b (Add c d) (Counter e) = cond_out count_cell (c == e) (added d (b.counts e)) (b.counts e)
cell-next b (Read c) x = cond_both (same_object (Counter c) x) (cell b x)
cell-next b (Scan r) x = cond_both (touches (Scan r) x) (cell b x)

-- what is no scan touches its own object alone
pub touches-own : (op : Op) (x : Object) → is_scan op ≡ false → touches op x ≡ same_object (object_of op) x
touches-own (Get r k) x single = refl
touches-own (Insert r k v) x single = refl
touches-own (Update r k v) x single = refl
touches-own (Delete r k) x single = refl
touches-own (Add c d) x single = refl
touches-own (Read c) x single = refl
touches-own (Scan r) x single = absurd cc

pub cell-own : (b : Base) (op : Op) (x : Object) → is_scan op ≡ false
    → cell (base_after b op) x ≡ cond (same_object (object_of op) x) (next op (cell b x)) (cell b x)
cell-own b op x single = cell-next b op x ∙ ap (λ t. cond t (next op (cell b x)) (cell b x)) (touches-own op x single)

-- bases with the same rows and counters are the same, since the rows have one listing
pub base_equal : (a b : Base) → ((r : ℕ) (k : List ℕ) → a.rows r k ≡ b.rows r k) → ((c : ℕ) → a.counts c ≡ b.counts c) → a ≡ b
base_equal a b rows counts i = record {
  rows = λ r k. rows r k i;
  counts = λ c. counts c i;
  listing = is_prop→PathP (λ j. Listing (λ r k. rows r k j)) (λ j. listing_prop (λ r k. rows r k j)) a.listing b.listing i;
}

-- so are bases with the same cells
pub same_base : (a b : Base) → ((x : Object) → cell a x ≡ cell b x) → a ≡ b
same_base a b h = base_equal a b (λ r k i. (h (Key r k) i).row) (λ c i. (h (Counter c) i).count)

-- ---- the test of objects

pub same-true : (x y : Object) → same_object x y ≡ true → x ≡ y
same-true (Key r k) (Key s l) h =
    let p = and_parts (r == s) (bytes_eq k l) h in
    let relations : r ≡ s = (Decides-eqb r s).0 p.0 in
    let keys : k ≡ l = (bytes_decides k l).0 p.1 in
    cc
same-true (Key r k) (Counter d) h = absurd cc
same-true (Key r k) (Relation s) h = absurd cc
same-true (Counter c) (Key s l) h = absurd cc
same-true (Counter c) (Counter d) h = let counters : c ≡ d = (Decides-eqb c d).0 h in cc
same-true (Counter c) (Relation s) h = absurd cc
same-true (Relation r) (Key s l) h = absurd cc
same-true (Relation r) (Counter d) h = absurd cc
same-true (Relation r) (Relation s) h = let relations : r ≡ s = (Decides-eqb r s).0 h in cc

pub same-self : (x : Object) → same_object x x ≡ true
same-self (Key r k) = and_from (r == r) (bytes_eq k k) ((Decides-eqb r r).1 refl) ((bytes_decides k k).1 refl)
same-self (Counter c) = (Decides-eqb c c).1 refl
same-self (Relation r) = (Decides-eqb r r).1 refl
