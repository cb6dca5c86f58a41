-- Two operations in either order.
use Rattle.std.proofs.Common.{◌≡◌, ◌≢◌, ◌⊎◌, inl, inr, ℕ, ℤ, ◌==◌, ◌&&◌, Bool, true, false, cond, List, [], ◌∷◌, ◌++◌, Option, None, Some, bytes_eq, refl, ap, sym, ◌∙◌, subst}
use Rattle.std.specs.Prelude.{All}
use Rattle.std.proofs.lemmas.Bool.Decides.{Decides-eqb}
use Rattle.mt_rows.specs.declared.rows.Row.{Row}
use Rattle.mt_rows.specs.Rows.{value_at, inserted, updated, deleted}
use Rattle.mt_rows.specs.Listing.{of_relation}
use Rattle.mt_rows.proofs.Listings.{with_altered}
use Rattle.mt_rows.proofs.Relations.{relations_are, filter_ordered, filter_looks}
use Rattle.std.proofs.lemmas.List.Elements.{All-head, All-tail}
use Rattle.mt_base.specs.Modes.{granted_together}
use Rattle.mt_base.specs.declared.modes.LockMode.{LockMode}
use Rattle.mt_base.specs.declared.modes.LockMode.TheVariants as mode
use Rattle.mt_model.specs.declared.objects.Lock.{Lock}
use Rattle.mt_model.specs.declared.operations.Op.{Op}
use Rattle.mt_model.specs.declared.operations.Op.TheVariants.{Get, Insert, Update, Delete, Add, Read, Scan}
use Rattle.mt_model.specs.declared.operations.Reply.TheVariants.{Done, Rows, OutOfBounds}
use Rattle.mt_model.specs.Model.{Base, Object, Relation, object_of, same_object, mode_of, intent_of, intents, locks_of, moved, stays, reply_of, base_after}
use Rattle.mt_model.specs.Laws.{DoCommute, StaysIn, AreCompatible, AreFree}
use Rattle.mt_model.proofs.Cells.{Cell, cell, next, says, is_scan, reply-cell, cell-own, same-true, same-self, same_base}
use Rattle.mt_model.proofs.Steps.{moved-swap}

-- both orders are one at a cell
pub record CellCommute (c : Cell) (f g : Op) : Type 0 where
  pub first : says f c ≡ says f (next g c)
  pub second : says g c ≡ says g (next f c)
  pub cell : next g (next f c) ≡ next f (next g c)

-- neither leaves the bounds, in this order
pub record CellStays (c : Cell) (f g : Op) : Type 0 where
  pub first : says f c ≢ OutOfBounds
  pub second : says g (next f c) ≢ OutOfBounds

-- ---- modes

pub with_read : (m : LockMode) → granted_together mode.Read m ≡ true → m ≡ mode.Read
with_read mode.Read h = refl
with_read mode.Write h = absurd cc
with_read mode.Add h = absurd cc
with_read mode.Intend h = absurd cc

pub with_add : (m : LockMode) → granted_together mode.Add m ≡ true → m ≡ mode.Add
with_add mode.Add h = refl
with_add mode.Write h = absurd cc
with_add mode.Read h = absurd cc
with_add mode.Intend h = absurd cc

pub with_write : (m : LockMode) → granted_together mode.Write m ≡ true → ⊥
with_write mode.Add h = absurd cc
with_write mode.Write h = absurd cc
with_write mode.Read h = absurd cc
with_write mode.Intend h = absurd cc

-- no operation is on its object with intent
pub no_intent : (op : Op) → mode_of op ≡ mode.Intend → ⊥
no_intent (Get r k) is = absurd cc
no_intent (Read n) is = absurd cc
no_intent (Scan r) is = absurd cc
no_intent (Add n d) is = absurd cc
no_intent (Insert r k v) is = absurd cc
no_intent (Update r k v) is = absurd cc
no_intent (Delete r k) is = absurd cc

-- a read leaves the cell
pub read_leaves : (op : Op) (c : Cell) → mode_of op ≡ mode.Read → next op c ≡ c
read_leaves (Get r k) c is = refl
read_leaves (Read n) c is = refl
read_leaves (Scan r) c is = refl
read_leaves (Add n d) c is = absurd cc
read_leaves (Insert r k v) c is = absurd cc
read_leaves (Update r k v) c is = absurd cc
read_leaves (Delete r k) c is = absurd cc

-- ---- at one cell

not_out : (t : Bool) → cond t Done OutOfBounds ≢ OutOfBounds → t ≡ true
not_out true h = refl
not_out false h = absurd (h refl)

two_adds : (c : Cell) (m n : ℕ) (d e : ℤ) → CellStays c (Add m d) (Add n e) → CellStays c (Add n e) (Add m d) → CellCommute c (Add m d) (Add n e)
two_adds c m n d e there back =
    let a : stays c.count d ≡ true = not_out (stays c.count d) there.first in
    let b : stays c.count e ≡ true = not_out (stays c.count e) back.first in
    let x : stays (moved c.count d) e ≡ true = not_out (stays (moved c.count d) e)
    (subst (λ t. cond (stays (cond t (moved c.count d) c.count) e) Done OutOfBounds ≢ OutOfBounds) a there.second) in
    let y : stays (moved c.count e) d ≡ true = not_out (stays (moved c.count e) d)
    (subst (λ t. cond (stays (cond t (moved c.count e) c.count) d) Done OutOfBounds ≢ OutOfBounds) b back.second) in
    let s = moved-swap c.count d e in
    record {
      first = rw (a, b, y);
      second = rw (b, a, x);
      cell = rw (a, b, x, y) (λ i. record { row = c.row; count = s i });
    }

two_reads : (c : Cell) (f g : Op) → mode_of f ≡ mode.Read → mode_of g ≡ mode.Read → CellCommute c f g
two_reads c f g a b =
    let x : next f c ≡ c = read_leaves f c a in
    let y : next g c ≡ c = read_leaves g c b in
    record { first = rw y; second = rw x; cell = rw (x, y) (sym x) }

both_adds : (c : Cell) (f g : Op) → mode_of f ≡ mode.Add → mode_of g ≡ mode.Add → CellStays c f g → CellStays c g f → CellCommute c f g
both_adds c (Add m d) (Add n e) a b there back = two_adds c m n d e there back
both_adds c (Add m d) (Get r k) a b there back = absurd cc
both_adds c (Add m d) (Insert r k v) a b there back = absurd cc
both_adds c (Add m d) (Update r k v) a b there back = absurd cc
both_adds c (Add m d) (Delete r k) a b there back = absurd cc
both_adds c (Add m d) (Read n) a b there back = absurd cc
both_adds c (Add m d) (Scan r) a b there back = absurd cc
both_adds c (Get r k) g a b there back = absurd cc
both_adds c (Insert r k v) g a b there back = absurd cc
both_adds c (Update r k v) g a b there back = absurd cc
both_adds c (Delete r k) g a b there back = absurd cc
both_adds c (Read n) g a b there back = absurd cc
both_adds c (Scan r) g a b there back = absurd cc

pub cell_commute : (c : Cell) (f g : Op) → granted_together (mode_of f) (mode_of g) ≡ true → CellStays c f g → CellStays c g f → CellCommute c f g
cell_commute c f g granted there back = by_mode (mode_of f) refl
  where
    by_mode : (m : LockMode) → mode_of f ≡ m → CellCommute c f g
    by_mode mode.Read is = two_reads c f g is (with_read (mode_of g) (rw is at granted))
    by_mode mode.Add is = both_adds c f g is (with_add (mode_of g) (rw is at granted)) there back
    by_mode mode.Write is = absurd (with_write (mode_of g) (rw is at granted))
    by_mode mode.Intend is = absurd (no_intent f is)

-- ---- over bases

choice_order : (s t : Bool) (f g : Op) (c : Cell) → (s ≡ true → t ≡ true → next g (next f c) ≡ next f (next g c))
    → cond t (next g (cond s (next f c) c)) (cond s (next f c) c) ≡ cond s (next f (cond t (next g c) c)) (cond t (next g c) c)
choice_order true true f g c h = h refl refl
choice_order true false f g c h = refl
choice_order false true f g c h = refl
choice_order false false f g c h = refl

choice_says : (t : Bool) (f g : Op) (c : Cell) → (t ≡ true → says f c ≡ says f (next g c)) → says f c ≡ says f (cond t (next g c) c)
choice_says true f g c h = h refl
choice_says false f g c h = refl

cell-two : (b : Base) (f g : Op) (x : Object) → is_scan f ≡ false → is_scan g ≡ false → cell (base_after (base_after b f) g) x
    ≡ cond (same_object (object_of g) x) (next g (cond (same_object (object_of f) x) (next f (cell b x)) (cell b x))) (cond (same_object (object_of f) x) (next f (cell b x)) (cell b x))
cell-two b f g x nf ng = cell-own (base_after b f) g x ng ∙ ap (λ c. cond (same_object (object_of g) x) (next g c) c) (cell-own b f x nf)

reply-after : (b : Base) (f g : Op) → is_scan f ≡ false → is_scan g ≡ false → reply_of (base_after b g) f ≡ says f (cond (same_object (object_of g) (object_of f)) (next g (cell b (object_of f))) (cell b (object_of f)))
reply-after b f g nf ng = reply-cell (base_after b g) f nf ∙ ap (says f) (cell-own b g (object_of f) ng)

-- from what holds at their object, where they have the same one
from_cell : (b : Base) (f g : Op) → is_scan f ≡ false → is_scan g ≡ false → (object_of f ≡ object_of g → CellCommute (cell b (object_of f)) f g) → DoCommute b f g
from_cell b f g nf ng h = record {
  first = reply-cell b f nf ∙ (choice_says (same_object (object_of g) (object_of f)) f g (cell b (object_of f))
      (λ t. (h (sym (same-true (object_of g) (object_of f) t))).first) ∙ sym (reply-after b f g nf ng));
  second = reply-cell b g ng ∙ (choice_says (same_object (object_of f) (object_of g)) g f (cell b (object_of g))
      (λ t. let e = same-true (object_of f) (object_of g) t in subst (λ y. says g (cell b y) ≡ says g (next f (cell b y))) e (h e).second) ∙ sym (reply-after b g f ng nf));
  base = same_base (base_after (base_after b f) g) (base_after (base_after b g) f) (λ x.
      cell-two b f g x nf ng ∙ (choice_order (same_object (object_of f) x) (same_object (object_of g) x) f g (cell b x)
      (λ s t. let e = same-true (object_of f) x s in let k = same-true (object_of g) x t in
      subst (λ y. next g (next f (cell b y)) ≡ next f (next g (cell b y))) e (h (e ∙ sym k)).cell)
      ∙ sym (cell-two b g f x ng nf)));
}

taken : {A : Type 0} (t : Bool) (x y : A) → t ≡ true → cond t x y ≡ x
taken true x y h = refl
taken false x y h = absurd cc

cell_stays : (b : Base) (f g : Op) → is_scan f ≡ false → is_scan g ≡ false → object_of f ≡ object_of g → StaysIn b f g → CellStays (cell b (object_of f)) f g
cell_stays b f g nf ng e h =
    let t : same_object (object_of f) (object_of g) ≡ true = subst (λ y. same_object (object_of f) y ≡ true) e (same-self (object_of f)) in
    let r : reply_of (base_after b f) g ≡ says g (next f (cell b (object_of f))) =
    reply-after b g f ng nf ∙ (ap (says g) (taken (same_object (object_of f) (object_of g)) (next f (cell b (object_of g))) (cell b (object_of g)) t)
    ∙ ap (λ y. says g (next f (cell b y))) (sym e)) in
    record {
      first = λ o. h.first (reply-cell b f nf ∙ o);
      second = λ o. h.second (r ∙ o);
    }

-- the lock of what an operation is on is one of its locks
object_lock : (P : Lock → Type 0) (op : Op) → All P (locks_of op) → P (record { object = object_of op; mode = mode_of op })
object_lock P op each = go (intent_of op) each
  where
    own : Lock
    own = record { object = object_of op; mode = mode_of op }

    go : (intent : Option ℕ) → All P (intents intent ++ own ∷ []) → P own
    go None h = All-head P own [] h
    go (Some r) h = All-head P own [] (All-tail P (record { object = Relation r; mode = mode.Intend }) (own ∷ []) h)

-- and so is that of the relation in which it intends to write
intent_lock : (P : Lock → Type 0) (op : Op) (s : ℕ) → intent_of op ≡ Some s → All P (locks_of op) → P (record { object = Relation s; mode = mode.Intend })
intent_lock P op s is each = go (intent_of op) is each
  where
    own : Lock
    own = record { object = object_of op; mode = mode_of op }

    go : (intent : Option ℕ) → intent ≡ Some s → All P (intents intent ++ own ∷ []) → P (record { object = Relation s; mode = mode.Intend })
    go None e h = absurd cc
    go (Some r) e h =
        let same : r ≡ s = cc in
        subst (λ q. P (record { object = Relation q; mode = mode.Intend })) same
        (All-head P (record { object = Relation r; mode = mode.Intend }) (own ∷ []) h)

-- ---- a scan beside another operation

relation_stays : (b : Base) (r s : ℕ) (k : List ℕ) (f : Option (List ℕ) → Option (List ℕ)) → r ≢ s
    → of_relation r b.listing.sorted ≡ of_relation r (with_altered b.rows s k f b.listing).sorted
relation_stays b r s k f apart =
    let l = with_altered b.rows s k f b.listing in
    relations_are b.rows b.listing r (of_relation r l.sorted) (filter_ordered (λ (x : Row). x.relation == r) l.sorted l.rising)
    (λ q j. filter_looks r l.sorted q j ∙ go q j (q == r) refl (l.complete q j))
  where
    go : (q : ℕ) (j : List ℕ) (t : Bool) → (q == r) ≡ t
        → value_at (with_altered b.rows s k f b.listing).sorted q j ≡ cond ((s == q) && bytes_eq k j) (f (b.rows q j)) (b.rows q j)
        → cond t (value_at (with_altered b.rows s k f b.listing).sorted q j) None ≡ cond t (b.rows q j) None
    go q j false is looks = refl
    go q j true is looks =
        let own : q ≡ r = (Decides-eqb q r).0 is in
        looks ∙ ap (λ t. cond (t && bytes_eq k j) (f (b.rows q j)) (b.rows q j)) (other (s == q) refl own)
      where
        other : (t : Bool) → (s == q) ≡ t → q ≡ r → t ≡ false
        other false at own = refl
        other true at own = absurd (apart (sym own ∙ sym ((Decides-eqb s q).0 at)))

-- what writes in no row of its relation leaves its reply
scan_stays : (b : Base) (r : ℕ) (g : Op) → ((s : ℕ) → intent_of g ≡ Some s → r ≢ s) → reply_of b (Scan r) ≡ reply_of (base_after b g) (Scan r)
scan_stays b r (Get s k) apart = refl
scan_stays b r (Insert s k v) apart = ap Rows (relation_stays b r s k (inserted v) (apart s refl))
scan_stays b r (Update s k v) apart = ap Rows (relation_stays b r s k (updated v) (apart s refl))
scan_stays b r (Delete s k) apart = ap Rows (relation_stays b r s k deleted (apart s refl))
scan_stays b r (Add c d) apart = refl
scan_stays b r (Read c) apart = refl
scan_stays b r (Scan s) apart = refl

-- two locks of relations, for read and with intent
relations_apart : (l m : Lock) → AreCompatible l m → granted_together l.mode m.mode ≡ false → (r s : ℕ) → l.object ≡ Relation r → m.object ≡ Relation s → r ≢ s
relations_apart l m (inl apart) bars r s at be same = apart (at ∙ (ap Relation same ∙ sym be))
relations_apart l m (inr granted) bars r s at be same = let e : granted_together l.mode m.mode ≡ true = granted in absurd cc

abbrev read_of : ℕ → Lock
read_of r = record { object = Relation r; mode = mode.Read }

abbrev intent_in : ℕ → Lock
intent_in s = record { object = Relation s; mode = mode.Intend }

scan_before : (b : Base) (f g : Op) → is_scan f ≡ true → AreFree f g → DoCommute b f g
scan_before b (Scan r) g is free = record {
  first = scan_stays b r g (λ s intends.
      relations_apart (read_of r) (intent_in s)
      (intent_lock (AreCompatible (read_of r)) g s intends (object_lock (λ l. All (AreCompatible l) (locks_of g)) (Scan r) free)) refl r s refl refl);
  second = refl;
  base = refl;
}
scan_before b (Get r k) g is free = absurd cc
scan_before b (Insert r k v) g is free = absurd cc
scan_before b (Update r k v) g is free = absurd cc
scan_before b (Delete r k) g is free = absurd cc
scan_before b (Add c d) g is free = absurd cc
scan_before b (Read c) g is free = absurd cc

scan_after : (b : Base) (f g : Op) → is_scan g ≡ true → AreFree f g → DoCommute b f g
scan_after b f (Scan r) is free = record {
  first = refl;
  second = scan_stays b r f (λ s intends same.
      relations_apart (intent_in s) (read_of r)
      (object_lock (AreCompatible (intent_in s)) (Scan r) (intent_lock (λ l. All (AreCompatible l) (locks_of (Scan r))) f s intends free)) refl s r refl refl (sym same));
  base = refl;
}
scan_after b f (Get r k) is free = absurd cc
scan_after b f (Insert r k v) is free = absurd cc
scan_after b f (Update r k v) is free = absurd cc
scan_after b f (Delete r k) is free = absurd cc
scan_after b f (Add c d) is free = absurd cc
scan_after b f (Read c) is free = absurd cc

pub free_commute : (b : Base) (f g : Op) → AreFree f g → StaysIn b f g → StaysIn b g f → DoCommute b f g
free_commute b f g free there back = by (is_scan f) refl (is_scan g) refl
  where
    own : is_scan f ≡ false → is_scan g ≡ false → (object_of f ≢ object_of g) ⊎ (granted_together (mode_of f) (mode_of g) ≡ true) → DoCommute b f g
    own nf ng (inl apart) = from_cell b f g nf ng (λ e. absurd (apart e))
    own nf ng (inr granted) = from_cell b f g nf ng (λ e.
        cell_commute (cell b (object_of f)) f g granted (cell_stays b f g nf ng e there)
        (subst (λ y. CellStays (cell b y) g f) (sym e) (cell_stays b g f ng nf (sym e) back)))

    by : (s : Bool) → is_scan f ≡ s → (t : Bool) → is_scan g ≡ t → DoCommute b f g
    by true scans t is = scan_before b f g scans free
    by false nf true scans = scan_after b f g scans free
    by false nf false ng = own nf ng
        (object_lock (AreCompatible (record { object = object_of f; mode = mode_of f })) g (object_lock (λ l. All (AreCompatible l) (locks_of g)) f free))
