-- Entries on one object.
use Rattle.std.proofs.Common.{◌≡◌, ℕ, ℤ, ◌+ℤ◌, Bool, true, false, cond, List, [], ◌∷◌, refl, ap, sym, ◌∙◌, subst, arith, filter}
use Rattle.std.proofs.lemmas.Int.{ints}
use Rattle.mt_base.specs.declared.modes.LockMode.TheVariants as mode
use Rattle.mt_model.specs.declared.counters.Count.{Count}
use Rattle.mt_model.specs.declared.operations.Op.{Op}
use Rattle.mt_model.specs.declared.operations.Op.TheVariants.{Get, Insert, Update, Delete, Add, Read, Scan}
use Rattle.mt_model.specs.declared.operations.Reply.{Reply}
use Rattle.mt_model.specs.declared.operations.Reply.TheVariants.{Done, OutOfBounds}
use Rattle.mt_model.specs.Model.{IsInBounds, stays, moved, mode_of}
use Rattle.mt_model.specs.Escrow.{total}
use Rattle.mt_model.proofs.Cells.{Cell, next}
use Rattle.mt_model.proofs.Split.{Fits}
use Rattle.mt_model.specs.declared.objects.Object.{Object}
use Rattle.mt_model.proofs.Steps.{stays_true, moved-moved, moved_none}
use Rattle.mt_model.proofs.Commuting.{read_leaves}
use Rattle.mt_live.specs.Entries.{Entry, kept}
use Rattle.mt_live.specs.Sound.{Each, IsDone}
use Rattle.mt_live.proofs.Ballots.{Stays}
use Rattle.mt_live.proofs.Entries.{cell_runs, AreCellActed}
use Rattle.mt_live.proofs.Shapes.{each_filter, AllAgree, Shape, Owned, Reads, Adds, shape}

abbrev pub with_step : Op → List ℤ → List ℤ
with_step (Add n d) ds = d ∷ ds
with_step (Get r k) ds = ds
with_step (Insert r k v) ds = ds
with_step (Update r k v) ds = ds
with_step (Delete r k) ds = ds
with_step (Read c) ds = ds
with_step (Scan r) ds = ds

abbrev pub steps : List Entry → List ℤ
steps [] = []
steps (e ∷ es) = with_step e.op (steps es)

abbrev pub moved_cell : Cell → ℤ → Cell
moved_cell c z = record { row = c.row; count = moved c.count z }

-- ---- adds

pub stays_first : (n : Count) (ds : List ℤ) → Stays n ds → IsInBounds n
stays_first n [] h = h
stays_first n (d ∷ ds) h = h.0

add_step : (o : Object) (op : Op) (r : Reply) (c : Cell) (es : List Entry) → mode_of op ≡ mode.Add → r ≡ Done → Stays c.count (with_step op (steps es))
    → ((x : Cell) → Stays x.count (steps es) → AreCellActed o x es) → Fits op r o c × AreCellActed o (next op c) es
add_step o (Add n d) r c es is done room rec =
    let t : stays c.count d ≡ true = stays_true c.count d (stays_first (moved c.count d) (steps es) room.1) in
    let z : AreCellActed o (moved_cell c d) es = rec (moved_cell c d) room.1 in
    (rw (t, done) refl, rw t z)
add_step o (Get r k) _ c es is done room rec = absurd cc
add_step o (Insert r k v) _ c es is done room rec = absurd cc
add_step o (Update r k v) _ c es is done room rec = absurd cc
add_step o (Delete r k) _ c es is done room rec = absurd cc
add_step o (Read n) _ c es is done room rec = absurd cc
add_step o (Scan r) _ c es is done room rec = absurd cc

pub adds_acted : (o : Object) (c : Cell) (es : List Entry) → Each (λ e. mode_of e.op ≡ mode.Add) es → Each IsDone es → Stays c.count (steps es) → AreCellActed o c es
adds_acted o c [] a d h = tt
adds_acted o c (e ∷ es) a d h = add_step o e.op e.reply c es a.0 (d.0 a.0) h (λ x room. adds_acted o x es a.1 d.1 room)

cond_done : (t : Bool) → cond t Done OutOfBounds ≡ Done → t ≡ true
cond_done true h = refl
cond_done false h = absurd cc

pub moved_cell-moved : (c : Cell) (y z : ℤ) → moved_cell (moved_cell c y) z ≡ moved_cell c (y +ℤ z)
moved_cell-moved c y z =
    let e : (c.count.number +ℤ y) +ℤ z ≡ c.count.number +ℤ (y +ℤ z) = omega (arith, ints) in
    ap (λ (w : ℤ). record_of c w) e
  where
    record_of : Cell → ℤ → Cell
    record_of x w = record { row = x.row; count = record { low = x.count.low; high = x.count.high; number = w } }

count_step : (o : Object) (op : Op) (r : Reply) (c : Cell) (z : ℤ) (ds : List ℤ) → z ≡ total ds → Fits op r o c → (mode_of op ≡ mode.Add → r ≡ Done)
    → moved (next op c).count z ≡ moved c.count (total (with_step op ds))
count_step o (Add n d) r c z ds e s done =
    let t : stays c.count d ≡ true = cond_done (stays c.count d) (s ∙ done refl) in
    rw (t, e) (moved-moved c.count d (total ds))
count_step o (Get r k) _ c z ds e s done = rw e
count_step o (Insert r k v) _ c z ds e s done = rw e
count_step o (Update r k v) _ c z ds e s done = rw e
count_step o (Delete r k) _ c z ds e s done = rw e
count_step o (Read n) _ c z ds e s done = rw e
count_step o (Scan r) _ c z ds e s done = rw e

-- the counter after a run is moved by the sum of its steps
pub count_run : (o : Object) (c : Cell) (es : List Entry) → AreCellActed o c es → Each IsDone es → (cell_runs c es).count ≡ moved c.count (total (steps es))
count_run o c [] a d = moved_none c.count
count_run o c (e ∷ es) a d =
    count_run o (next e.op c) es a.1 d.1 ∙ count_step o e.op e.reply c (total (steps es)) (steps es) refl a.0 d.0

pub add_keeps_row : (op : Op) (c : Cell) → mode_of op ≡ mode.Add → (next op c).row ≡ c.row
add_keeps_row (Add n d) c a = refl
add_keeps_row (Get r k) c a = absurd cc
add_keeps_row (Insert r k v) c a = absurd cc
add_keeps_row (Update r k v) c a = absurd cc
add_keeps_row (Delete r k) c a = absurd cc
add_keeps_row (Read n) c a = absurd cc
add_keeps_row (Scan r) c a = absurd cc

pub adds_row : (c : Cell) (es : List Entry) → Each (λ e. mode_of e.op ≡ mode.Add) es → (cell_runs c es).row ≡ c.row
adds_row c [] a = refl
adds_row c (e ∷ es) a = adds_row (next e.op c) es a.1 ∙ add_keeps_row e.op c a.0

pub adds_run : (o : Object) (c : Cell) (es : List Entry) → Each (λ e. mode_of e.op ≡ mode.Add) es → AreCellActed o c es → Each IsDone es → cell_runs c es ≡ moved_cell c (total (steps es))
adds_run o c es a ac d = let p = adds_row c es a in let q = count_run o c es ac d in λ i. record { row = p i; count = q i }

-- ---- reads

pub reads_run : (c : Cell) (es : List Entry) → Each (λ e. mode_of e.op ≡ mode.Read) es → cell_runs c es ≡ c
reads_run c [] r = refl
reads_run c (e ∷ es) r = reads_run (next e.op c) es r.1 ∙ read_leaves e.op c r.0

cond_cons_acted : (t : Bool) (o : Object) (e : Entry) (es : List Entry) (c : Cell) → Fits e.op e.reply o c → next e.op c ≡ c → AreCellActed o c es → AreCellActed o c (cond t (e ∷ es) es)
cond_cons_acted true o e es c s n a = (s, subst (λ x. AreCellActed o x es) (sym n) a)
cond_cons_acted false o e es c s n a = a

pub reads_acted : (p : Entry → Bool) (o : Object) (c : Cell) (es : List Entry) → Each (λ e. mode_of e.op ≡ mode.Read) es → AreCellActed o c es → AreCellActed o c (filter p es)
reads_acted p o c [] r a = tt
reads_acted p o c (e ∷ es) r a =
    cond_cons_acted (p e) o e (filter p es) c a.0 (read_leaves e.op c r.0)
    (reads_acted p o c es r.1 (subst (λ x. AreCellActed o x es) (read_leaves e.op c r.0) a.1))

-- ---- one owner

pub owned_kept : (p : ℕ → Bool) (es : List Entry) (u : ℕ) → Each (λ e. e.txn ≡ u) es → (b : Bool) → p u ≡ b → kept p es ≡ cond b es []
owned_kept p [] u h true t = refl
owned_kept p [] u h false t = refl
owned_kept p (e ∷ es) u h true t =
    let q : p e.txn ≡ true = ap p h.0 ∙ t in
    rw q (ap (λ w. e ∷ w) (owned_kept p es u h.1 true t))
owned_kept p (e ∷ es) u h false t =
    let q : p e.txn ≡ false = ap p h.0 ∙ t in
    rw q (owned_kept p es u h.1 false t)

-- ---- whichever transactions are struck out

pub strikes : (o : Object) (c : Cell) (es : List Entry) → AllAgree es → Each IsDone es → ((p : ℕ → Bool) → Stays c.count (steps (kept p es))) → AreCellActed o c es → (p : ℕ → Bool) → AreCellActed o c (kept p es)
strikes o c es ag d room a p = go (shape es ag)
  where
    whole : (u : ℕ) → Each (λ e. e.txn ≡ u) es → (b : Bool) → p u ≡ b → AreCellActed o c (kept p es)
    whole u h true t = subst (AreCellActed o c) (sym (owned_kept p es u h true t)) a
    whole u h false t = subst (AreCellActed o c) (sym (owned_kept p es u h false t)) tt

    go : Shape es → AreCellActed o c (kept p es)
    go (Owned u h) = whole u h (p u) refl
    go (Reads h) = reads_acted (λ e. p e.txn) o c es h a
    go (Adds h) = adds_acted o c (kept p es) (each_filter _ (λ e. p e.txn) es h) (each_filter _ (λ e. p e.txn) es d) (room p)
