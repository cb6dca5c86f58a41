-- A run over many objects is a run over each of them.
use Rattle.std.specs.Bool.{⊤}
use Rattle.std.proofs.Common.{◌≡◌, ℕ, ◌==◌, Bool, true, false, cond, List, [], ◌∷◌, Option, None, filter, refl, ap, sym, ◌∙◌, subst}
use Rattle.std.proofs.lemmas.Bool.Decides.{Decides-eqb}
use Rattle.mt_rows.specs.declared.rows.Row.{Row}
use Rattle.mt_rows.specs.Rows.{IsOrdered, value_at}
use Rattle.mt_rows.specs.Listing.{of_relation}
use Rattle.mt_rows.proofs.Relations.{relations_are, filter_ordered, filter_looks}
use Rattle.mt_model.specs.declared.operations.Op.{Op}
use Rattle.mt_model.specs.declared.operations.Op.TheVariants.{Get, Insert, Update, Delete, Add, Read, Scan}
use Rattle.mt_model.specs.declared.operations.Reply.{Reply}
use Rattle.mt_model.specs.declared.operations.Reply.TheVariants.{Found, Missing, Exists, Done, Was, Value, Rows, OutOfBounds}
use Rattle.mt_model.specs.Model.{Base, Object, Key, Counter, Relation, object_of, reply_of, base_after}
use Rattle.mt_model.specs.History.{Call, run, IsActed}
use Rattle.mt_model.proofs.Cells.{Cell, cell, next, says, is_scan, touches, touches-own, reply-cell, cell-next, same-true, same-self}

-- the calls that touch one object
abbrev pub on : Object → List Call → List Call
on x cs = filter (λ c. touches c.0 x) cs

-- the reply of a scan has this under a key
abbrev pub HasRow : Reply → ℕ → List ℕ → Option (List ℕ) → Type 0
HasRow (Rows xs) r k row = value_at xs r k ≡ row
HasRow _ r k row = ⊥

-- and it is of rows in order, of this relation alone
abbrev pub IsOfRelation : Reply → ℕ → Type 0
IsOfRelation (Rows xs) r = IsOrdered xs × ((s : ℕ) (k : List ℕ) → (s == r) ≡ false → value_at xs s k ≡ None)
IsOfRelation _ r = ⊥

-- what a scan's reply has to say at an object that it touches, and what any operation's has
abbrev pub ScanFits : Reply → Object → Cell → Type 0
ScanFits y (Key s l) c = HasRow y s l c.row
ScanFits y (Counter d) c = ⊤
ScanFits y (Relation s) c = IsOfRelation y s

abbrev pub Fits : Op → Reply → Object → Cell → Type 0
Fits (Scan r) y x c = ScanFits y x c
Fits (Get r k) y x c = says (Get r k) c ≡ y
Fits (Insert r k v) y x c = says (Insert r k v) c ≡ y
Fits (Update r k v) y x c = says (Update r k v) c ≡ y
Fits (Delete r k) y x c = says (Delete r k) c ≡ y
Fits (Add n d) y x c = says (Add n d) c ≡ y
Fits (Read n) y x c = says (Read n) c ≡ y

pub fits_said : (op : Op) (y : Reply) (x : Object) (c : Cell) → is_scan op ≡ false → says op c ≡ y → Fits op y x c
fits_said (Get r k) y x c single h = h
fits_said (Insert r k v) y x c single h = h
fits_said (Update r k v) y x c single h = h
fits_said (Delete r k) y x c single h = h
fits_said (Add n d) y x c single h = h
fits_said (Read n) y x c single h = h
fits_said (Scan r) y x c single h = absurd cc

pub said_fits : (op : Op) (y : Reply) (x : Object) (c : Cell) → is_scan op ≡ false → Fits op y x c → says op c ≡ y
said_fits (Get r k) y x c single h = h
said_fits (Insert r k v) y x c single h = h
said_fits (Update r k v) y x c single h = h
said_fits (Delete r k) y x c single h = h
said_fits (Add n d) y x c single h = h
said_fits (Read n) y x c single h = h
said_fits (Scan r) y x c single h = absurd cc

-- the cell that calls leave
abbrev pub cell_run : Cell → List Call → Cell
cell_run c [] = c
cell_run c (e ∷ es) = cell_run (next e.0 c) es

-- each call has a reply that fits at the object's cell
abbrev pub CellActed : Object → Cell → List Call → Type 0
CellActed x c [] = ⊤
CellActed x c (e ∷ es) = Fits e.0 e.1 x c × CellActed x (next e.0 c) es

run_choice : (t : Bool) (e : Call) (es : List Call) (c : Cell) → cell_run (cond t (next e.0 c) c) es ≡ cell_run c (cond t (e ∷ es) es)
run_choice true e es c = refl
run_choice false e es c = refl

pub run-on : (b : Base) (es : List Call) (x : Object) → cell (run b es) x ≡ cell_run (cell b x) (on x es)
run-on b [] x = refl
run-on b (e ∷ es) x =
    run-on (base_after b e.0) es x
    ∙ (ap (λ c. cell_run c (on x es)) (cell-next b e.0 x)
    ∙ run_choice (touches e.0 x) e (on x es) (cell b x))

-- ---- a scan, at the objects that it touches

turned_test : (r s : ℕ) → (r == s) ≡ true → s ≡ r
turned_test r s t = sym ((Decides-eqb r s).0 t)

scan_row : (b : Base) (r s : ℕ) (l : List ℕ) → (r == s) ≡ true → value_at (of_relation r b.listing.sorted) s l ≡ b.rows s l
scan_row b r s l t =
    filter_looks r b.listing.sorted s l
    ∙ (ap (λ q. cond q (value_at b.listing.sorted s l) None) ((Decides-eqb s r).1 (turned_test r s t))
    ∙ b.listing.complete s l)

scan_relation : (b : Base) (r s : ℕ) → (r == s) ≡ true → IsOfRelation (Rows (of_relation r b.listing.sorted)) s
scan_relation b r s t = (
  filter_ordered (λ (x : Row). x.relation == r) b.listing.sorted b.listing.rising,
  λ q k other. filter_looks r b.listing.sorted q k
      ∙ ap (λ u. cond u (value_at b.listing.sorted q k) None) (ap (λ z. q == z) (sym (turned_test r s t)) ∙ other),
)

fits_on : (b : Base) (op : Op) (y : Reply) (x : Object) → touches op x ≡ true → reply_of b op ≡ y → Fits op y x (cell b x)
fits_on b op y x t is = by (is_scan op) refl
  where
    scan : (f : Op) → is_scan f ≡ true → (z : Object) → touches f z ≡ true → reply_of b f ≡ y → Fits f y z (cell b z)
    scan (Scan r) s (Key q l) at said = subst (λ w. HasRow w q l (b.rows q l)) said (scan_row b r q l at)
    scan (Scan r) s (Counter d) at said = tt
    scan (Scan r) s (Relation q) at said = subst (λ w. IsOfRelation w q) said (scan_relation b r q at)
    scan (Get r k) s z at said = absurd cc
    scan (Insert r k v) s z at said = absurd cc
    scan (Update r k v) s z at said = absurd cc
    scan (Delete r k) s z at said = absurd cc
    scan (Add n d) s z at said = absurd cc
    scan (Read n) s z at said = absurd cc

    by : (t : Bool) → is_scan op ≡ t → Fits op y x (cell b x)
    by true scans = scan op scans x t is
    by false single =
        let own : object_of op ≡ x = same-true (object_of op) x (sym (touches-own op x single) ∙ t) in
        fits_said op y x (cell b x) single (subst (λ z. says op (cell b z) ≡ y) own (sym (reply-cell b op single) ∙ is))

-- what fits at each object that an operation touches is its reply
reply_from : (b : Base) (op : Op) (y : Reply) → ((x : Object) → touches op x ≡ true → Fits op y x (cell b x)) → reply_of b op ≡ y
reply_from b op y each = by (is_scan op) refl
  where
    self : (r : ℕ) → (r == r) ≡ true
    self r = (Decides-eqb r r).1 refl

    looks : (r : ℕ) (xs : List Row) → ((s : ℕ) (k : List ℕ) → (s == r) ≡ false → value_at xs s k ≡ None) → ((k : List ℕ) → value_at xs r k ≡ b.rows r k)
        → (s : ℕ) (k : List ℕ) (t : Bool) → (s == r) ≡ t → value_at xs s k ≡ cond t (b.rows s k) None
    looks r xs others here s k true at = let own : s ≡ r = (Decides-eqb s r).0 at in subst (λ q. value_at xs q k ≡ b.rows q k) (sym own) (here k)
    looks r xs others here s k false at = others s k at

    arranged : (r : ℕ) (z : Reply) → IsOfRelation z r → ((k : List ℕ) → HasRow z r k (b.rows r k)) → Rows (of_relation r b.listing.sorted) ≡ z
    arranged r (Rows xs) o h = ap Rows (relations_are b.rows b.listing r xs o.0 (λ s k. looks r xs o.1 h s k (s == r) refl))
    arranged r (Found v) o h = absurd o
    arranged r (Missing) o h = absurd o
    arranged r (Exists) o h = absurd o
    arranged r (Done) o h = absurd o
    arranged r (Was v) o h = absurd o
    arranged r (Value n) o h = absurd o
    arranged r (OutOfBounds) o h = absurd o

    scan : (f : Op) → is_scan f ≡ true → ((x : Object) → touches f x ≡ true → Fits f y x (cell b x)) → reply_of b f ≡ y
    scan (Scan r) s h = arranged r y (h (Relation r) (self r)) (λ k. h (Key r k) (self r))
    scan (Get r k) s h = absurd cc
    scan (Insert r k v) s h = absurd cc
    scan (Update r k v) s h = absurd cc
    scan (Delete r k) s h = absurd cc
    scan (Add n d) s h = absurd cc
    scan (Read n) s h = absurd cc

    by : (t : Bool) → is_scan op ≡ t → reply_of b op ≡ y
    by true scans = scan op scans each
    by false single =
        let x : Object = object_of op in
        reply-cell b op single ∙ said_fits op y x (cell b x) single (each x (touches-own op x single ∙ same-self x))

-- ---- over calls

acted_choice : (t : Bool) (x : Object) (e : Call) (es : List Call) (c : Cell) → (t ≡ true → Fits e.0 e.1 x c)
    → CellActed x (cond t (next e.0 c) c) es → CellActed x c (cond t (e ∷ es) es)
acted_choice true x e es c first rest = (first refl, rest)
acted_choice false x e es c first rest = rest

pub acted-on : (b : Base) (es : List Call) (x : Object) → IsActed b es → CellActed x (cell b x) (on x es)
acted-on b [] x acted = tt
acted-on b (e ∷ es) x acted =
    acted_choice (touches e.0 x) x e (on x es) (cell b x)
    (λ touched. fits_on b e.0 e.1 x touched acted.0)
    (subst (λ c. CellActed x c (on x es)) (cell-next b e.0 x) (acted-on (base_after b e.0) es x acted.1))

acted_rest : (t : Bool) (x : Object) (e : Call) (es : List Call) (c : Cell) → CellActed x c (cond t (e ∷ es) es) → CellActed x (cond t (next e.0 c) c) es
acted_rest true x e es c acted = acted.1
acted_rest false x e es c acted = acted

acted_first : (t : Bool) (x : Object) (e : Call) (es : List Call) (c : Cell) → t ≡ true → CellActed x c (cond t (e ∷ es) es) → Fits e.0 e.1 x c
acted_first true x e es c is acted = acted.0
acted_first false x e es c is acted = absurd cc

pub acted_from_each : (b : Base) (es : List Call) → ((x : Object) → CellActed x (cell b x) (on x es)) → IsActed b es
acted_from_each b [] each = tt
acted_from_each b (e ∷ es) each = (
  reply_from b e.0 e.1 (λ x touched. acted_first (touches e.0 x) x e (on x es) (cell b x) touched (each x)),
  acted_from_each (base_after b e.0) es (λ y.
      subst (λ c. CellActed y c (on y es)) (sym (cell-next b e.0 y))
      (acted_rest (touches e.0 y) y e (on y es) (cell b y) (each y))),
)

-- ---- filters in either order

filter_choice : {A : Type 0} (q : A → Bool) (s : Bool) (e : A) (es : List A)
    → filter q (cond s (e ∷ es) es) ≡ cond s (cond (q e) (e ∷ filter q es) (filter q es)) (filter q es)
filter_choice q true e es = refl
filter_choice q false e es = refl

choices_swap : {A : Type 0} (s t : Bool) (e : A) (xs : List A)
    → cond s (cond t (e ∷ xs) xs) xs ≡ cond t (cond s (e ∷ xs) xs) xs
choices_swap true true e xs = refl
choices_swap true false e xs = refl
choices_swap false true e xs = refl
choices_swap false false e xs = refl

pub filter-swap : {A : Type 0} (p q : A → Bool) (es : List A) → filter p (filter q es) ≡ filter q (filter p es)
filter-swap p q [] = refl
filter-swap p q (e ∷ es) =
    filter_choice p (q e) e (filter q es)
    ∙ (ap (λ w. cond (q e) (cond (p e) (e ∷ w) w) w) (filter-swap p q es)
    ∙ (choices_swap (q e) (p e) e (filter q (filter p es))
    ∙ sym (filter_choice q (p e) e (filter p es))))
