-- A transaction's inverses take back its entries from the last one on, so what they took back nets to nothing.
use Rattle.std.proofs.Common.{◌≡◌, ℕ, ℤ, pos, neg_ℤ, ◌+ℤ◌, Bool, true, false, cond, ◌==◌, List, [], ◌∷◌, ◌++◌, Option, Some, None, is_some, refl, ap, sym, ◌∙◌, subst, arith}
use Rattle.std.specs.Option.{option_map}
use Rattle.std.proofs.lemmas.Int.{ints}
use Rattle.mt_base.specs.declared.modes.LockMode.TheVariants as mode
use Rattle.mt_model.specs.declared.objects.Object.{Object}
use Rattle.mt_model.specs.declared.operations.Op.{Op}
use Rattle.mt_model.specs.declared.operations.Op.TheVariants.{Get, Insert, Update, Delete, Add, Read, Scan}
use Rattle.mt_model.specs.declared.operations.Reply.{Reply}
use Rattle.mt_model.specs.declared.operations.Reply.TheVariants.{Done, Was}
use Rattle.mt_model.specs.declared.objects.Asks.{Asks}
use Rattle.mt_model.specs.Model.{IsInBounds, inverse_of, mode_of, same_object}
use Rattle.mt_model.proofs.Cells.{Cell, row_cell, next, touches, touches-own, says, idle}
use Rattle.mt_model.proofs.Split.{Fits}
use Rattle.mt_model.proofs.Undo.{effectless, takes_back, inverse_asks, undone_no_scan, inverse_no_scan}
use Rattle.mt_live.specs.declared.transactions.Role.{Role}
use Rattle.mt_live.specs.declared.transactions.Role.TheVariants.{Stands, TakenBack, Back}
use Rattle.mt_live.specs.Adds.{op_step}
use Rattle.mt_live.specs.Entries.{Entry, with_role}
use Rattle.mt_live.specs.Sound.{Each, IsDone}
use Rattle.mt_live.specs.Taking.{up_by, down_by, Turns, did_something, Nests}
use Rattle.mt_live.proofs.Ballots.{below_neg, above_neg, up_sum, down_sum}
use Rattle.mt_live.proofs.Entries.{on, cell_runs, AreCellActed}

-- none of these stands and did something
abbrev pub NoneStands : List Entry → Type 0
NoneStands es = Each (λ (e : Entry). e.role ≡ Stands → inverse_of e.op e.reply ≡ None) es

-- ---- one turn

pub turns_map : (P Q : List Entry → Type 0) → ((left : List Entry) → P left → Q left) → (r : Role) (b : Bool) (e : Entry) (due : List Entry) → Turns r b e due P → Turns r b e due Q
turns_map P Q f Stands true e due h = (h.0, f [] h.1)
turns_map P Q f Stands false e due h = f due h
turns_map P Q f TakenBack true e due h = f (e ∷ due) h
turns_map P Q f TakenBack false e due h = f due h
turns_map P Q f Back b e [] h = absurd h
turns_map P Q f Back b e (d ∷ due) h = (h.0, f due h.1)

turns_out : {A : Type 0} (P : List Entry → Type 0) → ((left : List Entry) → P left → A) → (r : Role) (b : Bool) (e : Entry) (due : List Entry) → Turns r b e due P → A
turns_out P f Stands true e due h = f [] h.1
turns_out P f Stands false e due h = f due h
turns_out P f TakenBack true e due h = f (e ∷ due) h
turns_out P f TakenBack false e due h = f due h
turns_out P f Back b e [] h = absurd h
turns_out P f Back b e (d ∷ due) h = f due h.1

-- ---- an operation ends

stands_last : (r : Role) (b : Bool) (e : Entry) (due : List Entry) → r ≡ Stands → due ≡ [] → Turns r b e due (λ left. left ≡ [])
stands_last r b e due is none = subst (λ q. Turns q b e due (λ left. left ≡ [])) (sym is) (go b)
  where
    go : (t : Bool) → Turns Stands t e due (λ left. left ≡ [])
    go true = (none, refl)
    go false = none

pub nests_more : (es : List Entry) (e : Entry) (due : List Entry) → e.role ≡ Stands → Nests es due → Nests (es ++ e ∷ []) due
nests_more [] e due is h = stands_last e.role (did_something e) e due is h
nests_more (f ∷ es) e due is h =
    turns_map (Nests es) (Nests (es ++ e ∷ [])) (λ left k. nests_more es e left is k) f.role (did_something f) f due h

-- ---- an entry that stands, and what is before and behind it

stands_here : (P : List Entry → Type 0) (r : Role) (b : Bool) (e : Entry) (due : List Entry) → r ≡ Stands → b ≡ true → Turns r b e due P → (due ≡ []) × P []
stands_here P r b e due is did h = subst (λ t. Turns Stands t e due P) did (subst (λ q. Turns q b e due P) is h)

did_true : (e : Entry) (i : Op) → inverse_of e.op e.reply ≡ Some i → did_something e ≡ true
did_true e i h = ap is_some h

pub nests_front : (front : List Entry) (e : Entry) (rest due : List Entry) → e.role ≡ Stands → did_something e ≡ true → Nests (front ++ e ∷ rest) due → Nests front due
nests_front [] e rest due is did h = (stands_here (Nests rest) e.role (did_something e) e due is did h).0
nests_front (f ∷ front) e rest due is did h =
    turns_map (Nests (front ++ e ∷ rest)) (Nests front) (λ left k. nests_front front e rest left is did k) f.role (did_something f) f due h

pub nests_rest : (front : List Entry) (e : Entry) (rest due : List Entry) → e.role ≡ Stands → did_something e ≡ true → Nests (front ++ e ∷ rest) due → Nests rest []
nests_rest [] e rest due is did h = (stands_here (Nests rest) e.role (did_something e) e due is did h).1
nests_rest (f ∷ front) e rest due is did h =
    turns_out (Nests (front ++ e ∷ rest)) (λ left k. nests_rest front e rest left is did k) f.role (did_something f) f due h

-- ---- it is taken back

closes_last : (r : Role) (t : Bool) (e b : Entry) → r ≡ Back → inverse_of e.op e.reply ≡ Some b.op → Turns r t b (e ∷ []) (λ left. left ≡ [])
closes_last r t e b is inverse = subst (λ q. Turns q t b (e ∷ []) (λ left. left ≡ [])) (sym is) (inverse, refl)

-- those behind it stand among those that are due before it
beside : (P Q : List Entry → Type 0) (e : Entry) → ((left : List Entry) → P left → Q (left ++ e ∷ [])) → (r : Role) (b : Bool) (f : Entry) (due : List Entry)
    → (r ≡ Stands → b ≡ false) → Turns r b f due P → Turns r b f (due ++ e ∷ []) Q
beside P Q e k Stands true f due none h = let x : true ≡ false = none refl in absurd cc
beside P Q e k Stands false f due none h = k due h
beside P Q e k TakenBack true f due none h = k (f ∷ due) h
beside P Q e k TakenBack false f due none h = k due h
beside P Q e k Back b f [] none h = absurd h
beside P Q e k Back b f (d ∷ due) none h = (h.0, k due h.1)

idle_did : (f : Entry) → (f.role ≡ Stands → inverse_of f.op f.reply ≡ None) → f.role ≡ Stands → did_something f ≡ false
idle_did f none is = ap is_some (none is)

closes : (rest : List Entry) (e b : Entry) (due : List Entry) → NoneStands rest → b.role ≡ Back → inverse_of e.op e.reply ≡ Some b.op → Nests rest due → Nests (rest ++ b ∷ []) (due ++ e ∷ [])
closes [] e b due none is inverse h = subst (λ d. Turns b.role (did_something b) b (d ++ e ∷ []) (λ left. left ≡ [])) (sym h) (closes_last b.role (did_something b) e b is inverse)
closes (f ∷ rest) e b due none is inverse h =
    beside (Nests rest) (Nests (rest ++ b ∷ [])) e (λ left k. closes rest e b left none.1 is inverse k) f.role (did_something f) f due (idle_did f none.0) h

taken_here : (P : List Entry → Type 0) (b : Bool) (e : Entry) (due : List Entry) → b ≡ true → due ≡ [] → P (e ∷ []) → Turns TakenBack b e due P
taken_here P b e due did none h = subst (λ t. Turns TakenBack t e due P) (sym did) (subst (λ d. P (e ∷ d)) (sym none) h)

pub nests_back : (front : List Entry) (e : Entry) (rest : List Entry) (b : Entry) (due : List Entry) → e.role ≡ Stands → NoneStands rest → b.role ≡ Back
    → inverse_of e.op e.reply ≡ Some b.op → Nests (front ++ e ∷ rest) due → Nests (front ++ with_role TakenBack e ∷ (rest ++ b ∷ [])) due
nests_back [] e rest b due is none back inverse h =
    let k = stands_here (Nests rest) e.role (did_something e) e due is (did_true e b.op inverse) h in
    taken_here (Nests (rest ++ b ∷ [])) (did_something e) (with_role TakenBack e) due (did_true e b.op inverse) k.0
    (closes rest (with_role TakenBack e) b [] none back inverse k.1)
nests_back (f ∷ front) e rest b due is none back inverse h =
    turns_map (Nests (front ++ e ∷ rest)) (Nests (front ++ with_role TakenBack e ∷ (rest ++ b ∷ []))) (λ left k. nests_back front e rest b left is none back inverse k) f.role (did_something f) f due h

-- ---- what is nested is level at each counter

pub add_did : (c : ℕ) (op : Op) (reply : Reply) → (mode_of op ≡ mode.Add → reply ≡ Done) → is_some (inverse_of op reply) ≡ false → op_step c op ≡ None
add_did c (Add n d) reply done none = let x : is_some (inverse_of (Add n d) Done) ≡ false = subst (λ r. is_some (inverse_of (Add n d) r) ≡ false) (done refl) none in absurd cc
add_did c (Get r k) reply done none = refl
add_did c (Insert r k v) reply done none = refl
add_did c (Update r k v) reply done none = refl
add_did c (Delete r k) reply done none = refl
add_did c (Read n) reply done none = refl
add_did c (Scan r) reply done none = refl

stepped : (c : ℕ) (op i j : Op) → Some i ≡ Some j → op_step c i ≡ option_map neg_ℤ (op_step c op) → op_step c j ≡ option_map neg_ℤ (op_step c op)
stepped c op i j e h = let same : i ≡ j = cc in subst (λ x. op_step c x ≡ option_map neg_ℤ (op_step c op)) same h

negated : (c n : ℕ) (d : ℤ) (t : Bool) → cond t (Some (neg_ℤ d)) None ≡ option_map neg_ℤ (cond t (Some d) None)
negated c n d true = refl
negated c n d false = refl

-- an inverse adds the opposite step
pub inverse_step : (c : ℕ) (op i : Op) (reply : Reply) → inverse_of op reply ≡ Some i → op_step c i ≡ option_map neg_ℤ (op_step c op)
inverse_step c (Insert r k v) i Done h = stepped c (Insert r k v) (Delete r k) i h refl
inverse_step c (Update r k v) i (Was old) h = stepped c (Update r k v) (Update r k old) i h refl
inverse_step c (Delete r k) i (Was old) h = stepped c (Delete r k) (Insert r k old) i h refl
inverse_step c (Add n d) i Done h = stepped c (Add n d) (Add n (neg_ℤ d)) i h (negated c n d (n == c))
inverse_step c (Insert r k v) i _ h = absurd cc
inverse_step c (Update r k v) i _ h = absurd cc
inverse_step c (Delete r k) i _ h = absurd cc
inverse_step c (Add n d) i _ h = absurd cc
inverse_step c (Get r k) i _ h = absurd cc
inverse_step c (Read n) i _ h = absurd cc
inverse_step c (Scan r) i _ h = absurd cc

-- the parts of those that are due
abbrev due_up : ℕ → List Entry → ℤ
due_up c [] = pos 0
due_up c (e ∷ es) = up_by TakenBack (op_step c e.op) +ℤ due_up c es

abbrev due_down : ℕ → List Entry → ℤ
due_down c [] = pos 0
due_down c (e ∷ es) = down_by TakenBack (op_step c e.op) +ℤ due_down c es

abbrev Level : ℕ → List Entry → ℤ → ℤ → Type 0
Level c due u d = ((u +ℤ due_up c due) ≡ pos 0) × ((d +ℤ due_down c due) ≡ pos 0)

opposite_up : (c : ℕ) (x y : Option ℤ) → y ≡ option_map neg_ℤ x → ((up_by TakenBack x +ℤ up_by Back y) ≡ pos 0) × ((down_by TakenBack x +ℤ down_by Back y) ≡ pos 0)
opposite_up c None y is = let same : up_by Back y ≡ pos 0 = ap (up_by Back) is in let down : down_by Back y ≡ pos 0 = ap (down_by Back) is in (omega (arith, ints, same), omega (arith, ints, down))
opposite_up c (Some d) y is =
    let same : up_by Back y ≡ up_by Back (Some (neg_ℤ d)) = ap (up_by Back) is in
    let down : down_by Back y ≡ down_by Back (Some (neg_ℤ d)) = ap (down_by Back) is in
    let f = below_neg d in let g = above_neg d in
    (omega (arith, ints, same, f), omega (arith, ints, down, g))

level_step : (c : ℕ) (e : Entry) (due : List Entry) (P : List Entry → Type 0) (u d : ℤ) (r : Role) (b : Bool) → (r ≡ Stands → b ≡ false) → (b ≡ false → op_step c e.op ≡ None)
    → ((left : List Entry) → P left → Level c left u d) → Turns r b e due P → Level c due (up_by r (op_step c e.op) +ℤ u) (down_by r (op_step c e.op) +ℤ d)
level_step c e due P u d Stands true none nothing rec h = let x : true ≡ false = none refl in absurd cc
level_step c e due P u d Stands false none nothing rec h =
    let k = rec due h in let x = k.0 in let y = k.1 in
    let z = ap (up_by Stands) (nothing refl) in let w = ap (down_by Stands) (nothing refl) in
    (omega (arith, ints, x, z), omega (arith, ints, y, w))
level_step c e due P u d TakenBack true none nothing rec h =
    let k = rec (e ∷ due) h in let x = k.0 in let y = k.1 in
    (omega (arith, ints, x), omega (arith, ints, y))
level_step c e due P u d TakenBack false none nothing rec h =
    let k = rec due h in let x = k.0 in let y = k.1 in
    let z = ap (up_by TakenBack) (nothing refl) in let w = ap (down_by TakenBack) (nothing refl) in
    (omega (arith, ints, x, z), omega (arith, ints, y, w))
level_step c e [] P u d Back b none nothing rec h = absurd h
level_step c e (f ∷ due) P u d Back b none nothing rec h =
    let k = rec due h.1 in let x = k.0 in let y = k.1 in
    let o = opposite_up c (op_step c f.op) (op_step c e.op) (inverse_step c f.op e.op f.reply h.0) in
    let z = o.0 in let w = o.1 in
    (omega (arith, ints, x, z), omega (arith, ints, y, w))

level_from : (c : ℕ) (es due : List Entry) → NoneStands es → Each IsDone es → Nests es due → Level c due (up_sum c es) (down_sum c es)
level_from c [] due none done h =
    let x = ap (due_up c) h in let y = ap (due_down c) h in (omega (arith, ints, x), omega (arith, ints, y))
level_from c (e ∷ es) due none done h =
    level_step c e due (Nests es) (up_sum c es) (down_sum c es) e.role (did_something e) (idle_did e none.0) (add_did c e.op e.reply done.0)
    (λ left k. level_from c es left none.1 done.1 k) h

pub nests_level : (c : ℕ) (es : List Entry) → NoneStands es → Each IsDone es → Nests es [] → (up_sum c es ≡ pos 0) × (down_sum c es ≡ pos 0)
nests_level c es none done h =
    let k = level_from c es [] none done h in let x = k.0 in let y = k.1 in
    (omega (arith, ints, x), omega (arith, ints, y))

-- ---- and leaves each row as it was

-- what an operation makes of a row
abbrev pub row_next : Op → Option (List ℕ) → Option (List ℕ)
row_next op row = (next op (row_cell row)).row

pub next_row : (op : Op) (c : Cell) → (next op c).row ≡ row_next op c.row
next_row (Get r k) c = refl
next_row (Insert r k v) c = refl
next_row (Update r k v) c = refl
next_row (Delete r k) c = refl
next_row (Add n d) c = refl
next_row (Read n) c = refl
next_row (Scan r) c = refl

zero_within : IsInBounds idle
zero_within = record { not_under = omega (arith, ints); not_over = omega (arith, ints) }

back_row : (op i : Op) (row : Option (List ℕ)) → inverse_of op (says op (row_cell row)) ≡ Some i → row_next i (row_next op row) ≡ row
back_row op i row h =
    let t = takes_back op i (row_cell row) zero_within h in
    sym (next_row i (next op (row_cell row))) ∙ ap (λ (c : Cell). c.row) t.back

same_row : (i j : Op) (row : Option (List ℕ)) → Some i ≡ Some j → row_next i row ≡ row → row_next j row ≡ row
same_row i j row e h = let same : i ≡ j = cc in subst (λ x. row_next x row ≡ row) same h

add_row : (n : ℕ) (d : ℤ) (r : Reply) (i : Op) (row : Option (List ℕ)) → inverse_of (Add n d) r ≡ Some i → row_next i row ≡ row
add_row n d Done i row h = same_row (Add n (neg_ℤ d)) i row h refl
add_row n d _ i row h = absurd cc

-- the inverse of an operation puts the row back
pub row_back : (op i : Op) (reply : Reply) (x : Object) (c : Cell) → Fits op reply x c → inverse_of op reply ≡ Some i → row_next i (next op c).row ≡ c.row
row_back (Insert r k v) i reply x c fits h = back_row (Insert r k v) i c.row (subst (λ y. inverse_of (Insert r k v) y ≡ Some i) (sym fits) h)
row_back (Update r k v) i reply x c fits h = back_row (Update r k v) i c.row (subst (λ y. inverse_of (Update r k v) y ≡ Some i) (sym fits) h)
row_back (Delete r k) i reply x c fits h = back_row (Delete r k) i c.row (subst (λ y. inverse_of (Delete r k) y ≡ Some i) (sym fits) h)
row_back (Add n d) i reply x c fits h = add_row n d reply i c.row h
row_back (Get r k) i reply x c fits h = absurd cc
row_back (Read n) i reply x c fits h = absurd cc
row_back (Scan r) i _ x c fits h = absurd cc

pub none_of : {A : Type 0} (x : Option A) → is_some x ≡ false → x ≡ None
none_of None h = refl
none_of (Some a) h = absurd cc

no_effect : (op : Op) (reply : Reply) (c : Cell) → says op c ≡ reply → is_some (inverse_of op reply) ≡ false → (next op c).row ≡ c.row
no_effect op reply c fits h = ap (λ (d : Cell). d.row) (effectless op c (subst (λ y. inverse_of op y ≡ None) (sym fits) (none_of (inverse_of op reply) h)))

-- what did nothing leaves the row
idle_row : (op : Op) (reply : Reply) (x : Object) (c : Cell) → Fits op reply x c → is_some (inverse_of op reply) ≡ false → (next op c).row ≡ c.row
idle_row (Get r k) reply x c fits h = refl
idle_row (Read n) reply x c fits h = refl
idle_row (Scan r) reply x c fits h = refl
idle_row (Add n d) reply x c fits h = refl
idle_row (Insert r k v) reply x c fits h = no_effect (Insert r k v) reply c fits h
idle_row (Update r k v) reply x c fits h = no_effect (Update r k v) reply c fits h
idle_row (Delete r k) reply x c fits h = no_effect (Delete r k) reply c fits h

-- the row once the inverses of those that are due have run
abbrev pub undo_row : Object → Option Op → Option (List ℕ) → Option (List ℕ)
undo_row x None row = row
undo_row x (Some i) row = cond (touches i x) (row_next i row) row

abbrev pub unwound : Object → List Entry → Option (List ℕ) → Option (List ℕ)
unwound x [] row = row
unwound x (e ∷ es) row = unwound x es (undo_row x (inverse_of e.op e.reply) row)

-- an inverse touches what its operation touched
pub touches_same : (op i : Op) (reply : Reply) (x : Object) → inverse_of op reply ≡ Some i → touches op x ≡ touches i x
touches_same op i reply x h =
    touches-own op x (undone_no_scan op i reply h)
    ∙ (ap (λ (a : Asks). same_object a.object x) (sym (inverse_asks op i reply h))
    ∙ sym (touches-own i x (inverse_no_scan op i reply h)))

abbrev pub next_if : Bool → Op → Cell → Cell
next_if t op c = cond t (next op c) c

pub idle_next : (t : Bool) (e : Entry) (x : Object) (c : Cell) → (t ≡ true → Fits e.op e.reply x c) → did_something e ≡ false → (next_if t e.op c).row ≡ c.row
idle_next true e x c fits h = idle_row e.op e.reply x c (fits refl) h
idle_next false e x c fits h = refl

pub taken_next : (t s : Bool) (e : Entry) (i : Op) (x : Object) (c : Cell) → (t ≡ true → Fits e.op e.reply x c) → inverse_of e.op e.reply ≡ Some i → t ≡ s
    → cond s (row_next i (next_if t e.op c).row) (next_if t e.op c).row ≡ c.row
taken_next true true e i x c fits h same = row_back e.op i e.reply x c (fits refl) h
taken_next false false e i x c fits h same = refl
taken_next true false e i x c fits h same = absurd cc
taken_next false true e i x c fits h same = absurd cc

pub some_of : (x : Option Op) → is_some x ≡ true → (i : Op) × (x ≡ Some i)
some_of None h = absurd cc
some_of (Some i) h = (i, refl)

pub back_next : (t : Bool) (op : Op) (c : Cell) → (next_if t op c).row ≡ cond t (row_next op c.row) c.row
back_next true op c = next_row op c
back_next false op c = refl

rows_step : (x : Object) (e : Entry) (due : List Entry) (P : List Entry → Type 0) (c : Cell) (end : Option (List ℕ)) (r : Role) (b : Bool) → did_something e ≡ b → (r ≡ Stands → b ≡ false)
    → (touches e.op x ≡ true → Fits e.op e.reply x c)
    → ((left : List Entry) → P left → end ≡ unwound x left (next_if (touches e.op x) e.op c).row) → Turns r b e due P → end ≡ unwound x due c.row
rows_step x e due P c end Stands true did none fits rec h = let y : true ≡ false = none refl in absurd cc
rows_step x e due P c end Stands false did none fits rec h = rec due h ∙ ap (unwound x due) (idle_next (touches e.op x) e x c fits did)
rows_step x e due P c end TakenBack false did none fits rec h = rec due h ∙ ap (unwound x due) (idle_next (touches e.op x) e x c fits did)
rows_step x e due P c end TakenBack true did none fits rec h =
    let s = some_of (inverse_of e.op e.reply) did in
    rec (e ∷ due) h
    ∙ (ap (λ o. unwound x due (undo_row x o (next_if (touches e.op x) e.op c).row)) s.1
    ∙ ap (unwound x due) (taken_next (touches e.op x) (touches s.0 x) e s.0 x c fits s.1 (touches_same e.op s.0 e.reply x s.1)))
rows_step x e [] P c end Back b did none fits rec h = absurd h
rows_step x e (f ∷ due) P c end Back b did none fits rec h =
    rec due h.1
    ∙ (ap (unwound x due) (back_next (touches e.op x) e.op c)
    ∙ ap (λ o. unwound x due (undo_row x o c.row)) (sym h.0))

pub run_choice : (t : Bool) (e : Entry) (es : List Entry) (c : Cell) → cell_runs c (cond t (e ∷ es) es) ≡ cell_runs (next_if t e.op c) es
run_choice true e es c = refl
run_choice false e es c = refl

pub acted_choice : (t : Bool) (x : Object) (e : Entry) (es : List Entry) (c : Cell) → AreCellActed x c (cond t (e ∷ es) es) → (t ≡ true → Fits e.op e.reply x c) × AreCellActed x (next_if t e.op c) es
acted_choice true x e es c h = (λ is. h.0, h.1)
acted_choice false x e es c h = (λ is. absurd cc, h)

rows_from : (x : Object) (es due : List Entry) (c : Cell) → NoneStands es → Nests es due → AreCellActed x c (on x es) → (cell_runs c (on x es)).row ≡ unwound x due c.row
rows_from x [] due c none h acted = ap (λ d. unwound x d c.row) (sym h)
rows_from x (e ∷ es) due c none h acted =
    let a = acted_choice (touches e.op x) x e (on x es) c acted in
    ap (λ (d : Cell). d.row) (run_choice (touches e.op x) e (on x es) c)
    ∙ rows_step x e due (Nests es) c (cell_runs (next_if (touches e.op x) e.op c) (on x es)).row e.role (did_something e) refl (idle_did e none.0) a.0
    (λ left k. rows_from x es left (next_if (touches e.op x) e.op c) none.1 k a.1) h

pub nests_row : (x : Object) (es : List Entry) (c : Cell) → NoneStands es → Nests es [] → AreCellActed x c (on x es) → (cell_runs c (on x es)).row ≡ c.row
nests_row x es c none h acted = rows_from x es [] c none h acted
