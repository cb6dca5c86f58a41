-- What transactions took back nets to nothing: what stands and did something leads to the base alone.
use Rattle.std.proofs.Common.{◌≡◌, ℕ, ℤ, pos, Bool, true, false, cond, ◌==◌, ◌&&◌, List, [], ◌∷◌, None, is_some, filter, refl, ap, sym, ◌∙◌, subst, arith}
use Rattle.std.proofs.lemmas.Int.{ints}
use Rattle.std.proofs.lemmas.Bool.{and_parts}
use Rattle.std.proofs.lemmas.Bool.Decides.{Decides-eqb}
use Rattle.mt_base.specs.declared.modes.LockMode.TheVariants as mode
use Rattle.mt_model.specs.declared.objects.Object.{Object}
use Rattle.mt_model.specs.declared.objects.Object.TheVariants.{Key, Counter, Relation}
use Rattle.mt_model.specs.declared.operations.Op.{Op}
use Rattle.mt_model.specs.declared.operations.Op.TheVariants.{Get, Insert, Update, Delete, Add, Read, Scan}
use Rattle.mt_model.specs.declared.operations.Reply.{Reply}
use Rattle.mt_model.specs.Model.{Base, inverse_of, mode_of, done_unless, was, moved}
use Rattle.mt_model.specs.Escrow.{total, HasRoom}
use Rattle.mt_model.specs.Locks.{Held, AreTogether}
use Rattle.mt_model.specs.Pending.{steps_at}
use Rattle.mt_model.proofs.Cells.{Cell, cell, touches, same_base}
use Rattle.mt_model.proofs.Split.{Fits, filter-swap}
use Rattle.mt_live.specs.declared.transactions.Role.{Role}
use Rattle.mt_live.specs.declared.transactions.Role.TheVariants.{Stands, TakenBack, Back}
use Rattle.mt_live.specs.Adds.{adds, standing_before, op_step, forward_at}
use Rattle.mt_live.specs.Entries.{Entry, is_standing, runs, kept}
use Rattle.mt_live.specs.Sound.{Each, IsLocked, IsDone, IsSound}
use Rattle.mt_live.specs.Taking.{Ballot, IsBallot, Turns, did_something, Nests}
use Rattle.mt_live.specs.Undoing.{only}
use Rattle.mt_live.proofs.Ballots.{Stays, steps_on, up_sum, down_sum, none_up, kept_all, stays_all, room_picked, ballot_level}
use Rattle.mt_live.proofs.Entries.{on, cell_runs, AreCellActed, runs-on, acted-on, acted_from_each}
use Rattle.mt_live.proofs.Shapes.{each_filter, Shape, Owned, Reads, Adds, shape}
use Rattle.mt_live.proofs.AtCell.{steps, count_run, adds_acted, adds_row, reads_run, owned_kept}
use Rattle.mt_live.proofs.Nesting.{next_if, undo_row, unwound, row_next, idle_next, taken_next, some_of, back_next, run_choice, acted_choice, none_of, touches_same}
use Rattle.mt_live.proofs.AddLemmas.{idle_standing}
use Rattle.mt_live.proofs.Cuts.{stands_from}
use Rattle.mt_live.proofs.Forward.{total_parts}
use Rattle.mt_live.proofs.Events.{agree_on, stays_on, steps-at, kept-on, steps_none, steps_none_at}

-- ---- what stands and did something

abbrev pub is_done : Entry → Bool
is_done e = is_standing e.role && did_something e

abbrev pub effects : List Entry → List Entry
effects es = filter is_done es

stands_of : (e : Entry) → is_done e ≡ true → e.role ≡ Stands
stands_of e h = stands_from e.role (and_parts (is_standing e.role) (did_something e) h).0

did_of : (e : Entry) → is_done e ≡ true → did_something e ≡ true
did_of e h = (and_parts (is_standing e.role) (did_something e) h).1

idle_of : (e : Entry) → is_done e ≡ false → e.role ≡ Stands → inverse_of e.op e.reply ≡ None
idle_of e h stands = none_of (inverse_of e.op e.reply) (subst (λ r. is_standing r && did_something e ≡ false) stands h)

each_done : (P : Entry → Type 0) → ((e : Entry) → is_done e ≡ true → P e) → (es : List Entry) → Each P (effects es)
each_done P so [] = tt
each_done P so (e ∷ es) = go (is_done e) refl (each_done P so es)
  where
    go : (b : Bool) → is_done e ≡ b → Each P (effects es) → Each P (cond b (e ∷ effects es) (effects es))
    go true is rest = (so e is, rest)
    go false is rest = rest

pub all_stand : (es : List Entry) → Each (λ (e : Entry). e.role ≡ Stands) (effects es)
all_stand es = each_done (λ (e : Entry). e.role ≡ Stands) stands_of es

effects-on : (x : Object) (es : List Entry) → on x (effects es) ≡ effects (on x es)
effects-on x es = filter-swap (λ e. touches e.op x) is_done es

-- ---- entries that all stand

stands_ballot : (c : ℕ) (es : List Entry) → Each (λ (e : Entry). e.role ≡ Stands) es → (u d : ℤ) → u ≡ pos 0 → d ≡ pos 0 → Ballot c u d es
stands_ballot c [] all u d up down = (up, down)
stands_ballot c (e ∷ es) all u d up down =
    let none = none_up e.role (op_step c e.op) all.0 in let x = none.0 in let y = none.1 in
    (omega (arith, ints, up), omega (arith, ints, down), stands_ballot c es all.1 _ _ (omega (arith, ints, up, x)) (omega (arith, ints, down, y)))

stands_turn : (P : List Entry → Type 0) (r : Role) (b : Bool) (e : Entry) → r ≡ Stands → P [] → Turns r b e [] P
stands_turn P r b e is h = subst (λ q. Turns q b e [] P) (sym is) (go b)
  where
    go : (t : Bool) → Turns Stands t e [] P
    go true = (refl, h)
    go false = h

stands_nests : (es : List Entry) → Each (λ (e : Entry). e.role ≡ Stands) es → Nests es []
stands_nests [] all = refl
stands_nests (e ∷ es) all = stands_turn (Nests es) e.role (did_something e) e all.0 (stands_nests es all.1)

stands_level : (c : ℕ) (es : List Entry) → Each (λ (e : Entry). e.role ≡ Stands) es → (up_sum c es ≡ pos 0) × (down_sum c es ≡ pos 0)
stands_level c [] all = (refl, refl)
stands_level c (e ∷ es) all =
    let none = none_up e.role (op_step c e.op) all.0 in let x = none.0 in let y = none.1 in
    let rest = stands_level c es all.1 in let u = rest.0 in let d = rest.1 in
    (omega (arith, ints, x, u), omega (arith, ints, y, d))

-- ---- at a counter

effect_adds : (n : ℕ) (op : Op) (reply : Reply) → touches op (Counter n) ≡ true → is_some (inverse_of op reply) ≡ true → mode_of op ≡ mode.Add
effect_adds n (Add m d) reply own did = refl
effect_adds n (Get r k) reply own did = absurd cc
effect_adds n (Insert r k v) reply own did = absurd cc
effect_adds n (Update r k v) reply own did = absurd cc
effect_adds n (Delete r k) reply own did = absurd cc
effect_adds n (Read m) reply own did = absurd cc
effect_adds n (Scan r) reply own did = absurd cc

all_add : (n : ℕ) (es : List Entry) → Each (λ e. mode_of e.op ≡ mode.Add) (on (Counter n) (effects es))
all_add n es = go (effects es) (each_done (λ e. did_something e ≡ true) did_of es)
  where
    go : (fs : List Entry) → Each (λ e. did_something e ≡ true) fs → Each (λ e. mode_of e.op ≡ mode.Add) (on (Counter n) fs)
    go [] did = tt
    go (f ∷ fs) did = here (touches f.op (Counter n)) refl (go fs did.1)
      where
        here : (t : Bool) → touches f.op (Counter n) ≡ t → Each (λ e. mode_of e.op ≡ mode.Add) (on (Counter n) fs) → Each (λ e. mode_of e.op ≡ mode.Add) (cond t (f ∷ on (Counter n) fs) (on (Counter n) fs))
        here true own rest = (effect_adds n f.op f.reply own did.0, rest)
        here false own rest = rest

counter_next : (n : ℕ) (op : Op) (c : Cell) → (next_if (touches op (Counter n)) op c).row ≡ c.row
counter_next n (Add m d) c = go (m == n)
  where
    go : (t : Bool) → (next_if t (Add m d) c).row ≡ c.row
    go true = refl
    go false = refl
counter_next n (Read m) c = go (m == n)
  where
    go : (t : Bool) → (next_if t (Read m) c).row ≡ c.row
    go true = refl
    go false = refl
counter_next n (Get r k) c = refl
counter_next n (Insert r k v) c = refl
counter_next n (Update r k v) c = refl
counter_next n (Delete r k) c = refl
counter_next n (Scan r) c = refl

counter_row : (n : ℕ) (es : List Entry) (c : Cell) → (cell_runs c (on (Counter n) es)).row ≡ c.row
counter_row n [] c = refl
counter_row n (e ∷ es) c =
    ap (λ (z : Cell). z.row) (run_choice (touches e.op (Counter n)) e (on (Counter n) es) c)
    ∙ (counter_row n es (next_if (touches e.op (Counter n)) e.op c) ∙ counter_next n e.op c)

-- those that stand and did nothing add nothing
adds-effects : (es : List Entry) → Each IsDone es → adds (effects es) ≡ adds es
adds-effects [] done = refl
adds-effects (e ∷ es) done = go (is_done e) refl (adds-effects es done.1)
  where
    go : (b : Bool) → is_done e ≡ b → adds (effects es) ≡ adds es → adds (cond b (e ∷ effects es) (effects es)) ≡ standing_before e.role e.txn e.op (adds es)
    go true is rest = ap (standing_before e.role e.txn e.op) rest
    go false is rest = rest ∙ sym (idle_standing e.role e.txn e.op e.reply (adds es) (idle_of e is) done.0)

same_total : (c : ℕ) (es : List Entry) → Each IsDone es → IsBallot c es → total (steps_on c (effects es)) ≡ total (steps_on c es)
same_total c es done ballot =
    let a = total_parts c (effects es) in let b = total_parts c es in
    let level = stands_level c (effects es) (all_stand es) in let u = level.0 in let d = level.1 in
    let all = ballot_level c (λ t. true) es ballot in
    let x : up_sum c es ≡ pos 0 = ap (up_sum c) (sym (kept_all es)) ∙ all.0 in
    let y : down_sum c es ≡ pos 0 = ap (down_sum c) (sym (kept_all es)) ∙ all.1 in
    let same : total (steps_at c (adds (effects es))) ≡ total (steps_at c (adds es)) = ap (λ ps. total (steps_at c ps)) (adds-effects es done) in
    omega (arith, ints, a, b, u, d, x, y, same)

-- ---- at a row

abbrev IsOfRows : Object → Type 0
IsOfRows (Key r k) = Unit {0}
IsOfRows (Relation r) = Unit {0}
IsOfRows (Counter c) = ⊥

add_there : (n : ℕ) (d : ℤ) (x : Object) → IsOfRows x → touches (Add n d) x ≡ true → ⊥
add_there n d (Key r k) rows own = absurd cc
add_there n d (Relation r) rows own = absurd cc
add_there n d (Counter c) rows own = rows

-- what did something fits wherever the row is the same
row_fits : (op : Op) (reply : Reply) (x : Object) (c d : Cell) → IsOfRows x → touches op x ≡ true → is_some (inverse_of op reply) ≡ true → d.row ≡ c.row → Fits op reply x c → Fits op reply x d
row_fits (Insert r k v) reply x c d rows own did same fits = ap done_unless same ∙ fits
row_fits (Update r k v) reply x c d rows own did same fits = ap was same ∙ fits
row_fits (Delete r k) reply x c d rows own did same fits = ap was same ∙ fits
row_fits (Add n s) reply x c d rows own did same fits = absurd (add_there n s x rows own)
row_fits (Get r k) reply x c d rows own did same fits = absurd cc
row_fits (Read n) reply x c d rows own did same fits = absurd cc
row_fits (Scan r) reply x c d rows own did same fits = absurd cc

-- an entry that does not stand, or did nothing, leaves the row that is due
turned : {R : Type 0} (x : Object) (e : Entry) (due : List Entry) (P : List Entry → Type 0) (c : Cell) (r : Role) (b : Bool) → did_something e ≡ b → (r ≡ Stands → b ≡ false)
    → (touches e.op x ≡ true → Fits e.op e.reply x c)
    → ((left : List Entry) → P left → unwound x left (next_if (touches e.op x) e.op c).row ≡ unwound x due c.row → R) → Turns r b e due P → R
turned x e due P c Stands true did none fits k h = let y : true ≡ false = none refl in absurd cc
turned x e due P c Stands false did none fits k h = k due h (ap (unwound x due) (idle_next (touches e.op x) e x c fits did))
turned x e due P c TakenBack false did none fits k h = k due h (ap (unwound x due) (idle_next (touches e.op x) e x c fits did))
turned x e due P c TakenBack true did none fits k h =
    let s = some_of (inverse_of e.op e.reply) did in
    k (e ∷ due) h
    (ap (λ o. unwound x due (undo_row x o (next_if (touches e.op x) e.op c).row)) s.1
    ∙ ap (unwound x due) (taken_next (touches e.op x) (touches s.0 x) e s.0 x c fits s.1 (touches_same e.op s.0 e.reply x s.1)))
turned x e [] P c Back b did none fits k h = absurd h
turned x e (f ∷ due) P c Back b did none fits k h =
    k due h.1 (ap (unwound x due) (back_next (touches e.op x) e.op c) ∙ ap (λ o. unwound x due (undo_row x o c.row)) (sym h.0))

acted_cons : (t : Bool) (x : Object) (e : Entry) (es : List Entry) (d : Cell) → (t ≡ true → Fits e.op e.reply x d) → AreCellActed x (next_if t e.op d) es → AreCellActed x d (cond t (e ∷ es) es)
acted_cons true x e es d fits rest = (fits refl, rest)
acted_cons false x e es d fits rest = rest

row_next_same : (t : Bool) (op : Op) (c d : Cell) → d.row ≡ c.row → (next_if t op d).row ≡ (next_if t op c).row
row_next_same t op c d same = back_next t op d ∙ (ap (λ w. cond t (row_next op w) w) same ∙ sym (back_next t op c))

abbrev Alone : Object → Cell → Cell → List Entry → Type 0
Alone x c d es = AreCellActed x d (on x (effects es)) × ((cell_runs d (on x (effects es))).row ≡ (cell_runs c (on x es)).row)

pub rows_alone : (x : Object) → IsOfRows x → (es due : List Entry) (c d : Cell) → Nests es due → AreCellActed x c (on x es) → d.row ≡ unwound x due c.row → Alone x c d es
rows_alone x rows [] due c d h acted same = (tt, same ∙ ap (λ w. unwound x w c.row) h)
rows_alone x rows (e ∷ es) due c d h acted same = go (λ left z w k l m. rows_alone x rows es left z w k l m) (is_done e) refl
  where
    t : Bool
    t = touches e.op x

    parts : (t ≡ true → Fits e.op e.reply x c) × AreCellActed x (next_if t e.op c) (on x es)
    parts = acted_choice t x e (on x es) c acted

    whole : (cell_runs c (on x (e ∷ es))).row ≡ (cell_runs (next_if t e.op c) (on x es)).row
    whole = ap (λ (z : Cell). z.row) (run_choice t e (on x es) c)

    stood : did_something e ≡ true → e.role ≡ Stands → (due ≡ []) × Nests es []
    stood did stands = subst (λ b. Turns Stands b e due (Nests es)) did (subst (λ r. Turns r (did_something e) e due (Nests es)) stands h)

    go : ((left : List Entry) (z w : Cell) → Nests es left → AreCellActed x z (on x es) → w.row ≡ unwound x left z.row → Alone x z w es) → (b : Bool) → is_done e ≡ b
        → AreCellActed x d (on x (cond b (e ∷ effects es) (effects es))) × ((cell_runs d (on x (cond b (e ∷ effects es) (effects es)))).row ≡ (cell_runs c (on x (e ∷ es))).row)
    go rec true is =
        let k = stood (did_of e is) (stands_of e is) in
        let here : d.row ≡ c.row = same ∙ ap (λ w. unwound x w c.row) k.0 in
        let rest = rec [] (next_if t e.op c) (next_if t e.op d) k.1 parts.1 (row_next_same t e.op c d here) in (
          acted_cons t x e (on x (effects es)) d (λ own. row_fits e.op e.reply x c d rows own (did_of e is) here (parts.0 own)) rest.0,
          ap (λ (z : Cell). z.row) (run_choice t e (on x (effects es)) d) ∙ (rest.1 ∙ sym whole),
        )
    go rec false is =
        turned x e due (Nests es) c e.role (did_something e) refl (λ stands. ap is_some (idle_of e is stands)) parts.0
        (λ left k now. let rest = rec left (next_if t e.op c) d k parts.1 (same ∙ sym now) in (rest.0, rest.1 ∙ sym whole)) h

-- ---- in all

read_idle : (op : Op) (reply : Reply) → mode_of op ≡ mode.Read → is_some (inverse_of op reply) ≡ false
read_idle (Get r k) reply is = refl
read_idle (Read n) reply is = refl
read_idle (Scan r) reply is = refl
read_idle (Insert r k v) reply is = absurd cc
read_idle (Update r k v) reply is = absurd cc
read_idle (Delete r k) reply is = absurd cc
read_idle (Add n d) reply is = absurd cc

no_effects : (es : List Entry) → Each (λ e. mode_of e.op ≡ mode.Read) es → effects es ≡ []
no_effects [] reads = refl
no_effects (e ∷ es) reads = go (is_done e) refl (no_effects es reads.1)
  where
    go : (b : Bool) → is_done e ≡ b → effects es ≡ [] → cond b (e ∷ effects es) (effects es) ≡ []
    go true is rest = let did = did_of e is in let none = read_idle e.op e.reply reads.0 in absurd cc
    go false is rest = rest

module _ (held : Held) (locks : AreTogether held) (b : Base) (es : List Entry) (s : IsSound held b es) where
  room : (c : ℕ) → HasRoom (b.counts c) (forward_at c (effects es))
  room c = room_picked (b.counts c) c is_done es (s.room c)

  ballot : (c : ℕ) → IsBallot c (effects es)
  ballot c p = stands_ballot c (kept p (effects es)) (each_filter (λ (e : Entry). e.role ≡ Stands) (λ (e : Entry). p e.txn) (effects es) (all_stand es)) (pos 0) (pos 0) refl refl

  done : Each IsDone (effects es)
  done = each_filter IsDone is_done es s.done

  done_on : (x : Object) → Each IsDone (on x (effects es))
  done_on x = each_filter IsDone (λ e. touches e.op x) (effects es) done

  still : (x : Object) → Stays (cell b x).count (steps (on x (effects es)))
  still x = stays_on b (effects es) (λ c. stays_all (b.counts c) c (effects es) (room c) (ballot c)) x

  acted_at : (x : Object) → AreCellActed x (cell b x) (on x es)
  acted_at x = acted-on b es x s.acted

  rows_at : (x : Object) → IsOfRows x → Alone x (cell b x) (cell b x) es
  rows_at x rows = go (shape (on x es) (agree_on held locks x es s.locked))
    where
      here : on x (effects es) ≡ effects (on x es)
      here = effects-on x es

      go : Shape (on x es) → Alone x (cell b x) (cell b x) es
      go (Owned u own) =
          let mine : on x (kept (only u) es) ≡ on x es = sym (kept-on (only u) x es) ∙ owned_kept (only u) (on x es) u own true (itself u) in
          let effects_mine : on x (effects (kept (only u) es)) ≡ on x (effects es) = effects-on x (kept (only u) es) ∙ (ap effects mine ∙ sym here) in
          let k = rows_alone x rows (kept (only u) es) [] (cell b x) (cell b x) (s.nested u) (subst (AreCellActed x (cell b x)) (sym mine) (acted_at x)) refl in (
            subst (AreCellActed x (cell b x)) effects_mine k.0,
            ap (λ fs. (cell_runs (cell b x) fs).row) (sym effects_mine) ∙ (k.1 ∙ ap (λ fs. (cell_runs (cell b x) fs).row) mine),
          )
        where
          itself : (v : ℕ) → only v v ≡ true
          itself v = (Decides-eqb v v).1 refl
      go (Reads reads) =
          let none : on x (effects es) ≡ [] = here ∙ no_effects (on x es) reads in (
            subst (AreCellActed x (cell b x)) (sym none) tt,
            ap (λ fs. (cell_runs (cell b x) fs).row) none ∙ sym (ap (λ (z : Cell). z.row) (reads_run (cell b x) (on x es) reads)),
          )
      go (Adds all) =
          let some : Each (λ e. mode_of e.op ≡ mode.Add) (on x (effects es)) = subst (Each (λ e. mode_of e.op ≡ mode.Add)) (sym here) (each_filter (λ e. mode_of e.op ≡ mode.Add) is_done (on x es) all) in (
            adds_acted x (cell b x) (on x (effects es)) some (done_on x) (still x),
            adds_row (cell b x) (on x (effects es)) some ∙ sym (adds_row (cell b x) (on x es) all),
          )

  at : (x : Object) → Alone x (cell b x) (cell b x) es
  at (Key r k) = rows_at (Key r k) tt
  at (Relation r) = rows_at (Relation r) tt
  at (Counter n) = (
    adds_acted (Counter n) (cell b (Counter n)) (on (Counter n) (effects es)) (all_add n es) (done_on (Counter n)) (still (Counter n)),
    counter_row n (effects es) (cell b (Counter n)) ∙ sym (counter_row n es (cell b (Counter n))),
  )

  totals : (x : Object) → total (steps (on x (effects es))) ≡ total (steps (on x es))
  totals (Key r k) = ap total (steps_none r k (effects es) ∙ sym (steps_none r k es))
  totals (Relation r) = ap total (steps_none_at r (effects es) ∙ sym (steps_none_at r es))
  totals (Counter n) = ap total (steps-at n (effects es)) ∙ (same_total n es s.done (s.ballot n) ∙ sym (ap total (steps-at n es)))

  counts : (x : Object) → (cell_runs (cell b x) (on x (effects es))).count ≡ (cell_runs (cell b x) (on x es)).count
  counts x =
      count_run x (cell b x) (on x (effects es)) (at x).0 (done_on x)
      ∙ (ap (moved (cell b x).count) (totals x) ∙ sym (count_run x (cell b x) (on x es) (acted_at x) (each_filter IsDone (λ e. touches e.op x) es s.done)))

  -- they are sound without the others, and lead to the same base
  pub effects_sound : IsSound held b (effects es)
  effects_sound = record {
    acted = acted_from_each b (effects es) (λ x. (at x).0);
    locked = each_filter (IsLocked held) is_done es s.locked;
    done = done;
    room = room;
    ballot = ballot;
    nested = λ t. stands_nests (kept (only t) (effects es)) (each_filter (λ (e : Entry). e.role ≡ Stands) (λ (e : Entry). only t e.txn) (effects es) (all_stand es));
  }

  pub effects_run : runs b (effects es) ≡ runs b es
  effects_run = same_base (runs b (effects es)) (runs b es) (λ x.
      runs-on b (effects es) x ∙ ((λ i. record { row = (at x).1 i; count = counts x i }) ∙ sym (runs-on b es x)))
