-- The steps at a counter: of adds that stand, of those taken back, and of their inverses.
use Rattle.std.proofs.Common.{◌≡◌, ℕ, ℤ, pos, neg_ℤ, ◌+ℤ◌, Bool, true, false, cond, not, ◌==◌, ◌&&◌, List, [], ◌∷◌, ◌++◌, Option, Some, None, filter, refl, ap, sym, ◌∙◌, subst, arith}
use Rattle.std.specs.Option.{option_map}
use Rattle.std.proofs.lemmas.Int.{ints}
use Rattle.std.proofs.lemmas.List.Elements.{filter-append}
use Rattle.mt_model.specs.declared.counters.Count.{Count}
use Rattle.mt_model.specs.declared.operations.Op.{Op}
use Rattle.mt_model.specs.declared.operations.Op.TheVariants.{Get, Insert, Update, Delete, Add, Read, Scan}
use Rattle.mt_model.specs.declared.pending_add.Pending.{Pending}
use Rattle.mt_model.specs.Escrow.{total, lowest, highest, HasRoom}
use Rattle.mt_model.specs.Model.{moved}
use Rattle.mt_model.specs.Pending.{steps_at, pending_of, pending_without}
use Rattle.mt_model.proofs.Sums.{below_is, above_is, total_between}
use Rattle.mt_live.specs.declared.transactions.Role.{Role}
use Rattle.mt_live.specs.declared.transactions.Role.TheVariants.{Stands, TakenBack, Back}
use Rattle.mt_live.specs.Adds.{add_before, standing_before, adds, opposite_before, back_before, backs, op_step, step_before, forward_before, forward_at}
use Rattle.mt_live.specs.Entries.{Entry, kept}
use Rattle.mt_live.specs.Taking.{up_by, down_by, Wider, IsBallot, pending_in, AreAside}
use Rattle.mt_live.proofs.AddLemmas.{shares}
use Rattle.mt_live.proofs.Ballots.{below_neg, above_neg, parts_are, steps_on, up_sum, down_sum, both, kept_all, ballot_level}

choice : (t : Bool) (d : ℤ) (ds : List ℤ) → cond t (d ∷ ds) ds ≡ step_before (cond t (Some d) None) ds
choice true d ds = refl
choice false d ds = refl

pub add_steps : (c t : ℕ) (op : Op) (ps : List Pending) → steps_at c (add_before t op ps) ≡ step_before (op_step c op) (steps_at c ps)
add_steps c t (Add n d) ps = choice (n == c) d (steps_at c ps)
add_steps c t (Get r k) ps = refl
add_steps c t (Insert r k v) ps = refl
add_steps c t (Update r k v) ps = refl
add_steps c t (Delete r k) ps = refl
add_steps c t (Read n) ps = refl
add_steps c t (Scan r) ps = refl

opposite_choice : (t : Bool) (d : ℤ) (ds : List ℤ) → cond t (neg_ℤ d ∷ ds) ds ≡ step_before (option_map neg_ℤ (cond t (Some d) None)) ds
opposite_choice true d ds = refl
opposite_choice false d ds = refl

pub opposite_steps : (c t : ℕ) (op : Op) (ps : List Pending) → steps_at c (opposite_before t op ps) ≡ step_before (option_map neg_ℤ (op_step c op)) (steps_at c ps)
opposite_steps c t (Add n d) ps = opposite_choice (n == c) d (steps_at c ps)
opposite_steps c t (Get r k) ps = refl
opposite_steps c t (Insert r k v) ps = refl
opposite_steps c t (Update r k v) ps = refl
opposite_steps c t (Delete r k) ps = refl
opposite_steps c t (Read n) ps = refl
opposite_steps c t (Scan r) ps = refl

-- the steps of what stands, and those that inverses took back
abbrev standing_step : Role → Option ℤ → List ℤ → List ℤ
standing_step Stands x ds = step_before x ds
standing_step TakenBack x ds = ds
standing_step Back x ds = ds

abbrev back_step : Role → Option ℤ → List ℤ → List ℤ
back_step Stands x ds = ds
back_step TakenBack x ds = ds
back_step Back x ds = step_before (option_map neg_ℤ x) ds

standing_is : (r : Role) (c t : ℕ) (op : Op) (ps : List Pending) → steps_at c (standing_before r t op ps) ≡ standing_step r (op_step c op) (steps_at c ps)
standing_is Stands c t op ps = add_steps c t op ps
standing_is TakenBack c t op ps = refl
standing_is Back c t op ps = refl

back_is : (r : Role) (c t : ℕ) (op : Op) (ps : List Pending) → steps_at c (back_before r t op ps) ≡ back_step r (op_step c op) (steps_at c ps)
back_is Stands c t op ps = refl
back_is TakenBack c t op ps = refl
back_is Back c t op ps = opposite_steps c t op ps

total_step : (r : Role) (x : Option ℤ) (ds xs : List ℤ) (u d : ℤ) → total ds ≡ total xs +ℤ (u +ℤ d) → total (step_before x ds) ≡ total (standing_step r x xs) +ℤ ((up_by r x +ℤ u) +ℤ (down_by r x +ℤ d))
total_step Stands None ds xs u d h = omega (arith, ints, h)
total_step TakenBack None ds xs u d h = omega (arith, ints, h)
total_step Back None ds xs u d h = omega (arith, ints, h)
total_step Stands (Some s) ds xs u d h = omega (arith, ints, h)
total_step TakenBack (Some s) ds xs u d h = let p = parts_are s in omega (arith, ints, h, p)
total_step Back (Some s) ds xs u d h = let p = parts_are s in omega (arith, ints, h, p)

pub total_parts : (c : ℕ) (es : List Entry) → total (steps_on c es) ≡ total (steps_at c (adds es)) +ℤ (up_sum c es +ℤ down_sum c es)
total_parts c [] = omega (arith, ints)
total_parts c (e ∷ es) =
    total_step e.role (op_step c e.op) (steps_on c es) (steps_at c (adds es)) (up_sum c es) (down_sum c es) (total_parts c es)
    ∙ ap (λ w. total w +ℤ (up_sum c (e ∷ es) +ℤ down_sum c (e ∷ es))) (sym (standing_is e.role c e.txn e.op (adds es)))

low_step : (r : Role) (x : Option ℤ) (fs xs bs : List ℤ) (d : ℤ) → lowest fs ≡ lowest xs +ℤ (d +ℤ lowest bs) → lowest (forward_before r x fs) ≡ lowest (standing_step r x xs) +ℤ ((down_by r x +ℤ d) +ℤ lowest (back_step r x bs))
low_step Stands None fs xs bs d h = omega (arith, ints, h)
low_step TakenBack None fs xs bs d h = omega (arith, ints, h)
low_step Back None fs xs bs d h = omega (arith, ints, h)
low_step Stands (Some s) fs xs bs d h = omega (arith, ints, h)
low_step TakenBack (Some s) fs xs bs d h = omega (arith, ints, h)
low_step Back (Some s) fs xs bs d h = let p = below_neg s in omega (arith, ints, h, p)

high_step : (r : Role) (x : Option ℤ) (fs xs bs : List ℤ) (u : ℤ) → highest fs ≡ highest xs +ℤ (u +ℤ highest bs) → highest (forward_before r x fs) ≡ highest (standing_step r x xs) +ℤ ((up_by r x +ℤ u) +ℤ highest (back_step r x bs))
high_step Stands None fs xs bs u h = omega (arith, ints, h)
high_step TakenBack None fs xs bs u h = omega (arith, ints, h)
high_step Back None fs xs bs u h = omega (arith, ints, h)
high_step Stands (Some s) fs xs bs u h = omega (arith, ints, h)
high_step TakenBack (Some s) fs xs bs u h = omega (arith, ints, h)
high_step Back (Some s) fs xs bs u h = let p = above_neg s in omega (arith, ints, h, p)

pub low_parts : (c : ℕ) (es : List Entry) → lowest (forward_at c es) ≡ lowest (steps_at c (adds es)) +ℤ (down_sum c es +ℤ lowest (steps_at c (backs es)))
low_parts c [] = omega (arith, ints)
low_parts c (e ∷ es) =
    low_step e.role (op_step c e.op) (forward_at c es) (steps_at c (adds es)) (steps_at c (backs es)) (down_sum c es) (low_parts c es)
    ∙ (ap (λ w. lowest w +ℤ (down_sum c (e ∷ es) +ℤ lowest (back_step e.role (op_step c e.op) (steps_at c (backs es))))) (sym (standing_is e.role c e.txn e.op (adds es)))
    ∙ ap (λ w. lowest (steps_at c (adds (e ∷ es))) +ℤ (down_sum c (e ∷ es) +ℤ lowest w)) (sym (back_is e.role c e.txn e.op (backs es))))

pub high_parts : (c : ℕ) (es : List Entry) → highest (forward_at c es) ≡ highest (steps_at c (adds es)) +ℤ (up_sum c es +ℤ highest (steps_at c (backs es)))
high_parts c [] = omega (arith, ints)
high_parts c (e ∷ es) =
    high_step e.role (op_step c e.op) (forward_at c es) (steps_at c (adds es)) (steps_at c (backs es)) (up_sum c es) (high_parts c es)
    ∙ (ap (λ w. highest w +ℤ (up_sum c (e ∷ es) +ℤ highest (back_step e.role (op_step c e.op) (steps_at c (backs es))))) (sym (standing_is e.role c e.txn e.op (adds es)))
    ∙ ap (λ w. highest (steps_at c (adds (e ∷ es))) +ℤ (up_sum c (e ∷ es) +ℤ highest w)) (sym (back_is e.role c e.txn e.op (backs es))))

pub steps_append : (c : ℕ) (ps qs : List Pending) → (lowest (steps_at c (ps ++ qs)) ≡ lowest (steps_at c ps) +ℤ lowest (steps_at c qs)) × (highest (steps_at c (ps ++ qs)) ≡ highest (steps_at c ps) +ℤ highest (steps_at c qs))
steps_append c [] qs = (omega (arith, ints), omega (arith, ints))
steps_append c (p ∷ ps) qs = go (p.counter == c) (steps_append c ps qs)
  where
    go : (b : Bool) → (lowest (steps_at c (ps ++ qs)) ≡ lowest (steps_at c ps) +ℤ lowest (steps_at c qs)) × (highest (steps_at c (ps ++ qs)) ≡ highest (steps_at c ps) +ℤ highest (steps_at c qs))
        → (lowest (cond b (p.step ∷ steps_at c (ps ++ qs)) (steps_at c (ps ++ qs))) ≡ lowest (cond b (p.step ∷ steps_at c ps) (steps_at c ps)) +ℤ lowest (steps_at c qs))
        × (highest (cond b (p.step ∷ steps_at c (ps ++ qs)) (steps_at c (ps ++ qs))) ≡ highest (cond b (p.step ∷ steps_at c ps) (steps_at c ps)) +ℤ highest (steps_at c qs))
    go true h = let x = h.0 in let y = h.1 in (omega (arith, ints, x), omega (arith, ints, y))
    go false h = h

-- there is room for the entries, where there is for those set aside and those pending
pub room_granted : (n : Count) (c : ℕ) (aside pending : List Pending) (es : List Entry) → up_sum c es ≡ pos 0 → down_sum c es ≡ pos 0
    → Wider (steps_at c aside) (steps_at c (backs es)) → Wider (steps_at c pending) (steps_at c (adds es)) → HasRoom n (steps_at c (aside ++ pending)) → HasRoom n (forward_at c es)
room_granted n c aside pending es up down kept standing h =
    let s = steps_append c aside pending in let s0 = s.0 in let s1 = s.1 in
    let a = low_parts c es in let b = high_parts c es in
    let k0 = kept.lows in let k1 = kept.highs in let t0 = standing.lows in let t1 = standing.highs in
    let l = h.low in let u = h.high in
    record { low = omega (arith, ints, s0, a, k0, t0, l, down); high = omega (arith, ints, s1, b, k1, t1, u, up) }

-- fewer adds leave room
pub room_aside : (n : Count) (c : ℕ) (aside pending kept left : List Pending) → Wider (steps_at c aside) (steps_at c kept) → Wider (steps_at c pending) (steps_at c left) → HasRoom n (steps_at c (aside ++ pending))
    → HasRoom n (steps_at c (kept ++ left))
room_aside n c aside pending kept left x y h =
    let s = steps_append c aside pending in let s0 = s.0 in let s1 = s.1 in
    let t = steps_append c kept left in let t0 = t.0 in let t1 = t.1 in
    let k0 = x.lows in let k1 = x.highs in let j0 = y.lows in let j1 = y.highs in
    let l = h.low in let u = h.high in
    record { low = omega (arith, ints, s0, t0, k0, j0, l); high = omega (arith, ints, s1, t1, k1, j1, u) }

-- ---- how far lists of adds go

pub wider_self : (xs : List ℤ) → Wider xs xs
wider_self xs = record { lows = omega (arith, ints); highs = omega (arith, ints) }

pub wider_then : (xs ys zs : List ℤ) → Wider xs ys → Wider ys zs → Wider xs zs
wider_then xs ys zs h k =
    let a = h.lows in let b = h.highs in let x = k.lows in let y = k.highs in
    record { lows = omega (arith, ints, a, x); highs = omega (arith, ints, b, y) }

pub wider_both : (c : ℕ) (xs ys zs ws : List Pending) → Wider (steps_at c xs) (steps_at c ys) → Wider (steps_at c zs) (steps_at c ws) → Wider (steps_at c (xs ++ zs)) (steps_at c (ys ++ ws))
wider_both c xs ys zs ws h k =
    let a = h.lows in let b = h.highs in let x = k.lows in let y = k.highs in
    let s = steps_append c xs zs in let s0 = s.0 in let s1 = s.1 in let t = steps_append c ys ws in let t0 = t.0 in let t1 = t.1 in
    record { lows = omega (arith, ints, a, x, s0, t0); highs = omega (arith, ints, b, y, s1, t1) }

wider_step : (b t : Bool) (d : ℤ) (xs ys : List ℤ) → Wider xs ys → Wider (cond b (d ∷ xs) xs) (cond t (cond b (d ∷ ys) ys) ys)
wider_step true true d xs ys h = let x = h.lows in let y = h.highs in record { lows = omega (arith, ints, x); highs = omega (arith, ints, y) }
wider_step true false d xs ys h = let x = h.lows in let y = h.highs in let p = below_is d in let q = above_is d in record { lows = omega (arith, ints, x, p); highs = omega (arith, ints, y, q) }
wider_step false true d xs ys h = h
wider_step false false d xs ys h = h

steps_cond : (c : ℕ) (t : Bool) (p : Pending) (ps : List Pending) → steps_at c (cond t (p ∷ ps) ps) ≡ cond t (cond (p.counter == c) (p.step ∷ steps_at c ps) (steps_at c ps)) (steps_at c ps)
steps_cond c true p ps = refl
steps_cond c false p ps = refl

-- fewer adds go less far
pub wider_part : (q : Pending → Bool) (c : ℕ) (ps : List Pending) → Wider (steps_at c ps) (steps_at c (filter q ps))
wider_part q c [] = wider_self []
wider_part q c (p ∷ ps) =
    subst (Wider (steps_at c (p ∷ ps))) (sym (steps_cond c (q p) p (filter q ps)))
    (wider_step (p.counter == c) (q p) p.step (steps_at c ps) (steps_at c (filter q ps)) (wider_part q c ps))

-- ---- inverses

pub backs-append : (es fs : List Entry) → backs (es ++ fs) ≡ backs es ++ backs fs
backs-append [] fs = refl
backs-append (e ∷ es) fs = ap (back_before e.role e.txn e.op) (backs-append es fs) ∙ by_role e.role e.txn e.op (backs es) (backs fs)
  where
    go : (t : ℕ) (op : Op) (ps qs : List Pending) → opposite_before t op (ps ++ qs) ≡ opposite_before t op ps ++ qs
    go t (Add n d) ps qs = refl
    go t (Get r k) ps qs = refl
    go t (Insert r k v) ps qs = refl
    go t (Update r k v) ps qs = refl
    go t (Delete r k) ps qs = refl
    go t (Read n) ps qs = refl
    go t (Scan r) ps qs = refl

    by_role : (r : Role) (t : ℕ) (op : Op) (ps qs : List Pending) → back_before r t op (ps ++ qs) ≡ back_before r t op ps ++ qs
    by_role Stands t op ps qs = refl
    by_role TakenBack t op ps qs = refl
    by_role Back t op ps qs = go t op ps qs

back_in : (r : Role) (p : ℕ → Bool) (t : ℕ) (op : Op) (ps : List Pending) → pending_in p (back_before r t op ps) ≡ cond (p t) (back_before r t op (pending_in p ps)) (pending_in p ps)
back_in Stands p t op ps = same_choice (p t) (pending_in p ps)
  where
    same_choice : (b : Bool) (qs : List Pending) → qs ≡ cond b qs qs
    same_choice true qs = refl
    same_choice false qs = refl
back_in TakenBack p t op ps = same_choice (p t) (pending_in p ps)
  where
    same_choice : (b : Bool) (qs : List Pending) → qs ≡ cond b qs qs
    same_choice true qs = refl
    same_choice false qs = refl
back_in Back p t op ps = go op
  where
    same_choice : (b : Bool) (qs : List Pending) → qs ≡ cond b qs qs
    same_choice true qs = refl
    same_choice false qs = refl

    go : (f : Op) → pending_in p (opposite_before t f ps) ≡ cond (p t) (opposite_before t f (pending_in p ps)) (pending_in p ps)
    go (Add n d) = refl
    go (Get r k) = same_choice (p t) (pending_in p ps)
    go (Insert r k v) = same_choice (p t) (pending_in p ps)
    go (Update r k v) = same_choice (p t) (pending_in p ps)
    go (Delete r k) = same_choice (p t) (pending_in p ps)
    go (Read n) = same_choice (p t) (pending_in p ps)
    go (Scan r) = same_choice (p t) (pending_in p ps)

pub backs-kept : (p : ℕ → Bool) (es : List Entry) → backs (kept p es) ≡ pending_in p (backs es)
backs-kept p [] = refl
backs-kept p (e ∷ es) = go (p e.txn) refl (backs-kept p es) ∙ sym (back_in e.role p e.txn e.op (backs es))
  where
    go : (b : Bool) → p e.txn ≡ b → backs (kept p es) ≡ pending_in p (backs es) → backs (cond b (e ∷ kept p es) (kept p es)) ≡ cond (p e.txn) (back_before e.role e.txn e.op (pending_in p (backs es))) (pending_in p (backs es))
    go true is h = ap (back_before e.role e.txn e.op) h ∙ ap (λ v. cond v (back_before e.role e.txn e.op (pending_in p (backs es))) (pending_in p (backs es))) (sym is)
    go false is h = h ∙ ap (λ v. cond v (back_before e.role e.txn e.op (pending_in p (backs es))) (pending_in p (backs es))) (sym is)

pub in-append : (p : ℕ → Bool) (ps qs : List Pending) → pending_in p (ps ++ qs) ≡ pending_in p ps ++ pending_in p qs
in-append p ps qs = filter-append (λ (q : Pending). p q.txn) ps qs

pub in-both : (p q : ℕ → Bool) (ps : List Pending) → pending_in p (pending_in q ps) ≡ pending_in (both p q) ps
in-both p q [] = refl
in-both p q (x ∷ ps) = go (q x.txn) (p x.txn) refl (in-both p q ps)
  where
    go : (s t : Bool) → p x.txn ≡ t → pending_in p (pending_in q ps) ≡ pending_in (both p q) ps
        → pending_in p (cond s (x ∷ pending_in q ps) (pending_in q ps)) ≡ cond (t && s) (x ∷ pending_in (both p q) ps) (pending_in (both p q) ps)
    go true true b h = ap (λ w. cond w (x ∷ pending_in p (pending_in q ps)) (pending_in p (pending_in q ps))) b ∙ ap (λ z. x ∷ z) h
    go true false b h = ap (λ w. cond w (x ∷ pending_in p (pending_in q ps)) (pending_in p (pending_in q ps))) b ∙ h
    go false true b h = h
    go false false b h = h

in_all : (ps : List Pending) → pending_in (λ t. true) ps ≡ ps
in_all [] = refl
in_all (p ∷ ps) = ap (λ z. p ∷ z) (in_all ps)

-- ---- what is set aside

pub aside_all : (aside kept' : List Pending) → AreAside aside kept' → (c : ℕ) → Wider (steps_at c aside) (steps_at c kept')
aside_all aside kept' h c = subst (λ w. Wider (steps_at c w) (steps_at c kept')) (in_all aside) (subst (λ w. Wider (steps_at c (pending_in (λ t. true) aside)) (steps_at c w)) (in_all kept') (h (λ t. true) c))

-- whole transactions go
pub aside_kept : (q : ℕ → Bool) (aside : List Pending) (es : List Entry) → AreAside aside (backs es) → AreAside (pending_in q aside) (backs (kept q es))
aside_kept q aside es h p c =
    subst (λ w. Wider (steps_at c w) (steps_at c (pending_in p (backs (kept q es))))) (sym (in-both p q aside))
    (subst (λ w. Wider (steps_at c (pending_in (both p q) aside)) (steps_at c w)) (sym (ap (pending_in p) (backs-kept q es) ∙ in-both p q (backs es))) (h (both p q) c))

-- an abort cuts
pub aside_cut : (q : ℕ → Bool) (aside : List Pending) (front rest : List Entry) (e : Entry) → e.role ≡ Stands → AreAside aside (backs (front ++ e ∷ rest)) → AreAside aside (backs (front ++ kept q rest))
aside_cut q aside front rest e is h p c =
    let was : pending_in p (backs (front ++ e ∷ rest)) ≡ pending_in p (backs front) ++ pending_in p (backs rest) =
    ap (pending_in p) (backs-append front (e ∷ rest) ∙ ap (λ r. backs front ++ back_before r e.txn e.op (backs rest)) is) ∙ in-append p (backs front) (backs rest) in
    let now : pending_in p (backs (front ++ kept q rest)) ≡ pending_in p (backs front) ++ pending_in q (pending_in p (backs rest)) =
    ap (pending_in p) (backs-append front (kept q rest) ∙ ap (λ w. backs front ++ w) (backs-kept q rest)) ∙ (in-append p (backs front) (pending_in q (backs rest))
    ∙ ap (λ w. pending_in p (backs front) ++ w) (in-both p q (backs rest) ∙ (swap_both p q (backs rest) ∙ sym (in-both q p (backs rest))))) in
    wider_then (steps_at c (pending_in p aside)) (steps_at c (pending_in p (backs front) ++ pending_in p (backs rest))) (steps_at c (pending_in p (backs (front ++ kept q rest))))
    (subst (λ w. Wider (steps_at c (pending_in p aside)) (steps_at c w)) was (h p c))
    (subst (λ w. Wider (steps_at c (pending_in p (backs front) ++ pending_in p (backs rest))) (steps_at c w)) (sym now)
    (wider_both c (pending_in p (backs front)) (pending_in p (backs front)) (pending_in p (backs rest)) (pending_in q (pending_in p (backs rest)))
    (wider_self (steps_at c (pending_in p (backs front)))) (wider_part (λ (x : Pending). q x.txn) c (pending_in p (backs rest)))))
  where
    swap_both : (f g : ℕ → Bool) (ps : List Pending) → pending_in (both f g) ps ≡ pending_in (both g f) ps
    swap_both f g ps = ap (λ (k : ℕ → Bool). pending_in k ps) (λ j u. and_swap (f u) (g u) j)
      where
        and_swap : (a b : Bool) → (a && b) ≡ (b && a)
        and_swap true true = refl
        and_swap true false = refl
        and_swap false true = refl
        and_swap false false = refl

-- one is set aside as it is taken back
pub aside_more : (aside kept' more : List Pending) → AreAside aside kept' → AreAside (aside ++ more) (kept' ++ more)
aside_more aside kept' more h p c =
    subst (λ w. Wider (steps_at c w) (steps_at c (pending_in p (kept' ++ more)))) (sym (in-append p aside more))
    (subst (λ w. Wider (steps_at c (pending_in p aside ++ pending_in p more)) (steps_at c w)) (sym (in-append p kept' more))
    (wider_both c (pending_in p aside) (pending_in p kept') (pending_in p more) (pending_in p more) (h p c) (wider_self (steps_at c (pending_in p more)))))

-- the room that a commit leaves
pub room_committed : (n : Count) (c t : ℕ) (aside pending : List Pending) → HasRoom n (steps_at c (aside ++ pending))
    → HasRoom (moved n (total (steps_at c (pending_of t pending)))) (steps_at c (pending_without t aside ++ pending_without t pending))
room_committed n c t aside pending h =
    let s = steps_append c aside pending in let s0 = s.0 in let s1 = s.1 in
    let r = steps_append c (pending_without t aside) (pending_without t pending) in let r0 = r.0 in let r1 = r.1 in
    let q = shares t c pending in let q0 = q.lows in let q1 = q.highs in
    let w = wider_part (λ (p : Pending). not (p.txn == t)) c aside in let w0 = w.lows in let w1 = w.highs in
    let b = total_between (steps_at c (pending_of t pending)) in let b0 = b.0 in let b1 = b.1 in
    let l = h.low in let u = h.high in
    record { low = omega (arith, ints, s0, r0, q0, w0, b0, l); high = omega (arith, ints, s1, r1, q1, w1, b1, u) }

-- the sums are level in the end
pub level_all : (c : ℕ) (es : List Entry) → IsBallot c es → (up_sum c es ≡ pos 0) × (down_sum c es ≡ pos 0)
level_all c es h = subst (λ w. (up_sum c w ≡ pos 0) × (down_sum c w ≡ pos 0)) (kept_all es) (ballot_level c (λ t. true) es h)
