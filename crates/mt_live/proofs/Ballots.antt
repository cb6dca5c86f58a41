-- At each counter no more is taken back than was taken back before, so what counts stays in the counter's bounds.
use Rattle.std.proofs.Common.{◌≡◌, ℕ, zero, suc, ℤ, pos, negsuc, neg_ℤ, ◌+ℤ◌, ◌≤ℤ◌, Bool, true, false, cond, not, ◌==◌, ◌&&◌, List, [], ◌∷◌, ◌++◌, Option, Some, None, filter, refl, ap, sym, ◌∙◌, subst, arith}
use Rattle.std.specs.Option.{option_map}
use Rattle.std.proofs.lemmas.Int.{ints}
use Rattle.std.proofs.lemmas.Bool.Decides.{Decides-eqb}
use Rattle.std.proofs.lemmas.List.Elements.{filter-append}
use Rattle.mt_model.specs.declared.counters.Count.{Count}
use Rattle.mt_model.specs.Escrow.{below, above, total, lowest, highest, HasRoom}
use Rattle.mt_model.specs.Model.{IsInBounds, moved}
use Rattle.mt_model.proofs.Sums.{below_is, above_is, lowest_below, highest_above}
use Rattle.mt_live.specs.declared.transactions.Role.{Role}
use Rattle.mt_live.specs.declared.transactions.Role.TheVariants.{Stands, TakenBack, Back}
use Rattle.mt_live.specs.Adds.{op_step, step_before, forward_before, forward_at}
use Rattle.mt_live.specs.Entries.{Entry, with_role, kept, struck}
use Rattle.mt_live.specs.Taking.{up_by, down_by, Ballot, IsBallot}
use Rattle.mt_live.specs.Undoing.{only, others}

pub parts_are : (d : ℤ) → (below d +ℤ above d) ≡ d
parts_are (pos n) = omega (arith, ints)
parts_are (negsuc n) = omega (arith, ints)

-- the parts of the opposite step
pub below_neg : (d : ℤ) → below (neg_ℤ d) ≡ neg_ℤ (above d)
below_neg (pos zero) = refl
below_neg (pos (suc n)) = refl
below_neg (negsuc n) = refl

pub above_neg : (d : ℤ) → above (neg_ℤ d) ≡ neg_ℤ (below d)
above_neg (pos zero) = refl
above_neg (pos (suc n)) = refl
above_neg (negsuc n) = refl

-- ---- what entries add to a counter

abbrev pub steps_on : ℕ → List Entry → List ℤ
steps_on c [] = []
steps_on c (e ∷ es) = step_before (op_step c e.op) (steps_on c es)

abbrev pub up_at : ℕ → Entry → ℤ
up_at c e = up_by e.role (op_step c e.op)

abbrev pub down_at : ℕ → Entry → ℤ
down_at c e = down_by e.role (op_step c e.op)

-- the sums of what was taken back and is in the counter still
abbrev pub up_sum : ℕ → List Entry → ℤ
up_sum c [] = pos 0
up_sum c (e ∷ es) = up_at c e +ℤ up_sum c es

abbrev pub down_sum : ℕ → List Entry → ℤ
down_sum c [] = pos 0
down_sum c (e ∷ es) = down_at c e +ℤ down_sum c es

abbrev ups : ℕ → ℤ → List Entry → ℤ
ups c u [] = u
ups c u (e ∷ es) = ups c (u +ℤ up_at c e) es

abbrev downs : ℕ → ℤ → List Entry → ℤ
downs c d [] = d
downs c d (e ∷ es) = downs c (d +ℤ down_at c e) es

-- no beginning takes back more than was taken back
abbrev Open : ℕ → ℤ → ℤ → List Entry → Type 0
Open c u d [] = (pos 0 ≤ℤ u) × (d ≤ℤ pos 0)
Open c u d (e ∷ es) = (pos 0 ≤ℤ u) × (d ≤ℤ pos 0) × Open c (u +ℤ up_at c e) (d +ℤ down_at c e) es

ups_is : (c : ℕ) (u : ℤ) (es : List Entry) → ups c u es ≡ u +ℤ up_sum c es
ups_is c u [] = omega (arith, ints)
ups_is c u (e ∷ es) = let rest = ups_is c (u +ℤ up_at c e) es in omega (arith, ints, rest)

downs_is : (c : ℕ) (d : ℤ) (es : List Entry) → downs c d es ≡ d +ℤ down_sum c es
downs_is c d [] = omega (arith, ints)
downs_is c d (e ∷ es) = let rest = downs_is c (d +ℤ down_at c e) es in omega (arith, ints, rest)

opened : (c : ℕ) (u d : ℤ) (es : List Entry) → Ballot c u d es → Open c u d es × ((u +ℤ up_sum c es) ≡ pos 0) × ((d +ℤ down_sum c es) ≡ pos 0)
opened c u d [] h = let x = h.0 in let y = h.1 in ((omega (arith, ints), omega (arith, ints)), omega (arith, ints), omega (arith, ints))
opened c u d (e ∷ es) h =
    let rest = opened c (u +ℤ up_at c e) (d +ℤ down_at c e) es h.2 in
    let x = rest.1 in let y = rest.2 in
    ((h.0, h.1, rest.0), omega (arith, ints), omega (arith, ints))

closed : (c : ℕ) (u d : ℤ) (es : List Entry) → Open c u d es → (u +ℤ up_sum c es) ≡ pos 0 → (d +ℤ down_sum c es) ≡ pos 0 → Ballot c u d es
closed c u d [] h a b = (omega (arith, ints), omega (arith, ints))
closed c u d (e ∷ es) h a b = (h.0, h.1, closed c (u +ℤ up_at c e) (d +ℤ down_at c e) es h.2 (omega (arith, ints)) (omega (arith, ints)))

open_front : (c : ℕ) (u d : ℤ) (xs ys : List Entry) → Open c u d (xs ++ ys) → Open c u d xs
open_front c u d [] [] h = h
open_front c u d [] (y ∷ ys) h = (h.0, h.1)
open_front c u d (x ∷ xs) ys h = (h.0, h.1, open_front c (u +ℤ up_at c x) (d +ℤ down_at c x) xs ys h.2)

open_back : (c : ℕ) (u d : ℤ) (xs ys : List Entry) → Open c u d (xs ++ ys) → Open c (ups c u xs) (downs c d xs) ys
open_back c u d [] ys h = h
open_back c u d (x ∷ xs) ys h = open_back c (u +ℤ up_at c x) (d +ℤ down_at c x) xs ys h.2

open_join : (c : ℕ) (u d : ℤ) (xs ys : List Entry) → Open c u d xs → Open c (ups c u xs) (downs c d xs) ys → Open c u d (xs ++ ys)
open_join c u d [] ys h k = k
open_join c u d (x ∷ xs) ys h k = (h.0, h.1, open_join c (u +ℤ up_at c x) (d +ℤ down_at c x) xs ys h.2 k)

open_end : (c : ℕ) (u d : ℤ) (xs : List Entry) → Open c u d xs → (pos 0 ≤ℤ ups c u xs) × (downs c d xs ≤ℤ pos 0)
open_end c u d [] h = h
open_end c u d (x ∷ xs) h = open_end c (u +ℤ up_at c x) (d +ℤ down_at c x) xs h.2

open_more : (c : ℕ) (u d v f : ℤ) (es : List Entry) → u ≤ℤ v → f ≤ℤ d → Open c u d es → Open c v f es
open_more c u d v f [] a b h = let x = h.0 in let y = h.1 in (omega (arith, ints), omega (arith, ints))
open_more c u d v f (e ∷ es) a b h =
    let x = h.0 in let y = h.1 in
    (omega (arith, ints), omega (arith, ints), open_more c (u +ℤ up_at c e) (d +ℤ down_at c e) (v +ℤ up_at c e) (f +ℤ down_at c e) es (omega (arith, ints)) (omega (arith, ints)) h.2)

up_sum-append : (c : ℕ) (xs ys : List Entry) → up_sum c (xs ++ ys) ≡ up_sum c xs +ℤ up_sum c ys
up_sum-append c [] ys = omega (arith, ints)
up_sum-append c (x ∷ xs) ys = let rest = up_sum-append c xs ys in omega (arith, ints, rest)

down_sum-append : (c : ℕ) (xs ys : List Entry) → down_sum c (xs ++ ys) ≡ down_sum c xs +ℤ down_sum c ys
down_sum-append c [] ys = omega (arith, ints)
down_sum-append c (x ∷ xs) ys = let rest = down_sum-append c xs ys in omega (arith, ints, rest)

-- ---- bounds

-- each beginning of the steps leaves the counter in its bounds
abbrev pub Stays : Count → List ℤ → Type 0
Stays n [] = IsInBounds n
Stays n (d ∷ ds) = IsInBounds n × Stays (moved n d) ds

stays_step : (n : Count) (u d : ℤ) (fs ds : List ℤ) (r : Role) (x : Option ℤ) → (pos 0 ≤ℤ u) → (d ≤ℤ pos 0)
    → (n.low +ℤ u) ≤ℤ (n.number +ℤ lowest (forward_before r x fs)) → (n.number +ℤ highest (forward_before r x fs)) ≤ℤ (n.high +ℤ d)
    → ((k : Count) → (k.low +ℤ (u +ℤ up_by r x)) ≤ℤ (k.number +ℤ lowest fs) → (k.number +ℤ highest fs) ≤ℤ (k.high +ℤ (d +ℤ down_by r x)) → Stays k ds)
    → Stays n (step_before x ds)
stays_step n u d fs ds Stands None up down a b rec = rec n (omega (arith, ints)) (omega (arith, ints))
stays_step n u d fs ds TakenBack None up down a b rec = rec n (omega (arith, ints)) (omega (arith, ints))
stays_step n u d fs ds Back None up down a b rec = rec n (omega (arith, ints)) (omega (arith, ints))
stays_step n u d fs ds Stands (Some s) up down a b rec =
    let l = lowest_below fs in let h = highest_above fs in let x = below_is s in let y = above_is s in
    (record { not_under = omega (arith, ints); not_over = omega (arith, ints) }, rec (moved n s) (omega (arith, ints)) (omega (arith, ints)))
stays_step n u d fs ds TakenBack (Some s) up down a b rec =
    let l = lowest_below fs in let h = highest_above fs in let x = below_is s in let y = above_is s in let z = parts_are s in
    (record { not_under = omega (arith, ints); not_over = omega (arith, ints) }, rec (moved n s) (omega (arith, ints)) (omega (arith, ints)))
stays_step n u d fs ds Back (Some s) up down a b rec =
    let l = lowest_below fs in let h = highest_above fs in let x = below_is s in let y = above_is s in
    (record { not_under = omega (arith, ints); not_over = omega (arith, ints) }, rec (moved n s) (omega (arith, ints)) (omega (arith, ints)))

stays_from : (c : ℕ) (n : Count) (es : List Entry) (u d : ℤ) → (n.low +ℤ u) ≤ℤ (n.number +ℤ lowest (forward_at c es)) → (n.number +ℤ highest (forward_at c es)) ≤ℤ (n.high +ℤ d)
    → Open c u d es → Stays n (steps_on c es)
stays_from c n [] u d a b h =
    let x = h.0 in let y = h.1 in record { not_under = omega (arith, ints); not_over = omega (arith, ints) }
stays_from c n (e ∷ es) u d a b h =
    stays_step n u d (forward_at c es) (steps_on c es) e.role (op_step c e.op) h.0 h.1 a b
    (λ k low high. stays_from c k es (u +ℤ up_at c e) (d +ℤ down_at c e) low high h.2)

pub forward_wider : (r : Role) (x : Option ℤ) (fs gs : List ℤ) → (lowest fs ≤ℤ lowest gs) × (highest gs ≤ℤ highest fs)
    → ((lowest (forward_before r x fs) ≤ℤ lowest (forward_before r x gs)) × (highest (forward_before r x gs) ≤ℤ highest (forward_before r x fs)))
    × ((lowest (forward_before r x fs) ≤ℤ lowest gs) × (highest gs ≤ℤ highest (forward_before r x fs)))
forward_wider Stands None fs gs h = (h, h)
forward_wider TakenBack None fs gs h = (h, h)
forward_wider Back x fs gs h = (h, h)
forward_wider Stands (Some s) fs gs h = let x = h.0 in let y = h.1 in let p = below_is s in let q = above_is s in ((omega (arith, ints), omega (arith, ints)), (omega (arith, ints), omega (arith, ints)))
forward_wider TakenBack (Some s) fs gs h = let x = h.0 in let y = h.1 in let p = below_is s in let q = above_is s in ((omega (arith, ints), omega (arith, ints)), (omega (arith, ints), omega (arith, ints)))

-- fewer entries go less far
pub picked_wider : (c : ℕ) (q : Entry → Bool) (es : List Entry) → (lowest (forward_at c es) ≤ℤ lowest (forward_at c (filter q es))) × (highest (forward_at c (filter q es)) ≤ℤ highest (forward_at c es))
picked_wider c q [] = (omega (arith, ints), omega (arith, ints))
picked_wider c q (e ∷ es) = go (q e) (forward_wider e.role (op_step c e.op) (forward_at c es) (forward_at c (filter q es)) (picked_wider c q es))
  where
    go : (t : Bool) → ((lowest (forward_at c (e ∷ es)) ≤ℤ lowest (forward_at c (e ∷ filter q es))) × (highest (forward_at c (e ∷ filter q es)) ≤ℤ highest (forward_at c (e ∷ es))))
        × ((lowest (forward_at c (e ∷ es)) ≤ℤ lowest (forward_at c (filter q es))) × (highest (forward_at c (filter q es)) ≤ℤ highest (forward_at c (e ∷ es))))
        → (lowest (forward_at c (e ∷ es)) ≤ℤ lowest (forward_at c (cond t (e ∷ filter q es) (filter q es)))) × (highest (forward_at c (cond t (e ∷ filter q es) (filter q es))) ≤ℤ highest (forward_at c (e ∷ es)))
    go true h = h.0
    go false h = h.1

pub kept_wider : (c : ℕ) (p : ℕ → Bool) (es : List Entry) → (lowest (forward_at c es) ≤ℤ lowest (forward_at c (kept p es))) × (highest (forward_at c (kept p es)) ≤ℤ highest (forward_at c es))
kept_wider c p es = picked_wider c (λ (e : Entry). p e.txn) es

-- with less to come there is room still
pub room_picked : (n : Count) (c : ℕ) (q : Entry → Bool) (es : List Entry) → HasRoom n (forward_at c es) → HasRoom n (forward_at c (filter q es))
room_picked n c q es h =
    let w = picked_wider c q es in let x = w.0 in let y = w.1 in let l = h.low in let u = h.high in
    record { low = omega (arith, ints); high = omega (arith, ints) }

pub room_kept : (n : Count) (c : ℕ) (p : ℕ → Bool) (es : List Entry) → HasRoom n (forward_at c es) → HasRoom n (forward_at c (kept p es))
room_kept n c p es h = room_picked n c (λ (e : Entry). p e.txn) es h

-- whichever transactions are struck out, the counter stays in its bounds
pub stays : (n : Count) (c : ℕ) (es : List Entry) → HasRoom n (forward_at c es) → IsBallot c es → (p : ℕ → Bool) → Stays n (steps_on c (kept p es))
stays n c es room ballot p =
    let r = room_kept n c p es room in let l = r.low in let u = r.high in
    stays_from c n (kept p es) (pos 0) (pos 0) (omega (arith, ints)) (omega (arith, ints)) (opened c (pos 0) (pos 0) (kept p es) (ballot p)).0

-- ---- kept lists

pub kept-append : (p : ℕ → Bool) (xs ys : List Entry) → kept p (xs ++ ys) ≡ kept p xs ++ kept p ys
kept-append p xs ys = filter-append (λ (e : Entry). p e.txn) xs ys

pub kept_all : (es : List Entry) → kept (λ t. true) es ≡ es
kept_all [] = refl
kept_all (e ∷ es) = ap (λ z. e ∷ z) (kept_all es)

pub stays_all : (n : Count) (c : ℕ) (es : List Entry) → HasRoom n (forward_at c es) → IsBallot c es → Stays n (steps_on c es)
stays_all n c es room ballot = subst (λ w. Stays n (steps_on c w)) (kept_all es) (stays n c es room ballot (λ t. true))

abbrev pub but : (ℕ → Bool) → ℕ → ℕ → Bool
but p t u = p u && not (u == t)

abbrev pub both : (ℕ → Bool) → (ℕ → Bool) → ℕ → Bool
both p q u = p u && q u

pub kept-both : (p q : ℕ → Bool) (es : List Entry) → kept p (kept q es) ≡ kept (both p q) es
kept-both p q [] = refl
kept-both p q (e ∷ es) = go (q e.txn) (p e.txn) refl refl (kept-both p q es)
  where
    go : (s t : Bool) → q e.txn ≡ s → p e.txn ≡ t → kept p (kept q es) ≡ kept (both p q) es
        → kept p (cond s (e ∷ kept q es) (kept q es)) ≡ cond (t && s) (e ∷ kept (both p q) es) (kept (both p q) es)
    go true true a b h = ap (λ w. cond w (e ∷ kept p (kept q es)) (kept p (kept q es))) b ∙ ap (λ z. e ∷ z) h
    go true false a b h = ap (λ w. cond w (e ∷ kept p (kept q es)) (kept p (kept q es))) b ∙ h
    go false true a b h = h
    go false false a b h = h

kept_one : (p : ℕ → Bool) (e : Entry) (es : List Entry) (q : Bool) → p e.txn ≡ q → kept p (e ∷ es) ≡ cond q (e ∷ kept p es) (kept p es)
kept_one p e es q h = ap (λ w. cond w (e ∷ kept p es) (kept p es)) h

-- whole transactions go
pub ballot_kept : (c : ℕ) (q : ℕ → Bool) (es : List Entry) → IsBallot c es → IsBallot c (kept q es)
ballot_kept c q es h p = subst (λ z. Ballot c (pos 0) (pos 0) z) (sym (kept-both p q es)) (h (both p q))

-- ---- an operation ends

pub none_up : (r : Role) (x : Option ℤ) → r ≡ Stands → (up_by r x ≡ pos 0) × (down_by r x ≡ pos 0)
none_up r None is = (refl, refl)
none_up r (Some d) is = (ap (λ z. up_by z (Some d)) is, ap (λ z. down_by z (Some d)) is)

-- nothing was taken back by an entry that stands, nor by one that is no add
pub ballot_more : (c : ℕ) (es : List Entry) (e : Entry) → e.role ≡ Stands → IsBallot c es → IsBallot c (es ++ e ∷ [])
ballot_more c es e is h p = subst (λ z. Ballot c (pos 0) (pos 0) z) (sym (kept-append p es (e ∷ []))) (go (p e.txn) refl)
  where
    old : Open c (pos 0) (pos 0) (kept p es) × ((pos 0 +ℤ up_sum c (kept p es)) ≡ pos 0) × ((pos 0 +ℤ down_sum c (kept p es)) ≡ pos 0)
    old = opened c (pos 0) (pos 0) (kept p es) (h p)

    go : (q : Bool) → p e.txn ≡ q → Ballot c (pos 0) (pos 0) (kept p es ++ kept p (e ∷ []))
    go true at =
        let nothing = none_up e.role (op_step c e.op) is in
        let x = nothing.0 in let y = nothing.1 in
        let ends = open_end c (pos 0) (pos 0) (kept p es) old.0 in
        let a = ends.0 in let b = ends.1 in
        let one : Open c (ups c (pos 0) (kept p es)) (downs c (pos 0) (kept p es)) (e ∷ []) = (a, b, (omega (arith, ints), omega (arith, ints))) in
        let u = old.1 in let d = old.2 in
        let us = up_sum-append c (kept p es) (e ∷ []) in let ds = down_sum-append c (kept p es) (e ∷ []) in
        subst (λ z. Ballot c (pos 0) (pos 0) (kept p es ++ z)) (sym (kept_one p e [] true at))
        (closed c (pos 0) (pos 0) (kept p es ++ e ∷ []) (open_join c (pos 0) (pos 0) (kept p es) (e ∷ []) old.0 one) (omega (arith, ints)) (omega (arith, ints)))
    go false at =
        subst (λ z. Ballot c (pos 0) (pos 0) (kept p es ++ z)) (sym (kept_one p e [] false at))
        (subst (λ z. Ballot c (pos 0) (pos 0) z) (sym (append-nil (kept p es))) (h p))
      where
        append-nil : (xs : List Entry) → xs ++ [] ≡ xs
        append-nil [] = refl
        append-nil (x ∷ xs) = ap (λ z. x ∷ z) (append-nil xs)

-- ---- an entry is taken back

pub record TakesPart (r : Role) (x y : Option ℤ) : Type 0 where
  pub up : pos 0 ≤ℤ up_by TakenBack x
  pub down : down_by TakenBack x ≤ℤ pos 0
  pub ups : (up_by TakenBack x +ℤ up_by r y) ≡ pos 0
  pub downs : (down_by TakenBack x +ℤ down_by r y) ≡ pos 0

back_part : (x y : Option ℤ) (r : Role) → r ≡ Back → y ≡ option_map neg_ℤ x → TakesPart r x y
back_part None y r role is =
    let same : TakesPart Back None None = record { up = omega (arith, ints); down = omega (arith, ints); ups = omega (arith, ints); downs = omega (arith, ints) } in
    subst (λ q. TakesPart q None y) (sym role) (subst (λ z. TakesPart Back None z) (sym is) same)
back_part (Some d) y r role is =
    let a = below_is d in let b = above_is d in let f = below_neg d in let g = above_neg d in
    let same : TakesPart Back (Some d) (Some (neg_ℤ d)) = record { up = omega (arith, ints); down = omega (arith, ints); ups = omega (arith, ints, f); downs = omega (arith, ints, g) } in
    subst (λ q. TakesPart q (Some d) y) (sym role) (subst (λ z. TakesPart Back (Some d) z) (sym is) same)

-- the inverse adds the opposite step
pub record IsBackOf (c : ℕ) (e b : Entry) : Type 0 where
  pub txn : b.txn ≡ e.txn
  pub role : b.role ≡ Back
  pub step : op_step c b.op ≡ option_map neg_ℤ (op_step c e.op)

append-nil : (xs : List Entry) → xs ++ [] ≡ xs
append-nil [] = refl
append-nil (x ∷ xs) = ap (λ z. x ∷ z) (append-nil xs)

pub ballot_back : (c : ℕ) (front rest : List Entry) (e b : Entry) → e.role ≡ Stands → IsBackOf c e b → IsBallot c (front ++ e ∷ rest)
    → IsBallot c (front ++ with_role TakenBack e ∷ (rest ++ b ∷ []))
ballot_back c front rest e b is back h p =
    subst (λ z. Ballot c (pos 0) (pos 0) z) (sym (kept-append p front (e' ∷ (rest ++ b ∷ [])))) (go (p e.txn) refl)
  where
    e' : Entry
    e' = with_role TakenBack e

    F : List Entry
    F = kept p front

    R : List Entry
    R = kept p rest

    old : Ballot c (pos 0) (pos 0) (F ++ kept p (e ∷ rest))
    old = subst (λ z. Ballot c (pos 0) (pos 0) z) (kept-append p front (e ∷ rest)) (h p)

    its : p b.txn ≡ p e.txn
    its = ap p back.txn

    go : (q : Bool) → p e.txn ≡ q → Ballot c (pos 0) (pos 0) (F ++ kept p (e' ∷ (rest ++ b ∷ [])))
    go true at =
        let was : Ballot c (pos 0) (pos 0) (F ++ e ∷ R) = subst (λ z. Ballot c (pos 0) (pos 0) (F ++ z)) (kept_one p e rest true at) old in
        let same : kept p (e' ∷ (rest ++ b ∷ [])) ≡ e' ∷ (R ++ b ∷ []) =
        kept_one p e' (rest ++ b ∷ []) true at ∙ ap (λ z. e' ∷ z) (kept-append p rest (b ∷ []) ∙ ap (λ z. R ++ z) (kept_one p b [] true (its ∙ at))) in
        let o = opened c (pos 0) (pos 0) (F ++ e ∷ R) was in
        let part = back_part (op_step c e.op) (op_step c b.op) b.role back.role back.step in
        let nothing = none_up e.role (op_step c e.op) is in
        let u0 = ups c (pos 0) F in let d0 = downs c (pos 0) F in
        let second = open_back c (pos 0) (pos 0) F (e ∷ R) o.0 in
        let ua = up_at c e' in let da = down_at c e' in
        let p0 = part.up in let p1 = part.down in let p2 = part.ups in let p3 = part.downs in
        let n0 = nothing.0 in let n1 = nothing.1 in
        let s0 = second.0 in let s1 = second.1 in
        let inner = open_more c (u0 +ℤ up_at c e) (d0 +ℤ down_at c e) (u0 +ℤ ua) (d0 +ℤ da) R (omega (arith, ints, n0, p0)) (omega (arith, ints, n1, p1)) second.2 in
        let before = open_end c (u0 +ℤ up_at c e) (d0 +ℤ down_at c e) R second.2 in
        let first = open_end c (u0 +ℤ ua) (d0 +ℤ da) R inner in
        let b0 = before.0 in let b1 = before.1 in
        let i0 = ups_is c (u0 +ℤ up_at c e) R in let i1 = downs_is c (d0 +ℤ down_at c e) R in
        let j0 = ups_is c (u0 +ℤ ua) R in let j1 = downs_is c (d0 +ℤ da) R in
        let last : Open c (ups c (u0 +ℤ ua) R) (downs c (d0 +ℤ da) R) (b ∷ []) =
        (first.0, first.1, (omega (arith, ints, b0, i0, j0, p2, n0), omega (arith, ints, b1, i1, j1, p3, n1))) in
        let whole : Open c (pos 0) (pos 0) (F ++ e' ∷ (R ++ b ∷ [])) =
        open_join c (pos 0) (pos 0) F (e' ∷ (R ++ b ∷ [])) (open_front c (pos 0) (pos 0) F (e ∷ R) o.0)
        (s0, s1, open_join c (u0 +ℤ ua) (d0 +ℤ da) R (b ∷ []) inner last) in
        let a0 = up_sum-append c F (e ∷ R) in let a1 = down_sum-append c F (e ∷ R) in
        let c0 = up_sum-append c F (e' ∷ (R ++ b ∷ [])) in let c1 = down_sum-append c F (e' ∷ (R ++ b ∷ [])) in
        let f0 = up_sum-append c R (b ∷ []) in let f1 = down_sum-append c R (b ∷ []) in
        let x0 = o.1 in let x1 = o.2 in
        subst (λ z. Ballot c (pos 0) (pos 0) (F ++ z)) (sym same)
        (closed c (pos 0) (pos 0) (F ++ e' ∷ (R ++ b ∷ [])) whole (omega (arith, ints, a0, c0, f0, x0, p2, n0)) (omega (arith, ints, a1, c1, f1, x1, p3, n1)))
    go false at =
        let same : kept p (e' ∷ (rest ++ b ∷ [])) ≡ kept p (e ∷ rest) =
        kept_one p e' (rest ++ b ∷ []) false at
        ∙ (kept-append p rest (b ∷ []) ∙ (ap (λ z. R ++ z) (kept_one p b [] false (its ∙ at)) ∙ (append-nil R ∙ sym (kept_one p e rest false at)))) in
        subst (λ z. Ballot c (pos 0) (pos 0) (F ++ z)) (sym same) old

-- ---- an abort cuts

eq_self : (a : ℕ) → (a == a) ≡ true
eq_self a = (Decides-eqb a a).1 refl

-- the sums are the others' and the transaction's
up_parts : (c : ℕ) (p : ℕ → Bool) (t : ℕ) → p t ≡ true → (es : List Entry) → up_sum c (kept p es) ≡ up_sum c (kept (but p t) es) +ℤ up_sum c (kept (only t) es)
up_parts c p t has [] = omega (arith, ints)
up_parts c p t has (e ∷ es) = go (e.txn == t) refl (p e.txn) refl (up_parts c p t has es)
  where
    go : (s : Bool) → (e.txn == t) ≡ s → (q : Bool) → p e.txn ≡ q → up_sum c (kept p es) ≡ up_sum c (kept (but p t) es) +ℤ up_sum c (kept (only t) es)
        → up_sum c (cond q (e ∷ kept p es) (kept p es)) ≡ up_sum c (cond (q && not s) (e ∷ kept (but p t) es) (kept (but p t) es)) +ℤ up_sum c (cond s (e ∷ kept (only t) es) (kept (only t) es))
    go true own true at rec = omega (arith, ints, rec)
    go true own false at rec = let wrong : false ≡ true = sym at ∙ (ap p ((Decides-eqb e.txn t).0 own) ∙ has) in absurd cc
    go false own true at rec = omega (arith, ints, rec)
    go false own false at rec = rec

down_parts : (c : ℕ) (p : ℕ → Bool) (t : ℕ) → p t ≡ true → (es : List Entry) → down_sum c (kept p es) ≡ down_sum c (kept (but p t) es) +ℤ down_sum c (kept (only t) es)
down_parts c p t has [] = omega (arith, ints)
down_parts c p t has (e ∷ es) = go (e.txn == t) refl (p e.txn) refl (down_parts c p t has es)
  where
    go : (s : Bool) → (e.txn == t) ≡ s → (q : Bool) → p e.txn ≡ q → down_sum c (kept p es) ≡ down_sum c (kept (but p t) es) +ℤ down_sum c (kept (only t) es)
        → down_sum c (cond q (e ∷ kept p es) (kept p es)) ≡ down_sum c (cond (q && not s) (e ∷ kept (but p t) es) (kept (but p t) es)) +ℤ down_sum c (cond s (e ∷ kept (only t) es) (kept (only t) es))
    go true own true at rec = omega (arith, ints, rec)
    go true own false at rec = let wrong : false ≡ true = sym at ∙ (ap p ((Decides-eqb e.txn t).0 own) ∙ has) in absurd cc
    go false own true at rec = omega (arith, ints, rec)
    go false own false at rec = rec

pub record Balanced (c t : ℕ) (es : List Entry) : Type 0 where
  pub up : up_sum c (kept (only t) es) ≡ pos 0
  pub down : down_sum c (kept (only t) es) ≡ pos 0

-- an entry that stands goes, and those of its transaction behind it, which took nothing away
pub ballot_cut : (c t : ℕ) (front rest : List Entry) (e : Entry) → e.txn ≡ t → e.role ≡ Stands → Balanced c t rest → IsBallot c (front ++ e ∷ rest) → IsBallot c (front ++ kept (others t) rest)
ballot_cut c t front rest e mine is level h p =
    subst (λ z. Ballot c (pos 0) (pos 0) z) (sym (kept-append p front (kept (others t) rest)))
    (subst (λ z. Ballot c (pos 0) (pos 0) (kept p front ++ z)) (sym (kept-both p (others t) rest)) (go (p t) refl))
  where
    own : (e.txn == t) ≡ true
    own = (Decides-eqb e.txn t).1 mine

    not_own : but p t e.txn ≡ false
    not_own = ap (λ s. p e.txn && not s) own ∙ and_false (p e.txn)
      where
        and_false : (q : Bool) → (q && false) ≡ false
        and_false true = refl
        and_false false = refl

    less : Ballot c (pos 0) (pos 0) (kept (but p t) front ++ kept (but p t) rest)
    less = subst (λ z. Ballot c (pos 0) (pos 0) (kept (but p t) front ++ z)) (kept_one (but p t) e rest false not_own) (subst (λ z. Ballot c (pos 0) (pos 0) z) (kept-append (but p t) front (e ∷ rest)) (h (but p t)))

    mine_all : Ballot c (pos 0) (pos 0) (kept (only t) front ++ e ∷ kept (only t) rest)
    mine_all = subst (λ z. Ballot c (pos 0) (pos 0) (kept (only t) front ++ z)) (kept_one (only t) e rest true own) (subst (λ z. Ballot c (pos 0) (pos 0) z) (kept-append (only t) front (e ∷ rest)) (h (only t)))

    go : (q : Bool) → p t ≡ q → Ballot c (pos 0) (pos 0) (kept p front ++ kept (but p t) rest)
    go true at =
        let A : List Entry = kept (but p t) front in
        let B : List Entry = kept (but p t) rest in
        let P : List Entry = kept p front in
        let T : List Entry = kept (only t) front in
        let all : Ballot c (pos 0) (pos 0) (P ++ kept p (e ∷ rest)) = subst (λ z. Ballot c (pos 0) (pos 0) z) (kept-append p front (e ∷ rest)) (h p) in
        let whole = opened c (pos 0) (pos 0) (P ++ kept p (e ∷ rest)) all in
        let few = opened c (pos 0) (pos 0) (A ++ B) less in
        let its = opened c (pos 0) (pos 0) (T ++ e ∷ kept (only t) rest) mine_all in
        let its0 = its.1 in let its1 = its.2 in
        let t0 = up_sum-append c T (e ∷ kept (only t) rest) in let t1 = down_sum-append c T (e ∷ kept (only t) rest) in
        let nothing = none_up e.role (op_step c e.op) is in
        let n0 = nothing.0 in let n1 = nothing.1 in
        let l0 = level.up in let l1 = level.down in
        let u = up_parts c p t at front in let d = down_parts c p t at front in
        let a0 = ups_is c (pos 0) A in let a1 = downs_is c (pos 0) A in
        let p0 = ups_is c (pos 0) P in let p1 = downs_is c (pos 0) P in
        let more : ups c (pos 0) A ≤ℤ ups c (pos 0) P = omega (arith, ints, its0, t0, n0, l0, u, a0, p0) in
        let under : downs c (pos 0) P ≤ℤ downs c (pos 0) A = omega (arith, ints, its1, t1, n1, l1, d, a1, p1) in
        let joined : Open c (pos 0) (pos 0) (P ++ B) =
        open_join c (pos 0) (pos 0) P B (open_front c (pos 0) (pos 0) P (kept p (e ∷ rest)) whole.0)
        (open_more c (ups c (pos 0) A) (downs c (pos 0) A) (ups c (pos 0) P) (downs c (pos 0) P) B more under (open_back c (pos 0) (pos 0) A B few.0)) in
        let f0 = few.1 in let f1 = few.2 in
        let s0 = up_sum-append c A B in let s1 = down_sum-append c A B in
        let r0 = up_sum-append c P B in let r1 = down_sum-append c P B in
        closed c (pos 0) (pos 0) (P ++ B) joined (omega (arith, ints, f0, s0, r0, u, its0, t0, n0, l0)) (omega (arith, ints, f1, s1, r1, d, its1, t1, n1, l1))
    go false at =
        let same : kept (but p t) rest ≡ kept p rest = ap (λ (f : ℕ → Bool). kept f rest) (λ i u. same_test u (u == t) refl i) in
        subst (λ z. Ballot c (pos 0) (pos 0) (kept p front ++ z)) (sym same)
        (subst (λ z. Ballot c (pos 0) (pos 0) (kept p front ++ z)) (kept_one p e rest false (ap p mine ∙ at)) (subst (λ z. Ballot c (pos 0) (pos 0) z) (kept-append p front (e ∷ rest)) (h p)))
      where
        same_test : (u : ℕ) (s : Bool) → (u == t) ≡ s → (p u && not s) ≡ p u
        same_test u true now = ap (λ v. p v && false) ((Decides-eqb u t).0 now) ∙ (ap (λ w. w && false) at ∙ (sym at ∙ ap p (sym ((Decides-eqb u t).0 now))))
        same_test u false now = and_true (p u)
          where
            and_true : (q : Bool) → (q && true) ≡ q
            and_true true = refl
            and_true false = refl

-- ---- sums

-- what is taken back is out of the counter in the end
pub ballot_level : (c : ℕ) (p : ℕ → Bool) (es : List Entry) → IsBallot c es → (up_sum c (kept p es) ≡ pos 0) × (down_sum c (kept p es) ≡ pos 0)
ballot_level c p es h =
    let o = opened c (pos 0) (pos 0) (kept p es) (h p) in let x = o.1 in let y = o.2 in
    (omega (arith, ints, x), omega (arith, ints, y))

between_step : (r : Role) (x : Option ℤ) (fs ds : List ℤ) (u d : ℤ) → (lowest fs +ℤ u) ≤ℤ total ds → total ds ≤ℤ (highest fs +ℤ d)
    → ((lowest (forward_before r x fs) +ℤ (up_by r x +ℤ u)) ≤ℤ total (step_before x ds)) × (total (step_before x ds) ≤ℤ (highest (forward_before r x fs) +ℤ (down_by r x +ℤ d)))
between_step Stands None fs ds u d a b = (omega (arith, ints, a), omega (arith, ints, b))
between_step TakenBack None fs ds u d a b = (omega (arith, ints, a), omega (arith, ints, b))
between_step Back None fs ds u d a b = (omega (arith, ints, a), omega (arith, ints, b))
between_step Stands (Some s) fs ds u d a b = let x = below_is s in let y = above_is s in (omega (arith, ints, a), omega (arith, ints, b))
between_step TakenBack (Some s) fs ds u d a b = let x = parts_are s in (omega (arith, ints, a), omega (arith, ints, b))
between_step Back (Some s) fs ds u d a b = let x = below_is s in let y = above_is s in (omega (arith, ints, a), omega (arith, ints, b))

between : (c : ℕ) (es : List Entry) → ((lowest (forward_at c es) +ℤ up_sum c es) ≤ℤ total (steps_on c es)) × (total (steps_on c es) ≤ℤ (highest (forward_at c es) +ℤ down_sum c es))
between c [] = (omega (arith, ints), omega (arith, ints))
between c (e ∷ es) =
    let rest = between c es in
    between_step e.role (op_step c e.op) (forward_at c es) (steps_on c es) (up_sum c es) (down_sum c es) rest.0 rest.1

pub record Parts (all some rest : List ℤ) : Type 0 where
  pub lows : lowest all ≡ lowest some +ℤ lowest rest
  pub highs : highest all ≡ highest some +ℤ highest rest

left_part : (r : Role) (x : Option ℤ) (a s q : List ℤ) → Parts a s q → Parts (forward_before r x a) (forward_before r x s) q × Parts (forward_before r x a) s (forward_before r x q)
left_part Stands None a s q h = (h, h)
left_part TakenBack None a s q h = (h, h)
left_part Back x a s q h = (h, h)
left_part Stands (Some d) a s q h = let y = h.lows in let z = h.highs in (record { lows = omega (arith, ints, y); highs = omega (arith, ints, z) }, record { lows = omega (arith, ints, y); highs = omega (arith, ints, z) })
left_part TakenBack (Some d) a s q h = let y = h.lows in let z = h.highs in (record { lows = omega (arith, ints, y); highs = omega (arith, ints, z) }, record { lows = omega (arith, ints, y); highs = omega (arith, ints, z) })

pub parts : (c : ℕ) (p : ℕ → Bool) (es : List Entry) → Parts (forward_at c es) (forward_at c (kept p es)) (forward_at c (struck p es))
parts c p [] = record { lows = refl; highs = refl }
parts c p (e ∷ es) = go (p e.txn) (left_part e.role (op_step c e.op) (forward_at c es) (forward_at c (kept p es)) (forward_at c (struck p es)) (parts c p es))
  where
    go : (t : Bool) → Parts (forward_at c (e ∷ es)) (forward_at c (e ∷ kept p es)) (forward_at c (struck p es)) × Parts (forward_at c (e ∷ es)) (forward_at c (kept p es)) (forward_at c (e ∷ struck p es))
        → Parts (forward_at c (e ∷ es)) (forward_at c (cond t (e ∷ kept p es) (kept p es))) (forward_at c (cond (not t) (e ∷ struck p es) (struck p es)))
    go true h = h.0
    go false h = h.1

-- the room that a commit leaves to the others
pub room_after : (n : Count) (c : ℕ) (p : ℕ → Bool) (es : List Entry) → HasRoom n (forward_at c es) → IsBallot c es → HasRoom (moved n (total (steps_on c (kept p es)))) (forward_at c (struck p es))
room_after n c p es h ballot =
    let q = parts c p es in let y = q.lows in let z = q.highs in
    let l = h.low in let u = h.high in let w = between c (kept p es) in let w0 = w.0 in let w1 = w.1 in
    let level = ballot_level c p es ballot in let v0 = level.0 in let v1 = level.1 in
    record { low = omega (arith, ints, y, l, w0, v0); high = omega (arith, ints, z, u, w1, v1) }
