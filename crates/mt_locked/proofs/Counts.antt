-- How many entries each pass has, and all together.
use Rattle.std.proofs.Common.{◌≡◌, ◌≢◌, ℕ, zero, suc, ◌+◌, ◌<◌, ◌≤◌, add-one, cond, eqb, List, [], ◌∷◌, ◌++◌, length, take, refl, ap, sym, ◌∙◌, subst, ⊎_elim, inl, inr, arith, length-append, eq-eqb, ne_eqb}
use Rattle.std.specs.Prelude.{All, slice_index_or}
use Rattle.std.proofs.lemmas.Bool.Decides.{eqb_tells}
use Rattle.std.proofs.lemmas.List.Elements.{All-head, All-tail}
use Rattle.mt_mark.proofs.Fronts.{length-labelled}
use Rattle.mt_mark.specs.Rule.{AllMade, Holds, IsFrom, NoneBy, labelled, own}
use Rattle.mt_mark.specs.declared.view.Entry.{Entry}
use Rattle.mt_model.specs.declared.history.Committed.{Committed}
use Rattle.mt_locked.specs.Seen.{PassSeen}
use Rattle.mt_locked.specs.Whole.{HasNumber, IsOfAll, all_own}

-- ---- of one pass

pub own-mine : (p : ℕ) (e : Entry) (es : List Entry) → e.pass ≡ p → own p (e ∷ es) ≡ 1 + own p es
own-mine p e es is = let mine : ◌≡◌ {A = ℕ} (cond (eqb e.pass p) 1 0) 1 = rw (eq-eqb e.pass p is) refl in omega arith

pub own-others : (p : ℕ) (e : Entry) (es : List Entry) → e.pass ≢ p → own p (e ∷ es) ≡ own p es
own-others p e es is = let apart : ◌≡◌ {A = ℕ} (cond (eqb e.pass p) 1 0) 0 = rw (ne_eqb e.pass p is) refl in omega arith

pub own-none : (p : ℕ) (es : List Entry) → NoneBy p es → own p es ≡ 0
own-none p [] none = refl
own-none p (e ∷ es) none = own-others p e es none.0 ∙ own-none p es none.1

pub own-append : (p : ℕ) (xs ys : List Entry) → own p (xs ++ ys) ≡ own p xs + own p ys
own-append p [] ys = omega arith
own-append p (x ∷ xs) ys = let more = own-append p xs ys in omega arith

-- in the book at first nobody has one
pub own-labelled : (p : ℕ) (ts : List Committed) → 1 ≤ p → own p (labelled ts) ≡ 0
own-labelled p [] some = refl
own-labelled p (t ∷ ts) some = own-others p (record { pass = 0; done = t }) (labelled ts) (λ e. omega arith) ∙ own-labelled p ts some

-- what a pass has seen has all of its own
pub own-held : (p : ℕ) (seen list : List Entry) → Holds p seen list → own p seen ≡ own p list
own-held p seen list held =
    let apart = own-append p seen held.0 in
    let none = own-none p held.0 held.2 in
    let whole = ap (own p) held.1 in omega arith

-- ---- of the passes from 1 to some number

abbrev total : (ℕ → ℕ) → ℕ → ℕ
total f zero = 0
total f (suc n) = f (suc n) + total f n

total-same : (f g : ℕ → ℕ) (n : ℕ) → ((m : ℕ) → 1 ≤ m → m ≤ n → f m ≡ g m) → total f n ≡ total g n
total-same f g zero same = refl
total-same f g (suc n) same =
    let last = same (suc n) (omega arith) (omega arith) in
    let rest = total-same f g n (λ m low high. same m low (omega arith)) in omega arith

abbrev each_of : List Entry → ℕ → ℕ
each_of list n = own n list

none_of : (n : ℕ) → total (each_of []) n ≡ 0
none_of zero = refl
none_of (suc n) = let rest = none_of n in omega arith

above : (n : ℕ) (e : Entry) (es : List Entry) → n < e.pass → total (each_of (e ∷ es)) n ≡ total (each_of es) n
above n e es high = total-same (each_of (e ∷ es)) (each_of es) n (λ m low le. own-others m e es (λ is. omega arith))

one_more : (n : ℕ) (e : Entry) (es : List Entry) → 1 ≤ e.pass → e.pass ≤ n → total (each_of (e ∷ es)) n ≡ 1 + total (each_of es) n
one_more zero e es low high = absurd (omega arith)
one_more (suc n) e es low high = elim (eqb_tells e.pass (suc n)) [
  | inl is ↦
      let last = own-mine (suc n) e es is.1 in
      let rest = above n e es (let same = is.1 in omega arith) in omega arith
  | inr apart ↦
      let last = own-others (suc n) e es apart.1 in
      let rest = one_more n e es low (below e.pass n high apart.1) in omega arith
]
  where
    below : (a n : ℕ) → a ≤ suc n → a ≢ suc n → a ≤ n
    below a n le ne = omega (arith, le, ne)

all_made : (n : ℕ) (list : List Entry) → AllMade (n + 1) list → total (each_of list) n ≡ length list
all_made n [] made = none_of n
all_made n (e ∷ es) made =
    let first = one_more n e es made.0 (let below = made.1 in omega arith) in
    let rest = all_made n es made.2 in omega arith

from_length : (book : List Committed) (n : ℕ) (list : List Entry) → IsFrom book (n + 1) list → length list ≡ length book + total (each_of list) n
from_length book n list from =
    let long = sym (ap length from.1) ∙ length-append (labelled book) from.0 in
    let first = length-labelled book in
    let made = all_made n from.0 from.2 in
    let same = total-same (each_of list) (each_of from.0) n (λ m low high.
    let apart = sym (ap (own m) from.1) ∙ own-append m (labelled book) from.0 in
    let none = own-labelled m book low in omega arith) in
    omega arith

-- ---- of passes with these numbers

pub number_at : (n : ℕ) (ps : List PassSeen) (i : ℕ) (d : PassSeen) → i < length ps → (slice_index_or ps i d).number ≡ n → HasNumber n ps
number_at n [] i d lt is = absurd (omega arith)
number_at n (p ∷ ps) zero d lt is = inl is
number_at n (p ∷ ps) (suc i) d lt is = inr (number_at n ps i d (omega arith) is)

-- one more number
pub next_number : (count : ℕ) (ps : List PassSeen) → HasNumber (count + 1) ps → ((n : ℕ) → 1 ≤ n → n ≤ count → HasNumber n ps) → (n : ℕ) → 1 ≤ n → n ≤ count + 1 → HasNumber n ps
next_number count ps last before n low high = elim (eqb_tells n (count + 1)) [
  | inl is ↦ subst (λ (m : ℕ). HasNumber m ps) (sym is.1) last
  | inr apart ↦ before n low (omega (arith, apart.1))
]

-- the first so many of them have another number
abbrev pub HasNoneOf : ℕ → ℕ → List PassSeen → Type 0
HasNoneOf n i ps = HasNumber n (take i ps) → ⊥

none_next : (n : ℕ) (ps : List PassSeen) (i : ℕ) (d : PassSeen) → i < length ps → (slice_index_or ps i d).number ≢ n → HasNoneOf n i ps → HasNoneOf n (suc i) ps
none_next n [] i d lt other none = absurd (omega arith)
none_next n (p ∷ ps) zero d lt other none = λ has. ⊎_elim other (λ more. more) has
none_next n (p ∷ ps) (suc i) d lt other none = λ has. ⊎_elim (λ is. none (inl is)) (λ more. none_next n ps i d (omega arith) other (λ x. none (inr x)) more) has

pub none_so_far : (n : ℕ) (ps : List PassSeen) (i : ℕ) (d : PassSeen) → i < length ps → (slice_index_or ps i d).number ≢ n → HasNoneOf n i ps → HasNoneOf n (i + 1) ps
none_so_far n ps i d lt other none = subst (λ (m : ℕ). HasNoneOf n m ps) (sym (add-one i)) (none_next n ps i d lt other none)

pub none_at_all : (n : ℕ) (ps : List PassSeen) (i : ℕ) → length ps ≤ i → HasNoneOf n i ps → HasNumber n ps → ⊥
none_at_all n [] i long none has = has
none_at_all n (p ∷ ps) zero long none has = absurd (omega arith)
none_at_all n (p ∷ ps) (suc i) long none has = ⊎_elim (λ is. none (inl is)) (λ more. none_at_all n ps i (omega arith) (λ x. none (inr x)) more) has

abbrev sum_of : (ℕ → ℕ) → List PassSeen → ℕ
sum_of f [] = 0
sum_of f (p ∷ ps) = f p.number + sum_of f ps

-- the passes without one of this number
record Without (n : ℕ) (ps : List PassSeen) : Type 0 where
  rest : List PassSeen
  long : length ps ≡ length rest + 1
  sums : (f : ℕ → ℕ) → sum_of f ps ≡ f n + sum_of f rest
  others : (m : ℕ) → m ≢ n → HasNumber m ps → HasNumber m rest

take_out : (n : ℕ) (ps : List PassSeen) → HasNumber n ps → Without n ps
take_out n [] has = elim has [ ]
take_out n (p ∷ ps) (inl is) = record {
  rest = ps;
  long = omega arith;
  sums = λ f. ap (λ (m : ℕ). f m + sum_of f ps) is;
  others = λ m apart has. ⊎_elim (λ (e : p.number ≡ m). absurd (apart (sym e ∙ is))) (λ (h : HasNumber m ps). h) has;
}
take_out n (p ∷ ps) (inr h) = let t = take_out n ps h in record {
  rest = p ∷ t.rest;
  long = (let l = t.long in omega arith);
  sums = λ f. let s = t.sums f in omega arith;
  others = λ m apart has. ⊎_elim (λ (e : p.number ≡ m). inl e) (λ (h : HasNumber m ps). inr (t.others m apart h)) has;
}

each_once : (f : ℕ → ℕ) (n : ℕ) (ps : List PassSeen) → length ps ≡ n → ((m : ℕ) → 1 ≤ m → m ≤ n → HasNumber m ps) → sum_of f ps ≡ total f n
each_once f zero [] long each = refl
each_once f zero (p ∷ ps) long each = absurd (omega arith)
each_once f (suc n) ps long each =
    let t = take_out (suc n) ps (each (suc n) (omega arith) (omega arith)) in
    let l = t.long in
    let rest = each_once f n t.rest (omega arith) (λ m low high. t.others m (λ e. omega arith) (each m low (omega arith))) in
    t.sums f ∙ ap (λ k. f (suc n) + k) rest

seen_sum : (list : List Entry) (ps : List PassSeen) → All (λ (p : PassSeen). Holds p.number p.seen list) ps → all_own ps ≡ sum_of (each_of list) ps
seen_sum list [] held = refl
seen_sum list (p ∷ ps) held =
    let P : PassSeen → Type 0 = λ q. Holds q.number q.seen list in
    let first = own-held p.number p.seen list (All-head P p ps held) in
    let rest = seen_sum list ps (All-tail P p ps held) in omega arith

-- a history has the book at first, and all that its passes have of their own
pub all_counted : (book : List Committed) (list : List Entry) (ps : List PassSeen) → IsOfAll book ps list → All (λ (p : PassSeen). Holds p.number p.seen list) ps → length list ≡ length book + all_own ps
all_counted book list ps of_all held =
    let long = from_length book of_all.0 list of_all.1 in
    let sums = each_once (each_of list) of_all.0 ps of_all.2.long of_all.2.each in
    let seen = seen_sum list ps held in omega arith
