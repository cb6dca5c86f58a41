-- The holders of one object: one more, one less, and the oldest that is in the way.
use Rattle.std.proofs.Common.{◌≡◌, ℕ, ◌≤◌, ◌==◌, ◌&&◌, ◌||◌, Bool, true, false, not, List, [], ◌∷◌, ◌++◌, filter, cond, min, Option, None, Some, MatchOption, refl, ap, sym, ◌∙◌, subst, arith, ◌⊎◌, inl, inr}
use Rattle.std.proofs.lemmas.Bool.{and_parts, or_cases}
use Rattle.std.proofs.lemmas.Bool.Decides.{Decides-eqb}
use Rattle.mt_base.specs.declared.modes.LockMode.{LockMode}
use Rattle.mt_base.specs.declared.modes.LockMode.TheVariants.{Read, Write, Add, Intend}
use Rattle.mt_model.specs.Locks.{same_mode}
use Rattle.mt_slock.specs.declared.holders.Holder.{Holder}
use Rattle.mt_slock.specs.Views.{is_holder, is_among, conflicts, in_order, least_of, IsUnbarred, IsOldestBar}

-- ---- tests

pub or_false : (a : Bool) → (a || false) ≡ a
or_false true = refl
or_false false = refl

pub and_false : (a : Bool) → (a && false) ≡ false
and_false true = refl
and_false false = refl

or_assoc : (a b c : Bool) → (a || (b || c)) ≡ ((a || b) || c)
or_assoc true b c = refl
or_assoc false b c = refl

pub not_both : (b : Bool) → b ≡ true → b ≡ false → ⊥
not_both b p q = absurd cc

pub same_mode-true : (m n : LockMode) → same_mode m n ≡ true → m ≡ n
same_mode-true Read Read h = refl
same_mode-true Write Write h = refl
same_mode-true Add Add h = refl
same_mode-true Intend Intend h = refl
same_mode-true Read Write h = absurd cc
same_mode-true Read Add h = absurd cc
same_mode-true Write Read h = absurd cc
same_mode-true Write Add h = absurd cc
same_mode-true Add Read h = absurd cc
same_mode-true Add Write h = absurd cc
same_mode-true Read Intend h = absurd cc
same_mode-true Write Intend h = absurd cc
same_mode-true Add Intend h = absurd cc
same_mode-true Intend Read h = absurd cc
same_mode-true Intend Write h = absurd cc
same_mode-true Intend Add h = absurd cc

pub same_mode-self : (m : LockMode) → same_mode m m ≡ true
same_mode-self Read = refl
same_mode-self Write = refl
same_mode-self Add = refl
same_mode-self Intend = refl

pub eqb_self : (t : ℕ) → (t == t) ≡ true
eqb_self t = (Decides-eqb t t).1 refl

-- what a holder is, where it is this one
holder_parts : (t : ℕ) (m : LockMode) (h : Holder) → is_holder t m h ≡ true → (t ≡ h.txn) × (h.mode ≡ m)
holder_parts t m h e =
    let p = and_parts (t == h.txn) (same_mode h.mode m) e in
    ((Decides-eqb t h.txn).0 p.0, same_mode-true h.mode m p.1)

-- ---- one more

pub among-push : (hs : List Holder) (h : Holder) (u : ℕ) (n : LockMode) → is_among (hs ++ h ∷ []) u n ≡ (is_among hs u n || is_holder u n h)
among-push [] h u n = or_false (is_holder u n h)
among-push (x ∷ xs) h u n = ap (λ b. is_holder u n x || b) (among-push xs h u n) ∙ or_assoc (is_holder u n x) (is_among xs u n) (is_holder u n h)

-- ---- one less

abbrev pub is_other : ℕ → LockMode → Holder → Bool
is_other t m h = not (is_holder t m h)

-- where x is this lock, it goes; another one stays
drop_step : (x same rest : Bool) (xs : Bool) → (x ≡ same) → (rest ≡ (xs && not same)) → rest ≡ ((x || xs) && not same)
drop_step true true rest xs e h = h ∙ and_false xs
drop_step false false rest xs e h = h
drop_step true false rest xs e h = absurd cc
drop_step false true rest xs e h = absurd cc

keep_step : (x same rest : Bool) (xs : Bool) → (x ≡ true → same ≡ true → ⊥) → (rest ≡ (xs && not same)) → (x || rest) ≡ ((x || xs) && not same)
keep_step true true rest xs n h = absurd (n refl refl)
keep_step true false rest xs n h = refl
keep_step false same rest xs n h = h

filter_step : (t : ℕ) (m : LockMode) (u : ℕ) (n : LockMode) (x : Holder) (xs : List Holder) (b : Bool) → is_holder t m x ≡ b
    → is_among (filter (is_other t m) xs) u n ≡ (is_among xs u n && not ((u == t) && same_mode m n))
    → is_among (filter (is_other t m) (x ∷ xs)) u n ≡ ((is_holder u n x || is_among xs u n) && not ((u == t) && same_mode m n))
filter_step t m u n x xs true e rest =
    let p = holder_parts t m x e in
    let same : is_holder u n x ≡ ((u == t) && same_mode m n) = λ i. (u == sym p.0 i) && same_mode (p.1 i) n in
    ap (λ b. is_among (cond (not b) (x ∷ filter (is_other t m) xs) (filter (is_other t m) xs)) u n) e
    ∙ drop_step (is_holder u n x) ((u == t) && same_mode m n) (is_among (filter (is_other t m) xs) u n) (is_among xs u n) same rest
filter_step t m u n x xs false e rest =
    let apart : is_holder u n x ≡ true → ((u == t) && same_mode m n) ≡ true → ⊥ = λ a b.
    let p = holder_parts u n x a in
    let q = and_parts (u == t) (same_mode m n) b in
    let tx : t ≡ x.txn = sym ((Decides-eqb u t).0 q.0) ∙ p.0 in
    let xm : x.mode ≡ m = p.1 ∙ sym (same_mode-true m n q.1) in
    not_both (is_holder t m x) ((λ i. (tx i == x.txn) && same_mode (xm i) m) ∙ ap (λ b. b && same_mode m m) (eqb_self x.txn) ∙ same_mode-self m) e in
    ap (λ b. is_among (cond (not b) (x ∷ filter (is_other t m) xs) (filter (is_other t m) xs)) u n) e
    ∙ keep_step (is_holder u n x) ((u == t) && same_mode m n) (is_among (filter (is_other t m) xs) u n) (is_among xs u n) apart rest

pub among-filter : (hs : List Holder) (t : ℕ) (m : LockMode) (u : ℕ) (n : LockMode)
    → is_among (filter (is_other t m) hs) u n ≡ (is_among hs u n && not ((u == t) && same_mode m n))
among-filter [] t m u n = refl
among-filter (x ∷ xs) t m u n = filter_step t m u n x xs (is_holder t m x) refl (among-filter xs t m u n)

-- ---- the first, and those behind it

pub in_order_push : (first : Option Holder) (hs : List Holder) (h : Holder) → in_order first (hs ++ h ∷ []) ≡ in_order first hs ++ h ∷ []
in_order_push None hs h = refl
in_order_push (Some f) hs h = refl

-- ---- the oldest in the way

abbrev pub Found : List Holder → ℕ → LockMode → Option ℕ → Type 0
Found hs t m r = MatchOption r (IsUnbarred hs t m) (IsOldestBar hs t m)

-- who holds the object with one holder more
parts_of_push : (hs : List Holder) (h : Holder) (u : ℕ) (n : LockMode) → is_among (hs ++ h ∷ []) u n ≡ true → (is_among hs u n ≡ true) ⊎ ((u ≡ h.txn) × (h.mode ≡ n))
parts_of_push hs h u n e = elim (or_cases (is_among hs u n) (is_holder u n h) (sym (among-push hs h u n) ∙ e)) [ inl a ↦ inl a | inr b ↦ inr (holder_parts u n h b) ]

left_of_push : (hs : List Holder) (h : Holder) (u : ℕ) (n : LockMode) → is_among hs u n ≡ true → is_among (hs ++ h ∷ []) u n ≡ true
left_of_push hs h u n e = among-push hs h u n ∙ ap (λ b. b || is_holder u n h) e

last_of_push : (hs : List Holder) (h : Holder) → is_among (hs ++ h ∷ []) h.txn h.mode ≡ true
last_of_push hs h = among-push hs h h.txn h.mode ∙ (λ i. is_among hs h.txn h.mode || (eqb_self h.txn i && same_mode-self h.mode i)) ∙ or_true (is_among hs h.txn h.mode)
  where
    or_true : (a : Bool) → (a || true) ≡ true
    or_true true = refl
    or_true false = refl

-- a holder that is not in the way
pub found_past : (hs : List Holder) (h : Holder) (t : ℕ) (m : LockMode) (r : Option ℕ) → conflicts t m h.txn h.mode ≡ false → Found hs t m r → Found (hs ++ h ∷ []) t m r
found_past hs h t m None no_bar f = λ u n e. elim (parts_of_push hs h u n e) [
  | inl a ↦ f u n a
  | inr b ↦ (λ i. conflicts t m (b.0 i) (sym b.1 i)) ∙ no_bar
]
found_past hs h t m (Some o) no_bar f = record {
  mode = f.mode;
  among = left_of_push hs h o f.mode f.among;
  bars = f.bars;
  oldest = λ v n e bars. elim (parts_of_push hs h v n e) [
    | inl a ↦ f.oldest v n a bars
    | inr b ↦ absurd (not_both (conflicts t m h.txn h.mode) (sym (λ i. conflicts t m (b.0 i) (sym b.1 i)) ∙ bars) no_bar)
  ];
}

-- a holder that is
pub found_more : (hs : List Holder) (h : Holder) (t : ℕ) (m : LockMode) (r : Option ℕ) → conflicts t m h.txn h.mode ≡ true → Found hs t m r → Found (hs ++ h ∷ []) t m (Some (least_of r h.txn))
found_more hs h t m None bar f = record {
  mode = h.mode;
  among = last_of_push hs h;
  bars = bar;
  oldest = λ v n e bars. elim (parts_of_push hs h v n e) [
    | inl a ↦ absurd (not_both (conflicts t m v n) bars (f v n a))
    | inr b ↦ at_most v h.txn b.0
  ];
}
  where
    at_most : (v u : ℕ) → v ≡ u → u ≤ v
    at_most v u e = omega arith
found_more hs h t m (Some o) bar f = elim (either o h.txn) [
  | inl a ↦ record {
    mode = f.mode;
    among = subst (λ u. is_among (hs ++ h ∷ []) u f.mode ≡ true) (sym a) (left_of_push hs h o f.mode f.among);
    bars = subst (λ u. conflicts t m u f.mode ≡ true) (sym a) f.bars;
    oldest = least;
  }
  | inr b ↦ record {
    mode = h.mode;
    among = subst (λ u. is_among (hs ++ h ∷ []) u h.mode ≡ true) (sym b) (last_of_push hs h);
    bars = subst (λ u. conflicts t m u h.mode ≡ true) (sym b) bar;
    oldest = least;
  }
]
  where
    either : (a b : ℕ) → (min a b ≡ a) ⊎ (min a b ≡ b)
    either a b = grind arith

    down_left : (a b v : ℕ) → a ≤ v → min a b ≤ v
    down_left a b v k = omega arith

    down_right : (a b v : ℕ) → v ≡ b → min a b ≤ v
    down_right a b v k = omega arith

    least : (v : ℕ) (n : LockMode) → is_among (hs ++ h ∷ []) v n ≡ true → conflicts t m v n ≡ true → min o h.txn ≤ v
    least v n e bars = elim (parts_of_push hs h v n e) [
      | inl a ↦ down_left o h.txn v (f.oldest v n a bars)
      | inr b ↦ down_right o h.txn v b.0
    ]
