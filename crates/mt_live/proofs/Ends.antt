-- The standing list, from each transaction's calls and the order in which they ended.
use Rattle.std.proofs.Common.{◌≡◌, ◌⊎◌, inl, inr, ℕ, zero, suc, ◌<◌, ◌≤◌, ◌+◌, ◌==◌, ◌||◌, nat_lt, Bool, true, false, cond, not, List, [], ◌∷◌, ◌++◌, Option, Some, None, is_some, filter, map, take, drop, length, refl, ap, sym, ◌∙◌, subst, arith, append-nil, append_assoc}
use Rattle.std.proofs.lemmas.Bool.Decides.{Decides-eqb, nat_tests}
use Rattle.std.proofs.lemmas.List.{length-take-le}
use Rattle.std.proofs.lemmas.List.Elements.{filter-append}
use Rattle.mt_live.specs.declared.places.Place.{Place}
use Rattle.mt_live.specs.declared.transactions.Role.{Role}
use Rattle.mt_live.specs.declared.transactions.Role.TheVariants.{TakenBack}
use Rattle.mt_live.specs.Entries.{Entry, with_role, is_standing, kept}
use Rattle.mt_live.specs.Sound.{Each}
use Rattle.mt_live.specs.Undoing.{only, others, is_counted, is_effect, last_of, last_effect, cut_back, mark_last, mark_all, settle_after}
use Rattle.mt_live.specs.Machine.{put}
use Rattle.mt_live.specs.Members.{Noted, has_inverse, later, last_place, set_role, settle_calls}
use Rattle.mt_live.specs.Roles.{settled_role, left_after}
use Rattle.mt_live.specs.Lives.{entry_by, entries_at, standing_by, numbers, count_from}

-- ---- tests of numbers

is_same : (a b : ℕ) → (a == b) ≡ true → a ≡ b
is_same a b h = (Decides-eqb a b).0 h

same_is : (a b : ℕ) → a ≡ b → (a == b) ≡ true
same_is a b h = (Decides-eqb a b).1 h

is_below : (i n : ℕ) → i < n → nat_lt i n ≡ true
is_below i n h = grind (arith, nat_tests)

not_below : (i n : ℕ) → n ≤ i → nat_lt i n ≡ false
not_below i n h = grind (arith, nat_tests)

-- ---- lists in general

standing-append : (f : ℕ → List Noted) (os ps : List Place) → standing_by f (os ++ ps) ≡ standing_by f os ++ standing_by f ps
standing-append f [] ps = refl
standing-append f (o ∷ os) ps =
    ap (λ w. entries_at f o ++ w) (standing-append f os ps) ∙ sym (append_assoc (entries_at f o) (standing_by f os) (standing_by f ps))

standing_same : (f g : ℕ → List Noted) (os : List Place) → Each (λ (o : Place). entries_at f o ≡ entries_at g o) os → standing_by f os ≡ standing_by g os
standing_same f g [] h = refl
standing_same f g (o ∷ os) h = ap (λ w. w ++ standing_by f os) h.0 ∙ ap (λ w. entries_at g o ++ w) (standing_same f g os h.1)

drop_next : {A : Type 0} (xs : List A) (j : ℕ) (c : A) (r : List A) → drop j xs ≡ c ∷ r → drop (suc j) xs ≡ r
drop_next [] zero c r h = absurd cc
drop_next [] (suc j) c r h = absurd cc
drop_next (x ∷ xs) zero c r h = cc
drop_next (x ∷ xs) (suc j) c r h = drop_next xs j c r h

one_of_front : {A : Type 0} (xs : List A) (j k : ℕ) → j < k → take 1 (drop j (take k xs)) ≡ take 1 (drop j xs)
one_of_front [] j zero h = refl
one_of_front [] j (suc k) h = refl
one_of_front (x ∷ xs) j zero h = absurd (omega (arith, h))
one_of_front (x ∷ xs) zero (suc k) h = refl
one_of_front (x ∷ xs) (suc j) (suc k) h = one_of_front xs j k (omega (arith, h))

one_of_more : {A : Type 0} (xs : List A) (c : A) (j : ℕ) → j < length xs → take 1 (drop j (xs ++ c ∷ [])) ≡ take 1 (drop j xs)
one_of_more [] c j h = absurd (omega (arith, h))
one_of_more (x ∷ xs) c zero h = refl
one_of_more (x ∷ xs) c (suc j) h = one_of_more xs c j (omega (arith, h))

one_at_end : {A : Type 0} (xs : List A) (c : A) → take 1 (drop (length xs) (xs ++ c ∷ [])) ≡ c ∷ []
one_at_end [] c = refl
one_at_end (x ∷ xs) c = one_at_end xs c

-- ---- one transaction's numbers

-- the first number, if the first end is the transaction's
first_number : (o : Place) (rest : List ℕ) (j m : ℕ) → o.index ∷ rest ≡ count_from j m → (k : ℕ) × ((m ≡ suc k) × (o.index ≡ j) × (rest ≡ count_from (suc j) k))
first_number o rest j zero h = absurd cc
first_number o rest j (suc k) h = let a : o.index ≡ j = cc in let b : rest ≡ count_from (suc j) k = cc in (k, (refl, a, b))

pub numbers_between : (t : ℕ) (os : List Place) (j m : ℕ) → numbers t os ≡ count_from j m → Each (λ (o : Place). o.txn ≡ t → (j ≤ o.index) × (o.index < j + m)) os
numbers_between t [] j m h = tt
numbers_between t (o ∷ os) j m h = go (o.txn == t) refl h (λ i k. numbers_between t os i k)
  where
    lower : (k : ℕ) (ps : List Place) → Each (λ (p : Place). p.txn ≡ t → (suc j ≤ p.index) × (p.index < suc j + k)) ps → m ≡ suc k → Each (λ (p : Place). p.txn ≡ t → (j ≤ p.index) × (p.index < j + m)) ps
    lower k [] e is = tt
    lower k (p ∷ ps) e is = ((λ own. let b = e.0 own in (omega (arith, b.0), omega (arith, b.1, is))), lower k ps e.1 is)

    go : (b : Bool) → (o.txn == t) ≡ b → map (λ (p : Place). p.index) (cond b (o ∷ filter (λ (p : Place). p.txn == t) os) (filter (λ (p : Place). p.txn == t) os)) ≡ count_from j m
        → ((i k : ℕ) → numbers t os ≡ count_from i k → Each (λ (p : Place). p.txn ≡ t → (i ≤ p.index) × (p.index < i + k)) os)
        → Each (λ (p : Place). p.txn ≡ t → (j ≤ p.index) × (p.index < j + m)) (o ∷ os)
    go true is e rec =
        let n = first_number o (numbers t os) j m e in
        ((λ own. (omega (arith, n.1.1), omega (arith, n.1.0, n.1.1))), lower n.0 os (rec (suc j) n.0 n.1.2) n.1.0)
    go false is e rec = ((λ own. let own_is = same_is o.txn t own in absurd cc), rec j m e)

-- ---- the entries of one transaction

kept_by : (p : ℕ → Bool) (t : ℕ) (cs : List Noted) → kept p (map (entry_by t) cs) ≡ cond (p t) (map (entry_by t) cs) []
kept_by p t [] = go (p t)
  where
    go : (b : Bool) → [] ≡ cond b (map (entry_by t) []) []
    go true = refl
    go false = refl
kept_by p t (c ∷ cs) = go (p t) refl (kept_by p t cs)
  where
    go : (b : Bool) → p t ≡ b → kept p (map (entry_by t) cs) ≡ cond (p t) (map (entry_by t) cs) [] → cond (p t) (entry_by t c ∷ kept p (map (entry_by t) cs)) (kept p (map (entry_by t) cs)) ≡ cond (p t) (map (entry_by t) (c ∷ cs)) []
    go true is h = rw is (ap (λ w. entry_by t c ∷ w) (rw is at h))
    go false is h = rw is (rw is at h)

kept_step : (p : ℕ → Bool) (f : ℕ → List Noted) (o : Place) (os : List Place) → kept p (standing_by f (o ∷ os)) ≡ cond (p o.txn) (entries_at f o) [] ++ kept p (standing_by f os)
kept_step p f o os =
    filter-append (λ (e : Entry). p e.txn) (entries_at f o) (standing_by f os)
    ∙ ap (λ w. w ++ kept p (standing_by f os)) (kept_by p o.txn (take 1 (drop o.index (f o.txn))))

-- one transaction's entries are its calls
pub standing_own : (f : ℕ → List Noted) (t : ℕ) (os : List Place) (j m : ℕ) (r : List Noted) → numbers t os ≡ count_from j m → drop j (f t) ≡ r → length r ≡ m
    → kept (only t) (standing_by f os) ≡ map (entry_by t) r
standing_own f t [] j zero [] h is size = refl
standing_own f t [] j zero (c ∷ r) h is size = absurd (omega (arith, size))
standing_own f t [] j (suc m) r h is size = absurd cc
standing_own f t (o ∷ os) j m r h is size = go (o.txn == t) refl h (λ i k s. standing_own f t os i k s)
  where
    here : (c : Noted) (s : List Noted) → o.txn ≡ t → o.index ≡ j → drop j (f t) ≡ c ∷ s → entries_at f o ≡ entry_by t c ∷ []
    here c s own at' d =
        ap (λ v. map (entry_by v) (take 1 (drop o.index (f v)))) own ∙ (ap (λ n. map (entry_by t) (take 1 (drop n (f t)))) at' ∙ ap (λ w. map (entry_by t) (take 1 w)) d)

    mine : (k : ℕ) (s : List Noted) → r ≡ s → m ≡ suc k → o.txn ≡ t → o.index ≡ j → numbers t os ≡ count_from (suc j) k
        → ((i n : ℕ) (q : List Noted) → numbers t os ≡ count_from i n → drop i (f t) ≡ q → length q ≡ n → kept (only t) (standing_by f os) ≡ map (entry_by t) q)
        → entries_at f o ++ kept (only t) (standing_by f os) ≡ map (entry_by t) s
    mine k [] same ms own at' rest rec = let z : length r ≡ 0 = ap length same in absurd (omega (arith, z, size, ms))
    mine k (c ∷ s) same ms own at' rest rec =
        let d : drop j (f t) ≡ c ∷ s = is ∙ same in
        let l : suc (length s) ≡ length r = sym (ap length same) in
        ap (λ w. w ++ kept (only t) (standing_by f os)) (here c s own at' d)
        ∙ ap (λ w. entry_by t c ∷ w) (rec (suc j) k s rest (drop_next (f t) j c s d) (omega (arith, l, size, ms)))

    go : (b : Bool) → (o.txn == t) ≡ b → map (λ (p : Place). p.index) (cond b (o ∷ filter (λ (p : Place). p.txn == t) os) (filter (λ (p : Place). p.txn == t) os)) ≡ count_from j m
        → ((i n : ℕ) (q : List Noted) → numbers t os ≡ count_from i n → drop i (f t) ≡ q → length q ≡ n → kept (only t) (standing_by f os) ≡ map (entry_by t) q)
        → kept (only t) (standing_by f (o ∷ os)) ≡ map (entry_by t) r
    go true own e rec =
        let n = first_number o (numbers t os) j m e in
        kept_step (only t) f o os ∙ (ap (λ b. cond b (entries_at f o) [] ++ kept (only t) (standing_by f os)) own
        ∙ mine n.0 r refl n.1.0 (is_same o.txn t own) n.1.1 n.1.2 rec)
    go false own e rec = kept_step (only t) f o os ∙ (ap (λ b. cond b (entries_at f o) [] ++ kept (only t) (standing_by f os)) own ∙ rec j m r e is size)

-- ---- another list of calls

put_own : {A : Type 0} (f : ℕ → A) (t u : ℕ) (x : A) → u ≡ t → put f t x u ≡ x
put_own f t u x own = let is = same_is u t own in rw is refl

put_apart : {A : Type 0} (f : ℕ → A) (t u : ℕ) (x : A) → (u == t) ≡ false → put f t x u ≡ f u
put_apart f t u x apart = rw apart refl

-- the entry at a place does not change where the one call there does not
entries_put : (f : ℕ → List Noted) (t : ℕ) (cs : List Noted) (o : Place) → (o.txn ≡ t → take 1 (drop o.index cs) ≡ take 1 (drop o.index (f t))) → entries_at (put f t cs) o ≡ entries_at f o
entries_put f t cs o h = go (o.txn == t) refl
  where
    go : (b : Bool) → (o.txn == t) ≡ b → entries_at (put f t cs) o ≡ entries_at f o
    go true is =
        let own : o.txn ≡ t = is_same o.txn t is in
        ap (λ w. map (entry_by o.txn) (take 1 (drop o.index w))) (put_own f t o.txn cs own)
        ∙ (ap (map (entry_by o.txn)) (h own) ∙ ap (λ v. map (entry_by o.txn) (take 1 (drop o.index (f v)))) (sym own))
    go false is = ap (λ w. map (entry_by o.txn) (take 1 (drop o.index w))) (put_apart f t o.txn cs is)

-- ---- a call is noted

pub standing_noted : (f : ℕ → List Noted) (t : ℕ) (c : Noted) (os : List Place) → numbers t os ≡ count_from 0 (length (f t))
    → standing_by (put f t (f t ++ c ∷ [])) (os ++ record { txn = t; index = length (f t) } ∷ []) ≡ standing_by f os ++ entry_by t c ∷ []
standing_noted f t c os h =
    let g = put f t (f t ++ c ∷ []) in
    let last : Place = record { txn = t; index = length (f t) } in
    standing-append g os (last ∷ [])
    ∙ (ap (λ w. w ++ standing_by g (last ∷ [])) (standing_same g f os (same os (numbers_between t os 0 (length (f t)) h)))
    ∙ ap (λ w. standing_by f os ++ w)
    (append-nil (entries_at g last)
    ∙ (ap (λ w. map (entry_by t) (take 1 (drop (length (f t)) w))) (put_own f t t (f t ++ c ∷ []) refl)
    ∙ ap (map (entry_by t)) (one_at_end (f t) c))))
  where
    same : (ps : List Place) → Each (λ (o : Place). o.txn ≡ t → (0 ≤ o.index) × (o.index < 0 + length (f t))) ps
        → Each (λ (o : Place). entries_at (put f t (f t ++ c ∷ [])) o ≡ entries_at f o) ps
    same [] e = tt
    same (o ∷ ps) e = (entries_put f t (f t ++ c ∷ []) o (λ own. let b = (e.0 own).1 in one_of_more (f t) c o.index (omega (arith, b))), same ps e.1)

count-push : (n k : ℕ) → count_from n (suc k) ≡ count_from n k ++ (n + k) ∷ []
count-push n zero = let e : n ≡ n + 0 = omega arith in ap (λ w. w ∷ []) e
count-push n (suc k) = let e : suc n + k ≡ n + suc k = omega arith in ap (λ w. n ∷ w) (count-push (suc n) k ∙ ap (λ w. count_from (suc n) k ++ w ∷ []) e)

numbers-append : (t : ℕ) (os ps : List Place) → numbers t (os ++ ps) ≡ numbers t os ++ numbers t ps
numbers-append t os ps = ap (map (λ (o : Place). o.index)) (filter-append (λ (o : Place). o.txn == t) os ps) ∙ both (filter (λ (o : Place). o.txn == t) os) (filter (λ (o : Place). o.txn == t) ps)
  where
    both : (xs ys : List Place) → map (λ (o : Place). o.index) (xs ++ ys) ≡ map (λ (o : Place). o.index) xs ++ map (λ (o : Place). o.index) ys
    both [] ys = refl
    both (x ∷ xs) ys = ap (λ w. x.index ∷ w) (both xs ys)

length-push : {A : Type 0} (xs : List A) (x : A) → length (xs ++ x ∷ []) ≡ suc (length xs)
length-push [] x = refl
length-push (y ∷ xs) x = ap suc (length-push xs x)

pub placed_noted : (f : ℕ → List Noted) (t : ℕ) (c : Noted) (os : List Place) → ((u : ℕ) → numbers u os ≡ count_from 0 (length (f u)))
    → (u : ℕ) → numbers u (os ++ record { txn = t; index = length (f t) } ∷ []) ≡ count_from 0 (length (put f t (f t ++ c ∷ []) u))
placed_noted f t c os h u = numbers-append u os (record { txn = t; index = length (f t) } ∷ []) ∙ go (u == t) refl
  where
    go : (b : Bool) → (u == t) ≡ b → numbers u os ++ numbers u (record { txn = t; index = length (f t) } ∷ []) ≡ count_from 0 (length (put f t (f t ++ c ∷ []) u))
    go true is =
        let own : u ≡ t = is_same u t is in
        let flip : (t == u) ≡ true = same_is t u (sym own) in
        let last : numbers u (record { txn = t; index = length (f t) } ∷ []) ≡ length (f t) ∷ [] = rw flip refl in
        let zero_more : length (f t) ≡ 0 + length (f t) = omega arith in
        ap (λ w. numbers u os ++ w) last ∙ (ap (λ w. w ++ length (f t) ∷ []) (h u ∙ ap (λ v. count_from 0 (length (f v))) own)
        ∙ (ap (λ n. count_from 0 (length (f t)) ++ n ∷ []) zero_more
        ∙ (sym (count-push 0 (length (f t)))
        ∙ ap (count_from 0) (sym (length-push (f t) c) ∙ ap length (sym (put_own f t u (f t ++ c ∷ []) own))))))
    go false is =
        let flip : (t == u) ≡ false = apart t u (λ own. let x = same_is u t (sym own) in cc) in
        let none : numbers u (record { txn = t; index = length (f t) } ∷ []) ≡ [] = rw flip refl in
        ap (λ w. numbers u os ++ w) none ∙ (append-nil (numbers u os) ∙ (h u ∙ ap (λ w. count_from 0 (length w)) (sym (put_apart f t u (f t ++ c ∷ []) is))))
      where
        apart : (a b : ℕ) → (a ≡ b → ⊥) → (a == b) ≡ false
        apart a b n = test (a == b) refl
          where
            test : (x : Bool) → (a == b) ≡ x → x ≡ false
            test true e = absurd (n (is_same a b e))
            test false e = refl

-- ---- a transaction leaves

pub standing_left : (f g : ℕ → List Noted) (t : ℕ) (os : List Place) → ((u : ℕ) → (u == t) ≡ false → g u ≡ f u)
    → standing_by g (filter (λ (o : Place). not (o.txn == t)) os) ≡ kept (others t) (standing_by f os)
standing_left f g t [] h = refl
standing_left f g t (o ∷ os) h = go (o.txn == t) refl (standing_left f g t os h) ∙ sym (kept_step (others t) f o os)
  where
    go : (b : Bool) → (o.txn == t) ≡ b → standing_by g (filter (λ (p : Place). not (p.txn == t)) os) ≡ kept (others t) (standing_by f os)
        → standing_by g (cond (not b) (o ∷ filter (λ (p : Place). not (p.txn == t)) os) (filter (λ (p : Place). not (p.txn == t)) os)) ≡ cond (not (o.txn == t)) (entries_at f o) [] ++ kept (others t) (standing_by f os)
    go true is rec = rw is rec
    go false is rec = rw is (ap (λ w. map (entry_by o.txn) (take 1 (drop o.index w)) ++ standing_by g (filter (λ (p : Place). not (p.txn == t)) os)) (h o.txn is) ∙ ap (λ w. entries_at f o ++ w) rec)

-- places that a test keeps, if they are the transaction's
numbers_kept : (u : ℕ) (q : Place → Bool) (os : List Place) → ((o : Place) → (o.txn == u) ≡ true → q o ≡ true) → numbers u (filter q os) ≡ numbers u os
numbers_kept u q [] h = refl
numbers_kept u q (o ∷ os) h = go (o.txn == u) refl (q o) refl (numbers_kept u q os h)
  where
    go : (b : Bool) → (o.txn == u) ≡ b → (k : Bool) → q o ≡ k → numbers u (filter q os) ≡ numbers u os
        → numbers u (cond k (o ∷ filter q os) (filter q os)) ≡ map (λ (p : Place). p.index) (cond b (o ∷ filter (λ (p : Place). p.txn == u) os) (filter (λ (p : Place). p.txn == u) os))
    go true is true keeps rec = rw is (ap (λ w. o.index ∷ w) rec)
    go true is false keeps rec = let x : q o ≡ true = h o is in absurd cc
    go false is true keeps rec = rw is rec
    go false is false keeps rec = rec

numbers_gone : (t : ℕ) (os : List Place) → numbers t (filter (λ (o : Place). not (o.txn == t)) os) ≡ []
numbers_gone t [] = refl
numbers_gone t (o ∷ os) = go (o.txn == t) refl (numbers_gone t os)
  where
    go : (b : Bool) → (o.txn == t) ≡ b → numbers t (filter (λ (p : Place). not (p.txn == t)) os) ≡ [] → numbers t (cond (not b) (o ∷ filter (λ (p : Place). not (p.txn == t)) os) (filter (λ (p : Place). not (p.txn == t)) os)) ≡ []
    go true is rec = rec
    go false is rec = rw is rec

pub placed_left : (f : ℕ → List Noted) (t : ℕ) (os : List Place) → ((u : ℕ) → numbers u os ≡ count_from 0 (length (f u)))
    → (u : ℕ) → numbers u (filter (λ (o : Place). not (o.txn == t)) os) ≡ count_from 0 (length (put f t [] u))
placed_left f t os h u = go (u == t) refl
  where
    go : (b : Bool) → (u == t) ≡ b → numbers u (filter (λ (o : Place). not (o.txn == t)) os) ≡ count_from 0 (length (cond b [] (f u)))
    go true is = subst (λ v. numbers v (filter (λ (o : Place). not (o.txn == t)) os) ≡ []) (sym (is_same u t is)) (numbers_gone t os)
    go false is = numbers_kept u (λ (o : Place). not (o.txn == t)) os (λ o own. let same : o.txn ≡ u = is_same o.txn u own in let x : (o.txn == t) ≡ false = ap (λ v. v == t) same ∙ is in rw x refl) ∙ h u

-- ---- the last effect is undone

last_false : (x : Option Entry) (e : Entry) → last_of x false e ≡ x
last_false None e = refl
last_false (Some later) e = refl

-- entries of another transaction have no part in it
effect_beyond : (t u : ℕ) (cs : List Noted) (es : List Entry) → (u == t) ≡ false → last_effect t (map (entry_by u) cs ++ es) ≡ last_effect t es
effect_beyond t u [] es apart = refl
effect_beyond t u (c ∷ cs) es apart = rw apart (last_false (last_effect t (map (entry_by u) cs ++ es)) (entry_by u c) ∙ effect_beyond t u cs es apart)

pub cut_none : (t : ℕ) (es : List Entry) → last_effect t es ≡ None → cut_back t es ≡ es
cut_none t [] h = refl
cut_none t (e ∷ es) h = go (last_effect t es) refl (is_effect t e) refl h
  where
    go : (x : Option Entry) → last_effect t es ≡ x → (b : Bool) → is_effect t e ≡ b → last_of x b e ≡ None
        → cond (is_some (last_effect t es)) (e ∷ cut_back t es) (cond (is_effect t e) (kept (others t) es) (e ∷ es)) ≡ e ∷ es
    go (Some later) is b test k = absurd cc
    go None is true test k = absurd cc
    go None is false test k = rw (is, test) refl

cut_step : (t : ℕ) (e : Entry) (es : List Entry) → is_effect t e ≡ false → cut_back t (e ∷ es) ≡ e ∷ cut_back t es
cut_step t e es apart = go (last_effect t es) refl
  where
    go : (x : Option Entry) → last_effect t es ≡ x → cond (is_some (last_effect t es)) (e ∷ cut_back t es) (cond (is_effect t e) (kept (others t) es) (e ∷ es)) ≡ e ∷ cut_back t es
    go (Some later) is = rw is refl
    go None is = rw (is, apart) (ap (λ w. e ∷ w) (sym (cut_none t es is)))

cut_beyond : (t u : ℕ) (cs : List Noted) (es : List Entry) → (u == t) ≡ false → cut_back t (map (entry_by u) cs ++ es) ≡ map (entry_by u) cs ++ cut_back t es
cut_beyond t u [] es apart = refl
cut_beyond t u (c ∷ cs) es apart =
    let none : is_effect t (entry_by u c) ≡ false = rw apart refl in
    cut_step t (entry_by u c) (map (entry_by u) cs ++ es) none ∙ ap (λ w. entry_by u c ∷ w) (cut_beyond t u cs es apart)

own_entry : (f : ℕ → List Noted) (t : ℕ) (o : Place) (j : ℕ) (c : Noted) (s : List Noted) → o.txn ≡ t → o.index ≡ j → drop j (f t) ≡ c ∷ s → entries_at f o ≡ entry_by t c ∷ []
own_entry f t o j c s own place is =
    ap (λ v. map (entry_by v) (take 1 (drop o.index (f v)))) own
    ∙ (ap (λ n. map (entry_by t) (take 1 (drop n (f t)))) place ∙ ap (λ w. map (entry_by t) (take 1 w)) is)

pub own_effect : (t : ℕ) (c : Noted) (b : Bool) → has_inverse c ≡ b → is_effect t (entry_by t c) ≡ b
own_effect t c b h = let is = same_is t t refl in rw is h

-- what is left of the calls, one by one: there is a next, or none
next_call : {A : Type 0} (r : List A) (k : ℕ) → length r ≡ suc k → (c : A) × ((s : List A) × ((r ≡ c ∷ s) × (length s ≡ k)))
next_call [] k h = absurd cc
next_call (c ∷ s) k h = let size : length s ≡ k = cc in (c, (s, (refl, size)))

no_call : {A : Type 0} (r : List A) → length r ≡ 0 → r ≡ []
no_call [] h = refl
no_call (c ∷ s) h = absurd cc

later_none : (x : Option ℕ) (b : Bool) → later x b ≡ None → (x ≡ None) × (b ≡ false)
later_none (Some n) b h = absurd cc
later_none None true h = absurd cc
later_none None false h = (refl, refl)

-- calls none of which did anything
pub nothing_to_undo : (f : ℕ → List Noted) (t : ℕ) (os : List Place) (j m : ℕ) (r : List Noted) → numbers t os ≡ count_from j m → drop j (f t) ≡ r → length r ≡ m → last_place r ≡ None
    → last_effect t (standing_by f os) ≡ None
nothing_to_undo f t [] j m r h is size none = refl
nothing_to_undo f t (o ∷ os) j m r h is size none = go (o.txn == t) refl h (λ i k s. nothing_to_undo f t os i k s)
  where
    mine : (k : ℕ) → m ≡ suc k → o.txn ≡ t → o.index ≡ j → numbers t os ≡ count_from (suc j) k
        → ((i n : ℕ) (q : List Noted) → numbers t os ≡ count_from i n → drop i (f t) ≡ q → length q ≡ n → last_place q ≡ None → last_effect t (standing_by f os) ≡ None)
        → last_effect t (entries_at f o ++ standing_by f os) ≡ None
    mine k more own place rest rec =
        let n = next_call r k (size ∙ more) in
        let c = n.0 in let s = n.1.0 in
        let d : drop j (f t) ≡ c ∷ s = is ∙ n.1.1.0 in
        let l = later_none (last_place s) (has_inverse c) (sym (ap last_place n.1.1.0) ∙ none) in
        let after = rec (suc j) k s rest (drop_next (f t) j c s d) n.1.1.1 l.0 in
        let idle = own_effect t c false l.1 in
        ap (λ w. last_effect t (w ++ standing_by f os)) (own_entry f t o j c s own place d) ∙ rw (after, idle) refl

    go : (b : Bool) → (o.txn == t) ≡ b → map (λ (p : Place). p.index) (cond b (o ∷ filter (λ (p : Place). p.txn == t) os) (filter (λ (p : Place). p.txn == t) os)) ≡ count_from j m
        → ((i n : ℕ) (q : List Noted) → numbers t os ≡ count_from i n → drop i (f t) ≡ q → length q ≡ n → last_place q ≡ None → last_effect t (standing_by f os) ≡ None)
        → last_effect t (standing_by f (o ∷ os)) ≡ None
    go true own e rec = let n = first_number o (numbers t os) j m e in mine n.0 n.1.0 (is_same o.txn t own) n.1.1 n.1.2 rec
    go false own e rec = effect_beyond t o.txn (take 1 (drop o.index (f o.txn))) (standing_by f os) own ∙ rec j m r e is size none

-- the places that stay when the transaction's calls from number k on go
abbrev pub before_cut : ℕ → ℕ → Place → Bool
before_cut t k o = not (o.txn == t) || nat_lt o.index k

-- the last call that did anything, and what stands once it is undone
pub record IsUndone (f : ℕ → List Noted) (t k : ℕ) (os : List Place) : Type 0 where
  pub call : Noted
  pub behind : List Noted
  pub there : drop k (f t) ≡ call ∷ behind
  pub last : last_effect t (standing_by f os) ≡ Some (entry_by t call)
  pub cut : cut_back t (standing_by f os) ≡ standing_by (put f t (take k (f t))) (filter (before_cut t k) os)

filter_same : (p q : Place → Bool) (os : List Place) → Each (λ (o : Place). p o ≡ q o) os → filter p os ≡ filter q os
filter_same p q [] h = refl
filter_same p q (o ∷ os) h = ap (λ b. cond b (o ∷ filter p os) (filter p os)) h.0 ∙ ap (λ w. cond (q o) (o ∷ w) w) (filter_same p q os h.1)

-- behind the cut the transaction's places go
all_cut : (t k : ℕ) (os : List Place) (m : ℕ) → Each (λ (o : Place). o.txn ≡ t → (suc k ≤ o.index) × (o.index < suc k + m)) os
    → Each (λ (o : Place). before_cut t k o ≡ not (o.txn == t)) os
all_cut t k [] m h = tt
all_cut t k (o ∷ os) m h = (go (o.txn == t) refl, all_cut t k os m h.1)
  where
    go : (b : Bool) → (o.txn == t) ≡ b → before_cut t k o ≡ not (o.txn == t)
    go true is = let far : k ≤ o.index = omega (arith, (h.0 (is_same o.txn t is)).0) in let x = not_below o.index k far in rw (is, x) refl
    go false is = rw is refl

later_some : (x : Option ℕ) (b : Bool) (n : ℕ) → later x b ≡ Some n → ((p : ℕ) × ((x ≡ Some p) × (n ≡ suc p))) ⊎ ((x ≡ None) × (b ≡ true) × (n ≡ 0))
later_some (Some p) b n h = inl (p, (refl, let e : n ≡ suc p = cc in e))
later_some None true n h = inr (refl, refl, let e : n ≡ 0 = cc in e)
later_some None false n h = absurd cc

pub undone_by : (f : ℕ → List Noted) (t k : ℕ) (os : List Place) (j m : ℕ) (r : List Noted) (n : ℕ) → numbers t os ≡ count_from j m → drop j (f t) ≡ r → length r ≡ m
    → last_place r ≡ Some n → j + n ≡ k → IsUndone f t k os
undone_by f t k [] j zero r n h is size last at' = let e = no_call r size in let x : last_place r ≡ None = ap last_place e in absurd cc
undone_by f t k [] j (suc m) r n h is size last at' = absurd cc
undone_by f t k (o ∷ os) j m r n h is size last at' = go (o.txn == t) refl h (λ i l s p. undone_by f t k os i l s p)
  where
    stays : (c : Noted) (s : List Noted) (p : ℕ) → o.txn ≡ t → o.index ≡ j → drop j (f t) ≡ c ∷ s → n ≡ suc p → IsUndone f t k os → IsUndone f t k (o ∷ os)
    stays c s p own place d more u =
        let here = own_entry f t o j c s own place d in
        let some = u.last in
        let near : o.index < k = omega (arith, place, more, at') in
        let test : before_cut t k o ≡ true = let a = same_is o.txn t own in let b = is_below o.index k near in rw (a, b) refl in
        let kept_entry : entries_at (put f t (take k (f t))) o ≡ entries_at f o = entries_put f t (take k (f t)) o (λ own. one_of_front (f t) o.index k near) in
        record {
          call = u.call;
          behind = u.behind;
          there = u.there;
          last = ap (λ w. last_effect t (w ++ standing_by f os)) here ∙ rw some refl;
          cut = ap (λ w. cut_back t (w ++ standing_by f os)) here ∙ (rw some (ap (λ w. entry_by t c ∷ w) u.cut)
              ∙ (ap (λ w. w ++ standing_by (put f t (take k (f t))) (filter (before_cut t k) os)) (sym here ∙ sym kept_entry)
              ∙ ap (λ b. standing_by (put f t (take k (f t))) (cond b (o ∷ filter (before_cut t k) os) (filter (before_cut t k) os))) (sym test)));
        }

    goes : (c : Noted) (s : List Noted) (l : ℕ) → o.txn ≡ t → o.index ≡ j → drop j (f t) ≡ c ∷ s → numbers t os ≡ count_from (suc j) l → length s ≡ l → last_place s ≡ None → has_inverse c ≡ true → n ≡ 0
        → IsUndone f t k (o ∷ os)
    goes c s l own place d rest size none effect first =
        let here = own_entry f t o j c s own place d in
        let nothing = nothing_to_undo f t os (suc j) l s rest (drop_next (f t) j c s d) size none in
        let done = own_effect t c true effect in
        let same : j ≡ k = omega (arith, at', first) in
        let test : before_cut t k o ≡ false = let a = same_is o.txn t own in let far : k ≤ o.index = omega (arith, place, same) in let b = not_below o.index k far in rw (a, b) refl in
        let bounds = numbers_between t os (suc k) l (subst (λ i. numbers t os ≡ count_from (suc i) l) same rest) in
        record {
          call = c;
          behind = s;
          there = subst (λ i. drop i (f t) ≡ c ∷ s) same d;
          last = ap (λ w. last_effect t (w ++ standing_by f os)) here ∙ rw (nothing, done) refl;
          cut = ap (λ w. cut_back t (w ++ standing_by f os)) here ∙ (rw (nothing, done) refl
              ∙ (sym (standing_left f (put f t (take k (f t))) t os (λ u apart. put_apart f t u (take k (f t)) apart))
              ∙ (ap (standing_by (put f t (take k (f t)))) (sym (filter_same (before_cut t k) (λ (p : Place). not (p.txn == t)) os (all_cut t k os l bounds)))
              ∙ ap (λ b. standing_by (put f t (take k (f t))) (cond b (o ∷ filter (before_cut t k) os) (filter (before_cut t k) os))) (sym test))));
        }

    mine : (l : ℕ) → m ≡ suc l → o.txn ≡ t → o.index ≡ j → numbers t os ≡ count_from (suc j) l
        → ((i e : ℕ) (q : List Noted) (p : ℕ) → numbers t os ≡ count_from i e → drop i (f t) ≡ q → length q ≡ e → last_place q ≡ Some p → i + p ≡ k → IsUndone f t k os)
        → IsUndone f t k (o ∷ os)
    mine l more own place rest rec =
        let x = next_call r l (size ∙ more) in
        let c = x.0 in let s = x.1.0 in
        let d : drop j (f t) ≡ c ∷ s = is ∙ x.1.1.0 in
        either c s d x.1.1.1 (later_some (last_place s) (has_inverse c) n (sym (ap last_place x.1.1.0) ∙ last))
      where
        either : (c : Noted) (s : List Noted) → drop j (f t) ≡ c ∷ s → length s ≡ l → ((p : ℕ) × ((last_place s ≡ Some p) × (n ≡ suc p))) ⊎ ((last_place s ≡ None) × (has_inverse c ≡ true) × (n ≡ 0)) → IsUndone f t k (o ∷ os)
        either c s d short (inl p) = stays c s p.0 own place d p.1.1 (rec (suc j) l s p.0 rest (drop_next (f t) j c s d) short p.1.0 (omega (arith, p.1.1, at')))
        either c s d short (inr e) = goes c s l own place d rest short e.0 e.1 e.2

    other : IsUndone f t k os → (o.txn == t) ≡ false → IsUndone f t k (o ∷ os)
    other u apart =
        let test : before_cut t k o ≡ true = rw apart refl in
        let cs = take 1 (drop o.index (f o.txn)) in
        record {
          call = u.call;
          behind = u.behind;
          there = u.there;
          last = effect_beyond t o.txn cs (standing_by f os) apart ∙ u.last;
          cut = cut_beyond t o.txn cs (standing_by f os) apart ∙ (ap (λ w. entries_at f o ++ w) u.cut
              ∙ (ap (λ w. map (entry_by o.txn) (take 1 (drop o.index w)) ++ standing_by (put f t (take k (f t))) (filter (before_cut t k) os)) (sym (put_apart f t o.txn (take k (f t)) apart))
              ∙ ap (λ b. standing_by (put f t (take k (f t))) (cond b (o ∷ filter (before_cut t k) os) (filter (before_cut t k) os))) (sym test)));
        }

    go : (b : Bool) → (o.txn == t) ≡ b → map (λ (p : Place). p.index) (cond b (o ∷ filter (λ (p : Place). p.txn == t) os) (filter (λ (p : Place). p.txn == t) os)) ≡ count_from j m
        → ((i e : ℕ) (q : List Noted) (p : ℕ) → numbers t os ≡ count_from i e → drop i (f t) ≡ q → length q ≡ e → last_place q ≡ Some p → i + p ≡ k → IsUndone f t k os)
        → IsUndone f t k (o ∷ os)
    go true own e rec = let x = first_number o (numbers t os) j m e in mine x.0 x.1.0 (is_same o.txn t own) x.1.1 x.1.2 rec
    go false own e rec = other (rec j m r n e is size last at') own

numbers_cut : (t k : ℕ) (os : List Place) (j m n : ℕ) → numbers t os ≡ count_from j m → j + n ≡ k → n ≤ m → numbers t (filter (before_cut t k) os) ≡ count_from j n
numbers_cut t k [] j zero zero h at' few = refl
numbers_cut t k [] j zero (suc n) h at' few = absurd (omega (arith, few))
numbers_cut t k [] j (suc m) n h at' few = absurd cc
numbers_cut t k (o ∷ os) j m n h at' few = go (o.txn == t) refl h (λ i l p. numbers_cut t k os i l p)
  where
    mine : (l p : ℕ) → n ≡ p → m ≡ suc l → o.txn ≡ t → o.index ≡ j → numbers t os ≡ count_from (suc j) l
        → ((i e q : ℕ) → numbers t os ≡ count_from i e → i + q ≡ k → q ≤ e → numbers t (filter (before_cut t k) os) ≡ count_from i q)
        → numbers t (cond (before_cut t k o) (o ∷ filter (before_cut t k) os) (filter (before_cut t k) os)) ≡ count_from j p
    mine l zero is more own place rest rec =
        let same : j ≡ k = omega (arith, at', is) in
        let far : k ≤ o.index = omega (arith, place, same) in
        let test : before_cut t k o ≡ false = let a = same_is o.txn t own in let b = not_below o.index k far in rw (a, b) refl in
        let bounds = numbers_between t os (suc k) l (subst (λ i. numbers t os ≡ count_from (suc i) l) same rest) in
        ap (λ b. numbers t (cond b (o ∷ filter (before_cut t k) os) (filter (before_cut t k) os))) test
        ∙ (ap (numbers t) (filter_same (before_cut t k) (λ (p : Place). not (p.txn == t)) os (all_cut t k os l bounds)) ∙ numbers_gone t os)
    mine l (suc p) is more own place rest rec =
        let near : o.index < k = omega (arith, place, is, at') in
        let here = same_is o.txn t own in
        let test : before_cut t k o ≡ true = let b = is_below o.index k near in rw (here, b) refl in
        ap (λ b. numbers t (cond b (o ∷ filter (before_cut t k) os) (filter (before_cut t k) os))) test
        ∙ (ap (λ b. map (λ (q : Place). q.index) (cond b (o ∷ filter (λ (q : Place). q.txn == t) (filter (before_cut t k) os)) (filter (λ (q : Place). q.txn == t) (filter (before_cut t k) os)))) here
        ∙ (ap (λ i. i ∷ numbers t (filter (before_cut t k) os)) place ∙ ap (λ w. j ∷ w) (rec (suc j) l p rest (omega (arith, is, at')) (omega (arith, is, more, few)))))

    go : (b : Bool) → (o.txn == t) ≡ b → map (λ (p : Place). p.index) (cond b (o ∷ filter (λ (p : Place). p.txn == t) os) (filter (λ (p : Place). p.txn == t) os)) ≡ count_from j m
        → ((i e q : ℕ) → numbers t os ≡ count_from i e → i + q ≡ k → q ≤ e → numbers t (filter (before_cut t k) os) ≡ count_from i q)
        → numbers t (cond (before_cut t k o) (o ∷ filter (before_cut t k) os) (filter (before_cut t k) os)) ≡ count_from j n
    go true own e rec = let x = first_number o (numbers t os) j m e in mine x.0 n refl x.1.0 (is_same o.txn t own) x.1.1 x.1.2 rec
    go false own e rec = rw own (rw own (rec j m n e at' few))

pub placed_undone : (f : ℕ → List Noted) (t k : ℕ) (os : List Place) → k ≤ length (f t) → ((u : ℕ) → numbers u os ≡ count_from 0 (length (f u)))
    → (u : ℕ) → numbers u (filter (before_cut t k) os) ≡ count_from 0 (length (put f t (take k (f t)) u))
placed_undone f t k os within h u = go (u == t) refl
  where
    go : (b : Bool) → (u == t) ≡ b → numbers u (filter (before_cut t k) os) ≡ count_from 0 (length (cond b (take k (f t)) (f u)))
    go true is =
        subst (λ v. numbers v (filter (before_cut t k) os) ≡ count_from 0 (length (take k (f t)))) (sym (is_same u t is))
        (numbers_cut t k os 0 (length (f t)) k (h t) (omega arith) within ∙ ap (count_from 0) (sym (length-take-le k (f t) within)))
    go false is = numbers_kept u (before_cut t k) os (λ o own. let same : o.txn ≡ u = is_same o.txn u own in let x : (o.txn == t) ≡ false = ap (λ v. v == t) same ∙ is in rw x refl) ∙ h u

-- ---- the last effect is taken back

pub length-set_role : (cs : List Noted) (k : ℕ) (r : Role) → length (set_role cs k r) ≡ length cs
length-set_role [] k r = refl
length-set_role (c ∷ cs) zero r = refl
length-set_role (c ∷ cs) (suc k) r = ap suc (length-set_role cs k r)

one_of_set : (cs : List Noted) (j k : ℕ) (r : Role) → ((j ≡ k) → ⊥) → take 1 (drop j (set_role cs k r)) ≡ take 1 (drop j cs)
one_of_set [] j k r h = refl
one_of_set (c ∷ cs) zero zero r h = absurd (h refl)
one_of_set (c ∷ cs) zero (suc k) r h = refl
one_of_set (c ∷ cs) (suc j) zero r h = refl
one_of_set (c ∷ cs) (suc j) (suc k) r h = one_of_set cs j k r (λ e. h (ap suc e))

one_set : (cs : List Noted) (k : ℕ) (r : Role) (c : Noted) (s : List Noted) → drop k cs ≡ c ∷ s → take 1 (drop k (set_role cs k r)) ≡ record c { role = r } ∷ []
one_set [] zero r c s h = absurd cc
one_set [] (suc k) r c s h = absurd cc
one_set (x ∷ cs) zero r c s h = let same : x ≡ c = cc in ap (λ (y : Noted). record y { role = r } ∷ []) same
one_set (x ∷ cs) (suc k) r c s h = one_set cs k r c s h

pub mark_none : (t : ℕ) (es : List Entry) → last_effect t es ≡ None → mark_last t es ≡ es
mark_none t [] h = refl
mark_none t (e ∷ es) h = go (last_effect t es) refl (is_effect t e) refl h
  where
    go : (x : Option Entry) → last_effect t es ≡ x → (b : Bool) → is_effect t e ≡ b → last_of x b e ≡ None
        → cond (is_some (last_effect t es)) (e ∷ mark_last t es) (cond (is_effect t e) (with_role TakenBack e ∷ es) (e ∷ es)) ≡ e ∷ es
    go (Some later) is b test k = absurd cc
    go None is true test k = absurd cc
    go None is false test k = rw (is, test) refl

mark_step : (t : ℕ) (e : Entry) (es : List Entry) → is_effect t e ≡ false → mark_last t (e ∷ es) ≡ e ∷ mark_last t es
mark_step t e es apart = go (last_effect t es) refl
  where
    go : (x : Option Entry) → last_effect t es ≡ x → cond (is_some (last_effect t es)) (e ∷ mark_last t es) (cond (is_effect t e) (with_role TakenBack e ∷ es) (e ∷ es)) ≡ e ∷ mark_last t es
    go (Some later) is = rw is refl
    go None is = rw (is, apart) (ap (λ w. e ∷ w) (sym (mark_none t es is)))

mark_beyond : (t u : ℕ) (cs : List Noted) (es : List Entry) → (u == t) ≡ false → mark_last t (map (entry_by u) cs ++ es) ≡ map (entry_by u) cs ++ mark_last t es
mark_beyond t u [] es apart = refl
mark_beyond t u (c ∷ cs) es apart =
    let none : is_effect t (entry_by u c) ≡ false = rw apart refl in
    mark_step t (entry_by u c) (map (entry_by u) cs ++ es) none ∙ ap (λ w. entry_by u c ∷ w) (mark_beyond t u cs es apart)

marked_later : (f : ℕ → List Noted) (t k : ℕ) (r : Role) (os : List Place) (m : ℕ) → Each (λ (o : Place). o.txn ≡ t → (suc k ≤ o.index) × (o.index < suc k + m)) os
    → Each (λ (o : Place). entries_at f o ≡ entries_at (put f t (set_role (f t) k r)) o) os
marked_later f t k r [] m h = tt
marked_later f t k r (o ∷ os) m h = (
  sym (entries_put f t (set_role (f t) k r) o (λ own. one_of_set (f t) o.index k r (λ e. let far = (h.0 own).0 in absurd (omega (arith, far, e))))),
  marked_later f t k r os m h.1,
)

pub marked_by : (f : ℕ → List Noted) (t k : ℕ) (os : List Place) (j m : ℕ) (r : List Noted) (n : ℕ) → numbers t os ≡ count_from j m → drop j (f t) ≡ r → length r ≡ m
    → last_place r ≡ Some n → j + n ≡ k → mark_last t (standing_by f os) ≡ standing_by (put f t (set_role (f t) k TakenBack)) os
marked_by f t k [] j zero r n h is size last at' = refl
marked_by f t k [] j (suc m) r n h is size last at' = absurd cc
marked_by f t k (o ∷ os) j m r n h is size last at' = go (o.txn == t) refl h (λ i l s p. marked_by f t k os i l s p)
  where
    g : ℕ → List Noted
    g = put f t (set_role (f t) k TakenBack)

    stays : (c : Noted) (s : List Noted) (p : ℕ) → o.txn ≡ t → o.index ≡ j → drop j (f t) ≡ c ∷ s → n ≡ suc p → IsUndone f t k os → mark_last t (standing_by f os) ≡ standing_by g os
        → mark_last t (standing_by f (o ∷ os)) ≡ standing_by g (o ∷ os)
    stays c s p own place d more u rest =
        let here = own_entry f t o j c s own place d in
        let some = u.last in
        let near : o.index < k = omega (arith, place, more, at') in
        let kept_entry : entries_at g o ≡ entries_at f o = entries_put f t (set_role (f t) k TakenBack) o (λ own. one_of_set (f t) o.index k TakenBack (λ e. absurd (omega (arith, near, e)))) in
        ap (λ w. mark_last t (w ++ standing_by f os)) here ∙ (rw some (ap (λ w. entry_by t c ∷ w) rest)
        ∙ ap (λ w. w ++ standing_by g os) (sym here ∙ sym kept_entry))

    goes : (c : Noted) (s : List Noted) (l : ℕ) → o.txn ≡ t → o.index ≡ j → drop j (f t) ≡ c ∷ s → numbers t os ≡ count_from (suc j) l → length s ≡ l → last_place s ≡ None → has_inverse c ≡ true → n ≡ 0
        → mark_last t (standing_by f (o ∷ os)) ≡ standing_by g (o ∷ os)
    goes c s l own place d rest size none effect first =
        let here = own_entry f t o j c s own place d in
        let nothing = nothing_to_undo f t os (suc j) l s rest (drop_next (f t) j c s d) size none in
        let done = own_effect t c true effect in
        let same : j ≡ k = omega (arith, at', first) in
        let bounds = numbers_between t os (suc k) l (subst (λ i. numbers t os ≡ count_from (suc i) l) same rest) in
        let there : drop k (f t) ≡ c ∷ s = subst (λ i. drop i (f t) ≡ c ∷ s) same d in
        let now : entries_at g o ≡ with_role TakenBack (entry_by t c) ∷ [] =
        ap (λ v. map (entry_by v) (take 1 (drop o.index (g v)))) own
        ∙ (ap (λ w. map (entry_by t) (take 1 (drop o.index w))) (put_own f t t (set_role (f t) k TakenBack) refl)
        ∙ (ap (λ i. map (entry_by t) (take 1 (drop i (set_role (f t) k TakenBack)))) (place ∙ same)
        ∙ ap (map (entry_by t)) (one_set (f t) k TakenBack c s there))) in
        ap (λ w. mark_last t (w ++ standing_by f os)) here ∙ (rw (nothing, done) refl
        ∙ (ap (λ w. with_role TakenBack (entry_by t c) ∷ w) (standing_same f g os (marked_later f t k TakenBack os l bounds))
        ∙ ap (λ w. w ++ standing_by g os) (sym now)))

    mine : (l : ℕ) → m ≡ suc l → o.txn ≡ t → o.index ≡ j → numbers t os ≡ count_from (suc j) l
        → ((i e : ℕ) (q : List Noted) (p : ℕ) → numbers t os ≡ count_from i e → drop i (f t) ≡ q → length q ≡ e → last_place q ≡ Some p → i + p ≡ k → mark_last t (standing_by f os) ≡ standing_by g os)
        → mark_last t (standing_by f (o ∷ os)) ≡ standing_by g (o ∷ os)
    mine l more own place rest rec =
        let x = next_call r l (size ∙ more) in
        let c = x.0 in let s = x.1.0 in
        let d : drop j (f t) ≡ c ∷ s = is ∙ x.1.1.0 in
        either c s d x.1.1.1 (later_some (last_place s) (has_inverse c) n (sym (ap last_place x.1.1.0) ∙ last))
      where
        either : (c : Noted) (s : List Noted) → drop j (f t) ≡ c ∷ s → length s ≡ l → ((p : ℕ) × ((last_place s ≡ Some p) × (n ≡ suc p))) ⊎ ((last_place s ≡ None) × (has_inverse c ≡ true) × (n ≡ 0))
            → mark_last t (standing_by f (o ∷ os)) ≡ standing_by g (o ∷ os)
        either c s d short (inl p) =
            let far : suc j + p.0 ≡ k = omega (arith, p.1.1, at') in
            stays c s p.0 own place d p.1.1 (undone_by f t k os (suc j) l s p.0 rest (drop_next (f t) j c s d) short p.1.0 far) (rec (suc j) l s p.0 rest (drop_next (f t) j c s d) short p.1.0 far)
        either c s d short (inr e) = goes c s l own place d rest short e.0 e.1 e.2

    go : (b : Bool) → (o.txn == t) ≡ b → map (λ (p : Place). p.index) (cond b (o ∷ filter (λ (p : Place). p.txn == t) os) (filter (λ (p : Place). p.txn == t) os)) ≡ count_from j m
        → ((i e : ℕ) (q : List Noted) (p : ℕ) → numbers t os ≡ count_from i e → drop i (f t) ≡ q → length q ≡ e → last_place q ≡ Some p → i + p ≡ k → mark_last t (standing_by f os) ≡ standing_by g os)
        → mark_last t (standing_by f (o ∷ os)) ≡ standing_by g (o ∷ os)
    go true own e rec = let x = first_number o (numbers t os) j m e in mine x.0 x.1.0 (is_same o.txn t own) x.1.1 x.1.2 rec
    go false apart e rec =
        let cs = take 1 (drop o.index (f o.txn)) in
        mark_beyond t o.txn cs (standing_by f os) apart ∙ (ap (λ w. entries_at f o ++ w) (rec j m r n e is size last at')
        ∙ ap (λ w. map (entry_by o.txn) (take 1 (drop o.index w)) ++ standing_by g os) (sym (put_apart f t o.txn (set_role (f t) k TakenBack) apart)))

-- ---- a transaction is back

pub length-settle : (n : ℕ) (cs : List Noted) → length (settle_calls n cs) ≡ length cs
length-settle n [] = refl
length-settle n (c ∷ cs) = ap suc (length-settle (left_after n c.role) cs)

mark_from : (t : ℕ) (es : List Entry) → settle_after t 0 es ≡ mark_all t es
mark_from t [] = refl
mark_from t (e ∷ es) = refl

uncounted : (t u : ℕ) (c : Noted) → (u == t) ≡ false → is_counted t (entry_by u c) ≡ false
uncounted t u c apart = rw apart refl

mark_past : (t u : ℕ) (cs : List Noted) (es : List Entry) → (u == t) ≡ false → mark_all t (map (entry_by u) cs ++ es) ≡ map (entry_by u) cs ++ mark_all t es
mark_past t u [] es apart = refl
mark_past t u (c ∷ cs) es apart =
    ap (λ b. cond b (with_role TakenBack (entry_by u c) ∷ mark_all t (map (entry_by u) cs ++ es)) (entry_by u c ∷ mark_all t (map (entry_by u) cs ++ es))) (uncounted t u c apart)
    ∙ ap (λ w. entry_by u c ∷ w) (mark_past t u cs es apart)

settle_past : (t u n : ℕ) (cs : List Noted) (es : List Entry) → (u == t) ≡ false → settle_after t n (map (entry_by u) cs ++ es) ≡ map (entry_by u) cs ++ settle_after t n es
settle_past t u zero cs es apart = mark_from t (map (entry_by u) cs ++ es) ∙ (mark_past t u cs es apart ∙ ap (λ w. map (entry_by u) cs ++ w) (sym (mark_from t es)))
settle_past t u (suc n) [] es apart = refl
settle_past t u (suc n) (c ∷ cs) es apart =
    ap (λ b. cond b (entry_by u c ∷ settle_after t n (map (entry_by u) cs ++ es)) (entry_by u c ∷ settle_after t (suc n) (map (entry_by u) cs ++ es))) (uncounted t u c apart)
    ∙ ap (λ w. entry_by u c ∷ w) (settle_past t u (suc n) cs es apart)

pub counted_own : (t : ℕ) (c : Noted) → is_counted t (entry_by t c) ≡ is_standing c.role
counted_own t c = let is = same_is t t refl in rw is refl

-- one call more is marked as it should be, and so is the rest
one_settled : (t n : ℕ) (c : Noted) (es : List Entry) → settle_after t n (entry_by t c ∷ es) ≡ entry_by t (record c { role = settled_role n c.role }) ∷ settle_after t (left_after n c.role) es
one_settled t zero c es =
    ap (λ b. cond b (with_role TakenBack (entry_by t c) ∷ mark_all t es) (entry_by t c ∷ mark_all t es)) (counted_own t c) ∙ go (is_standing c.role)
  where
    go : (b : Bool) → cond b (with_role TakenBack (entry_by t c) ∷ mark_all t es) (entry_by t c ∷ mark_all t es) ≡ entry_by t (record c { role = cond b TakenBack c.role }) ∷ settle_after t zero es
    go true = ap (λ w. with_role TakenBack (entry_by t c) ∷ w) (sym (mark_from t es))
    go false = ap (λ w. entry_by t c ∷ w) (sym (mark_from t es))
one_settled t (suc n) c es =
    ap (λ b. cond b (entry_by t c ∷ settle_after t n es) (entry_by t c ∷ settle_after t (suc n) es)) (counted_own t c) ∙ go (is_standing c.role)
  where
    go : (b : Bool) → cond b (entry_by t c ∷ settle_after t n es) (entry_by t c ∷ settle_after t (suc n) es) ≡ entry_by t c ∷ settle_after t (cond b n (suc n)) es
    go true = refl
    go false = refl

pub settled_by : (f : ℕ → List Noted) (cs : List Noted) (t : ℕ) (os : List Place) (j m : ℕ) (r : List Noted) (n : ℕ) → numbers t os ≡ count_from j m → drop j (f t) ≡ r → length r ≡ m
    → drop j cs ≡ settle_calls n r → settle_after t n (standing_by f os) ≡ standing_by (put f t cs) os
settled_by f cs t [] j m r n h is size now = refl
settled_by f cs t (o ∷ os) j m r n h is size now = go (o.txn == t) refl h (λ i l s p. settled_by f cs t os i l s p)
  where
    mine : (l : ℕ) → m ≡ suc l → o.txn ≡ t → o.index ≡ j → numbers t os ≡ count_from (suc j) l
        → ((i e : ℕ) (q : List Noted) (p : ℕ) → numbers t os ≡ count_from i e → drop i (f t) ≡ q → length q ≡ e → drop i cs ≡ settle_calls p q → settle_after t p (standing_by f os) ≡ standing_by (put f t cs) os)
        → settle_after t n (standing_by f (o ∷ os)) ≡ standing_by (put f t cs) (o ∷ os)
    mine l more own place rest rec =
        let x = next_call r l (size ∙ more) in
        let c = x.0 in let s = x.1.0 in
        let d : drop j (f t) ≡ c ∷ s = is ∙ x.1.1.0 in
        let here = own_entry f t o j c s own place d in
        let first : Noted = record c { role = settled_role n c.role } in
        let few : ℕ = left_after n c.role in
        let left : drop j cs ≡ first ∷ settle_calls few s = now ∙ ap (settle_calls n) x.1.1.0 in
        let there : entries_at (put f t cs) o ≡ entry_by t first ∷ [] =
        ap (λ v. map (entry_by v) (take 1 (drop o.index (put f t cs v)))) own
        ∙ (ap (λ w. map (entry_by t) (take 1 (drop o.index w))) (put_own f t t cs refl)
        ∙ (ap (λ i. map (entry_by t) (take 1 (drop i cs))) place ∙ ap (λ w. map (entry_by t) (take 1 w)) left)) in
        ap (λ w. settle_after t n (w ++ standing_by f os)) here
        ∙ (one_settled t n c (standing_by f os)
        ∙ (ap (λ w. entry_by t first ∷ w) (rec (suc j) l s few rest (drop_next (f t) j c s d) x.1.1.1 (drop_next cs j first (settle_calls few s) left))
        ∙ ap (λ w. w ++ standing_by (put f t cs) os) (sym there)))

    go : (b : Bool) → (o.txn == t) ≡ b → map (λ (p : Place). p.index) (cond b (o ∷ filter (λ (p : Place). p.txn == t) os) (filter (λ (p : Place). p.txn == t) os)) ≡ count_from j m
        → ((i e : ℕ) (q : List Noted) (p : ℕ) → numbers t os ≡ count_from i e → drop i (f t) ≡ q → length q ≡ e → drop i cs ≡ settle_calls p q → settle_after t p (standing_by f os) ≡ standing_by (put f t cs) os)
        → settle_after t n (standing_by f (o ∷ os)) ≡ standing_by (put f t cs) (o ∷ os)
    go true own e rec = let x = first_number o (numbers t os) j m e in mine x.0 x.1.0 (is_same o.txn t own) x.1.1 x.1.2 rec
    go false apart e rec =
        settle_past t o.txn n (take 1 (drop o.index (f o.txn))) (standing_by f os) apart
        ∙ (ap (λ w. entries_at f o ++ w) (rec j m r n e is size now)
        ∙ ap (λ w. map (entry_by o.txn) (take 1 (drop o.index w)) ++ standing_by (put f t cs) os) (sym (put_apart f t o.txn cs apart)))
