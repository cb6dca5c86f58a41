-- Whether an effect stands after the first so many that stand: of a transaction's calls, and of its entries.
use Rattle.std.proofs.Common.{◌≡◌, ℕ, zero, suc, Bool, true, false, cond, ◌==◌, List, [], ◌∷◌, Option, Some, None, is_some, filter, map, take, length, refl, ap, sym, ◌∙◌}
use Rattle.std.proofs.Math.Dec.{leb, leb-zero, leb-suc-zero, leb-suc-suc}
use Rattle.std.proofs.lemmas.Bool.{and_left}
use Rattle.mt_live.specs.declared.places.Place.{Place}
use Rattle.mt_live.specs.Entries.{Entry, is_standing, kept}
use Rattle.std.specs.Option.{option_map}
use Rattle.mt_live.specs.Lives.{calls_in, calls_of, entry_by, is_member, member_of, standing_by, numbers, count_from}
use Rattle.mt_live.specs.Members.{Member, Noted, has_inverse, later, last_place, standing_count, noted_after}
use Rattle.mt_live.specs.Undoing.{only, is_counted, is_effect, last_of, last_effect, after_first}
use Rattle.mt_live.proofs.Ends.{counted_own, own_effect, standing_own}

-- ---- calls

abbrev pub reaches : ℕ → List Noted → Option ℕ → Bool
reaches n cs None = false
reaches n cs (Some at) = leb n (standing_count (take at cs))

pub effect_after : (n : ℕ) (cs : List Noted) → is_some (last_place (noted_after n cs)) ≡ reaches n cs (last_place cs)
effect_after n [] = refl
effect_after zero (c ∷ cs) = go (last_place (c ∷ cs))
  where
    go : (o : Option ℕ) → is_some o ≡ reaches zero (c ∷ cs) o
    go None = refl
    go (Some at) = sym (leb-zero (standing_count (take at (c ∷ cs))))
effect_after (suc n) (c ∷ cs) = go (is_standing c.role) refl (last_place cs) (has_inverse c) (effect_after n cs) (effect_after (suc n) cs)
  where
    count : (b : Bool) → is_standing c.role ≡ b → (k : ℕ) → leb (suc n) (cond b (suc (standing_count (take k cs))) (standing_count (take k cs))) ≡ reaches (suc n) (c ∷ cs) (Some (suc k))
    count b is k = ap (λ x. leb (suc n) (cond x (suc (standing_count (take k cs))) (standing_count (take k cs)))) (sym is)

    first : reaches (suc n) (c ∷ cs) (Some 0) ≡ false
    first = leb-suc-zero n

    go : (b : Bool) → is_standing c.role ≡ b → (o : Option ℕ) (h : Bool) → is_some (last_place (noted_after n cs)) ≡ reaches n cs o → is_some (last_place (noted_after (suc n) cs)) ≡ reaches (suc n) cs o
        → is_some (last_place (cond b (noted_after n cs) (noted_after (suc n) cs))) ≡ reaches (suc n) (c ∷ cs) (later o h)
    go true is (Some k) h fewer same = fewer ∙ (sym (leb-suc-suc n (standing_count (take k cs))) ∙ count true is k)
    go false is (Some k) h fewer same = same ∙ count false is k
    go true is None true fewer same = fewer ∙ sym first
    go false is None true fewer same = same ∙ sym first
    go true is None false fewer same = fewer
    go false is None false fewer same = same

-- ---- entries

skipped : (o : Option Entry) (e : Entry) → last_of o false e ≡ o
skipped None e = refl
skipped (Some x) e = refl

last_only : (t : ℕ) (es : List Entry) → last_effect t es ≡ last_effect t (kept (only t) es)
last_only t [] = refl
last_only t (e ∷ es) = go (e.txn == t) refl (last_only t es)
  where
    go : (b : Bool) → (e.txn == t) ≡ b → last_effect t es ≡ last_effect t (kept (only t) es) → last_effect t (e ∷ es) ≡ last_effect t (cond b (e ∷ kept (only t) es) (kept (only t) es))
    go true is rest = ap (λ o. last_of o (is_effect t e) e) rest
    go false is rest =
        let none : is_effect t e ≡ false = and_left (is_counted t e) (is_some _) (and_left (e.txn == t) (is_standing e.role) is) in
        ap (λ b. last_of (last_effect t es) b e) none ∙ (skipped (last_effect t es) e ∙ rest)

after_none : (t : ℕ) (es : List Entry) → after_first t zero es ≡ es
after_none t [] = refl
after_none t (e ∷ es) = refl

after_only : (t n : ℕ) (es : List Entry) → kept (only t) (after_first t n es) ≡ after_first t n (kept (only t) es)
after_only t n [] = refl
after_only t zero (e ∷ es) = sym (after_none t (kept (only t) (e ∷ es)))
after_only t (suc n) (e ∷ es) = go (e.txn == t) refl (after_only t n es) (after_only t (suc n) es)
  where
    own : (b : Bool) → is_counted t e ≡ b → kept (only t) (after_first t n es) ≡ after_first t n (kept (only t) es) → kept (only t) (after_first t (suc n) es) ≡ after_first t (suc n) (kept (only t) es)
        → kept (only t) (cond b (after_first t n es) (after_first t (suc n) es)) ≡ cond b (after_first t n (kept (only t) es)) (after_first t (suc n) (kept (only t) es))
    own true is fewer same = fewer
    own false is fewer same = same

    go : (b : Bool) → (e.txn == t) ≡ b → kept (only t) (after_first t n es) ≡ after_first t n (kept (only t) es) → kept (only t) (after_first t (suc n) es) ≡ after_first t (suc n) (kept (only t) es)
        → kept (only t) (after_first t (suc n) (e ∷ es)) ≡ after_first t (suc n) (cond b (e ∷ kept (only t) es) (kept (only t) es))
    go true is fewer same = own (is_counted t e) refl fewer same
    go false is fewer same =
        let none : is_counted t e ≡ false = and_left (e.txn == t) (is_standing e.role) is in
        ap (λ b. kept (only t) (cond b (after_first t n es) (after_first t (suc n) es))) none ∙ same

own_last : (t : ℕ) (cs : List Noted) → is_some (last_effect t (map (entry_by t) cs)) ≡ is_some (last_place cs)
own_last t [] = refl
own_last t (c ∷ cs) = ap (λ b. is_some (last_of (last_effect t (map (entry_by t) cs)) b (entry_by t c))) (own_effect t c (has_inverse c) refl) ∙ go (last_effect t (map (entry_by t) cs)) (last_place cs) (has_inverse c) (own_last t cs)
  where
    go : (o : Option Entry) (p : Option ℕ) (h : Bool) → is_some o ≡ is_some p → is_some (last_of o h (entry_by t c)) ≡ is_some (later p h)
    go None None true same = refl
    go None None false same = refl
    go (Some e) (Some k) h same = refl
    go None (Some k) h same = absurd cc
    go (Some e) None h same = absurd cc

own_after : (t n : ℕ) (cs : List Noted) → is_some (last_effect t (after_first t n (map (entry_by t) cs))) ≡ is_some (last_place (noted_after n cs))
own_after t n [] = refl
own_after t zero (c ∷ cs) = own_last t (c ∷ cs)
own_after t (suc n) (c ∷ cs) =
    ap (λ b. is_some (last_effect t (cond b (after_first t n (map (entry_by t) cs)) (after_first t (suc n) (map (entry_by t) cs))))) (counted_own t c)
    ∙ go (is_standing c.role) (own_after t n cs) (own_after t (suc n) cs)
  where
    go : (b : Bool) → is_some (last_effect t (after_first t n (map (entry_by t) cs))) ≡ is_some (last_place (noted_after n cs)) → is_some (last_effect t (after_first t (suc n) (map (entry_by t) cs))) ≡ is_some (last_place (noted_after (suc n) cs))
        → is_some (last_effect t (cond b (after_first t n (map (entry_by t) cs)) (after_first t (suc n) (map (entry_by t) cs)))) ≡ is_some (last_place (cond b (noted_after n cs) (noted_after (suc n) cs)))
    go true fewer same = fewer
    go false fewer same = same

-- of a transaction's entries as of its calls
pub effect_behind : (f : ℕ → List Noted) (t n : ℕ) (os : List Place) → numbers t os ≡ count_from 0 (length (f t))
    → is_some (last_effect t (after_first t n (standing_by f os))) ≡ is_some (last_place (noted_after n (f t)))
effect_behind f t n os placed =
    ap is_some (last_only t (after_first t n (standing_by f os))) ∙ (ap (λ es. is_some (last_effect t es)) (after_only t n (standing_by f os))
    ∙ (ap (λ es. is_some (last_effect t (after_first t n es))) (standing_own f t os 0 (length (f t)) (f t) placed refl refl) ∙ own_after t n (f t)))

-- of a member's
pub effect_there : (ms : List Member) (t n : ℕ) (os : List Place) → numbers t os ≡ count_from 0 (length (calls_of ms t)) → is_member ms t ≡ true
    → Some (is_some (last_effect t (after_first t n (standing_by (calls_of ms) os)))) ≡ option_map (λ (m : Member). is_some (last_place (noted_after n m.calls))) (member_of ms t)
effect_there ms t n os placed there = ap Some (effect_behind (calls_of ms) t n os placed) ∙ go (member_of ms t) there
  where
    go : (o : Option Member) → is_some o ≡ true → Some (is_some (last_place (noted_after n (calls_in o)))) ≡ option_map (λ (m : Member). is_some (last_place (noted_after n m.calls))) o
    go None h = absurd cc
    go (Some m) h = refl

-- ---- how many stand

counted_only : (t : ℕ) (es : List Entry) → filter (is_counted t) (kept (only t) es) ≡ filter (is_counted t) es
counted_only t [] = refl
counted_only t (e ∷ es) = go (e.txn == t) refl (counted_only t es)
  where
    go : (b : Bool) → (e.txn == t) ≡ b → filter (is_counted t) (kept (only t) es) ≡ filter (is_counted t) es
        → filter (is_counted t) (cond b (e ∷ kept (only t) es) (kept (only t) es)) ≡ filter (is_counted t) (e ∷ es)
    go true is rest = ap (λ w. cond (is_counted t e) (e ∷ w) w) rest
    go false is rest =
        let none : is_counted t e ≡ false = and_left (e.txn == t) (is_standing e.role) is in
        rest ∙ ap (λ b. cond b (e ∷ filter (is_counted t) es) (filter (is_counted t) es)) (sym none)

counted_calls : (t : ℕ) (cs : List Noted) → length (filter (is_counted t) (map (entry_by t) cs)) ≡ standing_count cs
counted_calls t [] = refl
counted_calls t (c ∷ cs) =
    ap (λ b. length (cond b (entry_by t c ∷ filter (is_counted t) (map (entry_by t) cs)) (filter (is_counted t) (map (entry_by t) cs)))) (counted_own t c)
    ∙ go (is_standing c.role) (counted_calls t cs)
  where
    go : (b : Bool) → length (filter (is_counted t) (map (entry_by t) cs)) ≡ standing_count cs
        → length (cond b (entry_by t c ∷ filter (is_counted t) (map (entry_by t) cs)) (filter (is_counted t) (map (entry_by t) cs))) ≡ cond b (suc (standing_count cs)) (standing_count cs)
    go true rest = ap suc rest
    go false rest = rest

-- as many of a transaction's entries as of its calls
pub counted_standing : (f : ℕ → List Noted) (t : ℕ) (os : List Place) → numbers t os ≡ count_from 0 (length (f t))
    → length (filter (is_counted t) (standing_by f os)) ≡ standing_count (f t)
counted_standing f t os placed =
    ap length (sym (counted_only t (standing_by f os)))
    ∙ (ap (λ es. length (filter (is_counted t) es)) (standing_own f t os 0 (length (f t)) (f t) placed refl refl) ∙ counted_calls t (f t))

-- the last effect among those after the first is the last of all
pub last_after : (t n : ℕ) (es : List Entry) (e : Entry) → last_effect t (after_first t n es) ≡ Some e → last_effect t es ≡ Some e
last_after t n [] e is = is
last_after t zero (x ∷ es) e is = is
last_after t (suc n) (x ∷ es) e is = go (is_counted t x) is (last_after t n es e) (last_after t (suc n) es e)
  where
    go : (b : Bool) → last_effect t (cond b (after_first t n es) (after_first t (suc n) es)) ≡ Some e → (last_effect t (after_first t n es) ≡ Some e → last_effect t es ≡ Some e) → (last_effect t (after_first t (suc n) es) ≡ Some e → last_effect t es ≡ Some e)
        → last_effect t (x ∷ es) ≡ Some e
    go true now fewer same = ap (λ o. last_of o (is_effect t x) x) (fewer now)
    go false now fewer same = ap (λ o. last_of o (is_effect t x) x) (same now)
