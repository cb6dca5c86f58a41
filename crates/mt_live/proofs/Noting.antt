-- Calls beside their roles.
use Rattle.std.proofs.Common.{◌≡◌, ◌<◌, ◌≤◌, ℕ, zero, suc, ◌+◌, Bool, true, false, cond, List, [], ◌∷◌, ◌++◌, map, take, drop, set, length, get_or, refl, ap, sym, subst, ◌∙◌, arith, append_assoc, append-nil}
use Rattle.std.proofs.Math.Seq.{take-append_seam}
use Rattle.std.proofs.lemmas.List.{take_all, drop_all}
use Rattle.mt_model.specs.History.{Call}
use Rattle.mt_live.specs.declared.transactions.Role.{Role}
use Rattle.mt_live.specs.Members.{Noted, noted, noted_calls, plain_call, set_role, count_noted, settle_calls}
use Rattle.mt_live.specs.Roles.{count_roles, settled_role, left_after, settle_roles}

pub noted-push : (cs : List Call) (rs : List Role) (c : Call) (r : Role) → length rs ≡ length cs → noted_calls (cs ++ c ∷ []) (rs ++ r ∷ []) ≡ noted_calls cs rs ++ noted r c ∷ []
noted-push [] [] c r h = refl
noted-push [] (x ∷ rs) c r h = absurd cc
noted-push (y ∷ cs) [] c r h = absurd cc
noted-push (y ∷ cs) (x ∷ rs) c r h = let same : length rs ≡ length cs = cc in ap (λ w. noted x y ∷ w) (noted-push cs rs c r same)

pub noted-take : (n : ℕ) (cs : List Call) (rs : List Role) → noted_calls (take n cs) (take n rs) ≡ take n (noted_calls cs rs)
noted-take zero cs rs = refl
noted-take (suc n) [] rs = refl
noted-take (suc n) (c ∷ cs) [] = refl
noted-take (suc n) (c ∷ cs) (r ∷ rs) = ap (λ w. noted r c ∷ w) (noted-take n cs rs)

pub noted-length : (cs : List Call) (rs : List Role) → length rs ≡ length cs → length (noted_calls cs rs) ≡ length cs
noted-length [] rs h = refl
noted-length (c ∷ cs) [] h = absurd cc
noted-length (c ∷ cs) (r ∷ rs) h = let same : length rs ≡ length cs = cc in ap suc (noted-length cs rs same)

pub noted-calls : (cs : List Call) (rs : List Role) → length rs ≡ length cs → map plain_call (noted_calls cs rs) ≡ cs
noted-calls [] rs h = refl
noted-calls (c ∷ cs) [] h = absurd cc
noted-calls (c ∷ cs) (r ∷ rs) h = let same : length rs ≡ length cs = cc in ap (λ w. c ∷ w) (noted-calls cs rs same)

pub noted-set : (n : ℕ) (cs : List Call) (rs : List Role) (r : Role) → noted_calls cs (set rs n r) ≡ set_role (noted_calls cs rs) n r
noted-set n [] rs r = refl
noted-set n (c ∷ cs) [] r = refl
noted-set zero (c ∷ cs) (x ∷ rs) r = refl
noted-set (suc n) (c ∷ cs) (x ∷ rs) r = ap (λ w. noted x c ∷ w) (noted-set n cs rs r)

pub noted-get : (n : ℕ) (cs : List Call) (rs : List Role) (d : Noted) (e : Call) → length rs ≡ length cs → n < length cs → plain_call (get_or (noted_calls cs rs) n d) ≡ get_or cs n e
noted-get n [] rs d e h lt = absurd (omega (arith, lt))
noted-get n (c ∷ cs) [] d e h lt = absurd cc
noted-get zero (c ∷ cs) (r ∷ rs) d e h lt = refl
noted-get (suc n) (c ∷ cs) (r ∷ rs) d e h lt = let same : length rs ≡ length cs = cc in noted-get n cs rs d e same (omega (arith, lt))

pub noted-role : (n : ℕ) (cs : List Call) (rs : List Role) (d : Noted) (e : Role) → length rs ≡ length cs → n < length cs → (get_or (noted_calls cs rs) n d).role ≡ get_or rs n e
noted-role n [] rs d e h lt = absurd (omega (arith, lt))
noted-role n (c ∷ cs) [] d e h lt = absurd cc
noted-role zero (c ∷ cs) (r ∷ rs) d e h lt = refl
noted-role (suc n) (c ∷ cs) (r ∷ rs) d e h lt = let same : length rs ≡ length cs = cc in noted-role n cs rs d e same (omega (arith, lt))

pub noted-settle : (n : ℕ) (cs : List Call) (rs : List Role) → noted_calls cs (settle_roles n rs) ≡ settle_calls n (noted_calls cs rs)
noted-settle n [] rs = refl
noted-settle n (c ∷ cs) [] = refl
noted-settle n (c ∷ cs) (r ∷ rs) = ap (λ w. noted (settled_role n r) c ∷ w) (noted-settle (left_after n r) cs rs)

pub noted-count : (p : Role → Bool) (cs : List Call) (rs : List Role) → length rs ≡ length cs → count_noted p (noted_calls cs rs) ≡ count_roles p rs
noted-count p [] [] h = refl
noted-count p [] (r ∷ rs) h = absurd cc
noted-count p (c ∷ cs) [] h = absurd cc
noted-count p (c ∷ cs) (r ∷ rs) h = let same : length rs ≡ length cs = cc in ap (λ n. cond (p r) (suc n) n) (noted-count p cs rs same)

-- one call beside its role
pub noted-at : (n : ℕ) (cs : List Call) (rs : List Role) (c : Call) (r : Role) → length rs ≡ length cs → n < length cs → c ≡ get_or cs n c → r ≡ get_or rs n r → noted r c ≡ get_or (noted_calls cs rs) n (noted r c)
noted-at n [] rs c r h lt is role = absurd (omega (arith, lt))
noted-at n (x ∷ cs) [] c r h lt is role = absurd cc
noted-at zero (x ∷ cs) (y ∷ rs) c r h lt is role = ap (λ d. noted r d) is ∙ ap (λ q. noted q x) role
noted-at (suc n) (x ∷ cs) (y ∷ rs) c r h lt is role = let same : length rs ≡ length cs = cc in noted-at n cs rs c r same (omega (arith, lt)) is role

-- ---- a loop over the roles

pub counted-more : (p : Role → Bool) (rs : List Role) (i : ℕ) (r : Role) → i < length rs → r ≡ get_or rs i r → count_roles p (take (suc i) rs) ≡ cond (p r) (count_roles p (take i rs) + 1) (count_roles p (take i rs))
counted-more p [] i r lt is = absurd (omega (arith, lt))
counted-more p (x ∷ rs) zero r lt is = ap (λ y. cond (p y) 1 0) (sym is)
counted-more p (x ∷ rs) (suc i) r lt is = go (p x) (p r) (counted-more p rs i r (omega (arith, lt)) is)
  where
    go : (a b : Bool) → count_roles p (take (suc i) rs) ≡ cond b (count_roles p (take i rs) + 1) (count_roles p (take i rs))
        → cond a (suc (count_roles p (take (suc i) rs))) (count_roles p (take (suc i) rs)) ≡ cond b (cond a (suc (count_roles p (take i rs))) (count_roles p (take i rs)) + 1) (cond a (suc (count_roles p (take i rs))) (count_roles p (take i rs)))
    go true true h = omega (arith, h)
    go true false h = omega (arith, h)
    go false true h = h
    go false false h = h

-- what is settled so far, and what is left
pub record SettledSoFar (first left i : ℕ) (old now : List Role) : Type 0 where
  pub whole : settle_roles first old ≡ take i now ++ settle_roles left (drop i old)
  pub rest : drop i now ≡ drop i old

take_set : (xs : List Role) (i : ℕ) (v : Role) → i < length xs → take (suc i) (set xs i v) ≡ take i xs ++ v ∷ []
take_set [] i v lt = absurd (omega (arith, lt))
take_set (x ∷ xs) zero v lt = refl
take_set (x ∷ xs) (suc i) v lt = ap (λ w. x ∷ w) (take_set xs i v (omega (arith, lt)))

drop_set : (xs : List Role) (i : ℕ) (v : Role) → drop (suc i) (set xs i v) ≡ drop (suc i) xs
drop_set [] i v = refl
drop_set (x ∷ xs) zero v = refl
drop_set (x ∷ xs) (suc i) v = drop_set xs i v

drop_one : (xs : List Role) (i : ℕ) (r : Role) → i < length xs → r ≡ get_or xs i r → drop i xs ≡ r ∷ drop (suc i) xs
drop_one [] i r lt is = absurd (omega (arith, lt))
drop_one (x ∷ xs) zero r lt is = ap (λ y. y ∷ xs) (sym is)
drop_one (x ∷ xs) (suc i) r lt is = drop_one xs i r (omega (arith, lt)) is

tail_is : (ys : List Role) (i : ℕ) (r : Role) (xs : List Role) → drop i ys ≡ r ∷ xs → drop (suc i) ys ≡ xs
tail_is [] zero r xs h = absurd cc
tail_is [] (suc i) r xs h = absurd cc
tail_is (y ∷ ys) zero r xs h = cc
tail_is (y ∷ ys) (suc i) r xs h = tail_is ys i r xs h

pub settled_one : (first left i : ℕ) (old now : List Role) (r : Role) → i < length now → r ≡ get_or now i r → SettledSoFar first left i old now
    → SettledSoFar first (left_after left r) (suc i) old (set now i (settled_role left r))
settled_one first left i old now r lt is h =
    let here : drop i now ≡ r ∷ drop (suc i) now = drop_one now i r lt is in
    let there : drop i old ≡ r ∷ drop (suc i) now = sym h.rest ∙ here in
    let behind : drop (suc i) old ≡ drop (suc i) now = tail_is old i r (drop (suc i) now) there in
    record {
      whole = h.whole ∙ (ap (λ w. take i now ++ settle_roles left w) (there ∙ ap (λ w. r ∷ w) (sym behind))
          ∙ (sym (append_assoc (take i now) (settled_role left r ∷ []) (settle_roles (left_after left r) (drop (suc i) old)))
          ∙ ap (λ w. w ++ settle_roles (left_after left r) (drop (suc i) old)) (sym (take_set now i (settled_role left r) lt))));
      rest = drop_set now i (settled_role left r) ∙ sym behind;
    }

pub settled_in_the_end : (first left i : ℕ) (old now : List Role) → length now ≤ i → SettledSoFar first left i old now → now ≡ settle_roles first old
settled_in_the_end first left i old now past h =
    let all : take i now ≡ now = take_all i now past in
    let none : drop i now ≡ [] = drop_all i now past in
    sym (h.whole ∙ (ap (λ w. w ++ settle_roles left (drop i old)) all ∙ (ap (λ w. now ++ settle_roles left w) (sym h.rest ∙ none) ∙ append-nil now)))

-- all of the roles, written through a slice
pub written_roles : (n : ℕ) (xs ys : List Role) → length xs ≡ n → length ys ≡ n → take n (ys ++ drop (length ys) xs) ≡ ys
written_roles n xs ys long same = subst (λ m. take m (ys ++ drop (length ys) xs) ≡ ys) same (take-append_seam ys (drop (length ys) xs))
