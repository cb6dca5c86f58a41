-- The transaction of a number, in a list that changes.
use Rattle.std.proofs.Common.{◌≡◌, ◌≢◌, ℕ, zero, suc, ◌<◌, ◌≤◌, ◌+◌, ◌==◌, Bool, true, false, cond, List, [], ◌∷◌, ◌++◌, Option, Some, None, get_or, set, refl, ap, sym, ◌∙◌, subst, arith}
use Rattle.std.proofs.lemmas.Bool.Decides.{Decides-eqb}
use Rattle.std.specs.List.{remove}
use Rattle.mt_live.specs.Machine.{put}
use Rattle.mt_live.specs.Members.{Member}
use Rattle.mt_live.specs.Lives.{member_of, IsFirst, AreRising}

same_is : (a b : ℕ) → a ≡ b → (a == b) ≡ true
same_is a b h = (Decides-eqb a b).1 h

is_same : (a b : ℕ) → (a == b) ≡ true → a ≡ b
is_same a b h = (Decides-eqb a b).0 h

apart_is : (a b : ℕ) → a ≢ b → (a == b) ≡ false
apart_is a b h = go (a == b) refl
  where
    go : (x : Bool) → (a == b) ≡ x → x ≡ false
    go true e = absurd (h (is_same a b e))
    go false e = refl

-- ---- where the transaction is

first_of_rest : (x : Member) (xs : List Member) (t i : ℕ) → IsFirst (x ∷ xs) t (suc i) → IsFirst xs t i
first_of_rest x xs t i f = record {
  within = let w = f.within in omega (arith, w);
  own = λ d. f.own d;
  before = λ k d less. f.before (suc k) d (omega (arith, less));
}

pub there : (ms : List Member) (t i : ℕ) (d : Member) → IsFirst ms t i → member_of ms t ≡ Some (get_or ms i d)
there [] t i d f = let w = f.within in absurd (omega (arith, w))
there (x ∷ xs) t zero d f = let own = same_is x.number t (f.own d) in rw own refl
there (x ∷ xs) t (suc i) d f =
    let apart = apart_is x.number t (f.before 0 d (omega arith)) in
    rw apart (there xs t i d (first_of_rest x xs t i f))

-- ---- one is changed

put_here : (x y : Member) (f : ℕ → Option Member) (t u : ℕ) → x.number ≡ t → y.number ≡ t → cond (y.number == u) (Some y) (f u) ≡ put (λ v. cond (x.number == v) (Some x) (f v)) t (Some y) u
put_here x y f t u a b = go (u == t) refl
  where
    go : (c : Bool) → (u == t) ≡ c → cond (y.number == u) (Some y) (f u) ≡ cond c (Some y) (cond (x.number == u) (Some x) (f u))
    go true is = let own = same_is y.number u (b ∙ sym (is_same u t is)) in rw own refl
    go false is =
        let apart : u ≢ t = λ e. let z = same_is u t e in cc in
        let p = apart_is x.number u (λ e. apart (sym e ∙ a)) in
        let q = apart_is y.number u (λ e. apart (sym e ∙ b)) in
        rw (p, q) refl

put_later : (x : Member) (f : ℕ → Option Member) (new : Option Member) (t u : ℕ) → x.number ≢ t → cond (x.number == u) (Some x) (put f t new u) ≡ put (λ v. cond (x.number == v) (Some x) (f v)) t new u
put_later x f new t u apart = go (u == t) refl
  where
    go : (c : Bool) → (u == t) ≡ c → cond (x.number == u) (Some x) (cond c new (f u)) ≡ cond c new (cond (x.number == u) (Some x) (f u))
    go true is = let p = apart_is x.number u (λ e. apart (e ∙ is_same u t is)) in rw p refl
    go false is = refl

pub member_of-set : (ms : List Member) (t i : ℕ) (y : Member) → IsFirst ms t i → y.number ≡ t → (u : ℕ) → member_of (set ms i y) u ≡ put (member_of ms) t (Some y) u
member_of-set [] t i y f is u = let w = f.within in absurd (omega (arith, w))
member_of-set (x ∷ xs) t zero y f is u = put_here x y (member_of xs) t u (f.own x) is
member_of-set (x ∷ xs) t (suc i) y f is u =
    ap (λ w. cond (x.number == u) (Some x) w) (member_of-set xs t i y (first_of_rest x xs t i f) is u)
    ∙ put_later x (member_of xs) (Some y) t u (f.before 0 x (omega arith))

-- ---- numbers that rise

lower : (low less : ℕ) (ms : List Member) (high : ℕ) → less ≤ low → AreRising low ms high → AreRising less ms high
lower low less [] high h r = omega (arith, h, r)
lower low less (m ∷ ms) high h r = (omega (arith, h, r.0), r.1)

nobody_below : (low : ℕ) (ms : List Member) (high u : ℕ) → u ≤ low → AreRising low ms high → member_of ms u ≡ None
nobody_below low [] high u h r = refl
nobody_below low (m ∷ ms) high u h r =
    let apart = apart_is m.number u (λ e. absurd (omega (arith, e, h, r.0))) in
    rw apart (nobody_below m.number ms high u (omega (arith, h, r.0)) r.1)

rises : (low : ℕ) (ms : List Member) (high : ℕ) → AreRising low ms high → low ≤ high
rises low [] high r = r
rises low (m ∷ ms) high r = let rest = rises m.number ms high r.1 in omega (arith, rest, r.0)

pub nobody_above : (low : ℕ) (ms : List Member) (high u : ℕ) → high < u → AreRising low ms high → member_of ms u ≡ None
nobody_above low [] high u h r = refl
nobody_above low (m ∷ ms) high u h r =
    let most = rises m.number ms high r.1 in
    let apart = apart_is m.number u (λ e. absurd (omega (arith, e, h, most))) in
    rw apart (nobody_above m.number ms high u h r.1)

pub rising_set : (low : ℕ) (ms : List Member) (high t i : ℕ) (y : Member) → IsFirst ms t i → y.number ≡ t → AreRising low ms high → AreRising low (set ms i y) high
rising_set low [] high t i y f is r = r
rising_set low (x ∷ xs) high t zero y f is r =
    let same : x.number ≡ y.number = f.own x ∙ sym is in
    (subst (λ n. low < n) same r.0, subst (λ n. AreRising n xs high) same r.1)
rising_set low (x ∷ xs) high t (suc i) y f is r = (r.0, rising_set x.number xs high t i y (first_of_rest x xs t i f) is r.1)

pub rising_remove : (low : ℕ) (ms : List Member) (high i : ℕ) → AreRising low ms high → AreRising low (remove ms i) high
rising_remove low [] high zero r = r
rising_remove low [] high (suc i) r = r
rising_remove low (x ∷ xs) high zero r = lower x.number low xs high (omega (arith, r.0)) r.1
rising_remove low (x ∷ xs) high (suc i) r = (r.0, rising_remove x.number xs high i r.1)

pub rising_push : (low : ℕ) (ms : List Member) (high : ℕ) (m : Member) → m.number ≡ high + 1 → AreRising low ms high → AreRising low (ms ++ m ∷ []) (high + 1)
rising_push low [] high m is r = (omega (arith, is, r), omega (arith, is))
rising_push low (x ∷ xs) high m is r = (r.0, rising_push x.number xs high m is r.1)

-- ---- one more, and one less

pub member_of-push : (ms : List Member) (m : Member) → member_of ms m.number ≡ None → (u : ℕ) → member_of (ms ++ m ∷ []) u ≡ put (member_of ms) m.number (Some m) u
member_of-push [] m none u = go (u == m.number) refl
  where
    go : (c : Bool) → (u == m.number) ≡ c → cond (m.number == u) (Some m) None ≡ cond c (Some m) None
    go true is = let own = same_is m.number u (sym (is_same u m.number is)) in rw own refl
    go false is = let apart = apart_is m.number u (λ e. let z = same_is u m.number (sym e) in cc) in rw apart refl
member_of-push (x ∷ xs) m none u = go (x.number == m.number) refl none (λ k. member_of-push xs m k u)
  where
    go : (c : Bool) → (x.number == m.number) ≡ c → cond c (Some x) (member_of xs m.number) ≡ None → (member_of xs m.number ≡ None → member_of (xs ++ m ∷ []) u ≡ put (member_of xs) m.number (Some m) u) → cond (x.number == u) (Some x) (member_of (xs ++ m ∷ []) u) ≡ put (λ v. cond (x.number == v) (Some x) (member_of xs v)) m.number (Some m) u
    go true is k rec = absurd cc
    go false is k rec =
        ap (λ w. cond (x.number == u) (Some x) w) (rec k)
        ∙ put_later x (member_of xs) (Some m) m.number u (λ e. let z = same_is x.number m.number e in cc)

pub member_of-remove : (low : ℕ) (ms : List Member) (high t i : ℕ) → IsFirst ms t i → AreRising low ms high → (u : ℕ) → member_of (remove ms i) u ≡ put (member_of ms) t None u
member_of-remove low [] high t i f r u = let w = f.within in absurd (omega (arith, w))
member_of-remove low (x ∷ xs) high t zero f r u = go (u == t) refl
  where
    own : x.number ≡ t
    own = f.own x

    go : (c : Bool) → (u == t) ≡ c → member_of xs u ≡ cond c None (cond (x.number == u) (Some x) (member_of xs u))
    go true is = nobody_below x.number xs high u (let same = is_same u t is in omega (arith, same, own)) r.1
    go false is = let apart = apart_is x.number u (λ e. let z = same_is u t (sym e ∙ own) in cc) in rw apart refl
member_of-remove low (x ∷ xs) high t (suc i) f r u =
    ap (λ w. cond (x.number == u) (Some x) w) (member_of-remove x.number xs high t i (first_of_rest x xs t i f) r.1 u)
    ∙ put_later x (member_of xs) None t u (f.before 0 x (omega arith))
