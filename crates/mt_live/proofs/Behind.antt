-- Where a transaction can stand, since the numbers rise.
use Rattle.std.proofs.Common.{◌≡◌, ◌≢◌, ◌<◌, ◌≤◌, ◌+◌, ◌-◌, ℕ, suc, zero, Bool, true, false, not, nat_lt, List, [], ◌∷◌, Some, None, cond, drop, length, get_or, slice_get, refl, sym, ap, ◌∙◌, arith}
use Rattle.std.specs.List.{position, position_or_len}
use Rattle.std.specs.Option.{option_map}
use Rattle.std.proofs.lemmas.Bool.{ltb-true, lt-ltb, ltb-false, le-ltb}
use Rattle.std.proofs.lemmas.List.{length-drop}
use Rattle.std.proofs.lemmas.Option.{slice_get_within, get_or_from_slice_get}
use Rattle.mt_live.specs.Lives.{AreRising, AreInOrder}
use Rattle.mt_live.specs.Members.{Member}

-- behind a number so many places, the number is larger by as many
pub risen : (low high : ℕ) (ms : List Member) → AreRising low ms high → (j : ℕ) (d : Member) → j < length ms → low + j < (get_or ms j d).number
risen low high [] rising j d below = omega (arith, below)
risen low high (m ∷ ms) rising zero d below = let first = rising.0 in omega (arith, first)
risen low high (m ∷ ms) rising (suc j) d below =
    let first = rising.0 in let rest = risen m.number high ms rising.1 j d (omega (arith, below)) in omega (arith, first, rest)

pub rises : (low high : ℕ) (ms : List Member) → AreRising low ms high → (i j : ℕ) (d : Member) → i ≤ j → j < length ms → (get_or ms i d).number + (j - i) ≤ (get_or ms j d).number
rises low high [] rising i j d le below = omega (arith, below)
rises low high (m ∷ ms) rising zero zero d le below = omega arith
rises low high (m ∷ ms) rising zero (suc j) d le below =
    let rest = risen m.number high ms rising.1 j d (omega (arith, below)) in omega (arith, rest)
rises low high (m ∷ ms) rising (suc i) zero d le below = omega (arith, le)
rises low high (m ∷ ms) rising (suc i) (suc j) d le below = let rest = rises m.number high ms rising.1 i j d (omega (arith, le)) (omega (arith, below)) in omega (arith, rest)

-- before the place that has as many behind it as numbers lie between this one and the last, no transaction has it
pub before_first : (ms : List Member) (t : ℕ) → AreInOrder ms → (last : Member) → slice_get ms (length ms - 1) ≡ Some last → (behind first : ℕ) → t ≤ last.number → behind ≡ last.number - t
    → first ≡ (length ms - 1) - behind → (k : ℕ) → k < first → (d : Member) → (get_or ms k d).number ≢ t
before_first ms t ordered last at behind first no_later gap is k less d same =
    let lt : length ms - 1 < length ms = slice_get_within ms (length ms - 1) last at in
    let here : (get_or ms (length ms - 1) d).number ≡ last.number = ap (λ (m : Member). m.number) (get_or_from_slice_get ms (length ms - 1) last d at) in
    let grows = rises 0 ordered.0 ms ordered.1 k (length ms - 1) d (omega (arith, less, is)) lt in
    omega (arith, grows, here, gap, is, less, same, no_later)

-- none has a number past the last
pub before_all : (ms : List Member) (t : ℕ) → AreInOrder ms → (last : Member) → slice_get ms (length ms - 1) ≡ Some last → last.number < t → (k : ℕ) → k < length ms → (d : Member) → (get_or ms k d).number ≢ t
before_all ms t ordered last at past k less d same =
    let lt : length ms - 1 < length ms = slice_get_within ms (length ms - 1) last at in
    let here : (get_or ms (length ms - 1) d).number ≡ last.number = ap (λ (m : Member). m.number) (get_or_from_slice_get ms (length ms - 1) last d at) in
    let grows = rises 0 ordered.0 ms ordered.1 k (length ms - 1) d (omega (arith, less)) lt in
    omega (arith, grows, here, past, same)

-- ---- a search that begins further on

skip : {X : Type 0} (p : X → Bool) (xs : List X) (first : ℕ) → first ≤ length xs → ((k : ℕ) → k < first → (d : X) → p (get_or xs k d) ≡ false)
    → position_or_len p xs ≡ first + position_or_len p (drop first xs)
skip p xs zero le fails = omega arith
skip p [] (suc f) le fails = omega (arith, le)
skip p (x ∷ xs) (suc f) le fails =
    let rest = skip p xs f (omega (arith, le)) (λ k less d. fails (suc k) (omega (arith, less)) d) in
    let here : position_or_len p (x ∷ xs) ≡ 1 + position_or_len p xs = ap (λ b. cond (not b) (1 + position_or_len p xs) 0) (fails 0 (omega arith) x) in
    omega (arith, here, rest)

choose : (b : Bool) (n m first l k : ℕ) → nat_lt n k ≡ b → m ≡ first + n → k ≡ l - first → first ≤ l
    → cond (nat_lt m l) (Some m) None ≡ option_map (λ i. first + i) (cond (nat_lt n k) (Some n) None)
choose true n m first l k e sum len le =
    let less = ltb-true n k e in
    ap (λ b. cond b (Some m) None) (lt-ltb m l (omega (arith, less, sum, len, le))) ∙ ap Some sum ∙ sym (ap (λ b. option_map (λ i. first + i) (cond b (Some n) None)) e)
choose false n m first l k e sum len le =
    let past = ltb-false n k e in
    ap (λ b. cond b (Some m) None) (le-ltb m l (omega (arith, past, sum, len, le))) ∙ sym (ap (λ b. option_map (λ i. first + i) (cond b (Some n) None)) e)

pub skip_position : {X : Type 0} (p : X → Bool) (xs : List X) (first : ℕ) → first ≤ length xs → ((k : ℕ) → k < first → (d : X) → p (get_or xs k d) ≡ false)
    → position p xs ≡ option_map (λ i. first + i) (position p (drop first xs))
skip_position p xs first le fails =
    choose (nat_lt (position_or_len p (drop first xs)) (length (drop first xs))) (position_or_len p (drop first xs)) (position_or_len p xs) first (length xs) (length (drop first xs))
    refl (skip p xs first le fails) (length-drop first xs) le
