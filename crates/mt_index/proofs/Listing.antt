-- The entries of a page by their places.
use Rattle.std.proofs.Common.{◌≡◌, ℕ, zero, suc, ◌+◌, ◌*◌, ◌<◌, false, List, [], ◌∷◌, ◌++◌, None, refl, ap, ◌∙◌, arith}
use Rattle.mt_bucket.specs.Entries.{Entry, is_at, look}
use Rattle.mt_bucket.specs.Page.{cell, entry_of, entries_from}
use Rattle.mt_index.specs.Maps.{Once, Each}
use Rattle.mt_index.proofs.Lists.{at_turned, cond_none, none_from}

-- the first n of a row of entries
abbrev pub listed : (ℕ → Entry) → ℕ → List Entry
listed E zero = []
listed E (suc n) = E 0 ∷ listed (λ i. E (suc i)) n

listed_same : (E F : ℕ → Entry) (n : ℕ) → ((i : ℕ) → E i ≡ F i) → listed E n ≡ listed F n
listed_same E F zero same = refl
listed_same E F (suc n) same = ap (λ e. e ∷ listed (λ i. E (suc i)) n) (same 0) ∙ ap (λ es. F 0 ∷ es) (listed_same (λ i. E (suc i)) (λ i. F (suc i)) n (λ i. same (suc i)))

pub entries_listed : (c : List ℕ) (at n : ℕ) → entries_from c at n ≡ listed (λ i. entry_of (cell c (at + 70 * i))) n
entries_listed c at zero = refl
entries_listed c at (suc n) =
    ap (λ (p : ℕ). entry_of (cell c p) ∷ entries_from c (at + 70) n) (omega arith)
    ∙ ap (λ es. entry_of (cell c (at + 70 * 0)) ∷ es) (entries_listed c (at + 70) n ∙ listed_same (λ i. entry_of (cell c (at + 70 + 70 * i))) (λ i. entry_of (cell c (at + 70 * suc i))) n (λ i. ap (λ (p : ℕ). entry_of (cell c p)) (omega arith)))

pub each_listed : (P : Entry → Type 0) (E : ℕ → Entry) (n : ℕ) → ((i : ℕ) → i < n → P (E i)) → Each P (listed E n)
each_listed P E zero all = tt
each_listed P E (suc n) all = (all 0 (omega arith), each_listed P (λ i. E (suc i)) n (λ i lt. all (suc i) (omega (arith, lt))))

pub listed_each : (P : Entry → Type 0) (E : ℕ → Entry) (n i : ℕ) → i < n → Each P (listed E n) → P (E i)
listed_each P E zero i lt all = absurd (omega (arith, lt))
listed_each P E (suc n) zero lt all = all.0
listed_each P E (suc n) (suc i) lt all = listed_each P (λ k. E (suc k)) n i (omega (arith, lt)) all.1

-- no key twice, by places
none_listed : (r : ℕ) (k : List ℕ) (E : ℕ → Entry) (n : ℕ) (rest : List Entry) → ((i : ℕ) → i < n → is_at r k (E i) ≡ false) → look r k rest ≡ None → look r k (listed E n ++ rest) ≡ None
none_listed r k E zero rest apart none = none
none_listed r k E (suc n) rest apart none =
    none_from (is_at r k (E 0)) (E 0).name (look r k (listed (λ i. E (suc i)) n ++ rest)) (apart 0 (omega arith)) (none_listed r k (λ i. E (suc i)) n rest (λ i lt. apart (suc i) (omega (arith, lt))) none)

pub once_listed : (E : ℕ → Entry) (n : ℕ) (rest : List Entry) → ((i j : ℕ) → i < n → j < i → is_at (E i).relation (E i).key (E j) ≡ false)
    → ((i : ℕ) → i < n → look (E i).relation (E i).key rest ≡ None) → Once rest → Once (listed E n ++ rest)
once_listed E zero rest apart none once = once
once_listed E (suc n) rest apart none once = (
  none_listed (E 0).relation (E 0).key (λ i. E (suc i)) n rest (λ i lt. at_turned (E (suc i)) (E 0) (apart (suc i) 0 (omega (arith, lt)) (omega arith))) (none 0 (omega arith)),
  once_listed (λ i. E (suc i)) n rest (λ i j a b. apart (suc i) (suc j) (omega (arith, a)) (omega (arith, b))) (λ i lt. none (suc i) (omega (arith, lt))) once,
)

lacks_all : (r : ℕ) (k : List ℕ) (E : ℕ → Entry) (n i : ℕ) (rest : List Entry) → i < n → look r k (listed E n ++ rest) ≡ None → is_at r k (E i) ≡ false
lacks_all r k E zero i rest lt none = absurd (omega (arith, lt))
lacks_all r k E (suc n) zero rest lt none = (cond_none (is_at r k (E 0)) (E 0).name (look r k (listed (λ j. E (suc j)) n ++ rest)) none).0
lacks_all r k E (suc n) (suc i) rest lt none = lacks_all r k (λ j. E (suc j)) n i rest (omega (arith, lt)) (cond_none (is_at r k (E 0)) (E 0).name (look r k (listed (λ j. E (suc j)) n ++ rest)) none).1

lacks_rest : (r : ℕ) (k : List ℕ) (es rest : List Entry) → look r k (es ++ rest) ≡ None → look r k rest ≡ None
lacks_rest r k [] rest none = none
lacks_rest r k (e ∷ es) rest none = lacks_rest r k es rest (cond_none (is_at r k e) e.name (look r k (es ++ rest)) none).1

pub listed_behind : (E : ℕ → Entry) (n i : ℕ) (rest : List Entry) → i < n → Once (listed E n ++ rest) → look (E i).relation (E i).key rest ≡ None
listed_behind E zero i rest lt once = absurd (omega (arith, lt))
listed_behind E (suc n) zero rest lt once = lacks_rest (E 0).relation (E 0).key (listed (λ j. E (suc j)) n) rest once.0
listed_behind E (suc n) (suc i) rest lt once = listed_behind (λ j. E (suc j)) n i rest (omega (arith, lt)) once.1

pub listed_before : (E : ℕ → Entry) (n i j : ℕ) (rest : List Entry) → i < n → j < i → Once (listed E n ++ rest) → is_at (E i).relation (E i).key (E j) ≡ false
listed_before E zero i j rest lt less once = absurd (omega (arith, lt))
listed_before E (suc n) zero j rest lt less once = absurd (omega (arith, less))
listed_before E (suc n) (suc i) zero rest lt less once = at_turned (E 0) (E (suc i)) (lacks_all (E 0).relation (E 0).key (λ k. E (suc k)) n i rest (omega (arith, lt)) once.0)
listed_before E (suc n) (suc i) (suc j) rest lt less once = listed_before (λ k. E (suc k)) n i j rest (omega (arith, lt)) (omega (arith, less)) once.1

pub once_behind : (front back : List Entry) → Once (front ++ back) → Once back
once_behind [] back once = once
once_behind (e ∷ front) back once = once_behind front back once.1

pub each_behind : {A : Type 0} (P : A → Type 0) (front back : List A) → Each P (front ++ back) → Each P back
each_behind P [] back all = all
each_behind P (x ∷ front) back all = each_behind P front back all.1

pub each_front : {A : Type 0} (P : A → Type 0) (front back : List A) → Each P (front ++ back) → Each P front
each_front P [] back all = tt
each_front P (x ∷ front) back all = (all.0, each_front P front back all.1)

pub each_append : {A : Type 0} (P : A → Type 0) (front back : List A) → Each P front → Each P back → Each P (front ++ back)
each_append P [] back f b = b
each_append P (x ∷ front) back f b = (f.0, each_append P front back f.1 b)

-- a key that a list lacks, page by page
pub lacks_front : (r : ℕ) (k : List ℕ) (es rest : List Entry) → look r k (es ++ rest) ≡ None → look r k es ≡ None
lacks_front r k [] rest none = refl
lacks_front r k (e ∷ es) rest none = let c = cond_none (is_at r k e) e.name (look r k (es ++ rest)) none in none_from (is_at r k e) e.name (look r k es) c.0 (lacks_front r k es rest c.1)

pub lacks_both : (r : ℕ) (k : List ℕ) (es rest : List Entry) → look r k es ≡ None → look r k rest ≡ None → look r k (es ++ rest) ≡ None
lacks_both r k [] rest a b = b
lacks_both r k (e ∷ es) rest a b = let c = cond_none (is_at r k e) e.name (look r k es) a in none_from (is_at r k e) e.name (look r k (es ++ rest)) c.0 (lacks_both r k es rest c.1 b)

pub lacks_behind : (r : ℕ) (k : List ℕ) (es rest : List Entry) → look r k (es ++ rest) ≡ None → look r k rest ≡ None
lacks_behind r k es rest none = lacks_rest r k es rest none
