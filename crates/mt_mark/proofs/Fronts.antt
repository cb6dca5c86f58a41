-- Beginnings of one list, and entries of one pass.
use Rattle.std.proofs.Common.{◌≡◌, ◌≢◌, ℕ, zero, suc, ◌+◌, ◌≤◌, ◌<◌, List, [], ◌∷◌, ◌++◌, map, length, refl, ap, sym, ◌∙◌, subst, arith, append_assoc, length-append}
use Rattle.std.proofs.lemmas.List.{append-nil}
use mathlib.Core.List.{IsPrefix}
use Rattle.mt_model.specs.declared.history.Committed.{Committed}
use Rattle.mt_model.specs.declared.tables.Base.{Base}
use Rattle.mt_model.specs.Views.{base_of}
use Rattle.mt_model.proofs.Appends.{legal_front}
use Rattle.mt_mark.specs.Legal.{IsLegal}
use Rattle.mt_mark.specs.declared.view.Entry.{Entry}
use Rattle.mt_mark.specs.Rule.{AllMade, IsFrom, NoneBy, dones, labelled}

pub prefix_self : {A : Type 0} (xs : List A) → IsPrefix xs xs
prefix_self xs = ([], append-nil xs)

pub prefix_trans : {A : Type 0} (xs ys zs : List A) → IsPrefix xs ys → IsPrefix ys zs → IsPrefix xs zs
prefix_trans xs ys zs p q = (p.0 ++ q.0, sym (append_assoc xs p.0 q.0) ∙ (ap (λ w. w ++ q.0) p.1 ∙ q.1))

-- of two beginnings of one list the shorter begins the longer
pub prefix_shorter : {A : Type 0} (xs ys zs : List A) → IsPrefix xs zs → IsPrefix ys zs → length xs ≤ length ys → IsPrefix xs ys
prefix_shorter [] ys zs p q le = (ys, refl)
prefix_shorter (x ∷ xs) [] zs p q le = absurd (omega arith)
prefix_shorter (x ∷ xs) (y ∷ ys) [] p q le = absurd (cc (p.1))
prefix_shorter (x ∷ xs) (y ∷ ys) (z ∷ zs) p q le =
    let heads : x ≡ y = cc (p.1, q.1) in
    let rest = prefix_shorter xs ys zs (p.0, cc (p.1)) (q.0, cc (q.1)) (omega arith) in
    (rest.0, cc (heads, rest.1))

-- a beginning as long as the whole is the whole
pub prefix_whole : {A : Type 0} (xs ys : List A) → IsPrefix xs ys → length ys ≤ length xs → xs ≡ ys
prefix_whole [] [] p le = refl
prefix_whole [] (y ∷ ys) p le = absurd (omega arith)
prefix_whole (x ∷ xs) [] p le = absurd (cc (p.1))
prefix_whole (x ∷ xs) (y ∷ ys) p le =
    let rest = prefix_whole xs ys (p.0, cc (p.1)) (omega arith) in cc (p.1, rest)

pub prefix_length : {A : Type 0} (xs ys : List A) → IsPrefix xs ys → length xs ≤ length ys
prefix_length xs ys p = omega (arith, sym (ap length p.1) ∙ length-append xs p.0)

-- two fronts of one length are one front
pub same_front : {A : Type 0} (xs ys us vs : List A) → xs ++ us ≡ ys ++ vs → length xs ≡ length ys → (xs ≡ ys) × (us ≡ vs)
same_front [] [] us vs e l = (refl, e)
same_front [] (y ∷ ys) us vs e l = absurd (omega arith)
same_front (x ∷ xs) [] us vs e l = absurd (omega arith)
same_front (x ∷ xs) (y ∷ ys) us vs e l =
    let rest = same_front xs ys us vs (cc e) (omega arith) in (cc (e, rest.0), rest.1)

pub append_cancel : {A : Type 0} (xs us vs : List A) → xs ++ us ≡ xs ++ vs → us ≡ vs
append_cancel xs us vs e = (same_front xs xs us vs e refl).1

pub NoneBy-append : (p : ℕ) (xs ys : List Entry) → NoneBy p xs → NoneBy p ys → NoneBy p (xs ++ ys)
NoneBy-append p [] ys a b = b
NoneBy-append p (x ∷ xs) ys a b = (a.0, NoneBy-append p xs ys a.1 b)

pub NoneBy-back : (p : ℕ) (xs ys : List Entry) → NoneBy p (xs ++ ys) → NoneBy p ys
NoneBy-back p [] ys h = h
NoneBy-back p (x ∷ xs) ys h = NoneBy-back p xs ys h.1

pub NoneBy-fore : (p : ℕ) (xs ys : List Entry) → NoneBy p (xs ++ ys) → NoneBy p xs
NoneBy-fore p [] ys h = tt
NoneBy-fore p (x ∷ xs) ys h = (h.0, NoneBy-fore p xs ys h.1)

-- an entry past what was seen is not this pass's
pub none_past : (p : ℕ) (seen rest pre more : List Entry) (e : Entry) → seen ++ rest ≡ pre ++ e ∷ more → length seen ≤ length pre → NoneBy p rest → e.pass ≢ p
none_past p [] rest [] more e is le none = (subst (NoneBy p) is none).0
none_past p [] rest (x ∷ pre) more e is le none = none_past p [] (pre ++ e ∷ more) pre more e refl (omega arith) (subst (NoneBy p) is none).1
none_past p (y ∷ seen) rest [] more e is le none = absurd (omega arith)
none_past p (y ∷ seen) rest (x ∷ pre) more e is le none = none_past p seen rest pre more e (cc is) (omega arith) none

pub dones-append : (xs ys : List Entry) → dones (xs ++ ys) ≡ dones xs ++ dones ys
dones-append [] ys = refl
dones-append (x ∷ xs) ys = ap (λ l. x.done ∷ l) (dones-append xs ys)

pub dones-labelled : (ts : List Committed) → dones (labelled ts) ≡ ts
dones-labelled [] = refl
dones-labelled (t ∷ ts) = ap (λ l. t ∷ l) (dones-labelled ts)

pub length-labelled : (ts : List Committed) → length (labelled ts) ≡ length ts
length-labelled [] = refl
length-labelled (t ∷ ts) = ap suc (length-labelled ts)

-- a beginning of a legal list is legal
pub IsLegal-front : (b : Base) (xs ys : List Committed) → IsLegal b (xs ++ ys) → IsLegal b xs
IsLegal-front b xs ys h = legal_front (base_of b) xs ys h

AllMade-append : (made : ℕ) (xs ys : List Entry) → AllMade made xs → AllMade made ys → AllMade made (xs ++ ys)
AllMade-append made [] ys a b = b
AllMade-append made (x ∷ xs) ys a b = (a.0, a.1, AllMade-append made xs ys a.2 b)

AllMade-later : (made : ℕ) (xs : List Entry) → AllMade made xs → AllMade (made + 1) xs
AllMade-later made [] a = tt
AllMade-later made (x ∷ xs) a = (a.0, (let l = a.1 in omega arith), AllMade-later made xs a.2)

-- a history with one more entry, of a pass that was made
pub from_next : (book : List Committed) (made : ℕ) (log list : List Entry) (e : Entry) → IsFrom book made log → log ++ e ∷ [] ≡ list → 1 ≤ e.pass → e.pass < made → IsFrom book made list
from_next book made log list e f is some below =
    (f.0 ++ e ∷ [], sym (append_assoc (labelled book) f.0 (e ∷ [])) ∙ (ap (λ l. l ++ e ∷ []) f.1 ∙ is), AllMade-append made f.0 (e ∷ []) f.2 (some, below, tt))

-- one more pass is made
pub from_later : (book : List Committed) (made : ℕ) (log : List Entry) → IsFrom book made log → IsFrom book (made + 1) log
from_later book made log f = (f.0, f.1, AllMade-later made f.0 f.2)
