-- A history that begins a book.
use Rattle.std.proofs.Common.{◌≡◌, ℕ, zero, suc, ◌+◌, List, [], ◌∷◌, ◌++◌, length, take, refl, ap, sym, ◌∙◌, subst, arith, length-append, ◌≤◌, Some, slice_get}
use mathlib.Core.List.{IsPrefix}
use Rattle.mt_model.specs.declared.tables.Base.{Base}
use Rattle.mt_model.specs.declared.history.Committed.{Committed}
use Rattle.mt_mark.specs.Legal.{IsLegal}
use Rattle.mt_mark.proofs.Fronts.{IsLegal-front, prefix_self}
use Rattle.mt_mark.specs.declared.view.Entry.{Entry}
use Rattle.mt_mark.specs.Rule.{dones, Holds}
use Rattle.mt_mark.proofs.Fronts.{dones-append}
use Rattle.mt_locked.specs.Seen.{PassSeen, LockedSeen, Entered}

-- the next element makes the beginning longer
pub snoc_prefix : {A : Type 0} (ts us : List A) (t : A) → IsPrefix ts us → slice_get us (length ts) ≡ Some t → IsPrefix (ts ++ t ∷ []) us
snoc_prefix [] [] t p e = absurd cc
snoc_prefix [] (u ∷ us) t p e = (us, cc e)
snoc_prefix (x ∷ ts) [] t p e = absurd (cc (p.1))
snoc_prefix (x ∷ ts) (u ∷ us) t p e = let r = snoc_prefix ts us t (p.0, cc (p.1)) e in (r.0, cc (r.1, p.1))

pub take_prefix : {A : Type 0} (ts us : List A) (n : ℕ) → IsPrefix ts us → length ts ≡ n → ts ≡ take n us
take_prefix [] us zero p e = refl
take_prefix [] us (suc n) p e = absurd (omega arith)
take_prefix (x ∷ ts) us zero p e = absurd (omega arith)
take_prefix (x ∷ ts) [] (suc n) p e = absurd (cc (p.1))
take_prefix (x ∷ ts) (u ∷ us) (suc n) p e = let r = take_prefix ts us n (p.0, cc (p.1)) (omega arith) in cc (r, p.1)

pub dones-length : (list : List Entry) → length (dones list) ≡ length list
dones-length [] = refl
dones-length (x ∷ xs) = ap suc (dones-length xs)

-- after the end of a list there is nothing
pub no_next : {A : Type 0} (ts : List A) (t : A) → slice_get ts (length ts) ≡ Some t → ⊥
no_next [] t e = absurd cc
no_next (x ∷ ts) t e = no_next ts t e

-- so of a history that is the whole book
pub none_behind : (book : List Committed) (list : List Entry) (at : ℕ) (t : Committed) → book ≡ dones list → at ≡ length list → slice_get book at ≡ Some t → ⊥
none_behind book list at t whole is there =
    no_next (dones list) t (ap (λ (n : ℕ). slice_get (dones list) n) (dones-length list ∙ sym is) ∙ (ap (λ (b : List Committed). slice_get b at) (sym whole) ∙ there))

-- the history with the book's next entry
pub grown : (list : List Entry) (book : List Committed) (e : Entry) → IsPrefix (dones list) book → slice_get book (length (dones list)) ≡ Some e.done → IsPrefix (dones (list ++ e ∷ [])) book
grown list book e p at = subst (λ l. IsPrefix l book) (sym (dones-append list (e ∷ []))) (snoc_prefix (dones list) book e.done p at)

pub front_legal : (b : Base) (ts us : List Committed) → IsPrefix ts us → IsLegal b us → IsLegal b ts
front_legal b ts us p h = IsLegal-front b ts p.0 (subst (IsLegal b) (sym p.1) h)

pub entered : {D : Type 0} → (b : Base) (locked : LockedSeen D) (place : ℕ) (old new : PassSeen) (e : Entry) → Holds old.number old.seen locked.list → new.number ≡ old.number → new.seen ≡ locked.list ++ e ∷ []
    → IsPrefix (dones (locked.list ++ e ∷ [])) locked.book → IsLegal b locked.book → length locked.list + 1 ≡ place → Entered b locked place old e new
entered b locked place old new e held number seen front legal long =
    let all = dones (locked.list ++ e ∷ []) in
    let size : length new.seen ≡ place = ap length seen ∙ (length-append locked.list (e ∷ []) ∙ long) in
    record {
      extends = record {
        number = number;
        between = held.0;
        list = seen ∙ ap (λ l. l ++ e ∷ []) (sym held.1);
        others = held.2;
        legal = subst (λ l. IsLegal b (dones l)) (sym seen) (front_legal b all locked.book front legal);
        long = size;
      };
      durable = ap dones seen ∙ take_prefix all locked.book place front (dones-length (locked.list ++ e ∷ []) ∙ (sym (ap length seen) ∙ size));
    }

-- a beginning as long as the whole is the whole
pub whole_front : {A : Type 0} (ts us : List A) → IsPrefix ts us → length us ≤ length ts → ts ≡ us
whole_front [] [] p long = refl
whole_front [] (u ∷ us) p long = absurd (omega arith)
whole_front (x ∷ ts) [] p long = absurd (cc (p.1))
whole_front (x ∷ ts) (u ∷ us) p long = let r = whole_front ts us (p.0, cc (p.1)) (omega arith) in cc (r, p.1)

pub begins_book : (seen list : List Entry) (p : ℕ) (book : List Committed) → Holds p seen list → dones list ≡ book → IsPrefix (dones seen) book
begins_book seen list p book held is = (dones held.0, sym (dones-append seen held.0) ∙ (ap dones held.1 ∙ is))

-- a book that is the same begins with itself, and so does one that is longer
pub same_front : {A : Type 0} (old new : List A) → new ≡ old → IsPrefix old new
same_front old new is = subst (IsPrefix old) (sym is) (prefix_self old)

pub more_front : {A : Type 0} (old mid new : List A) → mid ≡ old → IsPrefix mid new → IsPrefix old new
more_front old mid new is more = subst (λ x. IsPrefix x new) is more
