-- The last add that is a given one goes from the list.
use Rattle.std.proofs.Common.{◌≡◌, ℕ, zero, suc, ◌==◌, Bool, true, false, cond, List, [], ◌∷◌, ◌++◌, Contains, take, drop, remove, refl, ap, sym, subst, ◌∙◌, arith}
use Rattle.std.proofs.lemmas.Bool.Decides.{Decides-eqb}
use Rattle.std.proofs.lemmas.List.Elements.{filter-append, Contains-append_right}
use Rattle.mt_base.proofs.Removing.{ends, in_filter, none_behind, parted, removed_last}
use Rattle.mt_model.specs.declared.pending_add.Pending.{Pending}
use Rattle.mt_model.specs.Pending.{pending_of, TakesOut}
use Rattle.mt_escrow.specs.Seen.{LosesLast, IsLastAdd}

pub loses_last : (old : List Pending) (p : Pending) (i : ℕ) → IsLastAdd old p i → LosesLast p old (remove old i)
loses_last old p i at = record { last = removed_last old p i at.there at.is at.last; none_there = λ apart. absurd (apart (i, at.there, at.is)) }

pub loses_none : (old : List Pending) (p : Pending) → (Contains old p → ⊥) → LosesLast p old old
loses_none old p apart = record {
  last = λ front back is clear. absurd (apart (subst (λ xs. Contains xs p) (sym is) (Contains-append_right front (p ∷ back) p (zero, omega arith, refl))));
  none_there = λ none_there. refl;
}

self_test : (n : ℕ) → (n == n) ≡ true
self_test n = (Decides-eqb n n).1 refl

pub takes_out : (old : List Pending) (p : Pending) (i : ℕ) → IsLastAdd old p i → TakesOut p old (remove old i)
takes_out old p i at = record {
  its = λ front is.
      filter-append (λ (q : Pending). q.txn == p.txn) (take i old) (drop (suc i) old)
      ∙ ends (pending_of p.txn (take i old)) (pending_of p.txn (drop (suc i) old)) front p
      (sym (own (p.txn == p.txn) refl (self_test p.txn)) ∙ (ap (pending_of p.txn) (sym whole) ∙ is))
      (λ inside. none_behind old p i at.there at.is at.last (in_filter (λ (q : Pending). q.txn == p.txn) (drop (suc i) old) p inside));
  apart = λ u other.
      filter-append (λ (q : Pending). q.txn == u) (take i old) (drop (suc i) old)
      ∙ sym (ap (pending_of u) whole ∙ others u (p.txn == u) refl (λ same. other (sym ((Decides-eqb p.txn u).0 same))));
}
  where
    whole : old ≡ take i old ++ p ∷ drop (suc i) old
    whole = parted old i p at.there at.is

    own : (b : Bool) → (p.txn == p.txn) ≡ b → b ≡ true
        → pending_of p.txn (take i old ++ p ∷ drop (suc i) old) ≡ pending_of p.txn (take i old) ++ p ∷ pending_of p.txn (drop (suc i) old)
    own b same holds =
        filter-append (λ (q : Pending). q.txn == p.txn) (take i old) (p ∷ drop (suc i) old)
        ∙ ap (λ w. pending_of p.txn (take i old) ++ cond w (p ∷ pending_of p.txn (drop (suc i) old)) (pending_of p.txn (drop (suc i) old))) (same ∙ holds)

    others : (u : ℕ) (b : Bool) → (p.txn == u) ≡ b → ((p.txn == u) ≡ true → ⊥)
        → pending_of u (take i old ++ p ∷ drop (suc i) old) ≡ pending_of u (take i old) ++ pending_of u (drop (suc i) old)
    others u true same wrong = absurd (wrong same)
    others u false same wrong =
        filter-append (λ (q : Pending). q.txn == u) (take i old) (p ∷ drop (suc i) old)
        ∙ ap (λ w. pending_of u (take i old) ++ cond w (p ∷ pending_of u (drop (suc i) old)) (pending_of u (drop (suc i) old))) same

pub takes_none : (old : List Pending) (p : Pending) → (Contains old p → ⊥) → TakesOut p old old
takes_none old p apart = record {
  its = λ front is. absurd (apart (in_filter (λ (q : Pending). q.txn == p.txn) old p
      (subst (λ xs. Contains xs p) (sym is) (Contains-append_right front (p ∷ []) p (zero, omega arith, refl)))));
  apart = λ u other. refl;
}
