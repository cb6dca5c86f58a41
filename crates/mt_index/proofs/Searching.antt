-- How far a search has come is known, once it is known that it has come so far.
use mathlib.Core.Logic.{∥∥₁_elim}
use Rattle.std.proofs.Props.{props}
use Rattle.std.proofs.Common.{◌≡◌, ◌≢◌, ◌⊎◌, ℕ, List, [], ◌∷◌, ◌++◌, length, refl, ap, sym, ◌∙◌, subst, inl, inr, ⊎_elim}
use Rattle.std.proofs.lemmas.Bool.{cases_eq}
use Rattle.mt_bucket.specs.Hash.{hash}
use Rattle.mt_space.specs.Changes.{PageBytes}
use Rattle.mt_index.specs.Maps.{Map, Each}
use Rattle.mt_index.specs.Index.{Node, Linked, named}
use Rattle.mt_index.specs.Steps.{Walk}
use Rattle.mt_index.specs.Pages.{node_of, state_of, AreMap, Passed}
use Rattle.mt_index.specs.Answers.{Lacks}
use Rattle.mt_index.proofs.Chains.{before}
use Rattle.mt_index.proofs.Keeping.{on_parts}
use Rattle.mt_index.proofs.Passing.{passed_on}

-- the pages of a chain before one of them
record Cut (node : ℕ → Node) (q : ℕ) (ns : List ℕ) (p : ℕ) : Type 0 where
  pub front : List ℕ
  pub walk : Walk node q front p
  pub apart : Each (λ n. n ≢ p) front
  pub back : List ℕ
  pub is : ns ≡ front ++ p ∷ back

cut : (node : ℕ → Node) (q : ℕ) (ns : List ℕ) (p : ℕ) → Linked node q ns → Cut node q ns p ⊎ ((front back : List ℕ) → ns ≡ front ++ p ∷ back → ⊥)
cut node q [] p a = inr none
  where
    none : (front back : List ℕ) → [] ≡ front ++ p ∷ back → ⊥
    none [] back e = cc
    none (n ∷ front) back e = cc
cut node q (n ∷ ns) p a = ⊎_elim
    (λ (is : n ≡ p). inl (record { front = []; walk = a.0 ∙ is; apart = tt; back = ns; is = ap (λ (x : ℕ). x ∷ ns) is }))
    (λ (ne : n ≢ p). ⊎_elim
    (λ (rest : Cut node (node n).next ns p). inl (record {
      front = n ∷ rest.front;
      walk = (a.0, a.1, rest.walk);
      apart = (ne, rest.apart);
      back = rest.back;
      is = ap (λ (x : List ℕ). n ∷ x) rest.is;
    }))
    (λ (absent : (front back : List ℕ) → ns ≡ front ++ p ∷ back → ⊥). inr (none ne absent))
    (cut node (node n).next ns p a.2))
    (cases_eq n p)
  where
    none : n ≢ p → ((front back : List ℕ) → ns ≡ front ++ p ∷ back → ⊥) → (front back : List ℕ) → n ∷ ns ≡ front ++ p ∷ back → ⊥
    none ne absent [] back e = let same : n ≡ p = cc in ne same
    none ne absent (x ∷ front) back e = let rest : ns ≡ front ++ p ∷ back = cc in absent front back rest

-- a page that stands once in a list parts it in one way
one_front : (p : ℕ) (front back front2 back2 : List ℕ) → Each (λ n. n ≢ p) front → Each (λ n. n ≢ p) front2 → front ++ p ∷ back ≡ front2 ++ p ∷ back2 → front ≡ front2
one_front p [] back [] back2 a b e = refl
one_front p [] back (n ∷ front2) back2 a b e = let same : n ≡ p = cc in absurd (b.0 same)
one_front p (n ∷ front) back [] back2 a b e = let same : n ≡ p = cc in absurd (a.0 same)
one_front p (n ∷ front) back (m ∷ front2) back2 a b e =
    let same : n ≡ m = cc in
    let rest : front ++ p ∷ back ≡ front2 ++ p ∷ back2 = cc in
    ap (λ (x : ℕ). x ∷ front) same ∙ ap (λ (xs : List ℕ). m ∷ xs) (one_front p front back front2 back2 a.1 b.1 rest)

lacks_prop : (r : ℕ) (k : List ℕ) (pages : PageBytes) (ns : List ℕ) → IsProp (Each (Lacks r k pages) ns)
lacks_prop r k pages [] = hlevel props
lacks_prop r k pages (n ∷ ns) = hlevel (props, lacks_prop r k pages ns)

-- what a search has passed
pub passed_of : (r total : ℕ) (k : List ℕ) (pages : PageBytes) (m : Map) (p : ℕ) → AreMap total pages m → ∥ ((steps : ℕ) × Passed (Lacks r k pages) pages k p steps) ∥₁
    → (steps : ℕ) × Passed (Lacks r k pages) pages k p steps
passed_of r total k pages m p a known = ⊎_elim
    (λ (c : Cut node first chain p). (
      length c.front,
      record {
        front = c.front;
        walk = c.walk;
        real = ∥∥₁_elim known (hlevel props) (λ (steps, w). w.real);
        each = ∥∥₁_elim known (lacks_prop r k pages c.front) (λ (steps, w). subst (Each (Lacks r k pages)) (sym (same c steps w)) w.each);
        long = refl;
      },
    ))
    (λ (none : (front back : List ℕ) → chain ≡ front ++ p ∷ back → ⊥). absurd (∥∥₁_elim known (hlevel props) (λ (steps, w). none w.front (parts steps w).0 (parts steps w).1)))
    (cut node first chain p (a.index.tree.linked (hash k)))
  where
    node : ℕ → Node
    node = λ x. node_of (pages x)

    first : ℕ
    first = named (state_of pages) (hash k)

    chain : List ℕ
    chain = a.index.tree.chain first

    parts : (steps : ℕ) (w : Passed (Lacks r k pages) pages k p steps) → (back : List ℕ) × (chain ≡ w.front ++ p ∷ back)
    parts steps w = on_parts (state_of pages) m a.index k p (passed_on (Lacks r k pages) pages k p steps w)

    same : (c : Cut node first chain p) (steps : ℕ) (w : Passed (Lacks r k pages) pages k p steps) → c.front ≡ w.front
    same c steps w =
        let e = parts steps w in
        one_front p c.front c.back w.front e.0 c.apart
        (before node first w.front p e.0 (subst (Linked node first) e.1 (a.index.tree.linked (hash k))))
        (sym c.is ∙ e.1)
