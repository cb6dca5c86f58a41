-- Chains of pages.
use Rattle.std.proofs.Common.{◌≡◌, ◌≢◌, ℕ, ◌≤◌, List, [], ◌∷◌, ◌++◌, length, refl, ap, sym, ◌∙◌, subst, arith, append_assoc, length-append}
use Rattle.mt_index.specs.Maps.{Each}
use Rattle.mt_index.specs.Index.{Node, Linked, entries_of}

-- the chain from a page on is one
pub linked_same : (node : ℕ → Node) (p : ℕ) (ns ms : List ℕ) → Linked node p ns → Linked node p ms → ns ≡ ms
linked_same node p [] [] a b = refl
linked_same node p [] (m ∷ ms) a b = absurd (b.1 (sym b.0 ∙ a))
linked_same node p (n ∷ ns) [] a b = absurd (a.1 (sym a.0 ∙ b))
linked_same node p (n ∷ ns) (m ∷ ms) a b =
    let e : n ≡ m = sym a.0 ∙ b.0 in
    let rest : ns ≡ ms = linked_same node (node n).next ns ms a.2 (subst (λ x. Linked node (node x).next ms) (sym e) b.2) in
    ap (λ x. x ∷ ns) e ∙ ap (λ xs. m ∷ xs) rest

pub linked_at : (node : ℕ → Node) (q : ℕ) (front : List ℕ) (p : ℕ) (back : List ℕ) → Linked node q (front ++ p ∷ back) → Linked node p (p ∷ back)
linked_at node q [] p back a = (refl, a.1, a.2)
linked_at node q (n ∷ front) p back a = linked_at node (node n).next front p back a.2

-- two chains from one page are of one length
one_length : (node : ℕ → Node) (x y : ℕ) (ns ms : List ℕ) → x ≡ y → Linked node x ns → Linked node y ms → length ns ≡ length ms
one_length node x y ns ms e a b = ap length (linked_same node y ns ms (subst (λ z. Linked node z ns) e a) b)

-- a page stands once in its chain
shorter : (node : ℕ → Node) (p : ℕ) (back : List ℕ) → Linked node p (p ∷ back) → (x : ℕ) (zs : List ℕ) → Linked node x zs → length zs ≤ length back → Each (λ n. n ≢ p) zs
shorter node p back a x [] b le = tt
shorter node p back a x (z ∷ zs) b le = (
  λ e. let l = one_length node x p (z ∷ zs) (p ∷ back) (b.0 ∙ e) b a in omega (arith, l, le),
  shorter node p back a (node z).next zs b.2 (omega (arith, le)),
)

pub behind : (node : ℕ → Node) (q : ℕ) (front : List ℕ) (p : ℕ) (back : List ℕ) → Linked node q (front ++ p ∷ back) → Each (λ n. n ≢ p) back
behind node q front p back a = let b = linked_at node q front p back a in shorter node p back b (node p).next back b.2 (omega arith)

pub before : (node : ℕ → Node) (q : ℕ) (front : List ℕ) (p : ℕ) (back : List ℕ) → Linked node q (front ++ p ∷ back) → Each (λ n. n ≢ p) front
before node q [] p back a = tt
before node q (n ∷ front) p back a = (
  λ e. let l = one_length node q p (n ∷ (front ++ p ∷ back)) (p ∷ back) (a.0 ∙ e) a (linked_at node (node n).next front p back a.2) in
      omega (arith, l, length-append front (p ∷ back)),
  before node (node n).next front p back a.2,
)

-- pages that stay
pub entries_stay : (old new : ℕ → Node) (ns : List ℕ) → Each (λ n. new n ≡ old n) ns → entries_of new ns ≡ entries_of old ns
entries_stay old new [] h = refl
entries_stay old new (n ∷ ns) h = ap (λ (x : Node). x.entries ++ entries_of new ns) h.0 ∙ ap (λ xs. (old n).entries ++ xs) (entries_stay old new ns h.1)

pub linked_stay : (old new : ℕ → Node) (p : ℕ) (ns : List ℕ) → Each (λ n. (new n).next ≡ (old n).next) ns → Linked old p ns → Linked new p ns
linked_stay old new p [] h a = a
linked_stay old new p (n ∷ ns) h a = (a.0, a.1, linked_stay old new (new n).next ns h.1 (subst (λ x. Linked old x ns) (sym h.0) a.2))

pub entries_parts : (node : ℕ → Node) (front : List ℕ) (p : ℕ) (back : List ℕ) → entries_of node (front ++ p ∷ back) ≡ entries_of node front ++ ((node p).entries ++ entries_of node back)
entries_parts node [] p back = refl
entries_parts node (n ∷ front) p back =
    ap (λ xs. (node n).entries ++ xs) (entries_parts node front p back)
    ∙ sym (append_assoc (node n).entries (entries_of node front) ((node p).entries ++ entries_of node back))
