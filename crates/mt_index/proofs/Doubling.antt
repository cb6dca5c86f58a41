-- The directory: doubling names what it named, and new pointers.
use Rattle.std.proofs.Common.{◌≡◌, ℕ, suc, ◌+◌, ◌<◌, ◌^◌, ◌%◌, ◌==◌, ◌&&◌, Bool, true, false, cond, List, ◌++◌, get_or, refl, ap, sym, ◌∙◌, subst, arith, length-append, ◌↔◌}
use Rattle.std.proofs.lemmas.Nat.{pow_pos, mod_below, mod_low}
use Rattle.std.proofs.lemmas.Bool.{eq-eqb, ne_eqb}
use Rattle.mt_bucket.specs.Hash.{high}
use Rattle.mt_index.specs.Maps.{Map, Agree}
use Rattle.mt_index.specs.Index.{Node, State, named, IsTree, IsIndex, Points, Repoints}
use Rattle.mt_index.proofs.Bits.{high_low, doubled, mod_from_agree, agree_from_mod}

deeper : (names : ℕ → ℕ) (g : ℕ) (node : ℕ → Node) (kind : ℕ → ℕ) (m : Map) → IsTree names g node kind m → IsTree names (suc g) node kind m
deeper names g node kind m i = record {
  chain = i.chain;
  home = i.home;
  real = i.real;
  shallow = λ h. let o = i.shallow h in omega (arith, o);
  linked = i.linked;
  at_home = i.at_home;
  level = i.level;
  small = i.small;
  kinds = i.kinds;
  buckets = i.buckets;
  map = i.map;
}

pub directory_doubled : (s : State) (m : Map) → IsIndex s m → IsIndex (record s { g = suc s.g; pointers = s.pointers ++ s.pointers }) m
directory_doubled s m i = record {
  size = length-append s.pointers s.pointers ∙ ap (λ (x : ℕ). x + x) i.size ∙ omega arith;
  tree = subst (λ (f : ℕ → ℕ). IsTree f (suc s.g) s.node s.kind m) (λ j h. sym (doubled s.pointers s.g h i.size) j) (deeper (named s) s.g s.node s.kind m i.tree);
}

and_cond : (x y : Bool) (q c : ℕ) → x ≡ true → cond (x && y) q c ≡ cond y q c
and_cond true y q c e = refl
and_cond false y q c e = absurd cc

pub repointed : (g b q l : ℕ) (old new : List ℕ) → l < g → Repoints b q l g old new
    → Points b q l (λ h. get_or old (h % 2 ^ g) 0) (λ h. get_or new (h % 2 ^ g) 0)
repointed g b q l old new lt w = record {
  low = λ h here is. at h ∙ and_cond (get_or old (h % 2 ^ g) 0 == b) (high l (h % 2 ^ g)) q (get_or old (h % 2 ^ g) 0) (eq-eqb (get_or old (h % 2 ^ g) 0) b here)
      ∙ ap (λ t. cond t q (get_or old (h % 2 ^ g) 0)) (high_low h g l lt ∙ is) ∙ here;
  up = λ h here is. at h ∙ and_cond (get_or old (h % 2 ^ g) 0 == b) (high l (h % 2 ^ g)) q (get_or old (h % 2 ^ g) 0) (eq-eqb (get_or old (h % 2 ^ g) 0) b here)
      ∙ ap (λ t. cond t q (get_or old (h % 2 ^ g) 0)) (high_low h g l lt ∙ is);
  rest = λ h there. at h ∙ ap (λ t. cond (t && high l (h % 2 ^ g)) q (get_or old (h % 2 ^ g) 0)) (ne_eqb (get_or old (h % 2 ^ g) 0) b there);
}
  where
    at : (h : ℕ) → get_or new (h % 2 ^ g) 0 ≡ cond (get_or old (h % 2 ^ g) 0 == b && high l (h % 2 ^ g)) q (get_or old (h % 2 ^ g) 0)
    at h = w.each (h % 2 ^ g) (mod_below h (2 ^ g) (pow_pos g))

-- the pointers of a bucket are just those with its low bits
pub just_its_pointers : (s : State) (m : Map) → IsIndex s m → (i j : ℕ) → i < 2 ^ s.g → j < 2 ^ s.g
    → (get_or s.pointers i 0 ≡ get_or s.pointers j 0) ↔ (i % 2 ^ (s.node (get_or s.pointers i 0)).depth ≡ j % 2 ^ (s.node (get_or s.pointers i 0)).depth)
just_its_pointers s m x i j li lj = (
  λ e. mod_from_agree d i j (subst (λ p. Agree (s.node p).depth i j) (at i li) (x.tree.buckets.same i j (at i li ∙ e ∙ sym (at j lj)))),
  λ e. sym (at i li) ∙ x.tree.buckets.apart i j (subst (λ p. Agree (s.node p).depth i j) (sym (at i li)) (agree_from_mod d i j e)) ∙ at j lj,
)
  where
    d : ℕ
    d = (s.node (get_or s.pointers i 0)).depth

    at : (k : ℕ) → k < 2 ^ s.g → named s k ≡ get_or s.pointers k 0
    at k lt = ap (λ (y : ℕ). get_or s.pointers y 0) (small k lt)
      where
        small : (k : ℕ) → k < 2 ^ s.g → k % 2 ^ s.g ≡ k
        small k lt = ap (λ (y : ℕ). y % 2 ^ s.g) (omega arith) ∙ mod_low 0 s.g k lt
