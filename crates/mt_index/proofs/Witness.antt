-- A formatted index is the empty map, and an index stays where other pages change.
use Rattle.std.proofs.Common.{◌≡◌, ℕ, ◌≤◌, ◌%◌, ◌^◌, List, [], ◌∷◌, length, get_or, None, ap, sym, ◌∙◌, subst, arith, refl, append-nil}
use Rattle.mt_bucket.specs.Entries.{Entry, look}
use Rattle.mt_bucket.specs.Hash.{hash}
use Rattle.mt_bucket.specs.Page.{IsBucket}
use Rattle.mt_space.specs.Changes.{PageBytes}
use Rattle.mt_space.specs.Kinds.{kind}
use Rattle.mt_index.specs.Maps.{Map, Each, Once, Agree}
use Rattle.mt_index.specs.Index.{Node, named, entries_of, IsTree}
use Rattle.mt_index.specs.Pages.{depth_in, pointer_at, pointers_from, node_of, state_of, AreMap, IsDirectory, AreFormed, IsEmpty, LeavesIndex}
use Rattle.mt_index.proofs.Lists.{each_map}
use Rattle.mt_index.proofs.Chains.{linked_stay}
use Rattle.mt_index.proofs.Chaining.{chains_stay}
use Rattle.mt_index.proofs.Overflow.{each_both, entries_same, named_taken}
use Rattle.mt_index.proofs.Pointers.{pointers_length, named_is}

empty_tree : (node : ℕ → Node) (kinds : ℕ → ℕ) → kinds 3 ≡ 2 → (node 3).depth ≡ 0 → (node 3).next ≡ 0 → (node 3).entries ≡ [] → IsTree (λ h. 3) 0 node kinds (λ r k. None)
empty_tree node kinds bucket depth next none = record {
  chain = λ b. 3 ∷ [];
  home = λ n. 3;
  real = λ h. omega arith;
  shallow = λ h. omega (arith, depth);
  linked = λ h. (refl, omega arith, next);
  at_home = λ h. (refl, tt);
  level = λ h. (refl, tt);
  small = λ h. (subst (λ (es : List Entry). length es ≤ 58) (sym none) (omega arith), tt);
  kinds = λ h. (bucket, tt);
  buckets = record {
    same = λ h k e. subst (λ (d : ℕ). Agree d h k) (sym depth) tt;
    apart = λ h k a. refl;
    own = λ h. subst (Each (λ (e : Entry). 3 ≡ 3)) (sym nothing) tt;
    once = λ h. subst Once (sym nothing) tt;
  };
  map = λ r k. ap (look r k) nothing;
}
  where
    nothing : entries_of node (3 ∷ []) ≡ []
    nothing = append-nil (node 3).entries ∙ none

pub formatted : (total : ℕ) (pages : PageBytes) → IsEmpty total pages → AreMap total pages (λ r k. None)
formatted total pages e = record {
  index = record {
    size = pointers_length (pages 1) 8 (2 ^ depth_in (pages 1));
    tree = subst (λ (x : (ℕ → ℕ) × ℕ). IsTree x.0 x.1 (λ p. node_of (pages p)) (kind pages) (λ r k. None)) (λ j. (λ h. sym (three h) j, sym e.no_bits j))
        (empty_tree (λ p. node_of (pages p)) (kind pages) e.bucket e.depth e.next e.entries);
  };
  space_fixed = e.space_fixed;
  directory_fixed = e.directory_fixed;
  within = e.within;
  few = e.few;
}
  where
    three : (h : ℕ) → named (state_of pages) h ≡ 3
    three h = named_is pages h ∙ ap (λ (d : ℕ). pointer_at (pages 1) (h % 2 ^ d)) e.no_bits ∙ ap (pointer_at (pages 1)) (let z : h % 2 ^ 0 ≡ 0 = omega arith in z) ∙ e.pointer

-- ---- other pages change

tree_stays : (names : ℕ → ℕ) (g : ℕ) (node node2 : ℕ → Node) (kinds kinds2 : ℕ → ℕ) (m : Map) → IsTree names g node kinds m → ((n : ℕ) → kinds n ≡ 2 → node2 n ≡ node n) → ((n : ℕ) → kinds n ≡ 2 → kinds2 n ≡ 2)
    → IsTree names g node2 kinds2 m
tree_stays names g node node2 kinds kinds2 m i same still = record {
  chain = i.chain;
  home = i.home;
  real = i.real;
  shallow = λ h. rw (first h) (i.shallow h);
  linked = λ h. linked_stay node node2 (names h) (i.chain (names h)) (each_map (λ n. kinds n ≡ 2) (λ n. (node2 n).next ≡ (node n).next) (λ n is. ap (λ (x : Node). x.next) (same n is)) (i.chain (names h)) (i.kinds h)) (i.linked h);
  at_home = i.at_home;
  level = λ h. each_map (λ n. ((node n).depth ≡ (node (names h)).depth) × (kinds n ≡ 2)) (λ n. (node2 n).depth ≡ (node2 (names h)).depth)
      (λ n x. ap (λ (y : Node). y.depth) (same n x.1) ∙ x.0 ∙ sym (ap (λ (y : Node). y.depth) (first h))) (i.chain (names h))
      (each_both (λ n. (node n).depth ≡ (node (names h)).depth) (λ n. kinds n ≡ 2) (i.chain (names h)) (i.level h) (i.kinds h));
  small = λ h. each_map (λ n. (length (node n).entries ≤ 58) × (kinds n ≡ 2)) (λ n. length (node2 n).entries ≤ 58) (λ n x. rw (same n x.1) x.0) (i.chain (names h))
      (each_both (λ n. length (node n).entries ≤ 58) (λ n. kinds n ≡ 2) (i.chain (names h)) (i.small h) (i.kinds h));
  kinds = λ h. each_map (λ n. kinds n ≡ 2) (λ n. kinds2 n ≡ 2) still (i.chain (names h)) (i.kinds h);
  buckets = record {
    same = λ h k e. subst (λ (d : ℕ). Agree d h k) (sym (ap (λ (x : Node). x.depth) (first h))) (i.buckets.same h k e);
    apart = λ h k a. i.buckets.apart h k (subst (λ (d : ℕ). Agree d h k) (ap (λ (x : Node). x.depth) (first h)) a);
    own = λ h. subst (Each (λ (e : Entry). names (hash e.key) ≡ names h)) (sym (content h)) (i.buckets.own h);
    once = λ h. subst Once (sym (content h)) (i.buckets.once h);
  };
  map = λ r k. ap (look r k) (content (hash k)) ∙ i.map r k;
}
  where
    first : (h : ℕ) → node2 (names h) ≡ node (names h)
    first h = same (names h) (named_taken names g node kinds m i h)

    content : (h : ℕ) → entries_of node2 (i.chain (names h)) ≡ entries_of node (i.chain (names h))
    content h = entries_same node node2 (i.chain (names h)) (each_map (λ n. kinds n ≡ 2) (λ n. (node2 n).entries ≡ (node n).entries) (λ n is. ap (λ (x : Node). x.entries) (same n is)) (i.chain (names h)) (i.kinds h))

pub index_stays : (total : ℕ) (pages pages2 : PageBytes) (m : Map) → AreMap total pages m → LeavesIndex total pages pages2 → AreMap total pages2 m
index_stays total pages pages2 m a w = record {
  index = record {
    size = pointers_length (pages2 1) 8 (2 ^ depth_in (pages2 1));
    tree = subst (λ (c : List ℕ). IsTree (λ h. get_or (pointers_from c 8 (2 ^ depth_in c)) (h % 2 ^ depth_in c) 0) (depth_in c) (λ p. node_of (pages2 p)) (kind pages2) m) (sym w.directory)
        (tree_stays (named (state_of pages)) (depth_in (pages 1)) (λ p. node_of (pages p)) (λ p. node_of (pages2 p)) (kind pages) (kind pages2) m a.index.tree (λ n is. ap node_of (w.buckets n is).1) (λ n is. (w.buckets n is).0));
  };
  space_fixed = w.fixed 0 a.space_fixed;
  directory_fixed = w.fixed 1 a.directory_fixed;
  within = w.within;
  few = a.few;
}

pub form_stays : (relations total : ℕ) (pages pages2 : PageBytes) (m : Map) → AreMap total pages m → AreFormed relations total pages → LeavesIndex total pages pages2 → AreFormed relations total pages2
form_stays relations total pages pages2 m a f w = record {
  directory = subst IsDirectory (sym w.directory) f.directory;
  buckets = λ p is. subst (IsBucket relations total) (sym (w.buckets p (w.no_more p is)).1) (f.buckets p (w.no_more p is));
  chained = chains_stay total pages pages2 m a w f.chained;
}
