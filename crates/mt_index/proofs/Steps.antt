-- The steps of an index over pages.
use Rattle.std.proofs.Common.{◌≡◌, ◌≢◌, ℕ, ◌<◌, ◌≤◌, ◌==◌, ◌&&◌, cond, List, [], ◌∷◌, ◌++◌, length, Option, Some, None, refl, ap, sym, ◌∙◌, subst, arith, append_assoc, length-append, ◌⊎◌, inl, inr, bytes_eq}
use Rattle.std.proofs.lemmas.Bool.{cases_eq}
use Rattle.mt_base.specs.declared.numbers.RecordName.{RecordName}
use Rattle.mt_bucket.specs.Entries.{Entry, last_first}
use Rattle.mt_bucket.specs.Hash.{hash}
use Rattle.mt_index.specs.Maps.{Map, Each, alter}
use Rattle.mt_index.specs.Buckets.{IsBuckets, lookup, Changed}
use Rattle.mt_index.specs.Index.{Node, Linked, entries_of, IsTree, Rewrites}
use Rattle.mt_index.proofs.Lists.{each_map, each_remove}
use Rattle.mt_index.proofs.Buckets.{added, dropped, renamed}
use Rattle.mt_index.proofs.Chains.{behind, before, entries_stay, linked_stay, entries_parts}

rewrites_depth : (p : ℕ) (es : List Entry) (node node2 : ℕ → Node) → Rewrites p es node node2 → (n : ℕ) → (node2 n).depth ≡ (node n).depth
rewrites_depth p es node node2 w n = go (cases_eq n p)
  where
    go : (n ≡ p) ⊎ (n ≡ p → ⊥) → (node2 n).depth ≡ (node n).depth
    go (inl here) = rw here (ap (λ (x : Node). x.depth) w.page)
    go (inr there) = ap (λ (x : Node). x.depth) (w.others n there)

rewrites_next : (p : ℕ) (es : List Entry) (node node2 : ℕ → Node) → Rewrites p es node node2 → (n : ℕ) → (node2 n).next ≡ (node n).next
rewrites_next p es node node2 w n = go (cases_eq n p)
  where
    go : (n ≡ p) ⊎ (n ≡ p → ⊥) → (node2 n).next ≡ (node n).next
    go (inl here) = rw here (ap (λ (x : Node). x.next) w.page)
    go (inr there) = ap (λ (x : Node). x.next) (w.others n there)

rewrites_small : (p : ℕ) (es : List Entry) (node node2 : ℕ → Node) → Rewrites p es node node2 → length es ≤ 58 → (n : ℕ) → length (node n).entries ≤ 58 → length (node2 n).entries ≤ 58
rewrites_small p es node node2 w fits n old = go (cases_eq n p)
  where
    go : (n ≡ p) ⊎ (n ≡ p → ⊥) → length (node2 n).entries ≤ 58
    go (inl here) = rw (here, w.page) fits
    go (inr there) = rw (w.others n there) old

each_all : {A : Type 0} (P : A → Type 0) → ((x : A) → P x) → (xs : List A) → Each P xs
each_all P f [] = tt
each_all P f (x ∷ xs) = (f x, each_all P f xs)

-- what a page of one chain does to the lists
rewritten_changes : (names : ℕ → ℕ) (g : ℕ) (node : ℕ → Node) (kind : ℕ → ℕ) (m : Map) (node2 : ℕ → Node) (i : IsTree names g node kind m)
    (h p : ℕ) (front back : List ℕ) (es : List Entry) → i.chain (names h) ≡ front ++ p ∷ back → Rewrites p es node node2
    → Changed names (names h) (λ b. entries_of node (i.chain b)) (λ b. entries_of node2 (i.chain b)) (entries_of node front ++ (es ++ entries_of node back))
rewritten_changes names g node kind m node2 i h p front back es parts w = record {
  at = ap (entries_of node2) parts ∙ entries_parts node2 front p back
      ∙ ap (λ x. x ++ ((node2 p).entries ++ entries_of node2 back)) (entries_stay node node2 front (each_map (λ n. n ≢ p) (λ n. node2 n ≡ node n) w.others front (before node (names h) front p back linked)))
      ∙ ap (λ x. entries_of node front ++ ((node2 p).entries ++ x)) (entries_stay node node2 back (each_map (λ n. n ≢ p) (λ n. node2 n ≡ node n) w.others back (behind node (names h) front p back linked)))
      ∙ ap (λ (x : Node). entries_of node front ++ (x.entries ++ entries_of node back)) w.page;
  others = λ k away. entries_stay node node2 (i.chain (names k)) (each_map (λ n. i.home n ≡ names k) (λ n. node2 n ≡ node n)
      (λ n home. w.others n (λ e. away (sym home ∙ ap i.home e ∙ home_p))) (i.chain (names k)) (i.at_home k));
}
  where
    linked : Linked node (names h) (front ++ p ∷ back)
    linked = subst (λ ns. Linked node (names h) ns) parts (i.linked h)

    home_p : i.home p ≡ names h
    home_p = (each_remove (λ n. i.home n ≡ names h) front p back (subst (Each (λ n. i.home n ≡ names h)) parts (i.at_home h))).0

-- the rest of the tree
rebuilt : (names : ℕ → ℕ) (g : ℕ) (node : ℕ → Node) (kind : ℕ → ℕ) (m m2 : Map) (node2 : ℕ → Node) (i : IsTree names g node kind m)
    (p : ℕ) (es : List Entry) → Rewrites p es node node2 → length es ≤ 58
    → IsBuckets names (λ b. (node b).depth) (λ b. entries_of node2 (i.chain b)) → ((r : ℕ) (k : List ℕ) → lookup names (λ b. entries_of node2 (i.chain b)) r k ≡ m2 r k)
    → IsTree names g node2 kind m2
rebuilt names g node kind m m2 node2 i p es w fits buckets map = record {
  chain = i.chain;
  home = i.home;
  real = i.real;
  shallow = λ h. let d = depth (names h) in let o = i.shallow h in omega arith;
  linked = λ h. linked_stay node node2 (names h) (i.chain (names h)) (each_all (λ n. (node2 n).next ≡ (node n).next) (rewrites_next p es node node2 w) (i.chain (names h))) (i.linked h);
  at_home = i.at_home;
  level = λ h. each_map (λ n. (node n).depth ≡ (node (names h)).depth) (λ n. (node2 n).depth ≡ (node2 (names h)).depth) (λ n e. depth n ∙ e ∙ sym (depth (names h))) (i.chain (names h)) (i.level h);
  small = λ h. each_map (λ n. length (node n).entries ≤ 58) (λ n. length (node2 n).entries ≤ 58) (rewrites_small p es node node2 w fits) (i.chain (names h)) (i.small h);
  kinds = i.kinds;
  buckets = subst (λ (d : ℕ → ℕ). IsBuckets names d (λ b. entries_of node2 (i.chain b))) (λ j b. sym (depth b) j) buckets;
  map = map;
}
  where
    depth : (n : ℕ) → (node2 n).depth ≡ (node n).depth
    depth = rewrites_depth p es node node2 w

with_last : (a x : List Entry) (e : Entry) (c : List Entry) → a ++ ((x ++ e ∷ []) ++ c) ≡ (a ++ x) ++ e ∷ c
with_last a x e c = ap (λ y. a ++ y) (append_assoc x (e ∷ []) c) ∙ sym (append_assoc a x (e ∷ c))

with_one : (a x : List Entry) (e : Entry) (y c : List Entry) → a ++ ((x ++ e ∷ y) ++ c) ≡ (a ++ x) ++ e ∷ (y ++ c)
with_one a x e y c = ap (λ z. a ++ z) (append_assoc x (e ∷ y) c) ∙ sym (append_assoc a x (e ∷ (y ++ c)))

with_none : (a x y c : List Entry) → a ++ ((x ++ y) ++ c) ≡ (a ++ x) ++ (y ++ c)
with_none a x y c = ap (λ z. a ++ z) (append_assoc x y c) ∙ sym (append_assoc a x (y ++ c))

altered : (m n : Map) (r : ℕ) (k : List ℕ) (o : Option RecordName) → ((s : ℕ) (l : List ℕ) → n s l ≡ m s l) → (s : ℕ) (l : List ℕ) → alter n r k o s l ≡ alter m r k o s l
altered m n r k o same s l = ap (cond ((r == s) && bytes_eq k l) o) (same s l)

-- an entry goes last into a page of its chain
pub entry_added : (names : ℕ → ℕ) (g : ℕ) (node : ℕ → Node) (kind : ℕ → ℕ) (m : Map) (node2 : ℕ → Node) (i : IsTree names g node kind m)
    (e : Entry) (p : ℕ) (front back : List ℕ) → i.chain (names (hash e.key)) ≡ front ++ p ∷ back → m e.relation e.key ≡ None → length (node p).entries < 58
    → Rewrites p ((node p).entries ++ e ∷ []) node node2 → IsTree names g node2 kind (alter m e.relation e.key (Some e.name))
entry_added names g node kind m node2 i e p front back parts absent room w =
    rebuilt names g node kind m _ node2 i p ((node p).entries ++ e ∷ []) w (omega (arith, length-append (node p).entries (e ∷ []))) r.0
    (λ s l. r.1 s l ∙ altered m (lookup names (λ b. entries_of node (i.chain b))) e.relation e.key (Some e.name) i.map s l)
  where
    r : IsBuckets names (λ b. (node b).depth) (λ b. entries_of node2 (i.chain b))
        × ((s : ℕ) (l : List ℕ) → lookup names (λ b. entries_of node2 (i.chain b)) s l ≡ alter (lookup names (λ b. entries_of node (i.chain b))) e.relation e.key (Some e.name) s l)
    r = added names (λ b. (node b).depth) (λ b. entries_of node (i.chain b)) (λ b. entries_of node2 (i.chain b)) (names (hash e.key))
        (entries_of node front ++ (node p).entries) e (entries_of node back) i.buckets refl (i.map e.relation e.key ∙ absent)
        (ap (entries_of node) parts ∙ entries_parts node front p back ∙ sym (append_assoc (entries_of node front) (node p).entries (entries_of node back)))
        (subst (Changed names (names (hash e.key)) (λ b. entries_of node (i.chain b)) (λ b. entries_of node2 (i.chain b)))
        (with_last (entries_of node front) (node p).entries e (entries_of node back))
        (rewritten_changes names g node kind m node2 i (hash e.key) p front back ((node p).entries ++ e ∷ []) parts w))

-- an entry goes out of its page
pub entry_dropped : (names : ℕ → ℕ) (g : ℕ) (node : ℕ → Node) (kind : ℕ → ℕ) (m : Map) (node2 : ℕ → Node) (i : IsTree names g node kind m)
    (e : Entry) (p : ℕ) (front back : List ℕ) (x y : List Entry) → i.chain (names (hash e.key)) ≡ front ++ p ∷ back → (node p).entries ≡ x ++ e ∷ y
    → length (x ++ last_first y) ≤ 58 → Rewrites p (x ++ last_first y) node node2 → IsTree names g node2 kind (alter m e.relation e.key None)
entry_dropped names g node kind m node2 i e p front back x y parts there fits w =
    rebuilt names g node kind m _ node2 i p (x ++ last_first y) w fits r.0
    (λ s l. r.1 s l ∙ altered m (lookup names (λ b. entries_of node (i.chain b))) e.relation e.key None i.map s l)
  where
    r : IsBuckets names (λ b. (node b).depth) (λ b. entries_of node2 (i.chain b))
        × ((s : ℕ) (l : List ℕ) → lookup names (λ b. entries_of node2 (i.chain b)) s l ≡ alter (lookup names (λ b. entries_of node (i.chain b))) e.relation e.key None s l)
    r = dropped names (λ b. (node b).depth) (λ b. entries_of node (i.chain b)) (λ b. entries_of node2 (i.chain b)) (names (hash e.key))
        (entries_of node front ++ x) e y (entries_of node back) i.buckets refl
        (ap (entries_of node) parts ∙ entries_parts node front p back ∙ ap (λ z. entries_of node front ++ (z ++ entries_of node back)) there ∙ with_one (entries_of node front) x e y (entries_of node back))
        (subst (Changed names (names (hash e.key)) (λ b. entries_of node (i.chain b)) (λ b. entries_of node2 (i.chain b)))
        (with_none (entries_of node front) x (last_first y) (entries_of node back))
        (rewritten_changes names g node kind m node2 i (hash e.key) p front back (x ++ last_first y) parts w))

-- an entry's name is set
pub entry_renamed : (names : ℕ → ℕ) (g : ℕ) (node : ℕ → Node) (kind : ℕ → ℕ) (m : Map) (node2 : ℕ → Node) (i : IsTree names g node kind m)
    (e : Entry) (n : RecordName) (p : ℕ) (front back : List ℕ) (x y : List Entry) → i.chain (names (hash e.key)) ≡ front ++ p ∷ back → (node p).entries ≡ x ++ e ∷ y
    → length (x ++ record e { name = n } ∷ y) ≤ 58 → Rewrites p (x ++ record e { name = n } ∷ y) node node2 → IsTree names g node2 kind (alter m e.relation e.key (Some n))
entry_renamed names g node kind m node2 i e n p front back x y parts there fits w =
    rebuilt names g node kind m _ node2 i p (x ++ record e { name = n } ∷ y) w fits r.0
    (λ s l. r.1 s l ∙ altered m (lookup names (λ b. entries_of node (i.chain b))) e.relation e.key (Some n) i.map s l)
  where
    r : IsBuckets names (λ b. (node b).depth) (λ b. entries_of node2 (i.chain b))
        × ((s : ℕ) (l : List ℕ) → lookup names (λ b. entries_of node2 (i.chain b)) s l ≡ alter (lookup names (λ b. entries_of node (i.chain b))) e.relation e.key (Some n) s l)
    r = renamed names (λ b. (node b).depth) (λ b. entries_of node (i.chain b)) (λ b. entries_of node2 (i.chain b)) (names (hash e.key))
        (entries_of node front ++ x) e n (y ++ entries_of node back) i.buckets refl
        (ap (entries_of node) parts ∙ entries_parts node front p back ∙ ap (λ z. entries_of node front ++ (z ++ entries_of node back)) there ∙ with_one (entries_of node front) x e y (entries_of node back))
        (subst (Changed names (names (hash e.key)) (λ b. entries_of node (i.chain b)) (λ b. entries_of node2 (i.chain b)))
        (with_one (entries_of node front) x (record e { name = n }) y (entries_of node back))
        (rewritten_changes names g node kind m node2 i (hash e.key) p front back (x ++ record e { name = n } ∷ y) parts w))
