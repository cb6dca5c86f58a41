-- An overflow page is chained at the end.
use Rattle.std.proofs.Common.{◌≡◌, ◌≢◌, ℕ, ◌≤◌, ◌==◌, ◌&&◌, cond, List, [], ◌∷◌, ◌++◌, length, Some, None, refl, ap, sym, ◌∙◌, subst, arith, append-nil, ◌⊎◌, inl, inr, bytes_eq}
use Rattle.std.proofs.lemmas.Bool.{cases_eq, eq-eqb, ne_eqb}
use Rattle.mt_bucket.specs.Entries.{Entry}
use Rattle.mt_bucket.specs.Hash.{hash}
use Rattle.mt_index.specs.Maps.{Map, Each, alter, Agree}
use Rattle.mt_index.specs.Buckets.{IsBuckets, lookup, Changed}
use Rattle.mt_index.specs.Index.{Node, Linked, entries_of, IsTree, Takes, Chains}
use Rattle.mt_index.proofs.Lists.{each_map, each_remove}
use Rattle.mt_index.proofs.Buckets.{added}
use Rattle.mt_index.proofs.Chains.{before, linked_stay, entries_parts}

pub cond_at : {A : Type 0} (a b : ℕ) (x y : A) → a ≡ b → cond (a == b) x y ≡ x
cond_at a b x y e = ap (λ t. cond t x y) (eq-eqb a b e)

pub cond_off : {A : Type 0} (a b : ℕ) (x y : A) → a ≢ b → cond (a == b) x y ≡ y
cond_off a b x y e = ap (λ t. cond t x y) (ne_eqb a b e)

pub each_push : {A : Type 0} (P : A → Type 0) (xs : List A) (x : A) → Each P xs → P x → Each P (xs ++ x ∷ [])
each_push P [] x h p = (p, tt)
each_push P (y ∷ xs) x h p = (h.0, each_push P xs x h.1 p)

-- depths matter at named buckets alone
pub buckets_depth : (names d d2 : ℕ → ℕ) (content : ℕ → List Entry) → ((h : ℕ) → d2 (names h) ≡ d (names h)) → IsBuckets names d content → IsBuckets names d2 content
buckets_depth names d d2 content e is = record {
  same = λ h k s. subst (λ x. Agree x h k) (sym (e h)) (is.same h k s);
  apart = λ h k a. is.apart h k (subst (λ x. Agree x h k) (e h) a);
  own = is.own;
  once = is.once;
}

-- a free page is in no chain
pub not_free : (q : ℕ) (kind kind2 : ℕ → ℕ) → Takes q kind kind2 → (n : ℕ) → kind n ≡ 2 → n ≢ q
not_free q kind kind2 t n is e = let w : kind q ≡ 2 = ap kind (sym e) ∙ is in let f = t.free in omega (arith, w, f)

-- a bucket's first page is in its chain
pub first_of_chain : (P : ℕ → Type 0) (node : ℕ → Node) (p : ℕ) (ns : List ℕ) → Linked node p ns → p ≢ 0 → Each P ns → P p
first_of_chain P node p [] a real h = absurd (real a)
first_of_chain P node p (n ∷ ns) a real h = subst P (sym a.0) h.0

pub named_taken : (names : ℕ → ℕ) (g : ℕ) (node : ℕ → Node) (kind : ℕ → ℕ) (m : Map) → IsTree names g node kind m → (h : ℕ) → kind (names h) ≡ 2
named_taken names g node kind m i h = first_of_chain (λ n. kind n ≡ 2) node (names h) (i.chain (names h)) (i.linked h) (i.real h) (i.kinds h)

longer : (node node2 : ℕ → Node) (p z q : ℕ) (front : List ℕ) → Linked node p (front ++ z ∷ []) → Each (λ n. (node2 n).next ≡ (node n).next) front
    → (node2 z).next ≡ q → (node2 q).next ≡ 0 → q ≢ 0 → Linked node2 p ((front ++ z ∷ []) ++ q ∷ [])
longer node node2 p z q [] a h zq q0 real = (a.0, a.1, (zq, real, q0))
longer node node2 p z q (n ∷ front) a h zq q0 real =
    (a.0, a.1, longer node node2 (node2 n).next z q front (subst (λ x. Linked node x (front ++ z ∷ [])) (sym h.0) a.2) h.1 zq q0 real)

pub each_both : {A : Type 0} (P Q : A → Type 0) (xs : List A) → Each P xs → Each Q xs → Each (λ x. P x × Q x) xs
each_both P Q [] h g = tt
each_both P Q (x ∷ xs) h g = ((h.0, g.0), each_both P Q xs h.1 g.1)

each_front : {A : Type 0} (P : A → Type 0) (front back : List A) → Each P (front ++ back) → Each P front
each_front P [] back h = tt
each_front P (x ∷ front) back h = (h.0, each_front P front back h.1)

pub entries_same : (old new : ℕ → Node) (ns : List ℕ) → Each (λ n. (new n).entries ≡ (old n).entries) ns → entries_of new ns ≡ entries_of old ns
entries_same old new [] h = refl
entries_same old new (n ∷ ns) h = ap (λ (x : List Entry). x ++ entries_of new ns) h.0 ∙ ap (λ xs. (old n).entries ++ xs) (entries_same old new ns h.1)

pub entry_chained : (names : ℕ → ℕ) (g : ℕ) (node : ℕ → Node) (kind kind2 : ℕ → ℕ) (m : Map) (node2 : ℕ → Node) (i : IsTree names g node kind m)
    (e : Entry) (z q : ℕ) (front : List ℕ) → i.chain (names (hash e.key)) ≡ front ++ z ∷ [] → m e.relation e.key ≡ None
    → Takes q kind kind2 → Chains z q e kind node node2 → IsTree names g node2 kind2 (alter m e.relation e.key (Some e.name))
entry_chained names g node kind kind2 m node2 i e z q front parts absent t w = record {
  chain = chain2;
  home = home2;
  real = i.real;
  shallow = λ h. let d = depth_named h in let o = i.shallow h in omega arith;
  linked = λ h. pick h (λ ns. Linked node2 (names h) ns) (linked_b h) (linked_off h);
  at_home = λ h. pick h (λ ns. Each (λ n. home2 n ≡ names h) ns)
      (λ here. each_push (λ n. home2 n ≡ names h) (i.chain b) q (to_b h (λ n. home2 n ≡ names h) here (homes h)) (cond_at q q b (i.home q) refl ∙ sym here)) (λ there. homes h);
  level = λ h. pick h (λ ns. Each (λ n. (node2 n).depth ≡ (node2 (names h)).depth) ns)
      (λ here. each_push (λ n. (node2 n).depth ≡ (node2 (names h)).depth) (i.chain b) q (to_b h (λ n. (node2 n).depth ≡ (node2 (names h)).depth) here (levels h))
      (ap (λ (x : Node). x.depth) w.page ∙ level_z ∙ sym (ap (λ x. (node x).depth) here) ∙ sym (depth_named h)))
      (λ there. levels h);
  small = λ h. pick h (λ ns. Each (λ n. length (node2 n).entries ≤ 58) ns)
      (λ here. each_push (λ n. length (node2 n).entries ≤ 58) (i.chain b) q (to_b h (λ n. length (node2 n).entries ≤ 58) here (smalls h)) (rw w.page (omega arith))) (λ there. smalls h);
  kinds = λ h. pick h (λ ns. Each (λ n. kind2 n ≡ 2) ns)
      (λ here. each_push (λ n. kind2 n ≡ 2) (i.chain b) q (to_b h (λ n. kind2 n ≡ 2) here (kinds2 h)) t.taken) (λ there. kinds2 h);
  buckets = buckets_depth names (λ c. (node c).depth) (λ c. (node2 c).depth) (λ c. entries_of node2 (chain2 c)) depth_named r.0;
  map = λ s l. r.1 s l ∙ ap (cond ((e.relation == s) && bytes_eq e.key l) (Some e.name)) (i.map s l);
}
  where
    b : ℕ
    b = names (hash e.key)

    chain2 : ℕ → List ℕ
    chain2 c = cond (c == b) (i.chain b ++ q ∷ []) (i.chain c)

    home2 : ℕ → ℕ
    home2 n = cond (n == q) b (i.home n)

    linked_z : Linked node b (front ++ z ∷ [])
    linked_z = subst (λ ns. Linked node b ns) parts (i.linked (hash e.key))

    home_z : i.home z ≡ b
    home_z = (each_remove (λ n. i.home n ≡ b) front z [] (subst (Each (λ n. i.home n ≡ b)) parts (i.at_home (hash e.key)))).0

    level_z : (node z).depth ≡ (node b).depth
    level_z = (each_remove (λ n. (node n).depth ≡ (node b).depth) front z [] (subst (Each (λ n. (node n).depth ≡ (node b).depth)) parts (i.level (hash e.key)))).0

    stays : (n : ℕ) → kind n ≡ 2 → ((node2 n).entries ≡ (node n).entries) × ((node2 n).depth ≡ (node n).depth)
    stays n two = go (cases_eq n z)
      where
        go : (n ≡ z) ⊎ (n ≡ z → ⊥) → ((node2 n).entries ≡ (node n).entries) × ((node2 n).depth ≡ (node n).depth)
        go (inl here) = rw here (ap (λ (x : Node). x.entries) w.last, ap (λ (x : Node). x.depth) w.last)
        go (inr there) = (ap (λ (x : Node). x.entries) (w.others n two there), ap (λ (x : Node). x.depth) (w.others n two there))

    off : (n : ℕ) → kind n ≡ 2 → n ≢ q
    off n is = not_free q kind kind2 t n is

    depth_named : (h : ℕ) → (node2 (names h)).depth ≡ (node (names h)).depth
    depth_named h = (stays (names h) (named_taken names g node kind m i h)).1

    lists : (h : ℕ) → entries_of node2 (i.chain (names h)) ≡ entries_of node (i.chain (names h))
    lists h = entries_same node node2 (i.chain (names h)) (each_map (λ n. kind n ≡ 2) (λ n. (node2 n).entries ≡ (node n).entries) (λ n is. (stays n is).0) (i.chain (names h)) (i.kinds h))

    pick : (h : ℕ) (P : List ℕ → Type 0) → (names h ≡ b → P (i.chain b ++ q ∷ [])) → (names h ≢ b → P (i.chain (names h))) → P (chain2 (names h))
    pick h P f k = go (cases_eq (names h) b)
      where
        go : (names h ≡ b) ⊎ (names h ≡ b → ⊥) → P (chain2 (names h))
        go (inl here) = subst P (sym (cond_at (names h) b (i.chain b ++ q ∷ []) (i.chain (names h)) here)) (f here)
        go (inr there) = subst P (sym (cond_off (names h) b (i.chain b ++ q ∷ []) (i.chain (names h)) there)) (k there)

    to_b : (h : ℕ) (P : ℕ → Type 0) → names h ≡ b → Each P (i.chain (names h)) → Each P (i.chain b)
    to_b h P here x = subst (λ c. Each P (i.chain c)) here x

    homes : (h : ℕ) → Each (λ n. home2 n ≡ names h) (i.chain (names h))
    homes h = each_map (λ n. (i.home n ≡ names h) × (kind n ≡ 2)) (λ n. home2 n ≡ names h) (λ n x. cond_off n q b (i.home n) (off n x.1) ∙ x.0) (i.chain (names h))
        (each_both (λ n. i.home n ≡ names h) (λ n. kind n ≡ 2) (i.chain (names h)) (i.at_home h) (i.kinds h))

    levels : (h : ℕ) → Each (λ n. (node2 n).depth ≡ (node2 (names h)).depth) (i.chain (names h))
    levels h = each_map (λ n. ((node n).depth ≡ (node (names h)).depth) × (kind n ≡ 2)) (λ n. (node2 n).depth ≡ (node2 (names h)).depth)
        (λ n x. (stays n x.1).1 ∙ x.0 ∙ sym (depth_named h)) (i.chain (names h))
        (each_both (λ n. (node n).depth ≡ (node (names h)).depth) (λ n. kind n ≡ 2) (i.chain (names h)) (i.level h) (i.kinds h))

    smalls : (h : ℕ) → Each (λ n. length (node2 n).entries ≤ 58) (i.chain (names h))
    smalls h = each_map (λ n. (length (node n).entries ≤ 58) × (kind n ≡ 2)) (λ n. length (node2 n).entries ≤ 58)
        (λ n x. rw ((stays n x.1).0) x.0) (i.chain (names h))
        (each_both (λ n. length (node n).entries ≤ 58) (λ n. kind n ≡ 2) (i.chain (names h)) (i.small h) (i.kinds h))

    kinds2 : (h : ℕ) → Each (λ n. kind2 n ≡ 2) (i.chain (names h))
    kinds2 h = each_map (λ n. kind n ≡ 2) (λ n. kind2 n ≡ 2) (λ n is. t.others n (off n is) ∙ is) (i.chain (names h)) (i.kinds h)

    next_stays : (n : ℕ) → kind n ≡ 2 → n ≢ z → (node2 n).next ≡ (node n).next
    next_stays n is not_last = ap (λ (x : Node). x.next) (w.others n is not_last)

    linked_off : (h : ℕ) → names h ≢ b → Linked node2 (names h) (i.chain (names h))
    linked_off h there = linked_stay node node2 (names h) (i.chain (names h))
        (each_map (λ n. (i.home n ≡ names h) × (kind n ≡ 2)) (λ n. (node2 n).next ≡ (node n).next)
        (λ n x. next_stays n x.1 (λ is_z. there (sym x.0 ∙ ap i.home is_z ∙ home_z))) (i.chain (names h))
        (each_both (λ n. i.home n ≡ names h) (λ n. kind n ≡ 2) (i.chain (names h)) (i.at_home h) (i.kinds h)))
        (i.linked h)

    linked_b : (h : ℕ) → names h ≡ b → Linked node2 (names h) (i.chain b ++ q ∷ [])
    linked_b h here = subst (λ ns. Linked node2 (names h) (ns ++ q ∷ [])) (sym parts)
        (longer node node2 (names h) z q front (subst (λ c. Linked node c (front ++ z ∷ [])) (sym here) linked_z)
        (each_map (λ n. (n ≢ z) × (kind n ≡ 2)) (λ n. (node2 n).next ≡ (node n).next) (λ n x. next_stays n x.1 x.0) front
        (each_both (λ n. n ≢ z) (λ n. kind n ≡ 2) front (before node b front z [] linked_z)
        (each_front (λ n. kind n ≡ 2) front (z ∷ []) (subst (Each (λ n. kind n ≡ 2)) parts (i.kinds (hash e.key))))))
        (ap (λ (x : Node). x.next) w.last) (ap (λ (x : Node). x.next) w.page) t.real)

    changed : Changed names b (λ c. entries_of node (i.chain c)) (λ c. entries_of node2 (chain2 c)) (entries_of node (i.chain b) ++ e ∷ [])
    changed = record {
      at = ap (entries_of node2) (cond_at b b (i.chain b ++ q ∷ []) (i.chain b) refl) ∙ entries_parts node2 (i.chain b) q []
          ∙ ap (λ (x : Node). entries_of node2 (i.chain b) ++ (x.entries ++ [])) w.page ∙ ap (λ x. x ++ e ∷ []) (lists (hash e.key));
      others = λ h there. ap (entries_of node2) (cond_off (names h) b (i.chain b ++ q ∷ []) (i.chain (names h)) there) ∙ lists h;
    }

    r : IsBuckets names (λ c. (node c).depth) (λ c. entries_of node2 (chain2 c))
        × ((s : ℕ) (l : List ℕ) → lookup names (λ c. entries_of node2 (chain2 c)) s l ≡ alter (lookup names (λ c. entries_of node (i.chain c))) e.relation e.key (Some e.name) s l)
    r = added names (λ c. (node c).depth) (λ c. entries_of node (i.chain c)) (λ c. entries_of node2 (chain2 c)) b (entries_of node (i.chain b)) e [] i.buckets refl
        (i.map e.relation e.key ∙ absent) (sym (append-nil (entries_of node (i.chain b)))) changed
