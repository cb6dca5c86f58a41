-- Pages that pass every look are an index.
use Rattle.std.proofs.Common.{◌≡◌, ℕ, suc, zero, ◌<◌, ◌≤◌, ◌%◌, ◌^◌, ◌==◌, Bool, cond, List, [], ◌∷◌, ◌++◌, length, get_or, None, refl, ap, sym, ◌∙◌, subst, arith}
use Rattle.std.proofs.lemmas.Nat.{mod_below, pow_pos}
use Rattle.std.proofs.lemmas.Bool.{eq-eqb, ne_eqb}
use Rattle.mt_bucket.specs.Entries.{look}
use Rattle.mt_bucket.specs.Hash.{hash}
use Rattle.mt_bucket.specs.Page.{depth_of, next_of, count_of, entries}
use Rattle.mt_space.specs.Changes.{PageBytes}
use Rattle.mt_space.specs.Kinds.{kind}
use Rattle.mt_index.specs.Maps.{Each, Once, Agree}
use Rattle.mt_index.specs.Buckets.{lookup}
use Rattle.mt_index.specs.Index.{Node, State, named, Linked, IsTree, entries_of}
use Rattle.mt_index.specs.Pages.{depth_in, pointer_at, node_of, state_of, IsDirectory, IsOn}
use Rattle.mt_index.specs.Checks.{IsSound, AreKinds, AreBuckets, ArePointers, IsMember, IsMarked, AreMarked, IsSettled, entry_at}
use Rattle.mt_index.proofs.Lists.{each_map}
use Rattle.mt_index.proofs.Bits.{high_low, agree_from_mod, mod_from_agree}
use Rattle.mt_index.proofs.Chains.{entries_parts}
use Rattle.mt_index.proofs.Pigeons.{short, chain_distinct}
use Rattle.mt_index.proofs.Pointers.{named_is, pointers_length}
use Rattle.mt_index.proofs.Passing.{entries_length}
use Rattle.mt_index.proofs.Listing.{each_listed, once_listed, each_append, lacks_both}
use Rattle.mt_index.proofs.Sounds.{named_pointer, pointer_real, page_entries}

abbrev nodes : PageBytes → ℕ → Node
nodes pages n = node_of (pages n)

-- at most so many pages from p on
abbrev chain_from : (ℕ → Node) → ℕ → ℕ → List ℕ
chain_from node zero p = []
chain_from node (suc n) p = cond (p == 0) [] (p ∷ chain_from node n (node p).next)

chain_is : (node : ℕ → Node) (n p : ℕ) (ns : List ℕ) → Linked node p ns → length ns ≤ n → chain_from node n p ≡ ns
chain_is node zero p [] a few = refl
chain_is node zero p (x ∷ ns) a few = absurd (omega (arith, few))
chain_is node (suc n) p [] a few = ap (λ (b : Bool). cond b [] (p ∷ chain_from node n (node p).next)) (eq-eqb p 0 a)
chain_is node (suc n) p (x ∷ ns) a few =
    ap (λ (b : Bool). cond b [] (p ∷ chain_from node n (node p).next)) (ne_eqb p 0 (λ e. a.1 (sym a.0 ∙ e)))
    ∙ ap (λ (q : ℕ). q ∷ chain_from node n (node q).next) a.0
    ∙ ap (λ l. x ∷ l) (chain_is node n (node x).next ns a.2 (omega (arith, few)))

-- the low bits of the low bits
mod_mod : (h g l : ℕ) → l ≤ g → h % 2 ^ g % 2 ^ l ≡ h % 2 ^ l
mod_mod h g l le = mod_from_agree l (h % 2 ^ g) h (low_agree l le)
  where
    low_agree : (l : ℕ) → l ≤ g → Agree l (h % 2 ^ g) h
    low_agree zero le = tt
    low_agree (suc l) le = (low_agree l (omega (arith, le)), high_low h g l (omega (arith, le)))

pub made_sound : (relations total : ℕ) (pages : PageBytes) (homes : List ℕ) → AreKinds total pages → IsDirectory (pages 1) → AreBuckets relations total pages → ArePointers pages → AreMarked pages homes (2 ^ depth_in (pages 1))
    → ((p : ℕ) → kind pages p ≡ 2 → IsSettled pages homes p) → IsSound relations total pages
made_sound relations total pages homes kinds directory buckets pointers marked settled = record {
  formed = record {
    directory = directory;
    buckets = buckets;
    chained = λ p two.
        let b = marked.back p (settled p two).home in
        (b.0, subst (λ (q : ℕ). IsOn pages q p) (sym (is_pointer b.0 b.1)) b.3);
  };
  meaning = lookup (named s) (λ b. entries_of s.node (chain b));
  map = record {
    index = record { size = pointers_length (pages 1) 8 (2 ^ g); tree = tree };
    space_fixed = kinds.space_fixed;
    directory_fixed = kinds.directory_fixed;
    within = kinds.within;
    few = kinds.few;
  };
}
  where
    s : State
    s = state_of pages

    g : ℕ
    g = depth_in (pages 1)

    low : ℕ → ℕ
    low h = h % 2 ^ g

    below : (h : ℕ) → low h < 2 ^ g
    below h = mod_below h (2 ^ g) (pow_pos g)

    is : (h : ℕ) → named s h ≡ pointer_at (pages 1) (low h)
    is h = named_is pages h

    is_pointer : (i : ℕ) → i < 2 ^ g → named s i ≡ pointer_at (pages 1) i
    is_pointer i lt = named_pointer pages i lt

    chain : ℕ → List ℕ
    chain b = chain_from (nodes pages) total b

    mark : (h : ℕ) → IsMarked pages homes (named s h)
    mark h = subst (λ (b : ℕ). IsMarked pages homes b) (sym (is h)) (marked.each (low h) (below h))

    members_within : (b : ℕ) (ns : List ℕ) → Each (IsMember pages homes b) ns → Each (λ n. n < total) ns
    members_within b ns all = each_map (IsMember pages homes b) (λ n. n < total) (λ n m. kinds.within n (λ z. let w : kind pages n ≡ 0 = z in let two = m.kind in omega (arith, two, w))) ns all

    chain_same : (h : ℕ) → (mark h).chain ≡ chain (named s h)
    chain_same h =
        let m = mark h in
        let few = short total m.chain (members_within (named s h) m.chain m.each) (chain_distinct (nodes pages) (named s h) m.chain m.linked) in
        sym (chain_is (nodes pages) total (named s h) m.chain m.linked few)

    linked : (h : ℕ) → Linked (nodes pages) (named s h) (chain (named s h))
    linked h = subst (Linked (nodes pages) (named s h)) (chain_same h) (mark h).linked

    members : (h : ℕ) → Each (IsMember pages homes (named s h)) (chain (named s h))
    members h = subst (Each (IsMember pages homes (named s h))) (chain_same h) (mark h).each

    same : (h k : ℕ) → named s h ≡ named s k → Agree (depth_of (pages (named s h))) h k
    same h k e =
        let p = pointers (low h) (below h) in
        let l = depth_of (pages (pointer_at (pages 1) (low h))) in
        let r : low k % 2 ^ l ≡ low h % 2 ^ l = (p.pattern (low k) (below k)).0 (sym (is k) ∙ sym e ∙ is h) in
        subst (λ (b : ℕ). Agree (depth_of (pages b)) h k) (sym (is h)) (agree_from_mod l h k (sym (mod_mod h g l p.shallow) ∙ sym r ∙ mod_mod k g l p.shallow))

    apart : (h k : ℕ) → Agree (depth_of (pages (named s h))) h k → named s h ≡ named s k
    apart h k a =
        let p = pointers (low h) (below h) in
        let l = depth_of (pages (pointer_at (pages 1) (low h))) in
        let agree : Agree l h k = subst (λ (b : ℕ). Agree (depth_of (pages b)) h k) (is h) a in
        let r : low k % 2 ^ l ≡ low h % 2 ^ l = mod_mod k g l p.shallow ∙ sym (mod_from_agree l h k agree) ∙ sym (mod_mod h g l p.shallow) in
        is h ∙ sym ((p.pattern (low k) (below k)).1 r) ∙ sym (is k)

    own_page : (b p : ℕ) → IsMember pages homes b p → Each (λ e. named s (hash e.key) ≡ b) (entries (pages p))
    own_page b p m = subst (Each (λ e. named s (hash e.key) ≡ b)) (sym (page_entries (pages p)))
        (each_listed (λ e. named s (hash e.key) ≡ b) (λ i. entry_at (pages p) i) (count_of (pages p)) (λ i lt. is (hash (entry_at (pages p) i).key) ∙ ((settled p m.kind).each i lt).own ∙ m.home))

    own : (b : ℕ) (ns : List ℕ) → Each (IsMember pages homes b) ns → Each (λ e. named s (hash e.key) ≡ b) (entries_of (nodes pages) ns)
    own b [] all = tt
    own b (n ∷ ns) all = subst (Each (λ e. named s (hash e.key) ≡ b)) (sym (entries_parts (nodes pages) [] n ns)) (each_append (λ e. named s (hash e.key) ≡ b) (entries (pages n)) (entries_of (nodes pages) ns) (own_page b n all.0) (own b ns all.1))

    lacking : (r : ℕ) (k : List ℕ) (ns : List ℕ) → Each (λ n. look r k (entries (pages n)) ≡ None) ns → look r k (entries_of (nodes pages) ns) ≡ None
    lacking r k [] all = refl
    lacking r k (n ∷ ns) all = subst (λ es. look r k es ≡ None) (sym (entries_parts (nodes pages) [] n ns)) (lacks_both r k (entries (pages n)) (entries_of (nodes pages) ns) all.0 (lacking r k ns all.1))

    once : (b q : ℕ) (ns : List ℕ) → Linked (nodes pages) q ns → Each (IsMember pages homes b) ns → Once (entries_of (nodes pages) ns)
    once b q [] a all = tt
    once b q (n ∷ ns) a all =
        let rest = entries_of (nodes pages) ns in
        let page = settled n all.0.kind in
        subst Once (sym (entries_parts (nodes pages) [] n ns ∙ ap (λ es. es ++ rest) (page_entries (pages n))))
        (once_listed (λ i. entry_at (pages n) i) (count_of (pages n)) rest
        (λ i j lt less. (page.each i lt).first.before j less)
        (λ i lt. lacking (entry_at (pages n) i).relation (entry_at (pages n) i).key ns ((page.each i lt).behind ns a.2))
        (once b (next_of (pages n)) ns a.2 all.1))

    tree : IsTree (named s) s.g s.node s.kind (lookup (named s) (λ b. entries_of s.node (chain b)))
    tree = record {
      chain = chain;
      home = λ n. get_or homes n 0;
      real = λ h none. pointer_real total pages kinds (low h) (pointers (low h) (below h)) (sym (is h) ∙ none);
      shallow = λ h. subst (λ (b : ℕ). depth_of (pages b) ≤ g) (sym (is h)) (pointers (low h) (below h)).shallow;
      linked = linked;
      at_home = λ h. each_map (IsMember pages homes (named s h)) (λ n. get_or homes n 0 ≡ named s h) (λ n m. m.home) (chain (named s h)) (members h);
      level = λ h. each_map (IsMember pages homes (named s h)) (λ n. depth_of (pages n) ≡ depth_of (pages (named s h))) (λ n m. m.level) (chain (named s h)) (members h);
      small = λ h. each_map (IsMember pages homes (named s h)) (λ n. length (entries (pages n)) ≤ 58) (λ n m. small n) (chain (named s h)) (members h);
      kinds = λ h. each_map (IsMember pages homes (named s h)) (λ n. kind pages n ≡ 2) (λ n m. m.kind) (chain (named s h)) (members h);
      buckets = record {
        same = same;
        apart = apart;
        own = λ h. own (named s h) (chain (named s h)) (members h);
        once = λ h. once (named s h) (named s h) (chain (named s h)) (linked h) (members h);
      };
      map = λ r k. refl;
    }
      where
        small : (n : ℕ) → length (entries (pages n)) ≤ 58
        small n = omega (arith, entries_length (pages n) 8 (count_of (pages n)))
