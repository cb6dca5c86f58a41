-- What pages are that are an index.
use Rattle.std.proofs.Common.{◌≡◌, ◌≢◌, ℕ, ◌<◌, ◌≤◌, ◌%◌, ◌^◌, List, [], ◌∷◌, ◌++◌, length, get_or, None, ap, sym, ◌∙◌, subst, arith, length-append, ◌⊎◌, inl, inr}
use Rattle.std.proofs.lemmas.Nat.{mod_low, mod_below, pow_pos}
use Rattle.mt_bucket.specs.Entries.{look}
use Rattle.mt_bucket.specs.Hash.{hash}
use Rattle.mt_bucket.specs.Page.{depth_of, next_of, count_of, entries}
use Rattle.mt_space.specs.Changes.{PageBytes}
use Rattle.mt_space.specs.Kinds.{kind}
use Rattle.mt_index.specs.Maps.{Each, Once}
use Rattle.mt_index.specs.Index.{Node, State, named, Linked, IsTree, entries_of}
use Rattle.mt_index.specs.Steps.{Walk}
use Rattle.mt_index.specs.Pages.{depth_in, pointer_at, node_of, state_of, IsOn}
use Rattle.mt_index.specs.Checks.{IsSound, AreKinds, IsPointer, IsMember, IsMarked, AreMarked, AreNexts, IsStuck, IsSettled, entry_at}
use Rattle.mt_index.proofs.Lists.{each_map, each_remove, at_self}
use Rattle.mt_index.proofs.Chains.{linked_same, linked_at, before, entries_parts}
use Rattle.mt_index.proofs.Pigeons.{short, chain_distinct}
use Rattle.mt_index.proofs.Keeping.{walk_splits}
use Rattle.mt_index.proofs.Looking.{walk_more}
use Rattle.mt_index.proofs.Pointers.{named_is, get_pointer}
use Rattle.mt_index.proofs.Doubling.{just_its_pointers}
use Rattle.mt_index.proofs.Listing.{listed, entries_listed, listed_each, listed_behind, listed_before, once_behind, each_behind, each_front, lacks_front, lacks_behind}

abbrev nodes : PageBytes → ℕ → Node
nodes pages n = node_of (pages n)

-- a chain holds its first page
pub first_each : (node : ℕ → Node) (P : ℕ → Type 0) (q : ℕ) (ns : List ℕ) → Linked node q ns → q ≢ 0 → Each P ns → P q
first_each node P q [] a real all = absurd (real a)
first_each node P q (n ∷ ns) a real all = subst P (sym a.0) all.0

-- what holds of a chain holds of a page that a walk comes to
pub met : (node : ℕ → Node) (P : ℕ → Type 0) (q : ℕ) (front : List ℕ) (p : ℕ) (ns : List ℕ) → Walk node q front p → p ≢ 0 → Linked node q ns → Each P ns → P p
met node P q front p ns w real a all = let c = walk_splits node q front p ns w real a in (each_remove P front p c.0 (subst (Each P) c.1 all)).0

pub low_is : (i g : ℕ) → i < 2 ^ g → i % 2 ^ g ≡ i
low_is i g lt = ap (λ (y : ℕ). y % 2 ^ g) (omega arith) ∙ mod_low 0 g i lt

pub named_pointer : (pages : PageBytes) (i : ℕ) → i < 2 ^ depth_in (pages 1) → named (state_of pages) i ≡ pointer_at (pages 1) i
named_pointer pages i lt = named_is pages i ∙ ap (λ (k : ℕ). pointer_at (pages 1) k) (low_is i (depth_in (pages 1)) lt)

pub sound_pointer : (relations total : ℕ) (pages : PageBytes) → IsSound relations total pages → (i : ℕ) → i < 2 ^ depth_in (pages 1) → IsPointer pages i
sound_pointer relations total pages x i lt = record {
  bucket = subst (λ (b : ℕ). kind pages b ≡ 2) is (first_each (nodes pages) (λ n. kind pages n ≡ 2) (named s i) (tree.chain (named s i)) (tree.linked i) (tree.real i) (tree.kinds i));
  shallow = subst (λ (b : ℕ). depth_of (pages b) ≤ depth_in (pages 1)) is (tree.shallow i);
  pattern = λ j lj. (
    λ same. sym ((both j lj).0 (sym same)),
    λ same. sym ((both j lj).1 (sym same)),
  );
}
  where
    s : State
    s = state_of pages

    tree : IsTree (named s) s.g s.node s.kind x.meaning
    tree = x.map.index.tree

    is : named s i ≡ pointer_at (pages 1) i
    is = named_pointer pages i lt

    at : (j : ℕ) → j < 2 ^ depth_in (pages 1) → get_or s.pointers j 0 ≡ pointer_at (pages 1) j
    at j lj = get_pointer (pages 1) 8 (2 ^ depth_in (pages 1)) j lj

    both : (j : ℕ) → j < 2 ^ depth_in (pages 1)
        → ((pointer_at (pages 1) i ≡ pointer_at (pages 1) j) → (i % 2 ^ depth_of (pages (pointer_at (pages 1) i)) ≡ j % 2 ^ depth_of (pages (pointer_at (pages 1) i))))
        × ((i % 2 ^ depth_of (pages (pointer_at (pages 1) i)) ≡ j % 2 ^ depth_of (pages (pointer_at (pages 1) i))) → (pointer_at (pages 1) i ≡ pointer_at (pages 1) j))
    both j lj =
        let law = just_its_pointers s x.meaning x.map.index i j lt lj in
        let level = ap (λ (b : ℕ). depth_of (pages b)) (at i lt) in (
          λ same. let r = law.0 (at i lt ∙ same ∙ sym (at j lj)) in subst (λ (l : ℕ). i % 2 ^ l ≡ j % 2 ^ l) level r,
          λ same. sym (at i lt) ∙ law.1 (subst (λ (l : ℕ). i % 2 ^ l ≡ j % 2 ^ l) (sym level) same) ∙ at j lj,
        )

-- a bucket's first page is not page 0
pub pointer_real : (total : ℕ) (pages : PageBytes) → AreKinds total pages → (i : ℕ) → IsPointer pages i → pointer_at (pages 1) i ≢ 0
pointer_real total pages kinds i p none = absurd (let is : 1 ≡ 2 = sym kinds.space_fixed ∙ ap (λ (n : ℕ). kind pages n) (sym none) ∙ p.bucket in omega (arith, is))

-- a bucket page of an index names a bucket page as the next one, or none
pub sound_nexts : (relations total : ℕ) (pages : PageBytes) → IsSound relations total pages → AreNexts pages
sound_nexts relations total pages x p bucket real =
    let on = x.formed.chained p bucket in
    let b = named (state_of pages) on.0 in
    met (nodes pages) (λ n. kind pages n ≡ 2) b (on.1.front ++ p ∷ []) (next_of (pages p)) (x.map.index.tree.chain b) (walk_more (nodes pages) b on.1.front p on.1.walk on.1.real) real (x.map.index.tree.linked on.0) (x.map.index.tree.kinds on.0)

-- where a walk is stuck, the pages are no index
pub sound_walks : (relations total : ℕ) (pages : PageBytes) → IsSound relations total pages → (homes : List ℕ) (done i p : ℕ) → AreMarked pages homes done → done ≤ 2 ^ depth_in (pages 1) → i < 2 ^ depth_in (pages 1)
    → get_or homes (pointer_at (pages 1) i) 0 ≢ pointer_at (pages 1) i → IsStuck total pages homes (pointer_at (pages 1) i) p → ⊥
sound_walks relations total pages x homes done i p marked few lt unmarked stuck = go stuck.cause
  where
    s : State
    s = state_of pages

    tree : IsTree (named s) s.g s.node s.kind x.meaning
    tree = x.map.index.tree

    b : ℕ
    b = pointer_at (pages 1) i

    is : named s i ≡ b
    is = named_pointer pages i lt

    chain : List ℕ
    chain = tree.chain (named s i)

    linked : Linked (nodes pages) b chain
    linked = subst (λ (q : ℕ). Linked (nodes pages) q chain) is (tree.linked i)

    at_home : tree.home p ≡ b
    at_home = met (nodes pages) (λ n. tree.home n ≡ named s i) b stuck.front p chain stuck.walk stuck.real linked (tree.at_home i) ∙ is

    other_home : (j : ℕ) → j < done → IsOn pages (pointer_at (pages 1) j) p → pointer_at (pages 1) j ≡ b
    other_home j lj on =
        let low : j < 2 ^ depth_in (pages 1) = omega (arith, lj, few) in
        let names = named_pointer pages j low in
        let home = met (nodes pages) (λ n. tree.home n ≡ named s j) (pointer_at (pages 1) j) on.front p (tree.chain (named s j)) on.walk on.real (subst (λ (q : ℕ). Linked (nodes pages) q (tree.chain (named s j))) names (tree.linked j)) (tree.at_home j) in
        sym names ∙ sym home ∙ at_home

    real : (j : ℕ) → j < 2 ^ depth_in (pages 1) → pointer_at (pages 1) j ≢ 0
    real j lj none = tree.real j (named_pointer pages j lj ∙ none)

    first_mark : (j : ℕ) → j < done → pointer_at (pages 1) j ≡ b → ⊥
    first_mark j lj same =
        let m = marked.each j lj in
        let member = first_each (nodes pages) (IsMember pages homes (pointer_at (pages 1) j)) (pointer_at (pages 1) j) m.chain m.linked (real j (omega (arith, lj, few))) m.each in
        unmarked (ap (λ (q : ℕ). get_or homes q 0) (sym same) ∙ member.home ∙ same)

    long : total ≤ length stuck.front → ⊥
    long all =
        let c = walk_splits (nodes pages) b stuck.front p chain stuck.walk stuck.real linked in
        let fits = short total chain (each_map (λ n. kind pages n ≡ 2) (λ n. n < total) (λ n two. x.map.within n (λ z. let w : kind pages n ≡ 0 = z in omega (arith, two, w))) chain (tree.kinds i)) (chain_distinct (nodes pages) b chain linked) in
        let parts : length chain ≡ length (stuck.front ++ p ∷ c.0) = ap length c.1 in
        omega (arith, fits, parts, length-append stuck.front (p ∷ c.0), all)

    go : (depth_of (pages p) ≢ depth_of (pages b)) ⊎ ((get_or homes p 0 ≢ 0) ⊎ ((Each (λ n. n ≢ p) stuck.front → ⊥) ⊎ (total ≤ length stuck.front))) → ⊥
    go (inl level) = level (met (nodes pages) (λ n. depth_of (pages n) ≡ depth_of (pages (named s i))) b stuck.front p chain stuck.walk stuck.real linked (tree.level i) ∙ ap (λ (q : ℕ). depth_of (pages q)) is)
    go (inr (inl some)) = let r = marked.back p some in first_mark r.0 r.1 (other_home r.0 r.1 r.3)
    go (inr (inr (inl twice))) =
        let c = walk_splits (nodes pages) b stuck.front p chain stuck.walk stuck.real linked in
        twice (before (nodes pages) b stuck.front p c.0 (subst (Linked (nodes pages) b) c.1 linked))
    go (inr (inr (inr all))) = long all

-- the entries of a bucket page
pub page_entries : (page : List ℕ) → entries page ≡ listed (λ i. entry_at page i) (count_of page)
page_entries page = entries_listed page 8 (count_of page)

-- a page of an index is settled
pub sound_settles : (relations total : ℕ) (pages : PageBytes) → IsSound relations total pages → (homes : List ℕ) → AreMarked pages homes (2 ^ depth_in (pages 1)) → (p : ℕ) → kind pages p ≡ 2 → IsSettled pages homes p
sound_settles relations total pages x homes marked p bucket = record {
  home = λ none. tree.real h (is ∙ sym home ∙ none);
  each = λ i lt. record {
    own = sym (named_is pages (hash (entry_at (pages p) i).key)) ∙ own i lt ∙ is ∙ sym home;
    first = record {
      within = lt;
      here = at_self (entry_at (pages p) i);
      before = λ j less. listed_before (λ k. entry_at (pages p) k) (count_of (pages p)) i j (entries_of (nodes pages) back) lt less once;
    };
    behind = λ ns a. subst (Each (λ n. look (entry_at (pages p) i).relation (entry_at (pages p) i).key (entries (pages n)) ≡ None)) (linked_same (nodes pages) (next_of (pages p)) back ns rest a)
        (lacking (entry_at (pages p) i).relation (entry_at (pages p) i).key back (listed_behind (λ k. entry_at (pages p) k) (count_of (pages p)) i (entries_of (nodes pages) back) lt once));
  };
}
  where
    s : State
    s = state_of pages

    tree : IsTree (named s) s.g s.node s.kind x.meaning
    tree = x.map.index.tree

    h : ℕ
    h = (x.formed.chained p bucket).0

    on : IsOn pages (named s h) p
    on = (x.formed.chained p bucket).1

    g : ℕ
    g = depth_in (pages 1)

    low : h % 2 ^ g < 2 ^ g
    low = mod_below h (2 ^ g) (pow_pos g)

    is : named s h ≡ pointer_at (pages 1) (h % 2 ^ g)
    is = named_is pages h

    mark : IsMarked pages homes (pointer_at (pages 1) (h % 2 ^ g))
    mark = marked.each (h % 2 ^ g) low

    home : get_or homes p 0 ≡ pointer_at (pages 1) (h % 2 ^ g)
    home = (met (nodes pages) (IsMember pages homes (pointer_at (pages 1) (h % 2 ^ g))) (pointer_at (pages 1) (h % 2 ^ g)) on.front p mark.chain
        (subst (λ (q : ℕ). Walk (nodes pages) q on.front p) is on.walk) on.real mark.linked mark.each).home

    parts : (back : List ℕ) × (tree.chain (named s h) ≡ on.front ++ p ∷ back)
    parts = walk_splits (nodes pages) (named s h) on.front p (tree.chain (named s h)) on.walk on.real (tree.linked h)

    back : List ℕ
    back = parts.0

    rest : Linked (nodes pages) (next_of (pages p)) back
    rest = (linked_at (nodes pages) (named s h) on.front p back (subst (Linked (nodes pages) (named s h)) parts.1 (tree.linked h))).2

    all : entries_of (nodes pages) (tree.chain (named s h)) ≡ entries_of (nodes pages) on.front ++ (listed (λ k. entry_at (pages p) k) (count_of (pages p)) ++ entries_of (nodes pages) back)
    all = ap (entries_of (nodes pages)) parts.1 ∙ entries_parts (nodes pages) on.front p back ∙ ap (λ es. entries_of (nodes pages) on.front ++ (es ++ entries_of (nodes pages) back)) (page_entries (pages p))

    once : Once (listed (λ k. entry_at (pages p) k) (count_of (pages p)) ++ entries_of (nodes pages) back)
    once = once_behind (entries_of (nodes pages) on.front) (listed (λ k. entry_at (pages p) k) (count_of (pages p)) ++ entries_of (nodes pages) back) (subst Once all (tree.buckets.once h))

    own : (i : ℕ) → i < count_of (pages p) → named s (hash (entry_at (pages p) i).key) ≡ named s h
    own i lt = listed_each (λ e. named s (hash e.key) ≡ named s h) (λ k. entry_at (pages p) k) (count_of (pages p)) i lt
        (each_front (λ e. named s (hash e.key) ≡ named s h) (listed (λ k. entry_at (pages p) k) (count_of (pages p))) (entries_of (nodes pages) back)
        (each_behind (λ e. named s (hash e.key) ≡ named s h) (entries_of (nodes pages) on.front) (listed (λ k. entry_at (pages p) k) (count_of (pages p)) ++ entries_of (nodes pages) back)
        (subst (Each (λ e. named s (hash e.key) ≡ named s h)) all (tree.buckets.own h))))

    lacking : (r : ℕ) (k : List ℕ) (ns : List ℕ) → look r k (entries_of (nodes pages) ns) ≡ None → Each (λ n. look r k (entries (pages n)) ≡ None) ns
    lacking r k [] none = tt
    lacking r k (n ∷ ns) none =
        let parts2 = subst (λ es. look r k es ≡ None) (entries_parts (nodes pages) [] n ns) none in
        (lacks_front r k (entries (pages n)) (entries_of (nodes pages) ns) parts2, lacking r k ns (lacks_behind r k (entries (pages n)) (entries_of (nodes pages) ns) parts2))
