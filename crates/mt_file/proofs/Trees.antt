-- The tree of rooms.
use Rattle.std.proofs.Common.{◌≡◌, ◌≢◌, ℕ, zero, suc, ◌+◌, ◌-◌, ◌*◌, ◌/◌, ◌%◌, ◌<◌, ◌≤◌, max, List, length, get_or, set, replicate, refl, sym, ◌∙◌, ap, ap₂, arith, ⊎_elim}
use Rattle.std.proofs.lemmas.List.{get_or-set_same, get_or-set_other, get_or-replicate, get_or_past, length-replicate}
use Rattle.std.proofs.lemmas.Bool.{cases_eq, cases_lt}
use Rattle.mt_space.specs.Changes.{PageBytes}
use Rattle.mt_space.specs.Kinds.{kind}
use Rattle.mt_file.specs.Rooms.{fits_of, AreRooms, Takes, IsMax, IsTreeBut, IsKept, above, IsPassed, IsPassedTo, IsFirstLeaf, HasNone}

-- a change of a byte that is neither a node nor a child of it
pub stays_max : (old new : List ℕ) (i : ℕ) → get_or new i 0 ≡ get_or old i 0 → get_or new (2 * i) 0 ≡ get_or old (2 * i) 0 → get_or new (2 * i + 1) 0 ≡ get_or old (2 * i + 1) 0
    → IsMax old i → IsMax new i
stays_max old new i a b c is = a ∙ is ∙ sym (ap₂ max b c)

-- a leaf is set: its parent alone may be off
pub leaf_set : (tree : List ℕ) (leaf value : ℕ) → 4096 ≤ leaf → leaf < 8192 → ((i : ℕ) → 1 ≤ i → i < 4096 → IsMax tree i) → IsTreeBut (set tree leaf value) (leaf / 2)
leaf_set tree leaf value low high all = λ i from to ne. stays_max tree (set tree leaf value) i
    (get_or-set_other tree leaf i value 0 (omega arith))
    (get_or-set_other tree leaf (2 * i) value 0 (omega arith))
    (get_or-set_other tree leaf (2 * i + 1) value 0 (omega arith))
    (all i from to)

-- a node that is set to the larger of its children: its parent alone may be off
pub one_up : (tree : List ℕ) (node : ℕ) → length tree ≡ 8192 → 1 ≤ node → node < 4096 → IsTreeBut tree node
    → IsTreeBut (set tree node (max (get_or tree (2 * node) 0) (get_or tree (2 * node + 1) 0))) (node / 2)
one_up tree node size low high but = λ i from to ne. ⊎_elim
    (λ (e : i ≡ node).
    let best = max (get_or tree (2 * node) 0) (get_or tree (2 * node + 1) 0) in
    let here = get_or-set_same tree node best 0 (omega arith) in
    let left = get_or-set_other tree node (2 * node) best 0 (omega arith) in
    let right = get_or-set_other tree node (2 * node + 1) best 0 (omega arith) in
    let mine : IsMax (set tree node best) node = here ∙ sym (ap₂ max left right) in
    rw e mine)
    (λ (other : i ≢ node).
    let best = max (get_or tree (2 * node) 0) (get_or tree (2 * node + 1) 0) in
    stays_max tree (set tree node best) i
    (get_or-set_other tree node i best 0 other)
    (get_or-set_other tree node (2 * i) best 0 (omega arith))
    (get_or-set_other tree node (2 * i + 1) best 0 (omega arith))
    (but i from to other))
    (cases_eq i node)

-- ---- a walk through the tree

-- a leaf is no less than what is above it, and what is above it in one order with what is above others
pub above_least : (height i : ℕ) → above height i ≤ i
above_least zero i = omega arith
above_least (suc height) i = let low = above_least height i in omega arith

above_order : (height i j : ℕ) → i ≤ j → above height i ≤ above height j
above_order zero i j le = le
above_order (suc height) i j le = let low = above_order height i j le in omega arith

-- nothing above a leaf has less than it
above_most : (tree : List ℕ) (height i : ℕ) → ((k : ℕ) → 1 ≤ k → k < 4096 → IsMax tree k) → i < 8192 → 1 ≤ above height i → get_or tree i 0 ≤ get_or tree (above height i) 0
above_most tree zero i all within some = omega arith
above_most tree (suc height) i all within some =
    let node = above height i in
    let up = above_most tree height i all within (omega arith) in
    let low = above_least height i in
    let is = all (node / 2) (omega arith) (omega arith) in
    ⊎_elim
    (λ (left : node ≡ 2 * (node / 2)). let same = ap (λ (k : ℕ). get_or tree k 0) left in omega arith)
    (λ (ne : node ≢ 2 * (node / 2)).
    let right : node ≡ 2 * (node / 2) + 1 = omega arith in
    let same = ap (λ (k : ℕ). get_or tree k 0) right in omega arith)
    (cases_eq node (2 * (node / 2)))

-- what is above the last leaf is odd, since each bit of the last leaf is one
abbrev ones : ℕ → ℕ
ones zero = 0
ones (suc bits) = 2 * ones bits + 1

fewer_ones : (height bits : ℕ) → above height (ones bits) ≡ ones (bits - height)
fewer_ones zero bits = ap ones (omega arith)
fewer_ones (suc height) bits = ap (λ (k : ℕ). k / 2) (fewer_ones height bits) ∙ half (bits - height) ∙ ap ones (omega arith)
  where
    half : (n : ℕ) → ones n / 2 ≡ ones (n - 1)
    half zero = refl
    half (suc n) = let same : ones (suc n - 1) ≡ ones n = ap ones (omega arith) in omega arith

last_odd : (height : ℕ) → 1 ≤ above height 8191 → above height 8191 ≡ 2 * (above height 8191 / 2) + 1
last_odd height some = let is : above height 8191 ≡ ones (13 - height) = fewer_ones height 13 in odd (13 - height) (above height 8191) is some
  where
    odd : (n last : ℕ) → last ≡ ones n → 1 ≤ last → last ≡ 2 * (last / 2) + 1
    odd zero last is some = absurd (omega arith)
    odd (suc n) last is some = omega arith

module _ (tree : List ℕ) (from least : ℕ) (all : (i : ℕ) → 1 ≤ i → i < 4096 → IsMax tree i) (leaf : (4096 ≤ from) × (from < 8192)) where
  abbrev pub passed_begin : IsPassedTo tree from least from
  passed_begin = record {
    height = 0;
    low = let low = leaf.0 in omega arith;
    high = let high = leaf.1 in omega arith;
    before = λ i low within lt. absurd (omega arith);
  }

  pub less_below : (height node i : ℕ) → 1 ≤ node → get_or tree node 0 < least → i < 8192 → above height i ≡ node → get_or tree i 0 < least
  less_below height node i some less within is =
      let most = above_most tree height i all within (omega arith) in
      let same = ap (λ (k : ℕ). get_or tree k 0) is in omega arith

  abbrev pub passed_next : (node : ℕ) (p : IsPassedTo tree from least node) → get_or tree node 0 < least → node < above p.height 8191 → IsPassedTo tree from least (node + 1)
  passed_next node p less lt = let low = p.low in record {
    height = p.height;
    low = omega arith;
    high = omega arith;
    before = λ i behind within under. ⊎_elim
        (λ (is : above p.height i ≡ node). less_below p.height node i (omega arith) less within is)
        (λ (other : above p.height i ≢ node). p.before i behind within (omega arith))
        (cases_eq (above p.height i) node);
  }

  abbrev pub passed_up : (node : ℕ) → IsPassedTo tree from least node → node % 2 ≡ 0 → IsPassedTo tree from least (node / 2)
  passed_up node p even = let low = p.low in let high = p.high in record {
    height = suc p.height;
    low = omega arith;
    high = omega arith;
    before = λ i behind within under. p.before i behind within (omega arith);
  }

  pub passed_down : (node : ℕ) → IsPassedTo tree from least node → node < 4096 → IsPassedTo tree from least (2 * node)
  passed_down node p inner = go p.height p.low p.high p.before
    where
      go : (height : ℕ) → above height (from - 1) < node → node ≤ above height 8191 → IsPassed tree from least height node → IsPassedTo tree from least (2 * node)
      go zero low high before = let leaves = leaf.0 in absurd (omega arith)
      go (suc height) low high before = record {
        height = height;
        low = omega arith;
        high = omega arith;
        before = λ i behind within under. before i behind within (omega arith);
      }

  pub passed_right : (node : ℕ) (p : IsPassedTo tree from least (2 * node)) → get_or tree (2 * node) 0 < least → IsPassedTo tree from least (2 * node + 1)
  passed_right node p less = let high = p.high in let low = p.low in let odd = last_odd p.height (omega arith) in passed_next (2 * node) p less (omega arith)

  pub none_passed : (node : ℕ) (p : IsPassedTo tree from least node) → get_or tree node 0 < least → node ≡ above p.height 8191 → HasNone tree from least
  none_passed node p less last i behind within =
      let low = p.low in
      let order = above_order p.height i 8191 (omega arith) in
      ⊎_elim
      (λ (is : above p.height i ≡ node). less_below p.height node i (omega arith) less within is)
      (λ (other : above p.height i ≢ node). p.before i behind within (omega arith))
      (cases_eq (above p.height i) node)

  pub first_leaf : (node : ℕ) → IsPassedTo tree from least node → 4096 ≤ node → least ≤ get_or tree node 0 → IsFirstLeaf tree from least node
  first_leaf node p high enough = go p.height p.low p.high p.before
    where
      go : (height : ℕ) → above height (from - 1) < node → node ≤ above height 8191 → IsPassed tree from least height node → IsFirstLeaf tree from least node
      go zero low high before = record {
        behind = omega arith;
        there = omega arith;
        enough = enough;
        first = λ i behind lt. before i behind (omega arith) lt;
      }
      go (suc height) low up before = let least = above_least height 8191 in absurd (omega arith)

-- at the beginning nothing is shown
same_all : {X : Type 0} (n i : ℕ) (x : X) → get_or (replicate n x) i x ≡ x
same_all n i x = ⊎_elim
    (λ (lt : i < n). get_or-replicate n i x x lt)
    (λ (le : n ≤ i). get_or_past (replicate n x) i x (let long = length-replicate n x in omega arith))
    (cases_lt i n)

none_of : (fits tree : List ℕ) (n : ℕ) → length fits ≡ n → length tree ≡ 8192 → n ≤ 4000
    → ((i : ℕ) → get_or fits i 0 ≡ 0) → ((i : ℕ) → get_or tree i 0 ≡ 0) → IsKept fits tree
none_of fits tree n a c few zeros nodes = record {
  few = omega arith;
  size = c;
  nodes = λ i from to. nodes i ∙ sym (ap₂ max (nodes (2 * i)) (nodes (2 * i + 1)));
  leaves = λ p lt. nodes (4096 + p) ∙ sym (zeros p);
}

pub none_yet : (n : ℕ) → n ≤ 4000 → IsKept (replicate n 0) (replicate 8192 0)
none_yet n few = none_of (replicate n 0) (replicate 8192 0) n (length-replicate {A = ℕ} n 0) (length-replicate {A = ℕ} 8192 0) few
    (λ i. same_all n i 0) (λ i. same_all 8192 i 0)

-- ---- leaves and pages

pub leaf_takes : (fits tree : List ℕ) (bytes leaf p : ℕ) → IsKept fits tree → 0 < bytes → 4096 ≤ leaf → leaf < 8192 → p ≡ leaf - 4096 → bytes ≤ get_or tree leaf 0 → Takes fits bytes p
leaf_takes fits tree bytes leaf p kept some low high is enough =
    let mine = kept.leaves p (omega arith) in
    let same : get_or tree leaf 0 ≡ get_or tree (4096 + p) 0 = ap (λ (k : ℕ). get_or tree k 0) (omega arith) in
    (⊎_elim (λ (lt : p < length fits). lt) (λ (le : length fits ≤ p). let past = get_or_past fits p 0 le in absurd (omega arith)) (cases_lt p (length fits)), omega arith)

-- where a leaf has less, its page does not take so much
pub leaf_less : (fits tree : List ℕ) (bytes p : ℕ) → IsKept fits tree → (p < 4096 → get_or tree (4096 + p) 0 < bytes) → Takes fits bytes p → ⊥
leaf_less fits tree bytes p kept less takes =
    let within = takes.0 in
    let enough = takes.1 in
    let few = kept.few in
    let mine = kept.leaves p (omega arith) in
    let small = less (omega arith) in
    omega arith

-- ---- the index beside the pages

pub no_rooms : (n : ℕ) (all : PageBytes) → ((p : ℕ) → kind all p ≢ 3) → AreRooms (replicate n 0) all
no_rooms n all none = record {
  records = λ p lt is. absurd (none p is);
  others = λ p lt ne. same_all n p 0;
}

pub room_records : (fits : List ℕ) (pages : PageBytes) (bytes p : ℕ) → AreRooms fits pages → 0 < bytes → Takes fits bytes p → (kind pages p ≡ 3) × (bytes ≤ fits_of (pages p))
room_records fits pages bytes p are some takes =
    let enough = takes.1 in
    ⊎_elim
    (λ (is : kind pages p ≡ 3). let same = are.records p takes.0 is in (is, omega arith))
    (λ (ne : kind pages p ≢ 3). let zero = are.others p takes.0 ne in absurd (omega arith))
    (cases_eq (kind pages p) 3)
