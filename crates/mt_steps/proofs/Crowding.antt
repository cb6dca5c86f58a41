-- A page that the index takes: each page of the key's bucket is full.
use Rattle.std.proofs.Common.{◌≡◌, ◌≢◌, inl, inr, ℕ, List, [], ◌∷◌, ◌++◌, Bool, length, ap, sym, ◌∙◌, subst}
use Rattle.mt_base.specs.declared.modes.Mode.{Mode}
use Rattle.mt_bucket.specs.Entries.{Entry}
use Rattle.mt_bucket.specs.Hash.{hash}
use Rattle.mt_index.specs.Answers.{IsInBucket}
use Rattle.mt_index.specs.Index.{Node, State, Linked, named}
use Rattle.mt_index.specs.Maps.{Map, Each}
use Rattle.mt_index.specs.Pages.{state_of, AreMap, LeavesIndex}
use Rattle.mt_index.specs.Rule.{IsFull, Way, Here, Chained, SplitHere, SplitChained}
use Rattle.mt_index.specs.Steps.{Walk}
use Rattle.mt_space.specs.Changes.{PageBytes}
use Rattle.mt_steps.specs.Plans.{IsCrowded}

Full : State → List ℕ → Type 0
Full s ns = Each (IsFull s) ns

-- nothing comes behind the last page
none_behind : (node : ℕ → Node) (q : ℕ) (ns : List ℕ) → q ≡ 0 → Linked node q ns → ns ≡ []
none_behind node q [] zero linked = λ i. []
none_behind node q (n ∷ ns) zero linked = absurd (linked.1 (sym linked.0 ∙ zero))

full_both : (s : State) (front : List ℕ) (z : ℕ) → Each (IsFull s) front → IsFull s z → Each (IsFull s) (front ++ z ∷ [])
full_both s [] z before itself = (itself, tt)
full_both s (n ∷ front) z before itself = (before.0, full_both s front z before.1 itself)

last_full : (s : State) (q z : ℕ) (front ns : List ℕ) → Walk s.node q front z → z ≢ 0 → (s.node z).next ≡ 0 → Each (IsFull s) front → IsFull s z → Linked s.node q ns → Each (IsFull s) ns
last_full s q z [] [] walk real last before itself linked = tt
last_full s q z [] (n ∷ ns) walk real last before itself linked =
    let here : z ≡ n = sym walk ∙ linked.0 in
    let none = none_behind s.node (s.node n).next ns (ap (λ (x : ℕ). (s.node x).next) (sym here) ∙ last) linked.2 in
    (subst (IsFull s) here itself, subst (λ (l : List ℕ). Each (IsFull s) l) (sym none) tt)
last_full s q z (m ∷ front) [] walk real last before itself linked = tt
last_full s q z (m ∷ front) (n ∷ ns) walk real last before itself linked =
    let here : m ≡ n = sym walk.0 ∙ linked.0 in
    (subst (IsFull s) here before.0, last_full s (s.node m).next z front ns walk.2 real last before.1 itself (subst (λ (x : ℕ). Linked s.node (s.node x).next ns) (sym here) linked.2))

one_full : (s : State) (q : ℕ) (ns : List ℕ) → (s.node q).next ≡ 0 → IsFull s q → Linked s.node q ns → Each (IsFull s) ns
one_full s q [] alone full linked = tt
one_full s q (n ∷ ns) alone full linked =
    let none = none_behind s.node (s.node n).next ns (ap (λ (x : ℕ). (s.node x).next) (sym linked.0) ∙ alone) linked.2 in
    (subst (IsFull s) linked.0 full, subst (λ (l : List ℕ). Each (IsFull s) l) (sym none) tt)

pub way_crowded : (split : Bool) (e : Entry) (s t : State) → Way split e s t → (p : ℕ) → s.kind p ≡ 0 → t.kind p ≢ 0 → (ns : List ℕ) → Linked s.node (named s (hash e.key)) ns → Each (IsFull s) ns
way_crowded split e s t (Here q first) p free taken ns linked = absurd (taken (ap (λ (f : ℕ → ℕ). f p) first.puts.change.kind ∙ free))
way_crowded split e s t (Chained z q not_due small last) p free taken ns linked =
    last_full s (named s (hash e.key)) z last.puts.on.front ns last.puts.on.walk last.puts.on.real last.puts.last last.before last.itself linked
way_crowded split e s t (SplitHere u q l z due may small halves first) p free taken ns linked = one_full s (named s (hash e.key)) ns may.alone may.full linked
way_crowded split e s t (SplitChained u q l z q2 due may small halves small2 last) p free taken ns linked = one_full s (named s (hash e.key)) ns may.alone may.full linked

-- ---- the same before a record is put

record Behind (node node2 : ℕ → Node) (q : ℕ) (ns : List ℕ) : Type 0 where
  linked : Linked node2 q ns
  full : Each (λ (n : ℕ). length (node2 n).entries ≡ 58) ns → Each (λ (n : ℕ). length (node n).entries ≡ 58) ns

linked_to : (node node2 : ℕ → Node) (P : ℕ → Type 0) → ((n : ℕ) → P n → node2 n ≡ node n) → (q : ℕ) (cs ns : List ℕ) → Linked node q cs → Each P cs → Linked node q ns → Behind node node2 q ns
linked_to node node2 P same q [] [] chain each linked = record { linked = linked; full = λ all. tt }
linked_to node node2 P same q [] (n ∷ ns) chain each linked = absurd (linked.1 (sym linked.0 ∙ chain))
linked_to node node2 P same q (c ∷ cs) [] chain each linked = absurd (chain.1 (sym chain.0 ∙ linked))
linked_to node node2 P same q (c ∷ cs) (n ∷ ns) chain each linked =
    let here : c ≡ n = sym chain.0 ∙ linked.0 in
    let kept : node2 n ≡ node n = same n (subst P here each.0) in
    let rest = linked_to node node2 P same (node n).next cs ns (subst (λ (x : ℕ). Linked node (node x).next cs) here chain.2) each.1 linked.2 in
    record {
      linked = (linked.0, linked.1, subst (λ (x : Node). Linked node2 x.next ns) (sym kept) rest.linked);
      full = λ all. (subst (λ (x : Node). length x.entries ≡ 58) kept all.0, rest.full all.1);
    }

pub crowded_before : (total : ℕ) (pages mid : PageBytes) (m : Map) (key : List ℕ) → AreMap total pages m → LeavesIndex total pages mid → IsCrowded key mid → IsCrowded key pages
crowded_before total pages mid m key map leaves crowded ns linked =
    let s = state_of pages in
    let t = state_of mid in
    let tree = map.index.tree in
    let first : named t (hash key) ≡ named s (hash key) = λ i. named (record { g = (state_of (λ p. leaves.directory i)).g; pointers = (state_of (λ p. leaves.directory i)).pointers; node = s.node; kind = s.kind }) (hash key) in
    let behind = linked_to s.node t.node (λ (n : ℕ). s.kind n ≡ 2) (λ n two. ap (λ (bytes : List ℕ). (state_of (λ p. bytes)).node n) (leaves.buckets n two).1) (named s (hash key)) (tree.chain (named s (hash key))) ns
    (tree.linked (hash key)) (tree.kinds (hash key)) linked in
    behind.full (crowded ns (subst (λ (q : ℕ). Linked t.node q ns) (sym first) behind.linked))

-- ---- a page of the key's bucket is one before a record is put or taken away

walk_before : (node node2 : ℕ → Node) (P : ℕ → Type 0) → ((n : ℕ) → P n → node2 n ≡ node n) → (q : ℕ) (cs front : List ℕ) (p : ℕ) → Linked node q cs → Each P cs → Walk node2 q front p → Walk node q front p
walk_before node node2 P same q cs [] p chain each walk = walk
walk_before node node2 P same q [] (n ∷ front) p chain each walk = absurd (walk.1 (sym walk.0 ∙ chain))
walk_before node node2 P same q (c ∷ cs) (n ∷ front) p chain each walk =
    let here : c ≡ n = sym chain.0 ∙ walk.0 in
    let kept : node2 n ≡ node n = same n (subst P here each.0) in (
      walk.0,
      walk.1,
      walk_before node node2 P same (node n).next cs front p (subst (λ (x : ℕ). Linked node (node x).next cs) here chain.2) each.1 (subst (λ (x : Node). Walk node2 x.next front p) kept walk.2),
    )

pub bucket_before : (total : ℕ) (pages mid : PageBytes) (m : Map) (key : List ℕ) (in_bucket : Mode) (p : ℕ) (mode : Mode) → AreMap total pages m → LeavesIndex total pages mid → IsInBucket key in_bucket mid p mode → IsInBucket key in_bucket pages p mode
bucket_before total pages mid m key in_bucket p mode map leaves (inl directory) = inl directory
bucket_before total pages mid m key in_bucket p mode map leaves (inr (two, locked, on)) =
    let s = state_of pages in
    let t = state_of mid in
    let tree = map.index.tree in
    let first : named t (hash key) ≡ named s (hash key) = λ i. named (record { g = (state_of (λ p. leaves.directory i)).g; pointers = (state_of (λ p. leaves.directory i)).pointers; node = s.node; kind = s.kind }) (hash key) in
    inr (
      leaves.no_more p two,
      locked,
      record {
        front = on.front;
        walk = walk_before s.node t.node (λ (n : ℕ). s.kind n ≡ 2) (λ n is. ap (λ (bytes : List ℕ). (state_of (λ p. bytes)).node n) (leaves.buckets n is).1) (named s (hash key)) (tree.chain (named s (hash key))) on.front p
            (tree.linked (hash key)) (tree.kinds (hash key)) (subst (λ (q : ℕ). Walk t.node q on.front p) first on.walk);
        real = on.real;
      },
    )

pub leaves_both : (total : ℕ) (pages mid last : PageBytes) → LeavesIndex total pages mid → LeavesIndex total mid last → LeavesIndex total pages last
leaves_both total pages mid last one two = record {
  directory = two.directory ∙ one.directory;
  buckets = λ p is. let first = one.buckets p is in let second = two.buckets p first.0 in (second.0, second.1 ∙ first.1);
  no_more = λ p is. one.no_more p (two.no_more p is);
  fixed = λ p is. two.fixed p (one.fixed p is);
  within = two.within;
}
