-- The names that are gathered, bucket by bucket.
use Rattle.std.proofs.Common.{◌≡◌, ◌≢◌, ◌⊎◌, inl, inr, ⊎_elim, ℕ, zero, suc, ◌+◌, ◌*◌, ◌<◌, ◌≤◌, ◌%◌, ◌^◌, Bool, true, false, cond, ◌==◌, List, [], ◌∷◌, ◌++◌, length, get_or, min, Option, Some, None, refl, ap, sym, ◌∙◌, subst, arith, append-nil, append_assoc, length-append}
use Rattle.std.specs.Prelude.{AllPairs, Contains, ltb}
use Rattle.std.specs.List.{cons_option}
use Rattle.std.proofs.Math.Nat.{pow-le-pow_right}
use Rattle.std.proofs.lemmas.Bool.{cases_lt}
use Rattle.std.proofs.lemmas.Bool.Decides.{Decides-eqb, Decides-ltb}
use Rattle.std.proofs.lemmas.List.Kept.{AllPairs-cons}
use Rattle.std.proofs.lemmas.List.Elements.{All-contains_itself, Contains-append_left, Contains-append_right, Contains-append_cases, Contains-push, Contains-push_cases, filter_map-append}
use Rattle.std.proofs.lemmas.Nat.{pow_pos, mod_below, mod_low, one_shl}
use Rattle.mt_base.specs.declared.numbers.RecordName.{RecordName}
use Rattle.mt_bucket.specs.Entries.{Entry, is_at, look, name_under}
use Rattle.mt_bucket.specs.Hash.{hash}
use Rattle.mt_bucket.specs.Page.{depth_of, next_of, entries, entries_from, entry_of, cell}
use Rattle.mt_space.specs.Changes.{PageBytes, Agrees}
use Rattle.mt_space.specs.Kinds.{kind}
use Rattle.mt_index.specs.Index.{Node, Linked, named, entries_of}
use Rattle.mt_index.specs.Maps.{Map, Once, Each}
use Rattle.mt_index.specs.Names.{AreNames, AreNamesOnce, names_in, HasChain, HasBucket, Gathers, GrowsTo, entries_before, IsGatheredTo}
use Rattle.mt_index.specs.Pages.{depth_in, pointer_at, node_of, state_of, AreMap}
use Rattle.mt_index.specs.Steps.{Walk}
use Rattle.mt_index.specs.declared.answers.Gathered.{Gathered}
use Rattle.mt_index.specs.declared.answers.Gathered.TheVariants as gathered
use Rattle.mt_index.specs.declared.record_names.Gathering.{Gathering}
use Rattle.mt_index.proofs.Bits.{agree_from_mod, mod_from_agree}
use Rattle.mt_index.proofs.Chains.{entries_parts, linked_same}
use Rattle.mt_index.proofs.Keeping.{walk_splits}
use Rattle.mt_index.proofs.Lists.{at_parts, at_from, each_map, each_remove}
use Rattle.mt_index.proofs.Looking.{look_past, walk_more}
use Rattle.mt_index.proofs.Marks.{walk_linked}
use Rattle.mt_index.proofs.Pigeons.{short, chain_distinct}
use Rattle.mt_index.proofs.Pointers.{named_is}

-- ---- names in lists of entries

none_is_some : {A B : Type 0} (o : Option A) (x : A) → o ≡ None → o ≡ Some x → B
none_is_some o x none some = let wrong : ◌≡◌ {A = Option _} None (Some x) = sym none ∙ some in cc

contains_more : {X : Type 0} (x : X) (xs : List X) (n : X) → Contains (x ∷ xs) n → (x ≡ n) ⊎ Contains xs n
contains_more x xs n h = go (Contains-append_cases (x ∷ []) xs n h)
  where
    first : Contains [] n ⊎ (x ≡ n) → (x ≡ n) ⊎ Contains xs n
    first (inl none) = absurd (let below = none.1 in omega (arith, below))
    first (inr same) = inl same

    go : Contains (x ∷ []) n ⊎ Contains xs n → (x ≡ n) ⊎ Contains xs n
    go (inl here) = first (Contains-push_cases [] x n here)
    go (inr there) = inr there

-- of entries with different keys, what a look finds after the first one it finds in all
look_more : (r : ℕ) (k : List ℕ) (e : Entry) (es : List Entry) (n : RecordName) → look e.relation e.key es ≡ None → look r k es ≡ Some n → look r k (e ∷ es) ≡ Some n
look_more r k e es n once found = go (is_at r k e) refl
  where
    go : (b : Bool) → is_at r k e ≡ b → cond b (Some e.name) (look r k es) ≡ Some n
    go true at =
        let parts = at_parts r k e at in
        none_is_some (look r k es) n (subst (λ q. look q k es ≡ None) parts.0 (subst (λ x. look e.relation x es ≡ None) parts.1 once)) found
    go false at = found

-- and a look at the first one's key finds its name
look_first : (r : ℕ) (e : Entry) (es : List Entry) → e.relation ≡ r → look r e.key (e ∷ es) ≡ Some e.name
look_first r e es same = ap (λ b. cond b (Some e.name) (look r e.key es)) (at_from r e.key e same refl)

-- a name among those of a relation is what a look finds
pub names_look : (r : ℕ) (es : List Entry) (n : RecordName) → Once es → Contains (names_in r es) n → (k : List ℕ) × (look r k es ≡ Some n)
names_look r [] n once has = absurd (let below = has.1 in omega (arith, below))
names_look r (e ∷ es) n once has = go (names_look r es n once.1) (e.relation == r) refl has
  where
    own : e.relation ≡ r → e.name ≡ n → (k : List ℕ) × (look r k (e ∷ es) ≡ Some n)
    own same is = (e.key, look_first r e es same ∙ ap Some is)

    go : (Contains (names_in r es) n → (k : List ℕ) × (look r k es ≡ Some n)) → (b : Bool) → (e.relation == r) ≡ b
        → Contains (cons_option (cond b (Some e.name) None) (names_in r es)) n → (k : List ℕ) × (look r k (e ∷ es) ≡ Some n)
    go rest true same h = ⊎_elim (own ((Decides-eqb e.relation r).0 same))
        (λ there. let found = rest there in (found.0, look_more r found.0 e es n once.0 found.1)) (contains_more e.name (names_in r es) n h)
    go rest false other h = let found = rest h in (found.0, look_more r found.0 e es n once.0 found.1)

-- if no name has two keys, no name stands twice
pub names_distinct : (r : ℕ) (es : List Entry) → Once es → ((k l : List ℕ) (n : RecordName) → look r k es ≡ Some n → look r l es ≡ Some n → k ≡ l)
    → AllPairs (λ a b. a ≢ b) (names_in r es)
names_distinct r [] once one = λ i j d lt within. absurd (omega (arith, within))
names_distinct r (e ∷ es) once one =
    go (names_distinct r es once.1 (λ k l n a b. one k l n (look_more r k e es n once.0 a) (look_more r l e es n once.0 b))) (e.relation == r) refl
  where
    apart : e.relation ≡ r → (n : RecordName) → Contains (names_in r es) n → e.name ≢ n
    apart same n has is =
        let found = names_look r es n once.1 has in
        let keys : found.0 ≡ e.key = one found.0 e.key n (look_more r found.0 e es n once.0 found.1) (look_first r e es same ∙ ap Some is) in
        none_is_some (look r e.key es) n (subst (λ q. look q e.key es ≡ None) same once.0) (subst (λ k. look r k es ≡ Some n) keys found.1)

    go : AllPairs (λ a b. a ≢ b) (names_in r es) → (b : Bool) → (e.relation == r) ≡ b
        → AllPairs (λ a b. a ≢ b) (cons_option (cond b (Some e.name) None) (names_in r es))
    go rest true same =
        AllPairs-cons (λ a b. a ≢ b) e.name (names_in r es)
        (λ i d lt. apart ((Decides-eqb e.relation r).0 same) (get_or (names_in r es) i d) (All-contains_itself (names_in r es) i d lt)) rest
    go rest false other = rest

-- and what a look finds is among them
pub look_names : (r : ℕ) (k : List ℕ) (es : List Entry) (n : RecordName) → look r k es ≡ Some n → Contains (names_in r es) n
look_names r k [] n found = absurd cc
look_names r k (e ∷ es) n found = go (look_names r k es n) (is_at r k e) refl found
  where
    more : (o : Option RecordName) → Contains (names_in r es) n → Contains (cons_option o (names_in r es)) n
    more None h = h
    more (Some x) h = Contains-append_right (x ∷ []) (names_in r es) n h

    go : (look r k es ≡ Some n → Contains (names_in r es) n) → (b : Bool) → is_at r k e ≡ b → cond b (Some e.name) (look r k es) ≡ Some n → Contains (names_in r (e ∷ es)) n
    go rest true at is =
        let same : e.name ≡ n = cc in
        let here : (e.relation == r) ≡ true = (Decides-eqb e.relation r).1 (at_parts r k e at).0 in
        subst (λ b. Contains (cons_option (cond b (Some e.name) None) (names_in r es)) n) (sym here)
        (subst (λ x. Contains (e.name ∷ names_in r es) x) same (Contains-append_left (e.name ∷ []) (names_in r es) e.name (Contains-push [] e.name)))
    go rest false at is = more (name_under r e) (rest is)

pub names_are : (r : ℕ) (m : Map) (names : List RecordName) → AreNamesOnce r m names → AreNames r m names
names_are r m names a n = (
  λ has. let found = names_look r a.entries n a.once (subst (λ ns. Contains ns n) a.same has) in (found.0, sym (a.map r found.0) ∙ found.1),
  λ some. subst (λ ns. Contains ns n) (sym a.same) (look_names r some.0 a.entries n (a.map r some.0 ∙ some.1)),
)

-- ---- lists of entries, one after the other

-- a key that is none of the list's
look_away : (P : List ℕ → Type 0) (r : ℕ) (k : List ℕ) (es : List Entry) → Each (λ e. P e.key) es → (P k → ⊥) → look r k es ≡ None
look_away P r k [] each not_k = refl
look_away P r k (e ∷ es) each not_k = go (look_away P r k es each.1 not_k) (is_at r k e) refl
  where
    go : look r k es ≡ None → (b : Bool) → is_at r k e ≡ b → cond b (Some e.name) (look r k es) ≡ None
    go rest true at = absurd (not_k (subst P (at_parts r k e at).1 each.0))
    go rest false at = rest

look_before : (r : ℕ) (k : List ℕ) (es fs : List Entry) → look r k fs ≡ None → look r k (es ++ fs) ≡ look r k es
look_before r k [] fs none = none
look_before r k (e ∷ es) fs none = ap (λ o. cond (is_at r k e) (Some e.name) o) (look_before r k es fs none)

once_append : (es fs : List Entry) → Once es → Once fs → Each (λ e. look e.relation e.key fs ≡ None) es → Once (es ++ fs)
once_append [] fs a b apart = b
once_append (e ∷ es) fs a b apart = (look_before e.relation e.key es fs apart.0 ∙ a.0, once_append es fs a.1 b apart.1)

each_join : {A : Type 0} (P : A → Type 0) (xs ys : List A) → Each P xs → Each P ys → Each P (xs ++ ys)
each_join P [] ys a b = b
each_join P (x ∷ xs) ys a b = (a.0, each_join P xs ys a.1 b)

-- ---- the walk along a bucket

pub extends_more : (xs ys zs : List RecordName) → GrowsTo xs ys → GrowsTo ys zs → GrowsTo xs zs
extends_more xs ys zs (more, is) (more2, is2) = (more ++ more2, is2 ∙ ap (λ l. l ++ more2) is ∙ append_assoc xs more more2)

pub record IsGathering (pages : PageBytes) (b at step r : ℕ) (old new : List RecordName) : Type 0 where
  pub front : List ℕ
  pub walk : Walk (λ n. node_of (pages n)) b front at
  pub real : at ≢ 0
  pub far : step ≤ length front
  pub names : new ≡ old ++ names_in r (entries_of (λ n. node_of (pages n)) front)

pub gathering_start : (total : ℕ) (pages : PageBytes) (m : Map) (b r h : ℕ) (old : List RecordName) → AreMap total pages m → named (state_of pages) h ≡ b → IsGathering pages b b 0 r old old
gathering_start total pages m b r h old a is = record {
  front = [];
  walk = refl;
  real = λ e. a.index.tree.real h (is ∙ e);
  far = omega arith;
  names = sym (append-nil old);
}

-- the names with those of one page more
names_more : (pages : PageBytes) (r at : ℕ) (front : List ℕ) (page : List ℕ) (old mid new : List RecordName) → pages at ≡ page
    → mid ≡ old ++ names_in r (entries_of (λ n. node_of (pages n)) front) → new ≡ mid ++ names_in r (entries page)
    → new ≡ old ++ names_in r (entries_of (λ n. node_of (pages n)) (front ++ at ∷ []))
names_more pages r at front page old mid new here before is =
    let node : ℕ → Node = λ n. node_of (pages n) in
    let whole : entries_of node (front ++ at ∷ []) ≡ entries_of node front ++ entries page =
    entries_parts node front at [] ∙ ap (λ es. entries_of node front ++ es) (append-nil (entries (pages at)) ∙ ap entries here) in
    is ∙ ap (λ ns. ns ++ names_in r (entries page)) before
    ∙ append_assoc old (names_in r (entries_of node front)) (names_in r (entries page))
    ∙ ap (λ ns. old ++ ns) (sym (filter_map-append (name_under r) (entries_of node front) (entries page)) ∙ ap (names_in r) (sym whole))

pub gathering_more : (pages : PageBytes) (b at next step r : ℕ) (page : List ℕ) (old mid new : List RecordName) → IsGathering pages b at step r old mid → pages at ≡ page
    → new ≡ mid ++ names_in r (entries page) → next ≡ next_of page → next ≢ 0 → IsGathering pages b next (step + 1) r old new
gathering_more pages b at next step r page old mid new g here is then real = record {
  front = g.front ++ at ∷ [];
  walk = subst (Walk node b (g.front ++ at ∷ [])) (ap next_of here ∙ sym then) (walk_more node b g.front at g.walk g.real);
  real = real;
  far = let far = g.far in omega (arith, far, length-append g.front (at ∷ []));
  names = names_more pages r at g.front page old mid new here g.names is;
}
  where
    node : ℕ → Node
    node = λ n. node_of (pages n)

pub gathering_done : (pages : PageBytes) (b at step r : ℕ) (page : List ℕ) (old mid new : List RecordName) → IsGathering pages b at step r old mid → pages at ≡ page
    → new ≡ mid ++ names_in r (entries page) → next_of page ≡ 0 → HasChain b r old new pages
gathering_done pages b at step r page old mid new g here is last chain linked =
    let node : ℕ → Node = λ n. node_of (pages n) in
    let walk = walk_more node b g.front at g.walk g.real in
    let same : chain ≡ g.front ++ at ∷ [] = linked_same node b chain (g.front ++ at ∷ []) linked (walk_linked node b (g.front ++ at ∷ []) (next_of (pages at)) (ap next_of here ∙ last) walk) in
    names_more pages r at g.front page old mid new here g.names is ∙ ap (λ ns. old ++ names_in r (entries_of node ns)) (sym same)

-- the pages from the next one on
rest_of : (total : ℕ) (pages : PageBytes) (m : Map) (b at step r h : ℕ) (old new : List RecordName) → (a : AreMap total pages m) → named (state_of pages) h ≡ b → (g : IsGathering pages b at step r old new)
    → (back : List ℕ) × (a.index.tree.chain (named (state_of pages) h) ≡ g.front ++ at ∷ back)
rest_of total pages m b at step r h old new a is g =
    walk_splits (λ n. node_of (pages n)) (named (state_of pages) h) g.front at (a.index.tree.chain (named (state_of pages) h))
    (subst (λ x. Walk (λ n. node_of (pages n)) x g.front at) (sym is) g.walk) g.real (a.index.tree.linked h)

pub gathering_kind : (total : ℕ) (pages : PageBytes) (m : Map) (b at step r h : ℕ) (old new : List RecordName) → AreMap total pages m → named (state_of pages) h ≡ b → IsGathering pages b at step r old new → kind pages at ≡ 2
gathering_kind total pages m b at step r h old new a is g =
    let rest = rest_of total pages m b at step r h old new a is g in
    (each_remove (λ x. kind pages x ≡ 2) g.front at rest.0 (subst (Each (λ x. kind pages x ≡ 2)) rest.1 (a.index.tree.kinds h))).0

pub gathering_ends : (total : ℕ) (pages : PageBytes) (m : Map) (b at step r h : ℕ) (old new : List RecordName) → AreMap total pages m → named (state_of pages) h ≡ b → IsGathering pages b at step r old new → total ≤ step → ⊥
gathering_ends total pages m b at step r h old new a is g all =
    let rest = rest_of total pages m b at step r h old new a is g in
    let chain = a.index.tree.chain (named (state_of pages) h) in
    let few = short total chain
    (each_map (λ x. kind pages x ≡ 2) (λ x. x < total) (λ x two. a.within x (λ z. let w : kind pages x ≡ 0 = z in omega (arith, two, w))) chain (a.index.tree.kinds h))
    (chain_distinct (state_of pages).node (named (state_of pages) h) chain (a.index.tree.linked h)) in
    let parts : length chain ≡ length (g.front ++ at ∷ rest.0) = ap length rest.1 in
    let far = g.far in
    omega (arith, few, parts, length-append g.front (at ∷ rest.0), far, all)

-- ---- the first page of a bucket

pub bucket_kind : (total : ℕ) (pages : PageBytes) (m : Map) (b h : ℕ) → AreMap total pages m → named (state_of pages) h ≡ b → kind pages b ≡ 2
bucket_kind total pages m b h a is = gathering_kind total pages m b b 0 0 h [] [] a is (gathering_start total pages m b 0 h [] a is)

-- the bits that its pointers share, as they are shifted
pub level_shifted : (total : ℕ) (pages : PageBytes) (m : Map) (b h d : ℕ) (page : List ℕ) → AreMap total pages m → named (state_of pages) h ≡ b → pages b ≡ page → d ≡ min (depth_of page) 9
    → 1 * 2 ^ d % 2 ^ 64 ≡ 2 ^ depth_of (pages b)
level_shifted total pages m b h d page a is here bits =
    let shallow : depth_of (pages b) ≤ min (get_or (pages 1) 0 0) 9 = subst (λ x. depth_of (pages x) ≤ depth_in (pages 1)) is (a.index.tree.shallow h) in
    let same : depth_of (pages b) ≡ depth_of page = ap depth_of here in
    let level : d ≡ depth_of (pages b) = omega (arith, shallow, same, bits) in
    one_shl d 64 (omega (arith, bits)) ∙ ap (λ (x : ℕ). 2 ^ x) level

pub gathers_weaker : (at_hand : ℕ → Option (List ℕ)) (total : ℕ) (P Q : PageBytes → Type 0)
    → ((pages : PageBytes) → Agrees at_hand pages → (m : Map) → AreMap total pages m → P pages → Q pages)
    → (g : Gathered) → Gathers at_hand total P g → Gathers at_hand total Q g
gathers_weaker at_hand total P Q f (gathered.Need p) h = h
gathers_weaker at_hand total P Q f gathered.Whole h = λ pages agree m a. f pages agree m a (h pages agree m a)
gathers_weaker at_hand total P Q f gathered.Endless h = h

-- ---- bucket after bucket

-- the first pointer that names the key's bucket
abbrev pub home : PageBytes → List ℕ → ℕ
home pages k = hash k % 2 ^ depth_of (pages (named (state_of pages) (hash k)))

-- the entries of the keys whose buckets the first i pointers name, each once, and their names
pub record AreGathered (pages : PageBytes) (m : Map) (r i : ℕ) (names : List RecordName) : Type 0 where
  pub entries : List Entry
  pub once : Once entries
  pub own : Each (λ e. home pages e.key < i) entries
  pub map : (q : ℕ) (k : List ℕ) → home pages k < i → look q k entries ≡ m q k
  pub same : names ≡ names_in r entries

pub gathered_none : (pages : PageBytes) (m : Map) (r : ℕ) → AreGathered pages m r 0 []
gathered_none pages m r = record { entries = []; once = tt; own = tt; map = λ q k lt. absurd (omega (arith, lt)); same = refl }

low_small : (x l : ℕ) → x < 2 ^ l → x % 2 ^ l ≡ x
low_small x l lt = ap (λ (y : ℕ). y % 2 ^ l) (omega arith) ∙ mod_low 0 l x lt

-- the bucket that a pointer names
pub pointer_named : (pages : PageBytes) (directory : List ℕ) (i p : ℕ) → pages 1 ≡ directory → i < 2 ^ depth_in directory → p ≡ pointer_at directory i → named (state_of pages) i ≡ p
pointer_named pages directory i p here lt is =
    named_is pages i ∙ ap (λ (d : List ℕ). pointer_at d (i % 2 ^ depth_in d)) here ∙ ap (pointer_at directory) (low_small i (depth_in directory) lt) ∙ sym is

-- all pointers are passed
pub pointers_passed : (pages : PageBytes) (directory : List ℕ) (i d : ℕ) → pages 1 ≡ directory → d ≡ depth_in directory → 1 * 2 ^ d % 2 ^ 64 ≤ i → 2 ^ depth_in (pages 1) ≤ i
pointers_passed pages directory i d here bits all =
    subst (λ (x : ℕ). x ≤ i) (one_shl d 64 (omega (arith, bits)) ∙ ap (λ (x : ℕ). 2 ^ x) (bits ∙ ap depth_in (sym here))) all

module _ (total : ℕ) (pages : PageBytes) (m : Map) (a : AreMap total pages m) where
  abbrev level : ℕ → ℕ
  level h = depth_of (pages (named (state_of pages) h))

  home_below : (k : List ℕ) → home pages k < 2 ^ level (hash k)
  home_below k = mod_below (hash k) (2 ^ level (hash k)) (pow_pos (level (hash k)))

  -- it names the bucket
  home_named : (k : List ℕ) → named (state_of pages) (hash k) ≡ named (state_of pages) (home pages k)
  home_named k = a.index.tree.buckets.apart (hash k) (home pages k) (agree_from_mod (level (hash k)) (hash k) (home pages k) (sym (low_small (home pages k) (level (hash k)) (home_below k))))

  -- a key of the bucket that pointer i is the first to name
  home_of : (k : List ℕ) (i : ℕ) → i < 2 ^ level i → named (state_of pages) (hash k) ≡ named (state_of pages) i → home pages k ≡ i
  home_of k i first same =
      let both : hash k % 2 ^ level (hash k) ≡ i % 2 ^ level (hash k) = mod_from_agree (level (hash k)) (hash k) i (a.index.tree.buckets.same (hash k) i same) in
      let levels : level (hash k) ≡ level i = ap (λ b. depth_of (pages b)) same in
      both ∙ ap (λ l. i % 2 ^ l) levels ∙ low_small i (level i) first

  -- a bucket that was gathered before
  gathered_again : (r i b : ℕ) (names : List RecordName) → named (state_of pages) i ≡ b → 2 ^ depth_of (pages b) ≤ i → AreGathered pages m r i names → AreGathered pages m r (i + 1) names
  gathered_again r i b names is before g = record {
    entries = g.entries;
    once = g.once;
    own = each_map (λ (e : Entry). home pages e.key < i) (λ e. home pages e.key < i + 1) (λ e lt. omega (arith, lt)) g.entries g.own;
    map = λ q k lt. ⊎_elim (g.map q k) (λ (last : i ≤ home pages k). absurd (never k (let e : home pages k ≡ i = omega (arith, lt, last) in e))) (cases_lt (home pages k) i);
    same = g.same;
  }
    where
      never : (k : List ℕ) → home pages k ≡ i → ⊥
      never k e =
          let same : named (state_of pages) (hash k) ≡ b = home_named k ∙ ap (named (state_of pages)) e ∙ is in
          let below : home pages k < 2 ^ depth_of (pages b) = subst (λ x. home pages k < 2 ^ depth_of (pages x)) same (home_below k) in
          omega (arith, e, below, before)

  -- one bucket more
  gathered_more : (r i b : ℕ) (old new : List RecordName) → named (state_of pages) i ≡ b → i < 2 ^ depth_of (pages b) → HasChain b r old new pages → AreGathered pages m r i old → AreGathered pages m r (i + 1) new
  gathered_more r i b old new is first has g = record {
    entries = g.entries ++ es;
    once = once_append g.entries es g.once (a.index.tree.buckets.once i) (each_map (λ (e : Entry). home pages e.key < i) (λ e. look e.relation e.key es ≡ None)
        (λ e lt. look_away (λ k. home pages k ≡ i) e.relation e.key es own (λ e'. omega (arith, lt, e'))) g.entries g.own);
    own = each_join (λ (e : Entry). home pages e.key < i + 1) g.entries es
        (each_map (λ (e : Entry). home pages e.key < i) (λ e. home pages e.key < i + 1) (λ e lt. omega (arith, lt)) g.entries g.own)
        (each_map (λ (e : Entry). home pages e.key ≡ i) (λ e. home pages e.key < i + 1) (λ e same. omega (arith, same)) es own);
    map = λ q k lt. ⊎_elim (before q k) (λ (last : i ≤ home pages k). now q k (let e : home pages k ≡ i = omega (arith, lt, last) in e)) (cases_lt (home pages k) i);
    same = has (a.index.tree.chain (named (state_of pages) i)) (subst (λ x. Linked node x (a.index.tree.chain (named (state_of pages) i))) is (a.index.tree.linked i))
        ∙ ap (λ ns. ns ++ names_in r es) g.same ∙ sym (filter_map-append (name_under r) g.entries es);
  }
    where
      node : ℕ → Node
      node = λ n. node_of (pages n)

      es : List Entry
      es = entries_of node (a.index.tree.chain (named (state_of pages) i))

      own : Each (λ e. home pages e.key ≡ i) es
      own = each_map (λ (e : Entry). named (state_of pages) (hash e.key) ≡ named (state_of pages) i) (λ e. home pages e.key ≡ i)
          (λ e same. home_of e.key i (subst (λ x. i < 2 ^ depth_of (pages x)) (sym is) first) same) es (a.index.tree.buckets.own i)

      before : (q : ℕ) (k : List ℕ) → home pages k < i → look q k (g.entries ++ es) ≡ m q k
      before q k lt = look_before q k g.entries es (look_away (λ x. home pages x ≡ i) q k es own (λ e. omega (arith, lt, e))) ∙ g.map q k lt

      now : (q : ℕ) (k : List ℕ) → home pages k ≡ i → look q k (g.entries ++ es) ≡ m q k
      now q k e =
          look_past q k g.entries es (look_away (λ x. home pages x < i) q k g.entries g.own (λ lt. omega (arith, lt, e)))
          ∙ ap (λ b'. look q k (entries_of node (a.index.tree.chain b'))) (sym (home_named k ∙ ap (named (state_of pages)) e))
          ∙ a.index.tree.map q k

  gathered_bucket : (r i b : ℕ) (old new : List RecordName) → named (state_of pages) i ≡ b → HasBucket b i r old new pages → AreGathered pages m r i old → AreGathered pages m r (i + 1) new
  gathered_bucket r i b old new is (inl again) g = subst (AreGathered pages m r (i + 1)) (sym again.1) (gathered_again r i b old is again.0 g)
  gathered_bucket r i b old new is (inr has) g = gathered_more r i b old new is has.0 has.1 g

  -- the names of one bucket more are gathered as its entries are
  bucket_next : (r i : ℕ) → HasBucket (named (state_of pages) i) i r (names_in r (entries_before pages a.index.tree.chain i)) (names_in r (entries_before pages a.index.tree.chain (suc i))) pages
  bucket_next r i = go (ltb i (2 ^ level i)) refl
    where
      old : List Entry
      old = entries_before pages a.index.tree.chain i

      node : ℕ → Node
      node = λ n. node_of (pages n)

      b : ℕ
      b = named (state_of pages) i

      go : (x : Bool) → ltb i (2 ^ depth_of (pages (named (state_of pages) i))) ≡ x
          → HasBucket (named (state_of pages) i) i r (names_in r (entries_before pages a.index.tree.chain i))
          (names_in r (entries_before pages a.index.tree.chain i ++ cond x (entries_of (λ n. node_of (pages n)) (a.index.tree.chain (named (state_of pages) i))) [])) pages
      go true first = inr (
        (Decides-ltb i (2 ^ level i)).0 first,
        λ chain linked. filter_map-append (name_under r) old (entries_of node (a.index.tree.chain b))
            ∙ ap (λ ns. names_in r old ++ names_in r (entries_of node ns)) (linked_same node b (a.index.tree.chain b) chain (a.index.tree.linked i) linked),
      )
      go false later = inl (⊎_elim (λ lt. absurd (let wrong = sym later ∙ (Decides-ltb i (2 ^ level i)).1 lt in cc)) (λ ge. ge) (cases_lt i (2 ^ level i)), ap (names_in r) (append-nil old))

  gathered_before : (r i : ℕ) → AreGathered pages m r i (names_in r (entries_before pages a.index.tree.chain i))
  gathered_before r zero = gathered_none pages m r
  gathered_before r (suc i) =
      subst (λ n. AreGathered pages m r n (names_in r (entries_before pages a.index.tree.chain (suc i)))) (omega arith)
      (gathered_bucket r i (named (state_of pages) i) (names_in r (entries_before pages a.index.tree.chain i)) (names_in r (entries_before pages a.index.tree.chain (suc i))) refl (bucket_next r i) (gathered_before r i))

  -- one bucket more
  pub names_next : (r i b : ℕ) (old new : List RecordName) → named (state_of pages) i ≡ b → HasBucket b i r old new pages
      → old ≡ names_in r (entries_before pages a.index.tree.chain i) → new ≡ names_in r (entries_before pages a.index.tree.chain (i + 1))
  names_next r i b old new is has so_far =
      subst (λ n. new ≡ names_in r (entries_before pages a.index.tree.chain n)) (let grown : suc i ≡ i + 1 = omega arith in grown)
      (same (subst (λ x. HasBucket x i r old new pages) (sym is) has) (bucket_next r i))
    where
      node : ℕ → Node
      node = λ n. node_of (pages n)

      chain : List ℕ
      chain = a.index.tree.chain (named (state_of pages) i)

      then : List RecordName
      then = names_in r (entries_before pages a.index.tree.chain (suc i))

      same : HasBucket (named (state_of pages) i) i r old new pages
          → HasBucket (named (state_of pages) i) i r (names_in r (entries_before pages a.index.tree.chain i)) (names_in r (entries_before pages a.index.tree.chain (suc i))) pages
          → new ≡ names_in r (entries_before pages a.index.tree.chain (suc i))
      same (inl again) (inl next) = again.1 ∙ so_far ∙ sym next.1
      same (inl again) (inr next) = absurd (omega (arith, again.0, next.0))
      same (inr more) (inl next) = absurd (omega (arith, more.0, next.0))
      same (inr more) (inr next) = more.1 chain (a.index.tree.linked i) ∙ ap (λ ns. ns ++ names_in r (entries_of node chain)) so_far ∙ sym (next.1 chain (a.index.tree.linked i))

  -- all buckets
  pub gathered_all : (r i : ℕ) (names : List RecordName) → 2 ^ depth_in (pages 1) ≤ i → names ≡ names_in r (entries_before pages a.index.tree.chain i) → AreNamesOnce r m names
  gathered_all r i names all same = record {
    entries = g.entries;
    once = g.once;
    map = λ q k. g.map q k (
        let below = home_below k in
        let shallow : 2 ^ level (hash k) ≤ 2 ^ depth_in (pages 1) = pow-le-pow_right (omega arith) (a.index.tree.shallow (hash k)) in
        omega (arith, below, shallow, all));
    same = same ∙ g.same;
  }
    where
      g : AreGathered pages m r i (names_in r (entries_before pages a.index.tree.chain i))
      g = gathered_before r i

-- ---- more at hand

-- what was gathered stays so as more comes to hand
pub gathered_still : (at_hand more : ℕ → Option (List ℕ)) (total r : ℕ) (gathering : Gathering) → ((p : ℕ) (bytes : List ℕ) → at_hand p ≡ Some bytes → more p ≡ Some bytes)
    → IsGatheredTo at_hand total r gathering → IsGatheredTo more total r gathering
gathered_still at_hand more total r gathering grown so_far pages agree m a = so_far pages (λ p bytes is. agree p bytes (grown p bytes is)) m a

-- ---- one page

entries_push : (page : List ℕ) (at n : ℕ) → entries_from page at (suc n) ≡ entries_from page at n ++ entry_of (cell page (at + 70 * n)) ∷ []
entries_push page at zero = ap (λ (k : ℕ). entry_of (cell page k) ∷ []) (omega arith)
entries_push page at (suc n) = ap (λ es. entry_of (cell page at) ∷ es) (entries_push page (at + 70) n ∙ ap (λ (k : ℕ). entries_from page (at + 70) n ++ entry_of (cell page k) ∷ []) (omega arith))

-- one entry more
pub page_more : (page : List ℕ) (r i : ℕ) (old mid new : List RecordName) (o : Option RecordName) → mid ≡ old ++ names_in r (entries_from page 8 i) → o ≡ name_under r (entry_of (cell page (8 + 70 * i)))
    → new ≡ mid ++ cons_option o [] → new ≡ old ++ names_in r (entries_from page 8 (i + 1))
page_more page r i old mid new o before is now =
    let count : suc i ≡ i + 1 = omega arith in
    now ∙ ap (λ ns. ns ++ cons_option o []) before ∙ append_assoc old (names_in r (entries_from page 8 i)) (cons_option o [])
    ∙ ap (λ ns. old ++ ns) (ap (λ x. names_in r (entries_from page 8 i) ++ cons_option x []) is
    ∙ sym (filter_map-append (name_under r) (entries_from page 8 i) (entry_of (cell page (8 + 70 * i)) ∷ []))
    ∙ ap (names_in r) (sym (entries_push page 8 i) ∙ ap (entries_from page 8) count))
