-- Entries in their buckets: a walk along a bucket that notes the page of each key.
use Rattle.std.proofs.Common.{◌≡◌, ◌≢◌, ℕ, zero, suc, ◌+◌, ◌<◌, ◌≤◌, ◌^◌, ◌%◌, ◌==◌, List, [], ◌∷◌, ◌++◌, Bool, true, false, cond, length, get_or, Option, None, Some, bytes_eq, refl, ap, sym, ◌∙◌, subst, arith, ◌⊎◌, inl, inr, ⊎_elim}
use Rattle.std.specs.Prelude.{◌&&◌, Result, Ok, Err, IfOk, IfSome, MatchOption}
use Rattle.std.specs.Borrow.{Bor}
use Rattle.std.specs.Ordering.{nat_cmp, is_eq, ordering_then}
use Rattle.std.specs.declared.cmp.Ordering.{Ordering}
use Rattle.std.specs.declared.cmp.Ordering.TheVariants.{Less, Equal, Greater}
use Rattle.std.specs.Cmp.Lexicographic.{slice_cmp}
use Rattle.std.specs.BTreeMap.{BTreeMap, Updates}
use Rattle.std.specs.Map.{lookup}
use Rattle.std.proofs.lemmas.Bool.{false_from_ne_true, both_ways, cases_lt}
use Rattle.std.proofs.lemmas.Bool.Decides.{nat_tests}
use Rattle.std.proofs.lemmas.Map.Text.{is_eq-slice_cmp}
use Rattle.mt_bucket.specs.Entries.{Entry, is_at, look}
use Rattle.mt_bucket.specs.Hash.{hash}
use Rattle.mt_bucket.specs.Page.{next_of, count_of, entries, holds}
use Rattle.mt_space.specs.Changes.{PageBytes}
use Rattle.mt_space.specs.Kinds.{kind}
use Rattle.mt_index.specs.Maps.{Each}
use Rattle.mt_index.specs.Index.{Node, Linked}
use Rattle.mt_index.specs.Steps.{Walk}
use Rattle.mt_index.specs.Pages.{depth_in, pointer_at, node_of, IsOn}
use Rattle.mt_index.specs.Checks.{AreKinds, IsMember, IsMarked, AreMarked, IsFinite, entry_at, AreAlone, IsSettled, IsBegun, Settles, holder_in, IsIn, IsPast, IsNoted, ArePassed, IsMisplaced}
use Rattle.mt_index.proofs.Lists.{at_parts, at_from, at_self, cond_none, none_from, each_map}
use Rattle.mt_index.proofs.Chains.{linked_same, linked_at, behind}
use Rattle.mt_index.proofs.Keeping.{walk_splits}
use Rattle.mt_index.proofs.Looking.{walk_more}
use Rattle.mt_index.proofs.Pigeons.{short, chain_distinct}
use Rattle.mt_index.proofs.Marks.{in_push, in_last, walk_to, walk_linked}
use Rattle.mt_index.proofs.Listing.{listed, each_behind}
use Rattle.mt_index.proofs.Sounds.{first_each, met, page_entries}

abbrev nodes : PageBytes → ℕ → Node
nodes pages n = node_of (pages n)

-- ---- notes

abbrev pub Holders : Type 0
Holders = BTreeMap (ℕ × Bor (List ℕ)) ℕ

abbrev pub key_cmp : ℕ × Bor (List ℕ) → ℕ × Bor (List ℕ) → Ordering
key_cmp x y = ordering_then (nat_cmp x.0 y.0) (slice_cmp nat_cmp x.1.now y.1.now)

is_eq-cond : (a b : Bool) → (a ≡ true → b ≡ false) → is_eq (cond a Less (cond b Equal Greater)) ≡ b
is_eq-cond true b no_both = sym (no_both refl)
is_eq-cond false true no_both = refl
is_eq-cond false false no_both = refl

is_eq-numbers : (s t : ℕ) → is_eq (nat_cmp s t) ≡ (s == t)
is_eq-numbers s t = grind (arith, nat_tests)

is_eq-then : (x y : Ordering) → is_eq (ordering_then x y) ≡ (is_eq x && is_eq y)
is_eq-then Less y = refl
is_eq-then Equal y = refl
is_eq-then Greater y = refl

is_key : (x y : ℕ × Bor (List ℕ)) → is_eq (key_cmp x y) ≡ ((x.0 == y.0) && bytes_eq x.1.now y.1.now)
is_key x y =
    is_eq-then (nat_cmp x.0 y.0) (slice_cmp nat_cmp x.1.now y.1.now)
    ∙ ap (λ b. b && is_eq (slice_cmp nat_cmp x.1.now y.1.now)) (is_eq-numbers x.0 y.0)
    ∙ ap (λ b. (x.0 == y.0) && b) (is_eq-slice_cmp x.1.now y.1.now)

-- one key more
pub holder_noted : (old new : Holders) (x : ℕ × Bor (List ℕ)) (v p : ℕ) → Updates key_cmp old new x (Some v) → v ≡ p
    → (e : Entry) → e.relation ≡ x.0 → e.key ≡ x.1.now → (r : ℕ) (k : List ℕ) → holder_in new r k ≡ cond (is_at r k e) (Some p) (holder_in old r k)
holder_noted old new x v p u is e relation key r k =
    u.0 (r, record { ref_ptr = (0, 0); now = k })
    ∙ ap (λ (n : ℕ). cond (is_eq (key_cmp x (r, record { ref_ptr = (0, 0); now = k }))) (Some n) (holder_in old r k)) is
    ∙ ap (λ b. cond b (Some p) (holder_in old r k)) (is_key x (r, record { ref_ptr = (0, 0); now = k }) ∙ ap (λ (s : ℕ). (s == r) && bytes_eq x.1.now k) (sym relation) ∙ ap (λ l. (e.relation == r) && bytes_eq l k) (sym key))

pub holder_empty : (m : Holders) → m.entries ≡ [] → (r : ℕ) (k : List ℕ) → holder_in m r k ≡ None
holder_empty m none r k = ap (λ (es : List ((ℕ × Bor (List ℕ)) × ℕ)). lookup (λ q. is_eq (key_cmp (r, record { ref_ptr = (0, 0); now = k }) q)) es) none

-- ---- entries by places

none_listed : (r : ℕ) (k : List ℕ) (E : ℕ → Entry) (n : ℕ) → ((i : ℕ) → i < n → is_at r k (E i) ≡ false) → look r k (listed E n) ≡ None
none_listed r k E zero apart = refl
none_listed r k E (suc n) apart = none_from (is_at r k (E 0)) (E 0).name (look r k (listed (λ i. E (suc i)) n)) (apart 0 (omega arith)) (none_listed r k (λ i. E (suc i)) n (λ i lt. apart (suc i) (omega (arith, lt))))

lacks_listed : (r : ℕ) (k : List ℕ) (E : ℕ → Entry) (n i : ℕ) → i < n → look r k (listed E n) ≡ None → is_at r k (E i) ≡ false
lacks_listed r k E zero i lt none = absurd (omega (arith, lt))
lacks_listed r k E (suc n) zero lt none = (cond_none (is_at r k (E 0)) (E 0).name (look r k (listed (λ j. E (suc j)) n)) none).0
lacks_listed r k E (suc n) (suc i) lt none = lacks_listed r k (λ j. E (suc j)) n i (omega (arith, lt)) (cond_none (is_at r k (E 0)) (E 0).name (look r k (listed (λ j. E (suc j)) n)) none).1

lacks_page : (r : ℕ) (k page : List ℕ) → ((i : ℕ) → i < count_of page → is_at r k (entry_at page i) ≡ false) → look r k (entries page) ≡ None
lacks_page r k page apart = ap (λ es. look r k es) (page_entries page) ∙ none_listed r k (λ i. entry_at page i) (count_of page) apart

page_lacks : (r : ℕ) (k page : List ℕ) (i : ℕ) → i < count_of page → look r k (entries page) ≡ None → is_at r k (entry_at page i) ≡ false
page_lacks r k page i lt none = lacks_listed r k (λ j. entry_at page j) (count_of page) i lt (ap (λ es. look r k es) (sym (page_entries page)) ∙ none)

-- ---- pages along a walk

in_split : (n : ℕ) (xs : List ℕ) (x : ℕ) → IsIn n (xs ++ x ∷ []) → IsIn n xs ⊎ (n ≡ x)
in_split n [] x (inl is) = inr (sym is)
in_split n [] x (inr is) = elim is [ ]
in_split n (y ∷ xs) x (inl is) = inl (inl is)
in_split n (y ∷ xs) x (inr is) = go (in_split n xs x is)
  where
    go : IsIn n xs ⊎ (n ≡ x) → IsIn n (y ∷ xs) ⊎ (n ≡ x)
    go (inl there) = inl (inr there)
    go (inr last) = inr last

each_in : (xs : List ℕ) → Each (λ n. IsIn n xs) xs
each_in [] = tt
each_in (x ∷ xs) = (inl refl, each_map (λ n. IsIn n xs) (λ n. IsIn n (x ∷ xs)) (λ n is. inr is) xs (each_in xs))

walk_join : (node : ℕ → Node) (q : ℕ) (front : List ℕ) (p : ℕ) (rest : List ℕ) → Walk node q front p → Linked node p rest → Linked node q (front ++ rest)
walk_join node q [] p rest w a = subst (λ (x : ℕ). Linked node x rest) (sym w) a
walk_join node q (x ∷ front) p rest w a = (w.0, w.1, walk_join node (node x).next front p rest w.2 a)

-- the pages behind one that a walk passed
walk_behind : (node : ℕ → Node) (q : ℕ) (front : List ℕ) (p : ℕ) (rest : List ℕ) (n : ℕ) → Walk node q front p → Linked node p rest → IsIn n front → (mid : List ℕ) × Linked node (node n).next (mid ++ rest)
walk_behind node q [] p rest n w a is = elim is [ ]
walk_behind node q (x ∷ front) p rest n w a (inl is) = (front, subst (λ (y : ℕ). Linked node (node y).next (front ++ rest)) is (walk_join node (node x).next front p rest w.2 a))
walk_behind node q (x ∷ front) p rest n w a (inr is) = walk_behind node (node x).next front p rest n w.2 a is

-- ---- the walk

pub passed_start : (pages : PageBytes) (b : ℕ) (h : ℕ → List ℕ → Option ℕ) → ((r : ℕ) (k : List ℕ) → h r k ≡ None) → ArePassed pages b b 0 h
passed_start pages b h none = record {
  front = [];
  walk = refl;
  each = λ n j past. no_past n j past;
  back = λ r k n is. let wrong : None ≡ Some n = sym (none r k) ∙ is in absurd cc;
}
  where
    no_past : (n j : ℕ) → IsPast pages [] b 0 n j → IsNoted pages b h n j
    no_past n j (inl p) = elim p.0 [ ]
    no_past n j (inr p) = absurd (let lt = p.1 in omega (arith, lt))

-- one entry more
pub passed_entry : (pages : PageBytes) (b at i : ℕ) (h h2 : ℕ → List ℕ → Option ℕ) → ArePassed pages b at i h → i < count_of (pages at)
    → pointer_at (pages 1) (hash (entry_at (pages at) i).key % 2 ^ depth_in (pages 1)) ≡ b → h (entry_at (pages at) i).relation (entry_at (pages at) i).key ≡ None
    → ((r : ℕ) (k : List ℕ) → h2 r k ≡ cond (is_at r k (entry_at (pages at) i)) (Some at) (h r k)) → ArePassed pages b at (i + 1) h2
passed_entry pages b at i h h2 w lt own none noted = record {
  front = w.front;
  walk = w.walk;
  each = each;
  back = λ r k n is. found r k n (is_at r k new) refl (sym (noted r k) ∙ is);
}
  where
    new : Entry
    new = entry_at (pages at) i

    -- a key that is noted is not the new one
    apart : (e : Entry) (n : ℕ) → h e.relation e.key ≡ Some n → is_at e.relation e.key new ≡ true → ⊥
    apart e n some is =
        let p = at_parts e.relation e.key new is in
        let same : h new.relation new.key ≡ h e.relation e.key = ap (λ (r : ℕ). h r new.key) p.0 ∙ ap (λ (k : List ℕ). h e.relation k) p.1 in
        let wrong : None ≡ Some n = sym none ∙ same ∙ some in
        absurd cc

    kept : (n j : ℕ) → IsNoted pages b h n j → IsNoted pages b h2 n j
    kept n j old = record {
      own = old.own;
      first = old.first;
      page = noted (entry_at (pages n) j).relation (entry_at (pages n) j).key
          ∙ ap (λ t. cond t (Some at) (h (entry_at (pages n) j).relation (entry_at (pages n) j).key)) (false_from_ne_true (is_at (entry_at (pages n) j).relation (entry_at (pages n) j).key new) (apart (entry_at (pages n) j) n old.page))
          ∙ old.page;
    }

    before : (j : ℕ) → j < i → holds new.relation new.key (pages at) j ≡ false
    before j less = false_from_ne_true (holds new.relation new.key (pages at) j) (λ is.
        let p = at_parts new.relation new.key (entry_at (pages at) j) is in
        apart (entry_at (pages at) j) at (w.each at j (inr (refl, less))).page (at_from (entry_at (pages at) j).relation (entry_at (pages at) j).key new (sym p.0) (sym p.1)))

    last : IsNoted pages b h2 at i
    last = record {
      own = own;
      first = record { within = lt; here = at_self new; before = before };
      page = noted new.relation new.key ∙ ap (λ t. cond t (Some at) (h new.relation new.key)) (at_self new);
    }

    each : (n j : ℕ) → IsPast pages w.front at (i + 1) n j → IsNoted pages b h2 n j
    each n j (inl p) = kept n j (w.each n j (inl p))
    each n j (inr p) = ⊎_elim
        (λ (below : j < i). kept n j (w.each n j (inr (p.0, below))))
        (λ (here : i ≤ j). let is : i ≡ j = (let less = p.1 in omega (arith, less, here)) in subst (λ (m : ℕ). IsNoted pages b h2 m j) (sym p.0) (subst (λ (l : ℕ). IsNoted pages b h2 at l) is last))
        (cases_lt j i)

    widen : (n j : ℕ) → IsPast pages w.front at i n j → IsPast pages w.front at (i + 1) n j
    widen n j (inl p) = inl p
    widen n j (inr p) = inr (p.0, let less = p.1 in omega (arith, less))

    found : (r : ℕ) (k : List ℕ) (n : ℕ) (t : Bool) → is_at r k new ≡ t → cond (is_at r k new) (Some at) (h r k) ≡ Some n
        → (j : ℕ) × IsPast pages w.front at (i + 1) n j × (is_at r k (entry_at (pages n) j) ≡ true)
    found r k n true here is =
        let some : Some at ≡ Some n = sym (ap (λ t. cond t (Some at) (h r k)) here) ∙ is in
        let same : at ≡ n = cc in
        (i, inr (sym same, omega arith), subst (λ (m : ℕ). is_at r k (entry_at (pages m) i) ≡ true) same here)
    found r k n false here is =
        let old = w.back r k n (sym (ap (λ t. cond t (Some at) (h r k)) here) ∙ is) in
        (old.0, widen n old.0 old.1, old.2)

-- one page more
pub passed_page : (pages : PageBytes) (b at i next : ℕ) (h : ℕ → List ℕ → Option ℕ) → ArePassed pages b at i h → i ≡ count_of (pages at) → at ≢ 0 → next ≡ next_of (pages at) → ArePassed pages b next 0 h
passed_page pages b at i next h w all real then = record {
  front = w.front ++ at ∷ [];
  walk = subst (Walk (nodes pages) b (w.front ++ at ∷ [])) (sym then) (walk_more (nodes pages) b w.front at w.walk real);
  each = each;
  back = λ r k n is. let old = w.back r k n is in (old.0, widen n old.0 old.1, old.2);
}
  where
    one : (n j : ℕ) → j < count_of (pages n) → IsIn n w.front ⊎ (n ≡ at) → IsNoted pages b h n j
    one n j lt (inl there) = w.each n j (inl (there, lt))
    one n j lt (inr here) = w.each n j (inr (here, subst (λ (m : ℕ). j < m) (ap (λ (m : ℕ). count_of (pages m)) here ∙ sym all) lt))

    each : (n j : ℕ) → IsPast pages (w.front ++ at ∷ []) next 0 n j → IsNoted pages b h n j
    each n j (inl p) = one n j p.1 (in_split n w.front at p.0)
    each n j (inr p) = absurd (let lt = p.1 in omega (arith, lt))

    widen : (n j : ℕ) → IsPast pages w.front at i n j → IsPast pages (w.front ++ at ∷ []) next 0 n j
    widen n j (inl p) = inl (in_push n w.front at p.0, p.1)
    widen n j (inr p) = inl (subst (λ (m : ℕ). IsIn m (w.front ++ at ∷ [])) (sym p.0) (in_last w.front at), subst (λ (m : ℕ). j < m) (all ∙ ap (λ (m : ℕ). count_of (pages m)) (sym p.0)) p.1)

-- where the bucket has no more pages, each entry of it is alone
pub passed_end : (pages : PageBytes) (b at : ℕ) (h : ℕ → List ℕ → Option ℕ) → ArePassed pages b at 0 h → at ≡ 0 → (p : ℕ) → IsOn pages b p → AreAlone pages b p
passed_end pages b at h w none p on i lt = record {
  own = here.own;
  first = here.first;
  behind = λ ns a. subst (Each (λ n. look e.relation e.key (entries (pages n)) ≡ None)) (linked_same (nodes pages) (next_of (pages p)) parts.0 ns rest a) (lacks parts.0 others inside);
}
  where
    e : Entry
    e = entry_at (pages p) i

    linked : Linked (nodes pages) b w.front
    linked = walk_linked (nodes pages) b w.front at none w.walk

    parts : (back : List ℕ) × (w.front ≡ on.front ++ p ∷ back)
    parts = walk_splits (nodes pages) b on.front p w.front on.walk on.real linked

    whole : Linked (nodes pages) b (on.front ++ p ∷ parts.0)
    whole = subst (Linked (nodes pages) b) parts.1 linked

    rest : Linked (nodes pages) (next_of (pages p)) parts.0
    rest = (linked_at (nodes pages) b on.front p parts.0 whole).2

    others : Each (λ n. n ≢ p) parts.0
    others = behind (nodes pages) b on.front p parts.0 whole

    all_in : Each (λ n. IsIn n w.front) (p ∷ parts.0)
    all_in = each_behind (λ n. IsIn n w.front) on.front (p ∷ parts.0) (subst (Each (λ n. IsIn n w.front)) parts.1 (each_in w.front))

    inside : Each (λ n. IsIn n w.front) parts.0
    inside = all_in.1

    here : IsNoted pages b h p i
    here = w.each p i (inl (all_in.0, lt))

    -- another page's entry is of another key
    apart : (n : ℕ) → n ≢ p → IsIn n w.front → (j : ℕ) → j < count_of (pages n) → is_at e.relation e.key (entry_at (pages n) j) ≡ false
    apart n ne is j less = false_from_ne_true (is_at e.relation e.key (entry_at (pages n) j)) (λ t.
        let q = at_parts e.relation e.key (entry_at (pages n) j) t in
        let there = (w.each n j (inl (is, less))).page in
        let same : h (entry_at (pages n) j).relation (entry_at (pages n) j).key ≡ h e.relation e.key = ap (λ (r : ℕ). h r (entry_at (pages n) j).key) q.0 ∙ ap (λ (k : List ℕ). h e.relation k) q.1 in
        let both : Some n ≡ Some p = sym there ∙ same ∙ here.page in
        ne cc)

    lacks : (ns : List ℕ) → Each (λ n. n ≢ p) ns → Each (λ n. IsIn n w.front) ns → Each (λ n. look e.relation e.key (entries (pages n)) ≡ None) ns
    lacks [] ne is = tt
    lacks (n ∷ ns) ne is = (lacks_page e.relation e.key (pages n) (apart n ne.0 is.0), lacks ns ne.1 is.1)

-- an entry that is in the bucket of another hash
pub passed_wrong : (pages : PageBytes) (b at i : ℕ) (h : ℕ → List ℕ → Option ℕ) → ArePassed pages b at i h → at ≢ 0 → i < count_of (pages at)
    → pointer_at (pages 1) (hash (entry_at (pages at) i).key % 2 ^ depth_in (pages 1)) ≢ b → IsMisplaced pages b at
passed_wrong pages b at i h w real lt other = (record { front = w.front; walk = w.walk; real = real }, λ alone. other (alone i lt).own)

-- a key that is noted already
pub passed_twice : (total : ℕ) (pages : PageBytes) (b at i n : ℕ) (h : ℕ → List ℕ → Option ℕ) → ArePassed pages b at i h → at ≢ 0 → i < count_of (pages at) → IsFinite total pages at
    → h (entry_at (pages at) i).relation (entry_at (pages at) i).key ≡ Some n → IsMisplaced pages b n
passed_twice total pages b at i n h w real lt finite some = go (w.back new.relation new.key n some)
  where
    new : Entry
    new = entry_at (pages at) i

    go : (j : ℕ) × IsPast pages w.front at i n j × (is_at new.relation new.key (entry_at (pages n) j) ≡ true) → IsMisplaced pages b n
    go (j, inl p, is) =
        let on = walk_to (nodes pages) b w.front at n w.walk p.0 in
        let tail = walk_behind (nodes pages) b w.front at finite.chain n w.walk finite.linked p.0 in
        let e = entry_at (pages n) j in
        let q = at_parts new.relation new.key e is in (
          record { front = on.0; walk = on.1; real = on.2 },
          λ alone.
              let lacking = each_behind (λ m. look e.relation e.key (entries (pages m)) ≡ None) tail.0 finite.chain ((alone j p.1).behind (tail.0 ++ finite.chain) tail.1) in
              let here = first_each (nodes pages) (λ m. look e.relation e.key (entries (pages m)) ≡ None) at finite.chain finite.linked real lacking in
              both_ways (is_at e.relation e.key new) (page_lacks e.relation e.key (pages at) i lt here) (at_from e.relation e.key new (sym q.0) (sym q.1)),
        )
    go (j, inr p, is) = (
      record { front = w.front; walk = subst (Walk (nodes pages) b w.front) (sym p.0) w.walk; real = λ e. real (sym p.0 ∙ e) },
      λ alone. both_ways (holds new.relation new.key (pages at) j)
          ((subst (λ (m : ℕ). AreAlone pages b m) p.0 alone i lt).first.before j p.1)
          (subst (λ (m : ℕ). is_at new.relation new.key (entry_at (pages m) j) ≡ true) p.0 is),
    )

-- ---- along one bucket

-- the walk on its way, and what is left of the chain
pub record IsWalking (total : ℕ) (pages : PageBytes) (b at steps : ℕ) (h : ℕ → List ℕ → Option ℕ) : Type 0 where
  pub passed : ArePassed pages b at 0 h
  pub finite : IsFinite total pages at
  pub kinds : Each (λ n. kind pages n ≡ 2) finite.chain
  pub few : length finite.chain + steps ≤ total

pub walking_start : (total : ℕ) (pages : PageBytes) (homes : List ℕ) (b : ℕ) (h : ℕ → List ℕ → Option ℕ) → AreKinds total pages → IsMarked pages homes b → ((r : ℕ) (k : List ℕ) → h r k ≡ None) → IsWalking total pages b b 0 h
walking_start total pages homes b h kinds m none = record {
  passed = passed_start pages b h none;
  finite = record { chain = m.chain; linked = m.linked; within = within; few = few };
  kinds = taken;
  few = omega (arith, few);
}
  where
    taken : Each (λ n. kind pages n ≡ 2) m.chain
    taken = each_map (IsMember pages homes b) (λ n. kind pages n ≡ 2) (λ n member. member.kind) m.chain m.each

    within : Each (λ n. n < total) m.chain
    within = each_map (λ n. kind pages n ≡ 2) (λ n. n < total) (λ n two. kinds.within n (λ z. let w : kind pages n ≡ 0 = z in omega (arith, two, w))) m.chain taken

    few : length m.chain ≤ total
    few = short total m.chain within (chain_distinct (nodes pages) b m.chain m.linked)

pub walking_inside : (total : ℕ) (pages : PageBytes) (b at steps : ℕ) (h : ℕ → List ℕ → Option ℕ) → IsWalking total pages b at steps h → at ≢ 0 → at < total
walking_inside total pages b at steps h w real = first_each (nodes pages) (λ n. n < total) at w.finite.chain w.finite.linked real w.finite.within

pub walking_kind : (total : ℕ) (pages : PageBytes) (b at steps : ℕ) (h : ℕ → List ℕ → Option ℕ) → IsWalking total pages b at steps h → at ≢ 0 → kind pages at ≡ 2
walking_kind total pages b at steps h w real = first_each (nodes pages) (λ n. kind pages n ≡ 2) at w.finite.chain w.finite.linked real w.kinds

pub walking_more : (total : ℕ) (pages : PageBytes) (b at next steps : ℕ) (h h2 : ℕ → List ℕ → Option ℕ) → IsWalking total pages b at steps h → at ≢ 0 → next ≡ next_of (pages at)
    → ArePassed pages b (next_of (pages at)) 0 h2 → IsWalking total pages b next (steps + 1) h2
walking_more total pages b at next steps h h2 w real then passed = go w.finite.chain w.finite.linked w.finite.within w.kinds w.few
  where
    go : (chain : List ℕ) → Linked (nodes pages) at chain → Each (λ n. n < total) chain → Each (λ n. kind pages n ≡ 2) chain → length chain + steps ≤ total → IsWalking total pages b next (steps + 1) h2
    go [] linked within kinds few = absurd (real linked)
    go (n ∷ ns) linked within kinds few = record {
      passed = subst (λ (p : ℕ). ArePassed pages b p 0 h2) (sym then) passed;
      finite = record { chain = ns; linked = subst (λ (p : ℕ). Linked (nodes pages) p ns) (ap (λ (p : ℕ). next_of (pages p)) (sym linked.0) ∙ sym then) linked.2; within = within.1; few = omega (arith, few) };
      kinds = kinds.1;
      few = omega (arith, few);
    }

-- after so many steps as there are pages, none is left
pub walking_all : (total : ℕ) (pages : PageBytes) (b at steps : ℕ) (h : ℕ → List ℕ → Option ℕ) → IsWalking total pages b at steps h → total ≤ steps → at ≡ 0
walking_all total pages b at steps h w all = go w.finite.chain w.finite.linked w.few
  where
    go : (chain : List ℕ) → Linked (nodes pages) at chain → length chain + steps ≤ total → at ≡ 0
    go [] linked few = linked
    go (n ∷ ns) linked few = absurd (omega (arith, few, all))

-- ---- all buckets

-- the bucket of a page that has a mark
pub marked_home : (pages : PageBytes) (homes : List ℕ) (done b : ℕ) → AreMarked pages homes done → b ≢ 0 → get_or homes b 0 ≡ b → IsMarked pages homes b
marked_home pages homes done b marked real home =
    let r = marked.back b (λ e. real (sym home ∙ e)) in
    subst (IsMarked pages homes) (sym r.2 ∙ home) (marked.each r.0 r.1)

-- all pages of a bucket are settled, where all their entries are alone
pub bucket_settles : (pages : PageBytes) (homes : List ℕ) (done b : ℕ) → AreMarked pages homes done → b ≢ 0 → get_or homes b 0 ≡ b → ((p : ℕ) → IsOn pages b p → AreAlone pages b p) → IsBegun pages homes b
bucket_settles pages homes done b marked real home alone = record {
  home = λ e. real (sym home ∙ e);
  bucket = λ _ n is. record {
    home = λ e. real (sym is ∙ e);
    each = subst (λ (c : ℕ). AreAlone pages c n) (sym is) (alone n (let r = marked.back n (λ e. real (sym is ∙ e)) in subst (λ (c : ℕ). IsOn pages c n) (sym r.2 ∙ is) r.3));
  };
}

pub misplaced_unsettled : (pages : PageBytes) (homes : List ℕ) (done b p : ℕ) → AreMarked pages homes done → b ≢ 0 → get_or homes b 0 ≡ b → IsMisplaced pages b p → (kind pages p ≡ 2) × (IsSettled pages homes p → ⊥)
misplaced_unsettled pages homes done b p marked real home wrong =
    let m = marked_home pages homes done b marked real home in
    let member = met (nodes pages) (IsMember pages homes b) b wrong.0.front p m.chain wrong.0.walk wrong.0.real m.linked m.each in
    (member.kind, λ settled. wrong.1 (subst (λ (c : ℕ). AreAlone pages c p) member.home settled.each))

-- if this holds of each page, all are settled
pub all_settled : (total : ℕ) (pages : PageBytes) (homes : List ℕ) (done : ℕ) → AreKinds total pages → AreMarked pages homes done → ((p : ℕ) → p < total → Settles pages homes p)
    → (p : ℕ) → kind pages p ≡ 2 → IsSettled pages homes p
all_settled total pages homes done kinds marked outcome p two =
    let below : (n : ℕ) → kind pages n ≡ 2 → n < total = λ n is. kinds.within n (λ z. let w : kind pages n ≡ 0 = z in omega (arith, is, w)) in
    let some = (outcome p (below p two) two).home in
    let b = get_or homes p 0 in
    let r = marked.back p some in
    let m = subst (IsMarked pages homes) (sym r.2) (marked.each r.0 r.1) in
    let member = first_each (nodes pages) (IsMember pages homes b) b m.chain m.linked some m.each in
    (outcome b (below b member.kind) member.kind).bucket member.home p refl

-- ---- what follows from an answer

pub none_follows : {A : Type 0} (B : ℕ → Type 0) (o : Option ℕ) → o ≡ None → MatchOption o A B → A
none_follows {A} B o none outcome = subst (λ (x : Option ℕ). MatchOption x A B) none outcome

-- what follows from either answer, where one is given
pub answer_follows : {E A C : Type 0} {B D : ℕ → Type 0} → (A → C) → ((p : ℕ) → B p → D p) → (r : Result (Option ℕ) E) → IfOk r (λ o. MatchOption o A B) → IfOk r (λ o. MatchOption o C D)
answer_follows f g (Ok None) outcome = f outcome
answer_follows f g (Ok (Some p)) outcome = g p outcome
answer_follows f g (Err e) outcome = tt

-- what follows of a page that is named
pub page_follows : {E : Type 0} (A : Type 0) {B C : ℕ → Type 0} → ((p : ℕ) → B p → C p) → (r : Result (Option ℕ) E) → IfOk r (λ o. MatchOption o A B) → IfOk r (λ o. IfSome o C)
page_follows A g (Ok None) outcome = tt
page_follows A g (Ok (Some p)) outcome = g p outcome
page_follows A g (Err e) outcome = tt
