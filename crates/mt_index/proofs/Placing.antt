-- An entry goes into a page with room, or into a page behind the last.
use Rattle.std.proofs.Common.{◌≡◌, ◌≢◌, ℕ, ◌<◌, ◌≤◌, ◌^◌, Bool, List, [], ◌∷◌, ◌++◌, length, ap, sym, ◌∙◌, subst, arith, get_or, ◌⊎◌, inl, inr, ⊎_elim, refl, Option, Some, None}
use Rattle.std.specs.Prelude.{IsSome}
use Rattle.std.specs.Option.{IfSome, IfNone}
use Rattle.std.proofs.lemmas.Bool.{cases_eq}
use Rattle.mt_bucket.specs.Entries.{Entry}
use Rattle.mt_bucket.specs.Page.{depth_of, next_of, count_of, entries, KeepsHead, IsBucket}
use Rattle.mt_space.specs.Changes.{PageBytes}
use Rattle.mt_space.specs.Kinds.{kind}
use Rattle.mt_index.specs.Maps.{Map}
use Rattle.mt_index.specs.Rule.{IsFull, First, Last, IsSmallest}
use Rattle.mt_index.specs.Pages.{depth_in, pointers_from, node_of, state_of, AreMap, IsDirectory, AreFormed, Turns, TakesPage, HasOne}
use Rattle.mt_index.specs.Answers.{HasRoom, IsEnd, Stays}
use Rattle.mt_index.proofs.OnePage.{no_bucket, one_page}
use Rattle.mt_index.proofs.Passing.{entries_length, passed_kind, passed_on}
use Rattle.mt_index.proofs.Free.{Fresh}
use Rattle.mt_index.proofs.Chaining.{behind_chained, chained_in, chained_of}

-- ---- room

pub pushed : {X : Type 0} (page new : List ℕ) (e : Entry) (o : Option X) → length (entries page) < 58 → IfSome o (λ x. entries new ≡ entries page ++ e ∷ []) → IfNone o (count_of page ≡ 58) → entries new ≡ entries page ++ e ∷ []
pushed page new e (Some x) room did full = did
pushed page new e None room did full = absurd (omega (arith, room, full, entries_length page 8 (count_of page)))

pub put_first : (total : ℕ) (pages pages2 : PageBytes) (m : Map) (e : Entry) (p : ℕ) (new : List ℕ) → AreMap total pages m → HasRoom e.key pages p → Turns p new pages pages2
    → KeepsHead (pages p) new → entries new ≡ entries (pages p) ++ e ∷ [] → First e p (state_of pages) (state_of pages2)
put_first total pages pages2 m e p new a h t head is = record {
  puts = record {
    on = passed_on (IsFull (state_of pages)) pages e.key p h.steps h.passed;
    room = h.room;
    change = one_page pages pages2 p new _ (no_bucket total pages m p a (passed_kind (IsFull (state_of pages)) total pages m e.key p h.steps a h.passed)) t head is;
  };
  before = h.passed.each;
}

pub put_stays : (total : ℕ) (pages pages2 : PageBytes) (p : ℕ) (new : List ℕ) → (0 ≢ p) × (1 ≢ p) → kind pages p ≡ 2 → Turns p new pages pages2 → Stays total pages pages2
put_stays total pages pages2 p new off is t = record {
  size = ap length same;
  kinds = λ n some. same_kind n;
  taken = λ n none some. absurd (some (same_kind n ∙ none));
  bytes = λ n z o away. t.others n (λ e. away (same_kind n ∙ ap (kind pages) e ∙ is));
}
  where
    same : pages2 0 ≡ pages 0
    same = t.others 0 off.0

    same_kind : (n : ℕ) → kind pages2 n ≡ kind pages n
    same_kind n = ap (λ (c : List ℕ). get_or c n 0) same

-- ---- a page more

-- the page q is taken for the entry, and chained behind z
pub record Chained (total : ℕ) (e : Entry) (z q : ℕ) (pages pages2 : PageBytes) : Type 0 where
  pub fresh : Fresh (pages 0) total q
  pub taken : TakesPage q (pages 0) (pages2 0)
  pub page : HasOne (depth_of (pages z)) e (pages2 q)
  pub depth : depth_of (pages2 z) ≡ depth_of (pages z)
  pub next : next_of (pages2 z) ≡ q
  pub entries : entries (pages2 z) ≡ entries (pages z)
  pub others : (n : ℕ) → n ≢ 0 → n ≢ q → n ≢ z → pages2 n ≡ pages n

-- a free page is none of the fixed ones, and no bucket's
pub fresh_off : (total : ℕ) (pages : PageBytes) (m : Map) (q : ℕ) → AreMap total pages m → kind pages q ≡ 0 → (0 ≢ q) × (1 ≢ q)
fresh_off total pages m q a is = (
  λ e. let k : kind pages 0 ≡ 0 = ap (kind pages) e ∙ is in let f = a.space_fixed in omega (arith, k, f),
  λ e. let k : kind pages 1 ≡ 0 = ap (kind pages) e ∙ is in let f = a.directory_fixed in omega (arith, k, f),
)

-- a page that is taken in the map is this one
pub taken_is : (q p : ℕ) (old new : List ℕ) → TakesPage q old new → get_or old p 0 ≡ 0 → get_or new p 0 ≢ 0 → p ≡ q
taken_is q p old new t free some = ⊎_elim
    (λ (same : p ≡ q). same)
    (λ (ne : p ≢ q). absurd (some (t.others p ne ∙ free)))
    (cases_eq p q)

-- a page with bytes is at hand
pub seen_at : (at_hand : ℕ → Option (List ℕ)) (p q : ℕ) (bytes : List ℕ) → p ≡ q → at_hand q ≡ Some bytes → IsSome (at_hand p)
seen_at at_hand p q bytes same is = subst (λ (o : Option (List ℕ)). IsSome o) (sym (ap at_hand same ∙ is)) refl

pub chain_last : (total : ℕ) (pages pages2 : PageBytes) (m : Map) (e : Entry) (z q : ℕ) (alone : Bool) → AreMap total pages m → IsEnd e.key pages z alone → Chained total e z q pages pages2
    → Last e z q (state_of pages) (state_of pages2)
chain_last total pages pages2 m e z q alone a end w = record {
  puts = record {
    on = passed_on (IsFull (state_of pages)) pages e.key z end.steps end.passed;
    last = end.last;
    g = ap depth_in directory;
    pointers = ap (λ (c : List ℕ). pointers_from c 8 (2 ^ depth_in c)) directory;
    takes = record { real = λ e. off.0 (sym e); free = w.fresh.free; taken = w.taken.taken; others = w.taken.others };
    change = record {
      page = λ j. record { depth = w.page.depth j; next = w.page.next j; entries = w.page.entries j };
      last = λ j. record { depth = w.depth j; next = w.next j; entries = w.entries j };
      others = λ n is not_last. ap node_of (w.others n (λ e. (no_bucket total pages m n a is).0 (sym e)) (λ e. not_free n is (ap (kind pages) e ∙ w.fresh.free)) not_last);
    };
  };
  before = end.passed.each;
  itself = end.full;
}
  where
    two : kind pages z ≡ 2
    two = passed_kind (IsFull (state_of pages)) total pages m e.key z end.steps a end.passed

    off : (0 ≢ q) × (1 ≢ q)
    off = fresh_off total pages m q a w.fresh.free

    off_z : (0 ≢ z) × (1 ≢ z)
    off_z = no_bucket total pages m z a two

    not_free : (n : ℕ) → kind pages n ≡ 2 → kind pages n ≡ 0 → ⊥
    not_free n is none = omega (arith, is, none)

    directory : pages2 1 ≡ pages 1
    directory = w.others 1 (λ e. absurd (omega (arith, e))) off.1 off_z.1

pub chain_smallest : (total : ℕ) (pages : PageBytes) (q : ℕ) → Fresh (pages 0) total q → IsSmallest (state_of pages) q
chain_smallest total pages q f = (f.free, f.first)

pub chain_stays : (total : ℕ) (pages pages2 : PageBytes) (m : Map) (e : Entry) (z q : ℕ) → AreMap total pages m → kind pages z ≡ 2 → Chained total e z q pages pages2 → Stays total pages pages2
chain_stays total pages pages2 m e z q a two w = record {
  size = w.taken.size;
  kinds = λ p some. w.taken.others p (λ e. some (ap (kind pages) e ∙ w.fresh.free));
  taken = λ p none some. took p none some (cases_eq p q);
  bytes = λ p not_map o away. w.others p not_map (λ e. away (ap (kind pages2) e ∙ w.taken.taken)) (λ e. away (ap (kind pages2) e ∙ w.taken.others z (λ f. not_free (sym (ap (kind pages) f) ∙ two)) ∙ two));
}
  where
    not_free : kind pages q ≡ 2 → ⊥
    not_free is = omega (arith, is, w.fresh.free)

    took : (p : ℕ) → kind pages p ≡ 0 → kind pages2 p ≢ 0 → (p ≡ q) ⊎ (p ≡ q → ⊥) → (kind pages2 p ≡ 2) × (p < total)
    took p none some (inl is) = (ap (kind pages2) is ∙ w.taken.taken, subst (λ (x : ℕ). x < total) (sym is) w.fresh.within)
    took p none some (inr off) = absurd (some (w.taken.others p off ∙ none))

pub chain_formed : (relations total : ℕ) (pages pages2 : PageBytes) (m : Map) (e : Entry) (z q : ℕ) → AreMap total pages m → kind pages z ≡ 2 → Chained total e z q pages pages2
    → Last e z q (state_of pages) (state_of pages2) → (depth_of (pages z) ≤ 9 → IsBucket relations total (pages2 q)) → (q < total → IsBucket relations total (pages z) → IsBucket relations total (pages2 z)) → AreFormed relations total pages → AreFormed relations total pages2
chain_formed relations total pages pages2 m e z q a two w last new end f = record {
  directory = subst IsDirectory (sym directory) f.directory;
  buckets = λ p is. bucket p is (cases_eq p q) (cases_eq p z);
  chained = chained_of pages2 (behind_chained (state_of pages) (state_of pages2) m e z q a.index last.puts (chained_in pages f.chained));
}
  where
    off : (0 ≢ q) × (1 ≢ q)
    off = fresh_off total pages m q a w.fresh.free

    directory : pages2 1 ≡ pages 1
    directory = w.others 1 (λ e. absurd (omega (arith, e))) off.1 (no_bucket total pages m z a two).1

    bucket : (p : ℕ) → kind pages2 p ≡ 2 → (p ≡ q) ⊎ (p ≡ q → ⊥) → (p ≡ z) ⊎ (p ≡ z → ⊥) → IsBucket relations total (pages2 p)
    bucket p is (inl here) c = subst (λ (x : ℕ). IsBucket relations total (pages2 x)) (sym here) (new (f.buckets z two).shallow)
    bucket p is (inr old) (inl here) = subst (λ (x : ℕ). IsBucket relations total (pages2 x)) (sym here) (end w.fresh.within (f.buckets z two))
    bucket p is (inr old) (inr away) =
        let was : kind pages p ≡ 2 = sym (w.taken.others p old) ∙ is in
        subst (IsBucket relations total) (sym (w.others p (λ e. (no_bucket total pages m p a was).0 (sym e)) old away)) (f.buckets p was)
