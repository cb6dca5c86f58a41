-- The walk along a chain.
use Rattle.std.proofs.Common.{◌≡◌, ◌≢◌, ℕ, suc, ◌+◌, ◌<◌, ◌≤◌, ◌%◌, ◌^◌, List, [], ◌∷◌, ◌++◌, length, Some, None, refl, ap, sym, ◌∙◌, subst, arith, length-append, nat_eq, true, false, zero, ⊎_elim}
use Rattle.std.proofs.lemmas.Bool.{both_ways, cases_eq}
use Rattle.std.proofs.lemmas.Bool.Decides.{Decides-eqb}
use Rattle.mt_base.specs.declared.numbers.RecordName.{RecordName}
use Rattle.mt_bucket.specs.Hash.{hash}
use Rattle.mt_bucket.specs.Entries.{look}
use Rattle.mt_bucket.specs.Page.{next_of, entries, entries_from, count_of}
use Rattle.mt_index.specs.Maps.{Map, Each}
use Rattle.mt_index.specs.Index.{named}
use Rattle.mt_index.specs.Steps.{Walk, OnChain}
use Rattle.mt_space.specs.Changes.{PageBytes}
use Rattle.mt_space.specs.Kinds.{kind}
use Rattle.mt_index.specs.Pages.{depth_in, pointer_at, node_of, state_of, AreMap, Passed}
use Rattle.mt_index.specs.Answers.{Lacks, Holds}
use Rattle.mt_index.proofs.Lists.{each_map, each_remove}
use Rattle.mt_index.proofs.Looking.{find_found, find_none, walk_more}
use Rattle.mt_index.proofs.Overflow.{each_push}
use Rattle.mt_index.proofs.Keeping.{on_parts}
use Rattle.mt_index.proofs.Pigeons.{short, chain_distinct}
use Rattle.mt_index.proofs.Pointers.{named_is}

pub passed_start : (P : ℕ → Type 0) (total : ℕ) (pages : PageBytes) (m : Map) (k directory : List ℕ) (h at : ℕ) → AreMap total pages m → pages 1 ≡ directory → h ≡ hash k
    → at ≡ pointer_at directory (h % 2 ^ depth_in directory) → Passed P pages k at 0
passed_start P total pages m k directory h at a is hs ats = record {
  front = [];
  walk = first;
  real = λ e. a.index.tree.real (hash k) (first ∙ e);
  each = tt;
  long = refl;
}
  where
    first : named (state_of pages) (hash k) ≡ at
    first = named_is pages (hash k) ∙ ap (λ (d : List ℕ). pointer_at d (hash k % 2 ^ depth_in d)) is
        ∙ ap (λ (x : ℕ). pointer_at directory (x % 2 ^ depth_in directory)) (sym hs) ∙ sym ats

pub passed_more : (P : ℕ → Type 0) (pages : PageBytes) (k : List ℕ) (at next steps : ℕ) (page : List ℕ) → Passed P pages k at steps → pages at ≡ page → P at
    → next ≡ next_of page → next ≢ 0 → Passed P pages k next (steps + 1)
passed_more P pages k at next steps page p is so then real = record {
  front = p.front ++ at ∷ [];
  walk = subst (Walk (λ x. node_of (pages x)) (named (state_of pages) (hash k)) (p.front ++ at ∷ [])) (ap (λ c. next_of c) is ∙ sym then)
      (walk_more (λ x. node_of (pages x)) (named (state_of pages) (hash k)) p.front at p.walk p.real);
  real = real;
  each = each_push P p.front at p.each so;
  long = length-append p.front (at ∷ []) ∙ ap (λ (n : ℕ). n + 1) p.long;
}

abbrev pub passed_on : (P : ℕ → Type 0) (pages : PageBytes) (k : List ℕ) (at steps : ℕ) → Passed P pages k at steps → OnChain (state_of pages) k at
passed_on P pages k at steps p = record { front = p.front; walk = p.walk; real = p.real }

-- it comes to pages of buckets alone
pub passed_kind : (P : ℕ → Type 0) (total : ℕ) (pages : PageBytes) (m : Map) (k : List ℕ) (at steps : ℕ) → AreMap total pages m → Passed P pages k at steps → kind pages at ≡ 2
passed_kind P total pages m k at steps a p =
    let c = on_parts (state_of pages) m a.index k at (passed_on P pages k at steps p) in
    (each_remove (λ x. kind pages x ≡ 2) p.front at c.0 (subst (Each (λ x. kind pages x ≡ 2)) c.1 (a.index.tree.kinds (hash k)))).0

-- and to fewer than there are
pub passed_ends : (P : ℕ → Type 0) (total : ℕ) (pages : PageBytes) (m : Map) (k : List ℕ) (at steps : ℕ) → AreMap total pages m → Passed P pages k at steps → total ≤ steps → ⊥
passed_ends P total pages m k at steps a p le =
    let c = on_parts (state_of pages) m a.index k at (passed_on P pages k at steps p) in
    let chain = a.index.tree.chain (named (state_of pages) (hash k)) in
    let few = short total chain
    (each_map (λ x. kind pages x ≡ 2) (λ x. x < total) (λ x is. a.within x (λ z. let w : kind pages x ≡ 0 = z in omega (arith, is, w))) chain (a.index.tree.kinds (hash k)))
    (chain_distinct (state_of pages).node (named (state_of pages) (hash k)) chain (a.index.tree.linked (hash k))) in
    let parts : length chain ≡ length (p.front ++ at ∷ c.0) = ap length c.1 in
    omega (arith, few, parts, length-append p.front (at ∷ c.0), p.long, le)

-- ---- what is found on the way

pub held_map : (total : ℕ) (pages : PageBytes) (m : Map) (r : ℕ) (k : List ℕ) (p : ℕ) (name : RecordName) → AreMap total pages m → Holds r k pages p name → m r k ≡ Some name
held_map total pages m r k p name a h = find_found (state_of pages) m a.index r k h.passed.front p name h.passed.walk h.passed.real h.passed.each h.here

pub nowhere_map : (total : ℕ) (pages : PageBytes) (m : Map) (r : ℕ) (k : List ℕ) (at steps : ℕ) (page : List ℕ) → AreMap total pages m → Passed (Lacks r k pages) pages k at steps
    → pages at ≡ page → None ≡ look r k (entries page) → next_of page ≡ 0 → m r k ≡ None
nowhere_map total pages m r k at steps page a p is none last =
    find_none (state_of pages) m a.index r k (p.front ++ at ∷ [])
    (subst (Walk (λ x. node_of (pages x)) (named (state_of pages) (hash k)) (p.front ++ at ∷ [])) (ap (λ c. next_of c) is ∙ last)
    (walk_more (λ x. node_of (pages x)) (named (state_of pages) (hash k)) p.front at p.walk p.real))
    (each_push (Lacks r k pages) p.front at p.each (ap (λ c. look r k (entries c)) is ∙ sym none))

-- ---- room on the way

pub entries_length : (c : List ℕ) (at n : ℕ) → length (entries_from c at n) ≡ n
entries_length c at zero = refl
entries_length c at (suc n) = omega (arith, entries_length c (at + 70) n)

pub full_is : (page : List ℕ) (count : ℕ) → count ≡ count_of page → 58 ≤ count → length (entries page) ≡ 58
full_is page count is no_room = let long = entries_length page 8 (count_of page) in omega (arith, long, is, no_room)

pub room_is : (page : List ℕ) (count : ℕ) → count ≡ count_of page → count < 58 → length (entries page) < 58
room_is page count is room = let long = entries_length page 8 (count_of page) in omega (arith, long, is, room)

pub no_step : (n : ℕ) → nat_eq n 0 ≡ true → n ≡ 0
no_step n e = (Decides-eqb n 0).0 e

pub some_step : (n : ℕ) → nat_eq n 0 ≡ false → 0 < n
some_step n e = ⊎_elim (λ (z : n ≡ 0). absurd (both_ways (nat_eq n 0) e ((Decides-eqb n 0).1 z))) (λ (z : n ≡ 0 → ⊥). omega (arith, z)) (cases_eq n 0)
