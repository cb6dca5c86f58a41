-- What a reading finds wrong is a rule that a page breaks.
use Rattle.std.proofs.Common.{◌≡◌, ◌≢◌, ℕ, ◌<◌, ◌≤◌, ◌^◌, List, length, get_or, ap, sym, ◌∙◌, subst, arith, ◌⊎◌, inl, inr}
use Rattle.mt_bucket.specs.Page.{depth_of}
use Rattle.mt_space.specs.Changes.{PageBytes}
use Rattle.mt_index.specs.Maps.{Each}
use Rattle.mt_index.specs.Index.{Node}
use Rattle.mt_index.specs.Pages.{depth_in, pointer_at, node_of, IsOn}
use Rattle.mt_index.specs.Checks.{IsMember, IsMarked, AreMarked, IsStuck, IsSettled, IsAlone}
use Rattle.mt_index.specs.Broken.{IsAstray, IsPlaced}
use Rattle.mt_index.proofs.Sounds.{first_each, met}

abbrev nodes : PageBytes → ℕ → Node
nodes pages n = node_of (pages n)

-- where the walk along a bucket without a mark is stuck, its chain breaks a rule
pub stuck_astray : (total : ℕ) (pages : PageBytes) (homes : List ℕ) (done i p : ℕ) → AreMarked pages homes done → done ≤ 2 ^ depth_in (pages 1) → i < 2 ^ depth_in (pages 1)
    → ((j : ℕ) → j < done → pointer_at (pages 1) j ≢ 0) → get_or homes (pointer_at (pages 1) i) 0 ≢ pointer_at (pages 1) i → IsStuck total pages homes (pointer_at (pages 1) i) p → IsAstray total pages p
stuck_astray total pages homes done i p marked few lt real unmarked stuck = record {
  pointer = i;
  there = lt;
  front = stuck.front;
  walk = stuck.walk;
  real = stuck.real;
  cause = go stuck.cause;
}
  where
    b : ℕ
    b = pointer_at (pages 1) i

    apart : (j : ℕ) → j < done → pointer_at (pages 1) j ≡ b → ⊥
    apart j lj same =
        let m = marked.each j lj in
        let member = first_each (nodes pages) (IsMember pages homes (pointer_at (pages 1) j)) (pointer_at (pages 1) j) m.chain m.linked (real j lj) m.each in
        unmarked (ap (λ (q : ℕ). get_or homes q 0) (sym same) ∙ member.home ∙ same)

    go : (depth_of (pages p) ≢ depth_of (pages b)) ⊎ ((get_or homes p 0 ≢ 0) ⊎ ((Each (λ n. n ≢ p) stuck.front → ⊥) ⊎ (total ≤ length stuck.front)))
        → (depth_of (pages p) ≢ depth_of (pages b))
        ⊎ (((other : ℕ) × (other < 2 ^ depth_in (pages 1)) × (pointer_at (pages 1) other ≢ b) × IsOn pages (pointer_at (pages 1) other) p)
        ⊎ ((Each (λ n. n ≢ p) stuck.front → ⊥) ⊎ (total ≤ length stuck.front)))
    go (inl level) = inl level
    go (inr (inl some)) = let r = marked.back p some in inr (inl (r.0, (let lj = r.1 in omega (arith, lj, few)), apart r.0 r.1, r.3))
    go (inr (inr (inl twice))) = inr (inr (inl twice))
    go (inr (inr (inr all))) = inr (inr (inr all))

-- where all buckets are marked, a page that is placed is settled
pub placed_settles : (pages : PageBytes) (homes : List ℕ) (p : ℕ) → AreMarked pages homes (2 ^ depth_in (pages 1)) → ((j : ℕ) → j < 2 ^ depth_in (pages 1) → pointer_at (pages 1) j ≢ 0) → IsPlaced pages p → IsSettled pages homes p
placed_settles pages homes p marked real placed = record {
  home = λ none. real placed.pointer placed.there (sym home ∙ none);
  each = λ i lt. subst (λ (b : ℕ). IsAlone pages b p i) (sym home) (placed.each i lt);
}
  where
    mark : IsMarked pages homes (pointer_at (pages 1) placed.pointer)
    mark = marked.each placed.pointer placed.there

    home : get_or homes p 0 ≡ pointer_at (pages 1) placed.pointer
    home = (met (nodes pages) (IsMember pages homes (pointer_at (pages 1) placed.pointer)) (pointer_at (pages 1) placed.pointer) placed.on.front p mark.chain placed.on.walk placed.on.real mark.linked mark.each).home
