-- Changes made to one page, one after the other.
use Rattle.std.proofs.Common.{◌≡◌, ◌≢◌, ◌<◌, ◌≤◌, ◌+◌, ◌-◌, ℕ, List, [], ◌∷◌, ◌++◌, All, length, get_or, take, sym, ap, ◌∙◌, subst, arith}
use Rattle.std.proofs.Props.{props}
use mathlib.Core.Logic.{∥∥₁_elim}
use Rattle.std.proofs.lemmas.List.{take_more}
use Rattle.std.proofs.lemmas.List.Elements.{All-weaker}
use Rattle.mt_base.specs.Edits.{patched, IsShortest}
use Rattle.mt_base.specs.declared.edits.Edit.{Edit}
use Rattle.mt_space.specs.Changes.{PageBytes, after, IsShort, AreShort}
use Rattle.mt_space.specs.Rooms.{mapped, free_in}
use Rattle.mt_space.specs.declared.changes.PageChange.{PageChange}
use Rattle.mt_space.proofs.Changing.{replaced_here, replaced_other, after_push, short_at}

module _ (cs : List PageChange) (i : ℕ) (c : PageChange) (pages : PageBytes) (lt : i < length cs) (is : c ≡ get_or cs i c) where
  one_more : take (i + 1) cs ≡ take i cs ++ c ∷ []
  one_more = take_more cs i c lt ∙ ap (λ (d : PageChange). take i cs ++ d ∷ []) (sym is)

  -- the next change is of this page
  pub after_here : (p : ℕ) → p ≡ c.page → after (take (i + 1) cs) pages p ≡ patched c.edits.items (after (take i cs) pages p)
  after_here p here =
      ap (λ (ds : List PageChange). after ds pages p) one_more
      ∙ ap (λ (f : PageBytes). f p) (after_push (take i cs) c pages)
      ∙ replaced_here c.page p (patched c.edits.items (after (take i cs) pages c.page)) (after (take i cs) pages) here
      ∙ ap (λ (q : ℕ). patched c.edits.items (after (take i cs) pages q)) (sym here)

  -- it is of another
  pub after_other : (p : ℕ) → p ≢ c.page → after (take (i + 1) cs) pages p ≡ after (take i cs) pages p
  after_other p other =
      ap (λ (ds : List PageChange). after ds pages p) one_more
      ∙ ap (λ (f : PageBytes). f p) (after_push (take i cs) c pages)
      ∙ replaced_other c.page p (patched c.edits.items (after (take i cs) pages c.page)) (after (take i cs) pages) other

  -- its edits lie within a whole page
  pub edits_within : AreShort cs pages → length (pages c.page) ≡ 4096 → All (λ (e : Edit). e.start + length e.bytes ≤ 4096) c.edits.items
  edits_within short whole =
      let here = subst (λ (d : PageChange). IsShort (pages d.page) d) (sym is) (short_at cs i c pages lt short) in
      All-weaker (IsShortest (pages c.page) (patched c.edits.items (pages c.page))) (λ (e : Edit). e.start + length e.bytes ≤ 4096) (λ e range. let within = range.within in omega arith) c.edits.items here.ranges

-- of the pages that were claimed an operation takes no more than its own
pub room_left : (changes : List PageChange) (kinds new : List ℕ) (n reserved claim : ℕ)
    → ∥ ((pages : PageBytes) × (pages 0 ≡ kinds) × AreShort changes pages × (length kinds ≡ 4096) × (reserved ≤ free_in (mapped (after changes pages 0) n) + claim)) ∥₁
    → ((pages : PageBytes) → pages 0 ≡ kinds → AreShort changes pages → new ≡ after changes pages 0) → reserved - claim ≤ free_in (mapped new n)
room_left changes kinds new n reserved claim some follows = ∥∥₁_elim some (hlevel props) (λ (pages, is, short, whole, room).
    let same : free_in (mapped new n) ≡ free_in (mapped (after changes pages 0) n) = ap (λ (bytes : List ℕ). free_in (mapped bytes n)) (follows pages is short) in omega (arith, same, room))
