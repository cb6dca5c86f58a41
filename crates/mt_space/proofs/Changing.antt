-- Pages of which one is replaced, and lists of changes.
use Rattle.std.proofs.Common.{◌≡◌, ◌≢◌, ◌<◌, inl, inr, ℕ, zero, suc, List, [], ◌∷◌, ◌++◌, length, get_or, Option, None, Some, refl, sym, ◌∙◌, ap, subst, arith}
use mathlib.Core.Path.{fun_ext}
use Rattle.std.proofs.lemmas.Bool.{cases_eq}
use Rattle.std.proofs.lemmas.Bool.Decides.{nat_tests}
use Rattle.mt_base.specs.Edits.{patched}
use Rattle.mt_space.specs.declared.changes.PageChange.{PageChange}
use Rattle.mt_space.specs.Changes.{PageBytes, replaced, after, IsUntouched, IsShort, AreShort}

pub replaced_here : (p q : ℕ) (bytes : List ℕ) (pages : PageBytes) → q ≡ p → replaced p bytes pages q ≡ bytes
unfolding replaced
replaced_here p q bytes pages is = grind (arith, nat_tests)

pub replaced_other : (p q : ℕ) (bytes : List ℕ) (pages : PageBytes) → q ≢ p → replaced p bytes pages q ≡ pages q
unfolding replaced
replaced_other p q bytes pages ne = grind (arith, nat_tests)

-- a page with the bytes that it has
pub replaced_same : (p : ℕ) (bytes : List ℕ) (pages : PageBytes) → pages p ≡ bytes → replaced p bytes pages ≡ pages
replaced_same p bytes pages is = fun_ext (λ q. elim (cases_eq q p) [
  | inl same ↦ replaced_here p q bytes pages same ∙ sym is ∙ sym (ap pages same)
  | inr other ↦ replaced_other p q bytes pages other
])

-- one change more
pub after_push : (cs : List PageChange) (c : PageChange) (pages : PageBytes) → after (cs ++ c ∷ []) pages ≡ replaced c.page (patched c.edits.items (after cs pages c.page)) (after cs pages)
after_push [] c pages = refl
after_push (d ∷ cs) c pages = after_push cs c (replaced d.page (patched d.edits.items (pages d.page)) pages)

-- a page that no change names stays
pub after_untouched : (cs : List PageChange) (pages : PageBytes) (p : ℕ) → IsUntouched cs p → after cs pages p ≡ pages p
after_untouched [] pages p none = refl
after_untouched (c ∷ cs) pages p none = after_untouched cs (replaced c.page (patched c.edits.items (pages c.page)) pages) p none.1 ∙ replaced_other c.page p (patched c.edits.items (pages c.page)) pages (λ e. none.0 (sym e))

pub untouched_push : (cs : List PageChange) (c : PageChange) (p : ℕ) → c.page ≢ p → IsUntouched cs p → IsUntouched (cs ++ c ∷ []) p
untouched_push [] c p ne none = (ne, tt)
untouched_push (d ∷ cs) c p ne none = (none.0, untouched_push cs c p ne none.1)

pub short_push : (cs : List PageChange) (c : PageChange) (pages : PageBytes) → IsShort (pages c.page) c → IsUntouched cs c.page → AreShort cs pages → AreShort (cs ++ c ∷ []) pages
short_push [] c pages short none all = (short, tt, tt)
short_push (d ∷ cs) c pages short none all = (all.0, untouched_push cs c d.page (λ e. none.0 (sym e)) all.1, short_push cs c pages short none.1 all.2)

-- each change is as a log wants it
pub short_at : (cs : List PageChange) (i : ℕ) (d : PageChange) (pages : PageBytes) → i < length cs → AreShort cs pages → IsShort (pages (get_or cs i d).page) (get_or cs i d)
short_at [] i d pages lt all = absurd (omega arith)
short_at (c ∷ cs) zero d pages lt all = all.0
short_at (c ∷ cs) (suc i) d pages lt all = short_at cs i d pages (omega arith) all.2

-- ---- pages at hand

-- a page at hand is no other one
pub off_hand : (at_hand : ℕ → Option (List ℕ)) (p q : ℕ) (bytes : List ℕ) → at_hand p ≡ None → at_hand q ≡ Some bytes → p ≢ q
off_hand at_hand p q bytes none some same = no_bytes bytes (sym none ∙ ap at_hand same ∙ some)
  where
    no_bytes : (b : List ℕ) → None ≡ Some b → ⊥
    no_bytes b e = cc

-- where nothing changes no page does
pub none_touched : (changes : List PageChange) (p : ℕ) → changes ≡ [] → IsUntouched changes p
none_touched changes p none = subst (λ (cs : List PageChange). IsUntouched cs p) (sym none) tt
