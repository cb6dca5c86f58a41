-- Changes of several pages, each noted once.
use Rattle.std.proofs.Common.{◌≡◌, ◌≢◌, ℕ, ◌+◌, ◌≤◌, List, [], ◌∷◌, length, refl, sym, ◌∙◌, subst, arith}
use Rattle.mt_space.specs.declared.changes.PageChange.{PageChange}
use Rattle.mt_space.specs.Changes.{PageBytes, replaced, after, IsUntouched, AreShort}
use Rattle.mt_space.proofs.Changing.{after_untouched}
use Rattle.mt_index.specs.Maps.{Each}
use Rattle.mt_index.specs.Pages.{Turns}
use Rattle.mt_index.specs.Halves.{Notes}
use Rattle.mt_index.proofs.Lists.{each_map}
use Rattle.mt_index.proofs.Overflow.{each_both}
use Rattle.mt_index.proofs.OnePage.{turns}

pub notes_none : (pages : PageBytes) (changes : List PageChange) → changes ≡ [] → Notes [] pages changes
notes_none pages changes is = subst (λ cs. Notes [] pages cs) (sym is) (record { here = tt; others = λ p off. refl; untouched = λ p off. tt; short = tt; few = omega arith })

pub notes_more : (xs : List (ℕ × List ℕ)) (pages : PageBytes) (changes changes2 : List PageChange) (p : ℕ) (old new : List ℕ) → Notes xs pages changes
    → Each (λ (x : ℕ × List ℕ). p ≢ x.0) xs → pages p ≡ old
    → ((f : PageBytes) → after changes f p ≡ old → after changes2 f ≡ replaced p new (after changes f))
    → ((f : PageBytes) → f p ≡ old → IsUntouched changes p → AreShort changes f → AreShort changes2 f)
    → ((q : ℕ) → q ≢ p → IsUntouched changes q → IsUntouched changes2 q)
    → length changes2 ≤ length changes + 1
    → Notes ((p, new) ∷ xs) pages changes2
notes_more xs pages changes changes2 p old new n off is noted short others count = record {
  here = (
    t.here,
    each_map (λ (x : ℕ × List ℕ). (p ≢ x.0) × (after changes pages x.0 ≡ x.1)) (λ (x : ℕ × List ℕ). after changes2 pages x.0 ≡ x.1)
        (λ x h. t.others x.0 (λ e. h.0 (sym e)) ∙ h.1) xs (each_both (λ (x : ℕ × List ℕ). p ≢ x.0) (λ (x : ℕ × List ℕ). after changes pages x.0 ≡ x.1) xs off n.here),
  );
  others = λ q away. t.others q away.0 ∙ n.others q away.1;
  untouched = λ q away. others q away.0 (n.untouched q away.1);
  short = short pages is (n.untouched p off) n.short;
  few = omega (arith, count, n.few);
}
  where
    t : Turns p new (after changes pages) (after changes2 pages)
    t = turns p new (after changes pages) (after changes2 pages) (noted pages (after_untouched changes pages p (n.untouched p off) ∙ is))
