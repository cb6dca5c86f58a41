-- The table of the places of copies, as it is made.
use Rattle.std.proofs.Common.{◌≡◌, ◌≢◌, ⊎_elim, ◌<◌, ◌+◌, ℕ, List, None, take, length, get_or, set, refl, sym, ap, ◌∙◌, subst, arith}
use Rattle.std.proofs.lemmas.Bool.{cases_eq}
use Rattle.std.proofs.lemmas.List.{get_or-set_same, get_or-set_other, get_or_default, length-set}
use Rattle.mt_base.specs.declared.limits.TheConstants.{MAX_PAGES}
use Rattle.mt_overlay.specs.Overlays.{copied, IsCopyAt}
use Rattle.mt_overlay.specs.Places.{ArePlaced}
use Rattle.mt_overlay.specs.declared.overlay.PageCopy.{PageCopy}
use Rattle.mt_overlay.proofs.Overlaid.{uncopied_more}

-- the copies before this one have their places
pub record IsPlacing (cs : List PageCopy) (places : List ℕ) (i : ℕ) : Type 0 where
  pub size : length places ≡ MAX_PAGES
  pub placed : ArePlaced cs places
  pub rest : (p : ℕ) → p < MAX_PAGES → get_or places p 0 ≡ 65535 → copied (take i cs) p ≡ None

pub placing_start : (cs : List PageCopy) (places : List ℕ) → length places ≡ MAX_PAGES → ((p : ℕ) → p < MAX_PAGES → get_or places p 0 ≡ 65535) → IsPlacing cs places 0
placing_start cs places size none = record {
  size = size;
  placed = λ p lt there. absurd (there (none p lt));
  rest = λ p lt nowhere. refl;
}

-- a copy whose page has its place, or is none of the table's
pub placing_past : (cs : List PageCopy) (places : List ℕ) (i : ℕ) (x : PageCopy) → i < length cs → x ≡ get_or cs i x
    → ((p : ℕ) → p < MAX_PAGES → get_or places p 0 ≡ 65535 → x.page ≢ p) → IsPlacing cs places i → IsPlacing cs places (i + 1)
placing_past cs places i x lt is other g = record {
  size = g.size;
  placed = g.placed;
  rest = λ p below nowhere. uncopied_more cs i p x lt (g.rest p below nowhere) (λ e. other p below nowhere (ap (λ (c : PageCopy). c.page) is ∙ e));
}

-- the first copy of a page
pub placing_first : (cs : List PageCopy) (places : List ℕ) (i : ℕ) (x : PageCopy) → i < length cs → i < 65535 → x ≡ get_or cs i x → x.page < MAX_PAGES
    → get_or places x.page 0 ≡ 65535 → IsPlacing cs places i → IsPlacing cs (set places x.page i) (i + 1)
placing_first cs places i x lt small is below nowhere g = record {
  size = length-set places x.page i ∙ g.size;
  placed = λ p within there. ⊎_elim (λ e. here p e) (λ ne. away p within ne there) (cases_eq p x.page);
  rest = λ p within none. ⊎_elim (λ (e : p ≡ x.page). absurd (let now = at p e in omega (arith, now, none, small)))
      (λ (ne : p ≢ x.page). uncopied_more cs i p x lt (g.rest p within (sym (get_or-set_other places x.page p i 0 ne) ∙ none)) (λ e. ne (sym (ap (λ (c : PageCopy). c.page) is ∙ e)))) (cases_eq p x.page);
}
  where
    at : (p : ℕ) → p ≡ x.page → get_or (set places x.page i) p 0 ≡ i
    at p e = ap (λ (q : ℕ). get_or (set places x.page i) q 0) e ∙ get_or-set_same places x.page i 0 (omega (arith, below, g.size))

    own : IsCopyAt cs x.page i
    own = record {
      inside = lt;
      page = λ c. ap (λ (d : PageCopy). d.page) (get_or_default cs i c x lt ∙ sym is);
      first = g.rest x.page below nowhere;
    }

    here : (p : ℕ) → p ≡ x.page → IsCopyAt cs p (get_or (set places x.page i) p 0)
    here p e = subst (IsCopyAt cs p) (sym (at p e)) (subst (λ (q : ℕ). IsCopyAt cs q i) (sym e) own)

    away : (p : ℕ) → p < MAX_PAGES → p ≢ x.page → get_or (set places x.page i) p 0 ≢ 65535 → IsCopyAt cs p (get_or (set places x.page i) p 0)
    away p within ne there =
        let same = get_or-set_other places x.page p i 0 ne in
        subst (IsCopyAt cs p) (sym same) (g.placed p within (λ e. there (same ∙ e)))
