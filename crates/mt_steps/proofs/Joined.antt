-- Changes of two plans that name no common page, one behind the other.
use Rattle.std.proofs.Common.{◌≡◌, ◌||◌, ◌==◌, ℕ, List, [], ◌∷◌, ◌++◌, Bool, true, false, Option, None, Some, length-append, refl, sym, ◌∙◌, subst, arith}
use Rattle.std.specs.Prelude.{All, IsSome}
use mathlib.Core.Logic.{∥∥₁_elim}
use Rattle.std.specs.List.{list_any}
use Rattle.std.proofs.lemmas.Bool.{eq-eqb}
use Rattle.std.proofs.lemmas.List.Elements.{All-append, All-head, All-tail}
use Rattle.mt_model.specs.declared.operations.Reply.{Reply}
use Rattle.mt_space.specs.declared.changes.PageChange.{PageChange}
use Rattle.mt_space.specs.Changes.{PageBytes, Agrees, after, IsUntouched, IsShort, AreShort}
use Rattle.mt_space.proofs.Changing.{after_untouched}
use Rattle.mt_overlay.specs.Overlays.{AreAtHand, names_page}
use Rattle.mt_steps.specs.PlanAnswers.{IsJoined}
use Rattle.mt_steps.proofs.Single.{Short-prop}

-- no page of the second list is one of the first
abbrev AreOff : List PageChange → List PageChange → Type 0
AreOff first [] = Unit {0}
AreOff first (c ∷ cs) = IsUntouched first c.page × AreOff first cs

-- ---- as it is tested

neither : (a b : Bool) → (a || b) ≡ false → (a ≡ false) × (b ≡ false)
neither true b is = absurd cc
neither false b is = (refl, is)

untouched_by : (first : List PageChange) (p : ℕ) → names_page first p ≡ false → IsUntouched first p
unfolding names_page
untouched_by [] p none = tt
untouched_by (d ∷ ds) p none =
    let both = neither (d.page == p) (list_any (λ (x : PageChange). x.page == p) ds) none in
    (λ same. let yes = eq-eqb d.page p same in let no = both.0 in absurd cc, untouched_by ds p both.1)

pub off_by : (first second : List PageChange) → All (λ (c : PageChange). names_page first c.page ≡ false) second → AreOff first second
off_by first [] none = tt
off_by first (c ∷ cs) none = (
  untouched_by first c.page (All-head (λ (d : PageChange). names_page first d.page ≡ false) c cs none),
  off_by first cs (All-tail (λ (d : PageChange). names_page first d.page ≡ false) c cs none),
)

-- ---- one behind the other

head_off : (c : PageChange) (first second : List PageChange) → AreOff (c ∷ first) second → IsUntouched second c.page
head_off c first [] off = tt
head_off c first (d ∷ ds) off = (λ same. off.0.0 (sym same), head_off c first ds off.1)

tail_off : (c : PageChange) (first second : List PageChange) → AreOff (c ∷ first) second → AreOff first second
tail_off c first [] off = tt
tail_off c first (d ∷ ds) off = (off.0.1, tail_off c first ds off.1)

after_both : (first second : List PageChange) (pages : PageBytes) → after (first ++ second) pages ≡ after second (after first pages)
after_both [] second pages = refl
after_both (c ∷ first) second pages = after_both first second _

untouched_both : (first second : List PageChange) (p : ℕ) → IsUntouched first p → IsUntouched second p → IsUntouched (first ++ second) p
untouched_both [] second p one two = two
untouched_both (c ∷ first) second p one two = (one.0, untouched_both first second p one.1 two)

short_both : (first second : List PageChange) (pages : PageBytes) → AreOff first second → AreShort first pages → AreShort second pages → AreShort (first ++ second) pages
short_both [] second pages off one two = two
short_both (c ∷ first) second pages off one two = (
  one.0,
  untouched_both first second c.page one.1 (head_off c first second off),
  short_both first second pages (tail_off c first second off) one.2 two,
)

-- what is short behind changes of other pages is so before them
short_before : (first second : List PageChange) (pages : PageBytes) → AreOff first second → AreShort second (after first pages) → AreShort second pages
short_before first [] pages off short = tt
short_before first (c ∷ cs) pages off short = (
  subst (λ (bytes : List ℕ). IsShort bytes c) (after_untouched first pages c.page off.0) short.0,
  short.1,
  short_before first cs pages off.1 short.2,
)

-- and of pages at hand, in all pages that are so
short_there : (at_hand : ℕ → Option (List ℕ)) (cs : List PageChange) (a b : PageBytes) → AreAtHand at_hand cs → Agrees at_hand a → Agrees at_hand b → AreShort cs a → AreShort cs b
short_there at_hand [] a b there one two short = tt
short_there at_hand (c ∷ cs) a b there one two short = (
  subst (λ (bytes : List ℕ). IsShort bytes c) (same (at_hand c.page) refl (All-head (λ (d : PageChange). IsSome (at_hand d.page)) c cs there)) short.0,
  short.1,
  short_there at_hand cs a b (All-tail (λ (d : PageChange). IsSome (at_hand d.page)) c cs there) one two short.2,
)
  where
    same : (o : Option (List ℕ)) → at_hand c.page ≡ o → IsSome o → a c.page ≡ b c.page
    same None is some = absurd cc
    same (Some bytes) is some = one c.page bytes is ∙ sym (two c.page bytes is)

pub joined : (at_hand : ℕ → Option (List ℕ)) (first second changes : List PageChange) (reply : Reply) → changes ≡ first ++ second → AreOff first second → AreAtHand at_hand first → AreAtHand at_hand second
    → ∥ ((pages : PageBytes) × Agrees at_hand pages × AreShort first pages × AreShort second (after first pages)) ∥₁ → IsJoined at_hand first second reply changes reply
joined at_hand first second changes reply is off first_there second_there some =
    subst (λ (l : List PageChange). IsJoined at_hand first second reply l reply) (sym is) (record {
      same = refl;
      there = All-append (λ (c : PageChange). IsSome (at_hand c.page)) first second first_there second_there;
      few = omega (arith, length-append first second);
      leads = λ others agree. (
        after_both first second others,
        ∥∥₁_elim some (Short-prop (first ++ second) others) (λ (pages, agrees, one, two).
            short_both first second others off (short_there at_hand first pages others first_there agrees agree one)
            (short_there at_hand second pages others second_there agrees agree (short_before first second pages off two))),
      );
    })
