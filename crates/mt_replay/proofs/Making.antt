-- Changes made in pages in memory.
use Rattle.std.proofs.Common.{◌≡◌, ◌≢◌, inl, inr, ℕ, zero, suc, ◌+◌, ◌<◌, ◌≤◌, List, [], ◌∷◌, ◌++◌, Option, Some, None, All, length, map, take, get_or, set, refl, sym, ap, ◌∙◌, subst, arith}
use Rattle.std.specs.Prelude.{slice_get, IsSome}
use Rattle.mt_overlay.specs.Overlays.{AreAtHand}
use Rattle.std.specs.List.{AllByRecursion}
use Rattle.std.proofs.lemmas.Bool.{cases_eq, cases_lt}
use Rattle.std.proofs.lemmas.List.{length-set, get_or-set_other, map-append, take_more}
use Rattle.std.proofs.lemmas.List.Elements.{All-weaker, recursion_from_All}
use Rattle.std.proofs.lemmas.Grind.{get_or-set_at}
use Rattle.std.proofs.lemmas.Option.{slice_get_past, get_or_from_slice_get}
use Rattle.mt_base.specs.Edits.{patched, IsShortest}
use Rattle.mt_base.specs.declared.edits.Edit.{Edit}
use Rattle.mt_space.specs.Changes.{PageBytes, Agrees, replaced, after, IsShort, AreShort}
use Rattle.mt_space.specs.declared.changes.PageChange.{PageChange}
use Rattle.mt_space.proofs.Changing.{replaced_here, replaced_other}
use Rattle.mt_space.specs.PageLists.{AreWhole}
use Rattle.mt_replay.specs.Memory.{AreFirst, SameBut, Sets, Makes}

pub first_agrees : (items : List (List ℕ)) (f : PageBytes) → AreFirst items f → Agrees (λ p. slice_get items p) f
first_agrees items f first p bytes there = elim (cases_lt p (length items)) [
  | inl lt ↦ sym (first p lt) ∙ get_or_from_slice_get items p bytes [] there
  | inr le ↦ absurd (let none : None ≡ Some bytes = sym (slice_get_past items p le) ∙ there in cc)
]

after_append : (xs ys : List PageChange) (f : PageBytes) → after (xs ++ ys) f ≡ after ys (after xs f)
after_append [] ys f = refl
after_append (c ∷ cs) ys f = after_append cs ys (replaced c.page (patched c.edits.items (f c.page)) f)

pub after_at : (cs : List PageChange) (i : ℕ) (c : PageChange) (f : PageBytes) → i < length cs → c ≡ get_or cs i c → after (take (i + 1) cs) f ≡ replaced c.page (patched c.edits.items (after (take i cs) f c.page)) (after (take i cs) f)
after_at cs i c f lt is = ap (λ (ds : List PageChange). after ds f) (take_more cs i c lt ∙ ap (λ (d : PageChange). take i cs ++ d ∷ []) (sym is)) ∙ after_append (take i cs) (c ∷ []) f

pub first_replaced : (items : List (List ℕ)) (p : ℕ) (es : List Edit) (f : PageBytes) → p < length items → AreFirst items f → AreFirst (set items p (patched es (get_or items p []))) (replaced p (patched es (f p)) f)
first_replaced items p es f inside first q lt = elim (cases_eq q p) [
  | inl same ↦ get_or-set_at items p q (patched es (get_or items p [])) [] same inside ∙ ap (patched es) (first p inside) ∙ sym (replaced_here p q (patched es (f p)) f same)
  | inr other ↦ get_or-set_other items p q (patched es (get_or items p [])) [] other ∙ first q (let size = length-set items p (patched es (get_or items p [])) in omega arith) ∙ sym (replaced_other p q (patched es (f p)) f other)
]

pub short_at : (cs : List PageChange) (i : ℕ) (c : PageChange) (f : PageBytes) → i < length cs → c ≡ get_or cs i c → AreShort cs f → IsShort (f c.page) c
short_at [] i c f lt is short = absurd (omega arith)
short_at (d ∷ ds) zero c f lt is short = subst (λ (x : PageChange). IsShort (f x.page) x) (sym is) short.0
short_at (d ∷ ds) (suc i) c f lt is short = short_at ds i c f (omega arith) is short.2

pub inside_at : (n : ℕ) (cs : List PageChange) (i : ℕ) (c : PageChange) → i < length cs → c ≡ get_or cs i c → AllByRecursion (λ (x : PageChange). x.page < n) cs → c.page < n
inside_at n [] i c lt is all = absurd (omega arith)
inside_at n (d ∷ ds) zero c lt is all = subst (λ (x : PageChange). x.page < n) (sym is) all.0
inside_at n (d ∷ ds) (suc i) c lt is all = inside_at n ds i c (omega arith) is all.1

pub ranges_fit : (old : List ℕ) (c : PageChange) → length old ≡ 4096 → IsShort old c → All (λ (e : Edit). e.start + length e.bytes ≤ 4096) c.edits.items
ranges_fit old c size short = All-weaker (IsShortest old (patched c.edits.items old)) (λ (e : Edit). e.start + length e.bytes ≤ 4096) (λ e k. let w = k.within in omega arith) c.edits.items short.ranges

-- each change is of a page that is at hand
pub inside_all : (items : List (List ℕ)) (cs : List PageChange) → AreAtHand (λ p. slice_get items p) cs → AllByRecursion (λ (c : PageChange). c.page < length items) cs
inside_all items cs there = recursion_from_All (λ (c : PageChange). c.page < length items) cs
    (All-weaker (λ (c : PageChange). IsSome (slice_get items c.page)) (λ (c : PageChange). c.page < length items) (λ c some. elim (cases_lt c.page (length items)) [
      | inl lt ↦ lt
      | inr le ↦ absurd (none_some (slice_get items c.page) some (slice_get_past items c.page le))
    ]) cs there)
  where
    none_some : (o : Option (List ℕ)) → IsSome o → o ≡ None → ⊥
    none_some None some none = cc
    none_some (Some b) some none = cc

-- ---- one change behind others

all_front : (P : ℕ → Type 0) (xs ys : List ℕ) → AllByRecursion P (xs ++ ys) → AllByRecursion P xs
all_front P [] ys all = tt
all_front P (x ∷ xs) ys all = (all.0, all_front P xs ys all.1)

all_behind : (P : ℕ → Type 0) (xs ys : List ℕ) → AllByRecursion P (xs ++ ys) → AllByRecursion P ys
all_behind P [] ys all = all
all_behind P (x ∷ xs) ys all = all_behind P xs ys all.1

pub same_but_both : (xs ys : List ℕ) (old mid new : List (List ℕ)) → SameBut xs old mid → SameBut ys mid new → SameBut (xs ++ ys) old new
same_but_both xs ys old mid new first second p all = second p (all_behind (λ q. q ≢ p) xs ys all) ∙ first p (all_front (λ q. q ≢ p) xs ys all)

-- the page of one change more
page_more : (cs : List PageChange) (i : ℕ) (c : PageChange) → i < length cs → c ≡ get_or cs i c → map (λ (d : PageChange). d.page) (take (i + 1) cs) ≡ map (λ (d : PageChange). d.page) (take i cs) ++ c.page ∷ []
page_more cs i c lt is = ap (map (λ (d : PageChange). d.page)) (take_more cs i c lt ∙ ap (λ (d : PageChange). take i cs ++ d ∷ []) (sym is)) ∙ map-append (λ (d : PageChange). d.page) (take i cs) (c ∷ [])

same_but_one : (mid new : List (List ℕ)) (page : ℕ) (bytes : List ℕ) → Sets mid new page bytes → SameBut (page ∷ []) mid new
same_but_one mid new page bytes s p all = ap (λ (items : List (List ℕ)). get_or items p []) s.is ∙ get_or-set_other mid page p bytes [] (λ is. all.0 (sym is))

pub makes_none : (pages : List (List ℕ)) → AreWhole pages → Makes [] pages pages
makes_none pages whole = record { whole = whole; count = refl; made = λ f first. first; others = λ p all. refl }

pub makes_then : (cs : List PageChange) (i : ℕ) (c : PageChange) (old mid new : List (List ℕ)) → i < length cs → c ≡ get_or cs i c → c.page < length old → Makes (take i cs) old mid → Sets mid new c.page (patched c.edits.items (get_or mid c.page [])) → Makes (take (i + 1) cs) old new
makes_then cs i c old mid new lt is inside m s = record {
  whole = s.whole;
  count = s.count ∙ m.count;
  made = λ f first. subst (λ (X : Type 0). X) (λ k. AreFirst (sym s.is k) (sym (after_at cs i c f lt is) k))
      (first_replaced mid c.page c.edits.items (after (take i cs) f) (subst (λ (n : ℕ). c.page < n) (sym m.count) inside) (m.made f first));
  others = subst (λ (ps : List ℕ). SameBut ps old new) (sym (page_more cs i c lt is))
      (same_but_both (map (λ (d : PageChange). d.page) (take i cs)) (c.page ∷ []) old mid new m.others (same_but_one mid new c.page _ s));
}

pub first_short : (items : List (List ℕ)) (cs : List PageChange) (i : ℕ) (c : PageChange) (f : PageBytes) → AreWhole items → i < length cs → c ≡ get_or cs i c → c.page < length items → AreFirst items f → AreShort cs f → All (λ (e : Edit). e.start + length e.bytes ≤ 4096) c.edits.items
first_short items cs i c f whole lt is inside first short = ranges_fit (f c.page) c (sym (ap length (first c.page inside)) ∙ whole c.page inside) (short_at cs i c f lt is short)
