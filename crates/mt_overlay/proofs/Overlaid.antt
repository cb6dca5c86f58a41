-- Copies of pages that lie over others.
use Rattle.std.proofs.Common.{◌≡◌, ◌≢◌, inl, inr, ℕ, zero, suc, add-one, ◌+◌, ◌<◌, ◌==◌, if◌then◌else◌, true, false, List, [], ◌∷◌, ◌++◌, ◌≤◌, length, get_or, set, take, drop, Option, Some, None, refl, sym, ◌∙◌, ap, subst, arith, take-append-drop, length-append}
use Rattle.std.specs.Prelude.{All, IsSome}
use mathlib.Core.Path.{fun_ext}
use Rattle.std.proofs.lemmas.Bool.{cases_eq}
use Rattle.std.proofs.lemmas.Bool.Decides.{nat_tests}
use Rattle.std.proofs.lemmas.List.{drop_more, take_more, set_split}
use Rattle.mt_base.specs.declared.edits.Edit.{Edit}
use Rattle.mt_base.specs.Edits.{patched, IsShortest}
use Rattle.std.proofs.lemmas.List.Elements.{All-cons, All-nil, All-weaker}
use Rattle.mt_space.specs.declared.changes.PageChange.{PageChange}
use Rattle.mt_space.specs.Changes.{PageBytes, Agrees, IsUntouched, IsShort, AreShort, replaced, after}
use Rattle.mt_space.proofs.Changing.{replaced_here, replaced_other, after_push, after_untouched}
use Rattle.mt_overlay.specs.declared.overlay.PageCopy.{PageCopy}
use Rattle.mt_overlay.specs.Overlays.{AreAtHand, ComeTo, copied, or_below, shown, or_bytes, drawn, IsUncopied, AreApart, AreCopies, IsCopyAt, Keeps}

same_bytes : (a b : List ℕ) → Some a ≡ Some b → a ≡ b
same_bytes a b e = cc

pub test_yes : (a b : ℕ) (x y : Option (List ℕ)) → a ≡ b → (if a == b then x else y) ≡ x
test_yes a b x y is = grind (arith, nat_tests)

pub test_no : (a b : ℕ) (x y : Option (List ℕ)) → a ≢ b → (if a == b then x else y) ≡ y
test_no a b x y ne = grind (arith, nat_tests)

pub copied_append : (xs ys : List PageCopy) (p : ℕ) → copied (xs ++ ys) p ≡ or_below (copied xs p) (copied ys p)
copied_append [] ys p = refl
copied_append (c ∷ cs) ys p = elim (c.page == p) as (λ b. (if b then Some c.bytes else copied (cs ++ ys) p) ≡ or_below (if b then Some c.bytes else copied cs p) (copied ys p)) [
  | true ↦ refl
  | false ↦ copied_append cs ys p
]

-- one copy more
copied_push : (cs : List PageCopy) (c : PageCopy) (p : ℕ) → copied cs p ≡ None → copied (cs ++ c ∷ []) p ≡ (if c.page == p then Some c.bytes else None)
copied_push cs c p none = copied_append cs (c ∷ []) p ∙ ap (λ (o : Option (List ℕ)). or_below o (copied (c ∷ []) p)) none

pub uncopied_more : (cs : List PageCopy) (i p : ℕ) (d : PageCopy) → i < length cs → copied (take i cs) p ≡ None → (get_or cs i d).page ≢ p → copied (take (i + 1) cs) p ≡ None
uncopied_more cs i p d lt none ne =
    ap (λ (l : List PageCopy). copied l p) (take_more cs i d lt)
    ∙ copied_push (take i cs) (get_or cs i d) p none
    ∙ test_no (get_or cs i d).page p _ None ne

-- a list, apart at a place
split_at : (cs : List PageCopy) (i : ℕ) (d : PageCopy) → i < length cs → cs ≡ take i cs ++ (get_or cs i d ∷ drop (i + 1) cs)
split_at cs i d lt = sym (take-append-drop i cs) ∙ ap (λ (l : List PageCopy). take i cs ++ l) (drop_more cs i d lt)

set_at_place : (cs : List PageCopy) (c : PageCopy) (i : ℕ) → i < length cs → set cs i c ≡ take i cs ++ (c ∷ drop (i + 1) cs)
set_at_place cs c i lt = set_split cs i c lt ∙ ap (λ (n : ℕ). take i cs ++ (c ∷ drop n cs)) (sym (add-one i))

pub copied_at : (cs : List PageCopy) (p i : ℕ) (d : PageCopy) → IsCopyAt cs p i → copied cs p ≡ Some (get_or cs i d).bytes
copied_at cs p i d at =
    let x = get_or cs i d in
    ap (λ (l : List PageCopy). copied l p) (split_at cs i d at.inside)
    ∙ copied_append (take i cs) (x ∷ drop (i + 1) cs) p
    ∙ ap (λ (o : Option (List ℕ)). or_below o (copied (x ∷ drop (i + 1) cs) p)) at.first
    ∙ test_yes x.page p _ _ (at.page d)

pub keeps_push : (cs : List PageCopy) (c : PageCopy) → copied cs c.page ≡ None → Keeps c.page c.bytes cs (cs ++ c ∷ [])
keeps_push cs c none q = elim (cases_eq c.page q) [
  | inl same ↦ copied_push cs c q (ap (copied cs) (sym same) ∙ none) ∙ test_yes c.page q _ _ same ∙ sym (test_yes c.page q _ _ same)
  | inr other ↦ copied_append cs (c ∷ []) q ∙ ap (or_below (copied cs q)) (test_no c.page q (Some c.bytes) None other) ∙ below_none (copied cs q) ∙ sym (test_no c.page q _ _ other)
]
  where
    below_none : (o : Option (List ℕ)) → or_below o None ≡ o
    below_none None = refl
    below_none (Some b) = refl

pub keeps_set : (cs : List PageCopy) (c : PageCopy) (i : ℕ) → IsCopyAt cs c.page i → Keeps c.page c.bytes cs (set cs i c)
keeps_set cs c i at q =
    let x = get_or cs i c in
    let rest = drop (i + 1) cs in
    let new : copied (set cs i c) q ≡ or_below (copied (take i cs) q) (copied (c ∷ rest) q) =
    ap (λ (l : List PageCopy). copied l q) (set_at_place cs c i at.inside) ∙ copied_append (take i cs) (c ∷ rest) q in
    let old : copied cs q ≡ or_below (copied (take i cs) q) (copied (x ∷ rest) q) =
    ap (λ (l : List PageCopy). copied l q) (split_at cs i c at.inside) ∙ copied_append (take i cs) (x ∷ rest) q in
    elim (cases_eq c.page q) [
      | inl same ↦ new ∙ ap (λ (o : Option (List ℕ)). or_below o (copied (c ∷ rest) q)) (ap (copied (take i cs)) (sym same) ∙ at.first) ∙ test_yes c.page q _ _ same ∙ sym (test_yes c.page q _ _ same)
      | inr other ↦ new ∙ ap (or_below (copied (take i cs) q)) (test_no c.page q _ (copied rest q) other ∙ sym (test_no x.page q (Some x.bytes) (copied rest q) (λ e. other (sym (at.page c) ∙ e)))) ∙ sym old ∙ sym (test_no c.page q _ _ other)
    ]

-- ---- one of each page

pub uncopied : (cs : List PageCopy) (p : ℕ) → copied cs p ≡ None → IsUncopied cs p
uncopied [] p none = tt
uncopied (c ∷ cs) p none = elim (cases_eq c.page p) [
  | inl same ↦ absurd (let some = test_yes c.page p (Some c.bytes) (copied cs p) same in cc)
  | inr other ↦ (other, uncopied cs p (sym (test_no c.page p (Some c.bytes) (copied cs p) other) ∙ none))
]

uncopied_push : (cs : List PageCopy) (c : PageCopy) (p : ℕ) → c.page ≢ p → IsUncopied cs p → IsUncopied (cs ++ c ∷ []) p
uncopied_push [] c p ne none = (ne, tt)
uncopied_push (d ∷ cs) c p ne none = (none.0, uncopied_push cs c p ne none.1)

pub apart_push : (cs : List PageCopy) (c : PageCopy) → IsUncopied cs c.page → AreApart cs → AreApart (cs ++ c ∷ [])
apart_push [] c none all = (tt, tt)
apart_push (d ∷ cs) c none all = (uncopied_push cs c d.page (λ e. none.0 (sym e)) all.0, apart_push cs c none.1 all.1)

uncopied_set : (cs : List PageCopy) (c : PageCopy) (i p : ℕ) → (get_or cs i c).page ≡ c.page → IsUncopied cs p → IsUncopied (set cs i c) p
uncopied_set [] c i p is none = tt
uncopied_set (d ∷ cs) c zero p is none = (λ e. none.0 (is ∙ e), none.1)
uncopied_set (d ∷ cs) c (suc i) p is none = (none.0, uncopied_set cs c i p is none.1)

pub apart_set : (cs : List PageCopy) (c : PageCopy) (i : ℕ) → (get_or cs i c).page ≡ c.page → AreApart cs → AreApart (set cs i c)
apart_set [] c i is all = tt
apart_set (d ∷ cs) c zero is all = (subst (IsUncopied cs) is all.0, all.1)
apart_set (d ∷ cs) c (suc i) is all = (uncopied_set cs c i d.page is all.0, apart_set cs c i is all.1)

uncopied_at : (cs : List PageCopy) (i p : ℕ) (d : PageCopy) → i < length cs → IsUncopied cs p → (get_or cs i d).page ≢ p
uncopied_at [] i p d lt none = absurd (omega arith)
uncopied_at (c ∷ cs) zero p d lt none = none.0
uncopied_at (c ∷ cs) (suc i) p d lt none = uncopied_at cs i p d (omega arith) none.1

-- no copy before this one is of its page
pub apart_before : (cs : List PageCopy) (i : ℕ) (d : PageCopy) → i < length cs → AreApart cs → copied (take i cs) (get_or cs i d).page ≡ None
apart_before [] i d lt all = absurd (omega arith)
apart_before (c ∷ cs) zero d lt all = refl
apart_before (c ∷ cs) (suc i) d lt all =
    let x = get_or cs i d in
    test_no c.page x.page (Some c.bytes) (copied (take i cs) x.page) (λ e. uncopied_at cs i c.page d (omega arith) all.0 (sym e))
    ∙ apart_before cs i d (omega arith) all.1

pub is_copy_at : (cs : List PageCopy) (i : ℕ) (d : PageCopy) → i < length cs → AreApart cs → copied cs (get_or cs i d).page ≡ Some (get_or cs i d).bytes
is_copy_at cs i d lt all =
    let x = get_or cs i d in
    ap (λ (l : List PageCopy). copied l x.page) (split_at cs i d lt)
    ∙ copied_append (take i cs) (x ∷ drop (i + 1) cs) x.page
    ∙ ap (λ (o : Option (List ℕ)). or_below o (copied (x ∷ drop (i + 1) cs) x.page)) (apart_before cs i d lt all)
    ∙ test_yes x.page x.page _ _ refl

-- ---- what the copies show

pub some_value : (o : Option (List ℕ)) → IsSome o → (b : List ℕ) × (o ≡ Some b)
some_value None h = absurd (cc)
some_value (Some b) h = (b, refl)

pub some_is : (o : Option (List ℕ)) (b : List ℕ) → o ≡ Some b → IsSome o
some_is o b is = subst (λ (x : Option (List ℕ)). IsSome x) (sym is) refl

or_below_some : (o below : Option (List ℕ)) → IsSome below → IsSome (or_below o below)
or_below_some None below h = h
or_below_some (Some b) below h = refl

pub shown_some : (cs : List PageCopy) (below : ℕ → Option (List ℕ)) (p : ℕ) → IsSome (below p) → IsSome (shown cs below p)
shown_some cs below p h = or_below_some (copied cs p) (below p) h

pub below_some : (cs : List PageCopy) (below : ℕ → Option (List ℕ)) (p : ℕ) → AreCopies below cs → IsSome (shown cs below p) → IsSome (below p)
below_some cs below p sound h = either (copied cs p) h (sound.there p)
  where
    either : (o : Option (List ℕ)) → IsSome (or_below o (below p)) → ((b : List ℕ) → o ≡ Some b → IsSome (below p)) → IsSome (below p)
    either None h there = h
    either (Some b) h there = there b refl

pub drawn_agrees : (cs : List PageCopy) (below : ℕ → Option (List ℕ)) (pages : PageBytes) → Agrees below pages → Agrees (shown cs below) (drawn cs pages)
drawn_agrees cs below pages agrees p bytes is = either (copied cs p) is
  where
    either : (o : Option (List ℕ)) → or_below o (below p) ≡ Some bytes → or_bytes o (pages p) ≡ bytes
    either None is = agrees p bytes is
    either (Some b) is = same_bytes b bytes is

-- ---- one copy other than before

pub sound_kept : (below : ℕ → Option (List ℕ)) (old new : List PageCopy) (p : ℕ) (bytes : List ℕ) → AreCopies below old → Keeps p bytes old new → AreApart new → length bytes ≡ 4096 → IsSome (below p) → AreCopies below new
sound_kept below old new p bytes sound keeps apart long there = record {
  whole = λ q b is. elim (cases_eq p q) [
    | inl same ↦ ap length (sym (same_bytes bytes b (sym (test_yes p q _ _ same) ∙ sym (keeps q) ∙ is))) ∙ long
    | inr other ↦ sound.whole q b (sym (test_no p q (Some bytes) (copied old q) other) ∙ sym (keeps q) ∙ is)
  ];
  there = λ q b is. elim (cases_eq p q) [
    | inl same ↦ subst (λ (k : ℕ). IsSome (below k)) same there
    | inr other ↦ sound.there q b (sym (test_no p q (Some bytes) (copied old q) other) ∙ sym (keeps q) ∙ is)
  ];
  apart = apart;
}

pub drawn_kept : (old new : List PageCopy) (p : ℕ) (bytes : List ℕ) (pages : PageBytes) → Keeps p bytes old new → drawn new pages ≡ replaced p bytes (drawn old pages)
drawn_kept old new p bytes pages keeps = fun_ext (λ q. elim (cases_eq p q) [
  | inl same ↦ ap (λ (o : Option (List ℕ)). or_bytes o (pages q)) (keeps q ∙ test_yes p q _ _ same) ∙ sym (replaced_here p q bytes (drawn old pages) (sym same))
  | inr other ↦ ap (λ (o : Option (List ℕ)). or_bytes o (pages q)) (keeps q ∙ test_no p q (Some bytes) (copied old q) other) ∙ sym (replaced_other p q bytes (drawn old pages) (λ e. other (sym e)))
])

pub agrees_kept : (below : ℕ → Option (List ℕ)) (old new : List PageCopy) (p : ℕ) (bytes : List ℕ) (pages : PageBytes) → Keeps p bytes old new → Agrees (shown old below) pages → Agrees (shown new below) (replaced p bytes pages)
agrees_kept below old new p bytes pages keeps agrees q b is = elim (cases_eq p q) [
  | inl same ↦ replaced_here p q bytes pages (sym same) ∙ same_bytes bytes b (sym (ap (λ (o : Option (List ℕ)). or_below o (below q)) (keeps q ∙ test_yes p q _ _ same)) ∙ is)
  | inr other ↦ replaced_other p q bytes pages (λ e. other (sym e)) ∙ agrees q b (sym (ap (λ (o : Option (List ℕ)). or_below o (below q)) (keeps q ∙ test_no p q (Some bytes) (copied old q) other)) ∙ is)
]

-- ---- a list of changes, one by one

-- the edits of a page that is at hand lie within it
pub edits_fit : (at_hand : ℕ → Option (List ℕ)) (c : PageChange) (pages : PageBytes) → ((p : ℕ) (bytes : List ℕ) → at_hand p ≡ Some bytes → length bytes ≡ 4096) → IsSome (at_hand c.page) → Agrees at_hand pages → IsShort (pages c.page) c
    → All (λ (e : Edit). e.start + length e.bytes ≤ 4096) c.edits.items
edits_fit at_hand c pages whole there agrees short =
    let some = some_value (at_hand c.page) there in
    let long : length (pages c.page) ≡ 4096 = ap length (agrees c.page some.0 some.1) ∙ whole c.page some.0 some.1 in
    All-weaker (IsShortest (pages c.page) (patched c.edits.items (pages c.page))) (λ (e : Edit). e.start + length e.bytes ≤ 4096) (λ e range. let within = range.within in omega arith) c.edits.items short.ranges

-- a change's page is named
pub named_at : (cs : List PageChange) (i : ℕ) (d : PageChange) → i < length cs → IsUntouched cs (get_or cs i d).page → ⊥
named_at [] i d lt none = omega arith
named_at (c ∷ cs) zero d lt none = none.0 refl
named_at (c ∷ cs) (suc i) d lt none = named_at cs i d (omega arith) none.1

after_more : (cs : List PageChange) (i : ℕ) (c : PageChange) (pages : PageBytes) → i < length cs → c ≡ get_or cs i c
    → after (take (i + 1) cs) pages ≡ replaced c.page (patched c.edits.items (after (take i cs) pages c.page)) (after (take i cs) pages)
after_more cs i c pages lt is =
    ap (λ (l : List PageChange). after l pages) (take_more cs i c lt ∙ ap (λ (x : PageChange). take i cs ++ x ∷ []) (sym is))
    ∙ after_push (take i cs) c pages

-- the copy of a page becomes what its change makes of what was shown
abbrev pub IsMade : (ℕ → Option (List ℕ)) → PageChange → List PageCopy → List PageCopy → Type 0
IsMade below c old new = (bytes : List ℕ) → shown old below c.page ≡ Some bytes → Keeps c.page (patched c.edits.items bytes) old new

pub agrees_more : (below : ℕ → Option (List ℕ)) (old new : List PageCopy) (cs : List PageChange) (i : ℕ) (c : PageChange) (pages : PageBytes) → i < length cs → c ≡ get_or cs i c → IsSome (shown old below c.page) → IsMade below c old new
    → Agrees (shown old below) (after (take i cs) pages) → Agrees (shown new below) (after (take (i + 1) cs) pages)
agrees_more below old new cs i c pages lt is there made agrees =
    let some = some_value (shown old below c.page) there in
    let mid = after (take i cs) pages in
    let next : replaced c.page (patched c.edits.items some.0) mid ≡ after (take (i + 1) cs) pages =
    sym (after_more cs i c pages lt is ∙ ap (λ (b : List ℕ). replaced c.page (patched c.edits.items b) mid) (agrees c.page some.0 some.1)) in
    subst (λ (all : PageBytes). Agrees (shown new below) all) next (agrees_kept below old new c.page (patched c.edits.items some.0) mid (made some.0 some.1) agrees)

pub drawn_more : (below : ℕ → Option (List ℕ)) (old new : List PageCopy) (cs : List PageChange) (i : ℕ) (c : PageChange) (start pages : PageBytes) → i < length cs → c ≡ get_or cs i c → IsSome (shown old below c.page) → IsMade below c old new
    → Agrees below pages → drawn old pages ≡ after (take i cs) start → drawn new pages ≡ after (take (i + 1) cs) start
drawn_more below old new cs i c start pages lt is there made agrees was =
    let some = some_value (shown old below c.page) there in
    let here : drawn old pages c.page ≡ some.0 = drawn_agrees old below pages agrees c.page some.0 some.1 in
    drawn_kept old new c.page (patched c.edits.items some.0) pages (made some.0 some.1)
    ∙ ap (λ (b : List ℕ). replaced c.page (patched c.edits.items b) (drawn old pages)) (sym here)
    ∙ ap (λ (all : PageBytes). replaced c.page (patched c.edits.items (all c.page)) all) was
    ∙ sym (after_more cs i c start lt is)

-- ---- what copies come to

-- one page's bytes were noted
pub record IsNoted (p : ℕ) (old new : List ℕ) (was now : List PageChange) : Type 0 where
  pub noted : (pages : PageBytes) → after was pages p ≡ old → after now pages ≡ replaced p new (after was pages)
  pub short : (pages : PageBytes) → pages p ≡ old → IsUntouched was p → AreShort was pages → AreShort now pages
  pub others : (q : ℕ) → q ≢ p → IsUntouched was q → IsUntouched now q
  pub same : new ≡ old → now ≡ was
  pub count : length now ≤ length was + 1

come_push : (below : ℕ → Option (List ℕ)) (done : List PageCopy) (c : PageCopy) (old : List ℕ) (was now : List PageChange) → copied done c.page ≡ None → below c.page ≡ Some old → IsNoted c.page old c.bytes was now → ComeTo below done was → ComeTo below (done ++ c ∷ []) now
come_push below done c old was now none there note so =
    let keeps = keeps_push done c none in
    let untouched : IsUntouched was c.page = so.same c.page (ap (λ (o : Option (List ℕ)). or_below o (below c.page)) none) in
    record {
      made = λ pages agrees.
          note.noted pages (after_untouched was pages c.page untouched ∙ agrees c.page old there)
          ∙ ap (λ (all : PageBytes). replaced c.page c.bytes all) (so.made pages agrees)
          ∙ sym (drawn_kept done (done ++ c ∷ []) c.page c.bytes pages keeps);
      short = λ pages agrees. note.short pages (agrees c.page old there) untouched (so.short pages agrees);
      same = λ p is. elim (cases_eq c.page p) [
        | inl here ↦
            let shown_is : shown (done ++ c ∷ []) below p ≡ Some c.bytes = ap (λ (o : Option (List ℕ)). or_below o (below p)) (keeps p ∙ test_yes c.page p _ _ here) in
            let bytes : c.bytes ≡ old = same_bytes c.bytes old (sym shown_is ∙ is ∙ ap below (sym here) ∙ there) in
            subst (λ (l : List PageChange). IsUntouched l p) (sym (note.same bytes)) (subst (IsUntouched was) here untouched)
        | inr other ↦
            let shown_is : shown (done ++ c ∷ []) below p ≡ shown done below p = ap (λ (o : Option (List ℕ)). or_below o (below p)) (keeps p ∙ test_no c.page p (Some c.bytes) (copied done p) other) in
            note.others p (λ e. other (sym e)) (so.same p (sym shown_is ∙ is))
      ];
      few = let count = note.count in let few = so.few in omega (arith, count, few, length-append done (c ∷ []));
    }

pub come_more : (below : ℕ → Option (List ℕ)) (copies : List PageCopy) (i : ℕ) (c : PageCopy) (old : List ℕ) (was now : List PageChange) → i < length copies → c ≡ get_or copies i c → AreCopies below copies → below c.page ≡ Some old → IsNoted c.page old c.bytes was now → ComeTo below (take i copies) was
    → ComeTo below (take (i + 1) copies) now
come_more below copies i c old was now lt is sound there note so =
    let first : copied (take i copies) c.page ≡ None = ap (λ (x : PageCopy). copied (take i copies) x.page) is ∙ apart_before copies i c lt sound.apart in
    let next : take i copies ++ c ∷ [] ≡ take (i + 1) copies = ap (λ (x : PageCopy). take i copies ++ x ∷ []) is ∙ sym (take_more copies i c lt) in
    subst (λ (l : List PageCopy). ComeTo below l now) next (come_push below (take i copies) c old was now first there note so)

-- a page that is not at hand has no copy
pub none_shown : (below : ℕ → Option (List ℕ)) (copies : List PageCopy) (p : ℕ) → AreCopies below copies → below p ≡ None → shown copies below p ≡ below p
none_shown below copies p sound none = either (copied copies p) (sound.there p)
  where
    either : (o : Option (List ℕ)) → ((b : List ℕ) → o ≡ Some b → IsSome (below p)) → or_below o (below p) ≡ below p
    either None there = refl
    either (Some b) there = let some = some_value (below p) (there b refl) in absurd (let both : Some some.0 ≡ None = sym some.1 ∙ none in cc)

-- a page with a copy is at hand below
pub below_there : (below : ℕ → Option (List ℕ)) (copies : List PageCopy) (i : ℕ) (c : PageCopy) → i < length copies → c ≡ get_or copies i c → AreCopies below copies → IsSome (below c.page)
below_there below copies i c lt is sound = sound.there c.page (get_or copies i c).bytes (ap (λ (x : PageCopy). copied copies x.page) is ∙ is_copy_at copies i c lt sound.apart)

-- changes that leave each page that is not at hand are of pages at hand
pub all_at_hand : (at_hand : ℕ → Option (List ℕ)) (cs : List PageChange) → ((p : ℕ) → at_hand p ≡ None → IsUntouched cs p) → AreAtHand at_hand cs
all_at_hand at_hand [] none = All-nil (λ (c : PageChange). IsSome (at_hand c.page))
all_at_hand at_hand (c ∷ cs) none = All-cons (λ (d : PageChange). IsSome (at_hand d.page)) c cs (here (at_hand c.page) (none c.page)) (all_at_hand at_hand cs (λ p is. (none p is).1))
  where
    here : (o : Option (List ℕ)) → (o ≡ None → IsUntouched (c ∷ cs) c.page) → IsSome o
    here None named = absurd ((named refl).0 refl)
    here (Some b) named = refl
