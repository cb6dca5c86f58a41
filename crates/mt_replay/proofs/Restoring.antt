-- Pages in memory follow the records: changes made and put back.
use Rattle.std.proofs.Common.{◌≡◌, inl, inr, ℕ, zero, suc, ◌+◌, ◌<◌, Bool, true, false, not, cond, ◌==◌, ◌&&◌, Option, None, Some, List, [], ◌∷◌, ◌++◌, length, drop, get_or, set, map, Vec, Global, refl, sym, ap, ◌∙◌, subst, arith}
use Rattle.std.specs.BTreeMap.{BTreeMap, get, is_at, Updates, UpdatesBy}
use Rattle.std.specs.List.{AllByRecursion}
use Rattle.std.specs.Ordering.{nat_cmp}
use Rattle.std.proofs.lemmas.Bool.{cases_eq, eq-eqb, ne_eqb}
use Rattle.std.proofs.lemmas.List.{append-nil, length-set, get_or-set_other, drop_more, map-append}
use Rattle.std.proofs.lemmas.List.Elements.{filter-append}
use Rattle.std.proofs.lemmas.Grind.{get_or-set_at}
use Rattle.mt_base.specs.Edits.{splice}
use Rattle.mt_area_rules.proofs.RuleLaws.{is_at_number}
use Rattle.mt_space.specs.Changes.{PageBytes}
use Rattle.mt_steps.specs.Repeated.{Change, put_back, by, but, made, changed, finished, dropped, unmade, Repeated}
use Rattle.mt_space.specs.PageLists.{AreWhole}
use Rattle.mt_replay.specs.Memory.{AreFirst}
use Rattle.mt_replay.specs.Passes.{Before, before, before_of, change_of, replaced_in, replaced_at, with_before, AllFit, Fits, IsShown, IsWhole, Notes, PutsBack, Repeats, Takes}
use Rattle.mt_replay.specs.declared.repeat.Repeating.{Repeating}
use Rattle.mt_replay.specs.declared.repeat.Unfinished.{Unfinished}
use Rattle.mt_replay.proofs.Walking.{filter_alike, filter_both, filter_none}

-- ---- one page

-- the pages with bytes put into one
abbrev pub placed : ℕ → ℕ → List ℕ → PageBytes → PageBytes
placed page start bytes f = λ p. cond (page == p) (splice start bytes (f p)) (f p)

pub first_placed : (items : List (List ℕ)) (page start : ℕ) (bytes : List ℕ) (f : PageBytes) → page < length items → AreFirst items f → AreFirst (set items page (splice start bytes (get_or items page []))) (placed page start bytes f)
first_placed items page start bytes f inside first q lt = elim (cases_eq q page) [
  | inl same ↦ get_or-set_at items page q (splice start bytes (get_or items page [])) [] same inside ∙ ap (splice start bytes) (first page inside) ∙ ap (λ (p : ℕ). splice start bytes (f p)) (sym same)
      ∙ sym (ap (λ (b : Bool). cond b (splice start bytes (f q)) (f q)) (eq-eqb page q (sym same)))
  | inr other ↦ get_or-set_other items page q (splice start bytes (get_or items page [])) [] other ∙ first q (let size = length-set items page (splice start bytes (get_or items page [])) in omega arith)
      ∙ sym (ap (λ (b : Bool). cond b (splice start bytes (f q)) (f q)) (ne_eqb page q (λ is. other (sym is))))
]

-- ---- changes put back

fits_at : (n : ℕ) (us : List Unfinished) (i : ℕ) (u : Unfinished) → i < length us → u ≡ get_or us i u → AllByRecursion (Fits n) us → Fits n u
fits_at n [] i u lt is all = absurd (omega arith)
fits_at n (v ∷ vs) zero u lt is all = subst (Fits n) (sym is) all.0
fits_at n (v ∷ vs) (suc i) u lt is all = fits_at n vs i u (omega arith) is all.1

pub fits_in : (n m : ℕ) (us : List Unfinished) (i : ℕ) (u : Unfinished) → i < length us → u ≡ get_or us i u → n ≡ m → AllByRecursion (Fits n) us → Fits m u
fits_in n m us i u lt is same all = subst (λ (k : ℕ). Fits k u) same (fits_at n us i u lt is all)

fits_push : (n : ℕ) (us : List Unfinished) (u : Unfinished) → AllByRecursion (Fits n) us → Fits n u → AllByRecursion (Fits n) (us ++ u ∷ [])
fits_push n [] u all one = (one, tt)
fits_push n (v ∷ vs) u all one = (all.0, fits_push n vs u all.1 one)

pub back_more : (us : List Unfinished) (i : ℕ) (u : Unfinished) (f : PageBytes) → i < length us → u ≡ get_or us i u → with_before (map before_of (drop i us)) f ≡ placed u.page u.start u.old.now (with_before (map before_of (drop (i + 1) us)) f)
back_more us i u f lt is = ap (λ (vs : List Unfinished). with_before (map before_of vs) f) (drop_more us i u lt ∙ ap (λ (v : Unfinished). v ∷ drop (i + 1) us) (sym is))

-- changes are put back if the bytes are as they were before them
restored_is : (cs : List Change) (f : PageBytes) → with_before (map before cs) f ≡ put_back cs f
restored_is [] f = refl
restored_is (c ∷ cs) f = ap (unmade c) (restored_is cs f)

before_cond : (b : Bool) (cs ds : List Change) → map before (cond b cs ds) ≡ cond b (map before cs) (map before ds)
before_cond true cs ds = refl
before_cond false cs ds = refl

-- ---- the changes of an operation

abbrev Lists : Type 0
Lists = BTreeMap ℕ (Vec Unfinished Global)

pub taken_left : (m n : Lists) (k : ℕ) → UpdatesBy nat_cmp (nat_cmp k) m n None → (o : ℕ) → replaced_in (get nat_cmp n o) ≡ cond (k == o) [] (replaced_in (get nat_cmp m o))
taken_left m n k u o = ap replaced_in (u.0 o ∙ ap (λ (b : Bool). cond b None (get nat_cmp m o)) (is_at_number k o)) ∙ go (k == o) (get nat_cmp m o)
  where
    go : (b : Bool) (v : Option (Vec Unfinished Global)) → replaced_in (cond b None v) ≡ cond b [] (replaced_in v)
    go true v = refl
    go false v = refl

pub taken_fits : (total : ℕ) (m n : Lists) (k : ℕ) → UpdatesBy nat_cmp (nat_cmp k) m n None → ((o : ℕ) → AllFit total (get nat_cmp m o)) → (o : ℕ) → AllFit total (get nat_cmp n o)
taken_fits total m n k u all o = subst (AllFit total) (sym (u.0 o)) (go (is_at (nat_cmp k) o) (get nat_cmp m o) (all o))
  where
    go : (b : Bool) (v : Option (Vec Unfinished Global)) → AllFit total v → AllFit total (cond b None v)
    go true v fits = tt
    go false v fits = fits

pub put_fits : (total : ℕ) (m n : Lists) (k : ℕ) (list : Vec Unfinished Global) → Updates nat_cmp m n k (Some list) → AllByRecursion (Fits total) list.items → ((o : ℕ) → AllFit total (get nat_cmp m o)) → (o : ℕ) → AllFit total (get nat_cmp n o)
put_fits total m n k list u one all o = subst (AllFit total) (sym (u.0 o)) (go (is_at (nat_cmp k) o) (get nat_cmp m o) (all o))
  where
    go : (b : Bool) (v : Option (Vec Unfinished Global)) → AllFit total v → AllFit total (cond b (Some list) v)
    go true v fits = one
    go false v fits = fits

pub put_list : (m n : Lists) (k : ℕ) (list : Vec Unfinished Global) → Updates nat_cmp m n k (Some list) → (o : ℕ) → replaced_in (get nat_cmp n o) ≡ cond (k == o) (map before_of list.items) (replaced_in (get nat_cmp m o))
put_list m n k list u o = ap replaced_in (u.0 o ∙ ap (λ (b : Bool). cond b (Some list) (get nat_cmp m o)) (is_at_number k o)) ∙ go (k == o) (get nat_cmp m o)
  where
    go : (b : Bool) (v : Option (Vec Unfinished Global)) → replaced_in (cond b (Some list) v) ≡ cond b (map before_of list.items) (replaced_in v)
    go true v = refl
    go false v = refl

-- the changes of an operation were taken, one was put behind them, and all were put in again
pub notes_one : (old mid new : Repeating) (op : ℕ) (u : Unfinished) (front : List Unfinished) (list : Vec Unfinished Global)
    → Takes op front old mid → Fits (length old.pages.items) u → list.items ≡ front ++ u ∷ [] → new.pages ≡ mid.pages
    → Updates nat_cmp mid.unfinished new.unfinished op (Some list) → Notes op u old new
notes_one old mid new op u front list t fits is same put =
    let total : length mid.pages.items ≡ length old.pages.items = λ i. length (t.pages i).items in
    let total_new : length mid.pages.items ≡ length new.pages.items = λ i. length (sym same i).items in
    let own : AllByRecursion (Fits (length mid.pages.items)) list.items =
    subst (λ (vs : List Unfinished). AllByRecursion (Fits (length mid.pages.items)) vs) (sym is)
    (fits_push (length mid.pages.items) front u (subst (λ (n : ℕ). AllByRecursion (Fits n) front) (sym total) t.fits) (subst (λ (n : ℕ). Fits n u) (sym total) fits)) in
    record {
      whole = record {
        each = subst (λ (pages : _). AreWhole pages.items) (sym same) t.whole.each;
        fits = λ o. subst (λ (n : ℕ). AllFit n (get nat_cmp new.unfinished o)) total_new (put_fits (length mid.pages.items) mid.unfinished new.unfinished op list put own t.whole.fits o);
      };
      pages = same ∙ t.pages;
      noted = λ o.
          put_list mid.unfinished new.unfinished op list put o
          ∙ ap (λ (cs : List Before). cond (op == o) (map before_of list.items) cs) (t.left o)
          ∙ elim (cases_eq op o) [
            | inl own_op ↦
                ap (λ (b : Bool). cond b (map before_of list.items) (cond b [] (replaced_at old o))) (eq-eqb op o own_op)
                ∙ ap (map before_of) is ∙ map-append before_of front (u ∷ [])
                ∙ ap (λ (cs : List Before). cs ++ before_of u ∷ []) (t.own ∙ ap (replaced_at old) own_op)
                ∙ sym (ap (λ (b : Bool). replaced_at old o ++ cond b (before_of u ∷ []) []) (eq-eqb op o own_op))
            | inr other ↦
                ap (λ (b : Bool). cond b (map before_of list.items) (cond b [] (replaced_at old o))) (ne_eqb op o other)
                ∙ sym (append-nil (replaced_at old o))
                ∙ sym (ap (λ (b : Bool). replaced_at old o ++ cond b (before_of u ∷ []) []) (ne_eqb op o other))
          ];
    }

not_and : (b : Bool) → (not b && b) ≡ false
not_and true = refl
not_and false = refl

by_but : (o op : ℕ) (cs : List Change) → by o (but op cs) ≡ cond (op == o) [] (by o cs)
by_but o op cs = filter_both (λ (c : Change). c.op == o) (λ (c : Change). not (c.op == op)) cs ∙ elim (cases_eq op o) [
  | inl same ↦
      filter_none (λ (c : Change). not (c.op == op) && (c.op == o)) (λ c. ap (λ (n : ℕ). not (c.op == n) && (c.op == o)) same ∙ not_and (c.op == o)) cs
      ∙ sym (ap (λ (b : Bool). cond b [] (by o cs)) (eq-eqb op o same))
  | inr other ↦
      filter_alike (λ (c : Change). not (c.op == op) && (c.op == o)) (λ (c : Change). c.op == o) (λ c. elim (cases_eq c.op o) [
        | inl own ↦ ap (λ (b : Bool). not b && (c.op == o)) (ne_eqb c.op op (λ is. other (sym is ∙ own)))
        | inr not_own ↦ ap (λ (b : Bool). not (c.op == op) && b) (ne_eqb c.op o not_own) ∙ and_no (not (c.op == op)) ∙ sym (ne_eqb c.op o not_own)
      ]) cs
      ∙ sym (ap (λ (b : Bool). cond b [] (by o cs)) (ne_eqb op o other))
]
  where
    and_no : (a : Bool) → (a && false) ≡ false
    and_no true = refl
    and_no false = refl

pub ends : (op : ℕ) (list : List Unfinished) (old new : Repeating) → Takes op list old new → Repeats (λ x. finished x op) old new
ends op list old new t = record {
  whole = t.whole;
  count = λ i. length (t.pages i).items;
  shown = λ x shown. record {
    pages = subst (λ (pages : _). AreFirst pages.items x.pages) (sym t.pages) shown.pages;
    unfinished = λ o.
        t.left o ∙ ap (λ (bs : List Before). cond (op == o) [] bs) (shown.unfinished o)
        ∙ sym (before_cond (op == o) [] (by o x.unfinished)) ∙ sym (ap (map before) (by_but o op x.unfinished));
  };
}

pub drops : (op : ℕ) (list : List Unfinished) (old mid new : Repeating) → Takes op list old mid → PutsBack (map before_of list) mid.pages.items new.pages.items → new.unfinished ≡ mid.unfinished → Repeats (λ x. dropped x op) old new
drops op list old mid new t back same =
    record {
      whole = record {
        each = back.whole;
        fits = λ o. subst (λ (n : ℕ). AllFit n (get nat_cmp new.unfinished o)) (sym back.count) (subst (λ (m : Lists). AllFit (length mid.pages.items) (get nat_cmp m o)) (sym same) (t.whole.fits o));
      };
      count = back.count ∙ (λ i. length (t.pages i).items);
      shown = λ x shown. record {
        pages = subst (λ (f : PageBytes). AreFirst new.pages.items f) (ap (λ (bs : List Before). with_before bs x.pages) (t.own ∙ shown.unfinished op) ∙ restored_is (by op x.unfinished) x.pages)
            (back.back x.pages (subst (λ (pages : _). AreFirst pages.items x.pages) (sym t.pages) shown.pages));
        unfinished = λ o. (λ i. replaced_in (get nat_cmp (same i) o)) ∙ ((ends op list old mid t).shown x shown).unfinished o;
      };
    }

pub changes_one : (old mid new : Repeating) (op : ℕ) (u : Unfinished) (bytes : List ℕ) → u.page < length old.pages.items
    → mid.pages.items ≡ set old.pages.items u.page (splice u.start bytes (get_or old.pages.items u.page [])) → length mid.pages.items ≡ length old.pages.items → mid.unfinished ≡ old.unfinished
    → Notes op u mid new → Repeats (λ x. changed x (change_of op u bytes ∷ [])) old new
changes_one old mid new op u bytes inside is count same n = record {
  whole = n.whole;
  count = (λ i. length (n.pages i).items) ∙ count;
  shown = λ x shown. record {
    pages = subst (λ (pages : _). AreFirst pages.items (made (change_of op u bytes) x.pages)) (sym n.pages)
        (subst (λ (items : List (List ℕ)). AreFirst items (made (change_of op u bytes) x.pages)) (sym is) (first_placed old.pages.items u.page u.start bytes x.pages inside shown.pages));
    unfinished = λ o.
        n.noted o
        ∙ (λ i. ((λ j. replaced_in (get nat_cmp (same j) o)) ∙ shown.unfinished o) i ++ sym (before_cond (op == o) (change_of op u bytes ∷ []) []) i)
        ∙ sym (map-append before (by o x.unfinished) (by o (change_of op u bytes ∷ [])))
        ∙ sym (ap (map before) (filter-append (λ (c : Change). c.op == o) x.unfinished (change_of op u bytes ∷ [])));
  };
}

pub whole_put : (old mid : Repeating) → IsWhole old → AreWhole mid.pages.items → length mid.pages.items ≡ length old.pages.items → mid.unfinished ≡ old.unfinished → IsWhole mid
whole_put old mid whole each count same = record {
  each = each;
  fits = λ o. subst (λ (n : ℕ). AllFit n (get nat_cmp mid.unfinished o)) (sym count) (subst (λ (m : Lists). AllFit (length old.pages.items) (get nat_cmp m o)) (sym same) (whole.fits o));
}

-- ---- one step behind another

pub repeats_none : (r : Repeating) → IsWhole r → Repeats (λ x. x) r r
repeats_none r whole = record { whole = whole; count = refl; shown = λ x shown. shown }

pub repeats_then : (f g h : Repeated → Repeated) (old mid new : Repeating) → ((x : Repeated) → g (f x) ≡ h x) → Repeats f old mid → Repeats g mid new → Repeats h old new
repeats_then f g h old mid new both first second = record {
  whole = second.whole;
  count = second.count ∙ first.count;
  shown = λ x shown. subst (IsShown new) (both x) (second.shown (f x) (first.shown x shown));
}

pub repeats_same : (f g : Repeated → Repeated) (old new : Repeating) → ((x : Repeated) → f x ≡ g x) → Repeats f old new → Repeats g old new
repeats_same f g old new both r = record { whole = r.whole; count = r.count; shown = λ x shown. subst (IsShown new) (both x) (r.shown x shown) }
