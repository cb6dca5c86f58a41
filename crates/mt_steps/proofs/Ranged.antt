-- The changes that an operation's edits come to, as records, made and put back.
use Rattle.std.proofs.Common.{◌≡◌, ◌≢◌, ◌⊎◌, inl, inr, ⊎_elim, ℕ, Bool, false, cond, ◌==◌, List, [], ◌∷◌, ◌++◌, Option, None, length, get_or, refl, sym, ap, ap₂, ◌∙◌, subst, append-nil, append_assoc}
use Rattle.std.specs.List.{AllByRecursion}
use Rattle.std.proofs.lemmas.Bool.{cases_eq, eq-eqb, ne_eqb}
use Rattle.std.proofs.lemmas.Grind.{same_number_lists}
use Rattle.std.proofs.lemmas.List.Elements.{recursion_from_All}
use Rattle.mt_base.specs.Edits.{splice, patched, IsShortest}
use Rattle.mt_base.specs.Ranges.{part}
use Rattle.mt_base.specs.declared.edits.Edit.{Edit}
use Rattle.mt_space.specs.declared.changes.PageChange.{PageChange}
use Rattle.mt_space.specs.Changes.{PageBytes, replaced, after, IsUntouched, IsShort, AreShort}
use Rattle.mt_frame.specs.PageRecords.{change_records, redone}
use Rattle.mt_space.proofs.Changing.{replaced_here, replaced_other}
use Rattle.mt_frame.proofs.Redone.{put_part, in_range, Covers, covers, covers_rest, AreWithin, patched_outside, patched_length, shortest_within, own_redone}
use Rattle.mt_steps.specs.Repeated.{Change, made, redo, put_back, on, AreBy, Repeated, changed, repeat, ranges_of, changes_of}
use Rattle.mt_steps.proofs.Picking.{on_append, by_both}
use Rattle.mt_steps.proofs.Repeating.{redo_append, put_back_append, redo_none, put_back_none, changed_more}

-- ---- whose they are

pub ranges_by : (op p : ℕ) (old new : List ℕ) (es : List Edit) → AreBy op (ranges_of op p old new es)
ranges_by op p old new [] = tt
ranges_by op p old new (e ∷ es) = (refl, ranges_by op p old new es)

pub changes_by : (op : ℕ) (cs : List PageChange) (f : PageBytes) → AreBy op (changes_of op cs f)
changes_by op [] f = tt
changes_by op (c ∷ cs) f = by_both op (ranges_of op c.page (f c.page) (patched c.edits.items (f c.page)) c.edits.items) (changes_of op cs f) (ranges_by op c.page (f c.page) (patched c.edits.items (f c.page)) c.edits.items) (changes_by op cs f)

-- ---- where they are

pub ranges_elsewhere : (op q p : ℕ) (old new : List ℕ) (es : List Edit) → p ≢ q → on p (ranges_of op q old new es) ≡ []
ranges_elsewhere op q p old new [] ne = refl
ranges_elsewhere op q p old new (e ∷ es) ne = rw (ne_eqb q p (λ is. ne (sym is))) (ranges_elsewhere op q p old new es ne)

pub changes_elsewhere : (op p : ℕ) (cs : List PageChange) (f : PageBytes) → IsUntouched cs p → on p (changes_of op cs f) ≡ []
changes_elsewhere op p [] f none = refl
changes_elsewhere op p (c ∷ cs) f none =
    let rs = ranges_of op c.page (f c.page) (patched c.edits.items (f c.page)) c.edits.items in
    on_append p rs (changes_of op cs f)
    ∙ ap (λ (xs : List Change). xs ++ on p (changes_of op cs f)) (ranges_elsewhere op c.page p (f c.page) (patched c.edits.items (f c.page)) c.edits.items (λ is. none.0 (sym is)))
    ∙ changes_elsewhere op p cs f none.1

-- ---- as records

pub records_repeated : (txn op p : ℕ) (old new : List ℕ) (image : Option (List ℕ)) (es : List Edit) (r : Repeated) → (txn == 0) ≡ false → repeat r (change_records txn op p image old new es) ≡ changed r (ranges_of op p old new es)
records_repeated txn op p old new image [] r some = λ i. record { pages = r.pages; unfinished = sym (append-nil r.unfinished) i }
records_repeated txn op p old new image (e ∷ es) r some =
    let c : Change = record { op = op; page = p; start = e.start; old = part old e.start (length e.bytes); new = part new e.start (length e.bytes) } in
    ap (λ (b : Bool). repeat (cond b r (changed r (c ∷ []))) (change_records txn op p None old new es)) some
    ∙ records_repeated txn op p old new None es (changed r (c ∷ [])) some
    ∙ changed_more r (c ∷ []) (ranges_of op p old new es)

-- a page with the ranges is as with the records of them
pub ranges_as_records : (txn op p q : ℕ) (old new : List ℕ) (image : Option (List ℕ)) (es : List Edit) (f : PageBytes) → redo (ranges_of op p old new es) f q ≡ redone q (change_records txn op p image old new es) (f q)
ranges_as_records txn op p q old new image [] f = refl
ranges_as_records txn op p q old new image (e ∷ es) f =
    ranges_as_records txn op p q old new None es (made (record { op = op; page = p; start = e.start; old = part old e.start (length e.bytes); new = part new e.start (length e.bytes) }) f)

-- ---- the edits of one page

pub ranges_redone : (op p : ℕ) (old : List ℕ) (es : List Edit) (f : PageBytes) → AreWithin (length old) es → f p ≡ old → redo (ranges_of op p old (patched es old) es) f p ≡ patched es old
ranges_redone op p old es f within is =
    ranges_as_records 0 op p p old (patched es old) None es f
    ∙ ap (redone p (change_records 0 op p None old (patched es old) es)) is
    ∙ own_redone 0 op p old None es within

pub ranges_stay : (op p q : ℕ) (old new : List ℕ) (es : List Edit) (f : PageBytes) → q ≢ p → redo (ranges_of op p old new es) f q ≡ f q
ranges_stay op p q old new es f ne = redo_none (ranges_of op p old new es) f q (ranges_elsewhere op p q old new es ne)

-- with the ranges put back, each place that one of them has is as it was, and others stay
pub record IsBack (old bytes back : List ℕ) (es : List Edit) : Type 0 where
  pub size : length back ≡ length old
  pub each : (k : ℕ) → (get_or bytes k 0 ≡ get_or old k 0) ⊎ Covers es k → get_or back k 0 ≡ get_or old k 0

pub ranges_back : (op p : ℕ) (old new : List ℕ) (es : List Edit) (f : PageBytes) → AreWithin (length old) es → length (f p) ≡ length old → IsBack old (f p) (put_back (ranges_of op p old new es) f p) es
ranges_back op p old new [] f within size = record { size = size; each = λ k. ⊎_elim (λ same. same) (λ c. absurd c) }
ranges_back op p old new (e ∷ es) f within size =
    let back = put_back (ranges_of op p old new es) f p in
    let rest = ranges_back op p old new es f within.1 size in
    let s = put_part e.start (length e.bytes) old back within.0 rest.size in
    subst (λ (b : Bool). IsBack old (f p) (cond b (splice e.start (part old e.start (length e.bytes)) back) back) (e ∷ es)) (sym (eq-eqb p p refl)) (record {
      size = s.len ∙ rest.size;
      each = λ k right. ⊎_elim
          (λ here. s.here k here)
          (λ out. s.elsewhere k out ∙ rest.each k (⊎_elim (λ same. inl same) (λ c. inr (covers_rest e es k out c)) right))
          (in_range e.start (length e.bytes) k);
    })

pub ranges_restored : (op p : ℕ) (old : List ℕ) (es : List Edit) (f : PageBytes) → AreWithin (length old) es → f p ≡ old → put_back (ranges_of op p old (patched es old) es) (redo (ranges_of op p old (patched es old) es) f) ≡ f
ranges_restored op p old es f within is = λ i q. at q i
  where
    rs : List Change
    rs = ranges_of op p old (patched es old) es

    there : redo rs f p ≡ patched es old
    there = ranges_redone op p old es f within is

    at : (q : ℕ) → put_back rs (redo rs f) q ≡ f q
    at q = ⊎_elim
        (λ (same : q ≡ p).
        let back = ranges_back op p old (patched es old) es (redo rs f) within (ap length there ∙ patched_length es old within) in
        ap (put_back rs (redo rs f)) same
        ∙ same_number_lists (put_back rs (redo rs f) p) old back.size (λ k lt. back.each k (⊎_elim (λ c. inr c) (λ not. inl (ap (λ (x : List ℕ). get_or x k 0) there ∙ patched_outside es old within k not)) (covers es k)))
        ∙ sym is ∙ sym (ap f same))
        (λ (other : q ≢ p). put_back_none rs (redo rs f) q (ranges_elsewhere op p q old (patched es old) es other) ∙ ranges_stay op p q old (patched es old) es f other)
        (cases_eq q p)

-- ---- the changes of some pages

-- the pages that changes name are the same in both
abbrev pub AreSame : List PageChange → PageBytes → PageBytes → Type 0
AreSame cs f g = AllByRecursion (λ (c : PageChange). f c.page ≡ g c.page) cs

-- a page that they do not name may have become any
pub untouched_same : (cs : List PageChange) (p : ℕ) (f g : PageBytes) → IsUntouched cs p → ((q : ℕ) → q ≢ p → f q ≡ g q) → AreSame cs f g
untouched_same [] p f g none same = tt
untouched_same (c ∷ cs) p f g none same = (same c.page none.0, untouched_same cs p f g none.1 same)

pub short_same : (cs : List PageChange) (f g : PageBytes) → AreSame cs f g → AreShort cs f → AreShort cs g
short_same [] f g same short = tt
short_same (c ∷ cs) f g same short = (subst (λ (x : List ℕ). IsShort x c) same.0 short.0, short.1, short_same cs f g same.1 short.2)

pub changes_same : (op : ℕ) (cs : List PageChange) (f g : PageBytes) → AreSame cs f g → changes_of op cs f ≡ changes_of op cs g
changes_same op [] f g same = refl
changes_same op (c ∷ cs) f g same = ap₂ (λ (x : List ℕ) (xs : List Change). ranges_of op c.page x (patched c.edits.items x) c.edits.items ++ xs) same.0 (changes_same op cs f g same.1)

pub changes_snoc : (op : ℕ) (cs : List PageChange) (c : PageChange) (f : PageBytes) → changes_of op (cs ++ c ∷ []) f ≡ changes_of op cs f ++ ranges_of op c.page (f c.page) (patched c.edits.items (f c.page)) c.edits.items
changes_snoc op [] c f = append-nil (ranges_of op c.page (f c.page) (patched c.edits.items (f c.page)) c.edits.items)
changes_snoc op (d ∷ cs) c f =
    let rs = ranges_of op d.page (f d.page) (patched d.edits.items (f d.page)) d.edits.items in
    ap (λ (xs : List Change). rs ++ xs) (changes_snoc op cs c f)
    ∙ sym (append_assoc rs (changes_of op cs f) (ranges_of op c.page (f c.page) (patched c.edits.items (f c.page)) c.edits.items))

pub short_within : (old : List ℕ) (c : PageChange) → IsShort old c → AreWithin (length old) c.edits.items
short_within old c short = shortest_within old (patched c.edits.items old) c.edits.items (recursion_from_All (IsShortest old (patched c.edits.items old)) c.edits.items short.ranges)

pub changes_redone : (op : ℕ) (cs : List PageChange) (h : PageBytes) → AreShort cs h → redo (changes_of op cs h) h ≡ after cs h
changes_redone op [] h short = refl
changes_redone op (c ∷ cs) h short =
    redo_append rs (changes_of op cs h) h
    ∙ ap (redo (changes_of op cs h)) one
    ∙ ap (λ (xs : List Change). redo xs next) (changes_same op cs h next same)
    ∙ changes_redone op cs next (short_same cs h next same short.2)
  where
    new : List ℕ
    new = patched c.edits.items (h c.page)

    next : PageBytes
    next = replaced c.page new h

    rs : List Change
    rs = ranges_of op c.page (h c.page) new c.edits.items

    same : AreSame cs h next
    same = untouched_same cs c.page h next short.1 (λ q ne. sym (replaced_other c.page q new h ne))

    at : (q : ℕ) → redo rs h q ≡ next q
    at q = ⊎_elim
        (λ (is : q ≡ c.page). ap (redo rs h) is ∙ ranges_redone op c.page (h c.page) c.edits.items h (short_within (h c.page) c short.0) refl ∙ sym (replaced_here c.page q new h is))
        (λ (ne : q ≢ c.page). ranges_stay op c.page q (h c.page) new c.edits.items h ne ∙ sym (replaced_other c.page q new h ne))
        (cases_eq q c.page)

    one : redo rs h ≡ next
    one = λ i q. at q i

pub changes_restored : (op : ℕ) (cs : List PageChange) (h : PageBytes) → AreShort cs h → put_back (changes_of op cs h) (redo (changes_of op cs h) h) ≡ h
changes_restored op [] h short = refl
changes_restored op (c ∷ cs) h short =
    ap (put_back (rs ++ changes_of op cs h)) (redo_append rs (changes_of op cs h) h)
    ∙ put_back_append rs (changes_of op cs h) (redo (changes_of op cs h) next)
    ∙ ap (put_back rs) (ap (λ (xs : List Change). put_back xs (redo xs next)) (changes_same op cs h next same) ∙ changes_restored op cs next (short_same cs h next same short.2))
    ∙ ranges_restored op c.page (h c.page) c.edits.items h (short_within (h c.page) c short.0) refl
  where
    rs : List Change
    rs = ranges_of op c.page (h c.page) (patched c.edits.items (h c.page)) c.edits.items

    next : PageBytes
    next = redo rs h

    same : AreSame cs h next
    same = untouched_same cs c.page h next short.1 (λ q ne. sym (ranges_stay op c.page q (h c.page) (patched c.edits.items (h c.page)) c.edits.items h ne))
