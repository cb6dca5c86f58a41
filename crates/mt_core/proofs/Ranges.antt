-- Some of the ranges of a page that an operation changed, made and put back.
use Rattle.std.proofs.Common.{◌≡◌, ◌≢◌, ◌⊎◌, inl, inr, ⊎_elim, ℕ, Bool, cond, List, [], ◌∷◌, ◌++◌, Option, None, Contains, length, take, get_or, zero, suc, refl, sym, ap, ◌∙◌, subst, append-nil, arith}
use Rattle.std.proofs.lemmas.Bool.{cases_eq, eq-eqb}
use Rattle.std.proofs.lemmas.Grind.{same_number_lists}
use Rattle.mt_base.specs.Edits.{splice, patched}
use Rattle.mt_base.specs.Ranges.{part}
use Rattle.mt_base.specs.declared.edits.Edit.{Edit}
use Rattle.mt_frame.specs.declared.records.Record.{Record}
use Rattle.mt_space.specs.Changes.{PageBytes, IsUntouched, AreShort}
use Rattle.mt_frame.specs.PageRecords.{change_records, range_record}
use Rattle.mt_space.specs.declared.changes.PageChange.{PageChange}
use Rattle.mt_frame.proofs.Redone.{put_part, in_range, Covers, covers, AreWithin}
use Rattle.mt_steps.specs.Repeated.{Change, made, redo, put_back, on, ranges_of, changes_of}
use Rattle.mt_steps.proofs.Picking.{on_append}
use Rattle.mt_steps.proofs.Ranged.{ranges_back, ranges_elsewhere, ranges_stay, changes_elsewhere}
use Rattle.mt_steps.proofs.Repeating.{put_back_none}

-- ---- made: places that no range has stay

pub record IsOutside (old bytes : List ℕ) (es : List Edit) : Type 0 where
  pub size : length bytes ≡ length old
  pub each : (k : ℕ) → (Covers es k → ⊥) → get_or bytes k 0 ≡ get_or old k 0

made_here : (op p : ℕ) (old new : List ℕ) (e : Edit) (f : PageBytes) → made (record { op = op; page = p; start = e.start; old = part old e.start (length e.bytes); new = part new e.start (length e.bytes) }) f p ≡ splice e.start (part new e.start (length e.bytes)) (f p)
made_here op p old new e f = ap (λ (b : Bool). cond b (splice e.start (part new e.start (length e.bytes)) (f p)) (f p)) (eq-eqb p p refl)

pub ranges_outside : (op p : ℕ) (old new : List ℕ) (es : List Edit) (f : PageBytes) → AreWithin (length new) es → length (f p) ≡ length new → IsOutside (f p) (redo (ranges_of op p old new es) f p) es
ranges_outside op p old new [] f within size = record { size = refl; each = λ k not. refl }
ranges_outside op p old new (e ∷ es) f within size =
    let c : Change = record { op = op; page = p; start = e.start; old = part old e.start (length e.bytes); new = part new e.start (length e.bytes) } in
    let here = made_here op p old new e f in
    let s = put_part e.start (length e.bytes) new (f p) within.0 size in
    let rest = ranges_outside op p old new es (made c f) within.1 (ap length here ∙ s.len ∙ size) in
    record {
      size = rest.size ∙ ap length here ∙ s.len;
      each = λ k not. rest.each k (λ v. not (inr v)) ∙ ap (λ (x : List ℕ). get_or x k 0) here
          ∙ s.elsewhere k (⊎_elim (λ v. absurd (not (inl v))) (λ out. out) (in_range e.start (length e.bytes) k));
    }

-- ---- put back: each place that a range has is as it was

-- whatever the bytes become
pub ranges_undone : (op p : ℕ) (old new : List ℕ) (es : List Edit) (f : PageBytes) → AreWithin (length old) es → length new ≡ length old → f p ≡ old → put_back (ranges_of op p old new es) (redo (ranges_of op p old new es) f) ≡ f
ranges_undone op p old new es f within size is = λ i q. at q i
  where
    rs : List Change
    rs = ranges_of op p old new es

    there : IsOutside (f p) (redo rs f p) es
    there = ranges_outside op p old new es f (subst (λ (n : ℕ). AreWithin n es) (sym size) within) (ap length is ∙ sym size)

    at : (q : ℕ) → put_back rs (redo rs f) q ≡ f q
    at q = ⊎_elim
        (λ (same : q ≡ p).
        let back = ranges_back op p old new es (redo rs f) within (there.size ∙ ap length is) in
        ap (put_back rs (redo rs f)) same
        ∙ same_number_lists (put_back rs (redo rs f) p) old back.size (λ k lt. back.each k (⊎_elim (λ c. inr c) (λ not. inl (there.each k not ∙ ap (λ (x : List ℕ). get_or x k 0) is)) (covers es k)))
        ∙ sym is ∙ sym (ap f same))
        (λ (other : q ≢ p). put_back_none rs (redo rs f) q (ranges_elsewhere op p q old new es other) ∙ ranges_stay op p q old new es f other)
        (cases_eq q p)

-- ---- some of the ranges

pub within_front : (n : ℕ) (es fs : List Edit) → AreWithin n (es ++ fs) → AreWithin n es
within_front n [] fs within = tt
within_front n (e ∷ es) fs within = (within.0, within_front n es fs within.1)

pub ranges_append : (op p : ℕ) (old new : List ℕ) (es fs : List Edit) → ranges_of op p old new (es ++ fs) ≡ ranges_of op p old new es ++ ranges_of op p old new fs
ranges_append op p old new [] fs = refl
ranges_append op p old new (e ∷ es) fs = ap (λ (cs : List Change). record { op = op; page = p; start = e.start; old = part old e.start (length e.bytes); new = part new e.start (length e.bytes) } ∷ cs) (ranges_append op p old new es fs)

head_same : (x y : Change) (xs ys : List Change) → x ∷ xs ≡ y ∷ ys → x ≡ y
head_same x y xs ys is = cc

tail_same : (x y : Change) (xs ys : List Change) → x ∷ xs ≡ y ∷ ys → xs ≡ ys
tail_same x y xs ys is = cc

-- equal ranges of the same edits begin equally
pub ranges_front : (op p : ℕ) (old new old2 new2 : List ℕ) (es fs : List Edit) → ranges_of op p old new (es ++ fs) ≡ ranges_of op p old2 new2 (es ++ fs) → ranges_of op p old new es ≡ ranges_of op p old2 new2 es
ranges_front op p old new old2 new2 [] fs same = refl
ranges_front op p old new old2 new2 (e ∷ es) fs same =
    let c : Change = record { op = op; page = p; start = e.start; old = part old e.start (length e.bytes); new = part new e.start (length e.bytes) } in
    let d : Change = record { op = op; page = p; start = e.start; old = part old2 e.start (length e.bytes); new = part new2 e.start (length e.bytes) } in
    (λ i. head_same c d (ranges_of op p old new (es ++ fs)) (ranges_of op p old2 new2 (es ++ fs)) same i ∷ ranges_front op p old new old2 new2 es fs (tail_same c d (ranges_of op p old new (es ++ fs)) (ranges_of op p old2 new2 (es ++ fs)) same) i)

-- a beginning of a change's records is the records of its first ranges
pub record FirstRanges (txn op p : ℕ) (image : Option (List ℕ)) (old new : List ℕ) (es : List Edit) (front : List Record) : Type 0 where
  pub first : List Edit
  pub rest : List Edit
  pub is : es ≡ first ++ rest
  pub records : front ≡ change_records txn op p image old new first

record_head : (x y : Record) (xs ys : List Record) → x ∷ xs ≡ y ∷ ys → x ≡ y
record_head x y xs ys is = cc

record_tail : (x y : Record) (xs ys : List Record) → x ∷ xs ≡ y ∷ ys → xs ≡ ys
record_tail x y xs ys is = cc

pub first_ranges : (txn op p : ℕ) (image : Option (List ℕ)) (old new : List ℕ) (es : List Edit) (front back : List Record) → change_records txn op p image old new es ≡ front ++ back → FirstRanges txn op p image old new es front
first_ranges txn op p image old new es [] back is = record { first = []; rest = es; is = refl; records = refl }
first_ranges txn op p image old new [] (x ∷ xs) back is = absurd cc
first_ranges txn op p image old new (e ∷ es) (x ∷ xs) back is =
    let r : Record = range_record txn op p image old new e in
    let k = first_ranges txn op p None old new es xs back (record_tail r x (change_records txn op p None old new es) (xs ++ back) is) in
    record {
      first = e ∷ k.first;
      rest = k.rest;
      is = ap (λ (fs : List Edit). e ∷ fs) k.is;
      records = (λ i. sym (record_head r x (change_records txn op p None old new es) (xs ++ back) is) i ∷ k.records i);
    }

-- ---- the changes of one page among those of a plan

pub ranges_on : (op p : ℕ) (old new : List ℕ) (es : List Edit) → on p (ranges_of op p old new es) ≡ ranges_of op p old new es
ranges_on op p old new [] = refl
ranges_on op p old new (e ∷ es) = rw (eq-eqb p p refl) (ap (λ (cs : List Change). record { op = op; page = p; start = e.start; old = part old e.start (length e.bytes); new = part new e.start (length e.bytes) } ∷ cs) (ranges_on op p old new es))

pub ranges_count : (op p : ℕ) (old new : List ℕ) (es : List Edit) → length (ranges_of op p old new es) ≡ length es
ranges_count op p old new [] = refl
ranges_count op p old new (e ∷ es) = let n = ranges_count op p old new es in omega arith

take_untouched : (n : ℕ) (cs : List PageChange) (p : ℕ) → IsUntouched cs p → IsUntouched (take n cs) p
take_untouched zero cs p none = tt
take_untouched (suc n) [] p none = tt
take_untouched (suc n) (c ∷ cs) p none = (none.0, take_untouched n cs p none.1)

untouched_in : (cs : List PageChange) (c : PageChange) (p : ℕ) → Contains cs c → IsUntouched cs p → c.page ≢ p
untouched_in [] c p (k, lt, is) none = absurd (omega arith)
untouched_in (d ∷ ds) c p (zero, lt, is) none = λ e. none.0 (ap (λ (x : PageChange). x.page) is ∙ e)
untouched_in (d ∷ ds) c p (suc k, lt, is) none = untouched_in ds c p (k, (omega arith), is) none.1

-- those of one page are of the one change that names it, or none yet
pub on_one : (op : ℕ) (cs : List PageChange) (n : ℕ) (c : PageChange) (f g : PageBytes) → AreShort cs g → Contains cs c
    → (on c.page (changes_of op (take n cs) f) ≡ []) ⊎ (on c.page (changes_of op (take n cs) f) ≡ ranges_of op c.page (f c.page) (patched c.edits.items (f c.page)) c.edits.items)
on_one op [] n c f g short (k, lt, is) = absurd (omega arith)
on_one op (d ∷ ds) zero c f g short there = inl refl
on_one op (d ∷ ds) (suc n) c f g short (zero, lt, is) =
    let rs = ranges_of op d.page (f d.page) (patched d.edits.items (f d.page)) d.edits.items in
    inr (subst (λ (e : PageChange). on e.page (rs ++ changes_of op (take n ds) f) ≡ ranges_of op e.page (f e.page) (patched e.edits.items (f e.page)) e.edits.items) is
    (on_append d.page rs (changes_of op (take n ds) f)
    ∙ ap (λ (xs : List Change). xs ++ on d.page (changes_of op (take n ds) f)) (ranges_on op d.page (f d.page) (patched d.edits.items (f d.page)) d.edits.items)
    ∙ ap (λ (xs : List Change). rs ++ xs) (changes_elsewhere op d.page (take n ds) f (take_untouched n ds d.page short.1))
    ∙ append-nil rs))
on_one op (d ∷ ds) (suc n) c f g short (suc k, lt, is) =
    let rs = ranges_of op d.page (f d.page) (patched d.edits.items (f d.page)) d.edits.items in
    let other : c.page ≢ d.page = untouched_in ds c d.page (k, (omega arith), is) short.1 in
    let front : on c.page (rs ++ changes_of op (take n ds) f) ≡ on c.page (changes_of op (take n ds) f) =
    on_append c.page rs (changes_of op (take n ds) f) ∙ ap (λ (xs : List Change). xs ++ on c.page (changes_of op (take n ds) f)) (ranges_elsewhere op d.page c.page (f d.page) (patched d.edits.items (f d.page)) d.edits.items other) in
    ⊎_elim (λ none. inl (front ∙ none)) (λ some. inr (front ∙ some)) (on_one op ds n c f g short.2 (k, (omega arith), is))
