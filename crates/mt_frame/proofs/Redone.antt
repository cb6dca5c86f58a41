-- The records of a change, made again over the page as it was, give the page as it is.
use Rattle.std.proofs.Common.{◌≡◌, ◌≢◌, ◌⊎◌, inl, inr, ⊎_elim, ℕ, ◌+◌, ◌-◌, ◌<◌, ◌≤◌, List, [], ◌∷◌, ◌++◌, length, get_or, take, drop, refl, sym, ◌∙◌, ap, arith, length-append, length-drop, length-take-le, get_or-take, get_or-drop, Option, None}
use Rattle.std.specs.Prelude.{cond, ◌==◌}
use Rattle.std.specs.List.{AllByRecursion}
use Rattle.std.proofs.lemmas.List.{get_or-append_right, get_or_append_left}
use Rattle.std.proofs.lemmas.Grind.{same_number_lists}
use Rattle.std.proofs.lemmas.Bool.{cases_lt, cases_Bool, eqb-true, eq-eqb}
use Rattle.mt_base.specs.Edits.{splice, patched, IsShortest}
use Rattle.mt_base.specs.Ranges.{part}
use Rattle.mt_base.specs.declared.edits.Edit.{Edit}
use Rattle.mt_base.proofs.Places.{part_length}
use Rattle.mt_frame.specs.PageRecords.{change_records, redone}

-- ---- bytes put into a page

pub record Put (at : ℕ) (bytes page : List ℕ) : Type 0 where
  pub len : length (splice at bytes page) ≡ length page
  pub here : (k : ℕ) → at ≤ k → k < at + length bytes → get_or (splice at bytes page) k 0 ≡ get_or bytes (k - at) 0
  pub elsewhere : (k : ℕ) → (k < at) ⊎ (at + length bytes ≤ k) → get_or (splice at bytes page) k 0 ≡ get_or page k 0

pub put : (at : ℕ) (bytes page : List ℕ) → at + length bytes ≤ length page → Put at bytes page
put at bytes page le =
    let front = length-take-le at page (omega arith) in
    let back = length-drop (at + length bytes) page in
    let a = length-append (take at page) (bytes ++ drop (at + length bytes) page) in
    let b = length-append bytes (drop (at + length bytes) page) in
    record {
      len = omega arith;
      here = λ k low high. get_or-append_right (take at page) (bytes ++ drop (at + length bytes) page) at k 0 (omega arith) low
          ∙ get_or_append_left bytes (drop (at + length bytes) page) 0 (k - at) (omega arith);
      elsewhere = λ k. ⊎_elim
          (λ before. get_or_append_left (take at page) (bytes ++ drop (at + length bytes) page) 0 k (omega arith) ∙ get_or-take at page k 0 before)
          (λ behind. get_or-append_right (take at page) (bytes ++ drop (at + length bytes) page) at k 0 (omega arith) (omega arith)
          ∙ get_or-append_right bytes (drop (at + length bytes) page) (length bytes) (k - at) 0 refl (omega arith)
          ∙ get_or-drop (at + length bytes) page (k - at - length bytes) 0
          ∙ ap (λ (m : ℕ). get_or page m 0) (omega arith));
    }

-- and those of a range of other content
pub record PutPart (at n : ℕ) (content page : List ℕ) : Type 0 where
  pub len : length (splice at (part content at n) page) ≡ length page
  pub here : (k : ℕ) → (at ≤ k) × (k < at + n) → get_or (splice at (part content at n) page) k 0 ≡ get_or content k 0
  pub elsewhere : (k : ℕ) → (k < at) ⊎ (at + n ≤ k) → get_or (splice at (part content at n) page) k 0 ≡ get_or page k 0

pub put_part : (at n : ℕ) (content page : List ℕ) → at + n ≤ length content → length page ≡ length content → PutPart at n content page
put_part at n content page le size =
    let text = part_length content at n le in
    let p = put at (part content at n) page (omega (arith, text.0, size, le)) in
    record {
      len = p.len;
      here = λ k inside. let low = inside.0 in let high = inside.1 in p.here k low (omega (arith, text.0)) ∙ text.1 (k - at) (omega arith) ∙ ap (λ (m : ℕ). get_or content m 0) (omega arith);
      elsewhere = λ k. ⊎_elim (λ before. p.elsewhere k (inl before)) (λ behind. p.elsewhere k (inr (omega (arith, text.0, behind))));
    }

-- ---- places in the ranges of edits

-- one of the ranges has this place
abbrev pub Covers : List Edit → ℕ → Type 0
Covers [] k = ⊥
Covers (e ∷ es) k = ((e.start ≤ k) × (k < e.start + length e.bytes)) ⊎ Covers es k

pub in_range : (at n k : ℕ) → ((at ≤ k) × (k < at + n)) ⊎ ((k < at) ⊎ (at + n ≤ k))
in_range at n k = ⊎_elim (λ (before : k < at). inr (inl before)) (λ (low : at ≤ k). ⊎_elim (λ (high : k < at + n). inl (low, high)) (λ (behind : at + n ≤ k). inr (inr behind)) (cases_lt k (at + n))) (cases_lt k at)

-- a place that the first range has not
pub covers_rest : (e : Edit) (es : List Edit) (k : ℕ) → (k < e.start) ⊎ (e.start + length e.bytes ≤ k) → Covers (e ∷ es) k → Covers es k
covers_rest e es k out (inl here) = let low = here.0 in let high = here.1 in absurd (⊎_elim (λ (before : k < e.start). omega arith) (λ (behind : e.start + length e.bytes ≤ k). omega arith) out)
covers_rest e es k out (inr c) = c

pub covers : (es : List Edit) (k : ℕ) → Covers es k ⊎ (Covers es k → ⊥)
covers [] k = inr (λ c. c)
covers (e ∷ es) k = ⊎_elim (λ here. inl (inl here)) (λ out. ⊎_elim (λ c. inl (inr c)) (λ not. inr (λ c. not (covers_rest e es k out c))) (covers es k)) (in_range e.start (length e.bytes) k)

-- all ranges are within so many bytes
abbrev pub AreWithin : ℕ → List Edit → Type 0
AreWithin n es = AllByRecursion (λ e. e.start + length e.bytes ≤ n) es

same_length : (es : List Edit) (n m : ℕ) → n ≡ m → AreWithin m es → AreWithin n es
same_length [] n m is within = tt
same_length (e ∷ es) n m is within = ((let w = within.0 in omega arith), same_length es n m is within.1)

-- what no range has stays
pub patched_outside : (es : List Edit) (page : List ℕ) → AreWithin (length page) es → (k : ℕ) → (Covers es k → ⊥) → get_or (patched es page) k 0 ≡ get_or page k 0
patched_outside [] page within k not = refl
patched_outside (e ∷ es) page within k not =
    let p = put e.start e.bytes page within.0 in
    patched_outside es (splice e.start e.bytes page) (same_length es (length (splice e.start e.bytes page)) (length page) p.len within.1) k (λ c. not (inr c))
    ∙ p.elsewhere k (⊎_elim (λ here. absurd (not (inl here))) (λ out. out) (in_range e.start (length e.bytes) k))

pub patched_length : (es : List Edit) (page : List ℕ) → AreWithin (length page) es → length (patched es page) ≡ length page
patched_length [] page within = refl
patched_length (e ∷ es) page within =
    let p = put e.start e.bytes page within.0 in
    patched_length es (splice e.start e.bytes page) (same_length es (length (splice e.start e.bytes page)) (length page) p.len within.1) ∙ p.len

pub shortest_within : (old new : List ℕ) (es : List Edit) → AllByRecursion (IsShortest old new) es → AreWithin (length old) es
shortest_within old new [] short = tt
shortest_within old new (e ∷ es) short = (short.0.within, shortest_within old new es short.1)

-- ---- the records made again

module _ (txn op page : ℕ) (old new : List ℕ) where
  remade : (image : Option (List ℕ)) (es : List Edit) (bytes : List ℕ) → length bytes ≡ length new → AreWithin (length new) es → ((k : ℕ) → (get_or bytes k 0 ≡ get_or new k 0) ⊎ Covers es k)
      → redone page (change_records txn op page image old new es) bytes ≡ new
  remade image [] bytes size within right = same_number_lists bytes new size (λ k lt. ⊎_elim (λ same. same) (λ c. absurd c) (right k))
  remade image (e ∷ es) bytes size within right =
      let n = length e.bytes in
      let p = put_part e.start n new bytes within.0 size in
      let mid = splice e.start (part new e.start n) bytes in
      ap (λ b. redone page (change_records txn op page None old new es) (cond b mid bytes)) (eq-eqb page page refl)
      ∙ remade None es mid (p.len ∙ size) within.1 (λ k. ⊎_elim
      (λ here. inl (p.here k here))
      (λ out. ⊎_elim (λ same. inl (p.elsewhere k out ∙ same)) (λ c. inr (covers_rest e es k out c)) (right k))
      (in_range e.start n k))

  -- another page has none of these records
  pub other_redone : (q : ℕ) → q ≢ page → (image : Option (List ℕ)) (es : List Edit) (bytes : List ℕ) → redone q (change_records txn op page image old new es) bytes ≡ bytes
  other_redone q differ image [] bytes = refl
  other_redone q differ image (e ∷ es) bytes =
      ap (λ b. redone q (change_records txn op page None old new es) (cond b (splice e.start (part new e.start (length e.bytes)) bytes) bytes)) (⊎_elim (λ is. absurd (differ (sym (eqb-true page q is)))) (λ not. not) (cases_Bool (page == q)))
      ∙ other_redone q differ None es bytes

pub own_redone : (txn op page : ℕ) (old : List ℕ) (image : Option (List ℕ)) (es : List Edit) → AreWithin (length old) es → redone page (change_records txn op page image old (patched es old) es) old ≡ patched es old
own_redone txn op page old image es within =
    let new = patched es old in
    let size = patched_length es old within in
    remade txn op page old new image es old (sym size) (same_length es (length new) (length old) size within)
    (λ k. ⊎_elim (λ c. inr c) (λ not. inl (sym (patched_outside es old within k not))) (covers es k))
