-- Edits that make one page another.
use Rattle.std.proofs.Common.{◌≡◌, inl, inr, ⊎_elim, ◌⊎◌, ℕ, ◌+◌, ◌-◌, ◌*◌, ◌<◌, ◌≤◌, List, [], ◌∷◌, ◌++◌, length, get_or, take, drop, refl, sym, ◌∙◌, ap, subst, arith, length-append, length-drop, length-take-le, get_or-take, get_or-drop}
use Rattle.std.proofs.lemmas.List.{get_or-append_right, get_or_append_left}
use Rattle.std.proofs.lemmas.Grind.{same_number_lists}
use Rattle.std.proofs.lemmas.List.Elements.{All-push}
use Rattle.std.proofs.lemmas.Bool.{cases_lt}
use Rattle.mt_base.specs.Ranges.{part, Same}
use Rattle.mt_base.specs.declared.edits.Edit.{Edit}
use Rattle.mt_base.specs.Edits.{splice, patched, log_size, IsShortest, Halfway, AreEqual, FirstDiffers, EndsRun, Edited}
use Rattle.mt_base.proofs.Places.{part_length}

pub patched_push : (es : List Edit) (e : Edit) (page : List ℕ) → patched (es ++ e ∷ []) page ≡ splice e.start e.bytes (patched es page)
patched_push [] e page = refl
patched_push (x ∷ xs) e page = patched_push xs e (splice x.start x.bytes page)

pub log_size_push : (es : List Edit) (e : Edit) → log_size (es ++ e ∷ []) ≡ log_size es + 29 + 2 * length e.bytes
log_size_push [] e = omega arith
log_size_push (x ∷ xs) e = let rest = log_size_push xs e in omega arith

pub record Spliced (at : ℕ) (bytes page : List ℕ) : Type 0 where
  pub len : length (splice at bytes page) ≡ length page
  pub below : (k : ℕ) → k < at → get_or (splice at bytes page) k 0 ≡ get_or page k 0
  pub here : (k : ℕ) → k < length bytes → get_or (splice at bytes page) (at + k) 0 ≡ get_or bytes k 0
  pub above : (k : ℕ) → at + length bytes ≤ k → get_or (splice at bytes page) k 0 ≡ get_or page k 0

pub spliced : (at : ℕ) (bytes page : List ℕ) → at + length bytes ≤ length page → Spliced at bytes page
spliced at bytes page le =
    let front = length-take-le at page (omega arith) in
    let back = length-drop (at + length bytes) page in
    let a = length-append (take at page) (bytes ++ drop (at + length bytes) page) in
    let b = length-append bytes (drop (at + length bytes) page) in
    record {
      len = omega arith;
      below = λ k lt. get_or_append_left (take at page) (bytes ++ drop (at + length bytes) page) 0 k (omega arith) ∙ get_or-take at page k 0 lt;
      here = λ k lt. get_or-append_right (take at page) (bytes ++ drop (at + length bytes) page) at (at + k) 0 (omega arith) (omega arith)
          ∙ ap (λ (m : ℕ). get_or (bytes ++ drop (at + length bytes) page) m 0) (omega arith)
          ∙ get_or_append_left bytes (drop (at + length bytes) page) 0 k lt;
      above = λ k ge. get_or-append_right (take at page) (bytes ++ drop (at + length bytes) page) at k 0 (omega arith) (omega arith)
          ∙ get_or-append_right bytes (drop (at + length bytes) page) (length bytes) (k - at) 0 refl (omega arith)
          ∙ get_or-drop (at + length bytes) page (k - at - length bytes) 0
          ∙ ap (λ (m : ℕ). get_or page m 0) (omega arith);
    }

-- blocks of eight equal bytes
pub same_words : (old new : List ℕ) (at : ℕ) → at + 8 ≤ length old → at + 8 ≤ length new → part old at 8 ≡ part new at 8 → Same at 8 old new
same_words old new at a b same =
    let x = part_length old at 8 a in
    let y = part_length new at 8 b in
    λ i low high.
    let back : at + (i - at) ≡ i = omega arith in
    ap (λ (m : ℕ). get_or new m 0) (sym back) ∙ sym (y.1 (i - at) (omega arith)) ∙ ap (λ (t : List ℕ). get_or t (i - at) 0) (sym same)
    ∙ x.1 (i - at) (omega arith) ∙ ap (λ (m : ℕ). get_or old m 0) back

pub same_more : (old new : List ℕ) (at n m : ℕ) → Same at n old new → Same (at + n) m old new → Same at (n + m) old new
same_more old new at n m a b i low high = ⊎_elim (λ (x : i < at + n). a i low x) (λ (y : at + n ≤ i). b i y (omega arith)) (cases_lt i (at + n))

pub equal_more : (old new : List ℕ) (from at n : ℕ) → AreEqual old new from at → at + n ≤ length old → Same at n old new → AreEqual old new from (at + n)
equal_more old new from at n so fits same = record {
  after = let after = so.after in omega arith;
  within = fits;
  equal = λ k low high. ⊎_elim (λ (x : k < at). so.equal k low x) (λ (y : at ≤ k). sym (same k y high)) (cases_lt k at);
}

pub edited_start : (old new : List ℕ) → Edited old new [] 0
edited_start old new = record {
  ends = omega arith;
  made = record { len = refl; done = λ k lt. absurd (omega arith); rest = λ k le. refl };
  quiet = inl refl;
  short = λ k d lt. absurd (omega arith);
  size = omega arith;
  none = λ e. refl;
}

-- no byte differs up to the end
pub edited_rest : (old new : List ℕ) (es : List Edit) (last i : ℕ) → Edited old new es last → AreEqual old new last i → i ≡ length old → Edited old new es i
edited_rest old new es last i so same all =
    let after = same.after in
    let size = so.size in
    record {
      ends = omega arith;
      made = record {
        len = so.made.len;
        done = λ k below. ⊎_elim (λ (a : k < last). so.made.done k a) (λ (b : last ≤ k). so.made.rest k b ∙ same.equal k b below) (cases_lt k last);
        rest = λ k above. so.made.rest k (omega arith);
      };
      quiet = inr (λ k a b lt. absurd (omega arith));
      short = so.short;
      size = omega arith;
      none = λ z. so.none (omega arith);
    }

pub edited_end : (old new : List ℕ) (es : List Edit) (last : ℕ) → length old ≡ length new → Edited old new es last → length old ≤ last → patched es old ≡ new
edited_end old new es last len so all =
    let made_len = so.made.len in
    same_number_lists (patched es old) new (made_len ∙ len) (λ k lt. so.made.done k (omega arith))

pub edited_more : (old new : List ℕ) (es : List Edit) (e : Edit) (last i end : ℕ) → length old ≡ length new → Edited old new es last → FirstDiffers old new last i → i < length old
    → EndsRun old new i end → e.start ≡ i → e.bytes ≡ part new i (end - i) → Edited old new (es ++ e ∷ []) end
edited_more old new es e last i end len so first lt run at text =
    let le = first.before.after in
    let differs = first.differs lt in
    let after = run.after in
    let within = run.within in
    let part_is = part_length new i (end - i) (omega arith) in
    let long : length e.bytes ≡ end - i = ap length text ∙ part_is.0 in
    let mid = patched es old in
    let mid_len = so.made.len in
    let s = spliced e.start e.bytes mid (omega arith) in
    let push = patched_push es e old in
    let far : (last ≡ 0) ⊎ (last + 15 ≤ i) = ⊎_elim (λ (z : last ≡ 0). inl z)
    (λ (quiet : (k : ℕ) → last ≤ k → k < last + 15 → k < length old → get_or old k 0 ≡ get_or new k 0). ⊎_elim (λ (near : i < last + 15). absurd (differs (quiet i le near lt))) (λ (ok : last + 15 ≤ i). inr ok) (cases_lt i (last + 15))) so.quiet in
    let total = log_size_push es e in
    let so_size = so.size in
    record {
      ends = within;
      made = subst (λ (m : List ℕ). Halfway old new m end) (sym push) (record {
        len = s.len ∙ mid_len;
        done = λ k below. ⊎_elim
            (λ (before : k < i). s.below k (omega arith) ∙ ⊎_elim (λ (a : k < last). so.made.done k a) (λ (b : last ≤ k). so.made.rest k b ∙ first.before.equal k b before) (cases_lt k last))
            (λ (in_it : i ≤ k). ap (λ (m : ℕ). get_or (splice e.start e.bytes mid) m 0) (omega arith) ∙ s.here (k - i) (omega arith)
            ∙ ap (λ (t : List ℕ). get_or t (k - i) 0) text ∙ part_is.1 (k - i) (omega arith) ∙ ap (λ (m : ℕ). get_or new m 0) (omega arith))
            (cases_lt k i);
        rest = λ k above. s.above k (omega arith) ∙ so.made.rest k (omega arith);
      });
      quiet = inr run.quiet;
      short = All-push (IsShortest old new) es e so.short (record {
        some = omega arith;
        within = omega arith;
        first = λ same. differs (ap (λ (m : ℕ). get_or old m 0) (sym at) ∙ same ∙ ap (λ (m : ℕ). get_or new m 0) at);
        last = let here : e.start + length e.bytes - 1 ≡ end - 1 = omega arith in
            λ same. run.last (ap (λ (m : ℕ). get_or old m 0) (sym here) ∙ same ∙ ap (λ (m : ℕ). get_or new m 0) here);
        bytes = text ∙ ap (λ (m : ℕ). part new m (end - i)) (sym at) ∙ ap (part new e.start) (sym long);
      });
      size = ⊎_elim (λ (z : last ≡ 0). let none = so.none z in omega arith) (λ (ok : last + 15 ≤ i). omega arith) far;
      none = λ z. absurd (omega arith);
    }
