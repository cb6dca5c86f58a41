-- Each step keeps the rule.
use Rattle.std.proofs.Common.{◌≡◌, ◌≢◌, ◌⊎◌, ℕ, zero, suc, ◌+◌, ◌≤◌, ◌<◌, max, eqb, eq-eqb, ne_eqb, cond, Bool, true, false, true≢false, List, [], ◌∷◌, ◌++◌, length, set, refl, ap, sym, ◌∙◌, subst, ⊎_elim, inl, inr, arith, append_assoc, length-append}
use Rattle.std.specs.Prelude.{slice_index, slice_set}
use Rattle.std.proofs.lemmas.List.{append-nil}
use mathlib.Core.Logic.{dite}
use mathlib.Core.Option.{some, none, some-ne-none, some-injective}
use mathlib.Core.List.{IsPrefix}
use native.Mathlib.Decide.{dec_le}
use prog.Atomic.{either}
use lib.ListN.{get_elem?}
use Rattle.atomic_table.specs.Table.{State, Me, Step, step, Act, keeps, Allows, Splits, Joins, opening}
use Rattle.atomic_table.proofs.Lists.{at_set, set_again, exchanged}
use Rattle.mt_model.specs.declared.tables.Base.{Base}
use Rattle.mt_model.specs.declared.history.Committed.{Committed}
use Rattle.mt_mark.specs.Legal.{IsLegal}
use Rattle.mt_mark.proofs.Fronts.{IsLegal-front}
use Rattle.mt_mark.specs.declared.view.Entry.{Entry}
use Rattle.mt_mark.specs.declared.view.About.{About}
use Rattle.mt_mark.specs.declared.view.View.{View}
use Rattle.mt_mark.specs.Rule.{NoneBy, dones, labelled, Holds, IsFrom, IsEnd, IsPass, Fits, Kept, first_end, Looks, Names, Enters, Settles, Checks, note, end_note, pass_note, one_more, new_pass, heard, spent}
use Rattle.mt_mark.proofs.Fronts.{prefix_self, prefix_trans, prefix_shorter, prefix_whole, prefix_length, same_front, append_cancel, NoneBy-append, NoneBy-back, NoneBy-fore, none_past, dones-append, dones-labelled, length-labelled, from_next, from_later}

off : false ≡ true → ⊥
off e = true≢false (sym e)

views_set : (F : ℕ → View → Type 0) (views : List View) (by : ℕ) (w : View) → ((j : ℕ) (u : View) → j ≢ by → get_elem? views j ≡ some u → F j u) → F by w → (j : ℕ) (u : View) → get_elem? (set views by w) j ≡ some u → F j u
views_set F views by w others mine j u e =
    ⊎_elim
    (λ (x : (j ≡ by) × (w ≡ u)). subst (λ (y : ℕ × View). F y.0 y.1) (λ i. (sym x.0 i, x.1 i)) mine)
    (λ (x : (j ≢ by) × (get_elem? views j ≡ some u)). others j u x.0 x.1)
    (at_set views by j w u e)

-- the last place, or one before it
at_end : (l : List View) (a b : View) (j : ℕ) → get_elem? (l ++ a ∷ []) j ≡ some b → (get_elem? l j ≡ some b) ⊎ ((j ≡ length l) × (a ≡ b))
at_end [] a b zero e = inr (refl, some-injective a b e)
at_end [] a b (suc j) e = absurd (some-ne-none b (sym e))
at_end (x ∷ xs) a b zero e = inl e
at_end (x ∷ xs) a b (suc j) e = ⊎_elim (λ h. inl h) (λ h. inr (ap suc h.0, h.1)) (at_end xs a b j e)

views_more : (F : ℕ → View → Type 0) (views : List View) (w : View) → ((j : ℕ) (u : View) → get_elem? views j ≡ some u → F j u) → F (length views) w → (j : ℕ) (u : View) → get_elem? (views ++ w ∷ []) j ≡ some u → F j u
views_more F views w others mine j u e =
    ⊎_elim
    (λ (x : get_elem? views j ≡ some u). others j u x)
    (λ (x : (j ≡ length views) × (w ≡ u)). subst (λ (y : ℕ × View). F y.0 y.1) (λ i. (sym x.0 i, x.1 i)) mine)
    (at_end views w u j e)

-- what the rule says of a view that does not change, as the lists grow
grow : (k : About) (seat : ℕ → ℕ) (made : ℕ) (log list log' list' xs : List Entry) (by : ℕ) (v : View)
    → Fits k seat made log list by v → IsPrefix list list' → log ++ xs ≡ log' → (v.keeps ≡ true → list ≡ list') → (v.sees ≡ true → NoneBy v.number xs)
    → Fits k seat made log' list' by v
grow k seat made log list log' list' xs by v f p is same clear =
    record {
      keeper = λ k. let e = f.keeper k in record { first = e.first; all = e.all ∙ same k; made = e.made; base = e.base; book = e.book };
      pass = λ s. let h = f.pass s in
          record {
            apart = h.apart;
            above = h.above;
            below = h.below;
            sits = h.sits;
            base = h.base;
            holds = (h.holds.0 ++ xs, sym (append_assoc v.list h.holds.0 xs) ∙ (ap (λ l. l ++ xs) h.holds.1 ∙ is), NoneBy-append v.number h.holds.0 xs h.holds.2 (clear s));
          };
      known = prefix_trans v.known list list' f.known p;
      sure = (let s = f.sure in let n = ap length is in omega (arith, length-append log xs));
    }

-- a word that stays
same_word : (n : ℕ) → either (eqb n 0) 0 n ≡ n
same_word n = exchanged n 0 0 (λ m. m ≡ n) (λ e. sym e) (λ _. refl)

new_word : (n at : ℕ) → n ≡ at → either (eqb n at) (at + 1) n ≡ at + 1
new_word n at is = exchanged n at (at + 1) (λ m. m ≡ at + 1) (λ _. refl) (λ ne. absurd (ne is))

word_now : (ws : List ℕ) (n m : ℕ) → ws ≡ n ∷ [] → m ≡ n → slice_set ws 0 m ≡ n ∷ []
word_now ws n m is e = ap (λ l. slice_set l 0 m) is ∙ ap (λ k. k ∷ []) e

word_to : (ws : List ℕ) (was n m : ℕ) → ws ≡ was ∷ [] → m ≡ n → slice_set ws 0 m ≡ n ∷ []
word_to ws was n m is e = ap (λ l. slice_set l 0 m) is ∙ ap (λ k. k ∷ []) e

word_is : (ws : List ℕ) (n : ℕ) → ws ≡ n ∷ [] → slice_index ws 0 ≡ n
word_is ws n is = ap (λ l. slice_index l 0) is

IsLegal-dones : (b : Base) (xs ys : List Entry) → IsPrefix xs ys → IsLegal b (dones ys) → IsLegal b (dones xs)
IsLegal-dones b xs ys p h = IsLegal-front b (dones xs) (dones p.0) (subst (IsLegal b) (ap dones (sym p.1) ∙ dones-append xs p.0) h)

-- the mark as it is made
pub begins : (k : About) (n : ℕ) → n ≡ length k.book.value.items → IsLegal k.base.value k.book.value.items → Kept k (opening (n ∷ []) [] (first_end k))
begins k n is legal =
    let list = labelled k.book.value.items in
    let same = length-labelled k.book.value.items in
    let b = k.base.value in
    record {
      made = 1;
      seat = λ _. 0;
      log = list;
      list = list;
      word = ap (λ m. m ∷ []) (is ∙ sym same);
      one = omega arith;
      from = ([], append-nil list, tt);
      begins = prefix_self list;
      near = omega arith;
      legal = subst (IsLegal b) (sym (dones-labelled k.book.value.items)) legal;
      fits = one list (omega (arith, same));
    }
  where
    one : (list : List Entry) → length k.book.value.items ≤ length list → (by : ℕ) (v : View) → get_elem? (first_end k ∷ []) by ≡ some v → Fits k (λ _. 0) 1 (labelled k.book.value.items) (labelled k.book.value.items) by v
    one list le zero v e = subst (Fits k (λ _. 0) 1 (labelled k.book.value.items) (labelled k.book.value.items) 0) (some-injective _ _ e)
        record { keeper = λ _. record { first = refl; all = refl; made = refl; base = refl; book = refl }; pass = λ s. absurd (off s); known = (labelled k.book.value.items, refl); sure = omega (arith, length-labelled k.book.value.items) }
    one list le (suc by) v e = absurd (some-ne-none v (sym e))

-- a pass looks
pub looks : (k : About) (slots id : ℕ) (v : Me Entry View) → v.0.sees ≡ true → Allows (Kept k) slots id v 0 (λ n. n) (Looks (step slots 0 0 0 none) v)
looks k slots id v sees s h homes at range =
    let b = k.base.value in
    let mine = h.fits id v.0 at in
    let p = mine.pass sees in
    let rest = p.holds.0 in
    let list = v.0.list ++ rest in
    let is : list ≡ h.log = p.holds.1 in
    let w : View = record v.0 { list = list } in
    let fw : Fits k h.seat h.made h.log h.list id w = record {
      keeper = λ q. absurd (off (sym p.apart ∙ q));
      pass = λ _. record { apart = p.apart; above = p.above; below = p.below; sits = p.sits; base = p.base; holds = ([], append-nil list ∙ is, tt) };
      known = mine.known;
      sure = mine.sure;
    } in (
      w,
      keeps,
      tt,
      record {
        made = h.made;
        seat = h.seat;
        log = h.log;
        list = h.list;
        word = word_now s.words (length h.log) (slice_index s.words 0) h.word (word_is s.words (length h.log) h.word);
        one = h.one;
        from = h.from;
        begins = h.begins;
        near = h.near;
        legal = h.legal;
        fits = views_set (Fits k h.seat h.made h.log h.list) s.views id w (λ j u _ e. h.fits j u e) fw;
      },
      (refl, (rest, refl, p.holds.2, ap length is ∙ sym (word_is s.words (length h.log) h.word), subst (λ c. IsLegal c (dones list)) (sym p.base) (IsLegal-dones b list h.list (subst (λ l. IsPrefix l h.list) (sym is) h.begins) h.legal))),
    )

snoc_length : (xs : List Entry) (e : Entry) → length (xs ++ e ∷ []) ≡ length xs + 1
snoc_length xs e = length-append xs (e ∷ [])

-- the end names the next entry
pub names : (k : About) (slots id : ℕ) (v : Me Entry View) (e : Entry) → v.0.keeps ≡ true → length v.0.list ≤ v.0.sure → IsLegal v.0.base (dones (v.0.list ++ e ∷ []))
    → Allows (Kept k) slots id v 0 (λ n. either (eqb n 0) 0 n) (Names (step slots 0 0 0 (some e)) v)
names k slots id v e keeper sure legal s h homes at range =
    let b = k.base.value in
    let mine = h.fits id v.0 at in
    let p = mine.keeper keeper in
    let list = v.0.list ++ e ∷ [] in
    let same : length h.log ≡ length v.0.list = (let q = prefix_length h.log h.list h.begins in let r = mine.sure in let l = ap length p.all in omega arith) in
    let longer : IsPrefix h.list list = (e ∷ [], ap (λ l. l ++ e ∷ []) (sym p.all)) in
    let w : View = record v.0 { list = list } in
    let fw : Fits k h.seat h.made h.log list id w = record {
      keeper = λ q. record { first = p.first; all = refl; made = p.made; base = p.base; book = p.book };
      pass = λ q. absurd (off (sym (mine.pass q).apart ∙ keeper));
      known = prefix_trans v.0.known h.list list mine.known longer;
      sure = mine.sure;
    } in
    let other : (j : ℕ) (u : View) → j ≢ id → get_elem? s.views j ≡ some u → Fits k h.seat h.made h.log list j u =
    λ j u away there. grow k h.seat h.made h.log h.list h.log list [] j u (h.fits j u there) longer (append-nil h.log) (λ q. absurd (away (((h.fits j u there).keeper q).first ∙ sym p.first))) (λ _. tt) in (
      w,
      keeps,
      tt,
      record {
        made = h.made;
        seat = h.seat;
        log = h.log;
        list = list;
        word = word_now s.words (length h.log) (either (eqb (slice_index s.words 0) 0) 0 (slice_index s.words 0)) h.word (same_word (slice_index s.words 0) ∙ word_is s.words (length h.log) h.word);
        one = h.one;
        from = h.from;
        begins = prefix_trans h.log h.list list h.begins longer;
        near = omega (arith, snoc_length v.0.list e);
        legal = subst (λ c. IsLegal c (dones list)) p.base legal;
        fits = views_set (Fits k h.seat h.made h.log list) s.views id w other fw;
      },
      (refl, (e, refl, refl, subst (λ l. IsPrefix v.0.known l) (sym p.all) mine.known, sym same ∙ sym (word_is s.words (length h.log) h.word))),
    )

-- the pass whose entry is named enters it
pub enters : (k : About) (slots id : ℕ) (v : Me Entry View) (at : ℕ) (pre : List Entry) (e : Entry) → v.0.sees ≡ true → v.0.known ≡ pre ++ e ∷ [] → e.pass ≡ v.0.number → length pre ≡ at → length v.0.list ≤ at → at ≤ v.0.sure
    → Allows (Kept k) slots id v 0 (λ n. either (eqb n at) (at + 1) n) (Enters (step slots 0 at (at + 1) none) v)
enters k slots id v at pre e sees known own long seen sure s h homes there range =
    let b = k.base.value in
    let mine = h.fits id v.0 there in
    let p = mine.pass sees in
    let reported_length : length v.0.known ≡ at + 1 = (let l = ap length known in omega (arith, snoc_length pre e)) in
    let here : length h.log ≡ at = dite (dec_le (at + 1) (length h.log))
    (λ le. absurd (none_past v.0.number v.0.list p.holds.0 pre (prefix_shorter v.0.known h.log h.list mine.known h.begins (omega arith)).0 e
    (p.holds.1 ∙ (sym (prefix_shorter v.0.known h.log h.list mine.known h.begins (omega arith)).1 ∙ (ap (λ l. l ++ (prefix_shorter v.0.known h.log h.list mine.known h.begins (omega arith)).0) known ∙ append_assoc pre (e ∷ []) (prefix_shorter v.0.known h.log h.list mine.known h.begins (omega arith)).0)))
    (omega arith) p.holds.2 own))
    (λ no. let r = mine.sure in omega arith) in
    let whole : v.0.known ≡ h.list = prefix_whole v.0.known h.list mine.known (let n = h.near in omega arith) in
    let next = h.begins.0 in
    let parts = same_front pre h.log (e ∷ []) next (sym known ∙ (whole ∙ sym h.begins.1)) (omega arith) in
    let one : next ≡ e ∷ [] = sym parts.1 in
    let w : View = record v.0 { list = v.0.known } in
    let word : slice_index s.words 0 ≡ at = word_is s.words (length h.log) h.word ∙ here in
    let fw : Fits k h.seat h.made h.list h.list id w = record {
      keeper = λ q. absurd (off (sym p.apart ∙ q));
      pass = λ _. record { apart = p.apart; above = p.above; below = p.below; sits = p.sits; base = p.base; holds = ([], append-nil v.0.known ∙ whole, tt) };
      known = mine.known;
      sure = (let r = mine.sure in let q = prefix_length h.log h.list h.begins in omega arith);
    } in
    let other : (j : ℕ) (u : View) → j ≢ id → get_elem? s.views j ≡ some u → Fits k h.seat h.made h.list h.list j u =
    λ j u away stands. grow k h.seat h.made h.log h.list h.list h.list next j u (h.fits j u stands) (prefix_self h.list) h.begins.1 (λ _. refl)
    (λ q. subst (NoneBy u.number) (sym one) ((λ same. away (sym ((h.fits j u stands).pass q).sits ∙ (ap h.seat (sym same ∙ own) ∙ p.sits))), tt)) in (
      w,
      keeps,
      tt,
      record {
        made = h.made;
        seat = h.seat;
        log = h.list;
        list = h.list;
        word = word_to s.words (length h.log) (length h.list) (either (eqb (slice_index s.words 0) at) (at + 1) (slice_index s.words 0)) h.word (new_word (slice_index s.words 0) at word ∙ (sym reported_length ∙ ap length whole));
        one = h.one;
        from = from_next k.book.value.items h.made h.log h.list e h.from (ap (λ l. h.log ++ l) (sym one) ∙ h.begins.1) (subst (λ n. 1 ≤ n) (sym own) p.above) (subst (λ n. n < h.made) (sym own) p.below);
        begins = prefix_self h.list;
        near = omega arith;
        legal = h.legal;
        fits = views_set (Fits k h.seat h.made h.list h.list) s.views id w other fw;
      },
      (refl, refl, word, (pre, e, known, (p.holds.0, p.holds.1 ∙ sym parts.0, p.holds.2))),
    )

-- a pass has seen just what it heard of
pub settles : (k : About) (slots id : ℕ) (v : Me Entry View) → v.0.sees ≡ true → IsPrefix v.0.list v.0.known → length v.0.known ≤ v.0.sure → Allows (Kept k) slots id v 0 (λ n. n) (Settles (step slots 0 0 0 none) v)
settles k slots id v sees longer sure s h homes at range =
    let b = k.base.value in
    let mine = h.fits id v.0 at in
    let p = mine.pass sees in
    let front : IsPrefix v.0.known h.log = prefix_shorter v.0.known h.log h.list mine.known h.begins (let r = mine.sure in omega arith) in
    let split : p.holds.0 ≡ longer.0 ++ front.0 = append_cancel v.0.list p.holds.0 (longer.0 ++ front.0) (p.holds.1 ∙ (sym front.1 ∙ (ap (λ l. l ++ front.0) (sym longer.1) ∙ append_assoc v.0.list longer.0 front.0))) in
    let w : View = record v.0 { list = v.0.known } in
    let fw : Fits k h.seat h.made h.log h.list id w = record {
      keeper = λ q. absurd (off (sym p.apart ∙ q));
      pass = λ _. record { apart = p.apart; above = p.above; below = p.below; sits = p.sits; base = p.base; holds = (front.0, front.1, NoneBy-back v.0.number longer.0 front.0 (subst (NoneBy v.0.number) split p.holds.2)) };
      known = mine.known;
      sure = mine.sure;
    } in (
      w,
      keeps,
      tt,
      record {
        made = h.made;
        seat = h.seat;
        log = h.log;
        list = h.list;
        word = word_now s.words (length h.log) (slice_index s.words 0) h.word (word_is s.words (length h.log) h.word);
        one = h.one;
        from = h.from;
        begins = h.begins;
        near = h.near;
        legal = h.legal;
        fits = views_set (Fits k h.seat h.made h.log h.list) s.views id w (λ j u _ e. h.fits j u e) fw;
      },
      (refl, refl, (longer.0, longer.1, NoneBy-fore v.0.number longer.0 front.0 (subst (NoneBy v.0.number) split p.holds.2))),
    )

-- the end looks, with all confirmed
pub checks : (k : About) (slots id : ℕ) (v : Me Entry View) → v.0.keeps ≡ true → length v.0.list ≤ v.0.sure → Allows (Kept k) slots id v 0 (λ n. n) (Checks (step slots 0 0 0 none) v)
checks k slots id v keeper sure s h homes at range =
    let b = k.base.value in
    let mine = h.fits id v.0 at in
    let p = mine.keeper keeper in
    let same : length h.log ≡ length v.0.list = (let q = prefix_length h.log h.list h.begins in let r = mine.sure in let l = ap length p.all in omega arith) in
    let whole : h.log ≡ h.list = prefix_whole h.log h.list h.begins (let l = ap length p.all in omega arith) in (
      v.0,
      keeps,
      tt,
      record {
        made = h.made;
        seat = h.seat;
        log = h.log;
        list = h.list;
        word = word_now s.words (length h.log) (slice_index s.words 0) h.word (word_is s.words (length h.log) h.word);
        one = h.one;
        from = h.from;
        begins = h.begins;
        near = h.near;
        legal = h.legal;
        fits = views_set (Fits k h.seat h.made h.log h.list) s.views id v.0 (λ j u _ e. h.fits j u e) mine;
      },
      (
        refl,
        subst (λ l. IsPrefix v.0.known l) (sym p.all) mine.known,
        sym same ∙ sym (word_is s.words (length h.log) h.word),
        subst (λ (x : List Committed × ℕ × List Entry). IsFrom x.0 x.1 x.2) (λ i. (sym p.book i, sym p.made i, (whole ∙ sym p.all) i)) h.from,
      ),
    )

fits_note : (k : About) (seat : ℕ → ℕ) (made : ℕ) (log list : List Entry) (by : ℕ) (v : View) (known : List Entry) (sure : ℕ) → IsPrefix known list → sure ≤ length log → Fits k seat made log list by (note v known sure)
fits_note k seat made log list by v known sure p le = record { keeper = λ q. absurd (off q); pass = λ q. absurd (off q); known = p; sure = le }

-- a view that stays, and a new one
splits_keep : (k : About) (s : State Entry View) (id : ℕ) (v right : View) (h : Kept k s) → get_elem? s.views id ≡ some v → ((by : ℕ) → Fits k h.seat h.made h.log h.list by right)
    → Kept k record { words = s.words; homes = s.homes; views = set s.views id v ++ right ∷ [] }
splits_keep k s id v right h at new =
    record {
      made = h.made;
      seat = h.seat;
      log = h.log;
      list = h.list;
      word = h.word;
      one = h.one;
      from = h.from;
      begins = h.begins;
      near = h.near;
      legal = h.legal;
      fits = views_more (Fits k h.seat h.made h.log h.list) (set s.views id v) right (views_set (Fits k h.seat h.made h.log h.list) s.views id v (λ j u _ e. h.fits j u e) (h.fits id v at)) (new (length (set s.views id v)));
    }

-- the end writes a note
pub end_notes : (k : About) (id : ℕ) (v : View) → v.keeps ≡ true → Splits (Kept k) id v v (end_note v)
end_notes k id v keeper s h at =
    let mine = h.fits id v at in
    splits_keep k s id v (end_note v) h at (λ by. fits_note k h.seat h.made h.log h.list by v v.list v.sure (subst (λ l. IsPrefix l h.list) (sym (mine.keeper keeper).all) (prefix_self h.list)) mine.sure)

-- a pass writes a note
pub pass_notes : (k : About) (id : ℕ) (v : View) → v.sees ≡ true → Splits (Kept k) id v v (pass_note v)
pass_notes k id v sees s h at =
    let p = (h.fits id v at).pass sees in
    let log_front : IsPrefix v.list h.log = (p.holds.0, p.holds.1) in
    splits_keep k s id v (pass_note v) h at (λ by. fits_note k h.seat h.made h.log h.list by v v.list (length v.list) (prefix_trans v.list h.log h.list log_front h.begins) (prefix_length v.list h.log log_front))

-- a seat hears a note, of any kind
pub hears : (k : About) (id : ℕ) (v : View) (other : ℕ) (u : View) → Joins (Kept k) id v other u (heard v u) spent
hears k id v other u s h at apart there =
    let b = k.base.value in
    let F = Fits k h.seat h.made h.log h.list in
    let mine = h.fits id v at in
    let theirs : F other u = ⊎_elim (λ (t : (other ≡ id) × (heard v u ≡ u)). absurd (apart t.0)) (λ (t : (other ≢ id) × (get_elem? s.views other ≡ some u)). h.fits other u t.1) (at_set s.views id other (heard v u) u there) in
    let now : F id (heard v u) = record {
      keeper = λ q. let e = mine.keeper q in record { first = e.first; all = e.all; made = e.made; base = e.base; book = e.book };
      pass = λ q. let e = mine.pass q in record { apart = e.apart; above = e.above; below = e.below; sits = e.sits; base = e.base; holds = e.holds };
      known = theirs.known;
      sure = (let x = mine.sure in let y = theirs.sure in omega arith);
    } in
    let gone : F other spent = record { keeper = λ q. absurd (off q); pass = λ q. absurd (off q); known = (h.list, refl); sure = omega arith } in
    record {
      made = h.made;
      seat = h.seat;
      log = h.log;
      list = h.list;
      word = h.word;
      one = h.one;
      from = h.from;
      begins = h.begins;
      near = h.near;
      legal = h.legal;
      fits = views_set F (set s.views id (heard v u)) other spent (λ j y _ e. views_set F s.views id (heard v u) (λ i x _ e'. h.fits i x e') now j y e) gone;
    }

-- the index of a pass, where one is new
abbrev sits_at : (ℕ → ℕ) → ℕ → ℕ → ℕ → ℕ
sits_at seat made n p = cond (eqb p made) n (seat p)

sits_new : (seat : ℕ → ℕ) (made n p : ℕ) → p ≡ made → sits_at seat made n p ≡ n
sits_new seat made n p e = rw (eq-eqb p made e) refl

sits_old : (seat : ℕ → ℕ) (made n p : ℕ) → p < made → sits_at seat made n p ≡ seat p
sits_old seat made n p e = rw (ne_eqb p made (λ h. omega arith)) refl

-- the end makes a pass, which has seen the history so far
pub new_passes : (k : About) (id : ℕ) (v : View) → v.keeps ≡ true → length v.list ≤ v.sure → Splits (Kept k) id v (one_more v) (new_pass v)
new_passes k id v keeper sure s h at =
    let b = k.base.value in
    let mine = h.fits id v at in
    let p = mine.keeper keeper in
    let left = set s.views id (one_more v) in
    let seat = sits_at h.seat h.made (length left) in
    let F = Fits k seat (h.made + 1) h.log h.list in
    let same : h.log ≡ h.list = prefix_whole h.log h.list h.begins (let r = mine.sure in let l = ap length p.all in omega arith) in
    let other : (j : ℕ) (u : View) → j ≢ id → get_elem? s.views j ≡ some u → F j u = λ j u away there. let f = h.fits j u there in
    record {
      keeper = λ q. absurd (away ((f.keeper q).first ∙ sym p.first));
      pass = λ q. let g = f.pass q in record { apart = g.apart; above = g.above; below = (let l = g.below in omega arith); sits = sits_old h.seat h.made (length left) u.number g.below ∙ g.sits; base = g.base; holds = g.holds };
      known = f.known;
      sure = f.sure;
    } in
    let now : F id (one_more v) = record {
      keeper = λ q. record { first = p.first; all = p.all; made = ap (λ m. m + 1) p.made; base = p.base; book = p.book };
      pass = λ q. absurd (off (sym (mine.pass q).apart ∙ keeper));
      known = mine.known;
      sure = mine.sure;
    } in
    let comes : F (length left) (new_pass v) = record {
      keeper = λ q. absurd (off q);
      pass = λ _. record { apart = refl; above = (let m = p.made in let o = h.one in omega arith); below = (let m = p.made in omega arith); sits = sits_new h.seat h.made (length left) v.made p.made; base = p.base; holds = ([], append-nil v.list ∙ (p.all ∙ sym same), tt) };
      known = (h.list, refl);
      sure = omega arith;
    } in
    record {
      made = h.made + 1;
      seat = seat;
      log = h.log;
      list = h.list;
      word = h.word;
      one = (let o = h.one in omega arith);
      from = from_later k.book.value.items h.made h.log h.from;
      begins = h.begins;
      near = h.near;
      legal = h.legal;
      fits = views_more F left (new_pass v) (views_set F s.views id (one_more v) other now) comes;
    }
