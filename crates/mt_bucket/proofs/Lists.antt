-- Lists of entries.
use Rattle.std.proofs.Common.{◌≡◌, ◌≢◌, ℕ, zero, suc, ◌+◌, ◌*◌, ◌<◌, ◌≤◌, Bool, true, false, cond, List, [], ◌∷◌, ◌++◌, Some, None, length, refl, ap, sym, ◌∙◌, arith}
use Rattle.std.proofs.lemmas.Option.{none-some}
use Rattle.mt_base.specs.declared.numbers.RecordName.{RecordName}
use Rattle.mt_bucket.specs.Entries.{Entry, is_at, look, renamed, behind_first, last_first, without}
use Rattle.mt_bucket.specs.Page.{cell, entry_of, entries_from}

pub take_it : {A : Type 0} (t : Bool) (x y : A) → t ≡ true → cond t x y ≡ x
take_it true x y e = refl
take_it false x y e = absurd cc

pub pass_it : {A : Type 0} (t : Bool) (x y : A) → t ≡ false → cond t x y ≡ y
pass_it false x y e = refl
pass_it true x y e = absurd cc

pub entries_length : (c : List ℕ) (at n : ℕ) → length (entries_from c at n) ≡ n
entries_length c at zero = refl
entries_length c at (suc n) = omega (arith, entries_length c (at + 70) n)

pub entries_push : (c : List ℕ) (at n : ℕ) → entries_from c at (suc n) ≡ entries_from c at n ++ entry_of (cell c (at + 70 * n)) ∷ []
entries_push c at zero = ap (λ (k : ℕ). entry_of (cell c k) ∷ []) (omega arith)
entries_push c at (suc n) = ap (λ xs. entry_of (cell c at) ∷ xs) (entries_push c (at + 70) n ∙ ap (λ (k : ℕ). entries_from c (at + 70) n ++ entry_of (cell c k) ∷ []) (omega arith))

-- cells that are the same, wherever they lie
pub entries_moved : (c d : List ℕ) (p q n : ℕ) → ((j : ℕ) → j < n → cell d (q + 70 * j) ≡ cell c (p + 70 * j)) → entries_from d q n ≡ entries_from c p n
entries_moved c d p q zero same = refl
entries_moved c d p q (suc n) same =
    ap (λ x. entry_of x ∷ entries_from d (q + 70) n) (ap (cell d) (omega arith) ∙ same 0 (omega arith) ∙ ap (cell c) (omega arith))
    ∙ ap (λ xs. entry_of (cell c p) ∷ xs) (entries_moved c d (p + 70) (q + 70) n
    (λ j lt. ap (cell d) (omega arith) ∙ same (suc j) (omega arith) ∙ ap (cell c) (omega arith)))

-- a new name is what a look finds
pub look_renamed : (r : ℕ) (k : List ℕ) (n : RecordName) (es : List Entry) (x : RecordName) → look r k es ≡ Some x → look r k (renamed r k n es) ≡ Some n
look_renamed r k n [] x is = absurd (none-some x is)
look_renamed r k n (e ∷ es) x is = go (is_at r k e) refl (look_renamed r k n es x)
  where
    go : (b : Bool) → is_at r k e ≡ b → (look r k es ≡ Some x → look r k (renamed r k n es) ≡ Some n) → look r k (renamed r k n (e ∷ es)) ≡ Some n
    go true t rest =
        ap (look r k) (take_it (is_at r k e) (record e { name = n } ∷ es) (e ∷ renamed r k n es) t)
        ∙ take_it (is_at r k e) (Some n) (look r k es) t
    go false t rest =
        ap (look r k) (pass_it (is_at r k e) (record e { name = n } ∷ es) (e ∷ renamed r k n es) t)
        ∙ pass_it (is_at r k e) (Some e.name) (look r k (renamed r k n es)) t
        ∙ rest (sym (pass_it (is_at r k e) (Some e.name) (look r k es) t) ∙ is)

pub last_first_push : (es : List Entry) (l : Entry) → last_first (es ++ l ∷ []) ≡ l ∷ es
last_first_push [] l = refl
last_first_push (e ∷ es) l = ap (behind_first e) (last_first_push es l)

-- the last cell comes to the first one's place
pub filled_first : (c d : List ℕ) (at n : ℕ) → ((j : ℕ) → 0 < j → j < n → cell d (at + 70 * j) ≡ cell c (at + 70 * j)) → (0 < n → cell d (at + 70 * 0) ≡ cell c (at + 70 * n))
    → entries_from d at n ≡ last_first (entries_from c (at + 70) n)
filled_first c d at zero others filled = refl
filled_first c d at (suc n) others filled =
    ap (λ x. entry_of x ∷ entries_from d (at + 70) n) (ap (cell d) (omega arith) ∙ filled (omega arith) ∙ ap (cell c) (omega arith))
    ∙ ap (λ es. entry_of (cell c (at + 70 + 70 * n)) ∷ es) (entries_moved c d (at + 70) (at + 70) n
    (λ j less. ap (cell d) (omega arith) ∙ others (suc j) (omega arith) (omega arith) ∙ ap (cell c) (omega arith)))
    ∙ sym (ap last_first (entries_push c (at + 70) n) ∙ last_first_push (entries_from c (at + 70) n) (entry_of (cell c (at + 70 + 70 * n))))

-- where the first entry of a relation and a key is
module _ (r : ℕ) (k c : List ℕ) where
  abbrev pub here : ℕ → ℕ → Bool
  here at j = is_at r k (entry_of (cell c (at + 70 * j)))

  here_first : (at : ℕ) → here at 0 ≡ is_at r k (entry_of (cell c at))
  here_first at = ap (λ (p : ℕ). is_at r k (entry_of (cell c p))) (omega arith)

  here_next : (at j : ℕ) → here at (suc j) ≡ here (at + 70) j
  here_next at j = ap (λ (p : ℕ). is_at r k (entry_of (cell c p))) (omega arith)

  pub look_none : (at n : ℕ) → ((j : ℕ) → j < n → here at j ≡ false) → look r k (entries_from c at n) ≡ None
  look_none at zero others = refl
  look_none at (suc n) others =
      pass_it (is_at r k (entry_of (cell c at))) (Some (entry_of (cell c at)).name) (look r k (entries_from c (at + 70) n)) (sym (here_first at) ∙ others 0 (omega arith))
      ∙ look_none (at + 70) n (λ j lt. sym (here_next at j) ∙ others (suc j) (omega arith))

  pub look_first : (at n i : ℕ) → i < n → here at i ≡ true → ((j : ℕ) → j < i → here at j ≡ false) → look r k (entries_from c at n) ≡ Some (entry_of (cell c (at + 70 * i))).name
  look_first at zero i lt is_it others = absurd (omega arith)
  look_first at (suc n) zero lt is_it others =
      take_it (is_at r k (entry_of (cell c at))) (Some (entry_of (cell c at)).name) (look r k (entries_from c (at + 70) n)) (sym (here_first at) ∙ is_it)
      ∙ ap (λ (p : ℕ). Some (entry_of (cell c p)).name) (omega arith)
  look_first at (suc n) (suc i) lt is_it others =
      pass_it (is_at r k (entry_of (cell c at))) (Some (entry_of (cell c at)).name) (look r k (entries_from c (at + 70) n)) (sym (here_first at) ∙ others 0 (omega arith))
      ∙ look_first (at + 70) n i (omega arith) (sym (here_next at i) ∙ is_it) (λ j less. sym (here_next at j) ∙ others (suc j) (omega arith))
      ∙ ap (λ (p : ℕ). Some (entry_of (cell c p)).name) (omega arith)

  pub renamed_first : (d : List ℕ) (name : RecordName) (at n i : ℕ) → i < n → here at i ≡ true → ((j : ℕ) → j < i → here at j ≡ false)
      → ((j : ℕ) → j < n → j ≢ i → cell d (at + 70 * j) ≡ cell c (at + 70 * j)) → entry_of (cell d (at + 70 * i)) ≡ record (entry_of (cell c (at + 70 * i))) { name = name }
      → entries_from d at n ≡ renamed r k name (entries_from c at n)
  renamed_first d name at zero i lt is_it others same new = absurd (omega arith)
  renamed_first d name at (suc n) zero lt is_it others same new =
      ap (λ (p : ℕ). entry_of (cell d p) ∷ entries_from d (at + 70) n) (omega arith)
      ∙ ap (λ e. e ∷ entries_from d (at + 70) n) new
      ∙ ap (λ (p : ℕ). record (entry_of (cell c p)) { name = name } ∷ entries_from d (at + 70) n) (omega arith)
      ∙ ap (λ es. record (entry_of (cell c at)) { name = name } ∷ es) (entries_moved c d (at + 70) (at + 70) n (λ j less. ap (cell d) (omega arith) ∙ same (suc j) (omega arith) (λ e. absurd (omega arith)) ∙ ap (cell c) (omega arith)))
      ∙ sym (take_it (is_at r k (entry_of (cell c at))) (record (entry_of (cell c at)) { name = name } ∷ entries_from c (at + 70) n) (entry_of (cell c at) ∷ renamed r k name (entries_from c (at + 70) n)) (sym (here_first at) ∙ is_it))
  renamed_first d name at (suc n) (suc i) lt is_it others same new =
      ap (λ x. entry_of x ∷ entries_from d (at + 70) n) (ap (cell d) (omega arith) ∙ same 0 (omega arith) (λ e. absurd (omega arith)) ∙ ap (cell c) (omega arith))
      ∙ ap (λ es. entry_of (cell c at) ∷ es) (renamed_first d name (at + 70) n i (omega arith) (sym (here_next at i) ∙ is_it) (λ j less. sym (here_next at j) ∙ others (suc j) (omega arith))
      (λ j less ne. ap (cell d) (omega arith) ∙ same (suc j) (omega arith) (λ e. absurd (omega arith)) ∙ ap (cell c) (omega arith))
      (ap (λ (p : ℕ). entry_of (cell d p)) (omega arith) ∙ new ∙ ap (λ (p : ℕ). record (entry_of (cell c p)) { name = name }) (omega arith)))
      ∙ sym (pass_it (is_at r k (entry_of (cell c at))) (record (entry_of (cell c at)) { name = name } ∷ entries_from c (at + 70) n) (entry_of (cell c at) ∷ renamed r k name (entries_from c (at + 70) n)) (sym (here_first at) ∙ others 0 (omega arith)))

  pub without_first : (d : List ℕ) (at n i : ℕ) → i ≤ n → here at i ≡ true → ((j : ℕ) → j < i → here at j ≡ false)
      → ((j : ℕ) → j ≢ i → j < n → cell d (at + 70 * j) ≡ cell c (at + 70 * j)) → (i < n → cell d (at + 70 * i) ≡ cell c (at + 70 * n))
      → entries_from d at n ≡ without r k (entries_from c at (suc n))
  without_first d at n zero le is_it before others filled =
      filled_first c d at n (λ j some less. others j (λ e. absurd (omega arith)) less) filled
      ∙ sym (take_it (is_at r k (entry_of (cell c at))) (last_first (entries_from c (at + 70) n)) (entry_of (cell c at) ∷ without r k (entries_from c (at + 70) n)) (sym (here_first at) ∙ is_it))
  without_first d at zero (suc i) le is_it before others filled = absurd (omega arith)
  without_first d at (suc n) (suc i) le is_it before others filled =
      ap (λ x. entry_of x ∷ entries_from d (at + 70) n) (ap (cell d) (omega arith) ∙ others 0 (λ e. absurd (omega arith)) (omega arith) ∙ ap (cell c) (omega arith))
      ∙ ap (λ es. entry_of (cell c at) ∷ es) (without_first d (at + 70) n i (omega arith) (sym (here_next at i) ∙ is_it) (λ j less. sym (here_next at j) ∙ before (suc j) (omega arith))
      (λ j away less. ap (cell d) (omega arith) ∙ others (suc j) (λ e. absurd (away (omega arith))) (omega arith) ∙ ap (cell c) (omega arith))
      (λ less. ap (cell d) (omega arith) ∙ filled (omega arith) ∙ ap (cell c) (omega arith)))
      ∙ sym (pass_it (is_at r k (entry_of (cell c at))) (last_first (entries_from c (at + 70) (suc n))) (entry_of (cell c at) ∷ without r k (entries_from c (at + 70) (suc n))) (sym (here_first at) ∙ before 0 (omega arith)))
