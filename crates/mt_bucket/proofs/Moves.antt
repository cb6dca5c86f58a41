-- What bytes written into a page do to its entries.
use Rattle.std.proofs.Common.{◌≡◌, ◌≢◌, ◌⊎◌, inl, inr, ⊎_elim, ℕ, suc, ◌+◌, ◌-◌, ◌*◌, ◌<◌, ◌≤◌, Bool, true, false, not, List, [], ◌∷◌, ◌++◌, Some, length, min, filter, refl, ap, ap₂, sym, ◌∙◌, subst, arith, append-nil, append_assoc}
use Rattle.std.proofs.lemmas.Bool.{cases_lt, cases_eq}
use Rattle.std.proofs.lemmas.List.Elements.{filter-append}
use Rattle.mt_base.specs.declared.numbers.RecordName.{RecordName}
use Rattle.mt_base.specs.Ranges.{u16_at, Torn, Wrote}
use Rattle.mt_base.proofs.Places.{same_u16, same_torn}
use Rattle.mt_bucket.specs.Entries.{Entry, look, renamed}
use Rattle.mt_bucket.specs.Page.{cell, entry_of, entries, entries_from, count_of, KeepsHead, IsFirst}
use Rattle.mt_bucket.specs.Steps.{OneMore, Pushed, Closed, Sorted, Dealt}
use Rattle.mt_bucket.proofs.Cells.{cell_same, cell_has, cell_renamed, key_length, long_cell}
use Rattle.mt_bucket.proofs.Lists.{take_it, pass_it, entries_push, entries_moved, look_first, look_renamed, renamed_first}

-- a head of which the depth or the next page changes
pub entries_kept : (c d : List ℕ) (p n : ℕ) → length c ≡ 4096 → Torn p n c d → (p + n ≤ 2) ⊎ (4 ≤ p) → p + n ≤ 8 → entries d ≡ entries c
entries_kept c d p n size torn apart low =
    let count : u16_at d 2 ≡ u16_at c 2 = same_u16 2 c d (same_torn p n 2 2 c d torn (⊎_elim (λ (b : p + n ≤ 2). inr b) (λ (a : 4 ≤ p). inl a) apart)) in
    ap (λ (m : ℕ). entries_from d 8 (min m 58)) count
    ∙ entries_moved c d 8 8 (count_of c) (λ j lt. cell_same c d (8 + 70 * j) (omega arith) torn.size (same_torn p n (8 + 70 * j) 70 c d torn (inr (omega arith))))

-- the cell and the count are written: a cell more
pub one_more : (c d f b : List ℕ) → length c ≡ 4096 → length b ≡ 70 → count_of c < 58 → Wrote (8 + 70 * count_of c) b c d → Torn 2 2 d f → u16_at f 2 ≡ count_of c + 1 → OneMore b c f
one_more c d f b size long room wrote torn number =
    let n = count_of c in
    let sd = wrote.rest.size in
    let sf = torn.size in
    let kept : (j : ℕ) → 8 + 70 * j + 70 ≤ 4096 → cell f (8 + 70 * j) ≡ cell d (8 + 70 * j) =
    λ j le. cell_same d f (8 + 70 * j) (omega arith) torn.size (same_torn 2 2 (8 + 70 * j) 70 d f torn (inr (omega arith))) in
    record {
      head = record {
        size = sf ∙ sd;
        depth = torn.below 0 (omega arith) ∙ wrote.rest.below 0 (omega arith);
        first = torn.below 1 (omega arith) ∙ wrote.rest.below 1 (omega arith);
        next = same_u16 4 d f (same_torn 2 2 4 2 d f torn (inr (omega arith))) ∙ same_u16 4 c d (same_torn (8 + 70 * n) (length b) 4 2 c d wrote.rest (inl (omega arith)));
        last = same_u16 6 d f (same_torn 2 2 6 2 d f torn (inr (omega arith))) ∙ same_u16 6 c d (same_torn (8 + 70 * n) (length b) 6 2 c d wrote.rest (inl (omega arith)));
      };
      number = number;
      front = λ j lt. kept j (omega arith) ∙ cell_same c d (8 + 70 * j) (omega arith) sd (same_torn (8 + 70 * n) (length b) (8 + 70 * j) 70 c d wrote.rest (inl (omega arith)));
      last = kept n (omega arith) ∙ cell_has d b (8 + 70 * n) long wrote.has;
    }

-- which is an entry more
pub pushed : (c f b : List ℕ) → count_of c < 58 → OneMore b c f → Pushed (entry_of b) c f
pushed c f b room more =
    let n = count_of c in
    let number = more.number in
    let counted : count_of f ≡ n + 1 = omega arith in
    record {
      head = more.head;
      counted = counted;
      entries = ap (entries_from f 8) (counted ∙ (let e : n + 1 ≡ suc n = omega arith in e)) ∙ entries_push f 8 n
          ∙ ap₂ (λ (xs : List Entry) (x : List ℕ). xs ++ entry_of x ∷ []) (entries_moved c f 8 8 n more.front) more.last;
    }

-- the last cell is written over one, and the count falls
pub closed : (c d f b : List ℕ) (i : ℕ) → length c ≡ 4096 → i < count_of c → b ≡ cell c (8 + 70 * (count_of c - 1)) → Wrote (8 + 70 * i) b c d → Torn 2 2 d f → u16_at f 2 ≡ count_of c - 1 → Closed i c f
closed c d f b i size lt last wrote torn number =
    let sd = wrote.rest.size in
    let sf = torn.size in
    let fewer : count_of f ≡ count_of c - 1 = omega arith in
    let long : length b ≡ 70 = ap length last ∙ long_cell c (8 + 70 * (count_of c - 1)) (omega arith) in
    let kept : (j : ℕ) → 8 + 70 * j + 70 ≤ 4096 → cell f (8 + 70 * j) ≡ cell d (8 + 70 * j) =
    λ j le. cell_same d f (8 + 70 * j) (omega arith) torn.size (same_torn 2 2 (8 + 70 * j) 70 d f torn (inr (omega arith))) in
    record {
      head = record {
        size = sf ∙ sd;
        depth = torn.below 0 (omega arith) ∙ wrote.rest.below 0 (omega arith);
        first = torn.below 1 (omega arith) ∙ wrote.rest.below 1 (omega arith);
        next = same_u16 4 d f (same_torn 2 2 4 2 d f torn (inr (omega arith))) ∙ same_u16 4 c d (same_torn (8 + 70 * i) (length b) 4 2 c d wrote.rest (inl (omega arith)));
        last = same_u16 6 d f (same_torn 2 2 6 2 d f torn (inr (omega arith))) ∙ same_u16 6 c d (same_torn (8 + 70 * i) (length b) 6 2 c d wrote.rest (inl (omega arith)));
      };
      counted = omega arith;
      few = omega arith;
      others = λ j away less. kept j (omega arith) ∙ cell_same c d (8 + 70 * j) (omega arith) sd (same_torn (8 + 70 * i) (length b) (8 + 70 * j) 70 c d wrote.rest
          (⊎_elim (λ (before : j < i). inl (omega arith)) (λ (behind : i ≤ j). inr (omega arith)) (cases_lt j i)));
      filled = λ less. kept i (omega arith) ∙ cell_has d b (8 + 70 * i) long wrote.has ∙ last ∙ ap (λ (n : ℕ). cell c (8 + 70 * n)) (sym fewer);
    }

-- the name of the first entry of a relation and a key is written
pub record Renamed (r : ℕ) (k : List ℕ) (name : RecordName) (old new : List ℕ) : Type 0 where
  pub head : KeepsHead old new
  pub list : entries new ≡ renamed r k name (entries old)
  pub found : look r k (entries new) ≡ Some name

pub set_first : (r : ℕ) (k c d : List ℕ) (i : ℕ) (name : RecordName) → length c ≡ 4096 → length k ≤ 64 → IsFirst r k c i → Torn (8 + 70 * i + 66) 4 c d
    → u16_at d (8 + 70 * i + 66) ≡ name.page → u16_at d (8 + 70 * i + 66 + 2) ≡ name.slot → Renamed r k name c d
set_first r k c d i name size short first torn page slot =
    let within = first.within in
    let long = long_cell c (8 + 70 * i) (omega arith) in
    let key = key_length (cell c (8 + 70 * i)) k r long short first.here in
    let count : u16_at d 2 ≡ u16_at c 2 = same_u16 2 c d (same_torn (8 + 70 * i + 66) 4 2 2 c d torn (inl (omega arith))) in
    let list : entries d ≡ renamed r k name (entries c) =
    ap (λ (m : ℕ). entries_from d 8 (min m 58)) count
    ∙ renamed_first r k c d name 8 (count_of c) i first.within first.here first.before
    (λ j lt ne. cell_same c d (8 + 70 * j) (omega arith) torn.size (same_torn (8 + 70 * i + 66) 4 (8 + 70 * j) 70 c d torn
    (⊎_elim (λ (less : j < i). inl (omega arith)) (λ (le : i ≤ j). ⊎_elim (λ (e : j ≡ i). absurd (ne e)) (λ (e : j ≢ i). inr (omega arith)) (cases_eq j i)) (cases_lt j i))))
    (cell_renamed c d (8 + 70 * i) name.page name.slot (omega arith) (omega arith) torn page slot) in
    record {
      head = record {
        size = torn.size;
        depth = torn.below 0 (omega arith);
        first = torn.below 1 (omega arith);
        next = same_u16 4 c d (same_torn (8 + 70 * i + 66) 4 4 2 c d torn (inl (omega arith)));
        last = same_u16 6 c d (same_torn (8 + 70 * i + 66) 4 6 2 c d torn (inl (omega arith)));
      };
      list = list;
      found = ap (look r k) list ∙ look_renamed r k name (entries c) _ (look_first r k c 8 (count_of c) i first.within first.here first.before);
    }

-- ---- a partition

pub heads_trans : (a b c : List ℕ) → KeepsHead a b → KeepsHead b c → KeepsHead a c
heads_trans a b c f g = record { size = g.size ∙ f.size; depth = g.depth ∙ f.depth; first = g.first ∙ f.first; next = g.next ∙ f.next; last = g.last ∙ f.last }

pub dealt_more : (over : Entry → Bool) (all : List Entry) (i : ℕ) (e : Entry) (old page page2 start to to2 : List ℕ)
    → Dealt over all i old page start to → Sorted (over e) e page page2 to to2 → Dealt over (all ++ e ∷ []) (i + 1) old page2 start to2
dealt_more over all i e old page page2 start to to2 so sorted = go (over e) refl
  where
    stays : Entry → Bool
    stays = λ x. not (over x)

    go : (b : Bool) → over e ≡ b → Dealt over (all ++ e ∷ []) (i + 1) old page2 start to2
    go true t =
        let s : (page2 ≡ page) × Pushed e to to2 = subst (λ (b : Bool). Sorted b e page page2 to to2) t sorted in
        let f = so.few in let g = so.to_few in let n = s.1.counted in
        record {
          head = subst (KeepsHead old) (sym s.0) so.head;
          to_head = heads_trans start to to2 so.to_head s.1.head;
          few = subst (λ (p : List ℕ). count_of p ≤ i + 1) (sym s.0) (omega arith);
          to_few = omega arith;
          stay = ap entries s.0 ∙ so.stay ∙ sym (filter-append (λ x. not (over x)) all (e ∷ []) ∙ ap (λ xs. filter (λ x. not (over x)) all ++ xs) (pass_it (not (over e)) (e ∷ []) [] (ap not t)) ∙ append-nil (filter (λ x. not (over x)) all));
          go = s.1.entries ∙ ap (λ xs. xs ++ e ∷ []) so.go ∙ append_assoc (entries start) (filter over all) (e ∷ [])
              ∙ ap (λ xs. entries start ++ xs) (sym (filter-append over all (e ∷ []) ∙ ap (λ xs. filter over all ++ xs) (take_it (over e) (e ∷ []) [] t)));
        }
    go false t =
        let s : Pushed e page page2 × (to2 ≡ to) = subst (λ (b : Bool). Sorted b e page page2 to to2) t sorted in
        let f = so.few in let g = so.to_few in let n = s.0.counted in
        record {
          head = heads_trans old page page2 so.head s.0.head;
          to_head = subst (KeepsHead start) (sym s.1) so.to_head;
          few = omega arith;
          to_few = subst (λ (p : List ℕ). count_of p ≤ count_of start + (i + 1)) (sym s.1) (omega arith);
          stay = s.0.entries ∙ ap (λ xs. xs ++ e ∷ []) so.stay
              ∙ sym (filter-append (λ x. not (over x)) all (e ∷ []) ∙ ap (λ xs. filter (λ x. not (over x)) all ++ xs) (take_it (not (over e)) (e ∷ []) [] (ap not t)));
          go = ap entries s.1 ∙ so.go ∙ ap (λ xs. entries start ++ xs) (sym (filter-append over all (e ∷ []) ∙ ap (λ xs. filter over all ++ xs) (pass_it (over e) (e ∷ []) [] t) ∙ append-nil (filter over all)));
        }

-- nothing is dealt out yet
pub dealt_none : (over : Entry → Bool) (c d start : List ℕ) → length c ≡ 4096 → Torn 2 2 c d → u16_at d 2 ≡ 0 → Dealt over [] 0 c d start start
dealt_none over c d start size torn number =
    let none : count_of d ≡ 0 = omega arith in
    record {
      head = record {
        size = torn.size;
        depth = torn.below 0 (omega arith);
        first = torn.below 1 (omega arith);
        next = same_u16 4 c d (same_torn 2 2 4 2 c d torn (inr (omega arith)));
        last = same_u16 6 c d (same_torn 2 2 6 2 c d torn (inr (omega arith)));
      };
      to_head = record { size = refl; depth = refl; first = refl; next = refl; last = refl };
      few = omega arith;
      to_few = omega arith;
      stay = ap (entries_from d 8) none;
      go = sym (append-nil (entries start));
    }
