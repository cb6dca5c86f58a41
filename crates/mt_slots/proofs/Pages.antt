-- A page with one slot changed.
use Rattle.std.proofs.Common.{◌≡◌, ◌≢◌, inl, inr, ⊎_elim, ◌⊎◌, ℕ, zero, suc, ◌+◌, ◌*◌, ◌<◌, ◌≤◌, List, Some, None, length, get_or, refl, sym, ◌∙◌, ap, ap₂, subst, arith}
use Rattle.std.proofs.lemmas.Bool.{cases_lt, cases_eq}
use Rattle.std.proofs.lemmas.Bool.Decides.{nat_tests}
use Rattle.mt_base.specs.Ranges.{u16_at, part, Torn, Same}
use Rattle.mt_slots.specs.Page.{count, offset, size, row_size, row_at, slot, live_bytes, IsRow, IsFree, IsSlot, IsShaped, Sets}
use Rattle.mt_base.proofs.Places.{same_u16, same_within, same_part, same_torn, part_length}

pub slot_live : (page : List ℕ) (i : ℕ) → i < count page → size page i ≢ 0 → slot page i ≡ Some (row_at page (offset page i))
unfolding slot
slot_live page i lt live = grind (arith, nat_tests)

pub slot_empty : (page : List ℕ) (i : ℕ) → size page i ≡ 0 → slot page i ≡ None
unfolding slot
slot_empty page i is = grind (arith, nat_tests)

pub slot_past : (page : List ℕ) (i : ℕ) → count page ≤ i → slot page i ≡ None
unfolding slot
slot_past page i le = grind (arith, nat_tests)

pub size_same : (old new : List ℕ) (i : ℕ) → Same (10 + 4 * i) 2 old new → size new i ≡ size old i
unfolding size
size_same old new i s = same_u16 (10 + 4 * i) old new s

pub offset_same : (old new : List ℕ) (i : ℕ) → Same (8 + 4 * i) 2 old new → offset new i ≡ offset old i
unfolding offset
offset_same old new i s = same_u16 (8 + 4 * i) old new s

pub count_same : (old new : List ℕ) → Same 0 2 old new → count new ≡ count old
unfolding count
count_same old new s = same_u16 0 old new s

-- a record whose bytes are the same
pub row_same : (at : ℕ) (old new : List ℕ) → length new ≡ length old → Same at (row_size old at) old new → (row_size new at ≡ row_size old at) × (row_at new at ≡ row_at old at)
unfolding row_size row_at
row_same at old new len s =
    let key = s (at + 1) (omega arith) (omega arith) in
    let relation : get_or new at 0 ≡ get_or old at 0 = s at (omega arith) (omega arith) in
    let value = same_u16 (at + 2) old new (same_within at (row_size old at) (at + 2) 2 old new s (omega arith) (omega arith)) in
    let k = same_part (at + 4) (get_or old (at + 1) 0) old new len (same_within at (row_size old at) (at + 4) (get_or old (at + 1) 0) old new s (omega arith) (omega arith)) in
    let v = same_part (at + 4 + get_or old (at + 1) 0) (u16_at old (at + 2)) old new len
    (same_within at (row_size old at) (at + 4 + get_or old (at + 1) 0) (u16_at old (at + 2)) old new s (omega arith) (omega arith)) in (
      omega arith,
      λ i. record {
        relation = relation i;
        key = (ap (part new (at + 4)) key ∙ k) i;
        value = (ap₂ (λ (p n : ℕ). part new (at + 4 + p) n) key value ∙ v) i;
      },
    )

pub row_is_same : (at n : ℕ) (old new : List ℕ) → length new ≡ length old → Same at n old new → IsRow old at n → IsRow new at n
unfolding row_size
row_is_same at n old new len s row =
    let w = row.whole in
    let same = row_same at old new len (subst (λ (m : ℕ). Same at m old new) w s) in
    record { inside = row.inside; whole = w ∙ sym same.0 }

-- the sums
pub live_same : (old new : List ℕ) (n : ℕ) → ((j : ℕ) → j < n → size new j ≡ size old j) → live_bytes new n ≡ live_bytes old n
live_same old new zero s = refl
live_same old new (suc n) s =
    let rest = live_same old new n (λ j lt. s j (omega arith)) in
    let here = s n (omega arith) in
    omega arith

pub live_one : (old new : List ℕ) (i n : ℕ) → ((j : ℕ) → j < n → j ≢ i → size new j ≡ size old j) → i < n → live_bytes new n + size old i ≡ live_bytes old n + size new i
live_one old new i zero s lt = absurd (omega arith)
live_one old new i (suc n) s lt =
    ⊎_elim
    (λ (is : i ≡ n).
    let rest = live_same old new n (λ j below. s j (omega arith) (λ e. absurd (omega arith))) in
    let a = ap (size old) is in
    let b = ap (size new) is in
    omega arith)
    (λ (not_last : i ≢ n).
    let rest = live_one old new i n (λ j below ne. s j (omega arith) ne) (omega arith) in
    let here = s n (omega arith) (λ e. not_last (sym e)) in
    omega arith)
    (cases_eq i n)

-- each slot but i keeps its head and its bytes
pub record Keeps (old new : List ℕ) (i : ℕ) : Type 0 where
  pub len : length new ≡ length old
  pub zeros : Same 2 6 old new
  pub offsets : (j : ℕ) → j < count old → j ≢ i → offset new j ≡ offset old j
  pub sizes : (j : ℕ) → j < count old → j ≢ i → size new j ≡ size old j
  pub rows : (j : ℕ) → j < count old → j ≢ i → size old j ≢ 0 → Same (offset old j) (size old j) old new

-- the number of slots: as before, or slot i is new
abbrev pub Counts : List ℕ → List ℕ → ℕ → Type 0
Counts old new i = ((i < count old) × (count new ≡ count old)) ⊎ ((i ≡ count old) × (count new ≡ i + 1))

pub others_kept : (old new : List ℕ) (i : ℕ) → IsShaped old → Keeps old new i → Counts old new i → (j : ℕ) → j ≢ i → slot new j ≡ slot old j
others_kept old new i page kept counts j ne =
    let past : count old ≤ j → count new ≤ j = λ le. ⊎_elim (λ h. let e = h.1 in omega arith) (λ h. let a = h.0 in let e = h.1 in let d : j ≢ i = ne in ⊎_elim (λ (z : j ≡ i). absurd (ne z)) (λ (z : j ≢ i). omega arith) (cases_eq j i)) counts in
    let fewer : j < count old → j < count new = λ lt. ⊎_elim (λ h. let e = h.1 in omega arith) (λ h. let a = h.0 in let e = h.1 in omega arith) counts in
    ⊎_elim
    (λ (lt : j < count old).
    let same = kept.sizes j lt ne in
    ⊎_elim
    (λ (empty : size old j ≡ 0). slot_empty new j (same ∙ empty) ∙ sym (slot_empty old j empty))
    (λ (live : size old j ≢ 0).
    let row = (page.each j lt).row live in
    let bytes = subst (λ (m : ℕ). Same (offset old j) m old new) row.whole (kept.rows j lt ne live) in
    slot_live new j (fewer lt) (λ e. live (sym same ∙ e))
    ∙ ap (λ (at : ℕ). Some (row_at new at)) (kept.offsets j lt ne)
    ∙ ap Some (row_same (offset old j) old new kept.len bytes).1
    ∙ sym (slot_live old j lt live))
    (cases_eq (size old j) 0))
    (λ (le : count old ≤ j). slot_past new j (past le) ∙ sym (slot_past old j le))
    (cases_lt j (count old))

-- a page of which one slot is new, or changed
pub one_slot : (old new : List ℕ) (i : ℕ) → IsShaped old → Keeps old new i → Counts old new i
    → ((j : ℕ) → j < count old → j ≢ i → size old j ≢ 0 → 8 + 4 * count new ≤ offset old j)
    → IsSlot new (8 + 4 * count new) i
    → IsFree old i (offset new i) (size new i)
    → 8 + 4 * count new + live_bytes new (count new) ≤ 4096
    → IsShaped new
one_slot old new i page kept counts behind here free room =
    let before : (j : ℕ) → j < count new → j ≢ i → j < count old = λ j lt ne. ⊎_elim (λ h. let e = h.1 in omega arith) (λ h. let a = h.0 in let e = h.1 in ⊎_elim (λ (z : j ≡ i). absurd (ne z)) (λ (z : j ≢ i). omega arith) (cases_eq j i)) counts in
    record {
      length = kept.len ∙ page.length;
      zeros = λ k a b. kept.zeros k a (omega arith) ∙ page.zeros k a b;
      table = omega arith;
      each = λ j lt. ⊎_elim
          (λ (is : j ≡ i). subst (IsSlot new (8 + 4 * count new)) (sym is) here)
          (λ (ne : j ≢ i).
          let lt_old = before j lt ne in
          let s = kept.sizes j lt_old ne in
          let o = kept.offsets j lt_old ne in
          record {
            empty = λ is. o ∙ (page.each j lt_old).empty (sym s ∙ is);
            behind = λ live. let b = behind j lt_old ne (λ e. live (s ∙ e)) in omega arith;
            row = λ live.
                let old_live : size old j ≢ 0 = λ e. live (s ∙ e) in
                rw (o, s) (row_is_same (offset old j) (size old j) old new kept.len (kept.rows j lt_old ne old_live) ((page.each j lt_old).row old_live));
          })
          (cases_eq j i);
      apart = λ j lt k below ne. ⊎_elim
          (λ (is : j ≡ i).
          let not_i : k ≢ i = λ e. ne (e ∙ sym is) in
          let k_old = before k below not_i in
          let f = free k k_old not_i in
          let s = kept.sizes k k_old not_i in
          let o = kept.offsets k k_old not_i in
          let so = ap (offset new) is in
          let ss = ap (size new) is in
          grind arith)
          (λ (other : j ≢ i).
          let j_old = before j lt other in
          let s = kept.sizes j j_old other in
          let o = kept.offsets j j_old other in
          ⊎_elim
          (λ (is : k ≡ i).
          let f = free j j_old other in
          let so = ap (offset new) is in
          let ss = ap (size new) is in
          grind arith)
          (λ (not_i : k ≢ i).
          let k_old = before k below not_i in
          let f = page.apart j j_old k k_old ne in
          let s2 = kept.sizes k k_old not_i in
          let o2 = kept.offsets k k_old not_i in
          grind arith)
          (cases_eq k i))
          (cases_eq j i);
      room = room;
    }

-- slot i is set to 0, 0
pub cleared : (old new : List ℕ) (i : ℕ) → IsShaped old → i < count old → Torn (8 + 4 * i) 4 old new → offset new i ≡ 0 → size new i ≡ 0
    → IsShaped new × Sets old new i None (count old) × (live_bytes new (count new) + size old i ≡ live_bytes old (count old))
cleared old new i page lt torn off none =
    let counted : count new ≡ count old = count_same old new (same_torn (8 + 4 * i) 4 0 2 old new torn (inl (omega arith))) in
    let apart : (j : ℕ) → j ≢ i → (12 + 4 * j ≤ 8 + 4 * i) ⊎ (12 + 4 * i ≤ 8 + 4 * j) = λ j ne. ⊎_elim (λ (a : j < i). inl (omega arith)) (λ (b : i ≤ j). inr (omega arith)) (cases_lt j i) in
    let offsets : (j : ℕ) → j < count old → j ≢ i → offset new j ≡ offset old j = λ j below ne. offset_same old new j (same_torn (8 + 4 * i) 4 (8 + 4 * j) 2 old new torn (⊎_elim (λ a. inl (omega arith)) (λ b. inr (omega arith)) (apart j ne))) in
    let sizes : (j : ℕ) → j < count old → j ≢ i → size new j ≡ size old j = λ j below ne. size_same old new j (same_torn (8 + 4 * i) 4 (10 + 4 * j) 2 old new torn (⊎_elim (λ a. inl (omega arith)) (λ b. inr (omega arith)) (apart j ne))) in
    let kept : Keeps old new i = record {
      len = torn.size;
      zeros = same_torn (8 + 4 * i) 4 2 6 old new torn (inl (omega arith));
      offsets = offsets;
      sizes = sizes;
      rows = λ j below ne live. same_torn (8 + 4 * i) 4 (offset old j) (size old j) old new torn (inr (let b = (page.each j below).behind live in omega arith));
    } in
    let counts : Counts old new i = inl (lt, counted) in
    let sum = live_one old new i (count old) (λ j below ne. sizes j below ne) lt in
    let live = ap (live_bytes new) counted in
    let fits = page.room in (
      one_slot old new i page kept counts
          (λ j below ne live. let b = (page.each j below).behind live in omega arith)
          (record { empty = λ is. off; behind = λ no_. absurd (no_ none); row = λ no_. absurd (no_ none) })
          (λ j below ne. inr (omega arith))
          (omega arith),
      record { here = slot_empty new i none; others = others_kept old new i page kept counts; counted = counted },
      omega arith,
    )

pub row_inside : (page : List ℕ) (i : ℕ) → IsShaped page → i < count page → size page i ≢ 0 → offset page i + row_size page (offset page i) ≤ length page
row_inside page i sound lt live =
    let row = (sound.each i lt).row live in
    let a = row.inside in
    let b = row.whole in
    let c = sound.length in
    omega arith

-- eight zeros begin a page with no slots
pub cleared_page : (page : List ℕ) → length page ≡ 4096 → ((i : ℕ) → i < 8 → get_or page i 0 ≡ 0) → IsShaped page × (count page ≡ 0)
unfolding count
cleared_page page len zeros =
    let a = zeros 0 (omega arith) in
    let b = zeros 1 (omega arith) in
    let none : count page ≡ 0 = omega arith in
    let sum = ap (live_bytes page) none in (
      record {
        length = len;
        zeros = λ i low high. zeros i high;
        table = omega arith;
        each = λ i lt. absurd (omega arith);
        apart = λ i lt. absurd (omega arith);
        room = omega arith;
      },
      none,
    )

-- a record's relation and the length of its key, as its head says them
pub row_fits : (page : List ℕ) (at n : ℕ) → length page ≡ 4096 → IsRow page at n
    → (length (row_at page at).key ≡ get_or page (at + 1) 0) × ((row_at page at).relation ≡ get_or page at 0)
unfolding row_size row_at
row_fits page at n len row =
    let a = row.inside in
    let b = row.whole in
    ((part_length page (at + 4) (get_or page (at + 1) 0) (omega arith)).0, refl)
