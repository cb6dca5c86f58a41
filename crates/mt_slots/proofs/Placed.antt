-- A record that is put at a free place.
use Rattle.std.proofs.Common.{◌≡◌, ◌≢◌, inl, inr, ⊎_elim, ℕ, suc, ◌+◌, ◌*◌, ◌/◌, ◌%◌, ◌<◌, ◌≤◌, List, [], ◌∷◌, ◌++◌, Some, length, get_or, refl, sym, ◌∙◌, ap, ap₂, arith, length-append}
use Rattle.std.proofs.Math.Nat.{div-add-mod'}
use Rattle.std.proofs.lemmas.Bool.{cases_lt, cases_eq}
use Rattle.mt_base.specs.Ranges.{u16_at, part, Has, Torn, Wrote, Same}
use Rattle.mt_slots.specs.Page.{Row, count, offset, size, row_size, row_at, live_bytes, IsRow, IsShaped, Sets, Opens}
use Rattle.mt_slots.specs.Parts.{row_text, Placed, PutsRow, IsPlace, StaysPut}
use Rattle.mt_base.proofs.Places.{same_within, same_torn, part_has, has_front, has_back, has_torn}
use Rattle.mt_slots.proofs.Pages.{slot_live, offset_same, size_same, live_same, live_one, Keeps, Counts, others_kept, one_slot}

pub row_text_length : (r : Row) → length (row_text r) ≡ 4 + length r.key + length r.value
row_text_length r = omega (arith, length-append r.key r.value)

-- how a record's text reads
pub record Reads (page : List ℕ) (at : ℕ) (r : Row) : Type 0 where
  pub row : row_at page at ≡ r
  pub size : row_size page at ≡ length (row_text r)
  pub relation : get_or page at 0 ≡ r.relation
  pub key : get_or page (at + 1) 0 ≡ length r.key
  pub value : u16_at page (at + 2) ≡ length r.value

pub row_has : (page : List ℕ) (at : ℕ) (r : Row) → Has page at (row_text r) → Reads page at r
unfolding row_at row_size
row_has page at r h =
    let long = row_text_length r in
    let relation : get_or page at 0 ≡ r.relation = ap (λ (k : ℕ). get_or page k 0) (omega arith) ∙ h.each 0 (omega arith) in
    let key : get_or page (at + 1) 0 ≡ length r.key = h.each 1 (omega arith) in
    let high : get_or page (at + 2) 0 ≡ length r.value / 256 = h.each 2 (omega arith) in
    let low : get_or page (at + 2 + 1) 0 ≡ length r.value % 256 = ap (λ (k : ℕ). get_or page k 0) (omega arith) ∙ h.each 3 (omega arith) in
    let whole = div-add-mod' (length r.value) 256 in
    let value : u16_at page (at + 2) ≡ length r.value = omega arith in
    let back = has_back page at (r.relation ∷ length r.key ∷ length r.value / 256 ∷ length r.value % 256 ∷ []) (r.key ++ r.value) h in
    let k = part_has page r.key (at + 4) (length r.key) (has_front page (at + 4) r.key r.value back) refl in
    let v = part_has page r.value (at + 4 + length r.key) (length r.value) (has_back page (at + 4) r.key r.value back) refl in
    record {
      row = λ i. record {
        relation = relation i;
        key = (ap (part page (at + 4)) key ∙ k) i;
        value = (ap₂ (λ (p n : ℕ). part page (at + 4 + p) n) key value ∙ v) i;
      };
      size = omega arith;
      relation = relation;
      key = key;
      value = value;
    }

pub row_there : (page : List ℕ) (at : ℕ) (r : Row) → Reads page at r → at + length (row_text r) ≤ 4096 → IsRow page at (length (row_text r))
row_there page at r reads within = record { inside = within; whole = sym reads.size }

pub placed : (old new : List ℕ) (i n at : ℕ) (r : Row) → IsShaped old → IsPlace old i n at (length (row_text r))
    → Placed old new i at (row_text r) n
    → IsShaped new × Sets old new i (Some r) n × (live_bytes new (count new) ≡ live_bytes old (count old) + length (row_text r)) × StaysPut old new i
placed old new i n at r page place done =
    let long = row_text_length r in
    let low = place.low in
    let high = place.high in
    let counted = done.counted in
    let sized = done.sized in
    let points = done.points in
    let within : i < n = ⊎_elim (λ h. let a = h.0 in let b = h.2 in omega arith) (λ h. let b = h.1 in omega arith) place.opens in
    let more : count old ≤ n = ⊎_elim (λ h. let b = h.2 in omega arith) (λ h. let a = h.0 in let b = h.1 in omega arith) place.opens in
    let counts : Counts old new i = ⊎_elim (λ h. let a = h.2 in inl (h.0, omega arith)) (λ h. let a = h.1 in inr (h.0, omega arith)) place.opens in
    let heads : (j : ℕ) → j < count old → j ≢ i → Same (8 + 4 * j) 4 old new = λ j below ne k a b.
    done.rest k (omega arith) (⊎_elim (λ (less : j < i). inl (omega arith)) (λ (le : i ≤ j). ⊎_elim (λ (e : j ≡ i). absurd (ne e)) (λ (e : j ≢ i). inr (omega arith)) (cases_eq j i)) (cases_lt j i)) (inl (omega arith)) in
    let kept : Keeps old new i = record {
      len = done.len;
      zeros = λ k a b. done.rest k a (inl (omega arith)) (inl (omega arith));
      offsets = λ j below ne. offset_same old new j (same_within (8 + 4 * j) 4 (8 + 4 * j) 2 old new (heads j below ne) (omega arith) (omega arith));
      sizes = λ j below ne. size_same old new j (same_within (8 + 4 * j) 4 (10 + 4 * j) 2 old new (heads j below ne) (omega arith) (omega arith));
      rows = λ j below ne live k a b.
          let lowest = place.behind j below ne live in
          done.rest k (omega arith) (inr (omega arith)) (⊎_elim (λ (f : offset old j + size old j ≤ at). inl (omega arith)) (λ (f : at + length (row_text r) ≤ offset old j). inr (omega arith)) (place.free j below ne));
    } in
    let reads = row_has new at r done.has in
    let live : size new i ≢ 0 = λ e. absurd (omega arith) in
    let sum : live_bytes new (count new) ≡ live_bytes old (count old) + length (row_text r) = ⊎_elim
    (λ h. let none = h.1 in let c = h.2 in let one = live_one old new i (count old) (λ j below ne. kept.sizes j below ne) h.0 in let same = ap (live_bytes new) (let e : count new ≡ count old = omega arith in e) in omega arith)
    (λ h. let a = h.0 in let b = h.1 in
    let same = ap (live_bytes new) (let e : count new ≡ suc i = omega arith in e) in
    let front = live_same old new i (λ j below. kept.sizes j (omega arith) (λ e. absurd (omega arith))) in
    let end = ap (live_bytes old) a in
    omega arith)
    place.opens in
    let fit = place.room in (
      let row = row_there new at r reads high in one_slot old new i page kept counts
          (λ j below ne live_j. let b = place.behind j below ne live_j in omega arith)
          (record { empty = λ is. absurd (live is); behind = λ alive. omega arith; row = λ alive. rw (points, sized) row })
          (rw (points, sized) place.free)
          (omega arith),
      record {
        here = slot_live new i (omega arith) live ∙ ap (λ (p : ℕ). Some (row_at new p)) points ∙ ap Some reads.row;
        others = others_kept old new i page kept counts;
        counted = counted;
      },
      sum,
      kept.offsets,
    )

-- the three writes: the record's bytes, its head, and the count
pub placed_by : (old a b new : List ℕ) (i n at bytes : ℕ) (text : List ℕ) → Opens old i n → 8 + 4 * n ≤ at → bytes ≡ length text
    → Wrote at text old a
    → Torn (8 + 4 * i) 4 a b → offset b i ≡ at → size b i ≡ bytes
    → Torn 0 2 b new → count new ≡ n
    → Placed old new i at text n
placed_by old a b new i n at bytes text opens low is wrote head points sized torn counted =
    let within : i < n = ⊎_elim (λ h. let x = h.0 in let y = h.2 in omega arith) (λ h. let y = h.1 in omega arith) opens in
    let has : Has b at text = has_torn (8 + 4 * i) 4 at text a b wrote.has head (inr (omega arith)) in
    let s1 = wrote.rest.size in
    let s2 = head.size in
    let s3 = torn.size in
    record {
      len = omega arith;
      counted = counted;
      points = offset_same b new i (same_torn 0 2 (8 + 4 * i) 2 b new torn (inr (omega arith))) ∙ points;
      sized = size_same b new i (same_torn 0 2 (10 + 4 * i) 2 b new torn (inr (omega arith))) ∙ sized ∙ is;
      has = has_torn 0 2 at text b new has torn (inr (omega arith));
      rest = λ k le out body.
          torn.above k (omega arith)
          ∙ ⊎_elim (λ (x : k < 8 + 4 * i). head.below k x) (λ (y : 12 + 4 * i ≤ k). head.above k (omega arith)) out
          ∙ ⊎_elim (λ (x : k < at). wrote.rest.below k x) (λ (y : at + length text ≤ k). wrote.rest.above k y) body;
    }

-- what the three writes come to
pub record PutThere (old new : List ℕ) (i n : ℕ) (r : Row) : Type 0 where
  pub puts : PutsRow old new i n r
  pub stays : StaysPut old new i

pub put_there : (old a b new : List ℕ) (i n at bytes : ℕ) (r : Row) → IsShaped old → IsPlace old i n at (4 + length r.key + length r.value) → bytes ≡ 4 + length r.key + length r.value
    → Wrote at (row_text r) old a
    → Torn (8 + 4 * i) 4 a b → offset b i ≡ at → size b i ≡ bytes
    → Torn 0 2 b new → count new ≡ n
    → PutThere old new i n r
put_there old a b new i n at bytes r shaped free is wrote head points sized torn counted =
    let long = row_text_length r in
    let place : IsPlace old i n at (length (row_text r)) = rw long free in
    let done = placed old new i n at r shaped place (placed_by old a b new i n at bytes (row_text r) place.opens place.low (is ∙ sym long) wrote head points sized torn counted) in
    let live = done.2 in
    record { puts = record { shaped = done.0; sets = done.1; live = omega arith }; stays = done.3 }
