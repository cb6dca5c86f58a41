-- A free range of a page, moved down to where the free bytes begin.
use Rattle.std.proofs.Common.{◌≡◌, ◌≢◌, inl, inr, ⊎_elim, ◌⊎◌, ℕ, zero, suc, ◌+◌, ◌*◌, ◌<◌, ◌≤◌, List, refl, sym, subst, arith}
use Rattle.std.proofs.lemmas.Bool.{cases_lt, cases_eq}
use Rattle.mt_slots.specs.Page.{count, offset, size, IsFree}
use Rattle.mt_slots.specs.Parts.{IsPlace, Begins}

-- the end of the highest of the first n records that lies below a place, or `low`
record Start (page : List ℕ) (i low at n : ℕ) : Type 0 where
  place : ℕ
  behind : low ≤ place
  under : place ≤ at
  from : (place ≡ low) ⊎ ((j : ℕ) × (j < n) × (j ≢ i) × (place ≡ offset page j + size page j))
  above : (k : ℕ) → k < n → k ≢ i → offset page k + size page k ≤ at → offset page k + size page k ≤ place

start_same : (page : List ℕ) (i low at n : ℕ) (s : Start page i low at n)
    → (n ≢ i → offset page n + size page n ≤ at → offset page n + size page n ≤ s.place) → Start page i low at (suc n)
start_same page i low at n s skip = record {
  place = s.place;
  behind = s.behind;
  under = s.under;
  from = ⊎_elim (λ low_it. inl low_it) (λ end. inr (end.0, let lt = end.1 in omega arith, end.2, end.3)) s.from;
  above = λ k lt ne fits. ⊎_elim
      (λ (is : k ≡ n). subst (λ (m : ℕ). m ≢ i → offset page m + size page m ≤ at → offset page m + size page m ≤ s.place) (sym is) skip ne fits)
      (λ (less : k ≢ n). s.above k (omega arith) ne fits)
      (cases_eq k n);
}

start_of : (page : List ℕ) (i low at n : ℕ) → low ≤ at → Start page i low at n
start_of page i low at zero le = record {
  place = low;
  behind = omega arith;
  under = le;
  from = inl refl;
  above = λ k lt. absurd (omega arith);
}
start_of page i low at (suc n) le =
    let s = start_of page i low at n le in
    let end = offset page n + size page n in
    ⊎_elim
    (λ (is : n ≡ i). start_same page i low at n s (λ ne. absurd (ne is)))
    (λ (ne : n ≢ i). ⊎_elim
    (λ (out : at < offset page n + size page n). start_same page i low at n s (λ other fits. absurd (omega arith)))
    (λ (fits : offset page n + size page n ≤ at). ⊎_elim
    (λ (higher : s.place < offset page n + size page n). let b = s.behind in record {
      place = offset page n + size page n;
      behind = omega arith;
      under = fits;
      from = inr (n, omega arith, ne, refl);
      above = λ k lt other within. ⊎_elim
          (λ (last : k ≡ n). subst (λ (m : ℕ). offset page k + size page k ≤ offset page m + size page m) last (omega arith))
          (λ (less : k ≢ n). let a = s.above k (omega arith) other within in omega arith)
          (cases_eq k n);
    })
    (λ (lower : offset page n + size page n ≤ s.place). start_same page i low at n s (λ other within. lower))
    (cases_lt s.place (offset page n + size page n)))
    (cases_lt at (offset page n + size page n)))
    (cases_eq n i)

-- where neither `low` nor a record's end begins a free range, none is free
pub no_gap : (page : List ℕ) (i low bytes : ℕ)
    → (low + bytes ≤ 4096 → IsFree page i low bytes → ⊥)
    → ((k : ℕ) → k < count page → k ≢ i → low ≤ offset page k + size page k → offset page k + size page k + bytes ≤ 4096 → IsFree page i (offset page k + size page k) bytes → ⊥)
    → (at : ℕ) → low ≤ at → at + bytes ≤ 4096 → IsFree page i at bytes → ⊥
no_gap page i low bytes here ends at le fits free =
    let s = start_of page i low at (count page) le in
    let under = s.under in
    let behind = s.behind in
    let moved : IsFree page i s.place bytes = λ j lt ne. ⊎_elim
    (λ (before : offset page j + size page j ≤ at). inl (s.above j lt ne before))
    (λ (after : at + bytes ≤ offset page j). inr (omega arith))
    (free j lt ne) in
    ⊎_elim
    (λ (is : s.place ≡ low). here (omega arith) (subst (λ (p : ℕ). IsFree page i p bytes) is moved))
    (λ end. ends end.0 end.1 end.2 (let is = end.3 in omega arith) (let is = end.3 in omega arith) (subst (λ (p : ℕ). IsFree page i p bytes) end.3 moved))
    s.from

-- where a longer table would meet the lowest record, there is no place at all
pub no_place_behind : (page : List ℕ) (i n low bytes : ℕ) → (low < 4096 → Begins page (count page) low) → low < 8 + 4 * n → (i < count page → size page i ≡ 0) → (at : ℕ) → IsPlace page i n at bytes → ⊥
no_place_behind page i n low bytes begins under empty at place =
    let b = begins (let l = place.low in let h = place.high in omega arith) in
    let live = b.live in
    let o = place.behind b.place b.within (λ is. live (subst (λ (m : ℕ). size page m ≡ 0) (sym is) (empty (let w = b.within in omega arith)))) b.live in
    let h = b.here in
    absurd (omega arith)
