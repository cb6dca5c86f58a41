-- Where a record may be put.
use Rattle.std.proofs.Common.{◌≡◌, ◌≢◌, inl, inr, ⊎_elim, ℕ, ◌+◌, ◌-◌, ◌*◌, ◌<◌, ◌≤◌, List, Option, Some, ◌∙◌, arith}
use Rattle.std.proofs.lemmas.Bool.{cases_eq}
use Rattle.mt_slots.specs.Page.{Row, count, offset, size, live_bytes, row_length, IsShaped, Sets, Opens, Inserted}
use Rattle.mt_slots.specs.Parts.{IsPlace, Compacted}

-- a place that is free, from where all records begin
pub low_place : (page : List ℕ) (i n at bytes low : ℕ) → IsShaped page → Opens page i n
    → 8 + 4 * n + live_bytes page (count page) + bytes ≤ 4096 → low ≤ 4096
    → ((j : ℕ) → j < count page → size page j ≢ 0 → low ≤ offset page j)
    → 8 + 4 * n ≤ at → at + bytes ≤ low
    → IsPlace page i n at bytes
low_place page i n at bytes low sound opens room high lowest behind under = record {
  opens = opens;
  low = behind;
  high = omega arith;
  free = λ j lt ne. ⊎_elim
      (λ (none : size page j ≡ 0). let o = (sound.each j lt).empty none in inl (omega arith))
      (λ (alive : size page j ≢ 0). let o = lowest j lt alive in inr (omega arith))
      (cases_eq (size page j) 0);
  behind = λ j lt ne alive. let o = lowest j lt alive in omega arith;
  room = room;
}

pub opens_same : (old new : List ℕ) (i n : ℕ) → Compacted old new → Opens old i n → Opens new i n
opens_same old new i n same opens =
    let c = same.counted in
    ⊎_elim (λ h. let s = same.sizes i h.0 in let a = h.0 in let b = h.1 in let d = h.2 in inl (omega arith, omega arith, omega arith)) (λ h. let a = h.0 in inr (omega arith, h.1)) opens

pub packed_place : (old new : List ℕ) (i n at bytes : ℕ) → IsShaped new → Compacted old new → Opens old i n
    → 8 + 4 * n + live_bytes old (count old) + bytes ≤ 4096 → at + live_bytes old (count old) + bytes ≡ 4096
    → IsPlace new i n at bytes
packed_place old new i n at bytes sound same opens room is =
    let live = same.live in
    let c = same.counted in
    low_place new i n at bytes (4096 - live_bytes old (count old)) sound (opens_same old new i n same opens) (omega arith) (omega arith)
    (λ j lt alive.
    let below : j < count old = omega arith in
    let s = same.sizes j below in
    let low = same.low j below (λ e. alive (s ∙ e)) in
    omega arith)
    (omega arith) (omega arith)

pub inserted_packed : (old mid new : List ℕ) (i n : ℕ) (r : Row) → Compacted old mid → Opens old i n → ((j : ℕ) → j < i → size old j ≢ 0) → Sets mid new i (Some r) n
    → live_bytes new (count new) ≡ live_bytes mid (count mid) + row_length r → Inserted old new i r
inserted_packed old mid new i n r same opens first sets live = record {
  first = first;
  sets = (n, opens, record { here = sets.here; others = λ j ne. sets.others j ne ∙ same.slots j; counted = sets.counted });
  live = let l = same.live in omega arith;
}

pub sets_packed : (old mid new : List ℕ) (i n : ℕ) (x : Option Row) → Compacted old mid → Sets mid new i x n → Sets old new i x n
sets_packed old mid new i n x same sets = record { here = sets.here; others = λ j ne. sets.others j ne ∙ same.slots j; counted = sets.counted }

pub sets_twice : (old mid new : List ℕ) (i m n : ℕ) (x y : Option Row) → Sets old mid i x m → Sets mid new i y n → Sets old new i y n
sets_twice old mid new i m n x y f g = record { here = g.here; others = λ j ne. g.others j ne ∙ f.others j ne; counted = g.counted }

-- a slot is taken in one way
pub opens_one : (page : List ℕ) (i n m : ℕ) → Opens page i n → Opens page i m → n ≡ m
opens_one page i n m one other = ⊎_elim
    (λ h. let a = h.0 in let b = h.2 in ⊎_elim (λ g. let d = g.2 in omega arith) (λ g. let d = g.0 in absurd (omega arith)) other)
    (λ h. let a = h.0 in let b = h.1 in ⊎_elim (λ g. let d = g.0 in absurd (omega arith)) (λ g. let d = g.1 in omega arith) other)
    one
