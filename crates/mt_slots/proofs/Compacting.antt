-- Records that move to the end of their page.
use Rattle.std.proofs.Common.{◌≡◌, ◌≢◌, inl, inr, ⊎_elim, ◌⊎◌, ℕ, zero, suc, ◌+◌, ◌*◌, ◌<◌, ◌≤◌, List, Some, length, get_or, refl, sym, ◌∙◌, ap, ap₂, subst, arith}
use Rattle.std.proofs.lemmas.Bool.{cases_lt, cases_eq}
use Rattle.mt_base.specs.Ranges.{u16_at, part, Torn, Wrote, Same}
use Rattle.mt_slots.specs.Page.{count, offset, size, row_size, row_at, live_bytes, IsRow, IsShaped}
use Rattle.mt_slots.specs.Parts.{Shifted, Moved, Packed, Compacted}
use Rattle.mt_base.proofs.Places.{same_within, part_shifted, part_length}
use Rattle.mt_slots.proofs.Pages.{slot_live, slot_empty, slot_past, count_same, offset_same, size_same, live_same}

pub row_shifted : (p q : ℕ) (old new : List ℕ) → p + row_size old p ≤ length old → q + row_size old p ≤ length new → Shifted p q (row_size old p) old new
    → (row_size new q ≡ row_size old p) × (row_at new q ≡ row_at old p)
unfolding row_size row_at
row_shifted p q old new po qn s =
    let relation : get_or new q 0 ≡ get_or old p 0 = ap (λ (k : ℕ). get_or new k 0) (omega arith) ∙ s 0 (omega arith) ∙ ap (λ (k : ℕ). get_or old k 0) (omega arith) in
    let key : get_or new (q + 1) 0 ≡ get_or old (p + 1) 0 = s 1 (omega arith) in
    let high : get_or new (q + 2) 0 ≡ get_or old (p + 2) 0 = s 2 (omega arith) in
    let low : get_or new (q + 2 + 1) 0 ≡ get_or old (p + 2 + 1) 0 = ap (λ (k : ℕ). get_or new k 0) (omega arith) ∙ s 3 (omega arith) ∙ ap (λ (k : ℕ). get_or old k 0) (omega arith) in
    let value : u16_at new (q + 2) ≡ u16_at old (p + 2) = omega arith in
    let inner : (a n : ℕ) → a + n ≤ row_size old p → (k : ℕ) → k < n → get_or new (q + a + k) 0 ≡ get_or old (p + a + k) 0 = λ a n le k lt.
    ap (λ (m : ℕ). get_or new m 0) (omega arith) ∙ s (a + k) (omega arith) ∙ ap (λ (m : ℕ). get_or old m 0) (omega arith) in
    let k = part_shifted (p + 4) (q + 4) (get_or old (p + 1) 0) old new (omega arith) (omega arith) (inner 4 (get_or old (p + 1) 0) (omega arith)) in
    let v = part_shifted (p + 4 + get_or old (p + 1) 0) (q + 4 + get_or old (p + 1) 0) (u16_at old (p + 2)) old new (omega arith) (omega arith)
    (λ m lt. ap (λ (z : ℕ). get_or new z 0) (omega arith) ∙ inner (4 + get_or old (p + 1) 0) (u16_at old (p + 2)) (omega arith) m lt ∙ ap (λ (z : ℕ). get_or old z 0) (omega arith)) in (
      omega arith,
      λ i. record {
        relation = relation i;
        key = (ap (part new (q + 4)) key ∙ k) i;
        value = (ap₂ (λ (m n : ℕ). part new (q + 4 + m) n) key value ∙ v) i;
      },
    )

pub row_is_shifted : (p q n : ℕ) (old new : List ℕ) → length old ≡ 4096 → length new ≡ 4096 → q + n ≤ 4096 → Shifted p q n old new → IsRow old p n → IsRow new q n
row_is_shifted p q n old new lo ln qn s row =
    let w = row.whole in
    let within = row.inside in
    let same = row_shifted p q old new (omega arith) (omega arith) (subst (λ (m : ℕ). Shifted p q m old new) w s) in
    record { inside = qn; whole = w ∙ sym same.0 }

pub live_le : (page : List ℕ) (i n : ℕ) → i ≤ n → live_bytes page i ≤ live_bytes page n
live_le page i zero le = let e : i ≡ 0 = omega arith in let same = ap (live_bytes page) e in omega arith
live_le page i (suc n) le = ⊎_elim
    (λ (lt : i < suc n). let rest = live_le page i n (omega arith) in omega arith)
    (λ (ge : suc n ≤ i). let e : i ≡ suc n = omega arith in let same = ap (live_bytes page) e in omega arith)
    (cases_lt i (suc n))

-- all slots are packed
pub compacted : (old new : List ℕ) (n top : ℕ) → IsShaped old → n ≡ count old → Packed old new n top → IsShaped new × Compacted old new
compacted old new n top page all packed =
    let counted : count new ≡ count old = count_same old new (same_within 0 8 0 2 old new packed.head (omega arith) (omega arith)) in
    let fits = page.room in
    let sum = ap (live_bytes old) all in
    let is = packed.top_is in
    let long = page.length in
    let len = packed.len in
    let live : live_bytes new (count new) ≡ live_bytes old (count old) = ap (live_bytes new) counted ∙ live_same old new (count old) (λ j lt. packed.sizes j lt) in
    let moved : (j : ℕ) → j < count old → size old j ≢ 0 → Moved old new top j = λ j lt alive. packed.moved j (omega arith) alive in
    let placed_at : (j : ℕ) → j < count old → size old j ≡ 0 → offset new j ≡ 0 = λ j lt none. packed.empty j (omega arith) none ∙ (page.each j lt).empty none in (
      record {
        length = omega arith;
        zeros = λ k a b. packed.head k (omega arith) (omega arith) ∙ page.zeros k a b;
        table = omega arith;
        each = λ j lt.
            let below : j < count old = omega arith in
            let s = packed.sizes j below in
            record {
              empty = λ none. placed_at j below (sym s ∙ none);
              behind = λ alive. let m = (moved j below (λ e. alive (s ∙ e))).low in omega arith;
              row = λ alive.
                  let old_alive : size old j ≢ 0 = λ e. alive (s ∙ e) in
                  let m = moved j below old_alive in
                  rw s (row_is_shifted (offset old j) (offset new j) (size old j) old new long (omega arith) m.high m.bytes ((page.each j below).row old_alive));
            };
        apart = λ j lt k below ne.
            let jl : j < count old = omega arith in
            let kl : k < count old = omega arith in
            let sj = packed.sizes j jl in
            let sk = packed.sizes k kl in
            ⊎_elim
            (λ (none : size old k ≡ 0). let at = placed_at k kl none in inl (omega arith))
            (λ (k_alive : size old k ≢ 0). ⊎_elim
            (λ (none : size old j ≡ 0). let at = placed_at j jl none in inr (omega arith))
            (λ (j_alive : size old j ≢ 0). let a = packed.apart j k (omega arith) (omega arith) (λ e. ne (sym e)) j_alive k_alive in grind arith)
            (cases_eq (size old j) 0))
            (cases_eq (size old k) 0);
        room = omega arith;
      },
      record {
        counted = counted;
        sizes = packed.sizes;
        slots = λ j. ⊎_elim
            (λ (lt : j < count old). let s = packed.sizes j lt in ⊎_elim
            (λ (none : size old j ≡ 0). slot_empty new j (s ∙ none) ∙ sym (slot_empty old j none))
            (λ (alive : size old j ≢ 0).
            let m = moved j lt alive in
            let row = (page.each j lt).row alive in
            let w = row.whole in
            let ins = row.inside in
            let high = m.high in
            slot_live new j (omega arith) (λ e. alive (sym s ∙ e))
            ∙ ap Some (row_shifted (offset old j) (offset new j) old new (omega arith) (omega arith) (subst (λ (z : ℕ). Shifted (offset old j) (offset new j) z old new) w m.bytes)).1
            ∙ sym (slot_live old j lt alive))
            (cases_eq (size old j) 0))
            (λ (le : count old ≤ j). slot_past new j (omega arith) ∙ sym (slot_past old j le))
            (cases_lt j (count old));
        live = live;
        low = λ j lt alive. let m = (moved j lt alive).low in omega arith;
      },
    )

pub packed_start : (old : List ℕ) → IsShaped old → Packed old old 0 4096
packed_start old page = record {
  len = refl;
  top_is = omega arith;
  head = λ i a b. refl;
  sizes = λ j lt. refl;
  later = λ j a b. refl;
  empty = λ j lt none. refl;
  moved = λ j lt. absurd (omega arith);
  apart = λ j k lt. absurd (omega arith);
}

live_next : (page : List ℕ) (n : ℕ) → live_bytes page (n + 1) ≡ live_bytes page n + size page n
live_next page n = ap (live_bytes page) (let e : n + 1 ≡ suc n = omega arith in e)

pub packed_skip : (old new : List ℕ) (n top : ℕ) → Packed old new n top → n < count old → size old n ≡ 0 → Packed old new (n + 1) top
packed_skip old new n top packed lt none =
    let next = live_next old n in
    let is = packed.top_is in
    let below : (j : ℕ) → j < n + 1 → size old j ≢ 0 → j < n = λ j less alive. ⊎_elim (λ (e : j ≡ n). absurd (alive (ap (size old) e ∙ none))) (λ (ne : j ≢ n). omega arith) (cases_eq j n) in
    record {
      len = packed.len;
      top_is = omega arith;
      head = packed.head;
      sizes = packed.sizes;
      later = λ j a b. packed.later j (omega arith) b;
      empty = λ j less is_empty. ⊎_elim (λ (e : j ≡ n). packed.later j (omega arith) (omega arith)) (λ (ne : j ≢ n). packed.empty j (omega arith) is_empty) (cases_eq j n);
      moved = λ j less alive. packed.moved j (below j less alive) alive;
      apart = λ j k jl kl ne ja ka. packed.apart j k (below j jl ja) (below k kl ka) ne ja ka;
    }

-- what has to be known before a record is moved
pub record Movable (old : List ℕ) (n top : ℕ) : Type 0 where
  pub low : 8 + 4 * count old + size old n ≤ top
  pub high : top ≤ 4096
  pub inside : offset old n + size old n ≤ 4096

pub movable : (old new : List ℕ) (n top : ℕ) → IsShaped old → Packed old new n top → n < count old → size old n ≢ 0 → Movable old n top
movable old new n top page packed lt alive =
    let next = live_next old n in
    let le = live_le old (n + 1) (count old) (omega arith) in
    let fits = page.room in
    let is = packed.top_is in
    let ins = ((page.each n lt).row alive).inside in
    record { low = omega arith; high = omega arith; inside = omega arith }

pub packed_step : (old new a b : List ℕ) (n top to : ℕ) → length old ≡ 4096 → Packed old new n top → n < count old → size old n ≢ 0 → Movable old n top → to + size old n ≡ top
    → Wrote to (part old (offset old n) (size old n)) new a → u16_at b (8 + 4 * n) ≡ to → Torn (8 + 4 * n) 2 a b → Packed old b (n + 1) to
unfolding offset
packed_step old new a b n top to long packed lt alive can is wrote points torn =
    let next = live_next old n in
    let sum = packed.top_is in
    let low = can.low in
    let high = can.high in
    let ins = can.inside in
    let shift = part_length old (offset old n) (size old n) (omega arith) in
    let rest : (k : ℕ) → (k < 8 + 4 * n) ⊎ (10 + 4 * n ≤ k) → (k < to) ⊎ (top ≤ k) → get_or b k 0 ≡ get_or new k 0 = λ k head body.
    ⊎_elim (λ (x : k < 8 + 4 * n). torn.below k x) (λ (y : 10 + 4 * n ≤ k). torn.above k (omega arith)) head
    ∙ ⊎_elim (λ (x : k < to). wrote.rest.below k x) (λ (y : top ≤ k). wrote.rest.above k (omega arith)) body in
    let heads : (j : ℕ) → j < count old → j ≢ n → Same (8 + 4 * j) 4 new b = λ j below ne k x y.
    rest k (⊎_elim (λ (less : j < n). inl (omega arith)) (λ (le : n ≤ j). ⊎_elim (λ (e : j ≡ n). absurd (ne e)) (λ (e : j ≢ n). inr (omega arith)) (cases_eq j n)) (cases_lt j n)) (inl (omega arith)) in
    let offsets : (j : ℕ) → j < count old → j ≢ n → offset b j ≡ offset new j = λ j below ne. offset_same new b j (same_within (8 + 4 * j) 4 (8 + 4 * j) 2 new b (heads j below ne) (omega arith) (omega arith)) in
    let at_n : offset b n ≡ to = points in
    let wsize = wrote.rest.size in
    let tsize = torn.size in
    let plen = packed.len in
    let was : (j : ℕ) → j < n → size old j ≢ 0 → Moved old new top j = packed.moved in
    record {
      len = omega arith;
      top_is = omega arith;
      head = λ k x y. rest k (inl (omega arith)) (inl (omega arith)) ∙ packed.head k x y;
      sizes = λ j below. size_same new b j (λ k x y. rest k (⊎_elim (λ (less : j < n). inl (omega arith)) (λ (le : n ≤ j). inr (omega arith)) (cases_lt j n)) (inl (omega arith))) ∙ packed.sizes j below;
      later = λ j x below. offsets j below (λ e. absurd (omega arith)) ∙ packed.later j (omega arith) below;
      empty = λ j less none. ⊎_elim
          (λ (e : j ≡ n). absurd (alive (sym (ap (size old) e) ∙ none)))
          (λ (ne : j ≢ n). offsets j (omega arith) ne ∙ packed.empty j (omega arith) none)
          (cases_eq j n);
      moved = λ j less live. ⊎_elim
          (λ (e : j ≡ n). subst (Moved old b to) (sym e) (record {
            low = omega arith;
            high = omega arith;
            bytes = λ k small.
                ap (λ (z : ℕ). get_or b z 0) (omega arith) ∙ torn.above (to + k) (omega arith) ∙ wrote.has.each k (omega arith) ∙ shift.1 k small;
          }))
          (λ (ne : j ≢ n).
          let m = was j (omega arith) live in
          let o = offsets j (omega arith) ne in
          let l = m.low in
          let h = m.high in
          record {
            low = omega arith;
            high = omega arith;
            bytes = λ k small. ap (λ (z : ℕ). get_or b z 0) (omega arith) ∙ rest (offset new j + k) (inr (omega arith)) (inr (omega arith)) ∙ m.bytes k small;
          })
          (cases_eq j n);
      apart = λ j k jl kl ne ja ka. ⊎_elim
          (λ (e : j ≡ n). ⊎_elim
          (λ (f : k ≡ n). absurd (ne (e ∙ sym f)))
          (λ (kn : k ≢ n).
          let m = (was k (omega arith) ka).low in
          let o = offsets k (omega arith) kn in
          let s = ap (size old) e in
          let p = ap (offset b) e in
          inl (omega arith))
          (cases_eq k n))
          (λ (jn : j ≢ n).
          let oj = offsets j (omega arith) jn in
          ⊎_elim
          (λ (f : k ≡ n).
          let m = (was j (omega arith) ja).low in
          let s = ap (size old) f in
          let p = ap (offset b) f in
          inr (omega arith))
          (λ (kn : k ≢ n).
          let ok = offsets k (omega arith) kn in
          let x = packed.apart j k (omega arith) (omega arith) ne ja ka in
          grind arith)
          (cases_eq k n))
          (cases_eq j n);
    }
