-- What is written into a bucket page leaves it one.
use Rattle.std.proofs.Common.{◌≡◌, ◌≢◌, ℕ, ◌+◌, ◌*◌, ◌<◌, ◌≤◌, List, length, get_or, ap, ap₂, sym, ◌∙◌, subst, arith, ⊎_elim}
use Rattle.std.proofs.lemmas.Bool.{cases_lt, cases_eq}
use Rattle.mt_base.specs.Ranges.{u16_at, Torn}
use Rattle.mt_bucket.specs.Page.{cell, count_of, KeepsHead, IsCell, IsBucket, KeepsBucket, TakesCell}
use Rattle.mt_bucket.specs.Steps.{OneMore, Closed}
use Rattle.mt_bucket.proofs.Cells.{get_cell}

-- 70 bytes that were a cell's are one wherever they stand
pub cell_goes : (r p : ℕ) (c d : List ℕ) (at to : ℕ) → ((i : ℕ) → i < 70 → get_or d (to + i) 0 ≡ get_or c (at + i) 0) → IsCell r p c at → IsCell r p d to
cell_goes r p c d at to same is = record {
  relation = subst (λ (n : ℕ). n < r) (sym (byte 0 at to (omega arith) (omega arith) (omega arith))) is.relation;
  some = subst (λ (n : ℕ). 1 ≤ n) (sym len) is.some;
  short = subst (λ (n : ℕ). n ≤ 64) (sym len) is.short;
  fill = λ i le lt. byte (2 + i) (at + 2 + i) (to + 2 + i) (omega arith) (omega arith) (omega (arith, lt)) ∙ is.fill i (subst (λ (n : ℕ). n ≤ i) len le) lt;
  place = subst (λ (n : ℕ). n < p) (sym (ap₂ (λ (x y : ℕ). x * 256 + y) (same 66 (omega arith)) (byte 67 (at + 66 + 1) (to + 66 + 1) (omega arith) (omega arith) (omega arith)))) is.place;
}
  where
    byte : (i k l : ℕ) → k ≡ at + i → l ≡ to + i → i < 70 → get_or d l 0 ≡ get_or c k 0
    byte i k l from is lt = ap (λ (n : ℕ). get_or d n 0) is ∙ same i lt ∙ ap (λ (n : ℕ). get_or c n 0) (sym from)

    len : get_or d (to + 1) 0 ≡ get_or c (at + 1) 0
    len = same 1 (omega arith)

pub cell_copied : (r p : ℕ) (c d : List ℕ) (at to : ℕ) → cell d to ≡ cell c at → IsCell r p c at → IsCell r p d to
cell_copied r p c d at to e = cell_goes r p c d at to (λ i lt. sym (get_cell d to i lt) ∙ ap (λ (b : List ℕ). get_or b i 0) e ∙ get_cell c at i lt)

pub cell_put : (r p : ℕ) (b d : List ℕ) (to : ℕ) → cell d to ≡ b → IsCell r p b 0 → IsCell r p d to
cell_put r p b d to e = cell_goes r p b d 0 to (λ i lt. sym (get_cell d to i lt) ∙ ap (λ (x : List ℕ). get_or x i 0) e ∙ ap (λ (n : ℕ). get_or b n 0) (omega arith))

-- a page with the head of a bucket page, at most 58 cells, and each of them right
pub bucket_kept : (r p : ℕ) (c d : List ℕ) → KeepsHead c d → u16_at d 2 ≤ 58 → ((i : ℕ) → i < u16_at d 2 → IsCell r p d (8 + 70 * i)) → IsBucket r p c → IsBucket r p d
bucket_kept r p c d head few each is = record {
  length = head.size ∙ is.length;
  shallow = subst (λ (n : ℕ). n ≤ 9) (sym head.depth) is.shallow;
  first_zero = head.first ∙ is.first_zero;
  few = few;
  next = subst (λ (n : ℕ). n < p) (sym head.next) is.next;
  zeros = head.last ∙ is.zeros;
  each = each;
}

pub more_kept : (b c d : List ℕ) → count_of c < 58 → OneMore b c d → TakesCell b c d
more_kept b c d room more r p right is = bucket_kept r p c d more.head (omega (arith, more.number, room)) each is
  where
    each : (i : ℕ) → i < u16_at d 2 → IsCell r p d (8 + 70 * i)
    each i lt = ⊎_elim
        (λ (less : i < count_of c). cell_copied r p c d (8 + 70 * i) (8 + 70 * i) (more.front i less) (is.each i (omega (arith, less))))
        (λ (le : count_of c ≤ i). let e : i ≡ count_of c = omega (arith, le, lt, more.number) in
        cell_put r p b d (8 + 70 * i) (ap (λ (n : ℕ). cell d (8 + 70 * n)) e ∙ more.last) right)
        (cases_lt i (count_of c))

pub closed_kept : (c d : List ℕ) (i : ℕ) → Closed i c d → KeepsBucket c d
closed_kept c d i closed r p is = bucket_kept r p c d closed.head closed.few each is
  where
    each : (j : ℕ) → j < u16_at d 2 → IsCell r p d (8 + 70 * j)
    each j lt = ⊎_elim
        (λ (here : j ≡ i). cell_copied r p c d (8 + 70 * count_of d) (8 + 70 * j)
        (ap (λ (n : ℕ). cell d (8 + 70 * n)) here ∙ closed.filled (omega (arith, here, lt, closed.few))) (is.each (count_of d) (omega (arith, lt, closed.few, closed.counted))))
        (λ (there : j ≢ i). cell_copied r p c d (8 + 70 * j) (8 + 70 * j) (closed.others j there (omega (arith, lt, closed.few))) (is.each j (omega (arith, lt, closed.few, closed.counted))))
        (cases_eq j i)

-- the bytes of an entry, as they are written over zeros: the relation and the key's length, the key, the record's name
pub cell_written : (a d e b key : List ℕ) (r s place pages : ℕ) → ((i : ℕ) → 2 ≤ i → i < 66 → get_or a i 0 ≡ 0) → Torn 0 2 a d → Torn 2 (length key) d e → Torn 66 4 e b
    → length key ≤ 64 → get_or b 0 0 ≡ s → get_or b 1 0 ≡ length key → u16_at b 66 ≡ place → s < r → 1 ≤ length key → place < pages → IsCell r pages b 0
cell_written a d e b key r s place pages zeros first put torn short relation len is_place below some within = record {
  relation = subst (λ (n : ℕ). n < r) (sym relation) below;
  some = subst (λ (n : ℕ). 1 ≤ n) (sym len) some;
  short = subst (λ (n : ℕ). n ≤ 64) (sym len) short;
  fill = λ i le lt. ap (λ (n : ℕ). get_or b n 0) (let e : 0 + 2 + i ≡ 2 + i = omega arith in e)
      ∙ torn.below (2 + i) (omega (arith, lt)) ∙ put.above (2 + i) (omega (arith, le, len)) ∙ first.above (2 + i) (omega arith) ∙ zeros (2 + i) (omega arith) (omega (arith, lt));
  place = subst (λ (n : ℕ). n < pages) (sym is_place) within;
}

-- a page whose count is set to none
pub emptied : (r p : ℕ) (c d : List ℕ) → KeepsHead c d → u16_at d 2 ≡ 0 → IsBucket r p c → IsBucket r p d
emptied r p c d head none_left is = bucket_kept r p c d head (omega (arith, none_left)) (λ i lt. omega (arith, lt, none_left)) is

-- a cell that is taken out of its page
pub cell_taken : (r p : ℕ) (c b : List ℕ) (at : ℕ) → at + 70 ≤ length c → b ≡ cell c at → IsCell r p c at → IsCell r p b 0
cell_taken r p c b at le e = cell_goes r p c b at 0 (λ i lt. ap (λ (n : ℕ). get_or b n 0) (omega arith) ∙ ap (λ (x : List ℕ). get_or x i 0) e ∙ get_cell c at i lt)
