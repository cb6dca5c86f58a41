-- A pool none of whose frames holds a page.
use Rattle.std.proofs.Common.{◌≡◌, ℕ, replicate, ◌+◌, ◌*◌, ◌<◌, ◌≤◌, ◌^◌, List, [], length, get_or, sym, ◌∙◌, ap, arith, Bool, false, Option, None, Some, ⊎_elim}
use Rattle.std.proofs.lemmas.Bool.{cases_lt}
use Rattle.std.proofs.lemmas.List.{get_or-replicate, get_or_past, length-replicate}
use Rattle.mt_base.specs.declared.limits.TheConstants.{PAGE_BYTES}
use Rattle.mt_pool.specs.Views.{IsPool, Shows, held}
use Rattle.mt_pool.specs.declared.pool.Pool.{Pool}

-- a row of equal entries has no other entry, also past its end
row_same : {X : Type 0} (n i : ℕ) (x : X) → get_or (replicate n x) i x ≡ x
row_same n i x = ⊎_elim
    (λ (lt : i < n). get_or-replicate n i x x lt)
    (λ (le : n ≤ i). get_or_past (replicate n x) i x (let long = length-replicate n x in omega arith))
    (cases_lt i n)

none_at : (os : List (Option ℕ)) (n i : ℕ) → os ≡ replicate n None → get_or os i None ≡ None
none_at os n i is = ap (λ (l : List (Option ℕ)). get_or l i None) is ∙ row_same n i None

some_not : (p : ℕ) → None ≡ Some p → ⊥
some_not p e = cc

-- no page is in a frame that holds none
none_held : (os : List (Option ℕ)) (n i p : ℕ) → os ≡ replicate n None → get_or os i None ≡ Some p → ⊥
none_held os n i p is some = some_not p (sym (none_at os n i is) ∙ some)

pub fresh : (pool : Pool) (pages frames : ℕ) → pool.of_page.items ≡ replicate pages None → pool.waits.items ≡ replicate pages 0 → pool.holds.items ≡ replicate frames None
    → pool.dirty.items ≡ replicate frames false → pool.used.items ≡ replicate frames false → length pool.bytes.items ≡ frames
    → ((f : ℕ) → f < frames → length (get_or pool.bytes.items f []) ≡ PAGE_BYTES) → pool.hand ≡ 0 → pages < 2 ^ 16 → pool.place + PAGE_BYTES * pages < 2 ^ 64 → IsPool pool
fresh pool pages frames of_page waits holds dirty used bytes whole hand few fits =
    let l1 : length pool.of_page.items ≡ pages = ap length of_page ∙ length-replicate pages None in
    let l2 : length pool.waits.items ≡ pages = ap length waits ∙ length-replicate pages 0 in
    let l3 : length pool.holds.items ≡ frames = ap length holds ∙ length-replicate frames None in
    let l4 : length pool.dirty.items ≡ frames = ap length dirty ∙ length-replicate frames false in
    let l5 : length pool.used.items ≡ frames = ap length used ∙ length-replicate frames false in
    record {
      few = omega arith;
      whole = λ f lt. whole f (omega arith);
      waits = l2 ∙ sym l1;
      holds = l3 ∙ sym bytes;
      dirty = l4 ∙ sym bytes;
      used = l5 ∙ sym bytes;
      fits = omega arith;
      hand = omega arith;
      names = record {
        there = λ p f is. absurd (none_held pool.of_page.items pages p f of_page is);
        back = λ f p is. absurd (none_held pool.holds.items frames f p holds is);
      };
      logged = λ f is. absurd (let same : get_or pool.dirty.items f false ≡ false = ap (λ (l : List Bool). get_or l f false) dirty ∙ row_same frames f false in cc);
    }

pub fresh_shows : (pool : Pool) (pages frames : ℕ) (seen : List ℕ) → pool.of_page.items ≡ replicate pages None → pool.holds.items ≡ replicate frames None → pool.place + PAGE_BYTES * pages ≤ length seen → Shows pool seen
fresh_shows pool pages frames seen of_page holds long =
    let l1 : length pool.of_page.items ≡ pages = ap length of_page ∙ length-replicate pages None in
    record {
      fits = omega arith;
      clean = λ f p is clean. absurd (none_held pool.holds.items frames f p holds is);
    }

pub fresh_views : (of_page : List (Option ℕ)) (pages q : ℕ) (bytes : List (List ℕ)) (in_slot : List ℕ) → of_page ≡ replicate pages None → held (get_or of_page q None) bytes in_slot ≡ in_slot
fresh_views of_page pages q bytes in_slot is = ap (λ (o : Option ℕ). held o bytes in_slot) (none_at of_page pages q is)

pub fresh_waits : (waits : List ℕ) (pages q : ℕ) → waits ≡ replicate pages 0 → get_or waits q 0 ≡ 0
fresh_waits waits pages q is = ap (λ (l : List ℕ). get_or l q 0) is ∙ row_same pages q 0
