-- What is known of a range stays where the bytes elsewhere change; and what stands at a place comes
-- in parts.
use Rattle.std.proofs.Common.{inl, inr, ⊎_elim, ℕ, ◌+◌, ◌-◌, ◌≤◌, List, arith}
use Rattle.mt_disk.specs.Disk.{Torn, Follows, Elapses, LeavesOnly}
pub use Rattle.mt_base.proofs.Places.{torn_refl, torn_trans, torn_within, get_torn, has_torn, has_append, has_front, has_back, has_one, one_of}
pub use Rattle.mt_disk.specs.Disk.{Apart}

-- A write within a region, seen from outside of it.
pub follows_within : (at n start end : ℕ) (may may2 : List ℕ → Type 0) → start ≤ at → at + n ≤ end → Follows (Torn at n) may may2 → Follows (Torn start (end - start)) may may2
follows_within at n start end may may2 low high step c left =
    let from : (d : List ℕ) × may d × Torn at n d c = step c left in
    (from.0, from.1, torn_within at n start (end - start) from.0 c from.2 low (omega arith))

-- A call that adds nothing, as a read or a sync, seen so.
pub follows_less : (at n : ℕ) (may may2 : List ℕ → Type 0) → ((c : List ℕ) → may2 c → may c) → Follows (Torn at n) may may2
follows_less at n may may2 less c left = (c, less c left, torn_refl at n c)

-- Two calls within one region.
pub follows_trans : (at n : ℕ) (may may2 may3 : List ℕ → Type 0) → Follows (Torn at n) may may2 → Follows (Torn at n) may2 may3 → Follows (Torn at n) may may3
follows_trans at n may may2 may3 first second c left =
    let mid : (e : List ℕ) × may2 e × Torn at n e c = second c left in
    let from : (d : List ℕ) × may d × Torn at n d mid.0 = first mid.0 mid.1 in
    (from.0, from.1, torn_trans at n from.0 mid.0 c from.2 mid.2)

-- What a crash may leave at any moment of a run of calls.
module _ {D : Type 0} (moment : D → ℕ) (left_since : D → ℕ → List ℕ → Type 0) where
  -- before the first call
  pub started : (old : D) (P : List ℕ → Type 0) → ((c : List ℕ) → left_since old (moment old) c → P c) → LeavesOnly moment left_since old old P
  started old P here = record { later = omega arith; each = here; before = λ t c le left. inl left }

  -- one call more, after which a crash leaves what has P
  pub goes_on : (old mid new : D) (P may_leave : List ℕ → Type 0) → LeavesOnly moment left_since old mid P → Elapses (moment mid) (moment new) (left_since mid) (left_since new) may_leave
      → ((c : List ℕ) → may_leave c → P c) → LeavesOnly moment left_since old new P
  goes_on old mid new P may_leave so_far time here = record {
    later = omega (arith, so_far.later, time.later);
    each = λ c left. ⊎_elim (so_far.each c) (here c) (time.nothing_else (moment old) c so_far.later left);
    before = λ t c le left. ⊎_elim (so_far.before t c le) (λ now. inr (here c now)) (time.nothing_else t c (omega (arith, le, so_far.later)) left);
  }

  -- two runs, one behind the other
  pub runs_both : (old mid new : D) (P : List ℕ → Type 0) → LeavesOnly moment left_since old mid P → LeavesOnly moment left_since mid new P → LeavesOnly moment left_since old new P
  runs_both old mid new P first second = record {
    later = omega (arith, first.later, second.later);
    each = λ c left. ⊎_elim (first.each c) (λ now. now) (second.before (moment old) c first.later left);
    before = λ t c le left. ⊎_elim (first.before t c le) (λ now. inr now) (second.before t c (omega (arith, le, first.later)) left);
  }

  -- one call, before and after which a crash leaves what has P
  pub one_call : (may may2 : List ℕ → Type 0) (old new : D) (P : List ℕ → Type 0) → ((c : List ℕ) → left_since old (moment old) c → may c)
      → Elapses (moment old) (moment new) (left_since old) (left_since new) may2 → ((c : List ℕ) → may c → P c) → ((c : List ℕ) → may2 c → P c) → LeavesOnly moment left_since old new P
  one_call may may2 old new P only time here there = goes_on old old new P may2 (started old P (λ c left. here c (only c left))) time there

  -- what holds of P holds of what P implies
  pub leaves_more : (old new : D) (P Q : List ℕ → Type 0) → LeavesOnly moment left_since old new P → ((c : List ℕ) → P c → Q c) → LeavesOnly moment left_since old new Q
  leaves_more old new P Q run more = record {
    later = run.later;
    each = λ c left. more c (run.each c left);
    before = λ t c le left. ⊎_elim (λ was. inl was) (λ now. inr (more c now)) (run.before t c le left);
  }

module _ {D : Type 0} (moment : D → ℕ) (left_since : D → ℕ → List ℕ → Type 0) (may : D → List ℕ → Type 0) (only_now : (d : D) (c : List ℕ) → left_since d (moment d) c → may d c) where
  -- no call
  pub same_moment : (d : D) → LeavesOnly moment left_since d d (may d)
  same_moment d = started moment left_since d (may d) (λ c left. only_now d c left)

  -- a call that adds nothing to what a crash may leave
  pub reads_on : (old new : D) → Elapses (moment old) (moment new) (left_since old) (left_since new) (may new) → ((c : List ℕ) → may new c → may old c) → LeavesOnly moment left_since old new (may old)
  reads_on old new time less = one_call moment left_since (may old) (may new) old new (may old) (only_now old) time (λ c m. m) less

  -- a run of calls after another, which adds nothing
  pub runs_on : (old mid new : D) → LeavesOnly moment left_since old mid (may old) → LeavesOnly moment left_since mid new (may mid) → ((c : List ℕ) → may mid c → may old c) → LeavesOnly moment left_since old new (may old)
  runs_on old mid new first second less = runs_both moment left_since old mid new (may old) first (leaves_more moment left_since mid new (may mid) (may old) second less)
