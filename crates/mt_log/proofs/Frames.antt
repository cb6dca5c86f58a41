-- Runs of device calls that stay within one range of the device.
use Rattle.std.proofs.Common.{◌≡◌, ℕ, ◌+◌, ◌≤◌, List, subst}
use Rattle.mt_disk.specs.declared.device.Device.{Ghosts}
use Rattle.mt_disk.specs.Disk.{Torn, Follows, Elapses, LeavesOnly}
use Rattle.mt_disk.proofs.Frame.{torn_refl, torn_trans, torn_within, started, one_call, runs_both, leaves_more, follows_trans}
use Rattle.mt_log.specs.Area.{TornFrom}

module _ {D : Type 0} (g : Ghosts D) (only_now : (d : D) (c : List ℕ) → g.left_since d (g.moment d) c → g.may_leave d c) (at n : ℕ) where
  -- no call
  pub frame_none : (d : D) → LeavesOnly g.moment g.left_since d d (TornFrom (g.may_leave d) at n)
  frame_none d = started g.moment g.left_since d (TornFrom (g.may_leave d) at n) (λ c left. (c, only_now d c left, torn_refl at n c))

  -- one call
  pub frame_one : (old new : D) → Elapses (g.moment old) (g.moment new) (g.left_since old) (g.left_since new) (g.may_leave new) → Follows (Torn at n) (g.may_leave old) (g.may_leave new) → LeavesOnly g.moment g.left_since old new (TornFrom (g.may_leave old) at n)
  frame_one old new time follows = one_call g.moment g.left_since (g.may_leave old) (g.may_leave new) old new (TornFrom (g.may_leave old) at n) (only_now old) time (λ c left. (c, left, torn_refl at n c)) follows

  -- a run of calls behind another
  pub frame_then : (old mid new : D) → LeavesOnly g.moment g.left_since old mid (TornFrom (g.may_leave old) at n) → Follows (Torn at n) (g.may_leave old) (g.may_leave mid) → LeavesOnly g.moment g.left_since mid new (TornFrom (g.may_leave mid) at n) → LeavesOnly g.moment g.left_since old new (TornFrom (g.may_leave old) at n)
  frame_then old mid new first follows second = runs_both g.moment g.left_since old mid new (TornFrom (g.may_leave old) at n) first
      (leaves_more g.moment g.left_since mid new (TornFrom (g.may_leave mid) at n) (TornFrom (g.may_leave old) at n) second
      (λ c from. let f : (d : List ℕ) × g.may_leave old d × Torn at n d from.0 = follows from.0 from.1 in (f.0, f.1, torn_trans at n f.0 from.0 c f.2 from.2)))

  -- one call behind a run
  pub frame_more : (old mid new : D) (at2 n2 : ℕ) → at2 ≡ at → n2 ≡ n → LeavesOnly g.moment g.left_since old mid (TornFrom (g.may_leave old) at n) → Follows (Torn at n) (g.may_leave old) (g.may_leave mid)
      → Elapses (g.moment mid) (g.moment new) (g.left_since mid) (g.left_since new) (g.may_leave new) → Follows (Torn at2 n2) (g.may_leave mid) (g.may_leave new) → LeavesOnly g.moment g.left_since old new (TornFrom (g.may_leave old) at n)
  frame_more old mid new at2 n2 a m first follows time next =
      frame_then old mid new first follows (frame_one mid new time (subst (λ (x : ℕ). Follows (Torn x n) (g.may_leave mid) (g.may_leave new)) a (subst (λ (x : ℕ). Follows (Torn at2 x) (g.may_leave mid) (g.may_leave new)) m next)))

-- two steps within one range
pub follows_more : (may may2 may3 : List ℕ → Type 0) (at n at2 n2 : ℕ) → at2 ≡ at → n2 ≡ n → Follows (Torn at n) may may2 → Follows (Torn at2 n2) may2 may3 → Follows (Torn at n) may may3
follows_more may may2 may3 at n at2 n2 a m first next =
    follows_trans at n may may2 may3 first (subst (λ (x : ℕ). Follows (Torn x n) may2 may3) a (subst (λ (x : ℕ). Follows (Torn at2 x) may2 may3) m next))

pub torn_more : (c d e : List ℕ) (at n at2 n2 : ℕ) → at2 ≡ at → n2 ≡ n → Torn at n c d → Torn at2 n2 d e → Torn at n c e
torn_more c d e at n at2 n2 a m first next = torn_trans at n c d e first (subst (λ (x : ℕ). Torn x n d e) a (subst (λ (x : ℕ). Torn at2 x d e) m next))

-- a range in a larger one
pub frame_within : {D : Type 0} (g : Ghosts D) (may : List ℕ → Type 0) (old new : D) (at n a m : ℕ) → a ≤ at → at + n ≤ a + m
    → LeavesOnly g.moment g.left_since old new (TornFrom may at n) → LeavesOnly g.moment g.left_since old new (TornFrom may a m)
frame_within g may old new at n a m low high run = leaves_more g.moment g.left_since old new (TornFrom may at n) (TornFrom may a m) run (λ c from. (from.0, from.1, torn_within at n a m from.0 c from.2 low high))
