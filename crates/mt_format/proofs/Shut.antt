-- A device whose master slots are shut, or only their gates torn.
use Rattle.std.proofs.Common.{◌≡◌, ◌+◌, ◌≤◌, ◌⊎◌, inl, inr, ⊎_elim, ℕ, List, [], ◌∷◌, drop, get_or, refl, sym, ◌∙◌, subst, arith}
use Rattle.std.proofs.lemmas.Bool.{cases_lt, cases_eq}
use Rattle.mt_disk.specs.declared.device.Device.{Ghosts}
use Rattle.mt_disk.specs.Disk.{Has, Torn, Follows, Only, Elapses, LeavesOnly}
use Rattle.mt_disk.proofs.Frame.{get_torn, has_torn, has_append, has_one, started, goes_on}
use Rattle.mt_frame.specs.SlotText.{slot_text}
use Rattle.mt_format.specs.Formats.{GatesTorn, ButForGates, IsShut, IsReady, IsFormattedAs, IsFormattedOrShut, first_slot, empty_area}
use Rattle.mt_format.specs.Schemas.{pages_end}
use Rattle.mt_format.specs.declared.schema.Schema.{Schema}
use Rattle.mt_format.proofs.Formed.{pages_kept, formatted_as}

-- ---- torn gates

pub gates_same : (c : List ℕ) → GatesTorn c c
gates_same c = record { size = refl; rest = λ i one other. refl }

gates_more : (p : ℕ) (old mid new : List ℕ) → (p ≡ 0) ⊎ (p ≡ 4096) → GatesTorn old mid → Torn p 1 mid new → GatesTorn old new
gates_more p old mid new gate torn t = record {
  size = t.size ∙ torn.size;
  rest = λ i one other. ⊎_elim
      (λ lt. t.below i lt)
      (λ le. t.above i (⊎_elim (λ same. omega (arith, le, same, one)) (λ same. omega (arith, le, same, other)) gate))
      (cases_lt i p)
      ∙ torn.rest i one other;
}

pub gates_first : (may may2 : List ℕ → Type 0) → Follows (Torn 0 1) may may2 → (c : List ℕ) → may2 c → ButForGates may c
gates_first may may2 follows c left = let from = follows c left in (from.0, from.1, gates_more 0 from.0 from.0 c (inl refl) (gates_same from.0) from.2)

pub gates_second : (may may1 may2 : List ℕ → Type 0) → ((c : List ℕ) → may1 c → ButForGates may c) → Follows (Torn 4096 1) may1 may2 → (c : List ℕ) → may2 c → ButForGates may c
gates_second may may1 may2 first follows c left =
    let from = follows c left in
    let before = first from.0 from.1 in
    (before.0, before.1, gates_more 4096 before.0 from.0 c (inr refl) before.2 from.2)

-- ---- shut slots

shut_torn : (at n : ℕ) (old new : List ℕ) → 1 ≤ at → (at + n ≤ 4096) ⊎ (4097 ≤ at) → Torn at n old new → IsShut old → IsShut new
shut_torn at n old new some apart t shut = record {
  first = λ is. shut.first (sym (t.below 0 some) ∙ is);
  second = λ is. shut.second (sym (⊎_elim (λ before. t.above 4096 before) (λ behind. t.below 4096 (omega (arith, behind))) apart) ∙ is);
}

-- they stay so where a write goes elsewhere
pub shut_follows : (at n : ℕ) (may may2 : List ℕ → Type 0) → 1 ≤ at → (at + n ≤ 4096) ⊎ (4097 ≤ at) → Follows (Torn at n) may may2 → ((c : List ℕ) → may c → IsShut c) → (c : List ℕ) → may2 c → IsShut c
shut_follows at n may may2 some apart follows shut c left = let from = follows c left in shut_torn at n from.0 c some apart from.2 (shut from.0 from.1)

-- ---- the gate of a device that is ready

pub opened : (s : Schema) (old new : List ℕ) → IsReady s old → Torn 0 1 old new → get_or new 0 0 ≡ 165 → IsFormattedAs s new
opened s old new ready t is =
    let behind : Has new 1 (drop 1 (slot_text (first_slot s))) = has_torn 0 1 1 (drop 1 (slot_text (first_slot s))) old new ready.slot t (inr (omega arith)) in
    let within = behind.within in
    formatted_as s new (pages_kept s 0 1 old new t (inr (omega arith)) ready.pages) (let long = ready.long in let size = t.size in omega (arith, long, size))
    (has_append new 0 (165 ∷ []) (drop 1 (slot_text (first_slot s))) (has_one new 0 165 (omega arith) is) behind)
    (λ gate. ready.shut.second (sym (get_torn 0 1 4096 old new t (inr (omega arith))) ∙ gate))
    (has_torn 0 1 (pages_end s) empty_area old new ready.area t (inr (omega arith)))

pub opened_or_shut : (s : Schema) (old new : List ℕ) → IsReady s old → Torn 0 1 old new → IsFormattedOrShut s new
opened_or_shut s old new ready t = ⊎_elim
    (λ (is : get_or new 0 0 ≡ 165). inr (opened s old new ready t is))
    (λ is. inl (record { first = is; second = λ gate. ready.shut.second (sym (get_torn 0 1 4096 old new t (inr (omega arith))) ∙ gate) }))
    (cases_eq (get_or new 0 0) 165)

pub opens_follow : (s : Schema) (seen : List ℕ) (may may2 : List ℕ → Type 0) → IsReady s seen → Only seen may → Follows (Torn 0 1) may may2 → (c : List ℕ) → may2 c → IsFormattedOrShut s c
opens_follow s seen may may2 ready only follows c left = let from = follows c left in opened_or_shut s seen c ready (subst (λ (d : List ℕ). Torn 0 1 d c) (only from.0 from.1) from.2)

-- ---- within a run of calls

module _ {D : Type 0} (g : Ghosts D) (only_now : (d : D) (c : List ℕ) → g.left_since d (g.moment d) c → g.may_leave d c) where
  -- both gates are closed, one call after the other
  pub closes_one : (old new : D) → Elapses (g.moment old) (g.moment new) (g.left_since old) (g.left_since new) (g.may_leave new) → Follows (Torn 0 1) (g.may_leave old) (g.may_leave new) → LeavesOnly g.moment g.left_since old new (ButForGates (g.may_leave old))
  closes_one old new time follows =
      goes_on g.moment g.left_since old old new (ButForGates (g.may_leave old)) (g.may_leave new) (started g.moment g.left_since old (ButForGates (g.may_leave old)) (λ c left. (c, only_now old c left, gates_same c))) time (gates_first (g.may_leave old) (g.may_leave new) follows)

  pub closes_two : (old mid new : D) → Elapses (g.moment old) (g.moment mid) (g.left_since old) (g.left_since mid) (g.may_leave mid) → Follows (Torn 0 1) (g.may_leave old) (g.may_leave mid) → Elapses (g.moment mid) (g.moment new) (g.left_since mid) (g.left_since new) (g.may_leave new) → Follows (Torn 4096 1) (g.may_leave mid) (g.may_leave new)
      → LeavesOnly g.moment g.left_since old new (ButForGates (g.may_leave old))
  closes_two old mid new time follows time2 follows2 =
      goes_on g.moment g.left_since old mid new (ButForGates (g.may_leave old)) (g.may_leave new) (closes_one old mid time follows) time2 (gates_second (g.may_leave old) (g.may_leave mid) (g.may_leave new) (gates_first (g.may_leave old) (g.may_leave mid) follows) follows2)

  -- no slot is open, and a write goes elsewhere
  pub shut_starts : (d : D) → ((c : List ℕ) → g.may_leave d c → IsShut c) → LeavesOnly g.moment g.left_since d d IsShut
  shut_starts d shut = started g.moment g.left_since d IsShut (λ c left. shut c (only_now d c left))

  pub shut_on : (at n : ℕ) (old mid new : D) → LeavesOnly g.moment g.left_since old mid IsShut → ((c : List ℕ) → g.may_leave mid c → IsShut c) → Elapses (g.moment mid) (g.moment new) (g.left_since mid) (g.left_since new) (g.may_leave new) → 1 ≤ at → (at + n ≤ 4096) ⊎ (4097 ≤ at) → Follows (Torn at n) (g.may_leave mid) (g.may_leave new)
      → LeavesOnly g.moment g.left_since old new IsShut
  shut_on at n old mid new run shut time some apart follows = goes_on g.moment g.left_since old mid new IsShut (g.may_leave new) run time (shut_follows at n (g.may_leave mid) (g.may_leave new) some apart follows shut)
