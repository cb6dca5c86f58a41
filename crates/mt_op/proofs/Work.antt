-- What is left to be done of an operation, from one step to the next.
use Rattle.std.proofs.Common.{◌≡◌, ◌⊎◌, inl, inr, ◌<◌, ◌≤◌, ◌+◌, ◌-◌, ◌*◌, ◌==◌, ◌&&◌, ◌||◌, ℕ, zero, suc, List, [], ◌∷◌, ◌++◌, length, Bool, true, false, Option, Some, None, refl, sym, ◌∙◌, ap, subst, append-nil, arith}
use Rattle.std.specs.Prelude.{All, Contains, Result, Ok, Err, is_some, IsSome, if◌then◌else◌}
use Rattle.std.proofs.lemmas.Bool.{cases_eq, cases_Bool, eqb-true, eq-eqb, and_parts}
use Rattle.std.proofs.lemmas.List.Folds.{list_any-append, Any-from_list_any}
use Rattle.std.proofs.lemmas.List.Elements.{All-weaker, filter_passes}
use Rattle.mt_disk.specs.declared.device.Device.{Ghosts}
use Rattle.mt_base.specs.declared.modes.Mode.{Mode}
use Rattle.mt_base.specs.declared.modes.Mode.TheVariants.{Read, Write}
use Rattle.mt_base.specs.declared.refusal.Refusal.{Refusal}
use Rattle.mt_plock.specs.Holding.{lock_of}
use Rattle.mt_plock.specs.Releasing.{locks_of}
use Rattle.mt_plock.specs.declared.guards.PageLock.{PageLock}
use Rattle.mt_space.specs.declared.changes.Changes.{Changes}
use Rattle.mt_overlay.specs.Overlays.{copied, or_below}
use Rattle.mt_overlay.specs.declared.overlay.PageCopy.{PageCopy}
use Rattle.mt_overlay.proofs.Overlaid.{copied_append, some_value, test_yes}
use Rattle.mt_file.specs.Rooms.{fits_of}
use Rattle.mt_model.specs.Model.{IsWithin}
use Rattle.mt_space.specs.Changes.{PageBytes}
use Rattle.mt_space.specs.Rooms.{free_in, free_of}
use Rattle.mt_op.specs.declared.operations.Operations.{Operations}
use Rattle.mt_op.specs.Operations.{world, IsRight, claimed}
use Rattle.mt_steps.specs.Plans.{IsGood, HasPages, InPages, IsTight, free_pages, own_needs, record_bytes}
use Rattle.mt_op.specs.World.{World, held_in, looked, looked_bytes, changes_in, IsWorld, IsUnderWay}
use Rattle.mt_op.specs.Holds.{Stays, Holds, IsAnew, IsHeld, IsMisled}
use Rattle.mt_op.specs.Work.{sum_below, writes, is_written, steps_for, work_at, work_of, Works, WorksOn}
use Rattle.mt_op.specs.declared.answers.Stepped.{Stepped}
use Rattle.mt_op.specs.declared.answers.Stepped.TheVariants as stepped
use Rattle.mt_op.specs.declared.scope.OpScope.{OpScope}
use Rattle.mt_op.specs.declared.scope.Stage.TheVariants.{Planning, Writing}
use Rattle.mt_op.proofs.Going.{planning_of}
use Rattle.mt_op.proofs.Writing.{held_as_seen}

-- ---- sums

pub sum_le : (n : ℕ) (f g : ℕ → ℕ) → ((p : ℕ) → g p ≤ f p) → sum_below n g ≤ sum_below n f
sum_le zero f g le = omega arith
sum_le (suc n) f g le = let a = sum_le n f g le in let b = le n in omega arith

-- a sum whose terms are nowhere larger, and at one place smaller by so much
pub sum_drops : (n : ℕ) (f g : ℕ → ℕ) (q d : ℕ) → ((p : ℕ) → g p ≤ f p) → q < n → g q + d ≤ f q → sum_below n g + d ≤ sum_below n f
sum_drops zero f g q d le lt less = absurd (omega arith)
sum_drops (suc n) f g q d le lt less = elim (cases_eq q n) [
  | inl here ↦
      let a = sum_le n f g le in
      let b : g n + d ≤ f n = subst (λ (m : ℕ). g m + d ≤ f m) here less in
      omega arith
  | inr other ↦
      let below : q < n = omega arith in
      let a = sum_drops n f g q d le below less in
      let b = le n in
      omega arith
]

sum_two : (n : ℕ) → sum_below n (λ (p : ℕ). 2) ≡ 2 * n
sum_two zero = refl
sum_two (suc n) = let a = sum_two n in omega arith

-- ---- one page

abbrev pub steps_left : Option (List ℕ) → Bool → ℕ
steps_left o locked = if is_some o then (if locked then 0 else 1) else 2

abbrev pub steps_led : Option ℕ → ℕ
steps_led room = if is_some room then 1 else 0

abbrev pub steps_in : List PageCopy → List PageLock → ℕ → ℕ
steps_in copies guards p = steps_left (copied copies p) (is_written guards p)

-- with copies and guards more, a page has no more steps left
left_le : (o below : Option (List ℕ)) (a b : Bool) → steps_left (or_below o below) (a || b) ≤ steps_left o a
left_le None None a b = omega arith
left_le None (Some y) true b = omega arith
left_le None (Some y) false true = omega arith
left_le None (Some y) false false = omega arith
left_le (Some x) below true b = omega arith
left_le (Some x) below false true = omega arith
left_le (Some x) below false false = omega arith

-- one that is looked at has at most one
looked_left : (bytes : List ℕ) (a : Bool) → steps_left (Some bytes) a ≤ 1
looked_left bytes true = omega arith
looked_left bytes false = omega arith

last_of : (a : Bool) → (a || true) ≡ true
last_of true = refl
last_of false = refl

mode_of : (m : Mode) → writes m ≡ true → m ≡ Write
mode_of Read e = absurd cc
mode_of Write e = refl

written_more : (guards : List PageLock) (l : PageLock) (p : ℕ) → is_written (guards ++ l ∷ []) p ≡ (is_written guards p || is_written (l ∷ []) p)
written_more guards l p = list_any-append (λ (l : PageLock). (l.page == p) && writes l.mode) guards (l ∷ [])

written_last : (guards : List PageLock) (n p : ℕ) → is_written (guards ++ lock_of n p Write ∷ []) p ≡ true
written_last guards n p =
    written_more guards (lock_of n p Write) p
    ∙ ap (λ (b : Bool). (is_written guards p || ((b && true) || false))) (eq-eqb p p refl)
    ∙ last_of (is_written guards p)

more_le : (copies more : List PageCopy) (guards : List PageLock) (l : PageLock) (p : ℕ) → steps_in (copies ++ more) (guards ++ l ∷ []) p ≤ steps_in copies guards p
more_le copies more guards l p =
    let e : steps_in (copies ++ more) (guards ++ l ∷ []) p ≡ steps_left (or_below (copied copies p) (copied more p)) (is_written guards p || is_written (l ∷ []) p) = λ i. steps_left (copied_append copies more p i) (written_more guards l p i) in
    let le = left_le (copied copies p) (copied more p) (is_written guards p) (is_written (l ∷ []) p) in
    omega arith

-- none of its own guards is of the page, to write it
pub unwritten : (guards : List PageLock) (n p : ℕ) → All (λ (l : PageLock). l.op ≡ n) guards → (Contains guards (lock_of n p Write) → ⊥) → is_written guards p ≡ false
unwritten guards n p own none = elim (cases_Bool (is_written guards p)) [
  | inl written ↦
      let (k, l, lt, is, found) = Any-from_list_any (λ (l : PageLock). (l.page == p) && writes l.mode) guards written in
      let parts = and_parts (l.page == p) (writes l.mode) found in
      let number : l.op ≡ n = ap (λ (m : PageLock). m.op) (sym is) ∙ own k l lt in
      let same : l ≡ lock_of n p Write = λ i. record { op = number i; page = eqb-true l.page p parts.0 i; mode = mode_of l.mode parts.1 i } in
      absurd (none (subst (Contains guards) same (k, lt, is)))
  | inr other ↦ other
]

-- ---- one operation that plans

abbrev pub work_with : ℕ → List PageCopy → List PageLock → Option ℕ → ℕ
work_with total copies guards room = sum_below total (steps_in copies guards) + steps_led room + 9

planning_work : (s : OpScope) → s.stage ≡ Planning → work_of s ≡ work_with s.seen.total s.seen.list.items s.guards.items s.room
planning_work s planning = ap (work_at s) planning

pub stays_work : (s t : OpScope) → s.stage ≡ Planning → Stays s t → work_of t ≡ work_of s
stays_work s t planning m =
    planning_work t (m.stage ∙ planning)
    ∙ (λ i. work_with (m.plan.op.total i) (m.plan.seen i) (m.plan.guards i) (m.plan.room i))
    ∙ sym (planning_work s planning)

-- of one that begins all is left
pub begun_work : (total n : ℕ) (copies : List PageCopy) (guards : List PageLock) → total ≡ n → copies ≡ [] → guards ≡ [] → work_with total copies guards None ≡ 2 * n + 9
begun_work total n copies guards same no_copies no_guards =
    let e : work_with total copies guards None ≡ work_with n [] [] None = λ i. work_with (same i) (no_copies i) (no_guards i) None in
    let two = sum_two n in
    omega arith

anew_work : (s t : OpScope) → s.stage ≡ Planning → IsAnew s t → work_of t ≤ work_of s + 2 * s.seen.total
anew_work s t planning m =
    let now : work_of t ≡ work_with t.seen.total t.seen.list.items t.guards.items None = planning_work t (m.stage ∙ planning) ∙ ap (work_with t.seen.total t.seen.list.items t.guards.items) m.room in
    let all = begun_work t.seen.total s.seen.total t.seen.list.items t.guards.items m.op.total m.seen m.guards in
    let was = planning_work s planning in
    omega arith

-- a lock more, and copies more: at the page that is locked it has so many steps less
gains_work : (s t : OpScope) (p d : ℕ) (l : PageLock) (copies : List PageCopy) → s.stage ≡ Planning → t.stage ≡ s.stage → t.seen.total ≡ s.seen.total
    → t.guards.items ≡ s.guards.items ++ l ∷ [] → t.seen.list.items ≡ s.seen.list.items ++ copies → p < s.seen.total
    → steps_in (s.seen.list.items ++ copies) (s.guards.items ++ l ∷ []) p + d ≤ steps_for s p → work_of t + d + steps_led s.room ≤ work_of s + steps_led t.room
gains_work s t p d l copies planning stage total guards seen inside less =
    let now : work_of t ≡ work_with s.seen.total (s.seen.list.items ++ copies) (s.guards.items ++ l ∷ []) t.room = planning_work t (stage ∙ planning) ∙ (λ i. work_with (total i) (seen i) (guards i) t.room) in
    let was = planning_work s planning in
    let drops = sum_drops s.seen.total (steps_for s) (steps_in (s.seen.list.items ++ copies) (s.guards.items ++ l ∷ [])) p d (more_le s.seen.list.items copies s.guards.items l) inside less in
    omega arith

-- a page is locked that it had not looked at, and looked at
pub locks_work : (s t : OpScope) (p : ℕ) (mode : Mode) (bytes : List ℕ) (Q : Type 0) → s.stage ≡ Planning → t.stage ≡ s.stage → t.seen.total ≡ s.seen.total
    → t.guards.items ≡ s.guards.items ++ lock_of s.number p mode ∷ [] → t.seen.list.items ≡ s.seen.list.items ++ record { page = p; bytes = bytes } ∷ []
    → (t.room ≡ s.room) ⊎ ((t.room ≡ Some p) × (mode ≡ Write) × Q) → looked s p ≡ None → p < s.seen.total → work_of t < work_of s
locks_work s t p mode bytes Q planning stage total guards seen led new inside =
    let c : PageCopy = record { page = p; bytes = bytes } in
    let l = lock_of s.number p mode in
    let there : copied (s.seen.list.items ++ c ∷ []) p ≡ Some bytes = copied_append s.seen.list.items (c ∷ []) p ∙ ap (λ (o : Option (List ℕ)). or_below o (copied (c ∷ []) p)) new ∙ test_yes p p (Some bytes) None refl in
    let was : steps_for s p ≡ 2 = ap (λ (o : Option (List ℕ)). steps_left o (is_written s.guards.items p)) new in
    elim led [
      | inl room ↦
          let at_page : steps_in (s.seen.list.items ++ c ∷ []) (s.guards.items ++ l ∷ []) p ≡ steps_left (Some bytes) (is_written (s.guards.items ++ l ∷ []) p) = ap (λ (o : Option (List ℕ)). steps_left o (is_written (s.guards.items ++ l ∷ []) p)) there in
          let most = looked_left bytes (is_written (s.guards.items ++ l ∷ []) p) in
          let same = ap steps_led room in
          let less = gains_work s t p 1 l (c ∷ []) planning stage total guards seen inside (omega arith) in
          omega arith
      | inr given ↦
          let writes_it : is_written (s.guards.items ++ l ∷ []) p ≡ true = ap (λ (m : Mode). is_written (s.guards.items ++ lock_of s.number p m ∷ []) p) given.1 ∙ written_last s.guards.items s.number p in
          let at_page : steps_in (s.seen.list.items ++ c ∷ []) (s.guards.items ++ l ∷ []) p ≡ 0 = λ i. steps_left (there i) (writes_it i) in
          let led : steps_led t.room ≡ 1 = ap steps_led given.0 in
          let less = gains_work s t p 2 l (c ∷ []) planning stage total guards seen inside (omega arith) in
          omega arith
    ]

-- a page is locked to write that it had looked at and not locked so
pub upgrades_work : (s t : OpScope) (p : ℕ) → s.stage ≡ Planning → Holds s t p Write → IsSome (looked s p) → is_written s.guards.items p ≡ false → p < s.seen.total → work_of t < work_of s
upgrades_work s t p planning h some unlocked inside =
    let v = some_value (looked s p) some in
    let l = lock_of s.number p Write in
    let was : steps_for s p ≡ 1 = λ i. steps_left (v.1 i) (unlocked i) in
    let there : copied (s.seen.list.items ++ []) p ≡ Some v.0 = ap (λ (cs : List PageCopy). copied cs p) (append-nil s.seen.list.items) ∙ v.1 in
    let at_page : steps_in (s.seen.list.items ++ []) (s.guards.items ++ l ∷ []) p ≡ 0 = λ i. steps_left (there i) (written_last s.guards.items s.number p i) in
    let same = ap steps_led h.room in
    let less = gains_work s t p 1 l [] planning h.stage h.op.total h.guards (h.seen ∙ sym (append-nil s.seen.list.items)) inside (omega arith) in
    omega arith

-- the page that it was led to is full
full_work : (s : OpScope) (p : ℕ) → s.stage ≡ Planning → s.room ≡ Some p → work_of (record s { room = None }) < work_of s
full_work s p planning led =
    let now = planning_work (record s { room = None }) planning in
    let was = planning_work s planning in
    let one : steps_led s.room ≡ 1 = ap steps_led led in
    omega arith

-- what a plan asks of the pages held
pub plans_over : (relations counters : ℕ) (w : World) (s : OpScope) → s.stage ≡ Planning → IsWorld relations counters w → IsUnderWay relations counters w s → relations ≤ 64
    → (r : ℕ) × (c : ℕ) × HasPages (looked s) s.room r c s.seen.total × IsWithin r c s.op × (r ≤ 64)
plans_over relations counters w s planning h k small =
    let at = planning_of relations counters w s planning k in
    (relations, counters, (held_in w, at.sees.saw, subst (λ (n : ℕ). IsGood relations counters n (held_in w)) (sym k.total) h.good, λ p is. (at.sees.named p is).2), k.within, small)

-- the pages that are claimed are free in the pages held
pub claim_free : {D : Type 0} (g : Ghosts D) (opening : PageBytes) (relations counters : ℕ) (o : Operations D) (s : OpScope) → IsRight g opening relations counters o
    → IsUnderWay relations counters (world g opening o) s → own_needs s.op s.split ≤ claimed o → own_needs s.op s.split ≤ free_pages s.seen.total (held_in (world g opening o))
claim_free g opening relations counters o s right k claims =
    let free : free_of o.map.space ≡ free_pages s.seen.total (held_in (world g opening o)) =
    ap free_in right.space ∙ ap (λ (n : ℕ). free_pages n (held_in (world g opening o))) (sym k.total) in
    let some = right.claims in
    omega (arith, free, some, claims)

pub led_work : (relations counters : ℕ) (w : World) (s : OpScope) → s.stage ≡ Planning → IsWorld relations counters w → IsUnderWay relations counters w s → own_needs s.op s.split ≤ free_pages s.seen.total (held_in w)
    → InPages (looked s) s.room relations counters s.seen.total (λ pages. (free_pages s.seen.total pages < own_needs s.op s.split) ⊎ IsTight s.room pages (record_bytes s.op)) → work_of (record s { room = None }) < work_of s
led_work relations counters w s planning h k free full =
    let at = planning_of relations counters w s planning k in
    let good = subst (λ (n : ℕ). IsGood relations counters n (held_in w)) (sym k.total) h.good in
    elim (full (held_in w) at.sees.saw good (λ p is. (at.sees.named p is).2)) [
      | inl few ↦ absurd (omega arith)
      | inr tight ↦ full_work s tight.0 planning tight.1
    ]

-- and does not take its record
pub led_misled : (relations counters : ℕ) (w : World) (s : OpScope) → s.stage ≡ Planning → IsWorld relations counters w → IsUnderWay relations counters w s → own_needs s.op s.split ≤ free_pages s.seen.total (held_in w)
    → InPages (looked s) s.room relations counters s.seen.total (λ pages. (free_pages s.seen.total pages < own_needs s.op s.split) ⊎ IsTight s.room pages (record_bytes s.op)) → IsMisled s
led_misled relations counters w s planning h k free full p led =
    let at = planning_of relations counters w s planning k in
    let good = subst (λ (n : ℕ). IsGood relations counters n (held_in w)) (sym k.total) h.good in
    elim (full (held_in w) at.sees.saw good (λ p is. (at.sees.named p is).2)) [
      | inl few ↦ absurd (omega arith)
      | inr tight ↦
          let same : tight.0 ≡ p = only tight.0 p (sym tight.1 ∙ led) in
          let bytes : held_in w p ≡ looked_bytes s p = held_as_seen w s p at.sees (at.sees.named p led).0 in
          subst (λ (page : List ℕ). fits_of page < record_bytes s.op) bytes (subst (λ (x : ℕ). fits_of (held_in w x) < record_bytes s.op) same tight.2)
    ]
  where
    only : (a b : ℕ) → Some a ≡ Some b → a ≡ b
    only a b e = ap (λ (o : Option ℕ). elim o [ None ↦ a | Some x ↦ x ]) e

-- its plan is made
pub planned_work : (s t : OpScope) → s.stage ≡ Planning → t.stage ≡ Writing → length (changes_in t) ≤ 8 → work_of t ≤ work_of s
planned_work s t planning writing few =
    let now : work_of t ≡ length (changes_in t) - t.written + 1 = ap (work_at t) writing in
    let was = planning_work s planning in
    omega arith

-- ---- an operation that writes

pub writing_work : (s t : OpScope) → s.stage ≡ Writing → t.stage ≡ Writing → t.changes ≡ s.changes → t.written ≡ s.written + 1 → s.written < length (changes_in s) → work_of t < work_of s
writing_work s t was_writing writing changes written more =
    let now : work_of t ≡ length (changes_in t) - t.written + 1 = ap (work_at t) writing in
    let was : work_of s ≡ length (changes_in s) - s.written + 1 = ap (work_at s) was_writing in
    let same = ap (λ (c : Changes). length c.list.items) changes in
    omega arith

-- ---- what a step answers

-- behind what left no more
pub works_behind : (s t u : OpScope) (r : Result Stepped Refusal) → work_of t ≤ work_of s → t.seen.total ≡ s.seen.total → Works t u r → Works s u r
works_behind s t u (Ok stepped.Went) le total w = omega arith
works_behind s t u (Ok (stepped.Wait holder)) le total w = omega arith
works_behind s t u (Ok (stepped.Again holder)) le total w = omega arith
works_behind s t u (Ok stepped.Flush) le total w = omega arith
works_behind s t u (Ok (stepped.Ready first second)) le total w = w
works_behind s t u (Err why) le total w = omega arith

pub err_works : (s t : OpScope) (r : Result Stepped Refusal) (why : Refusal) → r ≡ Err why → work_of t ≤ work_of s → Works s t r
err_works s t r why is le = subst (Works s t) (sym is) le

pub err_works_on : (s t : OpScope) (r : Result (Option Stepped) Refusal) (why : Refusal) → r ≡ Err why → work_of t ≤ work_of s → WorksOn s t r
err_works_on s t r why is le = subst (WorksOn s t) (sym is) le

-- where the lock is not had
pub unlocked_works : (w z : World) (s t : OpScope) (p : ℕ) (mode : Mode) (r : Result Stepped Refusal) → (r ≡ Ok stepped.Went → ⊥) → IsHeld w z s t p mode r → s.stage ≡ Planning → Works s t r
unlocked_works w z s t p mode (Ok stepped.Went) not h planning = absurd (not refl)
unlocked_works w z s t p mode (Ok (stepped.Wait holder)) not h planning = let e = stays_work s t planning h.1 in omega arith
unlocked_works w z s t p mode (Ok (stepped.Again holder)) not h planning = anew_work s t planning h.1
unlocked_works w z s t p mode (Ok stepped.Flush) not h planning = absurd h
unlocked_works w z s t p mode (Ok (stepped.Ready first second)) not h planning = absurd h
unlocked_works w z s t p mode (Err why) not h planning = let e = stays_work s t planning h.1 in omega arith

own_guards : (w : World) (s : OpScope) → locks_of s.number w.locks ≡ s.guards.items → All (λ (l : PageLock). l.op ≡ s.number) s.guards.items
own_guards w s locks =
    subst (All (λ (l : PageLock). l.op ≡ s.number)) locks
    (All-weaker (λ (l : PageLock). (l.op == s.number) ≡ true) (λ (l : PageLock). l.op ≡ s.number) (λ l is. eqb-true l.op s.number is) (locks_of s.number w.locks) (filter_passes (λ (l : PageLock). l.op == s.number) w.locks))

-- whatever is answered where a page is asked for that it had looked at and not locked to write
pub upgrade_works : (w z : World) (s t : OpScope) (p : ℕ) (r : Result Stepped Refusal) → IsHeld w z s t p Write r → s.stage ≡ Planning → IsSome (looked s p)
    → (Contains s.guards.items (lock_of s.number p Write) → ⊥) → locks_of s.number w.locks ≡ s.guards.items → p < s.seen.total → Works s t r
upgrade_works w z s t p r held planning some none locks inside = answered r held
  where
    answered : (r : Result Stepped Refusal) → IsHeld w z s t p Write r → Works s t r
    answered (Ok stepped.Went) h = upgrades_work s t p planning h.1 some (unwritten s.guards.items s.number p (own_guards w s locks) none) inside
    answered (Ok (stepped.Wait holder)) h = let e = stays_work s t planning h.1 in omega arith
    answered (Ok (stepped.Again holder)) h = anew_work s t planning h.1
    answered (Ok stepped.Flush) h = absurd h
    answered (Ok (stepped.Ready first second)) h = absurd h
    answered (Err why) h = let e = stays_work s t planning h.1 in omega arith
