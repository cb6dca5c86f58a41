-- The steps that an abort has left.
use Rattle.std.proofs.Common.{◌≡◌, ◌≢◌, ◌⊎◌, inl, inr, ⊎_elim, ℕ, zero, suc, ◌<◌, ◌≤◌, ◌&&◌, ◌+◌, ◌-◌, ◌*◌, ◌==◌, Bool, true, false, cond, not, if◌then◌else◌, List, [], ◌∷◌, ◌++◌, length, get_or, filter, Option, Some, None, Result, Ok, Err, is_some, refl, sym, ap, subst, ◌∙◌, arith}
use Rattle.std.specs.Prelude.{All, AllPairs, OnErr}
use Rattle.std.specs.List.{remove, sum_by}
use Rattle.std.proofs.Math.Nat.{suc-mul}
use Rattle.std.proofs.lemmas.Bool.{eq-eqb, eqb-true, ne_eqb, cases_eq, and_left, and_right}
use Rattle.std.proofs.lemmas.List.{get_or_default}
use Rattle.std.proofs.lemmas.List.Elements.{All-head, All-tail}
use Rattle.std.proofs.lemmas.List.Sums.{sum_by-cons, sum_by_push}
use Rattle.mt_disk.specs.declared.device.Device.{Ghosts}
use Rattle.mt_base.specs.declared.refusal.Refusal.{Refusal}
use Rattle.mt_live.specs.Entries.{Entry, with_role, kept}
use Rattle.mt_live.specs.declared.transactions.Role.TheVariants as role
use Rattle.mt_live.specs.Undoing.{others, is_counted, is_effect, last_of, last_effect, cut_back, mark_last}
use Rattle.mt_model.specs.Model.{Base, inverse_of, reply_of}
use Rattle.mt_op.proofs.Planned.{has_changed}
use Rattle.mt_op.proofs.Restored.{few_stand}
use Rattle.mt_op.specs.Operations.{world}
use Rattle.mt_op.specs.Moves.{SameOp}
use Rattle.mt_op.specs.Work.{sum_below, is_written, steps_for, work_at, work_of}
use Rattle.mt_op.specs.World.{World, IsUnderWay, looked, changes_in}
use Rattle.mt_op.specs.declared.scope.Stage.{Stage}
use Rattle.mt_op.specs.declared.scope.Stage.TheVariants.{Planning, Writing, Taking}
use Rattle.mt_op.specs.declared.answers.TakenBack.{TakenBack}
use Rattle.mt_op.specs.declared.answers.TakenBack.TheVariants as taken
use Rattle.mt_op.specs.declared.scope.OpScope.{OpScope}
use Rattle.mt_pool.specs.Views.{pages}
use Rattle.mt_live.specs.Lives.{Lives}
use Rattle.mt_live.specs.Machine.{State}
use Rattle.mt_live.specs.declared.transactions.TxnState.{TxnState}
use Rattle.mt_live.specs.declared.transactions.TxnState.TheVariants.{Open, Committing, Returning, Aborting}
use Rattle.mt_model.specs.declared.operations.Op.{Op}
use Rattle.mt_core.specs.Consistent.{Origin, state_of, IsConsistent, UndoesIn, InvertsIn}
use Rattle.mt_core.specs.Runs.{AreApart, IsMoving, IsOwned, IsRunning}
use Rattle.mt_core.specs.Work.{effect_steps, effects_left, steps_with, abort_steps, undo_steps, most_steps, LeavesStanding}
use Rattle.mt_core.specs.declared.parts.Core.{Core}
use Rattle.mt_core.proofs.Lists.{pairs_head, pairs_tail, pair_at, all_remove}
use Rattle.mt_core.proofs.Underway.{apart_flip}

-- ---- the effects

module _ (all t : ℕ) where
  of_effect : (e : Entry) (b : Bool) → is_effect t e ≡ b → effect_steps all t e ≡ (if b then 2 * all + 10 else 0)
  of_effect e b is = ap (λ (x : Bool). if x then 2 * all + 10 else 0) is

  -- where nothing is to be undone, none are left
  pub none_left : (es : List Entry) → last_effect t es ≡ None → effects_left all es t ≡ 0
  none_left [] none = refl
  none_left (x ∷ es) none = go (last_effect t es) refl (is_effect t x) refl none (none_left es)
    where
      go : (o : Option Entry) → last_effect t es ≡ o → (b : Bool) → is_effect t x ≡ b → last_of o b x ≡ None → (last_effect t es ≡ None → effects_left all es t ≡ 0) → effects_left all (x ∷ es) t ≡ 0
      go (Some later) at b is k rec = absurd cc
      go None at true is k rec = absurd cc
      go None at false is k rec = let rest = rec at in let mine = of_effect x false is in let whole = sum_by-cons (effect_steps all t) x es in omega arith

  -- nor where only the entries of others are
  others_left : (es : List Entry) → effects_left all (kept (others t) es) t ≡ 0
  others_left [] = refl
  others_left (x ∷ es) = go (x.txn == t) refl (others_left es)
    where
      go : (c : Bool) → (x.txn == t) ≡ c → effects_left all (kept (others t) es) t ≡ 0 → effects_left all (cond (not c) (x ∷ kept (others t) es) (kept (others t) es)) t ≡ 0
      go true is rest = rest
      go false is rest = let away : is_effect t x ≡ false = rw is refl in let mine = of_effect x false away in let whole = sum_by-cons (effect_steps all t) x (kept (others t) es) in omega arith

  -- the last of them is undone
  pub cut_left : (es : List Entry) (e : Entry) → last_effect t es ≡ Some e → effects_left all (cut_back t es) t + (2 * all + 10) ≡ effects_left all es t
  cut_left [] e is = absurd cc
  cut_left (x ∷ es) e is = go (λ k. cut_left es e k) (last_effect t es) refl (is_effect t x) refl is
    where
      go : (last_effect t es ≡ Some e → effects_left all (cut_back t es) t + (2 * all + 10) ≡ effects_left all es t) → (o : Option Entry) → last_effect t es ≡ o → (c : Bool) → is_effect t x ≡ c → last_of o c x ≡ Some e
          → effects_left all (cond (is_some o) (x ∷ cut_back t es) (cond c (kept (others t) es) (x ∷ es))) t + (2 * all + 10) ≡ effects_left all (x ∷ es) t
      go rec (Some later) at c own k = let rest = rec (at ∙ k) in let whole = sum_by-cons (effect_steps all t) x es in let left = sum_by-cons (effect_steps all t) x (cut_back t es) in omega arith
      go rec None at true own k = let mine = of_effect x true own in let rest = none_left es at in let gone = others_left es in let whole = sum_by-cons (effect_steps all t) x es in omega arith
      go rec None at false own k = absurd cc

  -- or taken back by one that goes on
  pub mark_left : (es : List Entry) (e : Entry) → last_effect t es ≡ Some e → effects_left all (mark_last t es) t + (2 * all + 10) ≡ effects_left all es t
  mark_left [] e is = absurd cc
  mark_left (x ∷ es) e is = go (λ k. mark_left es e k) (last_effect t es) refl (is_effect t x) refl is
    where
      gone : is_effect t (with_role role.TakenBack x) ≡ false
      gone = and_left (is_counted t (with_role role.TakenBack x)) (is_some (inverse_of x.op x.reply)) (and_right (x.txn == t) false refl)

      go : (last_effect t es ≡ Some e → effects_left all (mark_last t es) t + (2 * all + 10) ≡ effects_left all es t) → (o : Option Entry) → last_effect t es ≡ o → (c : Bool) → is_effect t x ≡ c → last_of o c x ≡ Some e
          → effects_left all (cond (is_some o) (x ∷ mark_last t es) (cond c (with_role role.TakenBack x ∷ es) (x ∷ es))) t + (2 * all + 10) ≡ effects_left all (x ∷ es) t
      go rec (Some later) at c own k = let rest = rec (at ∙ k) in let whole = sum_by-cons (effect_steps all t) x es in let left = sum_by-cons (effect_steps all t) x (mark_last t es) in omega arith
      go rec None at true own k = let mine = of_effect x true own in let now = of_effect (with_role role.TakenBack x) false gone in let whole = sum_by-cons (effect_steps all t) x es in let left = sum_by-cons (effect_steps all t) (with_role role.TakenBack x) es in omega arith
      go rec None at false own k = absurd cc

  -- the inverse of a transaction that goes on is no effect
  pub back_left : (es : List Entry) (e : Entry) → is_effect t e ≡ false → effects_left all (es ++ e ∷ []) t ≡ effects_left all es t
  back_left es e none = let whole = sum_by_push (effect_steps all t) es e in let mine = of_effect e false none in omega (arith, whole, mine)

-- ---- the operation under way

module _ (all effects : ℕ) where
  pub back_with : (r : OpScope) → r.undoes ≢ 0 → steps_with all r effects ≡ work_of r + (effects - (2 * all + 10))
  back_with r back = let not_zero : (r.undoes == 0) ≡ false = ne_eqb r.undoes 0 back in rw not_zero refl

  pub fore_with : (r : OpScope) → r.undoes ≡ 0 → steps_with all r effects ≡ r.standing + 1 + effects
  fore_with r fore = let is_zero : (r.undoes == 0) ≡ true = eq-eqb r.undoes 0 fore in rw is_zero refl

  pub abort_at : (rs : List OpScope) (i : ℕ) (r : OpScope) → i < length rs → r ≡ get_or rs i r → AllPairs AreApart rs → abort_steps all rs r.txn effects ≡ steps_with all r effects
  abort_at [] i r within there apart = absurd (omega (arith, within))
  abort_at (x ∷ xs) zero r within there apart = let same : (x.txn == r.txn) ≡ true = eq-eqb x.txn r.txn (ap (λ (y : OpScope). y.txn) (sym there)) in
      rw same (ap (λ (y : OpScope). steps_with all y effects) (sym there))
  abort_at (x ∷ xs) (suc i) r within there apart =
      let other : x.txn ≢ r.txn = λ is. (pairs_head AreApart x xs apart i r (omega (arith, within))).txn (ap (λ (y : OpScope). y.txn) (sym there) ∙ sym is) in
      let away : (x.txn == r.txn) ≡ false = ne_eqb x.txn r.txn other in
      rw away (abort_at xs i r (omega (arith, within)) there (pairs_tail AreApart x xs apart))

  -- of a transaction that runs nothing
  pub abort_idle : (rs : List OpScope) (t : ℕ) → All (λ (r : OpScope). r.txn ≢ t) rs → abort_steps all rs t effects ≡ effects
  abort_idle [] t none = refl
  abort_idle (x ∷ xs) t none = let away : (x.txn == t) ≡ false = ne_eqb x.txn t (All-head (λ (r : OpScope). r.txn ≢ t) x xs none) in rw away (abort_idle xs t (All-tail (λ (r : OpScope). r.txn ≢ t) x xs none))

  -- behind the end of its operation
  pub abort_removed : (rs : List OpScope) (i : ℕ) (r : OpScope) → i < length rs → r ≡ get_or rs i r → AllPairs AreApart rs → abort_steps all (remove rs i) r.txn effects ≡ effects
  abort_removed rs i r within there apart = abort_idle (remove rs i) r.txn (all_remove (λ (q : OpScope). q.txn ≢ r.txn) rs i within (λ j d lt other.
      let pair = pair_at AreApart rs apart_flip apart i j d within lt other in
      λ is. pair.txn (is ∙ ap (λ (y : OpScope). y.txn) (there ∙ get_or_default rs i r d within))))

  -- and once one has begun
  pub abort_begun : (rs : List OpScope) (r : OpScope) → All (λ (q : OpScope). q.txn ≢ r.txn) rs → abort_steps all (rs ++ r ∷ []) r.txn effects ≡ steps_with all r effects
  abort_begun [] r none = let same : (r.txn == r.txn) ≡ true = eq-eqb r.txn r.txn refl in rw same refl
  abort_begun (x ∷ xs) r none = let away : (x.txn == r.txn) ≡ false = ne_eqb x.txn r.txn (All-head (λ (q : OpScope). q.txn ≢ r.txn) x xs none) in rw away (abort_begun xs r (All-tail (λ (q : OpScope). q.txn ≢ r.txn) x xs none))

-- ---- of parts

module _ {D : Type 0} where
  pub undo_idle : (k : Core D) (t : ℕ) → All (λ (r : OpScope). r.txn ≢ t) k.running.items → undo_steps k t ≡ effects_left (pages k.operations.store.pool) k.live.standing t
  undo_idle k t none = abort_idle (pages k.operations.store.pool) (effects_left (pages k.operations.store.pool) k.live.standing t) k.running.items t none

  pub undo_removed : (n : Core D) (rs : List OpScope) (place t all : ℕ) (q : OpScope) (es : List Entry) → place < length rs → q ≡ get_or rs place q → AllPairs AreApart rs → q.txn ≡ t
      → n.running.items ≡ remove rs place → pages n.operations.store.pool ≡ all → n.live.standing ≡ es → undo_steps n t ≡ effects_left all es t
  undo_removed n rs place t all q es within there apart own items size standing =
      (λ i. abort_steps (size i) (items i) (sym own i) (effects_left (size i) (standing i) t)) ∙ abort_removed all (effects_left all es t) rs place q within there apart

  pub undo_begun : (k n : Core D) (r : OpScope) → All (λ (q : OpScope). q.txn ≢ r.txn) k.running.items → r.undoes ≢ 0
      → n.running.items ≡ k.running.items ++ r ∷ [] → pages n.operations.store.pool ≡ pages k.operations.store.pool → n.live.standing ≡ k.live.standing
      → undo_steps n r.txn ≡ work_of r + (effects_left (pages k.operations.store.pool) k.live.standing r.txn - (2 * pages k.operations.store.pool + 10))
  undo_begun k n r none back items size standing = let all = pages k.operations.store.pool in let effects = effects_left all k.live.standing r.txn in
      (λ i. abort_steps (size i) (items i) r.txn (effects_left (size i) (standing i) r.txn)) ∙ abort_begun all effects k.running.items r none ∙ back_with all effects r back

  -- an operation is at the place at which it was
  pub record IsMoved (k n : Core D) (place : ℕ) (x q : OpScope) : Type 0 where
    pub within : place < length k.running.items
    pub at : x ≡ get_or k.running.items place x
    pub apart : AllPairs AreApart k.running.items
    pub inside : place < length n.running.items
    pub now : q ≡ get_or n.running.items place q
    pub apart_now : AllPairs AreApart n.running.items
    pub same : SameOp x q
    pub total : x.seen.total ≡ pages k.operations.store.pool
    pub size : pages n.operations.store.pool ≡ pages k.operations.store.pool
    pub standing : n.live.standing ≡ k.live.standing

  steps_moved : (k n : Core D) (place : ℕ) (x q : OpScope) → IsMoved k n place x q → let all = pages k.operations.store.pool in let effects = effects_left all k.live.standing x.txn in
      (undo_steps k x.txn ≡ steps_with all x effects) × (undo_steps n x.txn ≡ steps_with all q effects)
  steps_moved k n place x q m = let all = pages k.operations.store.pool in let effects = effects_left all k.live.standing x.txn in (
    abort_at all effects k.running.items place x m.within m.at m.apart,
    (λ i. abort_steps (m.size i) n.running.items (sym m.same.txn i) (effects_left (m.size i) (m.standing i) x.txn)) ∙ abort_at all effects n.running.items place q m.inside m.now m.apart_now,
  )

  pub inverse_moved : (k n : Core D) (place : ℕ) (x q : OpScope) → IsMoved k n place x q → x.undoes ≢ 0 → let all = pages k.operations.store.pool in let rest = effects_left all k.live.standing x.txn - (2 * all + 10) in
      (undo_steps k x.txn ≡ work_of x + rest) × (undo_steps n x.txn ≡ work_of q + rest)
  inverse_moved k n place x q m back = let all = pages k.operations.store.pool in let effects = effects_left all k.live.standing x.txn in let both = steps_moved k n place x q m in
      (both.0 ∙ back_with all effects x back, both.1 ∙ back_with all effects q (λ is. back (sym m.same.undoes ∙ is)))

  pub forward_moved : (k n : Core D) (place : ℕ) (x q : OpScope) → IsMoved k n place x q → x.undoes ≡ 0 → let effects = effects_left (pages k.operations.store.pool) k.live.standing x.txn in
      (undo_steps k x.txn ≡ x.standing + 1 + effects) × (undo_steps n x.txn ≡ q.standing + 1 + effects)
  forward_moved k n place x q m fore = let all = pages k.operations.store.pool in let effects = effects_left all k.live.standing x.txn in let both = steps_moved k n place x q m in
      (both.0 ∙ fore_with all effects x fore, both.1 ∙ fore_with all effects q (m.same.undoes ∙ fore))

module _ {D : Type 0} (g : Ghosts D) (origin : Origin) (base : Base) where
  -- how many pages there are, by an operation that is under way
  pub total_at : (k : Core D) (place : ℕ) (x : OpScope) → IsConsistent g origin base k → place < length k.running.items → x ≡ get_or k.running.items place x → x.seen.total ≡ pages k.operations.store.pool
  total_at k place x safe within at = ap (λ (r : OpScope). r.seen.total) at ∙ (safe.runs place x within).under.total

  pub moved_of : (k n : Core D) (place : ℕ) (x : OpScope) → IsConsistent g origin base k → IsConsistent g origin base n → place < length k.running.items → x ≡ get_or k.running.items place x
      → length n.running.items ≡ length k.running.items → ((q : OpScope) → q ≡ get_or n.running.items place q → SameOp x q) → n.live ≡ k.live → IsMoved k n place x (get_or n.running.items place x)
  moved_of k n place x safe safe_now within at count same live =
      let inside : place < length n.running.items = omega (arith, within, count) in
      let q : OpScope = get_or n.running.items place x in
      let now : q ≡ get_or n.running.items place q = get_or_default n.running.items place x q inside in
      let total = total_at k place x safe within at in
      record {
        within = within;
        at = at;
        apart = safe.fit.apart;
        inside = inside;
        now = now;
        apart_now = safe_now.fit.apart;
        same = same q now;
        total = total;
        size = sym (total_at n place q safe_now inside now) ∙ (same q now).total ∙ total;
        standing = ap (λ (l : Lives). l.standing) live;
      }

  -- an inverse that has ended leaves one effect fewer
  pub inverted_left : (k n : Core D) (all t : ℕ) (i : Op) (state : Option TxnState) → InvertsIn g origin base (state_of k base) n t i state → effects_left all n.live.standing t + (2 * all + 10) ≡ effects_left all k.live.standing t
  inverted_left k n all t i state h = go state h
    where
      undone_left : UndoesIn g origin base (state_of k base) n t i → effects_left all n.live.standing t + (2 * all + 10) ≡ effects_left all k.live.standing t
      undone_left u = ap (λ es. effects_left all es t + (2 * all + 10)) (sym (ap (λ (s : State). s.standing) u.leads.state)) ∙ cut_left all t k.live.standing u.last u.effect

      go : (x : Option TxnState) → InvertsIn g origin base (state_of k base) n t i x → effects_left all n.live.standing t + (2 * all + 10) ≡ effects_left all k.live.standing t
      go None u = undone_left u
      go (Some Open) u = undone_left u
      go (Some Committing) u = undone_left u
      go (Some Aborting) u = undone_left u
      go (Some (Returning first)) u =
          let e : Entry = record { txn = t; op = i; reply = reply_of base i; role = role.Back } in
          let none : is_effect t e ≡ false = and_left (is_counted t e) (is_some (inverse_of e.op e.reply)) (and_right (t == t) false refl) in
          ap (λ es. effects_left all es t + (2 * all + 10)) (sym (ap (λ (s : State). s.standing) u.leads.state))
          ∙ ap (λ x. x + (2 * all + 10)) (back_left all t (mark_last t k.live.standing) e none) ∙ mark_left all t k.live.standing u.last u.effect

-- what a step of a taking back says of it
pub puts_back : (s t : OpScope) (r : Result TakenBack Refusal) → (r ≡ Ok taken.More → t.standing + 1 ≡ s.standing) → (r ≡ Ok taken.Flush → t ≡ s) → OnErr r (t ≡ s) → LeavesStanding s t r
puts_back s t (Ok taken.More) more flush err = more refl
puts_back s t (Ok taken.Clear) more flush err = tt
puts_back s t (Ok taken.Flush) more flush err = ap (λ (x : OpScope). x.standing) (flush refl)
puts_back s t (Err why) more flush err = ap (λ (x : OpScope). x.standing) err

-- ---- how many there are at most

-- each entry of a transaction that stands is an effect or nothing
few_of : (f : Entry → ℕ) (t w : ℕ) → ((e : Entry) → f e ≤ cond (is_counted t e) w 0) → (es : List Entry) → sum_by f es ≤ length (filter (is_counted t) es) * w
few_of f t w each [] = omega arith
few_of f t w each (x ∷ es) = go (is_counted t x) (each x) (few_of f t w each es)
  where
    go : (c : Bool) → f x ≤ cond c w 0 → sum_by f es ≤ length (filter (is_counted t) es) * w → sum_by f (x ∷ es) ≤ length (cond c (x ∷ filter (is_counted t) es) (filter (is_counted t) es)) * w
    go true here rest = let whole = sum_by-cons f x es in let one = suc-mul (length (filter (is_counted t) es)) w in omega (arith, here, rest, whole, one)
    go false here rest = let whole = sum_by-cons f x es in omega (arith, here, rest, whole)

effect_of : (all t : ℕ) (e : Entry) → effect_steps all t e ≤ cond (is_counted t e) (2 * all + 10) 0
effect_of all t e = go (is_counted t e) (is_some (inverse_of e.op e.reply))
  where
    go : (a b : Bool) → (if a && b then 2 * all + 10 else 0) ≤ cond a (2 * all + 10) 0
    go true true = omega arith
    go true false = omega arith
    go false b = omega arith

-- An operation under way has no more steps left than an effect takes.
module _ (s : OpScope) where
  two_each : (p : ℕ) → steps_for s p ≤ 2
  two_each p = go (is_some (looked s p)) (is_written s.guards.items p)
    where
      go : (a b : Bool) → (if a then (if b then 0 else 1) else 2) ≤ 2
      go true true = omega arith
      go true false = omega arith
      go false b = omega arith

  two_below : (n : ℕ) → sum_below n (steps_for s) ≤ 2 * n
  two_below zero = omega arith
  two_below (suc n) = let rest = two_below n in let one = two_each n in omega (arith, rest, one)

  pub most_left : (relations counters : ℕ) (w : World) → IsUnderWay relations counters w s → IsMoving s.stage → work_of s ≤ 2 * s.seen.total + 10
  most_left relations counters w k moving = elim moving [
    | inl planning ↦ subst (λ (x : Stage). work_at s x ≤ 2 * s.seen.total + 10) (sym planning) (let each = two_below s.seen.total in let one = room_step (is_some s.room) in omega (arith, each, one))
    | inr now ↦ let few = (has_changed relations counters w s k now).plan.few in later few now
  ]
    where
      room_step : (b : Bool) → (if b then 1 else 0) ≤ 1
      room_step true = omega arith
      room_step false = omega arith

      later : length (changes_in s) ≤ 8 → (s.stage ≡ Writing) ⊎ (s.stage ≡ Taking) → work_of s ≤ 2 * s.seen.total + 10
      later few (inl writing) = subst (λ (x : Stage). work_at s x ≤ 2 * s.seen.total + 10) (sym writing) (omega (arith, few))
      later few (inr taking) = subst (λ (x : Stage). work_at s x ≤ 2 * s.seen.total + 10) (sym taking) (omega arith)

-- of each of its operations under way
under_way : (all effects t : ℕ) (rs : List OpScope) → All (λ (r : OpScope). r.txn ≡ t → steps_with all r effects ≤ effects + 9) rs → abort_steps all rs t effects ≤ effects + 9
under_way all effects t [] each = omega arith
under_way all effects t (x ∷ xs) each = go (x.txn == t) refl (under_way all effects t xs (All-tail (λ (r : OpScope). r.txn ≡ t → steps_with all r effects ≤ effects + 9) x xs each))
  where
    go : (c : Bool) → (x.txn == t) ≡ c → abort_steps all xs t effects ≤ effects + 9 → cond c (steps_with all x effects) (abort_steps all xs t effects) ≤ effects + 9
    go true is rest = All-head (λ (r : OpScope). r.txn ≡ t → steps_with all r effects ≤ effects + 9) x xs each (eqb-true x.txn t is)
    go false is rest = rest

most_of : (steps effects n w : ℕ) → steps ≤ effects + 9 → effects ≤ n * w → 10 ≤ w → steps ≤ (n + 1) * w
most_of steps effects n w few within wide = let one = suc-mul n w in let same : (n + 1) * w ≡ suc n * w = ap (λ (m : ℕ). m * w) (omega arith) in omega (arith, few, within, wide, one, same)

module _ {D : Type 0} (g : Ghosts D) (origin : Origin) (base : Base) where
  -- an inverse has what it takes back among the effects
  effects_with : (k : Core D) (t : ℕ) (r : OpScope) → IsRunning origin.relations origin.counters (world g origin.pages k.operations) k.last r → IsOwned k.live.members k.live.standing r → r.txn ≡ t
      → let all = pages k.operations.store.pool in let effects = effects_left all k.live.standing t in r.seen.total ≡ all → steps_with all r effects ≤ effects + 9
  effects_with k t r runs owned own total = ⊎_elim
      (λ (fore : r.undoes ≡ 0). let with = fore_with all effects r fore in let few = few_stand origin.relations origin.counters (world g origin.pages k.operations) r runs.under runs.moving in omega (arith, with, few))
      (λ (back : r.undoes ≡ 0 → ⊥).
      let with = back_with all effects r back in
      let takes = owned.inverse back in
      let cut = cut_left all t k.live.standing takes.entry (subst (λ u. last_effect u k.live.standing ≡ Some takes.entry) own takes.last) in
      let few = most_left r origin.relations origin.counters (world g origin.pages k.operations) runs.under runs.moving in omega (arith, with, cut, few, total))
      (cases_eq r.undoes 0)
    where
      all : ℕ
      all = pages k.operations.store.pool

      effects : ℕ
      effects = effects_left all k.live.standing t

  pub few_steps : (k : Core D) (t : ℕ) → IsConsistent g origin base k → undo_steps k t ≤ most_steps k t
  few_steps k t safe =
      let all = pages k.operations.store.pool in let effects = effects_left all k.live.standing t in
      let each : All (λ (r : OpScope). r.txn ≡ t → steps_with all r effects ≤ effects + 9) k.running.items = λ i d lt own. let r = get_or k.running.items i d in
      effects_with k t r (safe.runs i d lt) (safe.fit.owned i d lt) own (safe.runs i d lt).under.total in
      most_of (undo_steps k t) effects (length (filter (is_counted t) k.live.standing)) (2 * all + 10) (under_way all effects t k.running.items each) (few_of (effect_steps all t) t (2 * all + 10) (effect_of all t) k.live.standing) (omega arith)
