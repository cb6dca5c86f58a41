-- An operation is taken back page by page: what the world, the operation and the others keep.
use Rattle.std.proofs.Common.{◌≡◌, ◌≢◌, ◌⊎◌, inl, inr, ⊎_elim, ℕ, ◌+◌, ◌-◌, ◌<◌, ◌≤◌, false, not, ◌==◌, List, [], ◌∷◌, ◌++◌, Contains, All, length, get_or, take, refl, sym, ap, ◌∙◌, subst, arith, length-append, length-take}
use Rattle.std.specs.Prelude.{IsSome}
use Rattle.std.proofs.lemmas.Bool.{cases_eq, ne_eqb}
use Rattle.std.proofs.lemmas.List.{get_or_at, get_or-take}
use Rattle.std.proofs.lemmas.List.Elements.{All-filter, All-get_or}
use Rattle.mt_base.specs.declared.modes.Mode.TheVariants.{Write}
use Rattle.mt_frame.specs.declared.records.Record.{Record}
use Rattle.mt_frame.specs.declared.records.Record.TheVariants.{OpDropped}
use Rattle.mt_plock.specs.declared.guards.PageLock.{PageLock}
use Rattle.mt_plock.specs.Holding.{lock_of, AreTogether}
use Rattle.mt_plock.specs.Releasing.{locks_of}
use Rattle.mt_space.specs.Changes.{PageBytes, IsUntouched}
use Rattle.mt_space.specs.declared.changes.PageChange.{PageChange}
use Rattle.mt_space.specs.Kinds.{kind}
use Rattle.mt_overlay.specs.Overlays.{copied, or_bytes}
use Rattle.mt_steps.specs.Plans.{IsGood}
use Rattle.mt_steps.specs.Repeated.{Repeated, Change, held, by, on, dropped, changes_of}
use Rattle.mt_steps.proofs.Picking.{by_other, by_gone}
use Rattle.mt_steps.proofs.Ranged.{changes_elsewhere}
use Rattle.mt_steps.proofs.Repeating.{held_dropped, dropped_repeated, dropped_elsewhere}
use Rattle.mt_op.specs.World.{World, repeated_in, held_in, unfinished_in, IsCovered, IsWorld, looked, looked_bytes, changes_in, HasNothing, AreBack, IsPlanning, IsWriting, IsTaking, IsAt, IsUnderWay, IsOther}
use Rattle.mt_op.specs.Moves.{PutsBack, SameOp, SamePlan}
use Rattle.mt_op.specs.declared.scope.OpScope.{OpScope}
use Rattle.mt_op.specs.declared.scope.Stage.TheVariants.{Planning, Writing, Taking, Cleared}
use Rattle.mt_op.proofs.Alone.{own_lock, looked_alone, looked_apart, other_alone}
use Rattle.mt_op.proofs.Staying.{repeated_more, ShowsOf, shows_same, world_of, way_stays, taken_has, sees_held, sees_same, open_more, open_same, plan_same, own_kept}
use Rattle.mt_op.proofs.Writing.{held_as_seen}

-- ---- which pages are written

-- no change is of a page, or one is
touched : (cs : List PageChange) (p : ℕ) → IsUntouched cs p ⊎ ((c : PageChange) × (front : List PageChange) × (back : List PageChange) × (cs ≡ front ++ c ∷ back) × (c.page ≡ p))
touched [] p = inl tt
touched (c ∷ cs) p = elim (cases_eq c.page p) [
  | inl here ↦ inr (c, [], cs, refl, here)
  | inr other ↦ ⊎_elim
      (λ (none : IsUntouched cs p). inl (other, none))
      (λ (some : (d : PageChange) × (front : List PageChange) × (back : List PageChange) × (cs ≡ front ++ d ∷ back) × (d.page ≡ p)). inr (some.0, c ∷ some.1, some.2, ap (λ (ds : List PageChange). c ∷ ds) some.3, some.4))
      (touched cs p)
]

-- the change at a place of those written is the one at that place
placed : (cs : List PageChange) (n i : ℕ) (c d : PageChange) (front back : List PageChange) → take n cs ≡ front ++ c ∷ back → length front ≡ i → d ≡ get_or cs i d → c ≡ d
placed cs n i c d front back is at place =
    let size = ap length is in
    let front_size = length-append front (c ∷ back) in
    let taken = length-take n cs in
    let below : i < n = omega arith in
    sym (get_or_at front c back d i at) ∙ ap (λ (xs : List PageChange). get_or xs i d) (sym is) ∙ get_or-take n cs i d below ∙ sym place

module _ (relations counters : ℕ) where
  -- where no page is put back yet, it is as when some are
  pub as_taking : (w : World) (s : OpScope) → IsUnderWay relations counters w s → (s.stage ≡ Writing) ⊎ (s.stage ≡ Taking) → 0 < s.standing → IsTaking relations counters w s
  as_taking w s k (inl is) one =
      let now : IsWriting relations counters w s = subst (IsAt relations counters w s) is k.at in
      let stands = now.all_stand in
      record {
        sees = now.sees;
        unended = now.unended;
        plan = now.plan;
        done = now.done;
        some = now.some;
        one_stands = one;
        fewer_stand = omega arith;
        back = λ c front back e below. absurd (let size = ap length e in let front_size = length-append front (c ∷ back) in let taken = length-take s.written (changes_in s) in omega arith);
      }
  as_taking w s k (inr is) one = subst (IsAt relations counters w s) is k.at

-- ---- a page is put back

module _ (relations counters : ℕ) (w z : World) (s : OpScope) (c : PageChange) (rs : List Record) (m : PutsBack w z s c rs) (h : IsWorld relations counters w) (k : IsUnderWay relations counters w s)
    (stage : (s.stage ≡ Writing) ⊎ (s.stage ≡ Taking)) (one : 0 < s.standing) (is : c ≡ get_or (changes_in s) (s.standing - 1) c) where
  now : IsTaking relations counters w s
  now = as_taking relations counters w s k stage one

  place : s.standing - 1 < length (changes_in s)
  place = let some = now.some in let fewer = now.fewer_stand in omega arith

  some_there : IsSome (looked s c.page)
  some_there = subst (λ (d : PageChange). IsSome (looked s d.page)) (sym is) (All-get_or (λ (d : PageChange). IsSome (looked s d.page)) (changes_in s) (s.standing - 1) c place now.plan.there)

  cover : Contains w.locks (lock_of s.number c.page Write)
  cover =
      (own_lock s.number w.locks s.guards.items (lock_of s.number c.page Write) k.locks
      (subst (λ (d : PageChange). Contains s.guards.items (lock_of s.number d.page Write)) (sym is) (All-get_or (λ (d : PageChange). Contains s.guards.items (lock_of s.number d.page Write)) (changes_in s) (s.standing - 1) c place now.plan.locked))).0

  as_held : z.present c.page ≡ held_in w c.page
  as_held = m.page ∙ sym (held_as_seen w s c.page now.sees some_there)

  apart : (u : OpScope) (p : ℕ) → IsUnderWay relations counters w u → IsOther s u → IsSome (looked u p) → p ≢ c.page
  apart u p ku other some = looked_apart relations counters w u p s.number c.page h ku some cover other.number

-- it is not the last

module _ (relations counters : ℕ) (w z : World) (s : OpScope) (c : PageChange) (m : PutsBack w z s c []) (h : IsWorld relations counters w) (k : IsUnderWay relations counters w s)
    (stage : (s.stage ≡ Writing) ⊎ (s.stage ≡ Taking)) (more : 1 < s.standing) (is : c ≡ get_or (changes_in s) (s.standing - 1) c) where
  one : 0 < s.standing
  one = omega arith

  same : repeated_in z ≡ repeated_in w
  same = repeated_more w z [] m.area.opening m.records

  was : IsTaking relations counters w s
  was = now relations counters w z s c [] m h k stage one is

  as_held_then : z.present c.page ≡ held_in w c.page
  as_held_then = as_held relations counters w z s c [] m h k stage one is

  pub puts_back_held : held_in z ≡ held_in w
  puts_back_held = ap held same

  pub puts_back : IsWorld relations counters z
  puts_back =
      world_of relations counters w z (repeated_in w) m.area.total same h.repeated shows
      (subst (λ (ls : List PageLock). All (IsCovered ls) (unfinished_in w)) (sym m.locks) h.covered)
      (subst AreTogether (sym m.locks) h.together) h.good
    where
      shows : (p : ℕ) → p < w.total → ShowsOf z (repeated_in w) p
      shows p inside = elim (cases_eq p c.page) [
        | inl here ↦ inr (subst (λ (n : ℕ). z.present n ≡ held_in w n) (sym here) as_held_then)
        | inr other ↦ shows_same w z (repeated_in w) (repeated_in w) p (m.others p inside other) refl refl (h.shows p inside)
      ]

  pub others_put_back : (u : OpScope) → IsUnderWay relations counters w u → IsOther s u → IsUnderWay relations counters z u
  others_put_back u ku other = way_stays relations counters w z u (record {
    total = m.area.total;
    locks = ap (locks_of u.number) m.locks;
    held = λ p some. ap (λ (r : Repeated). held r p) same;
    kinds = λ p some lock. ap (λ (r : Repeated). kind (held r) p) same;
    pages = λ p some. ap (λ (r : Repeated). r.pages p) same;
    present = λ p some. m.others p (ku.inside p some) (apart relations counters w z s c [] m h k stage one is u p ku other some);
    unended = open_more w z u [] m.records refl refl refl refl;
    own = ap (λ (r : Repeated). by u.number r.unfinished) same;
  }) ku

  pub own_puts_back : (t : OpScope) → SamePlan s t → t.stage ≡ Taking → t.written ≡ s.written → t.standing + 1 ≡ s.standing → IsUnderWay relations counters z t
  own_puts_back t plan is_taking written standing = own_kept relations counters w z s t plan.op plan.guards plan.seen m.area.total m.locks k (subst (IsAt relations counters z t) (sym is_taking) (record {
    sees = sees_same z s t plan.op plan.room plan.guards plan.seen (sees_held w z s puts_back_held was.sees);
    unended = open_same z s t plan.op (open_more w z s [] m.records refl refl refl refl was.unended);
    plan = plan_same relations counters s t plan was.plan;
    done = (λ i. by (plan.op.number i) (same i).unfinished) ∙ was.done ∙ sym (λ i. changes_of (plan.op.number i) (take (written i) (plan.changes i)) (λ p. or_bytes (copied (plan.seen i) p) []));
    some = let n = ap length plan.changes in let some = was.some in omega arith;
    one_stands = omega arith;
    fewer_stand = let fewer = was.fewer_stand in omega arith;
    back = back;
  }))
    where
      back : AreBack z t
      back d front rest e below =
          let e_was : take s.written (changes_in s) ≡ front ++ d ∷ rest = sym (λ i. take (written i) (plan.changes i)) ∙ e in
          elim (cases_eq d.page c.page) [
            | inl here ↦ subst (λ (n : ℕ). z.present n ≡ held_in z n) (sym here) (as_held_then ∙ sym (ap (λ (f : PageBytes). f c.page) puts_back_held))
            | inr other ↦
                let past : length front ≢ s.standing - 1 = λ at. other (ap (λ (x : PageChange). x.page) (placed (changes_in s) s.written (s.standing - 1) d c front rest e_was at is)) in
                let still : s.standing ≤ length front = omega arith in
                m.others d.page (k.inside d.page (taken_has (λ (x : PageChange). IsSome (looked s x.page)) (changes_in s) s.written d front rest was.plan.there e_was)) other
                ∙ was.back d front rest e_was still ∙ sym (ap (λ (f : PageBytes). f d.page) puts_back_held)
          ]

-- it is the last

module _ (relations counters : ℕ) (w z : World) (s : OpScope) (c : PageChange) (m : PutsBack w z s c (OpDropped s.txn s.number ∷ [])) (h : IsWorld relations counters w) (k : IsUnderWay relations counters w s)
    (stage : (s.stage ≡ Writing) ⊎ (s.stage ≡ Taking)) (last : s.standing ≡ 1) (is : c ≡ get_or (changes_in s) (s.standing - 1) c) where
  stands : 0 < s.standing
  stands = omega arith

  less : repeated_in z ≡ dropped (repeated_in w) s.number
  less = repeated_more w z (OpDropped s.txn s.number ∷ []) m.area.opening m.records

  before : IsTaking relations counters w s
  before = now relations counters w z s c (OpDropped s.txn s.number ∷ []) m h k stage stands is

  same_held : held (dropped (repeated_in w) s.number) ≡ held_in w
  same_held = held_dropped (repeated_in w) s.number h.repeated

  pub clears_held : held_in z ≡ held_in w
  clears_held = ap held less ∙ same_held

  pub clears : IsWorld relations counters z
  clears =
      world_of relations counters w z (dropped (repeated_in w) s.number) m.area.total less (dropped_repeated (repeated_in w) s.number h.repeated) shows
      (subst (λ (ls : List PageLock). All (IsCovered ls) (dropped (repeated_in w) s.number).unfinished) (sym m.locks) (All-filter (λ (d : Change). not (d.op == s.number)) (IsCovered w.locks) (unfinished_in w) h.covered))
      (subst AreTogether (sym m.locks) h.together)
      (subst (IsGood relations counters w.total) (sym same_held) h.good)
    where
      at : (p : ℕ) → held (dropped (repeated_in w) s.number) p ≡ held_in w p
      at p = ap (λ (f : PageBytes). f p) same_held

      shows : (p : ℕ) → p < w.total → ShowsOf z (dropped (repeated_in w) s.number) p
      shows p inside = elim (cases_eq p c.page) [
        | inl here ↦ inr (subst (λ (n : ℕ). z.present n ≡ held_in w n) (sym here) (as_held relations counters w z s c (OpDropped s.txn s.number ∷ []) m h k stage stands is) ∙ sym (at p))
        | inr other ↦ ⊎_elim
            (λ (none : IsUntouched (take s.written (changes_in s)) p). shows_same w z (repeated_in w) (dropped (repeated_in w) s.number) p (m.others p inside other)
            (dropped_elsewhere (repeated_in w) s.number p (ap (on p) before.done ∙ changes_elsewhere s.number p (take s.written (changes_in s)) (looked_bytes s) none)) (at p) (h.shows p inside))
            (λ (some : (d : PageChange) × (front : List PageChange) × (back : List PageChange) × (take s.written (changes_in s) ≡ front ++ d ∷ back) × (d.page ≡ p)).
            let past : length some.1 ≢ s.standing - 1 = λ place. other (sym some.4 ∙ ap (λ (x : PageChange). x.page) (placed (changes_in s) s.written (s.standing - 1) some.0 c some.1 some.2 some.3 place is)) in
            let still : s.standing ≤ length some.1 = omega arith in
            inr (m.others p inside other ∙ subst (λ (n : ℕ). w.present n ≡ held_in w n) some.4 (before.back some.0 some.1 some.2 some.3 still) ∙ sym (at p)))
            (touched (take s.written (changes_in s)) p)
      ]

  pub others_clear : (u : OpScope) → IsUnderWay relations counters w u → IsOther s u → IsUnderWay relations counters z u
  others_clear u ku other = way_stays relations counters w z u (record {
    total = m.area.total;
    locks = ap (locks_of u.number) m.locks;
    held = λ p some. ap (λ (f : PageBytes). f p) clears_held;
    kinds = λ p some lock. ap (λ (f : PageBytes). kind f p) clears_held;
    pages = λ p some. ap (λ (r : Repeated). r.pages p) less
        ∙ dropped_elsewhere (repeated_in w) s.number p (other_alone u.number s.number p (unfinished_in w) other.number (looked_alone relations counters w u p h ku some));
    present = λ p some. m.others p (ku.inside p some) (apart relations counters w z s c (OpDropped s.txn s.number ∷ []) m h k stage stands is u p ku other some);
    unended = open_more w z u (OpDropped s.txn s.number ∷ []) m.records refl (rw apart_number refl) refl refl;
    own = ap (λ (r : Repeated). by u.number r.unfinished) less ∙ by_other s.number u.number (unfinished_in w) (λ e. other.number (sym e));
  }) ku
    where
      apart_number : (s.number == u.number) ≡ false
      apart_number = ne_eqb s.number u.number (λ e. other.number (sym e))

  pub own_clears : (t : OpScope) → SameOp s t → t.guards.items ≡ s.guards.items → t.seen.list.items ≡ s.seen.list.items → t.stage ≡ Cleared → IsUnderWay relations counters z t
  own_clears t op guards seen cleared =
      own_kept relations counters w z s t op guards seen m.area.total m.locks k
      (subst (IsAt relations counters z t) (sym cleared) ((λ i. by (op.number i) (less i).unfinished) ∙ by_gone s.number (unfinished_in w)))

-- ---- nothing is written yet

module _ (relations counters : ℕ) (w : World) (s : OpScope) (k : IsUnderWay relations counters w s) where
  pub clears_at_once : (s.stage ≡ Planning) ⊎ ((s.stage ≡ Writing) × (s.written ≡ 0)) → HasNothing w s
  clears_at_once (inl planning) = let was : IsPlanning w s = subst (IsAt relations counters w s) planning k.at in was.nothing
  clears_at_once (inr (writing, none)) =
      let was : IsWriting relations counters w s = subst (IsAt relations counters w s) writing k.at in
      was.done ∙ ap (λ (n : ℕ). changes_of s.number (take n (changes_in s)) (looked_bytes s)) none

  pub own_clears_at_once : (t : OpScope) → HasNothing w s → SameOp s t → t.guards.items ≡ s.guards.items → t.seen.list.items ≡ s.seen.list.items → t.stage ≡ Cleared → IsUnderWay relations counters w t
  own_clears_at_once t nothing op guards seen cleared =
      own_kept relations counters w w s t op guards seen refl refl k (subst (IsAt relations counters w t) (sym cleared) (ap (λ (o : ℕ). by o (unfinished_in w)) op.number ∙ nothing))
