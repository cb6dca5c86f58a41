-- An operation has its plan, and writes one page of it: what the world, the operation and the others keep.
use Rattle.std.proofs.Common.{◌≡◌, ◌≢◌, ◌⊎◌, inl, inr, ⊎_elim, ℕ, zero, suc, ◌+◌, ◌<◌, Bool, false, List, [], ◌∷◌, ◌++◌, Contains, All, Option, None, length, get_or, take, refl, sym, ap, ◌∙◌, subst, append-nil, arith}
use Rattle.std.specs.Prelude.{IsSome}
use Rattle.std.proofs.lemmas.Bool.{cases_eq, ne_eqb}
use Rattle.std.proofs.lemmas.List.{take_more}
use Rattle.std.proofs.lemmas.List.Elements.{All-nil, All-cons, All-append, All-get_or}
use Rattle.mt_base.specs.Edits.{patched}
use Rattle.mt_base.specs.declared.edits.Edit.{Edit}
use Rattle.mt_base.specs.declared.modes.Mode.TheVariants.{Write}
use Rattle.mt_frame.specs.declared.records.Record.{Record}
use Rattle.mt_frame.specs.declared.records.Record.TheVariants.{Page}
use Rattle.mt_area_rules.specs.History.{some_record, ends_txn, ends_op, finishes, undoes_op}
use Rattle.mt_plock.specs.declared.guards.PageLock.{PageLock}
use Rattle.mt_plock.specs.Holding.{lock_of, AreTogether}
use Rattle.mt_plock.specs.Releasing.{locks_of}
use Rattle.mt_space.specs.Changes.{PageBytes, IsUntouched, IsShort, AreShort, after}
use Rattle.mt_frame.specs.PageRecords.{change_records}
use Rattle.mt_space.specs.declared.changes.PageChange.{PageChange}
use Rattle.mt_space.specs.Kinds.{kind}
use Rattle.mt_overlay.specs.Overlays.{copied, or_bytes}
use Rattle.mt_steps.specs.Plans.{IsGood, IsPlanned, TakesPages}
use Rattle.mt_steps.specs.Repeated.{Repeated, Change, held, by, but, on, redo, put_back, changed, ranges_of, changes_of}
use Rattle.mt_overlay.specs.declared.overlay.PageCopy.{PageCopy}
use Rattle.mt_overlay.proofs.Overlaid.{some_value, named_at}
use Rattle.mt_space.proofs.Changing.{short_at}
use Rattle.mt_steps.proofs.Picking.{by_append, by_own, by_others, on_absent}
use Rattle.mt_steps.proofs.Ranged.{ranges_by, ranges_elsewhere, changes_elsewhere, records_repeated, ranges_redone, ranges_stay, ranges_restored, changes_snoc, short_within}
use Rattle.mt_steps.proofs.Repeating.{held_alone, held_changed, changed_repeated}
use Rattle.mt_op.specs.World.{World, repeated_in, held_in, unfinished_in, IsCovered, IsWorld, looked, looked_bytes, changes_in, HasPlan, IsOpen, Sees, AreStanding, IsPlanning, IsWriting, IsAt, IsUnderWay, IsOther}
use Rattle.mt_op.specs.Moves.{Writes, SameOp, SamePlan}
use Rattle.mt_op.specs.declared.scope.OpScope.{OpScope}
use Rattle.mt_op.specs.declared.scope.Stage.TheVariants.{Planning, Writing}
use Rattle.mt_op.proofs.Alone.{own_lock, here_alone, looked_alone, looked_apart}
use Rattle.mt_op.proofs.Staying.{repeated_more, ShowsOf, shows_same, world_of, way_stays, sees_held, sees_same, open_more, open_same, plan_same, own_kept}

-- ---- what it looked at

-- a page that it looked at is held as it saw it
pub held_as_seen : (w : World) (s : OpScope) (p : ℕ) → Sees w s → IsSome (looked s p) → held_in w p ≡ looked_bytes s p
held_as_seen w s p k some = let v = some_value (looked s p) some in k.saw p v.0 v.1 ∙ sym (ap (λ (o : Option (List ℕ)). or_bytes o []) v.1)

-- no page is changed twice
untouched_before : (cs : List PageChange) (i : ℕ) (d : PageChange) (pages : PageBytes) → i < length cs → AreShort cs pages → IsUntouched (take i cs) (get_or cs i d).page
untouched_before [] i d pages lt short = absurd (omega arith)
untouched_before (c ∷ cs) zero d pages lt short = tt
untouched_before (c ∷ cs) (suc i) d pages lt short =
    ((λ e. named_at cs i d (omega arith) (subst (IsUntouched cs) e short.1)), untouched_before cs i d pages (omega arith) short.2)

-- ---- its records

-- a record of a page ends nothing
pages_none : (is : Record → Bool) → ((txn op page : ℕ) (image : Option (List ℕ)) (start : ℕ) (old new : List ℕ) → is (Page txn op page image start old new) ≡ false)
    → (txn op page : ℕ) (image : Option (List ℕ)) (old new : List ℕ) (es : List Edit) → some_record is (change_records txn op page image old new es) ≡ false
pages_none is none txn op page image old new [] = refl
pages_none is none txn op page image old new (e ∷ es) = rw (none, pages_none is none txn op page None old new es) refl

-- its changes are of a page that it has locked to write
covers_ranges : (locks : List PageLock) (o p : ℕ) (old new : List ℕ) (es : List Edit) → Contains locks (lock_of o p Write) → All (IsCovered locks) (ranges_of o p old new es)
covers_ranges locks o p old new [] cover = All-nil (IsCovered locks)
covers_ranges locks o p old new (e ∷ es) cover = All-cons (IsCovered locks) _ (ranges_of o p old new es) cover (covers_ranges locks o p old new es cover)

-- ---- the next page

-- it shows what its records make of it, which the operation has seen and locked to write
pub record IsNext (w : World) (s : OpScope) (c : PageChange) : Type 0 where
  pub some : IsSome (looked s c.page)
  pub inside : c.page < w.total
  pub cover : Contains w.locks (lock_of s.number c.page Write)
  pub stands : w.present c.page ≡ (repeated_in w).pages c.page
  pub shown : w.present c.page ≡ looked_bytes s c.page
  pub short : IsShort (w.present c.page) c

module _ (relations counters : ℕ) where
  -- the pages held have what it planned on
  pub planned_held : (w : World) (s : OpScope) (plan : HasPlan relations counters s) → IsWorld relations counters w → IsUnderWay relations counters w s → Sees w s
      → IsPlanned relations counters w.total (looked s) (held_in w) (changes_in s) s.op s.split plan.reply
  planned_held w s plan h k sees =
      subst (λ (n : ℕ). IsPlanned relations counters n (looked s) (held_in w) (changes_in s) s.op s.split plan.reply) k.total
      (plan.planned (held_in w) sees.saw (subst (λ (n : ℕ). IsGood relations counters n (held_in w)) (sym k.total) h.good) (λ p is. (sees.named p is).2))

  pub takes_held : (w : World) (s : OpScope) (plan : HasPlan relations counters s) → IsWorld relations counters w → IsUnderWay relations counters w s → Sees w s → TakesPages s.room s.op (held_in w) (after (changes_in s) (held_in w))
  takes_held w s plan h k sees = plan.takes (held_in w) sees.saw (subst (λ (n : ℕ). IsGood relations counters n (held_in w)) (sym k.total) h.good) (λ p is. (sees.named p is).2)

  pub next_of : (w : World) (s : OpScope) (c : PageChange) → IsWorld relations counters w → IsUnderWay relations counters w s → s.stage ≡ Writing → s.written < length (changes_in s) → c ≡ get_or (changes_in s) s.written c → IsNext w s c
  next_of w s c h k stage lt is = record {
    some = some;
    inside = k.inside c.page some;
    cover = (own_lock s.number w.locks s.guards.items (lock_of s.number c.page Write) k.locks
        (subst (λ (d : PageChange). Contains s.guards.items (lock_of s.number d.page Write)) (sym is) (All-get_or (λ (d : PageChange). Contains s.guards.items (lock_of s.number d.page Write)) cs s.written c lt now.plan.locked))).0;
    stands = now.stand c.page some;
    shown = as_held ∙ held_as_seen w s c.page now.sees some;
    short = subst (λ (bytes : List ℕ). IsShort bytes c) (sym as_held) (subst (λ (d : PageChange). IsShort (held_in w d.page) d) (sym is) (short_at cs s.written c (held_in w) lt planned.short));
  }
    where
      cs : List PageChange
      cs = changes_in s

      now : IsWriting relations counters w s
      now = subst (IsAt relations counters w s) stage k.at

      planned : IsPlanned relations counters w.total (looked s) (held_in w) (changes_in s) s.op s.split now.plan.reply
      planned = planned_held w s now.plan h k now.sees

      some : IsSome (looked s c.page)
      some = subst (λ (d : PageChange). IsSome (looked s d.page)) (sym is) (All-get_or (λ (d : PageChange). IsSome (looked s d.page)) cs s.written c lt now.plan.there)

      unwritten : IsUntouched (take s.written cs) c.page
      unwritten = subst (λ (d : PageChange). IsUntouched (take s.written cs) d.page) (sym is) (untouched_before cs s.written c (held_in w) lt planned.short)

      none : on c.page (unfinished_in w) ≡ []
      none =
          sym (on_absent c.page s.number (unfinished_in w) (ap (on c.page) now.done ∙ changes_elsewhere s.number c.page (take s.written cs) (looked_bytes s) unwritten))
          ∙ looked_alone relations counters w s c.page h k some

      as_held : w.present c.page ≡ held_in w c.page
      as_held = now.stand c.page some ∙ sym (held_alone (repeated_in w) c.page none)

  -- the page shows what was seen, and its change is as a log wants it
  pub next_is_short : (w : World) (s : OpScope) (c : PageChange) → IsWorld relations counters w → IsUnderWay relations counters w s → s.stage ≡ Writing → s.written < length (changes_in s) → c ≡ get_or (changes_in s) s.written c
      → IsShort (w.present c.page) c × (w.present c.page ≡ looked_bytes s c.page) × (c.page < w.total)
  next_is_short w s c h k stage lt is = let n = next_of w s c h k stage lt is in (n.short, n.shown, n.inside)

-- ---- it is written

module _ (relations counters : ℕ) (w z : World) (s : OpScope) (c : PageChange) (m : Writes w z s c) (h : IsWorld relations counters w) (k : IsUnderWay relations counters w s) (stage : s.stage ≡ Writing) (lt : s.written < length (changes_in s)) (is : c ≡ get_or (changes_in s) s.written c) where
  next : IsNext w s c
  next = next_of relations counters w s c h k stage lt is

  abbrev old : List ℕ
  old = w.present c.page

  abbrev ranges : List Change
  ranges = ranges_of s.number c.page old (patched c.edits.items old) c.edits.items

  more : repeated_in z ≡ changed (repeated_in w) ranges
  more =
      repeated_more w z (change_records s.txn s.number c.page m.image old (patched c.edits.items old) c.edits.items) m.area.opening m.records
      ∙ records_repeated s.txn s.number c.page old (patched c.edits.items old) m.image c.edits.items (repeated_in w) (ne_eqb s.txn 0 (λ e. let some = k.txn.0 in omega arith))

  back : put_back ranges (redo ranges (repeated_in w).pages) ≡ (repeated_in w).pages
  back = ranges_restored s.number c.page old c.edits.items (repeated_in w).pages (short_within old c next.short) (sym next.stands)

  written_here : z.present c.page ≡ redo ranges (repeated_in w).pages c.page
  written_here = m.page ∙ sym (ranges_redone s.number c.page old c.edits.items (repeated_in w).pages (short_within old c next.short) (sym next.stands))

  elsewhere : (p : ℕ) → p ≢ c.page → redo ranges (repeated_in w).pages p ≡ (repeated_in w).pages p
  elsewhere p ne = ranges_stay s.number c.page p old (patched c.edits.items old) c.edits.items (repeated_in w).pages ne

  pub writes_held : held_in z ≡ held_in w
  writes_held = ap held more ∙ held_changed (repeated_in w) ranges back

  pub world_writes : IsWorld relations counters z
  world_writes =
      world_of relations counters w z (changed (repeated_in w) ranges) m.area.total more
      (changed_repeated (repeated_in w) s.number ranges h.repeated (ranges_by s.number c.page old (patched c.edits.items old) c.edits.items) free back)
      shows
      (subst (λ (ls : List PageLock). All (IsCovered ls) (unfinished_in w ++ ranges)) (sym m.locks)
      (All-append (IsCovered w.locks) (unfinished_in w) ranges h.covered (covers_ranges w.locks s.number c.page old (patched c.edits.items old) c.edits.items next.cover)))
      (subst AreTogether (sym m.locks) h.together)
      (subst (IsGood relations counters w.total) (sym (held_changed (repeated_in w) ranges back)) h.good)
    where
      free : (p : ℕ) → (on p ranges ≡ []) ⊎ (on p (but s.number (unfinished_in w)) ≡ [])
      free p = elim (cases_eq p c.page) [
        | inl here ↦ inr (subst (λ (n : ℕ). on n (but s.number (unfinished_in w)) ≡ []) (sym here) (looked_alone relations counters w s c.page h k next.some))
        | inr other ↦ inl (ranges_elsewhere s.number c.page p old (patched c.edits.items old) c.edits.items other)
      ]

      shows : (p : ℕ) → p < w.total → ShowsOf z (changed (repeated_in w) ranges) p
      shows p inside = elim (cases_eq p c.page) [
        | inl here ↦ inl (subst (λ (n : ℕ). z.present n ≡ redo ranges (repeated_in w).pages n) (sym here) written_here)
        | inr other ↦ shows_same w z (repeated_in w) (changed (repeated_in w) ranges) p (m.others p inside other) (elsewhere p other) (ap (λ (f : PageBytes). f p) (held_changed (repeated_in w) ranges back)) (h.shows p inside)
      ]

  open_written : (u : OpScope) → IsOpen w u → IsOpen z u
  open_written u = open_more w z u (change_records s.txn s.number c.page m.image old (patched c.edits.items old) c.edits.items) m.records
      (pages_none (ends_txn u.txn) (λ t o p i a x y. refl) s.txn s.number c.page m.image old (patched c.edits.items old) c.edits.items)
      (pages_none (ends_op u.number) (λ t o p i a x y. refl) s.txn s.number c.page m.image old (patched c.edits.items old) c.edits.items)
      (pages_none (finishes u.txn u.undoes) (λ t o p i a x y. refl) s.txn s.number c.page m.image old (patched c.edits.items old) c.edits.items)
      (pages_none (undoes_op u.txn u.undoes) (λ t o p i a x y. refl) s.txn s.number c.page m.image old (patched c.edits.items old) c.edits.items)

  pub others_write : (u : OpScope) → IsUnderWay relations counters w u → IsOther s u → IsUnderWay relations counters z u
  others_write u ku other = way_stays relations counters w z u (record {
    total = m.area.total;
    locks = ap (locks_of u.number) m.locks;
    held = λ p some. ap (λ (f : PageBytes). f p) writes_held;
    kinds = λ p some lock. ap (λ (f : PageBytes). kind f p) writes_held;
    pages = λ p some. ap (λ (r : Repeated). r.pages p) more ∙ elsewhere p (apart p some);
    present = λ p some. m.others p (ku.inside p some) (apart p some);
    unended = open_written u;
    own = ap (λ (r : Repeated). by u.number r.unfinished) more ∙ by_append u.number (unfinished_in w) ranges
        ∙ ap (λ (cs : List Change). by u.number (unfinished_in w) ++ cs) (by_others s.number u.number ranges other.number (ranges_by s.number c.page old (patched c.edits.items old) c.edits.items))
        ∙ append-nil (by u.number (unfinished_in w));
  }) ku
    where
      apart : (p : ℕ) → IsSome (looked u p) → p ≢ c.page
      apart p some = looked_apart relations counters w u p s.number c.page h ku some next.cover other.number

  pub own_writes : (t : OpScope) → SamePlan s t → t.stage ≡ Writing → t.written ≡ s.written + 1 → t.standing ≡ s.standing + 1 → IsUnderWay relations counters z t
  own_writes t same is_writing written standing = own_kept relations counters w z s t same.op same.guards same.seen m.area.total m.locks k (subst (IsAt relations counters z t) (sym is_writing) (record {
    sees = sees_same z s t same.op same.room same.guards same.seen (sees_held w z s writes_held now.sees);
    unended = open_same z s t same.op (open_written s now.unended);
    plan = plan_same relations counters s t same now.plan;
    done = (λ i. by (same.op.number i) (more i).unfinished) ∙ by_append s.number (unfinished_in w) ranges
        ∙ ap (λ (xs : List Change). xs ++ by s.number ranges) now.done
        ∙ ap (λ (xs : List Change). so_far ++ xs) (by_own s.number ranges (ranges_by s.number c.page old (patched c.edits.items old) c.edits.items))
        ∙ ap (λ (bytes : List ℕ). so_far ++ ranges_of s.number c.page bytes (patched c.edits.items bytes) c.edits.items) next.shown
        ∙ sym (changes_snoc s.number (take s.written (changes_in s)) c (looked_bytes s))
        ∙ ap (λ (cs : List PageChange). changes_of s.number cs (looked_bytes s)) (ap (λ (d : PageChange). take s.written (changes_in s) ++ d ∷ []) is ∙ sym (take_more (changes_in s) s.written c lt))
        ∙ sym (λ i. changes_of (same.op.number i) (take (written i) (same.changes i)) (λ p. or_bytes (copied (same.seen i) p) []));
    some = let n = ap length same.changes in omega arith;
    all_stand = let n = now.all_stand in omega arith;
    stand = stand;
  }))
    where
      now : IsWriting relations counters w s
      now = subst (IsAt relations counters w s) stage k.at

      so_far : List Change
      so_far = changes_of s.number (take s.written (changes_in s)) (looked_bytes s)

      stand : AreStanding z t
      stand p some = elim (cases_eq p c.page) [
        | inl here ↦ subst (λ (n : ℕ). z.present n ≡ (repeated_in z).pages n) (sym here) (written_here ∙ sym (ap (λ (r : Repeated). r.pages c.page) more))
        | inr other ↦
            let there = subst (λ (cs : List PageCopy). IsSome (copied cs p)) same.seen some in
            m.others p (k.inside p there) other ∙ now.stand p there ∙ sym (elsewhere p other) ∙ sym (ap (λ (r : Repeated). r.pages p) more)
      ]

-- ---- it has its plan

pub plans : (relations counters : ℕ) (w : World) (s t : OpScope) → IsWorld relations counters w → IsUnderWay relations counters w s → s.stage ≡ Planning → SameOp s t → t.guards.items ≡ s.guards.items → t.seen.list.items ≡ s.seen.list.items
    → t.room ≡ s.room → HasPlan relations counters t → t.stage ≡ Writing → t.written ≡ 0 → t.standing ≡ 0 → IsUnderWay relations counters w t
plans relations counters w s t h k planning op guards seen room plan is_writing written standing =
    own_kept relations counters w w s t op guards seen refl refl k (subst (IsAt relations counters w t) (sym is_writing) (record {
      sees = sees_same w s t op room guards seen was.sees;
      unended = open_same w s t op was.unended;
      plan = plan;
      done = ap (λ (o : ℕ). by o (unfinished_in w)) op.number ∙ was.nothing ∙ sym (ap (λ (n : ℕ). changes_of t.number (take n (changes_in t)) (looked_bytes t)) written);
      some = omega arith;
      all_stand = standing ∙ sym written;
      stand = λ p some. stand p (subst (λ (cs : List PageCopy). IsSome (copied cs p)) seen some);
    }))
  where
    was : IsPlanning w s
    was = subst (IsAt relations counters w s) planning k.at

    stand : AreStanding w s
    stand p some =
        let none = here_alone s.number p (unfinished_in w) (looked_alone relations counters w s p h k some) was.nothing in
        ⊎_elim (λ (e : w.present p ≡ (repeated_in w).pages p). e) (λ (e : w.present p ≡ held_in w p). e ∙ held_alone (repeated_in w) p none) (h.shows p (k.inside p some))
