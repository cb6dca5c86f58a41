-- An operation ends, as one act on the pages held: what the world, the operation and the others keep.
use Rattle.std.proofs.Common.{◌≡◌, ◌≢◌, ◌⊎◌, inl, inr, ⊎_elim, ℕ, ◌<◌, false, not, ◌==◌, List, [], ◌∷◌, Contains, All, Option, None, Some, length, take, refl, sym, ap, ◌∙◌, subst, arith}
use Rattle.std.specs.Prelude.{IsSome}
use Rattle.std.proofs.lemmas.Bool.{ne_eqb}
use Rattle.std.proofs.lemmas.List.{take_all}
use Rattle.std.proofs.lemmas.List.Elements.{All-head, All-tail, All-weaker, All-filter, recursion_from_All}
use Rattle.mt_base.specs.declared.modes.Mode.TheVariants.{Write}
use Rattle.mt_frame.specs.declared.records.Record.TheVariants.{OpEnd}
use Rattle.mt_frame.specs.declared.records.LoggedOp.{LoggedOp}
use Rattle.mt_model.specs.declared.operations.Reply.{Reply}
use Rattle.mt_plock.specs.declared.guards.PageLock.{PageLock}
use Rattle.mt_plock.specs.Holding.{lock_of, AreTogether}
use Rattle.mt_plock.specs.Releasing.{locks_of}
use Rattle.mt_space.specs.Changes.{PageBytes, after, IsUntouched}
use Rattle.mt_space.specs.declared.changes.PageChange.{PageChange}
use Rattle.mt_space.proofs.Changing.{after_untouched}
use Rattle.mt_space.specs.Kinds.{kind}
use Rattle.mt_steps.specs.Plans.{IsGood, IsPlanned}
use Rattle.mt_steps.specs.Repeated.{Repeated, Change, held, by, redo, finished, changes_of}
use Rattle.mt_steps.proofs.Picking.{by_other, by_gone}
use Rattle.mt_steps.proofs.Ranged.{changes_same, changes_redone}
use Rattle.mt_steps.proofs.Repeating.{held_finished, finished_repeated}
use Rattle.mt_op.specs.World.{World, repeated_in, held_in, unfinished_in, IsCovered, IsWorld, looked, looked_bytes, changes_in, HasNothing, IsWriting, IsAt, IsUnderWay, IsOther}
use Rattle.mt_op.specs.Moves.{Notes, SameOp}
use Rattle.mt_op.specs.declared.scope.OpScope.{OpScope}
use Rattle.mt_op.specs.declared.scope.Stage.TheVariants.{Writing, Ready}
use Rattle.mt_op.proofs.Alone.{own_lock, looked_apart}
use Rattle.mt_op.proofs.Staying.{repeated_more, ShowsOf, shows_same, world_of, way_stays, open_more, own_kept}
use Rattle.mt_op.proofs.Writing.{held_as_seen, planned_held}

-- ---- pages that do not change

untouched_by : (cs : List PageChange) (p : ℕ) → All (λ (c : PageChange). c.page ≢ p) cs → IsUntouched cs p
untouched_by [] p all = tt
untouched_by (c ∷ cs) p all = (All-head (λ (d : PageChange). d.page ≢ p) c cs all, untouched_by cs p (All-tail (λ (d : PageChange). d.page ≢ p) c cs all))

seen_or_not : (o : Option (List ℕ)) → IsSome o ⊎ (o ≡ None)
seen_or_not None = inr refl
seen_or_not (Some b) = inl refl

both_ways : (o : Option (List ℕ)) → IsSome o → o ≡ None → ⊥
both_ways None some none = cc
both_ways (Some b) some none = cc

-- what the act comes to is what was replied
reply_is : (r : Option Reply) (a b : Reply) → r ≡ Some a → r ≡ Some b → a ≡ b
reply_is r a b is was = cc

-- ---- it ends

module _ (relations counters : ℕ) (w z : World) (s : OpScope) (done : LoggedOp) (m : Notes w z (OpEnd s.txn s.number s.undoes done)) (h : IsWorld relations counters w) (k : IsUnderWay relations counters w s) (stage : s.stage ≡ Writing)
    (all : s.written ≡ length (changes_in s)) where
  now : IsWriting relations counters w s
  now = subst (IsAt relations counters w s) stage k.at

  planned : IsPlanned relations counters w.total (looked s) (held_in w) (changes_in s) s.op s.split now.plan.reply
  planned = planned_held relations counters w s now.plan h k now.sees

  more : repeated_in z ≡ finished (repeated_in w) s.number
  more = repeated_more w z (OpEnd s.txn s.number s.undoes done ∷ []) m.area.opening m.records

  all_done : by s.number (unfinished_in w) ≡ changes_of s.number (changes_in s) (held_in w)
  all_done =
      now.done ∙ ap (λ (cs : List PageChange). changes_of s.number cs (looked_bytes s)) (take_all s.written (changes_in s) (omega arith))
      ∙ changes_same s.number (changes_in s) (looked_bytes s) (held_in w)
      (recursion_from_All (λ (c : PageChange). looked_bytes s c.page ≡ held_in w c.page) (changes_in s)
      (All-weaker (λ (c : PageChange). IsSome (looked s c.page)) (λ (c : PageChange). looked_bytes s c.page ≡ held_in w c.page) (λ c some. sym (held_as_seen w s c.page now.sees some)) (changes_in s) now.plan.there))

  -- the pages held take its changes
  pub ends_held : held_in z ≡ after (changes_in s) (held_in w)
  ends_held =
      ap held more ∙ held_finished (repeated_in w) s.number h.repeated ∙ ap (λ (cs : List Change). redo cs (held_in w)) all_done
      ∙ changes_redone s.number (changes_in s) (held_in w) planned.short

  stays : (p : ℕ) → IsUntouched (changes_in s) p → held_in z p ≡ held_in w p
  stays p none = ap (λ (f : PageBytes). f p) ends_held ∙ after_untouched (changes_in s) (held_in w) p none

  pub world_ends : IsWorld relations counters z
  world_ends =
      world_of relations counters w z (finished (repeated_in w) s.number) m.area.total more (finished_repeated (repeated_in w) s.number h.repeated) shows
      (subst (λ (ls : List PageLock). All (IsCovered ls) (finished (repeated_in w) s.number).unfinished) (sym m.locks) (All-filter (λ (c : Change). not (c.op == s.number)) (IsCovered w.locks) (unfinished_in w) h.covered))
      (subst AreTogether (sym m.locks) h.together)
      (subst (IsGood relations counters w.total) (sym ends_held ∙ ap held more) planned.good)
    where
      shows : (p : ℕ) → p < w.total → ShowsOf z (finished (repeated_in w) s.number) p
      shows p inside = ⊎_elim
          (λ (some : IsSome (looked s p)). inl (m.pages p inside ∙ now.stand p some))
          (λ (none : looked s p ≡ None). shows_same w z (repeated_in w) (finished (repeated_in w) s.number) p (m.pages p inside) refl
          (sym (ap (λ (r : Repeated). held r p) more) ∙ stays p (untouched_by (changes_in s) p
          (All-weaker (λ (c : PageChange). IsSome (looked s c.page)) (λ (c : PageChange). c.page ≢ p) (λ c some is. both_ways (looked s p) (subst (λ (q : ℕ). IsSome (looked s q)) is some) none) (changes_in s) now.plan.there)))
          (h.shows p inside))
          (seen_or_not (looked s p))

  pub ends : (reply : Reply) → s.reply ≡ Some reply
      → IsWorld relations counters z × (held_in z ≡ after (changes_in s) (held_in w)) × IsPlanned relations counters w.total (looked s) (held_in w) (changes_in s) s.op s.split reply
  ends reply is =
      (world_ends, ends_held, subst (IsPlanned relations counters w.total (looked s) (held_in w) (changes_in s) s.op s.split) (reply_is s.reply now.plan.reply reply now.plan.replies is) planned)

  pub others_end : (u : OpScope) → IsUnderWay relations counters w u → IsOther s u → IsUnderWay relations counters z u
  others_end u ku other = way_stays relations counters w z u (record {
    total = m.area.total;
    locks = ap (locks_of u.number) m.locks;
    held = λ p some. stays p (untouched_by (changes_in s) p
        (All-weaker (λ (c : PageChange). Contains s.guards.items (lock_of s.number c.page Write)) (λ (c : PageChange). c.page ≢ p)
        (λ c own is. looked_apart relations counters w u p s.number c.page h ku some (own_lock s.number w.locks s.guards.items (lock_of s.number c.page Write) k.locks own).0 other.number (sym is)) (changes_in s) now.plan.locked));
    kinds = λ p some own. ap (λ (f : PageBytes). kind f p) ends_held ∙ planned.kinds p (⊎_elim
        (λ (seen : IsSome (looked s p)). absurd (looked_apart relations counters w s p u.number p h k seen (own_lock u.number w.locks u.guards.items (lock_of u.number p Write) ku.locks own).0 (λ e. other.number (sym e)) refl))
        (λ (none : looked s p ≡ None). none)
        (seen_or_not (looked s p)));
    pages = λ p some. ap (λ (r : Repeated). r.pages p) more;
    present = λ p some. m.pages p (ku.inside p some);
    unended = open_more w z u (OpEnd s.txn s.number s.undoes done ∷ []) m.records refl (rw apart_number refl) (rw apart refl) (rw apart refl);
    own = ap (λ (r : Repeated). by u.number r.unfinished) more ∙ by_other s.number u.number (unfinished_in w) (λ e. other.number (sym e));
  }) ku
    where
      apart : (s.txn == u.txn) ≡ false
      apart = ne_eqb s.txn u.txn (λ e. other.txn (sym e))

      apart_number : (s.number == u.number) ≡ false
      apart_number = ne_eqb s.number u.number (λ e. other.number (sym e))

  pub own_ends : (t : OpScope) → SameOp s t → t.guards.items ≡ s.guards.items → t.seen.list.items ≡ s.seen.list.items → t.stage ≡ Ready → IsUnderWay relations counters z t
  own_ends t op guards seen ready =
      own_kept relations counters w z s t op guards seen m.area.total m.locks k
      (subst (IsAt relations counters z t) (sym ready) ((λ i. by (op.number i) (more i).unfinished) ∙ by_gone s.number (unfinished_in w)))

-- ---- it changes nothing, and ends without a record

module _ (relations counters : ℕ) (w : World) (s : OpScope) (h : IsWorld relations counters w) (k : IsUnderWay relations counters w s) (stage : s.stage ≡ Writing) (none : changes_in s ≡ []) where
  writing : IsWriting relations counters w s
  writing = subst (IsAt relations counters w s) stage k.at

  has_nothing : HasNothing w s
  has_nothing =
      let some = writing.some in
      let count = ap length none in
      let unwritten : s.written ≡ 0 = omega arith in
      writing.done ∙ ap (λ (n : ℕ). changes_of s.number (take n (changes_in s)) (looked_bytes s)) unwritten

  pub ends_quietly : (reply : Reply) → s.reply ≡ Some reply → HasNothing w s × IsPlanned relations counters w.total (looked s) (held_in w) [] s.op s.split reply
  ends_quietly reply is = (
    has_nothing,
    subst (λ (cs : List PageChange). IsPlanned relations counters w.total (looked s) (held_in w) cs s.op s.split reply) none
        (subst (IsPlanned relations counters w.total (looked s) (held_in w) (changes_in s) s.op s.split) (reply_is s.reply writing.plan.reply reply writing.plan.replies is)
        (planned_held relations counters w s writing.plan h k writing.sees)),
  )

  pub own_ends_quietly : (t : OpScope) → SameOp s t → t.guards.items ≡ s.guards.items → t.seen.list.items ≡ s.seen.list.items → t.stage ≡ Ready → IsUnderWay relations counters w t
  own_ends_quietly t op guards seen ready =
      own_kept relations counters w w s t op guards seen refl refl k
      (subst (IsAt relations counters w t) (sym ready) (ap (λ (o : ℕ). by o (unfinished_in w)) op.number ∙ has_nothing))
