-- An operation whose plan is made, and the answers on the way there.
use Rattle.std.proofs.Common.{◌≡◌, ◌≤◌, ⊎_elim, ℕ, List, [], ◌++◌, length, refl, sym, subst, ◌∙◌, ap, Option, Some, None}
use Rattle.std.specs.Prelude.{All, Contains, IsSome, Result, Ok, Err}
use Rattle.mt_base.specs.declared.modes.Mode.TheVariants.{Write}
use Rattle.mt_base.specs.declared.refusal.Refusal.{Refusal}
use Rattle.mt_model.specs.declared.operations.Op.{Op}
use Rattle.mt_model.specs.declared.operations.Reply.{Reply}
use Rattle.mt_model.specs.Model.{reply_of, base_after}
use Rattle.mt_plock.specs.Holding.{lock_of}
use Rattle.mt_space.specs.Changes.{PageBytes, IsUntouched, after}
use Rattle.mt_space.specs.declared.changes.Changes.{Changes}
use Rattle.mt_space.specs.declared.changes.PageChange.{PageChange}
use Rattle.mt_overlay.specs.Overlays.{AreAtHand}
use Rattle.mt_steps.specs.Held.{Holds}
use Rattle.mt_steps.specs.Logged.{logged_of}
use Rattle.mt_steps.specs.Plans.{InPages, IsPlanned, TakesPages}
use Rattle.mt_op.specs.World.{World, held_in, looked, IsWorld, IsUnderWay, IsOther}
use Rattle.mt_op.specs.Moves.{SameOp}
use Rattle.mt_op.specs.Operations.{Goes, Acts, GoesOn, Steps, IsPlannedOn}
use Rattle.mt_op.specs.Records.{end_with}
use Rattle.mt_op.specs.declared.answers.Stepped.{Stepped}
use Rattle.mt_op.specs.declared.answers.Stepped.TheVariants as stepped
use Rattle.mt_op.specs.declared.scope.OpScope.{OpScope}
use Rattle.mt_op.specs.declared.scope.Stage.TheVariants.{Planning, Writing}
use Rattle.mt_op.proofs.Going.{planning_of}
use Rattle.mt_op.proofs.Planned.{some_or_none, not_at_hand}
use Rattle.mt_op.proofs.Writing.{plans}

-- a page that changes has been looked at
pub touched_seen : (at_hand : ℕ → Option (List ℕ)) (cs : List PageChange) (p : ℕ) → AreAtHand at_hand cs → (IsUntouched cs p → ⊥) → IsSome (at_hand p)
touched_seen at_hand cs p there touched = ⊎_elim (λ some. some) (λ none. absurd (touched (not_at_hand at_hand cs p there none))) (some_or_none (at_hand p))

then_same : (s t u : OpScope) → SameOp s t → SameOp t u → SameOp s u
then_same s t u f g = record { txn = g.txn ∙ f.txn; number = g.number ∙ f.number; op = g.op ∙ f.op; undoes = g.undoes ∙ f.undoes; split = g.split ∙ f.split; total = g.total ∙ f.total }

same_other : (s t v : OpScope) → SameOp s t → IsOther s v → IsOther t v
same_other s t v op other = record { number = λ e. other.number (e ∙ op.number); txn = λ e. other.txn (e ∙ op.txn) }

module _ (relations counters : ℕ) where
  pub err_planned : (w z : World) (s t : OpScope) (r : Result (Option Stepped) Refusal) (why : Refusal) → r ≡ Err why → Goes relations counters w z s t → IsPlannedOn relations counters w z s t r
  err_planned w z s t r why is g = subst (IsPlannedOn relations counters w z s t) (sym is) g

  -- the plan is kept
  pub keeps_plan : (w : World) (s : OpScope) (changes : Changes) (reply : Reply) → IsWorld relations counters w → IsUnderWay relations counters w s → s.stage ≡ Planning
      → AreAtHand (looked s) changes.list.items → length changes.list.items ≤ 8 → (logged_of s.op reply ≡ None → changes.list.items ≡ [])
      → All (λ (c : PageChange). Contains s.guards.items (lock_of s.number c.page Write)) changes.list.items
      → InPages (looked s) s.room relations counters s.seen.total (λ pages. IsPlanned relations counters s.seen.total (looked s) pages changes.list.items s.op s.split reply)
      → InPages (looked s) s.room relations counters s.seen.total (λ pages. TakesPages s.room s.op pages (after changes.list.items pages))
      → Goes relations counters w w s (record s { changes = changes; reply = Some reply; stage = Writing })
  keeps_plan w s changes reply h k planning there few quiet locked planned takes =
      let t : OpScope = record s { changes = changes; reply = Some reply; stage = Writing } in
      let at = planning_of relations counters w s planning k in
      let op : SameOp s t = record { txn = refl; number = refl; op = refl; undoes = refl; split = refl; total = refl } in
      record {
        own = plans relations counters w s t h k planning op refl refl refl
            (record { reply = reply; replies = refl; planned = planned; takes = takes; there = there; quiet = quiet; few = few; locked = locked }) refl at.none_written at.none_standing;
        others = λ u ku other. ku;
        held = refl;
        same = op;
      }

  -- one step behind another
  goes_then : (w m z : World) (s t u : OpScope) → Goes relations counters w m s t → Goes relations counters m z t u → Goes relations counters w z s u
  goes_then w m z s t u f g = record {
    own = g.own;
    others = λ v kv other. g.others v (f.others v kv other) (same_other s t v f.same other);
    held = g.held ∙ f.held;
    same = then_same s t u f.same g.same;
  }

  acts_then : (w m z : World) (s t u : OpScope) (reply : Reply) → m.records ≡ w.records → t.room ≡ s.room → Goes relations counters w m s t → Acts relations counters m z t u reply → Acts relations counters w z s u reply
  acts_then w m z s t u reply records room f g = record {
    own = g.own;
    others = λ v kv other. g.others v (f.others v kv other) (same_other s t v f.same other);
    takes = subst (λ (X : Type 0). X) (λ i. TakesPages (room i) (f.same.op i) (f.held i) (held_in z)) g.takes;
    small = g.small;
    replies = λ b holds. ap (reply_of b) (sym f.same.op) ∙ g.replies b (subst (λ (h : PageBytes). Holds h b) (sym f.held) holds);
    base = λ b holds. subst (λ (o : Op). Holds (held_in z) (base_after b o)) f.same.op (g.base b (subst (λ (h : PageBytes). Holds h b) (sym f.held) holds));
    ended = g.ended ∙ (λ i. records i ++ end_with (f.same.txn i) (f.same.number i) (f.same.undoes i) (logged_of (f.same.op i) reply));
    same = then_same s t u f.same g.same;
  }

  pub steps_then : (w m z : World) (s t u : OpScope) (r : Result Stepped Refusal) → m.records ≡ w.records → t.room ≡ s.room → Goes relations counters w m s t → Steps relations counters m z t u r → Steps relations counters w z s u r
  steps_then w m z s t u (Ok (stepped.Ready first second)) records room f g = (acts_then w m z s t u first records room f g.0, g.1)
  steps_then w m z s t u (Ok stepped.Went) records room f g = goes_then w m z s t u f g
  steps_then w m z s t u (Ok (stepped.Wait holder)) records room f g = goes_then w m z s t u f g
  steps_then w m z s t u (Ok (stepped.Again holder)) records room f g = goes_then w m z s t u f g
  steps_then w m z s t u (Ok stepped.Flush) records room f g = goes_then w m z s t u f g
  steps_then w m z s t u (Err why) records room f g = goes_then w m z s t u f g

  pub on_steps : (w z : World) (s t : OpScope) (r : Result Stepped Refusal) → GoesOn relations counters w z s t r → Steps relations counters w z s t r
  on_steps w z s t (Ok (stepped.Ready first second)) g = absurd g
  on_steps w z s t (Ok stepped.Went) g = g
  on_steps w z s t (Ok (stepped.Wait holder)) g = g
  on_steps w z s t (Ok (stepped.Again holder)) g = g
  on_steps w z s t (Ok stepped.Flush) g = g
  on_steps w z s t (Err why) g = g
