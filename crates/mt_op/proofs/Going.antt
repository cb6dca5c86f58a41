-- Steps of an operation that plans: what they keep of all operations.
use Rattle.std.proofs.Common.{◌≡◌, ◌<◌, inl, ℕ, List, [], ◌∷◌, ◌++◌, length, refl, sym, ◌∙◌, ap, subst, append-nil, None}
use Rattle.std.specs.Prelude.{Result, Ok, Err, IsSome}
use Rattle.mt_base.specs.declared.modes.Mode.{Mode}
use Rattle.mt_base.specs.declared.refusal.Refusal.{Refusal}
use Rattle.mt_plock.specs.Holding.{lock_of}
use Rattle.std.proofs.Math.ListN.{get_or}
use Rattle.mt_pool.specs.Images.{slot}
use Rattle.mt_pool.specs.Views.{IsPool, IsThere, view, held, framed, frame_whole}
use Rattle.mt_pool.specs.declared.pool.Pool.{Pool}
use Rattle.mt_steps.specs.Asks.{HasSearched}
use Rattle.mt_steps.specs.Repeated.{by}
use Rattle.mt_overlay.specs.declared.overlay.PageCopy.{PageCopy}
use Rattle.mt_op.specs.World.{World, held_in, unfinished_in, looked, HasNothing, IsWorld, IsUnderWay, IsAt, IsPlanning}
use Rattle.mt_overlay.specs.declared.page_copies.PageCopies.{PageCopies}
use Rattle.mt_op.specs.Moves.{SameOp, Rests, Locks, Leaves, Gains, IsLed}
use Rattle.mt_op.specs.Holds.{Stays, Holds, IsAnew, IsHeld}
use Rattle.mt_op.specs.Operations.{Goes, GoesOn}
use Rattle.mt_op.specs.declared.scope.OpScope.{OpScope}
use Rattle.mt_op.specs.declared.scope.Stage.TheVariants.{Planning}
use Rattle.mt_op.specs.declared.answers.Stepped.{Stepped}
use Rattle.mt_op.specs.declared.answers.Stepped.TheVariants as stepped
use Rattle.mt_op.proofs.Staying.{own_kept, sees_same, open_same, rests_own, rests_held, world_rests}
use Rattle.mt_op.proofs.Locking.{world_locks, others_lock, own_locks, own_upgrades, locks_held}
use Rattle.mt_op.proofs.Searching.{searched_same, searched_gained}
use Rattle.mt_op.proofs.Leaving.{world_leaves, others_leave, begins_anew, leaves_held}

module _ (relations counters : ℕ) where
  pub planning_of : (w : World) (s : OpScope) → s.stage ≡ Planning → IsUnderWay relations counters w s → IsPlanning w s
  planning_of w s planning k = subst (IsAt relations counters w s) planning k.at

  pub planning_stays : (w : World) (s t : OpScope) → s.stage ≡ Planning → Stays s t → IsUnderWay relations counters w s → IsUnderWay relations counters w t
  planning_stays w s t planning m k =
      let at = planning_of w s planning k in
      let new : IsPlanning w t = record {
        sees = sees_same w s t m.plan.op m.plan.room m.plan.guards m.plan.seen at.sees;
        unended = open_same w s t m.plan.op at.unended;
        nothing = subst (λ (n : ℕ). by n (unfinished_in w) ≡ []) (sym m.plan.op.number) at.nothing;
        searched = searched_same s t s.search t.search m.plan.op m.plan.seen m.search at.searched;
        none_written = m.written ∙ at.none_written;
        none_standing = m.standing ∙ at.none_standing;
      } in
      own_kept relations counters w w s t m.plan.op m.plan.guards m.plan.seen refl refl k (subst (IsAt relations counters w t) (sym (m.stage ∙ planning)) new)

  pub rests_goes : (w z : World) (s t : OpScope) → Rests w z → s.stage ≡ Planning → Stays s t → IsUnderWay relations counters w s → Goes relations counters w z s t
  rests_goes w z s t m planning stays k = record {
    own = planning_stays z s t planning stays (rests_own relations counters w z s m k);
    others = λ u ku other. rests_own relations counters w z u m ku;
    held = rests_held w z m;
    same = stays.plan.op;
  }

  leaves_goes : (w z : World) (s t : OpScope) → Leaves w z s → s.stage ≡ Planning → IsAnew s t → IsUnderWay relations counters w s → Goes relations counters w z s t
  leaves_goes w z s t m planning anew k =
      let at = planning_of w s planning k in
      record {
        own = begins_anew relations counters w z s t m k planning anew.op (anew.stage ∙ planning) anew.guards anew.seen anew.search anew.room (anew.written ∙ at.none_written) (anew.standing ∙ at.none_standing);
        others = λ u ku other. others_leave relations counters w z s u m ku other.number;
        held = leaves_held w z s m;
        same = anew.op;
      }

  -- a guard more, and copies of so many pages more
  gains : (w : World) (s t z : OpScope) (p : ℕ) (mode : Mode) (copies : List PageCopy) → s.stage ≡ Planning → Holds s t p mode → SameOp t z → z.stage ≡ t.stage → z.guards.items ≡ t.guards.items
      → z.seen.list.items ≡ s.seen.list.items ++ copies → z.written ≡ t.written → z.standing ≡ t.standing → IsLed w (lock_of s.number p mode) s z
      → HasSearched (looked s) s.seen.total s.op z.search → Gains w s z (lock_of s.number p mode) copies
  gains w s t z p mode copies planning h op stage guards seen written standing led searched = record {
    op = same;
    planning = planning;
    stage = stage ∙ h.stage ∙ planning;
    own = refl;
    room = led;
    guards = guards ∙ h.guards;
    seen = seen;
    searched = searched_gained s z copies z.search same seen searched;
    written = written ∙ h.written;
    standing = standing ∙ h.standing;
  }
    where
      same : SameOp s z
      same = record { txn = op.txn ∙ h.op.txn; number = op.number ∙ h.op.number; op = op.op ∙ h.op.op; undoes = op.undoes ∙ h.op.undoes; split = op.split ∙ h.op.split; total = op.total ∙ h.op.total }

  pub locks_goes : (w z : World) (s t u : OpScope) (p : ℕ) (mode : Mode) → Locks w z (lock_of s.number p mode) → s.stage ≡ Planning → Holds s t p mode → SameOp t u → u.stage ≡ t.stage → u.guards.items ≡ t.guards.items
      → u.seen.list.items ≡ t.seen.list.items ++ record { page = p; bytes = w.present p } ∷ [] → u.written ≡ t.written → u.standing ≡ t.standing → IsLed w (lock_of s.number p mode) s u
      → HasSearched (looked s) s.seen.total s.op u.search → length (w.present p) ≡ 4096 → looked s p ≡ None → p < w.total → IsWorld relations counters w → IsUnderWay relations counters w s → Goes relations counters w z s u
  locks_goes w z s t u p mode m planning h op stage guards seen written standing led searched size new inside kw k =
      let g = gains w s t u p mode (record { page = p; bytes = w.present p } ∷ []) planning h op stage guards (seen ∙ ap (λ (cs : List PageCopy). cs ++ record { page = p; bytes = w.present p } ∷ []) h.seen) written standing led searched in
      record {
        own = own_locks relations counters w z (lock_of s.number p mode) m s u (record { page = p; bytes = w.present p }) kw k g refl refl size inside;
        others = λ v kv other. others_lock relations counters w z (lock_of s.number p mode) m v kv other.number;
        held = locks_held w z (lock_of s.number p mode) m;
        same = g.op;
      }

  upgrades_goes : (w z : World) (s t : OpScope) (p : ℕ) (mode : Mode) → Locks w z (lock_of s.number p mode) → s.stage ≡ Planning → Holds s t p mode → IsSome (looked s p) → IsUnderWay relations counters w s → Goes relations counters w z s t
  upgrades_goes w z s t p mode m planning h some k =
      let g = gains w s t t p mode [] planning h (record { txn = refl; number = refl; op = refl; undoes = refl; split = refl; total = refl }) refl refl (h.seen ∙ sym (append-nil s.seen.list.items)) refl refl (inl h.room)
      (subst (HasSearched (looked s) s.seen.total s.op) (sym h.search) (planning_of w s planning k).searched) in
      record {
        own = own_upgrades relations counters w z (lock_of s.number p mode) m s t k g some;
        others = λ v kv other. others_lock relations counters w z (lock_of s.number p mode) m v kv other.number;
        held = locks_held w z (lock_of s.number p mode) m;
        same = g.op;
      }

  -- whatever asking for a lock is answered
  pub held_world : (w z : World) (s t : OpScope) (p : ℕ) (mode : Mode) (r : Result Stepped Refusal) → IsHeld w z s t p mode r → HasNothing w s → IsWorld relations counters w → IsWorld relations counters z
  held_world w z s t p mode (Ok stepped.Went) h nothing k = world_locks relations counters w z (lock_of s.number p mode) h.0 k
  held_world w z s t p mode (Ok (stepped.Wait holder)) h nothing k = world_rests relations counters w z h.0 k
  held_world w z s t p mode (Ok (stepped.Again holder)) h nothing k = world_leaves relations counters w z s h.0 k nothing
  held_world w z s t p mode (Ok stepped.Flush) h nothing k = absurd h
  held_world w z s t p mode (Ok (stepped.Ready first second)) h nothing k = absurd h
  held_world w z s t p mode (Err why) h nothing k = world_rests relations counters w z h.0 k

  pub upgrade_goes_on : (w z : World) (s t : OpScope) (p : ℕ) (mode : Mode) (r : Result Stepped Refusal) → IsHeld w z s t p mode r → s.stage ≡ Planning → IsSome (looked s p) → IsUnderWay relations counters w s → GoesOn relations counters w z s t r
  upgrade_goes_on w z s t p mode (Ok stepped.Went) h planning some k = upgrades_goes w z s t p mode h.0 planning h.1 some k
  upgrade_goes_on w z s t p mode (Ok (stepped.Wait holder)) h planning some k = rests_goes w z s t h.0 planning h.1 k
  upgrade_goes_on w z s t p mode (Ok (stepped.Again holder)) h planning some k = leaves_goes w z s t h.0 planning h.1 k
  upgrade_goes_on w z s t p mode (Ok stepped.Flush) h planning some k = absurd h
  upgrade_goes_on w z s t p mode (Ok (stepped.Ready first second)) h planning some k = absurd h
  upgrade_goes_on w z s t p mode (Err why) h planning some k = rests_goes w z s t h.0 planning h.1 k

  -- where the lock is not had
  pub unlocked_goes_on : (w z : World) (s t : OpScope) (p : ℕ) (mode : Mode) (r : Result Stepped Refusal) → (r ≡ Ok stepped.Went → ⊥) → IsHeld w z s t p mode r → s.stage ≡ Planning → IsUnderWay relations counters w s → GoesOn relations counters w z s t r
  unlocked_goes_on w z s t p mode (Ok stepped.Went) not h planning k = absurd (not refl)
  unlocked_goes_on w z s t p mode (Ok (stepped.Wait holder)) not h planning k = rests_goes w z s t h.0 planning h.1 k
  unlocked_goes_on w z s t p mode (Ok (stepped.Again holder)) not h planning k = leaves_goes w z s t h.0 planning h.1 k
  unlocked_goes_on w z s t p mode (Ok stepped.Flush) not h planning k = absurd h
  unlocked_goes_on w z s t p mode (Ok (stepped.Ready first second)) not h planning k = absurd h
  unlocked_goes_on w z s t p mode (Err why) not h planning k = rests_goes w z s t h.0 planning h.1 k

  -- refused, or nothing done
  pub err_goes_on : (w z : World) (s t : OpScope) (r : Result Stepped Refusal) (why : Refusal) → r ≡ Err why → Goes relations counters w z s t → GoesOn relations counters w z s t r
  err_goes_on w z s t r why is g = subst (GoesOn relations counters w z s t) (sym is) g

  -- behind what changed nothing but frames
  pub goes_behind : (w m z : World) (s t : OpScope) → Rests w m → Goes relations counters m z s t → Goes relations counters w z s t
  goes_behind w m z s t rests g = record {
    own = g.own;
    others = λ u ku other. g.others u (rests_own relations counters w m u rests ku) other;
    held = g.held ∙ rests_held w m rests;
    same = g.same;
  }

  pub goes_on_behind : (w m z : World) (s t : OpScope) (r : Result Stepped Refusal) → Rests w m → GoesOn relations counters m z s t r → GoesOn relations counters w z s t r
  goes_on_behind w m z s t (Ok stepped.Went) rests g = goes_behind w m z s t rests g
  goes_on_behind w m z s t (Ok (stepped.Wait holder)) rests g = goes_behind w m z s t rests g
  goes_on_behind w m z s t (Ok (stepped.Again holder)) rests g = goes_behind w m z s t rests g
  goes_on_behind w m z s t (Ok stepped.Flush) rests g = goes_behind w m z s t rests g
  goes_on_behind w m z s t (Ok (stepped.Ready first second)) rests g = absurd g
  goes_on_behind w m z s t (Err why) rests g = goes_behind w m z s t rests g

  -- of the same operation in whatever room its lists have
  pub goes_since : (w z : World) (s m t : OpScope) → SameOp s m → Goes relations counters w z m t → Goes relations counters w z s t
  goes_since w z s m t op g = record {
    own = g.own;
    others = λ u ku other. g.others u ku (record { number = λ e. other.number (e ∙ op.number); txn = λ e. other.txn (e ∙ op.txn) });
    held = g.held;
    same = record { txn = g.same.txn ∙ op.txn; number = g.same.number ∙ op.number; op = g.same.op ∙ op.op; undoes = g.same.undoes ∙ op.undoes; split = g.same.split ∙ op.split; total = g.same.total ∙ op.total };
  }

  pub goes_on_since : (w z : World) (s m t : OpScope) (r : Result Stepped Refusal) → SameOp s m → GoesOn relations counters w z m t r → GoesOn relations counters w z s t r
  goes_on_since w z s m t (Ok stepped.Went) op g = goes_since w z s m t op g
  goes_on_since w z s m t (Ok (stepped.Wait holder)) op g = goes_since w z s m t op g
  goes_on_since w z s m t (Ok (stepped.Again holder)) op g = goes_since w z s m t op g
  goes_on_since w z s m t (Ok stepped.Flush) op g = goes_since w z s m t op g
  goes_on_since w z s m t (Ok (stepped.Ready first second)) op g = absurd g
  goes_on_since w z s m t (Err why) op g = goes_since w z s m t op g

pub same_op : (s : OpScope) → SameOp s s
same_op s = record { txn = refl; number = refl; op = refl; undoes = refl; split = refl; total = refl }

-- its copies are the same
pub same_seen : (s : OpScope) (seen : PageCopies) → seen ≡ s.seen → record s { seen = seen } ≡ s
same_seen s seen same = λ i. record s { seen = same i }

-- its copies are the same, with room for one more
pub stays_roomy : (s : OpScope) (seen : PageCopies) → seen.total ≡ s.seen.total → seen.list.items ≡ s.seen.list.items → Stays s (record s { seen = seen })
stays_roomy s seen total items = record {
  plan = record { op = record { txn = refl; number = refl; op = refl; undoes = refl; split = refl; total = total }; room = refl; guards = refl; seen = items; changes = refl; reply = refl };
  search = refl;
  stage = refl;
  written = refl;
  standing = refl;
  left = refl;
}

pub held_held : (w z : World) (s t : OpScope) (p : ℕ) (mode : Mode) (r : Result Stepped Refusal) → IsHeld w z s t p mode r → held_in z ≡ held_in w
held_held w z s t p mode (Ok stepped.Went) h = locks_held w z (lock_of s.number p mode) h.0
held_held w z s t p mode (Ok (stepped.Wait holder)) h = rests_held w z h.0
held_held w z s t p mode (Ok (stepped.Again holder)) h = leaves_held w z s h.0
held_held w z s t p mode (Ok stepped.Flush) h = absurd h
held_held w z s t p mode (Ok (stepped.Ready first second)) h = absurd h
held_held w z s t p mode (Err why) h = rests_held w z h.0

-- a world as it is
pub rests_same : (w : World) → Rests w w
rests_same w = record { area = record { opening = refl; total = refl }; pages = λ p lt. refl; records = refl; locks = refl }

pub ok_same : (a b : Stepped) → (r : Result Stepped Refusal) → r ≡ Ok a → r ≡ Ok b → a ≡ b
ok_same a b r is too = cc

-- a page that is in a frame is whole
pub there_whole : (pool : Pool) (seen : List ℕ) (p : ℕ) → IsPool pool → IsThere pool p → length (view pool seen p) ≡ 4096
there_whole pool seen p ok there =
    ap (λ o. length (held o pool.bytes.items (slot pool.place seen p))) there.1
    ∙ frame_whole pool ok p (get_or pool.bytes.items there.0 []) (ap (λ o. framed o pool.bytes.items) there.1)
