-- The locks of all operations, the operation itself and the records of the log, behind a step of it.
use Rattle.std.proofs.Common.{◌≡◌, ◌⊎◌, ◌∙◌, ℕ, List, inl, inr, refl, sym, ap, subst, Option, None, Some}
use Rattle.std.specs.Prelude.{Result, Ok, Err, OnErr}
use Rattle.mt_base.specs.declared.modes.Mode.{Mode}
use Rattle.mt_base.specs.declared.refusal.Refusal.{Refusal}
use Rattle.mt_frame.specs.declared.records.Record.{Record}
use Rattle.mt_plock.specs.declared.guards.PageLock.{PageLock}
use Rattle.mt_base.specs.declared.modes.Mode.TheVariants.{Write}
use Rattle.mt_op.specs.World.{World, looked}
use Rattle.mt_op.specs.Moves.{SameOp}
use Rattle.mt_op.specs.Holds.{Stays, IsAnew, IsMade, IsHeld, AsksNothing, KeepsLocks, KeepsLocksOn, KeepsRoom, KeepsScope, KeepsScopeOn}
use Rattle.mt_op.specs.Records.{KeepsRecords}
use Rattle.mt_op.specs.declared.answers.Stepped.{Stepped}
use Rattle.mt_op.specs.declared.answers.Stepped.TheVariants as stepped
use Rattle.mt_op.specs.declared.scope.OpScope.{OpScope}

pub held_keeps : (Next : ℕ → Mode → Type 0) (w z : World) (s t : OpScope) (p : ℕ) (mode : Mode) (r : Result Stepped Refusal) → Next p mode → IsHeld w z s t p mode r → KeepsLocks s.number Next w.locks z.locks r
held_keeps Next w z s t p mode (Ok stepped.Went) next h = inr (p, mode, next, h.0.locks)
held_keeps Next w z s t p mode (Ok (stepped.Wait holder)) next h = (h.0.locks, (p, mode, next, h.2))
held_keeps Next w z s t p mode (Ok (stepped.Again holder)) next h = (h.0.locks, (p, mode, next, h.2))
held_keeps Next w z s t p mode (Ok stepped.Flush) next h = absurd h
held_keeps Next w z s t p mode (Ok (stepped.Ready first second)) next h = absurd h
held_keeps Next w z s t p mode (Err why) next h = h.0.locks

pub same_keeps : (op : ℕ) (Next : ℕ → Mode → Type 0) (old new : List PageLock) (r : Result Stepped Refusal) → AsksNothing r → new ≡ old → KeepsLocks op Next old new r
same_keeps op Next old new (Ok stepped.Went) none same = inl same
same_keeps op Next old new (Ok (stepped.Wait holder)) none same = absurd none
same_keeps op Next old new (Ok (stepped.Again holder)) none same = absurd none
same_keeps op Next old new (Ok stepped.Flush) none same = same
same_keeps op Next old new (Ok (stepped.Ready first second)) none same = same
same_keeps op Next old new (Err why) none same = same

pub err_keeps : (op : ℕ) (Next : ℕ → Mode → Type 0) (old new : List PageLock) (r : Result Stepped Refusal) (why : Refusal) → r ≡ Err why → new ≡ old → KeepsLocks op Next old new r
err_keeps op Next old new r why is same = subst (KeepsLocks op Next old new) (sym is) same

pub err_keeps_on : (op : ℕ) (Next : ℕ → Mode → Type 0) (old new : List PageLock) (r : Result (Option Stepped) Refusal) (why : Refusal) → r ≡ Err why → new ≡ old → KeepsLocksOn op Next old new r
err_keeps_on op Next old new r why is same = subst (KeepsLocksOn op Next old new) (sym is) same

-- ---- the operation itself

pub stays_same : (s : OpScope) → Stays s s
stays_same s = record {
  plan = record { op = record { txn = refl; number = refl; op = refl; undoes = refl; split = refl; total = refl }; room = refl; guards = refl; seen = refl; changes = refl; reply = refl };
  search = refl;
  stage = refl;
  written = refl;
  standing = refl;
  left = refl;
}

op_then : (s m t : OpScope) → SameOp s m → SameOp m t → SameOp s t
op_then s m t f g = record { txn = g.txn ∙ f.txn; number = g.number ∙ f.number; op = g.op ∙ f.op; undoes = g.undoes ∙ f.undoes; split = g.split ∙ f.split; total = g.total ∙ f.total }

-- behind a scope that stayed
pub stays_then : (s m t : OpScope) → Stays s m → Stays m t → Stays s t
stays_then s m t f g = record {
  plan = record {
    op = op_then s m t f.plan.op g.plan.op;
    room = g.plan.room ∙ f.plan.room;
    guards = g.plan.guards ∙ f.plan.guards;
    seen = g.plan.seen ∙ f.plan.seen;
    changes = g.plan.changes ∙ f.plan.changes;
    reply = g.plan.reply ∙ f.plan.reply;
  };
  search = g.search ∙ f.search;
  stage = g.stage ∙ f.stage;
  written = g.written ∙ f.written;
  standing = g.standing ∙ f.standing;
  left = g.left ∙ f.left;
}

anew_then : (s m t : OpScope) → Stays s m → m.changes ≡ s.changes → IsAnew m t → IsAnew s t
anew_then s m t f changes g = record {
  op = op_then s m t f.plan.op g.op;
  stage = g.stage ∙ f.stage;
  room = g.room;
  guards = g.guards;
  seen = g.seen;
  search = g.search;
  changes = g.changes ∙ changes;
  reply = g.reply ∙ f.plan.reply;
  written = g.written ∙ f.written;
  standing = g.standing ∙ f.standing;
  left = g.left ∙ f.left;
}

pub held_scope : (w z : World) (s m t : OpScope) (p : ℕ) (mode : Mode) (r : Result Stepped Refusal) → Stays s m → m.changes ≡ s.changes → IsHeld w z m t p mode r → KeepsScope s t r
held_scope w z s m t p mode (Ok stepped.Went) f changes h = inl (h.1.room ∙ f.plan.room)
held_scope w z s m t p mode (Ok (stepped.Wait holder)) f changes h = stays_then s m t f h.1
held_scope w z s m t p mode (Ok (stepped.Again holder)) f changes h = anew_then s m t f changes h.1
held_scope w z s m t p mode (Ok stepped.Flush) f changes h = absurd h
held_scope w z s m t p mode (Ok (stepped.Ready first second)) f changes h = absurd h
held_scope w z s m t p mode (Err why) f changes h = inl (stays_then s m t f h.1)

pub err_scope : (s t : OpScope) (r : Result Stepped Refusal) (why : Refusal) → r ≡ Err why → Stays s t → KeepsScope s t r
err_scope s t r why is stays = subst (KeepsScope s t) (sym is) (inl stays)

pub err_scope_on : (s t : OpScope) (r : Result (Option Stepped) Refusal) (why : Refusal) → r ≡ Err why → KeepsScope s t (Err why) → KeepsScopeOn s t r
err_scope_on s t r why is keeps = subst (KeepsScopeOn s t) (sym is) keeps

-- where it asks for nothing
pub same_scope : (s : OpScope) (r : Result Stepped Refusal) → AsksNothing r → KeepsScope s s r
same_scope s (Ok stepped.Went) none = inl refl
same_scope s (Ok (stepped.Wait holder)) none = absurd none
same_scope s (Ok (stepped.Again holder)) none = absurd none
same_scope s (Ok stepped.Flush) none = inl (stays_same s)
same_scope s (Ok (stepped.Ready first second)) none = refl
same_scope s (Err why) none = inl (stays_same s)

-- it writes, or ends
pub ahead_scope : (s t : OpScope) (r : Result Stepped Refusal) → t.room ≡ s.room → AsksNothing r → OnErr r (t ≡ s) → (r ≡ Ok stepped.Flush → t ≡ s) → KeepsScope s t r
ahead_scope s t (Ok stepped.Went) room none err flush = inl room
ahead_scope s t (Ok (stepped.Wait holder)) room none err flush = absurd none
ahead_scope s t (Ok (stepped.Again holder)) room none err flush = absurd none
ahead_scope s t (Ok stepped.Flush) room none err flush = inl (subst (Stays s) (sym (flush refl)) (stays_same s))
ahead_scope s t (Ok (stepped.Ready first second)) room none err flush = room
ahead_scope s t (Err why) room none err flush = inl (subst (Stays s) (sym err) (stays_same s))

-- the same behind a plan that was made
pub made_scope : (s t u : OpScope) (r : Result Stepped Refusal) → IsMade s t → u.room ≡ t.room → AsksNothing r → OnErr r (u ≡ t) → (r ≡ Ok stepped.Flush → u ≡ t) → KeepsScope s u r
made_scope s t u (Ok stepped.Went) made room none err flush = inl (room ∙ made.room)
made_scope s t u (Ok (stepped.Wait holder)) made room none err flush = absurd none
made_scope s t u (Ok (stepped.Again holder)) made room none err flush = absurd none
made_scope s t u (Ok stepped.Flush) made room none err flush = inr (subst (IsMade s) (sym (flush refl)) made)
made_scope s t u (Ok (stepped.Ready first second)) made room none err flush = room ∙ made.room
made_scope s t u (Err why) made room none err flush = inr (subst (IsMade s) (sym err) made)

-- it is led to the page that is locked
pub room_kept : (s t : OpScope) (room : Option ℕ) (p : ℕ) (mode : Mode) (K : Type 0) → t.room ≡ room → (room ≡ s.room) ⊎ ((room ≡ Some p) × (mode ≡ Write) × K) → (room ≡ s.room) ⊎ (s.room ≡ None) → looked s p ≡ None → KeepsRoom s t
room_kept s t room p mode K is (inl same) unled new = inl (is ∙ same)
room_kept s t room p mode K is (inr led) (inl same) new = inl (is ∙ same)
room_kept s t room p mode K is (inr led) (inr none) new = inr (inl (none, λ q at. subst (λ (x : ℕ). looked s x ≡ None) (only p q (sym led.0 ∙ sym is ∙ at)) new))
  where
    only : (a b : ℕ) → Some a ≡ Some b → a ≡ b
    only a b e = ap (λ (o : Option ℕ). elim o [ None ↦ a | Some x ↦ x ]) e

-- ---- records

pub same_records : (s : OpScope) (old new : List Record) (r : Result Stepped Refusal) → new ≡ old → KeepsRecords s old new r
same_records s old new (Ok stepped.Went) same = inl same
same_records s old new (Ok (stepped.Wait holder)) same = same
same_records s old new (Ok (stepped.Again holder)) same = same
same_records s old new (Ok stepped.Flush) same = same
same_records s old new (Ok (stepped.Ready first second)) same = tt
same_records s old new (Err why) same = same
