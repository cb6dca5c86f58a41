-- An operation that writes goes ahead: what a call of it does behind the bringing of its page, and what is left where it does nothing.
use Rattle.std.proofs.Common.{◌≡◌, ◌+◌, ℕ, List, [], inr, refl, sym, ap, ◌∙◌, subst, arith}
use Rattle.std.specs.Prelude.{Result, Ok, Err, IfErr, OnErr}
use Rattle.mt_disk.specs.declared.device.Device.{Ghosts}
use Rattle.mt_base.specs.declared.refusal.Refusal.{Refusal}
use Rattle.mt_disk.specs.Disk.{LeavesOnly}
use Rattle.mt_log.specs.Words.{appended, durable, used, area_size}
use Rattle.mt_frame.specs.declared.records.Record.{Record}
use Rattle.mt_space.specs.Changes.{PageBytes}
use Rattle.mt_pool.specs.Kept.{IsKept, Explains}
use Rattle.mt_pool.specs.Views.{IsFull}
use Rattle.mt_space.specs.Rooms.{reserved_of}
use Rattle.mt_steps.specs.Plans.{own_needs}
use Rattle.mt_pool.specs.Reads.{ReadsOnce}
use Rattle.mt_op.specs.World.{World}
use Rattle.mt_op.specs.Moves.{Rests}
use Rattle.mt_op.specs.Operations.{world, IsRight, Goes, Steps, GivesBack, HasBudget, IsCause}
use Rattle.mt_op.specs.Records.{KeepsRecords}
use Rattle.mt_op.specs.Work.{IsGoing, ComesTo, Works}
use Rattle.mt_op.specs.Faults.{ReportsFaults}
use Rattle.mt_op.specs.Holds.{AsksNothing}
use Rattle.mt_op.specs.Stepping.{GoesAhead}
use Rattle.mt_op.specs.declared.answers.Stepped.{Stepped}
use Rattle.mt_op.specs.declared.answers.Stepped.TheVariants as stepped
use Rattle.mt_op.specs.declared.operations.Operations.{Operations}
use Rattle.mt_op.specs.declared.scope.OpScope.{OpScope}
use Rattle.mt_op.specs.declared.scope.Stage.{Stage}
use Rattle.mt_op.specs.declared.scope.Stage.TheVariants.{Writing}
use Rattle.mt_space.specs.declared.space_map.SpaceMap.{SpaceMap}
use Rattle.mt_op.proofs.Chosen.{steps_then}
use Rattle.mt_op.proofs.Faulting.{reported_behind}
use Rattle.mt_op.proofs.Keeping.{same_records}
use Rattle.mt_op.proofs.Staying.{rests_own}
use Rattle.mt_op.proofs.Written.{rests_goes_as}

-- nothing was done: it is refused, or has to wait for a frame
abbrev pub IsIdle : Result Stepped Refusal → Type 0
IsIdle (Ok stepped.Flush) = Unit {0}
IsIdle (Err why) = Unit {0}
IsIdle (Ok stepped.Went) = ⊥
IsIdle (Ok (stepped.Wait holder)) = ⊥
IsIdle (Ok (stepped.Again holder)) = ⊥
IsIdle (Ok (stepped.Ready first second)) = ⊥

idle_steps : (relations counters : ℕ) (w z : World) (s t : OpScope) (r : Result Stepped Refusal) → IsIdle r → Goes relations counters w z s t → Steps relations counters w z s t r
idle_steps relations counters w z s t (Ok stepped.Flush) idle g = g
idle_steps relations counters w z s t (Err why) idle g = g
idle_steps relations counters w z s t (Ok stepped.Went) idle g = absurd idle
idle_steps relations counters w z s t (Ok (stepped.Wait holder)) idle g = absurd idle
idle_steps relations counters w z s t (Ok (stepped.Again holder)) idle g = absurd idle
idle_steps relations counters w z s t (Ok (stepped.Ready first second)) idle g = absurd idle

idle_gives : (claim before now : ℕ) (r : Result Stepped Refusal) → IsIdle r → now ≡ before → GivesBack claim before now r
idle_gives claim before now (Ok stepped.Flush) idle same = same
idle_gives claim before now (Err why) idle same = same
idle_gives claim before now (Ok stepped.Went) idle same = absurd idle
idle_gives claim before now (Ok (stepped.Wait holder)) idle same = absurd idle
idle_gives claim before now (Ok (stepped.Again holder)) idle same = absurd idle
idle_gives claim before now (Ok (stepped.Ready first second)) idle same = absurd idle

idle_comes : (stage : Stage) (r : Result Stepped Refusal) → IsIdle r → IsGoing stage → ComesTo stage r
idle_comes stage (Ok stepped.Flush) idle going = going
idle_comes stage (Err why) idle going = going
idle_comes stage (Ok stepped.Went) idle going = absurd idle
idle_comes stage (Ok (stepped.Wait holder)) idle going = absurd idle
idle_comes stage (Ok (stepped.Again holder)) idle going = absurd idle
idle_comes stage (Ok (stepped.Ready first second)) idle going = absurd idle

pub idle_works : (s : OpScope) (r : Result Stepped Refusal) → IsIdle r → Works s s r
idle_works s (Ok stepped.Flush) idle = omega arith
idle_works s (Err why) idle = omega arith
idle_works s (Ok stepped.Went) idle = absurd idle
idle_works s (Ok (stepped.Wait holder)) idle = absurd idle
idle_works s (Ok (stepped.Again holder)) idle = absurd idle
idle_works s (Ok (stepped.Ready first second)) idle = absurd idle

pub idle_asks : (r : Result Stepped Refusal) → IsIdle r → AsksNothing r
idle_asks (Ok stepped.Flush) idle = tt
idle_asks (Err why) idle = tt
idle_asks (Ok stepped.Went) idle = tt
idle_asks (Ok (stepped.Wait holder)) idle = absurd idle
idle_asks (Ok (stepped.Again holder)) idle = absurd idle
idle_asks (Ok (stepped.Ready first second)) idle = tt

idle_err : (s : OpScope) (r : Result Stepped Refusal) → IsIdle r → OnErr r (s ≡ s)
idle_err s (Ok x) idle = tt
idle_err s (Err why) idle = refl

idle_went : (r : Result Stepped Refusal) → IsIdle r → r ≡ Ok stepped.Went → ⊥
idle_went r idle is = subst IsIdle is idle

module _ {D : Type 0} (g : Ghosts D) (o m : Operations D) (s : OpScope)
    (right : (opening : PageBytes) (relations counters : ℕ) → IsRight g opening relations counters o → IsRight g opening relations counters m)
    (rests : (opening : PageBytes) → Rests (world g opening o) (world g opening m))
    (moments : (opening : PageBytes) → IsKept g opening o.store → LeavesOnly g.moment g.left_since o.store.device m.store.device (Explains opening o.store))
    (reads : ReadsOnce g o.store.device m.store.device)
    (spent : used m.store.log ≡ used o.store.log) (area : area_size m.store.log ≡ area_size o.store.log) (lasting : durable m.store.log ≡ durable o.store.log) (map : m.map ≡ o.map) (locks : m.locks ≡ o.locks) where
  records : appended m.store.log ≡ appended o.store.log
  records = (rests (λ n. [])).records

  -- nothing but what is in frames has changed
  pub idle_ahead : (r : Result Stepped Refusal) → IsIdle r → s.stage ≡ Writing → HasBudget s → (r ≡ Ok stepped.Flush → IsFull o.store.pool × (m ≡ o)) → IfErr r IsCause
      → ReportsFaults (g.faults o.store.device) (g.faults m.store.device) r → GoesAhead g o m s s r
  idle_ahead r idle writing budget full why outcome = record {
    steps = λ opening relations counters ok k few some.
        (right opening relations counters ok, idle_steps relations counters (world g opening o) (world g opening m) s s r idle (rests_goes_as relations counters (world g opening o) (world g opening m) s (rests opening) k));
    moments = moments;
    log = ap (λ (n : ℕ). n + s.left) spent;
    area = area;
    durable = lasting;
    budget = budget;
    claims = idle_gives (own_needs s.op s.split) (reserved_of o.map.space) (reserved_of m.map.space) r idle (ap (λ (x : SpaceMap). reserved_of x.space) map);
    full = full;
    went = λ is. absurd (idle_went r idle is);
    stage = idle_comes s.stage r idle (inr writing);
    work = idle_works s r idle;
    records = same_records s (appended o.store.log) (appended m.store.log) r records;
    locks = locks;
    room = refl;
    asks = idle_asks r idle;
    err = idle_err s r idle;
    flush = λ is. refl;
    why = why;
    faults = outcome;
    reads = reads;
  }

  -- a call behind it that does not touch the device
  pub ahead_behind : (n : Operations D) (t : OpScope) (r : Result Stepped Refusal) → GoesAhead g m n s t r → n.store.device ≡ m.store.device → (r ≡ Ok stepped.Flush → ⊥)
      → g.faults m.store.device ≡ g.faults o.store.device → GoesAhead g o n s t r
  ahead_behind n t r a device never unfailed = record {
    steps = λ opening relations counters ok k few some.
        let w = world g opening o in let x = world g opening m in
        let gone = a.steps opening relations counters (right opening relations counters ok) (rests_own relations counters w x s (rests opening) k) few some in
        (gone.0, steps_then relations counters w x (world g opening n) s s t r (rests opening).records refl (rests_goes_as relations counters w x s (rests opening) k) gone.1);
    moments = λ opening kept. subst (λ (d : D). LeavesOnly g.moment g.left_since o.store.device d (Explains opening o.store)) (sym device) (moments opening kept);
    log = a.log ∙ ap (λ (n : ℕ). n + s.left) spent;
    area = a.area ∙ area;
    durable = a.durable ∙ lasting;
    budget = a.budget;
    claims = subst (λ (x : SpaceMap). GivesBack (own_needs s.op s.split) (reserved_of x.space) (reserved_of n.map.space) r) map a.claims;
    full = λ is. absurd (never is);
    went = a.went;
    stage = a.stage;
    work = a.work;
    records = subst (λ (rs : List Record). KeepsRecords t rs (appended n.store.log) r) records a.records;
    locks = a.locks ∙ locks;
    room = a.room;
    asks = a.asks;
    err = a.err;
    flush = a.flush;
    why = a.why;
    faults = reported_behind (g.faults o.store.device) (g.faults m.store.device) (g.faults n.store.device) r unfailed a.faults;
    reads = subst (ReadsOnce g o.store.device) (sym device) reads;
  }
