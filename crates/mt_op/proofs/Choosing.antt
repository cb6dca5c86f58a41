-- A step of an operation that plans, as a whole: a page that is locked, a plan that is kept, and what is left where neither is done.
use Rattle.std.proofs.Common.{◌≡◌, ◌<◌, ◌≤◌, ◌+◌, ℕ, List, inl, refl, sym, ap, ◌∙◌, subst, arith, Option, Some, None, true, if◌then◌else◌}
use Rattle.std.specs.Prelude.{Result, Ok, Err, IfErr}
use Rattle.mt_disk.specs.declared.device.Device.{Ghosts}
use Rattle.mt_base.specs.declared.refusal.Refusal.{Refusal}
use Rattle.mt_base.specs.declared.refusal.Refusal.TheVariants as refusal
use Rattle.mt_disk.specs.Disk.{LeavesOnly}
use Rattle.mt_log.specs.Words.{appended, durable, used, area_size}
use Rattle.mt_log.specs.declared.log.Log.{Log}
use Rattle.mt_model.specs.declared.operations.Op.{Op}
use Rattle.mt_plock.specs.declared.guards.PageLock.{PageLock}
use Rattle.mt_space.specs.Changes.{PageBytes}
use Rattle.mt_pool.specs.Kept.{IsKept, Explains}
use Rattle.mt_pool.specs.Views.{IsFull}
use Rattle.mt_pool.specs.declared.store.Store.{Store}
use Rattle.mt_space.specs.Rooms.{reserved_of}
use Rattle.mt_model.specs.declared.operations.Op.TheVariants.{Get, Insert, Update, Delete, Add, Read, Scan}
use Rattle.mt_steps.specs.Plans.{own_needs, IsReading}
use Rattle.mt_pool.specs.Reads.{ReadsOnce}
use Rattle.mt_pool.proofs.Reading.{reads_nothing}
use Rattle.mt_op.specs.World.{World, IsUnderWay, IsAt, IsPlanning}
use Rattle.mt_op.specs.Moves.{Rests, SameOp}
use Rattle.mt_op.specs.Operations.{world, IsRight, Goes, GoesOn, GivesBack, HasBudget, IsAsFar, IsCause, claimed, only_reads, needs}
use Rattle.mt_op.specs.Holds.{IsNext, KeepsLocks, KeepsScope}
use Rattle.mt_op.specs.Records.{KeepsRecords}
use Rattle.mt_op.specs.Work.{Works}
use Rattle.mt_op.specs.Faults.{ReportsFaults}
use Rattle.mt_op.specs.Stepping.{GoesAhead, KeepsPlan, LocksPage, MakesStep, PlansOn, TakesLock}
use Rattle.mt_op.specs.declared.answers.Stepped.{Stepped}
use Rattle.mt_op.specs.declared.answers.Stepped.TheVariants as stepped
use Rattle.mt_op.specs.declared.operations.Operations.{Operations}
use Rattle.mt_op.specs.declared.scope.OpScope.{OpScope}
use Rattle.mt_op.specs.declared.scope.Stage.{Stage}
use Rattle.mt_op.specs.declared.scope.Stage.TheVariants.{Planning, Writing}
use Rattle.mt_file.specs.declared.rooms.Rooms.{Rooms}
use Rattle.mt_space.specs.declared.space_map.SpaceMap.{SpaceMap}
use Rattle.mt_op.proofs.Ahead.{IsIdle, idle_works, idle_asks}
use Rattle.mt_op.proofs.Chosen.{on_steps, steps_then}
use Rattle.mt_op.proofs.Faulting.{no_fault, reported_ok, reported_err, reported_behind}
use Rattle.mt_op.proofs.Going.{goes_on_behind, planning_of, rests_same}
use Rattle.mt_op.proofs.Keeping.{same_keeps, same_records, stays_same, same_scope, ahead_scope, made_scope}
use Rattle.mt_op.proofs.Staying.{rests_own, own_kept, open_same}
use Rattle.mt_op.proofs.Unready.{IsUnready, on_keeps, comes_on}
use Rattle.mt_op.proofs.Work.{works_behind}
use Rattle.mt_op.proofs.Written.{rests_goes_as}

idle_goes_on : (relations counters : ℕ) (w z : World) (s t : OpScope) (r : Result Stepped Refusal) → IsIdle r → Goes relations counters w z s t → GoesOn relations counters w z s t r
idle_goes_on relations counters w z s t (Ok stepped.Flush) idle g = g
idle_goes_on relations counters w z s t (Err why) idle g = g
idle_goes_on relations counters w z s t (Ok stepped.Went) idle g = absurd idle
idle_goes_on relations counters w z s t (Ok (stepped.Wait holder)) idle g = absurd idle
idle_goes_on relations counters w z s t (Ok (stepped.Again holder)) idle g = absurd idle
idle_goes_on relations counters w z s t (Ok (stepped.Ready first second)) idle g = absurd idle

pub cause_memory : {T : Type 0} (r : Result T Refusal) → IfErr r (λ why. why ≡ refusal.NoMemory) → IfErr r IsCause
cause_memory (Ok x) memory = tt
cause_memory (Err why) memory = inl memory

-- what the test says
pub reading_of : (op : Op) → only_reads op ≡ true → IsReading op
reading_of (Get r k) is = tt
reading_of (Insert r k v) is = absurd cc
reading_of (Update r k v) is = absurd cc
reading_of (Delete r k) is = absurd cc
reading_of (Add c d) is = absurd cc
reading_of (Read c) is = tt
reading_of (Scan r) is = tt

-- ---- a page is locked

module _ {D : Type 0} (g : Ghosts D) (o m : Operations D) (s : OpScope)
    (right : (opening : PageBytes) (relations counters : ℕ) → IsRight g opening relations counters o → IsRight g opening relations counters m)
    (rests : (opening : PageBytes) → Rests (world g opening o) (world g opening m))
    (moments : (opening : PageBytes) → IsKept g opening o.store → LeavesOnly g.moment g.left_since o.store.device m.store.device (Explains opening o.store))
    (reads : ReadsOnce g o.store.device m.store.device)
    (log : m.store.log ≡ o.store.log) (map : m.map ≡ o.map) (locks : m.locks ≡ o.locks) (rooms : m.rooms ≡ o.rooms) where
  -- nothing but what is in frames has changed
  pub idle_locks : (r : Result Stepped Refusal) → IsIdle r → (r ≡ Ok stepped.Flush → IsFull o.store.pool × (m ≡ o)) → IfErr r IsCause
      → ReportsFaults (g.faults o.store.device) (g.faults m.store.device) r → LocksPage g o m s s r
  idle_locks r idle full why outcome = record {
    goes = λ opening relations counters ok k.
        (right opening relations counters ok, idle_goes_on relations counters (world g opening o) (world g opening m) s s r idle (rests_goes_as relations counters (world g opening o) (world g opening m) s (rests opening) k));
    moments = moments;
    log = log;
    map = map;
    same = record { op = refl; stage = refl; changes = refl; written = refl; left = refl };
    full = full;
    work = idle_works s r idle;
    locks = same_keeps s.number (IsNext o.rooms o.locks s) o.locks m.locks r (idle_asks r idle) locks;
    scope = same_scope s r (idle_asks r idle);
    why = why;
    faults = outcome;
    reads = reads;
  }

  -- it is asked for behind it
  pub locks_behind : (n : Operations D) (t : OpScope) (r : Result Stepped Refusal)
      → ((opening : PageBytes) (relations counters : ℕ) → IsRight g opening relations counters m → IsUnderWay relations counters (world g opening m) s
      → IsRight g opening relations counters n × GoesOn relations counters (world g opening m) (world g opening n) s t r)
      → n.store ≡ m.store → n.map ≡ m.map → IsAsFar s t → (r ≡ Ok stepped.Flush → ⊥) → Works s t r → KeepsLocks s.number (IsNext m.rooms m.locks s) m.locks n.locks r → KeepsScope s t r → IfErr r (λ why. why ≡ refusal.NoMemory) → g.faults m.store.device ≡ g.faults o.store.device
      → LocksPage g o n s t r
  locks_behind n t r goes store same_map same never work keeps scope memory unfailed = record {
    goes = λ opening relations counters ok k.
        let w = world g opening o in let x = world g opening m in
        let gone = goes opening relations counters (right opening relations counters ok) (rests_own relations counters w x s (rests opening) k) in
        (gone.0, goes_on_behind relations counters w x (world g opening n) s t r (rests opening) gone.1);
    moments = λ opening kept. subst (λ (x : Store D). LeavesOnly g.moment g.left_since o.store.device x.device (Explains opening o.store)) (sym store) (moments opening kept);
    log = ap (λ (x : Store D). x.log) store ∙ log;
    map = same_map ∙ map;
    same = same;
    full = λ is. absurd (never is);
    work = work;
    locks = subst (λ (x : Rooms). KeepsLocks s.number (IsNext x o.locks s) o.locks n.locks r) rooms (subst (λ (ls : List PageLock). KeepsLocks s.number (IsNext m.rooms ls s) ls n.locks r) locks keeps);
    scope = scope;
    why = cause_memory r memory;
    faults = reported_behind (g.faults o.store.device) (g.faults m.store.device) (g.faults n.store.device) r unfailed (no_fault (g.faults m.store.device) (g.faults n.store.device) r memory (ap (λ (x : Store D). g.faults x.device) store));
    reads = subst (λ (x : Store D). ReadsOnce g o.store.device x.device) (sym store) reads;
  }

-- ---- a step that plans

-- an answer, and the same of a step that plans
none_some : (r : Result Stepped Refusal) (q : Result (Option Stepped) Refusal) (a : Stepped) → r ≡ Ok a → q ≡ Ok (Some a) → r ≡ Ok stepped.Flush → q ≡ Ok (Some stepped.Flush)
none_some r q a is too flush = cc

some_none : (r : Result Stepped Refusal) (q : Result (Option Stepped) Refusal) (a : Stepped) → r ≡ Ok a → q ≡ Ok (Some a) → q ≡ Ok (Some stepped.Flush) → r ≡ Ok stepped.Flush
some_none r q a is too flush = cc

-- as far as before, it has what it needs
far_budget : (s t : OpScope) → IsAsFar s t → s.stage ≡ Planning → HasBudget s → HasBudget t
far_budget s t m planning k =
    let was : (if only_reads s.op then 0 else 106496) ≤ s.left = subst (λ (g : Stage). needs s g ≤ s.left) planning k.enough in
    record {
      enough = subst (λ (g : Stage). needs t g ≤ t.left) (sym (m.stage ∙ planning)) (subst (λ (X : Type 0). X) (λ i. (if only_reads (sym m.op i) then 0 else 106496) ≤ sym m.left i) was);
      reads = λ is. ap (λ cs. cs.list.items) m.changes ∙ k.reads (ap (λ (x : Op). only_reads x) (sym m.op) ∙ is);
    }

-- the page that it was led to is full, and it is led to none
pub unled_goes : (relations counters : ℕ) (w : World) (s : OpScope) → s.stage ≡ Planning → IsUnderWay relations counters w s → Goes relations counters w w s (record s { room = None })
unled_goes relations counters w s planning k =
    let t : OpScope = record s { room = None } in
    let at = planning_of relations counters w s planning k in
    let op : SameOp s t = record { txn = refl; number = refl; op = refl; undoes = refl; split = refl; total = refl } in
    let now : IsPlanning w t = record {
      sees = record { saw = at.sees.saw; named = λ p is. absurd cc };
      unended = open_same w s t op at.unended;
      nothing = at.nothing;
      searched = at.searched;
      none_written = at.none_written;
      none_standing = at.none_standing;
    } in
    record {
      own = own_kept relations counters w w s t op refl refl refl refl k (subst (IsAt relations counters w t) (sym planning) now);
      others = λ u ku other. ku;
      held = refl;
      same = op;
    }

module _ {D : Type 0} (g : Ghosts D) (o : Operations D) (s : OpScope) where
  -- nothing is planned for want of memory
  pub refused_plan : ((opening : PageBytes) → IsKept g opening o.store → LeavesOnly g.moment g.left_since o.store.device o.store.device (Explains opening o.store)) → s.stage ≡ Planning → HasBudget s
      → PlansOn g o o s s (Err refusal.NoMemory)
  refused_plan moments planning budget = record {
    goes = λ opening relations counters right k few. (right, rests_goes_as relations counters (world g opening o) (world g opening o) s (rests_same (world g opening o)) k);
    moments = moments;
    made = λ is. absurd cc;
    log = refl;
    map = refl;
    left = refl;
    budget = budget;
    full = λ is. absurd cc;
    stage = λ not. planning;
    work = omega arith;
    locks = refl;
    scope = inl (stays_same s);
    why = inl refl;
    faults = no_fault (g.faults o.store.device) (g.faults o.store.device) (Err refusal.NoMemory) refl refl;
    reads = reads_nothing g o.store.device o.store.device refl;
  }

module _ {D : Type 0} (g : Ghosts D) (o n : Operations D) (s t : OpScope) (planning : s.stage ≡ Planning) where
  pub locked_some : (a : Stepped) → HasBudget s → LocksPage g o n s t (Ok a) → PlansOn g o n s t (Ok (Some a))
  locked_some a budget l = record {
    goes = λ opening relations counters right k few. l.goes opening relations counters right k;
    moments = l.moments;
    made = λ is. absurd cc;
    log = l.log;
    map = l.map;
    left = l.same.left;
    budget = far_budget s t l.same planning budget;
    full = λ is. l.full (some_none (Ok a) (Ok (Some a)) a refl refl is);
    stage = λ not. l.same.stage ∙ planning;
    work = l.work;
    locks = l.locks;
    scope = l.scope;
    why = tt;
    faults = reported_ok (g.faults o.store.device) (g.faults n.store.device) (Ok a) a (Some a) refl l.faults;
    reads = l.reads;
  }

  pub locked_err : (why : Refusal) → HasBudget s → LocksPage g o n s t (Err why) → PlansOn g o n s t (Err why)
  locked_err why budget l = record {
    goes = λ opening relations counters right k few. l.goes opening relations counters right k;
    moments = l.moments;
    made = λ is. absurd cc;
    log = l.log;
    map = l.map;
    left = l.same.left;
    budget = far_budget s t l.same planning budget;
    full = λ is. absurd cc;
    stage = λ not. l.same.stage ∙ planning;
    work = l.work;
    locks = l.locks;
    scope = l.scope;
    why = l.why;
    faults = reported_err (g.faults o.store.device) (g.faults n.store.device) (Err why) (Err why) why refl refl l.faults;
    reads = l.reads;
  }

-- ---- a page of the plan is locked to be written

module _ {D : Type 0} (g : Ghosts D) (o n : Operations D) (s t : OpScope) (planning : s.stage ≡ Planning) (budget : HasBudget s) where
  pub taken_some : (a : Stepped) → TakesLock g o n s t (Ok a) → KeepsPlan g o n s t (Ok (Some a))
  taken_some a l = record {
    goes = λ opening relations counters right k few. l.goes opening relations counters right k;
    store = l.store;
    map = l.map;
    made = λ is. absurd cc;
    left = l.same.left;
    budget = far_budget s t l.same planning budget;
    never = λ is. l.never (some_none (Ok a) (Ok (Some a)) a refl refl is);
    stage = λ not. l.same.stage ∙ planning;
    work = l.work;
    locks = l.locks;
    scope = l.scope;
    only_memory = tt;
  }

  pub taken_err : (why : Refusal) → TakesLock g o n s t (Err why) → KeepsPlan g o n s t (Err why)
  taken_err why l = record {
    goes = λ opening relations counters right k few. l.goes opening relations counters right k;
    store = l.store;
    map = l.map;
    made = λ is. absurd cc;
    left = l.same.left;
    budget = far_budget s t l.same planning budget;
    never = λ is. absurd cc;
    stage = λ not. l.same.stage ∙ planning;
    work = l.work;
    locks = l.locks;
    scope = l.scope;
    only_memory = l.only_memory;
  }

-- ---- what is promised of a step

pub room_still : (old new : Log) (left now : ℕ) → new ≡ old → now ≡ left → used old + left < area_size old → used new + now < area_size new
room_still old new left now log same room = subst (λ (X : Type 0). X) (λ i. used (sym log i) + sym same i < area_size (sym log i)) room

not_writing : (s : OpScope) → s.stage ≡ Planning → s.stage ≡ Writing → ⊥
not_writing s planning writing = cc

module _ {D : Type 0} (g : Ghosts D) (o n : Operations D) (s t : OpScope) where
  pub writes_step : (r : Result Stepped Refusal) → GoesAhead g o n s t r → MakesStep g o n s t r
  writes_step r a = record {
    steps = a.steps;
    moments = a.moments;
    log = a.log;
    area = a.area;
    durable = a.durable;
    budget = a.budget;
    claims = a.claims;
    full = a.full;
    stage = a.stage;
    work = a.work;
    records = a.records;
    locks = same_keeps s.number (IsNext o.rooms o.locks s) o.locks n.locks r a.asks a.locks;
    scope = ahead_scope s t r a.room a.asks a.err a.flush;
    writing = λ writing. a.locks;
    went = λ writing. a.went;
    why = a.why;
    faults = a.faults;
    reads = a.reads;
  }

  -- it is refused while it plans
  pub stopped_step : (why : Refusal) → PlansOn g o n s t (Err why) → MakesStep g o n s t (Err why)
  stopped_step why p = record {
    steps = λ opening relations counters right k few some. p.goes opening relations counters right k few;
    moments = p.moments;
    log = λ i. used (p.log i) + p.left i;
    area = ap (λ (l : Log). area_size l) p.log;
    durable = ap (λ (l : Log). durable l) p.log;
    budget = p.budget;
    claims = ap (λ (x : SpaceMap). reserved_of x.space) p.map;
    full = λ is. absurd cc;
    stage = inl (p.stage (λ is. absurd cc));
    work = p.work;
    records = ap (λ (l : Log). appended l) p.log;
    locks = p.locks;
    scope = p.scope;
    writing = λ writing. p.locks;
    went = λ writing is. absurd cc;
    why = p.why;
    faults = reported_err (g.faults o.store.device) (g.faults n.store.device) (Err why) (Err why) why refl refl p.faults;
    reads = p.reads;
  }

  -- it goes on planning
  pub planned_step : (a : Stepped) → s.stage ≡ Planning → IsUnready (Ok a) → PlansOn g o n s t (Ok (Some a))
      → MakesStep g o n s t (Ok a)
  planned_step a planning unready p = record {
    steps = λ opening relations counters right k few some. let gone = p.goes opening relations counters right k few in (gone.0, on_steps relations counters (world g opening o) (world g opening n) s t (Ok a) gone.1);
    moments = p.moments;
    log = λ i. used (p.log i) + p.left i;
    area = ap (λ (l : Log). area_size l) p.log;
    durable = ap (λ (l : Log). durable l) p.log;
    budget = p.budget;
    claims = on_keeps (Ok a) (own_needs s.op s.split) (claimed o) (claimed n) unready (ap (λ (x : SpaceMap). reserved_of x.space) p.map);
    full = λ is. p.full (none_some (Ok a) (Ok (Some a)) a refl refl is);
    stage = comes_on t.stage (Ok a) unready (inl (p.stage (λ is. absurd cc)));
    work = p.work;
    records = same_records t (appended o.store.log) (appended n.store.log) (Ok a) (ap (λ (l : Log). appended l) p.log);
    locks = p.locks;
    scope = p.scope;
    writing = λ writing. absurd (not_writing s planning writing);
    went = λ writing. absurd (not_writing s planning writing);
    why = tt;
    faults = reported_ok (g.faults o.store.device) (g.faults n.store.device) (Ok (Some a)) (Some a) a refl p.faults;
    reads = p.reads;
  }

  -- its plan is made, and it goes ahead
  pub made_step : (z : Operations D) (u : OpScope) (r : Result Stepped Refusal) → s.stage ≡ Planning → PlansOn g o n s t (Ok None) → GoesAhead g n z t u r
      → MakesStep g o z s u r
  made_step z u r planning p a =
      let made = p.made refl in
      let same : SameOp s t = p.scope.op in
      record {
        steps = λ opening relations counters right k few some.
            let gone = p.goes opening relations counters right k few in
            let ended = a.steps opening relations counters gone.0 gone.1.own few some in
            (ended.0, steps_then relations counters (world g opening o) (world g opening n) (world g opening z) s t u r (ap (λ (l : Log). appended l) p.log) p.scope.room gone.1 ended.1);
        moments = λ opening kept. subst (λ (x : Operations D). IsKept g opening x.store → LeavesOnly g.moment g.left_since x.store.device z.store.device (Explains opening x.store)) made.0 (a.moments opening) kept;
        log = a.log ∙ (λ i. used (p.log i) + p.left i);
        area = a.area ∙ ap (λ (l : Log). area_size l) p.log;
        durable = a.durable ∙ ap (λ (l : Log). durable l) p.log;
        budget = a.budget;
        claims = subst (λ (X : Type 0). X) (λ i. GivesBack (own_needs (same.op i) (same.split i)) (reserved_of (p.map i).space) (claimed z) r) a.claims;
        full = λ is. let f = a.full is in (subst (λ (x : Operations D). IsFull x.store.pool) made.0 f.0, f.1 ∙ made.0);
        stage = a.stage;
        work = works_behind s t u r p.work same.total a.work;
        records = subst (λ (l : Log). KeepsRecords u (appended l) (appended z.store.log) r) p.log a.records;
        locks = same_keeps s.number (IsNext o.rooms o.locks s) o.locks z.locks r a.asks (a.locks ∙ p.locks);
        scope = made_scope s t u r p.scope a.room a.asks a.err a.flush;
        writing = λ writing. absurd (not_writing s planning writing);
        went = λ writing. absurd (not_writing s planning writing);
        why = a.why;
        faults = reported_behind (g.faults o.store.device) (g.faults n.store.device) (g.faults z.store.device) r (ap (λ (x : Operations D). g.faults x.store.device) made.0) a.faults;
        reads = subst (λ (x : Operations D). ReadsOnce g x.store.device z.store.device) made.0 a.reads;
      }
