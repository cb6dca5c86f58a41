-- A step of a taking back as a whole: where nothing is done, where nothing is left to be done, and where a page is put back.
use Rattle.std.proofs.Common.{◌≡◌, ◌⊎◌, ◌≤◌, ◌+◌, ◌++◌, ℕ, List, inl, refl, sym, ap, ◌∙◌, subst, arith, append-nil}
use Rattle.std.specs.Prelude.{Result, Ok, Err, IfErr, OnErr}
use Rattle.mt_disk.specs.declared.device.Device.{Ghosts}
use Rattle.mt_base.specs.declared.refusal.Refusal.{Refusal}
use Rattle.mt_base.specs.declared.refusal.Refusal.TheVariants as refusal
use Rattle.mt_disk.specs.Disk.{LeavesOnly}
use Rattle.mt_frame.specs.declared.records.Record.{Record}
use Rattle.mt_log.specs.Words.{appended, durable, used, area_size}
use Rattle.mt_log.specs.declared.log.Log.{Log}
use Rattle.mt_space.specs.Changes.{PageBytes}
use Rattle.mt_pool.specs.Kept.{IsKept, Explains}
use Rattle.mt_pool.specs.Views.{IsFull}
use Rattle.mt_space.specs.Rooms.{reserved_of}
use Rattle.mt_pool.specs.Reads.{ReadsOnce}
use Rattle.mt_pool.proofs.Reading.{reads_nothing}
use Rattle.mt_op.specs.Moves.{Rests}
use Rattle.mt_op.specs.Operations.{world, IsRight, HasBudget, IsCause, claimed}
use Rattle.mt_op.specs.Records.{ReportsDropped, dropped_with}
use Rattle.mt_op.specs.Faults.{ReportsFaults}
use Rattle.mt_op.specs.Stepping.{PutsOneBack, TakesStepBack}
use Rattle.mt_op.specs.declared.answers.TakenBack.{TakenBack}
use Rattle.mt_op.specs.declared.answers.TakenBack.TheVariants as taken
use Rattle.mt_op.specs.declared.operations.Operations.{Operations}
use Rattle.mt_op.specs.declared.scope.OpScope.{OpScope}
use Rattle.mt_op.specs.declared.scope.Stage.TheVariants.{Planning, Writing, Taking, Cleared}
use Rattle.mt_space.specs.declared.space_map.SpaceMap.{SpaceMap}
use Rattle.mt_op.proofs.Faulting.{no_fault, no_fault_ok, reported_behind}
use Rattle.mt_op.proofs.Going.{goes_behind}
use Rattle.mt_op.proofs.Restored.{clears_goes}
use Rattle.mt_op.proofs.Staying.{rests_own}
use Rattle.mt_op.proofs.Written.{rests_goes_as}

-- nothing was done: it is refused, or has to wait for a frame
abbrev pub TakesNone : Result TakenBack Refusal → Type 0
TakesNone (Ok taken.Flush) = Unit {0}
TakesNone (Ok taken.More) = ⊥
TakesNone (Ok taken.Clear) = ⊥
TakesNone (Err why) = Unit {0}

none_more : (r : Result TakenBack Refusal) → TakesNone r → r ≡ Ok taken.More → ⊥
none_more r none is = subst TakesNone is none

none_clear : (r : Result TakenBack Refusal) → TakesNone r → r ≡ Ok taken.Clear → ⊥
none_clear r none is = subst TakesNone is none

none_reports : (s : OpScope) (old new : List Record) (r : Result TakenBack Refusal) → TakesNone r → new ≡ old → ReportsDropped s old new r
none_reports s old new (Ok taken.Flush) none same = same
none_reports s old new (Ok taken.More) none same = absurd none
none_reports s old new (Ok taken.Clear) none same = absurd none
none_reports s old new (Err why) none same = same

none_same : (s : OpScope) (r : Result TakenBack Refusal) → OnErr r (s ≡ s)
none_same s (Ok x) = tt
none_same s (Err why) = refl

cause_of : (r : Result TakenBack Refusal) → IfErr r (λ why. why ≡ refusal.NoMemory) → IfErr r IsCause
cause_of (Ok x) memory = tt
cause_of (Err why) memory = inl memory

module _ {D : Type 0} (g : Ghosts D) (o : Operations D) (s : OpScope) where
  -- no page stands
  pub no_page_stands : ((opening : PageBytes) → IsKept g opening o.store → LeavesOnly g.moment g.left_since o.store.device o.store.device (Explains opening o.store)) → s.standing ≤ 8
      → (s.stage ≡ Planning) ⊎ ((s.stage ≡ Writing) ⊎ (s.stage ≡ Taking)) → s.standing ≡ 0 → HasBudget s
      → TakesStepBack g o o s (record s { stage = Cleared }) (Ok taken.Clear)
  no_page_stands moments few stage none budget = record {
    goes = λ opening relations counters right k. (right, clears_goes relations counters (world g opening o) s k stage none);
    moments = moments;
    more = λ is. absurd cc;
    clear = λ is. (refl, omega arith);
    few = few;
    log = refl;
    area = refl;
    durable = refl;
    claimed = refl;
    records = sym (append-nil (appended o.store.log)) ∙ ap (λ (n : ℕ). appended o.store.log ++ dropped_with s.txn s.number n) (sym none);
    locks = refl;
    budget = record { enough = omega arith; reads = budget.reads };
    err = tt;
    flush = λ is. absurd cc;
    full = λ is. absurd cc;
    why = tt;
    faults = no_fault_ok (g.faults o.store.device) (g.faults o.store.device) taken.Clear refl;
    reads = reads_nothing g o.store.device o.store.device refl;
  }

module _ {D : Type 0} (g : Ghosts D) (o m : Operations D) (s : OpScope)
    (right : (opening : PageBytes) (relations counters : ℕ) → IsRight g opening relations counters o → IsRight g opening relations counters m)
    (rests : (opening : PageBytes) → Rests (world g opening o) (world g opening m))
    (moments : (opening : PageBytes) → IsKept g opening o.store → LeavesOnly g.moment g.left_since o.store.device m.store.device (Explains opening o.store))
    (reads : ReadsOnce g o.store.device m.store.device)
    (log : m.store.log ≡ o.store.log) (map : m.map ≡ o.map) (locks : m.locks ≡ o.locks) (few : s.standing ≤ 8) where
  same_claims : claimed m ≡ claimed o
  same_claims = ap (λ (x : SpaceMap). reserved_of x.space) map

  -- nothing but what is in frames has changed
  pub takes_none : (r : Result TakenBack Refusal) → TakesNone r → HasBudget s → (r ≡ Ok taken.Flush → IsFull o.store.pool × (m ≡ o)) → IfErr r IsCause → ReportsFaults (g.faults o.store.device) (g.faults m.store.device) r
      → TakesStepBack g o m s s r
  takes_none r none budget full why outcome = record {
    goes = λ opening relations counters ok k. (right opening relations counters ok, rests_goes_as relations counters (world g opening o) (world g opening m) s (rests opening) k);
    moments = moments;
    more = λ is. absurd (none_more r none is);
    clear = λ is. absurd (none_clear r none is);
    few = few;
    log = ap (λ (l : Log). used l + s.left) log;
    area = ap (λ (l : Log). area_size l) log;
    durable = ap (λ (l : Log). durable l) log;
    claimed = same_claims;
    records = none_reports s (appended o.store.log) (appended m.store.log) r none (ap (λ (l : Log). appended l) log);
    locks = locks;
    budget = budget;
    err = none_same s r;
    flush = λ is. refl;
    full = full;
    why = why;
    faults = outcome;
    reads = reads;
  }

  -- a page that is in a frame is put back
  pub takes_behind : (n : Operations D) (t : OpScope) (r : Result TakenBack Refusal) → PutsOneBack g m n s t r → g.faults m.store.device ≡ g.faults o.store.device → TakesStepBack g o n s t r
  takes_behind n t r b unfailed = record {
    goes = λ opening relations counters ok k.
        let w = world g opening o in let x = world g opening m in
        let gone = b.goes opening relations counters (right opening relations counters ok) (rests_own relations counters w x s (rests opening) k) in
        (gone.0, goes_behind relations counters w x (world g opening n) s t (rests opening) gone.1);
    moments = λ opening kept. subst (λ (d : D). LeavesOnly g.moment g.left_since o.store.device d (Explains opening o.store)) (sym b.device) (moments opening kept);
    more = b.more;
    clear = b.clear;
    few = few;
    log = b.log ∙ ap (λ (l : Log). used l + s.left) log;
    area = b.area ∙ ap (λ (l : Log). area_size l) log;
    durable = b.durable ∙ ap (λ (l : Log). durable l) log;
    claimed = ap (λ (x : SpaceMap). reserved_of x.space) b.map ∙ same_claims;
    records = subst (λ (l : Log). ReportsDropped s (appended l) (appended n.store.log) r) log b.records;
    locks = b.locks ∙ locks;
    budget = b.budget;
    err = b.err;
    flush = λ is. absurd (b.never is);
    full = λ is. absurd (b.never is);
    why = cause_of r b.only_memory;
    faults = reported_behind (g.faults o.store.device) (g.faults m.store.device) (g.faults n.store.device) r unfailed (no_fault (g.faults m.store.device) (g.faults n.store.device) r b.only_memory (ap g.faults b.device));
    reads = subst (ReadsOnce g o.store.device) (sym b.device) reads;
  }
