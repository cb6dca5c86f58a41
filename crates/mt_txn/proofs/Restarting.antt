-- A kernel stays one that can be restarted from each beginning of its records.
use Rattle.std.proofs.Common.{◌≡◌, ◌<◌, ◌≤◌, ◌+◌, ◌-◌, ◌++◌, inl, inr, ⊎_elim, ℕ, List, length, take, Result, Ok, Err, refl, sym, ap, ◌∙◌, subst, arith}
use Rattle.std.specs.Prelude.{OnOk, OnErr}
use Rattle.std.proofs.Props.{props}
use Rattle.std.proofs.lemmas.List.{take_all}
use mathlib.Core.Logic.{∥∥₁_elim, ∥∥₁_map, ∥∥₁_prop}
use Rattle.mt_disk.specs.declared.device.Device.{Ghosts}
use Rattle.mt_base.specs.declared.refusal.Refusal.{Refusal}
use Rattle.mt_base.specs.Limits.{IsRelationCount}
use Rattle.mt_frame.specs.declared.records.Record.{Record}
use Rattle.mt_frame.specs.declared.slots.MasterSlot.{MasterSlot}
use Rattle.mt_live.specs.Machine.{State}
use Rattle.mt_log.specs.Batch.{joined}
use Rattle.mt_base.specs.declared.format.Format.{Format}
use Rattle.mt_base.specs.declared.format.Format.TheVariants.{One, Two}
use Rattle.mt_log.proofs.Values.{batches_of_two}
use Rattle.mt_log.specs.Holds.{AreBatchesOf, HoldsBatches}
use Rattle.mt_log.specs.declared.log.Forced.{Forced}
use Rattle.mt_log.specs.declared.log.Forced.TheVariants as forced
use Rattle.mt_log.specs.declared.log.Log.{Log}
use Rattle.mt_log.specs.Steps.{ForceSteps}
use Rattle.mt_log.proofs.Stepped.{stepped}
use Rattle.mt_log.specs.Words.{IsStep, seen_of, appended, durable, area_size, area_start, area_end}
use Rattle.mt_model.specs.History.{after}
use Rattle.mt_model.specs.Model.{Base, base_after}
use Rattle.mt_model.specs.declared.history.Committed.{Committed}
use Rattle.mt_model.specs.declared.operations.Op.{Op}
use Rattle.mt_op.specs.declared.answers.TakenBack.{TakenBack}
use Rattle.mt_op.specs.declared.answers.TakenBack.TheVariants as taken
use Rattle.mt_pool.proofs.Kept.{explains}
use Rattle.mt_pool.specs.Images.{GivesPages}
use Rattle.mt_pool.specs.Kept.{Explains, IsKept, carried}
use Rattle.mt_disk.specs.Disk.{LeavesOnly}
use Rattle.mt_space.specs.Changes.{PageBytes}
use Rattle.mt_log.specs.Masters.{IsRuling, Rules, area_size as size_of, area_start as start_of, area_end as end_of}
use Rattle.mt_replay.specs.Recoverable.{IsRecoverable}
use Rattle.mt_replay.specs.Stands.{CanRestart, StandsFor}
use Rattle.mt_replay.specs.Recorded.{stands_for, recorded_in}
use Rattle.mt_core.proofs.Prefixed.{stands_first, recorded_more}
use Rattle.mt_core.proofs.Restarts.{inverted_consistent}
use Rattle.mt_core.specs.Runs.{state_in}
use Rattle.mt_core.proofs.Recovering.{commits_since, since_legal, after_earlier}
use Rattle.mt_core.specs.Consistent.{Origin, state_of, BacksIn, IsConsistent, IsCalled, IsIn, MayBeCalled, StaysIn}
use Rattle.mt_core.specs.Restartable.{Recovers, StaysRestartable}
use Rattle.mt_core.specs.Steps.{Steps, UndoSteps}
use Rattle.mt_core.specs.declared.calls.Called.{Called}
use Rattle.mt_core.specs.declared.calls.Called.TheVariants as call
use Rattle.mt_core.specs.declared.parts.Core.{Core}
use Rattle.mt_core.specs.declared.steps.Stepping.{Stepping}
use Rattle.mt_core.specs.declared.steps.Stepping.TheVariants.{Going, Ended}
use Rattle.mt_txn.proofs.Showing.{at_place}
use Rattle.mt_txn.proofs.GoingOn.{stands_whole}
use Rattle.mt_txn.specs.Restarted.{all_commits, FindsCommits, FindsMeanwhile}
use Rattle.mt_txn.specs.Well.{IsOrigin, IsRestartableOn, RestartsFrom}

-- an area's bytes, as its slot says them
slot_mib : (c : List ℕ) (slot : MasterSlot) → IsRuling c slot → 4194304 ≤ size_of slot
slot_mib c slot rules = ⊎_elim
    (λ (r : Rules c 0 4096 slot). let mib = r.own.fits.mib.0 in omega (arith, mib))
    (λ (r : Rules c 4096 0 slot). let mib = r.own.fits.mib.0 in omega (arith, mib))
    rules

size_is : (slot : MasterSlot) (log : Log) → start_of slot ≡ area_start log → end_of slot ≡ area_end log → area_size log ≡ size_of slot
size_is slot log start end = sizes (area_start log) (area_end log) (start_of slot) (size_of slot) start end
  where
    sizes : (a b s n : ℕ) → s ≡ a → s + n ≡ b → b - a ≡ n
    sizes a b s n p q = omega (arith, p, q)

-- what a step of a force did, by its answer
pub step_of : (old new : Log) (forced : Forced) (r : Result Forced Refusal) → r ≡ Ok forced → ForceSteps (seen_of old) (seen_of new) r → IsStep old forced new
step_of old new forced r made steps = (stepped old new (Ok forced) (subst (ForceSteps (seen_of old) (seen_of new)) made steps)).step

-- a force that has ended answers the place of the last durable record
pub place_durable : (old new : Log) (place : ℕ) (r : Result Forced Refusal) → r ≡ Ok (forced.Durable place) → ForceSteps (seen_of old) (seen_of new) r → place ≤ length (durable new)
place_durable old new place r is made = let lands = subst (ForceSteps (seen_of old) (seen_of new)) is made in let at = lands.place in omega (arith, at)

module _ {D : Type 0} (g : Ghosts D) where
  -- parts that are consistent become so
  abbrev pub Goes : Core D → Core D → Type 0
  Goes k n = (origin : Origin) (base : Base) → IsConsistent g origin base k → (now : Base) × IsConsistent g origin now n

  pub stays_goes : (k n : Core D) → StaysIn g k n → Goes k n
  stays_goes k n stays origin base safe = (base, (stays origin base safe).consistent)

  pub then_goes : (k m n : Core D) → Goes k m → Goes m n → Goes k n
  then_goes k m n one two origin base safe = let mid = one origin base safe in two origin mid.0 mid.1

  pub or_goes : {T : Type 0} (k n : Core D) (f : State → State) (r : Result T Refusal) → ((origin : Origin) (base : Base) → IsConsistent g origin base k → OnOk r (IsIn g origin base (f (state_of k base)) n)) → OnErr r (n ≡ k) → Goes k n
  or_goes k n f (Ok x) go err origin base safe = (base, (go origin base safe).consistent)
  or_goes k n f (Err y) go err origin base safe = (base, subst (IsConsistent g origin base) (sym err) safe)

  pub either_goes : {T : Type 0} (k n : Core D) (f : State → State) (r : Result T Refusal) → ((origin : Origin) (base : Base) → IsConsistent g origin base k → OnOk r (IsIn g origin base (f (state_of k base)) n))
      → ((origin : Origin) (base : Base) → IsConsistent g origin base k → OnErr r (IsIn g origin base (state_of k base) n)) → Goes k n
  either_goes k n f (Ok x) go err origin base safe = (base, (go origin base safe).consistent)
  either_goes k n f (Err y) go err origin base safe = (base, (err origin base safe).consistent)

  pub step_goes : (k n : Core D) (place : ℕ) (res : Result Stepping Refusal) → place < length k.running.items → ((origin : Origin) (base : Base) → IsConsistent g origin base k → Steps g origin base k n place res) → Goes k n
  step_goes k n place (Ok (Going going)) within go origin base safe = (base, (go origin base safe).consistent)
  step_goes k n place (Err why) within go origin base safe = (base, (go origin base safe).consistent)
  step_goes k n place (Ok (Ended reply)) within go origin base safe = let at = at_place k.running.items place within in (base_after base at.0.op, (go origin base safe at.0 at.1).1.consistent)

  pub undo_goes : (k n : Core D) (place : ℕ) (res : Result Stepping Refusal) → place < length k.running.items → ((origin : Origin) (base : Base) → IsConsistent g origin base k → UndoSteps g origin base k n place res) → Goes k n
  undo_goes k n place (Ok (Going going)) within go origin base safe = (base, (go origin base safe).consistent)
  undo_goes k n place (Err why) within go origin base safe = (base, (go origin base safe).consistent)
  undo_goes k n place (Ok (Ended reply)) within go origin base safe = let at = at_place k.running.items place within in (base_after base at.0.op, inverted_consistent g origin base (state_of k base) n at.0.txn at.0.op (state_in k.live.members at.0.txn) (go origin base safe at.0 at.1).1)

  pub back_goes : (k n : Core D) (place : ℕ) (res : Result TakenBack Refusal) → place < length k.running.items → ((origin : Origin) (base : Base) → IsConsistent g origin base k → BacksIn g origin base k n place res) → Goes k n
  back_goes k n place (Ok taken.More) within go origin base safe = (base, (go origin base safe).consistent)
  back_goes k n place (Ok taken.Flush) within go origin base safe = (base, (go origin base safe).consistent)
  back_goes k n place (Err why) within go origin base safe = (base, (go origin base safe).consistent)
  back_goes k n place (Ok taken.Clear) within go origin base safe = let at = at_place k.running.items place within in (base, (go origin base safe at.0 at.1).leads.consistent)

  called_now : (k n : Core D) (t : ℕ) (op : Op) (res : Result Called Refusal) (origin : Origin) (base : Base) (s : State) → IsCalled g origin base s n t op res → IsConsistent g origin base n
  called_now k n t op (Ok call.Started) origin base s is = is.consistent
  called_now k n t op (Ok (call.Wait holder)) origin base s is = is.consistent
  called_now k n t op (Err why) origin base s is = is.consistent

  module _ (relations counters : ℕ) (first : Base) where
    renewed : (k n : Core D) (origin : Origin) (base later : Base) → IsRestartableOn g relations counters first origin base k → IsConsistent g origin later n → StaysRestartable g k n → IsRestartableOn g relations counters first origin later n
    renewed k n origin base later x now stays = record { is = x.is; bounds = x.bounds; holds = x.holds; consistent = now; restartable = stays origin base later x.consistent now x.restartable }

    pub restarts_on : (k n : Core D) → Goes k n → StaysRestartable g k n → RestartsFrom g relations counters first k → RestartsFrom g relations counters first n
    restarts_on k n go stays r = ∥∥₁_map r (λ (origin, base, x). let y = go origin base x.consistent in (origin, y.0, renewed k n origin base y.0 x y.1 stays))

    pub restarts_called : (k n : Core D) (t : ℕ) (op : Op) (res : Result Called Refusal) → ((origin : Origin) → IsOrigin relations counters origin.first origin → MayBeCalled origin k t op)
        → ((origin : Origin) (base : Base) → IsConsistent g origin base k → MayBeCalled origin k t op → IsCalled g origin base (state_of k base) n t op res) → StaysRestartable g k n
        → RestartsFrom g relations counters first k → RestartsFrom g relations counters first n
    restarts_called k n t op res may go stays r = ∥∥₁_map r (λ (origin, base, x).
        let now = called_now k n t op res origin base (state_of k base) (go origin base x.consistent (may origin (record { relations_are = x.is.relations_are; counters_are = x.is.counters_are; first_is = refl }))) in
        (origin, base, renewed k n origin base base x now stays))

    -- ---- what a restart finds

    -- a restart finds the base that the records represent
    restarted : (k : Core D) (origin : Origin) (base : Base) (c : List ℕ) → IsRestartableOn g relations counters first origin base k → (e : Explains origin.pages k.operations.store c) → IsRelationCount relations → CanRestart relations counters c (stands_for origin.begun (joined e.batches))
    restarted k origin base c x e schema =
        let slot = e.ruling in
        let names = e.names in
        let rules : IsRuling c slot = e.rules in
        let log = k.operations.store.log in
        let front = joined e.batches in
        let size : area_size log ≡ size_of slot = size_is slot log names.start names.end in
        let large : 4194304 ≤ area_size log = let mib = slot_mib c slot rules in omega (arith, mib, size) in
        let recovers : Recovers origin k front = x.restartable.beginnings large front e.beginning.rest (sym e.beginning.of_appended) in
        let mine : IsRecoverable relations counters slot.pages (size_of slot) origin.pages origin.begun front = subst (λ (X : Type 0). X) (λ i. IsRecoverable (x.is.relations_are i) (x.is.counters_are i) (sym names.count i) (size i) origin.pages origin.begun front) recovers in
        let stands : StandsFor c (stands_for origin.begun front) = record {
          slot = slot;
          opening = origin.pages;
          batches = e.batches;
          read = record {
            rules = rules;
            held = subst (λ (X : Type 0). X) (λ i. HoldsBatches c (sym names.start i) (sym names.end i) (sym names.count i) e.batches) e.held;
            of_its_format = subst (λ (f : Format). AreBatchesOf f e.batches) (sym names.second) (batches_of_two _ e.batches e.held.each);
            gives = subst (λ (X : Type 0). X) (λ i. GivesPages (names.place i) (sym names.count i) origin.pages (carried front) c) e.gives;
          };
          first = origin.begun;
          holds = x.holds;
          bounds = x.bounds;
          is = refl;
        } in
        record { stands = stands; is_of = names.second; fits = schema; recoverable = mine; short = λ first. absurd (let both : Two ≡ One = sym names.second ∙ first in cc) }

    found : (k : Core D) (origin : Origin) (base : Base) (c : List ℕ) → IsRestartableOn g relations counters first origin base k → Explains origin.pages k.operations.store c → IsRelationCount relations → FindsCommits relations counters first k c
    found k origin base c x e schema =
        let log = k.operations.store.log in
        let front = joined e.batches in
        let all : appended log ≡ front ++ e.beginning.rest = sym e.beginning.of_appended in
        let recorded_durable : length (recorded_in (durable log)).books ≤ length (recorded_in front).books = subst (λ (rs : List Record). length (recorded_in (durable log)).books ≤ length (recorded_in rs).books) (sym e.beginning.has_durable) (recorded_more (durable log) e.beginning.more) in
        let begun = x.restartable.begun in
        let are_records_of = x.restartable.records in
        let booked = x.restartable.booked in
        record {
          base = stands_for origin.begun front;
          found = restarted k origin base c x e schema;
          count = length origin.earlier + length (recorded_in front).books;
          acknowledged = omega (arith, booked, recorded_durable);
          durable = omega (arith, recorded_durable);
          is = stands_first origin.begun (commits_since g origin base k x.consistent begun are_records_of) (appended log) front e.beginning.rest all are_records_of.recorded.books (since_legal g origin base k x.consistent begun are_records_of)
              ∙ after_earlier g origin base k x.consistent begun are_records_of (length (recorded_in front).books)
              ∙ ap (λ (b : Base). after b (take (length origin.earlier + length (recorded_in front).books) (all_commits k))) x.is.first_is;
        }

    -- where nobody lives, and all records are durable, the whole book
    whole : (k : Core D) (origin : Origin) (base : Base) (c : List ℕ) → length k.live.members ≡ 0 → durable k.operations.store.log ≡ appended k.operations.store.log → IsRestartableOn g relations counters first origin base k → Explains origin.pages k.operations.store c → IsRelationCount relations
        → CanRestart relations counters c (after first k.book.items)
    whole k origin base c nobody forced x e schema =
        subst (CanRestart relations counters c) (stands_whole g relations counters first k origin base nobody x (durable k.operations.store.log) (joined e.batches) e.beginning.more e.beginning.rest forced e.beginning.has_durable (e.beginning.of_appended ∙ sym forced)) (restarted k origin base c x e schema)

    pub finds_whole : (k : Core D) (c : List ℕ) → length k.live.members ≡ 0 → durable k.operations.store.log ≡ appended k.operations.store.log → RestartsFrom g relations counters first k → g.may_leave k.operations.store.device c → IsRelationCount relations → ∥ CanRestart relations counters c (after first k.book.items) ∥₁
    finds_whole k c nobody forced r left schema = ∥∥₁_map r (λ (origin, base, x). whole k origin base c nobody forced x (explains g origin.pages k.operations.store x.consistent.fit.right.kept c left) schema)

    pub finds_commits : (k : Core D) (c : List ℕ) → RestartsFrom g relations counters first k → g.may_leave k.operations.store.device c → IsRelationCount relations → ∥ FindsCommits relations counters first k c ∥₁
    finds_commits k c r left schema = ∥∥₁_map r (λ (origin, base, x). found k origin base c x (explains g origin.pages k.operations.store x.consistent.fit.right.kept c left) schema)

    -- what it finds in what a crash leaves meanwhile
    module _ (only_now : (d : D) (c : List ℕ) → g.left_since d (g.moment d) c → g.may_leave d c) where
      pub meanwhile : (k : Core D) (d : D) → ((opening : PageBytes) → IsKept g opening k.operations.store → LeavesOnly g.moment g.left_since k.operations.store.device d (Explains opening k.operations.store)) → RestartsFrom g relations counters first k → IsRelationCount relations
          → FindsMeanwhile g relations counters first k d
      meanwhile k d explained r schema = record {
        later = ∥∥₁_elim r (hlevel props) (λ (origin, base, x). (explained origin.pages x.consistent.fit.right.kept).later);
        each = λ c left. ∥∥₁_map r (λ (origin, base, x). found k origin base c x ((explained origin.pages x.consistent.fit.right.kept).each c left) schema);
        before = λ t c le left. ∥∥₁_map r (λ (origin, base, x). ⊎_elim
            (λ was. inl was)
            (λ now. inr (found k origin base c x now schema))
            ((explained origin.pages x.consistent.fit.right.kept).before t c le left));
      }

      -- no call of the device was made
      pub no_call : (k : Core D) (d : D) → d ≡ k.operations.store.device → RestartsFrom g relations counters first k → IsRelationCount relations → FindsMeanwhile g relations counters first k d
      no_call k d same r schema = record {
        later = omega (arith, ap g.moment same);
        each = λ c left. finds_commits k c r (only_now k.operations.store.device c (subst (λ (e : D). g.left_since e (g.moment k.operations.store.device) c) same left)) schema;
        before = λ t c le left. ∣ inl (subst (λ (e : D). g.left_since e t c) same left) ∣₁;
      }

      -- and after a run of calls that leaves parts whose commits are those of k
      pub then_finds : (k m : Core D) (d : D) → ((c : List ℕ) → FindsCommits relations counters first m c → ∥ FindsCommits relations counters first k c ∥₁) → FindsMeanwhile g relations counters first k m.operations.store.device → FindsMeanwhile g relations counters first m d
          → FindsMeanwhile g relations counters first k d
      then_finds k m d back one two = record {
        later = let a = one.later in let b = two.later in omega (arith, a, b);
        each = λ c left. ∥∥₁_elim (two.before (g.moment k.operations.store.device) c one.later left) ∥∥₁_prop (⊎_elim
            (λ was. one.each c was)
            (λ f. back c f));
        before = λ t c le left. ∥∥₁_elim (two.before t c (let a = one.later in omega (arith, a, le)) left) ∥∥₁_prop (⊎_elim
            (λ was. one.before t c le was)
            (λ f. ∥∥₁_map (back c f) (λ b. inr b)));
      }

    -- what is found of parts with the same commits, of which as many at least are durable, and with the same book, is found of k
    pub finds_back : (k m : Core D) → all_commits m ≡ all_commits k → m.book.items ≡ k.book.items → (more : List Record) → durable m.operations.store.log ≡ durable k.operations.store.log ++ more → (c : List ℕ) → FindsCommits relations counters first m c → FindsCommits relations counters first k c
    finds_back k m same book more grown c f = record {
      base = f.base;
      found = f.found;
      count = f.count;
      acknowledged = let all = f.acknowledged in let size : length m.book.items ≡ length k.book.items = ap (λ (cs : List Committed). length cs) book in omega (arith, all, size);
      durable = let few = f.durable in let recorded_durable : length (recorded_in (durable k.operations.store.log)).books ≤ length (recorded_in (durable m.operations.store.log)).books = subst (λ (rs : List Record). length (recorded_in (durable k.operations.store.log)).books ≤ length (recorded_in rs).books) (sym grown) (recorded_more (durable k.operations.store.log) more) in omega (arith, few, recorded_durable);
      is = f.is ∙ ap (λ (cs : List Committed). after first (take f.count cs)) same;
    }

    -- where a restart finds what all commits lead to, it finds what some of the first do
    pub finds_all : (k : Core D) (c z : List ℕ) (b : Base) → CanRestart relations counters c b → b ≡ after first (all_commits k) → FindsCommits relations counters first k z → FindsCommits relations counters first k c
    finds_all k c z b can is f = record {
      base = b;
      found = can;
      count = f.count + length (all_commits k);
      acknowledged = let all = f.acknowledged in omega (arith, all);
      durable = let few = f.durable in omega (arith, few);
      is = is ∙ ap (after first) (sym (take_all (f.count + length (all_commits k)) (all_commits k) (omega arith)));
    }
