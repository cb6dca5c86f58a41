use mathlib.Core.Logic.{∥∥₁_elim}
use Rattle.std.proofs.Props.{props}
use Rattle.std.proofs.Common.{rules, ◌≡◌, get_or, set, arith, refl, sym, ap, subst}
use Rattle.std.specs.Vec.{with_item}
use Rattle.std.proofs.Common.{◌∙◌}
use Rattle.std.proofs.lemmas.List.{length-set, get_or_default, get_or-set_same}
use Rattle.mt_op.specs.Moves.{SameOp}
use Rattle.std.proofs.lemmas.List.Sums.{get_or-le-sum_by}
use Rattle.mt_log.specs.Words.{appended}
use Rattle.mt_op.specs.Operations.{world, Steps as OpSteps}
use Rattle.mt_core.specs.Work.{KeepsOthers}
use Rattle.mt_core.proofs.Laboring.{steps_set_other}
use Rattle.mt_core.proofs.Writing.{end_short, writes_once}
use Rattle.mt_op.specs.declared.scope.OpScope.{OpScope}
use Rattle.mt_core.specs.Runs.{IsRunning}
use Rattle.mt_op.specs.World.{left_of}
use Rattle.mt_core.proofs.Advancing.{advanced, needs_claimed, steps_same}
use Rattle.mt_op.specs.Work.{Works}
use Rattle.mt_op.specs.Holds.{IsNext, KeepsLocks}
use Rattle.mt_core.specs.Steps.{StepNamesOther}
use Rattle.mt_core.proofs.Holders.{step_names_other}
use Rattle.mt_core.proofs.Between.{step_appends, step_total}
use Rattle.mt_core.proofs.Lasting.{lasts_same}
use Rattle.mt_core.specs.Restartable.{StepAppends}
use Rattle.mt_core.specs.declared.parts.Core.{Core}
use Rattle.mt_core.proofs.parts.Core.advance.Goals as goal

pub step-requires-clause-right : goal.step-requires-clause-right
step-requires-clause-right g c = ∥∥₁_elim c.requires.safe (hlevel props) (λ (origin, base, safe). let k = c.args.self.now in let r = c.index_mut.result.now in
    let was : IsRunning origin.relations origin.counters (world g.D.Device origin.pages k.operations) k.last r = subst (IsRunning origin.relations origin.counters (world g.D.Device origin.pages k.operations) k.last) (sym c.index_mut.ensures.value) (safe.runs c.args.place r c.requires.within) in
    ∣ (origin.pages, origin.relations, origin.counters, safe.fit.right, was.under, safe.fit.schema.few_relations, safe.fit.schema.few_counters) ∣₁)

pub step-requires-clause-claims : goal.step-requires-clause-claims
step-requires-clause-claims g c = ∥∥₁_elim c.requires.safe (hlevel props) (λ (origin, base, safe).
    needs_claimed g.D.Device origin base c.args.self.now c.args.place c.index_mut.result.now safe c.requires.within c.index_mut.ensures.value)

pub step-requires-clause-stage : goal.step-requires-clause-stage
step-requires-clause-stage g c = c.requires.stage c.index_mut.result.now c.index_mut.ensures.value

pub step-requires-clause-budget : goal.step-requires-clause-budget
step-requires-clause-budget g c = ∥∥₁_elim c.requires.safe (hlevel props) (λ (origin, base, safe). let k = c.args.self.now in let r = c.index_mut.result.now in
    let was : IsRunning origin.relations origin.counters (world g.D.Device origin.pages k.operations) k.last r = subst (IsRunning origin.relations origin.counters (world g.D.Device origin.pages k.operations) k.last) (sym c.index_mut.ensures.value) (safe.runs c.args.place r c.requires.within) in
    was.budget)

pub step-requires-clause-room : goal.step-requires-clause-room
step-requires-clause-room g c = ∥∥₁_elim c.requires.safe (hlevel props) (λ (origin, base, safe). let k = c.args.self.now in let r = c.index_mut.result.now in
    let part = get_or-le-sum_by left_of k.running.items c.args.place r c.requires.within in
    let mine : left_of (get_or k.running.items c.args.place r) ≡ left_of r = ap left_of (sym c.index_mut.ensures.value) in
    let log = safe.fit.log in omega (arith, part, mine, log))

pub returns : goal.returns
returns g c = record {
  length = length-set c.args.self.now.running.items c.args.place (c.step.new.scope);
  same = λ origin base safe x y at now.
      let seen = g.D.Device.seen in let k = c.args.self.now in let r = c.index_mut.result.now in let e = c.step.ensures.steps in
      let q : OpScope = c.step.new.scope in
      let was : IsRunning origin.relations origin.counters (world g.D.Device origin.pages k.operations) k.last r = subst (IsRunning origin.relations origin.counters (world g.D.Device origin.pages k.operations) k.last) (sym c.index_mut.ensures.value) (safe.runs c.args.place r c.requires.within) in
      let went = e.steps origin.pages origin.relations origin.counters safe.fit.right was.under safe.fit.schema.few_relations safe.fit.schema.few_counters in
      let old : r ≡ x = c.index_mut.ensures.value ∙ sym (get_or_default k.running.items c.args.place x r c.requires.within) ∙ sym at in
      let new : q ≡ y = sym (now ∙ get_or-set_same k.running.items c.args.place q y c.requires.within) in
      subst (λ (X : Type 0). X) (λ i. SameOp (old i) (new i)) (steps_same origin.relations origin.counters (world g.D.Device origin.pages k.operations) (world g.D.Device origin.pages c.step.new.self) r q c.step.result went.1);
  live = search rules;
  commits = search rules;
  numbers = search rules;
  full = search rules;
  works = λ x y at now.
      let k = c.args.self.now in let r = c.index_mut.result.now in
      let q : OpScope = c.step.new.scope in
      let old : r ≡ x = c.index_mut.ensures.value ∙ sym (get_or_default k.running.items c.args.place x r c.requires.within) ∙ sym at in
      let new : q ≡ y = sym (now ∙ get_or-set_same k.running.items c.args.place q y c.requires.within) in
      subst (λ (X : Type 0). X) (λ i. Works (old i) (new i) c.step.result) c.step.ensures.steps.work;
  locks = λ x at.
      let k = c.args.self.now in let r = c.index_mut.result.now in
      let old : r ≡ x = c.index_mut.ensures.value ∙ sym (get_or_default k.running.items c.args.place x r c.requires.within) ∙ sym at in
      subst (λ (y : OpScope). KeepsLocks y.number (IsNext k.operations.rooms k.operations.locks y) k.operations.locks c.step.new.self.locks c.step.result) old c.step.ensures.steps.locks;
  why = search rules;
  faults = search rules;
  advances = λ origin base safe.
      let seen = g.D.Device.seen in let k = c.args.self.now in let r = c.index_mut.result.now in let e = c.step.ensures.steps in
      let q : OpScope = c.step.new.scope in
      let was : IsRunning origin.relations origin.counters (world g.D.Device origin.pages k.operations) k.last r = subst (IsRunning origin.relations origin.counters (world g.D.Device origin.pages k.operations) k.last) (sym c.index_mut.ensures.value) (safe.runs c.args.place r c.requires.within) in
      let went = e.steps origin.pages origin.relations origin.counters safe.fit.right was.under safe.fit.schema.few_relations safe.fit.schema.few_counters in
      advanced g.D.Device origin base k (record k { operations = c.step.new.self; running = with_item k.running c.args.place q }) c.args.place r q c.step.result
      c.requires.within c.index_mut.ensures.value refl safe
      (record { right = went.0; steps = went.1; log = e.log; area = e.area; budget = e.budget; claims = e.claims; stage = e.stage; records = e.records; locks = e.locks });
  other = λ origin base safe x at.
      let k = c.args.self.now in let r = c.index_mut.result.now in
      let q : OpScope = c.step.new.scope in
      let old : r ≡ x = c.index_mut.ensures.value ∙ sym (get_or_default k.running.items c.args.place x r c.requires.within) ∙ sym at in
      subst (λ (y : OpScope). StepNamesOther (set k.running.items c.args.place q) y.txn c.step.result) old
      (step_names_other k.running.items c.args.place r q (IsNext k.operations.rooms k.operations.locks r) k.operations.locks c.step.new.self.locks c.step.result c.requires.within c.index_mut.ensures.value safe.fit.apart safe.fit.locked c.step.ensures.steps.locks);
  book = search rules;
  durable = search rules;
  moments = search rules;
  reads = search rules;
  others = λ x at.
      let k = c.args.self.now in let r = c.index_mut.result.now in let e = c.step.ensures.steps in
      let q : OpScope = c.step.new.scope in
      let old : r ≡ x = c.index_mut.ensures.value ∙ sym (get_or_default k.running.items c.args.place x r c.requires.within) ∙ sym at in
      subst (λ (y : OpScope). KeepsOthers y.txn k.running.items (set k.running.items c.args.place q)) old
      (λ u other. ∥∥₁_elim c.requires.safe (hlevel props) (λ (origin, base, safe).
      let w = world g.D.Device origin.pages k.operations in let z = world g.D.Device origin.pages c.step.new.self in
      let was : IsRunning origin.relations origin.counters w k.last r = subst (IsRunning origin.relations origin.counters w k.last) (sym c.index_mut.ensures.value) (safe.runs c.args.place r c.requires.within) in
      let went = e.steps origin.pages origin.relations origin.counters safe.fit.right was.under safe.fit.schema.few_relations safe.fit.schema.few_counters in
      let same : SameOp r q = steps_same origin.relations origin.counters w z r q c.step.result went.1 in
      steps_set_other k.running.items c.args.place r q c.requires.within c.index_mut.ensures.value same.txn u other));
  writes =
      let k = c.args.self.now in let r = c.index_mut.result.now in let e = c.step.ensures.steps in
      let q : OpScope = c.step.new.scope in
      writes_once q (appended k.operations.store.log) (appended c.step.new.self.store.log) c.step.result e.records (λ first second is. ∥∥₁_elim c.requires.safe (hlevel props) (λ (origin, base, safe).
      let w = world g.D.Device origin.pages k.operations in let z = world g.D.Device origin.pages c.step.new.self in
      let was : IsRunning origin.relations origin.counters w k.last r = subst (IsRunning origin.relations origin.counters w k.last) (sym c.index_mut.ensures.value) (safe.runs c.args.place r c.requires.within) in
      let went = e.steps origin.pages origin.relations origin.counters safe.fit.right was.under safe.fit.schema.few_relations safe.fit.schema.few_counters in
      let acted = subst (OpSteps origin.relations origin.counters w z r q) is went.1 in
      end_short r first (appended k.operations.store.log) (appended c.step.new.self.store.log) acted.0.ended));
  appends = λ origin base safe y now.
      let seen = g.D.Device.seen in let k = c.args.self.now in let r = c.index_mut.result.now in let e = c.step.ensures.steps in
      let q : OpScope = c.step.new.scope in
      let n : Core g.row.D.Denot = record k { operations = c.step.new.self; running = with_item k.running c.args.place q } in
      let w = world g.D.Device origin.pages k.operations in let z = world g.D.Device origin.pages c.step.new.self in
      let was : IsRunning origin.relations origin.counters w k.last r = subst (IsRunning origin.relations origin.counters w k.last) (sym c.index_mut.ensures.value) (safe.runs c.args.place r c.requires.within) in
      let went = e.steps origin.pages origin.relations origin.counters safe.fit.right was.under safe.fit.schema.few_relations safe.fit.schema.few_counters in
      let total = step_total origin.relations origin.counters w z r q c.step.result was.under went.1 in
      let new : q ≡ y = sym (now ∙ get_or-set_same k.running.items c.args.place q y c.requires.within) in
      subst (λ (x : OpScope). StepAppends origin k n x c.step.result) new (record {
        area = record { total = total; bytes = e.area; lasts = lasts_same k n e.durable };
        appends = step_appends origin w z r q c.step.result refl refl total went.0.sound went.1 e.records e.stage;
      });
}
