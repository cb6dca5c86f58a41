use mathlib.Core.Logic.{∥∥₁_elim}
use Rattle.std.proofs.Props.{props}
use Rattle.std.proofs.Common.{rules, refl, sym, subst}
use Rattle.std.specs.Vec.{with_item}
use Rattle.mt_op.specs.Operations.{world}
use Rattle.mt_op.specs.declared.scope.OpScope.{OpScope}
use Rattle.mt_core.specs.Runs.{IsRunning}
use Rattle.mt_core.proofs.Writing.{back_writes}
use Rattle.mt_core.proofs.Dropping.{gone_back}
use mathlib.Core.Logic.{∥∥₁_map}
use Rattle.std.proofs.Common.{◌≡◌, get_or, set, ap, arith}
use Rattle.std.proofs.lemmas.List.Sums.{get_or-le-sum_by}
use Rattle.mt_op.specs.World.{left_of}
use Rattle.mt_core.proofs.Sounds.{moving_of}
use Rattle.std.proofs.Common.{◌∙◌}
use Rattle.std.proofs.lemmas.List.{length-set, get_or_default, get_or-set_same}
use Rattle.mt_op.specs.Moves.{SameOp}
use Rattle.mt_core.specs.Work.{LeavesStanding}
use Rattle.mt_core.proofs.Undoing.{puts_back}
use Rattle.mt_core.proofs.Between.{back_appends, goes_total}
use Rattle.mt_core.proofs.Lasting.{lasts_same}
use Rattle.mt_core.proofs.Laboring.{steps_set_other}
use Rattle.mt_core.specs.Work.{KeepsOthers}
use Rattle.mt_core.specs.declared.parts.Core.{Core}
use Rattle.mt_core.proofs.parts.Core.take_back.Goals as goal

pub take_back-requires-clause-right : goal.take_back-requires-clause-right
take_back-requires-clause-right g c = ∥∥₁_elim c.requires.safe (hlevel props) (λ (origin, base, safe). let k = c.args.self.now in let r = c.index_mut.result.now in
    let was : IsRunning origin.relations origin.counters (world g.D.Device origin.pages k.operations) k.last r = subst (IsRunning origin.relations origin.counters (world g.D.Device origin.pages k.operations) k.last) (sym c.index_mut.ensures.value) (safe.runs c.args.place r c.requires.within) in
    ∣ (origin.pages, origin.relations, origin.counters, safe.fit.right, was.under) ∣₁)

pub take_back-requires-clause-stage : goal.take_back-requires-clause-stage
take_back-requires-clause-stage g c = moving_of c.index_mut.result.now.stage (∥∥₁_map c.requires.safe (λ (origin, base, safe). let k = c.args.self.now in let r = c.index_mut.result.now in
    let was : IsRunning origin.relations origin.counters (world g.D.Device origin.pages k.operations) k.last r = subst (IsRunning origin.relations origin.counters (world g.D.Device origin.pages k.operations) k.last) (sym c.index_mut.ensures.value) (safe.runs c.args.place r c.requires.within) in
    was.moving))

pub take_back-requires-clause-budget : goal.take_back-requires-clause-budget
take_back-requires-clause-budget g c = ∥∥₁_elim c.requires.safe (hlevel props) (λ (origin, base, safe). let k = c.args.self.now in let r = c.index_mut.result.now in
    let was : IsRunning origin.relations origin.counters (world g.D.Device origin.pages k.operations) k.last r = subst (IsRunning origin.relations origin.counters (world g.D.Device origin.pages k.operations) k.last) (sym c.index_mut.ensures.value) (safe.runs c.args.place r c.requires.within) in
    was.budget)

pub take_back-requires-clause-room : goal.take_back-requires-clause-room
take_back-requires-clause-room g c = ∥∥₁_elim c.requires.safe (hlevel props) (λ (origin, base, safe). let k = c.args.self.now in let r = c.index_mut.result.now in
    let part = get_or-le-sum_by left_of k.running.items c.args.place r c.requires.within in
    let mine : left_of (get_or k.running.items c.args.place r) ≡ left_of r = ap left_of (sym c.index_mut.ensures.value) in
    let log = safe.fit.log in omega (arith, part, mine, log))

pub returns : goal.returns
returns g c = record {
  live = search rules;
  commits = search rules;
  numbers = search rules;
  locks = search rules;
  full = search rules;
  length = length-set c.args.self.now.running.items c.args.place (c.take_back.new.scope);
  same = λ origin base safe x y at now.
      let seen = g.D.Device.seen in let k = c.args.self.now in let r = c.index_mut.result.now in let e = c.take_back.ensures.back in
      let q : OpScope = c.take_back.new.scope in
      let was : IsRunning origin.relations origin.counters (world g.D.Device origin.pages k.operations) k.last r = subst (IsRunning origin.relations origin.counters (world g.D.Device origin.pages k.operations) k.last) (sym c.index_mut.ensures.value) (safe.runs c.args.place r c.requires.within) in
      let gone = e.goes origin.pages origin.relations origin.counters safe.fit.right was.under in
      let old : r ≡ x = c.index_mut.ensures.value ∙ sym (get_or_default k.running.items c.args.place x r c.requires.within) ∙ sym at in
      let new : q ≡ y = sym (now ∙ get_or-set_same k.running.items c.args.place q y c.requires.within) in
      subst (λ (X : Type 0). X) (λ i. SameOp (old i) (new i)) gone.1.same;
  puts = λ x y at now.
      let k = c.args.self.now in let r = c.index_mut.result.now in let e = c.take_back.ensures.back in
      let q : OpScope = c.take_back.new.scope in
      let old : r ≡ x = c.index_mut.ensures.value ∙ sym (get_or_default k.running.items c.args.place x r c.requires.within) ∙ sym at in
      let new : q ≡ y = sym (now ∙ get_or-set_same k.running.items c.args.place q y c.requires.within) in
      subst (λ (X : Type 0). X) (λ i. LeavesStanding (old i) (new i) c.take_back.result) (puts_back r q c.take_back.result (λ is. (e.more is).1) e.flush e.err);
  writes = back_writes c.index_mut.result.now _ _ c.take_back.result c.take_back.ensures.back.records;
  why = search rules;
  faults = search rules;
  back = λ origin base safe.
      let seen = g.D.Device.seen in let k = c.args.self.now in let r = c.index_mut.result.now in let e = c.take_back.ensures.back in
      let q : OpScope = c.take_back.new.scope in
      let was : IsRunning origin.relations origin.counters (world g.D.Device origin.pages k.operations) k.last r = subst (IsRunning origin.relations origin.counters (world g.D.Device origin.pages k.operations) k.last) (sym c.index_mut.ensures.value) (safe.runs c.args.place r c.requires.within) in
      let gone = e.goes origin.pages origin.relations origin.counters safe.fit.right was.under in
      gone_back g.D.Device origin base k (record k { operations = c.take_back.new.self; running = with_item k.running c.args.place q }) c.args.place r q c.take_back.result
      c.requires.within c.index_mut.ensures.value refl safe was.moving (c.requires.aborting r c.index_mut.ensures.value)
      (record { right = gone.0; goes = gone.1; log = e.log; area = e.area; budget = e.budget; claims = e.claimed; records = e.records; locks = e.locks })
      (λ is. (e.more is).0) (λ is. (e.clear is).0) e.flush e.err;
  book = search rules;
  durable = search rules;
  moments = search rules;
  reads = search rules;
  others = λ x at.
      let k = c.args.self.now in let r = c.index_mut.result.now in let e = c.take_back.ensures.back in
      let q : OpScope = c.take_back.new.scope in
      let old : r ≡ x = c.index_mut.ensures.value ∙ sym (get_or_default k.running.items c.args.place x r c.requires.within) ∙ sym at in
      subst (λ (y : OpScope). KeepsOthers y.txn k.running.items (set k.running.items c.args.place q)) old
      (λ u other. ∥∥₁_elim c.requires.safe (hlevel props) (λ (origin, base, safe).
      let w = world g.D.Device origin.pages k.operations in
      let was : IsRunning origin.relations origin.counters w k.last r = subst (IsRunning origin.relations origin.counters w k.last) (sym c.index_mut.ensures.value) (safe.runs c.args.place r c.requires.within) in
      let gone = e.goes origin.pages origin.relations origin.counters safe.fit.right was.under in
      let same : SameOp r q = gone.1.same in
      steps_set_other k.running.items c.args.place r q c.requires.within c.index_mut.ensures.value same.txn u other));
  appends = λ origin base safe.
      let seen = g.D.Device.seen in let k = c.args.self.now in let r = c.index_mut.result.now in let e = c.take_back.ensures.back in
      let w = world g.D.Device origin.pages k.operations in let z = world g.D.Device origin.pages c.take_back.new.self in
      let was : IsRunning origin.relations origin.counters w k.last r = subst (IsRunning origin.relations origin.counters w k.last) (sym c.index_mut.ensures.value) (safe.runs c.args.place r c.requires.within) in
      let gone = e.goes origin.pages origin.relations origin.counters safe.fit.right was.under in
      let n : Core g.row.D.Denot = record k { operations = c.take_back.new.self; running = with_item k.running c.args.place (c.take_back.new.scope) } in
      record {
        area = record { total = goes_total origin.relations origin.counters w z r c.take_back.new.scope was.under gone.1; bytes = e.area; lasts = lasts_same k n e.durable };
        appends = back_appends origin.relations origin.counters w z r c.take_back.new.scope c.take_back.result refl gone.1 e.records;
      };
}
