use Rattle.std.proofs.Props.{props}
use mathlib.Core.Logic.{∥∥₁_elim}
use Rattle.std.proofs.Common.{rules, ◌≤◌, ◌<◌, ◌-◌, length, inr, refl, sym, subst, arith, ◌∙◌, ap}
use Rattle.std.specs.Prelude.{Bool, Err, IfErr, Ok, Result, ◌≡◌}
use Rattle.std.proofs.lemmas.Result.{err_from_is_err_and}
use Rattle.mt_base.specs.declared.refusal.Refusal.{Refusal}
use Rattle.mt_base.specs.declared.refusal.Refusal.TheVariants as refusal
use Rattle.mt_op.specs.World.{changes_in}
use Rattle.mt_op.specs.Operations.{world}
use Rattle.mt_op.specs.declared.answers.TakenBack.TheVariants as taken
use Rattle.mt_op.specs.Stepping.{TakesStepBack}
use Rattle.mt_op.proofs.Back.{takes_none, takes_behind, no_page_stands}
use Rattle.mt_op.proofs.Known.{one_rests}
use Rattle.mt_op.proofs.Restored.{few_stand, some_stand, standing_one, returnable_one}
use Rattle.mt_op.proofs.Faulting.{no_fault_ok, fault_reported, unfailed}
use Rattle.mt_pool.proofs.Kept.{no_call}
use Rattle.mt_op.proofs.Known.{Changing-prop}
use Rattle.mt_op.proofs.Known.{known}
use Rattle.mt_op.proofs.operations.Operations.take_back.Goals as goal

pub returns-then-scope-eq0 : goal.returns-then-scope-eq0
returns-then-scope-eq0 g c = let d = g.D.Device in
    let few : c.args.scope.now.standing ≤ 8 = ∥∥₁_elim c.requires.right (hlevel props) (λ (opening, relations, counters, right, k). few_stand relations counters (world d opening c.args.self.now) c.args.scope.now k c.requires.stage) in
    record {
      back = no_page_stands d c.args.self.now c.args.scope.now
          (λ opening kept. no_call d opening c.args.self.now.store kept g.met.D.Device.only_now)
          few c.requires.stage c.if-scope-eq0.true c.requires.budget;
    }

pub returns-in_err-bring : goal.returns-in_err-bring
returns-in_err-bring g c = let d = g.D.Device in let f = c.bring.ensures in let o = c.args.self.now in let s = c.args.scope.now in
    let few : c.args.scope.now.standing ≤ 8 = ∥∥₁_elim c.requires.right (hlevel props) (λ (opening, relations, counters, right, k). few_stand relations counters (world d opening c.args.self.now) c.args.scope.now k c.requires.stage) in
    let p = err_from_is_err_and c.from_residual.result c.from_residual.ensures.1 in
    record {
      back = subst (TakesStepBack d o c.bring.new.self s s) (sym (p.1 ∙ ap Err (p.2 ∙ subst (λ (r : Result Bool Refusal). IfErr r (λ why. why ≡ refusal.DeviceFailed)) c.in_err-bring.was c.bring.ensures.only_device)))
          (takes_none d o c.bring.new.self s f.right f.rests f.moments f.reads f.log f.map f.locks
          few (Err refusal.DeviceFailed) tt c.requires.budget
          (λ is. absurd cc) (inr refl) (fault_reported _ _ c.bring.result _ (Err refusal.DeviceFailed) f.cause c.in_err-bring.was refl));
    }

pub returns-then-not-branch : goal.returns-then-not-branch
returns-then-not-branch g c = let d = g.D.Device in let f = c.bring.ensures in let o = c.args.self.now in let s = c.args.scope.now in
    let few : c.args.scope.now.standing ≤ 8 = ∥∥₁_elim c.requires.right (hlevel props) (λ (opening, relations, counters, right, k). few_stand relations counters (world d opening c.args.self.now) c.args.scope.now k c.requires.stage) in
    record {
      back = takes_none d o c.bring.new.self s f.right f.rests f.moments f.reads f.log f.map f.locks
          few (Ok taken.Flush) tt c.requires.budget
          (λ is. f.full (c.in_ok-bring.was ∙ ap Ok c.if-not-branch.true)) tt (no_fault_ok _ _ _ (unfailed _ _ c.bring.result _ f.cause c.in_ok-bring.was));
    }

pub put_last_back-requires : goal.put_last_back-requires
put_last_back-requires g c = let f = c.bring.ensures in let s = c.args.scope.now in
    let zero_not = c.if-scope-eq0.false in
    record {
      right = one_rests g.D.Device c.args.self.now c.bring.new.self s f.right f.rests c.requires.right;
      stage = ∥∥₁_elim c.requires.right (Changing-prop s) (λ (opening, relations, counters, right, k). some_stand relations counters (world g.D.Device opening c.args.self.now) s k c.requires.stage zero_not);
      some = omega arith;
      page = (c.index.result.now, c.index.ensures, refl);
      there = f.there (c.in_ok-bring.was ∙ ap Ok c.if-not-branch.false);
      budget = c.requires.budget;
      room = search rules;
    }

pub returns : goal.returns
returns g c = let d = g.D.Device in let f = c.bring.ensures in let o = c.args.self.now in let s = c.args.scope.now in
    let few : c.args.scope.now.standing ≤ 8 = ∥∥₁_elim c.requires.right (hlevel props) (λ (opening, relations, counters, right, k). few_stand relations counters (world d opening c.args.self.now) c.args.scope.now k c.requires.stage) in
    record {
      back = takes_behind d o c.bring.new.self s f.right f.rests f.moments f.reads f.log f.map f.locks
          few c.put_last_back.new.self c.put_last_back.new.scope c.put_last_back.result c.put_last_back.ensures (unfailed _ _ c.bring.result _ f.cause c.in_ok-bring.was);
    }

pub bring-requires-clause-kept : goal.bring-requires-clause-kept
bring-requires-clause-kept g c = (known g.D.Device c.args.self.now c.args.scope.now c.requires.right).kept

pub index-requires : goal.index-requires
index-requires g c = let zero_not = c.if-scope-eq0.false in let place : c.args.scope.now.standing - 1 < length (changes_in c.args.scope.now) = (standing_one g.D.Device c.args.self.now c.args.scope.now c.requires.right (∥∥₁_elim c.requires.right (Changing-prop c.args.scope.now) (λ (opening, relations, counters, right, k). some_stand relations counters (world g.D.Device opening c.args.self.now) c.args.scope.now k c.requires.stage c.if-scope-eq0.false)) (omega arith)).place in search rules

pub bring-requires-clause-inside : goal.bring-requires-clause-inside
bring-requires-clause-inside g c = let zero_not = c.if-scope-eq0.false in (returnable_one g.D.Device c.args.self.now c.args.scope.now c.index.result.now c.requires.right (∥∥₁_elim c.requires.right (Changing-prop c.args.scope.now) (λ (opening, relations, counters, right, k). some_stand relations counters (world g.D.Device opening c.args.self.now) c.args.scope.now k c.requires.stage c.if-scope-eq0.false)) (omega arith) c.index.ensures).inside
