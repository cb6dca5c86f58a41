use Rattle.std.proofs.Common.{rules, ◌∙◌, inr, refl, sym, subst, ap}
use Rattle.std.specs.Prelude.{Bool, Err, IfErr, Ok, Result, ◌≡◌}
use Rattle.std.proofs.lemmas.List.{get_or_default}
use Rattle.std.proofs.lemmas.Result.{err_from_is_err_and}
use Rattle.mt_base.specs.declared.refusal.Refusal.{Refusal}
use Rattle.mt_base.specs.declared.refusal.Refusal.TheVariants as refusal
use Rattle.mt_log.specs.Words.{durable, used, area_size}
use Rattle.mt_pool.specs.Views.{IsThere}
use Rattle.mt_space.specs.declared.changes.PageChange.{PageChange}
use Rattle.mt_op.specs.World.{changes_in}
use Rattle.mt_op.specs.Stepping.{GoesAhead}
use Rattle.mt_op.specs.declared.answers.Stepped.TheVariants as stepped
use Rattle.mt_op.proofs.Ahead.{idle_ahead, ahead_behind}
use Rattle.mt_op.proofs.Known.{one_rests, writes_on}
use Rattle.mt_op.proofs.Faulting.{no_fault_ok, fault_reported, unfailed}
use Rattle.mt_op.proofs.Known.{known}
use Rattle.mt_op.proofs.operations.Operations.write_next.Goals as goal

pub returns-in_err-bring : goal.returns-in_err-bring
returns-in_err-bring g c = let d = g.D.Device in let f = c.bring.ensures in let o = c.args.self.now in let s = c.args.scope.now in
    let p = err_from_is_err_and c.from_residual.result c.from_residual.ensures.1 in
    record {
      map = f.map;
      stage = c.requires.writing;
      ahead = subst (GoesAhead d o c.bring.new.self s s) (sym (p.1 ∙ ap Err (p.2 ∙ subst (λ (r : Result Bool Refusal). IfErr r (λ why. why ≡ refusal.DeviceFailed)) c.in_err-bring.was c.bring.ensures.only_device)))
          (idle_ahead d o c.bring.new.self s f.right f.rests f.moments f.reads (ap used f.log) (ap area_size f.log) (ap durable f.log) f.map f.locks (Err refusal.DeviceFailed) tt c.requires.writing c.requires.budget
          (λ is. absurd cc) (inr refl) (fault_reported _ _ c.bring.result _ (Err refusal.DeviceFailed) f.cause c.in_err-bring.was refl));
    }

pub returns-then-not-branch : goal.returns-then-not-branch
returns-then-not-branch g c = let d = g.D.Device in let f = c.bring.ensures in
    record {
      map = f.map;
      stage = c.requires.writing;
      ahead = idle_ahead d c.args.self.now c.bring.new.self c.args.scope.now f.right f.rests f.moments f.reads (ap used f.log) (ap area_size f.log) (ap durable f.log) f.map f.locks (Ok stepped.Flush) tt c.requires.writing c.requires.budget
          (λ is. f.full (c.in_ok-bring.was ∙ ap Ok c.if-not-branch.true)) tt (no_fault_ok _ _ _ (unfailed _ _ c.bring.result _ f.cause c.in_ok-bring.was));
    }

pub write_there-requires : goal.write_there-requires
write_there-requires g c = let f = c.bring.ensures in let s = c.args.scope.now in
    record {
      right = one_rests g.D.Device c.args.self.now c.bring.new.self s f.right f.rests c.requires.right;
      writing = c.requires.writing;
      more = c.requires.more;
      there = λ x is.
          let same = c.index.ensures ∙ get_or_default (changes_in s) s.written c.index.result.now x c.requires.more ∙ sym is in
          subst (λ (x : PageChange). IsThere c.bring.new.self.store.pool x.page) same (f.there (c.in_ok-bring.was ∙ ap Ok c.if-not-branch.false));
      budget = c.requires.budget;
      room = search rules;
    }

pub returns : goal.returns
returns g c = let d = g.D.Device in let f = c.bring.ensures in
    record {
      map = c.write_there.ensures.map ∙ f.map;
      stage = c.write_there.ensures.stage;
      ahead = ahead_behind d c.args.self.now c.bring.new.self c.args.scope.now f.right f.rests f.moments f.reads (ap used f.log) (ap area_size f.log) (ap durable f.log) f.map f.locks c.write_there.new.self c.write_there.new.scope c.write_there.result
          c.write_there.ensures.ahead c.write_there.ensures.device c.write_there.ensures.never (unfailed _ _ c.bring.result _ f.cause c.in_ok-bring.was);
    }

pub bring-requires-clause-kept : goal.bring-requires-clause-kept
bring-requires-clause-kept g c = (known g.D.Device c.args.self.now c.args.scope.now c.requires.right).kept

pub bring-requires-clause-inside : goal.bring-requires-clause-inside
bring-requires-clause-inside g c = (writes_on g.D.Device c.args.self.now c.args.scope.now c.requires.right c.requires.writing).inside c.index.result.now c.requires.more c.index.ensures
