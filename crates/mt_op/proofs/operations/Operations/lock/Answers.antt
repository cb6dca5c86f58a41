use Rattle.mt_base.specs.declared.refusal.Refusal.{Refusal}
use Rattle.mt_base.specs.declared.refusal.Refusal.TheVariants as refusal
use Rattle.std.specs.Prelude.{Bool, Err, IfErr, Ok, Result, ◌≡◌}
use Rattle.mt_plock.specs.declared.guards.PageLock.{PageLock}
use Rattle.std.proofs.Common.{List, inl, inr, ⊎_elim, refl, sym, ◌∙◌, ap, subst, arith}
use Rattle.std.proofs.lemmas.Result.{err_from_is_err_and}
use Rattle.std.proofs.Math.ListN.{get_or}
use Rattle.mt_file.specs.declared.rooms.Rooms.{Rooms}
use Rattle.mt_op.specs.Holds.{IsToLook}
use Rattle.mt_op.specs.Stepping.{LocksPage}
use Rattle.mt_op.specs.declared.answers.Stepped.TheVariants as stepped
use Rattle.mt_op.proofs.Choosing.{idle_locks, locks_behind}
use Rattle.mt_op.proofs.Known.{known, one_rests}
use Rattle.mt_op.proofs.Faulting.{no_fault_ok, fault_reported, unfailed}
use Rattle.mt_op.proofs.operations.Operations.lock.Goals as goal

pub returns-in_err-bring : goal.returns-in_err-bring
returns-in_err-bring g c = let d = g.D.Device in let f = c.bring.ensures in let o = c.args.self.now in let s = c.args.scope.now in
    let p = err_from_is_err_and c.from_residual.result c.from_residual.ensures.1 in
    subst (LocksPage d o c.bring.new.self s s) (sym (p.1 ∙ ap Err (p.2 ∙ subst (λ (r : Result Bool Refusal). IfErr r (λ why. why ≡ refusal.DeviceFailed)) c.in_err-bring.was c.bring.ensures.only_device)))
    (idle_locks d o c.bring.new.self s f.right f.rests f.moments f.reads f.log f.map f.locks f.rooms (Err refusal.DeviceFailed) tt
    (λ is. absurd cc) (inr refl) (fault_reported _ _ c.bring.result _ (Err refusal.DeviceFailed) f.cause c.in_err-bring.was refl))

pub returns-then-not-branch : goal.returns-then-not-branch
returns-then-not-branch g c = let d = g.D.Device in let f = c.bring.ensures in
    idle_locks d c.args.self.now c.bring.new.self c.args.scope.now f.right f.rests f.moments f.reads f.log f.map f.locks f.rooms (Ok stepped.Flush) tt
    (λ is. f.full (c.in_ok-bring.was ∙ ap Ok c.if-not-branch.true)) tt (no_fault_ok _ _ _ (unfailed _ _ c.bring.result _ f.cause c.in_ok-bring.was))

pub look-requires-clause-right : goal.look-requires-clause-right
look-requires-clause-right g c = let f = c.bring.ensures in
    one_rests g.D.Device c.args.self.now c.bring.new.self c.args.scope.now f.right f.rests c.requires.right

pub bring-requires-clause-kept : goal.bring-requires-clause-kept
bring-requires-clause-kept g c = (known g.D.Device c.args.self.now c.args.scope.now c.requires.right).kept

pub bring-requires-clause-inside : goal.bring-requires-clause-inside
bring-requires-clause-inside g c = let k = known g.D.Device c.args.self.now c.args.scope.now c.requires.right in let inside = c.requires.next.unseen.inside in
    omega (arith, k.total, inside)

pub look-requires-clause-next : goal.look-requires-clause-next
look-requires-clause-next g c = let f = c.bring.ensures in
    subst (λ (x : Rooms). IsToLook x c.bring.new.self.locks c.args.scope.now c.args.page c.args.mode) (sym f.rooms)
    (subst (λ (ls : List PageLock). IsToLook c.args.self.now.rooms ls c.args.scope.now c.args.page c.args.mode) (sym f.locks) c.requires.next)

pub look-requires-clause-led : goal.look-requires-clause-led
look-requires-clause-led g c = ⊎_elim inl (λ led. inr (led.0, led.1, ap (λ m. get_or m.kinds.value c.args.page 0) c.bring.ensures.map ∙ led.2)) c.requires.led

pub returns : goal.returns
returns g c = let d = g.D.Device in let f = c.bring.ensures in let l = c.look.ensures in
    locks_behind d c.args.self.now c.bring.new.self c.args.scope.now f.right f.rests f.moments f.reads f.log f.map f.locks f.rooms c.look.new.self c.look.new.scope c.look.result
    l.goes l.store l.map l.same l.never l.work l.locks l.scope l.only_memory (unfailed _ _ c.bring.result _ f.cause c.in_ok-bring.was)
