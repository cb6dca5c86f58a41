use Rattle.std.proofs.Common.{Option, subst, sym}
use Rattle.std.specs.Prelude.{IfNone}
use Rattle.mt_base.specs.declared.refusal.Refusal.{Refusal}
use Rattle.mt_mark.specs.Rule.{dones}
use Rattle.mt_locked.proofs.Closing.{whole_of}
use Rattle.mt_locked.proofs.Standings.{stands_on}
use Rattle.mt_locked.specs.Whole.{IsWhole}
use Rattle.mt_locked.proofs.locked.Locked.close_cause.Goals as goal
use Rattle.mt_locked.proofs.locked.Locked.close_cause.Goals.{in-Stands, in-Ended}

pub returns-clause-whole : goal.returns-clause-whole
returns-clause-whole g c = let D = g.D.Device in
    let v = c.self.inside.end.view in let l = c.args.self.now in
    let P : Option Refusal → Type 0 = λ why. IfNone why (IsWhole l) in
    elim c.match-self.branch [
      | in-Stands w ↦ subst P (sym w.result-is)
          (whole_of c.self.inside.standing w.in-Stands.kernel v l w.kernel_cause.result c.check-entered.result w.in-Stands.is c.self.view_is c.check-entered.ensures.stands
          (stands_on g.J.Naming.base (dones v.list) c.self.inside.standing w.in-Stands.kernel w.in-Stands.is c.self.invariant.4).1 w.kernel_cause.ensures.all w.kernel_cause.ensures.ended)
      | in-Ended w ↦ subst P (sym w.result-is) tt
    ]
