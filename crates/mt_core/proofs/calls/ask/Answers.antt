use mathlib.Core.Logic.{∥∥₁_elim}
use Rattle.std.proofs.Common.{length, sym, subst, rules, to_z-of_z, SFits, w64}
use Rattle.std.proofs.Props.{props}
use Rattle.mt_base.specs.Limits.{IsStep}
use Rattle.mt_model.specs.Model.{IsWithin}
use Rattle.mt_core.proofs.Refusing.{Step-prop}
use Rattle.mt_core.proofs.calls.ask.Goals as goal

pub ask-requires-clause-there : goal.ask-requires-clause-there
ask-requires-clause-there c = ∥∥₁_elim c.requires.within (hlevel props) (λ (relations, within). (subst (IsWithin relations (length c.args.escrow.now.committed)) c.in-Add.is within).0)

pub ask-requires-clause-step : goal.ask-requires-clause-step
ask-requires-clause-step c = ∥∥₁_elim c.requires.within (Step-prop _) (λ (relations, within). let is : IsStep c.in-Add.step = (subst (IsWithin relations (length c.args.escrow.now.committed)) c.in-Add.is within).1 in
    let fits : SFits w64 c.in-Add.step = search rules in subst IsStep (sym (to_z-of_z fits)) is)
