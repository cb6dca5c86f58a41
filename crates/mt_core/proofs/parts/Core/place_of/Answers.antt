use Rattle.std.proofs.Common.{List, subst}
use Rattle.mt_core.specs.Consistent.{IsPlaceOf}
use Rattle.mt_op.specs.declared.scope.OpScope.{OpScope}
use Rattle.mt_core.proofs.Underway.{busy_of}
use Rattle.mt_core.proofs.parts.Core.place_of.Goals as goal

pub returns-clause-place : goal.returns-clause-place
returns-clause-place g c = subst (λ (rs : List OpScope). IsPlaceOf rs c.args.txn c.place_in.result) c.as_slice.ensures.value c.place_in.ensures

pub returns-clause-busy : goal.returns-clause-busy
returns-clause-busy g c = busy_of c.args.self.now.running.items c.args.txn c.place_in.result (subst (λ (rs : List OpScope). IsPlaceOf rs c.args.txn c.place_in.result) c.as_slice.ensures.value c.place_in.ensures)
