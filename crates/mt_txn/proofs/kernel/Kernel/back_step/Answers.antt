use Rattle.std.proofs.Common.{◌≡◌, ◌∙◌, true, Some, ap, refl, sym, subst}
use Rattle.mt_live.specs.declared.transactions.TxnState.TheVariants.{Returning}
use mathlib.Core.Logic.{∥∥₁_elim}
use Rattle.std.proofs.Props.{props}
use Rattle.std.specs.Prelude.{OnErr, Result, is_some}
use Rattle.mt_base.specs.declared.refusal.Refusal.{Refusal}
use Rattle.mt_live.specs.Machine.{State}
use Rattle.mt_live.specs.Undoing.{after_first, last_effect}
use Rattle.mt_txn.specs.declared.answers.AbortStepped.{AbortStepped}
use Rattle.mt_txn.proofs.Restarting.{no_call}
use Rattle.mt_txn.proofs.Showing.{inverse_of}
use Rattle.mt_txn.proofs.kernel.Kernel.back_step.Goals as goal

pub returns-in_err-first-clause-moments : goal.returns-in_err-first-clause-moments
returns-in_err-first-clause-moments g c = λ first r schema. let D = g.D.Device in let k = c.args.self.now in
    no_call D k.relations k.counters first g.met.D.Device.only_now k.core _ refl r schema

pub undo_step-requires-clause-own : goal.undo_step-requires-clause-own
undo_step-requires-clause-own g c = λ r at. let k = c.args.self.now in let place = c.in-Some.ensures.place in
    (place.1 r at, inverse_of g.D.Device k.relations k.counters k.core c.args.txn c.in-Some.place c.in_ok-first.first k.well place.0 place.1 c.in_ok-first.ensures.first r at)

pub returns-in_default-clause-needed : goal.returns-in_default-clause-needed
returns-in_default-clause-needed g c = λ base s first shows going idle refused. ∥∥₁_elim shows (hlevel props) (λ (origin, at, is, x).
    let t = c.args.txn in let mine = c.in_ok-first.first in
    let both : Some (Returning mine) ≡ Some (Returning first) = sym c.in_ok-first.ensures.first ∙ going in
    let same : mine ≡ first = cc in
    let left : is_some (last_effect t (after_first t mine c.args.self.now.core.live.standing)) ≡ true =
    subst (λ (r : Result AbortStepped Refusal). OnErr r (is_some (last_effect t (after_first t mine c.args.self.now.core.live.standing)) ≡ true)) refused c.return_next.ensures.needed in
    subst (λ f. is_some (last_effect t (after_first t f s.standing)) ≡ true) same
    (ap (λ (z : State). is_some (last_effect t (after_first t mine z.standing))) x.state ∙ left))
