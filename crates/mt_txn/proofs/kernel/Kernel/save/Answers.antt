use mathlib.Core.Logic.{∥∥₁_elim}
use Rattle.std.proofs.Props.{props}
use Rattle.std.proofs.Common.{◌≡◌, ◌≤◌, Some, subst, arith}
use Rattle.std.specs.Option.{option_map}
use Rattle.mt_live.specs.Lives.{Lives, member_of}
use Rattle.mt_live.specs.Members.{Member, standing_count}
use Rattle.mt_txn.proofs.Living.{few_stand}
use Rattle.mt_txn.proofs.kernel.Kernel.save.Goals as goal

pub overflow_cast-result : goal.overflow_cast-result
overflow_cast-result g c = ∥∥₁_elim c.args.self.now.well (hlevel props) (λ (origin, base, is, safe). let k = c.args.self.now.core in
    let few : c.answered.result ≤ 256 = few_stand g.D.Device origin base k c.args.txn c.answered.result safe
    (subst (λ (l : Lives). Some c.answered.result ≡ option_map (λ (m : Member). standing_count m.calls) (member_of l.members c.args.txn)) c.live.ensures c.answered.ensures.member) in omega (arith, few))
