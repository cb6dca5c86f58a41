use Rattle.std.proofs.Props.{props}
use mathlib.Core.Logic.{∥∥₁_elim}
use Rattle.std.proofs.Common.{subst}
use Rattle.mt_op.specs.World.{IsAt}
use Rattle.mt_op.specs.Operations.{world}
use Rattle.mt_op.proofs.Leaving.{others_leave}
use Rattle.mt_op.proofs.Restored.{leaves_right}
use Rattle.mt_op.proofs.operations.Operations.drop_out.Goals as goal

pub returns-clause-right : goal.returns-clause-right
returns-clause-right g c = λ opening relations counters right k. let f = c.release.ensures.released in let s = c.args.scope in let seen = g.D.Device.seen in
    leaves_right g.D.Device opening relations counters c.args.self.now c.release.new.self s right (subst (IsAt relations counters (world g.D.Device opening c.args.self.now) s) c.requires.cleared k.at) (f.leaves opening) f.store f.map f.rooms

pub returns-clause-others : goal.returns-clause-others
returns-clause-others g c = λ opening relations counters u ku other. others_leave relations counters _ _ c.args.scope u (c.release.ensures.released.leaves opening) ku other

pub release-requires : goal.release-requires
release-requires g c = record { locks = ∥∥₁_elim c.requires.right (hlevel props) (λ r. r.4.locks) }
