use Rattle.std.proofs.Common.{◌∙◌}
use Rattle.std.proofs.Props.{props}
use mathlib.Core.Logic.{∥∥₁_elim}
use Rattle.mt_op.proofs.Surveyed.{idle_free, idle_opening, idle_page}
use Rattle.mt_op.proofs.operations.Operations.held_page.Goals as goal

pub copy-requires-clause-open : goal.copy-requires-clause-open
copy-requires-clause-open g c = ∥∥₁_elim c.requires.idle (hlevel props) (λ (relations, idle). idle_opening g.D.Device relations c.args.self.now idle)

pub returns-in-Ok-clause-held : goal.returns-in-Ok-clause-held
returns-in-Ok-clause-held g c = λ opening relations counters right.
    let D = g.D.Device in let o = c.args.self.now in
    c.in-Ok.ensures.copied ∙ idle_page D opening relations counters o c.args.page right (∥∥₁_elim c.requires.idle (hlevel props) (λ (n, idle). idle_free D n o idle)) c.requires.inside
