use Rattle.std.proofs.Common.{◌++◌, subst}
use Rattle.mt_escrow.specs.Seen.{Escrowed, AreAdmissible}
use Rattle.mt_escrow.proofs.Viewing.{admissible}
use Rattle.mt_escrow.proofs.accounts.Escrow.pending.Goals as goal

pub returns-clause-admissible : goal.returns-clause-admissible
returns-clause-admissible c =
    subst (λ (e : Escrowed). AreAdmissible e) c.self.view_is
    (admissible c.self.inside.rooms.items (c.self.inside.aside.items ++ c.self.inside.pending.items) c.self.invariant.kept)
