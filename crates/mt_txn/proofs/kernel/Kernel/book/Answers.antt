use Rattle.std.proofs.Common.{◌≡◌, List, sym, subst}
use Rattle.mt_model.specs.History.{IsLegal}
use Rattle.mt_model.specs.declared.history.Committed.{Committed}
use Rattle.mt_txn.proofs.Showing.{legal_of}
use Rattle.mt_txn.proofs.kernel.Kernel.book.Goals as goal

pub returns-clause-legal : goal.returns-clause-legal
returns-clause-legal g c = λ first s shows. subst (λ (b : List Committed). ∥ ((s.book ≡ b) × IsLegal first b) ∥₁) (sym c.book.ensures)
    (legal_of g.D.Device c.args.self.now.relations c.args.self.now.counters c.args.self.now.core first s shows)
