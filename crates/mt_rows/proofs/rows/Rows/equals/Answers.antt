use Rattle.std.proofs.Common.{sym, ◌∙◌}
use Rattle.mt_rows.proofs.Same.{same_rows_decides}
use Rattle.mt_rows.proofs.rows.Rows.equals.Goals as goal

pub returns : goal.returns
returns c =
    let decides = same_rows_decides c.args.self.now c.args.other.now in
    (λ t. decides.0 (sym c.eq.ensures ∙ t), λ e. c.eq.ensures ∙ decides.1 e)
