use Rattle.mt_model.proofs.Appends.{legal_append, legal_front, legal_back}
use Rattle.mt_model.proofs.laws.legal_appends.Goals as goal

pub returns : goal.returns
returns c = λ b cs ds. (λ legal. (legal_front b cs ds legal, legal_back b cs ds legal), λ parts. legal_append b cs ds parts.0 parts.1)
