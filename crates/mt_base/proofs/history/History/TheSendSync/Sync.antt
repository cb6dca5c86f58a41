-- What threads share of a history is the nothing that it owns.
use denote.RattleType.{RattleType}
use denote.Memory.{part_of, raw_all}
use denote.Param.Send.{IsSync, cell_keyless}
use Rattle.mt_base.specs.contracts.history.History.{the_row}
use Rattle.mt_base.proofs.history.History.TheSendSync.Send.{send}

pub sync : (T : RattleType) → IsSync (the_row T)
unfolding part_of
sync T = record { shared = λ d b o κ. λ q vs. (cell_keyless q (raw_all (the_row T).mir) vs b o, (send T).owned d vs) }
