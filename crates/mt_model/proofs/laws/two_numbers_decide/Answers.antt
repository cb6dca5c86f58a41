use Rattle.mt_model.proofs.Sums.{admissible_from_room, room_from_admissible}
use Rattle.mt_model.proofs.laws.two_numbers_decide.Goals as goal

pub returns : goal.returns
returns c = λ n ds. (admissible_from_room n ds, room_from_admissible n ds)
