-- What going back does to a play.
use Rattle.std.specs.Prelude.{ℕ, ◌≡◌, IfSome, List, None}
use Rattle.mt_model.specs.History.{run, IsActed}
use Rattle.mt_model.specs.Model.{Base, IsBase}
use Rattle.mt_script.specs.declared.answers.Answer.{Answer}
use Rattle.mt_script.specs.declared.lines.Line.{Line}
use Rattle.mt_model.specs.Backwards.{OpenCalls, back_to}
use Rattle.mt_alone.specs.Plays.{HasPlayed, Play, back_on}

-- Those that count replied as they do alone on the base, and lead to where all of them lead.
pub record AreLed (b : Base) (calls : OpenCalls) : Type 0 where
  pub acted : IsActed b calls.counted
  pub same : run b calls.all ≡ run b calls.counted

-- It holds of the open transaction, whatever lines were played.
abbrev pub WhatCountsLeads : Type 0
WhatCountsLeads =
    (relations counters : ℕ) (start end : Play) (lines : List Line) (answers : List Answer) → IsBase start.base
    → start.under_way ≡ None → HasPlayed relations counters start lines answers end
    → IfSome end.under_way (AreLed end.base)

-- Such calls go back on their base as those of any transaction do: the base gives an inverse the reply that is known
-- from what it takes back.
abbrev pub GoesBackAlike : Type 0
GoesBackAlike =
    (b : Base) (calls : OpenCalls) (n : ℕ) → IsBase b → AreLed b calls → back_on b calls n ≡ back_to calls n
