-- What an inspection reports of the bytes of a device.
use Rattle.std.specs.Prelude.{ℕ, List, length}
use Rattle.mt_base.specs.Limits.{IsRelationCount}
use Rattle.mt_frame.specs.declared.slots.MasterSlot.{MasterSlot}
use Rattle.mt_space.specs.PageLists.{bytes_of}
use Rattle.mt_model.specs.Model.{Base, IsBase}
use Rattle.mt_model.specs.Views.{base_of}
use Rattle.mt_op.specs.Surveyed.{IsSurvey}
use Rattle.mt_op.specs.declared.survey.Survey.{Survey}
use Rattle.mt_replay.specs.Refused.{IsReplayed}
use Rattle.mt_replay.specs.Stands.{CanRestart}
use Rattle.mt_steps.specs.Held.{Holds}
use Rattle.mt_steps.specs.Listed.{IsSame}
use Rattle.mt_steps.specs.Plans.{IsGood}

-- The pages that a restart in memory makes of the bytes are good and hold the base, and the survey is of them.
pub record Surveys (relations counters : ℕ) (held : Base) (c : List ℕ) (survey : Survey) : Type 0 where
  pub slot : MasterSlot
  pub items : List (List ℕ)
  pub replayed : IsReplayed c slot items
  pub good : IsGood relations counters (length items) (bytes_of items)
  pub holds : Holds (bytes_of items) held
  pub outcome : IsSurvey relations counters (length items) (bytes_of items) held survey

-- Of any bytes: of some schema, and of a base that the pages hold; every base that they hold is the survey's.
pub record IsInspected (c : List ℕ) (survey : Survey) : Type 0 where
  pub relations : ℕ
  pub counters : ℕ
  pub fits : IsRelationCount relations
  pub held : Base
  pub bounds : IsBase held
  pub surveys : Surveys relations counters held c survey
  pub only : (b : Base) → Holds (bytes_of surveys.items) b → IsSame counters (base_of survey.base) b

-- Any bytes whose pages break no rule: those that a restart in memory makes of them are good pages of some schema, and
-- hold a base.
pub record IsSound (c : List ℕ) : Type 0 where
  pub slot : MasterSlot
  pub items : List (List ℕ)
  pub replayed : IsReplayed c slot items
  pub relations : ℕ
  pub counters : ℕ
  pub fits : IsRelationCount relations
  pub good : IsGood relations counters (length items) (bytes_of items)
  pub held : Base
  pub bounds : IsBase held
  pub holds : Holds (bytes_of items) held

-- The survey is of what a restart in memory makes of the bytes, and, if these represent a base, of that one.
pub record ReportsRestored (c : List ℕ) (survey : Survey) : Type 0 where
  pub inspected : IsInspected c survey
  pub stood_for : (relations counters : ℕ) (b : Base) → CanRestart relations counters c b
      → Surveys relations counters b c survey

-- ---- the pages in memory

-- it is the survey of these pages, of whatever schema they are good and whatever base they hold
abbrev pub IsOfPages : List (List ℕ) → Survey → Type 0
IsOfPages items survey = (relations counters : ℕ) (held : Base)
    → IsGood relations counters (length items) (bytes_of items) → Holds (bytes_of items) held
    → IsSurvey relations counters (length items) (bytes_of items) held survey
