-- The survey of the pages that a restart in memory makes of bytes.
use Rattle.std.proofs.Common.{ℕ, List, length}
use Rattle.mt_frame.specs.declared.slots.MasterSlot.{MasterSlot}
use Rattle.mt_space.specs.PageLists.{bytes_of}
use Rattle.mt_model.specs.Model.{Base}
use Rattle.mt_op.specs.declared.survey.Survey.{Survey}
use Rattle.mt_replay.specs.Laws.{OnlyOwnPagesMatter}
use Rattle.mt_replay.specs.Refused.{IsReplayed}
use Rattle.mt_replay.specs.Stands.{ShowsBase}
use Rattle.mt_restart.proofs.Based.{base_of_good}
use Rattle.mt_restart.specs.Inspected.{IsInspected, IsOfPages, IsSound, Surveys}

-- where the pages in memory show a base, it is a survey of that base
pub surveys_shown : OnlyOwnPagesMatter → (relations counters : ℕ) (b : Base) (c : List ℕ) (slot : MasterSlot) (items : List (List ℕ)) (survey : Survey)
    → IsReplayed c slot items → ShowsBase relations counters items b → IsOfPages items survey → Surveys relations counters b c survey
surveys_shown own relations counters b c slot items survey replayed shown outcome =
    let matter = own relations counters (length items) shown.pages (bytes_of items) shown.first shown.good in
    record {
      slot = slot;
      items = items;
      replayed = replayed;
      good = matter.0;
      holds = matter.1 b shown.holds;
      outcome = outcome relations counters b matter.0 (matter.1 b shown.holds);
    }

-- it is one of any bytes
pub inspected_of : (c : List ℕ) (slot : MasterSlot) (items : List (List ℕ)) (survey : Survey) → IsReplayed c slot items → IsOfPages items survey → IsInspected c survey
inspected_of c slot items survey replayed outcome =
    let checked = replayed.undone.after in
    let based = base_of_good checked.relations checked.counters (length items) (bytes_of items) checked.good in
    record {
      relations = checked.relations;
      counters = checked.counters;
      fits = checked.fits;
      held = based.0;
      bounds = based.2;
      surveys = record {
        slot = slot;
        items = items;
        replayed = replayed;
        good = checked.good;
        holds = based.1;
        outcome = outcome checked.relations checked.counters based.0 checked.good based.1;
      };
      only = λ b holds. (outcome checked.relations checked.counters b checked.good holds).base;
    }

-- pages that a restart in memory makes of any bytes break no rule
pub sound_of : (c : List ℕ) (slot : MasterSlot) (items : List (List ℕ)) → IsReplayed c slot items → IsSound c
sound_of c slot items replayed =
    let checked = replayed.undone.after in
    let based = base_of_good checked.relations checked.counters (length items) (bytes_of items) checked.good in
    record {
      slot = slot;
      items = items;
      replayed = replayed;
      relations = checked.relations;
      counters = checked.counters;
      fits = checked.fits;
      good = checked.good;
      held = based.0;
      bounds = based.2;
      holds = based.1;
    }
