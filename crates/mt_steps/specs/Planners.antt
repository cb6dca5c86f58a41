-- What the plan of each kind of operation is, over the pages at hand.
use Rattle.std.specs.Prelude.{ℕ, ℤ, List, [], Bool, Option, Result, IfOk, None, ◌≡◌, ◌<◌, cond, length, ◌≤◌, ◌⊎◌, false}
use Rattle.std.specs.declared.alloc.AllocError.{AllocError}
use Rattle.mt_steps.specs.declared.act.Act.{Act}
use Rattle.mt_space.specs.Changes.{AreShort, after}
use Rattle.mt_steps.specs.Asks.{AsksFor}
use Rattle.mt_model.specs.declared.operations.Op.TheVariants.{Add, Delete, Get, Insert, Read, Scan, Update}
use Rattle.mt_steps.specs.Acts.{IfBroken, IfFull, IfLock, IfMade, InGood, IsAct, InRoomy}
use Rattle.mt_base.specs.declared.modes.Mode.TheVariants.{Read as ToRead, Write as ToWrite}
use Rattle.mt_steps.specs.Logged.{logged_of}
use Rattle.mt_overlay.specs.Overlays.{AreAtHand}
use Rattle.mt_slots.specs.Page.{Fits, row_length}
use Rattle.mt_steps.specs.Plans.{IsModest, IsTight, TakesPages, free_pages}
use Rattle.mt_base.specs.declared.limits.TheConstants.{MAX_VALUE_BYTES, MAX_WRITTEN_PAGES}
use Rattle.mt_steps.specs.PlanAnswers.{TakesNone}
use Rattle.mt_counters.specs.Counters.{AreCounters}

-- the read of a row
pub record PlansGet (at_hand : ℕ → Option (List ℕ)) (total : ℕ) (relation : ℕ) (key : List ℕ)
    (r : Result Act AllocError) : Type 0 where
  pub lock : IfOk r (λ act. IfLock act (λ p mode. (at_hand p ≡ None) × (p < total)))
  pub asks : (room : Option ℕ) (split : Bool) → IfOk r (λ act. IfLock act
      (AsksFor at_hand room total split (Get relation key)))
  pub mode : IfOk r (λ act. IfLock act (λ p mode. mode ≡ ToRead))
  pub made : (relations : ℕ) → IfOk r (λ act. IfMade act
      (λ changes reply. InGood at_hand relations total (λ pages m. IsAct relations total pages (after changes pages)
      (Get relation key) reply × AreShort changes pages)))
  pub quiet : IfOk r (λ act. IfMade act (λ changes reply. changes ≡ []))
  pub idle : IfOk r (λ act. IfMade act (λ changes reply. logged_of (Get relation key) reply ≡ None → changes ≡ []))
  pub full : IfOk r (λ act. IfFull act ⊥)
  pub broken : IfOk r (λ act. IfBroken act ⊥)

-- a row more
pub record PlansInsert (at_hand : ℕ → Option (List ℕ)) (total : ℕ) (room : Option ℕ) (split : Bool) (relation : ℕ)
    (key value : List ℕ) (r : Result Act AllocError) : Type 0 where
  pub lock : IfOk r (λ act. IfLock act (λ p mode. (at_hand p ≡ None) × (p < total)))
  pub asks : IfOk r (λ act. IfLock act (AsksFor at_hand room total split (Insert relation key value)))
  pub made : (relations : ℕ) → Fits relations MAX_VALUE_BYTES (record { relation = relation; key = key; value = value })
      → IfOk r (λ act. IfMade act (λ changes reply. InRoomy at_hand room relations total
      (λ pages m. IsAct relations total pages (after changes pages) (Insert relation key value) reply
      × AreShort changes pages)))
  pub there : IfOk r (λ act. IfMade act (λ changes reply. AreAtHand at_hand changes))
  pub few : IfOk r (λ act. IfMade act (λ changes reply. length changes ≤ MAX_WRITTEN_PAGES))
  pub idle : IfOk r (λ act. IfMade act (λ changes reply. logged_of (Insert relation key value) reply ≡ None
      → changes ≡ []))
  pub modest : (relations : ℕ) → Fits relations MAX_VALUE_BYTES
      (record { relation = relation; key = key; value = value })
      → IfOk r (λ act. IfMade act (λ changes reply. InRoomy at_hand room relations total
      (λ pages m. IsModest at_hand total (cond split 3 2) split pages (after changes pages))))
  pub takes : (relations : ℕ) → Fits relations MAX_VALUE_BYTES
      (record { relation = relation; key = key; value = value })
      → IfOk r (λ act. IfMade act (λ changes reply. InRoomy at_hand room relations total
      (λ pages m. TakesPages room (Insert relation key value) pages (after changes pages))))
  pub full : (relations : ℕ) → IfOk r (λ act. IfFull act
      (InRoomy at_hand room relations total (λ pages m. (free_pages total pages < cond split 3 2)
      ⊎ IsTight room pages (row_length (record { relation = relation; key = key; value = value })))))
  pub broken : IfOk r (λ act. IfBroken act ⊥)

-- another value of a row
pub record PlansUpdate (at_hand : ℕ → Option (List ℕ)) (total : ℕ) (room : Option ℕ) (relation : ℕ) (key value : List ℕ)
    (r : Result Act AllocError) : Type 0 where
  pub lock : IfOk r (λ act. IfLock act (λ p mode. (at_hand p ≡ None) × (p < total)))
  pub asks : (split : Bool) → IfOk r (λ act. IfLock act (AsksFor at_hand room total split (Update relation key value)))
  pub made : (relations : ℕ) → Fits relations MAX_VALUE_BYTES (record { relation = relation; key = key; value = value })
      → IfOk r (λ act. IfMade act (λ changes reply. InRoomy at_hand room relations total
      (λ pages m. IsAct relations total pages (after changes pages) (Update relation key value) reply
      × AreShort changes pages)))
  pub there : IfOk r (λ act. IfMade act (λ changes reply. AreAtHand at_hand changes))
  pub few : IfOk r (λ act. IfMade act (λ changes reply. length changes ≤ MAX_WRITTEN_PAGES))
  pub idle : IfOk r (λ act. IfMade act (λ changes reply. logged_of (Update relation key value) reply ≡ None
      → changes ≡ []))
  pub modest : (relations : ℕ) → Fits relations MAX_VALUE_BYTES
      (record { relation = relation; key = key; value = value })
      → IfOk r (λ act. IfMade act (λ changes reply. InRoomy at_hand room relations total
      (λ pages m. IsModest at_hand total 1 false pages (after changes pages))))
  pub takes : (relations : ℕ) → Fits relations MAX_VALUE_BYTES
      (record { relation = relation; key = key; value = value })
      → IfOk r (λ act. IfMade act (λ changes reply. InRoomy at_hand room relations total
      (λ pages m. TakesPages room (Update relation key value) pages (after changes pages))))
  pub full : (relations : ℕ) → IfOk r (λ act. IfFull act
      (InRoomy at_hand room relations total (λ pages m. (free_pages total pages < 1)
      ⊎ IsTight room pages (row_length (record { relation = relation; key = key; value = value })))))
  pub broken : IfOk r (λ act. IfBroken act ⊥)

-- a row less
pub record PlansDelete (at_hand : ℕ → Option (List ℕ)) (total : ℕ) (relation : ℕ) (key : List ℕ)
    (r : Result Act AllocError) : Type 0 where
  pub lock : IfOk r (λ act. IfLock act (λ p mode. (at_hand p ≡ None) × (p < total)))
  pub asks : (room : Option ℕ) (split : Bool) → IfOk r (λ act. IfLock act
      (AsksFor at_hand room total split (Delete relation key)))
  pub made : (relations : ℕ) → IfOk r (λ act. IfMade act
      (λ changes reply. InGood at_hand relations total (λ pages m. IsAct relations total pages (after changes pages)
      (Delete relation key) reply × AreShort changes pages)))
  pub modest : (relations : ℕ) → IfOk r (λ act. IfMade act
      (λ changes reply. InGood at_hand relations total (λ pages m. IsModest at_hand total 0 false pages
      (after changes pages))))
  pub takes : (relations : ℕ) → IfOk r (λ act. IfMade act
      (λ changes reply. InGood at_hand relations total (λ pages m. TakesNone pages (after changes pages))))
  pub full : IfOk r (λ act. IfFull act ⊥)
  pub there : IfOk r (λ act. IfMade act (λ changes reply. AreAtHand at_hand changes))
  pub few : IfOk r (λ act. IfMade act (λ changes reply. length changes ≤ MAX_WRITTEN_PAGES))
  pub idle : IfOk r (λ act. IfMade act (λ changes reply. logged_of (Delete relation key) reply ≡ None → changes ≡ []))
  pub broken : IfOk r (λ act. IfBroken act ⊥)

-- a step added to a counter
pub record PlansAdd (at_hand : ℕ → Option (List ℕ)) (total : ℕ) (number : ℕ) (step : ℤ)
    (r : Result Act AllocError) : Type 0 where
  pub lock : IfOk r (λ act. IfLock act (λ p mode. (at_hand p ≡ None) × (p ≡ 2)))
  pub mode : IfOk r (λ act. IfLock act (λ p mode. mode ≡ ToWrite))
  pub made : (relations : ℕ) → IfOk r (λ act. IfMade act
      (λ changes reply. InGood at_hand relations total (λ pages m. (counters : ℕ) → number < counters
      → AreCounters relations counters (pages 2) → IsAct relations total pages (after changes pages) (Add number step)
      reply × AreShort changes pages)))
  pub there : IfOk r (λ act. IfMade act (λ changes reply. AreAtHand at_hand changes))
  pub few : IfOk r (λ act. IfMade act (λ changes reply. length changes ≤ MAX_WRITTEN_PAGES))
  pub idle : IfOk r (λ act. IfMade act (λ changes reply. logged_of (Add number step) reply ≡ None → changes ≡ []))
  pub modest : (relations : ℕ) → IfOk r (λ act. IfMade act
      (λ changes reply. InGood at_hand relations total (λ pages m. IsModest at_hand total 0 false pages
      (after changes pages))))
  pub takes : (relations : ℕ) → IfOk r (λ act. IfMade act
      (λ changes reply. InGood at_hand relations total (λ pages m. TakesNone pages (after changes pages))))
  pub full : IfOk r (λ act. IfFull act ⊥)
  pub broken : IfOk r (λ act. IfBroken act ⊥)

-- the read of a counter
pub record PlansRead (at_hand : ℕ → Option (List ℕ)) (total : ℕ) (number : ℕ) (r : Act) : Type 0 where
  pub lock : IfLock r (λ p mode. (at_hand p ≡ None) × (p ≡ 2))
  pub mode : IfLock r (λ p mode. mode ≡ ToRead)
  pub made : (relations : ℕ) → IfMade r (λ changes reply. InGood at_hand relations total
      (λ pages m. (counters : ℕ) → number < counters → AreCounters relations counters (pages 2)
      → IsAct relations total pages (after changes pages) (Read number) reply × AreShort changes pages))
  pub quiet : IfMade r (λ changes reply. changes ≡ [])
  pub idle : IfMade r (λ changes reply. logged_of (Read number) reply ≡ None → changes ≡ [])
  pub full : IfFull r ⊥
  pub broken : IfBroken r ⊥

-- the read of all rows of a relation
pub record PlansScan (at_hand : ℕ → Option (List ℕ)) (total : ℕ) (relation : ℕ)
    (r : Result Act AllocError) : Type 0 where
  pub lock : IfOk r (λ act. IfLock act (λ p mode. (at_hand p ≡ None) × (p < total)))
  pub asks : (room : Option ℕ) (split : Bool) → IfOk r (λ act. IfLock act
      (AsksFor at_hand room total split (Scan relation)))
  pub mode : IfOk r (λ act. IfLock act (λ p mode. mode ≡ ToRead))
  pub made : (relations : ℕ) → IfOk r (λ act. IfMade act
      (λ changes reply. InGood at_hand relations total (λ pages m. IsAct relations total pages (after changes pages)
      (Scan relation) reply × AreShort changes pages)))
  pub quiet : IfOk r (λ act. IfMade act (λ changes reply. changes ≡ []))
  pub idle : IfOk r (λ act. IfMade act (λ changes reply. logged_of (Scan relation) reply ≡ None → changes ≡ []))
  pub full : IfOk r (λ act. IfFull act ⊥)
  pub broken : IfOk r (λ act. IfBroken act ⊥)
