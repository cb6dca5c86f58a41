-- The laws of restarts.
use Rattle.std.specs.Prelude.{◌≡◌, ◌<◌, ◌++◌, ◌∷◌, ℕ, List}
use Rattle.mt_frame.specs.declared.records.Record.{Record}
use Rattle.mt_model.specs.Model.{Base, IsBase, base_after}
use Rattle.mt_model.specs.History.{run}
use Rattle.mt_space.specs.Changes.{PageBytes}
use Rattle.mt_steps.specs.Held.{Holds}
use Rattle.mt_steps.specs.Plans.{IsGood}
use Rattle.mt_replay.specs.Recorded.{calls_of, op_of, Finished, losers, stands_for}
use Rattle.mt_replay.specs.Recoverable.{IsRecoverable, pages_held}
use Rattle.mt_replay.specs.Undoing.{UndoesAll, Finds}

-- Over records that are recoverable the losers' operations, undone by inverses, the latest end first, lead to good
-- pages that hold the base that the records represent.
abbrev pub RestartFindsBase : Type 0
RestartFindsBase =
    (relations counters total bytes : ℕ) (opening k : PageBytes) (records : List Record) (b : Base)
    → IsRecoverable relations counters total bytes opening b records → Holds opening b → IsBase b
    → UndoesAll relations counters total (pages_held opening records) (losers records) k
    → Holds k (stands_for b records) × IsGood relations counters total k

-- Whichever of them are undone already, the next inverse finds what its record says, and its free pages.
abbrev pub EachInverseFinds : Type 0
EachInverseFinds =
    (relations counters total bytes : ℕ) (opening m : PageBytes) (records : List Record) (b : Base)
    → IsRecoverable relations counters total bytes opening b records → Holds opening b → IsBase b
    → (front behind : List Finished) (f : Finished) → losers records ≡ front ++ f ∷ behind
    → UndoesAll relations counters total (pages_held opening records) behind m
    → Finds relations counters total m (base_after (run (stands_for b records) (calls_of front)) (op_of f.done)) f.done

-- Pages that are the same below their number are equally good, and hold the same base.
abbrev pub OnlyOwnPagesMatter : Type 0
OnlyOwnPagesMatter =
    (relations counters total : ℕ) (f g : PageBytes) → ((p : ℕ) → p < total → g p ≡ f p)
    → IsGood relations counters total f
    → IsGood relations counters total g × ((b : Base) → Holds f b → Holds g b)
