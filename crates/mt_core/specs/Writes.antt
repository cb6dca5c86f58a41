-- What a step of an operation appends to the log: the records of one page at most, or its end.
use Rattle.std.specs.Prelude.{ℕ, ◌≡◌, ◌≤◌, ◌+◌, ◌++◌, true, All, List, length, Result, Ok, Err}
use Rattle.mt_base.specs.declared.refusal.Refusal.{Refusal}
use Rattle.mt_area_rules.specs.History.{is_of_page}
use Rattle.mt_frame.specs.declared.records.Record.{Record}
use Rattle.mt_op.specs.declared.answers.Stepped.{Stepped}
use Rattle.mt_op.specs.declared.answers.Stepped.TheVariants as stepped
use Rattle.mt_op.specs.declared.answers.TakenBack.{TakenBack}
use Rattle.mt_op.specs.declared.answers.TakenBack.TheVariants as taken
use Rattle.mt_core.specs.PageLocks.{step_of}
use Rattle.mt_core.specs.declared.steps.Stepping.{Stepping}
use Rattle.mt_core.specs.declared.steps.Stepping.TheVariants.{Going, Ended}

-- nothing more, or records of one page
abbrev pub AddsOnePage : List Record → List Record → Type 0
AddsOnePage old new =
    (page : ℕ) × (more : List Record) × (new ≡ old ++ more) × All (λ (r : Record). is_of_page page r ≡ true) more

-- A step that goes on appends the records of one page at most, and one that ends a record at most. One that waits,
-- begins anew or is refused appends none.
abbrev pub WritesOnce : List Record → List Record → Result Stepped Refusal → Type 0
WritesOnce old new (Ok stepped.Went) = AddsOnePage old new
WritesOnce old new (Ok (stepped.Wait holder)) = new ≡ old
WritesOnce old new (Ok (stepped.Again holder)) = new ≡ old
WritesOnce old new (Ok stepped.Flush) = new ≡ old
WritesOnce old new (Ok (stepped.Ready first second)) = length new ≤ length old + 1
WritesOnce old new (Err why) = new ≡ old

-- the same of what a step of the core answers
abbrev pub StepWrites : List Record → List Record → Result Stepping Refusal → Type 0
StepWrites old new (Ok (Ended reply)) = length new ≤ length old + 1
StepWrites old new (Ok (Going g)) = WritesOnce old new (Ok (step_of g))
StepWrites old new (Err why) = new ≡ old

-- A step that takes an operation back appends a record at most, and only if it is the last.
abbrev pub BackWrites : List Record → List Record → Result TakenBack Refusal → Type 0
BackWrites old new (Ok taken.Clear) = length new ≤ length old + 1
BackWrites old new (Ok taken.More) = new ≡ old
BackWrites old new (Ok taken.Flush) = new ≡ old
BackWrites old new (Err why) = new ≡ old
