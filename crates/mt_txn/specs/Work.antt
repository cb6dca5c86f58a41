-- The steps that are left, and who is waited for.
use Rattle.std.specs.Prelude.{ℕ, ◌≡◌, ◌≢◌, ◌⊎◌, ◌<◌, ◌≤◌, ◌+◌, ◌*◌, true, is_some, List, Some, None, Result, Ok, Err, ⊤}
use Rattle.mt_base.specs.declared.refusal.Refusal.{Refusal}
use Rattle.mt_live.specs.Lives.{member_of}
use Rattle.mt_live.specs.Members.{Member}
use Rattle.mt_core.specs.Consistent.{IsOwnerOf}
use Rattle.mt_op.specs.declared.scope.OpScope.{OpScope}
use Rattle.mt_core.specs.declared.steps.Going.{Going}
use Rattle.mt_core.specs.declared.steps.Going.TheVariants as going
use Rattle.mt_txn.specs.declared.answers.AbortStepped.{AbortStepped}
use Rattle.mt_txn.specs.declared.answers.AbortStepped.TheVariants as abort
use Rattle.mt_txn.specs.declared.answers.Stepped.{Stepped}
use Rattle.mt_txn.specs.declared.answers.Stepped.TheVariants as step

-- What a step answers of an operation that goes on. It names the transaction whose operation holds the page; if none
-- has that operation, it is asked again.
abbrev pub IsReportedAs : List OpScope → Going → Stepped → Type 0
IsReportedAs rs g (step.Replied reply) = ⊥
IsReportedAs rs g step.Went = g ≡ going.Went
IsReportedAs rs g (step.Wait other) = (holder : ℕ) × (g ≡ going.Wait holder) × IsOwnerOf rs holder (Some other)
IsReportedAs rs g step.Again =
    (holder : ℕ) × (((g ≡ going.Wait holder) × IsOwnerOf rs holder None) ⊎ (g ≡ going.Again holder))
IsReportedAs rs g step.Flush = g ≡ going.Flush

-- what a step of an abort answers of an inverse that goes on
abbrev pub IsAbortReportedAs : List OpScope → Going → AbortStepped → Type 0
IsAbortReportedAs rs g abort.More = g ≡ going.Went
IsAbortReportedAs rs g (abort.Wait other) = (holder : ℕ) × (g ≡ going.Wait holder) × IsOwnerOf rs holder (Some other)
IsAbortReportedAs rs g abort.Again =
    (holder : ℕ) × (((g ≡ going.Wait holder) × IsOwnerOf rs holder None) ⊎ (g ≡ going.Again holder))
IsAbortReportedAs rs g abort.Flush = g ≡ going.Flush
IsAbortReportedAs rs g abort.Ended = ⊥

-- ---- who is waited for

-- another transaction than t, which lives
abbrev pub IsAnother : List Member → ℕ → ℕ → Type 0
IsAnother ms t u = (u ≢ t) × (is_some (member_of ms u) ≡ true)

-- A step of t waits, or begins anew, only for another transaction that lives.
abbrev pub IsForOther : List Member → ℕ → Stepped → Type 0
IsForOther ms t (step.Replied reply) = ⊤
IsForOther ms t step.Went = ⊤
IsForOther ms t (step.Wait other) = IsAnother ms t other
IsForOther ms t step.Again = ∥ ((u : ℕ) × IsAnother ms t u) ∥₁
IsForOther ms t step.Flush = ⊤

-- and so does a step of its abort
abbrev pub IsAbortForOther : List Member → ℕ → AbortStepped → Type 0
IsAbortForOther ms t abort.More = ⊤
IsAbortForOther ms t (abort.Wait other) = IsAnother ms t other
IsAbortForOther ms t abort.Again = ∥ ((u : ℕ) × IsAnother ms t u) ∥₁
IsAbortForOther ms t abort.Flush = ⊤
IsAbortForOther ms t abort.Ended = ⊤

-- ---- the steps that are left

-- What a step that answered this leaves of a transaction's steps, over so many pages: going on and ending lower them,
-- beginning anew raises them by two a page at most, and a step that waits or is refused leaves no more.
abbrev pub LowersSteps : ℕ → Result Stepped Refusal → ℕ → ℕ → Type 0
LowersSteps pages (Ok (step.Replied reply)) before now = (0 < before) × (now ≡ 0)
LowersSteps pages (Ok step.Went) before now = now < before
LowersSteps pages (Ok (step.Wait other)) before now = now ≤ before
LowersSteps pages (Ok step.Again) before now = now ≤ before + 2 * pages
LowersSteps pages (Ok step.Flush) before now = now ≤ before
LowersSteps pages (Err why) before now = now ≤ before

-- What a step that undoes leaves of the steps of an abort: one that went on leaves fewer. One that begins anew may
-- leave more, by two a page at most; every other, and one that is refused, leaves no more. AtEnd says what the end
-- leaves.
abbrev pub LowersUndoing : (ℕ → ℕ → Type 0) → ℕ → Result AbortStepped Refusal → ℕ → ℕ → Type 0
LowersUndoing AtEnd pages (Ok abort.More) before now = now < before
LowersUndoing AtEnd pages (Ok (abort.Wait other)) before now = now ≤ before
LowersUndoing AtEnd pages (Ok abort.Again) before now = now ≤ before + 2 * pages
LowersUndoing AtEnd pages (Ok abort.Flush) before now = now ≤ before
LowersUndoing AtEnd pages (Ok abort.Ended) before now = AtEnd before now
LowersUndoing AtEnd pages (Err why) before now = now ≤ before

-- the end of an abort comes if none are left
abbrev pub NoneAreLeft : ℕ → ℕ → Type 0
NoneAreLeft before now = before ≡ 0

-- and that of going back with what came before still to be undone
abbrev pub NoMoreAreLeft : ℕ → ℕ → Type 0
NoMoreAreLeft before now = now ≤ before
