-- The steps that a transaction's operation under way has left, and those that its abort has.
use Rattle.std.specs.Prelude.{ℕ, ◌≡◌, ◌≢◌, ◌<◌, ◌≤◌, ◌+◌, ◌-◌, ◌*◌, ◌==◌, ◌++◌, cond, if◌then◌else◌, List, [], ◌∷◌, filter, length, Result, Ok, Err, ⊤}
use Rattle.std.specs.List.{sum_by}
use Rattle.mt_base.specs.declared.refusal.Refusal.{Refusal}
use Rattle.mt_live.specs.Entries.{Entry}
use Rattle.mt_live.specs.Undoing.{is_counted, is_effect}
use Rattle.mt_op.specs.Work.{work_of}
use Rattle.mt_core.specs.declared.calls.Called.{Called}
use Rattle.mt_core.specs.declared.calls.Called.TheVariants as answer
use Rattle.mt_op.specs.declared.answers.TakenBack.{TakenBack}
use Rattle.mt_op.specs.declared.answers.TakenBack.TheVariants as taken
use Rattle.mt_op.specs.declared.scope.OpScope.{OpScope}
use Rattle.mt_pool.specs.Views.{pages}
use Rattle.mt_core.specs.declared.parts.Core.{Core}
use Rattle.mt_core.specs.declared.steps.Going.{Going}
use Rattle.mt_core.specs.declared.steps.Going.TheVariants as going
use Rattle.mt_core.specs.declared.steps.Stepping.{Stepping}
use Rattle.mt_core.specs.declared.steps.Stepping.TheVariants.{Going as GoingOn, Ended}
use Rattle.mt_core.specs.Seen.{core_pool}
use Rattle.mt_op.specs.World.{undoes_of}

-- how many it makes at most, if nobody is in its way
abbrev pub steps_in : List OpScope → ℕ → ℕ
steps_in [] t = 0
steps_in (r ∷ rs) t = cond (r.txn == t) (work_of r) (steps_in rs t)

-- each other transaction has as many left
abbrev pub KeepsOthers : ℕ → List OpScope → List OpScope → Type 0
KeepsOthers t old new = (u : ℕ) → u ≢ t → steps_in new u ≡ steps_in old u

-- A step that went on leaves fewer. One that begins anew may leave more, by two a page at most; every other leaves no
-- more.
abbrev pub LeavesSteps : ℕ → Going → ℕ → ℕ → Type 0
LeavesSteps pages going.Went before now = now < before
LeavesSteps pages (going.Wait holder) before now = now ≤ before
LeavesSteps pages (going.Again holder) before now = now ≤ before + 2 * pages
LeavesSteps pages going.Flush before now = now ≤ before

-- one that ended leaves none, and one that is refused leaves no more
abbrev pub Lowers : ℕ → Result Stepping Refusal → ℕ → ℕ → Type 0
Lowers pages (Ok (Ended reply)) before now = (0 < before) × (now ≡ 0)
Lowers pages (Ok (GoingOn g)) before now = LeavesSteps pages g before now
Lowers pages (Err why) before now = now ≤ before

-- An operation of a transaction is under way after the others, with so many steps before it.
abbrev pub RunsBehind : ℕ → ℕ → List OpScope → List OpScope → Type 0
RunsBehind t steps old new = (r : OpScope) × (r.txn ≡ t) × (work_of r ≡ steps) × (new ≡ old ++ r ∷ [])

-- what a call does to those under way: only one that is started changes them
abbrev pub CallRuns : ℕ → ℕ → List OpScope → List OpScope → Result Called Refusal → Type 0
CallRuns t steps old new (Ok answer.Started) = RunsBehind t steps old new
CallRuns t steps old new (Ok (answer.Wait holder)) = new ≡ old
CallRuns t steps old new (Err why) = new ≡ old

-- An operation that is started has the next number, after that of the last one, and no other call takes one.
abbrev pub TakesNumber : {D : Type 0} → ℕ → List OpScope → Core D → Type 0
TakesNumber last old n =
    (n.last ≡ last + 1) × ((r : OpScope) × (n.running.items ≡ old ++ r ∷ []) × (r.number ≡ n.last))

abbrev pub DrawsNumber : {D : Type 0} → ℕ → List OpScope → Core D → Result Called Refusal → Type 0
DrawsNumber last old n (Ok answer.Started) = TakesNumber last old n
DrawsNumber last old n (Ok (answer.Wait holder)) = n.last ≡ last
DrawsNumber last old n (Err why) = n.last ≡ last

-- ---- an abort

-- An effect of a transaction is undone in these: its inverse begins, and makes two a page and nine at most.
abbrev pub effect_steps : ℕ → ℕ → Entry → ℕ
effect_steps pages t e = if is_effect t e then 2 * pages + 10 else 0

abbrev pub effects_left : ℕ → List Entry → ℕ → ℕ
effects_left pages es t = sum_by (effect_steps pages t) es

-- An operation that is no inverse is put back, a page a step, and dropped out. An inverse represents one of the
-- effects.
abbrev pub steps_with : ℕ → OpScope → ℕ → ℕ
steps_with pages r effects =
    cond (undoes_of r == 0) (r.standing + 1 + effects) (work_of r + (effects - (2 * pages + 10)))

abbrev pub abort_steps : ℕ → List OpScope → ℕ → ℕ → ℕ
abort_steps pages [] t effects = effects
abort_steps pages (r ∷ rs) t effects = cond (r.txn == t) (steps_with pages r effects) (abort_steps pages rs t effects)

-- how many steps the abort of a transaction makes at most before its end, if nobody is in its way
abbrev pub undo_steps : {D : Type 0} → Core D → ℕ → ℕ
undo_steps k t =
    abort_steps (pages (core_pool k)) k.running.items t (effects_left (pages (core_pool k)) k.live.standing t)

-- if none of them grows
abbrev pub LeavesUndo : {D : Type 0} → Core D → Core D → Type 0
LeavesUndo k n = (t : ℕ) → undo_steps n t ≤ undo_steps k t

-- what that is at most: the steps of an effect for each of its operations that stand, and for the one under way
abbrev pub most_steps : {D : Type 0} → Core D → ℕ → ℕ
most_steps k t = (length (filter (is_counted t) k.live.standing) + 1) * (2 * pages (core_pool k) + 10)

-- what a step of an inverse leaves of them
abbrev pub LowersUndo : ℕ → Result Stepping Refusal → ℕ → ℕ → Type 0
LowersUndo pages (Ok (Ended reply)) before now = now < before
LowersUndo pages (Ok (GoingOn g)) before now = LeavesSteps pages g before now
LowersUndo pages (Err why) before now = now ≤ before

-- a step of a taking back
abbrev pub LowersBack : Result TakenBack Refusal → ℕ → ℕ → Type 0
LowersBack (Ok taken.More) before now = now < before
LowersBack (Ok taken.Clear) before now = now < before
LowersBack (Ok taken.Flush) before now = now ≤ before
LowersBack (Err why) before now = now ≤ before

-- which puts one page back, or none
abbrev pub LeavesStanding : OpScope → OpScope → Result TakenBack Refusal → Type 0
LeavesStanding s t (Ok taken.More) = t.standing + 1 ≡ s.standing
LeavesStanding s t (Ok taken.Clear) = ⊤
LeavesStanding s t (Ok taken.Flush) = t.standing ≡ s.standing
LeavesStanding s t (Err why) = t.standing ≡ s.standing
