-- The texts of what a kernel answers to events.
use Rattle.std.specs.Prelude.{ℕ, List, [], ◌∷◌, ◌++◌, codes, map}
use Rattle.std.specs.List.{concat}
use Rattle.std.specs.Fmt.{decimal}
use Rattle.mt_base.specs.Refusal.{text_of}
use Rattle.mt_core.specs.declared.calls.Called.TheVariants as call
use Rattle.mt_pool.specs.declared.flushes.Flushed.TheVariants as flush
use Rattle.mt_script.specs.Answers.{reply_text}
use Rattle.mt_txn.specs.declared.answers.AbortStepped.{AbortStepped}
use Rattle.mt_txn.specs.declared.answers.AbortStepped.TheVariants as abort
use Rattle.mt_txn.specs.declared.answers.KernelForced.TheVariants as forced
use Rattle.mt_txn.specs.declared.answers.Stepped.TheVariants as step
use Rattle.mt_world.specs.declared.events.Answer.{Answer}
use Rattle.mt_world.specs.declared.events.Answer.TheVariants.{Begun, Called, Stepped, Committing, Aborting, Undone, Returning, Returned, Forced, Flushed, Rotated, Refused}

-- the names of transactions, each after a space
abbrev pub name_text : ℕ → List ℕ
name_text t = 32 ∷ decimal t

-- what a step that undoes is written as, without the end of its line
abbrev pub undo_text : AbortStepped → List ℕ
undo_text abort.More = codes "more"
undo_text (abort.Wait t) = codes "wait " ++ decimal t
undo_text abort.Again = codes "again"
undo_text abort.Flush = codes "flush"
undo_text abort.Ended = codes "ended"

-- and any answer
abbrev pub reported_text : Answer → List ℕ
reported_text (Begun t) = codes "begun " ++ decimal t
reported_text (Called call.Started) = codes "started"
reported_text (Called (call.Wait t)) = codes "wait " ++ decimal t
reported_text (Stepped step.Went) = codes "went"
reported_text (Stepped (step.Wait t)) = codes "wait " ++ decimal t
reported_text (Stepped step.Again) = codes "again"
reported_text (Stepped step.Flush) = codes "flush"
reported_text (Stepped (step.Replied reply)) = reply_text reply
reported_text (Committing place) = codes "committing " ++ decimal place
reported_text Aborting = codes "aborting"
reported_text (Undone stepped) = undo_text stepped
reported_text Returning = codes "returning"
reported_text (Returned stepped) = undo_text stepped
reported_text (Forced forced.More) = codes "more"
reported_text (Forced forced.Idle) = codes "idle"
reported_text (Forced (forced.Durable names)) = codes "durable" ++ concat (map name_text names.items)
reported_text (Flushed (flush.Page page)) = codes "page " ++ decimal page
reported_text (Flushed flush.Force) = codes "force"
reported_text (Flushed flush.Clean) = codes "clean"
reported_text Rotated = codes "rotated"
reported_text (Refused why) = text_of why

-- an answer's line, and those of several
abbrev pub reported_line : Answer → List ℕ
reported_line answer = reported_text answer ++ 10 ∷ []

abbrev pub reported_lines : List Answer → List ℕ
reported_lines answers = concat (map reported_line answers)
