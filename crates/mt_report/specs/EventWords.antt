-- The words that lines of a schedule begin with.
use Rattle.std.specs.Prelude.{ℕ, cond, List, Option, Some, None, bytes_eq, codes}
use Rattle.mt_report.specs.declared.event_words.EventWord.{EventWord}
use Rattle.mt_report.specs.declared.event_words.EventWord.TheVariants.{Begin, Call, Step, Commit, Abort, Undo, Back, BackStep, Force, Flush, Rotate}

-- the word that the bytes are
abbrev pub event_word : List ℕ → Option EventWord
event_word bytes =
    cond (bytes_eq bytes (codes "begin")) (Some Begin) (cond (bytes_eq bytes (codes "call")) (Some Call)
    (cond (bytes_eq bytes (codes "step")) (Some Step) (cond (bytes_eq bytes (codes "commit")) (Some Commit)
    (cond (bytes_eq bytes (codes "abort")) (Some Abort) (cond (bytes_eq bytes (codes "undo")) (Some Undo)
    (cond (bytes_eq bytes (codes "back")) (Some Back) (cond (bytes_eq bytes (codes "backstep")) (Some BackStep)
    (cond (bytes_eq bytes (codes "force")) (Some Force) (cond (bytes_eq bytes (codes "flush")) (Some Flush)
    (cond (bytes_eq bytes (codes "rotate")) (Some Rotate) None))))))))))

-- how a line is written that begins with it
abbrev pub event_form : EventWord → List ℕ
event_form Begin = codes "begin SESSION"
event_form Call = codes "call TRANSACTION OPERATION"
event_form Step = codes "step TRANSACTION"
event_form Commit = codes "commit TRANSACTION"
event_form Abort = codes "abort TRANSACTION"
event_form Undo = codes "undo TRANSACTION"
event_form Back = codes "back TRANSACTION COUNT"
event_form BackStep = codes "backstep TRANSACTION"
event_form Force = codes "force"
event_form Flush = codes "flush"
event_form Rotate = codes "rotate"

abbrev pub event_words : List ℕ
event_words = codes "begin, call, step, commit, abort, undo, back, backstep, force, flush, rotate"
