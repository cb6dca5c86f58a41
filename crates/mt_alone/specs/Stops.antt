-- Runs that are to stop at a refusal.
use Rattle.std.specs.Prelude.{ℕ, ◌≡◌, ◌<◌, ◌≤◌, ◌+◌, ◌-◌, Bool, true, false, List, [], ◌∷◌, ◌++◌, length, take, get_or, All, Option, Some, None}
use Rattle.mt_base.specs.declared.refusal.Refusal.{Refusal}
use Rattle.mt_base.specs.declared.refusal.Refusal.TheVariants as refusal
use Rattle.mt_script.specs.declared.lines.Line.{Line}
use Rattle.mt_script.specs.declared.answers.Answer.{Answer}
use Rattle.mt_script.specs.declared.answers.Answer.TheVariants.{Begun, Replied, Saved, Back, Committed, Aborted, Refused}
use Rattle.mt_alone.specs.declared.stops.Stop.{Stop}

-- ---- answers

-- A refusal stops a run, unless it is a script's daily business: an add past the bounds of a counter, and an older
-- transaction in the way.
abbrev pub stop_of : Answer → Option Refusal
stop_of (Refused refusal.Escrow) = None
stop_of (Refused (refusal.Die holder)) = None
stop_of (Refused why) = Some why
stop_of Begun = None
stop_of (Replied reply) = None
stop_of (Saved count) = None
stop_of (Back first) = None
stop_of (Committed place) = None
stop_of Aborted = None

abbrev pub GoesOn : Answer → Type 0
GoesOn answer = stop_of answer ≡ None

-- The answers of lines. A run that is to stop ends with the first that stops it.
abbrev pub Ends : Bool → Option Refusal → List Answer → Type 0
Ends false why answers = why ≡ None
Ends true None answers = All GoesOn answers
Ends true (Some why) answers =
    (heard : List Answer) × (answers ≡ heard ++ Refused why ∷ []) × All GoesOn heard
    × (stop_of (Refused why) ≡ Some why)

-- ---- lines and scripts

abbrev pub why_stopped : Option Stop → Option Refusal
why_stopped None = None
why_stopped (Some stop) = Some stop.why

-- Those that run: all of them, or the first of them, up to the line of the stop.
abbrev pub lines_to : Option Stop → List Line → List Line
lines_to None lines = lines
lines_to (Some stop) lines = take stop.line lines

abbrev pub scripts_to : Option Stop → List (List Line) → List (List Line)
scripts_to None scripts = scripts
scripts_to (Some stop) scripts =
    take (stop.session - 1) scripts ++ take stop.line (get_or scripts (stop.session - 1) []) ∷ []

-- the stop is at a line of this session, and at one of these scripts
abbrev pub IsStopIn : ℕ → List Line → Option Stop → Type 0
IsStopIn session lines None = Unit {0}
IsStopIn session lines (Some stop) = (stop.session ≡ session) × (0 < stop.line) × (stop.line ≤ length lines)

abbrev pub IsStopAmong : List (List Line) → Option Stop → Type 0
IsStopAmong scripts None = Unit {0}
IsStopAmong scripts (Some stop) = (i : ℕ) × (i < length scripts) × IsStopIn (i + 1) (get_or scripts i []) (Some stop)
