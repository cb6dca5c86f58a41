-- Where a run ends that is to stop.
use Rattle.std.proofs.Common.{◌≡◌, ◌<◌, ◌+◌, ◌-◌, ◌∙◌, suc, zero, ℕ, Bool, true, false, List, [], ◌∷◌, ◌++◌, Option, Some, None, arith, length, take, drop, get_or, map, refl, ap, sym, subst, append_assoc, append-nil, take-append-drop}
use Rattle.std.proofs.lemmas.List.{get_or-map, length-map}
use Rattle.std.proofs.lemmas.List.Elements.{All-append, All-nil, All-push}
use Rattle.mt_base.specs.declared.refusal.Refusal.{Refusal}
use Rattle.mt_base.specs.declared.refusal.Refusal.TheVariants as refusal
use Rattle.mt_model.specs.History.{Call}
use Rattle.mt_script.specs.declared.answers.Answer.{Answer}
use Rattle.mt_script.specs.declared.answers.Answer.TheVariants.{Refused}
use Rattle.mt_script.specs.declared.lines.Line.{Line}
use Rattle.mt_script.specs.declared.reader.Script.{Script}
use Rattle.mt_alone.specs.Runs.{last_line}
use Rattle.mt_alone.specs.Sessions.{Close, Closes}
use Rattle.mt_script.specs.Scripts.{lines_in}
use Rattle.mt_alone.specs.Stops.{Ends, GoesOn, IsStopAmong, IsStopIn, lines_to, scripts_to, stop_of}
use Rattle.mt_alone.specs.declared.stops.Stop.{Stop}
use Rattle.mt_model.specs.Backwards.{OpenCalls}

-- ---- an answer

-- what stops a run is a refusal, and this one
stopped_by : (answer : Answer) (why : Refusal) → stop_of answer ≡ Some why → answer ≡ Refused why
stopped_by (Refused refusal.NoMemory) why is = cc
stopped_by (Refused refusal.DeviceFailed) why is = cc
stopped_by (Refused refusal.NotFormatted) why is = cc
stopped_by (Refused (refusal.BadFormat place)) why is = cc
stopped_by (Refused refusal.BadLength) why is = cc
stopped_by (Refused refusal.NoSuchRelation) why is = cc
stopped_by (Refused refusal.NoSuchCounter) why is = cc
stopped_by (Refused refusal.BadStep) why is = cc
stopped_by (Refused refusal.NoRoom) why is = cc
stopped_by (Refused refusal.LogFull) why is = cc
stopped_by (Refused refusal.BookFull) why is = cc
stopped_by (Refused refusal.TooManyTransactions) why is = cc
stopped_by (Refused refusal.Stranger) why is = cc
stopped_by (Refused refusal.Busy) why is = cc
stopped_by (Refused refusal.TooManyOperations) why is = cc
stopped_by (Refused (refusal.BadLine place)) why is = cc
stopped_by (Refused refusal.BadSavepoint) why is = cc
stopped_by (Refused refusal.WrongFormat) why is = cc
stopped_by answer why is = absurd cc

-- one answer
pub ends_one : (answer : Answer) (why : Option Refusal) → why ≡ stop_of answer → Ends true why (answer ∷ [])
ends_one answer None is = All-push GoesOn [] answer (All-nil GoesOn) (sym is)
ends_one answer (Some why) is = (
  [],
  ap (λ (a : Answer). a ∷ []) (stopped_by answer why (sym is)),
  All-nil GoesOn,
  subst (λ (a : Answer). stop_of a ≡ Some why) (stopped_by answer why (sym is)) (sym is),
)

-- ---- answers

pub ends_none : (stop : Bool) → Ends stop None []
ends_none false = refl
ends_none true = All-nil GoesOn

pub ends_more : (stop : Bool) (why : Option Refusal) (xs ys : List Answer) → Ends stop None xs → Ends stop why ys → Ends stop why (xs ++ ys)
ends_more false why xs ys before ends = ends
ends_more true None xs ys before ends = All-append GoesOn xs ys before ends
ends_more true (Some why) xs ys before (heard, is, goes_on, stops) = (
  xs ++ heard,
  ap (λ (t : List Answer). xs ++ t) is ∙ sym (append_assoc xs heard (Refused why ∷ [])),
  All-append GoesOn xs heard before goes_on,
  stops,
)

-- ---- transcripts

pub none_close : (stop : Bool) → Close stop None []
none_close stop = All-nil (Closes stop None)

pub one_closes : (stop : Bool) (why : Option Refusal) (answers : List Answer) (u : Option OpenCalls) → Ends stop why answers → Closes stop why (answers ++ last_line u)
one_closes stop why answers u ends = (answers, u, refl, ends)

pub more_close : (stop : Bool) (why : Option Refusal) (before : List (List Answer)) (outcome : List Answer) → Close stop None before → Closes stop why outcome → Close stop why (before ++ outcome ∷ [])
more_close stop None before outcome close closes = All-push (Closes stop None) before outcome close closes
more_close stop (Some why) before outcome close closes = (before, outcome, refl, close, closes)

-- ---- lines

-- those that do not run
pub left_from : (ending : Option Stop) (lines : List Line) → (rest : List Line) × (lines ≡ lines_to ending lines ++ rest)
left_from None lines = ([], sym (append-nil lines))
left_from (Some stop) lines = (drop stop.line lines, sym (take-append-drop stop.line lines))

-- ---- scripts

taken_lines : (n : ℕ) (scripts : List Script) → take n (map lines_in scripts) ≡ map lines_in (take n scripts)
taken_lines zero scripts = refl
taken_lines (suc n) [] = refl
taken_lines (suc n) (script ∷ scripts) = ap (λ (t : List (List Line)). lines_in script ∷ t) (taken_lines n scripts)

module _ (scripts : List Script) (i : ℕ) (s : Script) (lt : i < length scripts) (is : s ≡ get_or scripts i s) where
  lines_at : get_or (map lines_in scripts) i [] ≡ lines_in s
  lines_at = get_or-map lines_in scripts i s [] lt ∙ ap lines_in (sym is)

  -- those before the place, and the lines of the script there up to its stop
  pub scripts_at_stop : (stop : Stop) → IsStopIn (i + 1) (lines_in s) (Some stop) → scripts_to (Some stop) (map lines_in scripts) ≡ map lines_in (take i scripts) ++ lines_to (Some stop) (lines_in s) ∷ []
  scripts_at_stop stop (session, some, within) =
      let place : stop.session - 1 ≡ i = omega (arith, session) in
      ap (λ (n : ℕ). take n (map lines_in scripts) ++ take stop.line (get_or (map lines_in scripts) n []) ∷ []) place
      ∙ ap (λ (t : List (List Line)). t ++ take stop.line (get_or (map lines_in scripts) i []) ∷ []) (taken_lines i scripts)
      ∙ ap (λ (t : List Line). map lines_in (take i scripts) ++ take stop.line t ∷ []) lines_at

  pub stop_among : (stop : Stop) → IsStopIn (i + 1) (lines_in s) (Some stop) → IsStopAmong (map lines_in scripts) (Some stop)
  stop_among stop at = (i, omega (arith, length-map scripts lines_in, lt), subst (λ (t : List Line). IsStopIn (i + 1) t (Some stop)) (sym lines_at) at)
