-- A trial, from its first schema on.
use Rattle.std.proofs.Common.{◌≡◌, ◌∙◌, inl, inr, ℕ, Bool, List, [], ◌∷◌, length, Option, None, Some, Ok, IfErr, OnOk, refl, ap, subst}
use Rattle.mt_base.specs.declared.refusal.Refusal.{Refusal}
use Rattle.mt_base.specs.declared.refusal.Refusal.TheVariants as refusal
use Rattle.mt_disk.specs.declared.device.Device.{Ghosts}
use Rattle.mt_live.specs.Machine.{start}
use Rattle.mt_model.specs.declared.counters.Count.{Count}
use Rattle.mt_rows.specs.declared.rows.Row.{Row}
use Rattle.mt_rows.specs.Rows.{value_at}
use Rattle.mt_model.specs.Tables.{count_at}
use Rattle.mt_model.specs.Views.{rows_of}
use Rattle.mt_restart.specs.Rotated.{GoesOver}
use Rattle.mt_txn.specs.Shown.{Restarts, Shows}
use Rattle.mt_txn.specs.declared.kernel.Kernel.{Kernel}
use Rattle.mt_format.specs.Schemas.{counters_in, relations_in, schema_base}
use Rattle.mt_format.specs.declared.schema.Schema.{Schema}
use Rattle.mt_script.specs.declared.lines.Line.{Line}
use Rattle.mt_script.specs.declared.answers.Answer.{Answer}
use Rattle.mt_alone.specs.declared.alone.RunFault.{RunFault}
use Rattle.mt_alone.specs.declared.alone.RunFault.TheVariants as run
use Rattle.mt_alone.specs.declared.rotation.NotServed.{NotServed}
use Rattle.mt_restart.specs.declared.standing.Standing.{Standing}
use Rattle.mt_restart.specs.declared.standing.Standing.TheVariants.{Stands, Ended}
use Rattle.mt_alone.specs.declared.stops.Stop.{Stop}
use Rattle.mt_alone.specs.Plays.{Play, IsTurn, acts, refuses, Runs, starts, goes_on, HasPlayed}
use Rattle.mt_alone.specs.Runs.{HasTurned, IsEndedFor}
use Rattle.mt_alone.specs.Stops.{IsStopIn}
use Rattle.mt_alone.specs.Turnovers.{BesideFrom, HasRunOut, IsCutOff, IsLeftBy, IsLeftFrom}
use Rattle.mt_alone.proofs.TurnoverLemmas.{resting_over}
use Rattle.mt_cli.specs.Performs.{HasTried, IsCutTrial, IsFirst, IsFirstSchema, IsShort, StandsFirst, stopped}
use Rattle.mt_cli.specs.Serves.{AreEndedBy, end_of}

first_play : Schema → Play
first_play schema = record { session = 1; first = schema_base schema; base = schema_base schema; book = []; under_way = None }

no_rows : (rs : List Row) (r : ℕ) (k : List ℕ) → length rs ≡ 0 → value_at rs r k ≡ None
no_rows [] r k none = refl
no_rows (x ∷ xs) r k none = absurd cc

is_first : (schema : Schema) → IsFirstSchema schema → IsFirst (first_play schema)
unfolding first_play
is_first schema first = record {
  session = refl;
  rows = λ r k. no_rows (rows_of schema.base) r k first.rows;
  counter = ap (λ (ns : List Count). count_at ns 0) first.counters;
  book = refl;
  nothing = refl;
}

-- what was wanted is not known of the model
turn_of : {IsDue : Line → Refusal → Type 0} → (relations counters : ℕ) (p q : Play) (l : Line) (a : Answer) → IsTurn relations counters IsDue p l a q → IsTurn relations counters (λ line why. Unit {0}) p l a q
turn_of relations counters p _ l _ (acts none) = acts none
turn_of relations counters p _ l _ (refuses why (inl fault)) = refuses why (inl fault)
turn_of relations counters p _ l _ (refuses why (inr (want, due))) = refuses why (inr (want, tt))

module _ {D : Type 0} {g : Ghosts D} where
  pub stands_first : (schema : Schema) (k : Kernel D g) → IsFirstSchema schema → Shows (schema_base schema) (start (schema_base schema)) k → Restarts (schema_base schema) k → (k.relations ≡ relations_in schema) × (k.counters ≡ length (counters_in schema))
      → StandsFirst k
  unfolding first_play
  stands_first schema k first shows restarts made = record {
    play = first_play schema;
    first = is_first schema first;
    beside = record { shown = ∣ (schema_base schema, start (schema_base schema), shows, (record { first_is = refl; book = refl; base = refl }, λ u. refl)) ∣₁; nothing = refl };
    restarts = restarts;
    relations = made.0 ∙ first.relations;
    counters = made.1 ∙ ap (λ (ns : List Count). length ns) first.counters;
  }

  -- a run of a kernel of so many relations and counters is one of the model
  schema_kept : (s e : Play × Kernel D g) (ls : List Line) (as' : List Answer) → Runs (HasTurned) s ls as' e → (e.1.relations ≡ s.1.relations) × (e.1.counters ≡ s.1.counters)
  schema_kept s _ _ _ starts = (refl, refl)
  schema_kept s _ _ _ (goes_on lines answers m e line answer before t) =
      let kept = schema_kept s m lines answers before in (t.schema.0 ∙ kept.0, t.schema.1 ∙ kept.1)

  pub played : (relations counters : ℕ) (s e : Play × Kernel D g) (ls : List Line) (as' : List Answer) → s.1.relations ≡ relations → s.1.counters ≡ counters → Runs (HasTurned) s ls as' e → HasPlayed relations counters s.0 ls as' e.0
  played relations counters s _ _ _ rs cs starts = starts
  played relations counters s _ _ _ rs cs (goes_on lines answers m e line answer before t) =
      let kept = schema_kept s m lines answers before in
      let own = turn_of m.1.relations m.1.counters m.0 e.0 line answer t.turn in
      goes_on lines answers m.0 e.0 line answer (played relations counters s m lines answers rs cs before)
      (subst (λ (X : Type 0). X) (λ i. IsTurn ((kept.0 ∙ rs) i) ((kept.1 ∙ cs) i) (λ line why. Unit {0}) m.0 line answer e.0) own)

  module _ where
    ended_by : (n : Kernel D g) (why : RunFault) → IsEndedFor n why → AreEndedBy why
    ended_by n run.Output ended = tt
    ended_by n (run.Refused refusal.NoMemory) ended = inl refl
    ended_by n (run.Refused y) ended = inr (ended (λ e. cc)).0

    ended_from : (relations counters : ℕ) (why : RunFault) (standing : Standing D g) (q : Play) → IsLeftFrom relations counters why standing q → AreEndedBy why
    ended_from relations counters run.Output standing q x = tt
    ended_from relations counters (run.Refused why) (Stands n) q x = ended_by n (run.Refused why) x.0.1
    ended_from relations counters (run.Refused why) (Ended device) q x = inr x.0

    -- why a run ended of which this is left
    pub ended_among : (relations counters : ℕ) (left : NotServed D g) (q : Play) → IsLeftBy relations counters left q → AreEndedBy left.why
    ended_among relations counters left q x = ended_from relations counters left.why left.left q x

module _ {D : Type 0} (g : Ghosts D) where
  -- so does one that goes on as it, with its log turned over
  stands_over : (k n : Kernel D g) → StandsFirst k → GoesOver k n → StandsFirst n
  stands_over k n at over = record {
    play = at.play;
    first = at.first;
    beside = resting_over at.play k n at.beside at.restarts over;
    restarts = over.restarts at.play.first at.restarts;
    relations = over.schema.0 ∙ at.relations;
    counters = over.schema.1 ∙ at.counters;
  }

  pub tried_of : (stop : Bool) (ending : Option Stop) (k n : Kernel D g) (lines : List Line) (was now : Option (List ℕ)) → StandsFirst k → IsStopIn 1 lines ending
      → BesideFrom 1 None k (λ p. HasRunOut stop ending p k lines was now n) → HasTried g stop ending lines was now
  unfolding stands_over
  tried_of stop ending k n lines was now at within ran =
      let (begun, over, x) = ran at.play at.first.session at.beside at.restarts in
      record {
        kernel = begun;
        stands = stands_over k begun at over;
        answers = x.answers;
        last = (x.play, x.last);
        at = within;
        ran = x.ran;
        ends = x.ends;
        outcome = x.outcome;
      }

  pub short_of : (k : Kernel D g) (lines : List Line) (was now : Option (List ℕ)) (left : NotServed D g) → StandsFirst k
      → BesideFrom 1 None k (λ p. IsCutOff p k lines was now left) → IsShort g lines was now left.why
  unfolding stands_over
  short_of k lines was now left at cut =
      let (begun, over, x) = cut at.play at.first.session at.beside at.restarts in
      record {
        kernel = begun;
        stands = stands_over k begun at over;
        before = x.before;
        rest = x.rest;
        split = x.split;
        answers = x.answers;
        last = (x.play, x.last);
        ran = x.ran;
        outcome = x.outcome;
        ended = ended_among k.relations k.counters left x.play x.left;
      }

  -- how `try` ends whose lines ran so far
  pub tried_end : (stop : Bool) (ending : Option Stop) (lines : List Line) (was now : Option (List ℕ)) → HasTried g stop ending lines was now → OnOk (end_of (Ok ending)) (HasTried g stop None lines was now)
  tried_end stop None lines was now x = x
  tried_end stop (Some at) lines was now x = tt

  pub stopped_end : (stop : Bool) (ending : Option Stop) (lines : List Line) (was now : Option (List ℕ)) → HasTried g stop ending lines was now → IfErr (end_of (Ok ending)) (IsCutTrial g stop lines was now)
  stopped_end stop None lines was now x = tt
  stopped_end stop (Some at) lines was now x = stopped at x
