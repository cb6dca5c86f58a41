-- What one more event with its answer says, and the commits that begin with it.
use Rattle.std.proofs.Common.{◌≡◌, ◌<◌, ℕ, suc, List, [], ◌∷◌, ◌++◌, length, take, get_or, refl, ap, ap₂, sym, ◌∙◌, append_assoc, append-nil, arith}
use Rattle.std.proofs.lemmas.List.{length-take-le}
use Rattle.std.proofs.Math.Seq.{take-suc}
use Rattle.mt_world.specs.Reported.{Reported, acknowledged, committing, named, nothing_reported, started_by, with_answer, reported_from, reported_of}
use Rattle.mt_world.specs.declared.events.Answer.{Answer}
use Rattle.mt_world.specs.declared.events.Event.{Event}

pub reported_more : (t : ℕ) (outcome : Reported) (events : List Event) (answers : List Answer) (event : Event) (answer : Answer) → length events ≡ length answers
    → reported_from t outcome (events ++ event ∷ []) (answers ++ answer ∷ []) ≡ with_answer t (reported_from t outcome events answers) event answer
reported_more t outcome [] [] event answer same = refl
reported_more t outcome [] (a ∷ answers) event answer same = absurd (omega arith)
reported_more t outcome (e ∷ events) [] event answer same = absurd (omega arith)
reported_more t outcome (e ∷ events) (a ∷ answers) event answer same = reported_more t (with_answer t outcome e a) events answers event answer (omega arith)

pub acknowledged_more : (answers : List Answer) (answer : Answer) → acknowledged (answers ++ answer ∷ []) ≡ acknowledged answers ++ named answer
acknowledged_more [] answer = append-nil (named answer)
acknowledged_more (a ∷ answers) answer = ap (λ (ts : List ℕ). named a ++ ts) (acknowledged_more answers answer) ∙ sym (append_assoc (named a) (acknowledged answers) (named answer))

pub committing_more : (events : List Event) (answers : List Answer) (event : Event) (answer : Answer) → length events ≡ length answers
    → committing (events ++ event ∷ []) (answers ++ answer ∷ []) ≡ committing events answers ++ started_by event answer
committing_more [] [] event answer same = append-nil (started_by event answer)
committing_more [] (a ∷ answers) event answer same = absurd (omega arith)
committing_more (e ∷ events) [] event answer same = absurd (omega arith)
committing_more (e ∷ events) (a ∷ answers) event answer same =
    ap (λ (ts : List ℕ). started_by e a ++ ts) (committing_more events answers event answer (omega arith)) ∙ sym (append_assoc (started_by e a) (committing events answers) (started_by event answer))

-- ---- one event after the other

module _ (events : List Event) (answers : List Answer) (same : length answers ≡ length events) (i : ℕ) (inside : i < length events) (event : Event) (answer : Answer) (is : event ≡ get_or events i event) (reported_is : answer ≡ get_or answers i answer) where
  events_on : take (suc i) events ≡ take i events ++ event ∷ []
  events_on = take-suc events i event inside ∙ ap (λ (e : Event). take i events ++ e ∷ []) (sym is)

  answers_on : take (suc i) answers ≡ take i answers ++ answer ∷ []
  answers_on = take-suc answers i answer (omega (arith, same, inside)) ∙ ap (λ (a : Answer). take i answers ++ a ∷ []) (sym reported_is)

  short : length (take i events) ≡ length (take i answers)
  short = let one = length-take-le i events (omega (arith, inside)) in let two = length-take-le i answers (omega (arith, inside, same)) in omega (arith, one, two)

  pub reported_next : (t : ℕ) → reported_of (take (suc i) events) (take (suc i) answers) t ≡ with_answer t (reported_of (take i events) (take i answers) t) event answer
  reported_next t = ap₂ (λ (es : List Event) (as' : List Answer). reported_of es as' t) events_on answers_on ∙ reported_more t nothing_reported (take i events) (take i answers) event answer short

  pub committing_next : committing (take (suc i) events) (take (suc i) answers) ≡ committing (take i events) (take i answers) ++ started_by event answer
  committing_next = ap₂ committing events_on answers_on ∙ committing_more (take i events) (take i answers) event answer short

pub acknowledged_next : (answers : List Answer) (i : ℕ) (answer : Answer) → i < length answers → answer ≡ get_or answers i answer → acknowledged (take (suc i) answers) ≡ acknowledged (take i answers) ++ named answer
acknowledged_next answers i answer inside is =
    ap acknowledged (take-suc answers i answer inside ∙ ap (λ (a : Answer). take i answers ++ a ∷ []) (sym is)) ∙ acknowledged_more (take i answers) answer
