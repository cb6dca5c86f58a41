-- What counts leads to where all calls of a play lead.
use Rattle.std.proofs.Common.{◌≡◌, ℕ, zero, suc, List, [], ◌∷◌, ◌++◌, Option, Some, None, take, drop, refl, ap, sym, subst, ◌∙◌}
use Rattle.std.specs.Prelude.{IfSome}
use Rattle.std.specs.Option.{option_map, option_to_list}
use Rattle.mt_base.specs.declared.refusal.Refusal.{Refusal}
use Rattle.mt_model.specs.declared.operations.Op.{Op}
use Rattle.mt_model.specs.Backwards.{back_to, calls_back, inverse_reply, OpenCalls, no_calls, with_one}
use Rattle.mt_model.specs.History.{Call, run, IsActed}
use Rattle.mt_model.specs.Model.{Base, IsBase, base_after, inverse_of, reply_of}
use Rattle.mt_model.proofs.Appends.{run-append, acted_append}
use Rattle.mt_model.proofs.Returns.{bounds_after, goes_back, reply_back_is}
use Rattle.mt_live.specs.Inverses.{inverse_on, inverses_on}
use Rattle.mt_script.specs.declared.answers.Answer.{Answer}
use Rattle.mt_script.specs.declared.lines.Line.{Line}
use Rattle.mt_script.specs.declared.lines.Line.TheVariants as line
use Rattle.mt_alone.specs.Plays.{HasPlayed, IsTurn, Play, Runs, acts, after_at, back_on, goes_on, refuses, starts}
use Rattle.mt_alone.specs.Savepoints.{AreLed}

-- ---- inverses on a base

-- after calls that acted
back_to_front : (b : Base) (cs : List Call) → IsBase b → IsActed b cs → run (run b cs) (calls_back cs) ≡ b
back_to_front b cs within acted = sym (run-append b cs (calls_back cs)) ∙ (goes_back bounds_after b cs within acted).1

-- an inverse finds what its operation left
one_inverse : (b m : Base) (c : Call) → IsBase b → reply_of b c.0 ≡ c.1 → m ≡ base_after b c.0 → (x : Option Op) → inverse_of c.0 c.1 ≡ x
    → inverse_on m x ≡ option_to_list (option_map (λ (i : Op). (i, inverse_reply c.0)) x)
one_inverse b m c within acted at None is = refl
one_inverse b m c within acted at (Some i) is =
    ap (λ r. (i, r) ∷ []) (ap (λ (z : Base). reply_of z i) at ∙ reply_back_is b c.0 i within (subst (λ r. inverse_of c.0 r ≡ Some i) (sym acted) is))

pub inverses_are : (b : Base) (cs : List Call) → IsBase b → IsActed b cs → inverses_on (run b cs) cs ≡ calls_back cs
inverses_are b [] within acted = refl
inverses_are b (c ∷ cs) within acted =
    let m : Base = base_after b c.0 in
    let rest = inverses_are m cs (bounds_after b c.0 within) acted.1 in
    let here : run (run m cs) (inverses_on (run m cs) cs) ≡ m = ap (run (run m cs)) rest ∙ back_to_front m cs (bounds_after b c.0 within) acted.1 in
    ap (λ (xs : List Call). xs ++ inverse_on (run (run m cs) (inverses_on (run m cs) cs)) (inverse_of c.0 c.1)) rest
    ∙ ap (λ (xs : List Call). calls_back cs ++ xs) (one_inverse b (run (run m cs) (inverses_on (run m cs) cs)) c within acted.0 here (inverse_of c.0 c.1) refl)

lead_back : (b : Base) (cs : List Call) → IsBase b → IsActed b cs → run (run b cs) (inverses_on (run b cs) cs) ≡ b
lead_back b cs within acted = ap (run (run b cs)) (inverses_are b cs within acted) ∙ back_to_front b cs within acted

-- ---- the first so many, and the others

run_within : (b : Base) (cs : List Call) → IsBase b → IsBase (run b cs)
run_within b [] within = within
run_within b (c ∷ cs) within = run_within (base_after b c.0) cs (bounds_after b c.0 within)

acted_first : (b : Base) (n : ℕ) (cs : List Call) → IsActed b cs → IsActed b (take n cs)
acted_first b zero cs acted = tt
acted_first b (suc n) [] acted = tt
acted_first b (suc n) (c ∷ cs) acted = (acted.0, acted_first (base_after b c.0) n cs acted.1)

acted_rest : (b : Base) (n : ℕ) (cs : List Call) → IsActed b cs → IsActed (run b (take n cs)) (drop n cs)
acted_rest b zero cs acted = acted
acted_rest b (suc n) [] acted = tt
acted_rest b (suc n) (c ∷ cs) acted = acted_rest (base_after b c.0) n cs acted.1

run_parts : (b : Base) (n : ℕ) (cs : List Call) → run b cs ≡ run (run b (take n cs)) (drop n cs)
run_parts b zero cs = refl
run_parts b (suc n) [] = refl
run_parts b (suc n) (c ∷ cs) = run_parts (base_after b c.0) n cs

-- ---- what a line does to calls

one_more : (b : Base) (calls : OpenCalls) (op : Op) → AreLed b calls → AreLed b (with_one calls (op, reply_of (run b calls.all) op))
one_more b calls op led =
    let c : Call = (op, reply_of (run b calls.all) op) in
    record {
      acted = acted_append b calls.counted (c ∷ []) led.acted (ap (λ (z : Base). reply_of z op) (sym led.same), tt);
      same = run-append b calls.all (c ∷ []) ∙ (ap (λ (z : Base). base_after z op) led.same ∙ sym (run-append b calls.counted (c ∷ [])));
    }

gone_to : (b : Base) (calls : OpenCalls) (n : ℕ) → IsBase b → AreLed b calls → AreLed b (back_on b calls n)
gone_to b calls n within led =
    let front : Base = run b (take n calls.counted) in
    let rest : List Call = drop n calls.counted in
    let all : run b calls.all ≡ run front rest = led.same ∙ run_parts b n calls.counted in
    record {
      acted = acted_first b n calls.counted led.acted;
      same = run-append b calls.all (inverses_on (run b calls.all) rest)
          ∙ (ap (λ (z : Base). run z (inverses_on z rest)) all
          ∙ lead_back front rest (run_within b (take n calls.counted) within) (acted_rest b n calls.counted led.acted));
    }

-- the replies of the inverses are known
with_inverses : OpenCalls → ℕ → List Call → OpenCalls
with_inverses calls n inverses = record { all = calls.all ++ inverses; counted = take n calls.counted }

pub goes_back_alike : (b : Base) (calls : OpenCalls) (n : ℕ) → IsBase b → AreLed b calls → back_on b calls n ≡ back_to calls n
unfolding with_inverses
goes_back_alike b calls n within led =
    let front : Base = run b (take n calls.counted) in
    let rest : List Call = drop n calls.counted in
    let all : run b calls.all ≡ run front rest = led.same ∙ run_parts b n calls.counted in
    ap (with_inverses calls n) (ap (λ (z : Base). inverses_on z rest) all
    ∙ inverses_are front rest (run_within b (take n calls.counted) within) (acted_rest b n calls.counted led.acted))

-- ---- a line, and all of them

record IsLed (p : Play) : Type 0 where
  within : IsBase p.base
  calls : IfSome p.under_way (AreLed p.base)

after_led : (p : Play) (u : Option OpenCalls) (l : Line) → p.under_way ≡ u → IsLed p → IsLed (after_at p u l)
after_led p None line.Begin is led = record { within = led.within; calls = record { acted = tt; same = refl } }
after_led p None (line.Call op) is led = led
after_led p None line.Save is led = led
after_led p None (line.Back n) is led = led
after_led p None line.Commit is led = led
after_led p None line.Abort is led = led
after_led p (Some calls) line.Begin is led = led
after_led p (Some calls) (line.Call op) is led =
    record { within = led.within; calls = one_more p.base calls op (subst (λ (u : Option OpenCalls). IfSome u (AreLed p.base)) is led.calls) }
after_led p (Some calls) line.Save is led = led
after_led p (Some calls) (line.Back n) is led =
    record { within = led.within; calls = gone_to p.base calls n led.within (subst (λ (u : Option OpenCalls). IfSome u (AreLed p.base)) is led.calls) }
after_led p (Some calls) line.Commit is led = record { within = run_within p.base calls.all led.within; calls = tt }
after_led p (Some calls) line.Abort is led = record { within = led.within; calls = tt }

turn_led : {IsDue : Line → Refusal → Type 0} → (relations counters : ℕ) (p q : Play) (l : Line) (a : Answer) → IsTurn relations counters IsDue p l a q → IsLed p → IsLed q
turn_led relations counters p _ l _ (acts none) led = after_led p p.under_way l refl led
turn_led relations counters p _ l _ (refuses why cause) led = led

runs_led : (relations counters : ℕ) (start end : Play) (lines : List Line) (answers : List Answer) → IsLed start → HasPlayed relations counters start lines answers end → IsLed end
runs_led relations counters start _ _ _ led starts = led
runs_led relations counters start _ _ _ led (goes_on lines answers mid end l answer ran turn) =
    turn_led relations counters mid end l answer turn (runs_led relations counters start mid lines answers led ran)

pub what_counts_leads : (relations counters : ℕ) (start end : Play) (lines : List Line) (answers : List Answer) → IsBase start.base → start.under_way ≡ None → HasPlayed relations counters start lines answers end
    → IfSome end.under_way (AreLed end.base)
what_counts_leads relations counters start end lines answers within none played =
    (runs_led relations counters start end lines answers (record { within = within; calls = subst (λ (u : Option OpenCalls). IfSome u (AreLed start.base)) (sym none) tt }) played).calls
