-- Lines that ran, one after the other, and how a run ends.
use Rattle.std.proofs.Common.{◌≡◌, ◌<◌, inl, inr, suc, ℕ, Bool, false, List, [], ◌∷◌, ◌++◌, Option, Some, None, length, take, drop, get_or, refl, ap, sym, subst, ◌∙◌, append_assoc, append-nil, take-append-drop}
use Rattle.std.specs.Io.KnownBytes.{Appends}
use Rattle.std.proofs.KnownBytes.{Appends-nil, Appends-trans}
use Rattle.std.proofs.Math.Seq.{take-suc, drop-cons}
use mathlib.Core.Logic.{∥∥₁_map}
use Rattle.mt_base.specs.declared.refusal.Refusal.{Refusal}
use Rattle.mt_base.specs.declared.refusal.Refusal.TheVariants as refusal
use Rattle.mt_disk.specs.declared.device.Device.{Ghosts}
use Rattle.mt_model.specs.History.{Call}
use Rattle.mt_txn.specs.declared.kernel.Kernel.{Kernel}
use Rattle.mt_script.specs.declared.lines.Line.{Line}
use Rattle.mt_script.specs.declared.lines.Line.TheVariants as line
use Rattle.mt_script.specs.declared.answers.Answer.{Answer}
use Rattle.mt_script.specs.declared.answers.Answer.TheVariants.{Aborted, Refused}
use Rattle.mt_alone.specs.declared.alone.RunFault.{RunFault}
use Rattle.mt_alone.specs.declared.alone.RunFault.TheVariants as fault
use Rattle.mt_script.specs.Answers.{AppendsFront, answer_text, transcript_text}
use Rattle.mt_txn.specs.Shown.{SameSchema}
use Rattle.mt_alone.specs.Driven.{IsBeside, IsDueTo, IsGivenUp, IsResting}
use Rattle.mt_model.specs.Backwards.{OpenCalls}
use Rattle.mt_alone.specs.Plays.{Play, IsTurn, acts, refuses, Runs, starts, goes_on, after_at, put_off}
use Rattle.mt_alone.specs.Runs.{HasRun, HasRunLines, HasTurned, IsAnswered, IsCut, IsCutAtEnd, IsCutShort, IsEnded, IsEndedFor, nothing, aborted, failed, IsLeftFor, IsStopped, IsReportedFor, IsUnheard, failure_line, last_line}
use Rattle.mt_alone.specs.Stops.{Ends}
use Rattle.mt_script.proofs.TextLemmas.{front_then}
use Rattle.mt_alone.proofs.StopLemmas.{ends_more, ends_none}
use Rattle.mt_alone.proofs.TranscriptLemmas.{runs_then, text_joined, text_one}

-- ---- texts

text_none : (a : Option (List ℕ)) → Appends a a (transcript_text [])
unfolding transcript_text
text_none a = Appends-nil a

pub appends_all : (a b c : Option (List ℕ)) (xs ys : List Answer) → Appends a b (transcript_text xs) → Appends b c (transcript_text ys) → Appends a c (transcript_text (xs ++ ys))
appends_all a b c xs ys p q = subst (Appends a c) (sym (text_joined xs ys)) (Appends-trans a b c (transcript_text xs) (transcript_text ys) p q)

appends_front : (a b c : Option (List ℕ)) (xs ys : List Answer) → Appends a b (transcript_text xs) → AppendsFront b c (transcript_text ys) → AppendsFront a c (transcript_text (xs ++ ys))
appends_front a b c xs ys p q = subst (AppendsFront a c) (ap (λ (t : List ℕ). transcript_text xs ++ t) (append-nil (transcript_text ys)) ∙ sym (text_joined xs ys)) (front_then a b c (transcript_text xs) (transcript_text ys) [] p q)

-- of the device's failure alone there is a line
no_line : (y : Refusal) → (y ≡ refusal.DeviceFailed → ⊥) → failure_line y ≡ []
no_line refusal.DeviceFailed other = absurd (other refl)
no_line y other = refl

pub silent : (a : Option (List ℕ)) (y : Refusal) → (y ≡ refusal.DeviceFailed → ⊥) → Appends a a (transcript_text (failure_line y))
silent a y other = subst (λ (t : List Answer). Appends a a (transcript_text t)) (sym (no_line y other)) (text_none a)

-- the last of them was not heard, after others that were
unheard_behind : (a b c : Option (List ℕ)) (xs ys : List Answer) → Appends a b (transcript_text xs) → IsUnheard b c ys → IsUnheard a c (xs ++ ys)
unheard_behind a b c xs ys before u = record {
  heard = xs ++ u.heard;
  last = u.last;
  answers_are = ap (λ (t : List Answer). xs ++ t) u.answers_are ∙ sym (append_assoc xs u.heard (u.last ∷ []));
  mid = u.mid;
  outcome = appends_all a b u.mid xs u.heard before u.outcome;
  front = u.front;
}

-- what ends a run after answers, after those before them
pub reported_behind : (a b c : Option (List ℕ)) (xs ys : List Answer) (why : RunFault) → Appends a b (transcript_text xs) → IsReportedFor b c ys why → IsReportedFor a c (xs ++ ys) why
reported_behind a b c xs ys fault.Output before (last, is, front) = (last, is, subst (λ (t : List Answer). AppendsFront a c (transcript_text t)) (sym (append_assoc xs ys last)) (appends_front a b c xs (ys ++ last) before front))
reported_behind a b c xs ys (fault.Refused why) before (inl all) = inl (subst (λ (t : List Answer). Appends a c (transcript_text t)) (sym (append_assoc xs ys (failure_line why))) (appends_all a b c xs (ys ++ failure_line why) before all))
reported_behind a b c xs ys (fault.Refused why) before (inr unheard) = inr (unheard_behind a b c xs ys before unheard)

pub stopped_reported : (was now : Option (List ℕ)) (y : Refusal) (why : RunFault) → IsStopped was now y why → IsReportedFor was now [] why
stopped_reported was now y fault.Output (is, front) = (Refused refusal.DeviceFailed ∷ [], failed, subst (λ (x : Refusal). AppendsFront was now (transcript_text (failure_line x))) is front)
stopped_reported was now y (fault.Refused why) (is, all) = inl (subst (λ (x : Refusal). Appends was now (transcript_text (failure_line x))) (sym is) all)

-- ---- turns

-- what a play keeps whatever it does with a line
pub record StaysPut (p q : Play) : Type 0 where
  pub session : q.session ≡ p.session
  pub first : q.first ≡ p.first

after_stays : (p : Play) (u : Option OpenCalls) (l : Line) → StaysPut p (after_at p u l)
after_stays p None line.Begin = record { session = refl; first = refl }
after_stays p None (line.Call op) = record { session = refl; first = refl }
after_stays p None line.Save = record { session = refl; first = refl }
after_stays p None (line.Back n) = record { session = refl; first = refl }
after_stays p None line.Commit = record { session = refl; first = refl }
after_stays p None line.Abort = record { session = refl; first = refl }
after_stays p (Some calls) line.Begin = record { session = refl; first = refl }
after_stays p (Some calls) (line.Call op) = record { session = refl; first = refl }
after_stays p (Some calls) line.Save = record { session = refl; first = refl }
after_stays p (Some calls) (line.Back n) = record { session = refl; first = refl }
after_stays p (Some calls) line.Commit = record { session = refl; first = refl }
after_stays p (Some calls) line.Abort = record { session = refl; first = refl }

pub turn_stays : {IsDue : Line → Refusal → Type 0} → (relations counters : ℕ) (p q : Play) (l : Line) (a : Answer) → IsTurn relations counters IsDue p l a q → StaysPut p q
turn_stays relations counters p _ l _ (acts none) = after_stays p p.under_way l
turn_stays relations counters p _ l _ (refuses why cause) = record { session = refl; first = refl }

-- ---- a line

module _ {D : Type 0} {g : Ghosts D} (p : Play) (k : Kernel D g) where
  -- the kernels of a run, each beside its play
  abbrev Turned : Play × Kernel D g → List Line → List Answer → Play × Kernel D g → Type 0
  Turned = Runs (HasTurned)

  pub runs_session : (s e : Play × Kernel D g) (ls : List Line) (as' : List Answer) → Turned s ls as' e → e.0.session ≡ s.0.session
  runs_session s _ _ _ starts = refl
  runs_session s _ _ _ (goes_on lines answers m e line answer before t) = (turn_stays m.1.relations m.1.counters m.0 e.0 line answer t.turn).session ∙ runs_session s m lines answers before

  turned : (l : Line) (a : Answer) (live : Option ℕ) (q : Play) (n : Kernel D g) → IsBeside p live k → IsTurn k.relations k.counters (IsDueTo k live) p l a q → SameSchema k n
      → Turned (p, k) (l ∷ []) (a ∷ []) (q, n)
  turned l a live q n at turn schema = goes_on [] [] (p, k) (q, n) l a starts (record { live = live; beside = at; turn = turn; schema = schema })

  pub line_reported : (stop : Bool) (why : Option Refusal) (l : Line) (outcome : Answer × Option ℕ) (live : Option ℕ) (was now : Option (List ℕ)) (n : Kernel D g) → Ends stop why (outcome.0 ∷ []) → IsBeside p live k → SameSchema k n → IsAnswered p k live l outcome n → Appends was now (answer_text outcome.0 ++ 10 ∷ [])
      → HasRunLines stop why p k (l ∷ []) was now outcome.1 n
  line_reported stop why l outcome live was now n ends at schema (q, turn, beside) text = record {
    answers = outcome.0 ∷ [];
    play = q;
    ran = turned l outcome.0 live q n at turn schema;
    ends = ends;
    outcome = subst (Appends was now) (sym (text_one outcome.0)) text;
    beside = beside;
  }

  pub line_unheard : (l : Line) (outcome : Answer × Option ℕ) (live : Option ℕ) (was now : Option (List ℕ)) (m n : Kernel D g) (why : RunFault) → IsBeside p live k → SameSchema k m → IsAnswered p k live l outcome m
      → AppendsFront was now (answer_text outcome.0 ++ 10 ∷ []) → ((q : Play) → IsBeside q outcome.1 m → IsLeftFor q n why) → IsCutShort p k (l ∷ []) was now n why
  line_unheard l outcome live was now m n why at schema (q, turn, beside) front left = record {
    before = l ∷ [];
    rest = [];
    split = refl;
    answers = outcome.0 ∷ [];
    play = q;
    last = m;
    ran = turned l outcome.0 live q m at turn schema;
    outcome = ends why (subst (AppendsFront was now) (sym (text_one outcome.0)) front);
    left = left q beside;
  }
    where
      ends : (x : RunFault) → AppendsFront was now (transcript_text (outcome.0 ∷ [])) → IsReportedFor was now (outcome.0 ∷ []) x
      ends fault.Output f = ([], nothing, f)
      ends (fault.Refused y) f = inr (record { heard = []; last = outcome.0; answers_are = refl; mid = was; outcome = text_none was; front = f })

  -- it was given up
  stopped_left : (n : Kernel D g) (was now : Option (List ℕ)) (y : Refusal) (why : RunFault) → IsGivenUp p n y → IsStopped was now y why → IsLeftFor p n why
  stopped_left n was now y fault.Output (left, fails) (is, front) = inr (left, (fails (λ e. let wrong : refusal.DeviceFailed ≡ refusal.NoMemory = sym is ∙ e in cc)).1)
  stopped_left n was now y (fault.Refused why) given (is, all) = subst (IsGivenUp p n) (sym is) given

  pub line_stopped : (l : Line) (y : Refusal) (was now : Option (List ℕ)) (n : Kernel D g) (why : RunFault) → IsGivenUp p n y → IsStopped was now y why → IsCutShort p k (l ∷ []) was now n why
  line_stopped l y was now n why given stopped = record {
    before = [];
    rest = l ∷ [];
    split = refl;
    answers = [];
    play = p;
    last = k;
    ran = starts;
    outcome = stopped_reported was now y why stopped;
    left = stopped_left n was now y why given stopped;
  }

  -- ---- lines

  pub no_lines : (stop : Bool) (a : Option (List ℕ)) → IsBeside p None k → HasRunLines stop None p k [] a a None k
  no_lines stop a beside = record { answers = []; play = p; ran = starts; ends = ends_none stop; outcome = text_none a; beside = beside }

  pub line_more : (stop : Bool) (why : Option Refusal) (session : ℕ) (lines : List Line) (i : ℕ) (l : Line) (live now : Option ℕ) (a b c : Option (List ℕ)) (m n : Kernel D g) → p.session ≡ session → i < length lines → l ≡ get_or lines i l
      → HasRunLines stop None p k (take i lines) a b live m
      → ((q : Play) → q.session ≡ session → IsBeside q live m → HasRunLines stop why q m (l ∷ []) b c now n) → HasRunLines stop why p k (take (suc i) lines) a c now n
  line_more stop why session lines i l live now a b c m n own lt is ran next =
      let x = next ran.play (runs_session (p, k) (ran.play, m) (take i lines) ran.answers ran.ran ∙ own) ran.beside in
      let all : take i lines ++ l ∷ [] ≡ take (suc i) lines = ap (λ (y : Line). take i lines ++ y ∷ []) is ∙ sym (take-suc lines i l lt) in
      record {
        answers = ran.answers ++ x.answers;
        play = x.play;
        ran = subst (λ (ls : List Line). Turned (p, k) ls (ran.answers ++ x.answers) (x.play, n)) all (runs_then (p, k) (ran.play, m) (x.play, n) (take i lines) (l ∷ []) ran.answers x.answers ran.ran x.ran);
        ends = ends_more stop why ran.answers x.answers ran.ends x.ends;
        outcome = appends_all a b c ran.answers x.answers ran.outcome x.outcome;
        beside = x.beside;
      }

  cut_behind : (stop : Bool) (Left : Play → Type 0) (ls ms rest lines : List Line) (live : Option ℕ) (a b c : Option (List ℕ)) (m : Kernel D g) (why : RunFault) → lines ≡ ls ++ (ms ++ rest) → (ran : HasRunLines stop None p k ls a b live m)
      → IsCut Left ran.play m ms b c why → IsCut Left p k lines a c why
  cut_behind stop Left ls ms rest lines live a b c m why whole ran x = record {
    before = ls ++ x.before;
    rest = x.rest ++ rest;
    split = whole ∙ ap (λ (t : List Line). ls ++ (t ++ rest)) x.split ∙ ap (λ (t : List Line). ls ++ t) (append_assoc x.before x.rest rest) ∙ sym (append_assoc ls x.before (x.rest ++ rest));
    answers = ran.answers ++ x.answers;
    play = x.play;
    last = x.last;
    ran = runs_then (p, k) (ran.play, m) (x.play, x.last) ls x.before ran.answers x.answers ran.ran x.ran;
    outcome = reported_behind a b c ran.answers x.answers why ran.outcome x.outcome;
    left = x.left;
  }

  pub line_cut : (stop : Bool) (session : ℕ) (lines : List Line) (i : ℕ) (l : Line) (live : Option ℕ) (a b c : Option (List ℕ)) (m n : Kernel D g) (why : RunFault) → p.session ≡ session → i < length lines → l ≡ get_or lines i l
      → HasRunLines stop None p k (take i lines) a b live m
      → ((q : Play) → q.session ≡ session → IsBeside q live m → IsCutShort q m (l ∷ []) b c n why) → IsCutShort p k lines a c n why
  line_cut stop session lines i l live a b c m n why own lt is ran cut =
      let x = cut ran.play (runs_session (p, k) (ran.play, m) (take i lines) ran.answers ran.ran ∙ own) ran.beside in
      let whole : lines ≡ take i lines ++ (l ∷ [] ++ drop (suc i) lines) =
      sym (take-append-drop i lines) ∙ ap (λ (t : List Line). take i lines ++ t) (drop-cons lines i l lt) ∙ ap (λ (y : Line). take i lines ++ y ∷ drop (suc i) lines) (sym is) in
      cut_behind stop (λ q. IsLeftFor q n why) (take i lines) (l ∷ []) (drop (suc i) lines) lines live a b c m why whole ran x

  -- no line stops a run that is not to stop
  pub unstopped : (why : Option Refusal) (lines : List Line) (a b : Option (List ℕ)) (live : Option ℕ) (n : Kernel D g) → HasRunLines false why p k lines a b live n → HasRunLines false None p k lines a b live n
  unstopped why lines a b live n ran = record { answers = ran.answers; play = ran.play; ran = ran.ran; ends = refl; outcome = ran.outcome; beside = ran.beside }

  -- what cuts a beginning of lines short cuts them short
  pub front_cut : (Left : Play → Type 0) (front rest lines : List Line) (a b : Option (List ℕ)) (why : RunFault) → lines ≡ front ++ rest → IsCut Left p k front a b why → IsCut Left p k lines a b why
  front_cut Left front rest lines a b why whole x = record {
    before = x.before;
    rest = x.rest ++ rest;
    split = whole ∙ ap (λ (t : List Line). t ++ rest) x.split ∙ append_assoc x.before x.rest rest;
    answers = x.answers;
    play = x.play;
    last = x.last;
    ran = x.ran;
    outcome = x.outcome;
    left = x.left;
  }

  -- ---- the script's end

  pub closed_run : (stop : Bool) (why : Option Refusal) (lines : List Line) (a b : Option (List ℕ)) (n : Kernel D g) → HasRunLines stop why p k lines a b None n → HasRun stop why p k lines a b n
  closed_run stop why lines a b n ran = record {
    answers = ran.answers;
    play = ran.play;
    last = n;
    ran = ran.ran;
    ends = ran.ends;
    outcome =
        let none : ran.answers ++ last_line ran.play.under_way ≡ ran.answers = ap (λ (u : Option OpenCalls). ran.answers ++ last_line u) ran.beside.nothing ∙ append-nil ran.answers in
        subst (λ (t : List Answer). Appends a b (transcript_text t)) (sym none) ran.outcome;
    beside = record { shown = ∥∥₁_map ran.beside.shown (λ (first, s, shows, (played, nobody)). (first, s, shows, (record { first_is = played.first_is; book = played.book; base = played.base }, nobody))); nothing = refl };
  }

  pub ended_run : (stop : Bool) (why : Option Refusal) (lines : List Line) (t : ℕ) (a b c : Option (List ℕ)) (m n : Kernel D g) → HasRunLines stop why p k lines a b (Some t) m → ((q : Play) → IsBeside q (Some t) m → IsEnded q b c n)
      → HasRun stop why p k lines a c n
  ended_run stop why lines t a b c m n ran ended =
      let e = ended ran.play ran.beside in
      record {
        answers = ran.answers;
        play = ran.play;
        last = m;
        ran = ran.ran;
        ends = ran.ends;
        outcome = subst (λ (u : Option OpenCalls). Appends a c (transcript_text (ran.answers ++ last_line u))) (sym ran.beside.1) (appends_all a b c ran.answers (Aborted ∷ []) ran.outcome e.outcome);
        beside = e.beside;
      }

  pub end_cut : (stop : Bool) (stopped : Option Refusal) (lines : List Line) (t : ℕ) (a b c : Option (List ℕ)) (m n : Kernel D g) (why : RunFault) → HasRunLines stop stopped p k lines a b (Some t) m
      → ((q : Play) → IsBeside q (Some t) m → IsCutAtEnd q b c n why) → IsCutShort p k lines a c n why
  end_cut stop stopped lines t a b c m n why ran cut =
      let e = cut ran.play ran.beside in
      record {
        before = lines;
        rest = [];
        split = sym (append-nil lines);
        answers = ran.answers;
        play = ran.play;
        last = m;
        ran = ran.ran;
        outcome = subst (λ (t : List Answer). IsReportedFor a c t why) (append-nil ran.answers) (reported_behind a b c ran.answers [] why ran.outcome e.outcome);
        left = e.left;
      }

  pub end_stopped : (y : Refusal) (was now : Option (List ℕ)) (n : Kernel D g) (why : RunFault) → IsGivenUp p n y → IsStopped was now y why → IsCutAtEnd p was now n why
  end_stopped y was now n why given stopped = record { outcome = stopped_reported was now y why stopped; left = stopped_left n was now y why given stopped }

  pub end_unwritten : (was now : Option (List ℕ)) (n : Kernel D g) → IsResting (put_off p) n → AppendsFront was now (answer_text Aborted ++ 10 ∷ []) → IsCutAtEnd p was now n fault.Output
  end_unwritten was now n rests front = record { outcome = (Aborted ∷ [], aborted, subst (AppendsFront was now) (sym (text_one Aborted)) front); left = inl rests }

  pub end_written : (was now : Option (List ℕ)) (n : Kernel D g) → IsResting (put_off p) n → Appends was now (answer_text Aborted ++ 10 ∷ []) → IsEnded p was now n
  end_written was now n rests text = record { outcome = subst (Appends was now) (sym (text_one Aborted)) text; beside = rests }

  pub left_resting : (n : Kernel D g) → IsResting p n → IsResting (put_off p) n
  left_resting n r = record { shown = ∥∥₁_map r.shown (λ (first, s, shows, (played, nobody)). (first, s, shows, (record { first_is = played.first_is; book = played.book; base = played.base }, nobody))); nothing = refl }

  pub cut_ended : (lines : List Line) (a b : Option (List ℕ)) (n : Kernel D g) (why : RunFault) → IsCutShort p k lines a b n why → IsEndedFor n why
  cut_ended lines a b n fault.Output cut = tt
  cut_ended lines a b n (fault.Refused y) cut = cut.left.1
