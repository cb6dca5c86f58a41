-- Lines on a kernel whose log is turned over before a transaction.
use Rattle.std.proofs.Common.{◌≡◌, ◌<◌, ◌∷◌, [], suc, ℕ, Bool, List, Option, Some, None, length, take, drop, get_or, refl, sym, subst, ◌∙◌, append-nil, take-append-drop}
use Rattle.std.proofs.Props.{props}
use mathlib.Core.Logic.{∥∥₁_elim, ∥∥₁_map}
use Rattle.mt_base.specs.declared.refusal.Refusal.{Refusal}
use Rattle.mt_base.specs.declared.refusal.Refusal.TheVariants as refusal
use Rattle.mt_disk.specs.declared.device.Device.{Ghosts}
use Rattle.mt_model.specs.History.{after}
use Rattle.mt_model.specs.Model.{Base}
use Rattle.mt_model.specs.declared.history.Committed.{Committed}
use Rattle.mt_replay.specs.Stands.{CanRestart}
use Rattle.mt_restart.specs.Rotated.{GoesOver}
use Rattle.mt_restart.specs.declared.standing.Standing.{Standing}
use Rattle.mt_restart.specs.declared.standing.Standing.TheVariants.{Stands, Ended}
use Rattle.mt_script.specs.declared.answers.Answer.{Answer}
use Rattle.mt_script.specs.declared.lines.Line.{Line}
use Rattle.mt_alone.proofs.LeftLemmas.{book_of}
use Rattle.mt_alone.proofs.RunLemmas.{closed_run, end_cut, ended_run, front_cut, line_cut, line_more, no_lines, stopped_reported, reported_behind, turn_stays}
use Rattle.mt_alone.proofs.StopLemmas.{left_from}
use Rattle.mt_alone.proofs.TurnLemmas.{left_of}
use Rattle.mt_alone.specs.Driven.{IsBeside}
use Rattle.mt_alone.specs.Plays.{Play, Runs, starts, goes_on}
use Rattle.mt_alone.specs.Runs.{BesideEach, HasRunLines, HasTurned, IsCut, IsCutAtEnd, IsCutShort, IsEnded, IsLeftFor, IsStopped, IsReportedFor}
use Rattle.mt_alone.specs.Stops.{lines_to, why_stopped}
use Rattle.mt_alone.specs.Turnovers.{BesideFrom, GoesThrough, HasRunOn, HasRunOut, IsCutOff, IsLeftBy, IsTurned, IsTurnedOut, StandsForPlay, with_device, with_kernel}
use Rattle.mt_alone.specs.declared.rotation.NotServed.{NotServed}
use Rattle.mt_alone.specs.declared.alone.RunFault.{RunFault}
use Rattle.mt_alone.specs.declared.alone.RunFault.TheVariants as fault
use Rattle.mt_alone.specs.declared.stops.Stop.{Stop}
use Rattle.mt_txn.specs.Shown.{Restarts, SameSchema, StaysRestarting}
use Rattle.mt_txn.specs.declared.kernel.Kernel.{Kernel}

-- ---- the first base stays

module _ {D : Type 0} {g : Ghosts D} where
  pub runs_first : (s e : Play × Kernel D g) (ls : List Line) (as' : List Answer) → Runs (HasTurned) s ls as' e → e.0.first ≡ s.0.first
  runs_first s _ _ _ starts = refl
  runs_first s _ _ _ (goes_on lines answers m e line answer before t) = (turn_stays m.1.relations m.1.counters m.0 e.0 line answer t.turn).first ∙ runs_first s m lines answers before

  -- ---- a kernel that goes on

  pub over_same : (k : Kernel D g) → GoesOver k k
  over_same k = record { state = λ first s restarts shows. shows; restarts = λ first restarts. restarts; schema = (refl, refl) }

  over_then : (k m n : Kernel D g) → GoesOver k m → GoesOver m n → GoesOver k n
  over_then k m n a b = record {
    state = λ first s restarts shows. b.state first s (a.restarts first restarts) (a.state first s restarts shows);
    restarts = λ first restarts. b.restarts first (a.restarts first restarts);
    schema = (b.schema.0 ∙ a.schema.0, b.schema.1 ∙ a.schema.1);
  }

  pub resting_over : (p : Play) (k n : Kernel D g) → IsBeside p None k → Restarts p.first k → GoesOver k n → IsBeside p None n
  resting_over p k n r restarts over = record {
    shown = ∥∥₁_map r.shown (λ (first, s, shows, (played, nobody)).
        (first, s, over.state first s (subst (λ (b : Base). Restarts b k) (sym played.first_is) restarts) shows, (played, nobody)));
    nothing = r.nothing;
  }

  -- lines that ran end in the kernel that goes on; where there are none, they begin in it
  rejoin : (s e : Play × Kernel D g) (ls : List Line) (as' : List Answer) (n : Kernel D g) → Runs (HasTurned) s ls as' e → GoesOver e.1 n
      → (b : Kernel D g) × GoesOver s.1 b × Runs (HasTurned) (s.0, b) ls as' (e.0, n)
  rejoin s _ _ _ n starts over = (n, over, starts)
  rejoin s _ _ _ n (goes_on lines answers m e line answer before t) over = (
    s.1,
    over_same s.1,
    goes_on lines answers m (e.0, n) line answer before (record { live = t.live; beside = t.beside; turn = t.turn; schema = (over.schema.0 ∙ t.schema.0, over.schema.1 ∙ t.schema.1) }),
  )

  -- ---- a run

  module _ (p : Play) (k : Kernel D g) where
    -- what is left after the one is left after the other
    left_same : (m : Kernel D g) (left : NotServed D g) (q : Play) → SameSchema k m → IsLeftBy m.relations m.counters left q → IsLeftBy k.relations k.counters left q
    left_same m left q same x = subst (λ (X : Type 0). X) (λ i. IsLeftBy (same.0 i) (same.1 i) left q) x

    -- after lines the first base is the same
    next_first : (stop : Bool) (lines : List Line) (live : Option ℕ) (a b : Option (List ℕ)) (begun m : Kernel D g) → (ran : HasRunLines stop None p begun lines a b live m) → Restarts p.first m → Restarts ran.play.first m
    next_first stop lines live a b begun m ran restarts = subst (λ (x : Base). Restarts x m) (sym (runs_first (p, begun) (ran.play, m) lines ran.answers ran.ran)) restarts

    -- a kernel that is kept
    kept_cut : (lines : List Line) (was now : Option (List ℕ)) (begun n : Kernel D g) (why : RunFault) → SameSchema k n → Restarts p.first n → IsCutShort p begun lines was now n why
        → IsCut (IsLeftBy k.relations k.counters (with_kernel why n)) p begun lines was now why
    kept_cut lines was now begun n why same restarts x = record {
      before = x.before;
      rest = x.rest;
      split = x.split;
      answers = x.answers;
      play = x.play;
      last = x.last;
      ran = x.ran;
      outcome = x.outcome;
      left = (
        x.left,
        record { restarts = subst (λ (b : Base). Restarts b n) (sym (runs_first (p, begun) (x.play, x.last) x.before x.answers x.ran)) restarts; relations_are = same.0; counters_are = same.1 },
      );
    }

    -- ---- the script's end

    pub closed_on : (stop : Bool) (ending : Option Stop) (lines : List Line) (a b : Option (List ℕ)) (n : Kernel D g) → HasRunOn stop (why_stopped ending) p k (lines_to ending lines) a b None n
        → HasRunOut stop ending p k lines a b n
    closed_on stop ending lines a b n (begun, over, ran) = (begun, over, closed_run p begun stop (why_stopped ending) (lines_to ending lines) a b n ran)

    pub ended_on : (stop : Bool) (ending : Option Stop) (lines : List Line) (t : ℕ) (a b c : Option (List ℕ)) (m n : Kernel D g) → HasRunOn stop (why_stopped ending) p k (lines_to ending lines) a b (Some t) m
        → ((q : Play) → IsBeside q (Some t) m → IsEnded q b c n) → HasRunOut stop ending p k lines a c n
    ended_on stop ending lines t a b c m n (begun, over, ran) ended = (begun, over, ended_run p begun stop (why_stopped ending) (lines_to ending lines) t a b c m n ran ended)

    pub cut_at_end : (stop : Bool) (ending : Option Stop) (lines : List Line) (t : ℕ) (a b c : Option (List ℕ)) (m n : Kernel D g) (why : RunFault) → SameSchema k n → Restarts p.first n
        → HasRunOn stop (why_stopped ending) p k (lines_to ending lines) a b (Some t) m
        → ((q : Play) → IsBeside q (Some t) m → IsCutAtEnd q b c n why) → IsCutOff p k lines a c (with_kernel why n)
    cut_at_end stop ending lines t a b c m n why same restarts (begun, over, ran) cut =
        let rest = left_from ending lines in
        let front = end_cut p begun stop (why_stopped ending) (lines_to ending lines) t a b c m n why ran cut in (
          begun,
          over,
          kept_cut lines a c begun n why same restarts (front_cut p begun (λ q. IsLeftFor q n why) (lines_to ending lines) rest.0 lines a c why rest.1 front),
        )

    -- ---- a log that could not be turned over

    -- the book is the play's
    book_is : (live : Option ℕ) → IsBeside p live k → ∥ (k.core.book.items ≡ p.book) ∥₁
    book_is live beside = book_of p k (left_of p live k beside)

    stands_play : (device : D) → IsBeside p None k → ((c : List ℕ) → g.may_leave device c → ∥ CanRestart k.relations k.counters c (after p.first k.core.book.items) ∥₁) → StandsForPlay g k.relations k.counters p device
    stands_play device beside stands c left = ∥∥₁_elim (book_is None beside) (hlevel props) (λ is.
        subst (λ (book : List Committed). ∥ CanRestart k.relations k.counters c (after p.first book) ∥₁) is (stands c left))

    turned_left : (device : D) (was now : Option (List ℕ)) (why : RunFault) → IsBeside p None k → Restarts p.first k → IsTurnedOut k device → IsStopped was now refusal.DeviceFailed why
        → IsLeftBy {g = g} k.relations k.counters (with_device why device) p
    turned_left device was now fault.Output beside restarts out (is, front) = (out.failed, stands_play device beside (out.stands p.first restarts))
    turned_left device was now (fault.Refused why) beside restarts out (is, outcome) = (is, out.failed, stands_play device beside (out.stands p.first restarts))

  -- ---- what stands after a turn

  module _ (k : Kernel D g) where
    pub turned_on : (n : Kernel D g) (s : Standing D g) → s ≡ Stands n → IsTurned k s → GoesOver k n
    turned_on n s is turned = subst (IsTurned k) is turned

    pub turned_out : (device : D) (s : Standing D g) → s ≡ Ended device → IsTurned k s → IsTurnedOut k device
    turned_out device s is turned = subst (IsTurned k) is turned

  -- ---- lines in a kernel that is held in place, whose log is turned over between them

  module _ (stop : Bool) (session : ℕ) (k : Kernel D g) where
    pub none_through : (a : Option (List ℕ)) → GoesThrough stop None session k [] a a None k
    none_through a = record {
      ran = λ p own beside restarts. (k, over_same k, no_lines p k stop a beside);
      schema = (refl, refl);
      restarts = λ first restarts. restarts;
    }

    turned_none : (lines : List Line) (a b : Option (List ℕ)) (m n : Kernel D g) → GoesThrough stop None session k lines a b None m → GoesOver m n → GoesThrough stop None session k lines a b None n
    turned_none lines a b m n x over = record {
      ran = λ p own beside restarts.
          let (b0, over0, ran) = x.ran p own beside restarts in
          let (b2, over2, front) = rejoin (p, b0) (ran.play, m) lines ran.answers n ran.ran over in
          let rests = next_first p b0 stop lines None a b b0 m ran (x.restarts p.first restarts) in (
            b2,
            over_then k b0 b2 over0 over2,
            record { answers = ran.answers; play = ran.play; ran = front; ends = ran.ends; outcome = ran.outcome; beside = resting_over ran.play m n ran.beside rests over },
          );
      schema = (over.schema.0 ∙ x.schema.0, over.schema.1 ∙ x.schema.1);
      restarts = λ first restarts. over.restarts first (x.restarts first restarts);
    }

    -- the log was turned over after them, where no transaction is open
    pub turned_through : (lines : List Line) (live : Option ℕ) (a b : Option (List ℕ)) (m n : Kernel D g) → live ≡ None → GoesThrough stop None session k lines a b live m → GoesOver m n
        → GoesThrough stop None session k lines a b live n
    turned_through lines live a b m n none x over =
        subst (λ (o : Option ℕ). GoesThrough stop None session k lines a b o m → GoesThrough stop None session k lines a b o n) (sym none) (λ y. turned_none lines a b m n y over) x

    -- it could not be
    pub through_not_turned : (lines : List Line) (i : ℕ) (live : Option ℕ) (device : D) (a b c : Option (List ℕ)) (m : Kernel D g) (why : RunFault) → live ≡ None → GoesThrough stop None session k (take i lines) a b live m → IsTurnedOut m device → IsStopped b c refusal.DeviceFailed why
        → BesideFrom session None k (λ p. IsCutOff p k lines a c (with_device why device))
    through_not_turned lines i live device a b c m why none whatever out stopped p own beside restarts =
        let x = subst (λ (o : Option ℕ). GoesThrough stop None session k (take i lines) a b o m) none whatever in
        let (b0, over0, ran) = x.ran p own beside restarts in
        let rests = next_first p b0 stop (take i lines) None a b b0 m ran (x.restarts p.first restarts) in (
          b0,
          over0,
          record {
            before = take i lines;
            rest = drop i lines;
            split = sym (take-append-drop i lines);
            answers = ran.answers;
            play = ran.play;
            last = m;
            ran = ran.ran;
            outcome = subst (λ (t : List Answer). IsReportedFor a c t why) (append-nil ran.answers) (reported_behind a b c ran.answers [] why ran.outcome (stopped_reported b c refusal.DeviceFailed why stopped));
            left = left_same p k m (with_device why device) ran.play x.schema (turned_left ran.play m device b c why ran.beside rests out stopped);
          },
        )

    -- one more line ran
    pub line_through : (why : Option Refusal) (lines : List Line) (i : ℕ) (l : Line) (live now : Option ℕ) (a b c : Option (List ℕ)) (m n : Kernel D g) → i < length lines → l ≡ get_or lines i l → GoesThrough stop None session k (take i lines) a b live m
        → BesideEach session live m (λ q. HasRunLines stop why q m (l ∷ []) b c now n) → SameSchema m n → StaysRestarting m n → GoesThrough stop why session k (take (suc i) lines) a c now n
    line_through why lines i l live now a b c m n lt is x next same stays = record {
      ran = λ p own beside restarts.
          let (begun, over, ran) = x.ran p own beside restarts in
          (begun, over, line_more p begun stop why session lines i l live now a b c m n own lt is ran next);
      schema = (same.0 ∙ x.schema.0, same.1 ∙ x.schema.1);
      restarts = λ first restarts. stays first (x.restarts first restarts);
    }

    -- or was cut short
    pub line_not_through : (lines : List Line) (i : ℕ) (l : Line) (live : Option ℕ) (a b c : Option (List ℕ)) (m n : Kernel D g) (why : RunFault) → i < length lines → l ≡ get_or lines i l → GoesThrough stop None session k (take i lines) a b live m
        → BesideEach session live m (λ q. IsCutShort q m (l ∷ []) b c n why) → SameSchema m n → StaysRestarting m n
        → BesideFrom session None k (λ p. IsCutOff p k lines a c (with_kernel why n))
    line_not_through lines i l live a b c m n why lt is x cut same stays p own beside restarts =
        let (begun, over, ran) = x.ran p own beside restarts in (
          begun,
          over,
          kept_cut p k lines a c begun n why (same.0 ∙ x.schema.0, same.1 ∙ x.schema.1) (stays p.first (x.restarts p.first restarts))
              (line_cut p begun stop session lines i l live a b c m n why own lt is ran cut),
        )
