-- Sessions that were served, one after the other, and how they end early.
use Rattle.std.proofs.Common.{◌≡◌, ◌<◌, ◌+◌, suc, ℕ, Bool, List, [], ◌∷◌, ◌++◌, Option, None, Result, Ok, Err, IfOk, arith, Some, length, take, drop, get_or, map, refl, ap, sym, subst, ◌∙◌, append_assoc, append-nil, length-append, take-append-drop}
use Rattle.std.specs.Io.KnownBytes.{Appends}
use Rattle.std.proofs.KnownBytes.{Appends-nil, Appends-trans}
use Rattle.std.proofs.Math.Seq.{drop-cons}
use Rattle.std.proofs.lemmas.List.{length-map, length-take-le, map-append, map_more}
use mathlib.Core.Logic.{∥∥₁_map}
use Rattle.mt_disk.specs.declared.device.Device.{Ghosts}
use Rattle.mt_model.specs.Model.{Base}
use Rattle.mt_txn.specs.Shown.{Restarts, SameSchema, StaysRestarting}
use Rattle.mt_txn.specs.declared.kernel.Kernel.{Kernel}
use Rattle.mt_script.specs.declared.answers.Answer.{Answer}
use Rattle.mt_script.specs.declared.lines.Line.{Line}
use Rattle.mt_script.specs.declared.reader.Script.{Script}
use Rattle.mt_alone.specs.declared.rotation.NotServed.{NotServed}
use Rattle.mt_script.specs.Answers.{transcript_text}
use Rattle.mt_alone.specs.Driven.{IsBeside}
use Rattle.mt_alone.specs.Plays.{Play, put_off}
use Rattle.mt_alone.specs.Runs.{last_line}
use Rattle.mt_alone.specs.Turnovers.{BesideFrom, HasRunOut}
use Rattle.mt_alone.specs.Stops.{IsStopAmong, IsStopIn, lines_to, scripts_to, why_stopped}
use Rattle.mt_alone.specs.declared.stops.Stop.{Stop}
use Rattle.mt_alone.proofs.StopLemmas.{more_close, none_close, one_closes, scripts_at_stop, stop_among}
use Rattle.mt_alone.proofs.TurnoverLemmas.{runs_first}
use Rattle.mt_alone.specs.Sessions.{AreCutShort, HasServed, HaveServed, IsCutWithin, IsServed, Serves, StandsEach, no_script, then_script, in_session, session_line, sessions_from, sessions_text}
use Rattle.mt_script.specs.Scripts.{lines_in}

-- ---- texts

none_reported : (a : Option (List ℕ)) → Appends a a (sessions_text [])
unfolding sessions_from
none_reported a = Appends-nil a

-- one more after the others
sessions_more : (i : ℕ) (ts : List (List Answer)) (t : List Answer) → sessions_from i (ts ++ t ∷ []) ≡ sessions_from i ts ++ (session_line (i + length ts) ++ transcript_text t)
unfolding sessions_from
sessions_more i [] t =
    let same : i ≡ i + 0 = omega arith in
    ap (λ (x : List ℕ). session_line i ++ x) (append-nil (transcript_text t)) ∙ ap (λ (n : ℕ). session_line n ++ transcript_text t) same
sessions_more i (u ∷ us) t =
    let same : (i + 1) + length us ≡ i + suc (length us) = omega arith in
    let rest : List ℕ = sessions_from (i + 1) us in
    let last : List ℕ = session_line (i + suc (length us)) ++ transcript_text t in
    ap (λ (x : List ℕ). session_line i ++ (transcript_text u ++ x)) (sessions_more (i + 1) us t ∙ ap (λ (n : ℕ). rest ++ (session_line n ++ transcript_text t)) same)
    ∙ ap (λ (x : List ℕ). session_line i ++ x) (sym (append_assoc (transcript_text u) rest last))
    ∙ sym (append_assoc (session_line i) (transcript_text u ++ rest) last)

-- as many transcripts as scripts
count_is : {S : Type 0} {Session : S → ℕ → List Line → List Answer → S → Type 0} → (s e : S) (ls : List (List Line)) (ts : List (List Answer)) → Serves Session s ls ts e → length ts ≡ length ls
count_is s _ _ _ no_script = refl
count_is s _ _ _ (then_script scripts transcripts mid end lines outcome before session) =
    length-append transcripts (outcome ∷ []) ∙ ap (λ (n : ℕ). n + 1) (count_is s mid scripts transcripts before) ∙ sym (length-append scripts (lines ∷ []))

module _ {D : Type 0} {g : Ghosts D} (p : Play) (k : Kernel D g) where
  -- ---- a session

  -- where nobody lives, it is beside a play of any session
  pub beside_session : (i : ℕ) → IsBeside p None k → IsBeside (in_session p i) None k
  beside_session i r = record { shown = ∥∥₁_map r.shown (λ (first, s, shows, (played, nobody)). (first, s, shows, (record { first_is = played.first_is; book = played.book; base = played.base }, nobody))); nothing = r.nothing }

  pub session_served : (stop : Bool) (ending : Option Stop) (i : ℕ) (lines : List Line) (a b c : Option (List ℕ)) (n : Kernel D g) → Appends a b (session_line i) → SameSchema k n → Restarts p.first n
      → HasRunOut stop ending (in_session p i) k lines b c n → IsServed stop ending p k i lines a c n
  session_served stop ending i lines a b c n heading schema restarts (begun, over, ran) = record {
    transcript = ran.answers ++ last_line ran.play.under_way;
    end = put_off ran.play;
    served = record {
      answers = ran.answers;
      play = ran.play;
      last = ran.last;
      begun = begun;
      over = over;
      ran = ran.ran;
      reported_is = refl;
      end_is = refl;
      beside = ran.beside;
      restarts = subst (λ (x : Base). Restarts x n) (sym (runs_first (in_session p i, begun) (ran.play, ran.last) (lines_to ending lines) ran.answers ran.ran)) restarts;
      schema = schema;
    };
    closes = one_closes stop (why_stopped ending) ran.answers ran.play.under_way ran.ends;
    outcome = Appends-trans a b c (session_line i) (transcript_text (ran.answers ++ last_line ran.play.under_way)) heading ran.outcome;
  }

  -- ---- sessions

  pub none_served : (stop : Bool) (a : Option (List ℕ)) → IsBeside p None k → Restarts p.first k → HaveServed stop None p k [] a a k
  none_served stop a beside restarts = record { transcripts = []; play = p; at = tt; served = no_script; close = none_close stop; outcome = none_reported a; beside = beside; restarts = restarts }

  one_more : (stop : Bool) (ending : Option Stop) (all scripts : List (List Line)) (lines : List Line) (a b c : Option (List ℕ)) (m n : Kernel D g) → IsStopAmong all ending → scripts_to ending all ≡ scripts ++ lines_to ending lines ∷ []
      → (ran : HaveServed stop None p k scripts a b m) → IsServed stop ending ran.play m (length scripts + 1) lines b c n → HaveServed stop ending p k all a c n
  one_more stop ending all scripts lines a b c m n among are ran x =
      let count : length scripts + 1 ≡ 1 + length ran.transcripts = let same = count_is (p, k) (ran.play, m) scripts ran.transcripts ran.served in omega (arith, same) in
      let own : Appends b c (session_line (1 + length ran.transcripts) ++ transcript_text x.transcript) = subst (λ (j : ℕ). Appends b c (session_line j ++ transcript_text x.transcript)) count x.outcome in
      record {
        transcripts = ran.transcripts ++ x.transcript ∷ [];
        play = x.end;
        at = among;
        served = subst (λ (ls : List (List Line)). Serves (HasServed) (p, k) ls (ran.transcripts ++ x.transcript ∷ []) (x.end, n)) (sym are)
            (then_script scripts ran.transcripts (ran.play, m) (x.end, n) (lines_to ending lines) x.transcript ran.served x.served);
        close = more_close stop (why_stopped ending) ran.transcripts x.transcript ran.close x.closes;
        outcome = subst (Appends a c) (sym (sessions_more 1 ran.transcripts x.transcript)) (Appends-trans a b c (sessions_text ran.transcripts) _ ran.outcome own);
        beside = x.served.beside;
        restarts = x.served.restarts;
      }

  -- so many of the scripts
  front_count : (scripts : List Script) (i : ℕ) → i < length scripts → length (map lines_in (take i scripts)) ≡ i
  front_count scripts i lt = length-map (take i scripts) lines_in ∙ length-take-le i scripts (omega (arith, lt))

  pub served_more : (stop : Bool) (scripts : List Script) (i : ℕ) (s : Script) (a b c : Option (List ℕ)) (m n : Kernel D g) → i < length scripts → s ≡ get_or scripts i s → HaveServed stop None p k (map lines_in (take i scripts)) a b m
      → StandsEach m (λ q. IsServed stop None q m (i + 1) (lines_in s) b c n) → HaveServed stop None p k (map lines_in (take (i + 1) scripts)) a c n
  served_more stop scripts i s a b c m n lt is ran next =
      let x = subst (λ (j : ℕ). IsServed stop None ran.play m (j + 1) (lines_in s) b c n) (sym (front_count scripts i lt)) (next ran.play ran.beside ran.restarts) in
      let all : map lines_in (take i scripts) ++ lines_in s ∷ [] ≡ map lines_in (take (i + 1) scripts) = ap (λ (y : Script). map lines_in (take i scripts) ++ lines_in y ∷ []) is ∙ sym (map_more lines_in scripts i s lt) in
      one_more stop None (map lines_in (take (i + 1) scripts)) (map lines_in (take i scripts)) (lines_in s) a b c m n tt (sym all) ran x

  -- this one stopped, and those after it are not begun
  pub served_to : (stop : Bool) (at : Stop) (scripts : List Script) (i : ℕ) (s : Script) (a b c : Option (List ℕ)) (m n : Kernel D g) → i < length scripts → s ≡ get_or scripts i s → HaveServed stop None p k (map lines_in (take i scripts)) a b m
      → IsStopIn (i + 1) (lines_in s) (Some at) → StandsEach m (λ q. IsServed stop (Some at) q m (i + 1) (lines_in s) b c n) → HaveServed stop (Some at) p k (map lines_in scripts) a c n
  served_to stop at scripts i s a b c m n lt is ran within next =
      let x = subst (λ (j : ℕ). IsServed stop (Some at) ran.play m (j + 1) (lines_in s) b c n) (sym (front_count scripts i lt)) (next ran.play ran.beside ran.restarts) in
      one_more stop (Some at) (map lines_in scripts) (map lines_in (take i scripts)) (lines_in s) a b c m n (stop_among scripts i s lt is at within) (scripts_at_stop scripts i s lt is at within) ran x

  pub served_cut : (stop : Bool) (scripts : List Script) (i : ℕ) (s : Script) (a b c : Option (List ℕ)) (m : Kernel D g) (left : NotServed D g) → i < length scripts → s ≡ get_or scripts i s → HaveServed stop None p k (map lines_in (take i scripts)) a b m
      → StandsEach m (λ q. IsCutWithin q m (i + 1) (lines_in s) b c left) → AreCutShort stop p k (map lines_in scripts) a c left
  served_cut stop scripts i s a b c m left lt is ran next = record {
    before = map lines_in (take i scripts);
    lines = lines_in s;
    rest = map lines_in (drop (suc i) scripts);
    split = ap (map lines_in) (sym (take-append-drop i scripts)) ∙ map-append lines_in (take i scripts) (drop i scripts)
        ∙ ap (λ (t : List Script). map lines_in (take i scripts) ++ map lines_in t) (drop-cons scripts i s lt)
        ∙ ap (λ (y : Script). map lines_in (take i scripts) ++ lines_in y ∷ map lines_in (drop (suc i) scripts)) (sym is);
    mid = b;
    last = m;
    ran = ran;
    within = subst (λ (j : ℕ). IsCutWithin ran.play m (j + 1) (lines_in s) b c left) (sym (front_count scripts i lt)) (next ran.play ran.beside ran.restarts);
  }

-- where its script ran to its end
pub session_served_of : {D : Type 0} {g : Ghosts D} (k : Kernel D g) (stop : Bool) (i : ℕ) (lines : List Line) (a b c : Option (List ℕ))
    (r : Result (Kernel D g × Option Stop) (NotServed D g)) → Appends a b (session_line i)
    → IfOk r (λ t. SameSchema k t.0) → IfOk r (λ t. StaysRestarting k t.0) → IfOk r (λ t. BesideFrom i None k (λ q. HasRunOut stop t.1 q k lines b c t.0))
    → IfOk r (λ t. StandsEach k (λ p. IsServed stop t.1 p k i lines a c t.0))
session_served_of k stop i lines a b c (Err left) heading schema stays ran = tt
session_served_of k stop i lines a b c (Ok t) heading schema stays ran = λ p beside restarts.
    session_served p k stop t.1 i lines a b c t.0 heading schema (stays p.first restarts) (ran (in_session p i) refl (beside_session p k i beside) restarts)
