-- Scripts that were served to a device, and to a file.
use Rattle.std.proofs.Common.{◌≡◌, ◌∙◌, ◌+◌, inl, ℕ, Bool, List, length, Option, None, Some, Result, Ok, Err, IfErr, IfOk, OnOk, refl, sym, ap, subst}
use mathlib.Core.Logic.{∥∥₁_elim, ∥∥₁_map, ∥∥₁_prop}
use Rattle.mt_disk.specs.declared.device.Device.{Ghosts}
use Rattle.mt_live.specs.Machine.{State, start}
use Rattle.mt_model.specs.Model.{Base}
use Rattle.mt_replay.specs.Stands.{CanRestart}
use Rattle.mt_restart.specs.Resumed.{IsOpened}
use Rattle.mt_restart.proofs.Living.{no_member, stands_book}
use Rattle.mt_alone.proofs.RunLemmas.{left_resting}
use Rattle.mt_alone.proofs.TurnoverLemmas.{runs_first}
use Rattle.mt_txn.specs.Restarted.{FindsCommits}
use Rattle.mt_txn.specs.Shown.{Restarts, SameSchema, StaysRestarting}
use Rattle.mt_txn.specs.declared.kernel.Kernel.{Kernel}
use Rattle.mt_alone.specs.Driven.{IsBeside}
use Rattle.mt_alone.specs.Plays.{Play}
use Rattle.mt_alone.specs.Turnovers.{IsCutOff, IsLeftBy, StandsForMore, with_kernel}
use Rattle.mt_alone.specs.Sessions.{AreCutShort, HasServed, HaveServed, HavePlayed, IsCutWithin, unheard_line, cut_script, Serves, StandsEach, no_script, then_script, in_session}
use Rattle.mt_script.specs.declared.answers.Answer.{Answer}
use Rattle.mt_script.specs.declared.lines.Line.{Line}
use Rattle.mt_alone.specs.declared.rotation.NotServed.{NotServed}
use Rattle.mt_alone.specs.declared.alone.RunFault.{RunFault}
use Rattle.mt_alone.specs.declared.alone.RunFault.TheVariants as run
use Rattle.mt_device_commands.proofs.HeldLemmas.{held_before}
use Rattle.mt_folder.proofs.FolderLemmas.{kept_then, put_then}
use Rattle.mt_alone.specs.Stops.{scripts_to}
use Rattle.mt_alone.specs.declared.stops.Stop.{Stop}
use Rattle.mt_cli.proofs.Trials.{ended_among, played}
use Rattle.mt_folder.specs.Folders.{AreKept, Files, IsFileRefusal, IsLent, Puts}
use Rattle.mt_cli.specs.Serves.{AreShortOn, AreUnserved, HasNotRun, HaveServedOn, IsOnBase, IsServedIn, IsShortOf, IsShortWithin, ServesFrom, unheard_session, short_session, IsUnservedIn, unserved, no_device, StandForAll, StandForMore, cut_among, end_of, first_on, stopped_among, unread_scripts}
use Rattle.mt_cli.specs.Reads.{HasNoScript}
use Rattle.mt_report.specs.declared.faults.Fault.{Fault}
use Rattle.mt_report.specs.declared.faults.Fault.TheVariants.{Output, Refused, Stopped, Unread, Unscheduled}
use Rattle.std.specs.Io.KnownBytes.{Keeps}

module _ {D : Type 0} {g : Ghosts D} where
  -- a kernel that was opened on a base stands beside the model there
  pub beside_first : (relations counters : ℕ) (b : Base) (k : Kernel D g) → IsOpened relations counters b k → IsBeside (first_on b) None k
  beside_first relations counters b k opened = record { shown = ∣ (b, start b, opened.shows, (record { first_is = refl; book = refl; base = refl }, λ u. refl)) ∣₁; nothing = refl }

  -- sessions of a kernel are sessions of the model
  schema_kept : (s e : Play × Kernel D g) (ls : List (List Line)) (ts : List (List Answer)) → Serves (HasServed) s ls ts e → (e.1.relations ≡ s.1.relations) × (e.1.counters ≡ s.1.counters)
  schema_kept s _ _ _ no_script = (refl, refl)
  schema_kept s e _ _ (then_script scripts transcripts mid end lines outcome before x) = let kept = schema_kept s mid scripts transcripts before in (x.schema.0 ∙ kept.0, x.schema.1 ∙ kept.1)

  -- they begin on the same base
  first_kept : (s e : Play × Kernel D g) (ls : List (List Line)) (ts : List (List Answer)) → Serves (HasServed) s ls ts e → e.0.first ≡ s.0.first
  first_kept s _ _ _ no_script = refl
  first_kept s e _ _ (then_script scripts transcripts mid end lines outcome before x) = ap (λ (p : Play). p.first) x.end_is
      ∙ runs_first (in_session mid.0 (length scripts + 1), x.begun) (x.play, x.last) lines x.answers x.ran ∙ first_kept s mid scripts transcripts before

  pub all_played : (relations counters : ℕ) (s e : Play × Kernel D g) (ls : List (List Line)) (ts : List (List Answer)) → s.1.relations ≡ relations → s.1.counters ≡ counters → Serves (HasServed) s ls ts e → HavePlayed relations counters s.0 ls ts e.0
  all_played relations counters s _ _ _ rs cs no_script = no_script
  all_played relations counters s _ _ _ rs cs (then_script scripts transcripts mid end lines outcome before x) =
      let kept = schema_kept s mid scripts transcripts before in
      then_script scripts transcripts mid.0 end.0 lines outcome (all_played relations counters s mid scripts transcripts rs cs before) (record {
        answers = x.answers;
        play = x.play;
        ran = played relations counters (in_session mid.0 (length scripts + 1), x.begun) (x.play, x.last) lines x.answers (x.over.schema.0 ∙ kept.0 ∙ rs) (x.over.schema.1 ∙ kept.1 ∙ cs) x.ran;
        reported_is = x.reported_is;
        end_is = x.end_is;
      })

  -- ---- what the device represents

  -- nobody lives where a kernel stands beside a play, and its book is the play's
  resting : (p : Play) (n : Kernel D g) → IsBeside p None n → ∥ ((length n.core.live.members ≡ 0) × (n.core.book.items ≡ p.book)) ∥₁
  resting p n beside = ∥∥₁_elim beside.shown ∥∥₁_prop (λ (first, s, shows, (is, nobody)).
      ∥∥₁_map shows (λ (origin, base, at, x). (
        no_member n.core.live.members (λ t. sym (ap (λ (z : State). z.sessions t) x.state) ∙ nobody t),
        sym (ap (λ (z : State). z.book) x.state) ∙ is.book,
      )))

  pub stands_all : (relations counters : ℕ) (b : Base) (p : Play) (n : Kernel D g) (c : List ℕ) → n.relations ≡ relations → n.counters ≡ counters → Restarts b n → IsBeside p None n
      → ((first : Base) → Restarts first n → ∥ FindsCommits n.relations n.counters first n.core c ∥₁) → StandForAll relations counters b p.book c
  stands_all relations counters b p n c rs cs restarts beside finds = ∥∥₁_elim (resting p n beside) ∥∥₁_prop (λ (nobody, book).
      subst (λ (X : Type 0). X) (λ i. StandForAll (rs i) (cs i) b (book i) c) (stands_book b n c nobody restarts (finds b restarts)))

  -- ---- serving

  pub served_on : (stop : Bool) (ending : Option Stop) (relations counters : ℕ) (b : Base) (k n : Kernel D g) (scripts : List (List Line)) (was now : Option (List ℕ)) (c : List ℕ) → IsOpened relations counters b k → SameSchema k n → StaysRestarting k n
      → StandsEach k (λ p. HaveServed stop ending p k scripts was now n)
      → ((first : Base) → Restarts first n → ∥ FindsCommits n.relations n.counters first n.core c ∥₁) → HaveServedOn stop ending relations counters b scripts was now c
  served_on stop ending relations counters b k n scripts was now c opened schema stays ran finds =
      let x = ran (first_on b) (beside_first relations counters b k opened) opened.restarts in
      record {
        transcripts = x.transcripts;
        last = x.play;
        at = x.at;
        ended = x.close;
        played = all_played relations counters (first_on b, k) (x.play, n) (scripts_to ending scripts) x.transcripts opened.relations_are opened.counters_are x.served;
        outcome = x.outcome;
        stands = stands_all relations counters b x.play n c (schema.0 ∙ opened.relations_are) (schema.1 ∙ opened.counters_are) (stays b opened.restarts) x.beside finds;
      }

  module _ where
    -- what the device represents after whatever play it was left so
    abbrev LeavesStanding : Base → NotServed D g → List ℕ → Type 0
    LeavesStanding b left d = (relations counters : ℕ) (q : Play) → q.first ≡ b → IsLeftBy relations counters left q → StandForMore relations counters b q.book d

    leaves_standing : (b : Base) (left : NotServed D g) (device : D) (d : List ℕ) → g.may_leave device d
        → ((relations counters : ℕ) (q : Play) → IsLeftBy relations counters left q → StandsForMore g relations counters q device) → LeavesStanding b left d
    leaves_standing b left device d leaves stands relations counters q first x = subst (λ (on : Base). StandForMore relations counters on q.book d) first (stands relations counters q x d leaves)

    short_of : (relations counters : ℕ) (b : Base) (p : Play) (k : Kernel D g) (lines : List Line) (was now : Option (List ℕ)) (left : NotServed D g) (d : List ℕ) → k.relations ≡ relations → k.counters ≡ counters → p.first ≡ b → LeavesStanding b left d
        → IsCutOff p k lines was now left → IsShortOf relations counters (λ book. StandForMore relations counters b book d) p lines was now left.why
    short_of relations counters b p k lines was now left d rs cs first stands (begun, over, x) = record {
      before = x.before;
      rest = x.rest;
      split = x.split;
      answers = x.answers;
      last = x.play;
      ran = played relations counters (p, begun) (x.play, x.last) x.before x.answers (over.schema.0 ∙ rs) (over.schema.1 ∙ cs) x.ran;
      outcome = x.outcome;
      ended = ended_among k.relations k.counters left x.play x.left;
      stand = subst (λ (X : Type 0). X) (λ i. StandForMore (rs i) (cs i) b x.play.book d)
          (stands k.relations k.counters x.play (runs_first (p, begun) (x.play, x.last) x.before x.answers x.ran ∙ first) x.left);
    }

    -- a kernel whose session's line was not written whole
    unbegun : (p : Play) (k n : Kernel D g) → IsBeside p None k → Restarts p.first k → n ≡ k → IsLeftBy k.relations k.counters (with_kernel run.Output n) p
    unbegun p k n beside restarts same = subst (λ (m : Kernel D g). IsLeftBy k.relations k.counters (with_kernel run.Output m) p) (sym same)
        (inl (left_resting p k k beside), record { restarts = restarts; relations_are = refl; counters_are = refl })

    within : (relations counters : ℕ) (b : Base) (p : Play) (k : Kernel D g) (i : ℕ) (lines : List Line) (was now : Option (List ℕ)) (left : NotServed D g) (d : List ℕ) → k.relations ≡ relations → k.counters ≡ counters → p.first ≡ b → LeavesStanding b left d
        → IsBeside p None k → Restarts p.first k → IsCutWithin p k i lines was now left
        → IsShortWithin relations counters (λ book. StandForMore relations counters b book d) p i lines was now left.why
    within relations counters b p k i lines was now _ d rs cs first stands beside restarts (unheard_line n front same) =
        unheard_session front (subst (λ (X : Type 0). X) (λ i. StandForMore (rs i) (cs i) b p.book d) (stands k.relations k.counters p first (unbegun p k n beside restarts same)))
    within relations counters b p k i lines was now _ d rs cs first stands beside restarts (cut_script mid left outcome cut) =
        short_session mid left.why outcome (short_of relations counters b (in_session p i) k lines mid now left d rs cs first stands cut)

    pub short_on : (stop : Bool) (relations counters : ℕ) (b : Base) (k : Kernel D g) (scripts : List (List Line)) (was now : Option (List ℕ)) (left : NotServed D g) (device : D) (d : List ℕ) → IsOpened relations counters b k → g.may_leave device d
        → ((r m : ℕ) (q : Play) → IsLeftBy r m left q → StandsForMore g r m q device)
        → StandsEach k (λ p. AreCutShort stop p k scripts was now left) → AreShortOn relations counters b scripts was now d left.why
    short_on stop relations counters b k scripts was now left device d opened leaves stands cut =
        let x = cut (first_on b) (beside_first relations counters b k opened) opened.restarts in
        let kept = schema_kept (first_on b, k) (x.ran.play, x.last) x.before x.ran.transcripts x.ran.served in
        let first = first_kept (first_on b, k) (x.ran.play, x.last) x.before x.ran.transcripts x.ran.served in
        record {
          before = x.before;
          lines = x.lines;
          rest = x.rest;
          split = x.split;
          transcripts = x.ran.transcripts;
          last = x.ran.play;
          played = all_played relations counters (first_on b, k) (x.ran.play, x.last) x.before x.ran.transcripts opened.relations_are opened.counters_are x.ran.served;
          mid = x.mid;
          outcome = x.ran.outcome;
          within = within relations counters b x.ran.play x.last (length x.before + 1) x.lines x.mid now left d (kept.0 ∙ opened.relations_are) (kept.1 ∙ opened.counters_are) first
              (leaves_standing b left device d leaves stands) x.ran.beside x.ran.restarts x.within;
        }

-- ---- on bytes

-- what holds on each base that it was opened on, on some and on the one that the bytes represent
pub on_base : (c : List ℕ) (On Opened : ℕ → ℕ → Base → Type 0) → ((n m : ℕ) (b : Base) → Opened n m b → On n m b) → (n m : ℕ) (b : Base) → Opened n m b → ((n m : ℕ) (b : Base) → CanRestart n m c b → Opened n m b) → IsOnBase c On
on_base c On Opened on n m b first can = record { some = (n, m, b, on n m b first); stood_for = λ n m b stands. on n m b (can n m b stands) }

-- how a command ends is how its run did
module _ (stop : Bool) (c d : List ℕ) (scripts : List (List Line)) (was now : Option (List ℕ)) (Opened : ℕ → ℕ → Base → Type 0) (relations counters : ℕ) (b : Base) (first : Opened relations counters b)
    (can : (n m : ℕ) (x : Base) → CanRestart n m c x → Opened n m x) where
  -- so far they were served on each base that it was opened on
  abbrev Served : Option Stop → Type 0
  Served ending = (n m : ℕ) (x : Base) → Opened n m x → HaveServedOn stop ending n m x scripts was now d

  pub served_by : (r : Result (Option Stop) RunFault) → IfOk r Served → OnOk (end_of r) (ServesFrom stop None c scripts was now d)
  served_by (Ok None) on = on_base c (λ n m x. HaveServedOn stop None n m x scripts was now d) Opened on relations counters b first can
  served_by (Ok (Some at)) on = tt
  served_by (Err why) on = tt

  pub unserved_by : (r : Result (Option Stop) RunFault) → IfOk r Served → IfErr r (λ why. (n m : ℕ) (x : Base) → Opened n m x → AreShortOn n m x scripts was now d why) → IfErr (end_of r) (AreUnserved stop c scripts was now d)
  unserved_by (Ok None) on short = tt
  unserved_by (Ok (Some at)) on short = stopped_among at (on_base c (λ n m x. HaveServedOn stop (Some at) n m x scripts was now d) Opened on relations counters b first can)
  unserved_by (Err why) on short = cut_among why _ (on_base c (λ n m x. AreShortOn n m x scripts was now d why) Opened short relations counters b first can) refl

-- ---- the file

pub put_back : (old mid new : Files) (name d : List ℕ) → IsLent old mid name → Puts mid new name d → Puts old new name d
put_back old mid new name d lent put = record { outcome = put.outcome ∙ lent.outcome; held = put.held; others = λ other apart. put.others other apart ∙ lent.others other apart }

-- after reads that left each file as it was
pub served_then : (stop : Bool) (old mid new : Files) (name : List ℕ) (scripts : List (List Line)) (was now : Option (List ℕ)) → AreKept old mid → IsServedIn stop mid new name scripts was now → IsServedIn stop old new name scripts was now
served_then stop old mid new name scripts was now kept x = record {
  before = x.before;
  behind = x.behind;
  held = held_before old mid name x.before kept x.held;
  put = put_then old mid new name x.behind kept x.put;
  served = x.served;
}

pub unserved_then : (stop : Bool) (old mid new : Files) (name : List ℕ) (scripts : List (List Line)) (was now : Option (List ℕ)) (fault : Fault) → AreKept old mid → IsUnservedIn stop mid new name scripts was now fault
    → IsUnservedIn stop old new name scripts was now fault
unserved_then stop old mid new name scripts was now _ kept (no_device why cause still keeps) =
    no_device why (subst (λ (o : Option (List ℕ)). IsFileRefusal o why) (kept.all name) cause) (kept_then old mid new kept still) keeps
unserved_then stop old mid new name scripts was now _ kept (unserved before behind fault held put x) = unserved before behind fault (held_before old mid name before kept held) (put_then old mid new name behind kept put) x

-- a script was not read
pub unread_of : (stop : Bool) (workers : ℕ) (old new : Files) (file : List ℕ) (names : List (List ℕ)) (input was now : Option (List ℕ)) (fault : Fault) → HasNoScript old input names fault → AreKept old new → Keeps was now → HasNotRun stop workers old new file names input was now fault
unread_of stop workers old new file names input was now Output bad kept keeps = absurd bad
unread_of stop workers old new file names input was now (Refused why) bad kept keeps = absurd bad
unread_of stop workers old new file names input was now (Stopped at) bad kept keeps = absurd bad
unread_of stop workers old new file names input was now (Unscheduled why) bad kept keeps = absurd bad
unread_of stop workers old new file names input was now (Unread why at) x kept keeps = unread_scripts at why x kept keeps
