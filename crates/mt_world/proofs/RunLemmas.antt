-- Events one after the other, and what follows of all that ended in them.
use Rattle.std.proofs.Common.{◌≡◌, ◌≢◌, ◌+◌, ℕ, Bool, true, false, List, [], ◌∷◌, ◌++◌, length, map, take, drop, Option, Some, None, is_some, ⊎_elim, refl, ap, ap₂, sym, subst, ◌∙◌, append_assoc, append-nil, length-append, take-append-drop, arith}
use Rattle.std.specs.Prelude.{◌==◌, All, AllPairs, if◌then◌else◌}
use Rattle.std.specs.List.{list_any}
use Rattle.std.proofs.lemmas.Bool.{cases_eq}
use Rattle.std.proofs.lemmas.List.{map-append, take_all}
use Rattle.std.proofs.lemmas.List.Elements.{All-head}
use Rattle.std.specs.Option.{option_map}
use mathlib.Core.Logic.{∥∥₁_elim, ∥∥₁_map}
use Rattle.std.proofs.Props.{props}
use Rattle.mt_disk.specs.declared.device.Device.{Ghosts}
use Rattle.mt_base.specs.declared.refusal.Refusal.{Refusal}
use Rattle.mt_base.specs.declared.refusal.Refusal.TheVariants as refusal
use Rattle.mt_core.specs.Booked.{booked_each, durable_count, session_at, txns_of}
use Rattle.mt_core.specs.Consistent.{SameCommits, SameUncommitted, SetsState, session_in, session_or}
use Rattle.mt_core.specs.Runs.{state_in}
use Rattle.mt_core.specs.declared.parts.Commit.{Commit as CommitUnderWay}
use Rattle.mt_live.proofs.Alone.{put_other, put_own}
use Rattle.mt_live.proofs.Keeping.{kept_explained}
use Rattle.mt_live.specs.Entries.{calls as calls_of_entries, kept}
use Rattle.mt_live.specs.Laws.{in_turn}
use Rattle.mt_live.specs.Lives.{member_of}
use Rattle.mt_live.specs.Members.{Member}
use Rattle.mt_live.specs.Undoing.{only}
use Rattle.mt_live.specs.Machine.{State, IsKept, begun, booked, called, dropped, ended, gone, put, returned, settled, start, undone}
use Rattle.mt_live.specs.Sound.{Each}
use Rattle.mt_live.specs.declared.transactions.TxnState.{TxnState}
use Rattle.mt_live.specs.declared.transactions.TxnState.TheVariants.{Open, Committing as IsCommitting, Aborting as IsAborting, Returning}
use Rattle.mt_model.proofs.Appends.{acted_append, run-append}
use Rattle.mt_model.specs.History.{IsActed, run}
use Rattle.mt_model.specs.Model.{Base}
use Rattle.mt_model.specs.declared.history.Committed.{Committed}
use Rattle.mt_txn.proofs.Living.{lives_of}
use Rattle.mt_txn.proofs.Showing.{kept_of}
use Rattle.mt_txn.specs.Causes.{abort_cause, busy_cause, first_of, is_aborting, is_busy, is_open, savepoint_cause, unless}
use Rattle.mt_txn.specs.Restarted.{all_commits}
use Rattle.mt_txn.specs.Shown.{Restarts, Shows, is_failed}
use Rattle.mt_txn.specs.Words.{kernel_commit_cause, kernel_state}
use Rattle.mt_txn.specs.declared.kernel.Kernel.{Kernel}
use Rattle.mt_world.specs.Acts.{Act, calls_in}
use Rattle.mt_world.proofs.EventLemmas.{both_hold, open_state}
use Rattle.mt_world.proofs.OrderLemmas.{acknowledged_more, committing_more, reported_more}
use Rattle.mt_live.proofs.Cutting.{each_append}
use Rattle.mt_live.proofs.Shapes.{each_map}
use Rattle.mt_world.proofs.ReportedLemmas.{AreDistinct, AreReported, commits_still, is_among, known_as, named_commit, named_distinct, no_more_forced, not_named, reported_back, reported_begun, reported_booked, reported_called, reported_dropped, reported_ended, reported_gone, reported_in_turn, reported_returned, reported_settled, reported_still, reported_undone}
use Rattle.mt_world.specs.Due.{FailsIn, IsBroken, IsDue, SamePhases, SetsPhases, StayBroken}
use Rattle.mt_world.specs.Moves.{IsStill, Moves}
use Rattle.mt_world.specs.Moves.IsStill.{is_refused, call_waits, step_went, step_waits, step_again, step_full, commit_begun, abort_begun, abort_went, abort_waits, abort_again, abort_full, back_begun, return_went, return_waits, return_again, return_full, force_went, force_idle, flushed, rotated}
use Rattle.mt_world.specs.Moves.Moves.{stays, begins, calls, ends, drops, undoes, aborts, returns, settles, books}
use Rattle.mt_world.specs.Schedules.{HasMade, HasRun, Makes}
use Rattle.mt_world.specs.Schedules.Makes.{starts, goes_on}
use Rattle.mt_world.specs.Reported.{Reported, acknowledged, commit_of, commit_order, committing, named, nothing_reported, started_by, with_answer, reported_of}
use Rattle.mt_world.specs.declared.events.Answer.{Answer}
use Rattle.mt_world.specs.declared.events.Answer.TheVariants.{Refused}
use Rattle.mt_world.specs.declared.events.Event.{Event}
use Rattle.mt_world.specs.declared.events.Event.TheVariants.{Begin, Call as CallOf, Step, Commit, AbortBegin, AbortStep, Back, BackStep, Force, Flush, Rotate}

-- ---- what ended

booked_base : (s : State) (ts : List ℕ) → (booked_each s ts).base ≡ s.base
booked_base s [] = refl
booked_base s (t ∷ ts) = booked_base (booked s t (session_at s t)) ts

calls_joined : (xs ys : List Act) → calls_in (xs ++ ys) ≡ calls_in xs ++ calls_in ys
calls_joined [] ys = refl
calls_joined (x ∷ xs) ys = ap (λ cs. (x.op, x.reply) ∷ cs) (calls_joined xs ys)

-- an event has what ended in it act on the base, which it leads to the next
moves_acted : (state : ℕ → Option TxnState) (s z : State) (event : Event) (answer : Answer) (more : List Act) → Moves state s event answer more z → IsActed s.base (calls_in more) × (run s.base (calls_in more) ≡ z.base)
moves_acted state s _ _ _ _ (stays event answer is) = (tt, refl)
moves_acted state s _ _ _ _ (begins session) = (tt, refl)
moves_acted state s _ _ _ _ (calls t op) = (tt, refl)
moves_acted state s _ _ _ _ (ends t op runs) = ((refl, tt), refl)
moves_acted state s _ _ _ _ (drops t op ps runs given) = (tt, refl)
moves_acted state s _ _ _ _ (undoes t last inverse ps idle effect inverts given) = ((refl, tt), refl)
moves_acted state s _ _ _ _ (aborts t nothing) = (tt, refl)
moves_acted state s _ _ _ _ (returns t n last inverse ps goes idle effect after inverts given) = ((refl, tt), refl)
moves_acted state s _ _ _ _ (settles t n goes none) = (tt, refl)
moves_acted state s _ _ _ _ (books names) = (tt, sym (booked_base s names.items))

-- ---- of transactions

not_refused : (failed opened : Bool) (later : Option Refusal) → first_of (if failed then Some refusal.DeviceFailed else unless opened refusal.Stranger) later ≡ None → opened ≡ true
not_refused true opened later none = absurd cc
not_refused false true later none = refl
not_refused false false later none = absurd cc

-- if the first cause or another is none, the first is
first_none : (a b : Option Refusal) → first_of a b ≡ None → a ≡ None
first_none None b none = refl
first_none (Some why) b none = absurd cc

aborting_back : (failed : Bool) (o : Option TxnState) → (if failed then Some refusal.DeviceFailed else unless (is_aborting o) refusal.Stranger) ≡ None → known_as o ≡ None
aborting_back true o none = absurd cc
aborting_back false None none = absurd cc
aborting_back false (Some Open) none = absurd cc
aborting_back false (Some IsCommitting) none = absurd cc
aborting_back false (Some IsAborting) none = refl
aborting_back false (Some (Returning n)) none = absurd cc

none_back : (o : Option TxnState) → is_some o ≡ false → known_as o ≡ None
none_back None none = refl
none_back (Some x) none = absurd cc

-- ---- of commits under way

-- where nobody lives, none is
pub none_under_way : (ms : List Member) (cs : List CommitUnderWay) → All (λ (c : CommitUnderWay). state_in ms c.txn ≡ Some IsCommitting) cs → ((t : ℕ) → is_some (state_in ms t) ≡ false) → cs ≡ []
none_under_way ms [] each dead = refl
none_under_way ms (c ∷ cs) each dead =
    let commits : is_some (state_in ms c.txn) ≡ true = ap (λ (o : Option TxnState). is_some o) (All-head (λ (d : CommitUnderWay). state_in ms d.txn ≡ Some IsCommitting) c cs each) in
    let wrong : true ≡ false = sym commits ∙ dead c.txn in absurd cc

-- one more is under way after the others
one_more : (cs ds : List CommitUnderWay) (t : ℕ) → (c : CommitUnderWay) × (c.txn ≡ t) × (ds ≡ cs ++ c ∷ []) → txns_of ds ≡ txns_of cs ++ t ∷ []
one_more cs ds t (c, own, is) =
    ap (λ (l : List CommitUnderWay). txns_of l) is ∙ map-append (λ (d : CommitUnderWay). d.txn) cs (c ∷ []) ∙ ap (λ (u : ℕ). txns_of cs ++ u ∷ []) own

-- the first of them leave
first_leave : (cs ds : List CommitUnderWay) (names : List ℕ) (n : ℕ) → names ≡ txns_of (take n cs) → ds ≡ drop n cs → names ++ txns_of ds ≡ txns_of cs
first_leave cs ds names n are rest =
    ap₂ (λ (ts us : List ℕ). ts ++ us) are (ap (λ (l : List CommitUnderWay). txns_of l) rest)
    ∙ sym (map-append (λ (d : CommitUnderWay). d.txn) (take n cs) (drop n cs)) ∙ ap (λ (l : List CommitUnderWay). txns_of l) (take-append-drop n cs)

-- the session of a transaction that lives
session_known : (o : Option Member) (n : ℕ) → option_map (λ (m : Member). m.session) o ≡ Some n → session_or o ≡ n
session_known None n is = absurd cc
session_known (Some m) n is = cc

pub stay_more : (answers : List Answer) (answer : Answer) → StayBroken answers → Each (λ x. IsBroken x → IsBroken answer) answers → StayBroken (answers ++ answer ∷ [])
stay_more [] answer stay each = (λ broken. tt, tt)
stay_more (x ∷ answers) answer stay each = (λ broken. each_append IsBroken answers (answer ∷ []) (stay.0 broken) (each.0 broken, tt), stay_more answers answer stay.1 each.1)

module _ {D : Type 0} {g : Ghosts D} (first : Base) where
  makes_acted : (events : List Event) (answers : List Answer) (acts : List Act) (s : State) (n : Kernel D g) → Makes first events answers acts s n → IsActed first (calls_in acts) × (run first (calls_in acts) ≡ s.base)
  makes_acted _ _ _ _ n (starts k shows) = (tt, refl)
  makes_acted _ _ _ z n (goes_on events answers acts more s _ k _ event answer before made) =
      let was = makes_acted events answers acts s k before in
      let now = moves_acted (kernel_state k) s z event answer more made.moves in (
        subst (IsActed first) (sym (calls_joined acts more)) (acted_append first (calls_in acts) (calls_in more) was.0 (subst (λ (b : Base). IsActed b (calls_in more)) (sym was.1) now.0)),
        ap (run first) (calls_joined acts more) ∙ run-append first (calls_in acts) (calls_in more) ∙ ap (λ (b : Base). run b (calls_in more)) was.1 ∙ now.1,
      )

  -- ---- what is reported

  abbrev Phase : Kernel D g → ℕ → Option TxnState
  Phase k t = state_in k.core.live.members t

  module _ (s : State) (k n : Kernel D g) (outcome : ℕ → Reported) (names : List ℕ) where
    abbrev ReportsOn : State → Event → Answer → Type 0
    ReportsOn z event answer = AreReported z (Phase n) (λ t. with_answer t (outcome t) event answer) (names ++ named answer)

    no_names : (z : State) (phase : ℕ → Option TxnState) (x : ℕ → Reported) → AreReported z phase x names → AreReported z phase x (names ++ [])
    no_names z phase x are = subst (AreReported z phase x) (sym (append-nil names)) are

    same_reported : SamePhases k n → AreReported s (Phase k) outcome names → AreReported s (Phase n) outcome (names ++ [])
    same_reported same are = no_names s (Phase n) outcome (reported_still s (Phase k) (Phase n) outcome names (λ t x known. ap known_as (sym (same.0 t)) ∙ known) are)

    -- those that commit do so still
    forced_reported : ((t : ℕ) → Phase k t ≡ Some IsCommitting → Phase n t ≡ Some IsCommitting) → SameUncommitted k.core n.core → AreReported s (Phase k) outcome names → AreReported s (Phase n) outcome (names ++ [])
    forced_reported commits same are = no_names s (Phase n) outcome (reported_still s (Phase k) (Phase n) outcome names
        (λ t x known. no_more_forced (Phase k t) (Phase n t) (same t) (λ was. ap known_as (commits t was)) x known) are)

    set_reported : (t : ℕ) (state : TxnState) → ((x : Option ℕ) → known_as (Some state) ≡ Some x → known_as (Phase k t) ≡ Some x) → SetsState k.core n.core t (Some state) → AreReported s (Phase k) outcome names → AreReported s (Phase n) outcome (names ++ [])
    set_reported t state was sets are = no_names s (Phase n) outcome (reported_still s (Phase k) (Phase n) outcome names less are)
      where
        less : (u : ℕ) (x : Option ℕ) → known_as (Phase n u) ≡ Some x → known_as (Phase k u) ≡ Some x
        less u x known = ⊎_elim
            (λ (own : u ≡ t). ap (λ (v : ℕ). known_as (Phase k v)) own ∙ was x (ap known_as (sym (sets u ∙ ap (put (Phase k) t (Some state)) own ∙ put_own (Phase k) t (Some state))) ∙ known))
            (λ (other : u ≢ t). ap known_as (sym (sets u ∙ put_other (Phase k) t (Some state) u other)) ∙ known) (cases_eq u t)

    refused_reported : (event : Event) (why : Refusal) → SetsPhases k event (Refused why) n → AreReported s (Phase k) outcome names → ReportsOn s event (Refused why)
    refused_reported (Begin session) why same are = same_reported same are
    refused_reported (CallOf t op) why same are = same_reported same are
    refused_reported (Step t) why same are = same_reported same are
    refused_reported (Commit t) why same are = same_reported same are
    refused_reported (AbortBegin t) why same are = same_reported same are
    refused_reported (AbortStep t) why same are = same_reported same are
    refused_reported (Back t n) why same are = same_reported same are
    refused_reported (BackStep t) why same are = same_reported same are
    refused_reported Force why same are = same_reported same are
    refused_reported Flush why same are = same_reported same are
    refused_reported Rotate why same are = same_reported same are

    module _ (all : (t : ℕ) → Phase k t ≡ Some IsCommitting → list_any (λ (c : CommitUnderWay). c.txn == t) k.core.commits.items ≡ true) (later : All (λ (c : CommitUnderWay). Phase n c.txn ≡ Some IsCommitting) n.core.commits.items) where
      commits_on : SameCommits k.core n.core → (t : ℕ) → Phase k t ≡ Some IsCommitting → Phase n t ≡ Some IsCommitting
      commits_on same t commits = commits_still (Phase n) n.core.commits.items t (ap (λ (cs : List CommitUnderWay). list_any (λ (c : CommitUnderWay). c.txn == t) cs) same ∙ all t commits) later

      opened : (t : ℕ) → kernel_commit_cause k t ≡ None → Phase k t ≡ Some Open
      opened t may = open_state (Phase k t) (not_refused (is_failed k) (is_open (Phase k t)) (busy_cause k.core t) may)

      still_reports : (event : Event) (answer : Answer) → IsStill event answer → IsDue k event answer n → SetsPhases k event answer n → AreReported s (Phase k) outcome names → ReportsOn s event answer
      still_reports _ _ (is_refused event why) due same are = refused_reported event why same are
      still_reports _ _ (call_waits t op holder) due same are = same_reported same are
      still_reports _ _ (step_went t) due same are = same_reported same are
      still_reports _ _ (step_waits t other) due same are = same_reported same are
      still_reports _ _ (step_again t) due same are = same_reported same are
      still_reports _ _ (step_full t) due same are = same_reported same are
      still_reports _ _ (commit_begun t place) due sets are = set_reported t IsCommitting (λ x known. ap known_as (opened t due.0) ∙ known) sets.0 are
      still_reports _ _ (abort_begun t) due sets are = set_reported t IsAborting (λ x known. absurd cc) sets.0 are
      still_reports _ _ (abort_went t) due same are = same_reported same are
      still_reports _ _ (abort_waits t other) due same are = same_reported same are
      still_reports _ _ (abort_again t) due same are = same_reported same are
      still_reports _ _ (abort_full t) due same are = same_reported same are
      still_reports _ _ (back_begun t m) due sets are =
          no_names s (Phase n) _ (reported_back s t m (Phase k) (Phase n) outcome names (opened t (first_none (kernel_commit_cause k t) (savepoint_cause k.core t m) due)) sets.0 are)
      still_reports _ _ (return_went t) due same are = same_reported same are
      still_reports _ _ (return_waits t other) due same are = same_reported same are
      still_reports _ _ (return_again t) due same are = same_reported same are
      still_reports _ _ (return_full t) due same are = same_reported same are
      still_reports _ _ force_went due same are = forced_reported (commits_on due.1) same are
      still_reports _ _ force_idle due same are = forced_reported (commits_on due.1) same are
      still_reports _ _ (flushed reported_so) due same are = same_reported same are
      still_reports _ _ rotated due same are = same_reported same are

      undone_back : (t : ℕ) → abort_cause (is_failed k) k.core t ≡ None → SamePhases k n → known_as (Phase n t) ≡ None
      undone_back t may same = ap known_as (same.0 t) ∙ aborting_back (is_failed k) (Phase k t) may

      moves_reported : (z : State) (event : Event) (answer : Answer) (more : List Act) → Moves (Phase k) s event answer more z → IsDue k event answer n → SetsPhases k event answer n
          → Shows first z n → IsKept first s → All (λ (c : CommitUnderWay). Phase k c.txn ≡ Some IsCommitting) k.core.commits.items → AllPairs (λ (a b : CommitUnderWay). a.txn ≢ b.txn) k.core.commits.items
          → AreReported s (Phase k) outcome names → ReportsOn z event answer
      moves_reported _ _ _ _ (stays event answer is) due phases shows kept each apart are = still_reports event answer is due phases are
      moves_reported z _ _ _ (begins session) due phases shows kept each apart are = no_names (begun s session) (Phase n) _ (reported_begun first s session (Phase k) (Phase n) outcome names kept phases.0 are)
      moves_reported z _ _ _ (calls t op) due phases shows kept each apart are = no_names (called s t op) (Phase n) _ (reported_called s t op (Phase k) (Phase n) outcome names phases.0 are)
      moves_reported z _ _ _ (ends t op runs) due phases shows kept each apart are =
          no_names (ended s t op) (Phase n) _ (reported_ended first s t op (Phase k) (Phase n) outcome names kept runs (open_state (Phase k t) (both_hold (is_failed k) (is_open (Phase k t)) (is_busy k.core t) due.may).0) phases.0 are)
      moves_reported z _ _ _ (drops t op ps runs given) due phases shows kept each apart are =
          no_names (dropped s t ps) (Phase n) outcome (reported_dropped s t ps (Phase k) (Phase n) outcome names (undone_back t due.may phases) (λ u other. phases.0 u) are)
      moves_reported z _ _ _ (undoes t last inverse ps idle effect inverts given) due phases shows kept each apart are =
          no_names (undone s t inverse ps) (Phase n) outcome (reported_undone s t inverse ps (Phase k) (Phase n) outcome names (undone_back t due.may phases) (λ u other. phases.0 u) are)
      moves_reported z _ _ _ (aborts t nothing) due phases shows kept each apart are = no_names (gone s t) (Phase n) outcome (reported_gone s t (Phase k) (Phase n) outcome names (ap known_as phases.0) phases.1 are)
      moves_reported z _ _ _ (returns t m last inverse ps goes idle effect after inverts given) due phases shows kept each apart are =
          no_names (returned s t last inverse ps) (Phase n) outcome (reported_returned first s t m last inverse ps (Phase k) (Phase n) outcome names kept goes effect after inverts phases.0 are)
      moves_reported z _ _ _ (settles t m goes none) due phases shows kept each apart are =
          no_names (settled s t m) (Phase n) _ (reported_settled s t m (Phase k) (Phase n) outcome names goes none phases.0 are)
      moves_reported z _ _ _ (books ts) due phases shows kept each apart are =
          let cs = k.core.commits.items in let count = durable_count cs due.0 in
          reported_booked first s ts.items (Phase k) (Phase n) outcome names kept
          (subst AreDistinct (sym due.2) (named_distinct count cs apart))
          (subst (Each (λ t. Phase k t ≡ Some IsCommitting)) (sym due.2) (named_commit (Phase k) count cs each))
          phases
          (λ u commits among. commits_still (Phase n) n.core.commits.items u
          (ap (λ (ds : List CommitUnderWay). list_any (λ (c : CommitUnderWay). c.txn == u) ds) due.3 ∙ not_named count cs u (all u commits) (ap (is_among u) (sym due.2) ∙ among)) later)
          (λ u dead. none_back (Phase n u) (sym (lives_of g n.relations n.counters n.core first (booked_each s ts.items) shows u) ∙ dead)) are

  -- ---- the commits that have begun

  module _ (s : State) (k n : Kernel D g) where
    abbrev Queues : Event → Answer → Type 0
    Queues event answer = named answer ++ txns_of n.core.commits.items ≡ txns_of k.core.commits.items ++ started_by event answer

    same_queue : SameCommits k.core n.core → txns_of n.core.commits.items ≡ txns_of k.core.commits.items ++ []
    same_queue same = ap (λ (cs : List CommitUnderWay). txns_of cs) same ∙ sym (append-nil (txns_of k.core.commits.items))

    refused_queues : (event : Event) (why : Refusal) → SetsPhases k event (Refused why) n → Queues event (Refused why)
    refused_queues (Begin session) why same = same_queue same.1
    refused_queues (CallOf t op) why same = same_queue same.1
    refused_queues (Step t) why same = same_queue same.1
    refused_queues (Commit t) why same = same_queue same.1
    refused_queues (AbortBegin t) why same = same_queue same.1
    refused_queues (AbortStep t) why same = same_queue same.1
    refused_queues (Back t m) why same = same_queue same.1
    refused_queues (BackStep t) why same = same_queue same.1
    refused_queues Force why same = same_queue same.1
    refused_queues Flush why same = same_queue same.1
    refused_queues Rotate why same = same_queue same.1

    still_queues : (event : Event) (answer : Answer) → IsStill event answer → IsDue k event answer n → SetsPhases k event answer n → Queues event answer
    still_queues _ _ (is_refused event why) due same = refused_queues event why same
    still_queues _ _ (call_waits t op holder) due same = same_queue same.1
    still_queues _ _ (step_went t) due same = same_queue same.1
    still_queues _ _ (step_waits t other) due same = same_queue same.1
    still_queues _ _ (step_again t) due same = same_queue same.1
    still_queues _ _ (step_full t) due same = same_queue same.1
    still_queues _ _ (commit_begun t place) due sets = one_more k.core.commits.items n.core.commits.items t sets.1
    still_queues _ _ (abort_begun t) due sets = same_queue sets.1
    still_queues _ _ (abort_went t) due same = same_queue same.1
    still_queues _ _ (abort_waits t other) due same = same_queue same.1
    still_queues _ _ (abort_again t) due same = same_queue same.1
    still_queues _ _ (abort_full t) due same = same_queue same.1
    still_queues _ _ (back_begun t m) due sets = same_queue sets.1
    still_queues _ _ (return_went t) due same = same_queue same.1
    still_queues _ _ (return_waits t other) due same = same_queue same.1
    still_queues _ _ (return_again t) due same = same_queue same.1
    still_queues _ _ (return_full t) due same = same_queue same.1
    still_queues _ _ force_went due same = same_queue due.1
    still_queues _ _ force_idle due same = same_queue due.1
    still_queues _ _ (flushed reported_so) due same = same_queue same.1
    still_queues _ _ rotated due same = same_queue same.1

    moves_queue : (z : State) (event : Event) (answer : Answer) (more : List Act) → Moves (kernel_state k) s event answer more z → IsDue k event answer n → SetsPhases k event answer n → Queues event answer
    moves_queue _ _ _ _ (stays event answer is) due phases = still_queues event answer is due phases
    moves_queue z _ _ _ (begins session) due phases = same_queue phases.1
    moves_queue z _ _ _ (calls t op) due phases = same_queue phases.1
    moves_queue z _ _ _ (ends t op runs) due phases = same_queue phases.1
    moves_queue z _ _ _ (drops t op ps runs given) due phases = same_queue phases.1
    moves_queue z _ _ _ (undoes t last inverse ps idle effect inverts given) due phases = same_queue phases.1
    moves_queue z _ _ _ (aborts t nothing) due phases = same_queue phases.2
    moves_queue z _ _ _ (returns t m last inverse ps goes idle effect after inverts given) due phases = same_queue phases.1
    moves_queue z _ _ _ (settles t m goes none) due phases = same_queue phases.1
    moves_queue z _ _ _ (books ts) due phases =
        first_leave k.core.commits.items n.core.commits.items ts.items (durable_count k.core.commits.items due.0) due.2 due.3 ∙ sym (append-nil (txns_of k.core.commits.items))

  makes_shows : (events : List Event) (answers : List Answer) (acts : List Act) (s : State) (n : Kernel D g) → Makes first events answers acts s n → Shows first s n
  makes_shows _ _ _ _ n (starts k shows) = shows
  makes_shows _ _ _ z n (goes_on events answers acts more s _ k _ event answer before made) = made.shows

  pub makes_same : (events : List Event) (answers : List Answer) (acts : List Act) (s : State) (n : Kernel D g) → Makes first events answers acts s n → length events ≡ length answers
  makes_same _ _ _ _ n (starts k shows) = refl
  makes_same _ _ _ z n (goes_on events answers acts more s _ k _ event answer before made) =
      let same = makes_same events answers acts s k before in
      length-append events (event ∷ []) ∙ ap (λ (l : ℕ). l + 1) same ∙ sym (length-append answers (answer ∷ []))

  makes_reported : (events : List Event) (answers : List Answer) (acts : List Act) (s : State) (n : Kernel D g) → Makes first events answers acts s n
      → ∥ AreReported s (Phase n) (λ t. reported_of events answers t) (acknowledged answers) ∥₁
  makes_reported _ _ _ _ n (starts k shows) = ∣ record {
    each = λ t x known. absurd (let back : known_as (Phase k t) ≡ None = none_back (Phase k t) (sym (lives_of g k.relations k.counters k.core first (start first) shows t)) in let wrong : Some x ≡ None = sym known ∙ back in cc);
    book = refl;
    past = tt;
  } ∣₁
  makes_reported _ _ _ z n (goes_on events answers acts more s _ k _ event answer before made) =
      let shows = makes_shows events answers acts s k before in
      ∥∥₁_elim (makes_reported events answers acts s k before) (hlevel props) (λ are.
      ∥∥₁_elim (kept_of g k.relations k.counters k.core first s shows) (hlevel props) (λ kept.
      ∥∥₁_elim made.shows (hlevel props) (λ (after_origin, after_base, after_is, y).
      ∥∥₁_map shows (λ (origin, base, is, x).
      let queued = x.consistent.fit.queued in
      subst (AreReported z (Phase n) (λ t. reported_of (events ++ event ∷ []) (answers ++ answer ∷ []) t)) (sym (acknowledged_more answers answer))
      (subst (λ (outcome : ℕ → Reported). AreReported z (Phase n) outcome (acknowledged answers ++ named answer)) (λ i t. sym (reported_more t nothing_reported events answers event answer (makes_same events answers acts s k before)) i)
      (moves_reported s k n (λ t. reported_of events answers t) (acknowledged answers) queued.all y.consistent.fit.queued.each z event answer more made.moves made.due made.phases made.shows kept queued.each queued.apart are))))))

  -- the acknowledged ones, and those under way after them, are all that have begun
  makes_queue : (events : List Event) (answers : List Answer) (acts : List Act) (s : State) (n : Kernel D g) → Makes first events answers acts s n
      → ∥ acknowledged answers ++ txns_of n.core.commits.items ≡ committing events answers ∥₁
  makes_queue _ _ _ _ n (starts k shows) = ∥∥₁_map shows (λ (origin, base, is, x).
      ap (λ (cs : List CommitUnderWay). txns_of cs) (none_under_way k.core.live.members k.core.commits.items x.consistent.fit.queued.each (λ t. sym (lives_of g k.relations k.counters k.core first (start first) shows t))))
  makes_queue _ _ _ z n (goes_on events answers acts more s _ k _ event answer before made) = ∥∥₁_map (makes_queue events answers acts s k before) (λ was.
      let queues = moves_queue s k n z event answer more made.moves made.due made.phases in
      ap (λ (ts : List ℕ). ts ++ txns_of n.core.commits.items) (acknowledged_more answers answer)
      ∙ append_assoc (acknowledged answers) (named answer) (txns_of n.core.commits.items)
      ∙ ap (λ (ts : List ℕ). acknowledged answers ++ ts) queues
      ∙ sym (append_assoc (acknowledged answers) (txns_of k.core.commits.items) (started_by event answer))
      ∙ ap (λ (ts : List ℕ). ts ++ started_by event answer) was
      ∙ sym (committing_more events answers event answer (makes_same events answers acts s k before)))

  -- each with what its session was answered
  order_of : (events : List Event) (answers : List Answer) (s : State) (n : Kernel D g) → AreReported s (Phase n) (λ t. reported_of events answers t) (acknowledged answers) → Shows first s n
      → acknowledged answers ++ txns_of n.core.commits.items ≡ committing events answers → ∥ all_commits n.core ≡ commit_order events answers ∥₁
  order_of events answers s n are shows queue = ∥∥₁_map shows (λ (origin, base, is, x).
      let outcome : ℕ → Reported = λ t. reported_of events answers t in
      let ms = n.core.live.members in
      let cs = n.core.commits.items in
      let queued = x.consistent.fit.queued in
      let whole : take (length cs) cs ≡ cs = take_all (length cs) cs (omega arith) in
      let distinct : AreDistinct (txns_of cs) = subst (λ (l : List CommitUnderWay). AreDistinct (txns_of l)) whole (named_distinct (length cs) cs queued.apart) in
      let commit : Each (λ t. Phase n t ≡ Some IsCommitting) (txns_of cs) = subst (λ (l : List CommitUnderWay). Each (λ t. Phase n t ≡ Some IsCommitting) (txns_of l)) whole (named_commit (Phase n) (length cs) cs queued.each) in
      let known : (t : ℕ) → Phase n t ≡ Some IsCommitting → (session_in ms t ≡ (outcome t).session) × (calls_of_entries (kept (only t) n.core.live.standing) ≡ (outcome t).calls) =
      (λ t commits. let is_reported = are.each t None (ap known_as commits) in (
        session_known (member_of ms t) (outcome t).session (sym (ap (λ (y : State). y.sessions t) x.state) ∙ is_reported.session),
        sym (ap (λ (y : State). calls_of_entries (kept (only t) y.standing)) x.state) ∙ is_reported.calls,
      )) in
      let turn : in_turn (session_in ms) (txns_of cs) n.core.live.standing ≡ map (λ t. commit_of (outcome t)) (txns_of cs) =
      reported_in_turn (session_in ms) outcome (txns_of cs) n.core.live.standing distinct (each_map _ _ known (txns_of cs) commit) in
      let book : n.core.book.items ≡ map (λ t. commit_of (outcome t)) (acknowledged answers) = sym (ap (λ (y : State). y.book) x.state) ∙ are.book in
      ap₂ (λ (xs ys : List Committed). xs ++ ys) book turn
      ∙ sym (map-append (λ t. commit_of (outcome t)) (acknowledged answers) (txns_of cs))
      ∙ ap (λ (ts : List ℕ). map (λ t. commit_of (outcome t)) ts) queue)

  -- ---- once the device has failed

  abbrev pub AreBroken : List Answer → Kernel D g → Type 0
  AreBroken answers n = StayBroken answers × Each (λ x. IsBroken x → is_failed n ≡ true) answers

  broken_more : (answers : List Answer) (k n : Kernel D g) (answer : Answer) → FailsIn k answer n → AreBroken answers k → AreBroken (answers ++ answer ∷ []) n
  broken_more answers k n answer fails (stay, failed) = (
    stay_more answers answer stay (each_map (λ x. IsBroken x → is_failed k ≡ true) (λ x. IsBroken x → IsBroken answer) (λ x before broken. (fails.0 (before broken)).0) answers failed),
    each_append (λ x. IsBroken x → is_failed n ≡ true) answers (answer ∷ [])
        (each_map (λ x. IsBroken x → is_failed k ≡ true) (λ x. IsBroken x → is_failed n ≡ true) (λ x before broken. let was = before broken in ap (λ (y : Kernel D g). is_failed y) (fails.0 was).1 ∙ was) answers failed) (fails.1, tt),
  )

  pub makes_broken : (events : List Event) (answers : List Answer) (acts : List Act) (s : State) (n : Kernel D g) → Makes first events answers acts s n → AreBroken answers n
  makes_broken _ _ _ _ n (starts k shows) = (tt, tt)
  makes_broken _ _ _ z n (goes_on events answers acts more s _ k _ event answer before made) = broken_more answers k n answer made.fails (makes_broken events answers acts s k before)

  -- ---- the events so far

  abbrev pub Ran : List Event → List Answer → Kernel D g → Type 0
  Ran events answers n = ∥ ((acts : List Act) × (s : State) × Makes first events answers acts s n × Shows first s n) ∥₁

  pub ran_none : (k : Kernel D g) → Shows first (start first) k → Ran [] [] k
  ran_none k shows = ∣ ([], start first, starts k shows, shows) ∣₁

  pub ran_more : (events : List Event) (answers : List Answer) (k n : Kernel D g) (event : Event) (answer : Answer) → HasMade k event answer n → Restarts first k → Ran events answers k → Ran (events ++ event ∷ []) (answers ++ answer ∷ []) n
  ran_more events answers k n event answer made restarts ran = ∥∥₁_elim ran (hlevel props) (λ (acts, s, before, shows).
      ∥∥₁_map (made.leads first s restarts shows) (λ (more, z, moves, now).
      (acts ++ more, z, goes_on events answers acts more s z k n event answer before (record { moves = moves; due = made.due; device = made.device; phases = made.phases; fails = made.fails; schema = made.schema; shows = now }), now)))

  pub has_run : (events : List Event) (answers : List Answer) (n : Kernel D g) → Ran events answers n → Restarts first n → ∥ HasRun first events answers n ∥₁
  has_run events answers n ran restarts = ∥∥₁_elim ran (hlevel props) (λ (acts, s, made, shows).
      ∥∥₁_elim (makes_reported events answers acts s n made) (hlevel props) (λ outcome.
      ∥∥₁_elim (makes_queue events answers acts s n made) (hlevel props) (λ queue.
      ∥∥₁_elim (order_of events answers s n outcome shows queue) (hlevel props) (λ order.
      ∥∥₁_map (kept_of g n.relations n.counters n.core first s shows) (λ kept.
      let acted = makes_acted events answers acts s n made in record {
        acts = acts;
        state = s;
        made = made;
        shows = shows;
        acted = acted.0;
        held = acted.1;
        outcome = outcome.book;
        order = order;
        queue = queue;
        legal = kept.legal;
        explained = kept_explained first s kept;
        broken = (makes_broken events answers acts s n made).0;
        restarts = restarts;
      })))))
