-- What is recorded, and that parts stay restartable, as events of the kernel change them.
use Rattle.std.proofs.Common.{◌≡◌, ◌≢◌, inl, inr, ℕ, zero, suc, ◌<◌, ◌≤◌, ◌+◌, ◌*◌, Bool, true, false, cond, List, [], ◌∷◌, ◌++◌, Option, Some, None, length, get_or, map, filter, take, refl, sym, ap, ◌∙◌, subst, arith, append-nil, append_assoc}
use Rattle.std.specs.Prelude.{All, is_some}
use Rattle.std.specs.List.{AllByRecursion}
use Rattle.std.specs.Option.{option_map}
use Rattle.std.proofs.lemmas.Bool.{eq-eqb, ne_eqb, cases_eq}
use Rattle.std.proofs.lemmas.List.{map-append}
use Rattle.std.proofs.lemmas.List.Elements.{All-head, All-tail, filter-append}
use Rattle.mt_disk.specs.declared.device.Device.{Ghosts}
use Rattle.mt_frame.specs.declared.records.LoggedOp.{LoggedOp}
use Rattle.mt_frame.specs.declared.records.Record.{Record}
use Rattle.mt_frame.specs.declared.records.Record.TheVariants.{OpEnd, Commit as CommitOf, AbortEnd}
use Rattle.mt_live.proofs.Alone.{put_other}
use Rattle.mt_live.proofs.Cuts.{Cut, cut_of, idle_all}
use Rattle.mt_live.proofs.Entries.{runs-append}
use Rattle.mt_live.proofs.Events.{commits}
use Rattle.mt_live.proofs.Standing.{effects_run}
use Rattle.mt_live.specs.Entries.{Entry, calls, runs, kept}
use Rattle.mt_live.specs.Lives.{member_of, IsChanged}
use Rattle.mt_live.specs.Machine.{State, put}
use Rattle.mt_model.specs.declared.operations.Op.{Op}
use Rattle.mt_live.specs.Members.{Member, Noted, noted, has_inverse, with_call, with_room, with_state, with_back, taken_back, cut_at, cut_to, last_place, last_operation, operation_at}
use Rattle.mt_live.specs.Undoing.{only, others, last_effect, cut_back, mark_last}
use Rattle.mt_live.specs.declared.transactions.TxnState.{TxnState}
use Rattle.mt_live.specs.declared.transactions.TxnState.TheVariants.{Open, Committing, Returning, Aborting}
use Rattle.mt_log.specs.Words.{appended, durable, area_size}
use Rattle.mt_model.proofs.Appends.{run-append, after-append}
use Rattle.mt_model.proofs.Split.{filter-swap}
use Rattle.mt_model.proofs.Undo.{base_effectless}
use Rattle.mt_model.specs.History.{Call, run, after, IsActed}
use Rattle.mt_model.specs.Model.{Base, reply_of, base_after, inverse_of, IsBase}
use Rattle.mt_model.specs.declared.history.Committed.{Committed}
use Rattle.mt_model.specs.declared.operations.Reply.{Reply}
use Rattle.mt_op.specs.Begun.{AreImages}
use Rattle.mt_op.specs.Moves.{Rests}
use Rattle.mt_op.specs.Operations.{world}
use Rattle.mt_op.specs.Records.{end_with}
use Rattle.mt_pool.specs.Views.{pages}
use Rattle.mt_replay.proofs.Beginnings.{begin_more, begin_all, begin_one}
use Rattle.mt_replay.proofs.Walking.{plus_more}
use Rattle.mt_replay.specs.Recoverable.{EachBeginning, IsRecoverable, IsOf, LeadsOn, all_pages, inverse_images, pages_held}
use Rattle.mt_replay.specs.Recorded.{Recorded, Finished, nothing, op_of, reply_in, call_of, calls_in, calls_of, its, others as others_of, without, recorded_in, run_all}
use Rattle.mt_slock.specs.Views.{held_of}
use Rattle.mt_space.specs.Changes.{PageBytes}
use Rattle.mt_steps.specs.Logged.{logged_of}
use Rattle.mt_steps.proofs.Repeating.{logged_more}
use Rattle.mt_steps.specs.Plans.{IsGood, free_pages}
use Rattle.mt_steps.specs.Repeated.{held}
use Rattle.mt_core.proofs.Did.{AreApartFrom, Tallies, tally_same, tally_end, tally_undone, tally_commit, tally_abort, tally_booked, without_did, did_last, did_push, rising_apart, only_gone}
use Rattle.mt_core.proofs.Did.{Books, Eases, eases_same, books_still, books_end, books_commit, books_abort, books_booked, effects_turn, effects_push, effects_other, effects_beside, others_cut}
use Rattle.mt_core.proofs.Effects.{last_is}
use Rattle.mt_core.proofs.Finding.{idle_did, acted_last, inverse_logged}
use Rattle.mt_core.proofs.Imaged.{images_held, images_quiet}
use Rattle.mt_core.proofs.Lasting.{lasts_same, lasts_then, stays_reported, begins_reported, leaves_reported, starts_reported}
use Rattle.mt_core.proofs.Leads.{calls_append, leads_quietly, logged_did, logged_is}
use Rattle.mt_core.proofs.Marking.{did_mark, effects_back, effects_back_other, back_state, back_numbers}
use Rattle.mt_core.proofs.Members.{changed_other, states_kept, states_put}
use Rattle.mt_core.proofs.Ending.{taken_state}
use Rattle.mt_core.proofs.Recovering.{recovers}
use Rattle.mt_core.proofs.Resting.{backwards_open}
use Rattle.mt_live.specs.Laws.{in_turn}
use Rattle.mt_core.proofs.Between.{appends_none}
use Rattle.mt_core.specs.Booked.{txns_of}
use Rattle.mt_core.specs.Consistent.{Origin, session_in, state_in, state_of, IsConsistent, IsReported, InvertsIn}
use Rattle.mt_core.specs.Restartable.{did, did_call, effects_of, its_effects, HasEnds, entry_of, numbers_did, numbers_of, AreRecordsOf, Recovers, IsRestartable, RecordsBook, Lasts, SameArea, IsQuiet, AppendsQuietly, AppendsEnd, QuietlyAppends, SameBook, NotesEnd, NotesUndone, NotesBack, NotesInverse}
use Rattle.mt_core.specs.Runs.{is_at_work, TakesBack, is_working, is_undoing}
use Rattle.mt_core.specs.declared.parts.Commit.{Commit}
use Rattle.mt_core.specs.declared.parts.Core.{Core}
use Rattle.mt_op.specs.declared.scope.OpScope.{OpScope}
use Rattle.mt_live.specs.declared.transactions.Role.TheVariants.{Stands, Back}

-- ---- records by which nothing is recorded

module _ (opening : PageBytes) (rs more : List Record) (q : IsQuiet opening rs more) where
  pub unreported : recorded_in (rs ++ more) ≡ recorded_in rs
  unreported = plus_more nothing rs more ∙ q.outcome (recorded_in rs)

  pub uncalled : calls_in (rs ++ more) ≡ calls_in rs
  uncalled = calls_append rs more ∙ ap (λ (cs : List Call). calls_in rs ++ cs) q.calls ∙ append-nil (calls_in rs)

  quiet_recovers : (relations counters total bytes : ℕ) (first : Base) → IsRecoverable relations counters total bytes opening first rs → IsRecoverable relations counters total bytes opening first (rs ++ more)
  quiet_recovers relations counters total bytes first k = record {
    leads = leads_quietly relations counters total opening rs more q.held q.calls k.leads;
    serial = record {
      same = ap (run first) uncalled ∙ k.serial.same ∙ sym (ap (λ (x : Recorded). run (run_all first x.books) (calls_of x.live)) unreported);
      acted = subst (λ (x : Recorded). IsActed (run_all first x.books) (calls_of x.live)) (sym unreported) k.serial.acted;
      bounds = subst (λ (x : Recorded). IsBase (run_all first x.books)) (sym unreported) k.serial.bounds;
    };
    within = subst (λ (x : Recorded). AllByRecursion (λ (f : Finished). IsOf relations counters f.done) x.live) (sym unreported) k.within;
    free = subst (λ (X : Type 0). X) (λ i. all_pages (sym unreported i).live ≤ free_pages total (sym q.held i)) k.free;
    images = subst (λ (x : Recorded). inverse_images * length x.live + 5 < bytes) (sym unreported) k.images;
  }

-- ---- transactions' numbers

abbrev pub num : List Member → ℕ → List ℕ
num ms t = numbers_of (member_of ms t)

put_same : {A : Type 0} (f : ℕ → Option A) (t : ℕ) (x : Option A) → put f t x t ≡ x
put_same f t x = ap (λ (c : Bool). cond c x (f t)) (eq-eqb t t refl)

pub put_num : (old new : List Member) (t : ℕ) (x : Option Member) → ((u : ℕ) → member_of new u ≡ put (member_of old) t x u) → num new t ≡ numbers_of x
put_num old new t x changed = ap numbers_of (changed t ∙ put_same (member_of old) t x)

pub other_num : (old new : List Member) (t : ℕ) (x : Option Member) → ((u : ℕ) → member_of new u ≡ put (member_of old) t x u) → (u : ℕ) → u ≢ t → num new u ≡ num old u
other_num old new t x changed u apart = ap numbers_of (changed u ∙ put_other (member_of old) t x u apart)

-- where the one that changes has the same
pub kept_num : (old new : List Member) (t : ℕ) (x : Option Member) → ((u : ℕ) → member_of new u ≡ put (member_of old) t x u) → numbers_of x ≡ num old t → (u : ℕ) → num new u ≡ num old u
kept_num old new t x changed same u = elim (cases_eq u t) [
  | inl is ↦ ap (num new) is ∙ put_num old new t x changed ∙ same ∙ sym (ap (num old) is)
  | inr apart ↦ other_num old new t x changed u apart
]

record AtWork (o : Option Member) : Type 0 where
  member : Member
  is : o ≡ Some member
  working : is_at_work member.state ≡ true

at_work_of : (o : Option Member) → is_working o ≡ true → AtWork o
at_work_of None is = absurd cc
at_work_of (Some m) is = record { member = m; is = refl; working = is }

open_did : (m : Member) → is_at_work m.state ≡ true → numbers_of (Some m) ≡ numbers_did m.calls m.operations
open_did m working = ap (λ (c : Bool). cond c (numbers_did m.calls m.operations) []) working

-- in another state at work it has the same
pub same_at_work : (o : Option Member) (s : TxnState) → is_working o ≡ true → is_at_work s ≡ true → numbers_of (option_map (λ m. with_state m s) o) ≡ numbers_of o
same_at_work None s here now = refl
same_at_work (Some m) s here now = ap (λ (c : Bool). cond c (numbers_did m.calls m.operations) []) (now ∙ sym here)

pub open_works : (o : Option Member) → option_map (λ (m : Member). m.state) o ≡ Some Open → is_working o ≡ true
open_works None is = absurd cc
open_works (Some m) is = let state : m.state ≡ Open = cc in ap is_at_work state

pub with_room_num : (o : Option Member) → numbers_of (option_map with_room o) ≡ numbers_of o
with_room_num None = refl
with_room_num (Some m) = refl

-- ---- none that commits is at work

closed_of : (o : Option Member) → option_map (λ (m : Member). m.state) o ≡ Some Committing → is_working o ≡ false
closed_of None is = refl
closed_of (Some m) is = let state : m.state ≡ Committing = cc in ap is_at_work state

pub apart_from : (ms : List Member) (cs : List Commit) (t : ℕ) → All (λ (c : Commit). state_in ms c.txn ≡ Some Committing) cs → is_working (member_of ms t) ≡ true → AreApartFrom t (txns_of cs)
apart_from ms [] t all working = tt
apart_from ms (c ∷ cs) t all working = (
  λ same. let closed : is_working (member_of ms t) ≡ false = ap (λ (u : ℕ). is_working (member_of ms u)) (sym same) ∙ closed_of (member_of ms c.txn) (All-head (λ (d : Commit). state_in ms d.txn ≡ Some Committing) c cs all) in cc,
  apart_from ms cs t (All-tail (λ (d : Commit). state_in ms d.txn ≡ Some Committing) c cs all) working,
)

-- what is at a place
pub at_place : {X : Type 0} (xs : List X) (i : ℕ) → i < length xs → (x : X) × (x ≡ get_or xs i x)
at_place [] i lt = absurd (omega (arith, lt))
at_place (y ∷ ys) zero lt = (y, refl)
at_place (y ∷ ys) (suc i) lt = at_place ys i (omega (arith, lt))

-- ---- parts

-- what an inverse leaves is consistent
pub inverted_consistent : {D : Type 0} (g : Ghosts D) (origin : Origin) (base : Base) (s : State) (n : Core D) (t : ℕ) (i : Op) (state : Option TxnState) → InvertsIn g origin base s n t i state → IsConsistent g origin (base_after base i) n
inverted_consistent g origin base s n t i None h = h.leads.consistent
inverted_consistent g origin base s n t i (Some Open) h = h.leads.consistent
inverted_consistent g origin base s n t i (Some Committing) h = h.leads.consistent
inverted_consistent g origin base s n t i (Some (Returning first)) h = h.leads.consistent
inverted_consistent g origin base s n t i (Some Aborting) h = h.leads.consistent

module _ {D : Type 0} (g : Ghosts D) (origin : Origin) where
  -- these are the records of the parts, and have led to this base
  pub record Now (k : Core D) (rs : List Record) (base : Base) : Type 0 where
    pub since : List Committed
    pub book : k.book.items ≡ origin.earlier ++ since
    pub tally : Tallies (txns_of k.commits.items) (num k.live.members) (filter did k.live.standing) (recorded_in rs).live
    pub ends : Books (map effects_of since) (txns_of k.commits.items) (state_in k.live.members) k.live.standing (recorded_in rs)
    pub leads : run origin.begun (calls_in rs) ≡ base

  pub base_is : (k : Core D) (base : Base) → IsConsistent g origin base k → runs (after origin.first k.book.items) k.live.standing ≡ base
  base_is k base safe = safe.fit.kept.base

  pub now_of : (k : Core D) (rs : List Record) (base : Base) → IsConsistent g origin base k → AreRecordsOf origin k rs → Now k rs base
  now_of k rs base safe t =
      let turned = in_turn (session_in k.live.members) (txns_of k.commits.items) k.live.standing in
      record {
        since = t.since;
        book = t.book;
        tally = record { live = t.recorded.live ∙ without_did (txns_of k.commits.items) k.live.standing; its = t.recorded.numbers };
        ends = record {
          books = t.recorded.books ∙ map-append effects_of t.since turned ∙ ap (λ (cs : List (List Call)). map effects_of t.since ++ cs) (effects_turn (session_in k.live.members) (txns_of k.commits.items) k.live.standing);
          ends = t.recorded.ends;
        };
        leads = t.calls ∙ base_is k base safe;
      }

  pub are_records_of : (k : Core D) (rs : List Record) (base : Base) → IsConsistent g origin base k → Now k rs base → AreRecordsOf origin k rs
  are_records_of k rs base safe n =
      let turned = in_turn (session_in k.live.members) (txns_of k.commits.items) k.live.standing in
      record {
        since = n.since;
        book = n.book;
        recorded = record {
          books = n.ends.books ∙ sym (map-append effects_of n.since turned ∙ ap (λ (cs : List (List Call)). map effects_of n.since ++ cs) (effects_turn (session_in k.live.members) (txns_of k.commits.items) k.live.standing));
          live = n.tally.live ∙ sym (without_did (txns_of k.commits.items) k.live.standing);
          numbers = n.tally.its;
          ends = n.ends.ends;
        };
        calls = n.leads ∙ sym (base_is k base safe);
      }

  quiet_now : (k : Core D) (rs more : List Record) (base : Base) → IsQuiet origin.pages rs more → Now k rs base → Now k (rs ++ more) base
  quiet_now k rs more base q n = record {
    since = n.since;
    book = n.book;
    tally = subst (λ (x : Recorded). Tallies (txns_of k.commits.items) (num k.live.members) (filter did k.live.standing) x.live) (sym (unreported origin.pages rs more q)) n.tally;
    ends = subst (Books (map effects_of n.since) (txns_of k.commits.items) (state_in k.live.members) k.live.standing) (sym (unreported origin.pages rs more q)) n.ends;
    leads = ap (run origin.begun) (uncalled origin.pages rs more q) ∙ n.leads;
  }

  appended_now : (k : Core D) (rs new : List Record) (base : Base) → AppendsQuietly origin.pages rs new → Now k rs base → Now k new base
  appended_now k rs new base a n = subst (λ (xs : List Record). Now k xs base) (sym a.is) (quiet_now k rs a.more base (a.quiet a.more [] (sym (append-nil a.more))) n)

  moved_recovers : (k n : Core D) (rs : List Record) → SameArea k n → Recovers origin k rs → Recovers origin n rs
  moved_recovers k n rs same r = subst (λ (X : Type 0). X) (λ i. IsRecoverable origin.relations origin.counters (sym same.total i) (sym same.bytes i) origin.pages origin.begun rs) r

  moved_each : (k n : Core D) → SameArea k n → IsRestartable origin k → 4194304 ≤ area_size n.operations.store.log → EachBeginning (Recovers origin n) (appended k.operations.store.log)
  moved_each k n same r area front back is = moved_recovers k n front same (r.beginnings (subst (λ (b : ℕ). 4194304 ≤ b) same.bytes area) front back is)

  -- nothing is appended by which anything is recorded
  pub stays : (k n : Core D) (later : Base) → IsConsistent g origin later n → QuietlyAppends origin.pages k n → length n.live.members ≤ 64
      → Now n (appended n.operations.store.log) later → RecordsBook origin n → IsRestartable origin k → IsRestartable origin n
  stays k n later safe q few now booked r =
      let old = appended k.operations.store.log in
      record {
        beginnings = λ area. let each = moved_each k n q.area r area in
            subst (EachBeginning (Recovers origin n)) (sym q.appends.is) (begin_more (Recovers origin n) old q.appends.more each
            (λ front back is. quiet_recovers origin.pages old front (q.appends.quiet front back is) origin.relations origin.counters (pages n.operations.store.pool) (area_size n.operations.store.log) origin.begun (begin_all (Recovers origin n) old each)));
        begun = r.begun;
        records = are_records_of n (appended n.operations.store.log) later safe now;
        booked = booked;
        few = few;
      }

  -- one record is
  pub grows : (k n : Core D) (later : Base) (entry : Record) → IsConsistent g origin later n → SameArea k n → length n.live.members ≤ 64
      → appended n.operations.store.log ≡ appended k.operations.store.log ++ entry ∷ []
      → (LeadsOn origin.relations origin.counters (pages k.operations.store.pool) origin.pages (appended k.operations.store.log) → LeadsOn origin.relations origin.counters (pages k.operations.store.pool) origin.pages (appended n.operations.store.log))
      → Now n (appended n.operations.store.log) later → RecordsBook origin n → IsRestartable origin k → IsRestartable origin n
  grows k n later entry safe same few is leads now booked r =
      let old = appended k.operations.store.log in
      let of_records = are_records_of n (appended n.operations.store.log) later safe now in
      let led : LeadsOn origin.relations origin.counters (pages k.operations.store.pool) origin.pages old → LeadsOn origin.relations origin.counters (pages n.operations.store.pool) origin.pages (appended n.operations.store.log) = λ was. subst (λ (t : ℕ). LeadsOn origin.relations origin.counters t origin.pages (appended n.operations.store.log)) (sym same.total) (leads was) in
      record {
        beginnings = λ area.
            let each = moved_each k n same r area in
            let was : LeadsOn origin.relations origin.counters (pages k.operations.store.pool) origin.pages old = subst (λ (t : ℕ). LeadsOn origin.relations origin.counters t origin.pages old) same.total (begin_all (Recovers origin n) old each).leads in
            let whole : Recovers origin n (appended n.operations.store.log) = recovers g origin later n safe r.begun of_records area few (led was) in
            subst (EachBeginning (Recovers origin n)) (sym is) (begin_one (Recovers origin n) old entry each (subst (Recovers origin n) is whole));
        begun = r.begun;
        records = of_records;
        booked = booked;
        few = few;
      }

  -- ---- nothing is reported anew

  pub same_area : (k n : Core D) → n.operations.store ≡ k.operations.store → SameArea k n
  same_area k n store = record { total = ap (λ s. pages s.pool) store; bytes = ap (λ s. area_size s.log) store; lasts = lasts_same k n (ap (λ s. durable s.log) store) }

  pub quiet_store : (k n : Core D) → n.operations.store ≡ k.operations.store → QuietlyAppends origin.pages k n
  quiet_store k n store = record { area = same_area k n store; appends = appends_none origin.pages (appended k.operations.store.log) (appended n.operations.store.log) (ap (λ s. appended s.log) store) }

  -- where the entries that did something are the same, and lead as far
  pub stays_alike : (k n : Core D) (base later : Base) → IsConsistent g origin base k → IsConsistent g origin later n → QuietlyAppends origin.pages k n → SameBook k n
      → filter did n.live.standing ≡ filter did k.live.standing → ((t : ℕ) → its_effects t n.live.standing ≡ its_effects t k.live.standing) → ((b : Base) → runs b n.live.standing ≡ runs b k.live.standing)
      → ((t : ℕ) → num n.live.members t ≡ num k.live.members t) → Eases (state_in k.live.members) (state_in n.live.members) → length n.live.members ≤ 64 → IsRestartable origin k → IsRestartable origin n
  stays_alike k n base later safe_k safe_n q book standing effects leads numbers eases few r =
      let old = appended k.operations.store.log in
      let was = now_of k old base safe_k r.records in
      let bases : base ≡ later = sym (base_is k base safe_k) ∙ (λ i. runs (after origin.first (sym book.book i)) k.live.standing) ∙ sym (leads (after origin.first n.book.items)) ∙ base_is n later safe_n in
      let tally = tally_same (txns_of k.commits.items) (num k.live.members) (num n.live.members) (filter did k.live.standing) (recorded_in old).live was.tally numbers in
      let ends = books_still (map effects_of was.since) (txns_of k.commits.items) (state_in k.live.members) (state_in n.live.members) k.live.standing (recorded_in old) was.ends n.live.standing effects eases in
      let here : Now n old later = record {
        since = was.since;
        book = book.book ∙ was.book;
        tally = subst (λ (X : Type 0). X) (λ i. Tallies (txns_of (sym book.commits i)) (num n.live.members) (sym standing i) (recorded_in old).live) tally;
        ends = subst (λ (X : Type 0). X) (λ i. Books (map effects_of was.since) (txns_of (sym book.commits i)) (state_in n.live.members) n.live.standing (recorded_in old)) ends;
        leads = was.leads ∙ bases;
      } in
      stays k n later safe_n q few (appended_now n old (appended n.operations.store.log) later q.appends here) (stays_reported g origin k n later safe_n q.area.lasts book r.booked) r

  pub stays_same : (k n : Core D) (base later : Base) → IsConsistent g origin base k → IsConsistent g origin later n → QuietlyAppends origin.pages k n → SameBook k n
      → n.live.standing ≡ k.live.standing → ((t : ℕ) → num n.live.members t ≡ num k.live.members t) → Eases (state_in k.live.members) (state_in n.live.members) → length n.live.members ≤ 64 → IsRestartable origin k → IsRestartable origin n
  stays_same k n base later safe_k safe_n q book standing numbers eases few r =
      stays_alike k n base later safe_k safe_n q book (ap (filter did) standing) (λ t. ap (its_effects t) standing) (λ b. ap (runs b) standing) numbers eases few r

  pub store_same : (k n : Core D) (base later : Base) → IsConsistent g origin base k → IsConsistent g origin later n → n.operations.store ≡ k.operations.store → SameBook k n → n.live ≡ k.live → IsRestartable origin k → IsRestartable origin n
  store_same k n base later safe_k safe_n store book live r = stays_same k n base later safe_k safe_n (quiet_store k n store) book (ap (λ l. l.standing) live) (λ t. ap (λ l. num l.members t) live) (eases_same (state_in k.live.members) (state_in n.live.members) (λ t. ap (λ l. state_in l.members t) live)) (subst (λ l. length l.members ≤ 64) (sym live) r.few) r

  pub rests_same : (k n : Core D) (base later : Base) → IsConsistent g origin base k → IsConsistent g origin later n → Rests (world g origin.pages k.operations) (world g origin.pages n.operations)
      → area_size n.operations.store.log ≡ area_size k.operations.store.log → Lasts k n → SameBook k n → n.live ≡ k.live → IsRestartable origin k → IsRestartable origin n
  rests_same k n base later safe_k safe_n rests area lasts book live r = stays_same k n base later safe_k safe_n
      (record { area = record { total = rests.area.total; bytes = area; lasts = lasts }; appends = appends_none origin.pages (appended k.operations.store.log) (appended n.operations.store.log) rests.records })
      book (ap (λ l. l.standing) live) (λ t. ap (λ l. num l.members t) live) (eases_same (state_in k.live.members) (state_in n.live.members) (λ t. ap (λ l. state_in l.members t) live)) (subst (λ l. length l.members ≤ 64) (sym live) r.few) r

  pub goes_on : (k n : Core D) (base later : Base) → IsConsistent g origin base k → IsConsistent g origin later n → QuietlyAppends origin.pages k n → n.book ≡ k.book → n.commits ≡ k.commits → n.live ≡ k.live → IsRestartable origin k → IsRestartable origin n
  goes_on k n base later safe_k safe_n q book commits live r = stays_same k n base later safe_k safe_n q (record { book = ap (λ v. v.items) book; commits = ap (λ v. v.items) commits }) (ap (λ l. l.standing) live) (λ t. ap (λ l. num l.members t) live) (eases_same (state_in k.live.members) (state_in n.live.members) (λ t. ap (λ l. state_in l.members t) live)) (subst (λ l. length l.members ≤ 64) (sym live) r.few) r

  -- in the same store
  pub area_then : (k m n : Core D) → SameArea k m → n.operations.store ≡ m.operations.store → SameArea k n
  area_then k m n same store = record { total = ap (λ s. pages s.pool) store ∙ same.total; bytes = ap (λ s. area_size s.log) store ∙ same.bytes; lasts = lasts_then k m n same.lasts store }

  pub quiet_then : (k m n : Core D) → QuietlyAppends origin.pages k m → n.operations.store ≡ m.operations.store → QuietlyAppends origin.pages k n
  quiet_then k m n q store = record { area = area_then k m n q.area store; appends = record { more = q.appends.more; is = ap (λ s. appended s.log) store ∙ q.appends.is; quiet = q.appends.quiet } }

  pub end_then : (k m n : Core D) (r : OpScope) (reply : Reply) → AppendsEnd origin (pages k.operations.store.pool) (appended k.operations.store.log) (appended m.operations.store.log) r reply → n.operations.store ≡ m.operations.store
      → AppendsEnd origin (pages k.operations.store.pool) (appended k.operations.store.log) (appended n.operations.store.log) r reply
  end_then k m n r reply a store = record {
    is = ap (λ s. appended s.log) store ∙ a.is;
    leads = λ led. subst (LeadsOn origin.relations origin.counters (pages k.operations.store.pool) origin.pages) (sym (ap (λ s. appended s.log) store)) (a.leads led);
  }

  -- before which nothing but the operations has changed
  pub notes_then : (k m n : Core D) (r : OpScope) (reply : Reply) → m.book ≡ k.book → m.commits ≡ k.commits → m.live ≡ k.live → NotesEnd m n r reply → NotesEnd k n r reply
  notes_then k m n r reply book commits live e = record {
    same = record { book = e.same.book ∙ ap (λ v. v.items) book; commits = e.same.commits ∙ ap (λ v. v.items) commits };
    standing = e.standing ∙ ap (λ l. l.standing ++ record { txn = r.txn; op = r.op; reply = reply; role = Stands } ∷ []) live;
    members = subst (λ l. IsChanged l.members n.live.members r.txn (λ x. with_call x r.number (r.op, reply))) live e.members;
    count = e.count ∙ ap (λ l. length l.members) live;
  }

  pub undone_then : (k m n : Core D) (r : OpScope) → m.book ≡ k.book → m.commits ≡ k.commits → m.live ≡ k.live → NotesUndone m n r → NotesUndone k n r
  undone_then k m n r book commits live e = record {
    same = record { book = e.same.book ∙ ap (λ v. v.items) book; commits = e.same.commits ∙ ap (λ v. v.items) commits };
    standing = e.standing ∙ ap (λ l. cut_back r.txn l.standing) live;
    members = subst (λ l. IsChanged l.members n.live.members r.txn taken_back) live e.members;
    count = e.count ∙ ap (λ l. length l.members) live;
  }

  back_then : (k m n : Core D) (r : OpScope) (reply : Reply) → m.book ≡ k.book → m.commits ≡ k.commits → m.live ≡ k.live → NotesBack m n r reply → NotesBack k n r reply
  back_then k m n r reply book commits live e = record {
    same = record { book = e.same.book ∙ ap (λ v. v.items) book; commits = e.same.commits ∙ ap (λ v. v.items) commits };
    standing = e.standing ∙ ap (λ l. mark_last r.txn l.standing ++ record { txn = r.txn; op = r.op; reply = reply; role = Back } ∷ []) live;
    members = subst (λ l. IsChanged l.members n.live.members r.txn (λ m. with_back m r.number (r.op, reply))) live e.members;
    count = e.count ∙ ap (λ l. length l.members) live;
  }

  -- ---- an operation has ended

  -- of one that is at work the records have one end more
  more_ends : (o : Option Member) → is_working o ≡ true → (ends mine now : List Call) (c : Call) → now ≡ mine ++ c ∷ [] → HasEnds (option_map (λ (x : Member). x.state) o) ends mine → HasEnds (option_map (λ (x : Member). x.state) o) (ends ++ c ∷ []) now
  more_ends None working ends mine now c is h = absurd cc
  more_ends (Some x) working ends mine now c is h = go x.state refl h
    where
      go : (s : TxnState) → x.state ≡ s → HasEnds (Some s) ends mine → HasEnds (Some s) (ends ++ c ∷ []) now
      go Open at k = ap (λ (cs : List Call). cs ++ c ∷ []) k ∙ sym is
      go (Returning first) at k = ap (λ (cs : List Call). cs ++ c ∷ []) k ∙ sym is
      go Aborting at k = tt
      go Committing at k = let closed : is_at_work x.state ≡ false = ap is_at_work at in absurd cc

  pub ended : (k n : Core D) (base later : Base) (r : OpScope) (reply : Reply) → IsConsistent g origin base k → IsConsistent g origin later n → SameArea k n
      → AppendsEnd origin (pages k.operations.store.pool) (appended k.operations.store.log) (appended n.operations.store.log) r reply → NotesEnd k n r reply → r.undoes ≡ 0
      → is_working (member_of k.live.members r.txn) ≡ true → reply_of base r.op ≡ reply → IsRestartable origin k → IsRestartable origin n
  ended k n base later r reply safe_k safe_n same a e fore working replies restartable = go (logged_of r.op reply) refl
    where
      old : List Record
      old = appended k.operations.store.log

      t : ℕ
      t = r.txn

      entry : Entry
      entry = record { txn = r.txn; op = r.op; reply = reply; role = Stands }

      few : length n.live.members ≤ 64
      few = subst (λ (m : ℕ). m ≤ 64) (sym e.count) restartable.few

      was : Now k old base
      was = now_of k old base safe_k restartable.records

      m : AtWork (member_of k.live.members t)
      m = at_work_of (member_of k.live.members t) working

      call : Noted
      call = noted Stands (r.op, reply)

      many : length m.member.operations ≡ length m.member.calls
      many = (safe_k.outcome t m.member m.is).many

      pushed : num n.live.members t ≡ num k.live.members t ++ cond (has_inverse call) (r.number ∷ []) []
      pushed =
          ap numbers_of (e.members t ∙ put_same (member_of k.live.members) t (option_map (λ x. with_call x r.number (r.op, reply)) (member_of k.live.members t)) ∙ ap (option_map (λ x. with_call x r.number (r.op, reply))) m.is)
          ∙ open_did (with_call m.member r.number (r.op, reply)) m.working ∙ did_push m.member.calls m.member.operations call r.number many
          ∙ ap (λ (ns : List ℕ). ns ++ cond (has_inverse call) (r.number ∷ []) []) (sym (ap numbers_of m.is ∙ open_did m.member m.working))

      rest : (u : ℕ) → u ≢ t → num n.live.members u ≡ num k.live.members u
      rest u apart = ap numbers_of (changed_other (λ x. with_call x r.number (r.op, reply)) k.live.members n.live.members t e.members u apart)

      stood : filter did n.live.standing ≡ filter did k.live.standing ++ cond (did entry) (entry ∷ []) []
      stood = ap (filter did) e.standing ∙ filter-append did k.live.standing (entry ∷ [])

      later_is : later ≡ base_after base r.op
      later_is = sym (base_is n later safe_n) ∙ (λ i. runs (after origin.first (e.same.book i)) (e.standing i)) ∙ runs-append (after origin.first k.book.items) k.live.standing (entry ∷ []) ∙ (λ i. base_after (base_is k base safe_k i) r.op)

      none_same : (ns : List ℕ) (h : Bool) → has_inverse call ≡ h → h ≡ false → ns ++ cond (has_inverse call) (r.number ∷ []) [] ≡ ns
      none_same ns h is none = ap (λ (c : Bool). ns ++ cond c (r.number ∷ []) []) (is ∙ none) ∙ append-nil ns

      tally_in : (live : List Finished) (es : List Entry) → filter did n.live.standing ≡ es → Tallies (txns_of k.commits.items) (num n.live.members) es live
          → Tallies (txns_of n.commits.items) (num n.live.members) (filter did n.live.standing) live
      tally_in live es is tally = subst (λ (X : Type 0). X) (λ i. Tallies (txns_of (sym e.same.commits i)) (num n.live.members) (sym is i) live) tally

      books_in : (x : Recorded) → Books (map effects_of was.since) (txns_of k.commits.items) (state_in n.live.members) n.live.standing x
          → Books (map effects_of was.since) (txns_of n.commits.items) (state_in n.live.members) n.live.standing x
      books_in x books = subst (λ (cs : List Commit). Books (map effects_of was.since) (txns_of cs) (state_in n.live.members) n.live.standing x) (sym e.same.commits) books

      states : (u : ℕ) → state_in n.live.members u ≡ state_in k.live.members u
      states u = states_kept (λ x. with_call x r.number (r.op, reply)) k.live.members n.live.members t (λ x. refl) e.members u

      own_effects : its_effects t n.live.standing ≡ its_effects t k.live.standing ++ cond (did_call (r.op, reply)) ((r.op, reply) ∷ []) []
      own_effects = ap (its_effects t) e.standing ∙ effects_push t k.live.standing entry refl

      other_effects : (u : ℕ) → u ≢ t → its_effects u n.live.standing ≡ its_effects u k.live.standing
      other_effects u apart = ap (its_effects u) e.standing ∙ effects_other u k.live.standing entry apart

      is_did : has_inverse call ≡ is_some (logged_of r.op reply)
      is_did = logged_did r.op reply

      go : (o : Option LoggedOp) → logged_of r.op reply ≡ o → IsRestartable origin n
      go None is =
          let none : has_inverse call ≡ false = is_did ∙ ap is_some is in
          let records : appended n.operations.store.log ≡ old = a.is ∙ ap (λ (o : Option LoggedOp). old ++ end_with r.txn r.number r.undoes o) is ∙ append-nil old in
          let entries : filter did n.live.standing ≡ filter did k.live.standing = stood ∙ ap (λ (c : Bool). filter did k.live.standing ++ cond c (entry ∷ []) []) none ∙ append-nil (filter did k.live.standing) in
          let numbers : (u : ℕ) → num n.live.members u ≡ num k.live.members u = λ u. elim (cases_eq u t) [
            | inl own ↦ ap (num n.live.members) own ∙ pushed ∙ none_same (num k.live.members t) (has_inverse call) refl none ∙ sym (ap (num k.live.members) own)
            | inr apart ↦ rest u apart
          ] in
          let nothing_done : inverse_of r.op (reply_of base r.op) ≡ None = none_of (inverse_of r.op (reply_of base r.op)) (ap (λ (y : Reply). is_some (inverse_of r.op y)) replies ∙ logged_did r.op reply ∙ ap is_some is) in
          let tally = tally_same (txns_of k.commits.items) (num k.live.members) (num n.live.members) (filter did k.live.standing) (recorded_in old).live was.tally numbers in
          let idle : did_call (r.op, reply) ≡ false = none in
          let same_effects : (u : ℕ) → its_effects u n.live.standing ≡ its_effects u k.live.standing = λ u. elim (cases_eq u t) [
            | inl own ↦ subst (λ (v : ℕ). its_effects v n.live.standing ≡ its_effects v k.live.standing) (sym own) (own_effects ∙ ap (λ (c : Bool). its_effects t k.live.standing ++ cond c ((r.op, reply) ∷ []) []) idle ∙ append-nil (its_effects t k.live.standing))
            | inr apart ↦ other_effects u apart
          ] in
          let books = books_still (map effects_of was.since) (txns_of k.commits.items) (state_in k.live.members) (state_in n.live.members) k.live.standing (recorded_in old) was.ends n.live.standing same_effects (eases_same (state_in k.live.members) (state_in n.live.members) states) in
          let now : Now n old later = record {
            since = was.since;
            book = e.same.book ∙ was.book;
            tally = tally_in (recorded_in old).live (filter did k.live.standing) entries tally;
            ends = books_in (recorded_in old) books;
            leads = was.leads ∙ sym (later_is ∙ base_effectless base r.op nothing_done);
          } in
          stays k n later safe_n (record { area = same; appends = appends_none origin.pages old (appended n.operations.store.log) records }) few (subst (λ (rs : List Record). Now n rs later) (sym records) now) (stays_reported g origin k n later safe_n same.lasts e.same restartable.booked) restartable
        where
          none_of : {A : Type 0} (o : Option A) → is_some o ≡ false → o ≡ None
          none_of None is = refl
          none_of (Some x) is = absurd cc
      go (Some done) is =
          let it : Record = OpEnd r.txn r.number r.undoes done in
          let f : Finished = record { txn = r.txn; op = r.number; done = done } in
          let logged_it = logged_is r.op reply done is in
          let some : has_inverse call ≡ true = is_did ∙ ap is_some is in
          let records : appended n.operations.store.log ≡ old ++ it ∷ [] = a.is ∙ ap (λ (o : Option LoggedOp). old ++ end_with r.txn r.number r.undoes o) is in
          let with_it : Recorded = record { live = (recorded_in old).live ++ f ∷ []; ends = (recorded_in old).ends ++ f ∷ []; books = (recorded_in old).books } in
          let now_reported : recorded_in (old ++ it ∷ []) ≡ with_it =
          plus_more nothing old (it ∷ [])
          ∙ ap {A = Bool} {B = Recorded} (λ (c : Bool). record { live = cond c ((recorded_in old).live ++ f ∷ []) (without r.txn r.undoes (recorded_in old).live); ends = (recorded_in old).ends ++ f ∷ []; books = (recorded_in old).books }) (eq-eqb r.undoes 0 fore) in
          let same_entry : entry_of f ≡ entry = λ i. record { txn = r.txn; op = logged_it.0 i; reply = logged_it.1 i; role = Stands } in
          let entries : filter did n.live.standing ≡ filter did k.live.standing ++ entry_of f ∷ [] = stood ∙ ap (λ (c : Bool). filter did k.live.standing ++ cond c (entry ∷ []) []) some ∙ ap (λ (x : Entry). filter did k.live.standing ++ x ∷ []) (sym same_entry) in
          let mine : num n.live.members t ≡ num k.live.members t ++ r.number ∷ [] = pushed ∙ ap (λ (c : Bool). num k.live.members t ++ cond c (r.number ∷ []) []) some in
          let tally = tally_end (txns_of k.commits.items) (num k.live.members) (num n.live.members) (filter did k.live.standing) (recorded_in old).live was.tally f (apart_from k.live.members k.commits.items t safe_k.fit.queued.each working) mine rest in
          let call_is : call_of done ≡ (r.op, reply) = λ i. (logged_it.0 i, logged_it.1 i) in
          let own : its_effects t n.live.standing ≡ its_effects t k.live.standing ++ call_of done ∷ [] = own_effects ∙ ap (λ (c : Bool). its_effects t k.live.standing ++ cond c ((r.op, reply) ∷ []) []) some ∙ ap (λ (c : Call). its_effects t k.live.standing ++ c ∷ []) (sym call_is) in
          let books = books_end (map effects_of was.since) (txns_of k.commits.items) (state_in k.live.members) (state_in n.live.members) k.live.standing (recorded_in old) was.ends f n.live.standing ((recorded_in old).live ++ f ∷ []) (apart_from k.live.members k.commits.items t safe_k.fit.queued.each working)
          other_effects states (more_ends (member_of k.live.members t) working (calls_of (its t (recorded_in old).ends)) (its_effects t k.live.standing) (its_effects t n.live.standing) (call_of done) own (was.ends.ends t)) in
          let led : run origin.begun (calls_in (old ++ it ∷ [])) ≡ later = ap (run origin.begun) (calls_append old (it ∷ [])) ∙ run-append origin.begun (calls_in old) (call_of done ∷ []) ∙ (λ i. base_after (was.leads i) (logged_it.0 i)) ∙ sym later_is in
          let now : Now n (old ++ it ∷ []) later = record {
            since = was.since;
            book = e.same.book ∙ was.book;
            tally = subst (λ (x : Recorded). Tallies (txns_of n.commits.items) (num n.live.members) (filter did n.live.standing) x.live) (sym now_reported) (tally_in with_it.live (filter did k.live.standing ++ entry_of f ∷ []) entries tally);
            ends = subst (Books (map effects_of was.since) (txns_of n.commits.items) (state_in n.live.members) n.live.standing) (sym now_reported) (books_in with_it books);
            leads = led;
          } in
          grows k n later it safe_n same few records a.leads (subst (λ (rs : List Record). Now n rs later) (sym records) now) (stays_reported g origin k n later safe_n same.lasts e.same restartable.booked) restartable

  -- ---- an inverse has ended

  -- what its end leaves, whether its transaction is being undone or goes back
  pub record Inverted (k n : Core D) (r : OpScope) (reply : Reply) : Type 0 where
    pub same : SameBook k n
    pub count : length n.live.members ≡ length k.live.members
    pub stands : filter did n.live.standing ≡ filter did (cut_back r.txn k.live.standing)
    pub numbers : num n.live.members r.txn ≡ numbers_of (option_map taken_back (member_of k.live.members r.txn))
    pub others : (u : ℕ) → u ≢ r.txn → num n.live.members u ≡ num k.live.members u
    pub effects : (u : ℕ) → u ≢ r.txn → its_effects u n.live.standing ≡ its_effects u k.live.standing
    pub states : (u : ℕ) → state_in n.live.members u ≡ state_in k.live.members u
    pub ends : (ends : List Call) → HasEnds (state_in k.live.members r.txn) ends (its_effects r.txn k.live.standing) → HasEnds (state_in k.live.members r.txn) (ends ++ (r.op, reply) ∷ []) (its_effects r.txn n.live.standing)

  pub inverted : (k n : Core D) (base : Base) (r : OpScope) (reply : Reply) → IsConsistent g origin base k → IsConsistent g origin (base_after base r.op) n → SameArea k n
      → AppendsEnd origin (pages k.operations.store.pool) (appended k.operations.store.log) (appended n.operations.store.log) r reply → Inverted k n r reply → r.undoes ≢ 0
      → is_working (member_of k.live.members r.txn) ≡ true → TakesBack k.live.members k.live.standing r → reply_of base r.op ≡ reply → IsRestartable origin k → IsRestartable origin n
  inverted k n base r reply safe_k safe_n same a e back working takes replies restartable = go (logged_of r.op reply) refl
    where
      old : List Record
      old = appended k.operations.store.log

      t : ℕ
      t = r.txn

      few : length n.live.members ≤ 64
      few = subst (λ (m : ℕ). m ≤ 64) (sym e.count) restartable.few

      was : Now k old base
      was = now_of k old base safe_k restartable.records

      m : AtWork (member_of k.live.members t)
      m = at_work_of (member_of k.live.members t) working

      reported_of : IsReported k.last old t m.member
      reported_of = safe_k.outcome t m.member m.is

      c : Cut t k.live.standing takes.entry r.op
      c = cut_of t k.live.standing takes.entry r.op takes.last takes.inverse

      front : List Entry
      front = filter did c.front

      behind : List Entry
      behind = filter did c.rest

      is_did : did takes.entry ≡ true
      is_did = let last = last_is t k.live.standing takes.entry takes.last in let stands = last.stands in let effect = last.did in rw (stands, effect) refl

      stood : filter did k.live.standing ≡ front ++ takes.entry ∷ behind
      stood = ap (filter did) c.done.place ∙ filter-append did c.front (takes.entry ∷ c.rest) ∙ ap (λ (h : Bool). front ++ cond h (takes.entry ∷ behind) behind) is_did

      stands : filter did n.live.standing ≡ front ++ behind
      stands = e.stands ∙ ap (filter did) c.then ∙ filter-append did c.front (kept (others t) c.rest) ∙ ap (λ (es : List Entry). front ++ es) (idle_did t c.rest c.done.idle)

      none_behind : kept (only t) behind ≡ []
      none_behind = ap (kept (only t)) (sym (idle_did t c.rest c.done.idle)) ∙ filter-swap (λ (x : Entry). only t x.txn) did (kept (others t) c.rest) ∙ ap (filter did) (only_gone t c.rest)

      now_mine : num n.live.members t ≡ numbers_of (Some (taken_back m.member))
      now_mine = e.numbers ∙ ap (λ (o : Option Member). numbers_of (option_map taken_back o)) m.is

      named : operation_at m.member (last_place m.member.calls) ≡ Some r.undoes
      named = sym (ap last_operation m.is) ∙ takes.named

      go : (o : Option LoggedOp) → logged_of r.op reply ≡ o → IsRestartable origin n
      go None is =
          let some : is_some (logged_of r.op (reply_of base r.op)) ≡ true = inverse_logged takes.entry r.op base takes.inverse (acted_last origin.first (state_of k base) t takes.entry r.op safe_k.fit.kept takes.last takes.inverse) in
          let none : is_some (logged_of r.op (reply_of base r.op)) ≡ false = ap (λ (y : Reply). is_some (logged_of r.op y)) replies ∙ ap is_some is in
          absurd cc
      go (Some done) is = at (last_place m.member.calls) refl
        where
          it : Record
          it = OpEnd r.txn r.number r.undoes done

          records : appended n.operations.store.log ≡ old ++ it ∷ []
          records = a.is ∙ ap (λ (o : Option LoggedOp). old ++ end_with r.txn r.number r.undoes o) is

          f : Finished
          f = record { txn = r.txn; op = r.number; done = done }

          cut_reported : Recorded
          cut_reported = record { live = without t r.undoes (recorded_in old).live; ends = (recorded_in old).ends ++ f ∷ []; books = (recorded_in old).books }

          now_reported : recorded_in (old ++ it ∷ []) ≡ cut_reported
          now_reported =
              plus_more nothing old (it ∷ [])
              ∙ ap {A = Bool} {B = Recorded} (λ (h : Bool). record { live = cond h ((recorded_in old).live ++ f ∷ []) (without r.txn r.undoes (recorded_in old).live); ends = (recorded_in old).ends ++ f ∷ []; books = (recorded_in old).books }) (ne_eqb r.undoes 0 back)

          logged_it : (op_of done ≡ r.op) × (reply_in done ≡ reply)
          logged_it = logged_is r.op reply done is

          led : run origin.begun (calls_in (old ++ it ∷ [])) ≡ base_after base r.op
          led = ap (run origin.begun) (calls_append old (it ∷ [])) ∙ run-append origin.begun (calls_in old) (call_of done ∷ []) ∙ (λ i. base_after (was.leads i) (logged_it.0 i))

          call_is : (r.op, reply) ≡ call_of done
          call_is = λ i. (sym logged_it.0 i, sym logged_it.1 i)

          books : Books (map effects_of was.since) (txns_of k.commits.items) (state_in n.live.members) n.live.standing cut_reported
          books = books_end (map effects_of was.since) (txns_of k.commits.items) (state_in k.live.members) (state_in n.live.members) k.live.standing (recorded_in old) was.ends f n.live.standing (without t r.undoes (recorded_in old).live) (apart_from k.live.members k.commits.items t safe_k.fit.queued.each working)
              e.effects e.states (subst (λ (x : Call). HasEnds (state_in k.live.members t) (calls_of (its t (recorded_in old).ends) ++ x ∷ []) (its_effects t n.live.standing)) call_is (e.ends (calls_of (its t (recorded_in old).ends)) (was.ends.ends t)))

          tallied : Tallies (txns_of k.commits.items) (num n.live.members) (front ++ behind) cut_reported.live → IsRestartable origin n
          tallied tally =
              let here = subst (λ (X : Type 0). X) (λ i. Tallies (txns_of (sym e.same.commits i)) (num n.live.members) (sym stands i) (sym now_reported i).live) tally in
              let ends = subst (λ (X : Type 0). X) (λ i. Books (map effects_of was.since) (txns_of (sym e.same.commits i)) (state_in n.live.members) n.live.standing (sym now_reported i)) books in
              let now : Now n (old ++ it ∷ []) (base_after base r.op) = record { since = was.since; book = e.same.book ∙ was.book; tally = here; ends = ends; leads = led } in
              grows k n (base_after base r.op) it safe_n same few records a.leads (subst (λ (rs : List Record). Now n rs (base_after base r.op)) (sym records) now) (stays_reported g origin k n (base_after base r.op) safe_n same.lasts e.same restartable.booked) restartable

          at : (o : Option ℕ) → last_place m.member.calls ≡ o → IsRestartable origin n
          at None place = let none : operation_at m.member None ≡ Some r.undoes = ap (operation_at m.member) (sym place) ∙ named in absurd cc
          at (Some p) place =
              let number : get_or m.member.operations p 0 ≡ r.undoes = some_number (get_or m.member.operations p 0) r.undoes (ap (operation_at m.member) (sym place) ∙ named) in
              let left : num n.live.members t ≡ numbers_did (take p m.member.calls) (take p m.member.operations) = now_mine ∙ ap (λ (o : Option ℕ). numbers_of (Some (cut_to m.member o))) place ∙ open_did (cut_at m.member p) m.working in
              let mine : num k.live.members t ≡ num n.live.members t ++ r.undoes ∷ [] =
              ap numbers_of m.is ∙ open_did m.member m.working ∙ did_last m.member.calls m.member.operations p reported_of.many place ∙ (λ i. sym left i ++ number i ∷ []) in
              let less = rising_apart m.member.calls m.member.operations (num n.live.members t) r.undoes reported_of.rising (sym (ap numbers_of m.is ∙ open_did m.member m.working) ∙ mine) in
              tallied (tally_undone (txns_of k.commits.items) (num k.live.members) (num n.live.members) (filter did k.live.standing) (recorded_in old).live was.tally t r.undoes front takes.entry behind stood c.done.its none_behind
              (apart_from k.live.members k.commits.items t safe_k.fit.queued.each working) mine less e.others)
            where
              some_number : (x y : ℕ) → Some x ≡ Some y → x ≡ y
              some_number x y same = cc

  pub undone : (k n : Core D) (base : Base) (r : OpScope) (reply : Reply) → IsConsistent g origin base k → IsConsistent g origin (base_after base r.op) n → SameArea k n
      → AppendsEnd origin (pages k.operations.store.pool) (appended k.operations.store.log) (appended n.operations.store.log) r reply → NotesUndone k n r → r.undoes ≢ 0
      → state_in k.live.members r.txn ≡ Some Aborting → TakesBack k.live.members k.live.standing r → reply_of base r.op ≡ reply → IsRestartable origin k → IsRestartable origin n
  undone k n base r reply safe_k safe_n same a e back aborting takes replies restartable =
      let t = r.txn in
      let c = cut_of t k.live.standing takes.entry r.op takes.last takes.inverse in
      let others_same : kept (others t) n.live.standing ≡ kept (others t) k.live.standing = ap (kept (others t)) (e.standing ∙ c.then) ∙ others_cut t c.front takes.entry c.rest c.done.its ∙ ap (kept (others t)) (sym c.done.place) in
      inverted k n base r reply safe_k safe_n same a (record {
        same = e.same;
        count = e.count;
        stands = ap (filter did) e.standing;
        numbers = ap numbers_of (e.members t ∙ put_same (member_of k.live.members) t (option_map taken_back (member_of k.live.members t)));
        others = λ u apart. ap numbers_of (changed_other taken_back k.live.members n.live.members t e.members u apart);
        effects = λ u apart. effects_beside u t k.live.standing n.live.standing others_same apart;
        states = λ u. states_kept taken_back k.live.members n.live.members t taken_state e.members u;
        ends = λ ends had. subst (λ (o : Option TxnState). HasEnds o (ends ++ (r.op, reply) ∷ []) (its_effects t n.live.standing)) (sym aborting) tt;
      }) back (backwards_open (member_of k.live.members t) (ap is_undoing aborting)) takes replies restartable

  pub returned : (k n : Core D) (base : Base) (r : OpScope) (reply : Reply) → IsConsistent g origin base k → IsConsistent g origin (base_after base r.op) n → SameArea k n
      → AppendsEnd origin (pages k.operations.store.pool) (appended k.operations.store.log) (appended n.operations.store.log) r reply → NotesBack k n r reply → r.undoes ≢ 0
      → is_working (member_of k.live.members r.txn) ≡ true → TakesBack k.live.members k.live.standing r → reply_of base r.op ≡ reply → IsRestartable origin k → IsRestartable origin n
  returned k n base r reply safe_k safe_n same a e back working takes replies restartable =
      let t = r.txn in
      let b : Entry = record { txn = r.txn; op = r.op; reply = reply; role = Back } in
      let c = cut_of t k.live.standing takes.entry r.op takes.last takes.inverse in
      let m = at_work_of (member_of k.live.members t) working in
      let logged : is_some (logged_of r.op (reply_of base r.op)) ≡ true = inverse_logged takes.entry r.op base takes.inverse (acted_last origin.first (state_of k base) t takes.entry r.op safe_k.fit.kept takes.last takes.inverse) in
      let did_it : did_call (r.op, reply) ≡ true = logged_did r.op reply ∙ ap (λ (y : Reply). is_some (logged_of r.op y)) (sym replies) ∙ logged in
      let now : num n.live.members t ≡ numbers_of (option_map (λ x. with_back x r.number (r.op, reply)) (member_of k.live.members t)) = ap numbers_of (e.members t ∙ put_same (member_of k.live.members) t (option_map (λ x. with_back x r.number (r.op, reply)) (member_of k.live.members t))) in
      inverted k n base r reply safe_k safe_n same a (record {
        same = e.same;
        count = e.count;
        stands = ap (filter did) e.standing ∙ did_mark t k.live.standing takes.entry b r.op c refl;
        numbers = now ∙ ap (λ (o : Option Member). numbers_of (option_map (λ x. with_back x r.number (r.op, reply)) o)) m.is ∙ back_numbers m.member r.number (r.op, reply) (safe_k.outcome t m.member m.is).many
            ∙ sym (ap (λ (o : Option Member). numbers_of (option_map taken_back o)) m.is);
        others = λ u apart. ap numbers_of (changed_other (λ x. with_back x r.number (r.op, reply)) k.live.members n.live.members t e.members u apart);
        effects = λ u apart. ap (its_effects u) e.standing ∙ effects_back_other u t k.live.standing b refl apart;
        states = λ u. states_kept (λ x. with_back x r.number (r.op, reply)) k.live.members n.live.members t (λ x. back_state x r.number (r.op, reply)) e.members u;
        ends = λ ends had. more_ends (member_of k.live.members t) working ends (its_effects t k.live.standing) (its_effects t n.live.standing) (r.op, reply) (ap (its_effects t) e.standing ∙ effects_back t k.live.standing b refl did_it) had;
      }) back working takes replies restartable

  -- an inverse, in a transaction of either kind
  pub inverse_restarts : (k m n : Core D) (base : Base) (r : OpScope) (reply : Reply) (state : Option TxnState) → state_in k.live.members r.txn ≡ state → IsConsistent g origin base k → IsConsistent g origin (base_after base r.op) n → SameArea k n
      → AppendsEnd origin (pages k.operations.store.pool) (appended k.operations.store.log) (appended n.operations.store.log) r reply → m.book ≡ k.book → m.commits ≡ k.commits → m.live ≡ k.live → NotesInverse m n r reply state → r.undoes ≢ 0
      → is_undoing (state_in k.live.members r.txn) ≡ true → is_working (member_of k.live.members r.txn) ≡ true → TakesBack k.live.members k.live.standing r → reply_of base r.op ≡ reply → IsRestartable origin k → IsRestartable origin n
  inverse_restarts k m n base r reply (Some (Returning first)) at safe_k safe_n same a book commits live e back backwards working takes replies restartable =
      returned k n base r reply safe_k safe_n same a (back_then k m n r reply book commits live e) back working takes replies restartable
  inverse_restarts k m n base r reply (Some Aborting) at safe_k safe_n same a book commits live e back backwards working takes replies restartable =
      undone k n base r reply safe_k safe_n same a (undone_then k m n r book commits live e) back at takes replies restartable
  inverse_restarts k m n base r reply None at safe_k safe_n same a book commits live e back backwards working takes replies restartable = let not : is_undoing (state_in k.live.members r.txn) ≡ false = ap is_undoing at in absurd cc
  inverse_restarts k m n base r reply (Some Open) at safe_k safe_n same a book commits live e back backwards working takes replies restartable = let not : is_undoing (state_in k.live.members r.txn) ≡ false = ap is_undoing at in absurd cc
  inverse_restarts k m n base r reply (Some Committing) at safe_k safe_n same a book commits live e back backwards working takes replies restartable = let not : is_undoing (state_in k.live.members r.txn) ≡ false = ap is_undoing at in absurd cc

  -- ---- a transaction's end

  ends_leads : (rs new : List Record) (entry : Record) (total : ℕ) → pages_held origin.pages (rs ++ entry ∷ []) ≡ pages_held origin.pages rs → calls_in (entry ∷ []) ≡ [] → new ≡ rs ++ entry ∷ []
      → LeadsOn origin.relations origin.counters total origin.pages rs → LeadsOn origin.relations origin.counters total origin.pages new
  ends_leads rs new entry total held none is k = subst (LeadsOn origin.relations origin.counters total origin.pages) (sym is) (leads_quietly origin.relations origin.counters total origin.pages rs (entry ∷ []) held none k)

  ends_calls : (rs : List Record) (entry : Record) → calls_in (entry ∷ []) ≡ [] → calls_in (rs ++ entry ∷ []) ≡ calls_in rs
  ends_calls rs entry none = calls_append rs (entry ∷ []) ∙ ap (λ (cs : List Call). calls_in rs ++ cs) none ∙ append-nil (calls_in rs)

  pub committed : (k n : Core D) (base later : Base) (it : Commit) → IsConsistent g origin base k → IsConsistent g origin later n → SameArea k n
      → appended n.operations.store.log ≡ appended k.operations.store.log ++ CommitOf it.txn ∷ [] → IsChanged k.live.members n.live.members it.txn (λ m. with_state m Committing) → length n.live.members ≡ length k.live.members
      → n.live.standing ≡ k.live.standing → n.book.items ≡ k.book.items → n.commits.items ≡ k.commits.items ++ it ∷ [] → state_in k.live.members it.txn ≡ Some Open
      → durable n.operations.store.log ≡ durable k.operations.store.log → length (durable k.operations.store.log) < it.place → IsRestartable origin k → IsRestartable origin n
  committed k n base later it safe_k safe_n same records members count standing book commits opened lasting behind r =
      let old = appended k.operations.store.log in
      let t = it.txn in
      let working = open_works (member_of k.live.members t) opened in
      let was = now_of k old base safe_k r.records in
      let m = at_work_of (member_of k.live.members t) working in
      let bases : base ≡ later = sym (base_is k base safe_k) ∙ (λ i. runs (after origin.first (sym book i)) (sym standing i)) ∙ base_is n later safe_n in
      let mine : num n.live.members t ≡ [] = ap numbers_of (members t ∙ put_same (member_of k.live.members) t (option_map (λ x. with_state x Committing) (member_of k.live.members t)) ∙ ap (option_map (λ x. with_state x Committing)) m.is) in
      let mine_now : state_in n.live.members t ≡ Some Committing = ap (option_map (λ (x : Member). x.state)) (members t ∙ put_same (member_of k.live.members) t (option_map (λ x. with_state x Committing) (member_of k.live.members t)) ∙ ap (option_map (λ x. with_state x Committing)) m.is) in
      let books = books_commit (map effects_of was.since) (txns_of k.commits.items) (state_in k.live.members) (state_in n.live.members) k.live.standing (recorded_in old) was.ends t (others_of t (recorded_in old).live)
      (apart_from k.live.members k.commits.items t safe_k.fit.queued.each working) opened mine_now (λ u apart. ap (option_map (λ (x : Member). x.state)) (changed_other (λ x. with_state x Committing) k.live.members n.live.members t members u apart)) in
      let tally = tally_commit (txns_of k.commits.items) (num k.live.members) (num n.live.members) (filter did k.live.standing) (recorded_in old).live was.tally t mine
      (λ u apart. ap numbers_of (changed_other (λ x. with_state x Committing) k.live.members n.live.members t members u apart)) in
      let names : txns_of k.commits.items ++ t ∷ [] ≡ txns_of n.commits.items = sym (map-append (λ (x : Commit). x.txn) k.commits.items (it ∷ [])) ∙ sym (ap txns_of commits) in
      let now_reported : record { live = others_of t (recorded_in old).live; ends = others_of t (recorded_in old).ends; books = (recorded_in old).books ++ its t (recorded_in old).ends ∷ [] } ≡ recorded_in (old ++ CommitOf t ∷ []) = sym (plus_more nothing old (CommitOf t ∷ [])) in
      let here = subst (λ (X : Type 0). X) (λ i. Tallies (names i) (num n.live.members) (filter did (sym standing i)) (now_reported i).live) tally in
      let ends = subst (λ (X : Type 0). X) (λ i. Books (map effects_of was.since) (names i) (state_in n.live.members) (sym standing i) (now_reported i)) books in
      let now : Now n (old ++ CommitOf t ∷ []) later = record { since = was.since; book = book ∙ was.book; tally = here; ends = ends; leads = ap (run origin.begun) (ends_calls old (CommitOf t) refl) ∙ was.leads ∙ bases } in
      grows k n later (CommitOf t) safe_n same (subst (λ (x : ℕ). x ≤ 64) (sym count) r.few) records (ends_leads old (appended n.operations.store.log) (CommitOf t) (pages k.operations.store.pool) (ap held (logged_more origin.pages old (CommitOf t ∷ []))) refl records)
      (subst (λ (rs : List Record). Now n rs later) (sym records) now) (begins_reported g origin k n it lasting book commits behind r.booked) r

  pub aborted : (k n : Core D) (base later : Base) (t : ℕ) → IsConsistent g origin base k → IsConsistent g origin later n → SameArea k n
      → appended n.operations.store.log ≡ appended k.operations.store.log ++ AbortEnd t ∷ [] → ((u : ℕ) → member_of n.live.members u ≡ put (member_of k.live.members) t None u) → length n.live.members + 1 ≡ length k.live.members
      → n.live.standing ≡ kept (others t) k.live.standing → SameBook k n → is_working (member_of k.live.members t) ≡ true → last_effect t k.live.standing ≡ None → IsRestartable origin k → IsRestartable origin n
  aborted k n base later t safe_k safe_n same records members count standing book working idle r =
      let old = appended k.operations.store.log in
      let was = now_of k old base safe_k r.records in
      let states = states_put k.live.members n.live.members t None members in
      let books = books_abort (map effects_of was.since) (txns_of k.commits.items) (state_in k.live.members) (state_in n.live.members) k.live.standing (recorded_in old) was.ends t (others_of t (recorded_in old).live)
      (apart_from k.live.members k.commits.items t safe_k.fit.queued.each working) (states t ∙ put_same (state_in k.live.members) t None) (λ u apart. states u ∙ put_other (state_in k.live.members) t None u apart) in
      let tally = tally_abort (txns_of k.commits.items) (num k.live.members) (num n.live.members) (filter did k.live.standing) (recorded_in old).live was.tally t (apart_from k.live.members k.commits.items t safe_k.fit.queued.each working)
      (put_num k.live.members n.live.members t None members) (other_num k.live.members n.live.members t None members) in
      let stands : kept (others t) (filter did k.live.standing) ≡ filter did n.live.standing = sym (ap (filter did) standing ∙ filter-swap did (λ (x : Entry). others t x.txn) k.live.standing) in
      let now_reported : record { live = others_of t (recorded_in old).live; ends = others_of t (recorded_in old).ends; books = (recorded_in old).books } ≡ recorded_in (old ++ AbortEnd t ∷ []) = sym (plus_more nothing old (AbortEnd t ∷ [])) in
      let here = subst (λ (X : Type 0). X) (λ i. Tallies (txns_of (sym book.commits i)) (num n.live.members) (stands i) (now_reported i).live) tally in
      let ends = subst (λ (X : Type 0). X) (λ i. Books (map effects_of was.since) (txns_of (sym book.commits i)) (state_in n.live.members) (sym standing i) (now_reported i)) books in
      let effects : (z : Core D) (b : Base) → IsConsistent g origin b z → run (after origin.first z.book.items) (calls (filter did z.live.standing)) ≡ b = λ z b safe.
      effects_run (state_of z b).held safe.fit.kept.locks (after origin.first z.book.items) z.live.standing safe.fit.kept.sound ∙ base_is z b safe in
      let still : filter did n.live.standing ≡ filter did k.live.standing = ap (filter did) standing ∙ idle_did t k.live.standing (idle_all t k.live.standing idle) in
      let bases : base ≡ later = sym (effects k base safe_k) ∙ (λ i. run (after origin.first (sym book.book i)) (calls (sym still i))) ∙ effects n later safe_n in
      let now : Now n (old ++ AbortEnd t ∷ []) later = record { since = was.since; book = book.book ∙ was.book; tally = here; ends = ends; leads = ap (run origin.begun) (ends_calls old (AbortEnd t) refl) ∙ was.leads ∙ bases } in
      let few = r.few in
      grows k n later (AbortEnd t) safe_n same (omega (arith, few, count)) records (ends_leads old (appended n.operations.store.log) (AbortEnd t) (pages k.operations.store.pool) (ap held (logged_more origin.pages old (AbortEnd t ∷ []))) refl records)
      (subst (λ (rs : List Record). Now n rs later) (sym records) now) (stays_reported g origin k n later safe_n same.lasts book r.booked) r

  -- ---- a commit is booked

  closed_num : (o : Option Member) → option_map (λ (x : Member). x.state) o ≡ Some Committing → numbers_of o ≡ []
  closed_num None is = refl
  closed_num (Some x) is = let state : x.state ≡ Committing = cc in ap (λ (y : TxnState). cond (is_at_work y) (numbers_did x.calls x.operations) []) state

  pub leaves : (k n : Core D) (base later : Base) (c : Commit) (cs : List Commit) (done : Committed) → IsConsistent g origin base k → IsConsistent g origin later n → n.operations.store ≡ k.operations.store
      → k.commits.items ≡ c ∷ cs → n.commits.items ≡ cs → n.book.items ≡ k.book.items ++ done ∷ [] → done.calls ≡ calls (kept (only c.txn) k.live.standing)
      → ((u : ℕ) → member_of n.live.members u ≡ put (member_of k.live.members) c.txn None u) → length n.live.members + 1 ≡ length k.live.members → n.live.standing ≡ kept (others c.txn) k.live.standing → c.place ≤ length (durable k.operations.store.log) → IsRestartable origin k → IsRestartable origin n
  leaves k n base later c cs done safe_k safe_n store queue rest book its_calls members count standing there r =
      let old = appended k.operations.store.log in
      let t = c.txn in
      let was = now_of k old base safe_k r.records in
      let committing : state_in k.live.members t ≡ Some Committing = All-head (λ (x : Commit). state_in k.live.members x.txn ≡ Some Committing) c cs (subst (All (λ (x : Commit). state_in k.live.members x.txn ≡ Some Committing)) queue safe_k.fit.queued.each) in
      let first = subst (λ (xs : List Commit). Tallies (txns_of xs) (num k.live.members) (filter did k.live.standing) (recorded_in old).live) queue was.tally in
      let tally = tally_booked t (txns_of cs) (num k.live.members) (num n.live.members) (filter did k.live.standing) (recorded_in old).live first
      (kept_num k.live.members n.live.members t None members (sym (closed_num (member_of k.live.members t) committing))) in
      let states = states_put k.live.members n.live.members t None members in
      let first_books = subst (λ (xs : List Commit). Books (map effects_of was.since) (txns_of xs) (state_in k.live.members) k.live.standing (recorded_in old)) queue was.ends in
      let booked_now = books_booked (map effects_of was.since) t (txns_of cs) (state_in k.live.members) (state_in n.live.members) k.live.standing (recorded_in old) first_books committing (states t ∙ put_same (state_in k.live.members) t None) (λ u apart. states u ∙ put_other (state_in k.live.members) t None u apart) in
      let books : map effects_of was.since ++ its_effects t k.live.standing ∷ [] ≡ map effects_of (was.since ++ done ∷ []) = sym (map-append effects_of was.since (done ∷ []) ∙ ap (λ (cs : List Call). map effects_of was.since ++ cs ∷ []) (ap (filter did_call) its_calls)) in
      let stands : kept (others t) (filter did k.live.standing) ≡ filter did n.live.standing = sym (ap (filter did) standing ∙ filter-swap did (λ (x : Entry). others t x.txn) k.live.standing) in
      let m = after origin.first k.book.items in
      let moved = commits (held_of k.locks) safe_k.fit.kept.locks m k.live.standing safe_k.fit.kept.sound (only t) in
      let booked : after origin.first n.book.items ≡ runs m (kept (only t) k.live.standing) = ap (after origin.first) book ∙ after-append origin.first k.book.items (done ∷ []) ∙ ap (run m) its_calls in
      let bases : base ≡ later = sym (base_is k base safe_k) ∙ sym moved.same ∙ (λ i. runs (sym booked i) (sym standing i)) ∙ base_is n later safe_n in
      let whole : n.book.items ≡ origin.earlier ++ (was.since ++ done ∷ []) = book ∙ ap (λ (xs : List Committed). xs ++ done ∷ []) was.book ∙ append_assoc origin.earlier was.since (done ∷ []) in
      let here : Now n old later = record { since = was.since ++ done ∷ []; book = whole; tally = subst (λ (X : Type 0). X) (λ i. Tallies (txns_of (sym rest i)) (num n.live.members) (stands i) (recorded_in old).live) tally; ends = subst (λ (X : Type 0). X) (λ i. Books (books i) (txns_of (sym rest i)) (state_in n.live.members) (sym standing i) (recorded_in old)) booked_now; leads = was.leads ∙ bases } in
      let q = quiet_store k n store in
      let few = r.few in
      stays k n later safe_n q (omega (arith, few, count)) (appended_now n old (appended n.operations.store.log) later q.appends here) (leaves_reported g origin k n c cs done store queue rest book there r.booked) r

  -- ---- the log's area begins

  pub starts : (k : Core D) → IsConsistent g origin origin.begun k → IsBase origin.begun → origin.begun ≡ after origin.first origin.earlier → k.book.items ≡ origin.earlier → k.commits.items ≡ [] → k.live.members ≡ [] → k.live.standing ≡ []
      → AreImages (appended k.operations.store.log) → IsRestartable origin k
  starts k safe bounds begun book commits members standing images =
      let records = appended k.operations.store.log in
      let total = pages k.operations.store.pool in
      let quiet = images_quiet origin.pages records safe.fit.right.kept.sound.each.0 images in
      let tally : Tallies [] (num []) [] [] = record { live = refl; its = λ t. refl } in
      let books : Books [] [] (state_in []) [] nothing = record { books = refl; ends = λ t. refl } in
      let began : Now k [] origin.begun = record {
        since = [];
        book = book ∙ sym (append-nil origin.earlier);
        tally = subst (λ (X : Type 0). X) (λ i. Tallies (txns_of (sym commits i)) (num (sym members i)) (filter did (sym standing i)) []) tally;
        ends = subst (λ (X : Type 0). X) (λ i. Books [] (txns_of (sym commits i)) (state_in (sym members i)) (sym standing i) nothing) books;
        leads = refl;
      } in
      let now : Now k records origin.begun = quiet_now k [] records origin.begun (begin_all (IsQuiet origin.pages []) records quiet) began in
      let leads : LeadsOn origin.relations origin.counters total origin.pages [] = record {
        good = subst (IsGood origin.relations origin.counters total) (images_held origin.pages records images) safe.fit.right.sound.good;
        base = λ b holds. holds;
        acted = λ b holds. tt;
      } in
      let recovered : 4194304 ≤ area_size k.operations.store.log → Recovers origin k [] = λ area. record {
        leads = leads;
        serial = record { same = refl; acted = tt; bounds = bounds };
        within = tt;
        free = omega arith;
        images = omega (arith, area);
      } in
      record {
        beginnings = λ area front back is. quiet_recovers origin.pages [] front (quiet front back is) origin.relations origin.counters total (area_size k.operations.store.log) origin.begun (recovered area);
        begun = begun;
        records = are_records_of k records origin.begun safe now;
        booked = starts_reported g origin k book commits;
        few = let nobody : length k.live.members ≡ 0 = ap (λ (ms : List Member). length ms) members in omega (arith, nobody);
      }
