-- A restart over the records of consistent parts finds the base that they stand for.
use Rattle.std.proofs.Common.{◌≡◌, ℕ, ◌≤◌, ◌+◌, ◌*◌, ◌==◌, Bool, true, false, not, cond, List, [], ◌∷◌, ◌++◌, Option, Some, None, length, get_or, map, filter, take, refl, sym, ap, ◌∙◌, subst, arith, append_assoc}
use Rattle.std.specs.Prelude.{All, is_some}
use Rattle.std.specs.List.{AllByRecursion, sum_by}
use Rattle.std.specs.Option.{option_map}
use Rattle.std.proofs.Math.Seq.{take-append-add}
use Rattle.std.proofs.lemmas.List.Elements.{All-head, All-tail, All-filter}
use Rattle.std.proofs.lemmas.List.Filters.{sum_by-filter_both}
use Rattle.std.proofs.lemmas.List.Sums.{sum_by-cons}
use Rattle.mt_disk.specs.declared.device.Device.{Ghosts}
use Rattle.mt_frame.specs.declared.records.LoggedOp.{LoggedOp}
use Rattle.mt_frame.specs.declared.records.LoggedOp.TheVariants as logged
use Rattle.mt_frame.specs.declared.records.Record.{Record}
use Rattle.mt_live.proofs.Events.{within_after}
use Rattle.mt_live.proofs.Schedule.{moved_in_turn}
use Rattle.mt_live.proofs.Standing.{effects_sound, effects_run}
use Rattle.mt_live.specs.Entries.{Entry, calls, runs, kept}
use Rattle.mt_live.specs.Laws.{in_turn, without_all}
use Rattle.mt_live.specs.Lives.{member_of}
use Rattle.mt_live.specs.Members.{Member}
use Rattle.mt_live.specs.Sound.{IsSound}
use Rattle.mt_live.specs.Undoing.{others}
use Rattle.mt_live.specs.declared.transactions.TxnState.TheVariants.{Committing}
use Rattle.mt_log.specs.Words.{appended, area_size}
use Rattle.mt_model.proofs.Appends.{after-append, legal_append, legal_back}
use Rattle.mt_model.proofs.Undo.{base_effectless}
use Rattle.mt_model.specs.History.{Call, run, IsActed, after, IsLegal}
use Rattle.mt_model.specs.Model.{Base, IsBase, IsWithin, reply_of, base_after, inverse_of}
use Rattle.mt_model.specs.declared.history.Committed.{Committed}
use Rattle.mt_pool.specs.Views.{pages}
use Rattle.mt_replay.specs.Recoverable.{IsSerial, IsOf, LeadsOn, all_pages, inverse_pages, pages_held}
use Rattle.mt_replay.specs.Recorded.{Finished, op_of, calls_of, losers, run_all, stands_for, recorded_in}
use Rattle.mt_space.specs.Rooms.{free_in, free_of}
use Rattle.mt_steps.specs.Plans.{free_pages}
use Rattle.mt_core.proofs.Calling.{open_some}
use Rattle.mt_core.proofs.Counted.{at_most}
use Rattle.mt_core.proofs.Did.{calls_entries}
use Rattle.mt_core.specs.Booked.{txns_of}
use Rattle.mt_core.specs.Consistent.{Origin, state_of, session_in, IsConsistent, IsWithinSchema}
use Rattle.mt_core.specs.Restartable.{did, did_call, effects_of, entry_of, AreRecordsOf, Recovers}
use Rattle.mt_core.specs.Runs.{entry_pages, entry_bytes, taken_bytes}
use Rattle.mt_core.specs.declared.parts.Commit.{Commit}
use Rattle.mt_core.specs.declared.parts.Core.{Core}
use Rattle.mt_op.specs.declared.scope.OpScope.{OpScope}

-- ---- calls that did nothing leave the base

abbrev pub Same : Base → List Call → List Call → Type 0
Same b cs ds = IsActed b ds × (run b ds ≡ run b cs)

none_of : {A : Type 0} (o : Option A) → is_some o ≡ false → o ≡ None
none_of None is = refl
none_of (Some x) is = absurd cc

pub effects_acted : (b : Base) (cs : List Call) → IsActed b cs → Same b cs (filter did_call cs)
effects_acted b [] acted = (tt, refl)
effects_acted b (c ∷ cs) acted = go (did_call c) refl (effects_acted (base_after b c.0) cs acted.1)
  where
    go : (h : Bool) → did_call c ≡ h → Same (base_after b c.0) cs (filter did_call cs) → Same b (c ∷ cs) (cond h (c ∷ filter did_call cs) (filter did_call cs))
    go true is rest = ((acted.0, rest.0), rest.1)
    go false is rest =
        let none : inverse_of c.0 (reply_of b c.0) ≡ None = rw acted.0 (none_of (inverse_of c.0 c.1) is) in
        let stays : base_after b c.0 ≡ b = base_effectless b c.0 none in
        subst (λ (x : Base). IsActed x (filter did_call cs) × (run x (filter did_call cs) ≡ run (base_after b c.0) cs)) stays rest

pub books_run : (b : Base) (books : List (List Finished)) (cs : List Committed) → map calls_of books ≡ map effects_of cs → IsLegal b cs → run_all b books ≡ after b cs
books_run b [] [] same legal = refl
books_run b [] (c ∷ cs) same legal = absurd cc
books_run b (fs ∷ books) [] same legal = absurd cc
books_run b (fs ∷ books) (c ∷ cs) same legal =
    let head : calls_of fs ≡ effects_of c = heads (calls_of fs) (effects_of c) (map calls_of books) (map effects_of cs) same in
    let tail : map calls_of books ≡ map effects_of cs = tails (calls_of fs) (effects_of c) (map calls_of books) (map effects_of cs) same in
    let now : run b (calls_of fs) ≡ run b c.calls = ap (run b) head ∙ (effects_acted b c.calls legal.0).1 in
    ap (λ (x : Base). run_all x books) now ∙ books_run (run b c.calls) books cs tail legal.1
  where
    heads : (x y : List Call) (xs ys : List (List Call)) → x ∷ xs ≡ y ∷ ys → x ≡ y
    heads x y xs ys is = cc

    tails : (x y : List Call) (xs ys : List (List Call)) → x ∷ xs ≡ y ∷ ys → xs ≡ ys
    tails x y xs ys is = cc

-- ---- what is logged, and its entry

is_of : (relations counters : ℕ) (d : LoggedOp) → IsWithin relations counters (op_of d) → IsOf relations counters d
is_of relations counters (logged.Insert r k v) within = within.0
is_of relations counters (logged.Update r k v old) within = within.0
is_of relations counters (logged.Delete r k old) within = within.0
is_of relations counters (logged.Add c s) within = within.0

takes_pages : (t n : ℕ) (d : LoggedOp) → entry_pages (entry_of (record { txn = t; op = n; done = d })) ≡ inverse_pages d
takes_pages t n (logged.Insert r k v) = refl
takes_pages t n (logged.Update r k v old) = refl
takes_pages t n (logged.Delete r k old) = refl
takes_pages t n (logged.Add c s) = refl

takes_bytes : (t n : ℕ) (d : LoggedOp) → entry_bytes (entry_of (record { txn = t; op = n; done = d })) ≡ 106496
takes_bytes t n (logged.Insert r k v) = refl
takes_bytes t n (logged.Update r k v old) = refl
takes_bytes t n (logged.Delete r k old) = refl
takes_bytes t n (logged.Add c s) = refl

pages_taken : (fs : List Finished) → all_pages fs ≡ sum_by entry_pages (map entry_of fs)
pages_taken [] = refl
pages_taken (f ∷ fs) = let rest = pages_taken fs in let one = takes_pages f.txn f.op f.done in let all = sum_by-cons entry_pages (entry_of f) (map entry_of fs) in omega (arith, rest, one, all)

bytes_taken : (fs : List Finished) → sum_by entry_bytes (map entry_of fs) ≡ 106496 * length fs
bytes_taken [] = refl
bytes_taken (f ∷ fs) = let rest = bytes_taken fs in let one = takes_bytes f.txn f.op f.done in let all = sum_by-cons entry_bytes (entry_of f) (map entry_of fs) in omega (arith, rest, one, all)

-- ---- entries of which some go

sum_filter : (w : Entry → ℕ) (p : Entry → Bool) (es : List Entry) → sum_by w (filter p es) ≤ sum_by w es
sum_filter w p es = let both = sum_by-filter_both p (λ e. not (p e)) (λ e. refl) w es in omega (arith, both)

sum_without : (w : Entry → ℕ) (ts : List ℕ) (es : List Entry) → sum_by w (without_all ts es) ≤ sum_by w es
sum_without w [] es = omega arith
sum_without w (t ∷ ts) es = let rest = sum_without w ts (kept (others t) es) in let one = sum_filter w (λ (e : Entry). others t e.txn) es in omega (arith, rest, one)

all_without : (P : Entry → Type 0) (ts : List ℕ) (es : List Entry) → All P es → All P (without_all ts es)
all_without P [] es all = all
all_without P (t ∷ ts) es all = all_without P ts (kept (others t) es) (All-filter (λ (e : Entry). others t e.txn) P es all)

all_live : (P : Entry → Type 0) (Q : Finished → Type 0) (fs : List Finished) → ((f : Finished) → P (entry_of f) → Q f) → All P (map entry_of fs) → AllByRecursion Q fs
all_live P Q [] so all = tt
all_live P Q (f ∷ fs) so all = (so f (All-head P (entry_of f) (map entry_of fs) all), all_live P Q fs so (All-tail P (entry_of f) (map entry_of fs) all))

taken_most : (rs : List OpScope) → sum_by taken_bytes rs ≤ 106496 * length rs
taken_most [] = omega arith
taken_most (r ∷ rs) = let rest = taken_most rs in let one = go (r.undoes == 0) in let all = sum_by-cons taken_bytes r rs in omega (arith, rest, one, all)
  where
    go : (c : Bool) → cond c 0 106496 ≤ 106496
    go true = omega arith
    go false = omega arith

state_some : (o : Option Member) → option_map (λ (m : Member). m.state) o ≡ Some Committing → is_some o ≡ true
state_some None is = absurd cc
state_some (Some m) is = refl

-- ---- consistent parts

module _ {D : Type 0} (g : Ghosts D) (origin : Origin) (base : Base) (n : Core D) (safe : IsConsistent g origin base n) where
  abbrev pub records : List Record
  records = appended n.operations.store.log

  abbrev pub ts : List ℕ
  ts = txns_of n.commits.items

  abbrev pub es : List Entry
  es = n.live.standing

  abbrev pub booked_base : Base
  booked_base = after origin.first n.book.items

  abbrev pub turned : List Committed
  turned = in_turn (session_in n.live.members) ts es

  -- those of transactions that live, each of another one
  few_run : length n.running.items ≤ length n.live.members
  few_run = at_most (λ (r : OpScope). r.txn) n.live.members n.running.items
      (λ i d lt. open_some (member_of n.live.members (get_or n.running.items i d).txn) (safe.fit.owned i d lt).at_work)
      (λ i j d less lt is. (safe.fit.apart i j d less lt).txn (sym is))

  few_commits : length n.commits.items ≤ length n.live.members
  few_commits = at_most (λ (c : Commit). c.txn) n.live.members n.commits.items
      (λ i d lt. state_some (member_of n.live.members (get_or n.commits.items i d).txn) (safe.fit.queued.each i d lt)) safe.fit.queued.apart

  moved : IsLegal booked_base turned × IsSound (state_of n base).held (after booked_base turned) (without_all ts es) × (runs (after booked_base turned) (without_all ts es) ≡ runs booked_base es)
  moved = moved_in_turn (state_of n base).held booked_base es (session_in n.live.members) ts safe.fit.kept.locks safe.fit.kept.sound

  -- the book is legal with the commits under way behind it
  pub whole_legal : IsLegal origin.first (n.book.items ++ turned)
  whole_legal = legal_append origin.first n.book.items turned safe.fit.kept.legal moved.0

  module _ (begun : origin.begun ≡ after origin.first origin.earlier) (are_records_of : AreRecordsOf origin n records) where
    -- since the area began
    abbrev pub commits_since : List Committed
    commits_since = are_records_of.since ++ turned

    whole_is : n.book.items ++ turned ≡ origin.earlier ++ commits_since
    whole_is = ap (λ (cs : List Committed). cs ++ turned) are_records_of.book ∙ append_assoc origin.earlier are_records_of.since turned

    -- what is in the book since the area began is legal on what it began on, with the commits under way behind it
    pub since_legal : IsLegal origin.begun commits_since
    since_legal = subst (λ (b : Base). IsLegal b commits_since) (sym begun) (legal_back origin.first origin.earlier commits_since (subst (IsLegal origin.first) whole_is whole_legal))

    -- and the first of it lead to what they lead to behind the commits from before
    pub after_earlier : (count : ℕ) → after origin.begun (take count commits_since) ≡ after origin.first (take (length origin.earlier + count) (n.book.items ++ turned))
    after_earlier count =
        ap (λ (b : Base). after b (take count commits_since)) begun ∙ sym (after-append origin.first origin.earlier (take count commits_since)) ∙ ap (after origin.first) (sym (take-append-add origin.earlier commits_since count))
        ∙ ap (λ (cs : List Committed). after origin.first (take (length origin.earlier + count) cs)) (sym whole_is)

    since_booked : after origin.begun are_records_of.since ≡ booked_base
    since_booked = ap (λ (b : Base). after b are_records_of.since) begun ∙ sym (after-append origin.first origin.earlier are_records_of.since) ∙ ap (after origin.first) (sym are_records_of.book)

    serial : IsSerial origin.begun records
    serial =
        let led : stands_for origin.begun records ≡ after booked_base turned = books_run origin.begun (recorded_in records).books commits_since are_records_of.recorded.books since_legal ∙ after-append origin.begun are_records_of.since turned ∙ ap (λ (b : Base). after b turned) since_booked in
        let whole = without_all ts es in
        let m = after booked_base turned in
        let still = effects_sound (state_of n base).held safe.fit.kept.locks m whole moved.1 in
        let led_on = effects_run (state_of n base).held safe.fit.kept.locks m whole moved.1 in
        let done : calls (filter did whole) ≡ calls_of (losers records) = ap calls (sym are_records_of.recorded.live) ∙ calls_entries (losers records) in
        record {
          same = are_records_of.calls ∙ sym moved.2 ∙ sym led_on ∙ (λ i. run (sym led i) (done i));
          acted = subst (λ (X : Type 0). X) (λ i. IsActed (sym led i) (done i)) still.acted;
          bounds = subst IsBase (sym led) (within_after (state_of n base).held (after booked_base turned) [] whole moved.1);
        }

    weighs : (w : Entry → ℕ) → sum_by w (map entry_of (losers records)) ≤ sum_by w es
    weighs w =
        let same : sum_by w (map entry_of (losers records)) ≡ sum_by w (filter did (without_all ts es)) = ap (sum_by w) are_records_of.recorded.live in
        let one = sum_filter w did (without_all ts es) in let rest = sum_without w ts es in omega (arith, same, one, rest)

    pub recovers : 4194304 ≤ area_size n.operations.store.log → length n.live.members ≤ 64 → LeadsOn origin.relations origin.counters (pages n.operations.store.pool) origin.pages records → Recovers origin n records
    recovers area few leads = record {
      leads = leads;
      serial = serial;
      within = all_live (IsWithinSchema origin) (λ (f : Finished). IsOf origin.relations origin.counters f.done) (losers records) (λ f w. is_of origin.relations origin.counters f.done w.op)
          (subst (All (IsWithinSchema origin)) (sym are_records_of.recorded.live) (All-filter did (IsWithinSchema origin) (without_all ts es) (all_without (IsWithinSchema origin) ts es safe.fit.small)));
      free =
          let total = pages n.operations.store.pool in
          let right = safe.fit.right in
          let same : free_of n.operations.map.space ≡ free_pages total (pages_held origin.pages records) = ap free_in right.space in
          let claims = right.claims in let now = safe.claims in
          let mine = pages_taken (losers records) in let most = weighs entry_pages in
          omega (arith, same, claims, now, mine, most);
      images =
          let mine = bytes_taken (losers records) in let most = weighs entry_bytes in
          let reserves = safe.fit.reserves in let log = safe.fit.log in
          let taken = taken_most n.running.items in let run_few = few_run in let commit_few = few_commits in
          omega (arith, mine, most, reserves, log, taken, run_few, commit_few, area, few);
    }
