-- What is left once a transaction has gone: where its commit is durable, or its abort has ended.
use Rattle.std.proofs.Common.{◌≡◌, ◌≢◌, ℕ, suc, ◌<◌, ◌+◌, ◌==◌, cond, Bool, true, false, List, [], ◌∷◌, ◌++◌, length, get_or, Option, Some, None, refl, sym, ap, ◌∙◌, subst, arith}
use Rattle.std.specs.Prelude.{All, is_some}
use Rattle.std.specs.List.{sum_by}
use Rattle.std.specs.Option.{option_map}
use Rattle.std.proofs.lemmas.Bool.{eq-eqb}
use Rattle.mt_disk.specs.declared.device.Device.{Ghosts}
use Rattle.mt_live.proofs.Keeping.{kept_booked, kept_gone, committed_count}
use Rattle.mt_live.specs.Entries.{Entry, calls, kept}
use Rattle.mt_live.specs.Lives.{member_of}
use Rattle.mt_live.specs.Machine.{State, committed_base, put, IsKept, gone, booked}
use Rattle.mt_live.specs.Members.{Member}
use Rattle.mt_live.specs.declared.transactions.TxnState.TheVariants.{Committing}
use Rattle.mt_op.proofs.Driving.{world_same}
use Rattle.mt_op.specs.Operations.{world, IsRight, claimed}
use Rattle.mt_op.specs.World.{World, IsUnderWay, held_in}
use Rattle.mt_steps.specs.Held.{Holds}
use Rattle.std.specs.Prelude.{vec_len}
use Rattle.std.specs.Vec.{vec_capacity}
use Rattle.std.proofs.lemmas.List.Elements.{All-filter, All-head}
use Rattle.mt_core.specs.declared.parts.Commit.{Commit}
use Rattle.mt_live.specs.Undoing.{only, others, last_effect}
use Rattle.mt_log.specs.Words.{appended, used, area_size}
use Rattle.mt_model.specs.declared.counters.Count.{Count}
use Rattle.mt_model.specs.declared.history.Committed.{Committed}
use Rattle.mt_model.specs.Locks.{without_holder}
use Rattle.mt_model.specs.Pending.{pending_without, moved_by}
use Rattle.mt_model.specs.Tables.{count_at}
use Rattle.mt_model.specs.Model.{Base}
use Rattle.mt_plock.specs.declared.guards.PageLock.{PageLock}
use Rattle.mt_frame.specs.declared.records.Record.{Record}
use Rattle.mt_slock.specs.Views.{held_of}
use Rattle.mt_core.specs.Runs.{running_in, AreHeldBy, is_at_work, IsOwned, entry_pages, entry_bytes, undo_bytes, is_working}
use Rattle.mt_op.specs.World.{left_of}
use Rattle.mt_steps.specs.Plans.{undo_pages}
use Rattle.mt_core.specs.Consistent.{Origin, state_of, state_in, IsNumbered, AreReported, IsQueued, IsWithinSchema, IsFit, IsConsistent, IsIn}
use Rattle.mt_core.specs.declared.parts.Core.{Core}
use Rattle.mt_core.proofs.Members.{owned_as}
use Rattle.mt_op.specs.declared.scope.OpScope.{OpScope}
use Rattle.mt_core.proofs.Underway.{runs_none}
use Rattle.mt_core.proofs.Effects.{last_kept, weighs_apart, weighs_others}
use Rattle.mt_core.proofs.Reported.{reported_put}
use Rattle.mt_core.proofs.Queued.{queued_first, queued_members}
use Rattle.mt_live.proofs.Alone.{put_other}

-- nothing runs of a transaction that is not at work
pub none_runs : (ms : List Member) (standing : List Entry) (rs : List OpScope) (t : ℕ) → is_working (member_of ms t) ≡ false → All (IsOwned ms standing) rs → All (λ (r : OpScope). r.txn ≢ t) rs
none_runs ms standing rs t closed owned i d lt = λ is. let at_work = (owned i d lt).at_work in let here : is_working (member_of ms (get_or rs i d).txn) ≡ false = ap (λ (u : ℕ). is_working (member_of ms u)) is ∙ closed in absurd cc

put_none : (f : ℕ → Option Member) (t u : ℕ) → is_working (put f t None u) ≡ true → is_working (f u) ≡ true
put_none f t u h = go (u == t) h
  where
    go : (c : Bool) → is_working (cond c None (f u)) ≡ true → is_working (f u) ≡ true
    go true k = absurd cc
    go false k = k

put_lacks : (f : ℕ → Option Member) (t u : ℕ) → is_some (f u) ≡ false → is_some (put f t None u) ≡ false
put_lacks f t u h = go (u == t)
  where
    go : (c : Bool) → is_some (cond c None (f u)) ≡ false
    go true = refl
    go false = h

put_session : (f : ℕ → Option Member) (t u : ℕ) → put (λ (v : ℕ). option_map (λ (m : Member). m.session) (f v)) t None u ≡ option_map (λ (m : Member). m.session) (put f t None u)
put_session f t u = go (u == t)
  where
    go : (c : Bool) → cond c None (option_map (λ (m : Member). m.session) (f u)) ≡ option_map (λ (m : Member). m.session) (cond c None (f u))
    go true = refl
    go false = refl

left_owned : (ms new : List Member) (standing : List Entry) (t : ℕ) (q : OpScope) → ((u : ℕ) → member_of new u ≡ put (member_of ms) t None u) → q.txn ≢ t → IsOwned ms standing q → IsOwned new (kept (others t) standing) q
left_owned ms new standing t q gone apart o =
    owned_as ms new standing (kept (others t) standing) q (gone q.txn ∙ put_other (member_of ms) t None q.txn apart) (last_kept q.txn t standing apart) o

left_numbered : (last begun : ℕ) (ms new : List Member) (t : ℕ) (locks : List PageLock) (records : List Record) → ((u : ℕ) → member_of new u ≡ put (member_of ms) t None u) → IsNumbered last begun ms locks records → IsNumbered last begun new locks records
left_numbered last begun ms new t locks records gone k = record {
  locks = k.locks;
  ops = k.ops;
  txns = λ u is. k.txns u (put_none (member_of ms) t u (sym (ap is_working (gone u)) ∙ is));
  coming = k.coming;
  few_operations = k.few_operations;
  few_transactions = k.few_transactions;
  nobody = ap is_some (gone 0) ∙ put_lacks (member_of ms) t 0 k.nobody;
}

-- it is in no state any more, and the others are in theirs
pub gone_state : (ms new : List Member) (t : ℕ) → ((u : ℕ) → member_of new u ≡ put (member_of ms) t None u) → state_in new t ≡ None
gone_state ms new t gone = let same : (t == t) ≡ true = eq-eqb t t refl in let here : put (member_of ms) t None t ≡ None = rw same refl in ap (option_map (λ (m : Member). m.state)) (gone t ∙ here)

other_state : (ms new : List Member) (t : ℕ) → ((u : ℕ) → member_of new u ≡ put (member_of ms) t None u) → (u : ℕ) → u ≢ t → state_in new u ≡ state_in ms u
other_state ms new t gone u apart = ap (option_map (λ (m : Member). m.state)) (gone u ∙ put_other (member_of ms) t None u apart)

committing_closed : (o : Option Member) → option_map (λ (m : Member). m.state) o ≡ Some Committing → is_working o ≡ false
committing_closed None is = refl
committing_closed (Some m) is = let state : m.state ≡ Committing = cc in ap is_at_work state

module _ {D : Type 0} (g : Ghosts D) (origin : Origin) (base : Base) where
  -- the first of the commits under way is durable: its transaction leaves
  pub booked_in : (k n : Core D) (c : Commit) (cs : List Commit) (done : Committed) → IsConsistent g origin base k → k.commits.items ≡ c ∷ cs → n.commits.items ≡ cs
      → n.book.items ≡ k.book.items ++ done ∷ [] → vec_len n.book ≡ vec_len k.book + 1 → vec_capacity n.book ≡ vec_capacity k.book → done.calls ≡ calls (kept (only c.txn) k.live.standing) → n.live.standing ≡ kept (others c.txn) k.live.standing
      → ((u : ℕ) → member_of n.live.members u ≡ put (member_of k.live.members) c.txn None u) → n.live.begun ≡ k.live.begun → length n.live.members + 1 ≡ length k.live.members
      → held_of n.locks ≡ without_holder (held_of k.locks) c.txn
      → length n.escrow.committed ≡ length k.escrow.committed → ((x : ℕ) → count_at n.escrow.committed x ≡ moved_by c.txn x k.escrow.pending (count_at k.escrow.committed x)) → n.escrow.pending ≡ pending_without c.txn k.escrow.pending → n.escrow.aside ≡ pending_without c.txn k.escrow.aside
      → IsRight g origin.pages origin.relations origin.counters n.operations → n.operations.store ≡ k.operations.store → n.operations.locks ≡ k.operations.locks → claimed n.operations + sum_by entry_pages (kept (only c.txn) k.live.standing) ≡ claimed k.operations
      → n.reserved + 114 + sum_by entry_bytes (kept (only c.txn) k.live.standing) ≡ k.reserved
      → IsIn g origin base (booked (state_of k base) c.txn done.session) (record k { operations = n.operations; live = n.live; book = n.book; locks = n.locks; escrow = n.escrow; commits = n.commits; reserved = n.reserved })
  booked_in k n c cs done safe queue rest book len capacity its standing members begun count locks all moved pending aside right store page_locks claims_now reserved =
      let fit = safe.fit in
      let t = c.txn in
      let z : Core D = record k { operations = n.operations; live = n.live; book = n.book; locks = n.locks; escrow = n.escrow; commits = n.commits; reserved = n.reserved } in
      let s : State = state_of k base in
      let in_queue : IsQueued k.live.members (appended k.operations.store.log) (c ∷ cs) = subst (IsQueued k.live.members (appended k.operations.store.log)) queue fit.queued in
      let closed : is_working (member_of k.live.members t) ≡ false = committing_closed (member_of k.live.members t) (All-head (λ (x : Commit). state_in k.live.members x.txn ≡ Some Committing) c cs in_queue.each) in
      let none = none_runs k.live.members k.live.standing k.running.items t closed fit.owned in
      let idle : s.running t ≡ None = runs_none k.running.items t none in
      let whole : s.book ++ record { session = done.session; calls = calls (kept (only t) s.standing) } ∷ [] ≡ n.book.items = (λ i. k.book.items ++ record { session = done.session; calls = sym its i } ∷ []) ∙ sym book in
      let state : booked s t done.session ≡ state_of z base = λ i. record {
        book = whole i;
        sessions = λ u. (put_session (member_of k.live.members) t u ∙ ap (option_map (λ (m : Member). m.session)) (sym (members u))) i;
        next = sym begun i + 1;
        standing = sym standing i;
        running = running_in k.running.items;
        held = sym locks i;
        pending = sym pending i;
        aside = sym aside i;
        base = base;
      } in
      let w_same : world g origin.pages k.operations ≡ world g origin.pages n.operations = world_same g k.operations n.operations origin.pages store page_locks in
      let apart_pages = weighs_apart undo_pages t k.live.standing in
      let apart_bytes = weighs_apart undo_bytes t k.live.standing in
      let sum_pages : sum_by entry_pages n.live.standing ≡ sum_by entry_pages (kept (others t) k.live.standing) = ap (sum_by entry_pages) standing in
      let sum_bytes : sum_by entry_bytes n.live.standing ≡ sum_by entry_bytes (kept (others t) k.live.standing) = ap (sum_by entry_bytes) standing in
      let commits : length k.commits.items ≡ suc (length cs) = ap (λ (xs : List Commit). length xs) queue in
      let commits_now : length n.commits.items ≡ length cs = ap (λ (xs : List Commit). length xs) rest in
      let claims = safe.claims in let reserves = fit.reserves in let log = fit.log in let room = fit.booked in
      let log_now : used k.operations.store.log + sum_by left_of k.running.items + n.reserved < area_size k.operations.store.log = omega arith in
      let queued : IsQueued n.live.members (appended k.operations.store.log) cs =
      queued_first k.live.members n.live.members (appended k.operations.store.log) c cs (λ is. let gone = gone_state k.live.members n.live.members t members in absurd cc) (other_state k.live.members n.live.members t members) in_queue in
      record {
        consistent = record {
          fit = record {
            schema = fit.schema;
            right = right;
            kept = subst (IsKept origin.first) state (kept_booked origin.first s t done.session fit.kept idle);
            owned = subst (λ (es : List Entry). All (IsOwned n.live.members es) k.running.items) (sym standing) (λ i d lt. left_owned k.live.members n.live.members k.live.standing t (get_or k.running.items i d) members (none i d lt) (fit.owned i d lt));
            apart = fit.apart;
            numbered = subst (λ (X : Type 0). X) (λ i. IsNumbered k.last (sym begun i) n.live.members (sym page_locks i) (appended (sym store i).log)) (left_numbered k.last k.live.begun k.live.members n.live.members t k.operations.locks (appended k.operations.store.log) members fit.numbered);
            locked = subst (AreHeldBy k.running.items) (sym page_locks) fit.locked;
            small = subst (All (IsWithinSchema origin)) (sym standing) (All-filter (λ (e : Entry). others t e.txn) (IsWithinSchema origin) k.live.standing fit.small);
            log = subst (λ (X : Type 0). X) (λ i. used (sym store i).log + sum_by left_of k.running.items + n.reserved < area_size (sym store i).log) log_now;
            reserves = omega arith;
            numbers = let left = fit.numbers in omega (arith, left, begun, reserved);
            queued = subst (λ (X : Type 0). X) (λ i. IsQueued n.live.members (appended (sym store i).log) (sym rest i)) queued;
            booked = omega arith;
            escrowed = record {
              all = all ∙ fit.escrowed.all;
              counts = λ x lt. moved x ∙ (λ i. moved_by t x k.escrow.pending (fit.escrowed.counts x lt i)) ∙ sym (committed_count origin.first s t done.session fit.kept idle x) ∙ ap (λ (w : State). (committed_base origin.first w).counts x) state;
            };
          };
          holds = subst (λ (w : World). Holds (held_in w) base) w_same safe.holds;
          runs = λ i d lt. let was = safe.runs i d lt in record { under = subst (λ (w : World). IsUnderWay origin.relations origin.counters w (get_or k.running.items i d)) w_same was.under; budget = was.budget; number = was.number; moving = was.moving };
          outcome = reported_put k.last (appended n.operations.store.log) k.live.members n.live.members t None (λ m is. absurd cc) members (subst (λ (X : Type 0). X) (λ i. AreReported k.last k.live.members (appended (sym store i).log)) safe.outcome);
          claims = omega arith;
        };
        state = state;
      }

  -- the first of the commits under way runs nothing
  pub first_idle : (k : Core D) (c : Commit) (cs : List Commit) → IsFit g origin base k → k.commits.items ≡ c ∷ cs → All (λ (r : OpScope). r.txn ≢ c.txn) k.running.items
  first_idle k c cs fit queue =
      let in_queue : IsQueued k.live.members (appended k.operations.store.log) (c ∷ cs) = subst (IsQueued k.live.members (appended k.operations.store.log)) queue fit.queued in
      none_runs k.live.members k.live.standing k.running.items c.txn (committing_closed (member_of k.live.members c.txn) (All-head (λ (x : Commit). state_in k.live.members x.txn ≡ Some Committing) c cs in_queue.each)) fit.owned

  -- a transaction of which nothing is left to undo goes
  pub gone_in : (k n : Core D) (t : ℕ) → IsConsistent g origin base k → is_working (member_of k.live.members t) ≡ true → All (λ (r : OpScope). r.txn ≢ t) k.running.items → last_effect t k.live.standing ≡ None
      → n.live.standing ≡ kept (others t) k.live.standing → ((u : ℕ) → member_of n.live.members u ≡ put (member_of k.live.members) t None u) → n.live.begun ≡ k.live.begun → length n.live.members + 1 ≡ length k.live.members
      → held_of n.locks ≡ without_holder (held_of k.locks) t → n.escrow.committed ≡ k.escrow.committed → n.escrow.pending ≡ pending_without t k.escrow.pending → n.escrow.aside ≡ pending_without t k.escrow.aside → n.reserved + 128 ≡ k.reserved
      → IsIn g origin base (gone (state_of k base) t) (record k { live = n.live; locks = n.locks; escrow = n.escrow; reserved = n.reserved })
  gone_in k n t safe at_work none nothing standing members begun count locks committed pending aside reserved =
      let fit = safe.fit in
      let z : Core D = record k { live = n.live; locks = n.locks; escrow = n.escrow; reserved = n.reserved } in
      let s : State = state_of k base in
      let idle : s.running t ≡ None = runs_none k.running.items t none in
      let state : gone s t ≡ state_of z base = λ i. record {
        book = k.book.items;
        sessions = λ u. (put_session (member_of k.live.members) t u ∙ ap (option_map (λ (m : Member). m.session)) (sym (members u))) i;
        next = sym begun i + 1;
        standing = sym standing i;
        running = running_in k.running.items;
        held = sym locks i;
        pending = sym pending i;
        aside = sym aside i;
        base = base;
      } in
      let apart_pages = weighs_others undo_pages t k.live.standing nothing in
      let apart_bytes = weighs_others undo_bytes t k.live.standing nothing in
      let sum_pages : sum_by entry_pages n.live.standing ≡ sum_by entry_pages (kept (others t) k.live.standing) = ap (sum_by entry_pages) standing in
      let sum_bytes : sum_by entry_bytes n.live.standing ≡ sum_by entry_bytes (kept (others t) k.live.standing) = ap (sum_by entry_bytes) standing in
      let claims = safe.claims in let reserves = fit.reserves in let log = fit.log in
      record {
        consistent = record {
          fit = record {
            schema = fit.schema;
            right = fit.right;
            kept = subst (IsKept origin.first) state (kept_gone origin.first s t fit.kept idle nothing);
            owned = subst (λ (es : List Entry). All (IsOwned n.live.members es) k.running.items) (sym standing) (λ i d lt. left_owned k.live.members n.live.members k.live.standing t (get_or k.running.items i d) members (none i d lt) (fit.owned i d lt));
            apart = fit.apart;
            numbered = subst (λ (m : ℕ). IsNumbered k.last m n.live.members k.operations.locks (appended k.operations.store.log)) (sym begun) (left_numbered k.last k.live.begun k.live.members n.live.members t k.operations.locks (appended k.operations.store.log) members fit.numbered);
            locked = fit.locked;
            small = subst (All (IsWithinSchema origin)) (sym standing) (All-filter (λ (e : Entry). others t e.txn) (IsWithinSchema origin) k.live.standing fit.small);
            log = omega arith;
            reserves = omega arith;
            numbers = let left = fit.numbers in omega (arith, left, begun, reserved);
            queued = queued_members k.live.members n.live.members (appended k.operations.store.log) k.commits.items (λ u is. stays u is) (λ u is. stayed u is) fit.queued;
            booked = fit.booked;
            escrowed = record { all = ap length committed ∙ fit.escrowed.all; counts = λ c lt. ap (λ (cs : List Count). count_at cs c) committed ∙ fit.escrowed.counts c lt };
          };
          holds = safe.holds;
          runs = safe.runs;
          outcome = reported_put k.last (appended k.operations.store.log) k.live.members n.live.members t None (λ m is. absurd cc) members safe.outcome;
          claims = omega arith;
        };
        state = state;
      }
    where
      -- it was open, and did not commit
      away : (u : ℕ) → state_in k.live.members u ≡ Some Committing → u ≢ t
      away u is same =
          let closed : is_working (member_of k.live.members t) ≡ false = committing_closed (member_of k.live.members t) (ap (λ (v : ℕ). state_in k.live.members v) (sym same) ∙ is) in absurd cc

      stays : (u : ℕ) → state_in k.live.members u ≡ Some Committing → state_in n.live.members u ≡ Some Committing
      stays u is = other_state k.live.members n.live.members t members u (away u is) ∙ is

      stayed : (u : ℕ) → state_in n.live.members u ≡ Some Committing → state_in k.live.members u ≡ Some Committing
      stayed u is = sym (other_state k.live.members n.live.members t members u (λ same. let gone_now = gone_state k.live.members n.live.members t members in let here : state_in n.live.members u ≡ None = ap (λ (v : ℕ). state_in n.live.members v) same ∙ gone_now in absurd cc)) ∙ is

pub gone_closed : (f : ℕ → Option Member) (t : ℕ) → is_working (put f t None t) ≡ false
gone_closed f t = let same : (t == t) ≡ true = eq-eqb t t refl in rw same refl
