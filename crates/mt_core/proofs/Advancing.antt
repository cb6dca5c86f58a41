-- What a step of one operation leaves of all.
use Rattle.std.proofs.Common.{◌≡◌, ◌≢◌, inl, inr, ⊎_elim, ℕ, ◌<◌, ◌≤◌, ◌+◌, ◌==◌, ◌++◌, true, false, List, length, get_or, set, Some, refl, sym, ap, ◌∙◌, subst, arith}
use Rattle.std.specs.Prelude.{All, AllPairs, Result, Ok, Err}
use Rattle.std.specs.List.{sum_by}
use Rattle.std.specs.Option.{option_map}
use Rattle.std.proofs.lemmas.List.{get_or_read, get_or-set_same, get_or-set_other, length-set}
use Rattle.std.proofs.lemmas.List.Sums.{sum_by-set, get_or-le-sum_by}
use Rattle.std.proofs.lemmas.Bool.{eq-eqb, cases_eq}
use Rattle.mt_disk.specs.declared.device.Device.{Ghosts}
use Rattle.mt_base.specs.declared.refusal.Refusal.{Refusal}
use Rattle.mt_frame.specs.declared.records.Record.{Record}
use Rattle.mt_area_rules.specs.History.{some_record, undoes_op}
use Rattle.mt_live.specs.Entries.{Entry}
use Rattle.mt_live.specs.Lives.{member_of, IsAbove}
use Rattle.mt_live.specs.Machine.{State, IsKept}
use Rattle.mt_live.specs.Members.{Member, last_operation}
use Rattle.mt_log.specs.Words.{appended, used, area_size}
use Rattle.mt_model.specs.declared.operations.Op.{Op}
use Rattle.mt_model.specs.declared.operations.Reply.{Reply}
use Rattle.mt_model.specs.Model.{Base, reply_of, base_after}
use Rattle.mt_op.specs.Holds.{IsNext, KeepsLocks}
use Rattle.mt_op.specs.Moves.{SameOp}
use Rattle.mt_op.specs.Operations.{world, IsRight, HasBudget, Goes, Steps, GivesBack, claimed}
use Rattle.mt_op.specs.Records.{end_with, end_of, KeepsRecords}
use Rattle.mt_op.specs.declared.scope.Stage.TheVariants.{Ready, Taking}
use Rattle.mt_steps.specs.Logged.{logged_of}
use Rattle.mt_op.specs.Work.{IsGoing, ComesTo}
use Rattle.mt_op.specs.World.{World, IsUnderWay, IsOther, held_in}
use Rattle.mt_op.specs.declared.answers.Stepped.{Stepped}
use Rattle.mt_op.specs.declared.answers.Stepped.TheVariants as stepped
use Rattle.mt_op.specs.declared.operations.Operations.{Operations}
use Rattle.mt_op.specs.declared.scope.OpScope.{OpScope}
use Rattle.mt_op.specs.declared.scope.Stage.{Stage}
use Rattle.mt_space.specs.Changes.{PageBytes}
use Rattle.mt_slock.specs.Views.{held_of}
use Rattle.mt_steps.specs.Held.{Holds}
use Rattle.mt_steps.specs.Plans.{own_needs, undo_pages}
use Rattle.mt_live.specs.declared.transactions.TxnState.TheVariants.{Aborting}
use Rattle.mt_core.specs.Runs.{running_in, state_in, AreApart, AreHeldBy, IsMoving, IsRunning, IsOwned, pages_of, entry_pages, kept_bytes, taken_bytes, is_returning, is_undoing}
use Rattle.mt_op.specs.World.{left_of}
use Rattle.mt_core.specs.Consistent.{Origin, state_of, IsNumbered, AreReported, IsQueued, IsFit, IsConsistent, IsAlone, IsReady, IsIn, Advances}
use Rattle.mt_core.specs.declared.parts.Core.{Core}
use Rattle.mt_core.proofs.Lists.{all_set, pair_at, pairs_set}
use Rattle.mt_core.proofs.Underway.{IsSame, apart_flip, running_set}
use Rattle.mt_core.proofs.Holders.{way_at, held_set, held_step}
use Rattle.mt_core.proofs.Numbers.{AddsNoInverse, adds_none, adds_pages, numbered_step}
use Rattle.mt_core.proofs.Effects.{weighs_effect, weighs_last, inverse_pages}
use Rattle.mt_core.proofs.Inverses.{none_undone}
use Rattle.mt_core.proofs.Reported.{reported_more}
use Rattle.mt_core.proofs.Queued.{queued_records}

-- other operations on the pages, and of the list of those under way
abbrev pub moved : {D : Type 0} → Core D → Core D → Core D
moved k n = record k { operations = n.operations; running = n.running }

pub same_run : (r q : OpScope) → SameOp r q → IsSame r q
same_run r q same = record { txn = same.txn; number = same.number; op = same.op; undoes = same.undoes; split = same.split }

going_moves : (s : Stage) → IsGoing s → IsMoving s
going_moves s g = ⊎_elim (λ p. inl p) (λ w. inr (inl w)) g

-- one that goes on is not taken back
going_stays : (s : Stage) → IsGoing s → s ≡ Taking → ⊥
going_stays s g is = ⊎_elim (λ p. absurd cc) (λ w. absurd cc) g

pub owned_same : (ms : List Member) (r q : OpScope) (standing : List Entry) → IsSame r q → (q.stage ≡ Taking → (q.undoes ≡ 0) × (state_in ms q.txn ≡ Some Aborting)) → IsOwned ms standing r → IsOwned ms standing q
owned_same ms r q standing same taken o = record {
  at_work = rw same.txn o.at_work;
  room = λ fore. rw same.txn (o.room (sym same.undoes ∙ fore));
  inverse = λ back. let t = o.inverse (λ e. back (same.undoes ∙ e)) in record { named = (λ i. last_operation (member_of ms (same.txn i))) ∙ t.named ∙ ap Some (sym same.undoes); entry = t.entry; last = rw same.txn t.last; inverse = t.inverse ∙ ap Some (sym same.op); unsplit = same.split ∙ t.unsplit };
  newest = λ fore. subst (λ (X : Type 0). X) (λ i. IsAbove (sym same.number i) (member_of ms (sym same.txn i))) (o.newest (sym same.undoes ∙ fore));
  few = λ fore. rw same.txn (o.few (sym same.undoes ∙ fore));
  taken = taken;
  forwards = λ fore. ap is_returning (ap (state_in ms) same.txn) ∙ o.forwards (sym same.undoes ∙ fore);
  backwards = λ back. ap is_undoing (ap (state_in ms) same.txn) ∙ o.backwards (λ is. back (same.undoes ∙ is));
  returns = λ back first is. let was = o.returns (λ e. back (same.undoes ∙ e)) first (ap (state_in ms) (sym same.txn) ∙ is) in record { room = rw same.txn was.room; newest = subst (λ (X : Type 0). X) (λ i. IsAbove (sym same.number i) (member_of ms (sym same.txn i))) was.newest; after = rw same.txn was.after };
}

pages_same : (r q : OpScope) → IsSame r q → pages_of q ≡ pages_of r
pages_same r q same = rw (same.undoes, same.op, same.split) refl

kept_same : (r q : OpScope) → IsSame r q → kept_bytes q ≡ kept_bytes r
kept_same r q same = rw (same.undoes, same.op) refl

taken_same : (r q : OpScope) → IsSame r q → taken_bytes q ≡ taken_bytes r
taken_same r q same = rw same.undoes refl

-- what is known once the operation of one has made a step
pub record HasStepped {D : Type 0} (g : Ghosts D) (opening : PageBytes) (relations counters : ℕ) (o n : Operations D) (s t : OpScope) (r : Result Stepped Refusal) : Type 0 where
  pub right : IsRight g opening relations counters n
  pub steps : Steps relations counters (world g opening o) (world g opening n) s t r
  pub log : used n.store.log + t.left ≡ used o.store.log + s.left
  pub area : area_size n.store.log ≡ area_size o.store.log
  pub budget : HasBudget t
  pub claims : GivesBack (own_needs s.op s.split) (claimed o) (claimed n) r
  pub stage : ComesTo t.stage r
  pub records : KeepsRecords t (appended o.store.log) (appended n.store.log) r
  pub locks : KeepsLocks s.number (IsNext o.rooms o.locks s) o.locks n.locks r

-- it is of its transaction, with its number, whatever it answers
pub steps_same : (relations counters : ℕ) (w z : World) (s t : OpScope) (r : Result Stepped Refusal) → Steps relations counters w z s t r → SameOp s t
steps_same relations counters w z s t (Ok stepped.Went) k = k.same
steps_same relations counters w z s t (Ok (stepped.Wait holder)) k = k.same
steps_same relations counters w z s t (Ok (stepped.Again holder)) k = k.same
steps_same relations counters w z s t (Ok stepped.Flush) k = k.same
steps_same relations counters w z s t (Ok (stepped.Ready first second)) k = k.0.same
steps_same relations counters w z s t (Err why) k = k.same

module _ {D : Type 0} (g : Ghosts D) (origin : Origin) (base : Base) where
  state_moved : (k n : Core D) (place : ℕ) (r q : OpScope) → place < length k.running.items → r ≡ get_or k.running.items place r → n.running.items ≡ set k.running.items place q → IsSame r q
      → state_of k base ≡ state_of (moved k n) base
  state_moved k n place r q within there items same = λ i. record {
    book = k.book.items;
    sessions = λ t. option_map (λ (m : Member). m.session) (member_of k.live.members t);
    next = k.live.begun + 1;
    standing = k.live.standing;
    running = λ t. (sym (running_set k.running.items place r q within there same t) ∙ ap (λ (rs : List OpScope). running_in rs t) (sym items)) i;
    held = held_of k.locks;
    pending = k.escrow.pending;
    aside = k.escrow.aside;
    base = base;
  }

  -- the others are under way as before
  pub others_run : (k n : Core D) (place : ℕ) (r : OpScope) → IsConsistent g origin base k → place < length k.running.items → r ≡ get_or k.running.items place r
      → ((u : OpScope) → IsUnderWay origin.relations origin.counters (world g origin.pages k.operations) u → IsOther r u → IsUnderWay origin.relations origin.counters (world g origin.pages n.operations) u)
      → (i : ℕ) (d : OpScope) → i < length k.running.items → i ≢ place → IsRunning origin.relations origin.counters (world g origin.pages n.operations) k.last (get_or k.running.items i d)
  others_run k n place r safe within there others i d lt apart =
      let was = safe.runs i d lt in
      let other : AreApart r (get_or k.running.items i d) = subst (λ (x : OpScope). AreApart x (get_or k.running.items i d)) (sym (get_or_read k.running.items place r within there d)) (pair_at AreApart k.running.items apart_flip safe.fit.apart place i d within lt apart) in
      record { under = others (get_or k.running.items i d) was.under other; budget = was.budget; number = was.number; moving = was.moving }

  -- what a step keeps, whatever it answers
  pub record Carried (k n : Core D) (place : ℕ) (q : OpScope) : Type 0 where
    pub fit : IsFit g origin base (moved k n)
    pub state : state_of k base ≡ state_of (moved k n) base
    pub pages : sum_by pages_of n.running.items ≡ sum_by pages_of k.running.items
    pub known : q.number ≤ k.last

  pub carried : (k n : Core D) (place : ℕ) (r q : OpScope) (more : List Record) → IsConsistent g origin base k → place < length k.running.items → r ≡ get_or k.running.items place r → n.running.items ≡ set k.running.items place q
      → SameOp r q → used n.operations.store.log + q.left ≡ used k.operations.store.log + r.left → area_size n.operations.store.log ≡ area_size k.operations.store.log → IsRight g origin.pages origin.relations origin.counters n.operations
      → appended n.operations.store.log ≡ appended k.operations.store.log ++ more → (q.stage ≡ Taking → (q.undoes ≡ 0) × (state_in k.live.members q.txn ≡ Some Aborting)) → (r.number ≤ k.last → IsNumbered k.last k.live.begun k.live.members n.operations.locks (appended n.operations.store.log)) → AreHeldBy k.running.items n.operations.locks → Carried k n place q
  carried k n place r q more safe within there items same_op log_now area right records taken numbered locked =
      let fit = safe.fit in
      let same = same_run r q same_op in
      let was = safe.runs place r within in
      let r_there : get_or k.running.items place r ≡ r = sym there in
      let known : r.number ≤ k.last = subst (λ (x : OpScope). x.number ≤ k.last) r_there was.number in
      let lefts = sum_by-set left_of k.running.items place q r within in
      let pages = sum_by-set pages_of k.running.items place q r within in
      let keeps = sum_by-set kept_bytes k.running.items place q r within in
      let takes = sum_by-set taken_bytes k.running.items place q r within in
      let left_r : left_of (get_or k.running.items place r) ≡ r.left = ap left_of r_there in
      let pages_r : pages_of (get_or k.running.items place r) ≡ pages_of r = ap pages_of r_there in
      let kept_r : kept_bytes (get_or k.running.items place r) ≡ kept_bytes r = ap kept_bytes r_there in
      let taken_r : taken_bytes (get_or k.running.items place r) ≡ taken_bytes r = ap taken_bytes r_there in
      let pages_q = pages_same r q same in
      let kept_q = kept_same r q same in
      let taken_q = taken_same r q same in
      let sum_left : sum_by left_of n.running.items ≡ sum_by left_of (set k.running.items place q) = ap (sum_by left_of) items in
      let sum_pages : sum_by pages_of n.running.items ≡ sum_by pages_of (set k.running.items place q) = ap (sum_by pages_of) items in
      let sum_kept : sum_by kept_bytes n.running.items ≡ sum_by kept_bytes (set k.running.items place q) = ap (sum_by kept_bytes) items in
      let sum_taken : sum_by taken_bytes n.running.items ≡ sum_by taken_bytes (set k.running.items place q) = ap (sum_by taken_bytes) items in
      let log_was = fit.log in let reserves_was = fit.reserves in
      let state = state_moved k n place r q within there items same in
      record {
        fit = record {
          schema = fit.schema;
          right = right;
          kept = subst (IsKept origin.first) state fit.kept;
          owned = subst (All (IsOwned k.live.members k.live.standing)) (sym items)
              (all_set (IsOwned k.live.members k.live.standing) k.running.items place q within
              (owned_same k.live.members r q k.live.standing same taken (subst (IsOwned k.live.members k.live.standing) r_there (fit.owned place r within))) (λ i d lt apart. fit.owned i d lt));
          apart = subst (AllPairs AreApart) (sym items) (pairs_set AreApart k.running.items place r q within there
              (λ z a. record { number = λ is. a.number (is ∙ same.number); txn = λ is. a.txn (is ∙ same.txn) })
              (λ z a. record { number = λ is. a.number (sym same.number ∙ is); txn = λ is. a.txn (sym same.txn ∙ is) }) fit.apart);
          numbered = numbered known;
          locked = subst (λ (rs : List OpScope). AreHeldBy rs n.operations.locks) (sym items) (held_set k.running.items place r q n.operations.locks within there same.number locked);
          small = fit.small;
          log = omega arith;
          reserves = omega arith;
          numbers = fit.numbers;
          queued = subst (λ (rs : List Record). IsQueued k.live.members rs k.commits.items) (sym records) (queued_records k.live.members (appended k.operations.store.log) more k.commits.items fit.queued);
          booked = fit.booked;
          escrowed = fit.escrowed;
        };
        state = state;
        pages = omega arith;
        known = subst (λ (m : ℕ). m ≤ k.last) (sym same.number) known;
      }

  -- the records had each call, and none of those more is an inverse
  pub reported_on : (k n : Core D) → IsConsistent g origin base k → (a : AddsNoInverse (appended k.operations.store.log) (appended n.operations.store.log)) → AreReported k.last k.live.members (appended n.operations.store.log)
  reported_on k n safe a = subst (AreReported k.last k.live.members) (sym a.is) (reported_more k.last k.last k.live.members (appended k.operations.store.log) a.more (omega arith) (λ t m low. a.none t m) safe.outcome)

  goes_in : (k n : Core D) (place : ℕ) (r q : OpScope) (res : Result Stepped Refusal) → IsConsistent g origin base k → place < length k.running.items → r ≡ get_or k.running.items place r → n.running.items ≡ set k.running.items place q
      → HasStepped g origin.pages origin.relations origin.counters k.operations n.operations r q res → Goes origin.relations origin.counters (world g origin.pages k.operations) (world g origin.pages n.operations) r q
      → IsGoing q.stage → claimed n.operations ≡ claimed k.operations → AddsNoInverse (appended k.operations.store.log) (appended n.operations.store.log) → IsIn g origin base (state_of k base) (moved k n)
  goes_in k n place r q res safe within there items h goes going claims adds =
      let c = carried k n place r q adds.more safe within there items goes.same h.log h.area h.right adds.is (λ is. absurd (going_stays q.stage going is)) (λ known. numbered_step k.last k.live.begun k.live.members k.operations.rooms origin.relations origin.counters (world g origin.pages k.operations) (world g origin.pages n.operations) r q res known h.steps h.locks h.records safe.fit.numbered)
      (held_step k.running.items r.number (IsNext k.operations.rooms k.operations.locks r) k.operations.locks n.operations.locks res (way_at k.running.items place r within there) h.locks safe.fit.locked) in
      let own : IsRunning origin.relations origin.counters (world g origin.pages n.operations) k.last q = record { under = goes.own; budget = h.budget; number = c.known; moving = going_moves q.stage going } in
      let pages = c.pages in let claims_was = safe.claims in
      record {
        consistent = record {
          fit = c.fit;
          holds = subst (λ (p : PageBytes). Holds p base) (sym goes.held) safe.holds;
          runs = subst (All (IsRunning origin.relations origin.counters (world g origin.pages n.operations) k.last)) (sym items)
              (all_set (IsRunning origin.relations origin.counters (world g origin.pages n.operations) k.last) k.running.items place q within own (others_run k n place r safe within there goes.others));
          outcome = reported_on k n safe adds;
          claims = omega arith;
        };
        state = c.state;
      }

  -- the operation at a place has come to a stage, and the others are under way
  pub alone_at : (k n : Core D) (place : ℕ) (r q : OpScope) (stage : Stage) → place < length k.running.items → n.running.items ≡ set k.running.items place q → IsUnderWay origin.relations origin.counters (world g origin.pages n.operations) q → q.stage ≡ stage → q.number ≤ k.last
      → ((i : ℕ) (d : OpScope) → i < length k.running.items → i ≢ place → IsRunning origin.relations origin.counters (world g origin.pages n.operations) k.last (get_or k.running.items i d)) → IsAlone g origin (moved k n) place q stage
  alone_at k n place r q stage within items own is known others = record {
    within = subst (λ (rs : List OpScope). place < length rs) (sym items) (let len = length-set k.running.items place q in omega arith);
    there = sym (ap (λ (rs : List OpScope). get_or rs place q) items ∙ get_or-set_same k.running.items place q q within);
    own = own;
    stage = is;
    known = known;
    others = λ i d lt apart.
        let less : i < length k.running.items = let len = length-set k.running.items place q in let sizes = ap (λ (rs : List OpScope). length rs) items in omega arith in
        subst (IsRunning origin.relations origin.counters (world g origin.pages n.operations) k.last) (sym (ap (λ (rs : List OpScope). get_or rs i d) items ∙ get_or-set_other k.running.items place i q d apart)) (others i d less apart);
  }

  is_ready : (k n : Core D) (place : ℕ) (r q : OpScope) (first second : Reply) → IsConsistent g origin base k → place < length k.running.items → r ≡ get_or k.running.items place r → n.running.items ≡ set k.running.items place q
      → HasStepped g origin.pages origin.relations origin.counters k.operations n.operations r q (Ok (stepped.Ready first second)) → IsReady g origin base (moved k n) place q first × (state_of k base ≡ state_of (moved k n) base)
  is_ready k n place r q first second safe within there items h =
      let a = h.steps.0 in
      let same = a.same in
      let ended : appended n.operations.store.log ≡ appended k.operations.store.log ++ end_of r first = a.ended in
      let c = carried k n place r q (end_of r first) safe within there items same h.log h.area h.right ended (λ is. absurd (let ready = h.stage in cc)) (λ known. numbered_step k.last k.live.begun k.live.members k.operations.rooms origin.relations origin.counters (world g origin.pages k.operations) (world g origin.pages n.operations) r q (Ok (stepped.Ready first second)) known h.steps h.locks h.records safe.fit.numbered)
      (subst (AreHeldBy k.running.items) (sym h.locks) safe.fit.locked) in
      let pages = c.pages in let claims_was = safe.claims in let back = h.claims in
      let needs : own_needs q.op q.split ≡ own_needs r.op r.split = λ i. own_needs (same.op i) (same.split i) in
      let was : IsRunning origin.relations origin.counters (world g origin.pages k.operations) k.last r = subst (IsRunning origin.relations origin.counters (world g origin.pages k.operations) k.last) (sym there) (safe.runs place r within) in
      let end_same : end_of r first ≡ end_of q first = (λ i. end_with (sym same.txn i) (sym same.number i) (sym same.undoes i) (logged_of (sym same.op i) first)) in (
        record {
          fit = c.fit;
          alone = alone_at k n place r q Ready within items a.own h.stage c.known (others_run k n place r safe within there a.others);
          holds = subst (λ (o : Op). Holds (held_in (world g origin.pages n.operations)) (base_after base o)) (sym same.op) (a.base base safe.holds);
          replies = ap (reply_of base) same.op ∙ a.replies base safe.holds;
          small = a.small;
          outcome = record {
            was = appended k.operations.store.log;
            ended = ended ∙ ap (λ (rs : List Record). appended k.operations.store.log ++ rs) end_same;
            outcome = safe.outcome;
            standing = λ fore. (λ i. some_record (undoes_op (same.txn i) (same.number i)) (appended k.operations.store.log)) ∙ none_undone origin.relations origin.counters g origin.pages k.operations r safe.fit.right was.under was.moving;
          };
          claims = omega arith;
        },
        c.state,
      )

  pub advanced : (k n : Core D) (place : ℕ) (r q : OpScope) (res : Result Stepped Refusal) → place < length k.running.items → r ≡ get_or k.running.items place r → n.running.items ≡ set k.running.items place q → IsConsistent g origin base k
      → HasStepped g origin.pages origin.relations origin.counters k.operations n.operations r q res → Advances g origin base (state_of k base) (moved k n) place res
  advanced k n place r q (Ok stepped.Went) within there items safe h = goes_in k n place r q (Ok stepped.Went) safe within there items h h.steps h.stage h.claims (adds_pages q (appended k.operations.store.log) (appended n.operations.store.log) h.records)
  advanced k n place r q (Ok (stepped.Wait holder)) within there items safe h = goes_in k n place r q (Ok (stepped.Wait holder)) safe within there items h h.steps h.stage h.claims (adds_none (appended k.operations.store.log) (appended n.operations.store.log) h.records)
  advanced k n place r q (Ok (stepped.Again holder)) within there items safe h = goes_in k n place r q (Ok (stepped.Again holder)) safe within there items h h.steps h.stage h.claims (adds_none (appended k.operations.store.log) (appended n.operations.store.log) h.records)
  advanced k n place r q (Ok stepped.Flush) within there items safe h = goes_in k n place r q (Ok stepped.Flush) safe within there items h h.steps h.stage h.claims (adds_none (appended k.operations.store.log) (appended n.operations.store.log) h.records)
  advanced k n place r q (Ok (stepped.Ready first second)) within there items safe h =
      let ready = is_ready k n place r q first second safe within there items h in (
        (λ x is.
            let here : q ≡ x = sym (is ∙ ap (λ (rs : List OpScope). get_or rs place x) items ∙ get_or-set_same k.running.items place q x within) in
            subst (λ (y : OpScope). IsReady g origin base (moved k n) place y first) here ready.0),
        h.steps.1,
        ready.1,
      )
  advanced k n place r q (Err why) within there items safe h = goes_in k n place r q (Err why) safe within there items h h.steps h.stage h.claims (adds_none (appended k.operations.store.log) (appended n.operations.store.log) h.records)

  -- what the operation's step asks for is claimed
  pub needs_claimed : (k : Core D) (place : ℕ) (r : OpScope) → IsConsistent g origin base k → place < length k.running.items → r ≡ get_or k.running.items place r → own_needs r.op r.split ≤ claimed k.operations
  needs_claimed k place r safe within there =
      let owned : IsOwned k.live.members k.live.standing r = subst (IsOwned k.live.members k.live.standing) (sym there) (safe.fit.owned place r within) in
      let part = get_or-le-sum_by pages_of k.running.items place r within in
      let mine : pages_of (get_or k.running.items place r) ≡ pages_of r = ap pages_of (sym there) in
      let claims = safe.claims in
      ⊎_elim
      (λ (fore : r.undoes ≡ 0).
      let test : (r.undoes == 0) ≡ true = eq-eqb r.undoes 0 fore in
      let is : pages_of r ≡ own_needs r.op r.split + undo_pages r.op = rw test refl in
      omega arith)
      (λ (back : r.undoes ≡ 0 → ⊥).
      let t = owned.inverse back in
      let of_entry = weighs_last undo_pages r.txn k.live.standing t.entry t.last in
      let less = inverse_pages t.entry.op t.entry.reply r.op t.inverse in
      let is : entry_pages t.entry ≡ undo_pages t.entry.op = weighs_effect undo_pages r.txn k.live.standing t.entry t.last in
      let unsplit : own_needs r.op r.split ≡ own_needs r.op false = ap (own_needs r.op) t.unsplit in
      omega arith) (cases_eq r.undoes 0)

  -- an operation that is not ready yet
  pub not_ready : (s : State) (z : Core D) (place : ℕ) (res : Result Stepped Refusal) → ((first second : Reply) → res ≡ Ok (stepped.Ready first second) → ⊥) → Advances g origin base s z place res → IsIn g origin base s z
  not_ready s z place (Ok (stepped.Ready first second)) not a = absurd (not first second refl)
  not_ready s z place (Ok stepped.Went) not a = a
  not_ready s z place (Ok (stepped.Wait holder)) not a = a
  not_ready s z place (Ok (stepped.Again holder)) not a = a
  not_ready s z place (Ok stepped.Flush) not a = a
  not_ready s z place (Err why) not a = a
