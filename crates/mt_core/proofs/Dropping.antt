-- What an operation leaves of all that is taken back and dropped out.
use Rattle.std.proofs.Common.{◌≡◌, inr, ℕ, ◌<◌, ◌≤◌, ◌+◌, ◌==◌, true, List, length, get_or, set, Some, None, refl, sym, ap, ◌∙◌, subst, arith}
use Rattle.std.specs.Prelude.{All, Result, Ok, Err, OnErr}
use Rattle.std.specs.List.{remove}
use Rattle.std.proofs.lemmas.Bool.{eq-eqb}
use Rattle.std.proofs.lemmas.List.Sums.{get_or-le-sum_by}
use Rattle.mt_disk.specs.declared.device.Device.{Ghosts}
use Rattle.mt_steps.specs.Plans.{own_needs, undo_pages}
use Rattle.std.proofs.lemmas.List.{get_or-set_same}
use Rattle.mt_base.specs.declared.refusal.Refusal.{Refusal}
use Rattle.mt_live.proofs.Keeping.{kept_dropped}
use Rattle.mt_live.specs.Adds.{GivesBack}
use Rattle.mt_live.specs.Machine.{State, put, IsKept, dropped}
use Rattle.mt_log.specs.Words.{appended, used, area_size}
use Rattle.mt_model.specs.declared.counters.Count.{Count}
use Rattle.mt_model.specs.Tables.{count_at}
use Rattle.mt_model.specs.Model.{Base}
use Rattle.mt_live.specs.declared.transactions.TxnState.TheVariants.{Aborting}
use Rattle.mt_op.specs.Moves.{SameOp}
use Rattle.mt_op.specs.Operations.{world, IsRight, HasBudget, Goes, claimed}
use Rattle.mt_op.specs.Records.{ReportsDropped}
use Rattle.mt_op.specs.declared.answers.TakenBack.{TakenBack}
use Rattle.mt_op.specs.declared.answers.TakenBack.TheVariants as taken
use Rattle.mt_op.specs.declared.operations.Operations.{Operations}
use Rattle.mt_op.specs.declared.scope.OpScope.{OpScope}
use Rattle.mt_op.specs.declared.scope.Stage.TheVariants.{Cleared, Taking}
use Rattle.mt_space.specs.Changes.{PageBytes}
use Rattle.mt_steps.specs.Held.{Holds}
use Rattle.mt_core.specs.Runs.{running_in, state_in, AreHeldBy, IsMoving, IsRunning, IsOwned, undo_bytes, pages_of, kept_bytes, taken_bytes}
use Rattle.mt_core.specs.Consistent.{Origin, state_of, AreReported, DropsIn, IsConsistent, IsCleared, IsIn, GoesBack}
use Rattle.mt_core.specs.declared.parts.Core.{Core}
use Rattle.mt_core.proofs.Lists.{all_remove, all_set}
use Rattle.mt_core.proofs.Underway.{running_at, running_remove}
use Rattle.mt_core.proofs.Numbers.{adds_dropped, numbered_dropped}
use Rattle.mt_core.proofs.Advancing.{moved, carried, others_run, alone_at, reported_on}
use Rattle.mt_core.proofs.Ending.{HasEnded, left}

-- what a step of a taking back says
pub record HasGoneBack {D : Type 0} (g : Ghosts D) (opening : PageBytes) (relations counters : ℕ) (o n : Operations D) (s t : OpScope) (r : Result TakenBack Refusal) : Type 0 where
  pub right : IsRight g opening relations counters n
  pub goes : Goes relations counters (world g opening o) (world g opening n) s t
  pub log : used n.store.log + t.left ≡ used o.store.log + s.left
  pub area : area_size n.store.log ≡ area_size o.store.log
  pub budget : HasBudget t
  pub claims : claimed n ≡ claimed o
  pub records : ReportsDropped s (appended o.store.log) (appended n.store.log) r
  pub locks : n.locks ≡ o.locks

module _ {D : Type 0} (g : Ghosts D) (origin : Origin) (base : Base) where
  -- an operation that is no inverse is dropped out; its claims and those for its inverse are given back, and the log bytes kept for that
  pub dropped_in : (k n : Core D) (place : ℕ) (r : OpScope) → IsCleared g origin base k place r → r.undoes ≡ 0 → n.running.items ≡ remove k.running.items place
      → HasEnded g origin.pages origin.relations origin.counters k.operations n.operations r → claimed n.operations + pages_of r ≡ claimed k.operations → n.reserved + undo_bytes r.op ≡ k.reserved
      → GivesBack r.txn r.op k.escrow.pending n.escrow.pending → n.escrow.committed ≡ k.escrow.committed → n.escrow.aside ≡ k.escrow.aside
      → DropsIn g origin base (state_of k base) (record k { operations = n.operations; running = n.running; escrow = n.escrow; reserved = n.reserved }) r.txn
  dropped_in k n place r y fore items h back freed given committed aside =
      let fit = y.fit in let alone = y.alone in
      let z : Core D = record k { operations = n.operations; running = n.running; escrow = n.escrow; reserved = n.reserved } in
      let s : State = state_of k base in
      let runs : s.running r.txn ≡ Some r.op = running_at k.running.items place r alone.within alone.there fore fit.apart in
      let l = left g origin base k n place r Cleared fit alone items h in
      let gone : (t : ℕ) → put (running_in k.running.items) r.txn None t ≡ running_in n.running.items t =
      λ t. sym (running_remove k.running.items place r alone.within alone.there fore fit.apart t) ∙ ap (λ (rs : List OpScope). running_in rs t) (sym items) in
      let state : dropped s r.txn n.escrow.pending ≡ state_of z base = λ i. record {
        book = k.book.items;
        sessions = s.sessions;
        next = s.next;
        standing = s.standing;
        running = λ t. gone t i;
        held = s.held;
        pending = n.escrow.pending;
        aside = sym aside i;
        base = base;
      } in
      let pages = l.pages in let keeps = l.keeps in let takes = l.takes in
      let test : (r.undoes == 0) ≡ true = eq-eqb r.undoes 0 fore in
      let kept_r : kept_bytes r ≡ undo_bytes r.op = rw test refl in
      let taken_r : taken_bytes r ≡ 0 = rw test refl in
      let claims = y.claims in let reserves = fit.reserves in let log = l.log in
      record {
        op = r.op;
        runs = runs;
        given = given;
        leads = record {
          consistent = record {
            fit = record {
              schema = fit.schema;
              right = h.right;
              kept = subst (IsKept origin.first) state (kept_dropped origin.first s r.txn r.op n.escrow.pending fit.kept runs given);
              owned = subst (All (IsOwned k.live.members k.live.standing)) (sym items) (all_remove (IsOwned k.live.members k.live.standing) k.running.items place alone.within (λ i d lt apart. fit.owned i d lt));
              apart = l.apart;
              numbered = l.numbered;
              locked = l.locked;
              small = fit.small;
              log = omega arith;
              reserves = omega arith;
              numbers = let left_now = fit.numbers in omega (arith, left_now, freed);
              queued = l.queued;
              booked = fit.booked;
              escrowed = record { all = ap length committed ∙ fit.escrowed.all; counts = λ c lt. ap (λ (cs : List Count). count_at cs c) committed ∙ fit.escrowed.counts c lt };
            };
            holds = subst (λ (p : PageBytes). Holds p base) (sym h.held) y.holds;
            runs = l.runs;
            outcome = subst (λ (X : Type 0). X) (λ i. AreReported k.last k.live.members (appended (sym h.store i).log)) y.outcome;
            claims = omega arith;
          };
          state = state;
        };
      }

  -- ---- a step of the taking back

  still : (k : Core D) (r q : OpScope) → SameOp r q → (r.undoes ≡ 0) × (state_in k.live.members r.txn ≡ Some Aborting) → (q.undoes ≡ 0) × (state_in k.live.members q.txn ≡ Some Aborting)
  still k r q same aborting = (same.undoes ∙ aborting.0, ap (state_in k.live.members) same.txn ∙ aborting.1)

  back_in : (k n : Core D) (place : ℕ) (r q : OpScope) (res : Result TakenBack Refusal) → IsConsistent g origin base k → place < length k.running.items → r ≡ get_or k.running.items place r → n.running.items ≡ set k.running.items place q
      → HasGoneBack g origin.pages origin.relations origin.counters k.operations n.operations r q res → IsMoving q.stage → (q.undoes ≡ 0) × (state_in k.live.members q.txn ≡ Some Aborting) → IsIn g origin base (state_of k base) (moved k n)
  back_in k n place r q res safe within there items h moving aborting =
      let goes = h.goes in
      let taken_now : q.stage ≡ Taking → (q.undoes ≡ 0) × (state_in k.live.members q.txn ≡ Some Aborting) = λ is. aborting in
      let adds = adds_dropped r (appended k.operations.store.log) (appended n.operations.store.log) res h.records in
      let c = carried g origin base k n place r q adds.more safe within there items goes.same h.log h.area h.right adds.is taken_now (λ known. numbered_dropped k.last k.live.begun k.live.members r k.operations.locks n.operations.locks (appended k.operations.store.log) (appended n.operations.store.log) res known h.locks h.records safe.fit.numbered)
      (subst (AreHeldBy k.running.items) (sym h.locks) safe.fit.locked) in
      let own : IsRunning origin.relations origin.counters (world g origin.pages n.operations) k.last q = record { under = goes.own; budget = h.budget; number = c.known; moving = moving } in
      let pages = c.pages in let claims_was = safe.claims in let claims = h.claims in
      record {
        consistent = record {
          fit = c.fit;
          holds = subst (λ (p : PageBytes). Holds p base) (sym goes.held) safe.holds;
          runs = subst (All (IsRunning origin.relations origin.counters (world g origin.pages n.operations) k.last)) (sym items)
              (all_set (IsRunning origin.relations origin.counters (world g origin.pages n.operations) k.last) k.running.items place q within own (others_run g origin base k n place r safe within there goes.others));
          outcome = reported_on g origin base k n safe adds;
          claims = omega arith;
        };
        state = c.state;
      }

  is_cleared : (k n : Core D) (place : ℕ) (r q : OpScope) → IsConsistent g origin base k → place < length k.running.items → r ≡ get_or k.running.items place r → n.running.items ≡ set k.running.items place q
      → HasGoneBack g origin.pages origin.relations origin.counters k.operations n.operations r q (Ok taken.Clear) → q.stage ≡ Cleared → IsCleared g origin base (moved k n) place q × (state_of k base ≡ state_of (moved k n) base)
  is_cleared k n place r q safe within there items h cleared =
      let goes = h.goes in
      let taken_now : q.stage ≡ Taking → (q.undoes ≡ 0) × (state_in k.live.members q.txn ≡ Some Aborting) = λ is. absurd cc in
      let adds = adds_dropped r (appended k.operations.store.log) (appended n.operations.store.log) (Ok taken.Clear) h.records in
      let c = carried g origin base k n place r q adds.more safe within there items goes.same h.log h.area h.right adds.is taken_now (λ known. numbered_dropped k.last k.live.begun k.live.members r k.operations.locks n.operations.locks (appended k.operations.store.log) (appended n.operations.store.log) (Ok taken.Clear) known h.locks h.records safe.fit.numbered)
      (subst (AreHeldBy k.running.items) (sym h.locks) safe.fit.locked) in
      let pages = c.pages in let claims_was = safe.claims in let claims = h.claims in (
        record {
          fit = c.fit;
          alone = alone_at g origin base k n place r q Cleared within items goes.own cleared c.known (others_run g origin base k n place r safe within there goes.others);
          holds = subst (λ (p : PageBytes). Holds p base) (sym goes.held) safe.holds;
          outcome = reported_on g origin base k n safe adds;
          claims = omega arith;
        },
        c.state,
      )

  pub gone_back : (k n : Core D) (place : ℕ) (r q : OpScope) (res : Result TakenBack Refusal) → place < length k.running.items → r ≡ get_or k.running.items place r → n.running.items ≡ set k.running.items place q → IsConsistent g origin base k → IsMoving r.stage → (r.undoes ≡ 0) × (state_in k.live.members r.txn ≡ Some Aborting)
      → HasGoneBack g origin.pages origin.relations origin.counters k.operations n.operations r q res → (res ≡ Ok taken.More → q.stage ≡ Taking) → (res ≡ Ok taken.Clear → q.stage ≡ Cleared) → (res ≡ Ok taken.Flush → q ≡ r) → OnErr res (q ≡ r)
      → GoesBack g origin base (state_of k base) (moved k n) place res
  gone_back k n place r q (Ok taken.More) within there items safe moving aborting h more clear flush err = back_in k n place r q (Ok taken.More) safe within there items h (inr (inr (more refl))) (still k r q h.goes.same aborting)
  gone_back k n place r q (Ok taken.Flush) within there items safe moving aborting h more clear flush err = back_in k n place r q (Ok taken.Flush) safe within there items h (subst (λ (s : OpScope). IsMoving s.stage) (sym (flush refl)) moving) (still k r q h.goes.same aborting)
  gone_back k n place r q (Err why) within there items safe moving aborting h more clear flush err = back_in k n place r q (Err why) safe within there items h (subst (λ (s : OpScope). IsMoving s.stage) (sym err) moving) (still k r q h.goes.same aborting)
  gone_back k n place r q (Ok taken.Clear) within there items safe moving aborting h more clear flush err =
      let cleared = is_cleared k n place r q safe within there items h (clear refl) in (
        (λ x is.
            let here : q ≡ x = sym (is ∙ ap (λ (rs : List OpScope). get_or rs place x) items ∙ get_or-set_same k.running.items place q x within) in
            subst (λ (y : OpScope). IsCleared g origin base (moved k n) place y) here cleared.0),
        cleared.1,
      )

  -- what is given back of one that is dropped out was claimed for it
  pub given_back : (k : Core D) (place : ℕ) (r : OpScope) → IsCleared g origin base k place r → r.undoes ≡ 0 → own_needs r.op r.split + undo_pages r.op ≡ pages_of r
  given_back k place r y fore =
      let test : (r.undoes == 0) ≡ true = eq-eqb r.undoes 0 fore in
      let is : pages_of r ≡ own_needs r.op r.split + undo_pages r.op = rw test refl in
      sym is

  pub claimed_enough : (k : Core D) (place : ℕ) (r : OpScope) → IsCleared g origin base k place r → pages_of r ≤ claimed k.operations
  claimed_enough k place r y =
      let part = get_or-le-sum_by pages_of k.running.items place r y.alone.within in
      let mine : pages_of (get_or k.running.items place r) ≡ pages_of r = ap pages_of (sym y.alone.there) in
      let claims = y.claims in omega arith
