-- What is left where nothing but frames and what is forced has changed of the operations; and an inverse that begins.
use Rattle.std.proofs.Common.{◌≡◌, ◌≢◌, inl, ℕ, ◌≤◌, ◌<◌, ◌+◌, ◌==◌, cond, true, false, List, [], ◌∷◌, ◌++◌, get_or, Option, Some, None, refl, sym, ap, ◌∙◌, subst, arith}
use Rattle.std.specs.Prelude.{All, AllPairs}
use Rattle.std.specs.List.{sum_by}
use Rattle.std.specs.Option.{option_map}
use Rattle.std.proofs.lemmas.Bool.{ne_eqb, and_right}
use Rattle.std.proofs.lemmas.Option.{some_pair_parts}
use Rattle.mt_disk.specs.declared.device.Device.{Ghosts}
use Rattle.mt_model.specs.declared.operations.Reply.{Reply}
use Rattle.std.proofs.lemmas.List.Elements.{All-push}
use Rattle.std.proofs.lemmas.List.Quantifiers.{all_pairs_push}
use Rattle.mt_live.specs.Entries.{Entry}
use Rattle.mt_live.specs.Lives.{member_of, IsAbove}
use Rattle.mt_live.specs.Machine.{IsKept}
use Rattle.mt_live.specs.Members.{Member, last_operation}
use Rattle.mt_live.specs.Undoing.{last_effect}
use Rattle.mt_log.specs.Words.{appended, used, area_size}
use Rattle.mt_model.specs.declared.operations.Op.{Op}
use Rattle.mt_model.specs.Model.{Base, inverse_of}
use Rattle.mt_op.proofs.Staying.{rests_own, rests_held}
use Rattle.mt_op.specs.Moves.{Rests}
use Rattle.mt_op.specs.Operations.{world, IsRight, HasBudget, claimed}
use Rattle.mt_op.specs.World.{IsUnderWay}
use Rattle.mt_op.specs.declared.scope.Stage.TheVariants.{Planning}
use Rattle.mt_space.specs.Changes.{PageBytes}
use Rattle.mt_slock.specs.Views.{held_of}
use Rattle.mt_steps.specs.Held.{Holds}
use Rattle.mt_live.specs.declared.transactions.TxnState.{TxnState}
use Rattle.mt_live.specs.declared.transactions.TxnState.TheVariants.{Open, Committing, Returning, Aborting}
use Rattle.mt_core.specs.Runs.{running_in, is_for, state_in, AreApart, AreHeldBy, IsRunning, IsOwned, IsNotedAfter, is_at_work, pages_of, kept_bytes, taken_bytes, is_working, is_undoing}
use Rattle.mt_op.specs.World.{left_of}
use Rattle.mt_core.specs.Consistent.{Origin, state_of, IsNumbered, AreReported, IsQueued, IsConsistent, IsFit, IsIn}
use Rattle.mt_core.specs.declared.parts.Core.{Core}
use Rattle.mt_op.specs.declared.scope.OpScope.{OpScope}
use Rattle.mt_core.proofs.Calling.{numbered_last}
use Rattle.mt_core.proofs.Holders.{held_push, sums_push}
use Rattle.mt_core.proofs.Reported.{reported_last}

-- one that goes back is at work
pub backwards_open : (o : Option Member) → is_undoing (option_map (λ (m : Member). m.state) o) ≡ true → is_working o ≡ true
backwards_open None is = absurd cc
backwards_open (Some m) is = go m.state is
  where
    go : (s : TxnState) → is_undoing (Some s) ≡ true → is_at_work s ≡ true
    go Open h = absurd cc
    go Committing h = absurd cc
    go (Returning first) h = refl
    go Aborting h = refl

module _ {D : Type 0} (g : Ghosts D) (origin : Origin) (base : Base) where
  -- operations have changed, and nothing else of the parts
  pub fit_over : (k n : Core D) → IsFit g origin base k → IsRight g origin.pages origin.relations origin.counters n.operations → n.operations.locks ≡ k.operations.locks
      → IsNumbered k.last k.live.begun k.live.members n.operations.locks (appended n.operations.store.log) → IsQueued k.live.members (appended n.operations.store.log) k.commits.items
      → used n.operations.store.log + sum_by left_of k.running.items + k.reserved < area_size n.operations.store.log → IsFit g origin base (record k { operations = n.operations })
  fit_over k n fit right locks numbered queued log = record {
    schema = fit.schema;
    right = right;
    kept = fit.kept;
    owned = fit.owned;
    apart = fit.apart;
    numbered = numbered;
    locked = subst (AreHeldBy k.running.items) (sym locks) fit.locked;
    small = fit.small;
    log = log;
    reserves = fit.reserves;
    numbers = fit.numbers;
    queued = queued;
    booked = fit.booked;
    escrowed = fit.escrowed;
  }

  pub rests_in : (k n : Core D) → IsConsistent g origin base k → IsRight g origin.pages origin.relations origin.counters n.operations → Rests (world g origin.pages k.operations) (world g origin.pages n.operations)
      → claimed n.operations ≡ claimed k.operations → used n.operations.store.log ≤ used k.operations.store.log → area_size n.operations.store.log ≡ area_size k.operations.store.log → IsIn g origin base (state_of k base) (record k { operations = n.operations })
  rests_in k n safe right rests same less area =
      let fit = safe.fit in
      let claims = safe.claims in let log = fit.log in
      record {
        consistent = record {
          fit = fit_over k n fit right rests.locks
              (subst (λ (X : Type 0). X) (λ i. IsNumbered k.last k.live.begun k.live.members (sym rests.locks i) (sym rests.records i)) fit.numbered)
              (subst (λ (X : Type 0). X) (λ i. IsQueued k.live.members (sym rests.records i) k.commits.items) fit.queued)
              (omega arith);
          holds = subst (λ (p : PageBytes). Holds p base) (sym (rests_held (world g origin.pages k.operations) (world g origin.pages n.operations) rests)) safe.holds;
          runs = λ i d lt. let was = safe.runs i d lt in record { under = rests_own origin.relations origin.counters (world g origin.pages k.operations) (world g origin.pages n.operations) (get_or k.running.items i d) rests was.under; budget = was.budget; number = was.number; moving = was.moving };
          outcome = subst (λ (X : Type 0). X) (λ i. AreReported k.last k.live.members (sym rests.records i)) safe.outcome;
          claims = same ∙ claims;
        };
        state = refl;
      }

  running_also : (rs : List OpScope) (r : OpScope) (u : ℕ) → r.undoes ≢ 0 → running_in (rs ++ r ∷ []) u ≡ running_in rs u
  running_also [] r u back = let not : is_for u r ≡ false = and_right (r.txn == u) (r.undoes == 0) (ne_eqb r.undoes 0 back) in rw not refl
  running_also (x ∷ xs) r u back = ap (λ (o : Option Op). cond (is_for u x) (Some x.op) o) (running_also xs r u back)

  -- an inverse begins, of the last entry of its transaction that did something
  pub undoing_in : (k n : Core D) (t : ℕ) (e : Entry) (r : OpScope) → IsConsistent g origin base k → is_undoing (state_in k.live.members t) ≡ true → ((first : ℕ) → state_in k.live.members t ≡ Some (Returning first) → IsNotedAfter first (k.last + 1) (member_of k.live.members t)) → All (λ (q : OpScope). q.txn ≢ t) k.running.items
      → last_effect t k.live.standing ≡ Some e → inverse_of e.op e.reply ≡ Some r.op → n.running.items ≡ k.running.items ++ r ∷ [] → last_operation (member_of k.live.members t) ≡ Some r.undoes
      → IsUnderWay origin.relations origin.counters (world g origin.pages k.operations) r → HasBudget r → r.txn ≡ t → r.number ≡ k.last + 1 → r.undoes ≢ 0 → r.split ≡ false → r.stage ≡ Planning
      → r.left ≡ 106496 → n.reserved + 106496 ≡ k.reserved → IsIn g origin base (state_of k base) (record k { running = n.running; last = k.last + 1; reserved = n.reserved })
  undoing_in k n t e r safe backwards returns idle last inverse items named under budget txn number back unsplit planning left freed =
      let fit = safe.fit in
      let z : Core D = record k { running = n.running; last = k.last + 1; reserved = n.reserved } in
      let runs : (u : ℕ) → running_in k.running.items u ≡ running_in n.running.items u = λ u. sym (running_also k.running.items r u back) ∙ ap (λ (rs : List OpScope). running_in rs u) (sym items) in
      let state : state_of k base ≡ state_of z base = λ i. record {
        book = k.book.items;
        sessions = λ u. option_map (λ (m : Member). m.session) (member_of k.live.members u);
        next = k.live.begun + 1;
        standing = k.live.standing;
        running = λ u. runs u i;
        held = held_of k.locks;
        pending = k.escrow.pending;
        aside = k.escrow.aside;
        base = base;
      } in
      let still : All (IsRunning origin.relations origin.counters (world g origin.pages k.operations) (k.last + 1)) k.running.items =
      λ i d lt. let was = safe.runs i d lt in record { under = was.under; budget = was.budget; number = let low = was.number in omega arith; moving = was.moving } in
      let mine : IsRunning origin.relations origin.counters (world g origin.pages k.operations) (k.last + 1) r = record { under = under; budget = budget; number = omega arith; moving = inl planning } in
      let own : IsOwned k.live.members k.live.standing r = record {
        at_work = rw txn (backwards_open (member_of k.live.members t) backwards);
        room = λ fore. absurd (back fore);
        inverse = λ b2. record { named = ap (λ (u : ℕ). last_operation (member_of k.live.members u)) txn ∙ named; entry = e; last = rw txn last; inverse = inverse; unsplit = unsplit };
        newest = λ fore. absurd (back fore);
        few = λ fore. absurd (back fore);
        taken = λ is. absurd cc;
        forwards = λ fore. absurd (back fore);
        backwards = λ b2. rw txn backwards;
        returns = λ b2 first is. let noted = returns first (ap (state_in k.live.members) (sym txn) ∙ is) in record { room = rw txn noted.room; newest = subst (λ (X : Type 0). X) (λ i. IsAbove (sym number i) (member_of k.live.members (sym txn i))) noted.newest; after = rw txn noted.after };
      } in
      let sums = sums_push k.running.items n.running.items r items in
      let pages = sums.pages in let lefts = sums.left in let keeps = sums.kept in let takes = sums.taken in
      let test : (r.undoes == 0) ≡ false = ne_eqb r.undoes 0 back in
      let pages_r : pages_of r ≡ 0 = rw test refl in
      let kept_r : kept_bytes r ≡ 0 = rw test refl in
      let taken_r : taken_bytes r ≡ 106496 = rw test refl in
      let claims = safe.claims in let reserves = fit.reserves in let log = fit.log in
      record {
        consistent = record {
          fit = record {
            schema = fit.schema;
            right = fit.right;
            kept = subst (IsKept origin.first) state fit.kept;
            owned = subst (All (IsOwned k.live.members k.live.standing)) (sym items) (All-push (IsOwned k.live.members k.live.standing) k.running.items r fit.owned own);
            apart = subst (AllPairs AreApart) (sym items) (all_pairs_push AreApart k.running.items r fit.apart (λ i d lt. record {
              number = λ is. let low = (safe.runs i d lt).number in absurd (omega arith);
              txn = λ is. idle i d lt (sym is ∙ txn);
            }));
            numbered = numbered_last k.last (k.last + 1) k.live.begun k.live.members k.operations.locks (appended k.operations.store.log) (omega arith) (let left_now = fit.numbers in let begun = fit.numbered.few_transactions in omega (arith, left_now, begun, freed)) fit.numbered;
            locked = subst (λ (rs : List OpScope). AreHeldBy rs k.operations.locks) (sym items) (held_push k.running.items r k.operations.locks fit.locked);
            small = fit.small;
            log = omega arith;
            reserves = omega arith;
            numbers = let left_now = fit.numbers in omega (arith, left_now, freed);
            queued = fit.queued;
            booked = fit.booked;
            escrowed = fit.escrowed;
          };
          holds = safe.holds;
          runs = subst (All (IsRunning origin.relations origin.counters (world g origin.pages k.operations) (k.last + 1))) (sym items) (All-push (IsRunning origin.relations origin.counters (world g origin.pages k.operations) (k.last + 1)) k.running.items r still mine);
          outcome = reported_last k.last (k.last + 1) k.live.members (appended k.operations.store.log) (omega arith) safe.outcome;
          claims = omega arith;
        };
        state = state;
      }

pub last_entry : (o : Option Entry) (p : Op) (r : Reply) → ◌≡◌ {A = Option (Op × Reply)} (Some (p, r)) (option_map (λ (e : Entry). (e.op, e.reply)) o) → (e : Entry) × (o ≡ Some e) × (e.op ≡ p) × (e.reply ≡ r)
last_entry None p r is = absurd cc
last_entry (Some e) p r is = let parts = some_pair_parts p e.op r e.reply is in (e, refl, sym parts.0, sym parts.1)
