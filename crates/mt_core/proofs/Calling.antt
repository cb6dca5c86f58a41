-- What a call that is granted leaves of all.
use Rattle.std.proofs.Common.{◌≡◌, inl, ⊎_elim, ℕ, ◌<◌, ◌≤◌, ◌+◌, ◌^◌, ◌==◌, Bool, true, false, List, [], ◌∷◌, ◌++◌, length, get_or, Option, Some, None, refl, sym, ap, ◌∙◌, subst, arith}
use Rattle.std.specs.Prelude.{All, AllPairs, is_some}
use Rattle.std.specs.List.{sum_by}
use Rattle.std.specs.Option.{option_map}
use Rattle.std.proofs.lemmas.Bool.{eq-eqb, cases_lt, cases_eq}
use Rattle.std.proofs.lemmas.List.Elements.{All-push, All-weaker}
use Rattle.std.proofs.lemmas.List.Quantifiers.{all_pairs_push}
use Rattle.mt_disk.specs.declared.device.Device.{Ghosts}
use Rattle.mt_escrow.specs.Seen.{Escrowed}
use Rattle.mt_frame.specs.Grammar.{IsTxn}
use Rattle.mt_live.proofs.Keeping.{kept_called}
use Rattle.mt_live.specs.Lives.{member_of, IsAbove}
use Rattle.mt_live.specs.Machine.{State, put, IsKept, called, MayCall}
use Rattle.mt_live.specs.Members.{Member}
use Rattle.mt_log.specs.Words.{appended, used, area_size}
use Rattle.mt_model.specs.declared.counters.Count.{Count}
use Rattle.mt_model.specs.declared.objects.Object.{Object}
use Rattle.mt_model.specs.declared.operations.Op.{Op}
use Rattle.mt_model.specs.declared.operations.Op.TheVariants.{Get, Insert, Update, Delete, Add, Read, Scan}
use Rattle.mt_model.specs.Tables.{count_at}
use Rattle.mt_model.specs.Model.{Base}
use Rattle.mt_op.proofs.Budget.{area_small}
use Rattle.mt_op.proofs.Driving.{world_same}
use Rattle.mt_op.specs.Operations.{world, IsRight, HasBudget, claimed}
use Rattle.mt_op.specs.World.{World, IsUnderWay, IsFresh, held_in}
use Rattle.mt_op.specs.declared.operations.Operations.{Operations}
use Rattle.mt_op.specs.declared.scope.OpScope.{OpScope}
use Rattle.mt_op.specs.declared.scope.Stage.TheVariants.{Planning}
use Rattle.mt_plock.specs.declared.guards.PageLock.{PageLock}
use Rattle.mt_frame.specs.declared.records.Record.{Record}
use Rattle.mt_space.specs.Changes.{PageBytes}
use Rattle.mt_slock.specs.declared.holders.Holder.{Holder}
use Rattle.mt_steps.specs.Held.{Holds}
use Rattle.mt_steps.specs.Plans.{own_needs, undo_pages}
use Rattle.mt_core.specs.Runs.{running_in, AreApart, AreHeldBy, IsRunning, IsOwned, undo_bytes, pages_of, kept_bytes, taken_bytes, is_working}
use Rattle.mt_op.specs.World.{left_of}
use Rattle.mt_core.specs.Consistent.{Origin, state_of, IsNumbered, AreReported, IsQueued, IsFit, IsConsistent, IsGranted, IsIn}
use Rattle.mt_core.specs.declared.parts.Core.{Core}
use Rattle.mt_core.proofs.Underway.{runs_none, running_push}
use Rattle.mt_core.proofs.Holders.{held_push, sums_push}
use Rattle.mt_core.proofs.Numbers.{fresh}
use Rattle.mt_core.proofs.Reported.{reported_last}

pub open_some : (o : Option Member) → is_working o ≡ true → is_some o ≡ true
open_some None is = absurd cc
open_some (Some m) is = refl

pub mapped_some : (o : Option Member) → is_some o ≡ true → is_some (option_map (λ (m : Member). m.session) o) ≡ true
mapped_some None is = absurd cc
mapped_some (Some m) is = refl

-- what begin_op, and the claim before it, say
pub record HasBegun {D : Type 0} (g : Ghosts D) (opening : PageBytes) (relations counters : ℕ) (o n : Operations D) (txn number : ℕ) (op : Op) (split : Bool) (s : OpScope) : Type 0 where
  pub right : IsRight g opening relations counters n
  pub store : n.store ≡ o.store
  pub locks : n.locks ≡ o.locks
  pub claims : claimed n ≡ claimed o + (own_needs op split + undo_pages op)
  pub under : IsUnderWay relations counters (world g opening n) s
  pub budget : HasBudget s
  pub is_txn : s.txn ≡ txn
  pub is_number : s.number ≡ number
  pub is_op : s.op ≡ op
  pub is_undoes : s.undoes ≡ 0
  pub is_split : s.split ≡ split
  pub planning : s.stage ≡ Planning

-- there are more numbers
pub numbered_last : (last more begun : ℕ) (ms : List Member) (locks : List PageLock) (records : List Record) → last ≤ more → more ≤ 2 ^ 41 → IsNumbered last begun ms locks records → IsNumbered more begun ms locks records
numbered_last last more begun ms locks records less few k = record {
  locks = All-weaker (λ (l : PageLock). l.op ≤ last) (λ (l : PageLock). l.op ≤ more) (λ l low. omega (arith, low, less)) locks k.locks;
  ops = λ n above. k.ops n (omega (arith, above, less));
  txns = k.txns;
  coming = k.coming;
  few_operations = few;
  few_transactions = k.few_transactions;
  nobody = k.nobody;
}

pub above_all : (n : ℕ) (o : Option Member) → ((m : Member) → o ≡ Some m → All (λ x. x < n) m.operations) → IsAbove n o
above_all n None each = tt
above_all n (Some m) each = each m refl

pub needs_few : (op : Op) (split : Bool) → own_needs op split + undo_pages op ≤ 5
needs_few (Get r k) split = omega arith
needs_few (Insert r k v) true = omega arith
needs_few (Insert r k v) false = omega arith
needs_few (Update r k v) split = omega arith
needs_few (Delete r k) split = omega arith
needs_few (Add c d) split = omega arith
needs_few (Read c) split = omega arith
needs_few (Scan r) split = omega arith

module _ {D : Type 0} (g : Ghosts D) (origin : Origin) (base : Base) where
  -- a transaction that is open has a number that was given
  pub txn_low : (k : Core D) (t : ℕ) → IsFit g origin base k → is_working (member_of k.live.members t) ≡ true → t ≤ k.live.begun
  txn_low k t fit at_work =
      let live = mapped_some (member_of k.live.members t) (open_some (member_of k.live.members t) at_work) in
      ⊎_elim (λ (less : t < k.live.begun + 1). omega arith) (λ (above : k.live.begun + 1 ≤ t). absurd (fit.kept.owned.fresh t above live)) (cases_lt t (k.live.begun + 1))

  pub txn_named : (k : Core D) (t : ℕ) → IsFit g origin base k → is_working (member_of k.live.members t) ≡ true → IsTxn t
  txn_named k t fit at_work =
      let there = open_some (member_of k.live.members t) at_work in
      let few = fit.numbered.few_transactions in
      let high = txn_low k t fit at_work in
      (low t there, omega arith)
    where
      low : (u : ℕ) → is_some (member_of k.live.members u) ≡ true → 1 ≤ u
      low u there = ⊎_elim (λ (zero_is : u ≡ 0). let none : is_some (member_of k.live.members u) ≡ false = ap (λ v. is_some (member_of k.live.members v)) zero_is ∙ fit.numbered.nobody in absurd cc) (λ (some : u ≡ 0 → ⊥). omega arith) (cases_eq u 0)

  -- the number that comes next is fresh
  pub next_fresh : (k : Core D) (t n : ℕ) → IsFit g origin base k → is_working (member_of k.live.members t) ≡ true → k.last < n → IsFresh (world g origin.pages k.operations) t n 0
  next_fresh k t n fit at_work above = fresh k.last k.live.begun k.live.members origin.relations origin.counters (world g origin.pages k.operations) t n fit.right.sound above at_work fit.numbered

  pub called_in : (was : List (Object × List Holder)) (escrow : Escrowed) (k n : Core D) (t : ℕ) (op : Op) (split : Bool) (r : OpScope) → IsGranted g origin base was escrow k t op → n.running.items ≡ k.running.items ++ r ∷ []
      → HasBegun g origin.pages origin.relations origin.counters k.operations n.operations t (k.last + 1) op split r → k.last < 2 ^ 40 → n.reserved ≡ k.reserved + undo_bytes op
      → used k.operations.store.log + sum_by left_of k.running.items + r.left + n.reserved < area_size k.operations.store.log
      → IsIn g origin base (called (state_of (record k { locks = was; escrow = escrow }) base) t op) (record k { operations = n.operations; running = n.running; last = k.last + 1; reserved = n.reserved })
  called_in was escrow k n t op split r granted items h few reserved log =
      let safe = granted.was in let fit = safe.fit in let may_run = granted.may in
      let z : Core D = record k { operations = n.operations; running = n.running; last = k.last + 1; reserved = n.reserved } in
      let s : State = state_of (record k { locks = was; escrow = escrow }) base in
      let none : running_in k.running.items t ≡ None = runs_none k.running.items t may_run.idle in
      let may : MayCall origin.first s t op = record { live = mapped_some (member_of k.live.members t) (open_some (member_of k.live.members t) may_run.at_work); idle = none; free = granted.free; admitted = granted.admitted } in
      let none_r : running_in k.running.items r.txn ≡ None = ap (running_in k.running.items) h.is_txn ∙ none in
      let runs : (u : ℕ) → put (running_in k.running.items) t (Some op) u ≡ running_in n.running.items u =
      λ u. (λ i. put (running_in k.running.items) (sym h.is_txn i) (Some (sym h.is_op i)) u) ∙ sym (running_push k.running.items r h.is_undoes none_r u) ∙ ap (λ (rs : List OpScope). running_in rs u) (sym items) in
      let state : called s t op ≡ state_of z base = λ i. record {
        book = k.book.items;
        sessions = λ u. option_map (λ (m : Member). m.session) (member_of k.live.members u);
        next = k.live.begun + 1;
        standing = k.live.standing;
        running = λ u. runs u i;
        held = sym granted.locked i;
        pending = sym granted.more i;
        aside = sym granted.aside i;
        base = base;
      } in
      let w_same : world g origin.pages k.operations ≡ world g origin.pages n.operations = world_same g k.operations n.operations origin.pages h.store h.locks in
      let still : All (IsRunning origin.relations origin.counters (world g origin.pages n.operations) (k.last + 1)) k.running.items =
      λ i d lt. let was = safe.runs i d lt in record { under = subst (λ (w : World). IsUnderWay origin.relations origin.counters w (get_or k.running.items i d)) w_same was.under; budget = was.budget; number = let low = was.number in omega arith; moving = was.moving } in
      let mine : IsRunning origin.relations origin.counters (world g origin.pages n.operations) (k.last + 1) r = record { under = h.under; budget = h.budget; number = let is = h.is_number in omega arith; moving = inl h.planning } in
      let own : IsOwned k.live.members k.live.standing r = record {
        at_work = rw h.is_txn may_run.at_work;
        room = λ fore. rw h.is_txn may_run.room;
        inverse = λ back. absurd (back h.is_undoes);
        few = λ fore. rw h.is_txn may_run.few;
        taken = λ is. absurd (let planning = h.planning in cc);
        forwards = λ fore. rw h.is_txn may_run.forwards;
        backwards = λ back. absurd (back h.is_undoes);
        returns = λ back. absurd (back h.is_undoes);
        newest = λ fore. above_all r.number (member_of k.live.members r.txn) (λ m is i d lt. let low = (safe.outcome r.txn m is).numbers i d lt in let new = h.is_number in omega (arith, low, new));
      } in
      let sums = sums_push k.running.items n.running.items r items in
      let pages = sums.pages in let lefts = sums.left in let keeps = sums.kept in let takes = sums.taken in
      let test : (r.undoes == 0) ≡ true = eq-eqb r.undoes 0 h.is_undoes in
      let pages_own : pages_of r ≡ own_needs r.op r.split + undo_pages r.op = rw test refl in
      let pages_r : pages_of r ≡ own_needs op split + undo_pages op = pages_own ∙ (λ i. own_needs (h.is_op i) (h.is_split i) + undo_pages (h.is_op i)) in
      let kept_own : kept_bytes r ≡ undo_bytes r.op = rw test refl in
      let kept_r : kept_bytes r ≡ undo_bytes op = kept_own ∙ ap undo_bytes h.is_op in
      let taken_r : taken_bytes r ≡ 0 = rw test refl in
      let claims = safe.claims in let claims_now = h.claims in let reserves = fit.reserves in
      let less : used k.operations.store.log + sum_by left_of n.running.items + n.reserved < area_size k.operations.store.log = omega arith in
      record {
        consistent = record {
          fit = record {
            schema = fit.schema;
            right = h.right;
            kept = subst (IsKept origin.first) state (kept_called origin.first s t op fit.kept may);
            owned = subst (All (IsOwned k.live.members k.live.standing)) (sym items) (All-push (IsOwned k.live.members k.live.standing) k.running.items r fit.owned own);
            apart = subst (AllPairs AreApart) (sym items) (all_pairs_push AreApart k.running.items r fit.apart (λ i d lt. record {
              number = λ is. let low = (safe.runs i d lt).number in let new = h.is_number in absurd (omega arith);
              txn = λ is. may_run.idle i d lt (sym is ∙ h.is_txn);
            }));
            numbered = subst (λ (X : Type 0). X) (λ i. IsNumbered (k.last + 1) k.live.begun k.live.members (sym h.locks i) (appended (sym h.store i).log)) (numbered_last k.last (k.last + 1) k.live.begun k.live.members k.operations.locks (appended k.operations.store.log) (omega arith) (omega (arith, few)) fit.numbered);
            locked = subst (λ (X : Type 0). X) (λ i. AreHeldBy (sym items i) (sym h.locks i)) (held_push k.running.items r k.operations.locks fit.locked);
            small = fit.small;
            log = subst (λ (X : Type 0). X) (λ i. used (sym h.store i).log + sum_by left_of n.running.items + n.reserved < area_size (sym h.store i).log) less;
            reserves = omega arith;
            numbers = let small = area_small k.operations.store.log in omega (arith, small, less, few);
            queued = subst (λ (X : Type 0). X) (λ i. IsQueued k.live.members (appended (sym h.store i).log) k.commits.items) fit.queued;
            booked = fit.booked;
            escrowed = record { all = ap length granted.committed ∙ fit.escrowed.all; counts = λ c lt. ap (λ (cs : List Count). count_at cs c) granted.committed ∙ fit.escrowed.counts c lt };
          };
          holds = subst (λ (w : World). Holds (held_in w) base) w_same safe.holds;
          runs = subst (All (IsRunning origin.relations origin.counters (world g origin.pages n.operations) (k.last + 1))) (sym items) (All-push (IsRunning origin.relations origin.counters (world g origin.pages n.operations) (k.last + 1)) k.running.items r still mine);
          outcome = reported_last k.last (k.last + 1) k.live.members (appended n.operations.store.log) (omega arith) (subst (λ (X : Type 0). X) (λ i. AreReported k.last k.live.members (appended (sym h.store i).log)) safe.outcome);
          claims = omega arith;
        };
        state = state;
      }

  -- nothing but room for claims has changed of the operations, and as much is claimed
  pub claims_consistent : (k n : Core D) → IsConsistent g origin base k → IsRight g origin.pages origin.relations origin.counters n.operations → n.operations.store ≡ k.operations.store → n.operations.locks ≡ k.operations.locks → claimed n.operations ≡ claimed k.operations
      → IsConsistent g origin base (record k { operations = n.operations })
  claims_consistent k n safe right store locks same =
      let fit = safe.fit in
      let w_same : world g origin.pages k.operations ≡ world g origin.pages n.operations = world_same g k.operations n.operations origin.pages store locks in
      let claims = safe.claims in
      record {
        fit = record {
          schema = fit.schema;
          right = right;
          kept = fit.kept;
          owned = fit.owned;
          apart = fit.apart;
          numbered = subst (λ (X : Type 0). X) (λ i. IsNumbered k.last k.live.begun k.live.members (sym locks i) (appended (sym store i).log)) fit.numbered;
          locked = subst (AreHeldBy k.running.items) (sym locks) fit.locked;
          small = fit.small;
          log = subst (λ (X : Type 0). X) (λ i. used (sym store i).log + sum_by left_of k.running.items + k.reserved < area_size (sym store i).log) fit.log;
          reserves = fit.reserves;
          numbers = fit.numbers;
          queued = subst (λ (X : Type 0). X) (λ i. IsQueued k.live.members (appended (sym store i).log) k.commits.items) fit.queued;
          booked = fit.booked;
          escrowed = fit.escrowed;
        };
        holds = subst (λ (w : World). Holds (held_in w) base) w_same safe.holds;
        runs = λ i d lt. let was = safe.runs i d lt in record { under = subst (λ (w : World). IsUnderWay origin.relations origin.counters w (get_or k.running.items i d)) w_same was.under; budget = was.budget; number = was.number; moving = was.moving };
        outcome = subst (λ (X : Type 0). X) (λ i. AreReported k.last k.live.members (appended (sym store i).log)) safe.outcome;
        claims = same ∙ claims;
      }

  pub claims_granted : (was : List (Object × List Holder)) (escrow : Escrowed) (k n : Core D) (t : ℕ) (op : Op) → IsGranted g origin base was escrow k t op → IsRight g origin.pages origin.relations origin.counters n.operations → n.operations.store ≡ k.operations.store → n.operations.locks ≡ k.operations.locks → claimed n.operations ≡ claimed k.operations
      → IsGranted g origin base was escrow (record k { operations = n.operations }) t op
  claims_granted was escrow k n t op granted right store locks same = record {
    was = claims_consistent (record k { locks = was; escrow = escrow }) n granted.was right store locks same;
    may = record { within = granted.may.within; at_work = granted.may.at_work; forwards = granted.may.forwards; room = granted.may.room; idle = granted.may.idle; few = granted.may.few };
    locked = granted.locked;
    free = granted.free;
    committed = granted.committed;
    more = granted.more;
    aside = granted.aside;
    admitted = granted.admitted;
  }
