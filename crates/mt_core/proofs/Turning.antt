-- Core put together over another area of the log.
use Rattle.std.proofs.Common.{◌≡◌, ℕ, ◌+◌, ◌∷◌, ◌++◌, ◌==◌, cond, Bool, true, false, [], List, length, Option, None, Some, refl, sym, ap, ◌∙◌, subst, arith}
use Rattle.std.specs.Prelude.{All, is_some}
use Rattle.std.specs.List.{sum_by}
use Rattle.std.specs.Option.{option_map}
use Rattle.std.proofs.lemmas.Bool.{eq-eqb}
use Rattle.mt_disk.specs.declared.device.Device.{Ghosts}
use Rattle.mt_live.specs.Entries.{Entry, runs}
use Rattle.mt_live.specs.Lives.{member_of}
use Rattle.mt_live.specs.Adds.{adds, add_of}
use Rattle.mt_live.specs.Machine.{IsKept}
use Rattle.mt_live.specs.Members.{Member}
use Rattle.mt_live.specs.declared.transactions.TxnState.TheVariants.{Committing}
use Rattle.mt_live.specs.Sound.{Each}
use Rattle.mt_frame.specs.declared.records.Record.{Record}
use Rattle.mt_log.specs.Words.{appended}
use Rattle.mt_model.specs.History.{after}
use Rattle.mt_model.specs.Model.{Base}
use Rattle.mt_model.specs.Pending.{pending_of}
use Rattle.mt_model.specs.declared.pending_add.Pending.{Pending}
use Rattle.mt_plock.specs.declared.guards.PageLock.{PageLock}
use Rattle.mt_slock.specs.Views.{held_of}
use Rattle.mt_space.specs.Changes.{PageBytes}
use Rattle.mt_steps.specs.Held.{Holds}
use Rattle.mt_core.proofs.Imaged.{images_end_nothing, images_held}
use Rattle.mt_core.proofs.Restarts.{starts}
use Rattle.mt_core.specs.Runs.{running_in, IsOwned, pages_of, entry_pages, entry_bytes, kept_bytes, taken_bytes, is_working}
use Rattle.mt_op.specs.World.{left_of}
use Rattle.mt_core.specs.Consistent.{Origin, state_of, state_in, IsNumbered, IsQueued, IsEscrowed, IsFresh, IsIn, IsConsistent}
use Rattle.mt_core.specs.Restartable.{IsRestartable}
use Rattle.mt_core.specs.Turned.{TurnsOver, turned}
use Rattle.mt_core.specs.declared.parts.Commit.{Commit}
use Rattle.mt_core.specs.declared.parts.Core.{Core}
use Rattle.mt_op.specs.declared.scope.OpScope.{OpScope}

-- of which none is anybody's
no_pending : (ps : List Pending) → ((t : ℕ) → pending_of t ps ≡ []) → ps ≡ []
no_pending [] none = refl
no_pending (p ∷ ps) none = absurd (let mine : (p.txn == p.txn) ≡ true = eq-eqb p.txn p.txn refl in let is = none p.txn in absurd_first (p.txn == p.txn) mine is)
  where
    absurd_first : (c : Bool) → c ≡ true → cond c (p ∷ pending_of p.txn ps) (pending_of p.txn ps) ≡ [] → ⊥
    absurd_first true same is = absurd cc
    absurd_first false same is = absurd cc

module _ {D : Type 0} (g : Ghosts D) (origin : Origin) (base : Base) (k : Core D) (nobody : k.live.members ≡ []) (safe : IsConsistent g origin base k) where
  none_lives : (t : ℕ) → member_of k.live.members t ≡ None
  none_lives t = ap (λ (ms : List Member). member_of ms t) nobody

  -- nothing stands, nothing runs, nobody commits, and no add is pending
  pub none_stands : k.live.standing ≡ []
  none_stands = go k.live.standing safe.fit.kept.owned.standing
    where
      go : (es : List Entry) → Each (λ (e : Entry). is_some (option_map (λ (m : Member). m.session) (member_of k.live.members e.txn)) ≡ true) es → es ≡ []
      go [] each = refl
      go (e ∷ es) each = absurd (let none : is_some (option_map (λ (m : Member). m.session) (member_of k.live.members e.txn)) ≡ false = ap (λ (o : Option Member). is_some (option_map (λ (m : Member). m.session) o)) (none_lives e.txn) in let is = each.0 in cc)

  pub none_runs : k.running.items ≡ []
  none_runs = go k.running.items safe.fit.owned
    where
      go : (rs : List OpScope) → All (IsOwned k.live.members k.live.standing) rs → rs ≡ []
      go [] all = refl
      go (r ∷ rs) all = absurd (let at_work = (all 0 r (omega arith)).at_work in let none : is_working (member_of k.live.members r.txn) ≡ false = ap is_working (none_lives r.txn) in cc)

  pub none_commits : k.commits.items ≡ []
  none_commits = go k.commits.items safe.fit.queued.each
    where
      go : (cs : List Commit) → All (λ (c : Commit). state_in k.live.members c.txn ≡ Some Committing) cs → cs ≡ []
      go [] all = refl
      go (c ∷ cs) all = absurd (let commits = all 0 c (omega arith) in let none : state_in k.live.members c.txn ≡ None = ap (option_map (λ (m : Member). m.state)) (none_lives c.txn) in cc)

  none_pending : k.escrow.pending ≡ []
  none_pending = no_pending k.escrow.pending (λ t. safe.fit.kept.tied t
      ∙ ap (λ (es : List Entry). pending_of t (adds es) ++ add_of t (running_in k.running.items t)) none_stands
      ∙ ap (λ (rs : List OpScope). pending_of t (adds []) ++ add_of t (running_in rs t)) none_runs)

  none_aside : k.escrow.aside ≡ []
  none_aside = go k.escrow.aside safe.fit.kept.owned.aside
    where
      go : (ps : List Pending) → Each (λ (p : Pending). is_some (option_map (λ (m : Member). m.session) (member_of k.live.members p.txn)) ≡ true) ps → ps ≡ []
      go [] each = refl
      go (p ∷ ps) each = absurd (let none : is_some (option_map (λ (m : Member). m.session) (member_of k.live.members p.txn)) ≡ false = ap (λ (o : Option Member). is_some (option_map (λ (m : Member). m.session) o)) (none_lives p.txn) in let is = each.0 in cc)

  -- the pages hold what the book leaves
  pub booked_holds : base ≡ after origin.first k.book.items
  booked_holds = sym (ap (λ (es : List Entry). runs (after origin.first k.book.items) es) (sym none_stands) ∙ safe.fit.kept.base)

  reserves_nothing : k.reserved ≡ 0
  reserves_nothing =
      let is = safe.fit.reserves in
      let kept = ap (sum_by kept_bytes) none_runs in let taken = ap (sum_by taken_bytes) none_runs in
      let entries = ap (sum_by entry_bytes) none_stands in let members = ap (λ (ms : List Member). length ms) nobody in
      omega (arith, is, kept, taken, entries, members)

  module _ (pages : PageBytes) (n : Core D) (fresh : IsFresh n.operations n.escrow) (turns : TurnsOver g origin base k pages n.operations n.escrow) (live : n.live ≡ k.live) (locks : n.locks ≡ k.locks) (book : n.book ≡ k.book) (last : n.last ≡ k.last) (reserved : n.reserved ≡ k.reserved)
      (running : n.running.items ≡ []) (commits : n.commits.items ≡ []) where
    abbrev goes_on : Origin
    goes_on = turned origin base pages k

    abbrev is_k : Core D
    is_k = record k { operations = n.operations; escrow = n.escrow; running = n.running; commits = n.commits }

    as_k : n ≡ is_k
    as_k = λ i. record { operations = n.operations; live = live i; locks = locks i; escrow = n.escrow; running = n.running; commits = n.commits; book = book i; last = last i; reserved = reserved i }

    same_state : state_of k base ≡ state_of is_k base
    same_state = λ i. record {
      book = k.book.items;
      sessions = λ t. option_map (λ (m : Member). m.session) (member_of k.live.members t);
      next = k.live.begun + 1;
      standing = k.live.standing;
      running = running_in ((none_runs ∙ sym running) i);
      held = held_of k.locks;
      pending = (none_pending ∙ sym fresh.pending) i;
      aside = (none_aside ∙ sym fresh.aside) i;
      base = base;
    }

    abbrev records : List Record
    records = appended n.operations.store.log

    numbered : IsNumbered k.last k.live.begun k.live.members [] records
    numbered =
        let nothing = images_end_nothing records turns.right.kept.sound.each.0 fresh.images in let was = safe.fit.numbered in
        record {
          locks = λ i d lt. absurd (omega (arith, lt));
          ops = λ m above. nothing.ops m;
          txns = λ t is. nothing.txns t;
          coming = λ t above. nothing.txns t;
          few_operations = was.few_operations;
          few_transactions = was.few_transactions;
          nobody = was.nobody;
        }

    queued : IsQueued k.live.members records []
    queued = record {
      each = λ i d lt. absurd (omega (arith, lt));
      all = λ t is. absurd (let none : state_in k.live.members t ≡ None = ap (option_map (λ (m : Member). m.state)) (none_lives t) in cc);
      apart = λ i j d less lt. absurd (omega (arith, lt));
      rising = λ i j d less lt. absurd (omega (arith, lt));
      placed = λ i d lt. absurd (omega (arith, lt));
    }

    mine : IsIn g goes_on base (state_of k base) is_k
    mine =
        let was = safe.fit in
        let no_running = ap (λ (rs : List OpScope). length rs) running in let no_commits = ap (λ (cs : List Commit). length cs) commits in let no_standing = ap (λ (es : List Entry). length es) none_stands in
        let kept = ap (sum_by kept_bytes) running in let taken = ap (sum_by taken_bytes) running in let left = ap (sum_by left_of) running in let claimed_pages = ap (sum_by pages_of) running in
        let entries = ap (sum_by entry_bytes) none_stands in let entry_claims = ap (sum_by entry_pages) none_stands in let no_members = ap (λ (ms : List Member). length ms) nobody in
        let room = fresh.room in let nothing = reserves_nothing in let unclaimed = fresh.unclaimed in let booked = was.booked in
        record {
          consistent = record {
            fit = record {
              schema = record { few_relations = was.schema.few_relations; few_counters = was.schema.few_counters };
              right = turns.right;
              kept = subst (IsKept origin.first) same_state was.kept;
              owned = λ i d lt. absurd (omega (arith, lt, no_running));
              apart = λ i j d less lt. absurd (omega (arith, lt, no_running));
              numbered = subst (λ (ls : List PageLock). IsNumbered k.last k.live.begun k.live.members ls records) (sym fresh.locks) numbered;
              locked = λ i d lt. absurd (let none = ap (λ (ls : List PageLock). length ls) fresh.locks in omega (arith, lt, none));
              small = λ i d lt. absurd (omega (arith, lt, no_standing));
              log = omega arith;
              reserves = omega arith;
              numbers = was.numbers;
              queued = subst (IsQueued k.live.members records) (sym commits) queued;
              booked = omega arith;
              escrowed = subst (λ (b : Base). IsEscrowed origin.counters b n.escrow) booked_holds turns.escrowed;
            };
            holds = subst (λ (f : PageBytes). Holds f base) (sym (images_held pages records fresh.images)) turns.holds;
            runs = λ i d lt. absurd (omega (arith, lt, no_running));
            outcome = λ t m is. absurd (let none : member_of k.live.members t ≡ None = none_lives t in cc);
            claims = omega arith;
          };
          state = same_state;
        }

    -- the laws see nothing of it
    pub turns_in : IsIn g goes_on base (state_of k base) n
    turns_in = subst (IsIn g goes_on base (state_of k base)) (sym as_k) mine

    -- and a restart over the new area finds the base with which that began
    pub turns_restartable : IsRestartable goes_on n
    turns_restartable = subst (IsRestartable goes_on) (sym as_k) (starts g goes_on is_k mine.consistent turns.bounds booked_holds refl commits nobody none_stands fresh.images)
