-- Core that begin.
use Rattle.std.proofs.Common.{◌≡◌, ◌+◌, ◌∷◌, [], List, length, None, refl, sym, ap, subst, arith}
use Rattle.std.specs.Prelude.{vec_len}
use Rattle.std.specs.List.{sum_by}
use Rattle.std.specs.Option.{option_map}
use Rattle.mt_disk.specs.declared.device.Device.{Ghosts}
use Rattle.mt_live.proofs.Schedule.{start_kept}
use Rattle.mt_live.specs.Entries.{Entry}
use Rattle.mt_live.specs.Lives.{member_of}
use Rattle.mt_live.specs.Machine.{IsKept, start}
use Rattle.mt_live.specs.Members.{Member}
use Rattle.mt_log.specs.Words.{appended}
use Rattle.mt_model.specs.History.{after}
use Rattle.mt_model.specs.Locks.{no_locks}
use Rattle.mt_model.specs.Model.{IsBase}
use Rattle.mt_op.specs.Operations.{IsRight}
use Rattle.mt_plock.specs.declared.guards.PageLock.{PageLock}
use Rattle.mt_slock.specs.Views.{held_of}
use Rattle.mt_space.specs.Changes.{PageBytes}
use Rattle.mt_steps.specs.Held.{Holds}
use Rattle.mt_core.proofs.Imaged.{images_end_nothing, images_held}
use Rattle.mt_core.specs.Runs.{running_in, pages_of, entry_pages, entry_bytes, kept_bytes, taken_bytes}
use Rattle.mt_op.specs.World.{left_of}
use Rattle.mt_core.specs.Consistent.{Origin, IsSchema, state_of, IsNumbered, IsQueued, IsEscrowed, IsFresh, IsIn}
use Rattle.mt_core.specs.declared.parts.Commit.{Commit}
use Rattle.mt_core.specs.declared.parts.Core.{Core}
use Rattle.mt_op.specs.declared.scope.OpScope.{OpScope}

pub none_of_none : {X : Type 0} (xs : List X) → length xs ≡ 0 → xs ≡ []
none_of_none [] is = refl
none_of_none (x ∷ xs) is = absurd (omega (arith, is))

-- nothing has begun yet
pub record IsEmpty {D : Type 0} (k : Core D) : Type 0 where
  pub begun : k.live.begun ≡ 0
  pub members : k.live.members ≡ []
  pub standing : k.live.standing ≡ []
  pub held : held_of k.locks ≡ no_locks
  pub running : k.running.items ≡ []
  pub commits : k.commits.items ≡ []
  pub book : k.book.items ≡ []
  pub booked : vec_len k.book ≡ 0
  pub last : k.last ≡ 0
  pub reserved : k.reserved ≡ 0

module _ {D : Type 0} (g : Ghosts D) (origin : Origin) where
  pub starts_in : (k : Core D) → IsFresh k.operations k.escrow → IsEmpty k → IsSchema origin → IsBase origin.first → Holds origin.pages origin.first → IsRight g origin.pages origin.relations origin.counters k.operations
      → IsEscrowed origin.counters origin.first k.escrow → IsIn g origin origin.first (start origin.first) k
  starts_in k fresh empty schema bounds holds right escrowed =
      let state : start origin.first ≡ state_of k origin.first = λ i. record {
        book = sym empty.book i;
        sessions = λ t. option_map (λ (m : Member). m.session) (member_of (sym empty.members i) t);
        next = sym empty.begun i + 1;
        standing = sym empty.standing i;
        running = running_in (sym empty.running i);
        held = sym empty.held i;
        pending = sym fresh.pending i;
        aside = sym fresh.aside i;
        base = origin.first;
      } in
      let records = appended k.operations.store.log in
      let nothing = images_end_nothing records right.kept.sound.each.0 fresh.images in
      let numbered : IsNumbered 0 0 [] [] records = record {
        locks = λ i d lt. absurd (omega (arith, lt));
        ops = λ n above. nothing.ops n;
        txns = λ t is. nothing.txns t;
        coming = λ t above. nothing.txns t;
        few_operations = omega arith;
        few_transactions = omega arith;
        nobody = refl;
      } in
      let queued : IsQueued [] records [] = record {
        each = λ i d lt. absurd (omega (arith, lt));
        all = λ t is. absurd cc;
        apart = λ i j d less lt. absurd (omega (arith, lt));
        rising = λ i j d less lt. absurd (omega (arith, lt));
        placed = λ i d lt. absurd (omega (arith, lt));
      } in
      let no_running = ap (λ (rs : List OpScope). length rs) empty.running in
      let no_standing = ap (λ (es : List Entry). length es) empty.standing in
      let no_members = ap (λ (ms : List Member). length ms) empty.members in
      let no_commits = ap (λ (cs : List Commit). length cs) empty.commits in
      let kept = ap (sum_by kept_bytes) empty.running in let taken = ap (sum_by taken_bytes) empty.running in let left = ap (sum_by left_of) empty.running in let pages = ap (sum_by pages_of) empty.running in
      let entries = ap (sum_by entry_bytes) empty.standing in let entry_claims = ap (sum_by entry_pages) empty.standing in
      let room = fresh.room in let reserved = empty.reserved in let booked = empty.booked in let unclaimed = fresh.unclaimed in
      record {
        consistent = record {
          fit = record {
            schema = schema;
            right = right;
            kept = subst (IsKept origin.first) state (start_kept origin.first bounds);
            owned = λ i d lt. absurd (omega (arith, lt, no_running));
            apart = λ i j d less lt. absurd (omega (arith, lt, no_running));
            numbered = subst (λ (X : Type 0). X) (λ i. IsNumbered (sym empty.last i) (sym empty.begun i) (sym empty.members i) (sym fresh.locks i) records) numbered;
            locked = λ i d lt. absurd (let none = ap (λ (ls : List PageLock). length ls) fresh.locks in omega (arith, lt, none));
            small = λ i d lt. absurd (omega (arith, lt, no_standing));
            log = omega arith;
            reserves = omega arith;
            numbers = let last = empty.last in omega (arith, last, reserved);
            queued = subst (λ (X : Type 0). X) (λ i. IsQueued (sym empty.members i) records (sym empty.commits i)) queued;
            booked = omega arith;
            escrowed = subst (λ (X : Type 0). X) (λ i. IsEscrowed origin.counters (after origin.first (sym empty.book i)) k.escrow) escrowed;
          };
          holds = subst (λ (f : PageBytes). Holds f origin.first) (sym (images_held origin.pages records fresh.images)) holds;
          runs = λ i d lt. absurd (omega (arith, lt, no_running));
          outcome = λ t m is. absurd (let none : member_of k.live.members t ≡ None = ap (λ (ms : List Member). member_of ms t) empty.members in cc);
          claims = omega arith;
        };
        state = state;
      }
