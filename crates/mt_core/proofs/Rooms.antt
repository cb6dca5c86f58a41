-- Lists that have got more room, and are as they were.
use Rattle.std.proofs.Common.{◌≡◌, ◌≤◌, ◌+◌, List, length, sym, ap, subst, arith}
use Rattle.std.specs.Prelude.{All, AllPairs, vec_len}
use Rattle.std.specs.List.{sum_by}
use Rattle.std.specs.Option.{option_map}
use Rattle.std.specs.Vec.{vec_capacity}
use Rattle.mt_disk.specs.declared.device.Device.{Ghosts}
use Rattle.mt_live.specs.Lives.{member_of}
use Rattle.mt_live.specs.Machine.{IsKept}
use Rattle.mt_live.specs.Members.{Member}
use Rattle.mt_log.specs.Words.{appended}
use Rattle.mt_model.specs.History.{after}
use Rattle.mt_model.specs.Model.{Base}
use Rattle.mt_op.specs.Operations.{world}
use Rattle.mt_slock.specs.Views.{held_of}
use Rattle.mt_core.specs.Runs.{running_in, AreApart, AreHeldBy, IsRunning, IsOwned, pages_of, kept_bytes, taken_bytes}
use Rattle.mt_op.specs.World.{left_of}
use Rattle.mt_core.specs.Consistent.{Origin, state_of, IsQueued, IsEscrowed, IsConsistent, IsIn}
use Rattle.mt_core.specs.declared.parts.Commit.{Commit}
use Rattle.mt_core.specs.declared.parts.Core.{Core}
use Rattle.mt_op.specs.declared.scope.OpScope.{OpScope}

module _ {D : Type 0} (g : Ghosts D) (origin : Origin) (base : Base) where
  pub rooms_in : (k n : Core D) → IsConsistent g origin base k → n.running.items ≡ k.running.items → n.commits.items ≡ k.commits.items → n.book.items ≡ k.book.items → vec_len n.book ≡ vec_len k.book → vec_capacity k.book ≤ vec_capacity n.book
      → IsIn g origin base (state_of k base) (record k { running = n.running; commits = n.commits; book = n.book })
  rooms_in k n safe running commits book len capacity =
      let fit = safe.fit in
      let z : Core D = record k { running = n.running; commits = n.commits; book = n.book } in
      let state : state_of k base ≡ state_of z base = λ i. record {
        book = sym book i;
        sessions = λ u. option_map (λ (m : Member). m.session) (member_of k.live.members u);
        next = k.live.begun + 1;
        standing = k.live.standing;
        running = running_in (sym running i);
        held = held_of k.locks;
        pending = k.escrow.pending;
        aside = k.escrow.aside;
        base = base;
      } in
      let log = fit.log in let reserves = fit.reserves in let room = fit.booked in let claims = safe.claims in
      let lefts = ap (sum_by left_of) running in let keeps = ap (sum_by kept_bytes) running in let takes = ap (sum_by taken_bytes) running in let pages = ap (sum_by pages_of) running in
      let count = ap (λ (cs : List Commit). length cs) commits in
      record {
        consistent = record {
          fit = record {
            schema = fit.schema;
            right = fit.right;
            kept = subst (IsKept origin.first) state fit.kept;
            owned = subst (All (IsOwned k.live.members k.live.standing)) (sym running) fit.owned;
            apart = subst (AllPairs AreApart) (sym running) fit.apart;
            numbered = fit.numbered;
            locked = subst (λ (rs : List OpScope). AreHeldBy rs k.operations.locks) (sym running) fit.locked;
            small = fit.small;
            log = omega arith;
            reserves = omega arith;
            numbers = fit.numbers;
            queued = subst (IsQueued k.live.members (appended k.operations.store.log)) (sym commits) fit.queued;
            booked = omega arith;
            escrowed = subst (λ (X : Type 0). X) (λ i. IsEscrowed origin.counters (after origin.first (sym book i)) k.escrow) fit.escrowed;
          };
          holds = safe.holds;
          runs = subst (All (IsRunning origin.relations origin.counters (world g origin.pages k.operations) k.last)) (sym running) safe.runs;
          outcome = safe.outcome;
          claims = omega arith;
        };
        state = state;
      }
