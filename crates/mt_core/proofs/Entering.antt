-- What a call has made ready before it takes anything.
use Rattle.std.proofs.Common.{◌≡◌, ◌≢◌, ◌<◌, ◌∙◌, ℕ, Option, length, refl, sym, ap, subst, arith}
use Rattle.std.specs.Prelude.{All}
use Rattle.mt_disk.specs.declared.device.Device.{Ghosts}
use Rattle.mt_live.specs.Lives.{calls_in, IsChanged}
use Rattle.mt_live.specs.Members.{Member, forward_count, with_room}
use Rattle.mt_model.specs.Model.{Base}
use Rattle.mt_model.specs.declared.operations.Op.{Op}
use Rattle.mt_core.specs.Consistent.{Origin, state_of, IsConsistent, MayBeCalled, MayRun, IsIn}
use Rattle.mt_core.specs.declared.parts.Core.{Core}
use Rattle.mt_op.specs.declared.scope.OpScope.{OpScope}
use Rattle.mt_core.proofs.Beginning.{roomed_in, roomed_open}
use Rattle.mt_core.specs.Runs.{is_returning}
use Rattle.mt_core.proofs.Members.{changed_keeps, states_kept}
use Rattle.mt_core.proofs.Rooms.{rooms_in}

module _ {D : Type 0} (g : Ghosts D) (origin : Origin) (base : Base) where
  pub prepared_in : (k n : Core D) (t : ℕ) → IsConsistent g origin base k → IsChanged k.live.members n.live.members t with_room → n.live.begun ≡ k.live.begun → n.live.standing ≡ k.live.standing → length n.live.members ≡ length k.live.members → n.running.items ≡ k.running.items
      → IsIn g origin base (state_of k base) (record k { live = n.live; running = n.running })
  prepared_in k n t safe changed begun standing count items =
      let a = roomed_in g origin base k (record k { live = n.live }) t safe changed begun standing count in
      let b = rooms_in g origin base (record k { live = n.live }) (record k { running = n.running }) a.consistent items refl refl refl (omega arith) in
      record { consistent = b.consistent; state = a.state ∙ b.state }

  pub prepared_may : (k n : Core D) (t : ℕ) (op : Op) → MayBeCalled origin k t op → IsChanged k.live.members n.live.members t with_room → n.running.items ≡ k.running.items → MayRun origin (record k { live = n.live; running = n.running }) t op
  prepared_may k n t op may changed items =
      let both = roomed_open k.live.members n.live.members t may.at_work changed in
      record { within = may.within; at_work = both.0; forwards = ap is_returning (states_kept with_room k.live.members n.live.members t (λ m. refl) changed t) ∙ may.forwards; room = both.1; idle = subst (All (λ (r : OpScope). r.txn ≢ t)) (sym items) may.idle; few = subst (λ (n : ℕ). n < 256) (sym (changed_keeps (λ (o : Option Member). forward_count (calls_in o)) with_room k.live.members n.live.members t (λ m. refl) changed t)) may.few }
